use Rattle.std.proofs.Common.{refl}
use Rattle.cdp_json.proofs.Options.{both}
use Rattle.cdp_json.proofs.TakenTokens.{object_taken, field_taken, key_taken, none_taken}
use Rattle.css_objects.specs.Media.{media_row}
use Rattle.css_objects.proofs.scan.scan_media.Goals as goal

pub returns-clause-read : goal.returns-clause-read
returns-clause-read c =
    object_taken
    (media_row.writes (c.in_ok-range.range, (tt, (c.in_ok-sheet.sheet, (c.in_ok-text.text, tt)))))
    c.in_ok-take_begin_object.ensures
    (key_taken c.in_ok-take_key.ensures c.in_ok-range.ensures.read
    (field_taken c.in_ok-take_source.ensures
    (key_taken c.in_ok-take_key-2.ensures c.in_ok-sheet.ensures.read
    (field_taken c.in_ok-text.ensures
    (none_taken c.in_ok-take_end_object.ensures)))))

pub returns-clause-fits : goal.returns-clause-fits
returns-clause-fits c = both c.in_ok-range.ensures.fits (both c.in_ok-sheet.ensures.fits refl)
