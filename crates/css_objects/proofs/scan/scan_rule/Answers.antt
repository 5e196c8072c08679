use Rattle.std.proofs.Common.{refl}
use Rattle.cdp_json.proofs.Options.{both}
use Rattle.cdp_json.proofs.TakenTokens.{object_taken, key_taken, ahead_taken, none_taken}
use Rattle.css_objects.specs.Media.{written_media}
use Rattle.css_objects.specs.Rules.{rule_row}
use Rattle.css_objects.proofs.scan.scan_rule.Goals as goal

pub returns-clause-read : goal.returns-clause-read
returns-clause-read c =
    object_taken
    (rule_row.writes (
      written_media c.in_ok-media.media,
      (
        c.in_ok-origin.origin,
        (c.in_ok-selectors.selectors, (c.in_ok-style.style, (c.in_ok-sheet.sheet, tt))),
      ),
    ))
    c.in_ok-take_begin_object.ensures
    (ahead_taken c.in_ok-media.ensures.read c.in_ok-origin.ensures.read
    (key_taken c.in_ok-take_key.ensures c.in_ok-selectors.ensures.read
    (key_taken c.in_ok-take_key-2.ensures c.in_ok-style.ensures.read
    (key_taken c.in_ok-take_key-3.ensures c.in_ok-sheet.ensures.read
    (none_taken c.in_ok-take_end_object.ensures)))))

pub returns-clause-fits : goal.returns-clause-fits
returns-clause-fits c =
    both c.in_ok-media.ensures.fits (both c.in_ok-origin.ensures.fits (both c.in_ok-selectors.ensures.fits
    (both c.in_ok-style.ensures.fits (both c.in_ok-sheet.ensures.fits refl))))
