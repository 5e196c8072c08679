use Rattle.std.proofs.Common.{refl}
use Rattle.cdp_json.proofs.Options.{both}
use Rattle.cdp_json.proofs.TakenTokens.{object_taken, field_taken, ahead_taken, none_taken}
use Rattle.css_objects.specs.Styles.{property_row}
use Rattle.css_objects.proofs.scan.scan_property.Goals as goal

pub returns-clause-read : goal.returns-clause-read
returns-clause-read c =
    object_taken
    (property_row.writes (
      c.in_ok-important.important,
      (
        c.in_ok-name.name,
        (c.in_ok-range.range, (c.in_ok-text.text, (c.in_ok-value.value, tt))),
      ),
    ))
    c.in_ok-take_begin_object.ensures
    (ahead_taken c.in_ok-important.ensures c.in_ok-name.ensures
    (field_taken c.in_ok-range.ensures.read
    (field_taken c.in_ok-text.ensures
    (field_taken c.in_ok-value.ensures
    (none_taken c.in_ok-take_end_object.ensures)))))

pub returns-clause-fits : goal.returns-clause-fits
returns-clause-fits c = both c.in_ok-range.ensures.fits refl
