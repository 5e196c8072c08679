use Rattle.std.proofs.Common.{refl}
use Rattle.cdp_json.proofs.Options.{both}
use Rattle.cdp_json.proofs.TakenTokens.{object_taken, field_taken, none_taken}
use Rattle.css_objects.specs.Selectors.{weight_row}
use Rattle.css_objects.proofs.scan.scan_weight.Goals as goal

pub returns-clause-read : goal.returns-clause-read
returns-clause-read c =
    object_taken
    (weight_row.writes (c.in_ok-a.a, (c.in_ok-b.b, (c.in_ok-c.c, tt))))
    c.in_ok-take_begin_object.ensures
    (field_taken c.in_ok-a.ensures.read
    (field_taken c.in_ok-b.ensures.read
    (field_taken c.in_ok-c.ensures.read
    (none_taken c.in_ok-take_end_object.ensures))))

pub returns-clause-fits : goal.returns-clause-fits
returns-clause-fits c = both c.in_ok-a.ensures.fits (both c.in_ok-b.ensures.fits (both c.in_ok-c.ensures.fits refl))
