use Rattle.std.proofs.Common.{refl}
use Rattle.cdp_json.proofs.Options.{both}
use Rattle.cdp_json.proofs.TakenTokens.{object_taken, ahead_taken, none_taken}
use Rattle.css_objects.specs.Rules.{inherited_row}
use Rattle.css_objects.proofs.scan.scan_inherited.Goals as goal

pub returns-clause-read : goal.returns-clause-read
returns-clause-read c =
    object_taken
    (inherited_row.writes (c.in_ok-inline.inline, (c.in_ok-rules.rules, tt)))
    c.in_ok-take_begin_object.ensures
    (ahead_taken c.in_ok-inline.ensures.read c.in_ok-rules.ensures.read
    (none_taken c.in_ok-take_end_object.ensures))

pub returns-clause-fits : goal.returns-clause-fits
returns-clause-fits c = both c.in_ok-inline.ensures.fits (both c.in_ok-rules.ensures.fits refl)
