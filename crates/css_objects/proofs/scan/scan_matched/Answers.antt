use Rattle.std.proofs.Common.{refl}
use Rattle.cdp_json.proofs.Options.{both}
use Rattle.cdp_json.proofs.TakenTokens.{object_taken, key_taken, ahead_taken, none_taken}
use Rattle.css_objects.specs.Rules.{matched_row}
use Rattle.css_objects.proofs.scan.scan_matched.Goals as goal

pub returns-clause-read : goal.returns-clause-read
returns-clause-read c =
    object_taken
    (matched_row.writes (c.in_ok-inherited.inherited, (c.in_ok-inline.inline, (c.in_ok-rules.rules, tt))))
    c.in_ok-take_begin_object.ensures
    (key_taken c.in_ok-take_key.ensures c.in_ok-inherited.ensures.read
    (ahead_taken c.in_ok-inline.ensures.read c.in_ok-rules.ensures.read
    (none_taken c.in_ok-take_end_object.ensures)))

pub returns-clause-fits : goal.returns-clause-fits
returns-clause-fits c = both c.in_ok-inherited.ensures.fits (both c.in_ok-inline.ensures.fits (both c.in_ok-rules.ensures.fits refl))
