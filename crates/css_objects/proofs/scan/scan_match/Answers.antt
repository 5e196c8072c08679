use Rattle.std.proofs.Common.{refl}
use Rattle.cdp_json.proofs.Options.{both}
use Rattle.cdp_json.proofs.TakenTokens.{object_taken, key_taken, none_taken}
use Rattle.css_objects.specs.Rules.{match_row}
use Rattle.css_objects.proofs.scan.scan_match.Goals as goal

pub returns-clause-read : goal.returns-clause-read
returns-clause-read c =
    object_taken
    (match_row.writes (c.in_ok-matching.matching, (c.in_ok-rule.rule, tt)))
    c.in_ok-take_begin_object.ensures
    (key_taken c.in_ok-take_key.ensures c.in_ok-matching.ensures.read
    (key_taken c.in_ok-take_key-2.ensures c.in_ok-rule.ensures.read
    (none_taken c.in_ok-take_end_object.ensures)))

pub returns-clause-fits : goal.returns-clause-fits
returns-clause-fits c = both c.in_ok-matching.ensures.fits (both c.in_ok-rule.ensures.fits refl)
