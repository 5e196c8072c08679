use Rattle.std.proofs.Common.{◌≡◌, map, length, sym, subst, ◌∙◌, arith}
use Rattle.std.proofs.lemmas.List.{length-map}
use Rattle.sheet_reader.specs.Filings.{AreDigests}
use Rattle.sheet_reader.specs.Forms.{rule_seen}
use Rattle.sheet_reader.specs.Late.{late_rules}
use Rattle.selectors.specs.Moves.{cut}
use Rattle.sheet_reader.proofs.LateForms.{none_late, none_late_all}
use Rattle.sheet_reader.proofs.late.LateRules.new.Goals as goal

pub invariant_of-result : goal.invariant_of-result
invariant_of-result c =
    let rules = c.into_vec-rules.result.items in
    let size : c.len-moved.result ≡ length (map rule_seen rules) = omega (arith, c.len-moved.ensures, length-map rules rule_seen) in
    let seen : late_rules (cut 0 0 0) c.len-moved.result (map rule_seen rules) ≡ c.args.rules =
    none_late (cut 0 0 0) c.len-moved.result (map rule_seen rules) size ∙ c.into_vec-rules.ensures ∙ c.take_digests-digests.ensures.same in (
      omega (arith, size, length-map rules rule_seen),
      none_late_all (cut 0 0 0) c.len-moved.result (map rule_seen rules) size,
      subst (AreDigests c.take_digests-digests.result.items) (sym seen) c.take_digests-digests.ensures.digests,
    )

pub returns : goal.returns
returns c =
    let rules = c.into_vec-rules.result.items in
    let size : c.len-moved.result ≡ length (map rule_seen rules) = omega (arith, c.len-moved.ensures, length-map rules rule_seen) in
    none_late (cut 0 0 0) c.len-moved.result (map rule_seen rules) size ∙ c.into_vec-rules.ensures ∙ c.take_digests-digests.ensures.same
