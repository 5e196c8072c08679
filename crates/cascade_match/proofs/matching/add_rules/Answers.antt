-- The rule at a place.
use Rattle.std.proofs.Common.{◌≡◌, ℕ, ◌<◌, List, length, map, ap, sym, ◌∙◌, arith}
use Rattle.std.proofs.lemmas.List.{length-map}
use Rattle.std.specs.Option.{option_to_list}
use Rattle.page_tree.specs.Zippers.{Zipper}
use Rattle.sheet_reader.specs.declared.sheet.StyleRule.{StyleRule}
use Rattle.sheet_reader.specs.Forms.{RuleForm, rule_seen}
use Rattle.cascade_match.specs.Judged.{judged_seen}
use Rattle.cascade_match.specs.Matched.{keyed_rule, all_entered}
use Rattle.cascade_match.proofs.FilingLemmas.{untried-step}
use Rattle.cascade_match.proofs.MatchLemmas.{rules-at, rules-step}
use Rattle.cascade_match.proofs.matching.add_rules.Goals as goal

-- the place is one of the list that contracts see
within : (xs : List StyleRule) (rs : List RuleForm) (i : ℕ) → map rule_seen xs ≡ rs → i < length xs → i < length rs
within xs rs i seen inside =
    omega (arith, inside, length-map xs rule_seen, ap (λ (l : List RuleForm). length l) seen)

pub digest_at-requires : goal.digest_at-requires
digest_at-requires c =
    within c.as_slice-rules.result.now c.args.judged.sheet.now.reading.rules c.loop-i.i c.as_slice-rules.ensures c.loop-i-test.true

pub loop-i-preserved-then-not-may_match : goal.loop-i-preserved-then-not-may_match
loop-i-preserved-then-not-may_match c = record {
  rest = untried-step (judged_seen c.args.judged) c.args.judged.sheet.now.reading.rules c.args.subject.now c.loop-i.i c.digest_at.result
      c.args.judged.names.now c.loop-i.found.entries
      (within c.as_slice-rules.result.now c.args.judged.sheet.now.reading.rules c.loop-i.i c.as_slice-rules.ensures c.loop-i-test.true)
      c.digest_at.ensures c.requires (sym c.may_match.ensures ∙ c.if-not-may_match.true)
      ∙ c.loop-i.invariant.rest;
  same = c.loop-i.invariant.same;
}

pub loop-i-preserved : goal.loop-i-preserved
loop-i-preserved c =
    let rules = c.args.judged.sheet.now.reading.rules in
    let from = judged_seen c.args.judged in
    let r = rule_seen c.index-rules-i.result in
    let same = c.loop-i.invariant.same in
    let at = rules-at c.as_slice-rules.result.now rules c.loop-i.i c.index-rules-i.result c.as_slice-rules.ensures c.loop-i-test.true
    c.index-rules-i.is in
    let made = (c.in_ok-add_rule.ensures {u = tt}).entries ∙ ap
    (λ (z : Zipper). all_entered c.loop-i.found.entries (option_to_list (keyed_rule from c.loop-i.i r z))) same in
    record {
      rest = rules-step from rules c.args.subject.now c.loop-i.i r c.loop-i.found.entries c.add_rule.new.found.entries at made ∙
          c.loop-i.invariant.rest;
      same = c.add_rule.ensures.same ∙ same;
    }
