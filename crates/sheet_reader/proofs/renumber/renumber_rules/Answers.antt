use Rattle.std.proofs.Common.{map, arith}
use Rattle.std.proofs.lemmas.List.{length-map}
use Rattle.sheet_reader.specs.Forms.{rule_seen}
use Rattle.selectors.specs.Moves.{cut, moved_place}
use Rattle.sheet_reader.specs.Repairs.{moved_number, renumbered_rule, CanRenumberRule}
use Rattle.sheet_reader.proofs.MoveForms.{seen_still, seen_more, all_done}
use Rattle.sheet_reader.proofs.renumber.renumber_rules.Goals as goal

pub renumber_rule-requires : goal.renumber_rule-requires
renumber_rule-requires c =
    let shift = c.args.shift in
    seen_still rule_seen (CanRenumberRule (cut shift.gap.start shift.gap.end shift.gap.size) shift.share shift.count)
    (renumbered_rule (moved_place (cut shift.gap.start shift.gap.end shift.gap.size)) (moved_number shift.share shift.count))
    c.args.rules.now c.loop-rule.rules c.loop-rule.rule-index c.rule-item.result c.loop-rule-test.true c.loop-rule.invariant c.requires
    c.loop-rule.auto.rules

pub loop-rule-preserved : goal.loop-rule-preserved
loop-rule-preserved c =
    let shift = c.args.shift in
    seen_more rule_seen
    (renumbered_rule (moved_place (cut shift.gap.start shift.gap.end shift.gap.size)) (moved_number shift.share shift.count))
    c.args.rules.now c.loop-rule.rules c.loop-rule.rule-index c.rule-item.result c.renumber_rule.new.rule c.loop-rule-test.true
    c.loop-rule.auto.rules c.loop-rule.invariant c.renumber_rule.ensures

pub returns : goal.returns
returns c =
    let shift = c.args.shift in
    all_done (renumbered_rule (moved_place (cut shift.gap.start shift.gap.end shift.gap.size)) (moved_number shift.share shift.count))
    (map rule_seen c.args.rules.now) (map rule_seen c.loop-rule.rules) c.loop-rule.rule-index
    (omega (arith, c.loop-rule-test.false, length-map c.args.rules.now rule_seen)) c.loop-rule.invariant
