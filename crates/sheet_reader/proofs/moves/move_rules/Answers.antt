use Rattle.std.proofs.Common.{◌≡◌, List, get_or, set, length, map, ap, ◌∙◌, refl, arith, sym}
use Rattle.std.proofs.lemmas.List.{length-map}
use Rattle.sheet_reader.specs.Forms.{rule_seen, RuleForm}
use Rattle.selectors.specs.Moves.{cut, moved_place}
use Rattle.sheet_reader.specs.Moves.{placed_rule, CanPlaceRule}
use Rattle.sheet_reader.proofs.MoveForms.{seen_still, seen_more, all_done}
use Rattle.sheet_reader.proofs.moves.move_rules.Goals as goal

pub move_rule-requires : goal.move_rule-requires
move_rule-requires c = seen_still rule_seen (CanPlaceRule (cut c.args.gap.start c.args.gap.end c.args.gap.size))
    (placed_rule (moved_place (cut c.args.gap.start c.args.gap.end c.args.gap.size))) c.args.rules.now c.loop-rule.rules
    c.loop-rule.rule-index
    c.rule-item.result c.loop-rule-test.true c.loop-rule.invariant c.requires c.loop-rule.auto.rules

pub loop-rule-preserved : goal.loop-rule-preserved
loop-rule-preserved c = seen_more rule_seen (placed_rule
    (moved_place (cut c.args.gap.start c.args.gap.end c.args.gap.size))) c.args.rules.now
    c.loop-rule.rules c.loop-rule.rule-index c.rule-item.result c.move_rule.new.rule c.loop-rule-test.true c.loop-rule.auto.rules
    c.loop-rule.invariant
    c.move_rule.ensures

pub returns : goal.returns
returns c = all_done (placed_rule (moved_place (cut c.args.gap.start c.args.gap.end c.args.gap.size))) (map rule_seen c.args.rules.now)
    (map rule_seen c.loop-rule.rules) c.loop-rule.rule-index (omega (arith, c.loop-rule-test.false, length-map c.args.rules.now rule_seen))
    c.loop-rule.invariant
