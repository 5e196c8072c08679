use Rattle.std.proofs.Common.{◌≡◌, ◌+◌, ℕ, List, All, length, take, drop, get_or, map, sym, ap, ◌∙◌, subst, arith}
use Rattle.std.proofs.lemmas.List.{length-take-le}
use Rattle.sheet_reader.specs.declared.sheet.StyleRule.{StyleRule}
use Rattle.sheet_reader.specs.Forms.{rule_seen, RuleForm}
use Rattle.selectors.specs.Moves.{cut}
use Rattle.sheet_reader.specs.Moves.{CanPlaceRule, CanPlaceHead}
use Rattle.sheet_reader.proofs.MoveAround.{seam_get, map_front, map_back, behind_set, found_holds, around}
use Rattle.sheet_reader.proofs.moves.move_around.Goals as goal

pub move_rules-requires : goal.move_rules-requires
move_rules-requires c = subst (All (CanPlaceRule (cut c.args.gap.start c.args.gap.end c.args.gap.size)))
    (sym (map_front rule_seen c.args.own c.args.rules.now)) c.requires.before

pub rebody-requires-clause-head : goal.rebody-requires-clause-head
rebody-requires-clause-head c =
    let h : length c.move_rules.new.rules ≡ length (take c.args.own c.args.rules.now) = c.move_rules.auto.rules in
    let size : length c.move_rules.new.rules ≡ c.args.own = omega
    (arith, h, c.requires.there, length-take-le c.args.own c.args.rules.now (omega (arith, c.requires.there))) in
    subst (λ (r : StyleRule). CanPlaceHead (cut c.args.gap.start c.args.gap.end c.args.gap.size) (rule_seen r))
    (sym (seam_get c.move_rules.new.rules c.args.rules.now c.args.own c.index-rules-own.result size))
    (found_holds rule_seen (CanPlaceHead (cut c.args.gap.start c.args.gap.end c.args.gap.size)) c.args.rules.now c.args.own
    c.index-rules-own.result c.requires.there c.requires.head)

pub move_rules-requires-2 : goal.move_rules-requires-2
move_rules-requires-2 c =
    let h : length c.move_rules.new.rules ≡ length (take c.args.own c.args.rules.now) = c.move_rules.auto.rules in
    let size : length c.move_rules.new.rules ≡ c.args.own = omega
    (arith, h, c.requires.there, length-take-le c.args.own c.args.rules.now (omega (arith, c.requires.there))) in
    subst (All (CanPlaceRule (cut c.args.gap.start c.args.gap.end c.args.gap.size)))
    (sym (ap (map rule_seen) (behind_set c.move_rules.new.rules c.args.rules.now c.args.own c.rebody.new.rule size c.requires.there)
    ∙ map_back rule_seen (c.args.own + 1) c.args.rules.now)) c.requires.behind

pub returns : goal.returns
returns c =
    let h : length c.move_rules.new.rules ≡ length (take c.args.own c.args.rules.now) = c.move_rules.auto.rules in
    let size : length c.move_rules.new.rules ≡ c.args.own = omega
    (arith, h, c.requires.there, length-take-le c.args.own c.args.rules.now (omega (arith, c.requires.there))) in
    around rule_seen (cut c.args.gap.start c.args.gap.end c.args.gap.size) c.args.properties c.args.rules.now c.move_rules.new.rules
    c.move_rules-2.new.rules c.args.own c.index-rules-own.result c.rebody.new.rule size c.requires.there
    c.move_rules.ensures c.rebody.ensures
    c.move_rules-2.ensures
