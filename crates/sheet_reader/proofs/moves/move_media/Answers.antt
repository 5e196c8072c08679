use Rattle.std.proofs.Common.{None, get_or, set, ap, ◌∙◌, arith}
use Rattle.std.proofs.lemmas.List.Edits.{map_over_more}
use Rattle.std.proofs.lemmas.List.{get_or_default}
use Rattle.css_tokens.specs.declared.token.Range.{Range}
use Rattle.selectors.specs.Moves.{cut, moved_place}
use Rattle.sheet_reader.specs.declared.sheet.MediaRule.{MediaRule}
use Rattle.sheet_reader.specs.Moves.{placed_media, CanPlaceMedia}
use Rattle.sheet_reader.proofs.MoveForms.{still_there, all_done}
use Rattle.sheet_reader.proofs.moves.move_media.Goals as goal

-- what stands for a rule that is not there
abbrev no_media : MediaRule
no_media = record { prelude = record { start = 0; end = 0 }; inside = None }

pub move_range-rule-requires : goal.move_range-rule-requires
move_range-rule-requires c = still_there (CanPlaceMedia (cut c.args.gap.start c.args.gap.end c.args.gap.size))
    (placed_media (moved_place (cut c.args.gap.start c.args.gap.end c.args.gap.size))) c.args.rules.now c.loop-rule.rules
    c.loop-rule.rule-index no_media c.loop-rule-test.true c.loop-rule.invariant c.requires

pub loop-rule-preserved : goal.loop-rule-preserved
loop-rule-preserved c =
    let ys = c.loop-rule.rules in
    let i = c.loop-rule.rule-index in
    let y = get_or ys i no_media in
    ap (λ (r : Range). set ys i (record { prelude = r; inside = y.inside })) c.move_range-rule.ensures.moved
    ∙ map_over_more (placed_media (moved_place (cut c.args.gap.start c.args.gap.end c.args.gap.size))) c.args.rules.now ys i y
    c.loop-rule-test.true c.loop-rule.invariant
    (get_or_default ys i no_media y (omega (arith, c.loop-rule-test.true, c.loop-rule.auto.rules)))

pub returns : goal.returns
returns c = all_done (placed_media (moved_place (cut c.args.gap.start c.args.gap.end c.args.gap.size))) c.args.rules.now
    c.loop-rule.rules c.loop-rule.rule-index c.loop-rule-test.false c.loop-rule.invariant
