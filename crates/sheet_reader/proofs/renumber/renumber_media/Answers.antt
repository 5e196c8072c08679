use Rattle.std.proofs.Common.{None, get_or, set, ap, ◌∙◌, arith}
use Rattle.std.proofs.lemmas.List.Edits.{map_over_more}
use Rattle.std.proofs.lemmas.List.{get_or_default}
use Rattle.selectors.specs.Moves.{cut, moved_place}
use Rattle.sheet_reader.specs.declared.sheet.MediaRule.{MediaRule}
use Rattle.sheet_reader.specs.Repairs.{moved_number, renumbered_media, CanRenumberMedia}
use Rattle.sheet_reader.proofs.MoveForms.{still_there, all_done}
use Rattle.sheet_reader.proofs.renumber.renumber_media.Goals as goal

-- what stands for a rule that is not there
abbrev no_media : MediaRule
no_media = record { prelude = record { start = 0; end = 0 }; inside = None }

pub renumbered_media-requires : goal.renumbered_media-requires
renumbered_media-requires c =
    let shift = c.args.shift in
    still_there (CanRenumberMedia (cut shift.gap.start shift.gap.end shift.gap.size) shift.share shift.count)
    (renumbered_media (moved_place (cut shift.gap.start shift.gap.end shift.gap.size)) (moved_number shift.share shift.count))
    c.args.rules.now c.loop-rule.rules c.loop-rule.rule-index no_media c.loop-rule-test.true c.loop-rule.invariant c.requires

pub loop-rule-preserved : goal.loop-rule-preserved
loop-rule-preserved c =
    let shift = c.args.shift in
    let ys = c.loop-rule.rules in
    let i = c.loop-rule.rule-index in
    let y = get_or ys i no_media in
    ap (λ (m : MediaRule). set ys i m) c.renumbered_media.ensures
    ∙ map_over_more
    (renumbered_media (moved_place (cut shift.gap.start shift.gap.end shift.gap.size)) (moved_number shift.share shift.count))
    c.args.rules.now ys i y c.loop-rule-test.true c.loop-rule.invariant
    (get_or_default ys i no_media y (omega (arith, c.loop-rule-test.true, c.loop-rule.auto.rules)))

pub returns : goal.returns
returns c =
    let shift = c.args.shift in
    all_done (renumbered_media (moved_place (cut shift.gap.start shift.gap.end shift.gap.size)) (moved_number shift.share shift.count))
    c.args.rules.now c.loop-rule.rules c.loop-rule.rule-index c.loop-rule-test.false c.loop-rule.invariant
