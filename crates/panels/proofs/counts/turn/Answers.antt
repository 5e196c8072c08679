-- The text tells that the numbers were those of the mirror before.
use Rattle.std.proofs.Common.{subst, sym, ◌∙◌}
use Rattle.front_mirror.specs.declared.panels.Change.{Change}
use Rattle.front_mirror.specs.declared.panels.PanelKind.TheVariants as kind
use Rattle.front_mirror.specs.Panels.{TreeTurns, MayShow, numbers_of}
use Rattle.panels.specs.Numbers.{numbers_in}
use Rattle.panels.proofs.CountLemmas.{opened_few, inserted_few, small_numbers, text-before, text-after, line_turned}
use Rattle.panels.proofs.NumberTexts.{text_tells}
use Rattle.panels.proofs.counts.turn.Goals as goal

pub returns-in-Opened : goal.returns-in-Opened
returns-in-Opened c = λ before shown t may told.
    let after = c.args.mirror.now in
    let turns = subst (λ (k : Change). TreeTurns before k after) c.in-Opened.is t.turns in
    let was = subst (λ (k : Change). MayShow k kind.Counts shown before) c.in-Opened.is may in
    let few = opened_few c.in-Opened.node before after t.was t.is turns c.few_known.ensures in
    let same = text_tells (numbers_in c.args.tally.now) (numbers_of before) c.numbers_fit.ensures (small_numbers before few)
    (sym told ∙ was ∙ text-before turns.at) in
    line_turned c.open.result (numbers_in c.open.new.self) after (text-after turns.at)
    (c.open.ensures before (record { was = t.was; is = t.is; turns = turns }) same)

pub returns-in-Inserted : goal.returns-in-Inserted
returns-in-Inserted c = λ before shown t may told.
    let after = c.args.mirror.now in
    let turns = subst (λ (k : Change). TreeTurns before k after) c.in-Inserted.is t.turns in
    let was = subst (λ (k : Change). MayShow k kind.Counts shown before) c.in-Inserted.is may in
    let few = inserted_few c.in-Inserted.node c.in-Inserted.parent before after t.is turns c.few_known.ensures in
    let same = text_tells (numbers_in c.args.tally.now) (numbers_of before) c.numbers_fit.ensures (small_numbers before few)
    (sym told ∙ was ∙ text-before turns.at) in
    line_turned c.insert.result (numbers_in c.insert.new.self) after (text-after turns.at)
    (c.insert.ensures c.in-Inserted.parent before (record { was = t.was; is = t.is; turns = turns }) same)
