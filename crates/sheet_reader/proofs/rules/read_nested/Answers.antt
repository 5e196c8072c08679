use Rattle.std.proofs.Common.{List, sym, ap, subst, ◌∙◌}
use Rattle.sheet_reader.specs.declared.ends.Closing.{Closing}
use Rattle.sheet_reader.specs.Ends.{AreTold}
use Rattle.sheet_reader.specs.Frames.{read_on, AreLeftOf}
use Rattle.sheet_reader.proofs.FrameForms.{read_ends}
use Rattle.sheet_reader.proofs.EndForms.{all_told}
use Rattle.sheet_reader.proofs.rules.read_nested.Goals as goal

pub push-requires : goal.push-requires
push-requires c = subst (λ (xs : List Closing). AreTold xs 0 c.args.left.now) (sym c.as_slice.ensures.value)
    (all_told _ _ c.in_ok-table.ensures)

pub read_part-requires-clause-each : goal.read_part-requires-clause-each
read_part-requires-clause-each c = subst (AreLeftOf c.args.text.now) c.in-Some.ensures.first c.frames.invariant.each

pub returns : goal.returns
returns c =
    sym (read_ends c.args.text.now c.frames.sheet) ∙ ap (read_on c.args.text.now c.frames.sheet) (sym c.in_default.ensures.first.0)
    ∙ c.frames.invariant.so_far
