use Rattle.std.proofs.Common.{subst, sym, All, List}
use Rattle.sheet_reader.specs.declared.book.SheetEntry.{SheetEntry}
use Rattle.style_edits.specs.Drafts.{IsOld}
use Rattle.style_edits.proofs.BookForms.{olds_popped, olds_stay, one_restored}
use Rattle.style_edits.proofs.edits.restore.Goals as goal

pub loop-old-preserved : goal.loop-old-preserved
loop-old-preserved c =
    let rest = c.pop.new.self.items in
    let popped = olds_popped c.loop-old.olds.items rest c.in-Some.old c.loop-old.book c.in-Some.ensures.items c.loop-old.invariant.all in
    record {
      all = subst (λ (b : List SheetEntry). All (IsOld b) rest) (sym c.change.ensures.changed)
          (olds_stay c.in-Some.old c.loop-old.book rest popped.0);
      same = one_restored c.loop-old.olds.items rest c.in-Some.old c.loop-old.book c.change.new.self _ c.in-Some.ensures.items
          c.change.ensures.changed c.loop-old.invariant.same;
    }
