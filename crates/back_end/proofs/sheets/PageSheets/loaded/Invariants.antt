-- The sheets so far and those that are left make up the whole.
use Rattle.back_end.proofs.SheetLemmas.{LoadedSoFar}
use Rattle.back_end.proofs.sheets.PageSheets.loaded.Given as goal

abbrev pub invariant-loop-i : goal.invariant-loop-i
invariant-loop-i l = LoadedSoFar l.next l.fn.medium l.forms l.i l.sheets
