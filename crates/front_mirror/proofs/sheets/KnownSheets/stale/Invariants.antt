use Rattle.std.proofs.Common.{◌≡◌, ◌++◌}
use Rattle.front_mirror.specs.Sheets.{stale_of}
use Rattle.front_mirror.proofs.sheets.KnownSheets.stale.Given as goal

abbrev pub invariant-loop-sheet : goal.invariant-loop-sheet
invariant-loop-sheet l = l.numbers.items ++ stale_of l.sheet-iterator ≡ stale_of l.initial.sheet-iterator
