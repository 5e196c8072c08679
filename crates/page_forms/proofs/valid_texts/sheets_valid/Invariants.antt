-- The sheets so far have such texts.
use Rattle.std.proofs.Common.{take}
use Rattle.page_forms.specs.Texts.{SheetsHaveTexts}
use Rattle.page_forms.proofs.valid_texts.sheets_valid.Given as goal

abbrev pub invariant-loop-sheet : goal.invariant-loop-sheet
invariant-loop-sheet l = SheetsHaveTexts (take l.sheet-index l.sheets)
