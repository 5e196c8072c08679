-- One sheet more has such a text, or all have.
use Rattle.std.proofs.Common.{IsUtf8, subst, arith}
use Rattle.std.proofs.lemmas.List.{take_all}
use Rattle.std.proofs.lemmas.List.Elements.{All-more}
use Rattle.page_forms.specs.declared.sheets.SheetForm.{SheetForm}
use Rattle.page_forms.specs.Texts.{SheetsHaveTexts}
use Rattle.page_forms.proofs.valid_texts.sheets_valid.Goals as goal

pub loop-sheet-preserved : goal.loop-sheet-preserved
loop-sheet-preserved c =
    All-more (λ (sheet : SheetForm). IsUtf8 sheet.text) c.args.sheets.now c.loop-sheet.sheet-index c.sheet-item.result
    (omega (arith, c.loop-sheet-test.true)) c.loop-sheet.invariant
    (subst (λ (sheet : SheetForm). IsUtf8 sheet.text) c.sheet-item.is c.text_valid.ensures)

pub returns : goal.returns
returns c = subst SheetsHaveTexts (take_all c.loop-sheet.sheet-index c.args.sheets.now (omega (arith, c.loop-sheet-test.false)))
    c.loop-sheet.invariant
