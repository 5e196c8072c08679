use Rattle.std.proofs.Common.{sym, subst}
use Rattle.page_forms.specs.Spelt.{ReadsAs}
use Rattle.page_forms.specs.PageForms.{sheet_value}
use Rattle.page_forms.proofs.SpeltObjects.{sheet_of, sheet_spelt}
use Rattle.page_forms.proofs.page_scan.scan_sheet.Goals as goal

pub returns : goal.returns
returns c =
    subst (λ text. ReadsAs sheet_value c.args.reader.now (sheet_of c.in-Some.origin text) c.take_end_object.new.reader)
    (sym c.in_ok-copied.ensures)
    (sheet_spelt c.in_ok-word.word.now c.in_ok-text.text.now c.in-Some.origin c.in_ok-take_begin_object.ensures c.in_ok-take_key.ensures
    c.in_ok-word.ensures c.in_ok-take_key-2.ensures c.in_ok-text.ensures
    c.in_ok-take_end_object.ensures (sym c.in-Some.ensures))
