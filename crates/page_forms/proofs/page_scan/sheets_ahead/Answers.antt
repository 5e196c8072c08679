use Rattle.std.proofs.Common.{rules, ◌≡◌, ◌∷◌, sym, subst}
use Rattle.json.specs.Token.{end_object, key}
use Rattle.page_forms.specs.Spelt.{SpellsField}
use Rattle.page_forms.specs.PageForms.{sheets_field_form}
use Rattle.page_forms.proofs.page_scan.sheets_ahead.Goals as goal

pub returns-in_ok-sheets-in-Some-Key : goal.returns-in_ok-sheets-in-Some-Key
returns-in_ok-sheets-in-Some-Key c =
    let begun : c.args.reader.now ≡ key c.in-Some-Key.name.now ∷ c.next.new.self = search rules in
    subst (λ ts. SpellsField sheets_field_form ts c.in_ok-sheets-in-Some-Key.sheets.items (end_object ∷ c.sheets_under.new.reader))
    (sym begun) c.in_ok-sheets-in-Some-Key.ensures
