use Rattle.std.proofs.Common.{rules, ◌≡◌, ◌∷◌, codes, ap}
use Rattle.json.specs.Token.{end_object, key}
use Rattle.page_forms.specs.PageForms.{sheets_field_form}
use Rattle.page_forms.proofs.SpeltObjects.{field_there}
use Rattle.page_forms.proofs.page_scan.sheets_under.Goals as goal

pub returns : goal.returns
returns c =
    let is : c.args.name.now ≡ codes "sheets" = search rules in
    field_there sheets_field_form (key c.args.name.now) c.args.reader.now c.take_begin_array.new.reader c.scan_sheets.new.reader
    (end_object ∷ c.take_end_object.new.reader) c.in_ok-sheets.sheets.items (ap key is)
    c.in_ok-take_begin_array.ensures c.in_ok-sheets.ensures c.in_ok-take_end_object.ensures
