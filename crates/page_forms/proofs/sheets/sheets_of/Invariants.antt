use Rattle.std.proofs.Common.{◌≡◌, drop}
use Rattle.serde_json.specs.View.{items_view}
use Rattle.cdp_json.specs.Kinds.{read_items}
use Rattle.cdp_json.specs.Lists.{with_list_front}
use Rattle.page_forms.specs.Sheets.{sheet_form}
use Rattle.page_forms.proofs.sheets.sheets_of.Given as goal

abbrev pub invariant-loop-value : goal.invariant-loop-value
invariant-loop-value l = with_list_front l.sheets.items (read_items sheet_form.reads (items_view (drop l.value-index l.values)))
    ≡ read_items sheet_form.reads (items_view l.values)
