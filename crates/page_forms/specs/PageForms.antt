-- The usual form of a page: `{"document":[NODE,..],"sheets":[{"origin":ORIGIN,"text":TEXT},..]}`, or the same with `"flat":[ROW,..]` in
-- place of `document`, where `sheets` may be absent and no medium is told.
use Rattle.std.specs.Prelude.{◌≡◌, ◌+◌, List, [], ◌∷◌, true, codes}
use Rattle.json.specs.Token.{Token, begin_array, key}
use Rattle.cdp_json.specs.Kinds.{read_items}
use Rattle.node_tree.specs.Nodes.{Nodes}
use Rattle.node_tree.specs.Labels.{Label}
use Rattle.node_tree.specs.Levels.{most_told}
use Rattle.page_forms.specs.declared.sheets.SheetForm.{SheetForm}
use Rattle.page_forms.specs.Sheets.{sheet_form}
use Rattle.page_forms.specs.Pages.{LoadedPage, page_in}
use Rattle.page_forms.specs.Spelt.{ValueForm, ListForm, FieldForm, SpellsItems}
use Rattle.page_forms.specs.NodeForms.{nodes_form}
use Rattle.page_forms.specs.RowForms.{flat_form}

-- a sheet
abbrev pub sheet_value : ValueForm SheetForm
sheet_value = record { levels = 1; reads = sheet_form.reads }

-- sheets
abbrev pub sheets_form : ListForm (List SheetForm)
sheets_form = record { levels = 1; reads = read_items sheet_form.reads }

-- the sheets of a page
abbrev pub sheets_field_form : FieldForm (List SheetForm)
sheets_field_form = record { name = codes "sheets"; list = sheets_form; absent = [] }

-- the nodes of a page, nested in one another
abbrev pub document_form : ListForm (Nodes Label)
document_form = nodes_form most_told true

-- the tokens up to some place are those of the first field of a page: its nodes at `document`, or their rows at `flat`
pub data SpellsNodes (old : List Token) (n : Nodes Label) (new : List Token) : Type 0 where
  nested : (from : List Token) → old ≡ key (codes "document") ∷ (begin_array ∷ from) → SpellsItems document_form from n new
      → SpellsNodes old n new
  in_rows : (from : List Token) → old ≡ key (codes "flat") ∷ (begin_array ∷ from) → SpellsItems flat_form from n new
      → SpellsNodes old n new

-- a page, which nests two levels more than its levels of nodes, each of which nests two
abbrev pub page_form : ValueForm LoadedPage
page_form = record { levels = most_told + most_told + 2; reads = page_in }
