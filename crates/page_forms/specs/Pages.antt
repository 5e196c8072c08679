-- A page that is loaded, as JSON spells it: `{"document":[NODE,..],"medium":MEDIUM,"sheets":[SHEET,..]}`, or the same with `flat` in place
-- of `document`, a list of rows, with nothing else; `medium` and `sheets` may be absent.
use Rattle.std.specs.Prelude.{◌≡◌, List, [], ◌∷◌, codes, Bool, true, ◌&&◌, not, Option, None, Some, option_map, option_and_then, Result, Ok}
use Rattle.std.specs.Prelude.{Err, ⊤}
use Rattle.serde_json.specs.Data.{Data}
use Rattle.cdp_json.specs.Kinds.{anything}
use Rattle.cdp_json.specs.Rows.{Row, ends, and_may, object_of}
use Rattle.node_tree.specs.Nodes.{Nodes, nodes_of}
use Rattle.node_tree.specs.Labels.{Label}
use Rattle.page_tree.specs.Forms.{CanLoad, are_named}
use Rattle.page_tree.specs.Loads.{nodes_in, are_low, are_few}
use Rattle.page_tree.specs.FlatRows.{flat_in}
use Rattle.node_tree.specs.Keys.{first_true}
use Rattle.page_tree.specs.declared.faults.LoadFault.{LoadFault}
use Rattle.page_tree.specs.declared.faults.LoadFault.TheVariants.{BadForm, TooDeep, TooMany, BadName}
use Rattle.page_tree.specs.declared.faults.LoadErr.{LoadErr}
use Rattle.page_tree.specs.declared.faults.LoadErr.TheVariants.{Fault, Memory}
use Rattle.page_forms.specs.declared.sheets.SheetForm.{SheetForm}
use Rattle.page_forms.specs.declared.pages.PageForm.{PageForm}
use Rattle.media_rules.specs.declared.medium.Medium.{Medium}
use Rattle.page_forms.specs.Sheets.{sheet_list, can_hold_sheets}
use Rattle.page_forms.specs.Mediums.{medium_at}

-- a page that is loaded: the nodes below its document, the medium that it is shown on, and its sheets in their order
pub record LoadedPage : Type 0 where
  pub nodes : Nodes Label
  pub medium : Medium
  pub sheets : List SheetForm

-- ---- what a value spells

-- the properties of a page: its list of nodes or its rows, its medium, and its list of sheets
abbrev pub page_row : Row (Option Data × (Option Data × (Option Data × (Option Data × ⊤))))
page_row = and_may (codes "document") anything
    (and_may (codes "flat") anything (and_may (codes "medium") anything (and_may (codes "sheets") anything ends)))

-- the nodes at `document` or at `flat`; one of the two is there, and not both
abbrev pub nodes_at : Option Data → Option Data → Option (Nodes Label)
nodes_at (Some list) None = nodes_in list
nodes_at None (Some rows) = flat_in rows
nodes_at None None = None
nodes_at (Some list) (Some rows) = None

-- the sheets at `sheets`; none where it is absent
abbrev pub sheets_at : Option Data → Option (List SheetForm)
sheets_at None = Some []
sheets_at (Some list) = sheet_list.reads list

-- the page of these nodes, this medium and these sheets, where all are there
abbrev pub page_with : Option (Nodes Label) → Option Medium → Option (List SheetForm) → Option LoadedPage
page_with nodes medium sheets =
    option_and_then (λ nodes. option_and_then (λ medium. option_map (λ sheets.
    record { nodes = nodes; medium = medium; sheets = sheets }) sheets) medium) nodes

-- the page that a value spells; none where the value, a node, the medium or a sheet has not its form
abbrev pub page_in : Data → Option LoadedPage
page_in page = option_and_then (λ f. page_with (nodes_at f.0 f.1.0) (medium_at f.1.1.0) (sheets_at f.1.1.1.0))
    ((object_of page_row).reads page)

-- ---- faults

-- the faults that a page may have, each with whether it has it, in the order in which they count
abbrev pub page_faults : LoadedPage → List (LoadFault × Bool)
page_faults page =
    (TooDeep, not (are_low page.nodes))
    ∷ (TooMany, not (are_few page.nodes && can_hold_sheets page.sheets))
    ∷ (BadName, not (are_named page.nodes))
    ∷ []

-- the first fault of a load, by number
abbrev pub first_page_fault : Option LoadedPage → Option LoadFault
first_page_fault None = Some BadForm
first_page_fault (Some page) = first_true (page_faults page)

-- the first fault of a page that is to be loaded, by number
abbrev pub page_fault : Data → Option LoadFault
page_fault page = first_page_fault (page_in page)

-- a page may hold these nodes below its document, and these sheets
pub record CanLoadPage (page : LoadedPage) : Type 0 where
  pub nodes : CanLoad page.nodes
  pub sheets : can_hold_sheets page.sheets ≡ true

-- ---- what is read

-- the nodes that are loaded
abbrev pub loaded_nodes : PageForm → Nodes Label
loaded_nodes page = nodes_of page.nodes.items

-- the sheets that are loaded
abbrev pub loaded_sheets : PageForm → List SheetForm
loaded_sheets page = page.sheets.items

-- the page that is loaded
abbrev pub loaded_page : PageForm → LoadedPage
loaded_page page = record { nodes = loaded_nodes page; medium = page.medium; sheets = loaded_sheets page }

-- What a read of a page answers: what it spells where there is no fault, and else the first fault. Want of memory is free.
abbrev pub ReadsPage : Result PageForm LoadErr → Data → Type 0
ReadsPage (Ok page) d = (page_in d ≡ Some (loaded_page page)) × (page_fault d ≡ None)
ReadsPage (Err (Fault f)) d = page_fault d ≡ Some f
ReadsPage (Err Memory) d = ⊤
