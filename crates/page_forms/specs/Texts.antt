-- The texts of a page that is loaded, and of an act.
use Rattle.std.specs.Prelude.{◌≡◌, All, List, Some, IsUtf8, ⊤}
use Rattle.serde_json.specs.Data.{Data}
use Rattle.cdp_json.specs.Plain.{HasUtf8}
use Rattle.node_tree.specs.Nodes.{Nodes, none, node, Branch}
use Rattle.node_tree.specs.Labels.{Label}
use Rattle.node_tree.specs.Labels.{LabelHasUtf8}
use Rattle.page_forms.specs.declared.acts.Act.{Act}
use Rattle.page_forms.specs.declared.acts.Act.TheVariants.{SetAttr, DropAttr, SetText, Insert, Remove, Move, AddSheet, DropSheet}
use Rattle.page_forms.specs.declared.acts.Act.TheVariants.{ReplaceSheet, Medium as SetMedium}
use Rattle.page_forms.specs.Acts.{act_in}
use Rattle.page_forms.specs.Pages.{LoadedPage, page_in}
use Rattle.page_forms.specs.declared.sheets.SheetForm.{SheetForm}

-- the texts of these nodes are UTF-8
abbrev pub HaveTexts : Nodes Label → Type 0
HaveTexts none = ⊤
HaveTexts (node l c t) = LabelHasUtf8 l × HaveTexts c × HaveTexts t

-- the texts of a node and of those below it are UTF-8
abbrev pub FormHasTexts : Branch Label → Type 0
FormHasTexts form = LabelHasUtf8 form.row × HaveTexts form.children

-- the texts of these sheets are UTF-8
abbrev pub SheetsHaveTexts : List SheetForm → Type 0
SheetsHaveTexts sheets = All (λ sheet. IsUtf8 sheet.text) sheets

-- the texts of a page that is loaded are UTF-8
pub record PageHasTexts (page : LoadedPage) : Type 0 where
  pub nodes : HaveTexts page.nodes
  pub sheets : SheetsHaveTexts page.sheets

-- the texts of an act are UTF-8
abbrev pub ActHasTexts : Act → Type 0
ActHasTexts (SetAttr serial name value) = IsUtf8 name × IsUtf8 value
ActHasTexts (DropAttr serial name) = IsUtf8 name
ActHasTexts (SetText serial value) = IsUtf8 value
ActHasTexts (Insert parent before form) = FormHasTexts form
ActHasTexts (Remove serial) = ⊤
ActHasTexts (Move serial parent before) = ⊤
ActHasTexts (AddSheet origin text) = IsUtf8 text
ActHasTexts (DropSheet sheet) = IsUtf8 sheet
ActHasTexts (ReplaceSheet sheet text) = IsUtf8 sheet × IsUtf8 text
ActHasTexts (SetMedium medium) = ⊤

-- a page has the texts of its JSON
abbrev pub PagesHaveTexts : Type 0
PagesHaveTexts = (d : Data) (page : LoadedPage) → HasUtf8 d → page_in d ≡ Some page → PageHasTexts page

-- an act has the texts of its JSON
abbrev pub ActsHaveTexts : Type 0
ActsHaveTexts = (d : Data) (act : Act) → HasUtf8 d → act_in d ≡ Some act → ActHasTexts act
