-- What holds of each page that is read: its first fault beside that of its nodes, and its texts.
use Rattle.node_tree.specs.Origins.{origin_name, all_origins}
use Rattle.std.proofs.Common.{◌≡◌, ℕ, List, [], ◌∷◌, Bool, true, false, not, ◌&&◌, codes, Option, Some, None, option_map, IsUtf8, refl, ap}
use Rattle.std.proofs.Common.{subst, sym, ◌∙◌}
use Rattle.std.proofs.lemmas.List.Elements.{All-nil, All-cons}
use Rattle.serde_json.specs.Data.{Data, Items, no_items, item, Members}
use Rattle.serde_json.specs.Find.{as_array}
use Rattle.cdp_json.specs.Kinds.{read_items, and_first}
use Rattle.cdp_json.specs.Rows.{maybe_member}
use Rattle.cdp_json.specs.Lawful.{LawfulKind, LawfulRow}
use Rattle.cdp_json.specs.Plain.{HasUtf8, ItemsHaveUtf8, MembersHaveUtf8}
use Rattle.cdp_json.proofs.KindLaws.{text_lawful, anything_lawful, choice_lawful}
use Rattle.cdp_json.proofs.RowLaws.{ends_lawful, and_need_lawful, and_may_lawful}
use Rattle.cdp_json.proofs.ReadTexts.{IfSome, map_keeps, then_keeps}
use Rattle.cdp_json.proofs.Options.{and_then_some}
use Rattle.node_tree.specs.Nodes.{Nodes}
use Rattle.node_tree.specs.Labels.{Label}
use Rattle.page_tree.specs.Loads.{are_low, are_few, limit_faults}
use Rattle.node_tree.specs.Keys.{first_true}
use Rattle.page_tree.specs.Forms.{are_named, CanLoad}
use Rattle.page_tree.proofs.FormedLemmas.{can_load}
use Rattle.page_tree.proofs.FlatLoads.{can_load_flat}
use Rattle.page_tree.specs.declared.faults.LoadFault.{LoadFault}
use Rattle.page_tree.specs.declared.faults.LoadFault.TheVariants.{TooDeep, TooMany, BadName}
use Rattle.node_tree.specs.declared.origins.Origin.{Origin}
use Rattle.node_tree.specs.declared.origins.Origin.TheVariants.{UserAgent, Regular}
use Rattle.page_forms.specs.declared.sheets.SheetForm.{SheetForm}
use Rattle.page_forms.specs.Acts.{fields_in}
use Rattle.media_rules.specs.declared.medium.Medium.{Medium}
use Rattle.page_forms.specs.Mediums.{medium_at}
use Rattle.page_forms.specs.Sheets.{origin_form, sheet_row, sheet_from, sheet_form, can_hold_sheets}
use Rattle.page_forms.specs.Pages.{LoadedPage, page_row, nodes_at, sheets_at, page_with, page_in, first_page_fault, page_fault, CanLoadPage}
use Rattle.page_forms.specs.Texts.{HaveTexts, SheetsHaveTexts, PageHasTexts, PagesHaveTexts}
use Rattle.page_forms.proofs.FieldTexts.{fields_utf8, if_read}
use Rattle.page_forms.proofs.NodeTexts.{array_utf8, nodes_utf8}
use Rattle.page_forms.proofs.FlatTexts.{flat_utf8}

-- ---- a page without a fault

parts : (nodes : Option (Nodes Label)) (medium : Option Medium) (sheets : Option (List SheetForm)) (page : LoadedPage)
    → page_with nodes medium sheets ≡ Some page → (nodes ≡ Some page.nodes) × (sheets ≡ Some page.sheets)
parts None medium sheets page e = absurd cc
parts (Some n) None sheets page e = absurd cc
parts (Some n) (Some m) None page e = absurd cc
parts (Some n) (Some m) (Some ss) page e =
    let same : ◌≡◌ {A = LoadedPage} (record { nodes = n; medium = m; sheets = ss }) page = cc in
    (ap (λ (p : LoadedPage). Some p.nodes) same, ap (λ (p : LoadedPage). Some p.sheets) same)

-- the first fault by the tests of its limits
abbrev first_with : Bool → Bool → Bool → Option LoadFault
first_with low few named = first_true ((TooDeep, not low) ∷ (TooMany, not few) ∷ (BadName, not named) ∷ [])

clear : (low few named hold : Bool) → first_with low (few && hold) named ≡ None → (first_with low few named ≡ None) × (hold ≡ true)
clear false few named hold e = absurd cc
clear true false named hold e = absurd cc
clear true true named false e = absurd cc
clear true true named true e = (e, refl)

-- nodes in either form, without a fault, may be loaded
can_load_at : (document flat : Option Data) (n : Nodes Label) → nodes_at document flat ≡ Some n → first_true (limit_faults n) ≡ None
    → CanLoad n
can_load_at (Some list) None n e none = can_load list n e none
can_load_at None (Some rows) n e none = can_load_flat rows n e none
can_load_at None None n e none = absurd cc
can_load_at (Some list) (Some rows) n e none = absurd cc

-- a page may hold what it spells
pub can_load_page : (d : Data) (page : LoadedPage) → page_in d ≡ Some page → page_fault d ≡ None → CanLoadPage page
can_load_page d page is none =
    let p = and_then_some (λ f. page_with (nodes_at f.0 f.1.0) (medium_at f.1.1.0) (sheets_at f.1.1.1.0)) (fields_in page_row d) page is in
    let q = parts (nodes_at p.0.0 p.0.1.0) (medium_at p.0.1.1.0) (sheets_at p.0.1.1.1.0) page p.2 in
    let r = clear (are_low page.nodes) (are_few page.nodes) (are_named page.nodes) (can_hold_sheets page.sheets)
    (sym (ap first_page_fault is) ∙ none) in
    record { nodes = can_load_at p.0.0 p.0.1.0 page.nodes q.0 r.0; sheets = r.1 }

-- ---- texts

origin_again : (origin : Origin) → origin_form.reads (origin_form.spell origin) ≡ Some origin
origin_again UserAgent = refl
origin_again Regular = refl

pub origin_lawful : LawfulKind origin_form
origin_lawful = choice_lawful origin_name all_origins origin_again

sheet_lawful : LawfulRow sheet_row
sheet_lawful = and_need_lawful (codes "origin") origin_lawful (and_need_lawful (codes "text") text_lawful ends_lawful refl) refl

page_lawful : LawfulRow page_row
page_lawful = and_may_lawful (codes "document") anything_lawful (and_may_lawful (codes "flat") anything_lawful
    (and_may_lawful (codes "medium") anything_lawful (and_may_lawful (codes "sheets") anything_lawful ends_lawful refl) refl) refl) refl

abbrev SheetHasText : SheetForm → Type 0
SheetHasText sheet = IsUtf8 sheet.text

sheet_utf8 : (d : Data) → HasUtf8 d → IfSome SheetHasText (sheet_form.reads d)
sheet_utf8 d u = if_read sheet_row (fields_in sheet_row d) SheetHasText sheet_from
    (λ f is. let t = fields_utf8 sheet_row sheet_lawful d u f is in t.2.1)

sheets_utf8 : (ds : Items) → ItemsHaveUtf8 ds → IfSome SheetsHaveTexts (read_items sheet_form.reads ds)
sheets_utf8 no_items u = All-nil SheetHasText
sheets_utf8 (item d ds) u =
    then_keeps SheetHasText SheetsHaveTexts (λ sheet. and_first sheet (read_items sheet_form.reads ds))
    (λ sheet us. map_keeps SheetsHaveTexts SheetsHaveTexts (λ sheets. sheet ∷ sheets)
    (λ sheets ut. All-cons SheetHasText sheet sheets us ut) (read_items sheet_form.reads ds) (sheets_utf8 ds u.1))
    (sheet_form.reads d) (sheet_utf8 d u.0)

at_utf8 : (o : Option Data) → IfSome HasUtf8 o → IfSome SheetsHaveTexts (sheets_at o)
at_utf8 None u = All-nil SheetHasText
at_utf8 (Some d) u = then_keeps ItemsHaveUtf8 SheetsHaveTexts (read_items sheet_form.reads) sheets_utf8 (as_array d) (array_utf8 d u)

-- the value of a field that may be absent
member_utf8 : (name : List ℕ) (o : Option Data) (ms : Members) → MembersHaveUtf8 (maybe_member name (option_map (λ d. d) o) ms)
    → IfSome HasUtf8 o
member_utf8 name None ms u = tt
member_utf8 name (Some d) ms u = u.1

-- the fields behind it
behind_utf8 : (name : List ℕ) (o : Option Data) (ms : Members) → MembersHaveUtf8 (maybe_member name (option_map (λ d. d) o) ms)
    → MembersHaveUtf8 ms
behind_utf8 name None ms u = u
behind_utf8 name (Some d) ms u = u.2

nodes_at_utf8 : (document flat : Option Data) → IfSome HasUtf8 document → IfSome HasUtf8 flat → IfSome HaveTexts (nodes_at document flat)
nodes_at_utf8 (Some list) None u v = nodes_utf8 list u
nodes_at_utf8 None (Some rows) u v = flat_utf8 rows v
nodes_at_utf8 None None u v = tt
nodes_at_utf8 (Some list) (Some rows) u v = tt

with_utf8 : (nodes : Option (Nodes Label)) (medium : Option Medium) (sheets : Option (List SheetForm)) → IfSome HaveTexts nodes
    → IfSome SheetsHaveTexts sheets → IfSome PageHasTexts (page_with nodes medium sheets)
with_utf8 None medium sheets un us = tt
with_utf8 (Some n) None sheets un us = tt
with_utf8 (Some n) (Some m) None un us = tt
with_utf8 (Some n) (Some m) (Some ss) un us = record { nodes = un; sheets = us }

page_texts : (d : Data) → HasUtf8 d → IfSome PageHasTexts (page_in d)
page_texts d u =
    if_read page_row (fields_in page_row d) PageHasTexts (λ f. page_with (nodes_at f.0 f.1.0) (medium_at f.1.1.0) (sheets_at f.1.1.1.0))
    (λ f is. let t = fields_utf8 page_row page_lawful d u f is in
    let rest = behind_utf8 (codes "document") f.0 _ t in
    let last = behind_utf8 (codes "medium") f.1.1.0 _ (behind_utf8 (codes "flat") f.1.0 _ rest) in
    with_utf8 (nodes_at f.0 f.1.0) (medium_at f.1.1.0) (sheets_at f.1.1.1.0)
    (nodes_at_utf8 f.0 f.1.0 (member_utf8 (codes "document") f.0 _ t) (member_utf8 (codes "flat") f.1.0 _ rest))
    (at_utf8 f.1.1.1.0 (member_utf8 (codes "sheets") f.1.1.1.0 _ last)))

pub pages_have_texts : PagesHaveTexts
pages_have_texts d page u is = subst (IfSome PageHasTexts) is (page_texts d u)
