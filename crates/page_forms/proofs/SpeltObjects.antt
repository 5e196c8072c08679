-- Objects that tokens spell: nodes, sheets and pages in their usual form.
use Rattle.node_tree.specs.Origins.{origin_name, all_origins}
use Rattle.std.proofs.Common.{◌≡◌, ℕ, ◌+◌, ◌<◌, ◌≤◌, List, [], ◌∷◌, ◌++◌, append_assoc, codes, Bool, true, false, ◌||◌, cond, Option, Some}
use Rattle.std.proofs.Common.{None, option_and_then, option_map, refl, sym, ap, ap₂, ◌∙◌, subst, arith}
use Rattle.json.specs.Token.{Token, begin_object, end_object, begin_array, key, string}
use Rattle.json.specs.Json as json
use Rattle.json.specs.Tree.{items_tokens}
use Rattle.serde_json.specs.Data as datum
use Rattle.serde_json.specs.Data.{Data, Items, put}
use Rattle.cdp_json.specs.Kinds.{text as text_kind, named}
use Rattle.cdp_json.specs.Rows.{ends, and_need, and_then, left_with}
use Rattle.node_tree.specs.Labels.{Pair, Label}
use Rattle.node_tree.specs.Nodes.{Nodes, none, Branch}
use Rattle.node_tree.specs.Keys.{first_of}
use Rattle.node_tree.specs.declared.Kind.{Kind}
use Rattle.node_tree.specs.declared.Kind.TheVariants.{Element}
use Rattle.page_tree.specs.Loads.{labelled, branch_of, node_spelled}
use Rattle.node_tree.specs.declared.origins.Origin.{Origin}
use Rattle.page_forms.specs.Mediums.{usual_medium}
use Rattle.page_forms.specs.declared.sheets.SheetForm.{SheetForm}
use Rattle.page_forms.specs.Sheets.{sheet_from}
use Rattle.page_forms.specs.Pages.{page_with, page_in}
use Rattle.page_forms.specs.Spelt.{ListForm, FieldForm, ReadsAs, SpellsItems, SpellsField, absent, there}
use Rattle.page_forms.specs.NodeForms.{text_field, text_data, element_tokens, attribute_field, node_form, nodes_form, child_field}
use Rattle.page_forms.specs.PageForms.{sheet_value, sheets_form, sheets_field_form, document_form, SpellsNodes, nested, in_rows, page_form}
use Rattle.page_forms.specs.RowForms.{flat_form}
use Rattle.page_forms.proofs.SpeltLists.{neither}

-- ---- tokens of lists in an object

-- the last list of an object
last_list : (xs new : List Token) → (xs ++ end_object ∷ []) ++ new ≡ xs ++ end_object ∷ new
last_list xs new = append_assoc xs (end_object ∷ []) new

-- the two lists of an object
two_lists : (xs ys new : List Token) (k : Token)
    → (xs ++ (k ∷ (begin_array ∷ (ys ++ end_object ∷ [])))) ++ new ≡ xs ++ (k ∷ (begin_array ∷ (ys ++ end_object ∷ new)))
two_lists xs ys new k = append_assoc xs (k ∷ (begin_array ∷ (ys ++ end_object ∷ []))) new ∙ ap (λ ts. xs ++ (k ∷ (begin_array ∷ ts)))
    (last_list ys new)

-- a list, under its name, at the end of an object
pub listed_last : (k : Token) (xs old from new : List Token) → old ≡ k ∷ (begin_array ∷ from) → from ≡ xs ++ end_object ∷ new
    → old ≡ k ∷ (begin_array ∷ ((xs ++ end_object ∷ []) ++ new))
listed_last k xs old from new e f = e ∙ ap (λ ts. k ∷ (begin_array ∷ ts)) (f ∙ sym (last_list xs new))

-- two lists, each under its name, at the end of an object
listed_twice : (k l : Token) (xs ys old from middle behind new : List Token) → old ≡ k ∷ (begin_array ∷ from) → from ≡ xs ++ middle
    → middle ≡ l ∷ (begin_array ∷ behind) → behind ≡ ys ++ end_object ∷ new
    → old ≡ k ∷ (begin_array ∷ ((xs ++ (l ∷ (begin_array ∷ (ys ++ end_object ∷ [])))) ++ new))
listed_twice k l xs ys old from middle behind new e f g h =
    e ∙ ap (λ ts. k ∷ (begin_array ∷ ts)) (f ∙ ap (λ ts. xs ++ ts) (g ∙ ap (λ ts. l ∷ (begin_array ∷ ts)) h) ∙ sym (two_lists xs ys new l))

-- ---- an element

-- the name of an element in JSON, and as data
abbrev named_json : List ℕ → json.Members → json.Json
named_json name rest = json.object (json.member (codes "e") (json.string name) rest)

abbrev named_last : List ℕ → datum.Members
named_last name = datum.member (codes "e") (datum.string name) datum.no_members

-- an element's form by its attributes and its children
abbrev element_of : Bool → List ℕ → Option (List Pair) → Option (Nodes Label) → Option (Branch Label)
element_of top name attributes children = branch_of
    (first_of (option_map (labelled Element name []) attributes) (cond top None None)) children

module _ (levels : ℕ) (top : Bool) (name : List ℕ) (old middle new : List Token) (ps : List Pair) (n : Nodes Label) where
  -- the node of that name, these attributes and these children
  abbrev Spelt : Type 0
  Spelt = ReadsAs (node_form (levels + 1) top) (element_tokens name old) (record { row = labelled Element name [] ps; children = n }) new

  bare : old ≡ middle → ps ≡ [] → middle ≡ end_object ∷ new → n ≡ none → Spelt
  bare e f g h = record {
    json = named_json name json.no_members;
    value = datum.object (named_last name);
    tokens = ap (element_tokens name) (e ∙ g);
    means = refl;
    shallow = omega arith;
    whole = refl;
    reads = ap₂ (λ qs m. element_of top name (Some qs) (Some m)) (sym f) (sym h);
  }

  with_attributes : (from : List Token) → old ≡ key (codes "a") ∷ (begin_array ∷ from) → SpellsItems attribute_field.list from ps middle
      → middle ≡ end_object ∷ new → n ≡ none → Spelt
  with_attributes from e s g h = record {
    json = named_json name (json.member (codes "a") (json.array s.json) json.no_members);
    value = datum.object (datum.member (codes "a") (datum.array s.items) (named_last name));
    tokens = ap (element_tokens name)
        (listed_last (key (codes "a")) (items_tokens s.json) old from new e (s.tokens ∙ ap (λ ts. items_tokens s.json ++ ts) g));
    means = ap (λ o. option_map datum.object
        (option_and_then (λ d. Some (put (codes "a") d (named_last name))) (option_map datum.array o))) s.means;
    shallow = omega (arith, s.shallow);
    whole = neither _ _ s.whole refl;
    reads = ap₂ (λ o m. element_of top name o (Some m)) s.reads (sym h);
  }

  with_children : (from : List Token) → old ≡ middle → ps ≡ [] → middle ≡ key (codes "c") ∷ (begin_array ∷ from)
      → SpellsItems (nodes_form levels false) from n (end_object ∷ new) → Spelt
  with_children from e f g s = record {
    json = named_json name (json.member (codes "c") (json.array s.json) json.no_members);
    value = datum.object (datum.member (codes "c") (datum.array s.items) (named_last name));
    tokens = ap (element_tokens name) (listed_last (key (codes "c")) (items_tokens s.json) old from new (e ∙ g) s.tokens);
    means = ap (λ o. option_map datum.object
        (option_and_then (λ d. Some (put (codes "c") d (named_last name))) (option_map datum.array o))) s.means;
    shallow = omega (arith, s.shallow);
    whole = neither _ _ s.whole refl;
    reads = ap₂ (λ qs m. element_of top name (Some qs) m) (sym f) s.reads;
  }

  with_both : (from behind : List Token) → old ≡ key (codes "a") ∷ (begin_array ∷ from) → SpellsItems attribute_field.list from ps middle
      → middle ≡ key (codes "c") ∷ (begin_array ∷ behind)
      → SpellsItems (nodes_form levels false) behind n (end_object ∷ new) → Spelt
  with_both from behind e s g t = record {
    json = named_json name (json.member (codes "a") (json.array s.json) (json.member (codes "c") (json.array t.json) json.no_members));
    value = datum.object (datum.member (codes "a") (datum.array s.items)
        (datum.member (codes "c") (datum.array t.items) (named_last name)));
    tokens = ap (element_tokens name)
        (listed_twice (key (codes "a")) (key (codes "c")) (items_tokens s.json)
        (items_tokens t.json) old from middle behind new e s.tokens g t.tokens);
    means =
        ap₂ (λ o p. option_map datum.object
        (option_and_then (λ a. option_and_then (λ c. Some (put (codes "c") c (put (codes "a") a (named_last name))))
        (option_map datum.array p)) (option_map datum.array o))) s.means
        t.means;
    shallow = omega (arith, s.shallow, t.shallow);
    whole = neither _ _ s.whole (neither _ _ t.whole refl);
    reads = ap₂ (element_of top name) s.reads t.reads;
  }

  pub element_spelt : SpellsField attribute_field old ps middle → SpellsField (child_field levels) middle n (end_object ∷ new) → Spelt
  element_spelt (absent e f) (absent g h) = bare e f g h
  element_spelt (absent e f) (there from g s) = with_children from e f g s
  element_spelt (there from e s) (absent g h) = with_attributes from e s g h
  element_spelt (there from e s) (there behind g t) = with_both from behind e s g t

-- the same of copies of the name and of the empty text
pub element_made : (levels : ℕ) (top : Bool) (name copied value : List ℕ) (old begun middle new : List Token) (ps : List Pair)
    (n : Nodes Label) → copied ≡ name → value ≡ [] → old ≡ begun
    → SpellsField attribute_field begun ps middle → SpellsField (child_field levels) middle n (end_object ∷ new)
    → ReadsAs (node_form (levels + 1) top) (element_tokens name old)
    (record { row = record { kind = Element; name = copied; value = value; attributes = ps }; children = n }) new
element_made levels top name copied value old begun middle new ps n e f g a c =
    subst (λ x. ReadsAs (node_form (levels + 1) top) (element_tokens name old)
    (record { row = record { kind = Element; name = x; value = value; attributes = ps }; children = n }) new) (sym e)
    (subst (λ x. ReadsAs (node_form (levels + 1) top) (element_tokens name old)
    (record { row = record { kind = Element; name = name; value = x; attributes = ps }; children = n }) new) (sym f)
    (element_spelt levels top name old middle new ps n (subst (λ ts. SpellsField attribute_field ts ps middle) (sym g) a) c))

-- a field that is there
pub field_there : {A : Type 0} (form : FieldForm A) (t : Token) (old from middle new : List Token) (x : A) → t ≡ key form.name
    → old ≡ begin_array ∷ from → SpellsItems form.list from x middle → middle ≡ new
    → SpellsField form (t ∷ old) x new
field_there form t old from middle new x is e s same = there from (ap₂ (λ k ts. k ∷ ts) is e)
    (subst (λ ts. SpellsItems form.list from x ts) same s)

-- ---- a node by its first tokens

opened : (name text : List ℕ) {old r1 r2 r3 : List Token} → old ≡ begin_object ∷ r1 → r1 ≡ key name ∷ r2 → r2 ≡ string text ∷ r3
    → old ≡ begin_object ∷ (key name ∷ (string text ∷ r3))
opened name text e0 e1 e2 = e0 ∙ ap (λ ts. begin_object ∷ ts) (e1 ∙ ap (λ ts. key name ∷ ts) e2)

pub leaf_spelt : (levels : ℕ) (top : Bool) (name text : List ℕ) (b : Branch Label) {old r1 r2 r3 new : List Token} → 0 < levels
    → old ≡ begin_object ∷ r1 → r1 ≡ key name ∷ r2 → r2 ≡ string text ∷ r3
    → r3 ≡ end_object ∷ new → node_spelled top (text_data name text) ≡ Some b → ReadsAs (node_form levels top) old b new
leaf_spelt levels top name text b some e0 e1 e2 e3 is = record {
  json = json.object (json.member name (json.string text) json.no_members);
  value = text_data name text;
  tokens = opened name text e0 e1 (e2 ∙ ap (λ ts. string text ∷ ts) e3);
  means = refl;
  shallow = omega (arith, some);
  whole = refl;
  reads = is;
}

-- an element's field
pub element_key : (name : List ℕ) (k : Kind) → text_field k ≡ Some name → k ≡ Element → name ≡ codes "e"
element_key name k e f = let same : Some (codes "e") ≡ Some name = sym (ap text_field f) ∙ e in cc

pub element_node : (levels below : ℕ) (top : Bool) (name text : List ℕ) (k : Kind) (b : Branch Label) {old r1 r2 r3 new : List Token}
    → below + 1 ≡ levels → old ≡ begin_object ∷ r1 → r1 ≡ key name ∷ r2
    → r2 ≡ string text ∷ r3 → text_field k ≡ Some name → k ≡ Element → ReadsAs (node_form (below + 1) top) (element_tokens text r3) b new
    → ReadsAs (node_form levels top) old b new
element_node levels below top name text k b {r3 = r3} {new = new} less e0 e1 e2 e f s =
    let begun = opened name text e0 e1 e2 ∙ ap (λ n. begin_object ∷ (key n ∷ (string text ∷ r3))) (element_key name k e f) in
    subst (λ ts. ReadsAs (node_form levels top) ts b new) (sym begun)
    (subst (λ l. ReadsAs (node_form l top) (element_tokens text r3) b new) less s)

-- ---- a sheet

-- the sheet of that origin and that text
abbrev pub sheet_of : Origin → List ℕ → SheetForm
sheet_of origin text = record { origin = origin; text = text }

pub sheet_spelt : (word text : List ℕ) (origin : Origin) {old r1 r2 r3 r4 r5 new : List Token} → old ≡ begin_object ∷ r1
    → r1 ≡ key (codes "origin") ∷ r2 → r2 ≡ string word ∷ r3 → r3 ≡ key (codes "text") ∷ r4
    → r4 ≡ string text ∷ r5 → r5 ≡ end_object ∷ new → named origin_name all_origins word ≡ Some origin
    → ReadsAs sheet_value old (sheet_of origin text) new
sheet_spelt word text origin e0 e1 e2 e3 e4 e5 is = record {
  json = json.object (json.member (codes "origin") (json.string word) (json.member (codes "text") (json.string text) json.no_members));
  value = datum.object (datum.member (codes "origin") (datum.string word)
      (datum.member (codes "text") (datum.string text) datum.no_members));
  tokens =
      opened (codes "origin") word e0 e1 e2
      ∙ ap (λ ts. begin_object ∷ (key (codes "origin") ∷ (string word ∷ ts)))
      (e3 ∙ ap (λ ts. key (codes "text") ∷ ts) (e4 ∙ ap (λ ts. string text ∷ ts) e5));
  means = refl;
  shallow = omega arith;
  whole = refl;
  reads =
      ap (λ o. option_and_then sheet_from
      (and_then (and_need (codes "text") text_kind ends).gets
      (option_map (left_with (datum.member (codes "text") (datum.string text) datum.no_members)) o))) is;
}

-- a field between other tokens that are the same
pub field_moved : {A : Type 0} (form : FieldForm A) (x : A) {old begun middle ended : List Token} → old ≡ begun → middle ≡ ended
    → SpellsField form begun x middle → SpellsField form old x ended
field_moved form x {old = old} {middle = middle} e f s =
    subst (λ ts. SpellsField form old x ts) f (subst (λ ts. SpellsField form ts x middle) (sym e) s)

-- ---- a page

-- the page of a list alone, and of a list with sheets beside it
abbrev page_alone : List ℕ → Items → Data
page_alone name ds = datum.object (datum.member name (datum.array ds) datum.no_members)

abbrev page_beside : List ℕ → Items → Items → Data
page_beside name ds es =
    datum.object (datum.member name (datum.array ds) (datum.member (codes "sheets") (datum.array es) datum.no_members))

-- A list of that name tells the nodes of a page, by itself or with sheets behind it.
record IsFirst (name : List ℕ) (form : ListForm (Nodes Label)) : Type 0 where
  low : form.levels ≤ 120
  by_itself : (ds : Items) → page_in (page_alone name ds) ≡ page_with (form.reads ds) (Some usual_medium) (Some [])
  with_more : (ds es : Items)
      → page_in (page_beside name ds es) ≡ page_with (form.reads ds) (Some usual_medium) (sheets_form.reads es)
  goes_behind : (d e : Data) → put (codes "sheets") e (put name d datum.no_members)
      ≡ datum.member name d (datum.member (codes "sheets") e datum.no_members)

document_first : IsFirst (codes "document") document_form
document_first = record {
  low = omega arith;
  by_itself = λ ds. refl;
  with_more = λ ds es. refl;
  goes_behind = λ d e. refl;
}

flat_first : IsFirst (codes "flat") flat_form
flat_first = record {
  low = omega arith;
  by_itself = λ ds. refl;
  with_more = λ ds es. refl;
  goes_behind = λ d e. refl;
}

module _ (name : List ℕ) (form : ListForm (Nodes Label)) (first : IsFirst name form) (old start middle new : List Token) (n : Nodes Label)
    (sheets : List SheetForm) where
  first_spelt : old ≡ begin_object ∷ (key name ∷ (begin_array ∷ start)) → SpellsItems form start n middle
      → SpellsField sheets_field_form middle sheets (end_object ∷ new)
      → ReadsAs page_form old (record { nodes = n; medium = usual_medium; sheets = sheets }) new
  first_spelt e s (absent f g) = record {
    json = json.object (json.member name (json.array s.json) json.no_members);
    value = page_alone name s.items;
    tokens =
        e ∙ ap (λ ts. begin_object ∷ (key name ∷ (begin_array ∷ ts)))
        (s.tokens ∙ ap (λ ts. items_tokens s.json ++ ts) f ∙ sym (last_list (items_tokens s.json) new));
    means = ap (λ o. option_map datum.object
        (option_and_then (λ d. Some (put name d datum.no_members)) (option_map datum.array o))) s.means;
    shallow = omega (arith, s.shallow, first.low);
    whole = neither _ _ s.whole refl;
    reads = first.by_itself s.items ∙ ap₂ (λ o ss. page_with o (Some usual_medium) (Some ss)) s.reads (sym g);
  }
  first_spelt e s (there from f t) = record {
    json = json.object (json.member name (json.array s.json) (json.member (codes "sheets") (json.array t.json) json.no_members));
    value = page_beside name s.items t.items;
    tokens =
        e
        ∙ ap (λ ts. begin_object ∷ ts)
        (listed_twice (key name) (key (codes "sheets")) (items_tokens s.json) (items_tokens t.json)
        (key name ∷ (begin_array ∷ start)) start middle from new refl s.tokens f t.tokens);
    means =
        ap₂ (λ o p. option_map datum.object
        (option_and_then (λ a. option_and_then (λ c. Some (put (codes "sheets") c (put name a datum.no_members)))
        (option_map datum.array p)) (option_map datum.array o)))
        s.means t.means
        ∙ ap (λ ms. Some (datum.object ms)) (first.goes_behind (datum.array s.items) (datum.array t.items));
    shallow = omega (arith, s.shallow, t.shallow, first.low);
    whole = neither _ _ s.whole (neither _ _ t.whole refl);
    reads = first.with_more s.items t.items ∙ ap₂ (λ o ss. page_with o (Some usual_medium) ss) s.reads t.reads;
  }

-- a page by its first field
pub page_spelt : (old start middle new : List Token) (n : Nodes Label) (sheets : List SheetForm) → old ≡ begin_object ∷ start
    → SpellsNodes start n middle → SpellsField sheets_field_form middle sheets (end_object ∷ new)
    → ReadsAs page_form old (record { nodes = n; medium = usual_medium; sheets = sheets }) new
page_spelt old start middle new n sheets e (nested from f s) t =
    first_spelt (codes "document") document_form document_first old from middle new n sheets (e ∙ ap (λ ts. begin_object ∷ ts) f) s t
page_spelt old start middle new n sheets e (in_rows from f s) t =
    first_spelt (codes "flat") flat_form flat_first old from middle new n sheets (e ∙ ap (λ ts. begin_object ∷ ts) f) s t
