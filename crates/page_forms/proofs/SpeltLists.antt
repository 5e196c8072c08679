-- Lists that tokens spell, item by item.
use Rattle.std.proofs.Common.{◌≡◌, ℕ, ◌<◌, ◌≤◌, List, [], ◌∷◌, ◌++◌, length, length-append, append_assoc, append-nil, Bool, true, false}
use Rattle.std.proofs.Common.{◌||◌, Some, option_and_then, option_map, refl, sym, ap, ap₂, ◌∙◌, subst, arith}
use Rattle.json.specs.Token.{Token, begin_object, end_object, begin_array, end_array, key, string, number, boolean, null, bad}
use Rattle.json.specs.Json as json
use Rattle.json.specs.Json.{Json, after_end_array}
use Rattle.json.specs.Tree.{json_tokens, items_tokens}
use Rattle.serde_json.specs.Data as datum
use Rattle.serde_json.specs.Data.{Data, Items}
use Rattle.serde_json.specs.Read.{of_items}
use Rattle.node_tree.specs.Labels.{Pair, Label}
use Rattle.node_tree.specs.Nodes.{Nodes, none, node, Branch, nodes_of, beside}
use Rattle.node_tree.proofs.NodeLemmas.{nodes_of-append, beside-none, beside_assoc}
use Rattle.page_tree.specs.Loads.{in_order, form_before}
use Rattle.cdp_json.specs.Kinds.{and_first}
use Rattle.page_forms.specs.declared.sheets.SheetForm.{SheetForm}
use Rattle.page_forms.specs.Spelt.{ValueForm, ListForm, ReadsAs, SpellsItems}
use Rattle.page_forms.specs.NodeForms.{pairs_form, attributes_form, node_form, nodes_form}
use Rattle.page_forms.specs.PageForms.{sheet_value, sheets_form}

-- ---- any list

array_ended : (old new : List Token) → after_end_array old ≡ Some new → old ≡ end_array ∷ new
array_ended [] new e = absurd cc
array_ended (begin_object ∷ ts) new e = absurd cc
array_ended (end_object ∷ ts) new e = absurd cc
array_ended (begin_array ∷ ts) new e = absurd cc
array_ended (end_array ∷ ts) new e = cc
array_ended (key s ∷ ts) new e = absurd cc
array_ended (string s ∷ ts) new e = absurd cc
array_ended (number s ∷ ts) new e = absurd cc
array_ended (boolean b ∷ ts) new e = absurd cc
array_ended (null ∷ ts) new e = absurd cc
array_ended (bad ∷ ts) new e = absurd cc

-- no item, and the bracket
pub list_end : {A : Type 0} (form : ListForm A) (x : A) (old new : List Token) → after_end_array old ≡ Some new
    → form.reads datum.no_items ≡ Some x → SpellsItems form old x new
list_end form x old new e r = record {
  json = json.no_items;
  items = datum.no_items;
  tokens = array_ended old new e;
  means = refl;
  shallow = omega arith;
  whole = refl;
  reads = r;
}

-- neither holds
pub neither : (a b : Bool) → a ≡ false → b ≡ false → (a || b) ≡ false
neither true b e f = absurd cc
neither false b e f = f

-- an item, and the others behind it
pub list_turn : {A B : Type 0} (one : ValueForm A) (form : ListForm B) (old middle new : List Token) (x : A) (rest all : B)
    → one.levels ≤ form.levels
    → ((d : Data) (ds : Items) → one.reads d ≡ Some x → form.reads ds ≡ Some rest → form.reads (datum.item d ds) ≡ Some all)
    → ReadsAs one old x middle → SpellsItems form middle rest new → SpellsItems form old all new
list_turn one form old middle new x rest all low more s r = record {
  json = json.item s.json r.json;
  items = datum.item s.value r.items;
  tokens = s.tokens ∙ ap (λ ts. json_tokens s.json ++ ts) r.tokens ∙ sym (append_assoc (json_tokens s.json) (items_tokens r.json) new);
  means = ap (option_and_then (λ d. option_map (datum.item d) (of_items r.json))) s.means ∙ ap (option_map (datum.item s.value)) r.means;
  shallow = omega (arith, low, s.shallow, r.shallow);
  whole = neither _ _ s.whole r.whole;
  reads = more s.value r.items s.reads r.reads;
}

-- What is left of a list, read as `rest`, makes the whole of it read as `join rest`.
abbrev pub IsAhead : {A : Type 0} → ListForm A → List Token → (A → A) → List Token → Type 0
IsAhead {A} form start join left = (rest : A) (new : List Token) → SpellsItems form left rest new → SpellsItems form start (join rest) new

some_token : (j : Json) → 0 < length (json_tokens j)
some_token json.null = omega arith
some_token (json.boolean b) = omega arith
some_token (json.number s) = omega arith
some_token (json.string s) = omega arith
some_token (json.array js) = omega arith
some_token (json.object ms) = omega arith

-- a value takes tokens
pub value_shorter : {A : Type 0} (form : ValueForm A) (old new : List Token) (x : A) → ReadsAs form old x new → length new < length old
value_shorter form old new x s = omega (arith, ap length s.tokens, length-append (json_tokens s.json) new, some_token s.json)

-- ---- attributes

pair_turn : (old middle new next : List Token) (name value : List ℕ) (rest : List Pair) → old ≡ string name ∷ middle
    → middle ≡ string value ∷ next → SpellsItems pairs_form next rest new
    → SpellsItems pairs_form old ((name, value) ∷ rest) new
pair_turn old middle new next name value rest e f r = record {
  json = json.item (json.string name) (json.item (json.string value) r.json);
  items = datum.item (datum.string name) (datum.item (datum.string value) r.items);
  tokens = e ∙ ap (λ ts. string name ∷ ts) (f ∙ ap (λ ts. string value ∷ ts) r.tokens);
  means = ap (λ o. option_map (datum.item (datum.string name)) (option_map (datum.item (datum.string value)) o)) r.means;
  shallow = omega (arith, r.shallow);
  whole = r.whole;
  reads = ap (option_map (λ ps. (name, value) ∷ ps)) r.reads;
}

-- the pairs so far, before the others
abbrev pub PairsAhead : List Token → List Pair → List Token → Type 0
PairsAhead start done left = IsAhead pairs_form start (λ rest. done ++ rest) left

pub pairs_turn : (start left middle next : List Token) (done more : List Pair) (name value : List ℕ) → PairsAhead start done left
    → left ≡ string name ∷ middle → middle ≡ string value ∷ next
    → more ≡ done ++ (name, value) ∷ [] → PairsAhead start more next
pairs_turn start left middle next done more name value so e f m = λ rest new s.
    let joined : done ++ (name, value) ∷ rest
    ≡ more ++ rest = sym (append_assoc done ((name, value) ∷ []) rest) ∙ ap (λ ps. ps ++ rest) (sym m) in
    subst (λ ps. SpellsItems pairs_form start ps new) joined
    (so ((name, value) ∷ rest) new (pair_turn left middle new next name value rest e f s))

pub pairs_end : (start left new : List Token) (done : List Pair) → PairsAhead start done left → after_end_array left ≡ Some new
    → SpellsItems pairs_form start done new
pairs_end start left new done so e = subst (λ ps. SpellsItems pairs_form start ps new) (append-nil done)
    (so [] new (list_end pairs_form [] left new e refl))

pub pair_shorter : (left middle next : List Token) (name value : List ℕ) → left ≡ string name ∷ middle → middle ≡ string value ∷ next
    → length next < length left
pair_shorter left middle next name value e f = omega (arith, ap length e, ap length f)

-- ---- nodes

module _ (levels : ℕ) (top : Bool) where
  -- the nodes so far, before the others
  abbrev pub NodesAhead : List Token → List (Branch Label) → List Token → Type 0
  NodesAhead start done left = IsAhead (nodes_form levels top) start (λ rest. beside (nodes_of done) rest) left

  pub no_nodes : (start : List Token) (done : List (Branch Label)) → done ≡ [] → NodesAhead start done start
  no_nodes start done e = λ rest new s. subst (λ bs. SpellsItems (nodes_form levels top) start (beside (nodes_of bs) rest) new) (sym e) s

  node_turn : (old middle new : List Token) (b : Branch Label) (rest : Nodes Label) → ReadsAs (node_form levels top) old b middle
      → SpellsItems (nodes_form levels top) middle rest new
      → SpellsItems (nodes_form levels top) old (node b.row b.children rest) new
  node_turn old middle new b rest =
      list_turn (node_form levels top) (nodes_form levels top) old middle new b rest (node b.row b.children rest) (omega arith)
      (λ d ds e f. ap₂ form_before e f)

  pub nodes_turn : (start left next : List Token) (done more : List (Branch Label)) (b : Branch Label) → NodesAhead start done left
      → ReadsAs (node_form levels top) left b next → more ≡ done ++ b ∷ [] → NodesAhead start more next
  nodes_turn start left next done more b so s m = λ rest new r.
      let joined : beside (nodes_of done) (node b.row b.children rest) ≡ beside (nodes_of more) rest =
      sym (beside_assoc (nodes_of done) (nodes_of (b ∷ [])) rest) ∙ ap (λ n. beside n rest) (sym (nodes_of-append done (b ∷ []))) ∙ ap
      (λ bs. beside (nodes_of bs) rest) (sym m) in
      subst (λ n. SpellsItems (nodes_form levels top) start n new) joined
      (so (node b.row b.children rest) new (node_turn left next new b rest s r))

  pub nodes_end : (start left new : List Token) (done : List (Branch Label)) → NodesAhead start done left → after_end_array left ≡ Some new
      → SpellsItems (nodes_form levels top) start (nodes_of done) new
  nodes_end start left new done so e =
      subst (λ n. SpellsItems (nodes_form levels top) start n new) (beside-none (nodes_of done))
      (so none new (list_end (nodes_form levels top) none left new e refl))

-- ---- sheets

-- the sheets so far, before the others
abbrev pub SheetsAhead : List Token → List SheetForm → List Token → Type 0
SheetsAhead start done left = IsAhead sheets_form start (λ rest. done ++ rest) left

sheet_turn : (old middle new : List Token) (sheet : SheetForm) (rest : List SheetForm) → ReadsAs sheet_value old sheet middle
    → SpellsItems sheets_form middle rest new → SpellsItems sheets_form old (sheet ∷ rest) new
sheet_turn old middle new sheet rest = list_turn sheet_value sheets_form old middle new sheet rest (sheet ∷ rest) (omega arith)
    (λ d ds e f. ap₂ (λ o p. option_and_then (λ x. and_first x p) o) e f)

pub sheets_turn : (start left next : List Token) (done more : List SheetForm) (sheet : SheetForm) → SheetsAhead start done left
    → ReadsAs sheet_value left sheet next → more ≡ done ++ sheet ∷ [] → SheetsAhead start more next
sheets_turn start left next done more sheet so s m = λ rest new r.
    let joined : done ++ sheet ∷ rest ≡ more ++ rest = sym (append_assoc done (sheet ∷ []) rest) ∙ ap (λ ss. ss ++ rest) (sym m) in
    subst (λ ss. SpellsItems sheets_form start ss new) joined (so (sheet ∷ rest) new (sheet_turn left next new sheet rest s r))

pub sheets_end : (start left new : List Token) (done : List SheetForm) → SheetsAhead start done left → after_end_array left ≡ Some new
    → SpellsItems sheets_form start done new
sheets_end start left new done so e = subst (λ ss. SpellsItems sheets_form start ss new) (append-nil done)
    (so [] new (list_end sheets_form [] left new e refl))
