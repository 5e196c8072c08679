-- Attributes as a list of texts.
use Rattle.std.proofs.Common.{◌≡◌, ℕ, ◌<◌, ◌==◌, false, arith, option_and_then, List, [], ◌∷◌, ◌++◌, length, map}
use Rattle.std.proofs.Common.{Option, Some, None, Vec, Global, refl, sym, ap, ap₂, ◌∙◌, append_assoc, append-nil}
use Rattle.std.proofs.lemmas.List.{map-append}
use Rattle.serde_json.proofs.Views.{view-Array}
use Rattle.serde_json.specs.Data.{string, array}
use Rattle.serde_json.specs.View.{view, items_of, items_view}
use Rattle.serde_json.specs.declared.value.Value.{Value, Array}
use Rattle.node_tree.specs.Labels.{Pair}
use Rattle.dom_objects.specs.NodeObject.{flat, paired, attribute_list}
use Rattle.cdp_json.specs.Kinds.{and_first}
use Rattle.serde_json.specs.Find.{as_str}

-- a turn of the writer's loop
pub attribute_written : (done named valued : List Value) (a b : Value) (p : Pair) (qs rest all : List Pair) → qs ≡ p ∷ rest
    → named ≡ done ++ a ∷ [] → valued ≡ named ++ b ∷ [] → view a ≡ string p.0 → view b ≡ string p.1
    → map view done ++ map string (flat qs) ≡ map string (flat all) → map view valued ++ map string (flat rest) ≡ map string (flat all)
attribute_written done named valued a b p qs rest all is n v va vb so =
    let wrote : map view valued ≡ map view done ++ (string p.0 ∷ string p.1 ∷ []) =
    ap (map view) (v ∙ ap (λ l. l ++ b ∷ []) n ∙ append_assoc done (a ∷ []) (b ∷ [])) ∙ map-append view done (a ∷ b ∷ [])
    ∙ ap (λ xs. map view done ++ xs) (ap₂ (λ x y. x ∷ y ∷ []) va vb)
    in
    ap (λ l. l ++ map string (flat rest)) wrote
    ∙ append_assoc (map view done) (string p.0 ∷ string p.1 ∷ []) (map string (flat rest))
    ∙ ap (λ (ps : List Pair). map view done ++ map string (flat ps)) (sym is) ∙ so

pub attributes_written : (list : Vec Value Global) (qs all : List Pair)
    → map view list.items ++ map string (flat qs) ≡ map string (flat all) → qs ≡ [] → view (Array list) ≡ attribute_list.spell all
attributes_written list qs all so none =
    view-Array list ∙ ap (λ ds. array (items_of ds)) (sym (append-nil (map view list.items))
    ∙ ap (λ (ps : List Pair). map view list.items ++ map string (flat ps)) (sym none) ∙ so)

-- ---- read

abbrev pub read_pairs : List Value → Option (List Pair)
read_pairs vs = attribute_list.reads (array (items_view vs))

abbrev pub read_on : List Pair → Option (List Pair) → Option (List Pair)
read_on ps None = None
read_on ps (Some qs) = Some (ps ++ qs)

one_text : (o : Option (List ℕ)) → option_and_then paired (option_and_then (λ s. and_first s (Some [])) o) ≡ None
one_text None = refl
one_text (Some s) = refl

-- a name without its value
pub odd : (vs : List Value) → length vs < 2 → (length vs == 0) ≡ false → read_pairs vs ≡ None
odd [] below some = absurd cc
odd (v ∷ []) below some = one_text (as_str (view v))
odd (v ∷ w ∷ vs) below some = absurd (omega arith)
