-- A list that is read item by item.
use Rattle.std.proofs.Common.{◌≡◌, ℕ, ◌+◌, ◌<◌, ◌≤◌, add-one, arith, false, List, [], ◌∷◌, ◌++◌, length, get_or, drop, Option, Some, None}
use Rattle.std.proofs.Common.{option_and_then, refl, sym, ap, ap₂, ◌∙◌, append_assoc}
use Rattle.std.proofs.Math.Seq.{drop-cons}
use Rattle.serde_json.specs.Data.{Data}
use Rattle.serde_json.specs.View.{view, items_view}
use Rattle.serde_json.specs.declared.value.Value.{Value}
use Rattle.cdp_json.specs.Kinds.{and_first, read_items}
use Rattle.cdp_json.specs.Lists.{with_list_front}
use Rattle.css_objects.specs.Styles.{has_none}

one_more : {T : Type 0} (done : List T) (x : T) (rest : Option (List T))
    → with_list_front (done ++ x ∷ []) rest ≡ with_list_front done (and_first x rest)
one_more done x None = refl
one_more done x (Some xs) = ap Some (append_assoc done (x ∷ []) xs)

-- a turn of the reader's loop
pub list_turn : {T : Type 0} (reads : Data → Option T) (done more : List T) (x : T) (vs : List Value) (i : ℕ) (v : Value) → i < length vs
    → v ≡ get_or vs i v → more ≡ done ++ x ∷ [] → Some x ≡ reads (view v)
    → with_list_front done (read_items reads (items_view (drop i vs))) ≡ read_items reads (items_view vs)
    → with_list_front more (read_items reads (items_view (drop (i + 1) vs))) ≡ read_items reads (items_view vs)
list_turn reads done more x vs i v below at m e so =
    let later = items_view (drop (i + 1) vs) in
    let r : drop i vs ≡ v ∷ drop (i + 1) vs = drop-cons vs i v below ∙ ap₂ (λ y l. y ∷ l) (sym at)
    (ap (λ n. drop n vs) (sym (add-one i))) in
    ap (λ l. with_list_front l (read_items reads later)) m ∙ one_more done x (read_items reads later)
    ∙ ap (λ o. with_list_front done (option_and_then (λ y. and_first y (read_items reads later)) o)) e ∙ ap
    (λ l. with_list_front done (read_items reads (items_view l))) (sym r) ∙ so

-- a list with an item
pub some_items : (vs : List Value) → 1 ≤ length vs → false ≡ has_none (items_view vs)
some_items [] h = absurd (omega (arith, h))
some_items (v ∷ vs) h = refl
