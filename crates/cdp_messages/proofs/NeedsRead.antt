-- A field that has to be there, read by what it is read as first.
use Rattle.std.proofs.Common.{◌≡◌, ◌≤◌, ℕ, List, [], ◌∷◌, length, false, Option, Some, None, option_map, option_and_then, refl, sym, arith}
use Rattle.serde_json.specs.View.{items_view}
use Rattle.serde_json.specs.declared.value.Value.{Value}
use Rattle.serde_json.specs.Data.{Data, Members}
use Rattle.cdp_json.specs.Rows.{left_with, first_at, after_first, need}
use Rattle.css_objects.specs.Styles.{has_none}

read_at : {A B : Type 0} (f : A → Option B) (x : A) (rest after : Members) (r : Option A)
    → Some (left_with rest x) ≡ option_map (left_with after) r
    → option_map (left_with after) (option_and_then f r) ≡ option_map (left_with rest) (f x)
read_at f x rest after None h = absurd cc
read_at {A} {B} f x rest after (Some y) h =
    let p : ◌≡◌ {A = A × Members} (left_with rest x) (left_with after y) = cc in
    λ i. option_map (left_with ((sym p i).1)) (f ((sym p i).0))

found_at : {A B : Type 0} (reads : Data → Option A) (f : A → Option B) (x : A) (rest after : Members) (o : Option Data)
    → Some (left_with rest x) ≡ option_map (left_with after) (option_and_then reads o)
    → option_map (left_with after) (option_and_then (λ d. option_and_then f (reads d)) o) ≡ option_map (left_with rest) (f x)
found_at reads f x rest after None h = absurd cc
found_at reads f x rest after (Some d) h = read_at f x rest after (reads d) h

pub need_through : {A B : Type 0} (reads : Data → Option A) (f : A → Option B) (name : List ℕ) (ms : Members) (x : A) (rest : Members)
    → Some (left_with rest x) ≡ need reads name ms
    → option_map (left_with rest) (f x) ≡ need (λ d. option_and_then f (reads d)) name ms
need_through reads f name ms x rest e = sym (found_at reads f x rest (after_first ms) (first_at name ms) e)

-- a list that is not empty
pub some_items : (vs : List Value) → 1 ≤ length vs → false ≡ has_none (items_view vs)
some_items [] h = let no : ⊥ = omega (arith, h) in absurd no
some_items (v ∷ vs) h = refl
