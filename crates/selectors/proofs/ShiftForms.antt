-- Selectors whose ranges are moved, one after the other.
use Rattle.std.proofs.Common.{◌≡◌, ℕ, ◌+◌, ◌-◌, ◌<◌, ◌≤◌, List, [], ◌∷◌, ◌++◌, map, take, drop, length, All, get_or, refl, sym, ap, subst}
use Rattle.std.proofs.Common.{◌∙◌, arith}
use Rattle.std.proofs.lemmas.List.{length-map, length-take-le, get_or-append_right, get_or-drop, take_all, drop_all, append-nil}
use Rattle.std.proofs.lemmas.List.Elements.{All-get_or}
use Rattle.std.proofs.Math.ListN.{get_or-map}
use Rattle.selectors.specs.declared.selector.Selector.{Selector}
use Rattle.selectors.specs.Forms.{SelectorForm, selector_seen}
use Rattle.selectors.specs.Lists.{moved_range, moved_selector, CanMove}

abbrev pub shifted : ℕ → ℕ → Selector → Selector
shifted from to s = record { compounds = s.compounds; pseudo_element = s.pseudo_element; range = moved_range from to s.range }

seam : (f : Selector → Selector) (xs : List Selector) (i : ℕ) (d : Selector) → i ≤ length xs
    → get_or (map f (take i xs) ++ drop i xs) i d ≡ get_or xs i d
seam f xs i d inside =
    let place : i + (i - i) ≡ i = omega arith in
    get_or-append_right (map f (take i xs)) (drop i xs) i i d (length-map (take i xs) f ∙ length-take-le i xs inside) (omega arith)
    ∙ get_or-drop i xs (i - i) d
    ∙ ap (λ (k : ℕ). get_or xs k d) place

-- what is not moved yet can be moved
pub can_move : (from to : ℕ) (xs ys : List Selector) (i : ℕ) (d : Selector) → i < length xs
    → ys ≡ map (shifted from to) (take i xs) ++ drop i xs
    → All (λ s. CanMove from to s.range) (map selector_seen xs) → CanMove from to (get_or ys i d).range
can_move from to xs ys i d inside so_far all =
    let P : SelectorForm → Type 0 = λ s. CanMove from to s.range in
    let Q : Selector → Type 0 = λ s. CanMove from to s.range in
    let len = length-map xs selector_seen in
    let at = All-get_or P (map selector_seen xs) i (selector_seen d) (omega (arith, inside, len)) all in
    subst Q (sym (ap (λ (zs : List Selector). get_or zs i d) so_far ∙ seam (shifted from to) xs i d (omega (arith, inside))))
    (subst P (get_or-map selector_seen xs i d) at)

seen_shifted : (from to : ℕ) (xs : List Selector)
    → map selector_seen (map (shifted from to) xs) ≡ map (moved_selector from to) (map selector_seen xs)
seen_shifted from to [] = refl
seen_shifted from to (x ∷ xs) = ap (λ (ys : List SelectorForm). selector_seen (shifted from to x) ∷ ys) (seen_shifted from to xs)

pub all_shifted : (from to : ℕ) (xs zs : List Selector) (n : ℕ) → length xs ≤ n → zs ≡ map (shifted from to) (take n xs) ++ drop n xs
    → map selector_seen zs ≡ map (moved_selector from to) (map selector_seen xs)
all_shifted from to xs zs n all so_far =
    let f = shifted from to in
    ap (λ (ys : List Selector). map selector_seen ys)
    (so_far ∙ ap (λ (ys : List Selector). map f ys ++ drop n xs) (take_all n xs all) ∙ ap (λ (ys : List Selector). map f xs ++ ys)
    (drop_all n xs all) ∙ append-nil (map f xs))
    ∙ seen_shifted from to xs
