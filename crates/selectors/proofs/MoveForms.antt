-- Selectors of which the ranges are moved where a part of the text is replaced, one after the other.
use Rattle.std.proofs.Common.{◌≡◌, ℕ, ◌+◌, ◌-◌, ◌<◌, ◌≤◌, List, [], ◌∷◌, ◌++◌, map, take, drop, length, All, get_or, refl, sym, ap, subst}
use Rattle.std.proofs.Common.{◌∙◌, arith}
use Rattle.std.proofs.lemmas.List.{length-map, length-take-le, get_or-append_right, get_or-drop, take_all, drop_all, append-nil}
use Rattle.std.proofs.lemmas.List.Elements.{All-get_or}
use Rattle.std.proofs.Math.ListN.{get_or-map}
use Rattle.selectors.specs.declared.selector.Selector.{Selector}
use Rattle.selectors.specs.Forms.{SelectorForm, selector_seen}
use Rattle.selectors.specs.Moves.{cut, moved_place, placed_range, placed_selector, CanPlaceRange}

abbrev pub placed : ℕ → ℕ → ℕ → Selector → Selector
placed start end size s = record {
  compounds = s.compounds;
  pseudo_element = s.pseudo_element;
  range = placed_range (moved_place (cut start end size)) s.range;
}

-- elements before a place are changed, and the one there is not
pub seam : {X : Type 0} (f : X → X) (xs : List X) (i : ℕ) (d : X) → i ≤ length xs
    → get_or (map f (take i xs) ++ drop i xs) i d ≡ get_or xs i d
seam f xs i d inside =
    let place : i + (i - i) ≡ i = omega arith in
    get_or-append_right (map f (take i xs)) (drop i xs) i i d (length-map (take i xs) f ∙ length-take-le i xs inside) (omega arith)
    ∙ get_or-drop i xs (i - i) d
    ∙ ap (λ (k : ℕ). get_or xs k d) place

-- what is not changed yet is as it was: what holds of each element seen, holds of it
pub still_holds : {X Y : Type 0} (see : X → Y) (P : Y → Type 0) (f : X → X) (xs ys : List X) (i : ℕ) (d : X) → i < length xs
    → ys ≡ map f (take i xs) ++ drop i xs → All P (map see xs) → P (see (get_or ys i d))
still_holds {X = X} see P f xs ys i d inside so_far all =
    let len = length-map xs see in
    let at = All-get_or P (map see xs) i (see d) (omega (arith, inside, len)) all in
    subst (λ (x : X). P (see x)) (sym (ap (λ (zs : List X). get_or zs i d) so_far ∙ seam f xs i d (omega (arith, inside))))
    (subst P (get_or-map see xs i d) at)

seen_map : {X Y : Type 0} (see : X → Y) (f : X → X) (g : Y → Y) → ((x : X) → see (f x) ≡ g (see x)) → (xs : List X)
    → map see (map f xs) ≡ map g (map see xs)
seen_map see f g e [] = refl
seen_map see f g e (x ∷ xs) = let a = e x in let more = seen_map see f g e xs in λ i. a i ∷ more i

-- where all are changed
pub all_changed : {X Y : Type 0} (see : X → Y) (f : X → X) (g : Y → Y) → ((x : X) → see (f x) ≡ g (see x))
    → (xs zs : List X) (n : ℕ) → length xs ≤ n → zs ≡ map f (take n xs) ++ drop n xs → map see zs ≡ map g (map see xs)
all_changed {X = X} see f g e xs zs n all so_far =
    ap (map see)
    (so_far ∙ ap (λ (ys : List X). map f ys ++ drop n xs) (take_all n xs all) ∙ ap (λ (ys : List X). map f xs ++ ys)
    (drop_all n xs all) ∙ append-nil (map f xs))
    ∙ seen_map see f g e xs
