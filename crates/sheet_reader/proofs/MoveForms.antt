-- Elements that are changed one after the other.
use Rattle.std.proofs.lemmas.List.Edits.{map_over_more}
use Rattle.std.proofs.Common.{zero, suc, set, ◌≡◌, ℕ, ◌+◌, ◌<◌, ◌≤◌, List, [], ◌∷◌, ◌++◌, map, take, drop, length, All, get_or, refl, sym}
use Rattle.std.proofs.Common.{ap}
use Rattle.std.proofs.Common.{subst, ◌∙◌, arith}
use Rattle.std.proofs.lemmas.List.{length-map, get_or_default, take_all, drop_all, append-nil}
use Rattle.std.proofs.lemmas.List.Elements.{All-get_or}
use Rattle.std.proofs.Math.ListN.{get_or-map}
use Rattle.selectors.proofs.MoveForms.{seam}

-- what is not changed yet is as it was: what holds of each element, holds of it
pub still_there : {X : Type 0} (P : X → Type 0) (f : X → X) (xs ys : List X) (i : ℕ) (d : X) → i < length xs
    → ys ≡ map f (take i xs) ++ drop i xs → All P xs → P (get_or ys i d)
still_there {X = X} P f xs ys i d inside so_far all =
    subst P (sym (ap (λ (zs : List X). get_or zs i d) so_far ∙ seam f xs i d (omega (arith, inside)))) (All-get_or P xs i d inside all)

-- where all are changed
pub all_done : {X : Type 0} (f : X → X) (xs zs : List X) (n : ℕ) → length xs ≤ n → zs ≡ map f (take n xs) ++ drop n xs → zs ≡ map f xs
all_done {X = X} f xs zs n all so_far =
    so_far ∙ ap (λ (ys : List X). map f ys ++ drop n xs) (take_all n xs all) ∙ ap (λ (ys : List X). map f xs ++ ys) (drop_all n xs all)
    ∙ append-nil (map f xs)

-- the same where what is kept is what is seen
pub seen_still : {X Y : Type 0} (see : X → Y) (P : Y → Type 0) (g : Y → Y) (xs ys : List X) (i : ℕ) (d : X) → i < length xs
    → map see ys ≡ map g (take i (map see xs)) ++ drop i (map see xs) → All P (map see xs) → length ys ≡ length xs → P (see (get_or ys i d))
seen_still see P g xs ys i d inside so_far all size =
    let len = length-map xs see in
    subst P (get_or-map see ys i d)
    (still_there P g (map see xs) (map see ys) i (see d) (omega (arith, inside, len)) so_far all)

pub map_set : {X Y : Type 0} (see : X → Y) (xs : List X) (i : ℕ) (y : X) → map see (set xs i y) ≡ set (map see xs) i (see y)
map_set see [] i y = refl
map_set see (x ∷ xs) zero y = refl
map_set see (x ∷ xs) (suc i) y = ap (λ zs. see x ∷ zs) (map_set see xs i y)

pub seen_more : {X Y : Type 0} (see : X → Y) (g : Y → Y) (xs ys : List X) (i : ℕ) (d y : X) → i < length xs → length ys ≡ length xs
    → map see ys ≡ map g (take i (map see xs)) ++ drop i (map see xs) → see y ≡ g (see (get_or ys i d))
    → map see (set ys i y) ≡ map g (take (i + 1) (map see xs)) ++ drop (i + 1) (map see xs)
seen_more {Y = Y} see g xs ys i d y inside size so_far is =
    let len = length-map xs see in
    let len2 = length-map ys see in
    let zs = map see ys in
    map_set see ys i y ∙ ap (set (map see ys) i) (is ∙ ap g (sym (get_or-map see ys i d)))
    ∙ map_over_more g (map see xs) (map see ys) i (get_or (map see ys) i (see d)) (omega (arith, inside, len)) so_far
    (get_or_default zs i (see d) (get_or zs i (see d)) (omega (arith, inside, size, len2)))
