-- Zippers of a tree: which there are, that one step leads from one to another, and that one is found by its serial.
use Rattle.std.proofs.Common.{◌≡◌, ◌⊎◌, ℕ, ◌+◌, ◌<◌, ◌≤◌, ◌==◌, Bool, true, false, cond, List, [], ◌∷◌, ◌++◌, Option, Some, None, subst}
use Rattle.std.proofs.Common.{refl, inl, inr, arith}
use Rattle.std.proofs.lemmas.Bool.{eq-eqb}
use Rattle.std.specs.List.{find}
use Rattle.std.specs.Option.{option_map}
use Rattle.node_tree.specs.Nodes.{Nodes, none, node, Branch, alone}
use Rattle.node_tree.specs.Keys as keys
use Rattle.node_tree.specs.Keys.{first_of, tally}
use Rattle.page_tree.specs.Members.{IsIn, at_head, in_tail}
use Rattle.page_tree.specs.Pages.{PageRow, row_serial, times_in}
use Rattle.page_tree.specs.Zippers.{Generation, Zipper, generation_of, zipper_of, serial_of, ancestors, earlier, in_row, later, first_node}
use Rattle.page_tree.specs.Zippers.{parent_of, previous_of, next_of, first_child_of, all_in, zippers, has_serial, find_zipper}

-- ---- members of lists

module _ {A : Type 0} where
  pub IsIn-append_left : {x : A} {xs : List A} (ys : List A) → IsIn x xs → IsIn x (xs ++ ys)
  IsIn-append_left ys (at_head xs) = at_head (xs ++ ys)
  IsIn-append_left ys (in_tail y xs i) = in_tail y (xs ++ ys) (IsIn-append_left ys i)

  pub IsIn-append_right : {x : A} (xs : List A) {ys : List A} → IsIn x ys → IsIn x (xs ++ ys)
  IsIn-append_right [] i = i
  IsIn-append_right (y ∷ xs) i = in_tail y _ (IsIn-append_right xs i)

  pub IsIn-append : {x : A} (xs ys : List A) → IsIn x (xs ++ ys) → IsIn x xs ⊎ IsIn x ys
  IsIn-append [] ys i = inr i
  IsIn-append (y ∷ xs) ys (at_head _) = inl (at_head xs)
  IsIn-append (y ∷ xs) ys (in_tail _ _ i) = elim (IsIn-append xs ys i) [ inl h ↦ inl (in_tail y xs h) | inr h ↦ inr h ]

  found_first : (p : A → Bool) (y : A) (xs : List A) (x : A) → (find p xs ≡ Some x → IsIn x xs) → (b : Bool)
      → cond b (Some y) (find p xs) ≡ Some x → IsIn x (y ∷ xs)
  found_first p y xs x further true e = let same : x ≡ y = cc in subst (λ (w : A). IsIn x (w ∷ xs)) same (at_head xs)
  found_first p y xs x further false e = in_tail y xs (further e)

  pub IsIn-find : (p : A → Bool) (xs : List A) (x : A) → find p xs ≡ Some x → IsIn x xs
  IsIn-find p [] x e = absurd (cc)
  IsIn-find p (y ∷ xs) x e = found_first p y xs x (IsIn-find p xs x) (p y) e

  -- how many elements pass
  abbrev pub times : (A → Bool) → List A → ℕ
  times p [] = 0
  times p (x ∷ xs) = cond {A = ℕ} (p x) 1 0 + times p xs

  pub times-append : (p : A → Bool) (xs ys : List A) → times p (xs ++ ys) ≡ times p xs + times p ys
  times-append p [] ys = omega arith
  times-append p (x ∷ xs) ys = omega (arith, times-append p xs ys)

  some_passes : (p : A → Bool) {x : A} {xs : List A} → IsIn x xs → p x ≡ true → 1 ≤ times p xs
  some_passes p {x = x} (at_head xs) e = rw e (omega arith)
  some_passes p (in_tail y xs i) e = omega (arith, some_passes p i e)

  only_step : (p : A → Bool) (x y : A) (xs : List A) → IsIn x xs → p x ≡ true → (times p xs ≤ 1 → find p xs ≡ Some x) → (b : Bool)
      → cond {A = ℕ} b 1 0 + times p xs ≤ 1 → cond b (Some y) (find p xs) ≡ Some x
  only_step p x y xs i e rest true once = absurd (omega (arith, some_passes p i e))
  only_step p x y xs i e rest false once = rest (omega arith)

  -- where at most one element passes, one that does is found
  pub find-only : (p : A → Bool) {x : A} {xs : List A} → IsIn x xs → p x ≡ true → times p xs ≤ 1 → find p xs ≡ Some x
  find-only p (at_head xs) e once = rw e refl
  find-only p {x = x} (in_tail y xs i) e once = only_step p x y xs i e (find-only p i e) (p y) once

  pub find-append : (p : A → Bool) (xs ys : List A) → find p (xs ++ ys) ≡ first_of (find p xs) (find p ys)
  find-append p [] ys = refl
  find-append p (x ∷ xs) ys = rw (find-append p xs ys) (either (p x))
    where
      either : (b : Bool) → cond b (Some x) (first_of (find p xs) (find p ys)) ≡ first_of (cond b (Some x) (find p xs)) (find p ys)
      either true = refl
      either false = refl

  option_map-first : {B : Type 0} (f : A → B) (b : Bool) (x : A) (u v : Option A)
      → option_map f (cond b (Some x) (first_of u v)) ≡ cond b (Some (f x)) (first_of (option_map f u) (option_map f v))
  option_map-first f true x u v = refl
  option_map-first f false x (Some y) v = refl
  option_map-first f false x None v = refl

-- ---- what is found by a serial

-- the focus is the node that the page finds
pub branch-found : (x : ℕ) (above : List Generation) (before : List (Branch PageRow)) (n : Nodes PageRow)
    → keys.find row_serial x n ≡ option_map (λ z. z.branch) (find (has_serial x) (all_in above before n))
branch-found x above before none = refl
branch-found x above before (node r c t) =
    let b : Branch PageRow = record { row = r; children = c } in
    let g : Generation = record { branch = b; before = before; after = t } in
    rw (
      find-append (has_serial x) (all_in (g ∷ above) [] c) (all_in above (b ∷ before) t),
      option_map-first (λ (z : Zipper). z.branch)
          (r.serial == x) (zipper_of g above) (find (has_serial x) (all_in (g ∷ above) [] c))
          (find (has_serial x) (all_in above (b ∷ before) t)),
      branch-found x (g ∷ above) [] c,
      branch-found x above (b ∷ before) t,
    )
    refl

-- the serial of what is just above, and 0 at the top
abbrev pub serial_above : List Generation → ℕ
serial_above [] = 0
serial_above (g ∷ above) = g.branch.row.serial

-- above it is the parent that the page finds
pub parent-found : (x : ℕ) (above : List Generation) (before : List (Branch PageRow)) (n : Nodes PageRow)
    → keys.parent_of row_serial x (serial_above above) n
    ≡ option_map (λ z. serial_above z.above) (find (has_serial x) (all_in above before n))
parent-found x above before none = refl
parent-found x above before (node r c t) =
    let b : Branch PageRow = record { row = r; children = c } in
    let g : Generation = record { branch = b; before = before; after = t } in
    rw (
      find-append (has_serial x) (all_in (g ∷ above) [] c) (all_in above (b ∷ before) t),
      option_map-first
          (λ (z : Zipper). serial_above z.above) (r.serial == x) (zipper_of g above) (find (has_serial x) (all_in (g ∷ above) [] c))
          (find (has_serial x) (all_in above (b ∷ before) t)),
      parent-found x (g ∷ above) [] c,
      parent-found x above (b ∷ before) t,
    )
    refl

-- as many zippers have a serial as nodes have
pub count-found : (x : ℕ) (above : List Generation) (before : List (Branch PageRow)) (n : Nodes PageRow)
    → times (has_serial x) (all_in above before n) ≡ tally row_serial x n
count-found x above before none = refl
count-found x above before (node r c t) =
    let b : Branch PageRow = record { row = r; children = c } in
    let g : Generation = record { branch = b; before = before; after = t } in
    omega (
      arith,
      times-append (has_serial x) (all_in (g ∷ above) [] c) (all_in above (b ∷ before) t),
      count-found x
          (g ∷ above) [] c,
      count-found x above (b ∷ before) t,
    )

-- ---- the zippers of a tree

-- these nodes with the siblings before them
abbrev pub siblings_of : List (Branch PageRow) → Nodes PageRow → Nodes PageRow
siblings_of [] here = here
siblings_of (b ∷ before) here = siblings_of before (node b.row b.children here)

-- each generation above is a node of the tree and has the one below it as its children
abbrev pub Fits : Branch PageRow → List Generation → Nodes PageRow → Type 0
Fits tree [] row = row ≡ alone tree
Fits tree (g ∷ above) row = (row ≡ g.branch.children) × Fits tree above (siblings_of g.before (node g.branch.row g.branch.children g.after))

-- a zipper is one of the tree
abbrev pub IsOf : Branch PageRow → Zipper → Type 0
IsOf tree z = Fits tree z.above (siblings_of z.before (node z.branch.row z.branch.children z.after))

pub from_first : (above : List Generation) (before : List (Branch PageRow)) (here : Nodes PageRow) (w : Zipper)
    → IsIn w (all_in above before here) → IsIn w (all_in above [] (siblings_of before here))
from_first above [] here w i = i
from_first above (b ∷ before) here w i = from_first above before (node b.row b.children here) w (in_tail _ _ (IsIn-append_right _ i))

from_root : (tree : Branch PageRow) (above : List Generation) (row : Nodes PageRow) → Fits tree above row → (w : Zipper)
    → IsIn w (all_in above [] row) → IsIn w (zippers tree)
from_root tree [] row fits w i = subst (λ (n : Nodes PageRow). IsIn w (all_in [] [] n)) fits i
from_root tree (g ∷ above) row fits w i =
    let j = subst (λ (n : Nodes PageRow). IsIn w (all_in (g ∷ above) [] n)) fits.0 i in
    from_root tree above _ fits.1 w
    (from_first above g.before (node g.branch.row g.branch.children g.after) w (in_tail _ _ (IsIn-append_left _ j)))

-- what is one of the tree is listed
pub IsIn-zippers : (tree : Branch PageRow) (z : Zipper) → IsOf tree z → IsIn z (zippers tree)
IsIn-zippers tree z fits = from_root tree z.above _ fits z
    (from_first z.above z.before (node z.branch.row z.branch.children z.after) z (at_head _))

fits_each : (tree : Branch PageRow) (above : List Generation) (before : List (Branch PageRow)) (n : Nodes PageRow)
    → Fits tree above (siblings_of before n) → (w : Zipper) → IsIn w (all_in above before n) → IsOf tree w
fits_each tree above before none fits w i = elim i [ ]
fits_each tree above before (node r c t) fits w (at_head _) = fits
fits_each tree above before (node r c t) fits w (in_tail _ _ i) =
    let b : Branch PageRow = record { row = r; children = c } in
    let g : Generation = record { branch = b; before = before; after = t } in
    elim (IsIn-append (all_in (g ∷ above) [] c) (all_in above (b ∷ before) t) i) [
      | inl h ↦ fits_each tree (g ∷ above) [] c (refl, fits) w h
      | inr h ↦ fits_each tree above (b ∷ before) t fits w h
    ]

-- what is listed is one of the tree
pub IsOf-zippers : (tree : Branch PageRow) (z : Zipper) → IsIn z (zippers tree) → IsOf tree z
IsOf-zippers tree z i = fits_each tree [] [] (alone tree) refl z i

-- serials are apart
abbrev pub AreApart : Branch PageRow → Type 0
AreApart tree = (x : ℕ) → times_in x tree ≤ 1

count-zippers : (tree : Branch PageRow) (x : ℕ) → times (has_serial x) (zippers tree) ≡ times_in x tree
count-zippers tree x = omega (arith, count-found x [] [] (alone tree))

-- what is one of the tree is found by its serial
pub find-of : (tree : Branch PageRow) → AreApart tree → (z : Zipper) → IsOf tree z → find_zipper (serial_of z) tree ≡ Some z
find-of tree apart z fits =
    find-only (has_serial (serial_of z)) (IsIn-zippers tree z fits) (eq-eqb (serial_of z) (serial_of z) refl)
    (omega (arith, count-zippers tree (serial_of z), apart (serial_of z)))

pub of-find : (tree : Branch PageRow) (x : ℕ) (z : Zipper) → find_zipper x tree ≡ Some z → IsOf tree z
of-find tree x z e = IsOf-zippers tree z (IsIn-find (has_serial x) (zippers tree) z e)

-- what is found is counted
pub some_times : (tree : Branch PageRow) (z : Zipper) → find_zipper (serial_of z) tree ≡ Some z → 0 < times_in (serial_of z) tree
some_times tree z e =
    omega (
      arith,
      count-zippers tree (serial_of z),
      some_passes (has_serial (serial_of z))
          (IsIn-find (has_serial (serial_of z)) (zippers tree) z e) (eq-eqb (serial_of z) (serial_of z) refl),
    )

-- one step from a node of the tree leads to one
pub of-parent : (tree : Branch PageRow) (z p : Zipper) → IsOf tree z → parent_of z ≡ Some p → IsOf tree p
of-parent tree z p fits e = up z.above fits e
  where
    up : (above : List Generation) → Fits tree above (siblings_of z.before (node z.branch.row z.branch.children z.after))
        → first_node (ancestors (record z { above = above })) ≡ Some p → IsOf tree p
    up [] fits e = absurd (cc)
    up (g ∷ above) fits e = let same : zipper_of g above ≡ p = cc in subst (IsOf tree) same fits.1

pub of-previous : (tree : Branch PageRow) (z p : Zipper) → IsOf tree z → previous_of z ≡ Some p → IsOf tree p
of-previous tree z p fits e = back z.before fits e
  where
    back : (before : List (Branch PageRow)) → Fits tree z.above (siblings_of before (node z.branch.row z.branch.children z.after))
        → first_node (earlier (record z { before = before })) ≡ Some p → IsOf tree p
    back [] fits e = absurd (cc)
    back (b ∷ before) fits e = let same : ◌≡◌ {A = Zipper}
        (record { branch = b; before = before; after = node z.branch.row z.branch.children z.after; above = z.above }) p = cc in subst
        (IsOf tree) same fits

pub of-next : (tree : Branch PageRow) (z p : Zipper) → IsOf tree z → next_of z ≡ Some p → IsOf tree p
of-next tree z p fits e = on z.after fits e
  where
    on : (after : Nodes PageRow) → Fits tree z.above (siblings_of z.before (node z.branch.row z.branch.children after))
        → first_node (later (record z { after = after })) ≡ Some p → IsOf tree p
    on none fits e = absurd (cc)
    on (node r c t) fits e = let same : ◌≡◌ {A = Zipper}
        (record { branch = record { row = r; children = c }; before = z.branch ∷ z.before; after = t; above = z.above }) p = cc in subst
        (IsOf tree) same fits

pub of-first_child : (tree : Branch PageRow) (z p : Zipper) → IsOf tree z → first_child_of z ≡ Some p → IsOf tree p
of-first_child tree z p fits e = down z.branch.children refl e
  where
    down : (children : Nodes PageRow) → children ≡ z.branch.children → first_node (in_row (generation_of z ∷ z.above) [] children) ≡ Some p
        → IsOf tree p
    down none is e = absurd (cc)
    down (node r c t) is e = let same : ◌≡◌ {A = Zipper}
        (record { branch = record { row = r; children = c }; before = []; after = t; above = generation_of z ∷ z.above }) p = cc in subst
        (IsOf tree) same (is, fits)
