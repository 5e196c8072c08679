-- Walks from a node to the next in some direction, over the list of the nodes that lie there.
use Rattle.std.proofs.Common.{◌≡◌, ℕ, zero, suc, ◌+◌, ◌<◌, ◌≤◌, Bool, true, false, cond, ◌||◌, List, [], ◌∷◌, ◌++◌, map, drop, length}
use Rattle.std.proofs.Common.{Option, Some, None, refl, sym, ap, ◌∙◌, arith}
use Rattle.std.specs.List.{list_any, filter, find, slice_get}
use Rattle.std.specs.Option.{option_map}
use Rattle.std.proofs.lemmas.List.{append_assoc, map-append}
use Rattle.std.proofs.lemmas.List.Elements.{filter-append}
use Rattle.node_tree.specs.Nodes.{Nodes, none, node, Branch, node_count}
use Rattle.node_tree.specs.Keys.{first_of}
use Rattle.page_tree.specs.Pages.{PageRow}
use Rattle.page_tree.proofs.ZipperLemmas.{find-append}
use Rattle.page_tree.specs.Zippers.{Generation, Zipper, ancestors, earlier, later, children_of, first_node, parent_of, previous_of, next_of}
use Rattle.page_tree.specs.Zippers.{first_child_of, below, all_in, serial_of}
use Rattle.selectors.specs.declared.selector.NthKind.{NthKind}
use Rattle.selectors.specs.declared.selector.NthKind.TheVariants.{Child, LastChild, OfType, LastOfType}
use Rattle.select_match.specs.Elements.{side, counts, index}

-- a node, if there is one, and those behind it
abbrev pub from : (Zipper → List Zipper) → Option Zipper → List Zipper
from rest None = []
from rest (Some q) = q ∷ rest q

pub ancestors-from : (z : Zipper) → ancestors z ≡ from ancestors (parent_of z)
ancestors-from z = up z.above
  where
    up : (above : List Generation) → ancestors (record z { above = above }) ≡ from ancestors (parent_of (record z { above = above }))
    up [] = refl
    up (g ∷ above) = refl

pub earlier-from : (z : Zipper) → earlier z ≡ from earlier (previous_of z)
earlier-from z = back z.before
  where
    back : (before : List (Branch PageRow))
        → earlier (record z { before = before }) ≡ from earlier (previous_of (record z { before = before }))
    back [] = refl
    back (b ∷ before) = refl

pub later-from : (z : Zipper) → later z ≡ from later (next_of z)
later-from z = on z.after
  where
    on : (after : Nodes PageRow) → later (record z { after = after }) ≡ from later (next_of (record z { after = after }))
    on none = refl
    on (node r c t) = refl

pub children-from : (z : Zipper) → children_of z ≡ from later (first_child_of z)
children-from z = down z.branch.children
  where
    down : (children : Nodes PageRow)
        → children_of (record z { branch = record { row = z.branch.row; children = children } })
        ≡ from later (first_child_of (record z { branch = record { row = z.branch.row; children = children } }))
    down none = refl
    down (node r c t) = refl

pub side-from : (kind : NthKind) (z : Zipper) → side kind z ≡ from (side kind) (first_node (side kind z))
side-from Child z = earlier-from z
side-from LastChild z = later-from z
side-from OfType z = earlier-from z
side-from LastOfType z = later-from z

module _ (rest : Zipper → List Zipper) (law : (z : Zipper) → rest z ≡ from rest (first_node (rest z))) where
  -- where a walk begins
  pub walk-start : (z : Zipper) (at : Option Zipper) → at ≡ first_node (rest z) → from rest at ≡ rest z
  walk-start z at e = ap (λ (o : Option Zipper). from rest o) e ∙ sym (law z)

  -- and a step of it
  pub walk-step : (at : Option Zipper) (q : Zipper) (next : Option Zipper) → at ≡ Some q → next ≡ first_node (rest q)
      → from rest at ≡ q ∷ from rest next
  walk-step at q next e f = ap (λ (o : Option Zipper). from rest o) e ∙ ap (λ (l : List Zipper). q ∷ l) (sym (walk-start q next f))

  pub walk-smaller : (at : Option Zipper) (q : Zipper) (next : Option Zipper) → at ≡ Some q → next ≡ first_node (rest q)
      → length (from rest next) < length (from rest at)
  walk-smaller at q next e f = omega (arith, ap (λ (l : List Zipper). length l) (walk-step at q next e f))

  pub walk-any : (test : Zipper → Bool) (at : Option Zipper) (q : Zipper) (next : Option Zipper) → at ≡ Some q → next ≡ first_node (rest q)
      → test q ≡ false → list_any test (from rest next) ≡ list_any test (from rest at)
  walk-any test at q next e f fails = sym
      (ap (λ (l : List Zipper). list_any test l) (walk-step at q next e f) ∙ ap (λ (b : Bool). b || list_any test (from rest next)) fails)

  pub walk-any_here : (test : Zipper → Bool) (at : Option Zipper) (q : Zipper) → at ≡ Some q → test q ≡ true
      → true ≡ list_any test (from rest at)
  walk-any_here test at q e holds = sym
      (ap (λ (o : Option Zipper). list_any test (from rest o)) e ∙ ap (λ (b : Bool). b || list_any test (rest q)) holds)

  pub walk-end : (at : Option Zipper) → ((q : Zipper) → at ≡ Some q → ⊥) → from rest at ≡ []
  walk-end (Some q) other = absurd (other q refl)
  walk-end None other = refl

filter_short_step : (p : Zipper → Bool) (z : Zipper) (zs : List Zipper) → length (filter p zs) ≤ length zs → (b : Bool)
    → length (cond b (z ∷ filter p zs) (filter p zs)) ≤ suc (length zs)
filter_short_step p z zs short true = omega arith
filter_short_step p z zs short false = omega arith

filter-short : (p : Zipper → Bool) (zs : List Zipper) → length (filter p zs) ≤ length zs
filter-short p [] = omega arith
filter-short p (z ∷ zs) = filter_short_step p z zs (filter-short p zs) (p z)

one_more : (b : Bool) (z : Zipper) (zs : List Zipper) → length (cond b (z ∷ zs) zs) ≡ cond {A = ℕ} b 1 0 + length zs
one_more true z zs = omega arith
one_more false z zs = omega arith

-- a step counts one sibling, or none
pub count-step : (kind : NthKind) (z : Zipper) (at : Option Zipper) (q : Zipper) → at ≡ Some q
    → length (filter (counts kind z) (from (side kind) at))
    ≡ cond {A = ℕ} (counts kind z q) 1 0 + length (filter (counts kind z) (side kind q))
count-step kind z at q e =
    ap (λ (o : Option Zipper). length (filter (counts kind z) (from (side kind) o))) e ∙ one_more (counts kind z q) q
    (filter (counts kind z) (side kind q))

few_on : (kind : NthKind) (z : Zipper) → length (earlier z) < 100000 → length (later z) < 100000 → length (side kind z) < 100000
few_on Child z before after = before
few_on LastChild z before after = after
few_on OfType z before after = before
few_on LastOfType z before after = after

pub index-bound : (kind : NthKind) (z : Zipper) → length (earlier z) < 100000 → length (later z) < 100000 → index kind z ≤ 100000
index-bound kind z before after = omega (arith, filter-short (counts kind z) (side kind z), few_on kind z before after)

-- the ancestors of a node, if there is one
abbrev pub above_of : List Generation → Option Zipper → List Generation
above_of above None = above
above_of above (Some q) = q.above

-- the sibling before has the same
pub above_of-previous : (q : Zipper) → above_of q.above (previous_of q) ≡ q.above
above_of-previous q = back q.before
  where
    back : (before : List (Branch PageRow)) → above_of q.above (previous_of (record q { before = before })) ≡ q.above
    back [] = refl
    back (b ∷ before) = refl

pub above_of-next : (above : List Generation) (q : Zipper) (next : Option Zipper) → q.above ≡ above → next ≡ previous_of q
    → above_of above next ≡ above
above_of-next above q next same e =
    ap (λ (o : Option Zipper). above_of above o) e ∙ ap (λ (l : List Generation). above_of l (previous_of q))
    (sym same) ∙ above_of-previous q ∙ same

-- ---- document order

-- a node and what is below it, and then what is after it
abbrev pub all_from : Option Zipper → List Zipper
all_from None = []
all_from (Some z) = z ∷ (below z ++ all_in z.above (z.branch ∷ z.before) z.after)

-- how many nodes these are
abbrev pub count_from : Option Zipper → ℕ
count_from None = 0
count_from (Some z) = suc (node_count z.branch.children + node_count z.after)

pub below-from : (z : Zipper) → below z ≡ all_from (first_child_of z)
below-from z = down z.branch.children
  where
    down : (children : Nodes PageRow)
        → below (record z { branch = record { row = z.branch.row; children = children } })
        ≡ all_from (first_child_of (record z { branch = record { row = z.branch.row; children = children } }))
    down none = refl
    down (node r c t) = refl

pub after-from : (z : Zipper) → all_in z.above (z.branch ∷ z.before) z.after ≡ all_from (next_of z)
after-from z = on z.after
  where
    on : (after : Nodes PageRow) → all_in z.above (z.branch ∷ z.before) after ≡ all_from (next_of (record z { after = after }))
    on none = refl
    on (node r c t) = refl

pub count-next : (z : Zipper) → count_from (next_of z) ≡ node_count z.after
count-next z = on z.after
  where
    on : (after : Nodes PageRow) → count_from (next_of (record z { after = after })) ≡ node_count after
    on none = refl
    on (node r c t) = refl

pub count-first_child : (z : Zipper) → count_from (first_child_of z) ≡ node_count z.branch.children
count-first_child z = down z.branch.children
  where
    down : (children : Nodes PageRow)
        → count_from (first_child_of (record z { branch = record { row = z.branch.row; children = children } })) ≡ node_count children
    down none = refl
    down (node r c t) = refl

module _ (at : Option Zipper) (z : Zipper) (next : Option Zipper) (is : at ≡ Some z) (step : next ≡ next_of z) where
  pub all-step : all_from at ≡ z ∷ (below z ++ all_from next)
  all-step = ap (λ (o : Option Zipper). all_from o) is ∙ ap (λ (l : List Zipper). z ∷ (below z ++ l))
      (after-from z ∙ ap (λ (o : Option Zipper). all_from o) (sym step))

  pub count-smaller : count_from at ≡ suc (node_count z.branch.children + count_from next)
  count-smaller = omega (arith, ap (λ (o : Option Zipper). count_from o) is, count-next z, ap (λ (o : Option Zipper). count_from o) step)

-- ---- what a list has in document order

find_either : (f : Zipper → ℕ) (u v : Option Zipper) (n : ℕ) → Some n ≡ option_map f u → option_map f (first_of u v) ≡ Some n
find_either f (Some z) v n e = sym e
find_either f None v n e = absurd (cc)

find_neither : (f : Zipper → ℕ) (u v : Option Zipper) → None ≡ option_map f u → first_of u v ≡ v
find_neither f (Some z) v e = absurd (cc)
find_neither f None v e = refl

module _ (p : Zipper → Bool) (at : Option Zipper) (z : Zipper) (is : at ≡ Some z) where
  find_past : (rest : List Zipper) → p z ≡ false → find p (z ∷ (below z ++ rest)) ≡ first_of (find p (below z)) (find p rest)
  find_past rest fails = ap (λ (b : Bool). cond b (Some z) (find p (below z ++ rest))) fails ∙ find-append p (below z) rest

  -- found below a node
  pub find-below : (n : ℕ) → p z ≡ false → Some n ≡ option_map serial_of (find p (below z))
      → Some n ≡ option_map serial_of (find p (all_from at))
  find-below n fails found =
      let rest = all_in z.above (z.branch ∷ z.before) z.after in
      sym
      (ap (λ (o : Option Zipper). option_map serial_of (find p (all_from o))) is ∙ ap (λ (o : Option Zipper). option_map serial_of o)
      (find_past rest fails)
      ∙ find_either serial_of (find p (below z)) (find p rest) n found)

  module _ (next : Option Zipper) (step : next ≡ next_of z) where
    -- not found there
    pub find-next : p z ≡ false → None ≡ option_map serial_of (find p (below z)) → find p (all_from next) ≡ find p (all_from at)
    find-next fails absent =
        sym (ap (λ (l : List Zipper). find p l) (all-step at z next is step) ∙ find_past (all_from next) fails ∙ find_neither serial_of
        (find p (below z)) (find p (all_from next)) absent)

    one_kept : (b : Bool) (zs : List Zipper) → map serial_of (cond b (z ∷ zs) zs) ≡ cond b (serial_of z ∷ []) [] ++ map serial_of zs
    one_kept true zs = refl
    one_kept false zs = refl

    pub matching-step : map serial_of (filter p (all_from at))
        ≡ cond (p z) (serial_of z ∷ []) [] ++ (map serial_of (filter p (below z)) ++ map serial_of (filter p (all_from next)))
    matching-step =
        ap (λ (l : List Zipper). map serial_of (filter p l)) (all-step at z next is step)
        ∙ one_kept (p z) (filter p (below z ++ all_from next))
        ∙ ap (λ (l : List ℕ). cond (p z) (serial_of z ∷ []) [] ++ l)
        (ap (λ (l : List Zipper). map serial_of l) (filter-append p (below z) (all_from next)) ∙ map-append serial_of
        (filter p (below z)) (filter p (all_from next)))

-- the element at a place of a list, and those behind it
any-suc : {A : Type 0} (f : A → Bool) (xs : List A) (i : ℕ) (x : A) → slice_get xs i ≡ Some x
    → list_any f (drop i xs) ≡ (f x || list_any f (drop (suc i) xs))
any-suc f [] i x e = absurd (cc)
any-suc f (y ∷ xs) zero x e = let same : y ≡ x = cc in ap (λ w. f w || list_any f xs) same
any-suc f (y ∷ xs) (suc i) x e = any-suc f xs i x e

pub any-at : {A : Type 0} (f : A → Bool) (xs : List A) (i : ℕ) (x : A) → slice_get xs i ≡ Some x
    → list_any f (drop i xs) ≡ (f x || list_any f (drop (i + 1) xs))
any-at f xs i x e = let one : suc i ≡ i + 1 = omega arith in any-suc f xs i x e ∙ ap (λ n. f x || list_any f (drop n xs)) one

four_parts : (a b c d : List ℕ) → ((a ++ b) ++ c) ++ d ≡ a ++ (b ++ (c ++ d))
four_parts a b c d = simp append_assoc

-- what was added is what was there, a node if it counts, and what is below it
pub parts-added : (old mid new : List ℕ) (one here rest all : List ℕ) → mid ≡ old ++ one → new ≡ mid ++ here → all ≡ one ++ (here ++ rest)
    → new ++ rest ≡ old ++ all
parts-added old mid new one here rest all e f g = rw (f, e, g) (four_parts old one here rest)
