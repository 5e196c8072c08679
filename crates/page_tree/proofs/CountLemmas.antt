-- A page has as many nodes as its map has serials.
use Rattle.std.proofs.Common.{◌≡◌, ℕ, suc, ◌+◌, ◌<◌, ◌==◌, Bool, true, false, cond, List, [], ◌∷◌, ◌++◌, length, Option, Some, None}
use Rattle.std.proofs.Common.{is_some, Less, nat_cmp, refl, ap, subst, ◌∙◌, inl, inr, arith}
use Rattle.std.proofs.lemmas.Bool.{cases_eq, eq-eqb, eqb-true, ne_eqb}
use Rattle.std.proofs.lemmas.Bool.Decides.{nat_tests}
use Rattle.std.specs.Ordering.{is_eq}
use Rattle.std.specs.List.{AllByRecursion}
use Rattle.std.specs.List.Sorted.{IsStrictlySortedBy}
use Rattle.std.specs.BTreeMap.{IsOrdered, btree_map_len, is_at}
use Rattle.std.specs.Map.{keys_of, lookup}
use Rattle.std.proofs.lemmas.List.{length-append, length-map}
use Rattle.node_tree.specs.Nodes.{Nodes, none, node, Branch, alone, node_count, branch_count}
use Rattle.node_tree.specs.Keys.{tally}
use Rattle.std.specs.Option.{option_and_then}
use Rattle.page_tree.specs.Pages.{PageRow, row_serial, find_in}
use Rattle.page_tree.specs.Arenas.{slots_in, keys_in, listed, tree_of, IsPage, Looks}
use Rattle.page_tree.specs.declared.arenas.Arena.{Arena}
use Rattle.page_tree.specs.declared.slots.Slot.{Slot}
use Rattle.page_tree.proofs.AncestorLemmas.{tally_absent}
use Rattle.page_tree.proofs.ArenaSteps.{listed-append}
use Rattle.page_tree.proofs.PlaceLemmas.{once, looks}

-- ---- lists that have each number as often as another

-- the list without the first x
abbrev without : ℕ → List ℕ → List ℕ
without x [] = []
without x (y ∷ ys) = cond (y == x) ys (y ∷ without x ys)

listed_step : (b : Bool) (z x y : ℕ) (ys rest : List ℕ) → (b ≡ true → y ≡ x)
    → (b ≡ false → listed z rest + cond {A = ℕ} (x == z) 1 0 ≡ listed z ys)
    → listed z (cond b ys (y ∷ rest)) + cond {A = ℕ} (x == z) 1 0 ≡ cond {A = ℕ} (y == z) 1 0 + listed z ys
listed_step true z x y ys rest same k = let e = ap (λ w. cond {A = ℕ} (w == z) 1 0) (same refl) in omega arith
listed_step false z x y ys rest same k = let h = k refl in omega arith

length_step : (b : Bool) (y : ℕ) (ys rest : List ℕ) → (b ≡ false → suc (length rest) ≡ length ys)
    → suc (length (cond b ys (y ∷ rest))) ≡ suc (length ys)
length_step true y ys rest k = refl
length_step false y ys rest k = ap suc (k refl)

behind : (b : Bool) (n : ℕ) → 0 < cond {A = ℕ} b 1 0 + n → b ≡ false → 0 < n
behind true n some e = absurd (cc)
behind false n some e = omega arith

listed-without : (z x : ℕ) (ys : List ℕ) → 0 < listed x ys → listed z (without x ys) + cond {A = ℕ} (x == z) 1 0 ≡ listed z ys
listed-without z x [] some = absurd (omega arith)
listed-without z x (y ∷ ys) some = listed_step (y == x) z x y ys (without x ys) (λ e. eqb-true y x e)
    (λ e. listed-without z x ys (behind (y == x) (listed x ys) some e))

length-without : (x : ℕ) (ys : List ℕ) → 0 < listed x ys → suc (length (without x ys)) ≡ length ys
length-without x [] some = absurd (omega arith)
length-without x (y ∷ ys) some = length_step (y == x) y ys (without x ys) (λ e. length-without x ys (behind (y == x) (listed x ys) some e))

listed-own : (x : ℕ) (xs : List ℕ) → listed x (x ∷ xs) ≡ suc (listed x xs)
listed-own x xs = ap (λ (b : Bool). cond {A = ℕ} b 1 0 + listed x xs) (eq-eqb x x refl) ∙ omega arith

same_length : (xs ys : List ℕ) → ((z : ℕ) → listed z xs ≡ listed z ys) → length xs ≡ length ys
same_length [] [] same = refl
same_length [] (y ∷ ys) same = absurd (let h = listed-own y ys in let e = same y in omega arith)
same_length (x ∷ xs) ys same =
    let some : 0 < listed x ys = let h = listed-own x xs in let e = same x in omega arith in
    let rest = same_length xs (without x ys) (λ z. let e = same z in let h = listed-without z x ys some in omega arith) in
    let h = length-without x ys some in
    omega arith

-- ---- the serials of a tree

abbrev serials : Nodes PageRow → List ℕ
serials none = []
serials (node r c t) = r.serial ∷ (serials c ++ serials t)

listed-serials : (x : ℕ) (n : Nodes PageRow) → listed x (serials n) ≡ tally row_serial x n
listed-serials x none = refl
listed-serials x (node r c t) =
    let a = listed-append x (serials c) (serials t) in
    let b = listed-serials x c in
    let d = listed-serials x t in
    omega arith

length-serials : (n : Nodes PageRow) → length (serials n) ≡ node_count n
length-serials none = refl
length-serials (node r c t) =
    let a = length-append (serials c) (serials t) in
    let b = length-serials c in
    let d = length-serials t in
    omega arith

-- ---- the keys of a map

equal_at : (x k : ℕ) → is_eq (nat_cmp x k) ≡ (k == x)
equal_at x k = grind (arith, nat_tests)

above_at : (k y : ℕ) → nat_cmp k y ≡ Less → k < y
above_at k y e = grind (arith, nat_tests, e)

unlisted : (k : ℕ) (ks : List ℕ) → AllByRecursion (λ y. nat_cmp k y ≡ Less) ks → listed k ks ≡ 0
unlisted k [] above = refl
unlisted k (y ∷ ks) (first, rest) =
    let h = above_at k y first in
    let e = ap (λ (b : Bool). cond {A = ℕ} b 1 0) (ne_eqb y k (λ e. absurd (omega arith))) in
    let r = unlisted k ks rest in
    omega arith

listed_key : (x : ℕ) (es : List (ℕ × ℕ)) → IsStrictlySortedBy nat_cmp (keys_of es)
    → listed x (keys_of es) ≡ cond {A = ℕ} (is_some (lookup (is_at (nat_cmp x)) es)) 1 0
unfolding IsStrictlySortedBy
listed_key x [] sorted = refl
listed_key x (e ∷ es) (above, sorted) =
    elim (cases_eq e.0 x) [
      | inl same ↦
          let here = eq-eqb e.0 x same in
          let rest : listed x (keys_of es) ≡ 0 = subst (λ k. listed k (keys_of es) ≡ 0) same (unlisted e.0 (keys_of es) above) in
          rw (equal_at x e.0, here) (omega arith)
      | inr other ↦
          let here = ne_eqb e.0 x other in
          let rest = listed_key x es sorted in
          rw (equal_at x e.0, here) (omega arith)
    ]

-- ---- the count

module _ (a : Arena) (root next : ℕ) (page : IsPage a root next) (ordered : IsOrdered nat_cmp a.keys) where
  as_often : (x : ℕ) → listed x (keys_of a.keys.entries) ≡ listed x (serials (alone (tree_of a root)))
  as_often x =
      let key = listed_key x a.keys.entries ordered in
      let own = listed-serials x (alone (tree_of a root)) in
      (elim (keys_in a x) as (λ o. keys_in a x ≡ o → listed x (keys_of a.keys.entries) ≡ listed x (serials (alone (tree_of a root)))) [
        | Some k ↦ λ e. let once_key = key ∙ ap
            (λ (o : Option ℕ). cond {A = ℕ}
            (is_some o) 1 0) e in let there = there_at x k e in let o = once a root next page x in omega arith
        | None ↦ λ e. let no_key = key ∙ ap (λ (o : Option ℕ). cond {A = ℕ} (is_some o) 1 0) e in let gone = gone_at x e in omega arith
      ]) refl
    where
      there_at : (x k : ℕ) → keys_in a x ≡ Some k → 0 < tally row_serial x (alone (tree_of a root))
      there_at x k e =
          let (slot, at, serial_is) = page.arena.files.found x k e in
          subst (λ y. 0 < tally row_serial y (alone (tree_of a root))) serial_is (page.arena.reached k slot at)

      gone_at : (x : ℕ) → keys_in a x ≡ None → tally row_serial x (alone (tree_of a root)) ≡ 0
      gone_at x e = tally_absent x (alone (tree_of a root))
          (let f = subst (λ (o : Option Slot). Looks o (find_in x (tree_of a root)))
          (ap (λ (o : Option ℕ). option_and_then (slots_in a) o) e) (looks a root next page x) in ap
          (λ (o : Option (Branch PageRow)). is_some o) f)

  pub count_is : btree_map_len a.keys ≡ branch_count (tree_of a root)
  count_is =
      let e = same_length (keys_of a.keys.entries) (serials (alone (tree_of a root))) as_often in
      let m = length-map a.keys.entries (λ e. e.0) in
      let s = length-serials (alone (tree_of a root)) in
      omega arith
