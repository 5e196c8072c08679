-- From the top down and from the bottom up.
use Rattle.std.proofs.Common.{◌≡◌, ◌≢◌, ℕ, zero, suc, ◌+◌, ◌<◌, ◌≤◌, ◌==◌, Bool, true, false, cond, List, [], ◌∷◌, ◌++◌, map, reverse}
use Rattle.std.proofs.Common.{Option, Some, None}
use Rattle.std.proofs.Common.{unwrap_or, filter, not, length, IsSome, refl, sym, ap, subst, ◌∙◌, arith}
use Rattle.std.proofs.lemmas.Bool.{eqb-true, ne_eqb}
use Rattle.std.specs.List.{find}
use Rattle.std.specs.Option.{option_map, is_some}
use Rattle.std.proofs.lemmas.List.{append_assoc, append-nil, map-append, reverse-append, reverse-reverse}
use Rattle.node_tree.specs.Nodes.{Nodes, none, node, Branch, alone}
use Rattle.node_tree.specs.Keys.{has, tally, first_of}
use Rattle.node_tree.proofs.KeyLemmas.{has-find, has-absent}
use Rattle.page_tree.specs.Pages.{PageRow, row_serial, find_in, node_at, parent_at, times_in}
use Rattle.page_tree.proofs.ZipperLemmas.{find-append, branch-found, AreApart, IsOf, find-of, of-find, some_times, serial_above}
use Rattle.page_tree.proofs.SiblingLemmas.{live-of, parent_at-of, parent_by, at_top, under}
use Rattle.select_match.proofs.WalkLemmas.{from, ancestors-from, walk-start}
use Rattle.page_tree.specs.Zippers.{Generation, Zipper, ancestors, ancestors_in, parent_of, serial_of, all_in, has_serial, zipper_at}
use Rattle.page_tree.specs.Zippers.{zippers, find_zipper, root_of}
use Rattle.dom_agent.specs.Requests.{Opening, ancestors_down, pushing}
use Rattle.dom_agent.specs.Climbs.{climbed, unopened_at, up_openings}

module _ (s : ℕ) where
  found : (above : List Generation) (before : List (Branch PageRow)) (n : Nodes PageRow)
      → has row_serial s n ≡ is_some (option_map (λ z. z.branch) (find (has_serial s) (all_in above before n)))
  found above before n = has-find row_serial s n ∙ ap (λ (o : Option (Branch PageRow)). is_some o) (branch-found s above before n)

  has_some : (above : List Generation) (before : List (Branch PageRow)) (n : Nodes PageRow) (o : Option Zipper)
      → find (has_serial s) (all_in above before n) ≡ o → has row_serial s n ≡ is_some (option_map (λ z. z.branch) o)
  has_some above before n o e =
      found above before n ∙ ap (λ (p : Option Zipper). is_some (option_map (λ z. z.branch) p)) e

  none_down : (n : Nodes PageRow) → tally row_serial s n ≡ 0 → ancestors_down s n ≡ []
  none_down none e = refl
  none_down (node r c t) e =
      let here : tally row_serial s c ≡ 0 = omega arith in
      let rest : tally row_serial s t ≡ 0 = omega arith in
      ap (λ (b : Bool). cond b (record { row = r; children = c } ∷ ancestors_down s c) (ancestors_down s t))
      (has-absent row_serial s c here)
      ∙ none_down t rest

  -- a generation more
  climbed-more : (g : Generation) (above : List Generation) → climbed (g ∷ above) ≡ climbed above ++ g.branch ∷ []
  climbed-more g above = reverse-append (g.branch ∷ []) (map (λ a. a.branch) (ancestors_in above))

  -- the parts of a search
  parts : (r : PageRow) (c t : Nodes PageRow) (above : List Generation) (here z : Zipper) (b : Bool) (u v : Option Zipper)
      → (b ≡ true → tally row_serial s c ≡ 0) → (b ≡ true → tally row_serial s t ≡ 0) → here.above ≡ above
      → has row_serial s c ≡ is_some (option_map (λ w. w.branch) u)
      → ((w : Zipper) → u ≡ Some w → climbed w.above ≡ (climbed above ++ record { row = r; children = c } ∷ []) ++ ancestors_down s c)
      → ((w : Zipper) → v ≡ Some w → climbed w.above ≡ climbed above ++ ancestors_down s t)
      → cond b (Some here) (first_of u v) ≡ Some z → climbed z.above ≡ climbed above ++ ancestors_down s (node r c t)
  parts r c t above here z true u v no_c no_t same h in_c in_t e =
      let is : here ≡ z = cc in
      let nothing : ancestors_down s (node r c t) ≡ [] =
      ap (λ (b : Bool). cond b (record { row = r; children = c } ∷ ancestors_down s c) (ancestors_down s t))
      (has-absent row_serial s c (no_c refl))
      ∙ none_down t (no_t refl) in
      ap (λ (w : Zipper). climbed w.above) (sym is) ∙ ap (λ (l : List Generation). climbed l) same
      ∙ sym (ap (λ (l : List (Branch PageRow)). climbed above ++ l) nothing ∙ append-nil (climbed above))
  parts r c t above here z false (Some w) v no_c no_t same h in_c in_t e =
      let is : w ≡ z = cc in
      ap (λ (x : Zipper). climbed x.above) (sym is) ∙ in_c w refl
      ∙ append_assoc (climbed above) (record { row = r; children = c } ∷ []) (ancestors_down s c)
      ∙ ap (λ (b : Bool). climbed above ++ cond b (record { row = r; children = c } ∷ ancestors_down s c) (ancestors_down s t)) (sym h)
  parts r c t above here z false None v no_c no_t same h in_c in_t e =
      in_t z e ∙ ap (λ (b : Bool). climbed above ++ cond b (record { row = r; children = c } ∷ ancestors_down s c) (ancestors_down s t))
      (sym h)

  once : (b : Bool) (x y : ℕ) → cond {A = ℕ} b 1 0 + x + y ≤ 1 → b ≡ true → (x ≡ 0) × (y ≡ 0)
  once true x y e f = (omega arith, omega arith)
  once false x y e f = absurd (cc)

  less : (b : Bool) (x y : ℕ) → cond {A = ℕ} b 1 0 + x + y ≤ 1 → (x ≤ 1) × (y ≤ 1)
  less true x y e = (omega arith, omega arith)
  less false x y e = (omega arith, omega arith)

  climb : (above : List Generation) (before : List (Branch PageRow)) (n : Nodes PageRow) → tally row_serial s n ≤ 1 → (z : Zipper)
      → find (has_serial s) (all_in above before n) ≡ Some z → climbed z.above ≡ climbed above ++ ancestors_down s n
  climb above before none few z e = absurd (cc)
  climb above before (node r c t) few z e =
      let here : Zipper = record { branch = record { row = r; children = c }; before = before; after = t; above = above } in
      let g : Generation = record { branch = record { row = r; children = c }; before = before; after = t } in
      let xs = all_in (record { branch = record { row = r; children = c }; before = before; after = t } ∷ above) [] c in
      let ys = all_in above (record { row = r; children = c } ∷ before) t in
      let fewer = less (r.serial == s) (tally row_serial s c) (tally row_serial s t) few in
      parts r c t above here z (r.serial == s) (find (has_serial s) xs) (find (has_serial s) ys)
      (λ f. (once (r.serial == s) (tally row_serial s c) (tally row_serial s t) few f).0)
      (λ f. (once (r.serial == s) (tally row_serial s c) (tally row_serial s t) few f).1)
      refl
      (has_some (g ∷ above) [] c (find (has_serial s) xs) refl)
      (λ w f. climb (g ∷ above) [] c fewer.0 w f ∙ ap (λ (l : List (Branch PageRow)). l ++ ancestors_down s c) (climbed-more g above))
      (λ w f. climb above (record { row = r; children = c } ∷ before) t fewer.1 w f)
      (ap (λ (o : Option Zipper). cond (r.serial == s) (Some here) o) (sym (find-append (has_serial s) xs ys)) ∙ e)

  at_some : (tree : Branch PageRow) (o : Option Zipper) → find_zipper s tree ≡ o → is_some (option_map (λ z. z.branch) o) ≡ true
      → find_zipper s tree ≡ Some (unwrap_or o (root_of tree))
  at_some tree (Some z) e f = e
  at_some tree None e f = absurd (cc)

  pub climb-law : (tree : Branch PageRow) → has row_serial s (alone tree) ≡ true → tally row_serial s (alone tree) ≤ 1
      → climbed (zipper_at s tree).above ≡ ancestors_down s (alone tree)
  climb-law tree there few =
      climb [] [] (alone tree) few (zipper_at s tree)
      (at_some tree (find_zipper s tree) refl (sym (found [] [] (alone tree)) ∙ there))

-- ---- openings

filtered-append : (q : Branch PageRow → Bool) (xs ys : List (Branch PageRow)) → filter q (xs ++ ys) ≡ filter q xs ++ filter q ys
filtered-append q [] ys = refl
filtered-append q (x ∷ xs) ys = ap (λ (l : List (Branch PageRow)). cond (q x) (x ∷ l) l) (filtered-append q xs ys) ∙ by (q x)
  where
    by : (b : Bool)
        → cond b (x ∷ (filter q xs ++ filter q ys)) (filter q xs ++ filter q ys) ≡ cond b (x ∷ filter q xs) (filter q xs) ++ filter q ys
    by true = refl
    by false = refl

module _ (o : ℕ → Bool) where
  abbrev kept : Branch PageRow → Bool
  kept x = not (o x.row.serial)

  abbrev made : Branch PageRow → Opening
  made x = record { levels = Some 1; node = x }

  -- what is climbed to, turned
  turned : (xs : List (Branch PageRow)) → map made (filter kept (reverse xs)) ≡ reverse (map made (filter kept xs))
  turned [] = refl
  turned (x ∷ xs) =
      ap (λ (l : List (Branch PageRow)). map made (filter kept l)) (reverse-append (x ∷ []) xs)
      ∙ ap (λ (l : List (Branch PageRow)). map made l) (filtered-append kept (reverse xs) (x ∷ []))
      ∙ map-append made (filter kept (reverse xs)) (filter kept (x ∷ []))
      ∙ ap (λ (l : List Opening). l ++ map made (filter kept (x ∷ []))) (turned xs)
      ∙ by (kept x)
    where
      by : (b : Bool) → reverse (map made (filter kept xs)) ++ map made (cond b (x ∷ []) [])
          ≡ reverse (map made (cond b (x ∷ filter kept xs) (filter kept xs)))
      by true = sym (reverse-append (made x ∷ []) (map made (filter kept xs)))
      by false = append-nil (reverse (map made (filter kept xs)))

  pub climbed-pushing : (s : ℕ) (tree : Branch PageRow) → has row_serial s (alone tree) ≡ true → tally row_serial s (alone tree) ≤ 1
      → reverse (up_openings o (ancestors (zipper_at s tree))) ≡ pushing o s (alone tree)
  climbed-pushing s tree there few =
      sym (turned (map (λ a. a.branch) (ancestors (zipper_at s tree))))
      ∙ ap (λ (l : List (Branch PageRow)). map made (filter kept l)) (climb-law s tree there few)

  -- one node more
  pub up-one : (tree : Branch PageRow) (q : Zipper) (zs : List Zipper) → node_at (serial_of q) tree ≡ q.branch
      → up_openings o (q ∷ zs) ≡ unopened_at o (serial_of q) (node_at (serial_of q) tree) ++ up_openings o zs
  up-one tree q zs e = by (o (serial_of q)) ∙ ap (λ (b : Branch PageRow). unopened_at o (serial_of q) b ++ up_openings o zs) (sym e)
    where
      by : (b : Bool) → map made (cond (not b) (q.branch ∷ filter kept (map (λ a. a.branch) zs)) (filter kept (map (λ a. a.branch) zs)))
          ≡ cond b [] (record { levels = Some 1; node = q.branch } ∷ []) ++ up_openings o zs
      by true = refl
      by false = refl

-- a node of the tree, and its parent
pub at-of : (tree : Branch PageRow) → AreApart tree → (q : Zipper) → IsOf tree q → find_in (serial_of q) tree ≡ Some q.branch
at-of tree apart q fits = live-of tree (serial_of q) q (find-of tree apart q fits)

pub node-of : (tree : Branch PageRow) → AreApart tree → (q : Zipper) → IsOf tree q → node_at (serial_of q) tree ≡ q.branch
node-of tree apart q fits = ap (λ (o : Option (Branch PageRow)). unwrap_or o tree) (at-of tree apart q fits)

pub of-live : (tree : Branch PageRow) (s : ℕ) → IsSome (find_in s tree) → IsOf tree (zipper_at s tree)
of-live tree s live = of-find tree s (zipper_at s tree) (at_some s tree (find_zipper s tree) refl (there (find_zipper s tree) refl))
  where
    there : (o : Option Zipper) → find_zipper s tree ≡ o → is_some (option_map (λ z. z.branch) o) ≡ true
    there (Some z) e = refl
    there None e =
        absurd (is_none (find_in s tree)
        (sym (branch-found s [] [] (alone tree) ∙ ap (λ (p : Option Zipper). option_map (λ z. z.branch) p) e)) live)
      where
        is_none : (p : Option (Branch PageRow)) → None ≡ p → IsSome p → ⊥
        is_none None f h = absurd (cc)
        is_none (Some b) f h = absurd (cc)

-- ---- a walk up by serials

-- the node of that serial and those above it; none where the serial is 0
abbrev pub climb_at : ℕ → Branch PageRow → List Zipper
climb_at serial tree = cond (serial == 0) [] (zipper_at serial tree ∷ ancestors (zipper_at serial tree))

climb-found : (tree : Branch PageRow) (k : ℕ) (p : Zipper) → 1 ≤ k → find_zipper k tree ≡ Some p → climb_at k tree ≡ p ∷ ancestors p
climb-found tree k p some e =
    ap (λ (b : Bool). cond b [] (zipper_at k tree ∷ ancestors (zipper_at k tree)))
    (ne_eqb k 0 (λ (is : k ≡ 0). no_zero k some is))
    ∙ ap (λ (o : Option Zipper). unwrap_or o (root_of tree) ∷ ancestors (unwrap_or o (root_of tree))) e
  where
    no_zero : (k : ℕ) → 1 ≤ k → k ≢ 0
    no_zero k h is = absurd (omega arith)

found_at : (tree : Branch PageRow) (s : ℕ) → IsSome (find_in s tree) → find_zipper s tree ≡ Some (zipper_at s tree)
found_at tree s live =
    at_some s tree (find_zipper s tree) refl
    (ap (λ (o : Option (Branch PageRow)). is_some o) (sym (branch-found s [] [] (alone tree))) ∙ live)

-- the first of that serial has that serial
serial_by : (k : ℕ) (y : Zipper) (rest : Option Zipper) (z : Zipper) (b : Bool) → (rest ≡ Some z → serial_of z ≡ k)
    → (serial_of y == k) ≡ b → cond b (Some y) rest ≡ Some z → serial_of z ≡ k
serial_by k y rest z true later is f = let same : y ≡ z = cc in ap serial_of (sym same) ∙ eqb-true (serial_of y) k is
serial_by k y rest z false later is f = later f

first_serial : (k : ℕ) (zs : List Zipper) (z : Zipper) → find (has_serial k) zs ≡ Some z → serial_of z ≡ k
first_serial k [] z e = absurd (cc)
first_serial k (y ∷ ys) z e =
    serial_by k y (find (has_serial k) ys) z (serial_of y == k) (λ later. first_serial k ys z later) refl e

found_serial : (tree : Branch PageRow) (k : ℕ) (z : Zipper) → find_zipper k tree ≡ Some z → serial_of z ≡ k
found_serial tree k z e = first_serial k (zippers tree) z e

past_zero : (k : ℕ) → k ≢ 0 → 1 ≤ k
past_zero zero some = absurd (some refl)
past_zero (suc k) some = omega arith

module _ (tree : Branch PageRow) (apart : AreApart tree) (least : (s : ℕ) → 0 < times_in s tree → 1 ≤ s) where
  -- what stands above a node is its parent, by the serial, and what stands above that
  pub climb-parent : (s : ℕ) → IsSome (find_in s tree) → ancestors (zipper_at s tree) ≡ climb_at (parent_at s tree) tree
  climb-parent s live =
      let z = zipper_at s tree in
      let above = walk-start ancestors ancestors-from z (parent_of z) refl in
      let named = parent_at-of tree s z (found_at tree s live) in
      sym above ∙ (elim (parent_by tree apart z (of-live tree s live)) [
        | at_top is nothing ↦ ap (from ancestors) nothing ∙ sym (ap (λ (k : ℕ). climb_at k tree) (named ∙ is))
        | under p leads is found ↦ ap (from ancestors) leads
            ∙ sym (climb-found tree (serial_of p) p (least (serial_of p)
            (some_times tree p (ap (λ (k : ℕ). find_zipper k tree) is ∙ found)))
            (ap (λ (k : ℕ). find_zipper k tree) is ∙ found))
            ∙ ap (λ (k : ℕ). climb_at k tree) (is ∙ sym named)
      ])

  -- a parent stands in the tree, if there is one
  pub parent-there : (s : ℕ) → IsSome (find_in s tree) → parent_at s tree ≢ 0 → IsSome (find_in (parent_at s tree) tree)
  parent-there s live some =
      let z = zipper_at s tree in
      let named = parent_at-of tree s z (found_at tree s live) in
      elim (parent_by tree apart z (of-live tree s live)) [
        | at_top is nothing ↦ absurd (some (named ∙ is))
        | under p leads is found ↦ subst (λ (o : Option (Branch PageRow)). IsSome o)
            (sym (ap (λ (k : ℕ). find_in k tree) named ∙ live-of tree (serial_above z.above) p found)) refl
      ]

  -- one node more
  pub climb-step : (o : ℕ → Bool) (at next : ℕ) → at ≢ 0 → IsSome (find_in at tree) → next ≡ parent_at at tree
      → (old new whole : List Opening) → new ≡ old ++ unopened_at o at (node_at at tree)
      → old ++ up_openings o (climb_at at tree) ≡ whole → new ++ up_openings o (climb_at next tree) ≡ whole
  climb-step o at next some live step old new whole added inv =
      let z = zipper_at at tree in
      let found = found_at tree at live in
      let is : serial_of z ≡ at = found_serial tree at z found in
      ap (λ (l : List Opening). l ++ up_openings o (climb_at next tree)) added
      ∙ append_assoc old (unopened_at o at (node_at at tree)) (up_openings o (climb_at next tree))
      ∙ ap (λ (n : ℕ). old ++ (unopened_at o n (node_at n tree) ++ up_openings o (climb_at next tree))) (sym is)
      ∙ ap (λ (k : ℕ). old ++ (unopened_at o (serial_of z) (node_at (serial_of z) tree) ++ up_openings o (climb_at k tree))) step
      ∙ ap (λ (zs : List Zipper). old ++ (unopened_at o (serial_of z) (node_at (serial_of z) tree) ++ up_openings o zs))
      (sym (climb-parent at live))
      ∙ ap (λ (l : List Opening). old ++ l) (sym (up-one o tree z (ancestors z) (node-of tree apart z (of-live tree at live))))
      ∙ ap (λ (zs : List Zipper). old ++ up_openings o zs) (sym (climb-found tree at z (past_zero at some) found))
      ∙ inv

  -- fewer stand above the parent
  pub climb-smaller : (at next : ℕ) → at ≢ 0 → IsSome (find_in at tree) → next ≡ parent_at at tree
      → length (climb_at next tree) < length (climb_at at tree)
  climb-smaller at next some live step =
      omega (
        arith,
        ap (λ (k : ℕ). length (climb_at k tree)) step,
        ap (λ (zs : List Zipper). length zs) (climb-parent at live),
        ap (λ (zs : List Zipper). length zs) (climb-found tree at (zipper_at at tree) (past_zero at some) (found_at tree at live)),
      )

-- nothing is left above the top
pub climb-end : (o : ℕ → Bool) (tree : Branch PageRow) (at : ℕ) (old whole : List Opening) → at ≡ 0
    → old ++ up_openings o (climb_at at tree) ≡ whole → old ≡ whole
climb-end o tree at old whole is inv =
    sym (append-nil old) ∙ sym (ap (λ (k : ℕ). old ++ up_openings o (climb_at k tree)) is) ∙ inv

pub climbed-turned : (o : ℕ → Bool) (s : ℕ) (tree : Branch PageRow) → has row_serial s (alone tree) ≡ true
    → tally row_serial s (alone tree) ≤ 1 → up_openings o (ancestors (zipper_at s tree)) ≡ reverse (pushing o s (alone tree))
climbed-turned o s tree there few =
    sym (reverse-reverse (up_openings o (ancestors (zipper_at s tree))))
    ∙ ap (λ (l : List Opening). reverse l) (climbed-pushing o s tree there few)
