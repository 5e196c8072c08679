-- What stands above a shown node, in the page and in the shown page.
use Rattle.std.proofs.Common.{◌≡◌, ◌≢◌, ℕ, zero, suc, ◌+◌, ◌<◌, ◌≤◌, ◌==◌, Bool, true, false, cond, List, [], ◌∷◌}
use Rattle.std.proofs.Common.{map, Option, Some, None, unwrap_or, inl, inr, subst, refl, sym, ap, ◌∙◌, arith}
use Rattle.std.specs.List.{find}
use Rattle.std.specs.Option.{option_map}
use Rattle.std.proofs.lemmas.Bool.{eq-eqb, ne_eqb}
use Rattle.node_tree.specs.Nodes.{Nodes, none, node, Branch, alone}
use Rattle.node_tree.specs.Keys.{tally, first_of}
use Rattle.node_tree.proofs.KeyLemmas.{tally_cases, tally_below, find-absent, stands-find, found_key, At-tally}
use Rattle.page_tree.specs.Pages.{PageRow, row_serial, parent_at}
use Rattle.page_tree.specs.Zippers.{Generation, Zipper, all_in, has_serial, ancestors, ancestors_in, find_zipper, root_of}
use Rattle.page_tree.proofs.ZipperLemmas.{find-append, branch-found, serial_above, parent-found}
use Rattle.page_tree.proofs.WholeLemmas.{whole-valid}
use Rattle.shown_pages.specs.declared.modes.Mode.{Mode}
use Rattle.shown_pages.specs.Modes.{hidden_in}
use Rattle.shown_pages.specs.ShownPages.{shown_nodes, shown_branch}
use Rattle.shown_pages.specs.ShownLaws.{branches_above, StandsShown}
use Rattle.shown_pages.proofs.HiddenLemmas.{tally-shown}
use Rattle.shown_pages.proofs.ShownTrees.{alone-shown}
use Rattle.shown_pages.proofs.FoundLemmas.{found-both}

-- the nodes themselves, each with all below it
abbrev branches : List Generation → List (Branch PageRow)
branches above = map (λ g. g.branch) above

-- ---- the search for a node, in both pages

nothing : (o : Option Zipper) → None ≡ option_map (λ (z : Zipper). z.branch) o → o ≡ None
nothing None e = refl
nothing (Some z) e = absurd (cc)

module _ (s : ℕ) where
  -- where no node has the serial none is found
  absent : (above : List Generation) (before : List (Branch PageRow)) (n : Nodes PageRow) → tally row_serial s n ≡ 0
      → find (has_serial s) (all_in above before n) ≡ None
  absent above before n e = nothing (find (has_serial s) (all_in above before n))
      (sym (find-absent row_serial s n e) ∙ branch-found s above before n)

  -- the first tree, the search below it and the one behind it
  abbrev first_zipper : List Generation → List (Branch PageRow) → PageRow → Nodes PageRow → Nodes PageRow → Zipper
  first_zipper above before r c t = record { branch = record { row = r; children = c }; before = before; after = t; above = above }

  abbrev below_first : List Generation → List (Branch PageRow) → PageRow → Nodes PageRow → Nodes PageRow → List Zipper
  below_first above before r c t = all_in (record { branch = record { row = r; children = c }; before = before; after = t } ∷ above) [] c

  abbrev behind_first : List Generation → List (Branch PageRow) → PageRow → Nodes PageRow → Nodes PageRow → List Zipper
  behind_first above before r c t = all_in above (record { row = r; children = c } ∷ before) t

  searched : (above : List Generation) (before : List (Branch PageRow)) (r : PageRow) (c t : Nodes PageRow)
      → find (has_serial s) (all_in above before (node r c t))
      ≡ cond (r.serial == s) (Some (first_zipper above before r c t))
      (first_of (find (has_serial s) (below_first above before r c t)) (find (has_serial s) (behind_first above before r c t)))
  searched above before r c t = ap (λ (o : Option Zipper). cond (r.serial == s) (Some (first_zipper above before r c t)) o)
      (find-append (has_serial s) (below_first above before r c t) (behind_first above before r c t))

  in_first : (above : List Generation) (before : List (Branch PageRow)) (r : PageRow) (c t : Nodes PageRow) → r.serial ≡ s
      → find (has_serial s) (all_in above before (node r c t)) ≡ Some (first_zipper above before r c t)
  in_first above before r c t e = rw (eq-eqb r.serial s e) refl

  in_below : (above : List Generation) (before : List (Branch PageRow)) (r : PageRow) (c t : Nodes PageRow) (z : Zipper) → r.serial ≢ s
      → find (has_serial s) (below_first above before r c t) ≡ Some z
      → find (has_serial s) (all_in above before (node r c t)) ≡ Some z
  in_below above before r c t z other e = searched above before r c t ∙ rw (ne_eqb r.serial s other, e) refl

  in_behind : (above : List Generation) (before : List (Branch PageRow)) (r : PageRow) (c t : Nodes PageRow) (z : Zipper) → r.serial ≢ s
      → tally row_serial s c ≡ 0 → find (has_serial s) (behind_first above before r c t) ≡ Some z
      → find (has_serial s) (all_in above before (node r c t)) ≡ Some z
  in_behind above before r c t z other gone e = searched above before r c t ∙ rw (
    ne_eqb r.serial s other,
    absent (record { branch = record { row = r; children = c }; before = before; after = t } ∷ above) [] c gone,
    e,
  ) refl

  module _ (mode : Mode) where
    -- the same nodes stand above, in the shown page as they are shown
    abbrev AreAlike : List Generation → List Generation → Type 0
    AreAlike above seen = branches seen ≡ map (shown_branch mode) (branches above)

    -- both searches come to a node, and the same nodes stand above both
    record Both (above : List Generation) (before : List (Branch PageRow)) (n : Nodes PageRow) (seen : List Generation)
        (earlier : List (Branch PageRow)) (m : Nodes PageRow) : Type 0 where
      there : Zipper
      shown : Zipper
      in_page : find (has_serial s) (all_in above before n) ≡ Some there
      in_shown : find (has_serial s) (all_in seen earlier m) ≡ Some shown
      alike : AreAlike there.above shown.above

    here : (above seen : List Generation) (before earlier : List (Branch PageRow)) (r : PageRow) (c t : Nodes PageRow)
        → AreAlike above seen → r.serial ≡ s
        → Both above before (node r c t) seen earlier (node r (shown_nodes mode c) (shown_nodes mode t))
    here above seen before earlier r c t alike e = record {
      there = first_zipper above before r c t;
      shown = first_zipper seen earlier r (shown_nodes mode c) (shown_nodes mode t);
      in_page = in_first above before r c t e;
      in_shown = in_first seen earlier r (shown_nodes mode c) (shown_nodes mode t) e;
      alike = alike;
    }

    hidden-first : (r : PageRow) (c t : Nodes PageRow) → hidden_in mode r.label ≡ true
        → shown_nodes mode (node r c t) ≡ shown_nodes mode t
    hidden-first r c t is = rw is refl

    shown-first : (r : PageRow) (c t : Nodes PageRow) → hidden_in mode r.label ≡ false
        → shown_nodes mode (node r c t) ≡ node r (shown_nodes mode c) (shown_nodes mode t)
    shown-first r c t is = rw is refl

    -- the first tree is hidden
    both_past : (above seen : List Generation) (before earlier : List (Branch PageRow)) (r : PageRow) (c t : Nodes PageRow)
        → 0 < tally row_serial s (shown_nodes mode t) → tally row_serial s (node r c t) ≤ 1
        → Both above (record { row = r; children = c } ∷ before) t seen earlier (shown_nodes mode t)
        → Both above before (node r c t) seen earlier (shown_nodes mode t)
    both_past above seen before earlier r c t some once u =
        let few = tally-shown mode s t in
        elim (tally_cases row_serial s r c t) [
          | inl p ↦ absurd (omega arith)
          | inr p ↦ record {
            there = u.there;
            shown = u.shown;
            in_page = in_behind above before r c t u.there p.0 (omega arith) u.in_page;
            in_shown = u.in_shown;
            alike = u.alike;
          }
        ]

    -- the node stands below the first tree, or behind it
    both_further : (above seen : List Generation) (before earlier : List (Branch PageRow)) (r : PageRow) (c t : Nodes PageRow) (k : ℕ)
        → tally row_serial s (shown_nodes mode c) ≡ k → r.serial ≢ s
        → 0 < tally row_serial s (shown_nodes mode c) + tally row_serial s (shown_nodes mode t)
        → tally row_serial s c + tally row_serial s t ≤ 1
        → (0 < tally row_serial s (shown_nodes mode c)
        → Both (record { branch = record { row = r; children = c }; before = before; after = t } ∷ above) [] c
        (record { branch = record { row = r; children = shown_nodes mode c }; before = earlier; after = shown_nodes mode t } ∷ seen) []
        (shown_nodes mode c))
        → (0 < tally row_serial s (shown_nodes mode t)
        → Both above (record { row = r; children = c } ∷ before) t seen (record { row = r; children = shown_nodes mode c } ∷ earlier)
        (shown_nodes mode t))
        → Both above before (node r c t) seen earlier (node r (shown_nodes mode c) (shown_nodes mode t))
    both_further above seen before earlier r c t zero is other some once below behind =
        let few = tally-shown mode s t in
        let u = behind (omega arith) in
        record {
          there = u.there;
          shown = u.shown;
          in_page = in_behind above before r c t u.there other (omega arith) u.in_page;
          in_shown = in_behind seen earlier r (shown_nodes mode c) (shown_nodes mode t) u.shown other is u.in_shown;
          alike = u.alike;
        }
    both_further above seen before earlier r c t (suc k) is other some once below behind =
        let u = below (omega arith) in
        record {
          there = u.there;
          shown = u.shown;
          in_page = in_below above before r c t u.there other u.in_page;
          in_shown = in_below seen earlier r (shown_nodes mode c) (shown_nodes mode t) u.shown other u.in_shown;
          alike = u.alike;
        }

    both_step : (h : Bool) (above seen : List Generation) (before earlier : List (Branch PageRow)) (r : PageRow) (c t : Nodes PageRow)
        → hidden_in mode r.label ≡ h → AreAlike above seen → 0 < tally row_serial s (shown_nodes mode (node r c t))
        → tally row_serial s (node r c t) ≤ 1
        → (0 < tally row_serial s (shown_nodes mode c)
        → Both (record { branch = record { row = r; children = c }; before = before; after = t } ∷ above) [] c
        (record { branch = record { row = r; children = shown_nodes mode c }; before = earlier; after = shown_nodes mode t } ∷ seen) []
        (shown_nodes mode c))
        → ((to : List (Branch PageRow)) → 0 < tally row_serial s (shown_nodes mode t)
        → Both above (record { row = r; children = c } ∷ before) t seen to (shown_nodes mode t))
        → Both above before (node r c t) seen earlier (shown_nodes mode (node r c t))
    both_step true above seen before earlier r c t is alike some once below behind =
        let later : 0 < tally row_serial s (shown_nodes mode t) =
        subst (λ (m : Nodes PageRow). 0 < tally row_serial s m) (hidden-first r c t is) some in
        subst (λ (m : Nodes PageRow). Both above before (node r c t) seen earlier m) (sym (hidden-first r c t is))
        (both_past above seen before earlier r c t later once (behind earlier later))
    both_step false above seen before earlier r c t is alike some once below behind =
        let there : 0 < tally row_serial s (node r (shown_nodes mode c) (shown_nodes mode t)) =
        subst (λ (m : Nodes PageRow). 0 < tally row_serial s m) (shown-first r c t is) some in
        subst (λ (m : Nodes PageRow). Both above before (node r c t) seen earlier m) (sym (shown-first r c t is))
        (elim (tally_cases row_serial s r (shown_nodes mode c) (shown_nodes mode t)) [
          | inl p ↦ here above seen before earlier r c t alike p.0
          | inr p ↦ let k = tally_below row_serial s r c t in
              both_further above seen before earlier r c t (tally row_serial s (shown_nodes mode c)) refl p.0 (omega arith) (omega arith)
              below (behind (record { row = r; children = shown_nodes mode c } ∷ earlier))
        ])

    both : (above seen : List Generation) (before earlier : List (Branch PageRow)) (n : Nodes PageRow) → AreAlike above seen
        → 0 < tally row_serial s (shown_nodes mode n) → tally row_serial s n ≤ 1 → Both above before n seen earlier (shown_nodes mode n)
    both above seen before earlier none alike some once = absurd (omega arith)
    both above seen before earlier (node r c t) alike some once =
        let k = tally_below row_serial s r c t in
        both_step (hidden_in mode r.label) above seen before earlier r c t refl alike some once
        (λ in_c. both (record { branch = record { row = r; children = c }; before = before; after = t } ∷ above)
        (record { branch = record { row = r; children = shown_nodes mode c }; before = earlier; after = shown_nodes mode t } ∷ seen) [] [] c
        (ap (λ (l : List (Branch PageRow)). record { row = r; children = shown_nodes mode c } ∷ l) alike) in_c (omega arith))
        (λ to in_t. both above seen (record { row = r; children = c } ∷ before) to t alike in_t (omega arith))

-- ---- what the searches come to

-- the serial of the first of them; 0 where there is none
abbrev nearest : List (Branch PageRow) → ℕ
nearest [] = 0
nearest (b ∷ bs) = b.row.serial

nearest-above : (above : List Generation) → serial_above above ≡ nearest (branches above)
nearest-above [] = refl
nearest-above (g ∷ above) = refl

nearest-shown : (mode : Mode) (bs : List (Branch PageRow)) → nearest (map (shown_branch mode) bs) ≡ nearest bs
nearest-shown mode [] = refl
nearest-shown mode (b ∷ bs) = refl

ancestors-branches : (above : List Generation) → map (λ z. z.branch) (ancestors_in above) ≡ branches above
ancestors-branches [] = refl
ancestors-branches (g ∷ above) = ap (λ (l : List (Branch PageRow)). g.branch ∷ l) (ancestors-branches above)

module _ (s : ℕ) (tree : Branch PageRow) (z : Zipper) (found : find_zipper s tree ≡ Some z) where
  parent_is : parent_at s tree ≡ nearest (branches z.above)
  parent_is =
      ap (λ (o : Option ℕ). unwrap_or o 0) (parent-found s [] [] (alone tree)
      ∙ ap (λ (o : Option Zipper). option_map (λ (w : Zipper). serial_above w.above) o) found)
      ∙ nearest-above z.above

  above_is : branches_above s tree ≡ branches z.above
  above_is =
      ap (λ (o : Option Zipper). map (λ w. w.branch) (ancestors (unwrap_or o (root_of tree)))) found ∙ ancestors-branches z.above

pub stands-shown : StandsShown
stands-shown mode page serial valid live =
    let whole = whole-valid page valid in
    let f = found-both mode page serial valid live in
    let tree : Branch PageRow = shown_branch mode page.tree in
    let stands = stands-find row_serial serial (alone (shown_branch mode page.tree)) (shown_branch mode f.branch) f.in_shown in
    let key = found_key row_serial serial (alone (shown_branch mode page.tree)) (shown_branch mode f.branch) f.in_shown in
    let same = alone-shown mode page.tree whole in
    let some : 0 < tally row_serial serial (alone (shown_branch mode page.tree)) =
    subst (λ (k : ℕ). 0 < tally row_serial k (alone (shown_branch mode page.tree))) key (At-tally row_serial stands.2) in
    let b = both serial mode [] [] [] [] (alone page.tree) refl
    (subst (λ (m : Nodes PageRow). 0 < tally row_serial serial m) (sym same) some) (whole.distinct serial) in
    let shown : find_zipper serial (shown_branch mode page.tree) ≡ Some b.shown =
    ap (λ (m : Nodes PageRow). find (has_serial serial) (all_in [] [] m)) (sym same) ∙ b.in_shown in
    record {
      parent = parent_is serial (shown_branch mode page.tree) b.shown shown ∙ ap nearest b.alike
          ∙ nearest-shown mode (branches b.there.above) ∙ sym (parent_is serial page.tree b.there b.in_page);
      above = above_is serial (shown_branch mode page.tree) b.shown shown ∙ b.alike
          ∙ ap (map (shown_branch mode)) (sym (above_is serial page.tree b.there b.in_page));
    }
