-- Which nodes of a page stand in the shown page.
use Rattle.std.proofs.Common.{◌≡◌, ◌⊎◌, ℕ, zero, suc, ◌+◌, ◌<◌, ◌≤◌, ◌==◌, Bool, true, false, cond, List, [], ◌∷◌, Option, Some, None}
use Rattle.std.proofs.Common.{IsSome, unwrap_or, inl, inr, subst, refl, sym, ap, ◌∙◌, arith}
use Rattle.std.specs.Option.{option_map, option_and_then}
use Rattle.std.proofs.lemmas.Bool.{eqb-true}
use Rattle.node_tree.specs.Nodes.{Nodes, none, node, Branch, alone}
use Rattle.node_tree.specs.Keys.{tally, find, first_of}
use Rattle.node_tree.specs.Labels.{holds}
use Rattle.node_tree.specs.declared.Kind.{Kind}
use Rattle.node_tree.proofs.KeyLemmas.{has-there, tally_cases, tally_row, tally_below, find-absent, stands-find}
use Rattle.node_tree.proofs.ChangeLemmas.{tally_in-at}
use Rattle.page_tree.specs.Pages.{PageRow, row_serial, PageValue, IsValid, find_in}
use Rattle.page_tree.specs.Members.{IsIn, at_head, in_tail}
use Rattle.page_tree.specs.Zippers.{Generation, Zipper, generation_of, serial_of, all_in, below, root_of, find_zipper, zipper_at}
use Rattle.page_tree.proofs.ZipperLemmas.{IsIn-append, branch-found}
use Rattle.page_tree.proofs.WholeLemmas.{Sound, whole-valid, sound-there}
use Rattle.shown_pages.specs.declared.modes.Mode.{Mode}
use Rattle.shown_pages.specs.Modes.{hidden_in}
use Rattle.shown_pages.specs.ShownPages.{shown_nodes, shown_branch, shown_page}
use Rattle.shown_pages.specs.ShownLaws.{shown_if, FoundShown, BelowShown}
use Rattle.shown_pages.proofs.HiddenLemmas.{hidden-bare, holder-shown, either, tally-shown}
use Rattle.shown_pages.proofs.ShownTrees.{held_by, alone-shown}

-- ---- what is found

-- below what is no container there is nothing
childless : (k : Kind) (n : Nodes PageRow) → Sound (Some k) n → holds k ≡ false → n ≡ none
childless k none s e = refl
childless k (node r c t) (fits, below, beside) e =
    absurd (let f : true ≡ false = sym (held_by _ (holds k) _ fits.stands) ∙ e in cc)

-- of two numbers that are 1 at most together, one is 0
one_side : (x y : ℕ) → x + y ≤ 1 → (x ≡ 0) ⊎ (y ≡ 0)
one_side zero y h = inl refl
one_side (suc x) y h = inr (omega arith)

first-none : {A : Type 0} (o : Option A) → first_of o None ≡ o
first-none None = refl
first-none (Some x) = refl

module _ (mode : Mode) where
  -- what was found, if it is shown
  abbrev seen : Option (Branch PageRow) → Option (Branch PageRow)
  seen o = option_and_then (shown_if mode) o

  -- what is found among what is shown, where the first tree is hidden or shown
  abbrev found_by : Bool → Bool → PageRow → Nodes PageRow → Option (Branch PageRow) → Option (Branch PageRow) → Option (Branch PageRow)
  found_by true b r c below beside = beside
  found_by false b r c below beside =
      cond b (Some (record { row = r; children = shown_nodes mode c })) (first_of below beside)

  -- it is not among the children
  not_below : (h b : Bool) (r : PageRow) (c : Nodes PageRow) (u v below beside : Option (Branch PageRow)) → hidden_in mode r.label ≡ h
      → (b ≡ true → beside ≡ None) → u ≡ None → below ≡ None → beside ≡ seen v
      → found_by h b r c below beside ≡ seen (cond b (Some (record { row = r; children = c })) (first_of u v))
  not_below true true r c u v below beside is gone e f g = rw is (gone refl)
  not_below true false r c u v below beside is gone e f g = rw e g
  not_below false true r c u v below beside is gone e f g = rw is refl
  not_below false false r c u v below beside is gone e f g = rw (e, f) g

  -- it is not among the trees behind the first
  not_beside : (h b : Bool) (r : PageRow) (c : Nodes PageRow) (u v below beside : Option (Branch PageRow)) → hidden_in mode r.label ≡ h
      → (h ≡ true → u ≡ None) → v ≡ None → beside ≡ None → below ≡ seen u
      → found_by h b r c below beside ≡ seen (cond b (Some (record { row = r; children = c })) (first_of u v))
  not_beside true true r c u v below beside is bare e f g = rw is f
  not_beside true false r c u v below beside is bare e f g = rw (bare refl, e) f
  not_beside false true r c u v below beside is bare e f g = rw is refl
  not_beside false false r c u v below beside is bare e f g =
      rw (e, f) (first-none below ∙ g ∙ ap seen (sym (first-none u)))

  by_mode : (s : ℕ) (h : Bool) (r : PageRow) (c t : Nodes PageRow) → hidden_in mode r.label ≡ h
      → found_by h (r.serial == s) r c (find row_serial s (shown_nodes mode c)) (find row_serial s (shown_nodes mode t))
      ≡ find row_serial s (shown_nodes mode (node r c t))
  by_mode s true r c t is = rw is refl
  by_mode s false r c t is = rw is refl

  find-shown : (s : ℕ) (above : Option Kind) (n : Nodes PageRow) → Sound above n → tally row_serial s n ≤ 1
      → find row_serial s (shown_nodes mode n) ≡ seen (find row_serial s n)
  find-shown s above none sound once = refl
  find-shown s above (node r c t) (fits, below, beside) once =
      let k = tally_below row_serial s r c t in
      let hc = tally-shown mode s c in
      let ht = tally-shown mode s t in
      let in_c : find row_serial s (shown_nodes mode c) ≡ seen (find row_serial s c) =
      find-shown s (Some r.label.kind) c below (omega arith) in
      let in_t : find row_serial s (shown_nodes mode t) ≡ seen (find row_serial s t) = find-shown s above t beside (omega arith) in
      let bare : hidden_in mode r.label ≡ true → find row_serial s c ≡ None =
      λ e. ap (find row_serial s) (childless r.label.kind c below (hidden-bare mode r.label e)) in
      sym (by_mode s (hidden_in mode r.label) r c t refl) ∙ elim (one_side (tally row_serial s c) (tally row_serial s t) (omega arith)) [
        | inl z ↦ not_below (hidden_in mode r.label) (r.serial == s) r c (find row_serial s c) (find row_serial s t)
            (find row_serial s (shown_nodes mode c)) (find row_serial s (shown_nodes mode t)) refl
            (λ e. find-absent row_serial s (shown_nodes mode t) (gone_beside e)) (find-absent row_serial s c z)
            (find-absent row_serial s (shown_nodes mode c) (omega arith)) in_t
        | inr z ↦ not_beside (hidden_in mode r.label) (r.serial == s) r c (find row_serial s c) (find row_serial s t)
            (find row_serial s (shown_nodes mode c)) (find row_serial s (shown_nodes mode t)) refl bare (find-absent row_serial s t z)
            (find-absent row_serial s (shown_nodes mode t) (omega arith)) in_c
      ]
    where
      gone_beside : (r.serial == s) ≡ true → tally row_serial s (shown_nodes mode t) ≡ 0
      gone_beside e = let l = tally-shown mode s t in elim (tally_cases row_serial s r c t) [
        | inl p ↦ omega arith
        | inr p ↦ absurd (p.0 (eqb-true r.serial s e))
      ]

pub found-shown : FoundShown
found-shown mode page serial valid =
    let whole = whole-valid page valid in
    ap (find row_serial serial) (sym (alone-shown mode page.tree whole))
    ∙ find-shown mode serial None (alone page.tree) whole.sound (whole.distinct serial)

-- ---- a node that a mode shows

-- what was found before it was looked whether it is shown
record Shows (mode : Mode) (o : Option (Branch PageRow)) : Type 0 where
  branch : Branch PageRow
  there : o ≡ Some branch
  shown : option_and_then (shown_if mode) o ≡ Some (shown_branch mode branch)

shows_by : (mode : Mode) (b : Branch PageRow) (h : Bool) → hidden_in mode b.row.label ≡ h
    → IsSome (cond h None (Some (shown_branch mode b))) → Shows mode (Some b)
shows_by mode b true is e = absurd (cc)
shows_by mode b false is e = record { branch = b; there = refl; shown = rw is refl }

shows : (mode : Mode) (o : Option (Branch PageRow)) → IsSome (option_and_then (shown_if mode) o) → Shows mode o
shows mode None e = absurd (cc)
shows mode (Some b) e = shows_by mode b (hidden_in mode b.row.label) refl e

-- what is found in the shown page under that serial, and what is found there in the page
pub record Found (mode : Mode) (serial : ℕ) (page : PageValue) : Type 0 where
  pub branch : Branch PageRow
  pub in_page : find_in serial page.tree ≡ Some branch
  pub in_shown : find_in serial (shown_page mode page).tree ≡ Some (shown_branch mode branch)

pub found-both : (mode : Mode) (page : PageValue) (serial : ℕ) → IsValid page → IsSome (find_in serial (shown_page mode page).tree)
    → Found mode serial page
found-both mode page serial valid live =
    let e = found-shown mode page serial valid in
    let s = shows mode (find_in serial page.tree) (subst (λ (o : Option (Branch PageRow)). IsSome o) e live) in
    record { branch = s.branch; in_page = s.there; in_shown = e ∙ s.shown }

-- ---- below a shown node

none_in : {A : Type 0} {x : A} → IsIn x [] → ⊥
none_in i = elim i [ ]

-- what stands below a node holds
holder_in : (k : Kind) (n : Nodes PageRow) (g : List Generation) (before : List (Branch PageRow)) (z : Zipper)
    → IsIn z (all_in g before n) → Sound (Some k) n → holds k ≡ true
holder_in k none g before z i s = absurd (none_in i)
holder_in k (node r c t) g before z i (fits, below, beside) = held_by _ (holds k) _ fits.stands

module _ (mode : Mode) (s : ℕ) where
  among_later : (r : PageRow) (c t : Nodes PageRow) → 0 < tally row_serial s (shown_nodes mode t)
      → 0 < tally row_serial s (shown_nodes mode (node r c t))
  among_later r c t h = either (λ m. 0 < tally row_serial s m) (hidden_in mode r.label) (shown_nodes mode t)
      (node r (shown_nodes mode c) (shown_nodes mode t)) (λ _. h)
      (λ _. let k = tally_below row_serial s r (shown_nodes mode c) (shown_nodes mode t) in omega arith)

  among_children : (r : PageRow) (c t : Nodes PageRow) → hidden_in mode r.label ≡ false → 0 < tally row_serial s (shown_nodes mode c)
      → 0 < tally row_serial s (shown_nodes mode (node r c t))
  among_children r c t e h = rw e (let k = tally_below row_serial s r (shown_nodes mode c) (shown_nodes mode t) in omega arith)

module _ (mode : Mode) where
  -- each node that is not hidden is among what is shown
  in-shown : (above : Option Kind) (n : Nodes PageRow) (g : List Generation) (before : List (Branch PageRow)) (z : Zipper)
      → IsIn z (all_in g before n) → Sound above n → hidden_in mode z.branch.row.label ≡ false
      → 0 < tally row_serial (serial_of z) (shown_nodes mode n)
  in-shown above none g before z i s e = absurd (none_in i)
  in-shown above (node r c t) g before z (at_head _) (fits, below, beside) e =
      rw e (tally_row row_serial r.serial r (shown_nodes mode c) (shown_nodes mode t) refl)
  in-shown above (node r c t) g before z (in_tail _ _ j) (fits, below, beside) e =
      let b : Branch PageRow = record { row = r; children = c } in
      elim (IsIn-append (all_in (record { branch = b; before = before; after = t } ∷ g) [] c) (all_in g (b ∷ before) t) j) [
        | inl h ↦ among_children mode (serial_of z) r c t
            (holder-shown mode r.label (holder_in r.label.kind c (record { branch = b; before = before; after = t } ∷ g) [] z h below))
            (in-shown (Some r.label.kind) c (record { branch = b; before = before; after = t } ∷ g) [] z h below e)
        | inr h ↦ among_later mode (serial_of z) r c t (in-shown above t g (b ∷ before) z h beside e)
      ]

-- the focus of a zipper is the node that is found by its serial
focus_of : (o : Option Zipper) (other : Zipper) (x : Branch PageRow) → option_map (λ (z : Zipper). z.branch) o ≡ Some x
    → (unwrap_or o other).branch ≡ x
focus_of None other x e = cc
focus_of (Some z) other x e = cc

pub focus-at : (s : ℕ) (tree x : Branch PageRow) → find_in s tree ≡ Some x → (zipper_at s tree).branch ≡ x
focus-at s tree x e = focus_of (find_zipper s tree) (root_of tree) x (sym (branch-found s [] [] (alone tree)) ∙ e)

pub below-shown : BelowShown
below-shown mode page serial z valid live i e =
    let whole = whole-valid page valid in
    let f = found-both mode page serial valid live in
    let at : Zipper = zipper_at serial page.tree in
    let stands = stands-find row_serial serial (alone page.tree) f.branch f.in_page in
    let focus : (zipper_at serial page.tree).branch ≡ f.branch = focus-at serial page.tree f.branch f.in_page in
    let sound : Sound (Some (zipper_at serial page.tree).branch.row.label.kind) (zipper_at serial page.tree).branch.children =
    subst (λ (b : Branch PageRow). Sound (Some b.row.label.kind) b.children) (sym focus) (sound-there None stands.2 whole.sound).2 in
    let inside = in-shown mode (Some (zipper_at serial page.tree).branch.row.label.kind) (zipper_at serial page.tree).branch.children
    (generation_of (zipper_at serial page.tree) ∷ (zipper_at serial page.tree).above) [] z i sound e in
    let there : 0 < tally row_serial (serial_of z) (shown_nodes mode f.branch.children) =
    subst (λ (b : Branch PageRow). 0 < tally row_serial (serial_of z) (shown_nodes mode b.children)) focus inside in
    let shown = stands-find row_serial serial (alone (shown_branch mode page.tree)) (shown_branch mode f.branch) f.in_shown in
    let below = tally_in-at row_serial (serial_of z) shown.2 in
    has-there row_serial (serial_of z) (alone (shown_branch mode page.tree)) (omega arith)
