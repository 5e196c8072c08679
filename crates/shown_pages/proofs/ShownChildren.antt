-- Shown trees side by side where a tree comes in, goes out or has another in its place.
use Rattle.std.proofs.Common.{◌≡◌, ℕ, ◌==◌, Bool, true, false, cond, Some, subst, refl, sym, ap, ◌∙◌}
use Rattle.node_tree.specs.Nodes.{Nodes, none, node, Branch}
use Rattle.node_tree.specs.Keys.{At, here, past}
use Rattle.node_tree.proofs.ChangeLemmas.{child_of}
use Rattle.page_tree.specs.Pages.{PageRow, row_serial}
use Rattle.page_tree.specs.Edits.{put_before, taken_out, first_serial}
use Rattle.shown_pages.specs.declared.modes.Mode.{Mode}
use Rattle.shown_pages.specs.Modes.{hidden_in}
use Rattle.shown_pages.specs.ShownPages.{shown_nodes, shown_branch}
use Rattle.shown_pages.specs.ShownEdits.{shown_from, shown_after}
use Rattle.shown_pages.proofs.PlaceLemmas.{AreKeys, keys-later, other_first, put_first, from-one, after-one}

-- a tree by its parts
abbrev tree_of : PageRow → Nodes PageRow → Branch PageRow
tree_of r c = record { row = r; children = c }

-- the trees with another one in the place of that of the serial
abbrev pub child_put : ℕ → Branch PageRow → Nodes PageRow → Nodes PageRow
child_put serial w none = none
child_put serial w (node r c t) = cond (r.serial == serial) (node w.row w.children t) (node r c (child_put serial w t))

-- ---- a child changed is a change at depth 0

put_at : (old new : Branch PageRow) (r : PageRow) (c t u : Nodes PageRow) (serial : ℕ) (b : Bool)
    → cond b (Some (tree_of r c)) (child_of row_serial serial t) ≡ Some old
    → (child_of row_serial serial t ≡ Some old → At old new 0 t u)
    → At old new 0 (node r c t) (cond b (node new.row new.children t) (node r c u))
put_at old new r c t u serial true e k =
    let same : tree_of r c ≡ old = cc in
    subst (λ (o : Branch PageRow). At o new 0 (node r c t) (node new.row new.children t)) same (here t)
put_at old new r c t u serial false e k = past 0 r c t u (k e)

pub child-at : (serial : ℕ) (old new : Branch PageRow) (n : Nodes PageRow) → child_of row_serial serial n ≡ Some old
    → At old new 0 n (child_put serial new n)
child-at serial old new none e = absurd (cc)
child-at serial old new (node r c t) e =
    put_at old new r c t (child_put serial new t) serial (r.serial == serial) e (child-at serial old new t)

module _ (mode : Mode) where
  -- the tree that stands first, shown or hidden, before what is shown of the others
  abbrev headed : PageRow → Nodes PageRow → Nodes PageRow → Nodes PageRow
  headed r c t = cond (hidden_in mode r.label) t (node r (shown_nodes mode c) t)

  -- ---- one goes out

  taken_shown_at : (serial : ℕ) (old : Branch PageRow) (r : PageRow) (c t : Nodes PageRow) (b : Bool) → (r.serial == serial) ≡ b
      → cond b (Some (tree_of r c)) (child_of row_serial serial t) ≡ Some old → hidden_in mode old.row.label ≡ false
      → (child_of row_serial serial t ≡ Some old → shown_nodes mode (taken_out serial t) ≡ taken_out serial (shown_nodes mode t))
      → shown_nodes mode (cond b t (node r c (taken_out serial t))) ≡ taken_out serial (headed r c (shown_nodes mode t))
  taken_shown_at serial old r c t true is e f k =
      let same : tree_of r c ≡ old = cc in
      let g : hidden_in mode r.label ≡ false = ap (λ (o : Branch PageRow). hidden_in mode o.row.label) same ∙ f in
      rw (g, is) refl
  taken_shown_at serial old r c t false is e f k =
      elim (hidden_in mode r.label) as (λ h. cond h (shown_nodes mode (taken_out serial t))
      (node r (shown_nodes mode c) (shown_nodes mode (taken_out serial t)))
      ≡ taken_out serial (cond h (shown_nodes mode t) (node r (shown_nodes mode c) (shown_nodes mode t)))) [
        | true ↦ k e
        | false ↦ rw is (ap (node r (shown_nodes mode c)) (k e))
      ]

  -- a shown one goes out of what is shown
  pub taken-shown : (serial : ℕ) (old : Branch PageRow) (n : Nodes PageRow) → child_of row_serial serial n ≡ Some old
      → hidden_in mode old.row.label ≡ false → shown_nodes mode (taken_out serial n) ≡ taken_out serial (shown_nodes mode n)
  taken-shown serial old none e f = absurd (cc)
  taken-shown serial old (node r c t) e f =
      taken_shown_at serial old r c t (r.serial == serial) refl e f (λ g. taken-shown serial old t g f)

  taken_hidden_at : (serial : ℕ) (old : Branch PageRow) (r : PageRow) (c t : Nodes PageRow) (b : Bool)
      → cond b (Some (tree_of r c)) (child_of row_serial serial t) ≡ Some old → hidden_in mode old.row.label ≡ true
      → (child_of row_serial serial t ≡ Some old → shown_nodes mode (taken_out serial t) ≡ shown_nodes mode t)
      → shown_nodes mode (cond b t (node r c (taken_out serial t))) ≡ headed r c (shown_nodes mode t)
  taken_hidden_at serial old r c t true e f k =
      let same : tree_of r c ≡ old = cc in
      let g : hidden_in mode r.label ≡ true = ap (λ (o : Branch PageRow). hidden_in mode o.row.label) same ∙ f in
      rw g refl
  taken_hidden_at serial old r c t false e f k = ap (headed r c) (k e)

  -- and a hidden one leaves it as it is
  pub taken-hidden : (serial : ℕ) (old : Branch PageRow) (n : Nodes PageRow) → child_of row_serial serial n ≡ Some old
      → hidden_in mode old.row.label ≡ true → shown_nodes mode (taken_out serial n) ≡ shown_nodes mode n
  taken-hidden serial old none e f = absurd (cc)
  taken-hidden serial old (node r c t) e f =
      taken_hidden_at serial old r c t (r.serial == serial) e f (λ g. taken-hidden serial old t g f)

  child_shown_at : (serial : ℕ) (old : Branch PageRow) (r : PageRow) (c t : Nodes PageRow) (b : Bool) → (r.serial == serial) ≡ b
      → cond b (Some (tree_of r c)) (child_of row_serial serial t) ≡ Some old → hidden_in mode old.row.label ≡ false
      → (child_of row_serial serial t ≡ Some old → child_of row_serial serial (shown_nodes mode t) ≡ Some (shown_branch mode old))
      → child_of row_serial serial (headed r c (shown_nodes mode t)) ≡ Some (shown_branch mode old)
  child_shown_at serial old r c t true is e f k =
      let same : tree_of r c ≡ old = cc in
      let g : hidden_in mode r.label ≡ false = ap (λ (o : Branch PageRow). hidden_in mode o.row.label) same ∙ f in
      rw (g, is) (ap (λ (o : Branch PageRow). Some (shown_branch mode o)) same)
  child_shown_at serial old r c t false is e f k =
      elim (hidden_in mode r.label) as (λ h. child_of row_serial serial
      (cond h (shown_nodes mode t) (node r (shown_nodes mode c) (shown_nodes mode t))) ≡ Some (shown_branch mode old)) [
        | true ↦ k e
        | false ↦ rw is (k e)
      ]

  -- a shown child is a child among what is shown
  pub child-shown : (serial : ℕ) (old : Branch PageRow) (n : Nodes PageRow) → child_of row_serial serial n ≡ Some old
      → hidden_in mode old.row.label ≡ false → child_of row_serial serial (shown_nodes mode n) ≡ Some (shown_branch mode old)
  child-shown serial old none e f = absurd (cc)
  child-shown serial old (node r c t) e f =
      child_shown_at serial old r c t (r.serial == serial) refl e f (λ g. child-shown serial old t g f)

  -- ---- one comes in

  -- a hidden one leaves what is shown as it is
  pub put-hidden : (before : ℕ) (w : Branch PageRow) (n : Nodes PageRow) → hidden_in mode w.row.label ≡ true
      → shown_nodes mode (put_before before w n) ≡ shown_nodes mode n
  put-hidden before w none f = rw f refl
  put-hidden before w (node r c t) f =
      elim (r.serial == before) as (λ b. shown_nodes mode (cond b (node w.row w.children (node r c t)) (node r c (put_before before w t)))
      ≡ shown_nodes mode (node r c t)) [
        | true ↦ rw f refl
        | false ↦ ap (headed r c) (put-hidden before w t f)
      ]

  put_shown_at : (before place : ℕ) (w : Branch PageRow) (r : PageRow) (c t : Nodes PageRow) → (r.serial == place) ≡ false
      → shown_nodes mode (put_before before w t) ≡ put_before place (shown_branch mode w) (shown_nodes mode t)
      → headed r c (shown_nodes mode (put_before before w t))
      ≡ put_before place (shown_branch mode w) (headed r c (shown_nodes mode t))
  put_shown_at before place w r c t other k =
      elim (hidden_in mode r.label) as (λ h. cond h (shown_nodes mode (put_before before w t))
      (node r (shown_nodes mode c) (shown_nodes mode (put_before before w t)))
      ≡ put_before place (shown_branch mode w) (cond h (shown_nodes mode t) (node r (shown_nodes mode c) (shown_nodes mode t)))) [
        | true ↦ k
        | false ↦ rw other (ap (node r (shown_nodes mode c)) k)
      ]

  put_shown_step : (before : ℕ) (w : Branch PageRow) (r : PageRow) (c t : Nodes PageRow) (b : Bool) → hidden_in mode w.row.label ≡ false
      → AreKeys (node r c t)
      → shown_nodes mode (put_before before w t) ≡ put_before (shown_from mode before t) (shown_branch mode w) (shown_nodes mode t)
      → shown_nodes mode (cond b (node w.row w.children (node r c t)) (node r c (put_before before w t)))
      ≡ put_before (cond b (first_serial (shown_nodes mode (node r c t))) (shown_from mode before t)) (shown_branch mode w)
      (shown_nodes mode (node r c t))
  put_shown_step before w r c t true f keys k = rw f (sym (put_first (shown_branch mode w) (shown_nodes mode (node r c t))))
  put_shown_step before w r c t false f keys k = put_shown_at before (shown_from mode before t) w r c t
      (other_first (shown_from mode before t) r c t keys (from-one mode before t)) k

  -- a shown one stands before the first shown one from its place on
  pub put-shown : (before : ℕ) (w : Branch PageRow) (n : Nodes PageRow) → hidden_in mode w.row.label ≡ false → AreKeys n
      → shown_nodes mode (put_before before w n) ≡ put_before (shown_from mode before n) (shown_branch mode w) (shown_nodes mode n)
  put-shown before w none f keys = rw f refl
  put-shown before w (node r c t) f keys =
      put_shown_step before w r c t (r.serial == before) f keys (put-shown before w t f (keys-later r c t keys))

  -- ---- one is changed in its place

  gone_at : (serial : ℕ) (old new : Branch PageRow) (r : PageRow) (c t : Nodes PageRow) (b : Bool) → (r.serial == serial) ≡ b
      → cond b (Some (tree_of r c)) (child_of row_serial serial t) ≡ Some old → hidden_in mode old.row.label ≡ false
      → hidden_in mode new.row.label ≡ true
      → (child_of row_serial serial t ≡ Some old → shown_nodes mode (child_put serial new t) ≡ taken_out serial (shown_nodes mode t))
      → shown_nodes mode (cond b (node new.row new.children t) (node r c (child_put serial new t)))
      ≡ taken_out serial (headed r c (shown_nodes mode t))
  gone_at serial old new r c t true is e f h k =
      let same : tree_of r c ≡ old = cc in
      let g : hidden_in mode r.label ≡ false = ap (λ (o : Branch PageRow). hidden_in mode o.row.label) same ∙ f in
      rw (g, h, is) refl
  gone_at serial old new r c t false is e f h k =
      elim (hidden_in mode r.label) as (λ h. cond h (shown_nodes mode (child_put serial new t))
      (node r (shown_nodes mode c) (shown_nodes mode (child_put serial new t)))
      ≡ taken_out serial (cond h (shown_nodes mode t) (node r (shown_nodes mode c) (shown_nodes mode t)))) [
        | true ↦ k e
        | false ↦ rw is (ap (node r (shown_nodes mode c)) (k e))
      ]

  -- one that hides itself goes out of what is shown
  pub child-gone : (serial : ℕ) (old new : Branch PageRow) (n : Nodes PageRow) → child_of row_serial serial n ≡ Some old
      → hidden_in mode old.row.label ≡ false → hidden_in mode new.row.label ≡ true
      → shown_nodes mode (child_put serial new n) ≡ taken_out serial (shown_nodes mode n)
  child-gone serial old new none e f h = absurd (cc)
  child-gone serial old new (node r c t) e f h =
      gone_at serial old new r c t (r.serial == serial) refl e f h (λ g. child-gone serial old new t g f h)

  hidden_at : (serial : ℕ) (old new : Branch PageRow) (r : PageRow) (c t : Nodes PageRow) (b : Bool)
      → cond b (Some (tree_of r c)) (child_of row_serial serial t) ≡ Some old → hidden_in mode old.row.label ≡ true
      → hidden_in mode new.row.label ≡ true
      → (child_of row_serial serial t ≡ Some old → shown_nodes mode (child_put serial new t) ≡ shown_nodes mode t)
      → shown_nodes mode (cond b (node new.row new.children t) (node r c (child_put serial new t))) ≡ headed r c (shown_nodes mode t)
  hidden_at serial old new r c t true e f h k =
      let same : tree_of r c ≡ old = cc in
      let g : hidden_in mode r.label ≡ true = ap (λ (o : Branch PageRow). hidden_in mode o.row.label) same ∙ f in
      rw (g, h) refl
  hidden_at serial old new r c t false e f h k = ap (headed r c) (k e)

  -- one that was hidden and is hidden changes nothing
  pub child-hidden : (serial : ℕ) (old new : Branch PageRow) (n : Nodes PageRow) → child_of row_serial serial n ≡ Some old
      → hidden_in mode old.row.label ≡ true → hidden_in mode new.row.label ≡ true
      → shown_nodes mode (child_put serial new n) ≡ shown_nodes mode n
  child-hidden serial old new none e f h = absurd (cc)
  child-hidden serial old new (node r c t) e f h =
      hidden_at serial old new r c t (r.serial == serial) e f h (λ g. child-hidden serial old new t g f h)

  came_at : (serial : ℕ) (old new : Branch PageRow) (r : PageRow) (c t : Nodes PageRow) (b : Bool)
      → cond b (Some (tree_of r c)) (child_of row_serial serial t) ≡ Some old → hidden_in mode old.row.label ≡ true
      → hidden_in mode new.row.label ≡ false → AreKeys (node r c t)
      → (child_of row_serial serial t ≡ Some old → shown_nodes mode (child_put serial new t)
      ≡ put_before (shown_after mode serial t) (shown_branch mode new) (shown_nodes mode t))
      → shown_nodes mode (cond b (node new.row new.children t) (node r c (child_put serial new t)))
      ≡ put_before (cond b (first_serial (shown_nodes mode t)) (shown_after mode serial t)) (shown_branch mode new)
      (headed r c (shown_nodes mode t))
  came_at serial old new r c t true e f h keys k =
      let same : tree_of r c ≡ old = cc in
      let g : hidden_in mode r.label ≡ true = ap (λ (o : Branch PageRow). hidden_in mode o.row.label) same ∙ f in
      rw (g, h) (sym (put_first (shown_branch mode new) (shown_nodes mode t)))
  came_at serial old new r c t false e f h keys k =
      let other : (r.serial == shown_after mode serial t) ≡ false =
      other_first (shown_after mode serial t) r c t keys (after-one mode serial t) in
      elim (hidden_in mode r.label) as (λ h. cond h (shown_nodes mode (child_put serial new t))
      (node r (shown_nodes mode c) (shown_nodes mode (child_put serial new t)))
      ≡ put_before (shown_after mode serial t) (shown_branch mode new)
      (cond h (shown_nodes mode t) (node r (shown_nodes mode c) (shown_nodes mode t)))) [
        | true ↦ k e
        | false ↦ rw other (ap (node r (shown_nodes mode c)) (k e))
      ]

  -- one that shows itself stands before the first shown one behind it
  pub child-came : (serial : ℕ) (old new : Branch PageRow) (n : Nodes PageRow) → child_of row_serial serial n ≡ Some old
      → hidden_in mode old.row.label ≡ true → hidden_in mode new.row.label ≡ false → AreKeys n
      → shown_nodes mode (child_put serial new n) ≡ put_before (shown_after mode serial n) (shown_branch mode new) (shown_nodes mode n)
  child-came serial old new none e f h keys = absurd (cc)
  child-came serial old new (node r c t) e f h keys = came_at serial old new r c t (r.serial == serial) e f h keys
      (λ g. child-came serial old new t g f h (keys-later r c t keys))
