-- Trees in slots: what the slots keep, how it is read, and what stays when slots change.
use Rattle.std.proofs.Common.{◌≡◌, ◌≢◌, ◌⊎◌, ℕ, zero, suc, ◌+◌, ◌<◌, ◌≤◌, ◌==◌, List, [], ◌∷◌, ◌++◌, length, slice_get, Option, Some, None}
use Rattle.std.proofs.Common.{is_some, cond, Bool, true, false, refl, sym, ap, subst, append_assoc, append-nil, ◌∙◌, inl, inr, arith}
use Rattle.std.proofs.lemmas.Bool.{eq-eqb, ne_eqb, cases_lt, cases_eq}
use Rattle.node_tree.specs.Nodes.{Nodes, none, node, Branch, alone, tree_at, width, height}
use Rattle.node_tree.specs.Keys.{first_of, find, level_of, parent_of, At, here, within, past}
use Rattle.node_tree.specs.Arena.{SlotForm, slot_number, times, Keeps, KeepsOne, slot_tree, slot_trees, kept_trees, IsFiled, IsArena}
use Rattle.node_tree.specs.Arena.{IsFresh, Grows, Shrinks, Comes, Turns}
use Rattle.node_tree.proofs.KeyLemmas.{tally_row, tally_below, tally_cases, other_row, found_key, has-find, has-there}

node_equal : {R : Type 0} (r s : R) (c d t u : Nodes R) → r ≡ s → c ≡ d → t ≡ u → node r c t ≡ node s d u
node_equal r s c d t u p q e = cc

module _ {Slot Row : Type 0} (form : SlotForm Slot Row) where
  -- a slot's number is among the trees that begin with its row
  pub row_there : (slot : Slot) (r : Row) (c t : Nodes Row) → form.row slot ≡ r → 0 < times form (slot_number form slot) (node r c t)
  row_there slot r c t is = tally_row form.number (slot_number form slot) r c t (ap form.number (sym is))

  -- slots that have what the nodes of a tree stand in keep the tree
  pub keeps-same : (old new : ℕ → Option Slot) (n : Nodes Row) (above : Option ℕ) (ks : List ℕ)
      → ((k : ℕ) (slot : Slot) → old k ≡ Some slot → 0 < times form (slot_number form slot) n → new k ≡ Some slot)
      → Keeps form old n above ks → Keeps form new n above ks
  keeps-same old new none above [] h kept = tt
  keeps-same old new none above (k ∷ ks) h kept = kept
  keeps-same old new (node r c t) above [] h kept = kept
  keeps-same old new (node r c t) above (k ∷ ks) h (slot, at, up, is, below, after) = (
    slot,
    h k slot at (row_there slot r c t is),
    up,
    is,
    keeps-same old new c (Some k) (form.children slot)
        (λ j s e p. h j s e (let w = tally_below form.number (slot_number form s) r c t in omega arith)) below,
    keeps-same old new t above ks (λ j s e p. h j s e (let w = tally_below form.number (slot_number form s) r c t in omega arith)) after,
  )

  pub keeps-grows : (old new : ℕ → Option Slot) (m : ℕ → ℕ) (n : Nodes Row) (above : Option ℕ) (ks : List ℕ) → Grows form old new m
      → Keeps form old n above ks → Keeps form new n above ks
  keeps-grows old new m n above ks grows kept = keeps-same old new n above ks (λ k slot e p. grows.kept k slot e) kept

  -- what the slots keep is read from them
  slot_tree_is : (slots : ℕ → Option Slot) (o : Option Slot) (slot : Slot) (below : List ℕ → Nodes Row) (after : Nodes Row) (r : Row)
      (c t : Nodes Row)
      → o ≡ Some slot → form.row slot ≡ r → below (form.children slot) ≡ c → after ≡ t → slot_tree form slots o below after ≡ node r c t
  slot_tree_is slots o slot below after r c t at is below_is after_is = rw at
      (node_equal (form.row slot) r (below (form.children slot)) c after t is below_is after_is)

  pub kept_trees-keeps : (slots : ℕ → Option Slot) (levels : ℕ) (n : Nodes Row) (above : Option ℕ) (ks : List ℕ)
      → Keeps form slots n above ks → height n ≤ levels → kept_trees form slots levels ks ≡ n
  kept_trees-keeps slots zero none above [] kept h = refl
  kept_trees-keeps slots (suc levels) none above [] kept h = refl
  kept_trees-keeps slots levels none above (k ∷ ks) kept h = absurd kept
  kept_trees-keeps slots levels (node r c t) above [] kept h = absurd kept
  kept_trees-keeps slots zero (node r c t) above (k ∷ ks) kept h = absurd (omega arith)
  kept_trees-keeps slots (suc levels) (node r c t) above (k ∷ ks) (slot, at, up, is, below, after) h =
      slot_tree_is slots (slots k) slot (kept_trees form slots levels) (slot_trees form slots (kept_trees form slots levels) ks) r c t at is
      (kept_trees-keeps slots levels c (Some k) (form.children slot) below (omega arith))
      (kept_trees-keeps slots (suc levels) t above ks after (omega arith))

  -- a node that is changed is among the trees
  times-at : {b d : Branch Row} {depth : ℕ} {n m : Nodes Row} (x : ℕ) → At b d depth n m → times form x (alone b) ≤ times form x n
  times-at x (here t) = omega arith
  times-at x (within depth r c m t e) = let h = times-at x e in let w = tally_below form.number x r c t in omega arith
  times-at x (past depth r c t m e) = let h = times-at x e in let w = tally_below form.number x r c t in omega arith

  -- where numbers are distinct, a slot's number is not among the trees below it and after it
  pub row_alone : (slot : Slot) (r : Row) (c t : Nodes Row) → form.row slot ≡ r → times form (slot_number form slot) (node r c t) ≤ 1
      → times form (slot_number form slot) c + times form (slot_number form slot) t ≡ 0
  row_alone slot r c t is once =
      elim (tally_cases form.number (slot_number form slot) r c t) [
        | inl p ↦ let e = p.1 in omega arith
        | inr p ↦ absurd (p.0 (ap form.number (sym is)))
      ]

  -- one node changed: the slots outside of what it was stay, and keep what it becomes in its place
  pub keeps-at : (old new : ℕ → Option Slot) {b d : Branch Row} {depth : ℕ} {n m : Nodes Row} (above : Option ℕ) (ks : List ℕ)
      → At b d depth n m
      → ((x : ℕ) → times form x n ≤ 1)
      → ((a : Option ℕ) (k : ℕ) → KeepsOne form old b a k → KeepsOne form new d a k)
      → ((k : ℕ) (slot : Slot) → old k ≡ Some slot → 0 < times form (slot_number form slot) n
      → times form (slot_number form slot) (alone b) ≡ 0 → new k ≡ Some slot)
      → Keeps form old n above ks → Keeps form new m above ks
  keeps-at old new above [] (here t) once change same kept = absurd kept
  keeps-at old new {b = b} above (k ∷ ks) (here t) once change same (slot, at, up, is, below, after) =
      let (slot2, at2, up2, is2, below2, after2) = change above k (slot, at, up, is, below, tt) in (
        slot2,
        at2,
        up2,
        is2,
        below2,
        keeps-same old new t above ks
            (λ j s e p. same j s e (let w = tally_below form.number (slot_number form s) b.row b.children t in omega arith)
            (let o = once (slot_number form s) in omega arith)) after,
      )
  keeps-at old new above [] (within depth r c m t e) once change same kept = absurd kept
  keeps-at old new above (k ∷ ks) (within depth r c m t e) once change same (slot, at, up, is, below, after) = (
    slot,
    same k slot at (row_there slot r c t is)
        (let a = row_alone slot r c t is (once (slot_number form slot)) in let b = times-at (slot_number form slot) e in omega arith),
    up,
    is,
    keeps-at old new (Some k) (form.children slot) e (λ x. let w = tally_below form.number x r c t in let o = once x in omega arith) change
        (λ j s f p q. same j s f (let w = tally_below form.number (slot_number form s) r c t in omega arith) q) below,
    keeps-same old new t above ks
        (λ j s f p. let w = tally_below form.number (slot_number form s) r c t in let o = once (slot_number form s) in let b = times-at
        (slot_number form s) e in same j s f (omega arith) (omega arith)) after,
  )
  keeps-at old new above [] (past depth r c t m e) once change same kept = absurd kept
  keeps-at old new above (k ∷ ks) (past depth r c t m e) once change same (slot, at, up, is, below, after) = (
    slot,
    same k slot at (row_there slot r c t is)
        (let a = row_alone slot r c t is (once (slot_number form slot)) in let b = times-at (slot_number form slot) e in omega arith),
    up,
    is,
    keeps-same old new c (Some k) (form.children slot)
        (λ j s f p. let w = tally_below form.number (slot_number form s) r c t in let o = once (slot_number form s) in let b = times-at
        (slot_number form s) e in same j s f (omega arith) (omega arith)) below,
    keeps-at old new above ks e (λ x. let w = tally_below form.number x r c t in let o = once x in omega arith) change
        (λ j s f p q. same j s f (let w = tally_below form.number (slot_number form s) r c t in omega arith) q) after,
  )

  -- ---- what is found is kept

  found_by : (P : Branch Row → Type 0) (r : Row) (c : Nodes Row) (b : Branch Row) (v : Bool) (f g : Option (Branch Row))
      → cond v (Some (record { row = r; children = c })) (first_of f g) ≡ Some b
      → P (record { row = r; children = c }) → (f ≡ Some b → P b) → (g ≡ Some b → P b) → P b
  found_by P r c b true f g is first below after = let same : ◌≡◌ {A = Branch Row}
      (record { row = r; children = c }) b = cc in subst P same first
  found_by P r c b false (Some o) g is first below after = below is
  found_by P r c b false None g is first below after = after is

  -- a tree that is kept under some key
  abbrev pub KeptSomewhere : (ℕ → Option Slot) → Branch Row → Type 0
  KeptSomewhere slots b = (a : Option ℕ) × (k : ℕ) × KeepsOne form slots b a k

  pub keeps-find : (slots : ℕ → Option Slot) (x : ℕ) (n : Nodes Row) (above : Option ℕ) (ks : List ℕ) (b : Branch Row)
      → Keeps form slots n above ks → find form.number x n ≡ Some b → KeptSomewhere slots b
  keeps-find slots x none above ks b kept e = absurd (cc)
  keeps-find slots x (node r c t) above [] b kept e = absurd kept
  keeps-find slots x (node r c t) above (k ∷ ks) b (slot, at, up, is, below, after) e =
      found_by (KeptSomewhere slots) r c b (form.number r == x) (find form.number x c) (find form.number x t) e
      (above, k, (slot, at, up, is, below, tt))
      (keeps-find slots x c (Some k) (form.children slot) b below)
      (keeps-find slots x t above ks b after)

  pub keeps-width : (slots : ℕ → Option Slot) (n : Nodes Row) (above : Option ℕ) (ks : List ℕ) → Keeps form slots n above ks
      → width n ≡ length ks
  keeps-width slots none above [] kept = refl
  keeps-width slots none above (k ∷ ks) kept = absurd kept
  keeps-width slots (node r c t) above [] kept = absurd kept
  keeps-width slots (node r c t) above (k ∷ ks) (slot, at, up, is, below, after) = ap suc (keeps-width slots t above ks after)

  pub keeps-tree_at : (slots : ℕ → Option Slot) (n : Nodes Row) (above : Option ℕ) (ks : List ℕ) (i k : ℕ) → Keeps form slots n above ks
      → slice_get ks i ≡ Some k → (b : Branch Row) × (tree_at i n ≡ Some b) × KeepsOne form slots b above k
  keeps-tree_at slots none above [] i d kept e = absurd (cc)
  keeps-tree_at slots none above (k ∷ ks) i d kept e = absurd kept
  keeps-tree_at slots (node r c t) above [] i d kept e = absurd kept
  keeps-tree_at slots (node r c t) above (k ∷ ks) zero d (slot, at, up, is, below, after) e =
      let same : k ≡ d = cc in (
        record { row = r; children = c },
        refl,
        subst
            (λ (j : ℕ). KeepsOne form slots (record { row = r; children = c }) above j) same (slot, at, up, is, below, tt),
      )
  keeps-tree_at slots (node r c t) above (k ∷ ks) (suc i) d (slot, at, up, is, below, after) e = keeps-tree_at slots t above ks i d after e

  -- ---- upwards

  module _ (x : ℕ) where
    level_of-absent : (level : ℕ) (n : Nodes Row) → times form x n ≡ 0 → level_of form.number x level n ≡ None
    level_of-absent level none h = refl
    level_of-absent level (node r c t) h =
        elim (tally_cases form.number x r c t) [
          | inl p ↦ absurd (omega (arith, p.1))
          | inr p ↦ let e = p.1 in rw (
            ne_eqb (form.number r) x p.0,
            level_of-absent (suc level) c (omega arith),
            level_of-absent level t
                (omega arith),
          ) refl
        ]

    parent_of-absent : (p : ℕ) (n : Nodes Row) → times form x n ≡ 0 → parent_of form.number x p n ≡ None
    parent_of-absent p none h = refl
    parent_of-absent p (node r c t) h =
        elim (tally_cases form.number x r c t) [
          | inl q ↦ absurd (omega (arith, q.1))
          | inr q ↦ let e = q.1 in rw (
            ne_eqb (form.number r) x q.0,
            parent_of-absent (form.number r) c (omega arith),
            parent_of-absent p t
                (omega arith),
          ) refl
        ]

    module _ (r : Row) (c t : Nodes Row) (level p : ℕ) where
      level_here : form.number r ≡ x → level_of form.number x level (node r c t) ≡ Some level
      level_here e = rw (eq-eqb (form.number r) x e) refl

      parent_here : form.number r ≡ x → parent_of form.number x p (node r c t) ≡ Some p
      parent_here e = rw (eq-eqb (form.number r) x e) refl

      level_below : (form.number r ≡ x → ⊥) → (l : ℕ) → level_of form.number x (suc level) c ≡ Some l
          → level_of form.number x level (node r c t) ≡ Some l
      level_below other l e = rw (ne_eqb (form.number r) x other, e) refl

      parent_below : (form.number r ≡ x → ⊥) → (q : ℕ) → parent_of form.number x (form.number r) c ≡ Some q
          → parent_of form.number x p (node r c t) ≡ Some q
      parent_below other q e = rw (ne_eqb (form.number r) x other, e) refl

      level_after : (form.number r ≡ x → ⊥) → times form x c ≡ 0
          → level_of form.number x level (node r c t) ≡ level_of form.number x level t
      level_after other absent = rw (ne_eqb (form.number r) x other, level_of-absent (suc level) c absent) refl

      parent_after : (form.number r ≡ x → ⊥) → times form x c ≡ 0 → parent_of form.number x p (node r c t) ≡ parent_of form.number x p t
      parent_after other absent = rw (ne_eqb (form.number r) x other, parent_of-absent (form.number r) c absent) refl

  -- A node with the number x: its slot's parent is `above` where it is one of these trees, and else the slot of its parent.
  pub record IsTop (slots : ℕ → Option Slot) (above : Option ℕ) (level p x : ℕ) (n : Nodes Row) (slot : Slot) : Type 0 where
    pub up : form.parent slot ≡ above
    pub level_is : level_of form.number x level n ≡ Some level
    pub parent_is : parent_of form.number x p n ≡ Some p

  pub record IsBelow (slots : ℕ → Option Slot) (level p x : ℕ) (n : Nodes Row) (slot : Slot) : Type 0 where
    pub key : ℕ
    pub over : Slot
    pub up : form.parent slot ≡ Some key
    pub over_at : slots key ≡ Some over
    pub parent_is : parent_of form.number x p n ≡ Some (slot_number form over)
    pub over_level : ℕ
    pub over_is : level_of form.number (slot_number form over) level n ≡ Some over_level
    pub level_is : level_of form.number x level n ≡ Some (suc over_level)
    pub over_there : 0 < times form (slot_number form over) n

  pub record Upward (slots : ℕ → Option Slot) (above : Option ℕ) (level p x : ℕ) (n : Nodes Row) : Type 0 where
    pub key : ℕ
    pub slot : Slot
    pub at : slots key ≡ Some slot
    pub number_is : slot_number form slot ≡ x
    pub place : IsTop slots above level p x n slot ⊎ IsBelow slots level p x n slot

  upward-below : (slots : ℕ → Option Slot) (above : Option ℕ) (k level p x : ℕ) (slot : Slot) (r : Row) (c t : Nodes Row)
      → slots k ≡ Some slot → form.row slot ≡ r
      → ((y : ℕ) → times form y (node r c t) ≤ 1) → (form.number r ≡ x → ⊥) → Upward slots (Some k) (suc level) (form.number r) x c
      → Upward slots above level p x (node r c t)
  upward-below slots above k level p x slot r c t at is once other u =
      record {
        key = u.key;
        slot = u.slot;
        at = u.at;
        number_is = u.number_is;
        place = elim u.place [
          | inl top ↦ inr (record {
            key = k;
            over = slot;
            up = top.up;
            over_at = at;
            parent_is = parent_below x r c t level p other (slot_number form slot)
                (top.parent_is ∙ ap (λ y. Some (form.number y)) (sym is));
            over_level = level;
            over_is = level_here (slot_number form slot) r c t level p (ap form.number (sym is));
            level_is = level_below x r c t level p other (suc level) top.level_is;
            over_there = row_there slot r c t is;
          })
          | inr low ↦
              let w = tally_below form.number (slot_number form low.over) r c t in
              let there = low.over_there in
              inr (record {
                key = low.key;
                over = low.over;
                up = low.up;
                over_at = low.over_at;
                parent_is = parent_below x r c t level p other (slot_number form low.over) low.parent_is;
                over_level = low.over_level;
                over_is = level_below (slot_number form low.over) r c t level p
                    (other_row form.number (slot_number form low.over) r c t (omega arith)
                    (once (slot_number form low.over))) low.over_level low.over_is;
                level_is = level_below x r c t level p other (suc low.over_level) low.level_is;
                over_there = omega arith;
              })
        ];
      }

  upward-after : (slots : ℕ → Option Slot) (above : Option ℕ) (level p x : ℕ) (r : Row) (c t : Nodes Row)
      → ((y : ℕ) → times form y (node r c t) ≤ 1) → (form.number r ≡ x → ⊥) → times form x c ≡ 0
      → Upward slots above level p x t → Upward slots above level p x (node r c t)
  upward-after slots above level p x r c t once other absent u =
      record {
        key = u.key;
        slot = u.slot;
        at = u.at;
        number_is = u.number_is;
        place = elim u.place [
          | inl top ↦ inl (record {
            up = top.up;
            level_is = level_after x r c t level p other absent ∙ top.level_is;
            parent_is = parent_after x r c t level p other absent ∙ top.parent_is;
          })
          | inr low ↦
              let y = slot_number form low.over in
              let w = tally_below form.number y r c t in
              let o = once y in
              let there = low.over_there in
              inr (record {
                key = low.key;
                over = low.over;
                up = low.up;
                over_at = low.over_at;
                parent_is = parent_after x r c t level p other absent ∙ low.parent_is;
                over_level = low.over_level;
                over_is = level_after y r c t level p (other_row form.number y r c t (omega arith) o) (omega arith) ∙ low.over_is;
                level_is = level_after x r c t level p other absent ∙ low.level_is;
                over_there = omega arith;
              })
        ];
      }

  pub keeps-up : (slots : ℕ → Option Slot) (level p x : ℕ) (n : Nodes Row) (above : Option ℕ) (ks : List ℕ)
      → ((y : ℕ) → times form y n ≤ 1) → 0 < times form x n → Keeps form slots n above ks → Upward slots above level p x n
  keeps-up slots level p x none above ks once there kept = absurd (omega arith)
  keeps-up slots level p x (node r c t) above [] once there kept = absurd kept
  keeps-up slots level p x (node r c t) above (k ∷ ks) once there (slot, at, up, is, below, after) =
      elim (tally_cases form.number x r c t) [
        | inl q ↦ record {
          key = k;
          slot = slot;
          at = at;
          number_is = ap form.number is ∙ q.0;
          place = inl (record { up = up; level_is = level_here x r c t level p q.0; parent_is = parent_here x r c t level p q.0 });
        }
        | inr q ↦
            let e = q.1 in
            elim (cases_lt 0 (times form x c)) [
              | inl low ↦ upward-below slots above k level p x slot r c t at is once q.0
                  (keeps-up slots (suc level) (form.number r) x c (Some k) (form.children slot)
                  (λ y. let w = tally_below form.number y r c t in let o = once y in omega arith) low below)
              | inr absent ↦ upward-after slots above level p x r c t once q.0 (omega arith)
                  (keeps-up slots level p x t above ks (λ y. let w = tally_below form.number y r c t in let o = once y in omega arith)
                  (omega arith) after)
            ]
      ]

  -- ---- numbers and keys

  module _ (slots : ℕ → Option Slot) (keys : ℕ → Option ℕ) where
    -- the tree of a number, with its slot
    pub record IsAtKey (k x : ℕ) (b : Branch Row) : Type 0 where
      pub key_is : keys x ≡ Some k
      pub slot : Slot
      pub at : slots k ≡ Some slot
      pub number_is : slot_number form slot ≡ x
      pub stands : KeepsOne form slots b (form.parent slot) k

    at_own_parent : (k : ℕ) (a : Option ℕ) (b : Branch Row) (slot : Slot) → form.parent slot ≡ a → KeepsOne form slots b a k
        → KeepsOne form slots b (form.parent slot) k
    at_own_parent k a b slot up kept = subst (λ (o : Option ℕ). KeepsOne form slots b o k) (sym up) kept

    pub key-find : (root : ℕ) (tree : Branch Row) → IsArena form slots keys root tree → (x : ℕ) (b : Branch Row)
        → find form.number x (alone tree) ≡ Some b → (k : ℕ) × IsAtKey k x b
    key-find root tree arena x b e =
        let (a, k, (slot, at, up, is, below, after)) = keeps-find slots x (alone tree) None (root ∷ []) b arena.stands e in
        let number_is : slot_number form slot ≡ x = ap form.number is ∙ found_key form.number x (alone tree) b e in (
          k,
          record {
            key_is = ap keys (sym number_is) ∙ arena.files.filed k slot at;
            slot = slot;
            at = at;
            number_is = number_is;
            stands = at_own_parent k a b slot up (slot, at, up, is, below, tt);
          },
        )

    there_is : (x : ℕ) (n : Nodes Row) → 0 < times form x n → (b : Branch Row) × (find form.number x n ≡ Some b)
    there_is x n there =
        let some : is_some (find form.number x n) ≡ true = sym (has-find form.number x n) ∙ has-there form.number x n there in
        (elim (find form.number x n) as (λ o. is_some o ≡ true → (b : Branch Row) × (o ≡ Some b)) [
          | None ↦ λ h. absurd (cc)
          | Some b ↦ λ h. (b, refl)
        ]) some

    pub find-key : (root : ℕ) (tree : Branch Row) → IsArena form slots keys root tree → (x k : ℕ) → keys x ≡ Some k
        → (b : Branch Row) × (find form.number x (alone tree) ≡ Some b) × IsAtKey k x b
    find-key root tree arena x k e =
        let (slot, at, number_is) = arena.files.found x k e in
        let (b, found) = there_is x (alone tree) (subst (λ (y : ℕ). 0 < times form y (alone tree)) number_is (arena.reached k slot at)) in
        let (j, stands) = key-find root tree arena x b found in
        let same : j ≡ k = let both : Some j ≡ Some k = sym stands.key_is ∙ e in cc in
        (b, found, subst (λ (i : ℕ). IsAtKey i x b) same stands)

  -- ---- slots that come and go

  -- two arenas have the same slots where each has what the other has
  pub same_slots : (a b : ℕ → Option Slot) → ((k : ℕ) (slot : Slot) → a k ≡ Some slot → b k ≡ Some slot)
      → ((k : ℕ) (slot : Slot) → b k ≡ Some slot → a k ≡ Some slot) → (k : ℕ) → a k ≡ b k
  same_slots a b there back k = same_option (a k) (b k) (there k) (back k)
    where
      same_option : (o p : Option Slot) → ((slot : Slot) → o ≡ Some slot → p ≡ Some slot) → ((slot : Slot) → p ≡ Some slot → o ≡ Some slot)
          → o ≡ p
      same_option None None f g = refl
      same_option None (Some x) f g = g x refl
      same_option (Some x) p f g = sym (f x refl)

  pub grows-same : (a : ℕ → Option Slot) (among : ℕ → ℕ) → Grows form a a among
  grows-same a among = record { kept = λ k slot e. e; only = λ k slot e. inl e }

  pub grows-then : (a b c : ℕ → Option Slot) (m n all : ℕ → ℕ) → ((x : ℕ) → m x ≤ all x) → ((x : ℕ) → n x ≤ all x) → Grows form a b m
      → Grows form b c n → Grows form a c all
  grows-then a b c m n all within_m within_n first second =
      record {
        kept = λ k slot e. second.kept k slot (first.kept k slot e);
        only = λ k slot e. elim (second.only k slot e) [
          | inl old ↦ elim (first.only k slot old) [ inl e ↦ inl e | inr p ↦ inr (let w = within_m (slot_number form slot) in omega arith) ]
          | inr p ↦ inr (let w = within_n (slot_number form slot) in omega arith)
        ];
      }

  -- what came in goes out again
  pub grows-undone : (a b c : ℕ → Option Slot) (n : Nodes Row) (among : ℕ → ℕ) → ((x : ℕ) → among x ≡ times form x n) → IsFresh form a n
      → Grows form a b (λ x. times form x n) → Shrinks form b c among → (k : ℕ) → c k ≡ a k
  grows-undone a b c n among same fresh grows shrinks =
      same_slots c a
      (λ k slot e. let (old, absent) = shrinks.only k slot e in let s = same (slot_number form slot) in elim
      (grows.only k slot old) [ inl f ↦ f | inr p ↦ absurd (omega arith) ])
      (λ k slot e. shrinks.kept k slot (grows.kept k slot e) (same (slot_number form slot) ∙ fresh.apart k slot e))

  -- a slot that comes in has its row's number
  pub comes-grows : (a b : ℕ → Option Slot) (k : ℕ) (slot : Slot) (among : ℕ → ℕ) → 0 < among (slot_number form slot)
      → Comes form a b k slot → Grows form a b among
  comes-grows a b k slot among there comes =
      record {
        kept = λ j s e. comes.others j (λ same. let clash : None ≡ Some s = sym comes.vacant ∙ ap a (sym same) ∙ e in absurd (cc)) ∙ e;
        only = λ j s e. elim (cases_eq j k) [
          | inl same ↦
              let same_slot : slot ≡ s = let both : Some slot ≡ Some s = sym comes.at ∙ ap b (sym same) ∙ e in cc in
              inr (subst (λ (z : Slot). 0 < among (slot_number form z)) same_slot there)
          | inr other ↦ inl (sym (comes.others j other) ∙ e)
        ];
      }

  module _ (a b : ℕ → Option Slot) (k : ℕ) (slot : Slot) (r : Row) (c : Nodes Row) (comes : Comes form a b k slot) (is : form.row slot ≡ r)
      (fresh : IsFresh form a (node r c none)) where
    own : times form (slot_number form slot) c ≡ 0
    own = let e = row_alone slot r c none is (fresh.distinct (slot_number form slot)) in omega arith

    -- what is below a node may come in after the node
    pub fresh-below : IsFresh form b c
    fresh-below =
        record {
          distinct = λ x. let w = tally_below form.number x r c none in let o = fresh.distinct x in omega arith;
          apart = λ j s e. elim (cases_eq j k) [
            | inl same ↦
                let same_slot : slot ≡ s = let both : Some slot ≡ Some s = sym comes.at ∙ ap b (sym same) ∙ e in cc in
                subst (λ (z : Slot). times form (slot_number form z) c ≡ 0) same_slot own
            | inr other ↦ let f = fresh.apart j s (sym (comes.others j other) ∙ e) in let w = tally_below form.number
                (slot_number form s) r c none in omega arith
          ];
        }

    -- a node came in
    pub node-grows : Grows form a b (λ x. times form x (node r c none))
    node-grows = comes-grows a b k slot (λ x. times form x (node r c none)) (row_there slot r c none is) comes

    -- and then what is below it
    pub node_below-grows : (d : ℕ → Option Slot) → Grows form b d (λ x. times form x c) → Grows form a d (λ x. times form x (node r c none))
    node_below-grows d grows = grows-then a b d _ _ _ (λ x. omega arith)
        (λ x. let w = tally_below form.number x r c none in omega arith) node-grows grows

    -- and then its slot was told of its children
    module _ (d e : ℕ → Option Slot) (ks : List ℕ) (new : Slot) (grows : Grows form b d (λ x. times form x c))
        (kept : Keeps form d c (Some k) ks) (turns : Turns form d e k slot new) (row_is : form.row new ≡ form.row slot)
        (children_are : form.children new ≡ ks) where
      turned : (j : ℕ) (s : Slot) → d j ≡ Some s → 0 < times form (slot_number form s) c → e j ≡ Some s
      turned j s at there =
          elim (cases_eq j k) [
            | inl same ↦
                let same_slot : slot ≡ s = let both : Some slot ≡ Some s = sym turns.before ∙ ap d (sym same) ∙ at in cc in
                let z = subst (λ (z : Slot). times form (slot_number form z) c ≡ 0) same_slot own in
                absurd (omega arith)
            | inr other ↦ turns.others j other ∙ at
          ]

      pub planted-keeps : (above : Option ℕ) → form.parent new ≡ above → KeepsOne form e (record { row = r; children = c }) above k
      planted-keeps above up = (
        new,
        turns.at,
        up,
        row_is ∙ is,
        subst (λ (js : List ℕ). Keeps form e c (Some k) js) (sym children_are)
            (keeps-same d e c (Some k) ks turned kept),
        tt,
      )

      pub planted-grows : Grows form a e (λ x. times form x (node r c none))
      planted-grows =
          let all = node_below-grows d grows in
          record {
            kept = λ j s f. turns.others j
                (λ same. let clash : None ≡ Some s = sym comes.vacant ∙ ap a (sym same) ∙ f in absurd (cc)) ∙ all.kept j s f;
            only = λ j s f. elim (cases_eq j k) [
              | inl same ↦
                  let same_slot : new ≡ s = let both : Some new ≡ Some s = sym turns.at ∙ ap e (sym same) ∙ f in cc in
                  inr (subst (λ (z : Slot). 0 < times form (slot_number form z) (node r c none)) same_slot
                  (row_there new r c none (row_is ∙ is)))
              | inr other ↦ all.only j s (sym (turns.others j other) ∙ f)
            ];
          }

  -- trees that stand side by side come in, one after the other: what is in so far, and what is still to come
  pub record Planting (old now : ℕ → Option Slot) (all rest : Nodes Row) (above : Option ℕ) (keys : List ℕ) : Type 0 where
    pub grows : Grows form old now (λ x. times form x all)
    pub within : (x : ℕ) → times form x rest ≤ times form x all
    pub fresh : IsFresh form now rest
    pub keeps : (later : ℕ → Option Slot) (ks : List ℕ) → ((k : ℕ) (slot : Slot) → now k ≡ Some slot → later k ≡ Some slot)
        → Keeps form later rest above ks → Keeps form later all above (keys ++ ks)

  pub planting-start : (old : ℕ → Option Slot) (all : Nodes Row) (above : Option ℕ) → IsFresh form old all
      → Planting old old all all above []
  planting-start old all above fresh = record {
    grows = grows-same old (λ x. times form x all);
    within = λ x. omega arith;
    fresh = fresh;
    keeps = λ later ks more kept. kept;
  }

  module _ (old now : ℕ → Option Slot) (all : Nodes Row) (r : Row) (c t : Nodes Row) (above : Option ℕ) (keys : List ℕ)
      (before : Planting old now all (node r c t) above keys) where
    pub planting-fresh : IsFresh form now (node r c none)
    planting-fresh =
        record {
          distinct = λ x. let e = before.fresh.distinct x in omega arith;
          apart = λ k slot e. let f = before.fresh.apart k slot e in omega arith;
        }

    pub planting-turn : (new : ℕ → Option Slot) (k : ℕ) → Grows form now new (λ x. times form x (node r c none))
        → KeepsOne form new (record { row = r; children = c }) above k → Planting old new all t above (keys ++ k ∷ [])
    planting-turn new k grows (slot, at, up, is, below, after) =
        record {
          grows = grows-then old now new _ _ _ (λ x. omega arith) (λ x. let w = before.within x in omega arith) before.grows grows;
          within = λ x. let w = before.within x in omega arith;
          fresh = record {
            distinct = λ x. let e = before.fresh.distinct x in omega arith;
            apart = λ j s e. elim (grows.only j s e) [
              | inl f ↦ let a = before.fresh.apart j s f in omega arith
              | inr there ↦ let d = before.fresh.distinct (slot_number form s) in omega arith
            ];
          };
          keeps = λ later ks more kept.
              subst (λ (js : List ℕ). Keeps form later all above js) (sym (append_assoc keys (k ∷ []) ks))
              (before.keeps later (k ∷ ks) (λ j s e. more j s (grows.kept j s e)) (
                slot,
                more k slot at,
                up,
                is,
                keeps-same new later c (Some k) (form.children slot)
                    (λ j s e there. more j s e) below,
                kept,
              ));
        }

  pub planting-end : (old now : ℕ → Option Slot) (all : Nodes Row) (above : Option ℕ) (keys : List ℕ)
      → Planting old now all none above keys → Keeps form now all above keys
  planting-end old now all above keys done = subst (λ (js : List ℕ). Keeps form now all above js) (append-nil keys)
      (done.keeps now [] (λ k slot e. e) tt)

  -- a number that is still to come has no slot
  pub fresh-absent : (slots : ℕ → Option Slot) (keys : ℕ → Option ℕ) (n : Nodes Row) → IsFiled form slots keys → IsFresh form slots n
      → (x : ℕ) → 0 < times form x n → keys x ≡ None
  fresh-absent slots keys n files fresh x there =
      (elim (keys x) as (λ o. keys x ≡ o → o ≡ None) [
        | None ↦ λ e. refl
        | Some k ↦ λ e.
            let (slot, at, number_is) = files.found x k e in
            let zero_times = subst (λ (y : ℕ). times form y n ≡ 0) number_is (fresh.apart k slot at) in
            absurd (omega arith)
      ]) refl

  module _ (slots slots2 : ℕ → Option Slot) (keys keys2 : ℕ → Option ℕ) where
    -- one slot more, and its number
    pub files-add : (k : ℕ) (slot : Slot) → IsFiled form slots keys → Comes form slots slots2 k slot → keys (slot_number form slot) ≡ None
        → keys2 (slot_number form slot) ≡ Some k → ((y : ℕ) → y ≢ slot_number form slot → keys2 y ≡ keys y) → IsFiled form slots2 keys2
    files-add k slot files comes absent key_is other_keys =
        record {
          filed = λ j s e. elim (cases_eq j k) [
            | inl same ↦
                let same_slot : s ≡ slot = let both : Some s ≡ Some slot = sym e ∙ ap slots2 same ∙ comes.at in cc in
                ap (λ (z : Slot). keys2 (slot_number form z)) same_slot ∙ key_is ∙ ap (λ (i : ℕ). Some i) (sym same)
            | inr other ↦
                let old = sym (comes.others j other) ∙ e in
                let filed = files.filed j s old in
                other_keys (slot_number form s)
                (λ same. let clash : None ≡ Some j = sym absent ∙ ap keys (sym same) ∙ filed in absurd (cc)) ∙ filed
          ];
          found = λ y j e. elim (cases_eq y (slot_number form slot)) [
            | inl same ↦
                let same_key : j ≡ k = let both : Some j ≡ Some k = sym e ∙ ap keys2 same ∙ key_is in cc in
                (slot, ap slots2 same_key ∙ comes.at, sym same)
            | inr other ↦
                let (s, old, number_is) = files.found y j (sym (other_keys y other) ∙ e) in (
                  s,
                  comes.others j (λ same. let clash : None
                      ≡ Some s = sym comes.vacant ∙ ap slots (sym same) ∙ old in absurd (cc)) ∙ old,
                  number_is,
                )
          ];
        }

    -- one slot less, and its number
    pub files-remove : (x k : ℕ) → IsFiled form slots keys → keys x ≡ Some k → slots2 k ≡ None → ((j : ℕ) → j ≢ k → slots2 j ≡ slots j)
        → keys2 x ≡ None → ((y : ℕ) → y ≢ x → keys2 y ≡ keys y) → IsFiled form slots2 keys2
    files-remove x k files key_is gone others gone_key other_keys =
        let (slot, at, number_is) = files.found x k key_is in
        record {
          filed = λ j s e. elim (cases_eq j k) [
            | inl same ↦ let clash : None ≡ Some s = sym gone ∙ ap slots2 (sym same) ∙ e in absurd (cc)
            | inr other ↦
                let filed = files.filed j s (sym (others j other) ∙ e) in
                other_keys (slot_number form s)
                (λ same. other (let both : Some j ≡ Some k = sym filed ∙ ap keys same ∙ key_is in cc)) ∙ filed
          ];
          found = λ y j e. elim (cases_eq y x) [
            | inl same ↦ let clash : None ≡ Some j = sym gone_key ∙ ap keys2 (sym same) ∙ e in absurd (cc)
            | inr other ↦
                let (s, old, its_number) = files.found y j (sym (other_keys y other) ∙ e) in (
                  s,
                  others j (λ same. other (sym its_number ∙ ap (λ (z : Slot). slot_number form z)
                      (let both : Some s ≡ Some slot = sym old ∙ ap slots same ∙ at in cc) ∙ number_is)) ∙ old,
                  its_number,
                )
          ];
        }

    -- one slot changed, with its number as it was
    pub files-turn : (k : ℕ) (old new : Slot) → IsFiled form slots keys → Turns form slots slots2 k old new
        → slot_number form new ≡ slot_number form old → IsFiled form slots2 keys
    files-turn k old new files turns number_is =
        record {
          filed = λ j s e. elim (cases_eq j k) [
            | inl same ↦
                let same_slot : s ≡ new = let both : Some s ≡ Some new = sym e ∙ ap slots2 same ∙ turns.at in cc in
                ap (λ (z : Slot). keys (slot_number form z)) same_slot ∙ ap keys number_is ∙ files.filed k old turns.before ∙ ap
                (λ (i : ℕ). Some i) (sym same)
            | inr other ↦ files.filed j s (sym (turns.others j other) ∙ e)
          ];
          found = λ y j e. elim (cases_eq j k) [
            | inl same ↦
                let (s, at_j, its_number) = files.found y j e in
                let same_slot : s ≡ old = let both : Some s ≡ Some old = sym at_j ∙ ap slots same ∙ turns.before in cc in
                (new, ap slots2 same ∙ turns.at, number_is ∙ ap (λ (z : Slot). slot_number form z) (sym same_slot) ∙ its_number)
            | inr other ↦ let (s, at_j, its_number) = files.found y j e in (s, turns.others j other ∙ at_j, its_number)
          ];
        }

    -- the same slots and the same numbers
    pub files-same : IsFiled form slots keys → ((j : ℕ) → slots2 j ≡ slots j) → ((y : ℕ) → keys2 y ≡ keys y) → IsFiled form slots2 keys2
    files-same files same same_keys =
        record {
          filed = λ j s e. same_keys (slot_number form s) ∙ files.filed j s (sym (same j) ∙ e);
          found = λ y j e. let (s, at, its_number) = files.found y j (sym (same_keys y) ∙ e) in (s, same j ∙ at, its_number);
        }
