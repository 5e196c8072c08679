-- One node of a page is changed: what of it is seen.
use Rattle.std.proofs.Common.{◌≡◌, ℕ, suc, ◌+◌, ◌<◌, ◌≤◌, ◌==◌, Bool, true, false, cond, ◌&&◌, ◌||◌, refl, sym, ap, subst, ◌∙◌, ◌⊎◌, inl}
use Rattle.std.proofs.Common.{inr, arith}
use Rattle.std.proofs.lemmas.Bool.{eq-eqb, eqb-true, ne_eqb}
use Rattle.std.proofs.lemmas.Bool.Decides.{nat_tests}
use Rattle.node_tree.specs.Nodes.{Nodes, none, node, Branch, width}
use Rattle.node_tree.specs.Keys.{tally, At, here, within, past}
use Rattle.node_tree.specs.Labels.{holds}
use Rattle.node_tree.specs.Seen.{Seen, leaf, counted, opened, seen_id}
use Rattle.node_tree.proofs.KeyLemmas.{At-tally, tally_below}
use Rattle.page_tree.specs.Pages.{PageRow, row_serial}
use Rattle.page_tree.specs.Edits.{put_before, taken_out}
use Rattle.node_binding.specs.Counts.{times}
use Rattle.node_binding.specs.Cuts.{opens, known, seen_of, cut}
use Rattle.node_binding.specs.Openings.{is_unopened, is_closed}
use Rattle.node_binding.proofs.Known.{known-tally}
use Rattle.node_binding.proofs.OpeningLemmas.{self_times}
use Rattle.node_binding.proofs.SessionLemmas.{times-known}
use Rattle.node_binding.proofs.AnewLemmas.{and-first, and-second, unopened-at}
use Rattle.node_binding.proofs.ChangedLemmas.{IsAlike, AreContainersOpened}
use Rattle.client_views.specs.Moves.{has_tree, put_behind, put_after, without_tree}
use Rattle.dom_agent.specs.Requests.{shown}
use Rattle.dom_agent.specs.Edits.{id_before, unopened}

-- ---- the view where one node is changed

-- only in a view is the change seen
pub record SeenAt (o : ℕ → Bool) (i : ℕ → ℕ) (old new : Branch PageRow) (n m : Nodes PageRow) : Type 0 where
  pub in_view : Bool
  pub shows : in_view ≡ true → (depth : ℕ) × At (shown o i old) (shown o i new) depth (cut o i n) (cut o i m)
  pub hides : in_view ≡ false → cut o i n ≡ cut o i m
  pub known : tally row_serial old.row.serial n ≤ 1 → times old.row.serial (known o n) ≡ cond {A = ℕ} in_view 1 0
  pub seen : is_closed o n ≡ true → AreContainersOpened o n → o old.row.serial ≡ true → in_view ≡ true

module _ (o : ℕ → Bool) (i : ℕ → ℕ) {old new : Branch PageRow} (alike : IsAlike old new) where
  row_wide : (r : PageRow) (c m : Nodes PageRow) → width c ≡ width m → seen_of o i r c ≡ seen_of o i r m
  row_wide r c m e = λ k. record {
    id = i r.serial;
    serial = r.serial;
    label = r.label;
    hold = cond (holds r.label.kind) (cond (o r.serial) opened (counted (e k))) leaf;
  }

  width-at : {depth : ℕ} {n m : Nodes PageRow} → At old new depth n m → width n ≡ width m
  width-at (here t) = refl
  width-at (within depth r c m t e) = refl
  width-at (past depth r c t m e) = ap suc (width-at e)

  seen_within : (g v : Bool) (r : Seen) (u w t : Nodes Seen) → (v ≡ true → (depth : ℕ) × At (shown o i old) (shown o i new) depth u w)
      → cond g v false ≡ true
      → (depth : ℕ) × At (shown o i old) (shown o i new) depth (node r (cond g u none) t) (node r (cond g w none) t)
  seen_within true v r u w t f e = let d = f e in (suc d.0, within d.0 r u w t d.1)
  seen_within false v r u w t f e = let bad : false ≡ true = e in cc

  hidden_within : (g v : Bool) (u w : Nodes Seen) → (v ≡ false → u ≡ w) → cond g v false ≡ false → cond g u none ≡ cond g w none
  hidden_within true v u w f e = f e
  hidden_within false v u w f e = refl

  seen_step : (h a v x y z : Bool) → (a ≡ true → h ≡ true) → (x ≡ true → v ≡ true) → (a ≡ false → y ≡ true → ⊥) → (cond a x y && z) ≡ true
      → cond (cond h a false) v false ≡ true
  seen_step true true v x y z f g k e = g (and-first x z e)
  seen_step false true v x y z f g k e = let no_holder : false ≡ true = f refl in cc
  seen_step h false v x y z f g k e = absurd (k refl (and-first y z e))

  nowhere : (a g v : Bool) (k : ℕ) → (0 < cond {A = ℕ} a 1 0 → ⊥) → k ≡ 0
      → cond {A = ℕ} a 1 0 + (cond {A = ℕ} g (cond {A = ℕ} v 1 0) 0 + k) ≡ cond {A = ℕ} (cond g v false) 1 0
  nowhere true g v k f e = absurd (f (omega arith))
  nowhere false true v k f e = omega arith
  nowhere false false v k f e = omega arith

  pub seen-at : {depth : ℕ} {n m : Nodes PageRow} → At old new depth n m → SeenAt o i old new n m
  seen-at (here t) = record {
    in_view = true;
    shows = λ _. (0, here (cut o i t));
    hides = λ e. let bad : true ≡ false = e in cc;
    known = λ once.
        let self : cond {A = ℕ} (old.row.serial == old.row.serial) 1 0 ≡ 1 = self_times old.row.serial in
        omega (arith, times-known o (λ x. x) old.row.serial old.row old.children t, known-tally o old.row.serial t, known-below t once);
    seen = λ closed containers is. refl;
  }
    where
      known-below : (t : Nodes PageRow) → tally row_serial old.row.serial (node old.row old.children t) ≤ 1
          → cond {A = ℕ} (opens o old.row) (times old.row.serial (known o old.children)) 0 ≡ 0
      known-below t once =
          let self : cond {A = ℕ} (old.row.serial == old.row.serial) 1 0 ≡ 1 = self_times old.row.serial in
          none_there (opens o old.row) (times old.row.serial (known o old.children))
          (omega (arith, known-tally o old.row.serial old.children))
        where
          none_there : (b : Bool) (k : ℕ) → k ≡ 0 → cond {A = ℕ} b k 0 ≡ 0
          none_there true k e = e
          none_there false k e = refl
  seen-at (within depth r c m t e) =
      let inner = seen-at e in
      record {
        in_view = cond (opens o r) inner.in_view false;
        shows = λ v. (let d = seen_within (opens o r) inner.in_view (seen_of o i r m) (cut o i c) (cut o i m) (cut o i t) inner.shows v in (
          d.0,
          subst (λ (x : Seen). At (shown o i old) (shown o i new) d.0 (node x (cond (opens o r) (cut o i c) none) (cut o i t))
              (cut o i (node r m t))) (sym (row_wide r c m (width-at e))) d.1,
        ));
        hides = λ v.
            ap (λ (x : Seen). node x (cond (opens o r) (cut o i c) none) (cut o i t)) (row_wide r c m (width-at e))
            ∙ ap (λ u. node (seen_of o i r m) u (cut o i t))
            (hidden_within (opens o r) inner.in_view (cut o i c) (cut o i m) inner.hides v);
        known = λ once.
            let s = old.row.serial in
            let there : 0 < tally row_serial s c = At-tally row_serial e in
            let low : tally row_serial s c + tally row_serial s t ≤ tally row_serial s (node r c t) = tally_below row_serial s r c t in
            times-known o (λ x. x) s r c t
            ∙ ap (λ k. cond {A = ℕ} (r.serial == s) 1 0 + (cond {A = ℕ} (opens o r) k 0 + times s (known o t))) (inner.known (omega arith))
            ∙ nowhere (r.serial == s) (opens o r) inner.in_view (times s (known o t)) (λ h. omega arith) (omega (arith, known-tally o s t));
        seen = λ closed containers is.
            seen_step (holds r.label.kind) (o r.serial) inner.in_view (is_closed o c) (is_unopened o c) (is_closed o t) containers.0
            (λ k. inner.seen k containers.1 is)
            (λ _ shut. let no_one : false ≡ true = sym (unopened-at o c shut old.row.serial (At-tally row_serial e)) ∙ is in cc) closed;
      }
  seen-at (past depth r c t m e) =
      let inner = seen-at e in
      let kids = cond (opens o r) (cut o i c) none in
      record {
        in_view = inner.in_view;
        shows = λ v. (let d = inner.shows v in (d.0, past d.0 (seen_of o i r c) kids (cut o i t) (cut o i m) d.1));
        hides = λ v. ap (node (seen_of o i r c) kids) (inner.hides v);
        known = λ once.
            let s = old.row.serial in
            let there : 0 < tally row_serial s t = At-tally row_serial e in
            let low : tally row_serial s c + tally row_serial s t ≤ tally row_serial s (node r c t) = tally_below row_serial s r c t in
            times-known o (λ x. x) s r c t
            ∙ omega (
              arith,
              inner.known (omega arith),
              once_only (r.serial == s) (opens o r) (times s (known o c)) (tally row_serial s c)
                  (tally row_serial s t) once there (known-tally o s c),
            );
        seen = λ closed containers is. inner.seen
            (and-second (cond (o r.serial) (is_closed o c) (is_unopened o c)) (is_closed o t) closed) containers.2 is;
      }
    where
      once_only : (a g : Bool) (k x y : ℕ) → cond {A = ℕ} a 1 0 + x + y ≤ 1 → 0 < y → k ≤ x → cond {A = ℕ} a 1 0 + cond {A = ℕ} g k 0 ≡ 0
      once_only true g k x y once h le = absurd (omega arith)
      once_only false true k x y once h le = omega arith
      once_only false false k x y once h le = refl

-- ---- among the children

has_tree-tally : (id : ℕ) (n : Nodes Seen) → has_tree id n ≡ true → 0 < tally seen_id id n
has_tree-tally id none e = cc
has_tree-tally id (node r c t) e = one_of (r.id == id) (has_tree id t) (tally seen_id id c) (tally seen_id id t) e (has_tree-tally id t)
  where
    one_of : (a b : Bool) (x y : ℕ) → (a || b) ≡ true → (b ≡ true → 0 < y) → 0 < cond {A = ℕ} a 1 0 + x + y
    one_of true b x y e f = omega arith
    one_of false b x y e f = let h : 0 < y = f e in omega arith

module _ (o : ℕ → Bool) (i : ℕ → ℕ) (before : ℕ) (x : Branch PageRow) where
  abbrev put : Nodes PageRow → Nodes PageRow
  put n = put_before before x n

  -- the sibling before x among these, x put in
  abbrev prior : ℕ → Nodes PageRow → ℕ
  prior p n = id_before i p x.row.serial (put n)

  head_is_x : (p : ℕ) (t : Nodes PageRow) → id_before i p x.row.serial (node x.row x.children t) ≡ p
  head_is_x p t = ap (λ b. cond {A = ℕ} b p (id_before i (i x.row.serial) x.row.serial t)) (eq-eqb x.row.serial x.row.serial refl)

  prior_node : (p : ℕ) (r : PageRow) (c t : Nodes PageRow) → (r.serial ≡ x.row.serial → ⊥)
      → prior p (node r c t) ≡ cond {A = ℕ} (r.serial == before) p (prior (i r.serial) t)
  prior_node p r c t other = by (r.serial == before)
    where
      by : (b : Bool) → id_before i p x.row.serial (cond b (node x.row x.children (node r c t)) (node r c (put t)))
          ≡ cond {A = ℕ} b p (prior (i r.serial) t)
      by true = head_is_x p (node r c t)
      by false = ap (λ b. cond {A = ℕ} b p (prior (i r.serial) t)) (ne_eqb r.serial x.row.serial other)

  other_first : (r : PageRow) (c t : Nodes PageRow) → tally row_serial x.row.serial (node r c t) ≡ 0 → r.serial ≡ x.row.serial → ⊥
  other_first r c t h same = omega (arith, self_times x.row.serial, ap (λ (s : ℕ). cond {A = ℕ} (s == x.row.serial) 1 0) same)

  -- it is the one before, or one of them
  pub prior_is : (p : ℕ) (n : Nodes PageRow) → tally row_serial x.row.serial n ≡ 0
      → (prior p n ≡ p) ⊎ (has_tree (prior p n) (cut o i n) ≡ true)
  prior_is p none h = inl (head_is_x p none)
  prior_is p (node r c t) h =
      subst (λ (q : ℕ). (q ≡ p) ⊎ ((i r.serial == q || has_tree q (cut o i t)) ≡ true)) (sym (prior_node p r c t (other_first r c t h)))
      (by (r.serial == before) (prior_is (i r.serial) t (omega arith)))
    where
      or_second : (a b : Bool) → b ≡ true → (a || b) ≡ true
      or_second true b e = refl
      or_second false b e = e

      by : (b : Bool) → (prior (i r.serial) t ≡ i r.serial) ⊎ (has_tree (prior (i r.serial) t) (cut o i t) ≡ true)
          → (cond {A = ℕ} b p (prior (i r.serial) t) ≡ p)
          ⊎ ((i r.serial == cond {A = ℕ} b p (prior (i r.serial) t) || has_tree (cond {A = ℕ} b p (prior (i r.serial) t)) (cut o i t))
          ≡ true)
      by true e = inl refl
      by false (inl e) = inr (ap (λ b. b || has_tree (prior (i r.serial) t) (cut o i t))
          (eq-eqb (i r.serial) (prior (i r.serial) t) (sym e)))
      by false (inr e) = inr (or_second (i r.serial == prior (i r.serial) t) (has_tree (prior (i r.serial) t) (cut o i t)) e)

  module _ (shut : o x.row.serial ≡ false) where
    abbrev pub bare : Branch Seen
    bare = unopened (i x.row.serial) x

    cut_new : (t : Nodes PageRow) → cut o i (node x.row x.children t) ≡ node bare.row none (cut o i t)
    cut_new t = by (holds x.row.label.kind) (o x.row.serial) shut
      where
        by : (h a : Bool) → a ≡ false
            → node (record {
              id = i x.row.serial;
              serial = x.row.serial;
              label = x.row.label;
              hold = cond h (cond a opened (counted (width x.children))) leaf;
            }) (cond (cond h a false) (cut o i x.children) none)
            (cut o i t)
            ≡ node (record {
              id = i x.row.serial;
              serial = x.row.serial;
              label = x.row.label;
              hold = cond h (counted (width x.children)) leaf;
            }) none (cut o i t)
        by true true e = let bad : true ≡ false = e in cc
        by true false e = refl
        by false a e = refl

    -- behind a sibling of id p that stands before these trees, or among them
    put_shown : (p : ℕ) (n : Nodes PageRow) → tally row_serial x.row.serial n ≡ 0 → ((y : ℕ) → tally seen_id y (cut o i n) ≤ 1)
        → tally seen_id p (cut o i n) ≡ 0
        → cond (p == prior p n) (node bare.row none (cut o i n)) (put_behind (prior p n) bare (cut o i n)) ≡ cut o i (put n)
    put_shown p none h once apart = ap (λ b. cond b (node bare.row none none) none)
        (eq-eqb p (prior p none) (sym (head_is_x p none))) ∙ sym (cut_new none)
    put_shown p (node r c t) h once apart =
        let q = prior (i r.serial) t in
        let k = cond (opens o r) (cut o i c) none in
        let rest = put_shown (i r.serial) t (omega arith) (λ y. omega (arith, once y))
        (omega (arith, once (i r.serial), self_times (i r.serial))) in
        subst (λ (z : ℕ). cond (p == z) (node bare.row none (cut o i (node r c t))) (put_behind z bare (cut o i (node r c t)))
        ≡ cut o i (put (node r c t))) (sym (prior_node p r c t (other_first r c t h)))
        (by (r.serial == before) rest (prior_is (i r.serial) t (omega arith)))
      where
        part : (b : Bool) (k u v : Nodes Seen) (w : Seen) → cond b (node w k u) (node w k v) ≡ node w k (cond b u v)
        part true k u v w = refl
        part false k u v w = refl

        apart_q : (prior (i r.serial) t ≡ i r.serial) ⊎ (has_tree (prior (i r.serial) t) (cut o i t) ≡ true) → p ≡ prior (i r.serial) t → ⊥
        apart_q (inl e) same = omega (arith, apart, self_times p, ap (λ (z : ℕ). cond {A = ℕ} (z == p) 1 0) (sym e ∙ sym same))
        apart_q (inr e) same = omega (
          arith,
          apart,
          has_tree-tally (prior (i r.serial) t) (cut o i t) e,
          ap
              (λ (z : ℕ). tally seen_id z (cut o i t)) same,
        )

        by : (b : Bool)
            → cond (i r.serial == prior (i r.serial) t) (node bare.row none (cut o i t))
            (put_behind (prior (i r.serial) t) bare (cut o i t)) ≡ cut o i (put t)
            → (prior (i r.serial) t ≡ i r.serial) ⊎ (has_tree (prior (i r.serial) t) (cut o i t) ≡ true)
            → cond (p == cond {A = ℕ} b p (prior (i r.serial) t)) (node bare.row none (cut o i (node r c t)))
            (put_behind (cond {A = ℕ} b p (prior (i r.serial) t)) bare (cut o i (node r c t)))
            ≡ cut o i (cond b (node x.row x.children (node r c t)) (node r c (put t)))
        by true rest is = ap (λ b. cond b (node bare.row none (cut o i (node r c t))) (put_behind p bare (cut o i (node r c t))))
            (eq-eqb p p refl) ∙ sym (cut_new (node r c t))
        by false rest is =
            ap (λ b. cond b (node bare.row none (cut o i (node r c t))) (put_behind (prior (i r.serial) t) bare (cut o i (node r c t))))
            (ne_eqb p (prior (i r.serial) t) (apart_q is))
            ∙ part (i r.serial == prior (i r.serial) t) (cond (opens o r) (cut o i c) none) (node bare.row none (cut o i t))
            (put_behind (prior (i r.serial) t) bare (cut o i t)) (seen_of o i r c)
            ∙ ap (node (seen_of o i r c) (cond (opens o r) (cut o i c) none)) rest

    -- x is seen behind its previous sibling
    pub insert_shown : (n : Nodes PageRow) → tally row_serial x.row.serial n ≡ 0 → ((y : ℕ) → tally seen_id y (cut o i n) ≤ 1)
        → tally seen_id 0 (cut o i n) ≡ 0
        → put_after (prior 0 n) bare (cut o i n) ≡ cut o i (put n)
    insert_shown n h once apart = ap (λ b. cond b (node bare.row none (cut o i n)) (put_behind (prior 0 n) bare (cut o i n)))
        (turned 0 (prior 0 n)) ∙ put_shown 0 n h once apart
      where
        turned : (a b : ℕ) → (b == a) ≡ (a == b)
        turned a b = grind (arith, nat_tests)

-- ---- a child taken out

-- one of these trees has that serial
abbrev pub is_root : ℕ → Nodes PageRow → Bool
is_root serial none = false
is_root serial (node r c t) = r.serial == serial || is_root serial t

module _ (o : ℕ → Bool) (i : ℕ → ℕ) (serial : ℕ) where
  or_parts : (a b : Bool) → (a || b) ≡ true → a ≡ false → b ≡ true
  or_parts true b e f = let bad : true ≡ false = f in cc
  or_parts false b e f = e

  pub root_seen : (n : Nodes PageRow) → is_root serial n ≡ true → has_tree (i serial) (cut o i n) ≡ true
  root_seen none e = e
  root_seen (node r c t) e = by (r.serial == serial) refl (root_seen t)
    where
      or_second : (a b : Bool) → b ≡ true → (a || b) ≡ true
      or_second true b e = refl
      or_second false b e = e

      by : (b : Bool) → (r.serial == serial) ≡ b → (is_root serial t ≡ true → has_tree (i serial) (cut o i t) ≡ true)
          → (i r.serial == i serial || has_tree (i serial) (cut o i t)) ≡ true
      by true is rest = ap (λ b. b || has_tree (i serial) (cut o i t)) (eq-eqb (i r.serial) (i serial) (ap i (eqb-true r.serial serial is)))
      by false is rest = or_second (i r.serial == i serial) (has_tree (i serial) (cut o i t))
          (rest (or_parts (r.serial == serial) (is_root serial t) e is))

  pub drop_shown : (n : Nodes PageRow) → is_root serial n ≡ true → ((y : ℕ) → tally seen_id y (cut o i n) ≤ 1)
      → without_tree (i serial) (cut o i n) ≡ cut o i (taken_out serial n)
  drop_shown none e once = refl
  drop_shown (node r c t) e once = by (r.serial == serial) refl (λ in_t. drop_shown t in_t (λ y. omega (arith, once y)))
    where
      by : (b : Bool) → (r.serial == serial) ≡ b
          → (is_root serial t ≡ true → without_tree (i serial) (cut o i t) ≡ cut o i (taken_out serial t))
          → without_tree (i serial) (cut o i (node r c t)) ≡ cut o i (cond b t (node r c (taken_out serial t)))
      by true is rest = ap (λ b. cond b (cut o i t)
          (node (seen_of o i r c) (cond (opens o r) (cut o i c) none) (without_tree (i serial) (cut o i t))))
          (eq-eqb (i r.serial) (i serial) (ap i (eqb-true r.serial serial is)))
      by false is rest =
          let in_t : is_root serial t ≡ true = or_parts (r.serial == serial) (is_root serial t) e is in
          let there : 0 < tally seen_id (i serial) (cut o i t) = has_tree-tally (i serial) (cut o i t) (root_seen t in_t) in
          ap (λ b. cond b (cut o i t) (node (seen_of o i r c) (cond (opens o r) (cut o i c) none) (without_tree (i serial) (cut o i t))))
          (ne_eqb (i r.serial) (i serial)
          (λ same. omega (arith, once (i serial), self_times (i serial), there, ap (λ (z : ℕ). cond {A = ℕ} (z == i serial) 1 0) same)))
          ∙ ap (node (seen_of o i r c) (cond (opens o r) (cut o i c) none)) (rest in_t)
