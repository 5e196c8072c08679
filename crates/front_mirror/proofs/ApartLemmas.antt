-- Numbers that come once in a tree and among nodes that come.
use Rattle.std.proofs.Common.{◌≡◌, ℕ, zero, suc, ◌+◌, ◌<◌, ◌≤◌, true, false, ◌&&◌, ◌||◌, refl, ap, subst, inl, inr, arith}
use Rattle.node_tree.specs.Nodes.{Nodes, none, node}
use Rattle.node_tree.specs.Keys.{tally, has}
use Rattle.node_tree.specs.Seen.{Seen, seen_id, seen_serial}
use Rattle.node_tree.proofs.KeyLemmas.{has-there, has-absent, tally_row, tally_below, tally_cases}
use Rattle.dom_objects.specs.Told.{Told, seen_nodes}
use Rattle.client_views.specs.Views.{IsView, keys, is_distinct}
use Rattle.front_mirror.specs.Shown.{told_id, told_serial}
use Rattle.front_mirror.specs.Front.{is_unique, is_fresh, clashes, any_node}
use Rattle.front_mirror.proofs.ToldLemmas.{keys-seen}
use Rattle.front_mirror.proofs.ViewLemmas.{times, tally-keys, times_distinct, tally_distinct}
use Rattle.front_mirror.proofs.DistinctLemmas.{neither}
use Rattle.client_views.proofs.BoolLemmas.{and_left, and_right, denied}

-- each id and each serial stands at most once in the tree and the nodes together
pub record Once (v : Nodes Seen) (n : Nodes Told) : Type 0 where
  pub ids : (x : ℕ) → tally seen_id x v + tally seen_id x (seen_nodes n) ≤ 1
  pub serials : (x : ℕ) → tally seen_serial x v + tally seen_serial x (seen_nodes n) ≤ 1

module _ (v : Nodes Seen) where
  absent_at : (key : Seen → ℕ) (x n : ℕ) → tally key x v ≡ n → has key x v ≡ false → n ≡ 0
  absent_at key x zero is e = refl
  absent_at key x (suc n) is e = let h : has key x v ≡ true = has-there key x v (omega arith) in absurd cc

  absent_tally : (key : Seen → ℕ) (x : ℕ) → has key x v ≡ false → tally key x v ≡ 0
  absent_tally key x e = absent_at key x (tally key x v) refl e

  either_part : (P : Type 0) (a b : ℕ) → 0 < a + b → (0 < a → P) → (0 < b → P) → P
  either_part P zero b some f g = g (omega arith)
  either_part P (suc a) b some f g = f (omega arith)

  -- where no node that comes clashes with the tree, what is among them is not in the tree
  apart : (key : Seen → ℕ) → ((r : Told) → clashes v r ≡ false → has key (key r.seen) v ≡ false) → (n : Nodes Told)
      → any_node (clashes v) n ≡ false
      → (x : ℕ) → 0 < tally key x (seen_nodes n) → tally key x v ≡ 0
  apart key free none e x some = absurd (omega arith)
  apart key free (node r c t) e x some =
      let p = neither (clashes v r || any_node (clashes v) c) (any_node (clashes v) t) e in
      let q = neither (clashes v r) (any_node (clashes v) c) p.0 in
      elim (tally_cases key x r.seen (seen_nodes c) (seen_nodes t)) [
        | inl same ↦ subst (λ (y : ℕ). tally key y v ≡ 0) same.0 (absent_tally key (key r.seen) (free r q.0))
        | inr other ↦
            either_part (tally key x v ≡ 0) (tally key x (seen_nodes c)) (tally key x (seen_nodes t)) (omega arith)
            (apart key free c q.1 x) (apart key free t p.1 x)
      ]

  once_of : (a b : ℕ) → a ≤ 1 → b ≤ 1 → (0 < b → a ≡ 0) → a + b ≤ 1
  once_of a zero h k f = omega arith
  once_of a (suc b) h k f = let e = f (omega arith) in omega arith

  pub once_new : (n : Nodes Told) → IsView v → (is_unique n && is_fresh v n) ≡ true → Once v n
  once_new n view e =
      let unique = and_left (is_unique n) (is_fresh v n) e in
      let free : any_node (clashes v) n ≡ false = denied (any_node (clashes v) n) (and_right (is_unique n) (is_fresh v n) e) in
      record {
        ids = λ x.
            once_of (tally seen_id x v) (tally seen_id x (seen_nodes n)) (view.ids x)
            (tally_distinct seen_id n (and_left (is_distinct (keys told_id n)) (is_distinct (keys told_serial n)) unique) x)
            (apart seen_id (λ r h. (neither (has seen_id r.seen.id v) (has seen_serial r.seen.serial v) h).0) n free x);
        serials = λ x.
            once_of (tally seen_serial x v) (tally seen_serial x (seen_nodes n)) (view.serials x)
            (tally_distinct seen_serial n (and_right (is_distinct (keys told_id n)) (is_distinct (keys told_serial n)) unique) x)
            (apart seen_serial (λ r h. (neither (has seen_id r.seen.id v) (has seen_serial r.seen.serial v) h).1) n free x);
      }

  -- ---- and the other way

  unique_once : (key : Seen → ℕ) (n : Nodes Told) → ((x : ℕ) → tally key x v + tally key x (seen_nodes n) ≤ 1)
      → is_distinct (keys (λ r. key r.seen) n) ≡ true
  unique_once key n once =
      times_distinct (keys (λ r. key r.seen) n)
      (λ x.
      let a = tally-keys key x (seen_nodes n) in
      let b : times x (keys key (seen_nodes n)) ≡ times x (keys (λ r. key r.seen) n) = ap (times x) (keys-seen key n) in
      let h = once x in
      omega arith)

  free_once : (n : Nodes Told) → Once v n → any_node (clashes v) n ≡ false
  free_once none once = refl
  free_once (node r c t) once =
      let id : has seen_id r.seen.id v ≡ false
      = has-absent seen_id r.seen.id v
      (let h = once.ids r.seen.id in let k = tally_row seen_id r.seen.id r.seen (seen_nodes c) (seen_nodes t) refl in omega arith) in
      let serial : has seen_serial r.seen.serial v ≡ false
      = has-absent seen_serial r.seen.serial v
      (let h = once.serials r.seen.serial in let k = tally_row seen_serial r.seen.serial r.seen (seen_nodes c)
      (seen_nodes t) refl in omega arith) in
      let below : Once v c = record {
        ids = λ x. let h = once.ids x in let k = tally_below seen_id x r.seen (seen_nodes c) (seen_nodes t) in omega arith;
        serials = λ x. let h = once.serials x in let k = tally_below seen_serial x r.seen (seen_nodes c) (seen_nodes t) in omega arith;
      } in
      let beside : Once v t = record {
        ids = λ x. let h = once.ids x in let k = tally_below seen_id x r.seen (seen_nodes c) (seen_nodes t) in omega arith;
        serials = λ x. let h = once.serials x in let k = tally_below seen_serial x r.seen (seen_nodes c) (seen_nodes t) in omega arith;
      } in
      rw (id, serial, free_once c below, free_once t beside) refl

  pub new_once : (n : Nodes Told) → Once v n → (is_unique n && is_fresh v n) ≡ true
  new_once n once = rw (unique_once seen_id n once.ids, unique_once seen_serial n once.serials, free_once n once) refl
