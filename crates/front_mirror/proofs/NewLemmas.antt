-- Nodes that come have numbers of their own.
use Rattle.std.proofs.Common.{◌≡◌, ℕ, ◌+◌, ◌<◌, ◌≤◌, List, Option, Some, None, refl, sym, ap, subst, ◌∙◌, inl, inr, arith}
use Rattle.std.specs.FinMap as numbers
use Rattle.std.proofs.lemmas.Bool.{cases_lt, cases_eq}
use Rattle.node_tree.specs.Nodes.{Nodes, Branch}
use Rattle.node_tree.specs.Keys.{tally, find}
use Rattle.node_tree.specs.Seen.{Seen, seen_id, seen_serial}
use Rattle.node_tree.proofs.KeyLemmas.{find-absent}
use Rattle.front_mirror.specs.declared.slots.Slot.{Slot}
use Rattle.front_mirror.specs.declared.table.Table.{Table}
use Rattle.front_mirror.specs.Tables.{table_slots, table_ids, PutsAt, IsTable}
use Rattle.front_mirror.proofs.TableLemmas.{AreNew}
use Rattle.front_mirror.proofs.LookLemmas.{serial_found}

-- a number that has an entry only where the tree has it, has none where it comes anew
no_entry : {X : Type 0} (old : ℕ → Option X) (x a b : ℕ) → ((w : X) → old x ≡ Some w → 0 < a) → a + b ≤ 1 → 0 < b → old x ≡ None
no_entry old x a b there once new =
    (elim (old x) as (λ o. old x ≡ o → o ≡ None) [
      | None ↦ λ e. refl
      | Some w ↦ λ e. let h = there w e in absurd (omega arith)
    ]) refl

pub found_tally : (key : Seen → ℕ) (x : ℕ) (n : Nodes Seen) (b : Branch Seen) → find key x n ≡ Some b → 0 < tally key x n
found_tally key x n b found =
    elim (cases_lt 0 (tally key x n)) [
      | inl some ↦ some
      | inr few ↦ absurd (let clash : None ≡ Some b = sym (find-absent key x n (omega arith)) ∙ found in cc)
    ]

module _ (a : Table) (roots : List ℕ) (n kids : Nodes Seen) (table : IsTable a roots n) (serials : (y : ℕ) → tally seen_serial y n ≤ 1)
    (ids_apart : (y : ℕ) → tally seen_id y n + tally seen_id y kids ≤ 1)
    (serials_apart : (y : ℕ) → tally seen_serial y n + tally seen_serial y kids ≤ 1) where
  serial_there : (y k : ℕ) → table_ids a y ≡ Some k → 0 < tally seen_serial y n
  serial_there y k e = let (b, found, is) = serial_found a roots n table serials y k e in found_tally seen_serial y n b found

  -- in a table with one slot changed
  pub new_turned : (m : Table) (x : ℕ) (slot slot2 : Slot) → table_slots a x ≡ Some slot
      → PutsAt (table_slots a) (table_slots m) x (Some slot2) → m.ids ≡ a.ids → AreNew (table_slots m) (table_ids m) kids
  new_turned m x slot slot2 at puts ids_are = record {
    ids_once = λ y. let h = ids_apart y in omega arith;
    serials_once = λ y. let h = serials_apart y in omega arith;
    no_slot = λ y new.
        no_entry (table_slots m) y (tally seen_id y n) (tally seen_id y kids)
        (λ s e. elim (cases_eq y x) [
          | inl same ↦ subst (λ (z : ℕ). 0 < tally seen_id z n) (sym same) (table.reached x slot at)
          | inr other ↦ table.reached y s (sym (puts.others y other) ∙ e)
        ]) (ids_apart y) new;
    no_id = λ y new.
        no_entry (table_ids m) y (tally seen_serial y n) (tally seen_serial y kids)
        (λ k e. serial_there y k (sym (ap (λ d. numbers.get d y) ids_are) ∙ e)) (serials_apart y) new;
  }
