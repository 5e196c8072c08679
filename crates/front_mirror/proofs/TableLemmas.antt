-- Slots put in and taken out, and the trees that they keep.
use Rattle.std.proofs.Common.{◌≡◌, ◌≢◌, ◌⊎◌, ℕ, ◌+◌, ◌<◌, ◌≤◌, List, [], ◌∷◌, ◌++◌, length, get_or, drop, Option, Some, None, Result, Ok}
use Rattle.std.proofs.Common.{Err, OnOk, refl, sym, ap, subst, ◌∙◌, inl, inr, arith}
use Rattle.std.proofs.lemmas.Bool.{eq-eqb, ne_eqb, cases_lt, cases_eq}
use Rattle.node_tree.specs.Nodes.{Nodes, none, node}
use Rattle.node_tree.specs.Keys.{tally}
use Rattle.node_tree.specs.Seen.{Hold, leaf, counted, opened, Seen, seen_id, seen_serial}
use Rattle.node_tree.specs.Arena.{Keeps, IsFiled, Comes}
use Rattle.node_tree.proofs.KeyLemmas.{tally_row, tally_below, tally_cases}
use Rattle.node_tree.proofs.ArenaLemmas.{keeps-same, files-add, files-remove}
use Rattle.std.proofs.lemmas.List.{drop_more}
use Rattle.std.specs.FinMap as numbers
use Rattle.client_views.specs.Views.{keys}
use Rattle.front_mirror.specs.declared.table.Table.{Table}
use Rattle.front_mirror.specs.declared.slots.Slot.{Slot}
use Rattle.front_mirror.specs.Tables.{hold_below, below_hold, mirror_row, by_id, by_serial, with_entry, PutsAt, root_ids, new_slot, planted}
use Rattle.front_mirror.specs.Tables.{serials_listed, without_slots, table_slots, table_ids, IsListed, HasOwnIds}

-- ---- one entry

module _ {X : Type 0} (k : ℕ) (w : Option X) (old : ℕ → Option X) where
  pub entry_at : with_entry k w old k ≡ w
  entry_at = rw (eq-eqb k k refl) refl

  pub entry_other : (j : ℕ) → j ≢ k → with_entry k w old j ≡ old j
  entry_other j other = rw (ne_eqb j k other) refl

  pub puts_is : (new : ℕ → Option X) → PutsAt old new k w → new ≡ with_entry k w old
  puts_is new puts = λ i j. pointwise j i
    where
      pointwise : (j : ℕ) → new j ≡ with_entry k w old j
      pointwise j = elim (cases_eq j k) [
        | inl same ↦ ap new same ∙ puts.at ∙ sym entry_at ∙ ap (with_entry k w old) (sym same)
        | inr other ↦ puts.others j other ∙ sym (entry_other j other)
      ]

pub hold_back : (h : Hold) → below_hold (hold_below h) ≡ h
hold_back leaf = refl
hold_back (counted n) = refl
hold_back opened = refl

row_back : (above : Option ℕ) (r : Seen) (children : List ℕ) → mirror_row (new_slot above r children) ≡ r
row_back above r children = ap (λ (h : Hold). record { id = r.id; serial = r.serial; label = r.label; hold = h }) (hold_back r.hold)

entry-own : (k : ℕ) (s : Slot) (slots : ℕ → Option Slot) → s.id ≡ k → HasOwnIds slots → HasOwnIds (with_entry k (Some s) slots)
entry-own k s slots is own j z e =
    elim (cases_eq j k) [
      | inl same ↦
          let both : Some z ≡ Some s = sym e ∙ ap (with_entry k (Some s) slots) same ∙ entry_at k (Some s) slots in
          let one : z ≡ s = cc in
          ap (λ (y : Slot). y.id) one ∙ is ∙ sym same
      | inr other ↦ own j z (sym (entry_other k (Some s) slots j other) ∙ e)
    ]

-- ---- nodes that come

-- the slots with the first node, and then with what is below it
abbrev with_first : Option ℕ → Seen → Nodes Seen → (ℕ → Option Slot) → ℕ → Option Slot
with_first above r c slots = with_entry r.id (Some (new_slot above r (root_ids c))) slots

pub planted-outside : (above : Option ℕ) (n : Nodes Seen) (slots : ℕ → Option Slot) (k : ℕ) → tally seen_id k n ≡ 0
    → planted above n slots k ≡ slots k
planted-outside above none slots k h = refl
planted-outside above (node r c t) slots k h =
    elim (tally_cases seen_id k r c t) [
      | inl p ↦ absurd (omega (arith, p.1))
      | inr p ↦
          let e = p.1 in
          planted-outside above t (planted (Some r.id) c (with_first above r c slots)) k (omega arith)
          ∙ planted-outside (Some r.id) c (with_first above r c slots) k (omega arith)
          ∙ entry_other r.id (Some (new_slot above r (root_ids c))) slots k (λ e. p.0 (sym e))
    ]

pub listed-outside : (n : Nodes Seen) (ids : ℕ → Option ℕ) (x : ℕ) → tally seen_serial x n ≡ 0 → serials_listed n ids x ≡ ids x
listed-outside none ids x h = refl
listed-outside (node r c t) ids x h =
    elim (tally_cases seen_serial x r c t) [
      | inl p ↦ absurd (omega (arith, p.1))
      | inr p ↦
          let e = p.1 in
          listed-outside t (serials_listed c (with_entry r.serial (Some r.id) ids)) x (omega arith)
          ∙ listed-outside c (with_entry r.serial (Some r.id) ids) x (omega arith)
          ∙ entry_other r.serial (Some r.id) ids x (λ e. p.0 (sym e))
    ]

pub planted-own : (above : Option ℕ) (n : Nodes Seen) (slots : ℕ → Option Slot) → HasOwnIds slots → HasOwnIds (planted above n slots)
planted-own above none slots own = own
planted-own above (node r c t) slots own =
    planted-own above t (planted (Some r.id) c (with_first above r c slots))
    (planted-own (Some r.id) c (with_first above r c slots) (entry-own r.id (new_slot above r (root_ids c)) slots refl own))

-- each slot was there, or is of a node that came
pub planted-only : (above : Option ℕ) (n : Nodes Seen) (slots : ℕ → Option Slot) (k : ℕ)
    → (planted above n slots k ≡ slots k) ⊎ (0 < tally seen_id k n)
planted-only above n slots k =
    elim (cases_lt 0 (tally seen_id k n)) [
      | inl some ↦ inr some
      | inr few ↦ inl (planted-outside above n slots k (omega arith))
    ]

row_absent : (r : Seen) (c t : Nodes Seen) → tally seen_id r.id (node r c t) ≤ 1 → (tally seen_id r.id c ≡ 0) × (tally seen_id r.id t ≡ 0)
row_absent r c t once =
    elim (tally_cases seen_id r.id r c t) [
      | inl p ↦ let e = p.1 in (omega arith, omega arith)
      | inr p ↦ absurd (p.0 refl)
    ]

pub planted-keeps : (above : Option ℕ) (n : Nodes Seen) (slots : ℕ → Option Slot) → HasOwnIds slots → ((x : ℕ) → tally seen_id x n ≤ 1)
    → Keeps by_id (planted above n slots) n above (root_ids n)
planted-keeps above none slots own once = tt
planted-keeps above (node r c t) slots own once =
    let first = with_first above r c slots in
    let below = planted (Some r.id) c first in
    let first_own = entry-own r.id (new_slot above r (root_ids c)) slots refl own in
    let below_own = planted-own (Some r.id) c first first_own in
    let absent = row_absent r c t (once r.id) in (
      new_slot above r (root_ids c),
      planted-outside above t below r.id absent.1 ∙ planted-outside (Some r.id) c first r.id absent.0 ∙ entry_at r.id
          (Some (new_slot above r (root_ids c))) slots,
      refl,
      row_back above r (root_ids c),
      keeps-same by_id below (planted above t below) c (Some r.id) (root_ids c)
          (λ j s e there.
          let is = below_own j s e in
          let there : 0 < tally seen_id j c = subst (λ (y : ℕ). 0 < tally seen_id y c) is there in
          planted-outside above t below j (let w = tally_below seen_id j r c t in let o = once j in omega arith) ∙ e)
          (planted-keeps (Some r.id) c first first_own (λ x. let w = tally_below seen_id x r c t in let o = once x in omega arith)),
      planted-keeps above t below below_own (λ x. let w = tally_below seen_id x r c t in let o = once x in omega arith),
    )

-- no number of these nodes comes twice, or is in the table
pub record AreNew (slots : ℕ → Option Slot) (ids : ℕ → Option ℕ) (n : Nodes Seen) : Type 0 where
  pub ids_once : (x : ℕ) → tally seen_id x n ≤ 1
  pub serials_once : (x : ℕ) → tally seen_serial x n ≤ 1
  pub no_slot : (x : ℕ) → 0 < tally seen_id x n → slots x ≡ None
  pub no_id : (x : ℕ) → 0 < tally seen_serial x n → ids x ≡ None

module _ (above : Option ℕ) (r : Seen) (c t : Nodes Seen) (slots : ℕ → Option Slot) (ids : ℕ → Option ℕ)
    (new : AreNew slots ids (node r c t)) where
  apart : (key : Seen → ℕ) (x : ℕ) → tally key x (node r c t) ≤ 1 → 0 < tally key x c + tally key x t → x ≢ key r
  apart key x once there same =
      elim (tally_cases key x r c t) [
        | inl p ↦ let e = p.1 in omega arith
        | inr p ↦ p.0 (sym same)
      ]

  new_below : AreNew (with_first above r c slots) (with_entry r.serial (Some r.id) ids) c
  new_below = record {
    ids_once = λ x. let w = tally_below seen_id x r c t in let o = new.ids_once x in omega arith;
    serials_once = λ x. let w = tally_below seen_serial x r c t in let o = new.serials_once x in omega arith;
    no_slot = λ x there.
        entry_other r.id (Some (new_slot above r (root_ids c))) slots x (apart seen_id x (new.ids_once x) (omega arith))
        ∙ new.no_slot x (let w = tally_below seen_id x r c t in omega arith);
    no_id = λ x there.
        entry_other r.serial (Some r.id) ids x (apart seen_serial x (new.serials_once x) (omega arith))
        ∙ new.no_id x (let w = tally_below seen_serial x r c t in omega arith);
  }

  new_beside : AreNew (planted (Some r.id) c (with_first above r c slots)) (serials_listed c (with_entry r.serial (Some r.id) ids)) t
  new_beside = record {
    ids_once = λ x. let w = tally_below seen_id x r c t in let o = new.ids_once x in omega arith;
    serials_once = λ x. let w = tally_below seen_serial x r c t in let o = new.serials_once x in omega arith;
    no_slot = λ x there.
        planted-outside (Some r.id) c (with_first above r c slots) x
        (let w = tally_below seen_id x r c t in let o = new.ids_once x in omega arith)
        ∙ entry_other r.id (Some (new_slot above r (root_ids c))) slots x (apart seen_id x (new.ids_once x) (omega arith))
        ∙ new.no_slot x (let w = tally_below seen_id x r c t in omega arith);
    no_id = λ x there.
        listed-outside c (with_entry r.serial (Some r.id) ids) x
        (let w = tally_below seen_serial x r c t in let o = new.serials_once x in omega arith)
        ∙ entry_other r.serial (Some r.id) ids x (apart seen_serial x (new.serials_once x) (omega arith))
        ∙ new.no_id x (let w = tally_below seen_serial x r c t in omega arith);
  }

  first_comes : Comes by_serial slots (with_first above r c slots) r.id (new_slot above r (root_ids c))
  first_comes = record {
    vacant = new.no_slot r.id (tally_row seen_id r.id r c t refl);
    at = entry_at r.id (Some (new_slot above r (root_ids c))) slots;
    others = λ j other. entry_other r.id (Some (new_slot above r (root_ids c))) slots j other;
  }

  first_files : IsFiled by_serial slots ids → IsFiled by_serial (with_first above r c slots) (with_entry r.serial (Some r.id) ids)
  first_files files =
      files-add by_serial slots (with_first above r c slots) ids (with_entry r.serial (Some r.id) ids) r.id
      (new_slot above r (root_ids c)) files first_comes
      (new.no_id r.serial (tally_row seen_serial r.serial r c t refl)) (entry_at r.serial (Some r.id) ids)
      (λ y other. entry_other r.serial (Some r.id) ids y other)

pub planted-files : (above : Option ℕ) (n : Nodes Seen) (slots : ℕ → Option Slot) (ids : ℕ → Option ℕ) → IsFiled by_serial slots ids
    → AreNew slots ids n → IsFiled by_serial (planted above n slots) (serials_listed n ids)
planted-files above none slots ids files new = files
planted-files above (node r c t) slots ids files new =
    planted-files above t (planted (Some r.id) c (with_first above r c slots)) (serials_listed c (with_entry r.serial (Some r.id) ids))
    (planted-files (Some r.id) c (with_first above r c slots) (with_entry r.serial (Some r.id) ids)
    (first_files above r c t slots ids new files) (new_below above r c t slots ids new))
    (new_beside above r c t slots ids new)

-- ---- a node comes in, and then what is below it

pub plant_slots : (above : Option ℕ) (r : Seen) (c d : Nodes Seen) (old mid new : ℕ → Option Slot) (slot : Slot) (id : ℕ)
    → slot ≡ new_slot above r (root_ids c) → PutsAt old mid slot.id (Some slot) → id ≡ r.id → d ≡ c
    → new ≡ planted (Some id) d mid → new ≡ planted above (node r c none) old
plant_slots above r c d old mid new slot id is puts id_is same e =
    e
    ∙ ap (λ (k : ℕ). planted (Some k) d mid) id_is
    ∙ ap (λ (n : Nodes Seen). planted (Some r.id) n mid) same
    ∙ ap (λ (m : ℕ → Option Slot). planted (Some r.id) c m)
    (puts_is slot.id (Some slot) old mid puts ∙ ap (λ (s : Slot). with_entry s.id (Some s) old) is)

pub on_ok : {A E : Type 0} (r : Result A E) (P Q : Type 0) → (P → Q) → OnOk r P → OnOk r Q
on_ok (Ok x) P Q f p = f p
on_ok (Err e) P Q f p = p

-- ---- nodes that go

-- a slot goes, and its serial
pub remove_files : (a b d : Table) (id : ℕ) (slot : Slot) → IsListed a → table_slots a id ≡ Some slot
    → PutsAt (table_slots a) (table_slots b) id None → b.ids ≡ a.ids → d.slots ≡ b.slots
    → PutsAt (table_ids b) (table_ids d) slot.serial None → IsListed d
remove_files a b d id slot files at gone ids_are slots_are gone_id =
    let slots_same : (j : ℕ) → table_slots d j ≡ table_slots b j = λ j. ap (λ m. table_slots (record d { slots = m }) j) slots_are in
    let ids_same : (y : ℕ) → table_ids b y ≡ table_ids a y = λ y. ap (λ m. numbers.get m y) ids_are in
    files-remove by_serial (table_slots a) (table_slots d) (table_ids a) (table_ids d) slot.serial id files (files.filed id slot at)
    (slots_same id ∙ gone.at)
    (λ j other. slots_same j ∙ gone.others j other) gone_id.at (λ y other. gone_id.others y other ∙ ids_same y)

pub without_turn : (ids : List ℕ) (i : ℕ) (now new first : ℕ → Option Slot) → i < length ids → PutsAt now new (get_or ids i 0) None
    → without_slots (drop i ids) now ≡ first → without_slots (drop (i + 1) ids) new ≡ first
without_turn ids i now new first within puts e =
    ap (λ (s : ℕ → Option Slot). without_slots (drop (i + 1) ids) s) (puts_is (get_or ids i 0) None now new puts)
    ∙ sym (ap (λ (l : List ℕ). without_slots l now) (drop_more ids i 0 within))
    ∙ e

pub without-append : (xs ys : List ℕ) (slots : ℕ → Option Slot) → without_slots (xs ++ ys) slots ≡ without_slots ys (without_slots xs slots)
without-append [] ys slots = refl
without-append (x ∷ xs) ys slots = without-append xs ys (with_entry x None slots)

without-none : (ids : List ℕ) (slots : ℕ → Option Slot) (k : ℕ) → slots k ≡ None → without_slots ids slots k ≡ None
without-none [] slots k e = e
without-none (x ∷ xs) slots k e =
    without-none xs (with_entry x None slots) k
    (elim (cases_eq k x) [
      | inl same ↦ ap (with_entry x None slots) same ∙ entry_at x None slots
      | inr other ↦ entry_other x None slots k other ∙ e
    ])

gone_parts : (r : Seen) (c t : Nodes Seen) (slots : ℕ → Option Slot)
    → without_slots (keys seen_id (node r c t)) slots
    ≡ without_slots (keys seen_id t) (without_slots (keys seen_id c) (with_entry r.id None slots))
gone_parts r c t slots = without-append (keys seen_id c) (keys seen_id t) (with_entry r.id None slots)

-- what is not among the nodes that go stays
pub gone-outside : (n : Nodes Seen) (slots : ℕ → Option Slot) (k : ℕ) → tally seen_id k n ≡ 0
    → without_slots (keys seen_id n) slots k ≡ slots k
gone-outside none slots k h = refl
gone-outside (node r c t) slots k h =
    elim (tally_cases seen_id k r c t) [
      | inl p ↦ absurd (omega (arith, p.1))
      | inr p ↦
          let e = p.1 in
          ap (λ (s : ℕ → Option Slot). s k) (gone_parts r c t slots)
          ∙ gone-outside t (without_slots (keys seen_id c) (with_entry r.id None slots)) k (omega arith)
          ∙ gone-outside c (with_entry r.id None slots) k (omega arith)
          ∙ entry_other r.id None slots k (λ e. p.0 (sym e))
    ]

-- and what is among them is gone
pub gone-inside : (n : Nodes Seen) (slots : ℕ → Option Slot) (k : ℕ) → 0 < tally seen_id k n → without_slots (keys seen_id n) slots k ≡ None
gone-inside none slots k h = absurd (omega arith)
gone-inside (node r c t) slots k h =
    let first = with_entry r.id None slots in
    ap (λ (s : ℕ → Option Slot). s k) (gone_parts r c t slots)
    ∙ elim (tally_cases seen_id k r c t) [
      | inl p ↦ without-none (keys seen_id t) (without_slots (keys seen_id c) first) k
          (without-none (keys seen_id c) first k (ap first (sym p.0) ∙ entry_at r.id None slots))
      | inr p ↦
          let e = p.1 in
          elim (cases_lt 0 (tally seen_id k c)) [
            | inl some ↦ without-none (keys seen_id t) (without_slots (keys seen_id c) first) k (gone-inside c first k some)
            | inr few ↦ gone-inside t (without_slots (keys seen_id c) first) k (omega arith)
          ]
    ]
