-- Slots taken out one by one, lists of serials, and trees copied out.
use Rattle.std.proofs.Common.{◌≡◌, ℕ, zero, suc, ◌+◌, ◌-◌, ◌<◌, ◌≤◌, ◌==◌, Bool, true, false, cond, List, [], ◌∷◌, ◌++◌, length, get_or}
use Rattle.std.proofs.Common.{slice_get, drop, Option, Some, None, IsSome, Result, Ok, Err, OnOk, OnErr, refl, sym, ap, subst, ◌∙◌}
use Rattle.std.proofs.Common.{arith}
use Rattle.std.specs.Option.{option_map_or}
use Rattle.std.specs.Ordering.{nat_cmp}
use Rattle.std.specs.BTreeMap as map
use Rattle.std.specs.Cmp.{both_ways}
use Rattle.std.proofs.lemmas.Bool.{eq-eqb, ne_eqb, eqb-true}
use Rattle.std.proofs.lemmas.List.{drop_more, drop_all}
use Rattle.number_map.specs.Places.{number_place}
use Rattle.node_tree.specs.Nodes.{Nodes, none, node, Branch, alone, nodes_of, beside, node_count}
use Rattle.node_tree.specs.Keys.{tally}
use Rattle.node_tree.specs.Arena.{Shrinks, IsFiled, slot_tree, slot_trees, kept_trees}
use Rattle.node_tree.proofs.NodeLemmas.{nodes_of-append, beside_assoc, beside-none}
use Rattle.node_tree.proofs.ArenaLemmas.{files-turn, files-same}
use Rattle.page_tree.specs.Pages.{PageRow, row_serial}
use Rattle.page_tree.specs.Arenas.{page_slots, slot_row, slots_in, keys_in, Filed, Turned, SameSlots, listed, is_numbered, place_in}
use Rattle.page_tree.specs.Arenas.{first_in, next_in}
use Rattle.page_tree.specs.declared.arenas.Arena.{Arena}
use Rattle.page_tree.specs.declared.slots.Slot.{Slot}

-- some of the serials were taken out, and `rest` is left
pub record SoFar (old new : ℕ → Option Slot) (all rest : List ℕ) : Type 0 where
  pub kept : (k : ℕ) (slot : Slot) → old k ≡ Some slot → listed slot.serial all ≡ 0 → new k ≡ Some slot
  pub only : (k : ℕ) (slot : Slot) → new k ≡ Some slot → (old k ≡ Some slot) × (listed slot.serial all ≡ listed slot.serial rest)
  pub within : (x : ℕ) → listed x rest ≤ listed x all

pub SoFar-step : (old now new : ℕ → Option Slot) (all rest : List ℕ) (x : ℕ) → SoFar old now all (x ∷ rest)
    → Shrinks page_slots now new (λ y. listed y (x ∷ [])) → SoFar old new all rest
SoFar-step old now new all rest x before shrinks =
    record {
      kept = λ k s e z. let w = before.within s.serial in shrinks.kept k s (before.kept k s e z) (omega arith);
      only = λ k s e. let (at, absent) = shrinks.only k s e in let (was, same) = before.only k s at in (was, omega arith);
      within = λ y. let w = before.within y in omega arith;
    }

pub SoFar-end : (old new : ℕ → Option Slot) (all : List ℕ) → SoFar old new all [] → Shrinks page_slots old new (λ y. listed y all)
SoFar-end old new all done = record { kept = done.kept; only = λ k s e. done.only k s e }

pub SoFar-turn : (old now new : ℕ → Option Slot) (all : List ℕ) (i x : ℕ) → i < length all → get_or all i 0 ≡ x
    → SoFar old now all (drop i all) → Shrinks page_slots now new (λ y. listed y (x ∷ [])) → SoFar old new all (drop (i + 1) all)
SoFar-turn old now new all i x within at before shrinks =
    let here : drop i all ≡ x ∷ drop (i + 1) all = drop_more all i 0 within ∙ ap (λ y. y ∷ drop (i + 1) all) at in
    SoFar-step old now new all (drop (i + 1) all) x (subst (λ (r : List ℕ). SoFar old now all r) here before) shrinks

pub listed-append : (x : ℕ) (xs ys : List ℕ) → listed x (xs ++ ys) ≡ listed x xs + listed x ys
listed-append x [] ys = omega arith
listed-append x (y ∷ xs) ys = let e = listed-append x xs ys in omega arith

-- ---- lists of serials

module _ (x : ℕ) (bs : List (Branch PageRow)) (i : ℕ) (b : Branch PageRow) (done mid new first : List ℕ) (within : i < length bs)
    (is : b ≡ get_or bs i b) where
  here : drop i bs ≡ b ∷ drop (i + 1) bs
  here = drop_more bs i b within ∙ ap (λ y. y ∷ drop (i + 1) bs) (sym is)

  pub list_turn : listed x done + tally row_serial x (nodes_of (drop i bs)) ≡ listed x first + tally row_serial x (nodes_of bs)
      → mid ≡ done ++ b.row.serial ∷ [] → listed x new ≡ listed x mid + tally row_serial x b.children
      → listed x new + tally row_serial x (nodes_of (drop (i + 1) bs)) ≡ listed x first + tally row_serial x (nodes_of bs)
  list_turn so_far pushed below =
      let e = ap (λ l. tally row_serial x (nodes_of l)) here in
      let p = ap (λ l. listed x l) pushed in
      let q = listed-append x done (b.row.serial ∷ []) in
      omega (arith, e, p, q)

  pub count_turn : (n m l f : ℕ) → n + node_count (nodes_of (drop i bs)) ≡ f + node_count (nodes_of bs) → m ≡ n + 1
      → l ≡ m + node_count b.children → l + node_count (nodes_of (drop (i + 1) bs)) ≡ f + node_count (nodes_of bs)
  count_turn n m l f so_far pushed below = let e = ap (λ l. node_count (nodes_of l)) here in omega (arith, e)

-- ---- trees copied out

pub drop-get : {A : Type 0} (ks : List A) (i : ℕ) (k : A) → slice_get ks i ≡ Some k → drop i ks ≡ k ∷ drop (suc i) ks
drop-get [] i k e = absurd (cc)
drop-get (x ∷ ks) zero k e = let same : x ≡ k = cc in ap (λ y. y ∷ ks) same
drop-get (x ∷ ks) (suc i) k e = drop-get ks i k e

module _ (slots : ℕ → Option Slot) (below : List ℕ → Nodes PageRow) (ks : List ℕ) (i k : ℕ) (done : List (Branch PageRow))
    (whole : Nodes PageRow) (at : slice_get ks i ≡ Some k)
    (so_far : beside (nodes_of done) (slot_trees page_slots slots below (drop i ks)) ≡ whole) where
  next_is : drop i ks ≡ k ∷ drop (i + 1) ks
  next_is = let e : i + 1 ≡ suc i = omega arith in rw e (drop-get ks i k at)

  opened : beside (nodes_of done) (slot_tree page_slots slots (slots k) below (slot_trees page_slots slots below (drop (i + 1) ks))) ≡ whole
  opened = sym (ap (λ js. beside (nodes_of done) (slot_trees page_slots slots below js)) next_is) ∙ so_far

  pub nest_none : slots k ≡ None → beside (nodes_of done) (slot_trees page_slots slots below (drop (i + 1) ks)) ≡ whole
  nest_none vacant = sym (ap (λ (o : Option Slot). beside (nodes_of done)
      (slot_tree page_slots slots o below (slot_trees page_slots slots below (drop (i + 1) ks)))) vacant) ∙ opened

  pub nest_some : (slot : Slot) (tree : Branch PageRow) (new : List (Branch PageRow)) → slots k ≡ Some slot
      → tree ≡ record { row = slot_row slot; children = below slot.children } → new ≡ done ++ tree ∷ []
      → beside (nodes_of new) (slot_trees page_slots slots below (drop (i + 1) ks)) ≡ whole
  nest_some slot tree new found is pushed =
      let after = slot_trees page_slots slots below (drop (i + 1) ks) in
      ap (λ (l : List (Branch PageRow)). beside (nodes_of l) after) pushed
      ∙ ap (λ (n : Nodes PageRow). beside n after) (nodes_of-append done (tree ∷ []))
      ∙ beside_assoc (nodes_of done) (nodes_of (tree ∷ [])) after
      ∙ ap (λ (b : Branch PageRow). beside (nodes_of done) (node b.row b.children after)) is
      ∙ sym (ap (λ (o : Option Slot). beside (nodes_of done) (slot_tree page_slots slots o below after)) found)
      ∙ opened

pub nest_end : (slots : ℕ → Option Slot) (levels : ℕ) (ks rest : List ℕ) (done : List (Branch PageRow)) → 0 < levels → rest ≡ []
    → beside (nodes_of done) (slot_trees page_slots slots (kept_trees page_slots slots (levels - 1)) rest)
    ≡ slot_trees page_slots slots (kept_trees page_slots slots (levels - 1)) ks
    → nodes_of done ≡ kept_trees page_slots slots levels ks
nest_end slots zero ks rest done some empty so_far = absurd (omega arith)
nest_end slots (suc levels) ks rest done some empty so_far =
    let e : suc levels - 1 ≡ levels = omega arith in
    sym (beside-none (nodes_of done))
    ∙ sym (ap (λ (js : List ℕ). beside (nodes_of done)
    (slot_trees page_slots slots (kept_trees page_slots slots (suc levels - 1)) js)) empty)
    ∙ so_far
    ∙ ap (λ (l : ℕ). slot_trees page_slots slots (kept_trees page_slots slots l) ks) e

pub none_left : (bs : List (Branch PageRow)) → length bs ≡ 0 → nodes_of bs ≡ none
none_left [] e = refl
none_left (b ∷ bs) e = absurd (omega arith)

-- ---- the place of a key

pub place_le : (a : Arena) (serial : ℕ) (ks : List ℕ) → place_in a serial ks ≤ length ks
place_le a serial [] = omega arith
place_le a serial (k ∷ ks) =
    elim (is_numbered a serial k) as (λ (b : Bool). cond {A = ℕ} b 0 (suc (place_in a serial ks)) ≤ suc (length ks)) [
      | true ↦ omega arith
      | false ↦ let e = place_le a serial ks in omega arith
    ]

-- where the serial has no key, no slot has it
absent_key : (a : Arena) (serial k : ℕ) → Filed a → keys_in a serial ≡ None → is_numbered a serial k ≡ false
absent_key a serial k files gone =
    elim (slots_in a k) as (λ (o : Option Slot). ((slot : Slot) → o ≡ Some slot → keys_in a slot.serial ≡ Some k)
    → option_map_or (λ (slot : Slot). slot.serial == serial) o false ≡ false) [
      | None ↦ λ h. refl
      | Some slot ↦ λ h. ne_eqb slot.serial serial (λ same.
          let clash : None ≡ Some k = sym gone ∙ ap (keys_in a) (sym same) ∙ h slot refl in
          absurd cc)
    ] (λ slot at. files.filed k slot at)

-- where it has one, the slot of that key alone has it
kept_key : (a : Arena) (serial key k : ℕ) → Filed a → keys_in a serial ≡ Some key → is_numbered a serial k ≡ (k == key)
kept_key a serial key k files at =
    let (own, own_at, own_is) = files.found serial key at in
    (elim (slots_in a k) as (λ (o : Option Slot). slots_in a k ≡ o
    → option_map_or (λ (slot : Slot). slot.serial == serial) o false ≡ (k == key)) [
      | None ↦ λ vacant. sym (ne_eqb k key (λ same.
          let clash : None ≡ Some own = sym vacant ∙ ap (slots_in a) same ∙ own_at in
          absurd cc))
      | Some slot ↦ λ there. both_ways (slot.serial == serial) (k == key)
          (λ e. let both : Some k ≡ Some key = sym (files.filed k slot there) ∙ ap (keys_in a) (eqb-true slot.serial serial e) ∙ at in
          eq-eqb k key (cc))
          (λ e. let both : Some slot ≡ Some own = sym there ∙ ap (slots_in a) (eqb-true k key e) ∙ own_at in
          let same : slot ≡ own = cc in
          eq-eqb slot.serial serial (ap (λ (s : Slot). s.serial) same ∙ own_is))
    ]) refl

pub place_step : (u v : Bool) (p q : ℕ) → u ≡ v → p ≡ q → cond {A = ℕ} u 0 (suc p) ≡ cond {A = ℕ} v 0 (suc q)
place_step u v p q e f = cc

-- the place of a serial is that of its key, and behind all keys where it has none
pub place_keyed : (a : Arena) (serial key : ℕ) (ks : List ℕ) → Filed a → keys_in a serial ≡ Some key
    → number_place key ks ≡ place_in a serial ks
place_keyed a serial key [] files at = refl
place_keyed a serial key (k ∷ ks) files at = place_step (k == key) (is_numbered a serial k) (number_place key ks) (place_in a serial ks)
    (sym (kept_key a serial key k files at)) (place_keyed a serial key ks files at)

pub place_absent : (a : Arena) (serial : ℕ) (ks : List ℕ) → Filed a → keys_in a serial ≡ None → length ks ≡ place_in a serial ks
place_absent a serial [] files gone = refl
place_absent a serial (k ∷ ks) files gone = place_step false (is_numbered a serial k) (length ks) (place_in a serial ks)
    (sym (absent_key a serial k files gone)) (place_absent a serial ks files gone)

-- the serials of one tree
pub listing_of : (x : ℕ) (l new first : List ℕ) (ts : List (Branch PageRow)) (b : Branch PageRow) → l ≡ new → first ≡ [] → ts ≡ b ∷ []
    → listed x new ≡ listed x first + tally row_serial x (nodes_of ts) → listed x l ≡ tally row_serial x (alone b)
listing_of x l new first ts b same empty one e =
    let p = ap (λ (y : List ℕ). listed x y) same in
    let q = ap (λ (y : List ℕ). listed x y) empty in
    let r = ap (λ (y : List (Branch PageRow)). tally row_serial x (nodes_of y)) one in
    omega (arith, p, q, r)

-- ---- slots that were changed

pub either_way : {A E : Type 0} (r : Result A E) (P Q F : Type 0) → OnOk r P → OnErr r Q → (P → F) → (Q → F) → F
either_way (Ok x) P Q F p q f g = f p
either_way (Err e) P Q F p q f g = g q

pub filed_turned : (a b : Arena) (key : ℕ) (slot : Slot) (f : Slot → Slot) → slots_in a key ≡ Some slot → (f slot).serial ≡ slot.serial
    → Turned a b key f → b.keys ≡ a.keys → Filed a → Filed b
filed_turned a b key slot f at number_is turned keys_are files =
    subst (λ m. IsFiled page_slots (slots_in b) (map.get nat_cmp m)) (sym keys_are)
    (files-turn page_slots (slots_in a) (slots_in b) (keys_in a) (keys_in a) key slot (f slot) files (turned slot at) number_is)

pub filed_same : (a b : Arena) → SameSlots a b → b.keys ≡ a.keys → Filed a → Filed b
filed_same a b same keys_are files =
    subst (λ m. IsFiled page_slots (slots_in b) (map.get nat_cmp m)) (sym keys_are)
    (files-same page_slots (slots_in a) (slots_in b) (keys_in a) (keys_in a) files same (λ y. refl))

pub some_slot : (o : Option Slot) → IsSome o → (slot : Slot) × (o ≡ Some slot)
some_slot None some = absurd (cc)
some_slot (Some slot) some = (slot, refl)

-- ---- the next of the siblings

module _ (a : Arena) where
  pub first_end : (ks : List ℕ) (i : ℕ) → length ks ≤ i → 0 ≡ first_in a (drop i ks)
  first_end ks i past = sym (ap (λ (js : List ℕ). first_in a js) (drop_all i ks past))

  pub first_at : (ks : List ℕ) (i k : ℕ) → slice_get ks i ≡ Some k
      → first_in a (drop i ks) ≡ option_map_or (λ (s : Slot). s.serial) (slots_in a k) 0
  first_at ks i k at = ap (λ (js : List ℕ). first_in a js) (drop-get ks i k at)

  next_step : (b : Bool) (p next : ℕ) (k : ℕ) (ks : List ℕ) → first_in a (drop (suc p) ks) ≡ next
      → first_in a (drop (suc (cond {A = ℕ} b 0 (suc p))) (k ∷ ks)) ≡ cond b (first_in a ks) next
  next_step true p next k ks e = refl
  next_step false p next k ks e = e

  -- what stands behind the place
  pub next_behind : (serial : ℕ) (ks : List ℕ) → first_in a (drop (suc (place_in a serial ks)) ks) ≡ next_in a serial ks
  next_behind serial [] = refl
  next_behind serial (k ∷ ks) = next_step (is_numbered a serial k) (place_in a serial ks) (next_in a serial ks) k ks (next_behind serial ks)
