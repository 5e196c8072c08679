-- Trees of a table, one after the other.
use Rattle.std.proofs.Common.{◌≡◌, ℕ, suc, ◌+◌, ◌≤◌, List, [], ◌∷◌, ◌++◌, length, slice_get, drop, Option, Some, None, refl, sym, ap, ◌∙◌}
use Rattle.std.proofs.Common.{append_assoc, append-nil}
use Rattle.std.proofs.lemmas.List.{drop_more, drop_all}
use Rattle.std.proofs.lemmas.Option.{slice_get_within, get_or_from_slice_get}
use Rattle.node_tree.specs.Nodes.{Nodes, none, node, beside}
use Rattle.node_tree.specs.Seen.{Seen, seen_id}
use Rattle.node_tree.specs.Arena.{slot_tree, slot_trees, kept_trees}
use Rattle.client_views.specs.Views.{keys}
use Rattle.front_mirror.specs.Outline.{lines_at, seen_line}
use Rattle.front_mirror.specs.declared.slots.Slot.{Slot}
use Rattle.front_mirror.specs.declared.table.Table.{Table}
use Rattle.front_mirror.specs.Tables.{by_id, table_slots, table_trees}

slot_beside : (o : Option Slot) (slots : ℕ → Option Slot) (below : List ℕ → Nodes Seen) (after : Nodes Seen)
    → slot_tree by_id slots o below after ≡ beside (slot_tree by_id slots o below none) after
slot_beside None slots below after = refl
slot_beside (Some s) slots below after = refl

-- a list of nodes, each of which says something
module _ {A : Type 0} (said : Nodes Seen → List A) (nothing : said none ≡ [])
    (sums : (n m : Nodes Seen) → said (beside n m) ≡ said n ++ said m) (t : Table) (levels : ℕ) where
  pub said_first : (k : ℕ) (ks : List ℕ)
      → said (table_trees t (suc levels) (k ∷ ks)) ≡ said (table_trees t (suc levels) (k ∷ [])) ++ said (table_trees t (suc levels) ks)
  said_first k ks =
      ap said (slot_beside (table_slots t k) (table_slots t) (kept_trees by_id (table_slots t) levels)
      (slot_trees by_id (table_slots t) (kept_trees by_id (table_slots t) levels) ks))
      ∙ sums (slot_tree by_id (table_slots t) (table_slots t k) (kept_trees by_id (table_slots t) levels) none)
      (slot_trees by_id (table_slots t) (kept_trees by_id (table_slots t) levels) ks)

  pub said_turn : (ks : List ℕ) (i k : ℕ) (old new all : List A) → slice_get ks i ≡ Some k
      → new ≡ old ++ said (table_trees t (suc levels) (k ∷ [])) → old ++ said (table_trees t (suc levels) (drop i ks)) ≡ all
      → new ++ said (table_trees t (suc levels) (drop (i + 1) ks)) ≡ all
  said_turn ks i k old new all at one before =
      let left = drop (i + 1) ks in
      let rest = said (table_trees t (suc levels) left) in
      let here : drop i ks ≡ k ∷ left = drop_more ks i k (slice_get_within ks i k at)
      ∙ ap (λ (x : ℕ). x ∷ left) (get_or_from_slice_get ks i k k at) in
      ap (λ (l : List A). l ++ rest) one
      ∙ append_assoc old (said (table_trees t (suc levels) (k ∷ []))) rest
      ∙ ap (λ (l : List A). old ++ l) (sym (said_first k left))
      ∙ ap (λ (js : List ℕ). old ++ said (table_trees t (suc levels) js)) (sym here)
      ∙ before

  pub said_end : (ks : List ℕ) (i : ℕ) (out all : List A) → length ks ≤ i → out ++ said (table_trees t (suc levels) (drop i ks)) ≡ all
      → out ≡ all
  said_end ks i out all past before =
      sym (append-nil out)
      ∙ ap (λ (l : List A). out ++ l) (sym nothing)
      ∙ ap (λ (js : List ℕ). out ++ said (table_trees t (suc levels) js)) (sym (drop_all i ks past))
      ∙ before

pub keys-beside : (n m : Nodes Seen) → keys seen_id (beside n m) ≡ keys seen_id n ++ keys seen_id m
keys-beside none m = refl
keys-beside (node r c t) m = ap (λ (l : List ℕ). r.id ∷ (keys seen_id c ++ l)) (keys-beside t m) ∙ ap (λ (l : List ℕ). r.id ∷ l)
    (sym (append_assoc (keys seen_id c) (keys seen_id t) (keys seen_id m)))

pub lines-beside : (level : ℕ) (n m : Nodes Seen)
    → lines_at seen_line level (beside n m) ≡ lines_at seen_line level n ++ lines_at seen_line level m
lines-beside level none m = refl
lines-beside level (node r c t) m =
    let e = lines-beside level t m in
    rw e (simp append_assoc)
