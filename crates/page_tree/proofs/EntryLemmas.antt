-- Attributes by name in an ordered map, beside the pairs in order.
use Rattle.std.proofs.Common.{◌≡◌, ℕ, List, [], ◌∷◌, Option, Some, None, Bool, true, false, ◌||◌, cond, is_some, String, Global}
use Rattle.std.proofs.Common.{string_bytes, string_cmp, is_eq, Ordering, Less, Equal, Greater, refl, ◌∙◌}
use Rattle.std.proofs.lemmas.Map.Text.{is_eq-slice_cmp}
use Rattle.std.specs.Ordering.{match_ordering}
use Rattle.std.specs.Map.{lookup}
use Rattle.std.specs.BTreeMap.{insert_entry, is_at}
use Rattle.node_tree.specs.Labels.{Pair}
use Rattle.page_tree.specs.Entries.{entry_pairs}
use Rattle.page_tree.specs.Loads.{placed, is_taken, in_order}

abbrev pub Entry : Type 0
Entry = String Global × List ℕ

shown-match_ordering : (o : Ordering) (a b c : List Entry)
    → entry_pairs (match_ordering o a b c) ≡ match_ordering o (entry_pairs a) (entry_pairs b) (entry_pairs c)
shown-match_ordering Less a b c = refl
shown-match_ordering Equal a b c = refl
shown-match_ordering Greater a b c = refl

-- an insert puts a pair in its place
pub shown-insert_entry : (es : List Entry) (k : String Global) (v : List ℕ)
    → entry_pairs (insert_entry string_cmp es k v) ≡ placed (string_bytes k, v) (entry_pairs es)
shown-insert_entry [] k v = refl
shown-insert_entry (e ∷ es) k v = shown-match_ordering (string_cmp k e.0) _ _ _ ∙ rw (shown-insert_entry es k v)

found_or : (b : Bool) (v : List ℕ) (o : Option (List ℕ)) → is_some (cond b (Some v) o) ≡ (b || is_some o)
found_or true v o = refl
found_or false v o = refl

-- a name is among the entries where it is taken
pub is_some-lookup : (es : List Entry) (k : String Global)
    → is_some (lookup (is_at (string_cmp k)) es) ≡ is_taken (string_bytes k) (entry_pairs es)
is_some-lookup [] k = refl
is_some-lookup (e ∷ es) k = found_or (is_eq (string_cmp k e.0)) e.1 _ ∙ rw
    (is_eq-slice_cmp (string_bytes k) (string_bytes e.0), is_some-lookup es k)

-- one more pair is put among the entries, where its name is not taken
pub gather_turn : (es : List Entry) (k : String Global) (name value : List ℕ) (rest later : List Pair) (all : Option (List Pair))
    (old : Option (List ℕ)) (b : Bool)
    → rest ≡ (name, value) ∷ later → string_bytes k ≡ name → old ≡ lookup (is_at (string_cmp k)) es → is_some old ≡ b
    → in_order (entry_pairs es) rest ≡ all
    → cond b None (in_order (entry_pairs (insert_entry string_cmp es k value)) later) ≡ all
gather_turn es k name value rest later all old b is_rest is_name is_old is_b so_far =
    let taken : is_taken name (entry_pairs es) ≡ b = rw (← is_name, ← is_some-lookup es k, ← is_old) is_b in
    let turn = rw (is_rest, taken) at so_far in
    rw (shown-insert_entry es k value, is_name) turn
