-- The numbers after an edit that nothing is wrong with.
use Rattle.std.proofs.Common.{zero, suc, ◌+◌, ◌<◌, ◌==◌, ◌||◌, get_or, drop, ◌≡◌, ℕ, ◌≤◌, Bool, true, false}
use Rattle.std.proofs.Common.{Option, Some, None, IsSome, IfSome, List, [], ◌∷◌, length, refl, sym, ap, ◌∙◌, subst, arith}
use Rattle.node_tree.specs.Nodes.{Nodes, none, node, Branch, nodes_of, alone, node_count, branch_count, height}
use Rattle.node_tree.specs.Keys.{At, tally, find, spot}
use Rattle.node_tree.specs.Levels.{most_levels}
use Rattle.node_tree.specs.Seen.{Seen, shows_count, seen_id}
use Rattle.node_tree.specs.Arena.{Keeps}
use Rattle.node_tree.proofs.ArenaLemmas.{kept_trees-keeps}
use Rattle.node_tree.proofs.KeyLemmas.{height_above-at, stands-find, stands-below, find-stands}
use Rattle.node_tree.proofs.ChangeLemmas.{at-back}
use Rattle.dom_objects.specs.Told.{Told, seen_nodes}
use Rattle.client_views.specs.Views.{keys, is_in}
use Rattle.front_mirror.specs.declared.edits.NodeChange.{NodeChange}
use Rattle.front_mirror.specs.declared.edits.NodeChange.TheVariants as edit
use Rattle.front_mirror.specs.declared.table.Table.{Table}
use Rattle.front_mirror.specs.Shown.{known_at, shown_of}
use Rattle.front_mirror.specs.Edits.{edit_nodes, edit_change, edit_told, fits_edit, is_ready, spot_fault, with_changed}
use Rattle.std.proofs.lemmas.Bool.{eq-eqb}
use Rattle.std.specs.Ordering.{nat_cmp}
use Rattle.std.specs.FinMap as numbers
use Rattle.std.proofs.lemmas.List.{drop_more}
use Rattle.front_mirror.proofs.TableLemmas.{puts_is}
use Rattle.front_mirror.specs.Tables.{PutsAt, with_entry, by_id, table_slots, table_trees, tree_in, KeepsMirror, IsTable}
use Rattle.node_tree.specs.Numbers.{number_limit, counted_limit}
use Rattle.front_mirror.specs.Sizes.{noted, on_path, HasLowIds, HasRoomUpTo, IsCounted, BecomesOn, shifted, leaving_trees}
use Rattle.front_mirror.proofs.ApartLemmas.{Once}
use Rattle.front_mirror.proofs.FewLemmas.{few_nodes, count_seen}
use Rattle.front_mirror.proofs.RankLemmas.{rank-less}
use Rattle.front_mirror.proofs.SizeLemmas.{found-there}
use Rattle.client_views.proofs.InsertedLemmas.{TakenOut}
use Rattle.front_mirror.proofs.EditLemmas.{added, edit_added, edit_ready, mirror_of_edit, low_added, once_of_edit, counted_none, bare-at}
use Rattle.front_mirror.proofs.EditTurns.{ready_known, ready_suits}
use Rattle.front_mirror.proofs.LookLemmas.{located}
use Rattle.front_mirror.proofs.ChildLemmas.{known-found}
use Rattle.front_mirror.proofs.CountedLemmas.{noted-inside, noted-outside}
use Rattle.front_mirror.proofs.RecountLemmas.{Leaving, inserted_stands, change_counted}

-- what the slots keep under the id of a known node
found_trees : (t : Table) (roots : List ℕ) (n : Nodes Seen) → IsTable t roots n → height n ≤ most_levels → (x : ℕ) (b : Branch Seen)
    → find seen_id x n ≡ Some b → table_trees t most_levels (x ∷ []) ≡ alone b
found_trees t roots n table low x b found =
    let l = located t roots n table x b found in
    let s = stands-find seen_id x n b found in
    let h = height_above-at (at-back s.2) in
    let kept : Keeps by_id (table_slots t) (alone b) l.slot.parent (x ∷ []) = (l.slot, l.at, refl, l.row_is, l.below, tt) in
    kept_trees-keeps by_id (table_slots t) most_levels (alone b) l.slot.parent (x ∷ []) kept (omega arith)

module _ (t : Table) (roots : List ℕ) (id : ℕ) (e : NodeChange) (kept : KeepsMirror t roots) (fits : fits_edit e ≡ true)
    (clear : spot_fault (tree_in t roots) (edit_told id e) (spot seen_id id 0 (tree_in t roots)) ≡ None) where
  ready : is_ready id (edit_change e) (tree_in t roots) ≡ true
  ready = edit_ready (tree_in t roots) id e kept.mirror fits clear

  -- the node is known
  pub edit_known : IsSome (find seen_id id (tree_in t roots))
  edit_known = ready_known (tree_in t roots) id (edit_change e) ready

  found : find seen_id id (tree_in t roots) ≡ Some (known_at id (tree_in t roots))
  found = known-found id (tree_in t roots) edit_known

  bare : shows_count (known_at id (tree_in t roots)).row.hold ≡ true → (known_at id (tree_in t roots)).children ≡ none
  bare shut =
      let s = stands-find seen_id id (tree_in t roots) (known_at id (tree_in t roots)) found in
      counted_none (known_at id (tree_in t roots)) shut (bare-at s.2 kept.mirror.view.bare)

  taken_found : (child : ℕ) (o : TakenOut child (known_at id (tree_in t roots)).children) → find seen_id child (tree_in t roots)
      ≡ Some o.tree
  taken_found child o =
      let above = stands-find seen_id id (tree_in t roots) (known_at id (tree_in t roots)) found in
      let s = stands-below (known_at id (tree_in t roots)) o.tree (tree_in t roots) above
      (0, (known_at id (tree_in t roots)).children, inserted_stands o.stood)
      in
      subst (λ x. find seen_id x (tree_in t roots) ≡ Some o.tree) o.named
      (find-stands seen_id o.tree (tree_in t roots) s (kept.mirror.view.ids o.tree.row.id))

-- the ids that leave are those of the nodes that leave
module _ (t : Table) (roots : List ℕ) (id : ℕ) (kept : KeepsMirror t roots) where
  leaves_by : (e : NodeChange) → fits_edit e ≡ true
      → spot_fault (tree_in t roots) (edit_told id e) (spot seen_id id 0 (tree_in t roots)) ≡ None
      → (ids : List ℕ) → ids ≡ keys seen_id (leaving_trees t e) → Leaving (edit_change e) (known_at id (tree_in t roots)) ids
  leaves_by (edit.Show nodes) fits clear ids is = is
  leaves_by (edit.Insert previous tree) fits clear ids is = is
  leaves_by (edit.Remove child) fits clear ids is =
      λ o. is ∙ ap (keys seen_id) (found_trees t roots (tree_in t roots) kept.table kept.mirror.view.levels child o.tree
      (taken_found t roots id (edit.Remove child) kept fits clear child o))
  leaves_by (edit.Count count) fits clear ids is = is
  leaves_by (edit.SetAttribute name value) fits clear ids is = is
  leaves_by (edit.DropAttribute name) fits clear ids is = is
  leaves_by (edit.SetValue value) fits clear ids is = is

module _ (t : Table) (roots : List ℕ) (id : ℕ) (e : NodeChange) (kept : KeepsMirror t roots) (fits : fits_edit e ≡ true)
    (clear : spot_fault (tree_in t roots) (edit_told id e) (spot seen_id id 0 (tree_in t roots)) ≡ None) where
  -- the numbers of before, with those that come in, those on the way up changed, and those that leave taken out
  pub edit_counted : (nodes : List (Branch Told)) → nodes_of nodes ≡ edit_nodes e → (more : ℕ) → more ≡ node_count (nodes_of nodes)
      → (ids : List ℕ) → ids ≡ keys seen_id (leaving_trees t e) → (fewer : ℕ) → fewer ≡ length ids → (start noting mid fin : ℕ → Option ℕ)
      → noting ≡ noted seen_id (shown_of nodes) start
      → ((x : Branch Seen) (depth : ℕ) (m : Nodes Seen) (a : At x x depth (tree_in t roots) m) → x.row.id ≡ id
      → BecomesOn (λ k. on_path seen_id k a) (shifted more fewer) noting mid)
      → ((k : ℕ) → is_in k ids ≡ false → fin k ≡ mid k) → IsCounted seen_id start (tree_in t roots)
      → IsCounted seen_id fin (with_changed id (edit_change e) (tree_in t roots))
  edit_counted nodes are more m ids is fewer f start noting mid fin n became forgot counted =
      let come : shown_of nodes ≡ added (edit_change e) = ap (λ (o : Nodes Told). seen_nodes o) are ∙ edit_added e in
      let more_is : more ≡ node_count (added (edit_change e)) =
      m ∙ sym (count_seen (nodes_of nodes)) ∙ ap (λ (o : Nodes Seen). node_count o) come
      in
      let noting_is : noting ≡ noted seen_id (added (edit_change e)) start = n ∙ ap (λ (o : Nodes Seen). noted seen_id o start) come in
      change_counted (tree_in t roots) id (known_at id (tree_in t roots)) (edit_change e) (found t roots id e kept fits clear)
      (ready_suits (tree_in t roots) id (edit_change e) (ready t roots id e kept fits clear)) (bare t roots id e kept fits clear)
      kept.mirror.view.ids (mirror_of_edit (tree_in t roots) id e kept.mirror fits clear).view.ids ids
      (leaves_by t roots id kept e fits clear ids is) start mid fin counted
      (λ x depth o a named.
      subst (λ g. BecomesOn (λ k. on_path seen_id k a) (shifted (node_count (added (edit_change e))) (length ids)) g mid) noting_is
      (subst (λ j. BecomesOn (λ k. on_path seen_id k a) (shifted (node_count (added (edit_change e))) j) noting mid) f
      (subst (λ j. BecomesOn (λ k. on_path seen_id k a) (shifted j fewer) noting mid) more_is (became x depth o a named))))
      forgot

-- ---- no number grows too great

module _ (t : Table) (roots : List ℕ) (id : ℕ) (e : NodeChange) (kept : KeepsMirror t roots) (fits : fits_edit e ≡ true)
    (clear : spot_fault (tree_in t roots) (edit_told id e) (spot seen_id id 0 (tree_in t roots)) ≡ None) (nodes : List (Branch Told))
    (are : nodes_of nodes ≡ edit_nodes e) where
  once : Once (tree_in t roots) (nodes_of nodes)
  once = subst (λ n. Once (tree_in t roots) n) (sym are) (once_of_edit (tree_in t roots) id e kept.mirror fits clear)

  few_more : node_count (nodes_of nodes) ≤ counted_limit
  few_more =
      let come : shown_of nodes ≡ added (edit_change e) = ap (λ (o : Nodes Told). seen_nodes o) are ∙ edit_added e in
      let low : HasLowIds (shown_of nodes) = subst HasLowIds (sym come) (low_added (tree_in t roots) id e kept.mirror fits) in
      let h = few_nodes (shown_of nodes) (λ x. let k = once.ids x in omega arith) low in
      let k = count_seen (nodes_of nodes) in
      omega arith

  -- the nodes that come with an edit
  pub few_come : node_count (nodes_of nodes) < number_limit
  few_come = omega (arith, few_more)

  -- each number has room for the nodes that come
  pub room_noted : (more : ℕ) → more ≡ node_count (nodes_of nodes) → (start noting : ℕ → Option ℕ)
      → noting ≡ noted seen_id (shown_of nodes) start → IsCounted seen_id start (tree_in t roots) → HasLowIds (tree_in t roots)
      → HasRoomUpTo id more noting (tree_in t roots)
  room_noted more m start noting n counted low k known up_to =
      let here = known-found k (tree_in t roots) known in
      let there = found-there seen_id k (tree_in t roots) (known_at k (tree_in t roots)) here in
      let o = once.ids k in
      let is : noting k ≡ Some (branch_count (known_at k (tree_in t roots))) =
      ap (λ f. f k) n ∙ noted-outside seen_id (shown_of nodes) start k (omega arith)
      ∙ counted k (known_at k (tree_in t roots)) here
      in
      let less = rank-less k (tree_in t roots) kept.mirror (known_at k (tree_in t roots)) here in
      let few = few_nodes (tree_in t roots) kept.mirror.view.ids low in
      let few2 = few_more in
      subst (λ (c : Option ℕ). IfSome c (λ count. count + more < number_limit)) (sym is) (omega arith)

-- ---- an empty mirror, and a new document

pub none_low : (n : Nodes Seen) → n ≡ none → HasLowIds n
none_low n empty = subst HasLowIds (sym empty) (λ x far. refl)

pub none_counted : (counts : ℕ → Option ℕ) (n : Nodes Seen) → n ≡ none → IsCounted seen_id counts n
none_counted counts n empty = subst (λ (m : Nodes Seen). IsCounted seen_id counts m) (sym empty) (λ k b found. absurd cc)

pub root_counted : (b : Branch Told) (start fin : ℕ → Option ℕ) (n : Nodes Seen) → fin ≡ noted seen_id (shown_of (b ∷ [])) start
    → n ≡ seen_nodes (alone b) → ((k : ℕ) → tally seen_id k (seen_nodes (alone b)) ≤ 1) → IsCounted seen_id fin n
root_counted b start fin n notes is once =
    subst (λ (m : Nodes Seen). IsCounted seen_id fin m) (sym is)
    (λ k x found. ap (λ f. f k) notes ∙ noted-inside seen_id (seen_nodes (alone b)) start k (once k) x found)

-- ---- what the mirror's code reads

pub number_there : (counts : ℕ → Option ℕ) (n v : Nodes Seen) (id : ℕ) → IsCounted seen_id counts n → n ≡ v
    → IsSome (find seen_id id v) → counts id ≡ Some (branch_count (known_at id v))
number_there counts n v id counted view known =
    subst (λ (m : Nodes Seen). IsCounted seen_id counts m) view counted id (known_at id v) (known-found id v known)

in_at : (ids : List ℕ) (i : ℕ) → i < length ids → is_in (get_or ids i 0) ids ≡ true
in_at [] i within = absurd (omega arith)
in_at (x ∷ ids) zero within = rw (eq-eqb x x refl) refl
in_at (x ∷ ids) (suc i) within = or_true (get_or ids i 0 == x) (is_in (get_or ids i 0) ids) (in_at ids i (omega arith))
  where
    or_true : (a b : Bool) → b ≡ true → (a || b) ≡ true
    or_true true b e = refl
    or_true false b e = e

pub forgot_turn : (ids : List ℕ) (i k : ℕ) (now new : ℕ → Option ℕ) → i < length ids → PutsAt now new (get_or ids i 0) None
    → is_in k ids ≡ false → new k ≡ now k
forgot_turn ids i k now new within puts out =
    puts.others k (λ same.
    let clash : ◌≡◌ {A = Bool} true false = sym (in_at ids i within) ∙ ap (λ x. is_in x ids) (sym same) ∙ out in
    absurd cc)

-- one node more of those that come in
pub note_turn : (nodes : List (Branch Told)) (i : ℕ) (b : Branch Told) (now mine new first : ℕ → Option ℕ) (x own : ℕ) → i < length nodes
    → b ≡ get_or nodes i b → mine ≡ noted seen_id (seen_nodes b.children) now → own ≡ suc (node_count b.children) → x ≡ b.row.seen.id
    → PutsAt mine new x (Some own) → noted seen_id (shown_of (drop i nodes)) now ≡ first
    → noted seen_id (shown_of (drop (i + 1) nodes)) new ≡ first
note_turn nodes i b now mine new first x own within is below_is count named puts e =
    let rest = shown_of (drop (i + 1) nodes) in
    let size : own ≡ suc (node_count (seen_nodes b.children)) = count ∙ ap suc (sym (count_seen b.children)) in
    let there : drop i nodes ≡ b ∷ drop (i + 1) nodes = drop_more nodes i b within ∙ ap (λ o. o ∷ drop (i + 1) nodes) (sym is) in
    ap (noted seen_id rest) (puts_is x (Some own) mine new puts ∙ (λ j. with_entry (named j) (Some (size j)) (below_is j)))
    ∙ ap (λ (l : List (Branch Told)). noted seen_id (shown_of l) now) (sym there) ∙ e

pub count_turn : (nodes : List (Branch Told)) (i : ℕ) (b : Branch Told) (count own sum : ℕ) → i < length nodes → b ≡ get_or nodes i b
    → own ≡ suc (node_count b.children) → sum ≡ count + own
    → count + node_count (nodes_of (drop i nodes)) ≡ node_count (nodes_of nodes)
    → sum + node_count (nodes_of (drop (i + 1) nodes)) ≡ node_count (nodes_of nodes)
count_turn nodes i b count own sum within is size more e =
    let there : drop i nodes ≡ b ∷ drop (i + 1) nodes = drop_more nodes i b within ∙ ap (λ o. o ∷ drop (i + 1) nodes) (sym is) in
    let n : node_count (nodes_of (drop i nodes)) ≡ node_count (nodes_of (b ∷ drop (i + 1) nodes)) =
    ap (λ (l : List (Branch Told)). node_count (nodes_of l)) there
    in
    omega arith

-- ---- a table and a map that were taken out

pub low_again : (n m : Nodes Seen) → HasLowIds n → m ≡ n → HasLowIds m
low_again n m low same = subst HasLowIds (sym same) low

pub kept_again : (a b : Table) (ks js : List ℕ) → KeepsMirror a ks → b ≡ a → js ≡ ks → KeepsMirror b js
kept_again a b ks js kept t k = subst (λ (x : Table). KeepsMirror x js) (sym t) (subst (λ (l : List ℕ). KeepsMirror a l) (sym k) kept)

pub tree_again : (a b : Table) (ks js : List ℕ) → b ≡ a → js ≡ ks → tree_in b js ≡ tree_in a ks
tree_again a b ks js t k = λ i. tree_in (t i) (k i)

pub counted_again : (a b : numbers.FinMap nat_cmp ℕ) (n m : Nodes Seen) → IsCounted seen_id (numbers.get a) n → b ≡ a → m ≡ n
    → IsCounted seen_id (numbers.get b) m
counted_again a b n m counted t k =
    subst (λ (c : numbers.FinMap nat_cmp ℕ). IsCounted seen_id (numbers.get c) m) (sym t)
    (subst (λ (x : Nodes Seen). IsCounted seen_id (numbers.get a) x) (sym k) counted)

pub clear_again : (v n : Nodes Seen) (id : ℕ) (e : NodeChange) → n ≡ v
    → spot_fault v (edit_told id e) (spot seen_id id 0 v) ≡ None → spot_fault n (edit_told id e) (spot seen_id id 0 n) ≡ None
clear_again v n id e same clear = ap (λ (t : Nodes Seen). spot_fault t (edit_told id e) (spot seen_id id 0 t)) same ∙ clear
