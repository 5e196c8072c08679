-- Trees have few nodes where their ids are distinct and low.
use Rattle.std.proofs.Common.{◌≡◌, ℕ, ◌+◌, ◌<◌, ◌≤◌, ◌==◌, nat_eq, Bool, true, false, cond, List, [], ◌∷◌, Option, None, IfSome}
use Rattle.std.proofs.Common.{refl, sym, ap, ◌∙◌, subst, arith, inl, inr, option_map}
use Rattle.std.specs.List.{AllByRecursion, IsDistinct}
use Rattle.std.proofs.lemmas.Bool.{ne_eqb}
use Rattle.std.proofs.lemmas.Map.Steps.{length-le_from_distinct_below}
use Rattle.node_tree.specs.Nodes.{Nodes, none, node, Branch, alone, node_count}
use Rattle.node_tree.specs.Numbers.{number_limit, counted_limit}
use Rattle.node_tree.specs.Keys.{tally}
use Rattle.node_tree.specs.Seen.{Seen, seen_id}
use Rattle.dom_objects.specs.Told.{Told, seen_nodes}
use Rattle.dom_objects.specs.NodeData.{fits_tree}
use Rattle.client_views.specs.Views.{keys, is_in, is_distinct}
use Rattle.front_mirror.specs.Front.{root_fault}
use Rattle.front_mirror.specs.Sizes.{BecomesOn, HasLowIds, HasRoomUpTo}
use Rattle.front_mirror.specs.Walks.{rank_of}
use Rattle.front_mirror.proofs.DistinctLemmas.{absent_and, neither}
use Rattle.front_mirror.proofs.ViewLemmas.{tally-keys, absent_times, times_distinct, subst_times, low_of_root, mirror_of_root}
use Rattle.front_mirror.proofs.RankLemmas.{nat_cases}
use Rattle.front_mirror.proofs.RecountLemmas.{keys-count}

-- ---- no more nodes than numbers below the limit

apart_all : (x : ℕ) (xs : List ℕ) → is_in x xs ≡ false → AllByRecursion (λ y. nat_eq x y ≡ false) xs
apart_all x [] out = tt
apart_all x (y ∷ xs) out = let p = neither (nat_eq x y) (is_in x xs) out in (p.0, apart_all x xs p.1)

all_apart : (xs : List ℕ) → is_distinct xs ≡ true → IsDistinct nat_eq xs
unfolding IsDistinct
all_apart [] distinct = tt
all_apart (x ∷ xs) distinct =
    let p = absent_and (is_in x xs) (is_distinct xs) distinct in (apart_all x xs p.0, all_apart xs p.1)

few_below : (n : Nodes Seen) (limit : ℕ) → ((x : ℕ) → tally seen_id x n ≤ 1) → ((x : ℕ) → limit ≤ x → tally seen_id x n ≡ 0)
    → node_count n ≤ limit
few_below n limit once low =
    let distinct = times_distinct (keys seen_id n) (λ x. subst_times seen_id n x (once x)) in
    let below : (x : ℕ) → is_in x (keys seen_id n) ≡ true → x < limit =
    λ x there. elim (nat_cases x limit) [
      | inl less ↦ less
      | inr far ↦
          let gone = absent_times x (keys seen_id n) (sym (tally-keys seen_id x n) ∙ low x far) in
          let clash : ◌≡◌ {A = Bool} true false = sym there ∙ gone in
          absurd cc
    ] in
    let l = length-le_from_distinct_below (keys seen_id n) limit (all_apart (keys seen_id n) distinct) below in
    let k = keys-count n in
    omega arith

-- nodes whose ids come once each and are such as messages carry
pub few_nodes : (n : Nodes Seen) → ((x : ℕ) → tally seen_id x n ≤ 1) → HasLowIds n → node_count n ≤ counted_limit
few_nodes n once low = few_below n counted_limit once low

pub count_seen : (n : Nodes Told) → node_count (seen_nodes n) ≡ node_count n
count_seen none = refl
count_seen (node r c t) = rw (count_seen c, count_seen t) refl

-- the nodes of a document that comes
pub few_of_root : (b : Branch Told) → root_fault b ≡ None → fits_tree true b ≡ true → node_count (alone b) < number_limit
few_of_root b clear fits =
    let h = few_nodes (seen_nodes (alone b)) (mirror_of_root b clear fits).view.ids (low_of_root b fits) in
    let k = count_seen (alone b) in
    omega arith

-- ---- on the way up

-- where one number has changed, those of the nodes before its own have room as before
pub room_before : (n : Nodes Seen) (id parent more : ℕ) (f : ℕ → ℕ) (old new : ℕ → Option ℕ)
    → rank_of seen_id parent n < rank_of seen_id id n → BecomesOn (λ k. id == k) f old new → HasRoomUpTo id more old n
    → HasRoomUpTo parent more new n
room_before n id parent more f old new less became room k known up_to =
    let stays : new k ≡ old k =
    became k ∙ ap (λ v. cond v (option_map f (old k)) (old k)) (ne_eqb id k
    (λ same. let e : rank_of seen_id id n ≡ rank_of seen_id k n = ap (λ x. rank_of seen_id x n) same in omega arith))
    in
    subst (λ (o : Option ℕ). IfSome o (λ count. count + more < number_limit)) (sym stays) (room k known (omega arith))
