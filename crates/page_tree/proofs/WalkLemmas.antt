-- Walks down a page: what is left of the trees at a place, and one tree more.
use Rattle.std.proofs.Common.{◌≡◌, ℕ, suc, ◌+◌, ◌-◌, ◌<◌, ◌≤◌, max, nat_le, true, false, List, [], ◌∷◌, ◌++◌, Some, None, Result, Ok, Err}
use Rattle.std.proofs.Common.{IfOk, sym, ap, ◌∙◌, arith}
use Rattle.std.proofs.lemmas.Bool.Decides.{nat_tests}
use Rattle.node_tree.specs.Nodes.{Nodes, none, node, Branch, nodes_of, from, tree_at, width, node_count, branch_count, height, beside}
use Rattle.node_tree.specs.Nodes.{map_rows, map_branch}
use Rattle.node_tree.proofs.NodeLemmas.{from-zero, beside-none, node_count-map_rows}
use Rattle.node_tree.specs.Keys.{At, here, within, past}
use Rattle.page_tree.specs.Forms.{max_nodes}
use Rattle.page_tree.specs.Pages.{PageRow, PageValue, row_label, node_at, numbered, IsValid}
use Rattle.page_tree.specs.EditFaults.{is_live}
use Rattle.page_tree.proofs.EditLemmas.{changed}
use Rattle.page_tree.specs.NodesLeft.{nodes_left}
use Rattle.page_tree.proofs.CursorLemmas.{from-next}
use Rattle.page_tree.proofs.NumberLemmas.{number_turn}

none_high : (h k l : ℕ) → l ≡ 0 → nat_le (max (suc h) k) l ≡ false
none_high h k l e = grind (arith, nat_tests)

over_high : (h k l : ℕ) → 0 < l → nat_le h (l - 1) ≡ false → nat_le (max (suc h) k) l ≡ false
over_high h k l some e = grind (arith, nat_tests)

next_high : (h k l : ℕ) → 0 < l → nat_le h (l - 1) ≡ true → nat_le (max (suc h) k) l ≡ nat_le k l
next_high h k l some e = grind (arith, nat_tests)

no_room : (c t left : ℕ) → left ≡ 0 → nodes_left (suc (c + t)) left ≡ None
no_room c t left e = grind (arith, nat_tests)

over_room : (c t left : ℕ) → 0 < left → nodes_left c (left - 1) ≡ None → nodes_left (suc (c + t)) left ≡ None
over_room c t left some e = grind (arith, nat_tests)

next_room : (c t left rest : ℕ) → 0 < left → nodes_left c (left - 1) ≡ Some rest → nodes_left (suc (c + t)) left ≡ nodes_left t rest
next_room c t left rest some e = grind (arith, nat_tests)

module _ (n : Nodes PageRow) (i : ℕ) (b : Branch PageRow) (inside : i < width n) (at : tree_at i n ≡ Some b) where
  pub count_open : node_count (from i n) ≡ suc (node_count b.children + node_count (from (i + 1) n))
  count_open = ap (λ m. node_count m) (from-next n i b inside at)

  opened : from i n ≡ node b.row b.children (from (i + 1) n)
  opened = from-next n i b inside at

  module _ (levels : ℕ) (so_far : nat_le (height (from i n)) levels ≡ nat_le (height n) levels) where
    here_high : nat_le (max (suc (height b.children)) (height (from (i + 1) n))) levels ≡ nat_le (height n) levels
    here_high = sym (ap (λ m. nat_le (height m) levels) opened) ∙ so_far

    pub high_none : levels ≡ 0 → false ≡ nat_le (height n) levels
    high_none e = sym (none_high (height b.children) (height (from (i + 1) n)) levels e) ∙ here_high

    pub high_over : 0 < levels → nat_le (height b.children) (levels - 1) ≡ false → false ≡ nat_le (height n) levels
    high_over some e = sym (over_high (height b.children) (height (from (i + 1) n)) levels some e) ∙ here_high

    pub high_turn : 0 < levels → nat_le (height b.children) (levels - 1) ≡ true
        → nat_le (height (from (i + 1) n)) levels ≡ nat_le (height n) levels
    high_turn some e = sym (next_high (height b.children) (height (from (i + 1) n)) levels some e) ∙ here_high

  module _ (room left : ℕ) (so_far : nodes_left (node_count (from i n)) left ≡ nodes_left (node_count n) room) where
    inside_room : nodes_left (suc (node_count b.children + node_count (from (i + 1) n))) left ≡ nodes_left (node_count n) room
    inside_room = sym (ap (λ m. nodes_left (node_count m) left) opened) ∙ so_far

    pub room_none : left ≡ 0 → None ≡ nodes_left (node_count n) room
    room_none e = sym (no_room (node_count b.children) (node_count (from (i + 1) n)) left e) ∙ inside_room

    pub room_over : 0 < left → nodes_left (node_count b.children) (left - 1) ≡ None → None ≡ nodes_left (node_count n) room
    room_over some e = sym (over_room (node_count b.children) (node_count (from (i + 1) n)) left some e) ∙ inside_room

    pub room_turn : (rest : ℕ) → 0 < left → nodes_left (node_count b.children) (left - 1) ≡ Some rest
        → nodes_left (node_count (from (i + 1) n)) rest ≡ nodes_left (node_count n) room
    room_turn rest some e = sym (next_room (node_count b.children) (node_count (from (i + 1) n)) left rest some e) ∙ inside_room

  module _ (done new : List (Branch PageRow)) (tree : Branch PageRow) (first next after : ℕ)
      (so_far : beside (nodes_of done) (numbered next (map_rows row_label (from i n))) ≡ numbered first (map_rows row_label n)) where
    pub copy_turn : (below : Nodes PageRow) → below ≡ numbered (next + 1) (map_rows row_label b.children)
        → after ≡ next + 1 + node_count (map_rows row_label b.children)
        → tree ≡ record { row = record { serial = next; label = b.row.label }; children = below } → new ≡ done ++ tree ∷ []
        → beside (nodes_of new) (numbered after (map_rows row_label (from (i + 1) n))) ≡ numbered first (map_rows row_label n)
    copy_turn below below_is after_is is pushed =
        let whole = sym (ap (λ m. beside (nodes_of done) (numbered next (map_rows row_label m))) opened) ∙ so_far in
        ap (λ (l : List (Branch PageRow)). beside (nodes_of l) (numbered after (map_rows row_label (from (i + 1) n))))
        (pushed ∙ ap (λ t. done ++ t ∷ []) is)
        ∙ number_turn done b.row.label (map_rows row_label b.children) below (map_rows row_label (from (i + 1) n))
        (map_rows row_label n) first next after whole below_is after_is

-- nothing is left

pub high_end : (n : Nodes PageRow) (i levels : ℕ) → from i n ≡ none → nat_le (height (from i n)) levels ≡ nat_le (height n) levels
    → true ≡ nat_le (height n) levels
high_end n i levels ended so_far = low levels ∙ sym (ap (λ m. nat_le (height m) levels) ended) ∙ so_far
  where
    low : (l : ℕ) → true ≡ nat_le 0 l
    low l = grind (arith, nat_tests)

pub room_end : (n : Nodes PageRow) (i room left : ℕ) → from i n ≡ none
    → nodes_left (node_count (from i n)) left ≡ nodes_left (node_count n) room → Some left ≡ nodes_left (node_count n) room
room_end n i room left ended so_far = all_left left ∙ sym (ap (λ m. nodes_left (node_count m) left) ended) ∙ so_far
  where
    all_left : (l : ℕ) → Some l ≡ nodes_left 0 l
    all_left l = grind (arith, nat_tests)

pub copy_start : (n : Nodes PageRow) (first : ℕ) (done : List (Branch PageRow)) → done ≡ []
    → beside (nodes_of done) (numbered first (map_rows row_label (from 0 n))) ≡ numbered first (map_rows row_label n)
copy_start n first done empty = ap
    (λ (l : List (Branch PageRow)). beside (nodes_of l) (numbered first (map_rows row_label (from 0 n)))) empty ∙ ap
    (λ m. numbered first (map_rows row_label m)) (from-zero n)

pub copy_end : (n : Nodes PageRow) (i : ℕ) (done : List (Branch PageRow)) (first next : ℕ) → from i n ≡ none
    → beside (nodes_of done) (numbered next (map_rows row_label (from i n))) ≡ numbered first (map_rows row_label n)
    → nodes_of done ≡ numbered first (map_rows row_label n)
copy_end n i done first next ended so_far = sym (beside-none (nodes_of done)) ∙ sym
    (ap (λ m. beside (nodes_of done) (numbered next (map_rows row_label m))) ended) ∙ so_far

pub count_end : (n : Nodes PageRow) (i next total : ℕ) → from i n ≡ none → next + node_count (from i n) ≡ total → next ≡ total
count_end n i next total ended so_far = let e = ap (λ m. node_count m) ended in omega arith

-- ---- a node has no more nodes than the page

count_within : {old new : Branch PageRow} {depth : ℕ} {n m : Nodes PageRow} → At old new depth n m → branch_count old ≤ node_count n
count_within (here t) = omega arith
count_within (within depth r c m t e) = let h = count_within e in omega arith
count_within (past depth r c t m e) = let h = count_within e in omega arith

pub count_node : (page : PageValue) → IsValid page → (x : ℕ) → is_live x page.tree ≡ true → branch_count (node_at x page.tree) ≤ max_nodes
count_node page valid x live =
    let h = count_within (changed x (λ b. b) page.tree live).1 in
    let room = valid.nodes.room in
    let rows = node_count-map_rows row_label page.tree.children in
    omega arith

pub copied_next : {T E : Type 0} (r : Result (T × ℕ) E) (P : T × ℕ → Type 0) (first : ℕ) (w : Branch PageRow)
    → IfOk r (λ x. P x × (x.1 ≡ first + branch_count w)) → IfOk r (λ x. x.1 ≡ first + branch_count (map_branch row_label w))
copied_next (Ok x) P first w (p, e) = let rows = node_count-map_rows row_label w.children in omega arith
copied_next (Err e) P first w p = p
