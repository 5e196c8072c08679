-- Only containers are opened, and the ids do not run out.
use Rattle.std.proofs.Common.{◌≡◌, ℕ, zero, suc, ◌+◌, ◌*◌, ◌<◌, ◌≤◌, ◌^◌, Bool, true, false, not, ◌&&◌, ◌||◌, cond, List, [], ◌∷◌, All, map}
use Rattle.std.proofs.Common.{sum_by, Option, Some, refl, arith}
use Rattle.std.proofs.Math.Nat.{mul-le-mul_left}
use Rattle.std.proofs.lemmas.List.Elements.{All-nil, All-cons, All-head, All-tail, All-append}
use Rattle.std.proofs.lemmas.List.Sums.{sum_by-cons, sum_by-append}
use Rattle.std.specs.List.{filter}
use Rattle.node_tree.specs.Nodes.{Nodes, none, node, Branch, alone, node_count, map_rows, is_no_node}
use Rattle.node_tree.specs.Labels.{holds, is_formed_label}
use Rattle.node_tree.specs.Keys.{has}
use Rattle.node_tree.specs.declared.Kind.{Kind}
use Rattle.page_tree.specs.Forms.{are_formed, may_stand}
use Rattle.page_tree.specs.Pages.{PageRow, row_serial, row_label, PageValue, IsValid}
use Rattle.node_binding.specs.Openings.{less, is_spent}
use Rattle.node_binding.specs.Deals.{capped, dealt, deal, more_told}
use Rattle.node_binding.proofs.StartLemmas.{count-alone, root_holds}
use Rattle.dom_agent.specs.Requests.{Opening, requested, ancestors_down, pushing}
use Rattle.dom_agent.specs.Openings.{IsOfContainer}
use Rattle.dom_agent.proofs.OpeningLemmas.{opened_by_push}

abbrev pub below : Opening → ℕ
below x = node_count x.node.children

-- ---- by a request

begun_containers : (g left : Bool) (x : Opening) (xs : List Opening) → (g ≡ true → IsOfContainer x) → All IsOfContainer xs
    → All IsOfContainer (cond (g && left) (x ∷ xs) [])
begun_containers true true x xs h all = All-cons IsOfContainer x xs (h refl) all
begun_containers true false x xs h all = All-nil IsOfContainer
begun_containers false left x xs h all = All-nil IsOfContainer

if_containers : (g : Bool) (xs : List Opening) → All IsOfContainer xs → All IsOfContainer (cond g xs [])
if_containers true xs all = all
if_containers false xs all = All-nil IsOfContainer

pub dealt_containers : (m left : ℕ) (d : Option ℕ) (n : Nodes PageRow) → All IsOfContainer (dealt m left d n)
dealt_containers m left d none = All-nil IsOfContainer
dealt_containers m zero d (node r c t) =
    let x : Opening = record { levels = capped (suc m) d; node = record { row = r; children = c } } in
    All-append IsOfContainer (cond (holds r.label.kind && not (is_spent d)) (x ∷ dealt m m (less d) c) []) (dealt m 0 d t)
    (begun_containers (holds r.label.kind) (not (is_spent d)) x (dealt m m (less d) c) (λ e. e) (dealt_containers m m (less d) c))
    (dealt_containers m zero d t)
dealt_containers m (suc k) d (node r c t) =
    All-append IsOfContainer (cond (holds r.label.kind && not (is_spent d)) (dealt m k (less d) c) []) (dealt m (suc k) d t)
    (if_containers (holds r.label.kind && not (is_spent d)) (dealt m k (less d) c) (dealt_containers m k (less d) c))
    (dealt_containers m (suc k) d t)

either_containers : (b : Bool) (xs ys : List Opening) → All IsOfContainer xs → All IsOfContainer ys → All IsOfContainer (cond b xs ys)
either_containers true xs ys first other = first
either_containers false xs ys first other = other

pub requested_containers : (o : ℕ → Bool) (d : Option ℕ) (n : Nodes PageRow) → All IsOfContainer (requested o d n)
requested_containers o d none = All-nil IsOfContainer
requested_containers o d (node r c t) =
    let x : Branch PageRow = record { row = r; children = c } in
    All-append IsOfContainer
    (cond (holds r.label.kind && not (is_spent d)) (cond (o r.serial) (requested o (less d) c) (deal more_told d x)) [])
    (requested o d t)
    (if_containers (holds r.label.kind && not (is_spent d)) (cond (o r.serial) (requested o (less d) c) (deal more_told d x))
    (either_containers (o r.serial) (requested o (less d) c) (deal more_told d x) (requested_containers o (less d) c)
    (dealt_containers more_told 0 d (alone x))))
    (requested_containers o d t)

-- a node is below each piece above it
squares : (a b p q : ℕ) → p ≤ a + a * a → q ≤ b * b → p + q ≤ suc (a + b) * suc (a + b)
squares a b p q h k = omega arith

begun_count : (g : Bool) (x : Opening) (xs : List Opening) (a k : ℕ) → below x ≤ a → sum_by below xs ≤ k
    → sum_by below (cond g (x ∷ xs) []) ≤ a + k
begun_count true x xs a k one many = omega (arith, sum_by-cons below x xs)
begun_count false x xs a k one many = omega arith

if_count : (g : Bool) (xs : List Opening) (a k : ℕ) → sum_by below xs ≤ k → sum_by below (cond g xs []) ≤ a + k
if_count true xs a k many = omega arith
if_count false xs a k many = omega arith

pub dealt_count : (m left : ℕ) (d : Option ℕ) (n : Nodes PageRow) → sum_by below (dealt m left d n) ≤ node_count n * node_count n
dealt_count m left d none = omega arith
dealt_count m zero d (node r c t) =
    let x : Opening = record { levels = capped (suc m) d; node = record { row = r; children = c } } in
    let g : Bool = holds r.label.kind && not (is_spent d) in
    let first = begun_count g x (dealt m m (less d) c) (node_count c) (node_count c * node_count c) (omega arith)
    (dealt_count m m (less d) c) in
    let all = squares (node_count c) (node_count t) _ _ first (dealt_count m zero d t) in
    omega (arith, sum_by-append below (cond g (x ∷ dealt m m (less d) c) []) (dealt m 0 d t), all)
dealt_count m (suc k) d (node r c t) =
    let g : Bool = holds r.label.kind && not (is_spent d) in
    let first = if_count g (dealt m k (less d) c) (node_count c) (node_count c * node_count c) (dealt_count m k (less d) c) in
    let all = squares (node_count c) (node_count t) _ _ first (dealt_count m (suc k) d t) in
    omega (arith, sum_by-append below (cond g (dealt m k (less d) c) []) (dealt m (suc k) d t), all)

either_count : (b : Bool) (xs ys : List Opening) (k : ℕ) → sum_by below xs ≤ k → sum_by below ys ≤ k → sum_by below (cond b xs ys) ≤ k
either_count true xs ys k h j = h
either_count false xs ys k h j = j

-- the trees that are opened do not meet, but for the pieces of one
pub requested_count : (o : ℕ → Bool) (d : Option ℕ) (n : Nodes PageRow) → sum_by below (requested o d n) ≤ node_count n * node_count n
requested_count o d none = omega arith
requested_count o d (node r c t) =
    let x : Branch PageRow = record { row = r; children = c } in
    let g : Bool = holds r.label.kind && not (is_spent d) in
    let k : ℕ = suc (node_count c) * suc (node_count c) in
    let first = if_count g (cond (o r.serial) (requested o (less d) c) (deal more_told d x)) 0 k
    (either_count (o r.serial) (requested o (less d) c) (deal more_told d x) k
    (smaller_square (node_count c) _ (requested_count o (less d) c)) (of_alone (node_count c) _ (dealt_count more_told 0 d (alone x)))) in
    let all = two_squares (node_count c) (node_count t) _ _ first (requested_count o d t) in
    omega (arith, sum_by-append below (cond g (cond (o r.serial) (requested o (less d) c) (deal more_told d x)) []) (requested o d t), all)
  where
    smaller_square : (a p : ℕ) → p ≤ a * a → p ≤ suc a * suc a
    smaller_square a p h = omega arith

    of_alone : (a p : ℕ) → p ≤ suc (a + 0) * suc (a + 0) → p ≤ suc a * suc a
    of_alone a p h = omega arith

    two_squares : (a b p q : ℕ) → p ≤ 0 + suc a * suc a → q ≤ b * b → p + q ≤ suc (a + b) * suc (a + b)
    two_squares a b p q h k = omega arith

-- ---- by a push

abbrev IsContainer : Branch PageRow → Type 0
IsContainer x = holds x.row.label.kind ≡ true

last_three : (a b c d e : Bool) → (a && b && c && d && e) ≡ true → (c ≡ true) × (d ≡ true) × (e ≡ true)
last_three true true true true true h = (refl, refl, refl)
last_three true true true true false h = cc
last_three true true true false e h = cc
last_three true true false d e h = cc
last_three true false c d e h = cc
last_three false b c d e h = cc

or_false : (b : Bool) → (b || false) ≡ true → b ≡ true
or_false true h = refl
or_false false h = h

holds_above : (k : Kind) (s : ℕ) (c : Nodes PageRow) → (holds k || is_no_node (map_rows row_label c)) ≡ true → has row_serial s c ≡ true
    → holds k ≡ true
holds_above k s none formed there = cc
holds_above k s (node r c t) formed there = or_false (holds k) formed

ancestors_containers : (top : Bool) (s : ℕ) (n : Nodes PageRow) → are_formed top (map_rows row_label n) ≡ true
    → All IsContainer (ancestors_down s n)
ancestors_containers top s none formed = All-nil IsContainer
ancestors_containers top s (node r c t) formed =
    let parts = last_three (is_formed_label r.label) (may_stand top r.label.kind) (holds r.label.kind || is_no_node (map_rows row_label c))
    (are_formed false (map_rows row_label c)) (are_formed top (map_rows row_label t)) formed in
    let x : Branch PageRow = record { row = r; children = c } in
    choice (has row_serial s c) x (ancestors_down s c) (ancestors_down s t) (holds_above r.label.kind s c parts.0)
    (ancestors_containers false s c parts.1) (ancestors_containers top s t parts.2)
  where
    choice : (b : Bool) (x : Branch PageRow) (xs ys : List (Branch PageRow)) → (b ≡ true → IsContainer x) → All IsContainer xs
        → All IsContainer ys → All IsContainer (cond b (x ∷ xs) ys)
    choice true x xs ys h first other = All-cons IsContainer x xs (h refl) first
    choice false x xs ys h first other = other

abbrev one : Branch PageRow → Opening
one x = record { levels = Some 1; node = x }

abbrev kids : Branch PageRow → ℕ
kids x = node_count x.children

module _ (o : ℕ → Bool) where
  pushed_containers : (xs : List (Branch PageRow)) → All IsContainer xs → All IsOfContainer (opened_by_push o xs)
  pushed_containers [] all = All-nil IsOfContainer
  pushed_containers (x ∷ xs) all =
      choice (not (o x.row.serial)) (filter (λ (y : Branch PageRow). not (o y.row.serial)) xs)
      (pushed_containers xs (All-tail IsContainer x xs all))
    where
      choice : (b : Bool) (ys : List (Branch PageRow)) → All IsOfContainer (map one ys) → All IsOfContainer (map one (cond b (x ∷ ys) ys))
      choice true ys rest = All-cons IsOfContainer (one x) (map one ys) (All-head IsContainer x xs all) rest
      choice false ys rest = rest

  pushed_count : (xs : List (Branch PageRow))
      → sum_by below (opened_by_push o xs) ≤ sum_by (λ (x : Branch PageRow). node_count x.children) xs
  pushed_count [] = omega arith
  pushed_count (x ∷ xs) =
      omega (
        arith,
        sum_by-cons (λ (y : Branch PageRow). node_count y.children) x xs,
        choice (not (o x.row.serial))
            (filter (λ (y : Branch PageRow). not (o y.row.serial)) xs),
        pushed_count xs,
      )
    where
      choice : (b : Bool) (ys : List (Branch PageRow))
          → sum_by below (map one (cond b (x ∷ ys) ys)) ≤ node_count x.children + sum_by below (map one ys)
      choice true ys = omega (arith, sum_by-cons below (one x) (map one ys))
      choice false ys = omega arith

square_below : (a b q : ℕ) → q ≤ a * a → a + q ≤ suc (a + b) * suc (a + b)
square_below a b q h = omega arith

square_after : (a b q : ℕ) → q ≤ b * b → q ≤ suc (a + b) * suc (a + b)
square_after a b q h = omega arith

ancestors_count : (s : ℕ) (n : Nodes PageRow)
    → sum_by (λ (x : Branch PageRow). node_count x.children) (ancestors_down s n) ≤ node_count n * node_count n
ancestors_count s none = omega arith
ancestors_count s (node r c t) =
    choice (has row_serial s c) (ancestors_down s c) (ancestors_down s t)
    (square_below (node_count c) (node_count t) _ (ancestors_count s c))
    (square_after (node_count c) (node_count t) _ (ancestors_count s t))
  where
    choice : (b : Bool) (xs ys : List (Branch PageRow))
        → node_count c + sum_by kids xs ≤ suc (node_count c + node_count t) * suc (node_count c + node_count t)
        → sum_by kids ys ≤ suc (node_count c + node_count t) * suc (node_count c + node_count t)
        → sum_by kids (cond b (record { row = r; children = c } ∷ xs) ys)
        ≤ suc (node_count c + node_count t) * suc (node_count c + node_count t)
    choice true xs ys first other = omega (arith, sum_by-cons kids (record { row = r; children = c }) xs)
    choice false xs ys first other = other

module _ (page : PageValue) (valid : IsValid page) (o : ℕ → Bool) (s : ℕ) where
  ancestors_of_page : All IsContainer (ancestors_down s (alone page.tree))
  ancestors_of_page =
      choice (has row_serial s page.tree.children) page.tree (ancestors_down s page.tree.children) (root_holds page valid)
      (ancestors_containers true s page.tree.children valid.nodes.formed)
    where
      choice : (b : Bool) (x : Branch PageRow) (xs : List (Branch PageRow)) → IsContainer x → All IsContainer xs
          → All IsContainer (cond b (x ∷ xs) [])
      choice true x xs h all = All-cons IsContainer x xs h all
      choice false x xs h all = All-nil IsContainer

  pub pushing_containers : All IsOfContainer (pushing o s (alone page.tree))
  pushing_containers = pushed_containers o (ancestors_down s (alone page.tree)) ancestors_of_page

  pub pushing_room : (next : ℕ) → next < 2 ^ 60 → next + sum_by below (pushing o s (alone page.tree)) < 2 ^ 63
  pushing_room next room =
      omega (
        arith,
        pushed_count o (ancestors_down s (alone page.tree)),
        ancestors_count s
            (alone page.tree),
        count-alone page valid,
        mul-le-mul_left (node_count (alone page.tree)) (count-alone page valid),
      )

  -- however deep the tree is
  pub pushing_few : sum_by below (pushing o s (alone page.tree)) ≤ 2 ^ 34
  pushing_few =
      omega (
        arith,
        pushed_count o (ancestors_down s (alone page.tree)),
        ancestors_count s
            (alone page.tree),
        count-alone page valid,
        mul-le-mul_left (node_count (alone page.tree)) (count-alone page valid),
      )
