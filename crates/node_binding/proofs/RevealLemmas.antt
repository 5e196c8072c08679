-- Trees become known one after another.
use Rattle.std.proofs.Common.{◌≡◌, ℕ, ◌+◌, ◌<◌, ◌≤◌, ◌^◌, Bool, true, false, cond, not, ◌&&◌, List, [], ◌∷◌, ◌++◌, length, length-append}
use Rattle.std.proofs.Common.{Option, refl, sym, ap, ◌∙◌, arith}
use Rattle.node_tree.specs.Nodes.{Nodes, none, node, Branch, node_count}
use Rattle.node_tree.specs.Labels.{holds}
use Rattle.page_tree.specs.Pages.{PageRow}
use Rattle.node_binding.specs.Openings.{less, is_spent, containers_within, levelled}
use Rattle.node_binding.specs.Bindings.{BindingValue, with_bound, all_bound, with_opened, all_opened, revealed}
use Rattle.node_binding.proofs.BoundLemmas.{opened-next, bound-next}

pub bound-append : (xs ys : List ℕ) (b : BindingValue) → all_bound (xs ++ ys) b ≡ all_bound ys (all_bound xs b)
bound-append [] ys b = refl
bound-append (x ∷ xs) ys b = bound-append xs ys (with_bound x b)

pub opened-append : (xs ys : List ℕ) (b : BindingValue) → all_opened (xs ++ ys) b ≡ all_opened ys (all_opened xs b)
opened-append [] ys b = refl
opened-append (x ∷ xs) ys b = opened-append xs ys (with_opened x b)

opened_past : (os : List ℕ) (s : ℕ) (b : BindingValue) → all_opened os (with_bound s b) ≡ with_bound s (all_opened os b)
opened_past [] s b = refl
opened_past (x ∷ xs) s b = opened_past xs s (with_opened x b)

-- what is opened and what is bound do not meet
pub opened-bound : (os ss : List ℕ) (b : BindingValue) → all_opened os (all_bound ss b) ≡ all_bound ss (all_opened os b)
opened-bound os [] b = refl
opened-bound os (s ∷ ss) b = opened-bound os ss (with_bound s b) ∙ ap (all_bound ss) (opened_past os s b)

-- the first tree, its children if it is opened, and then the rest
abbrev pub after_first : Bool → Option ℕ → PageRow → Nodes PageRow → BindingValue → BindingValue
after_first true d r c b = revealed (less d) c (with_opened r.serial (with_bound r.serial b))
after_first false d r c b = with_bound r.serial b

reveal_split : (shown : Bool) (d : Option ℕ) (r : PageRow) (c t : Nodes PageRow) (b : BindingValue)
    → all_bound (r.serial ∷ (cond shown (levelled (less d) c) [] ++ levelled d t))
    (all_opened (cond shown (r.serial ∷ containers_within (less d) c) [] ++ containers_within d t) b)
    ≡ revealed d t (after_first shown d r c b)
reveal_split true d r c t b =
    ap (λ m. all_bound (levelled (less d) c ++ levelled d t) (with_bound r.serial m))
    (opened-append (containers_within (less d) c) (containers_within d t) (with_opened r.serial b))
    ∙ bound-append (levelled (less d) c) (levelled d t) _
    ∙ ap (λ m. all_bound (levelled d t) (all_bound (levelled (less d) c) m))
    (sym (opened_past (containers_within d t) r.serial (all_opened (containers_within (less d) c) (with_opened r.serial b))))
    ∙ ap (λ m. all_bound (levelled d t) (all_bound (levelled (less d) c) (all_opened (containers_within d t) m)))
    (sym (opened_past (containers_within (less d) c) r.serial (with_opened r.serial b)))
    ∙ ap (all_bound (levelled d t))
    (sym (opened-bound (containers_within d t) (levelled (less d) c)
    (all_opened (containers_within (less d) c) (with_opened r.serial (with_bound r.serial b)))))
reveal_split false d r c t b = ap (all_bound (levelled d t)) (sym (opened_past (containers_within d t) r.serial b))

pub revealed-node : (d : Option ℕ) (r : PageRow) (c t : Nodes PageRow) (b : BindingValue)
    → revealed d (node r c t) b ≡ revealed d t (after_first (holds r.label.kind && not (is_spent d)) d r c b)
revealed-node d r c t b = reveal_split (holds r.label.kind && not (is_spent d)) d r c t b

if_counted : (b : Bool) (xs : List ℕ) (n : ℕ) → length xs ≤ n → length (cond b xs []) ≤ n
if_counted true xs n h = h
if_counted false xs n h = omega arith

pub length-levelled : (d : Option ℕ) (n : Nodes PageRow) → length (levelled d n) ≤ node_count n
length-levelled d none = omega arith
length-levelled d (node r c t) =
    omega (
      arith,
      length-append (cond (holds r.label.kind && not (is_spent d)) (levelled (less d) c) []) (levelled d t),
      if_counted
          (holds r.label.kind && not (is_spent d)) (levelled (less d) c) _ (length-levelled (less d) c),
      length-levelled d t,
    )

-- at most one id a node
pub revealed-next : (d : Option ℕ) (n : Nodes PageRow) (b : BindingValue) → (revealed d n b).next ≤ b.next + node_count n
revealed-next d n b =
    omega (
      arith,
      bound-next (levelled d n) (all_opened (containers_within d n) b),
      opened-next
          (containers_within d n) b,
      length-levelled d n,
    )

-- ---- the loop over the trees

abbrev pub goes_on : Option ℕ → Branch PageRow → Bool
goes_on d x = holds x.row.label.kind && not (is_spent d)

-- a tree that is opened
pub opened_tree : (d left : Option ℕ) (x : Branch PageRow) (serial : ℕ) (kids : Nodes PageRow) (b b1 b2 b3 b4 : BindingValue)
    → goes_on d x ≡ true → serial ≡ x.row.serial → kids ≡ x.children → left ≡ less d → b1 ≡ with_bound serial b
    → b2 ≡ with_opened serial b1 → b3 ≡ revealed left kids b2 → b4 ≡ b3 → b4 ≡ after_first (goes_on d x) d x.row x.children b
opened_tree d left x serial kids b b1 b2 b3 b4 goes serial_is kids_are left_is bound opened below end =
    end
    ∙ below
    ∙ ap (λ l. revealed l kids b2) left_is
    ∙ ap (λ n. revealed (less d) n b2) kids_are
    ∙ ap (revealed (less d) x.children) (opened ∙ ap (with_opened serial) bound ∙ ap (λ s. with_opened s (with_bound s b)) serial_is)
    ∙ ap (λ g. after_first g d x.row x.children b) (sym goes)

-- a tree that is not
pub closed_tree : (d : Option ℕ) (x : Branch PageRow) (serial : ℕ) (b b1 b4 : BindingValue) → goes_on d x ≡ false → serial ≡ x.row.serial
    → b1 ≡ with_bound serial b → b4 ≡ b1 → b4 ≡ after_first (goes_on d x) d x.row x.children b
closed_tree d x serial b b1 b4 goes serial_is bound end =
    end ∙ bound ∙ ap (λ s. with_bound s b) serial_is ∙ ap (λ g. after_first g d x.row x.children b) (sym goes)

pub record RevealTurn (d : Option ℕ) (left : Nodes PageRow) (b : BindingValue) (all : BindingValue) : Type 0 where
  pub same : revealed d left b ≡ all
  pub room : b.next + node_count left < 2 ^ 63

after_first-next : (shown : Bool) (d : Option ℕ) (r : PageRow) (c : Nodes PageRow) (b : BindingValue)
    → (after_first shown d r c b).next ≤ b.next + 1 + node_count c
after_first-next true d r c b = revealed-next (less d) c (with_opened r.serial (with_bound r.serial b))
after_first-next false d r c b = omega arith

pub reveal_turn : (d : Option ℕ) (x : Branch PageRow) (left rest : Nodes PageRow) (b b4 all : BindingValue)
    → left ≡ node x.row x.children rest → b4 ≡ after_first (goes_on d x) d x.row x.children b → RevealTurn d left b all
    → RevealTurn d rest b4 all
reveal_turn d x left rest b b4 all split turned was = record {
  same = ap (revealed d rest) turned ∙ sym (revealed-node d x.row x.children rest b) ∙ sym (ap (λ m. revealed d m b) split) ∙ was.same;
  room = omega (arith, was.room, ap node_count split, ap (λ m. m.next) turned, after_first-next (goes_on d x) d x.row x.children b);
}
