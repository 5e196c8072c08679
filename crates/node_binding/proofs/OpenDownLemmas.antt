-- One node and all below it are opened or forgotten.
use Rattle.std.proofs.Common.{◌≡◌, ℕ, zero, suc, ◌+◌, ◌<◌, ◌≤◌, ◌^◌, true, false, Bool, cond, not, ◌&&◌, List, [], ◌∷◌, ◌++◌, append-nil}
use Rattle.std.proofs.Common.{Option, Some, None, unwrap_or, refl, sym, ap, subst, ◌∙◌, arith}
use Rattle.std.proofs.Math.Logic.{⊎_elim}
use Rattle.node_tree.specs.Nodes.{Nodes, none, node, Branch, alone, node_count}
use Rattle.node_tree.specs.Keys.{find}
use Rattle.node_tree.specs.Labels.{holds}
use Rattle.page_tree.specs.Pages.{PageRow, row_serial, PageValue, IsValid, find_in, node_at}
use Rattle.node_binding.specs.Openings.{less, is_spent, containers_within, levelled}
use Rattle.node_binding.specs.Bindings.{BindingValue, with_opened, all_bound, all_opened, revealed, opened_down, forgotten, all_forgotten}
use Rattle.node_binding.proofs.StartLemmas.{count-alone}
use Rattle.node_binding.proofs.BoundLemmas.{opened-next, bound-next}
use Rattle.node_binding.proofs.RevealLemmas.{length-levelled}
use Rattle.node_binding.proofs.AnewLemmas.{at_or_other, found_here, found_later}

pub count-found : (k : ℕ) (n : Nodes PageRow) (x : Branch PageRow) → find row_serial k n ≡ Some x → node_count x.children ≤ node_count n
count-found k none x e = cc
count-found k (node r c t) x e =
    at_or_other r.serial k
    (λ here. subst (λ (y : Branch PageRow). node_count y.children ≤ suc (node_count c + node_count t)) (found_here k r c t x here e)
    (omega arith))
    (λ other. ⊎_elim (λ in_c. omega (arith, count-found k c x in_c)) (λ in_t. omega (arith, count-found k t x in_t))
    (found_later k r c t x other e))

count-at : (s : ℕ) (tree : Branch PageRow) → node_count (node_at s tree).children ≤ node_count (alone tree)
count-at s tree =
    elim (find_in s tree) as (λ o. find_in s tree ≡ o → node_count (unwrap_or o tree).children ≤ node_count (alone tree)) [
      | None ↦ λ _. omega arith
      | Some x ↦ λ e. count-found s (alone tree) x e
    ] refl

pub opened_down-revealed : (d : Option ℕ) (x : Branch PageRow) (b : BindingValue) → holds x.row.label.kind ≡ true → is_spent d ≡ false
    → opened_down d x b ≡ revealed (less d) x.children (with_opened x.row.serial b)
opened_down-revealed d x b container left =
    ap (λ g. all_bound (levelled (less d) x.children)
    (all_opened (cond (g && not (is_spent d)) (x.row.serial ∷ containers_within (less d) x.children) [] ++ []) b)) container
    ∙ ap (λ g. all_bound (levelled (less d) x.children)
    (all_opened (cond (not g) (x.row.serial ∷ containers_within (less d) x.children) [] ++ []) b)) left
    ∙ ap (λ os. all_bound (levelled (less d) x.children) (all_opened os b))
    (append-nil (x.row.serial ∷ containers_within (less d) x.children))

shut : (b : Bool) (xs : List ℕ) → cond (b && false) xs [] ≡ []
shut true xs = refl
shut false xs = refl

reached-spent : (n : Nodes PageRow) → containers_within (Some 0) n ≡ []
reached-spent none = refl
reached-spent (node r c t) =
    ap (λ os. os ++ containers_within (Some 0) t) (shut (holds r.label.kind) (r.serial ∷ containers_within (Some 0) c)) ∙ reached-spent t

-- with a container, whatever levels are left
pub opened_down-reached : (d : Option ℕ) (x : Branch PageRow) (b : BindingValue) → holds x.row.label.kind ≡ true
    → opened_down d x b ≡ revealed (less d) x.children (cond (holds x.row.label.kind && not (is_spent d)) (with_opened x.row.serial b) b)
opened_down-reached None x b container =
    opened_down-revealed None x b container refl ∙ sym
    (ap (λ g. revealed None x.children (cond (g && true) (with_opened x.row.serial b) b)) container)
opened_down-reached (Some zero) x b container =
    ap (λ os. all_bound (levelled (Some 0) x.children) (all_opened os b)) (reached-spent (alone x))
    ∙ sym (ap (λ os. all_bound (levelled (Some 0) x.children) (all_opened os b)) (reached-spent x.children))
    ∙ sym (ap (λ g. revealed (Some 0) x.children (cond (g && false) (with_opened x.row.serial b) b)) container)
opened_down-reached (Some (suc d)) x b container =
    opened_down-revealed (Some (suc d)) x b container refl ∙ sym
    (ap (λ g. revealed (Some d) x.children (cond (g && true) (with_opened x.row.serial b) b)) container)

-- at most one id a node
pub opened_down-next : (d : Option ℕ) (x : Branch PageRow) (b : BindingValue) → (opened_down d x b).next ≤ b.next + node_count x.children
opened_down-next d x b =
    omega (
      arith,
      bound-next (levelled (less d) x.children) (all_opened (containers_within d (alone x)) b),
      opened-next
          (containers_within d (alone x)) b,
      length-levelled (less d) x.children,
    )

-- ---- the calls

pub open_tree_room : (levels : Option ℕ) (x : Branch PageRow) (b b1 : BindingValue) (kids : Nodes PageRow)
    → b.next + node_count x.children < 2 ^ 63 → kids ≡ x.children
    → b1 ≡ cond (holds x.row.label.kind && not (is_spent levels)) (with_opened x.row.serial b) b → b1.next + node_count kids < 2 ^ 63
open_tree_room levels x b b1 kids room kids_are opened =
    let next : b1.next ≡ b.next = ap (λ m. m.next) opened ∙ next_same (holds x.row.label.kind && not (is_spent levels)) x.row.serial b in
    omega (arith, ap node_count kids_are)
  where
    next_same : (g : Bool) (s : ℕ) (b : BindingValue) → (cond g (with_opened s b) b).next ≡ b.next
    next_same true s b = refl
    next_same false s b = refl

pub open_tree_is : (levels left : Option ℕ) (x : Branch PageRow) (b b1 b2 : BindingValue) (kids : Nodes PageRow)
    → holds x.row.label.kind ≡ true → left ≡ less levels → kids ≡ x.children
    → b1 ≡ cond (holds x.row.label.kind && not (is_spent levels)) (with_opened x.row.serial b) b → b2 ≡ revealed left kids b1
    → b2 ≡ opened_down levels x b
open_tree_is levels left x b b1 b2 kids container left_is kids_are opened below =
    below
    ∙ ap (λ l. revealed l kids b1) left_is
    ∙ ap (λ n. revealed (less levels) n b1) kids_are
    ∙ ap (revealed (less levels) x.children) opened
    ∙ sym (opened_down-reached levels x b container)

module _ (page : PageValue) (valid : IsValid page) (s : ℕ) (x : Branch PageRow) (at : x ≡ node_at s page.tree) where
  pub open_down_room : (b : BindingValue) → b.next < 2 ^ 60 → b.next + node_count x.children < 2 ^ 63
  open_down_room b room = omega (arith, count-alone page valid, count-at s page.tree, ap (λ (y : Branch PageRow). node_count y.children) at)

-- ---- the loop over trees that go

pub forget_turn : (x : Branch PageRow) (left rest : Nodes PageRow) (serial : ℕ) (kids : Nodes PageRow) (b b1 b2 all : BindingValue)
    → left ≡ node x.row x.children rest → serial ≡ x.row.serial → kids ≡ x.children → b1 ≡ forgotten serial b
    → b2 ≡ all_forgotten kids b1 → all_forgotten left b ≡ all → all_forgotten rest b2 ≡ all
forget_turn x left rest serial kids b b1 b2 all split serial_is kids_are first below was =
    ap (all_forgotten rest)
    (below ∙ ap (λ m. all_forgotten m b1) kids_are ∙ ap (all_forgotten x.children) (first ∙ ap (λ k. forgotten k b) serial_is))
    ∙ ap (λ m. all_forgotten m b) (sym split)
    ∙ was

pub forget_tree : (x y : Branch PageRow) (serial : ℕ) (kids : Nodes PageRow) (b b1 b2 : BindingValue) → x ≡ y → serial ≡ x.row.serial
    → kids ≡ x.children → b1 ≡ forgotten serial b → b2 ≡ all_forgotten kids b1 → b2 ≡ all_forgotten (alone y) b
forget_tree x y serial kids b b1 b2 is serial_is kids_are first below =
    below ∙ ap (λ n. all_forgotten n b1) kids_are ∙ ap (all_forgotten x.children) (first ∙ ap (λ k. forgotten k b) serial_is) ∙ ap
    (λ (z : Branch PageRow). all_forgotten (alone z) b) is
