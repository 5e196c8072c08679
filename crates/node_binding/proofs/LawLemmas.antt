-- The clauses of the law in which one node is opened, comes or goes.
use Rattle.std.proofs.Common.{◌≡◌, ℕ, ◌≤◌, Bool, true, false, ◌||◌, List, Option, refl, subst, arith}
use Rattle.node_tree.specs.Nodes.{Nodes, Branch, alone}
use Rattle.node_tree.specs.Keys.{tally}
use Rattle.page_tree.specs.Pages.{PageRow, row_serial}
use Rattle.node_binding.specs.Counts.{stands_in}
use Rattle.node_binding.specs.Cuts.{known, shown_anew}
use Rattle.node_binding.specs.Openings.{less, is_spent, containers_within, levelled, opened_also}
use Rattle.node_binding.specs.Sessions.{IsSession, CanOpen, session_of, grown}
use Rattle.node_binding.specs.Bindings.{BindingValue, Stands, all_bound, all_opened, opened_down}
use Rattle.node_binding.proofs.Places.{is_in-times}
use Rattle.node_binding.proofs.Known.{known-tally}
use Rattle.node_binding.proofs.GrowLemmas.{times-anew, Stands-more}
use Rattle.node_binding.proofs.AnewLemmas.{anew-opened}

or-true : (a b : Bool) → a ≡ true → (a || b) ≡ true
or-true true b e = refl
or-true false b e = cc

or-false : (b : Bool) → b ≡ (b || false)
or-false true = refl
or-false false = refl

pub Stands-open_down : (d : Option ℕ) (n : Nodes PageRow) (x : Branch PageRow) (o : ℕ → Bool) (pushed : List ℕ) (since : ℕ)
    (b : BindingValue) → ((s : ℕ) → tally row_serial s n ≤ 1) → is_spent d ≡ false → CanOpen n o x
    → IsSession n (session_of o pushed since) → Stands n (session_of o pushed since) b
    → Stands n (grown o (opened_also d x o) n (session_of o pushed since)) (opened_down d x b)
Stands-open_down d n x o pushed since b distinct left can session stands =
    let p : ℕ → Bool = opened_also d x o in
    let anew : shown_anew o p n ≡ levelled (less d) x.children =
    anew-opened o d left x n distinct can.stands
    (is_in-times (known o n) x.row.serial can.known_now) can.shut can.container session.opened_set.closed in
    let grew = Stands-more n n o p pushed since (containers_within d (alone x)) (shown_anew o p n)
    (λ s. times-anew o p (λ s e. or-true (o s) (stands_in s (containers_within d (alone x))) e) s n)
    (λ s. omega (arith, known-tally p s n, distinct s)) (λ s. refl) b session stands in
    subst (λ (ks : List ℕ). Stands n (grown o p n (session_of o pushed since))
    (all_bound ks (all_opened (containers_within d (alone x)) b))) anew grew
