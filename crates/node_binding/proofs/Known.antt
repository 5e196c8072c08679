-- The known nodes are nodes of the page, each as often as there.
use Rattle.std.proofs.Common.{ℕ, ◌≤◌, Bool, true, false, cond, List, [], length, length-append, arith}
use Rattle.node_tree.specs.Nodes.{Nodes, none, node, node_count}
use Rattle.node_tree.specs.Keys.{tally}
use Rattle.page_tree.specs.Pages.{PageRow, row_serial}
use Rattle.node_binding.specs.Counts.{times}
use Rattle.node_binding.specs.Cuts.{opens, known}
use Rattle.node_binding.proofs.Places.{times-append}

if_shown : (b : Bool) (s : ℕ) (xs : List ℕ) (n : ℕ) → times s xs ≤ n → times s (cond b xs []) ≤ n
if_shown true s xs n h = h
if_shown false s xs n h = omega arith

pub known-tally : (o : ℕ → Bool) (s : ℕ) (n : Nodes PageRow) → times s (known o n) ≤ tally row_serial s n
known-tally o s none = omega arith
known-tally o s (node r c t) =
    omega (
      arith,
      times-append s (cond (opens o r) (known o c) []) (known o t),
      if_shown (opens o r) s (known o c) _
          (known-tally o s c),
      known-tally o s t,
    )

if_counted : (b : Bool) (xs : List ℕ) (n : ℕ) → length xs ≤ n → length (cond b xs []) ≤ n
if_counted true xs n h = h
if_counted false xs n h = omega arith

pub length-known : (o : ℕ → Bool) (n : Nodes PageRow) → length (known o n) ≤ node_count n
length-known o none = omega arith
length-known o (node r c t) =
    omega (
      arith,
      length-append (cond (opens o r) (known o c) []) (known o t),
      if_counted (opens o r) (known o c) _
          (length-known o c),
      length-known o t,
    )
