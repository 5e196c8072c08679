use Rattle.std.proofs.Common.{◌≡◌, map, reverse}
use Rattle.node_tree.specs.Nodes.{nodes_of}
use Rattle.drill_script.specs.Hanging.{nothing_hangs}
use Rattle.drill_script.proofs.hanging.Hanging.new.Given as goal

abbrev pub invariant-loop : goal.invariant-loop
invariant-loop l = map (λ v. nodes_of (reverse v.items)) l.lists.items ≡ nothing_hangs l.counter
