use Rattle.std.proofs.Common.{◌≡◌, ◌++◌, ◌≤◌, ◌+◌, length, reverse, vec_capacity}
use Rattle.sheet_reader.proofs.repairs.taken_behind.Given as goal

abbrev pub invariant-loop-back : goal.invariant-loop-back
invariant-loop-back g l =
    (l.list.items ++ reverse l.back.items ≡ l.fn.list.items)
    × (l.to ≤ length l.list.items)
    × (length l.list.items + length l.back.items ≡ length l.fn.list.items)
    × (vec_capacity l.back ≡ vec_capacity l.fn.back)

abbrev pub decreases-loop-back : goal.decreases-loop-back
decreases-loop-back g l = length l.list.items
