use Rattle.std.proofs.Common.{◌≡◌, ℕ, take, true}
use Rattle.std.specs.BTreeSet.{contains}
use Rattle.std.specs.Ordering.{nat_cmp}
use Rattle.client_views.specs.Views.{is_in, is_distinct}
use Rattle.front_mirror.proofs.checks.are_distinct.Given as goal

abbrev pub invariant-loop-number : goal.invariant-loop-number
invariant-loop-number l = record {
  has : (x : ℕ) → contains nat_cmp l.seen x ≡ is_in x (take l.number-index l.numbers);
  distinct : is_distinct (take l.number-index l.numbers) ≡ true;
}
