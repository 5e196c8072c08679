-- The numbers so far are distinct, and none is above the last.
use Rattle.std.proofs.Common.{◌≡◌, ◌≤◌, ℕ, take, true}
use Rattle.client_views.specs.Views.{is_in, is_distinct}
use Rattle.front_mirror.proofs.checks.ascend.Given as goal

abbrev pub invariant-loop-number : goal.invariant-loop-number
invariant-loop-number l = record {
  low : (x : ℕ) → is_in x (take l.number-index l.numbers) ≡ true → x ≤ l.last;
  distinct : is_distinct (take l.number-index l.numbers) ≡ true;
}
