-- The numbers stay, and the shelves up to this one start where they are to.
use Rattle.std.proofs.Common.{◌≡◌, ◌<◌, ℕ, length, take}
use Rattle.number_map.specs.Shelves.{numbers_in, StartAt}
use Rattle.number_map.proofs.shelves.Shelves.restart.Given as goal

abbrev pub invariant-loop-k : goal.invariant-loop-k
invariant-loop-k l = record {
  same : numbers_in l.self.items.items ≡ numbers_in l.initial.self.items.items;
  len : l.self.len ≡ l.initial.self.len;
  count : length l.self.items.items ≡ length l.initial.self.items.items;
  before : l.before ≡ length (numbers_in (take l.k l.self.items.items));
  starts : (i : ℕ) → i < l.k → StartAt l.self.items.items i;
}
