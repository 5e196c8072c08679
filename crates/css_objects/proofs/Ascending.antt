-- Numbers that ascend, one after another.
use Rattle.std.proofs.Common.{ℕ, List, Bool, ◌&&◌, Option, Some, None}
use Rattle.css_objects.specs.Rules.{starts_above, ascend}

-- they ascend, above the one before them
abbrev pub follows : Option ℕ → List ℕ → Bool
follows None ns = ascend ns
follows (Some n) ns = starts_above n ns && ascend ns
