-- How many sessions are numbered by what comes to the back end.
use Rattle.std.specs.Prelude.{ℕ, ◌+◌, ◌≤◌, List, length}
use Rattle.back_end.specs.Pairs.{Pair}
use Rattle.inspect_world.specs.Links.{Happening}
use Rattle.pair_world.specs.PairLinks.{pair_happened}

-- each frame that comes, each act and each load numbers one session at most
abbrev pub EachNumbersOne : Type 0
EachNumbersOne = (happenings : List Happening) (p : Pair)
    → (pair_happened p happenings).state.sessions.next ≤ p.sessions.next + length happenings
