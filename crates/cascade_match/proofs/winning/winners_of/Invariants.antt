-- What was told and what is left to tell make up the whole.
use Rattle.std.proofs.Common.{◌≡◌, ◌++◌, [], map, take, drop}
use Rattle.cascade_match.specs.Winning.{wins_from}
use Rattle.cascade_match.specs.Tops.{ranked_seen}
use Rattle.cascade_match.proofs.winning.winners_of.Given as goal

abbrev pub invariant-loop-i : goal.invariant-loop-i
invariant-loop-i l = l.won.items ++ wins_from (map ranked_seen (take l.i l.all)) (map ranked_seen (drop l.i l.all))
    ≡ wins_from [] (map ranked_seen l.all)
