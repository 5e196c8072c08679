-- The declarations so far and those that are left make up the whole.
use Rattle.std.proofs.Common.{◌≡◌, ◌++◌, map, drop}
use Rattle.cascade_match.specs.Winning.{candidates}
use Rattle.cascade_match.specs.Tops.{ranked_seen}
use Rattle.cascade_match.proofs.winning.winners.Given as goal

abbrev pub invariant-loop-block : goal.invariant-loop-block
invariant-loop-block l = map ranked_seen l.all.items ++ candidates (drop l.block-index l.blocks) ≡ candidates l.blocks
