-- The blocks so far are those of the rules before.
use Rattle.std.proofs.Common.{◌≡◌, map, take}
use Rattle.inspect_world.specs.StylesTexts.{rule_block, competing}
use Rattle.replay_parts.proofs.style_lines.rule_blocks.Given as goal

abbrev pub invariant-loop-found : goal.invariant-loop-found
invariant-loop-found l = l.blocks.items ≡ map (λ m. competing (rule_block m)) (take l.found-index l.rules)
