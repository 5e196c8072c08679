-- The blocks so far are written, and those that are left come after them, with the marks that are left.
use Rattle.std.proofs.Common.{◌≡◌, ◌++◌, List, map, drop}
use Rattle.inspect_world.specs.StylesTexts.{ShownBlock, rule_block, block_lines}
use Rattle.replay_parts.proofs.style_lines.write_rules.Given as goal

abbrev pub invariant-loop-found : goal.invariant-loop-found
invariant-loop-found l = (more : List ShownBlock)
    → l.out.items ++ block_lines l.left (map rule_block (drop l.found-index l.rules) ++ more)
    ≡ l.fn.out.items ++ block_lines l.marks (map rule_block l.rules ++ more)
