use Rattle.std.proofs.Common.{◌≡◌, ◌++◌}
use Rattle.front_mirror.specs.Outline.{indent}
use Rattle.replay_parts.proofs.page_lines.write_spaces.Given as goal

abbrev pub invariant-loop : goal.invariant-loop
invariant-loop l = l.out.items ≡ l.initial.out.items ++ indent l.counter
