-- The lines so far are written, and those that are left come after them.
use Rattle.std.proofs.Common.{◌≡◌, ◌++◌, drop}
use Rattle.inspect_world.specs.StylesTexts.{property_lines}
use Rattle.replay_parts.proofs.style_lines.write_properties.Given as goal

abbrev pub invariant-loop-i : goal.invariant-loop-i
invariant-loop-i l = l.out.items ++ property_lines (drop l.i l.marks) (drop l.i l.properties)
    ≡ l.fn.out.items ++ property_lines l.marks l.properties
