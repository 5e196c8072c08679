-- The declarations so far are those of the properties before.
use Rattle.std.proofs.Common.{◌≡◌, map, take}
use Rattle.inspect_world.specs.StylesTexts.{declared}
use Rattle.replay_parts.proofs.style_lines.declarations_of.Given as goal

abbrev pub invariant-loop-property : goal.invariant-loop-property
invariant-loop-property l = l.declarations.items ≡ map declared (take l.property-index l.properties)
