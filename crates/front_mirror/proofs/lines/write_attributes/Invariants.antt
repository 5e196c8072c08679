-- What is written so far, and then the attributes that are left.
use Rattle.std.proofs.Common.{◌≡◌, ◌++◌}
use Rattle.std.specs.List.{flat_map}
use Rattle.front_mirror.specs.Outline.{attribute_text}
use Rattle.front_mirror.proofs.lines.write_attributes.Given as goal

abbrev pub invariant-loop-name : goal.invariant-loop-name
invariant-loop-name l =
    l.out.items ++ flat_map attribute_text l.name-iterator ≡ l.initial.out.items ++ flat_map attribute_text l.attributes
