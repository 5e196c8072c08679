-- What is written so far, and then the attributes that are left.
use Rattle.std.proofs.Common.{◌≡◌, ◌++◌, string_bytes}
use Rattle.std.specs.List.{flat_map}
use Rattle.front_mirror.specs.Outline.{attribute_text}
use Rattle.front_mirror.proofs.line_texts.push_attributes.Given as goal

abbrev pub invariant-loop-name : goal.invariant-loop-name
invariant-loop-name l =
    string_bytes l.out ++ flat_map attribute_text l.name-iterator
    ≡ string_bytes l.initial.out ++ flat_map attribute_text l.attributes
