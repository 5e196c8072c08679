-- The attributes that are left give the same answer.
use Rattle.std.proofs.Common.{◌≡◌}
use Rattle.select_match.specs.Texts.{compares, has_attribute}
use Rattle.select_match.specs.Elements.{attributes_of}
use Rattle.select_match.proofs.simple.has_attribute.Given as goal

abbrev pub invariant-loop-own : goal.invariant-loop-own
invariant-loop-own l = has_attribute l.name (compares l.op l.operand) l.own-iterator
    ≡ has_attribute l.name (compares l.op l.operand) (attributes_of l.node)
