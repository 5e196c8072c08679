-- The copies so far and the names that are left make up the whole.
use Rattle.std.proofs.Common.{◌≡◌, ◌++◌}
use Rattle.css_agent.proofs.NameLemmas.{texts}
use Rattle.css_agent.proofs.class_names.copies_of.Given as goal

abbrev pub invariant-loop-name : goal.invariant-loop-name
invariant-loop-name l = l.copies.items ++ texts l.name-iterator ≡ texts l.fn.names.keys
