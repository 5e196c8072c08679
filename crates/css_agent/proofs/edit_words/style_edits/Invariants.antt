-- The edits so far.
use Rattle.std.proofs.Common.{◌≡◌, map, take}
use Rattle.css_agent.specs.Edits.{style_edit}
use Rattle.css_agent.proofs.edit_words.style_edits.Given as goal

abbrev pub invariant-loop-edit : goal.invariant-loop-edit
invariant-loop-edit l = l.made.items ≡ map style_edit (take l.edit-index l.edits)
