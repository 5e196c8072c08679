-- What a history hands out.
use Rattle.std.specs.Prelude.{◌≡◌, Bool, true, false, List, Option, Some, None}
use Rattle.undo_marks.specs.declared.inverse_lists.Inverse.{Inverse}
use Rattle.undo_marks.specs.declared.inverse_lists.Popped.{Popped}
use Rattle.undo_marks.specs.declared.inverse_lists.Popped.TheVariants.{Group, Nothing, Crossed}

-- the group, or where there is none that, by the flag `crossed`
abbrev pub IsPopped : Popped → Option (List Inverse) → Bool → Type 0
IsPopped (Group edits) group crossed = group ≡ Some edits
IsPopped Nothing group crossed = (group ≡ None) × (crossed ≡ false)
IsPopped Crossed group crossed = (group ≡ None) × (crossed ≡ true)
