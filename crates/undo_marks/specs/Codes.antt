-- How lists of edits are told apart.
use Rattle.std.specs.Coded.{Coded, coded_list}
use Rattle.undo_marks.specs.declared.inverse_lists.Inverse.{Inverse}
use Rattle.undo_marks.specs.contracts.inverse_lists.Inverse as inverse
use Rattle.std.specs.Prelude.{List}

-- how inverses are told apart
abbrev pub coded_inverse : Coded Inverse
coded_inverse = inverse.the_row.coded

-- how lists of inverses are told apart
abbrev pub coded_inverses : Coded (List Inverse)
coded_inverses = coded_list coded_inverse
