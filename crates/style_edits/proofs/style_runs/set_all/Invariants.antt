-- What the edits so far left, and what is left of them; the sheet keeps its id, and can be edited.
use Rattle.std.proofs.Common.{◌≡◌, ◌++◌, drop, Ok}
use Rattle.sheet_reader.specs.Books.{book_changed}
use Rattle.style_edits.specs.Drafts.{with_backs}
use Rattle.style_edits.specs.Edits.{mutable, styles_edited}
use Rattle.style_edits.specs.EditedRules.{edited_rules}
use Rattle.style_edits.proofs.style_runs.set_all.Given as goal

abbrev pub invariant-loop-edit : goal.invariant-loop-edit
invariant-loop-edit l = record {
  id : l.opened.id ≡ l.fn.opened.id;
  client : mutable l.opened l.opened.origin ≡ Ok l.opened;
  so_far : with_backs l.backs.items (styles_edited (drop l.edit-index l.edits) (book_changed l.opened l.book))
      ≡ with_backs l.fn.backs.items (styles_edited l.edits (book_changed l.fn.opened l.book));
  rules : l.rules.items ++ edited_rules (drop l.edit-index l.edits) (book_changed l.opened l.book)
      ≡ l.fn.rules.items ++ edited_rules l.edits (book_changed l.fn.opened l.book);
}
