use Rattle.std.proofs.Common.{length, List, ap, sym, ◌∙◌}
use Rattle.sheet_reader.specs.declared.book.SheetEntry.{SheetEntry}
use Rattle.sheet_reader.proofs.BookLemmas.{entries_len}
use Rattle.sheet_reader.proofs.book.SheetBook.len.Goals as goal

pub returns : goal.returns
returns c = c.len.ensures.len ∙ sym (entries_len c.self.inside.entries.entries) ∙ ap (λ (xs : List SheetEntry). length xs) c.self.view_is
