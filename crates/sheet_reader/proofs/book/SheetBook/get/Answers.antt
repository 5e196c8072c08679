use Rattle.std.proofs.Common.{ap, ◌∙◌}
use Rattle.sheet_reader.specs.Books.{entry_of}
use Rattle.sheet_reader.proofs.BookLemmas.{found, read_copied}
use Rattle.sheet_reader.proofs.book.SheetBook.get.Goals as goal

pub returns-clause-found : goal.returns-clause-found
returns-clause-found c = c.get.ensures.value ∙ found c.args.id c.self.inside.entries.entries c.self.invariant ∙ ap
    (entry_of c.args.id) c.self.view_is

pub returns-clause-read : goal.returns-clause-read
returns-clause-read c = read_copied c.args.id c.self.inside.entries.entries c.get.result c.self.invariant
    (c.get.ensures.value ∙ found c.args.id c.self.inside.entries.entries c.self.invariant)
