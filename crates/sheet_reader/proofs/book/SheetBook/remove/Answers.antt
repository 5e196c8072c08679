use Rattle.std.proofs.Common.{ap, sym, subst, ◌∙◌}
use Rattle.sheet_reader.specs.Books.{entry_of, entries_in, removed, AreEntries}
use Rattle.sheet_reader.proofs.BookLemmas.{Entries, found, removed_in, removed_are}
use Rattle.sheet_reader.proofs.book.SheetBook.remove.Goals as goal

pub invariant_of-self : goal.invariant_of-self
invariant_of-self c = subst AreEntries (sym c.take_out.ensures.others)
    (removed_are c.args.id c.self.inside.entries.entries c.self.invariant)

pub returns-clause-entry : goal.returns-clause-entry
returns-clause-entry c = c.take_out.ensures.value ∙ found c.args.id c.self.inside.entries.entries c.self.invariant ∙ ap
    (entry_of c.args.id) c.self.view_is

pub returns-clause-others : goal.returns-clause-others
returns-clause-others c =
    ap (λ (es : Entries). entries_in es) c.take_out.ensures.others
    ∙ removed_in c.args.id c.self.inside.entries.entries c.self.invariant
    ∙ ap (removed c.args.id) c.self.view_is
