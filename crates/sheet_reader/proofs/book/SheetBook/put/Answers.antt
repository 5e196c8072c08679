use Rattle.std.proofs.Common.{List, ◌++◌, ◌∷◌, [], ap, sym, subst, ◌∙◌}
use Rattle.sheet_reader.specs.declared.book.SheetEntry.{SheetEntry}
use Rattle.sheet_reader.specs.Books.{entry_of, entries_in, AreEntries}
use Rattle.sheet_reader.proofs.BookLemmas.{stored, Entries, inserted_are, inserted_last}
use Rattle.sheet_reader.proofs.book.SheetBook.put.Goals as goal

pub invariant_of-self : goal.invariant_of-self
invariant_of-self c = subst AreEntries (sym c.in-Ok.ensures.entries)
    (inserted_are c.args.entry c.self.inside.entries.entries
    (stored c.args.entry c.as_str-text.result.now c.requires.entry c.as_str-text.ensures c.as_str-text.utf8) c.self.invariant)

pub returns-in-Ok-clause-last : goal.returns-in-Ok-clause-last
returns-in-Ok-clause-last c =
    ap (λ (es : Entries). entries_in es) c.in-Ok.ensures.entries
    ∙ inserted_last c.args.entry c.self.inside.entries.entries c.self.invariant
    (ap (entry_of c.args.entry.id) c.self.view_is ∙ c.requires.new)
    ∙ ap (λ (xs : List SheetEntry). xs ++ c.args.entry ∷ []) c.self.view_is
