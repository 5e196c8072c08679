use Rattle.std.proofs.Common.{List, ap, sym, subst, ◌∙◌}
use Rattle.std.specs.Prelude.{IsSome}
use Rattle.sheet_reader.specs.declared.book.SheetEntry.{SheetEntry}
use Rattle.sheet_reader.specs.Books.{entry_of, entries_in, book_changed, AreEntries}
use Rattle.sheet_reader.proofs.BookLemmas.{stored, Entries, found, missing, inserted_are, inserted_changed}
use Rattle.sheet_reader.proofs.book.SheetBook.change.Goals as goal

pub invariant_of-self : goal.invariant_of-self
invariant_of-self c = subst AreEntries (sym c.in-Ok-Some.ensures.entries)
    (inserted_are c.args.entry c.self.inside.entries.entries
    (stored c.args.entry c.as_str-text.result.now c.requires.entry c.as_str-text.ensures c.as_str-text.utf8) c.self.invariant)

pub returns-clause-old : goal.returns-clause-old
returns-clause-old c =
    ap (entry_of c.args.entry.id) (sym c.self.view_is) ∙ sym
    (found c.args.entry.id c.self.inside.entries.entries c.self.invariant) ∙ sym c.in-Ok-Some.ensures.old ∙ c.in-Ok-Some.field-0-is

pub returns-clause-changed : goal.returns-clause-changed
returns-clause-changed c =
    ap (λ (es : Entries). entries_in es) c.in-Ok-Some.ensures.entries
    ∙ inserted_changed c.args.entry c.self.inside.entries.entries c.self.invariant
    (subst (λ (xs : List SheetEntry). IsSome (entry_of c.args.entry.id xs)) (sym c.self.view_is) c.requires.there)
    ∙ ap (book_changed c.args.entry) c.self.view_is

pub unreachable-requires : goal.unreachable-requires
unreachable-requires c =
    missing (entry_of c.args.entry.id c.args.self.now)
    (ap (entry_of c.args.entry.id) (sym c.self.view_is) ∙ sym
    (found c.args.entry.id c.self.inside.entries.entries c.self.invariant) ∙ sym c.in-Ok-None.ensures.old ∙ c.in-Ok-None.field-0-is)
    c.requires.there

pub unreachable-requires-in-Err : goal.unreachable-requires-in-Err
unreachable-requires-in-Err c =
    missing (entry_of c.args.entry.id c.args.self.now)
    (ap (entry_of c.args.entry.id) (sym c.self.view_is) ∙ sym
    (found c.args.entry.id c.self.inside.entries.entries c.self.invariant) ∙ c.in-Err.ensures.absent)
    c.requires.there
