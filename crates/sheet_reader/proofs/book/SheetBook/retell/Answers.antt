use Rattle.std.proofs.Common.{List, sym, ap, subst, ◌∙◌}
use Rattle.std.specs.Prelude.{IsSomeAnd}
use Rattle.sheet_reader.specs.declared.book.SheetEntry.{SheetEntry}
use Rattle.sheet_reader.specs.Books.{entry_of, book_changed}
use Rattle.sheet_reader.specs.Rereads.{CanRetell, retold}
use Rattle.sheet_reader.proofs.BookLemmas.{known_there, put_found, put_twice, asked_of, if_found}
use Rattle.sheet_reader.proofs.book.SheetBook.retell.Goals as goal

pub put_in-old-requires : goal.put_in-old-requires
put_in-old-requires c =
    let there = subst (λ (xs : List SheetEntry). IsSomeAnd (entry_of c.args.id xs) (CanRetell c.args.text c.args.plan)) (sym c.self.view_is)
    c.requires.there in
    record { there = known_there (CanRetell c.args.text c.args.plan) c.args.id c.self.inside.entries.entries c.self.invariant there }

pub retold-requires-clause-can : goal.retold-requires-clause-can
retold-requires-clause-can c =
    let own = asked_of c.args.text c.args.plan c.args.id c.self.inside.entries.entries c.args.self.now c.put_in-old.result c.self.invariant
    c.self.view_is c.requires.there c.put_in-old.ensures.old in
    own.0

pub retold-requires-clause-old : goal.retold-requires-clause-old
retold-requires-clause-old c =
    let own = asked_of c.args.text c.args.plan c.args.id c.self.inside.entries.entries c.args.self.now c.put_in-old.result c.self.invariant
    c.self.view_is c.requires.there c.put_in-old.ensures.old in
    own.1

pub put_in-old-requires-2 : goal.put_in-old-requires-2
put_in-old-requires-2 c =
    record {
      there = put_found c.args.id c.no_entry.result c.self.inside.entries.entries c.put_in-old.new.entries.entries
          c.put_in-old.ensures.entries;
    }

pub invariant_of-self : goal.invariant_of-self
invariant_of-self c =
    let own = put_twice c.args.text c.args.plan c.args.id c.self.inside.entries.entries c.put_in-old.new.entries.entries
    c.put_in-old-2.new.entries.entries c.no_entry.result c.put_in-old.result c.retold.result c.self.invariant
    (subst (λ (xs : List SheetEntry). IsSomeAnd (entry_of c.args.id xs) (CanRetell c.args.text c.args.plan)) (sym c.self.view_is)
    c.requires.there)
    c.put_in-old.ensures.old c.put_in-old.ensures.entries c.put_in-old-2.ensures.entries c.retold.ensures.entry c.retold.ensures.stored in
    own.0

pub returns : goal.returns
returns c =
    let own = put_twice c.args.text c.args.plan c.args.id c.self.inside.entries.entries c.put_in-old.new.entries.entries
    c.put_in-old-2.new.entries.entries c.no_entry.result c.put_in-old.result c.retold.result c.self.invariant
    (subst (λ (xs : List SheetEntry). IsSomeAnd (entry_of c.args.id xs) (CanRetell c.args.text c.args.plan)) (sym c.self.view_is)
    c.requires.there)
    c.put_in-old.ensures.old c.put_in-old.ensures.entries c.put_in-old-2.ensures.entries c.retold.ensures.entry c.retold.ensures.stored in
    record {
      changed = if_found _ (entry_of c.args.id c.args.self.now) c.put_in-old.result
          (ap (entry_of c.args.id) (sym c.self.view_is) ∙ own.1)
          (own.2 ∙ ap (book_changed (retold c.args.text c.put_in-old.result)) c.self.view_is);
    }
