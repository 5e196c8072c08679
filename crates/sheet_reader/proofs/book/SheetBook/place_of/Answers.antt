use Rattle.std.proofs.Common.{All, List, ℕ, nat_eq, ap, subst, ◌∙◌}
use Rattle.std.specs.Prelude.{position}
use Rattle.std.specs.List.{IsDistinct}
use Rattle.sheet_reader.specs.Books.{entry_place, AreApart, IsStored}
use Rattle.sheet_reader.proofs.BookLemmas.{keys_are, all_stored}
use Rattle.sheet_reader.proofs.book.SheetBook.place_of.Goals as goal

pub returns-clause-place : goal.returns-clause-place
returns-clause-place c =
    c.get_index_of.ensures.index
    ∙ ap (λ (ks : List ℕ). position (nat_eq c.args.id) ks) (keys_are c.self.inside.entries.entries c.self.invariant)
    ∙ ap (entry_place c.args.id) c.self.view_is

pub returns-clause-apart : goal.returns-clause-apart
returns-clause-apart c =
    subst AreApart c.self.view_is (subst (IsDistinct nat_eq)
    (keys_are c.self.inside.entries.entries c.self.invariant) c.get_index_of.ensures.unique)

pub returns-clause-each : goal.returns-clause-each
returns-clause-each c = subst (All IsStored) c.self.view_is (all_stored c.self.inside.entries.entries c.self.invariant)
