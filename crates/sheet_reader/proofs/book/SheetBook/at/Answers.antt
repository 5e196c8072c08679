use Rattle.std.proofs.Common.{length, List, ap, sym, ◌∙◌, arith}
use Rattle.std.specs.Prelude.{slice_get}
use Rattle.sheet_reader.specs.declared.book.SheetEntry.{SheetEntry}
use Rattle.sheet_reader.proofs.BookLemmas.{entries_get, entries_none, entries_at}
use Rattle.sheet_reader.proofs.book.SheetBook.at.Goals as goal

pub unreachable-requires : goal.unreachable-requires
unreachable-requires c =
    let past = entries_none c.self.inside.entries.entries c.args.i (sym c.in-None.ensures.entry) in
    let len = ap (λ (xs : List SheetEntry). length xs) c.self.view_is in
    absurd (omega (arith, past, len, c.requires))

pub returns-clause-at : goal.returns-clause-at
returns-clause-at c =
    ap (λ (xs : List SheetEntry). slice_get xs c.args.i) (sym c.self.view_is)
    ∙ entries_get c.self.inside.entries.entries c.args.i (c.in-Some._id.now, c.in-Some.entry.now) (sym c.in-Some.ensures.entry)

pub returns-clause-read : goal.returns-clause-read
returns-clause-read c =
    let own = entries_at c.self.inside.entries.entries c.args.i (c.in-Some._id.now, c.in-Some.entry.now) c.self.invariant
    (sym c.in-Some.ensures.entry) in
    own.entry
