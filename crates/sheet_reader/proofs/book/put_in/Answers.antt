use Rattle.std.proofs.Common.{sym, ◌∙◌}
use Rattle.sheet_reader.proofs.BookLemmas.{missing}
use Rattle.sheet_reader.proofs.book.put_in.Goals as goal

pub unreachable-requires : goal.unreachable-requires
unreachable-requires c = missing _ (sym c.in-Ok-None.ensures.old ∙ c.in-Ok-None.field-0-is) c.requires.there

pub unreachable-requires-in-Err : goal.unreachable-requires-in-Err
unreachable-requires-in-Err c = missing _ c.in-Err.ensures.absent c.requires.there

pub returns : goal.returns
returns c = record {
  old = sym c.in-Ok-Some.ensures.old ∙ c.in-Ok-Some.field-0-is;
  entries = c.in-Ok-Some.ensures.entries;
}
