-- Without one that is there, one fewer is left.
use Rattle.std.proofs.Common.{ap}
use Rattle.back_end.specs.Sheets.{NumberedBook}
use Rattle.back_end.proofs.SheetLemmas.{rest-else}
use Rattle.back_end.proofs.sheets.PageSheets.is_full_without.Goals as goal

pub returns-else-is_too_long : goal.returns-else-is_too_long
returns-else-is_too_long c =
    rest-else c.args.text.now c.args.self.now.entries c.self.inside.book c.args.number c.len.result c.is_too_long.result c.requires.there
    (ap (λ (b : NumberedBook). b.entries) c.self.view_is) c.len.ensures c.is_too_long.ensures c.if-is_too_long.false
