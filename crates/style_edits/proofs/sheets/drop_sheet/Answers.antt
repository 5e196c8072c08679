use Rattle.std.proofs.Common.{sym, ◌∙◌}
use Rattle.style_edits.proofs.BookForms.{removed_none}
use Rattle.style_edits.proofs.sheets.drop_sheet.Goals as goal

pub returns-in-None-clause-unchanged : goal.returns-in-None-clause-unchanged
returns-in-None-clause-unchanged c = c.remove.ensures.others ∙ removed_none c.args.id c.args.book.now (sym c.in-None.ensures.entry)
