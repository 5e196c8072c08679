use Rattle.std.proofs.Common.{sym}
use Rattle.style_edits.proofs.BookForms.{entry_again}
use Rattle.style_edits.proofs.edits.client_sheet.Goals as goal

pub returns-in-Regular-clause-there : goal.returns-in-Regular-clause-there
returns-in-Regular-clause-there c = entry_again c.args.id c.args.book.now c.in-Some.entry.now (sym c.in-Some.ensures.found)
