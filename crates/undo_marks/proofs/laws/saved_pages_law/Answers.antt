use Rattle.undo_marks.proofs.PageLemmas.{saved_pages}
use Rattle.undo_marks.proofs.laws.saved_pages_law.Goals as goal

pub returns : goal.returns
returns c = saved_pages
