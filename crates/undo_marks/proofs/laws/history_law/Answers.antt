use Rattle.undo_marks.specs.Laws.{Passes}
use Rattle.undo_marks.proofs.HistoryLemmas.{keeps_on, kept_grow}
use Rattle.undo_marks.proofs.laws.history_law.Goals as goal

pub returns : goal.returns
returns c = record {
  keeps_on = λ after back takes laws. keeps_on after back (Passes takes) laws;
  grows_on = λ after back takes more wider. record { kept_on = kept_grow after back (Passes takes) (Passes more) wider };
}
