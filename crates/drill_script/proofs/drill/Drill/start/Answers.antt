use Rattle.std.proofs.Common.{◌∷◌, ap}
use Rattle.replay_script.specs.Forms.{settle}
use Rattle.drill_script.specs.DrillLines.{asks_document, asks_styles, asks_watch, turns_from, drill_lines}
use Rattle.drill_script.proofs.drill.Drill.start.Goals as goal

pub returns-clause-lines : goal.returns-clause-lines
unfolding drill_lines
returns-clause-lines c =
    ap (λ x. asks_document ∷ asks_styles ∷ asks_watch ∷ settle ∷ turns_from c.args.divs 0 x) c.in_ok-page.ensures.at
