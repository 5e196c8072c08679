use Rattle.dom_agent.proofs.EditLemmas.{edit_keeps_session, edit_draws_one}
use Rattle.dom_agent.proofs.EditMoves.{edits_are_moves}
use Rattle.dom_agent.proofs.EditKeepers.{edit_keeps_bound, same_edit_moves}
use Rattle.dom_agent.proofs.laws.edit_law.Goals as goal

pub returns-clause-session : goal.returns-clause-session
returns-clause-session c = edit_keeps_session

pub returns-clause-stands : goal.returns-clause-stands
returns-clause-stands c = edit_keeps_bound

pub returns-clause-same : goal.returns-clause-same
returns-clause-same c = same_edit_moves

pub returns-clause-moves : goal.returns-clause-moves
returns-clause-moves c = edits_are_moves

pub returns-clause-few : goal.returns-clause-few
returns-clause-few c = edit_draws_one
