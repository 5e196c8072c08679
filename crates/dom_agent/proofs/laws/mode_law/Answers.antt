use Rattle.dom_agent.proofs.ModeLemmas.{shown_edit_keeps_session, shown_edit_keeps_bound, same_shown_moves, shown_edits_are_moves}
use Rattle.dom_agent.proofs.ModeLemmas.{shown_edit_draws_one, shown_can_be_told}
use Rattle.dom_agent.proofs.KeptMode.{shown_edit_keeps_mode}
use Rattle.dom_agent.proofs.ModeQueries.{finds_shown}
use Rattle.dom_agent.proofs.laws.mode_law.Goals as goal

pub returns : goal.returns
returns c = record {
  session = shown_edit_keeps_session;
  stands = shown_edit_keeps_bound;
  same = same_shown_moves;
  moves = shown_edits_are_moves;
  few = shown_edit_draws_one;
  mode = shown_edit_keeps_mode;
  tells = shown_can_be_told;
  finds = finds_shown;
}
