use Rattle.dom_agent.proofs.ShowsLemmas.{request_tells}
use Rattle.dom_agent.proofs.EventOutcomes.{asks_show_new, request_tells_in_order, path_tells, serials_tell, first_found_tells, found_tell}
use Rattle.dom_agent.proofs.OutcomeLemmas.{stays_session, draws_few}
use Rattle.dom_agent.proofs.KeeperLemmas.{stays_bound, same_moves}
use Rattle.dom_agent.proofs.MoveLemmas.{steps_are_moves, replies_answer}
use Rattle.dom_agent.proofs.SetsLemmas.{document_opens, request_opens, request_pushes, path_opens, path_pushes, serials_open}
use Rattle.dom_agent.proofs.SetsLemmas.{first_found_opens, found_open}
use Rattle.dom_agent.proofs.KeptMode.{command_keeps_mode, push_keeps_mode}
use Rattle.dom_agent.proofs.laws.serve_law.Goals as goal

pub returns : goal.returns
returns c = record {
  session = stays_session;
  stands = stays_bound;
  same = same_moves;
  mode = command_keeps_mode;
  push_mode = push_keeps_mode;
  few = draws_few;
  moves = steps_are_moves;
  document_opens = document_opens;
  request_opens = request_opens;
  request_pushes = request_pushes;
  request_tells = request_tells;
  request_in_order = request_tells_in_order;
  path_opens = path_opens;
  path_pushes = path_pushes;
  serials_open = serials_open;
  first_found_opens = first_found_opens;
  found_open = found_open;
  show_new = asks_show_new;
  path_tells = path_tells;
  serials_tell = serials_tell;
  first_found_tells = first_found_tells;
  found_tell = found_tell;
  replies = replies_answer;
}
