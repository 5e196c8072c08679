use Rattle.pair_world.proofs.SendLemmas.{asks-may-be-sent, session-asks-may-be-sent, bare-frames-may-be-sent, targets-may-be-sent}
use Rattle.pair_world.proofs.laws.sending_law.Goals as goal

pub returns : goal.returns
returns c = record {
  asks = asks-may-be-sent;
  session_asks = session-asks-may-be-sent;
  bare_frames = bare-frames-may-be-sent;
  targets = targets-may-be-sent;
}
