use Rattle.pair_world.proofs.WayLemmas.{asks-are-the-roots, asks-are-the-sessions, targets-are-known, sessions-ask-the-same}
use Rattle.pair_world.proofs.WayLemmas.{roots-are-usual, sessions-are-usual, targets-are-usual, steps-are-routed, sessions-are-tagged}
use Rattle.pair_world.proofs.laws.frame_law.Goals as goal

pub returns : goal.returns
returns c = record {
  roots = asks-are-the-roots;
  sessions = asks-are-the-sessions;
  targets = targets-are-known;
  same = sessions-ask-the-same;
  usual_roots = roots-are-usual;
  usual_sessions = sessions-are-usual;
  usual_targets = targets-are-usual;
  steps = steps-are-routed;
  tags = sessions-are-tagged;
}
