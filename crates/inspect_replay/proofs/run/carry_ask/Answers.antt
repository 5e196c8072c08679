-- An ask that can be sent holds no number that is not whole.
use Rattle.replay_script.specs.Seen.{seen_ask}
use Rattle.inspect_replay.proofs.EndLemmas.{whole-plain}
use Rattle.inspect_replay.proofs.run.carry_ask.Goals as goal

pub ask-requires-clause-params : goal.ask-requires-clause-params
ask-requires-clause-params g c = whole-plain (seen_ask c.args.sent).params c.requires.params

pub ask-requires-clause-session : goal.ask-requires-clause-session
ask-requires-clause-session g c = whole-plain (seen_ask c.args.sent).session c.requires.session
