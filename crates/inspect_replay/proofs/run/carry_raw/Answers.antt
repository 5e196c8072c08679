-- The text that is sent is the line's.
use Rattle.std.proofs.Common.{rules}
use Rattle.inspect_replay.proofs.RunLemmas.{raw-spends}
use Rattle.inspect_replay.proofs.run.carry_raw.Goals as goal

pub returns : goal.returns
returns g c = record {
  honest = search rules;
  cause = search rules;
  follows = c.send_raw.ensures.follows;
  steps = raw-spends c.send_raw.result _ _ _ _ _ _ c.args.ends.now c.send_raw.new.self c.args.text c.as_str.result.now
      c.as_str.ensures c.send_raw.ensures.steps;
}
