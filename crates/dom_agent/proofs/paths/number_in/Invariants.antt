use Rattle.std.proofs.Common.{◌≡◌, ◌<◌, ◌^◌, drop}
use Rattle.dom_agent.specs.Paths.{number_from, number_in}
use Rattle.dom_agent.proofs.paths.number_in.Given as goal

abbrev pub invariant-loop-digit : goal.invariant-loop-digit
invariant-loop-digit l = record {
  same : number_from l.number (drop l.digit-index l.digits) ≡ number_in l.digits;
  small : l.number < 10 ^ l.digit-index;
}
