use Rattle.std.proofs.Common.{◌≡◌, ◌+◌, ◌-◌, ◌≤◌, length, drop}
use Rattle.css_tokens.specs.Runs.{run}
use Rattle.css_tokens.specs.Units.{unit_of}
use Rattle.css_tokens.proofs.runs.run_len.Given as goal

abbrev pub invariant-loop-kind : goal.invariant-loop-kind
invariant-loop-kind l = record {
  within : l.at ≤ length l.text;
  rest : l.at + run (unit_of l.kind) (drop l.at l.text) ≡ run (unit_of l.kind) l.text;
}

abbrev pub decreases-loop-kind : goal.decreases-loop-kind
decreases-loop-kind l = length l.text - l.at
