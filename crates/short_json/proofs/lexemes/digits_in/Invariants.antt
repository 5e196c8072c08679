use Rattle.std.proofs.Common.{◌≡◌, ◌-◌, ◌<◌, ◌≤◌, length, take, decimal}
use Rattle.short_json.proofs.lexemes.digits_in.Given as goal

abbrev pub invariant-loop-at : goal.invariant-loop-at
invariant-loop-at l = record {
  within : l.at ≤ length l.bytes;
  none : l.at ≡ 0 → l.whole ≡ 0;
  some : 0 < l.at → take l.at l.bytes ≡ decimal l.whole;
}

abbrev pub decreases-loop-at : goal.decreases-loop-at
decreases-loop-at l = length l.bytes - l.at
