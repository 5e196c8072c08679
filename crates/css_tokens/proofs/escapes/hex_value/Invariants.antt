use Rattle.std.proofs.Common.{◌≡◌, ◌+◌, ◌*◌, ◌^◌, ◌≤◌, take}
use Rattle.css_tokens.specs.Escapes.{hex_value}
use Rattle.css_tokens.proofs.escapes.hex_value.Given as goal

abbrev pub invariant-loop-digit : goal.invariant-loop-digit
invariant-loop-digit l = record {
  so_far : l.value ≡ hex_value (take l.digit-index l.digits);
  small : 15 * l.value + 36 ≤ 36 * 16 ^ l.digit-index;
}
