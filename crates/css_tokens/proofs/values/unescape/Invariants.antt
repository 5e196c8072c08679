use Rattle.std.proofs.Common.{◌≡◌, ◌++◌, length}
use Rattle.std.specs.String.{string_bytes}
use denote.Shadow.{shadow}
use denote.Text.{Utf8}
use Rattle.css_tokens.specs.Escapes.{unescaped}
use Rattle.css_tokens.proofs.values.unescape.Given as goal

abbrev pub invariant-loop-rest : goal.invariant-loop-rest
invariant-loop-rest l = shadow (Utf8 l.rest) × (string_bytes l.out ++ unescaped l.rest ≡ unescaped l.piece)

abbrev pub decreases-loop-rest : goal.decreases-loop-rest
decreases-loop-rest l = length l.rest
