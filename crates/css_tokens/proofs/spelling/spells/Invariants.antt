use Rattle.std.proofs.Common.{◌<◌, All, length}
use Rattle.css_tokens.proofs.SpellForms.{AsEqual}
use Rattle.css_tokens.proofs.spelling.spells.Given as goal

abbrev pub invariant-name : goal.invariant-name
invariant-name l = record {
  same : AsEqual l.fn.name l.fn.word l.rest l.left;
  low : All (λ c. c < 123) l.left;
}

abbrev pub decreases-name : goal.decreases-name
decreases-name l = length l.rest
