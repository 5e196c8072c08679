use Rattle.std.proofs.Common.{sym, refl}
use Rattle.select_match.proofs.TextLemmas.{no_word}
use Rattle.select_match.proofs.LawLemmas.{no-spaced_word}
use Rattle.select_match.proofs.laws.operand_law.Goals as goal

pub returns : goal.returns
returns c = record {
  word = λ value. sym (no_word _ value refl);
  spaced = no-spaced_word;
  prefix = λ value. refl;
  suffix = λ value. refl;
  part = λ value. refl;
}
