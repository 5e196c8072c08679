use Rattle.std.proofs.Common.{None}
use Rattle.css_tokens.specs.Pieces.{pieces}
use Rattle.sheet_reader.proofs.GrammarForms.{parts_spelled, parts_only}
use Rattle.sheet_reader.proofs.LayoutForms.{laid_spelled, laid_only}
use Rattle.sheet_reader.specs.declared.parts.Level.TheVariants.{Inner}
use Rattle.sheet_reader.proofs.OpenForms.{inside_shut}
use Rattle.sheet_reader.proofs.ItemForms.{items_spelled, items_only}
use Rattle.sheet_reader.proofs.laws.grammar_law.Goals as goal

pub returns : goal.returns
returns c = record {
  parts = parts_spelled;
  parts_only = parts_only;
  laid = λ text. laid_spelled text None 0 (pieces text);
  laid_only = λ text ls is. laid_only text None 0 (pieces text) ls is;
  shut = λ first close inside rest is. inside_shut Inner first close inside rest is;
  items = items_spelled;
  items_only = items_only;
}
