use Rattle.sheet_laws.proofs.ImportantCuts.{important_behind}
use Rattle.sheet_laws.proofs.DeclarationCuts.{declaration_reads, declaration_spelled, value_empty}
use Rattle.sheet_laws.proofs.BodyCuts.{body_spelled, body_only, style_spelled, style_only}
use Rattle.sheet_laws.proofs.laws.declaration_law.Goals as goal

pub returns : goal.returns
returns c = record {
  read = declaration_reads;
  declared = declaration_spelled;
  body = body_spelled;
  body_only = body_only;
  style = style_spelled;
  style_only = style_only;
  important = important_behind;
  empty = value_empty;
}
