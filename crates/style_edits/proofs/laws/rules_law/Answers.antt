use Rattle.style_edits.proofs.MadeRules.{style_made, styles_made}
use Rattle.style_edits.proofs.AddedRules.{rule_made}
use Rattle.style_edits.proofs.NewPreludes.{prelude_made}
use Rattle.style_edits.proofs.MadeMedia.{media_made}
use Rattle.style_edits.proofs.laws.rules_law.Goals as goal

pub returns : goal.returns
returns c = record {
  style = λ x utf8 book s all h. style_made x utf8 book s all h;
  selector = λ id lines text utf8 book s all h. prelude_made id lines text utf8 book s all h;
  rule = λ id lines text utf8 book s all h. rule_made id lines text utf8 book s all h;
  media = λ id lines text utf8 book s all h. media_made id lines text utf8 book s all h;
  styles = λ xs texts book new backs all h. styles_made xs book new backs all texts h;
}
