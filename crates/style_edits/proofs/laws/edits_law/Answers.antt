use Rattle.style_edits.proofs.FoundForms.{style_found, selector_found, text_found, rule_found, media_splice_found, styles_back}
use Rattle.style_edits.proofs.laws.edits_law.Goals as goal

pub returns : goal.returns
returns c = record {
  style = λ x utf8 book s all h. style_found x book s all utf8 h;
  selector = λ id lines text utf8 book s all h. selector_found id lines text book s all utf8 h;
  text = λ id text utf8 book s all h. text_found id text book s all utf8 h;
  rule = λ id lines text utf8 book s all h. rule_found id lines text book s all utf8 h;
  media = λ id lines text utf8 book s all h. media_splice_found id lines text book s all utf8 h;
  lead_back = λ xs texts book new backs all h. styles_back xs book new backs all texts h;
}
