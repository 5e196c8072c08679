-- Sheets as contracts see them: without where their parts lie in memory.
use Rattle.std.specs.Prelude.{ℕ, List, Option}
use Rattle.css_tokens.specs.declared.token.Range.{Range}
use Rattle.selectors.specs.Forms.{SelectorForm}
use Rattle.selectors.specs.Lists.{list_seen}
use Rattle.sheet_reader.specs.declared.sheet.Property.{Property}
use Rattle.sheet_reader.specs.declared.sheet.StyleRule.{StyleRule}

-- the range from start to end
abbrev pub range : ℕ → ℕ → Range
range start end = record { start = start; end = end }

-- a style rule: the ranges of its prelude and its body, its selectors, its declarations, and the place of the innermost media
-- rule around it
pub record RuleForm : Type 0 where
  pub prelude : Range
  pub selectors : List SelectorForm
  pub body : Range
  pub properties : List Property
  pub media : Option ℕ

-- a style rule as contracts see it
abbrev pub rule_seen : StyleRule → RuleForm
rule_seen r = record {
  prelude = r.prelude;
  selectors = list_seen r.selectors;
  body = r.body;
  properties = r.properties;
  media = r.media;
}
