-- Style rules and `style` attributes, as messages tell them.
use Rattle.std.specs.Prelude.{ℕ, List, map, Option, Some, None}
use Rattle.css_objects.specs.declared.ranges.SourceRange.{SourceRange}
use Rattle.css_objects.specs.declared.selectors.Weight.{Weight}
use Rattle.css_objects.specs.declared.selectors.SelectorValue.{SelectorValue}
use Rattle.css_objects.specs.declared.selectors.RuleSelectors.{RuleSelectors}
use Rattle.css_objects.specs.declared.styles.StyleProperty.{StyleProperty}
use Rattle.css_objects.specs.declared.styles.Style.{Style}
use Rattle.css_objects.specs.declared.rules.Rule.{Rule}
use Rattle.selectors.specs.declared.weight.Spec.{Spec}
use Rattle.selectors.specs.Forms.{SelectorForm}
use Rattle.selectors.specs.Weight.{specificity_of}
use Rattle.sheet_reader.specs.declared.book.SheetEntry.{SheetEntry}
use Rattle.sheet_reader.specs.declared.sheet.Property.{Property}
use Rattle.sheet_reader.specs.Forms.{RuleForm}
use Rattle.sheet_reader.specs.Declarations.{style_of}
use Rattle.css_agent.specs.Texts.{source_range, told_part}
use Rattle.css_agent.specs.MediaAround.{told_around}

-- ---- declarations

-- a declaration of a text: its name, the text of its value, the text of the whole, and its range where that is told
abbrev pub property_with : Option SourceRange → List ℕ → Property → StyleProperty
property_with range text p = record {
  name = p.name;
  value = told_part text p.value;
  important = p.important;
  text = told_part text p.whole;
  range = range;
}

-- a declaration of a sheet as messages tell it
abbrev pub sheet_property : List ℕ → Property → StyleProperty
sheet_property text p = property_with (Some (source_range text p.whole)) text p

-- a declaration of a `style` attribute as messages tell it, without a range
abbrev pub inline_property : List ℕ → Property → StyleProperty
inline_property text p = property_with None text p

-- the style that a `style` attribute with this value gives: its text is read as a body, and is no part of a sheet
abbrev pub inline_style : List ℕ → Style
inline_style text = record { properties = map (inline_property text) (style_of text); text = text; range = None; sheet = None }

-- the style of a rule of the sheet with that number and text
abbrev pub rule_style : ℕ → List ℕ → RuleForm → Style
rule_style sheet text r = record {
  properties = map (sheet_property text) r.properties;
  text = told_part text r.body;
  range = Some (source_range text r.body);
  sheet = Some sheet;
}

-- ---- selectors

-- how specific a selector is
abbrev pub told_weight : Spec → Weight
told_weight s = record { a = s.a; b = s.b; c = s.c }

-- one selector of a rule
abbrev pub told_selector : List ℕ → SelectorForm → SelectorValue
told_selector text s = record { range = source_range text s.range; weight = told_weight (specificity_of s); text = told_part text s.range }

-- the selectors of a rule, and the text of its prelude
abbrev pub told_prelude : List ℕ → RuleForm → RuleSelectors
told_prelude text r = record { selectors = map (told_selector text) r.selectors; text = told_part text r.prelude }

-- ---- rules

-- a style rule of a sheet
abbrev pub told_rule : SheetEntry → RuleForm → Rule
told_rule e r = record {
  origin = e.origin;
  selectors = told_prelude e.text r;
  style = rule_style e.id e.text r;
  sheet = e.id;
  media = told_around e.id e.text r.media;
}
