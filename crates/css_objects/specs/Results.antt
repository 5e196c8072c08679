-- The results of the methods of the CSS domain, as JSON; that of matched styles stands by itself.
use Rattle.std.specs.Prelude.{ℕ, List, codes}
use Rattle.cdp_json.specs.Kinds.{Kind, text, list_of}
use Rattle.css_objects.specs.declared.selectors.RuleSelectors.{RuleSelectors}
use Rattle.css_objects.specs.declared.styles.Style.{Style}
use Rattle.css_objects.specs.declared.rules.Rule.{Rule}
use Rattle.css_objects.specs.declared.media.Media.{Media}
use Rattle.css_objects.specs.Made.{only_field}
use Rattle.css_objects.specs.Media.{media_kind}
use Rattle.css_objects.specs.Selectors.{selectors_kind}
use Rattle.css_objects.specs.Styles.{rule_style_kind}
use Rattle.css_objects.specs.Rules.{rule_kind}

-- of `CSS.getStyleSheetText`
abbrev pub sheet_text_result : Kind (List ℕ)
sheet_text_result = only_field (codes "text") text

-- of `CSS.collectClassNames`
abbrev pub class_names_result : Kind (List (List ℕ))
class_names_result = only_field (codes "classNames") (list_of text)

-- of `CSS.setStyleTexts`
abbrev pub styles_result : Kind (List Style)
styles_result = only_field (codes "styles") (list_of rule_style_kind)

-- of `CSS.setRuleSelector`
abbrev pub selectors_result : Kind RuleSelectors
selectors_result = only_field (codes "selectorList") selectors_kind

-- of `CSS.addRule`
abbrev pub rule_result : Kind Rule
rule_result = only_field (codes "rule") rule_kind

-- of `CSS.setMediaText`
abbrev pub media_result : Kind Media
media_result = only_field (codes "media") media_kind
