-- Rules, and rules that match an element, as JSON.
use Rattle.std.specs.Prelude.{ℕ, List, [], ◌∷◌, codes, Bool, true, ◌&&◌, nat_lt, Option, ⊤}
use Rattle.cdp_json.specs.Kinds.{Kind, whole, refined, list_of}
use Rattle.cdp_json.specs.Rows.{Row, ends, and_need, and_may, object_of}
use Rattle.css_objects.specs.declared.media.Media.{Media}
use Rattle.node_tree.specs.declared.origins.Origin.{Origin}
use Rattle.css_objects.specs.declared.selectors.RuleSelectors.{RuleSelectors}
use Rattle.css_objects.specs.declared.styles.Style.{Style}
use Rattle.css_objects.specs.declared.rules.Rule.{Rule}
use Rattle.css_objects.specs.declared.rules.RuleMatch.{RuleMatch}
use Rattle.css_objects.specs.declared.rules.Inherited.{Inherited}
use Rattle.css_objects.specs.declared.rules.Matched.{Matched}
use Rattle.css_objects.specs.Made.{by_fields}
use Rattle.css_objects.specs.Media.{some_media_kind, written_media, media_written}
use Rattle.css_objects.specs.Sheets.{origin_kind, sheet_kind}
use Rattle.css_objects.specs.Selectors.{selectors_kind}
use Rattle.css_objects.specs.Styles.{inline_kind, rule_style_kind}

-- ---- a rule

-- the fields of a rule, in the order of their names
abbrev pub RuleFields : Type 0
RuleFields = Option (List Media) × (Origin × (RuleSelectors × (Style × (ℕ × ⊤))))

-- the fields of `CSS.CSSRule`; `media` is there exactly where a media rule is around the rule
abbrev pub rule_row : Row RuleFields
rule_row =
    and_may (codes "media") some_media_kind
    (and_need (codes "origin") origin_kind
    (and_need (codes "selectorList") selectors_kind
    (and_need (codes "style") rule_style_kind
    (and_need (codes "styleSheetId") sheet_kind ends))))

-- a rule as its fields
abbrev pub rule_fields : Rule → RuleFields
rule_fields r = (written_media r.media, (r.origin, (r.selectors, (r.style, (r.sheet, tt)))))

-- the rule of these fields
abbrev pub rule_from : RuleFields → Rule
rule_from f = record {
  origin = f.1.0;
  selectors = f.1.1.0;
  style = f.1.1.1.0;
  sheet = f.1.1.1.1.0;
  media = media_written f.0;
}

-- `CSS.CSSRule`
abbrev pub rule_kind : Kind Rule
rule_kind = by_fields (object_of rule_row) rule_fields rule_from

-- ---- a rule that matches

-- the first number, if any, is above n
abbrev pub starts_above : ℕ → List ℕ → Bool
starts_above n [] = true
starts_above n (m ∷ ms) = nat_lt n m

-- the numbers ascend, and so each stands once
abbrev pub ascend : List ℕ → Bool
ascend [] = true
ascend (n ∷ ns) = starts_above n ns && ascend ns

-- places of selectors in their list, from 0
abbrev pub places_kind : Kind (List ℕ)
places_kind = refined (list_of whole) ascend

-- the fields of a match, in the order of their names
abbrev pub MatchFields : Type 0
MatchFields = List ℕ × (Rule × ⊤)

-- the fields of `CSS.RuleMatch`
abbrev pub match_row : Row MatchFields
match_row = and_need (codes "matchingSelectors") places_kind (and_need (codes "rule") rule_kind ends)

-- a match as its fields
abbrev pub match_fields : RuleMatch → MatchFields
match_fields m = (m.matching, (m.rule, tt))

-- the match of these fields
abbrev pub match_from : MatchFields → RuleMatch
match_from f = record { matching = f.0; rule = f.1.0 }

-- `CSS.RuleMatch`
abbrev pub match_kind : Kind RuleMatch
match_kind = by_fields (object_of match_row) match_fields match_from

-- ---- what an element has, of its own and by its ancestors

-- the fields of an entry, in the order of their names
abbrev pub InheritedFields : Type 0
InheritedFields = Option Style × (List RuleMatch × ⊤)

-- the fields of `CSS.InheritedStyleEntry`
abbrev pub inherited_row : Row InheritedFields
inherited_row = and_may (codes "inlineStyle") inline_kind (and_need (codes "matchedCSSRules") (list_of match_kind) ends)

-- an entry as its fields
abbrev pub inherited_fields : Inherited → InheritedFields
inherited_fields i = (i.inline, (i.rules, tt))

-- the entry of these fields
abbrev pub inherited_from : InheritedFields → Inherited
inherited_from f = record { inline = f.0; rules = f.1.0 }

-- `CSS.InheritedStyleEntry`
abbrev pub inherited_kind : Kind Inherited
inherited_kind = by_fields (object_of inherited_row) inherited_fields inherited_from

-- the fields of matched styles, in the order of their names
abbrev pub MatchedFields : Type 0
MatchedFields = List Inherited × (Option Style × (List RuleMatch × ⊤))

-- the fields of the result of `CSS.getMatchedStylesForNode`
abbrev pub matched_row : Row MatchedFields
matched_row =
    and_need (codes "inherited") (list_of inherited_kind)
    (and_may (codes "inlineStyle") inline_kind
    (and_need (codes "matchedCSSRules") (list_of match_kind) ends))

-- matched styles as their fields
abbrev pub matched_fields : Matched → MatchedFields
matched_fields m = (m.inherited, (m.inline, (m.rules, tt)))

-- the matched styles of these fields
abbrev pub matched_from : MatchedFields → Matched
matched_from f = record { inherited = f.0; inline = f.1.0; rules = f.1.1.0 }

-- the result of `CSS.getMatchedStylesForNode`
abbrev pub matched_kind : Kind Matched
matched_kind = by_fields (object_of matched_row) matched_fields matched_from
