-- The selectors of a rule, as JSON.
use Rattle.std.specs.Prelude.{ℕ, List, codes, ⊤}
use Rattle.cdp_json.specs.Kinds.{Kind, whole, text, list_of}
use Rattle.cdp_json.specs.Rows.{Row, ends, and_need, object_of}
use Rattle.css_objects.specs.declared.ranges.SourceRange.{SourceRange}
use Rattle.css_objects.specs.declared.selectors.Weight.{Weight}
use Rattle.css_objects.specs.declared.selectors.SelectorValue.{SelectorValue}
use Rattle.css_objects.specs.declared.selectors.RuleSelectors.{RuleSelectors}
use Rattle.css_objects.specs.Made.{by_fields}
use Rattle.css_objects.specs.Ranges.{range_kind}

-- ---- how specific a selector is (Selectors 4, section 17)

-- the fields of a weight, in the order of their names
abbrev pub WeightFields : Type 0
WeightFields = ℕ × (ℕ × (ℕ × ⊤))

-- the fields of `CSS.Specificity`
abbrev pub weight_row : Row WeightFields
weight_row = and_need (codes "a") whole (and_need (codes "b") whole (and_need (codes "c") whole ends))

-- a weight as its fields
abbrev pub weight_fields : Weight → WeightFields
weight_fields w = (w.a, (w.b, (w.c, tt)))

-- the weight of these fields
abbrev pub weight_from : WeightFields → Weight
weight_from f = record { a = f.0; b = f.1.0; c = f.1.1.0 }

-- `CSS.Specificity`
abbrev pub weight_kind : Kind Weight
weight_kind = by_fields (object_of weight_row) weight_fields weight_from

-- ---- one selector of a list

-- the fields of a selector, in the order of their names
abbrev pub SelectorFields : Type 0
SelectorFields = SourceRange × (Weight × (List ℕ × ⊤))

-- the fields of `CSS.Value`
abbrev pub selector_row : Row SelectorFields
selector_row = and_need (codes "range") range_kind (and_need (codes "specificity") weight_kind (and_need (codes "text") text ends))

-- a selector as its fields
abbrev pub selector_fields : SelectorValue → SelectorFields
selector_fields v = (v.range, (v.weight, (v.text, tt)))

-- the selector of these fields
abbrev pub selector_from : SelectorFields → SelectorValue
selector_from f = record { range = f.0; weight = f.1.0; text = f.1.1.0 }

-- `CSS.Value`
abbrev pub selector_kind : Kind SelectorValue
selector_kind = by_fields (object_of selector_row) selector_fields selector_from

-- ---- the list

-- the fields of a list of selectors, in the order of their names
abbrev pub SelectorsFields : Type 0
SelectorsFields = List SelectorValue × (List ℕ × ⊤)

-- the fields of `CSS.SelectorList`
abbrev pub selectors_row : Row SelectorsFields
selectors_row = and_need (codes "selectors") (list_of selector_kind) (and_need (codes "text") text ends)

-- a list of selectors as its fields
abbrev pub selectors_fields : RuleSelectors → SelectorsFields
selectors_fields s = (s.selectors, (s.text, tt))

-- the list of these fields
abbrev pub selectors_from : SelectorsFields → RuleSelectors
selectors_from f = record { selectors = f.0; text = f.1.0 }

-- `CSS.SelectorList`
abbrev pub selectors_kind : Kind RuleSelectors
selectors_kind = by_fields (object_of selectors_row) selectors_fields selectors_from
