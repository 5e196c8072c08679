-- Styles and their properties, as JSON.
use Rattle.std.specs.Prelude.{ℕ, List, codes, Bool, true, false, not, ◌&&◌, Option, None, option_and_then, is_some, ⊤}
use Rattle.std.specs.List.{list_all}
use Rattle.serde_json.specs.Data.{array, Items, no_items, item}
use Rattle.serde_json.specs.Find.{as_array}
use Rattle.cdp_json.specs.Kinds.{Kind, text, refined, list_of}
use Rattle.cdp_json.specs.Rows.{Row, unit_if, ends, and_need, and_may, and_true, object_of}
use Rattle.css_objects.specs.declared.ranges.SourceRange.{SourceRange}
use Rattle.css_objects.specs.declared.styles.StyleProperty.{StyleProperty}
use Rattle.css_objects.specs.declared.styles.Style.{Style}
use Rattle.css_objects.specs.Made.{by_fields}
use Rattle.css_objects.specs.Ranges.{range_kind}
use Rattle.css_objects.specs.Sheets.{sheet_kind}

-- ---- a property

-- the fields of a property, in the order of their names
abbrev pub PropertyFields : Type 0
PropertyFields = Bool × (List ℕ × (Option SourceRange × (List ℕ × (List ℕ × ⊤))))

-- the fields of `CSS.CSSProperty`
abbrev pub property_row : Row PropertyFields
property_row =
    and_true (codes "important")
    (and_need (codes "name") text
    (and_may (codes "range") range_kind
    (and_need (codes "text") text
    (and_need (codes "value") text ends))))

-- a property as its fields
abbrev pub property_fields : StyleProperty → PropertyFields
property_fields p = (p.important, (p.name, (p.range, (p.text, (p.value, tt)))))

-- the property of these fields
abbrev pub property_from : PropertyFields → StyleProperty
property_from f = record { important = f.0; name = f.1.0; range = f.1.1.0; text = f.1.1.1.0; value = f.1.1.1.1.0 }

-- `CSS.CSSProperty`
abbrev pub property_kind : Kind StyleProperty
property_kind = by_fields (object_of property_row) property_fields property_from

-- ---- a style

-- there are no items
abbrev pub has_none : Items → Bool
has_none no_items = true
has_none (item d ds) = false

-- the empty list
abbrev pub empty_list : Kind ⊤
empty_list = record {
  spell = λ _. array no_items;
  reads = λ d. option_and_then (λ ds. unit_if (has_none ds)) (as_array d);
  fits = λ _. true;
  loose = None;
}

-- the fields of a style, in the order of their names
abbrev pub StyleFields : Type 0
StyleFields = List StyleProperty × (List ℕ × (Option SourceRange × (⊤ × (Option ℕ × ⊤))))

-- the fields of `CSS.CSSStyle`
abbrev pub style_row : Row StyleFields
style_row =
    and_need (codes "cssProperties") (list_of property_kind)
    (and_need (codes "cssText") text
    (and_may (codes "range") range_kind
    (and_need (codes "shorthandEntries") empty_list
    (and_may (codes "styleSheetId") sheet_kind ends))))

-- a style as its fields
abbrev pub style_fields : Style → StyleFields
style_fields s = (s.properties, (s.text, (s.range, (tt, (s.sheet, tt)))))

-- the style of these fields
abbrev pub style_from : StyleFields → Style
style_from f = record { properties = f.0; text = f.1.0; range = f.1.1.0; sheet = f.1.1.1.1.0 }

-- `CSS.CSSStyle`, of an attribute or of a sheet
abbrev pub style_kind : Kind Style
style_kind = by_fields (object_of style_row) style_fields style_from

-- ---- the two forms of a style

-- the property stands in a sheet
abbrev pub is_ranged : StyleProperty → Bool
is_ranged p = is_some p.range

-- the property stands in an attribute
abbrev pub is_rangeless : StyleProperty → Bool
is_rangeless p = not (is_some p.range)

-- the style of a `style` attribute has no place in a sheet, nor have its properties
abbrev pub is_inline : Style → Bool
is_inline s = not (is_some s.range) && not (is_some s.sheet) && list_all is_rangeless s.properties

-- the style of a rule has its place in a sheet, and so has each of its properties
abbrev pub is_in_sheet : Style → Bool
is_in_sheet s = is_some s.range && is_some s.sheet && list_all is_ranged s.properties

-- the style of a `style` attribute
abbrev pub inline_kind : Kind Style
inline_kind = refined style_kind is_inline

-- the style of a rule
abbrev pub rule_style_kind : Kind Style
rule_style_kind = refined style_kind is_in_sheet
