-- What gives an element its style: its `style` attribute, the rules that match it, and both of each of its ancestors.
use Rattle.std.specs.Prelude.{ℕ, codes, List, map, Option, option_map, option_and_then}
use Rattle.std.specs.List.{filter_map, slice_get}
use Rattle.css_objects.specs.declared.styles.Style.{Style}
use Rattle.css_objects.specs.declared.rules.RuleMatch.{RuleMatch}
use Rattle.css_objects.specs.declared.rules.Inherited.{Inherited}
use Rattle.css_objects.specs.declared.rules.Matched.{Matched}
use Rattle.node_tree.specs.Labels.{value_of}
use Rattle.page_tree.specs.Zippers.{Zipper, ancestors}
use Rattle.select_match.specs.Elements.{attributes_of, elements}
use Rattle.sheet_reader.specs.declared.book.SheetEntry.{SheetEntry}
use Rattle.sheet_reader.specs.Books.{entry_of}
use Rattle.sheet_reader.specs.Forms.{RuleForm}
use Rattle.sheet_reader.specs.Sheets.{sheet_of}
use Rattle.cascade_match.specs.declared.hits.Hit.{Hit}
use Rattle.media_rules.specs.declared.medium.Medium.{Medium}
use Rattle.cascade_match.specs.Matched.{matched_of}
use Rattle.css_agent.specs.RuleObjects.{inline_style, told_rule}

-- the style of an element's `style` attribute, where it has one
abbrev pub told_inline : Zipper → Option Style
told_inline z = option_map inline_style (value_of (codes "style") (attributes_of z))

-- a rule of a sheet, with the places of its selectors that match
abbrev pub told_match : SheetEntry → List ℕ → RuleForm → RuleMatch
told_match e places r = record { matching = places; rule = told_rule e r }

-- the rule that was found, in the book that it was found in
abbrev pub told_hit : List SheetEntry → Hit → Option RuleMatch
told_hit book h = option_and_then (λ e. option_map (told_match e h.matching) (slice_get (sheet_of e.text).rules h.rule))
    (entry_of h.sheet book)

-- the rules that match an element in this medium, in the order in which they count
abbrev pub told_matches : Medium → List SheetEntry → Zipper → List RuleMatch
told_matches m book z = filter_map (told_hit book) (matched_of m book z)

-- what an ancestor has
abbrev pub told_inherited : Medium → List SheetEntry → Zipper → Inherited
told_inherited m book z = record { inline = told_inline z; rules = told_matches m book z }

-- all of an element: its ancestors are those that are elements, from its parent upwards
abbrev pub matched_styles : Medium → List SheetEntry → Zipper → Matched
matched_styles m book z = record {
  inline = told_inline z;
  rules = told_matches m book z;
  inherited = map (told_inherited m book) (elements (ancestors z));
}
