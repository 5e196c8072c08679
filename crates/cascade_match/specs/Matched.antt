-- The style rules of a book of sheets that match a node, in the order in which they count.
use Rattle.std.specs.Prelude.{ℕ, ◌+◌, Bool, cond, List, [], ◌∷◌, ◌++◌, map, filter, fold, Option, Some, None, option_to_list, if◌then◌else◌}
use Rattle.std.specs.BTreeMap.{insert_entry}
use Rattle.page_tree.specs.Zippers.{Zipper}
use Rattle.selectors.specs.declared.weight.Spec.{Spec}
use Rattle.selectors.specs.Forms.{SelectorForm}
use Rattle.selectors.specs.Weight.{specificity_of}
use Rattle.select_match.specs.Matches.{selector_matches}
use Rattle.node_tree.specs.declared.origins.Origin.{Origin}
use Rattle.sheet_reader.specs.declared.book.SheetEntry.{SheetEntry}
use Rattle.sheet_reader.specs.Forms.{RuleForm}
use Rattle.sheet_reader.specs.Sheets.{sheet_of}
use Rattle.sheet_reader.specs.Around.{held_at}
use Rattle.media_rules.specs.declared.medium.Medium.{Medium}
use Rattle.cascade_match.specs.declared.keys.Key.{Key}
use Rattle.cascade_match.specs.declared.hits.Hit.{Hit}
use Rattle.cascade_match.specs.Precedence.{key_of, key_cmp, greater}
use Rattle.cascade_match.specs.MediaHeld.{media_held}

-- the places of the selectors that match, counted from i
abbrev pub places_from : ℕ → List SelectorForm → Zipper → List ℕ
places_from i [] z = []
places_from i (s ∷ ss) z = cond (selector_matches s z) (i ∷ places_from (i + 1) ss z) (places_from (i + 1) ss z)

-- the places of the selectors that match
abbrev pub places_matching : List SelectorForm → Zipper → List ℕ
places_matching ss z = places_from 0 ss z

-- the least specificity, zero in each part
abbrev pub no_weight : Spec
no_weight = record { a = 0; b = 0; c = 0 }

-- the greatest specificity among the selectors that match
abbrev pub greatest : List SelectorForm → Zipper → Spec
greatest ss z = fold (λ best s. greater best (specificity_of s)) no_weight (filter (λ s. selector_matches s z) ss)

-- a sheet in its book: its place there, its id and its origin; and for each of its media rules whether it and every one around it
-- holds
pub record Source : Type 0 where
  pub place : ℕ
  pub id : ℕ
  pub origin : Origin
  pub held : List Bool

-- the sheet at a place of its book, as a source in this medium
abbrev pub source_of : Medium → ℕ → SheetEntry → Source
source_of m place e = record { place = place; id = e.id; origin = e.origin; held = media_held m e.text }

-- the rule with its key and the places of its selectors that match; None where there are none
abbrev pub entry_by : Source → ℕ → Spec → List ℕ → Option (Key × Hit)
entry_by from rule weight [] = None
entry_by from rule weight (p ∷ ps) = Some
    (key_of from.origin weight from.place rule, record { sheet = from.id; rule = rule; matching = p ∷ ps })

-- the rule at a place of a sheet with its key, if every media rule around it holds and some selector of it matches
abbrev pub keyed_rule : Source → ℕ → RuleForm → Zipper → Option (Key × Hit)
keyed_rule from rule r z =
    if held_at from.held r.media then entry_by from rule (greatest r.selectors z) (places_matching r.selectors z) else None

-- the rules from a place of a sheet on, with their keys
abbrev pub entries_of_rules : Source → ℕ → List RuleForm → Zipper → List (Key × Hit)
entries_of_rules from i [] z = []
entries_of_rules from i (r ∷ rs) z = option_to_list (keyed_rule from i r z) ++ entries_of_rules from (i + 1) rs z

-- the rules of the sheets from a place of a book on, in this medium, with their keys
abbrev pub entries_of_sheets : Medium → ℕ → List SheetEntry → Zipper → List (Key × Hit)
entries_of_sheets m place [] z = []
entries_of_sheets m place (e ∷ es) z =
    entries_of_rules (source_of m place e) 0 (sheet_of e.text).rules z ++ entries_of_sheets m (place + 1) es z

-- the entries, each put in its place among those before it
abbrev pub all_entered : List (Key × Hit) → List (Key × Hit) → List (Key × Hit)
all_entered sorted [] = sorted
all_entered sorted (e ∷ es) = all_entered (insert_entry key_cmp sorted e.0 e.1) es

-- all pairs of a sheet and a rule of which some selector matches and every media rule around it holds, in ascending order of their
-- keys
abbrev pub matched_entries : Medium → List SheetEntry → Zipper → List (Key × Hit)
matched_entries m book z = all_entered [] (entries_of_sheets m 0 book z)

-- the rules that match a node in this medium, in ascending order of their keys
abbrev pub matched_of : Medium → List SheetEntry → Zipper → List Hit
matched_of m book z = map (λ e. e.1) (matched_entries m book z)
