-- Texts one behind the other, of which the first ends with a rule: what both say together.
use Rattle.std.specs.Prelude.{ℕ, ◌+◌, Bool, true, false, List, [], ◌∷◌, ◌++◌, map, drop, length, option_map}
use Rattle.css_tokens.specs.Pieces.{pieces}
use Rattle.selectors.specs.Moves.{placed_range, placed_selector}
use Rattle.sheet_reader.specs.declared.parts.Level.TheVariants.{Top}
use Rattle.sheet_reader.specs.declared.sheet.MediaRule.{MediaRule}
use Rattle.sheet_reader.specs.declared.sheet.Sheet.{Sheet}
use Rattle.sheet_reader.specs.Forms.{RuleForm}
use Rattle.sheet_reader.specs.Parts.{PartForm, passed, at_rule, qualified, parts}
use Rattle.sheet_reader.specs.Lone.{is_closed_ending}
use Rattle.sheet_reader.specs.Moves.{placed_property}

-- a rule with a block that has its `}`
abbrev pub is_shut_part : PartForm → Bool
is_shut_part (passed t) = false
is_shut_part (at_rule keyword prelude ending) = is_closed_ending ending
is_shut_part (qualified prelude ending) = is_closed_ending ending

-- there are no parts, or the last one is a rule with a block that has its `}`
abbrev pub ends_shut : List PartForm → Bool
ends_shut [] = true
ends_shut (p ∷ []) = is_shut_part p
ends_shut (p ∷ q ∷ ps) = ends_shut (q ∷ ps)

-- an empty text, or one that ends with the `}` of a rule at top level
abbrev pub is_shut_text : List ℕ → Bool
is_shut_text text = ends_shut (parts Top (pieces text))

-- a style rule behind n bytes and k media rules
abbrev pub behind_rule : ℕ → ℕ → RuleForm → RuleForm
behind_rule n k r = record {
  prelude = placed_range (λ place. n + place) r.prelude;
  selectors = map (placed_selector (λ place. n + place)) r.selectors;
  body = placed_range (λ place. n + place) r.body;
  properties = map (placed_property (λ place. n + place)) r.properties;
  media = option_map (λ m. k + m) r.media;
}

-- a media rule behind n bytes and k others
abbrev pub behind_media : ℕ → ℕ → MediaRule → MediaRule
behind_media n k m = record { prelude = placed_range (λ place. n + place) m.prelude; inside = option_map (λ m. k + m) m.inside }

-- What two sheets say, the second one behind the n bytes of the first. The first place of a sheet is its beginning, which is no place
-- of its own behind the first sheet.
abbrev pub joined : ℕ → Sheet → Sheet → Sheet
joined n s t = record {
  rules = s.rules ++ map (behind_rule n (length s.media)) t.rules;
  places = s.places ++ map (λ place. n + place) (drop 1 t.places);
  media = s.media ++ map (behind_media n (length s.media)) t.media;
}
