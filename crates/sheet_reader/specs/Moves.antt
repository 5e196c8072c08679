-- What a reading becomes where the body of a rule is replaced. No text is read.
use Rattle.std.specs.Prelude.{ℕ, zero, suc, ◌+◌, ◌<◌, ◌≤◌, All, List, [], ◌∷◌, ◌++◌, map, take, drop, slice_get, Option, Some, None}
use Rattle.node_tree.specs.Numbers.{number_limit}
use Rattle.css_tokens.specs.declared.token.Range.{Range}
use Rattle.selectors.specs.Moves.{Cut, moved_place, placed_range, placed_selector, CanPlace, CanPlaceRange}
use Rattle.sheet_reader.specs.declared.sheet.Property.{Property}
use Rattle.sheet_reader.specs.declared.sheet.MediaRule.{MediaRule}
use Rattle.sheet_reader.specs.declared.sheet.Sheet.{Sheet}
use Rattle.sheet_reader.specs.Forms.{range, RuleForm}

-- a declaration with its ranges moved
abbrev pub placed_property : (ℕ → ℕ) → Property → Property
placed_property f p = record { name = p.name; value = placed_range f p.value; important = p.important; whole = placed_range f p.whole }

-- a media rule with its prelude moved
abbrev pub placed_media : (ℕ → ℕ) → MediaRule → MediaRule
placed_media f m = record { prelude = placed_range f m.prelude; inside = m.inside }

-- a rule with all its ranges moved
abbrev pub placed_rule : (ℕ → ℕ) → RuleForm → RuleForm
placed_rule f r = record {
  prelude = placed_range f r.prelude;
  selectors = map (placed_selector f) r.selectors;
  body = placed_range f r.body;
  properties = map (placed_property f) r.properties;
  media = r.media;
}

-- the rule whose body is cut out: its body is what takes the place, which has these declarations
abbrev pub rebodied : Cut → List Property → RuleForm → RuleForm
rebodied c ps r = record {
  prelude = placed_range (moved_place c) r.prelude;
  selectors = map (placed_selector (moved_place c)) r.selectors;
  body = range c.start (c.start + c.size);
  properties = map (placed_property (λ place. c.start + place)) ps;
  media = r.media;
}

-- the rules, of which that with number k has the body that is cut out
abbrev pub moved_rules : Cut → List Property → ℕ → List RuleForm → List RuleForm
moved_rules c ps k [] = []
moved_rules c ps zero (r ∷ rs) = rebodied c ps r ∷ map (placed_rule (moved_place c)) rs
moved_rules c ps (suc k) (r ∷ rs) = placed_rule (moved_place c) r ∷ moved_rules c ps k rs

-- the body of a rule, n bytes in its place
abbrev pub body_cut : RuleForm → ℕ → Cut
body_cut r n = record { start = r.body.start; end = r.body.end; size = n }

-- the sheet with another body for this rule, which is its rule number k
abbrev pub moved_by : Sheet → ℕ → List Property → ℕ → Option RuleForm → Sheet
moved_by s k ps n None = s
moved_by s k ps n (Some r) = record {
  rules = moved_rules (body_cut r n) ps k s.rules;
  places = map (moved_place (body_cut r n)) s.places;
  media = map (placed_media (moved_place (body_cut r n))) s.media;
}

-- The sheet where the body of rule k is replaced by n bytes that have these declarations, of which the ranges are places in the
-- new body. A sheet without a rule k stays.
abbrev pub moved_sheet : Sheet → ℕ → List Property → ℕ → Sheet
moved_sheet s k ps n = moved_by s k ps n (slice_get s.rules k)

-- the text with this range of it replaced
abbrev pub replaced : List ℕ → Range → List ℕ → List ℕ
replaced text r put = take r.start text ++ (put ++ drop r.end text)

-- ---- what can be moved

-- both ranges of a declaration can be moved
pub record CanPlaceProperty (c : Cut) (p : Property) : Type 0 where
  pub value : CanPlaceRange c p.value
  pub whole : CanPlaceRange c p.whole

-- the prelude of a media rule can be moved
abbrev pub CanPlaceMedia : Cut → MediaRule → Type 0
CanPlaceMedia c m = CanPlaceRange c m.prelude

-- the head of a rule can be moved
pub record CanPlaceHead (c : Cut) (r : RuleForm) : Type 0 where
  pub prelude : CanPlaceRange c r.prelude
  pub selectors : All (λ s. CanPlaceRange c s.range) r.selectors

-- all ranges of a rule can be moved
pub record CanPlaceRule (c : Cut) (r : RuleForm) : Type 0 where
  pub head : CanPlaceHead c r
  pub body : CanPlaceRange c r.body
  pub properties : All (CanPlaceProperty c) r.properties

-- a range that ends at or before a length
pub record IsWithin (n : ℕ) (r : Range) : Type 0 where
  pub front : r.start ≤ n
  pub back : r.end ≤ n

-- a declaration of a text with this length
pub record IsPropertyWithin (n : ℕ) (p : Property) : Type 0 where
  pub value : IsWithin n p.value
  pub whole : IsWithin n p.whole

-- the body of the rule with this number can be replaced by n bytes: nothing but its own declarations stands inside it
pub record CanMoveBody (s : Sheet) (k : ℕ) (ps : List Property) (n : ℕ) (r : RuleForm) : Type 0 where
  pub order : r.body.start ≤ r.body.end
  pub fits : r.body.start + n < number_limit
  pub head : CanPlaceHead (body_cut r n) r
  pub before : All (CanPlaceRule (body_cut r n)) (take k s.rules)
  pub behind : All (CanPlaceRule (body_cut r n)) (drop (suc k) s.rules)
  pub places : All (CanPlace (body_cut r n)) s.places
  pub media : All (CanPlaceMedia (body_cut r n)) s.media
  pub properties : All (IsPropertyWithin n) ps
