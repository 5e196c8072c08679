-- What can be cut out of a text by its reading: each range has its ends on characters' edges, and stands in what it belongs
-- to, behind the one before it.
use Rattle.std.specs.Prelude.{ℕ, ◌<◌, ◌≤◌, List, [], ◌∷◌, length, map, All}
use Rattle.std.specs.Str.{IsCharBoundary}
use Rattle.css_tokens.specs.declared.token.Range.{Range}
use Rattle.selectors.specs.Ranges.{IsRangeOf, AreBetween, ranges_of}
use Rattle.sheet_reader.specs.declared.sheet.Property.{Property}
use Rattle.sheet_reader.specs.declared.sheet.Sheet.{Sheet}
use Rattle.sheet_reader.specs.Forms.{range, RuleForm}

-- a declaration's value stands in the whole
pub record IsPropertyOf (text : List ℕ) (p : Property) : Type 0 where
  pub whole : IsRangeOf text p.whole
  pub value : IsRangeOf text p.value
  pub starts : p.whole.start ≤ p.value.start
  pub ends : p.value.end ≤ p.whole.end

-- the ranges of whole declarations, in their order
abbrev pub wholes_of : List Property → List Range
wholes_of ps = map (λ p. p.whole) ps

-- the selectors of a rule stand in its prelude, behind that its body, and its declarations in the body
pub record IsRuleOf (text : List ℕ) (r : RuleForm) : Type 0 where
  pub prelude : IsRangeOf text r.prelude
  pub selectors : AreBetween text r.prelude.start r.prelude.end (ranges_of r.selectors)
  pub behind : r.prelude.end ≤ r.body.start
  pub body : IsRangeOf text r.body
  pub properties : AreBetween text r.body.start r.body.end (wholes_of r.properties)
  pub each : All (IsPropertyOf text) r.properties

-- from the start of a rule's prelude to the end of its body
abbrev pub rule_range : RuleForm → Range
rule_range r = range r.prelude.start r.body.end

-- characters' edges in ascending order, behind a place
abbrev pub AreEdgesBehind : List ℕ → ℕ → List ℕ → Type 0
AreEdgesBehind text place [] = Unit {0}
AreEdgesBehind text place (edge ∷ edges) = (place < edge) × IsCharBoundary text edge × AreEdgesBehind text edge edges

-- characters' edges in ascending order, with no place before them
abbrev pub AreEdges : List ℕ → List ℕ → Type 0
AreEdges text [] = Unit {0}
AreEdges text (edge ∷ edges) = IsCharBoundary text edge × AreEdgesBehind text edge edges

-- the rules of a sheet stand one behind the other, and so do its places, and the preludes of its media rules
pub record IsSheetOf (text : List ℕ) (s : Sheet) : Type 0 where
  pub rules : AreBetween text 0 (length text) (map rule_range s.rules)
  pub each : All (IsRuleOf text) s.rules
  pub places : AreEdges text s.places
  pub media : AreBetween text 0 (length text) (map (λ m. m.prelude) s.media)

-- declarations stand one behind the other, between two places
pub record AreDeclarationsOf (text : List ℕ) (from to : ℕ) (ps : List Property) : Type 0 where
  pub wholes : AreBetween text from to (wholes_of ps)
  pub each : All (IsPropertyOf text) ps
