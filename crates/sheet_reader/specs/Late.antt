-- Style rules of a sheet of which the last ones are moved later.
use Rattle.std.specs.Prelude.{◌≡◌, ℕ, suc, ◌+◌, ◌<◌, ◌≤◌, All, List, ◌++◌, map, take, drop, slice_get, IfSome}
use Rattle.node_tree.specs.Numbers.{number_limit}
use Rattle.css_tokens.specs.declared.token.Range.{Range}
use Rattle.selectors.specs.Moves.{Cut, cut, moved_place, CanPlace}
use Rattle.sheet_reader.specs.declared.moves.Gap.{Gap}
use Rattle.sheet_reader.specs.declared.sheet.Property.{Property}
use Rattle.sheet_reader.specs.Forms.{RuleForm}
use Rattle.sheet_reader.specs.Moves.{placed_rule, CanPlaceHead}

-- the cut at a gap
abbrev pub cut_at : Gap → Cut
cut_at g = cut g.start g.end g.size

-- both ends of a range are so
pub record EachEnd (P : ℕ → Type 0) (r : Range) : Type 0 where
  pub start : P r.start
  pub end : P r.end

-- all ends of a declaration's ranges are so
pub record EachEndOf (P : ℕ → Type 0) (p : Property) : Type 0 where
  pub value : EachEnd P p.value
  pub whole : EachEnd P p.whole

-- all ends of a rule's ranges are so
pub record EachPlace (P : ℕ → Type 0) (r : RuleForm) : Type 0 where
  pub prelude : EachEnd P r.prelude
  pub selectors : All (λ s. EachEnd P s.range) r.selectors
  pub body : EachEnd P r.body
  pub properties : All (EachEndOf P) r.properties

-- the rules, those from number n on moved
abbrev pub late_rules : Cut → ℕ → List RuleForm → List RuleForm
late_rules c n rules = take n rules ++ map (placed_rule (moved_place c)) (drop n rules)

-- a place behind the start of a cut, which can be moved
pub record IsLate (c : Cut) (place : ℕ) : Type 0 where
  pub past : c.start < place
  pub can : CanPlace c place

-- so are all places of the rules from number n on
abbrev pub AreLate : Cut → ℕ → List RuleForm → Type 0
AreLate c n rules = All (EachPlace (IsLate c)) (drop n rules)

-- a place that stands behind a cut, and comes to stand behind what takes its place
pub record StandsBehind (c : Cut) (place : ℕ) : Type 0 where
  pub past : c.end ≤ place
  pub moved : c.start + c.size ≤ moved_place c place
  pub fits : moved_place c place < number_limit

-- a place that stands before a cut
abbrev pub StandsBefore : Cut → ℕ → Type 0
StandsBefore c place = place ≤ c.start

-- the cut takes the body of the rule with number k out, and all other rules stand before or behind it
pub record CanRebody (c : Cut) (k : ℕ) (rules : List RuleForm) : Type 0 where
  pub order : c.start ≤ c.end
  pub some : 0 < c.end
  pub fits : c.start + c.size < number_limit
  pub head : IfSome (slice_get rules k) (CanPlaceHead c)
  pub body : IfSome (slice_get rules k) (λ r. r.body.end ≡ c.end)
  pub before : All (EachPlace (StandsBefore c)) (take k rules)
  pub behind : All (EachPlace (StandsBehind c)) (drop (suc k) rules)

-- the rule has another body
abbrev pub HasOther : Range → RuleForm → Type 0
HasOther body r = r.body ≡ body → ⊥
