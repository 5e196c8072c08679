-- Places of a text of which a part is replaced.
use Rattle.std.specs.Prelude.{ℕ, ◌+◌, ◌-◌, ◌<◌, ◌≤◌, nat_le, if◌then◌else◌}
use Rattle.node_tree.specs.Numbers.{number_limit}
use Rattle.css_tokens.specs.declared.token.Range.{Range}
use Rattle.selectors.specs.Forms.{SelectorForm}

-- the bytes from start up to end, and how many take their place
pub record Cut : Type 0 where
  pub start : ℕ
  pub end : ℕ
  pub size : ℕ

-- the cut with these places
abbrev pub cut : ℕ → ℕ → ℕ → Cut
cut start end size = record { start = start; end = end; size = size }

-- a place at most at the start of the cut stays, and every other one is as far behind what takes its place as it was behind its end
abbrev pub moved_place : Cut → ℕ → ℕ
moved_place c place = if nat_le place c.start then place else place - c.end + c.start + c.size

-- a range with both ends moved
abbrev pub placed_range : (ℕ → ℕ) → Range → Range
placed_range f r = record { start = f r.start; end = f r.end }

-- a selector with its range moved
abbrev pub placed_selector : (ℕ → ℕ) → SelectorForm → SelectorForm
placed_selector f s = record { compounds = s.compounds; pseudo_element = s.pseudo_element; range = placed_range f s.range }

-- the place is not inside the cut, and where it is moved to is a place
pub record CanPlace (c : Cut) (place : ℕ) : Type 0 where
  pub outside : c.start < place → c.end ≤ place
  pub fits : moved_place c place < number_limit

-- so for both ends of a range
pub record CanPlaceRange (c : Cut) (r : Range) : Type 0 where
  pub front : CanPlace c r.start
  pub back : CanPlace c r.end
