-- A selector list as its selectors.
use Rattle.std.specs.Prelude.{ℕ, ◌+◌, ◌-◌, ◌<◌, ◌≤◌, List, map}
use Rattle.node_tree.specs.Numbers.{number_limit}
use Rattle.css_tokens.specs.declared.token.Range.{Range}
use Rattle.selectors.specs.declared.selector.SelectorList.{SelectorList}
use Rattle.selectors.specs.Forms.{SelectorForm, selector_seen}

-- a selector list as the code has it, as the list of its selectors' forms
abbrev pub list_seen : SelectorList → List SelectorForm
list_seen l = map selector_seen l.list.items

-- the place that lies behind `to` as this one lies behind `from`
abbrev pub moved : ℕ → ℕ → ℕ → ℕ
moved from to place = place - from + to

-- a range with both of its ends moved
abbrev pub moved_range : ℕ → ℕ → Range → Range
moved_range from to range = record { start = moved from to range.start; end = moved from to range.end }

-- a selector with its range moved, otherwise the same
abbrev pub moved_selector : ℕ → ℕ → SelectorForm → SelectorForm
moved_selector from to s = record { compounds = s.compounds; pseudo_element = s.pseudo_element; range = moved_range from to s.range }

-- a range can be moved: both its places lie at or behind `from`, and where they are moved to are places
abbrev pub CanMove : ℕ → ℕ → Range → Type 0
CanMove from to range = (from ≤ range.start) × (from ≤ range.end) × (moved from to range.start < number_limit)
    × (moved from to range.end < number_limit)
