-- Marks of a text: bytes here and there with their positions, from which the position of a byte, or the byte of a position, is near.
use Rattle.std.specs.Prelude.{◌≡◌, ℕ, ◌+◌, ◌-◌, ◌≤◌, ◌⊎◌, Bool, true, ◌==◌, ◌&&◌, ◌||◌, nat_lt, List, All, length, if◌then◌else◌}
use Rattle.sheet_reader.specs.declared.marks.Mark.{Mark}
use Rattle.sheet_reader.specs.declared.place.Position.{Position}
use Rattle.sheet_reader.specs.Positions.{position, position_of}

-- how many bytes the marks stand apart at least; no more than twice as many where memory was not refused
abbrev pub mark_step : ℕ
mark_step = 256

-- the text has this byte, or ends there, and this is its position
pub record IsMark (text : List ℕ) (m : Mark) : Type 0 where
  pub inside : m.byte ≤ length text
  pub place : m.place ≡ position_of text m.byte

-- each of them is a mark of the text
abbrev pub AreMarks : List ℕ → List Mark → Type 0
AreMarks text marks = All (IsMark text) marks

-- a position before another one: on an earlier line, or on the same one at an earlier column
abbrev pub is_before : Position → Position → Bool
is_before p q = nat_lt p.line q.line || (p.line == q.line && nat_lt p.column q.column)

-- the text's start, or a mark before a position
abbrev pub IsFront : Position → Mark → Type 0
IsFront wanted m = (m.byte ≡ 0) ⊎ (is_before m.place wanted ≡ true)

-- ---- marks behind an edit

-- a position behind one that an edit moved from `before` to `after`
abbrev pub moved_position : Position → Position → Position → Position
moved_position before after p =
    if p.line == before.line then position after.line (after.column + (p.column - before.column))
    else position (after.line + (p.line - before.line)) p.column

-- a mark behind one that an edit moved
abbrev pub moved_mark : Mark → Mark → Mark → Mark
moved_mark from to m = record { byte = to.byte + (m.byte - from.byte); place = moved_position from.place to.place m.place }

-- a mark stands behind the one that was moved, and moved with it is a mark of the text as it is now
pub record CanMoveMark (text : List ℕ) (from to m : Mark) : Type 0 where
  pub line : from.place.line ≤ m.place.line
  pub column : m.place.line ≡ from.place.line → from.place.column ≤ m.place.column
  pub is : IsMark text (moved_mark from to m)
