-- Positions in a text: lines end at a line feed alone; a column counts UTF-16 units.
use Rattle.std.specs.Prelude.{ℕ, ◌+◌, Bool, ◌==◌, not, nat_lt, List, take, reverse, if◌then◌else◌}
use Rattle.std.specs.List.{prefix_len, count_by, sum_by}
use Rattle.sheet_reader.specs.declared.place.Position.{Position}

-- the byte is a line feed
abbrev pub is_line_feed : ℕ → Bool
is_line_feed c = c == 10

-- the UTF-16 units of a character, told by the first of its bytes: two where it has four bytes. Its other bytes count nothing.
abbrev pub units_at : ℕ → ℕ
units_at c = if nat_lt c 128 then 1 else (if nat_lt c 192 then 0 else (if nat_lt c 240 then 1 else 2))

-- the bytes behind the last line feed, from the last one back
abbrev pub line_back : List ℕ → List ℕ
line_back front = take (prefix_len (λ c. not (is_line_feed c)) (reverse front)) (reverse front)

-- the line feeds of what stands before, and the units behind the last of them
unfoldable pub line_of : List ℕ → ℕ
line_of front = count_by is_line_feed front

-- the UTF-16 units behind the last line feed of what stands before
unfoldable pub column_of : List ℕ → ℕ
column_of front = sum_by units_at (line_back front)

-- the position with this line and this column
abbrev pub position : ℕ → ℕ → Position
position line column = record { line = line; column = column }

-- the position behind the bytes that stand before it
abbrev pub position_behind : List ℕ → Position
position_behind front = position (line_of front) (column_of front)

-- the position of a byte
abbrev pub position_of : List ℕ → ℕ → Position
position_of text byte = position_behind (take byte text)

-- the position behind one byte more
abbrev pub behind_byte : Position → ℕ → Position
behind_byte before c = if is_line_feed c then position (before.line + 1) 0 else position before.line (before.column + units_at c)

-- the UTF-16 units of a character: a pair beyond the basic plane
abbrev pub units_of : ℕ → ℕ
units_of c = if nat_lt c 65536 then 1 else 2
