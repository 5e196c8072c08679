-- Parts of a sheet's text in messages: their lines and columns, and what stands there.
use Rattle.std.specs.Prelude.{ℕ, List, slice_range}
use Rattle.css_objects.specs.declared.ranges.SourceRange.{SourceRange}
use Rattle.css_tokens.specs.declared.token.Range.{Range}
use Rattle.sheet_reader.specs.declared.place.Position.{Position}
use Rattle.sheet_reader.specs.Positions.{position_of}

-- a range range_between two positions
abbrev pub range_between : Position → Position → SourceRange
range_between start end = record { start_line = start.line; start_column = start.column; end_line = end.line; end_column = end.column }

-- the lines and columns of a part of a text
abbrev pub source_range : List ℕ → Range → SourceRange
source_range text r = range_between (position_of text r.start) (position_of text r.end)

-- what stands there
abbrev pub told_part : List ℕ → Range → List ℕ
told_part text r = slice_range text r.start r.end
