-- Ranges of a sheet's text, as JSON.
use Rattle.std.specs.Prelude.{ℕ, codes, ⊤}
use Rattle.cdp_json.specs.Kinds.{Kind, whole}
use Rattle.cdp_json.specs.Rows.{Row, ends, and_need, object_of}
use Rattle.css_objects.specs.declared.ranges.SourceRange.{SourceRange}
use Rattle.css_objects.specs.Made.{by_fields}

-- the fields of a range, in the order of their names
abbrev pub RangeFields : Type 0
RangeFields = ℕ × (ℕ × (ℕ × (ℕ × ⊤)))

-- the fields of `CSS.SourceRange`
abbrev pub range_row : Row RangeFields
range_row =
    and_need (codes "endColumn") whole
    (and_need (codes "endLine") whole
    (and_need (codes "startColumn") whole
    (and_need (codes "startLine") whole ends)))

-- a range as its fields
abbrev pub range_fields : SourceRange → RangeFields
range_fields r = (r.end_column, (r.end_line, (r.start_column, (r.start_line, tt))))

-- the range of these fields
abbrev pub range_from : RangeFields → SourceRange
range_from f = record { end_column = f.0; end_line = f.1.0; start_column = f.1.1.0; start_line = f.1.1.1.0 }

-- `CSS.SourceRange`
abbrev pub range_kind : Kind SourceRange
range_kind = by_fields (object_of range_row) range_fields range_from
