-- Ids, origins and headers of sheets, as JSON.
use Rattle.std.specs.Prelude.{ℕ, List, ◌∷◌, codes, drop, Bool, ◌&&◌, nat_lt, Option, None, option_and_then, bytes_eq, decimal, ⊤}
use Rattle.std.specs.Str.Parse.{digits_value}
use Rattle.serde_json.specs.Data.{string}
use Rattle.serde_json.specs.Find.{as_str}
use Rattle.cdp_json.specs.Kinds.{Kind, if_holds, whole, is_counted, named, choice}
use Rattle.cdp_json.specs.Rows.{Row, ends, and_need, object_of}
use Rattle.node_tree.specs.Origins.{origin_name, all_origins}
use Rattle.node_tree.specs.declared.origins.Origin.{Origin}
use Rattle.css_objects.specs.declared.sheets.Header.{Header}
use Rattle.css_objects.specs.Made.{by_fields}

-- the text of a sheet's id: `s`, and the sheet's number in decimal digits, without a leading zero
abbrev pub sheet_text : ℕ → List ℕ
sheet_text n = 115 ∷ decimal n

-- a sheet's number is from 1 to 2^53-1
abbrev pub is_sheet : ℕ → Bool
is_sheet n = nat_lt 0 n && is_counted n

-- this is the text of the sheet's id
abbrev pub is_text_of : List ℕ → ℕ → Bool
is_text_of text n = is_sheet n && bytes_eq (sheet_text n) text

-- the sheet whose id has this text
abbrev pub sheet_in : List ℕ → Option ℕ
sheet_in text = if_holds (is_text_of text) (digits_value 10 (drop 1 text))

-- `CSS.StyleSheetId`
abbrev pub sheet_kind : Kind ℕ
sheet_kind = record {
  spell = λ n. string (sheet_text n);
  reads = λ d. option_and_then sheet_in (as_str d);
  fits = is_sheet;
  loose = None;
}

-- the origin of this name
abbrev pub origin_named : List ℕ → Option Origin
origin_named = named origin_name all_origins

-- an origin, by its name
abbrev pub origin_kind : Kind Origin
origin_kind = choice origin_name all_origins

-- the fields of a header, in the order of their names
abbrev pub HeaderFields : Type 0
HeaderFields = ℕ × (Origin × (ℕ × ⊤))

-- those fields of `CSS.CSSStyleSheetHeader` that are told
abbrev pub header_row : Row HeaderFields
header_row = and_need (codes "length") whole (and_need (codes "origin") origin_kind (and_need (codes "styleSheetId") sheet_kind ends))

-- a header as its fields
abbrev pub header_fields : Header → HeaderFields
header_fields h = (h.length, (h.origin, (h.sheet, tt)))

-- the header of these fields
abbrev pub header_from : HeaderFields → Header
header_from f = record { length = f.0; origin = f.1.0; sheet = f.1.1.0 }

-- `CSS.CSSStyleSheetHeader`
abbrev pub header_kind : Kind Header
header_kind = by_fields (object_of header_row) header_fields header_from
