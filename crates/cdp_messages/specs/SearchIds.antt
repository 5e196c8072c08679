-- The ids of searches.
use Rattle.std.specs.Prelude.{ℕ, ◌==◌, Bool, cond, List, [], ◌∷◌, Option, None, option_and_then, decimal}
use Rattle.serde_json.specs.Data.{string}
use Rattle.serde_json.specs.Find.{as_str}
use Rattle.cdp_json.specs.Kinds.{Kind}
use Rattle.css_objects.specs.Sheets.{is_sheet, sheet_in}

-- the text of a search's id: `q`, and the number of the search in decimal digits, without a leading zero
abbrev pub search_text : ℕ → List ℕ
search_text n = 113 ∷ decimal n

-- a search's number is from 1 to 2^53-1, as that of a sheet
abbrev pub is_search : ℕ → Bool
is_search n = is_sheet n

-- the search whose id has this text: it is read as a sheet's, with `q` in the place of `s`
abbrev pub search_in : List ℕ → Option ℕ
search_in [] = None
search_in (c ∷ digits) = cond (c == 113) (sheet_in (115 ∷ digits)) None

-- the id of a search as JSON
abbrev pub search_kind : Kind ℕ
search_kind = record {
  spell = λ n. string (search_text n);
  reads = λ d. option_and_then search_in (as_str d);
  fits = is_search;
  loose = None;
}
