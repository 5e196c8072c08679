-- Media rules, as JSON.
use Rattle.std.specs.Prelude.{ℕ, List, [], ◌∷◌, codes, Bool, true, false, Option, Some, None, ⊤}
use Rattle.cdp_json.specs.Kinds.{Kind, text, only_text, refined, list_of}
use Rattle.cdp_json.specs.Rows.{Row, ends, and_need, object_of}
use Rattle.css_objects.specs.declared.ranges.SourceRange.{SourceRange}
use Rattle.css_objects.specs.declared.media.Media.{Media}
use Rattle.css_objects.specs.Made.{by_fields}
use Rattle.css_objects.specs.Ranges.{range_kind}
use Rattle.css_objects.specs.Sheets.{sheet_kind}

-- ---- a media rule

-- the fields of a media rule, in the order of their names
abbrev pub MediaFields : Type 0
MediaFields = SourceRange × (⊤ × (ℕ × (List ℕ × ⊤)))

-- the fields of `CSS.CSSMedia`; of the sources that the protocol knows, there is the media rule alone
abbrev pub media_row : Row MediaFields
media_row =
    and_need (codes "range") range_kind
    (and_need (codes "source") (only_text (codes "mediaRule"))
    (and_need (codes "styleSheetId") sheet_kind
    (and_need (codes "text") text ends)))

-- a media rule as its fields
abbrev pub media_fields : Media → MediaFields
media_fields m = (m.range, (tt, (m.sheet, (m.text, tt))))

-- the media rule of these fields
abbrev pub media_from : MediaFields → Media
media_from f = record { range = f.0; sheet = f.1.1.0; text = f.1.1.1.0 }

-- `CSS.CSSMedia`
abbrev pub media_kind : Kind Media
media_kind = by_fields (object_of media_row) media_fields media_from

-- ---- those around a rule

-- there is one at least
abbrev pub has_media : List Media → Bool
has_media [] = false
has_media (m ∷ ms) = true

-- one at least
abbrev pub some_media_kind : Kind (List Media)
some_media_kind = refined (list_of media_kind) has_media

-- those that are written: the list, where there is one at least
abbrev pub written_media : List Media → Option (List Media)
written_media [] = None
written_media (m ∷ ms) = Some (m ∷ ms)

-- those that were written; none where the list is absent
abbrev pub media_written : Option (List Media) → List Media
media_written None = []
media_written (Some ms) = ms
