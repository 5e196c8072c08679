-- What a client's edit of the prelude of a media rule comes to.
use Rattle.std.specs.Prelude.{◌≡◌, ℕ, ◌-◌, nat_le, List, ◌++◌, map, slice_get, Option, Some, None, option_and_then, IsSome, IsSomeAnd, Err}
use Rattle.std.specs.Prelude.{if◌then◌else◌}
use Rattle.std.specs.List.{find, prefix_len}
use Rattle.css_tokens.specs.declared.token.Range.{Range}
use Rattle.sheet_reader.specs.declared.book.SheetEntry.{SheetEntry}
use Rattle.sheet_reader.specs.declared.sheet.MediaRule.{MediaRule}
use Rattle.sheet_reader.specs.Books.{entry_of}
use Rattle.sheet_reader.specs.Forms.{range}
use Rattle.sheet_reader.specs.Preludes.{spaces_at}
use Rattle.sheet_reader.specs.Sheets.{sheet_of}
use Rattle.sheet_reader.specs.Sealing.{is_sealed_prelude}
use Rattle.style_edits.specs.declared.faults.SheetFault.TheVariants.{BadRange, BadText}
use Rattle.style_edits.specs.declared.lines.LineRange.{LineRange}
use Rattle.style_edits.specs.declared.splice.Splice.{Splice}
use Rattle.style_edits.specs.Splices.{after_splice, back_splice}
use Rattle.style_edits.specs.Edits.{Found, is_at, placed_text, client_sheet, found_by}

-- the prelude of a media rule with these lines and columns
abbrev pub media_at : List ℕ → LineRange → Option Range
media_at text lines = find (is_at text lines) (map (λ m. m.prelude) (sheet_of text).media)

-- a text in the place of the prelude that was found, if there is one and the text can be a prelude
abbrev pub media_by : List ℕ → SheetEntry → Option Range → Found
media_by text e None = Err BadRange
media_by text e (Some part) = if is_sealed_prelude text then placed_text e part (spaces_at e.text part.start ++ text) else Err BadText

-- the prelude of a media rule becomes a text that is sealed and has no `{` or `;` outside brackets
abbrev pub media_in : LineRange → List ℕ → SheetEntry → Found
media_in lines text e = media_by text e (media_at e.text lines)

-- what an edit of a media rule's prelude comes to in a book
abbrev pub media_splice : ℕ → LineRange → List ℕ → List SheetEntry → Found
media_splice id lines text book = found_by (media_in lines text) (client_sheet id book)

-- how many media rules have a prelude that does not start behind the byte
abbrev pub media_up_to : List MediaRule → ℕ → ℕ
media_up_to media byte = prefix_len (λ m. nat_le m.prelude.start byte) media

-- the last of them in the sheet that was found; the first where there is none
abbrev pub media_place_by : Splice → Option SheetEntry → ℕ
media_place_by back None = 0
media_place_by back (Some e) = media_up_to (sheet_of e.text).media back.end - 1

-- the place among the media rules of its sheet of the one whose prelude an edit made, of which this book is what it left and the splice
-- the way back: the last one whose prelude does not start behind the edit's text
abbrev pub edited_media : List SheetEntry → Splice → ℕ
edited_media book back = media_place_by back (entry_of back.sheet book)

-- the media rule at that place of the sheet with this id, if there is one
abbrev pub media_rule_at : List SheetEntry → ℕ → ℕ → Option MediaRule
media_rule_at book sheet place = option_and_then (λ e. slice_get (sheet_of e.text).media place) (entry_of sheet book)

-- the media rule that an edit made, of which this book is what it left and the splice the way back, if there is one
abbrev pub made_media : List SheetEntry → Splice → Option MediaRule
made_media book back = media_rule_at book back.sheet (edited_media book back)

-- The place that is answered for a splice of the book is the number of the media rule whose prelude the splice replaced, and there is a
-- media rule with that number in the book that the splice left
pub record MakesMedia (book : List SheetEntry) (s : Splice) : Type 0 where
  pub own : IsSomeAnd (media_rule_at book s.sheet (edited_media (after_splice s book) (back_splice s book)))
      (λ m. m.prelude ≡ range s.start s.end)
  pub there : IsSome (made_media (after_splice s book) (back_splice s book))
