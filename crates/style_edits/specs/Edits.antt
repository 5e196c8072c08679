-- What a client's edits of sheets come to: a splice of a sheet's text, or the first fault in the order of their numbers. Only
-- the sheets' ids, origins and texts count, and what the texts say.
use Rattle.std.specs.Prelude.{◌≡◌, ℕ, ◌^◌, nat_le, nat_lt, Bool, ◌&&◌, ◌||◌, ◌==◌, List, [], ◌∷◌, All, map, reverse, length, Option, Some}
use Rattle.std.specs.Prelude.{None, is_some, Result, Ok, Err, if◌then◌else◌}
use Rattle.std.specs.List.{find}
use Rattle.std.specs.Str.{IsUtf8}
use Rattle.node_tree.specs.Numbers.{max_sheet_bytes, max_sheets}
use Rattle.css_tokens.specs.declared.token.Range.{Range}
use Rattle.selectors.specs.Reading.{selectors_of}
use Rattle.node_tree.specs.declared.origins.Origin.{Origin}
use Rattle.node_tree.specs.declared.origins.Origin.TheVariants as origins
use Rattle.sheet_reader.specs.declared.book.SheetEntry.{SheetEntry}
use Rattle.sheet_reader.specs.declared.lone.LoneRule.{LoneRule}
use Rattle.sheet_reader.specs.declared.lone.LoneRule.TheVariants as lone
use Rattle.sheet_reader.specs.declared.place.Position.{Position}
use Rattle.sheet_reader.specs.Forms.{range}
use Rattle.sheet_reader.specs.Positions.{position_of}
use Rattle.sheet_reader.specs.Sheets.{sheet_of}
use Rattle.sheet_reader.specs.Sealing.{is_sealed}
use Rattle.sheet_reader.specs.Lone.{lone_rule}
use Rattle.sheet_reader.specs.Books.{IsStored, entry_of}
use Rattle.style_edits.specs.declared.edits.StyleEdit.{StyleEdit}
use Rattle.style_edits.specs.declared.faults.SheetErr.{SheetErr}
use Rattle.style_edits.specs.declared.faults.SheetErr.TheVariants.{Fault, Memory}
use Rattle.style_edits.specs.declared.faults.SheetFault.{SheetFault}
use Rattle.style_edits.specs.declared.faults.SheetFault.TheVariants.{NoSheet, NotMutable, BadRange, BadText, BadSelector, BadPlace, TooBig}
use Rattle.style_edits.specs.declared.lines.LineRange.{LineRange}
use Rattle.style_edits.specs.declared.splice.Splice.{Splice}
use Rattle.style_edits.specs.Splices.{spliced, after_splice, back_splice, after_splices, TakesSplice}

-- ---- ranges of lines and columns

-- the position has this line and this column
abbrev pub is_position : ℕ → ℕ → Position → Bool
is_position line column p = p.line == line && p.column == column

-- the bytes from start to end have these lines and columns
abbrev pub is_at : List ℕ → LineRange → Range → Bool
is_at text lines r =
    is_position lines.start_line lines.start_column (position_of text r.start)
    && is_position lines.end_line lines.end_column (position_of text r.end)

-- the body of a style rule with these lines and columns
abbrev pub body_at : List ℕ → LineRange → Option Range
body_at text lines = find (is_at text lines) (map (λ r. r.body) (sheet_of text).rules)

-- the prelude of a style rule, from its first selector to its last one
abbrev pub prelude_at : List ℕ → LineRange → Option Range
prelude_at text lines = find (is_at text lines) (map (λ r. r.prelude) (sheet_of text).rules)

-- a place where a rule may be added, as an empty range
abbrev pub place_at : List ℕ → LineRange → Option Range
place_at text lines = find (is_at text lines) (map (λ p. range p p) (sheet_of text).places)

-- ---- edits of one sheet

-- one of seven faults, or the splice that the edit makes
abbrev pub Found : Type 0
Found = Result Splice SheetFault

-- the splice that puts a text in the place of a part of the sheet
abbrev pub splice_at : SheetEntry → Range → List ℕ → Splice
splice_at e part text = record { sheet = e.id; start = part.start; end = part.end; text = text }

-- a text in the place of a part of a sheet, unless that makes the sheet's text too long
abbrev pub placed_text : SheetEntry → Range → List ℕ → Found
placed_text e part text =
    if nat_le (length (spliced e.text part.start part.end text)) max_sheet_bytes then Ok (splice_at e part text) else Err TooBig

-- the edit's text in the place of the body that was found, if there is one and the text is sealed
abbrev pub style_by : StyleEdit → SheetEntry → Option Range → Found
style_by x e None = Err BadRange
style_by x e (Some part) = if is_sealed x.text then placed_text e part x.text else Err BadText

-- the body of a style rule becomes a text that is sealed
abbrev pub style_in : StyleEdit → SheetEntry → Found
style_in x e = style_by x e (body_at e.text x.range)

-- a text in the place of the prelude that was found, if there is one and the text is sealed and a selector list
abbrev pub selector_by : List ℕ → SheetEntry → Option Range → Found
selector_by text e None = Err BadRange
selector_by text e (Some part) =
    if is_sealed text then (if is_some (selectors_of text) then placed_text e part text else Err BadSelector) else Err BadText

-- the prelude of a style rule becomes a text that is sealed and a selector list
abbrev pub selector_in : LineRange → List ℕ → SheetEntry → Found
selector_in lines text e = selector_by text e (prelude_at e.text lines)

-- the range of a whole text
abbrev pub whole_range : List ℕ → Range
whole_range text = range 0 (length text)

-- the whole_range text becomes another
abbrev pub text_in : List ℕ → SheetEntry → Found
text_in text e = placed_text e (whole_range e.text) text

-- a text put at the place that was found, if there is one
abbrev pub put_by : List ℕ → SheetEntry → Option Range → Found
put_by text e None = Err BadPlace
put_by text e (Some part) = placed_text e part text

-- a text put at the place that was found, if as one rule it is a style rule
abbrev pub added_by : List ℕ → SheetEntry → Option Range → LoneRule → Found
added_by text e place lone.Other = Err BadText
added_by text e place lone.Dropped = Err BadSelector
added_by text e place lone.Style = put_by text e place

-- a text that is sealed and one style rule, but for white space and comments, is put at a place
abbrev pub rule_in : LineRange → List ℕ → SheetEntry → Found
rule_in lines text e = if is_sealed text then added_by text e (place_at e.text lines) (lone_rule text) else Err BadText

-- ---- edits of a book

-- the sheet, if its origin is not the user agent
abbrev pub mutable : SheetEntry → Origin → Result SheetEntry SheetFault
mutable e origins.UserAgent = Err NotMutable
mutable e origins.Regular = Ok e

-- the sheet that was found, if there is one and a client may edit it
abbrev pub client_by : Option SheetEntry → Result SheetEntry SheetFault
client_by None = Err NoSheet
client_by (Some e) = mutable e e.origin

-- the sheet that a client may edit
abbrev pub client_sheet : ℕ → List SheetEntry → Result SheetEntry SheetFault
client_sheet id book = client_by (entry_of id book)

-- what an edit makes of a sheet, or the fault with which there is no such sheet
abbrev pub found_by : (SheetEntry → Found) → Result SheetEntry SheetFault → Found
found_by edit (Err f) = Err f
found_by edit (Ok e) = edit e

-- what an edit of a style rule's body comes to in a book
abbrev pub style_splice : StyleEdit → List SheetEntry → Found
style_splice x book = found_by (style_in x) (client_sheet x.sheet book)

-- what an edit of a style rule's prelude comes to in a book
abbrev pub selector_splice : ℕ → LineRange → List ℕ → List SheetEntry → Found
selector_splice id lines text book = found_by (selector_in lines text) (client_sheet id book)

-- what an edit of the whole text of the sheet with this id comes to in a book
abbrev pub text_splice : ℕ → List ℕ → List SheetEntry → Found
text_splice id text book = found_by (text_in text) (client_sheet id book)

-- what adding a rule to the sheet with this id comes to in a book
abbrev pub rule_splice : ℕ → LineRange → List ℕ → List SheetEntry → Found
rule_splice id lines text book = found_by (rule_in lines text) (client_sheet id book)

-- the book after an edit, and the splice that leads back
abbrev pub edited : List SheetEntry → Found → Result (List SheetEntry × Splice) SheetFault
edited book (Ok s) = Ok (after_splice s book, back_splice s book)
edited book (Err f) = Err f

-- the book after edits, and the splices that lead back, in the order of the edits
abbrev pub EditsOutcome : Type 0
EditsOutcome = Result (List SheetEntry × List Splice) SheetFault

-- what edits come to behind one more, whose splice back this is
abbrev pub with_back : Splice → EditsOutcome → EditsOutcome
with_back back (Ok rest) = Ok (rest.0, back ∷ rest.1)
with_back back (Err f) = Err f

-- what a first edit and the rest in the book that it left come to; the first one's fault is the fault of all
abbrev pub go_on : Result (List SheetEntry × Splice) SheetFault → (List SheetEntry → EditsOutcome) → EditsOutcome
go_on (Ok first) rest = with_back first.1 (rest first.0)
go_on (Err f) rest = Err f

-- edits, each in the book that the earlier ones left; the first one's fault is the fault of all
unfoldable pub styles_edited : List StyleEdit → List SheetEntry → EditsOutcome
styles_edited [] book = Ok (book, [])
styles_edited (x ∷ xs) book = go_on (edited book (style_splice x book)) (λ next. styles_edited xs next)

-- the edit's text is a text
abbrev pub HasText : StyleEdit → Type 0
HasText x = IsUtf8 x.text

-- what is found in a book can be made in it
abbrev pub FindsSplices : (List SheetEntry → Found) → Type 0
FindsSplices find_in = (book : List SheetEntry) (s : Splice) → All IsStored book → find_in book ≡ Ok s → TakesSplice s book

-- the splices that the edits answer lead back to the book, the last one first
abbrev pub LeadBack : List StyleEdit → Type 0
LeadBack xs =
    (book new : List SheetEntry) (backs : List Splice) → All IsStored book → styles_edited xs book ≡ Ok (new, backs)
    → after_splices (reverse backs) new ≡ book

-- ---- sheets that come

-- a text of more than 2^24 bytes, or a sheet above 1,000
abbrev pub is_too_big : List ℕ → List SheetEntry → Bool
is_too_big text book = nat_lt max_sheet_bytes (length text) || nat_le max_sheets (length book)

-- a sheet with this id, origin and text, and what the text says
abbrev pub new_sheet : ℕ → Origin → List ℕ → SheetEntry
new_sheet id origin text = record { id = id; origin = origin; text = text; reading = sheet_of text }

-- ---- what calls answer

-- the call answered a fault, and this holds of it
abbrev pub IfFault : {A : Type 0} → Result A SheetErr → (SheetFault → Type 0) → Type 0
IfFault (Ok x) P = Unit {0}
IfFault (Err (Fault f)) P = P f
IfFault (Err Memory) P = Unit {0}
