-- Which style rules a client's edits make: each by its place among the style rules of its sheet.
use Rattle.std.specs.Prelude.{◌≡◌, ℕ, ◌+◌, ◌<◌, ◌≤◌, nat_lt, All, List, [], ◌∷◌, length, slice_get, Option, Some, None, option_and_then}
use Rattle.std.specs.Prelude.{IsSome, IsSomeAnd, Result, Ok, Err}
use Rattle.std.specs.List.{prefix_len}
use Rattle.sheet_reader.specs.declared.book.SheetEntry.{SheetEntry}
use Rattle.css_tokens.specs.declared.token.Range.{Range}
use Rattle.sheet_reader.specs.Forms.{range, RuleForm}
use Rattle.sheet_reader.specs.Preludes.{BeginsIn}
use Rattle.sheet_reader.specs.Sheets.{sheet_of}
use Rattle.sheet_reader.specs.Books.{IsStored, entry_of}
use Rattle.sheet_reader.specs.Rereads.{HasBody}
use Rattle.style_edits.specs.declared.edits.StyleEdit.{StyleEdit}
use Rattle.style_edits.specs.declared.faults.SheetFault.{SheetFault}
use Rattle.style_edits.specs.declared.rule_places.RulePlace.{RulePlace}
use Rattle.style_edits.specs.declared.splice.Splice.{Splice}
use Rattle.style_edits.specs.Splices.{after_splice, back_splice}
use Rattle.style_edits.specs.Edits.{Found, style_splice, edited, styles_edited}

-- how many style rules have a body that starts before the byte
abbrev pub rules_before : List RuleForm → ℕ → ℕ
rules_before rules byte = prefix_len (λ r. nat_lt r.body.start byte) rules

-- the place in the sheet that was found; the first where there is none
abbrev pub place_by : Splice → Option SheetEntry → RulePlace
place_by back None = record { sheet = back.sheet; rule = 0 }
place_by back (Some e) = record { sheet = back.sheet; rule = rules_before (sheet_of e.text).rules back.start }

-- the style rule that an edit made, of which this book is what it left and the splice the way back: the first one whose body does
-- not start before the edit's text
abbrev pub edited_rule : List SheetEntry → Splice → RulePlace
edited_rule book back = place_by back (entry_of back.sheet book)

-- the rule of a first edit, and those of the rest in the book that it left; none from the first fault on
abbrev pub rules_on : Result (List SheetEntry × Splice) SheetFault → (List SheetEntry → List RulePlace) → List RulePlace
rules_on (Ok first) rest = edited_rule first.0 first.1 ∷ rest first.0
rules_on (Err f) rest = []

-- the rules of edits, each in the book that the edit left. A sealed text leaves the rules around it, so the places are those in the
-- book after all the edits too.
unfoldable pub edited_rules : List StyleEdit → List SheetEntry → List RulePlace
edited_rules [] book = []
edited_rules (x ∷ xs) book = rules_on (edited book (style_splice x book)) (λ next. edited_rules xs next)

-- ---- that they are there

-- the style rule at that place of the book, if there is one
abbrev pub rule_at : List SheetEntry → RulePlace → Option RuleForm
rule_at book p = option_and_then (λ e. slice_get (sheet_of e.text).rules p.rule) (entry_of p.sheet book)

-- there is a style rule at that place of the book
abbrev pub IsRuleThere : List SheetEntry → RulePlace → Type 0
IsRuleThere book p = IsSome (rule_at book p)

-- the style rule that a splice of the book made, in the book that the splice left, if there is one
abbrev pub made_rule : List SheetEntry → Splice → Option RuleForm
made_rule book s = rule_at (after_splice s book) (edited_rule (after_splice s book) (back_splice s book))

-- where the splice's text stands in the text that the splice made
abbrev pub new_range : Splice → Range
new_range s = range s.start (s.start + length s.text)

-- there is a style rule, and the splice's text is its whole body
abbrev pub MakesBody : List SheetEntry → Splice → Type 0
MakesBody book s = IsSomeAnd (made_rule book s) (HasBody (new_range s))

-- a style rule stands in a part of the text, and the `}` of its body too
pub record StandsIn (part : Range) (r : RuleForm) : Type 0 where
  pub starts : part.start ≤ r.prelude.start
  pub ends : r.body.end < part.end

-- there is a style rule, and it stands in the splice's text
abbrev pub MakesRule : List SheetEntry → Splice → Type 0
MakesRule book s = IsSomeAnd (made_rule book s) (StandsIn (new_range s))

-- there is a style rule, and its prelude starts in the splice's text
abbrev pub MakesPrelude : List SheetEntry → Splice → Type 0
MakesPrelude book s = IsSomeAnd (made_rule book s) (BeginsIn (new_range s))

-- so for each splice that an edit comes to in a book
abbrev pub EachMakes : (List SheetEntry → Splice → Type 0) → (List SheetEntry → Found) → Type 0
EachMakes Makes find_in = (book : List SheetEntry) (s : Splice) → All IsStored book → find_in book ≡ Ok s → Makes book s

-- each style rule that edits made is there after all of them
abbrev pub AllStay : List StyleEdit → Type 0
AllStay xs =
    (book new : List SheetEntry) (backs : List Splice) → All IsStored book → styles_edited xs book ≡ Ok (new, backs)
    → All (IsRuleThere new) (edited_rules xs book)
