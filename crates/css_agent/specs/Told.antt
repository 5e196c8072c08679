-- What messages tell of the sheets of a book.
use Rattle.std.specs.Prelude.{ℕ, List, [], ◌∷◌, map, Bool, cond, not, ◌&&◌}
use Rattle.std.specs.List.{sum_by}
use Rattle.css_objects.specs.declared.sheets.Header.{Header}
use Rattle.sheet_reader.specs.declared.book.SheetEntry.{SheetEntry}
use Rattle.sheet_reader.specs.Positions.{units_at}
use Rattle.style_edits.specs.declared.splice.Splice.{Splice}
use Rattle.cdp_messages.specs.Events.{News, sheet_added, sheet_changed}
use Rattle.cdp_messages.specs.Replies.{Message, event}

-- the UTF-16 units of a text
abbrev pub units_in : List ℕ → ℕ
units_in text = sum_by units_at text

-- what is told of a sheet as it comes: how long its text is, where it comes from, and its number
abbrev pub told_header : SheetEntry → Header
told_header e = record { length = units_in e.text; origin = e.origin; sheet = e.id }

-- the message that tells that a sheet comes
abbrev pub added_message : SheetEntry → Message
added_message e = event (sheet_added (told_header e))

-- the message that tells that the sheet of a splice was edited
abbrev pub changed_message : Splice → Message
changed_message back = event (sheet_changed back.sheet)

-- the messages that a turn of the domain sends, from what it was to what it is: where it comes on, each sheet of the book comes, in order
abbrev pub turn_messages : Bool → Bool → List SheetEntry → List Message
turn_messages was is book = cond (is && not was) (map added_message book) []

-- the messages that tell an event: it is told while the domain is on
abbrev pub event_messages : Bool → News → List Message
event_messages on news = cond on (event news ∷ []) []
