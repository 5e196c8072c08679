-- What each command of the domain CSS that edits sheets comes to: the book after it, the splices that lead back and the result, or the
-- first fault. Only the sheets' ids, origins and texts count.
use Rattle.std.specs.Prelude.{ℕ, List, [], ◌∷◌, ◌++◌, map, Option, Some, option_map, option_and_then, unwrap_or, Result, Ok, Err}
use Rattle.std.specs.List.{slice_get}
use Rattle.css_objects.specs.declared.ranges.SourceRange.{SourceRange}
use Rattle.css_objects.specs.declared.media.Media.{Media}
use Rattle.css_objects.specs.declared.rules.Rule.{Rule}
use Rattle.node_tree.specs.declared.origins.Origin.TheVariants as origin
use Rattle.css_objects.specs.Sheets.{sheet_in}
use Rattle.sheet_reader.specs.declared.book.SheetEntry.{SheetEntry}
use Rattle.sheet_reader.specs.Books.{entry_of}
use Rattle.sheet_reader.specs.Sheets.{sheet_of}
use Rattle.style_edits.specs.declared.edits.StyleEdit.{StyleEdit}
use Rattle.style_edits.specs.declared.faults.SheetFault.{SheetFault}
use Rattle.style_edits.specs.declared.lines.LineRange.{LineRange}
use Rattle.style_edits.specs.declared.rule_places.RulePlace.{RulePlace}
use Rattle.style_edits.specs.declared.splice.Splice.{Splice}
use Rattle.style_edits.specs.Splices.{after_splice}
use Rattle.style_edits.specs.Edits.{Found, style_splice, selector_splice, text_splice, rule_splice, edited, EditsOutcome, styles_edited}
use Rattle.style_edits.specs.EditedRules.{edited_rule, edited_rules}
use Rattle.style_edits.specs.MediaEdits.{media_splice, edited_media}
use Rattle.cdp_messages.specs.declared.down.ReplyBody.{ReplyBody}
use Rattle.cdp_messages.specs.declared.down.ReplyBody.TheVariants as body
use Rattle.cdp_messages.specs.declared.edits.TextEdit.{TextEdit}
use Rattle.client_views.specs.Moves.{Move, rewritten, replied}
use Rattle.cdp_messages.specs.declared.css_edit.CssEdit.{CssEdit}
use Rattle.cdp_messages.specs.declared.css_edit.CssEdit.TheVariants as edit
use Rattle.css_agent.specs.MediaAround.{told_media}
use Rattle.css_agent.specs.RuleObjects.{told_rule}

-- ---- from a command's words to those of edits

-- the number of the sheet whose id has this text; where none can have it, 0, which is no sheet's
abbrev pub number_named : List ℕ → ℕ
number_named text = unwrap_or (sheet_in text) 0

-- lines and columns of a message
abbrev pub line_range : SourceRange → LineRange
line_range r = record { start_line = r.start_line; start_column = r.start_column; end_line = r.end_line; end_column = r.end_column }

-- an edit of a style rule's body
abbrev pub style_edit : TextEdit → StyleEdit
style_edit x = record { sheet = number_named x.sheet; range = line_range x.range; text = x.text }

-- ---- rules of the book after an edit

-- the style rule at that place, if it is there
abbrev pub found_at : List SheetEntry → RulePlace → Option Rule
found_at book p = option_and_then (λ e. option_map (told_rule e) (slice_get (sheet_of e.text).rules p.rule)) (entry_of p.sheet book)

-- a rule that has nothing, at the start of a sheet
abbrev pub empty_rule : ℕ → Rule
empty_rule sheet = record {
  origin = origin.Regular;
  selectors = record { selectors = []; text = [] };
  style = record {
    properties = [];
    text = [];
    range = Some (record { start_line = 0; start_column = 0; end_line = 0; end_column = 0 });
    sheet = Some sheet;
  };
  sheet = sheet;
  media = [];
}

-- the style rule that an edit made, as it is told. That it is there is in `IsDone`.
abbrev pub told_at : List SheetEntry → RulePlace → Rule
told_at book p = unwrap_or (found_at book p) (empty_rule p.sheet)

-- the media rule at that place, if it is there
abbrev pub found_media : List SheetEntry → ℕ → ℕ → Option Media
found_media book sheet place = option_and_then (λ e. option_map (told_media e.id e.text) (slice_get (sheet_of e.text).media place))
    (entry_of sheet book)

-- a media rule without a prelude, at the start of a sheet
abbrev pub empty_media : ℕ → Media
empty_media sheet = record { range = record { start_line = 0; start_column = 0; end_line = 0; end_column = 0 }; sheet = sheet; text = [] }

-- the media rule whose prelude an edit made, as it is told. That it is there is in `IsDone`.
abbrev pub media_told : List SheetEntry → Splice → Media
media_told book back = unwrap_or (found_media book back.sheet (edited_media book back)) (empty_media back.sheet)

-- ---- what edits come to

-- what was done: the book after it, the splices that lead back, in the order of the edits, and the result
pub record CssDone : Type 0 where
  pub book : List SheetEntry
  pub backs : List Splice
  pub body : ReplyBody

-- what was done, by its parts
abbrev pub css_done : List SheetEntry → List Splice → ReplyBody → CssDone
css_done book backs body = record { book = book; backs = backs; body = body }

-- what was done, or the first fault
abbrev pub CssEdited : Type 0
CssEdited = Result CssDone SheetFault

-- edits of the bodies of rules: the styles of these rules after all of them
abbrev pub styles_done : List RulePlace → EditsOutcome → CssEdited
styles_done rules (Ok made) = Ok (css_done made.0 made.1 (body.Styles (map (λ p. (told_at made.0 p).style) rules)))
styles_done rules (Err f) = Err f

-- one edit, of which a result tells the rule that it made
abbrev pub one_done : (Rule → ReplyBody) → Result (List SheetEntry × Splice) SheetFault → CssEdited
one_done told (Ok made) = Ok (css_done made.0 (made.1 ∷ []) (told (told_at made.0 (edited_rule made.0 made.1))))
one_done told (Err f) = Err f

-- an edit of the prelude of a media rule: the media rule with its new prelude
abbrev pub media_done : Result (List SheetEntry × Splice) SheetFault → CssEdited
media_done (Ok made) = Ok (css_done made.0 (made.1 ∷ []) (body.Media (media_told made.0 made.1)))
media_done (Err f) = Err f

-- `CSS.setStyleTexts`
abbrev pub styles_set : List TextEdit → List SheetEntry → CssEdited
styles_set edits book = styles_done (edited_rules (map style_edit edits) book) (styles_edited (map style_edit edits) book)

-- the edit of `CSS.setRuleSelector`
abbrev pub selector_edited : List ℕ → SourceRange → List ℕ → List SheetEntry → Result (List SheetEntry × Splice) SheetFault
selector_edited sheet range selector book = edited book (selector_splice (number_named sheet) (line_range range) selector book)

-- the edit of `CSS.setStyleSheetText`
abbrev pub text_edited : List ℕ → List ℕ → List SheetEntry → Result (List SheetEntry × Splice) SheetFault
text_edited sheet text book = edited book (text_splice (number_named sheet) text book)

-- the edit of `CSS.addRule`
abbrev pub rule_edited : List ℕ → List ℕ → SourceRange → List SheetEntry → Result (List SheetEntry × Splice) SheetFault
rule_edited sheet rule_text location book = edited book (rule_splice (number_named sheet) (line_range location) rule_text book)

-- the edit of `CSS.setMediaText`
abbrev pub media_edited : List ℕ → SourceRange → List ℕ → List SheetEntry → Result (List SheetEntry × Splice) SheetFault
media_edited sheet range text book = edited book (media_splice (number_named sheet) (line_range range) text book)

-- each command
abbrev pub css_edited : List SheetEntry → CssEdit → CssEdited
css_edited book (edit.SetStyleTexts edits) = styles_set edits book
css_edited book (edit.SetRuleSelector sheet range selector) = one_done (λ r. body.Selectors r.selectors)
    (selector_edited sheet range selector book)
css_edited book (edit.SetStyleSheetText sheet text) = one_done (λ r. body.Nothing) (text_edited sheet text book)
css_edited book (edit.AddRule sheet rule_text location) = one_done (λ r. body.Rule r) (rule_edited sheet rule_text location book)
css_edited book (edit.SetMediaText sheet range text) = media_done (media_edited sheet range text book)

-- ---- what is told of them

-- the text of the sheet with that id; empty where there is none
abbrev pub text_under : ℕ → List SheetEntry → List ℕ
text_under id book = unwrap_or (option_map (λ e. e.text) (entry_of id book)) []

-- the splice of one edit, if it has no fault
abbrev pub one_splice : Found → List Splice
one_splice (Ok s) = s ∷ []
one_splice (Err f) = []

-- the splice of a first edit, and those of the rest in the book that it leaves; none from the first fault on
abbrev pub splices_on : Found → List SheetEntry → (List SheetEntry → List Splice) → List Splice
splices_on (Ok s) book rest = s ∷ rest (after_splice s book)
splices_on (Err f) book rest = []

-- the splices of edits of the bodies of rules, each in the book that the earlier ones left
unfoldable pub style_splices : List StyleEdit → List SheetEntry → List Splice
style_splices [] book = []
style_splices (x ∷ xs) book = splices_on (style_splice x book) book (λ next. style_splices xs next)

-- the splices that each command comes to, one for each edit
abbrev pub css_splices : List SheetEntry → CssEdit → List Splice
css_splices book (edit.SetStyleTexts edits) = style_splices (map style_edit edits) book
css_splices book (edit.SetRuleSelector sheet range selector) =
    one_splice (selector_splice (number_named sheet) (line_range range) selector book)
css_splices book (edit.SetStyleSheetText sheet text) = one_splice (text_splice (number_named sheet) text book)
css_splices book (edit.AddRule sheet rule_text location) =
    one_splice (rule_splice (number_named sheet) (line_range location) rule_text book)
css_splices book (edit.SetMediaText sheet range text) = one_splice (media_splice (number_named sheet) (line_range range) text book)

-- the move that tells that the sheet of that id was edited, and has the text that it has in this book
abbrev pub rewritten_in : List SheetEntry → ℕ → Move
rewritten_in book id = rewritten id (text_under id book)

-- the moves that tell splices, each in the book that the earlier ones left
abbrev pub splice_moves : List Splice → List SheetEntry → List Move
splice_moves [] book = []
splice_moves (s ∷ ss) book = rewritten_in (after_splice s book) s.sheet ∷ splice_moves ss (after_splice s book)

-- moves, and the reply behind them to the command with that id; none on a fault
abbrev pub moves_with_reply : ℕ → List Move → CssEdited → List Move
moves_with_reply id told (Ok d) = told ++ replied id d.body ∷ []
moves_with_reply id told (Err f) = []

-- the moves that tell an edit: one for each splice, and the reply
abbrev pub edit_moves : ℕ → List SheetEntry → CssEdit → List Move
edit_moves id book x = moves_with_reply id (splice_moves (css_splices book x) book) (css_edited book x)

-- the book after an edit and the splices that lead back
abbrev pub edit_splices : CssEdited → EditsOutcome
edit_splices (Ok d) = Ok (d.book, d.backs)
edit_splices (Err f) = Err f
