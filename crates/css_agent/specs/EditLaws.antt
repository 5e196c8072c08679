-- What always holds of a client's edit of sheets that has no fault.
use Rattle.std.specs.Prelude.{◌≡◌, ℕ, List, [], ◌∷◌, All, map, length, Some, true, false, Ok, ⊤}
use Rattle.std.specs.Str.{IsUtf8}
use Rattle.cdp_json.specs.Kinds.{is_counted}
use Rattle.cdp_messages.specs.declared.command.Command.TheVariants.{EditCss}
use Rattle.cdp_messages.specs.declared.down.ReplyBody.{ReplyBody}
use Rattle.cdp_messages.specs.declared.edits.TextEdit.{TextEdit}
use Rattle.cdp_messages.specs.Asked.{method_name}
use Rattle.cdp_messages.specs.Laws.{answers}
use Rattle.cdp_messages.specs.Results.{Tale, no_result, document, sheet_text, new_styles, matched_styles, answer_alone, tale_of}
use Rattle.client_views.specs.Moves.{IsPlainReply}
use Rattle.sheet_reader.specs.declared.book.SheetEntry.{SheetEntry}
use Rattle.sheet_reader.specs.Books.{IsStored}
use Rattle.style_edits.specs.declared.rule_places.RulePlace.{RulePlace}
use Rattle.style_edits.specs.declared.splice.Splice.{Splice}
use Rattle.style_edits.specs.Splices.{after_splice, back_splice, after_splices, TakesSplice}
use Rattle.style_edits.specs.EditedRules.{edited_rule, edited_rules}
use Rattle.style_edits.specs.MediaEdits.{edited_media}
use Rattle.cdp_messages.specs.declared.css_edit.CssEdit.{CssEdit}
use Rattle.cdp_messages.specs.declared.css_edit.CssEdit.TheVariants as edit
use Rattle.css_agent.specs.Edits.{style_edit, found_at, told_at, found_media, media_told, CssDone, css_edited, css_splices}

-- ---- of the command

-- the edit of a style rule's body has a text
abbrev pub HasEditText : TextEdit → Type 0
HasEditText x = IsUtf8 x.text

-- the texts that the edit puts into sheets are UTF-8
abbrev pub HasEditTexts : CssEdit → Type 0
HasEditTexts (edit.SetStyleTexts edits) = All HasEditText edits
HasEditTexts (edit.SetRuleSelector sheet range selector) = IsUtf8 selector
HasEditTexts (edit.SetStyleSheetText sheet text) = IsUtf8 text
HasEditTexts (edit.AddRule sheet rule_text location) = IsUtf8 rule_text
HasEditTexts (edit.SetMediaText sheet range text) = IsUtf8 text

-- the name of the method of an edit
abbrev pub css_edit_name : CssEdit → List ℕ
css_edit_name x = method_name (EditCss x)

-- how many edits it makes
abbrev pub edit_count : CssEdit → ℕ
edit_count (edit.SetStyleTexts edits) = length edits
edit_count (edit.SetRuleSelector sheet range selector) = 1
edit_count (edit.SetStyleSheetText sheet text) = 1
edit_count (edit.AddRule sheet rule_text location) = 1
edit_count (edit.SetMediaText sheet range text) = 1

-- ---- of its splices

-- each can be made in the book that the earlier ones left
abbrev pub AllTake : List Splice → List SheetEntry → Type 0
AllTake [] book = ⊤
AllTake (s ∷ ss) book = TakesSplice s book × AllTake ss (after_splice s book)

-- the splices that lead back, each to the book that its splice was made in
abbrev pub back_splices : List Splice → List SheetEntry → List Splice
back_splices [] book = []
back_splices (s ∷ ss) book = back_splice s book ∷ back_splices ss (after_splice s book)

-- ---- of what is told

-- new styles are so many
abbrev pub HasStyles : ℕ → Tale → Type 0
HasStyles n no_result = ⊤
HasStyles n (document tree) = ⊤
HasStyles n (sheet_text text) = ⊤
HasStyles n (new_styles styles) = length styles ≡ n
HasStyles n (matched_styles matched) = ⊤
HasStyles n answer_alone = ⊤

-- a result that tells styles tells so many
abbrev pub TellsStyles : ℕ → ReplyBody → Type 0
TellsStyles n body = HasStyles n (tale_of body)

-- what is told of that place is the style rule that stands there
abbrev pub IsRuleTold : List SheetEntry → RulePlace → Type 0
IsRuleTold book p = found_at book p ≡ Some (told_at book p)

-- what is told of the media rule that an edit made, of which this book is what it left and the splice the way back, is a media rule that
-- stands in the book
abbrev pub IsMediaTold : List SheetEntry → Splice → Type 0
IsMediaTold book back = found_media book back.sheet (edited_media book back) ≡ Some (media_told book back)

-- the style rule that a splice made is told as it stands in the book that the splice left
abbrev pub TellsMade : List SheetEntry → Splice → Type 0
TellsMade book s = IsRuleTold (after_splice s book) (edited_rule (after_splice s book) (back_splice s book))

-- what is told of the media rule whose prelude a splice made is a media rule that stands in the book that the splice left
abbrev pub TellsMedia : List SheetEntry → Splice → Type 0
TellsMedia book s = IsMediaTold (after_splice s book) (back_splice s book)

-- What is told of rules is so: of those whose bodies are edited, each as it stands after all of these edits; of one that is added; and of
-- a style rule or a media rule whose prelude is edited
abbrev pub TellsRules : List SheetEntry → CssEdit → CssDone → Type 0
TellsRules book (edit.SetStyleTexts edits) d = All (IsRuleTold d.book) (edited_rules (map style_edit edits) book)
TellsRules book (edit.SetRuleSelector sheet range selector) d =
    All (TellsMade book) (css_splices book (edit.SetRuleSelector sheet range selector))
TellsRules book (edit.SetStyleSheetText sheet text) d = ⊤
TellsRules book (edit.AddRule sheet rule_text location) d =
    All (TellsMade book) (css_splices book (edit.AddRule sheet rule_text location))
TellsRules book (edit.SetMediaText sheet range text) d =
    All (TellsMedia book) (css_splices book (edit.SetMediaText sheet range text))

-- ---- of an edit

-- what was done is what the edit's splices do, and is answered by a result of the edit's method that a message can spell
pub record IsDone (book : List SheetEntry) (x : CssEdit) (d : CssDone) : Type 0 where
  -- each splice can be made in the book that the earlier ones left
  pub taken : AllTake (css_splices book x) book
  -- the book after it is the book after these splices
  pub leads : d.book ≡ after_splices (css_splices book x) book
  -- each sheet of it is as a book has it
  pub stored : All IsStored d.book
  -- the splices that are answered lead back, each over its own splice
  pub backs : d.backs ≡ back_splices (css_splices book x) book
  -- there is one splice for each edit
  pub each : length (css_splices book x) ≡ edit_count x
  -- the result tells neither a document nor the text of a sheet, and a message can spell it
  pub plain : (id : ℕ) → is_counted id ≡ true → IsPlainReply id d.body
  -- it is a result of the edit's method
  pub answers : answers (css_edit_name x) d.body ≡ true
  -- and tells one style for each edit, where it tells styles
  pub styles : TellsStyles (edit_count x) d.body
  -- the rules that it tells of are there
  pub rules : TellsRules book x d

-- what was done is so for each edit of a book whose sheets are as a book has them
abbrev pub EditsAreDone : Type 0
EditsAreDone =
    (book : List SheetEntry) (x : CssEdit) (d : CssDone) → All IsStored book → HasEditTexts x → css_edited book x ≡ Ok d → IsDone book x d
