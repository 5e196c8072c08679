-- What each command of the domain CSS that edits nothing comes to: a result, or why it is refused. The page's tree, the numbers,
-- origins and texts of the book's sheets, and the medium tell it.
use Rattle.std.specs.Prelude.{ℕ, List, option_and_then, Option, Some, None, IsSome, Result, Ok, Err, ⊤}
use Rattle.css_objects.specs.Sheets.{sheet_in}
use Rattle.node_tree.specs.Nodes.{Branch}
use Rattle.page_tree.specs.Pages.{PageRow, find_in}
use Rattle.page_tree.specs.Zippers.{zipper_at}
use Rattle.sheet_reader.specs.declared.book.SheetEntry.{SheetEntry}
use Rattle.sheet_reader.specs.Books.{entry_of}
use Rattle.cdp_messages.specs.declared.command.Command.{Command}
use Rattle.cdp_messages.specs.declared.command.Command.TheVariants.{AskCss}
use Rattle.cdp_messages.specs.declared.command.Why.{Why}
use Rattle.cdp_messages.specs.declared.command.Why.TheVariants.{NoSheet}
use Rattle.cdp_messages.specs.declared.down.ReplyBody.{ReplyBody}
use Rattle.cdp_messages.specs.declared.down.ReplyBody.TheVariants as body
use Rattle.cdp_messages.specs.Moves.{Move, replied, failed}
use Rattle.cdp_messages.specs.declared.css_ask.CssAsk.{CssAsk}
use Rattle.cdp_messages.specs.declared.css_ask.CssAsk.TheVariants as ask
use Rattle.media_rules.specs.declared.medium.Medium.{Medium}
use Rattle.css_agent.specs.ClassNames.{class_names}
use Rattle.css_agent.specs.MatchedStyles.{matched_styles}

-- what the agent is asked by a command, if it is one that edits nothing
abbrev pub css_ask_in : Command → Option CssAsk
css_ask_in (AskCss a) = Some a
css_ask_in _ = None

-- the sheet of the book whose id has this text, if it has one
abbrev pub sheet_named : List ℕ → List SheetEntry → Option SheetEntry
sheet_named text book = option_and_then (λ id. entry_of id book) (sheet_in text)

-- a page as its styles are told: its tree, its sheets in their order, and the medium that it is shown on
pub record StyledPage : Type 0 where
  pub tree : Branch PageRow
  pub book : List SheetEntry
  pub medium : Medium

abbrev pub styled_page : Branch PageRow → List SheetEntry → Medium → StyledPage
styled_page tree book medium = record { tree = tree; book = book; medium = medium }

-- what a command comes to
abbrev pub CssOutcome : Type 0
CssOutcome = Result ReplyBody Why

-- what is told of the sheet, if there is one
abbrev pub if_sheet : (SheetEntry → ReplyBody) → Option SheetEntry → CssOutcome
if_sheet told None = Err NoSheet
if_sheet told (Some e) = Ok (told e)

-- the node that the command asks for is one of the tree: that with this serial
abbrev pub NodeIsThere : ℕ → Branch PageRow → CssAsk → Type 0
NodeIsThere node tree (ask.GetMatchedStyles id) = IsSome (find_in node tree)
NodeIsThere node tree (ask.GetStyleSheetText sheet) = ⊤
NodeIsThere node tree (ask.CollectClassNames sheet) = ⊤

-- each command, where the node that it asks for, if it asks for one, has this serial in the page
abbrev pub css_outcome : StyledPage → ℕ → CssAsk → CssOutcome
css_outcome page node (ask.GetMatchedStyles id) = Ok (body.Matched (matched_styles page.medium page.book (zipper_at node page.tree)))
css_outcome page node (ask.GetStyleSheetText sheet) = if_sheet (λ e. body.SheetText e.text) (sheet_named sheet page.book)
css_outcome page node (ask.CollectClassNames sheet) =
    if_sheet (λ e. body.ClassNames (class_names e.text)) (sheet_named sheet page.book)

-- the move that answers the command with that id
abbrev pub answer_move : ℕ → CssOutcome → Move
answer_move id (Ok result) = replied id result
answer_move id (Err why) = failed (record { id = Some id; why = why })
