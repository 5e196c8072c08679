-- What each form of a line that is carried out keeps: what is loaded, changed and sent may be.
use Rattle.std.specs.Prelude.{◌≡◌, ◌≢◌, All, ℕ, List, codes, Bool, true, Option, Some, None, option_and_then, Err, IsTrue, IsUtf8}
use Rattle.std.specs.Prelude.{option_map, ⊤}
use Rattle.serde_json.specs.Find.{get_member, as_object}
use Rattle.serde_json.specs.View.{view}
use Rattle.cdp_json.specs.Kinds.{as_whole, is_counted, holds_of_some}
use Rattle.cdp_json.specs.Plain.{is_plain}
use Rattle.page_forms.specs.Acts.{IsInsertable}
use Rattle.page_forms.specs.Pages.{LoadedPage, CanLoadPage, loaded_page}
use Rattle.page_forms.specs.Texts.{PageHasTexts, ActHasTexts}
use Rattle.page_forms.specs.declared.acts.Act.{Act}
use Rattle.cdp_messages.specs.Asked.{json_of, asked, refusal, command_value, command_text, is_whole_where_there}
use Rattle.cdp_messages.specs.Laws.{Shallow}
use Rattle.cdp_messages.specs.declared.command.Why.{Why}
use Rattle.replay_script.specs.declared.forms.Line.{Line}
use Rattle.replay_script.specs.declared.forms.Line.TheVariants as line
use Rattle.replay_script.specs.Forms.{AskForm, LineForm, load, act, ask, raw, up, down, settle, show_front, show_page, show_sheets}
use Rattle.replay_script.specs.Forms.{show_replies, show_pauses, show_panels, show_styles, close, line_form}
use Rattle.replay_script.specs.Faults.{line_fault}

-- ---- a load and an act

-- a page may hold these nodes and sheets, and their texts are UTF-8
pub record IsSoundLoad (page : LoadedPage) : Type 0 where
  pub can : CanLoadPage page
  pub texts : PageHasTexts page

-- the new nodes of an act may be inserted, and its texts are UTF-8
pub record IsSoundAct (a : Act) : Type 0 where
  pub insertable : IsInsertable a
  pub texts : ActHasTexts a

-- ---- an ask

-- The ask's parameters and its session are JSON that is written and read again as it is: plain, UTF-8, and not too deep.
pub record CanSend (a : AskForm) : Type 0 where
  pub params : holds_of_some is_plain a.params ≡ true
  pub session : holds_of_some is_plain a.session ≡ true
  pub shallow : (id : ℕ) → Shallow (command_value id a.method a.params a.session)
  pub texts : (id : ℕ) → is_counted id ≡ true → IsUtf8 (command_text id a.method a.params a.session)

-- ---- a raw text

-- the id of the object that the bytes read as, if it is a number of an ask
abbrev pub ask_id_in : List ℕ → Option ℕ
ask_id_in frame = option_and_then (λ ms. option_and_then as_whole (get_member (codes "id") ms)) (option_and_then as_object (json_of frame))

-- a frame that no ask can be, and that is refused without an id
pub record NamesNoAsk (frame : List ℕ) : Type 0 where
  pub no_id : ask_id_in frame ≡ None
  pub why : Why
  pub refused : (own : Bool) → asked frame own ≡ Err (refusal None why)

-- a text that may be sent as it is: it has no zero byte, and names no ask
pub record IsSoundFrame (text : List ℕ) : Type 0 where
  pub no_zero : All (λ byte. byte ≢ 0) text
  pub no_ask : NamesNoAsk text

-- ---- any line

-- what may be done with the form
abbrev pub IsSound : LineForm → Type 0
IsSound (load page) = IsSoundLoad page
IsSound (act a) = IsSoundAct a
IsSound (ask a) = CanSend a
IsSound (raw text) = IsSoundFrame text
IsSound (up n) = ⊤
IsSound (down n) = ⊤
IsSound settle = ⊤
IsSound show_front = ⊤
IsSound show_page = ⊤
IsSound show_sheets = ⊤
IsSound show_replies = ⊤
IsSound show_pauses = ⊤
IsSound show_panels = ⊤
IsSound (show_styles k) = ⊤
IsSound (close k) = ⊤

-- each line that is not refused has such a form
abbrev pub FormsAreSound : Type 0
FormsAreSound = (number : ℕ) (line : List ℕ) (form : LineForm)
    → line_fault number line ≡ None → line_form line ≡ Some form → IsSound form

-- a first line that is not refused loads a page
abbrev pub FirstIsLoad : Type 0
FirstIsLoad = (line : List ℕ) (form : LineForm)
    → line_fault 1 line ≡ None → line_form line ≡ Some form → (page : LoadedPage) × (form ≡ load page)

-- ---- the same of what is read

-- a page may take it: a load's nodes and sheets, and the new nodes of an act
abbrev pub FitsPage : Line → Type 0
FitsPage (line.Load page) = CanLoadPage (loaded_page page)
FitsPage (line.Act a) = IsInsertable a
FitsPage (line.Ask a) = ⊤
FitsPage (line.Raw text) = ⊤
FitsPage (line.Up n) = ⊤
FitsPage (line.Down n) = ⊤
FitsPage line.Settle = ⊤
FitsPage line.ShowFront = ⊤
FitsPage line.ShowPage = ⊤
FitsPage line.ShowSheets = ⊤
FitsPage line.ShowReplies = ⊤
FitsPage line.ShowPauses = ⊤
FitsPage line.ShowPanels = ⊤
FitsPage (line.ShowStyles k) = ⊤
FitsPage (line.Close k) = ⊤

-- each number in the JSON of an ask is whole
abbrev pub AreWhole : Line → Type 0
AreWhole (line.Load page) = ⊤
AreWhole (line.Act a) = ⊤
AreWhole (line.Ask a) =
    IsTrue (is_whole_where_there (option_map view a.params))
    × IsTrue (is_whole_where_there (option_map view a.session))
AreWhole (line.Raw text) = ⊤
AreWhole (line.Up n) = ⊤
AreWhole (line.Down n) = ⊤
AreWhole line.Settle = ⊤
AreWhole line.ShowFront = ⊤
AreWhole line.ShowPage = ⊤
AreWhole line.ShowSheets = ⊤
AreWhole line.ShowReplies = ⊤
AreWhole line.ShowPauses = ⊤
AreWhole line.ShowPanels = ⊤
AreWhole (line.ShowStyles k) = ⊤
AreWhole (line.Close k) = ⊤
