-- While a script is carried out, the whole streams between the ends stay such that the front end's fold meets no fault, and
-- shows exactly what the client sees of the page.
use Rattle.std.specs.Prelude.{◌≡◌, ℕ, ◌≤◌, List, [], ◌∷◌, length, take, map, All, Ok, ⊤, ◌+◌}
use Rattle.page_forms.specs.Pages.{LoadedPage, CanLoadPage}
use Rattle.replay_script.specs.Forms as forms
use Rattle.replay_script.specs.Forms.{LineForm, load, ask, up, down, settle, show_front, show_page, show_sheets, show_replies}
use Rattle.replay_script.specs.Forms.{show_pauses, show_panels, show_styles, close}
use Rattle.replay_script.specs.Script.{script_forms}
use Rattle.pipe_frames.specs.Frames.{IsText, frames_of}
use Rattle.front_mirror.specs.Front.{FrontValue, first_value, take_frame}
use Rattle.front_mirror.specs.declared.panels.PanelKind.{PanelKind}
use Rattle.front_mirror.specs.Laws.{Has}
use Rattle.session_runs.specs.Stream.{held}
use Rattle.session_runs.specs.World.{delivered_up, delivered_down, settled}
use Rattle.inspect_world.specs.World.{World, raw, turned}
use Rattle.session_runs.specs.Fold.{folded, asks_joined}
use Rattle.page_forms.specs.Texts.{PageHasTexts}
use Rattle.back_end.specs.States.{view_of}
use Rattle.back_end.specs.Steps.{Turn, acts, loads}
use Rattle.inspect_world.specs.RunStates.{RunState, run_step, run_turn}
use Rattle.inspect_world.specs.ShownPauses.{pauses_in}
use Rattle.front_mirror.specs.Front.{seen_pause}
use Rattle.back_end.specs.Laws.{IsTurn, Restores}
use Rattle.inspect_world.specs.Fits.{join, most_bytes, most_frames, IsBare, IsPlainFrame, IsNextTurn, kept_styles, Fits}
use Rattle.inspect_world.specs.ShownReplies.{reply_shown, replies_in}
use Rattle.inspect_world.specs.Costs.{lines_cost}
use Rattle.inspect_world.specs.Scripts.{loaded_world, after_lines}
use Rattle.replay_script.specs.Sound.{CanSend}

-- a line that may come after the load
abbrev pub IsLater : LineForm → Type 0
IsLater (load page) = IsTurn (loads page)
IsLater (forms.act a) = IsTurn (acts a)
IsLater (ask a) = CanSend a
IsLater (forms.raw text) = IsText text × IsBare text
IsLater (up n) = ⊤
IsLater (down n) = ⊤
IsLater settle = ⊤
IsLater show_front = ⊤
IsLater show_page = ⊤
IsLater show_sheets = ⊤
IsLater show_replies = ⊤
IsLater show_pauses = ⊤
IsLater show_panels = ⊤
IsLater (show_styles k) = ⊤
IsLater (close k) = ⊤

-- lines that may come after the load
abbrev pub AreLater : List LineForm → Type 0
AreLater [] = ⊤
AreLater (line ∷ lines) = IsLater line × AreLater lines

-- with panels of any kinds, and after any number of lines, the two whole streams fit the state of the page
abbrev pub FitThroughout : LoadedPage → List LineForm → Type 0
FitThroughout page lines = (kinds : List PanelKind) (n : ℕ) → Fits (after_lines (take n lines) (loaded_world kinds page))

-- with any page and any lines that a script can have
abbrev pub LinesFit : Type 0
LinesFit = (page : LoadedPage) (lines : List LineForm) → CanLoadPage page → PageHasTexts page → AreLater lines
    → lines_cost lines ≤ most_bytes → FitThroughout page lines

-- with each input that a replay reads
abbrev pub InputsFit : Type 0
InputsFit = (input : List ℕ) (page : LoadedPage) (lines : List LineForm) → script_forms input ≡ load page ∷ lines
    → length input ≤ most_bytes → FitThroughout page lines

-- With each input that a replay reads, and after any number of its lines: an undo restores the very tree and texts from before the
-- newest group of a client's edits that is kept, and a redo those after the group that was taken back last; without a fault.
abbrev pub UndoRestoresInRuns : Type 0
UndoRestoresInRuns = (input : List ℕ) (page : LoadedPage) (lines : List LineForm) → script_forms input ≡ load page ∷ lines
    → length input ≤ most_bytes → (kinds : List PanelKind) (n : ℕ)
    → Restores (after_lines (take n lines) (loaded_world kinds page)).state.back

-- a frame that names no ask is sent, whatever is on its way
abbrev pub BareFramesFit : Type 0
BareFramesFit = (w : World RunState) (text : List ℕ) → IsText text → IsBare text → w.spent.asks + w.spent.raws + 1 ≤ most_frames
    → Fits w → Fits (raw text w)

-- the script makes a step by itself, whatever is on its way
abbrev pub TurnsFit : Type 0
TurnsFit = (w : World RunState) (x : Turn) → IsNextTurn w.spent x → Fits w → Fits (turned run_turn x w)

-- bytes come in any pieces
abbrev pub DeliveriesFit : Type 0
DeliveriesFit = (w : World RunState) (n : ℕ) → Fits w → Fits (delivered_up run_step n w) × Fits (delivered_down n w)

-- A front end that has sent all that the up pipe has given, and has taken all that the down pipe has given, shows exactly what
-- the client sees of the page; it waits for no reply, and holds no part of a frame. It has kept just the pauses that came down, and
-- the matched styles that the client was told. Where no frame that it sent is a fetch, it has kept just the replies that came down;
-- replies to fetches are not kept.
pub record ShowsAll (w : World RunState) : Type 0 where
  pub front : FrontValue
  pub is_fold : folded take_frame (asks_joined join (first_value []) (frames_of w.up.given).whole) (frames_of w.down.given).whole ≡ Ok front
  pub shows : Has front (view_of w.state.back)
  pub told : All IsPlainFrame (frames_of w.up.given).whole → map reply_shown front.replies ≡ replies_in w.down.given
  pub pauses : front.pauses ≡ map seen_pause (pauses_in w.down.given)
  pub styles : map kept_styles front.matched ≡ w.state.styles
  pub waits : front.asks ≡ []
  pub whole : held w.down ≡ []

-- once all that is on its way has come
abbrev pub SettledShows : Type 0
SettledShows = (w : World RunState) → Fits w → ShowsAll (settled run_step w)
