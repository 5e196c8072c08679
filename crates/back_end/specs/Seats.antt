-- A seat with its side that stands for a state.
use Rattle.std.specs.Prelude.{◌≡◌, ℕ, ◌+◌, ◌<◌, Bool, true, false, cond, [], Option, Some, None, is_some}
use Rattle.node_tree.specs.Numbers.{drawn_before_step, kept_before_step}
use Rattle.node_tree.specs.Nodes.{Nodes, none}
use Rattle.node_tree.specs.Keys.{has}
use Rattle.page_tree.specs.Pages.{PageRow, row_serial}
use Rattle.node_binding.specs.Bindings.{BindingValue, Stands, in_mode}
use Rattle.node_tree.specs.declared.watches.WatchKind.TheVariants.{Subtree, Attribute, Removed}
use Rattle.dom_breakpoints.specs.declared.pauses.Pause.{Pause}
use Rattle.dom_breakpoints.specs.Watched.{Watched, is_watched}
use Rattle.page_forms.specs.declared.pages.PageForm.{PageForm}
use Rattle.page_forms.specs.Pages.{LoadedPage, loaded_page}
use Rattle.page_forms.specs.Mediums.{usual_medium}
use Rattle.undo_marks.specs.Marks.{Marks, entry_count}
use Rattle.undo_marks.specs.declared.inverse_lists.Inverse.{Inverse}
use Rattle.back_end.specs.States.{State, HoldsNow, Keeps, nodes_shown, book_in}
use Rattle.dom_search.specs.Searches.{next_search}
use Rattle.cdp_messages.specs.declared.command.WhitespaceWord.{WhitespaceWord}
use Rattle.back_end.specs.Steps.{mode_asked}
use Rattle.back_end.specs.declared.desk.Desk.{Desk}
use Rattle.back_end.specs.declared.seat.Seat.{Seat}
use Rattle.back_end.specs.declared.side.PageSide.{PageSide}

-- The page and its sheets are the state's, and each domain is on where it is on in the state; the agent shows the nodes that the mode
-- of the state shows, and its binding has the session; the watches and what was found are the state's. Of the history nothing is said.
pub record DeskStandsFor (desk : Desk) (side : PageSide) (state : State) : Type 0 where
  pub now : HoldsNow state
  pub page_is : side.page ≡ state.side.page
  pub sheets_are : side.sheets.entries ≡ book_in state
  pub next_is : side.sheets.next ≡ state.side.next_sheet
  pub medium_is : side.sheets.medium ≡ state.side.medium
  pub on_is : desk.is_on ≡ state.client.dom_on
  pub css_is : desk.css ≡ state.client.css_on
  pub mode_is : desk.agent.mode ≡ state.client.mode
  pub stands : Stands (nodes_shown state) state.client.session desk.agent
  pub watches_are : desk.watches ≡ state.client.watched
  pub searches_are : desk.searches ≡ state.client.searches

-- a desk with its side and a history stand for a state: the history keeps the edits of the state's
pub record BothStandFor (desk : Desk) (history : Marks Inverse) (side : PageSide) (state : State) : Type 0 where
  pub stands : DeskStandsFor desk side state
  pub kept : Keeps history state

-- a seat with its side stands for a state
abbrev pub StandsFor : Seat → PageSide → State → Type 0
StandsFor seat side state = BothStandFor seat.desk seat.history side state

-- a seat that is not dead stands for some state, whichever
abbrev pub IsSeated : Seat → PageSide → Type 0
IsSeated seat side = seat.is_dead ≡ false → ∥ ((state : State) × StandsFor seat side state) ∥₁

-- ids, serials and numbers of sheets and searches are left for a step
pub record HasNumbersLeft (desk : Desk) (side : PageSide) : Type 0 where
  pub ids : desk.agent.next < drawn_before_step
  pub serials : side.page.next < drawn_before_step
  pub sheets : side.sheets.next < drawn_before_step
  pub searches : next_search desk.searches < drawn_before_step

-- how many edits a history has
abbrev pub edits_in : Marks Inverse → ℕ
edits_in history = entry_count history.past + entry_count history.future

-- ids, serials, numbers of sheets and searches, and places in the history are left for a step
pub record HasRoomLeft (seat : Seat) (side : PageSide) : Type 0 where
  pub numbers : HasNumbersLeft seat.desk side
  pub edits : edits_in seat.history < kept_before_step

-- ---- which nodes are shown

-- the agent of a client whose DOM comes on: where it was off, it is in the mode that is asked for
abbrev pub enabled_agent : Bool → Option WhitespaceWord → BindingValue → BindingValue
enabled_agent was word b = cond was b (in_mode (mode_asked word) b)

-- ---- nodes that become known

-- something is opened, so that nodes can become known
abbrev pub HasBegun : State → Type 0
HasBegun state = is_some state.client.session.opened ≡ true

-- the pauses by each kind of watch
abbrev pub attribute_pause : ℕ → Pause
attribute_pause node = record { kind = Attribute; node = node; target = None; insertion = false }

-- the pause by a watch of a node that goes
abbrev pub removal_pause : ℕ → Pause
removal_pause node = record { kind = Removed; node = node; target = None; insertion = false }

-- the pause by a watch of what is below a node
abbrev pub subtree_watch_pause : ℕ → ℕ → Bool → Pause
subtree_watch_pause node target insertion = record { kind = Subtree; node = node; target = Some target; insertion = insertion }

-- A pause by a watch of the edited node itself, or by a subtree watch, of which the target is a node of the page
pub data IsPause (w : Watched) (n : Nodes PageRow) : Pause → Type 0 where
  by_attribute : (s : ℕ) → is_watched Attribute w s ≡ true → IsPause w n (attribute_pause s)
  by_removal : (s : ℕ) → is_watched Removed w s ≡ true → IsPause w n (removal_pause s)
  by_subtree : (s target : ℕ) (insertion : Bool) → is_watched Subtree w s ≡ true → has row_serial target n ≡ true
      → IsPause w n (subtree_watch_pause s target insertion)

-- ---- the first page

-- the page that is loaded first: without one that of a document alone, with no sheets
abbrev pub first_page : Option PageForm → LoadedPage
first_page None = record { nodes = none; medium = usual_medium; sheets = [] }
first_page (Some page) = loaded_page page
