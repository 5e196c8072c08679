-- The state of a back end: the page's side, and what its client has of it.
use Rattle.std.specs.Prelude.{◌≡◌, ℕ, ◌+◌, Bool, true, false, cond, List, [], length, None}
use Rattle.node_tree.specs.Nodes.{Nodes, alone}
use Rattle.node_tree.specs.Keys.{has}
use Rattle.page_tree.specs.Pages.{PageRow, row_serial, PageValue, IsValid, loaded}
use Rattle.shown_pages.specs.declared.modes.Mode.{Mode}
use Rattle.shown_pages.specs.declared.modes.Mode.TheVariants.{All}
use Rattle.shown_pages.specs.ShownPages.{shown_page}
use Rattle.node_binding.specs.Sessions.{Session, IsSession, begun}
use Rattle.client_views.specs.Views.{ShownSheet, View}
use Rattle.node_tree.specs.declared.watches.WatchKind.{WatchKind}
use Rattle.dom_breakpoints.specs.Watched.{Watched, unwatched, is_watched}
use Rattle.undo_marks.specs.Marks.{Marks, no_marks}
use Rattle.undo_marks.specs.Changes.{HistoryEntry as Entry, KeptFor, IsHistory}
use Rattle.undo_marks.specs.Saved.{Saved}
use Rattle.undo_marks.specs.SavedEdits.{saved_of, page_after, way_back, TakesEdit}
use Rattle.undo_marks.specs.declared.inverse_lists.Inverse.{Inverse}
use Rattle.dom_agent.specs.Laws.{RowsHaveUtf8, session_view as seen_by}
use Rattle.page_forms.specs.Pages.{LoadedPage}
use Rattle.sheet_reader.specs.declared.book.SheetEntry.{SheetEntry}
use Rattle.media_rules.specs.declared.medium.Medium.{Medium}
use Rattle.css_agent.specs.Asks.{StyledPage, styled_page}
use Rattle.dom_search.specs.Searches.{Kept as Searched, no_searches}
use Rattle.back_end.specs.Sheets.{as_book, numbered_sheets, AreSheetsBelow}
use Rattle.back_end.specs.Texts.{KeptHasTexts}

-- ---- states

-- The page's side: what the page is, whoever inspects it. Its sheets stand in their order; the next new one gets the number
-- `next_sheet`. It is shown on the medium.
pub record Side : Type 0 where
  pub page : PageValue
  pub sheets : List ShownSheet
  pub next_sheet : ℕ
  pub medium : Medium

-- What one client has of the page: which domains are on, which nodes it is shown, what is opened and the ids, the watched nodes, the
-- history of its edits, by the pages before and after each, and what its searches found.
pub record Client : Type 0 where
  pub dom_on : Bool
  pub css_on : Bool
  pub mode : Mode
  pub session : Session
  pub watched : Watched
  pub marks : Marks (Entry Saved Inverse)
  pub searches : Searched

-- the page's side and its client
pub record State : Type 0 where
  pub side : Side
  pub client : Client

-- the page's nodes, the document first
abbrev pub page_nodes : State → Nodes PageRow
page_nodes state = alone state.side.page.tree

-- the page as its client is shown it
abbrev pub page_shown : State → PageValue
page_shown state = shown_page state.client.mode state.side.page

-- the nodes that the client is shown, the document first
abbrev pub nodes_shown : State → Nodes PageRow
nodes_shown state = alone (page_shown state).tree

-- the page's sheets as a book
abbrev pub book_in : State → List SheetEntry
book_in state = as_book state.side.sheets

-- the page as its styles are told
abbrev pub styled_in : State → StyledPage
styled_in state = styled_page state.side.page.tree (book_in state) state.side.medium

-- the sheets that the client was told of: the page's while the domain CSS is on
abbrev pub sheets_shown : State → List ShownSheet
sheets_shown state = cond state.client.css_on state.side.sheets []

-- what the client sees: the page as it is shown, cut to the opened nodes, with their ids; and the sheets
abbrev pub view_of : State → View
view_of state = seen_by state.client.session (page_shown state) (sheets_shown state)

-- a client that has asked for nothing yet; it is shown all nodes
abbrev pub new_client : Client
new_client = record {
  dom_on = false;
  css_on = false;
  mode = All;
  session = begun;
  watched = unwatched;
  marks = no_marks;
  searches = no_searches;
}

-- a page that is loaded, whose serials and numbers of sheets go on from these
abbrev pub loaded_side : ℕ → ℕ → LoadedPage → Side
loaded_side serial number page = record {
  page = loaded serial page.nodes;
  sheets = numbered_sheets number page.sheets;
  next_sheet = number + length page.sheets;
  medium = page.medium;
}

-- a page that was just loaded, with serials and numbers of sheets from 1 on; nothing is known of it
abbrev pub loaded_state : LoadedPage → State
loaded_state page = record { side = loaded_side 1 1 page; client = new_client }

-- ---- valid states

-- each watched node is one of these
abbrev pub AreAmong : Watched → Nodes PageRow → Type 0
AreAmong w n = (kind : WatchKind) (serial : ℕ) → is_watched kind w serial ≡ true → has row_serial serial n ≡ true

-- What holds of a state at each moment, in the midst of a command too: the page is valid and its texts are UTF-8, and so are its
-- sheets; the session is one of the page as it is shown; while DOM is off, CSS is off, nothing is known and all nodes are shown; each
-- watched node is one that is shown, and where nothing is known none is watched.
pub record HoldsNow (state : State) : Type 0 where
  pub page : IsValid state.side.page
  pub texts : RowsHaveUtf8 (page_nodes state)
  pub sheets : AreSheetsBelow state.side.next_sheet state.side.sheets
  pub session : IsSession (nodes_shown state) state.client.session
  pub off : state.client.dom_on ≡ false → state.client.session.opened ≡ None
  pub css_off : state.client.dom_on ≡ false → state.client.css_on ≡ false
  pub all_shown : state.client.dom_on ≡ false → state.client.mode ≡ All
  pub watched : AreAmong state.client.watched (nodes_shown state)
  pub none_watched : state.client.session.opened ≡ None → state.client.watched ≡ unwatched

-- ---- the history of a client's edits

-- what a history saves of the page: its tree, and the numbers and texts of its sheets
abbrev pub saved_now : State → Saved
saved_now state = saved_of state.side.page.tree (book_in state)

-- An edit, and a saved page on which it was made: a page of that next serial takes the edit, and all texts of both are UTF-8.
pub record TakesWell (next : ℕ) (e : Inverse) (page : Saved) : Type 0 where
  pub taken : TakesEdit next e page
  pub texts : RowsHaveUtf8 (alone page.tree)
  pub own : KeptHasTexts e

-- The edits of the history lead through its saved pages to the page as it is, and those taken back on from there.
abbrev pub HasHistory : State → Type 0
HasHistory state = IsHistory page_after (TakesWell state.side.page.next) state.client.marks (saved_now state)

-- Edits are kept in place of the saved pages of the state's history.
abbrev pub Keeps : Marks Inverse → State → Type 0
Keeps kept state = KeptFor page_after way_back (TakesWell state.side.page.next) kept state.client.marks (saved_now state)

-- What always holds of a state: what holds of it at each moment, and its history leads to it.
pub record IsState (state : State) : Type 0 where
  pub now : HoldsNow state
  pub history : HasHistory state
