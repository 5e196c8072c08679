-- A page that was just loaded, and a client that has asked for nothing.
use Rattle.std.specs.Prelude.{◌≡◌, ◌+◌, false, true, length, map}
use Rattle.page_tree.specs.Pages.{loaded}
use Rattle.page_forms.specs.Pages.{LoadedPage, CanLoadPage}
use Rattle.page_forms.specs.Texts.{PageHasTexts}
use Rattle.client_views.specs.Views.{sheet_number, is_distinct}
use Rattle.node_binding.specs.Bindings.{empty_from}
use Rattle.dom_breakpoints.specs.Watched.{unwatched}
use Rattle.dom_search.specs.Searches.{no_searches}
use Rattle.undo_marks.specs.Marks.{no_marks}
use Rattle.back_end.specs.declared.seat.Seat.{Seat}
use Rattle.back_end.specs.declared.side.PageSide.{PageSide}
use Rattle.back_end.specs.Sheets.{as_book, numbered_sheets}
use Rattle.back_end.specs.States.{State, IsState, loaded_state}
use Rattle.back_end.specs.Seats.{StandsFor}

-- the side of this page as it is made, and a seat as it is made
pub record IsNewSeat (seat : Seat) (side : PageSide) (page : LoadedPage) : Type 0 where
  pub page_is : side.page ≡ loaded 1 page.nodes
  pub sheets_are : side.sheets.entries ≡ as_book (numbered_sheets 1 page.sheets)
  pub next_is : side.sheets.next ≡ 1 + length page.sheets
  pub medium_is : side.sheets.medium ≡ page.medium
  pub off : seat.desk.is_on ≡ false
  pub css : seat.desk.css ≡ false
  pub agent_is : seat.desk.agent ≡ empty_from 1
  pub watches_are : seat.desk.watches ≡ unwatched
  pub searches_are : seat.desk.searches ≡ no_searches
  pub history_is : seat.history ≡ no_marks

-- the state of a page that was just loaded is valid
abbrev pub StartIsState : Type 0
StartIsState = (page : LoadedPage) → CanLoadPage page → PageHasTexts page → IsState (loaded_state page)

-- and a new seat at a new side stands for it
abbrev pub NewSeatsStand : Type 0
NewSeatsStand =
    (seat : Seat) (side : PageSide) (page : LoadedPage) → CanLoadPage page → PageHasTexts page → IsNewSeat seat side page
    → StandsFor seat side (loaded_state page)

-- no two sheets of a page have one number; they ascend too, which is part of what a valid state is
abbrev pub SheetNumbersDiffer : Type 0
SheetNumbersDiffer = (state : State) → IsState state → is_distinct (map sheet_number state.side.sheets) ≡ true
