-- Two seats and a router, with the page's side, that stand for two clients of the page.
use Rattle.std.specs.Prelude.{◌≡◌, ◌<◌, ◌↔◌, ℕ, List, [], All, false, Option, Some, None}
use Rattle.node_tree.specs.Numbers.{drawn_before_step}
use Rattle.node_binding.specs.Bindings.{empty_from}
use Rattle.dom_breakpoints.specs.Watched.{unwatched}
use Rattle.dom_search.specs.Searches.{no_searches}
use Rattle.undo_marks.specs.Marks.{no_marks}
use Rattle.pipe_frames.specs.Frames.{IsText}
use Rattle.cdp_messages.specs.Replies.{Message, message_text, message_frames}
use Rattle.session_mux.specs.Sessions.{Sessions, no_sessions}
use Rattle.page_forms.specs.Pages.{LoadedPage, CanLoadPage}
use Rattle.page_forms.specs.Texts.{PageHasTexts}
use Rattle.back_end.specs.declared.guest.Guest.{Guest}
use Rattle.back_end.specs.declared.mux.Mux.{Mux}
use Rattle.back_end.specs.declared.seat.Seat.{Seat}
use Rattle.back_end.specs.declared.side.PageSide.{PageSide}
use Rattle.back_end.specs.States.{new_client}
use Rattle.back_end.specs.Seats.{StandsFor, HasRoomLeft}
use Rattle.back_end.specs.Starts.{IsNewSeat}
use Rattle.back_end.specs.Pairs.{Pair, root_state, second_state, loaded_pair, PairHasRoom}

-- The seats stand for the two clients' states, and the router has the sessions; while no session is attached, the second client has
-- asked for nothing.
pub record SeatsStandFor (root second : Seat) (router : Sessions) (side : PageSide) (p : Pair) : Type 0 where
  pub root_stands : StandsFor root side (root_state p)
  pub second_stands : StandsFor second side (second_state p)
  pub sessions_are : router ≡ p.sessions
  pub fresh : p.sessions.attached ≡ None → p.second ≡ new_client

-- the same of both seats and the router in their place
abbrev pub PairStandsFor : Mux → PageSide → Pair → Type 0
PairStandsFor mux side p = SeatsStandFor mux.root mux.second mux.router side p

-- one that is not dead stands for some pair, whichever
abbrev pub IsPairSeated : Mux → PageSide → Type 0
IsPairSeated mux side = mux.is_dead ≡ false → ∥ ((p : Pair) × PairStandsFor mux side p) ∥₁

-- both seats have room, and a number is left for another session
abbrev pub PairHasRoomLeft : Mux → PageSide → Type 0
PairHasRoomLeft mux side = HasRoomLeft mux.root side × HasRoomLeft mux.second side × (mux.router.next < drawn_before_step)

-- what is left for the seats is the room of the clients that they stand for
abbrev pub PairsHaveRoomLeft : Type 0
PairsHaveRoomLeft = (mux : Mux) (side : PageSide) (p : Pair) → PairStandsFor mux side p → PairHasRoomLeft mux side ↔ PairHasRoom p

-- two new seats and a new router
pub record IsNewMux (mux : Mux) (side : PageSide) (page : LoadedPage) : Type 0 where
  pub root : IsNewSeat mux.root side page
  pub second : IsNewSeat mux.second side page
  pub sessions_are : mux.router ≡ no_sessions

-- these stand at a new side for a page that was just loaded
abbrev pub NewPairsStand : Type 0
NewPairsStand = (mux : Mux) (side : PageSide) (page : LoadedPage) → CanLoadPage page → PageHasTexts page → IsNewMux mux side page
    → PairStandsFor mux side (loaded_pair page)

-- ---- seats that change hands

-- a seat that nothing has used yet, and that is alive
pub record IsUnused (seat : Seat) : Type 0 where
  pub off : seat.desk.is_on ≡ false
  pub css : seat.desk.css ≡ false
  pub agent_is : seat.desk.agent ≡ empty_from 1
  pub watches_are : seat.desk.watches ≡ unwatched
  pub searches_are : seat.desk.searches ≡ no_searches
  pub history_is : seat.history ≡ no_marks
  pub alive : seat.is_dead ≡ false

-- a guest that has that seat, and was told nothing yet
abbrev pub IsGuestAt : Seat → Option Guest → Type 0
IsGuestAt seat None = ⊥
IsGuestAt seat (Some g) = (g.seat ≡ seat) × (g.out.items ≡ [])

-- the same while a session is attached; while none is, there is no guest
abbrev pub IsGuestOf : Option ℕ → Seat → Option Guest → Type 0
IsGuestOf None seat guest = guest ≡ None
IsGuestOf (Some session) seat guest = IsGuestAt seat guest

-- the guest's seat, and where there is no guest the one that was in its place
abbrev pub seat_again : Option Guest → Seat → Seat
seat_again None seat = seat
seat_again (Some g) seat = g.seat

-- the guest was told these messages, whose texts have no zero byte
abbrev pub WasTold : Option Guest → List Message → Type 0
WasTold None messages = ⊥
WasTold (Some g) messages = All (λ m. IsText (message_text m)) messages × (g.out.items ≡ message_frames messages)

-- the same of a guest while a session is attached; while none is, there is no guest
abbrev pub WasToldOf : Option ℕ → Option Guest → List Message → Type 0
WasToldOf None guest messages = guest ≡ None
WasToldOf (Some session) guest messages = WasTold guest messages

-- while a session is attached, the second client's seat stays; while none is, it is one that nothing has used
abbrev pub IsRenewed : Option ℕ → Seat → Seat → Type 0
IsRenewed None old new = IsUnused new
IsRenewed (Some session) old new = new ≡ old
