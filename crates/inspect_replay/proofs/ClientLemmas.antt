-- The clients that are served: seats that are new stand for what they have at first, and room is left where there is room.
use Rattle.std.proofs.Common.{◌≡◌, ◌+◌, ◌++◌, ◌↔◌, ℕ, Bool, List, true, false, true≢false, sym, None, Result, length}
use Rattle.std.proofs.Math.Logic.{∥∥₁_map}
use Rattle.std.specs.Result.{OnOk}
use Rattle.client_views.specs.Moves.{frames_of_moves}
use Rattle.page_tree.specs.Pages.{loaded}
use Rattle.back_end.specs.declared.seat.Seat.{Seat}
use Rattle.back_end.specs.declared.mux.Mux.{Mux}
use Rattle.back_end.specs.declared.side.PageSide.{PageSide}
use Rattle.back_end.specs.States.{State}
use Rattle.back_end.specs.Steps.{frame_step}
use Rattle.back_end.specs.Seats.{StandsFor, IsSeated, first_page}
use Rattle.back_end.specs.Sheets.{as_book, numbered_sheets}
use Rattle.back_end.specs.Starts.{IsNewSeat}
use Rattle.back_end.specs.PairSeats.{PairStandsFor, IsPairSeated, IsUnused}
use Rattle.back_end.specs.Pairs.{Pair, pair_step}
use Rattle.back_end.proofs.StartLemmas.{stands-first}
use Rattle.back_end.proofs.SeatRoom.{has-room-left, room-of}
use Rattle.back_end.proofs.PairLemmas.{new-pairs-stand, pairs-have-room-left}
use Rattle.inspect_replay.specs.declared.clients.Clients.{Clients}
use Rattle.inspect_replay.specs.declared.clients.Clients.TheVariants.{Alone, Paired}
use Rattle.inspect_replay.specs.Served.{Served, alone, paired, ClientsStandFor, AreSeated, HaveRoomLeft, HasRoomFor, AreNew, first_of}
use Rattle.inspect_replay.specs.Served.{served_step}
use Rattle.inspect_replay.proofs.ServeLemmas.{nothing-loaded, no-texts}

-- ---- room

-- room is left for the seats exactly where there is room for the clients
pub clients-room : (clients : Clients) (side : PageSide) (now : Served) → ClientsStandFor clients side now
    → HaveRoomLeft clients side ↔ HasRoomFor now
clients-room (Alone seat) side (alone state) stands = (room-of seat side state stands, has-room-left seat side state stands)
clients-room (Alone seat) side (paired pair) stands = absurd stands
clients-room (Paired mux) side (alone state) stands = absurd stands
clients-room (Paired mux) side (paired pair) stands = pairs-have-room-left mux side pair stands

pub room-there : (clients : Clients) (side : PageSide) (now : Served) → ClientsStandFor clients side now → HaveRoomLeft clients side
    → HasRoomFor now
room-there clients side now stands left = (clients-room clients side now stands).0 left

pub no-room-there : (clients : Clients) (side : PageSide) (now : Served) → ClientsStandFor clients side now
    → (HaveRoomLeft clients side → ◌≡◌ {A = Bool} false true) → HasRoomFor now → ⊥
no-room-there clients side now stands full room = true≢false (sym (full ((clients-room clients side now stands).1 room)))

-- ---- the start

-- the side of the page of one document, as it is made
pub record IsFirstSide (side : PageSide) : Type 0 where
  pub page_is : side.page ≡ loaded 1 (first_page None).nodes
  pub sheets_are : side.sheets.entries ≡ as_book (numbered_sheets 1 (first_page None).sheets)
  pub next_is : side.sheets.next ≡ 1 + length (first_page None).sheets
  pub medium_is : side.sheets.medium ≡ (first_page None).medium

unused-new : (seat : Seat) (side : PageSide) → IsUnused seat → IsFirstSide side → IsNewSeat seat side (first_page None)
unused-new seat side unused new = record {
  page_is = new.page_is;
  sheets_are = new.sheets_are;
  next_is = new.next_is;
  medium_is = new.medium_is;
  off = unused.off;
  css = unused.css;
  agent_is = unused.agent_is;
  watches_are = unused.watches_are;
  searches_are = unused.searches_are;
  history_is = unused.history_is;
}

pub clients-stand : (clients : Clients) (side : PageSide) → AreNew clients → IsFirstSide side
    → ClientsStandFor clients side (first_of clients)
clients-stand (Alone seat) side new first =
    stands-first seat side (first_page None) nothing-loaded no-texts (unused-new seat side new first)
clients-stand (Paired mux) side new first =
    new-pairs-stand mux side (first_page None) nothing-loaded no-texts (record {
      root = unused-new mux.root side new.0 first;
      second = unused-new mux.second side new.1 first;
      sessions_are = new.2;
    })

pub clients-seated : (clients : Clients) (side : PageSide) → AreNew clients → IsFirstSide side → AreSeated clients side
clients-seated clients side new first = λ alive. ∣ (first_of clients, clients-stand clients side new first) ∣₁

-- ---- seats that are there

alone-state : (seat : Seat) (side : PageSide) (now : Served) → ClientsStandFor (Alone seat) side now
    → (state : State) × StandsFor seat side state
alone-state seat side (alone state) stands = (state, stands)
alone-state seat side (paired pair) stands = absurd stands

paired-state : (mux : Mux) (side : PageSide) (now : Served) → ClientsStandFor (Paired mux) side now
    → (pair : Pair) × PairStandsFor mux side pair
paired-state mux side (alone state) stands = absurd stands
paired-state mux side (paired pair) stands = (pair, stands)

-- one client's seat stands for some state, if it is not dead
pub alone-seated : (seat : Seat) (side : PageSide) → AreSeated (Alone seat) side → IsSeated seat side
alone-seated seat side seated = λ alive.
    ∥∥₁_map (seated alive) (λ (x : ((now : Served) × ClientsStandFor (Alone seat) side now)). alone-state seat side x.0 x.1)

pub seated-alone : (seat : Seat) (side : PageSide) → IsSeated seat side → AreSeated (Alone seat) side
seated-alone seat side seated = λ alive.
    ∥∥₁_map (seated alive) (λ (x : ((state : State) × StandsFor seat side state)). (alone x.0, x.1))

-- and so do those of two
pub paired-seated : (mux : Mux) (side : PageSide) → AreSeated (Paired mux) side → IsPairSeated mux side
paired-seated mux side seated = λ alive.
    ∥∥₁_map (seated alive) (λ (x : ((now : Served) × ClientsStandFor (Paired mux) side now)). paired-state mux side x.0 x.1)

pub seated-paired : (mux : Mux) (side : PageSide) → IsPairSeated mux side → AreSeated (Paired mux) side
seated-paired mux side seated = λ alive.
    ∥∥₁_map (seated alive) (λ (x : ((pair : Pair) × PairStandsFor mux side pair)). (paired x.0, x.1))

-- ---- a frame

-- what a step of one client comes to
pub alone-steps : {T E : Type 0} (result : Result T E) (before after : Seat) (side new : PageSide) (frame : List ℕ)
    → ((state : State) → StandsFor before side state → OnOk result (StandsFor after new (frame_step true frame state).state))
    → (now : Served) → ClientsStandFor (Alone before) side now
    → OnOk result (ClientsStandFor (Alone after) new (served_step now frame).state)
alone-steps result before after side new frame steps (alone state) stands = steps state stands
alone-steps result before after side new frame steps (paired pair) stands = absurd stands

pub alone-sends : {T E : Type 0} (result : Result T E) (seat : Seat) (side : PageSide) (frame old new : List ℕ)
    → ((state : State) → StandsFor seat side state → OnOk result (new ≡ old ++ frames_of_moves (frame_step true frame state).moves))
    → (now : Served) → ClientsStandFor (Alone seat) side now → OnOk result (new ≡ old ++ (served_step now frame).sent)
alone-sends result seat side frame old new sends (alone state) stands = sends state stands
alone-sends result seat side frame old new sends (paired pair) stands = absurd stands

-- and one of two
pub paired-steps : {T E : Type 0} (result : Result T E) (before after : Mux) (side new : PageSide) (frame : List ℕ)
    → ((pair : Pair) → PairStandsFor before side pair → OnOk result (PairStandsFor after new (pair_step true frame pair).state))
    → (now : Served) → ClientsStandFor (Paired before) side now
    → OnOk result (ClientsStandFor (Paired after) new (served_step now frame).state)
paired-steps result before after side new frame steps (alone state) stands = absurd stands
paired-steps result before after side new frame steps (paired pair) stands = steps pair stands

pub paired-sends : {T E : Type 0} (result : Result T E) (mux : Mux) (side : PageSide) (frame old new : List ℕ)
    → ((pair : Pair) → PairStandsFor mux side pair → OnOk result (new ≡ old ++ (pair_step true frame pair).sent))
    → (now : Served) → ClientsStandFor (Paired mux) side now → OnOk result (new ≡ old ++ (served_step now frame).sent)
paired-sends result mux side frame old new sends (alone state) stands = absurd stands
paired-sends result mux side frame old new sends (paired pair) stands = sends pair stands
