-- Who is served, one client or two on one pipe, and what their frames make.
use Rattle.std.specs.Prelude.{◌≡◌, ℕ, Bool, List, [], ◌∷◌, None, true, false, ⊤}
use Rattle.pipe_frames.specs.Frames.{frames_of}
use Rattle.session_runs.specs.World.{Stepped, steps}
use Rattle.session_mux.specs.Sessions.{no_sessions}
use Rattle.back_end.specs.declared.side.PageSide.{PageSide}
use Rattle.back_end.specs.States.{State, loaded_state}
use Rattle.back_end.specs.Steps.{frame_step}
use Rattle.back_end.specs.Laws.{HasRoom}
use Rattle.back_end.specs.Seats.{StandsFor, HasRoomLeft, first_page}
use Rattle.back_end.specs.Pairs.{Pair, loaded_pair, PairHasRoom, pair_step}
use Rattle.back_end.specs.PairSeats.{PairStandsFor, PairHasRoomLeft, IsUnused}
use Rattle.inspect_world.specs.StepBytes.{as_bytes}
use Rattle.inspect_replay.specs.declared.clients.Clients.{Clients}
use Rattle.inspect_replay.specs.declared.clients.Clients.TheVariants.{Alone, Paired}

-- ---- states

-- the page as one client has it, or as two have it
pub data Served : Type 0 where
  alone : State → Served
  paired : Pair → Served

-- the page of one document without children, with the serial 1 and no sheets, of which the client knows nothing
abbrev pub first_alone : Served
first_alone = alone (loaded_state (first_page None))

-- the same page, of which neither client knows anything, and no session is attached
abbrev pub first_paired : Served
first_paired = paired (loaded_pair (first_page None))

-- ---- steps

-- a step of one client, or of two
abbrev pub stepped_as : {S : Type 0} → (S → Served) → Stepped S → Stepped Served
stepped_as kind done = record { state = kind done.state; sent = done.sent }

-- the step on one frame, as bytes: our own two methods are known, but to the attached session
abbrev pub served_step : Served → List ℕ → Stepped Served
served_step (alone state) frame = stepped_as alone (as_bytes (frame_step true frame state))
served_step (paired pair) frame = stepped_as paired (pair_step true frame pair)

-- the state after the whole frames in these bytes, and all that was sent
abbrev pub served_run : Served → List ℕ → Stepped Served
served_run first bytes = steps served_step first (frames_of bytes).whole

-- all that is sent to who sent these bytes; a frame that is not whole gets no answer
abbrev pub served : Served → List ℕ → List ℕ
served first bytes = (served_run first bytes).sent

-- ---- room

-- there is room for a step of each client
abbrev pub HasRoomFor : Served → Type 0
HasRoomFor (alone state) = HasRoom state
HasRoomFor (paired pair) = PairHasRoom pair

-- there is room before each of these frames, one after the other
abbrev pub RoomForEach : Served → List (List ℕ) → Type 0
RoomForEach now [] = ⊤
RoomForEach now (frame ∷ frames) = HasRoomFor now × RoomForEach (served_step now frame).state frames

-- ---- seats that stand for them

-- the seats, with the page's side, stand for this state
abbrev pub ClientsStandFor : Clients → PageSide → Served → Type 0
ClientsStandFor (Alone seat) side (alone state) = StandsFor seat side state
ClientsStandFor (Alone seat) side (paired pair) = ⊥
ClientsStandFor (Paired mux) side (alone state) = ⊥
ClientsStandFor (Paired mux) side (paired pair) = PairStandsFor mux side pair

-- want of memory was answered
abbrev pub are_dead : Clients → Bool
are_dead (Alone seat) = seat.is_dead
are_dead (Paired mux) = mux.is_dead

-- seats that are not dead stand for some state, whichever
abbrev pub AreSeated : Clients → PageSide → Type 0
AreSeated clients side = are_dead clients ≡ false → ∥ ((now : Served) × ClientsStandFor clients side now) ∥₁

-- the seats have room for a step
abbrev pub HaveRoomLeft : Clients → PageSide → Type 0
HaveRoomLeft (Alone seat) side = HasRoomLeft seat side
HaveRoomLeft (Paired mux) side = PairHasRoomLeft mux side

-- no client has asked for anything, and no session was attached
abbrev pub AreNew : Clients → Type 0
AreNew (Alone seat) = IsUnused seat
AreNew (Paired mux) = IsUnused mux.root × IsUnused mux.second × (mux.router ≡ no_sessions)

-- what such clients have, at the page of one document
abbrev pub first_of : Clients → Served
first_of (Alone seat) = first_alone
first_of (Paired mux) = first_paired
