-- What `serve` and `share` answer: the frames of the steps on the frames that came.
use Rattle.std.specs.Prelude.{◌≡◌, ◌≤◌, ◌<◌, ℕ, List, [], ◌∷◌, ◌++◌, length, take, Option, Some, Result, Ok, Err, ⊤}
use Rattle.std.specs.Io.KnownBytes.{Appends, Consumes, IsAtEnd}
use Rattle.node_tree.specs.Numbers.{max_input}
use Rattle.pipe_frames.specs.Fault.{Rose}
use Rattle.pipe_frames.specs.Frames.{frames_of}
use Rattle.pipe_frames.specs.Whole.{WrotePart}
use Rattle.session_runs.specs.World.{Stepped, steps}
use Rattle.back_end.specs.Laws.{HasRoom}
use Rattle.back_end.specs.Pairs.{root_state, second_state}
use Rattle.inspect_replay.specs.declared.service.Service.{Service}
use Rattle.replay_parts.specs.Says.{Counts, OthersStill, says_of}
use Rattle.replay_parts.specs.Stops.{two_counts}
use Rattle.inspect_replay.specs.Served.{Served, alone, paired, first_alone, first_paired, served_step, served_run, HasRoomFor, RoomForEach}
use Rattle.inspect_replay.specs.Served.{ClientsStandFor}
use Rattle.replay_parts.specs.declared.status.Status.{Status}
use Rattle.replay_parts.specs.declared.status.Status.TheVariants as status
use Rattle.replay_parts.specs.declared.stop.Stop.{Stop}
use Rattle.replay_parts.specs.declared.stop.Stop.TheVariants.{Line, TooLong, ReadFault, WriteFault, LinkFault, FrontRefused, NoRoom}
use Rattle.replay_parts.specs.declared.stop.Stop.TheVariants.{Memory}

-- ---- frames that are answered

-- All of these frames were answered: there was room before each, and their answers were written.
pub record AllAnswered (first : Served) (frames : List (List ℕ)) (before after : Option (List ℕ)) : Type 0 where
  pub room : RoomForEach first frames
  pub wrote : Appends before after (steps served_step first frames).sent

-- there was a frame more, for which there was no room
pub record MetNoRoom (now : Served) (others : List (List ℕ)) : Type 0 where
  pub frame : List ℕ
  pub later : List (List ℕ)
  pub others_are : others ≡ frame ∷ later
  pub full : HasRoomFor now → ⊥

-- What was written where answering stopped: where there was no room for the next frame, the answers to all before it; where the sink
-- failed or memory did, a front part of the answers.
abbrev pub EndsBy : Stop → Stepped Served → List (List ℕ) → Option (List ℕ) → Option (List ℕ) → Type 0
EndsBy (Line number fault) done others before after = ⊥
EndsBy TooLong done others before after = ⊥
EndsBy ReadFault done others before after = ⊥
EndsBy WriteFault done others before after = WrotePart before after done.sent
EndsBy LinkFault done others before after = ⊥
EndsBy (FrontRefused place fault) done others before after = ⊥
EndsBy NoRoom done others before after = MetNoRoom done.state others × Appends before after done.sent
EndsBy Memory done others before after = WrotePart before after done.sent

-- Answering stopped within these frames: there was room before each of the first of them, and this was written of their answers.
pub record HaltedIn (stop : Stop) (first : Served) (frames : List (List ℕ)) (before after : Option (List ℕ)) : Type 0 where
  pub answered : List (List ℕ)
  pub others : List (List ℕ)
  pub cut : frames ≡ answered ++ others
  pub room : RoomForEach first answered
  pub ends : EndsBy stop (steps served_step first answered) others before after

-- ---- what the clauses of the whole call say

-- what a source had left and a sink had taken, before and after a call
pub record ServeCall : Type 0 where
  pub left_before : Option (List ℕ)
  pub left_after : Option (List ℕ)
  pub taken_before : Option (List ℕ)
  pub taken_after : Option (List ℕ)

-- the whole frames in these bytes were answered
abbrev pub AnsweredWhole : Served → List ℕ → ServeCall → Type 0
AnsweredWhole first bytes call = AllAnswered first (frames_of bytes).whole call.taken_before call.taken_after

-- answering stopped within the whole frames in these bytes
abbrev pub HaltedWithin : Stop → Served → List ℕ → ServeCall → Type 0
HaltedWithin stop first bytes call = HaltedIn stop first (frames_of bytes).whole call.taken_before call.taken_after

-- what the source gave was answered, and nothing else
pub record ServedRead (first : Served) (input : List ℕ) (call : ServeCall) : Type 0 where
  pub part : List ℕ
  pub rest : List ℕ
  pub left : call.left_after ≡ Some rest
  pub whole : input ≡ part ++ rest
  pub answered : AnsweredWhole first part call

-- the whole input was answered, which is within its limit
pub record ServedAll (first : Served) (input : List ℕ) (call : ServeCall) : Type 0 where
  pub few : length input ≤ max_input
  pub left : call.left_after ≡ Some []
  pub answered : AnsweredWhole first input call

-- the input is too long, and the whole frames in its first 2^26 bytes were answered
pub record ServedLimit (first : Served) (input : List ℕ) (call : ServeCall) : Type 0 where
  pub more : max_input < length input
  pub answered : AnsweredWhole first (take max_input input) call

-- What was written of the answers to this input, from this state on. No other answer comes.
abbrev pub AnswersTook : Served → Status → List ℕ → ServeCall → Type 0
AnswersTook first status.Done input call = ServedAll first input call
AnswersTook first status.Usage input call = ⊥
AnswersTook first (status.Line number fault) input call = ⊥
AnswersTook first status.TooLong input call = ServedLimit first input call
AnswersTook first status.ReadFault input call = ServedRead first input call
AnswersTook first status.WriteFault input call = HaltedWithin WriteFault first (take max_input input) call
AnswersTook first status.LinkFault input call = ⊥
AnswersTook first (status.FrontRefused place kind) input call = ⊥
AnswersTook first status.NoRoom input call = HaltedWithin NoRoom first (take max_input input) call
AnswersTook first status.Memory input call = HaltedWithin Memory first (take max_input input) call

-- what `serve` wrote of the answers to one client
abbrev pub ServeTook : Status → List ℕ → ServeCall → Type 0
ServeTook status input call = AnswersTook first_alone status input call

-- a client has no room for a step, or one of two has none
abbrev pub LacksRoom : Served → Type 0
LacksRoom (alone state) = HasRoom state → ⊥
LacksRoom (paired pair) = HasRoom (root_state pair) × HasRoom (second_state pair) → ⊥

-- Answering two clients stopped before a frame that met one without room for a step; exactly the answers to the frames before it were
-- written.
pub record StoppedFull (frames : List (List ℕ)) (before after : Option (List ℕ)) : Type 0 where
  pub answered : List (List ℕ)
  pub frame : List ℕ
  pub later : List (List ℕ)
  pub cut : frames ≡ answered ++ frame ∷ later
  pub room : RoomForEach first_paired answered
  pub full : LacksRoom (steps served_step first_paired answered).state
  pub wrote : Appends before after (steps served_step first_paired answered).sent

-- What `share` wrote of the answers to two clients. No room is answered exactly where a frame meets two clients for one of which there
-- is none.
abbrev pub ShareTook : Status → List ℕ → ServeCall → Type 0
ShareTook status.Done input call = AnswersTook first_paired status.Done input call
ShareTook status.Usage input call = ⊥
ShareTook (status.Line number fault) input call = ⊥
ShareTook status.TooLong input call = AnswersTook first_paired status.TooLong input call
ShareTook status.ReadFault input call = AnswersTook first_paired status.ReadFault input call
ShareTook status.WriteFault input call = AnswersTook first_paired status.WriteFault input call
ShareTook status.LinkFault input call = ⊥
ShareTook (status.FrontRefused place kind) input call = ⊥
ShareTook status.NoRoom input call =
    StoppedFull (frames_of (take max_input input)).whole call.taken_before call.taken_after
ShareTook status.Memory input call = AnswersTook first_paired status.Memory input call

-- an answer that `share` gives
abbrev pub IsShareStatus : Status → Type 0
IsShareStatus status.Done = ⊤
IsShareStatus status.Usage = ⊥
IsShareStatus (status.Line number fault) = ⊥
IsShareStatus status.TooLong = ⊤
IsShareStatus status.ReadFault = ⊤
IsShareStatus status.WriteFault = ⊤
IsShareStatus status.LinkFault = ⊥
IsShareStatus (status.FrontRefused place kind) = ⊥
IsShareStatus status.NoRoom = ⊤
IsShareStatus status.Memory = ⊤

-- an answer that `serve` gives: there is always room
abbrev pub IsServeStatus : Status → Type 0
IsServeStatus status.Done = ⊤
IsServeStatus status.Usage = ⊥
IsServeStatus (status.Line number fault) = ⊥
IsServeStatus status.TooLong = ⊤
IsServeStatus status.ReadFault = ⊤
IsServeStatus status.WriteFault = ⊤
IsServeStatus status.LinkFault = ⊥
IsServeStatus (status.FrontRefused place kind) = ⊥
IsServeStatus status.NoRoom = ⊥
IsServeStatus status.Memory = ⊤

-- ---- a service in hand

-- a back end that serves, and what the sink has taken
pub record ServeMoment : Type 0 where
  pub service : Service
  pub taken : Option (List ℕ)

-- a back end that serves, and what the sink has taken
abbrev pub serve_moment : Service → Option (List ℕ) → ServeMoment
serve_moment service taken = record { service = service; taken = taken }

-- the service has answered each whole frame in these bytes, from this state on, and holds the rest
pub record IsServing (first : Served) (service : Service) (bytes : List ℕ) : Type 0 where
  pub cut : service.splitter ≡ record { whole = []; rest = (frames_of bytes).rest }
  pub stands : ClientsStandFor service.clients service.side (served_run first bytes).state

-- the state and what the sink had taken at the start, and the bytes that came since
pub record SoFar : Type 0 where
  pub first : Served
  pub start : Option (List ℕ)
  pub bytes : List ℕ

-- with more bytes
abbrev pub with_more : SoFar → List ℕ → SoFar
with_more so_far piece = record { first = so_far.first; start = so_far.start; bytes = so_far.bytes ++ piece }

-- The service has answered each whole frame in the bytes that came, and the answers were written.
pub record Serves (so_far : SoFar) (now : ServeMoment) : Type 0 where
  pub is_serving : IsServing so_far.first now.service so_far.bytes
  pub answered : AllAnswered so_far.first (frames_of so_far.bytes).whole so_far.start now.taken

-- answering stopped within the frames that came
abbrev pub PartServed : Stop → SoFar → Option (List ℕ) → Type 0
PartServed stop so_far taken = HaltedIn stop so_far.first (frames_of so_far.bytes).whole so_far.start taken

-- frames were answered one after the other, or answering stopped within them
abbrev pub Answered : {T : Type 0} → Served → List (List ℕ) → Option (List ℕ) → ServeMoment → Result T Stop → Type 0
Answered now frames before new (Ok value) = ClientsStandFor new.service.clients new.service.side (steps served_step now frames).state
    × AllAnswered now frames before new.taken
Answered now frames before new (Err stop) = HaltedIn stop now frames before new.taken

-- a call answers these frames, from whatever state the service stands for
abbrev pub AnswersFrames : {T : Type 0} → ServeMoment → ServeMoment → List (List ℕ) → Result T Stop → Type 0
AnswersFrames old new frames result =
    (now : Served) → ClientsStandFor old.service.clients old.service.side now → Answered now frames old.taken new result

-- a call goes on serving, or answering stopped
abbrev pub ServesOn : {T : Type 0} → SoFar → ServeMoment → Result T Stop → Type 0
ServesOn so_far new (Ok value) = Serves so_far new
ServesOn so_far new (Err stop) = PartServed stop so_far new.taken

-- a call takes a piece that came, and answers the frames that became whole
abbrev pub TakesPiece : {T : Type 0} → ServeMoment → ServeMoment → List ℕ → Result T Stop → Type 0
TakesPiece old new piece result = (so_far : SoFar) → Serves so_far old → ServesOn (with_more so_far piece) new result

-- ---- what was read and answered

-- what a source had left before and after a call, which reads so many bytes at most
pub record PieceRead : Type 0 where
  pub before : Option (List ℕ)
  pub after : Option (List ℕ)
  pub most : ℕ

-- a piece was read and answered
pub record PieceAnswered (so_far : SoFar) (new : ServeMoment) (read : PieceRead) (count : ℕ) : Type 0 where
  pub piece : List ℕ
  pub length_is : length piece ≡ count
  pub few : count ≤ read.most
  pub consumed : Consumes read.before read.after piece
  pub ends : count ≡ 0 → IsAtEnd read.after
  pub serves : Serves (with_more so_far piece) new

-- a piece was read, and answering stopped within it
pub record PieceInPart (stop : Stop) (so_far : SoFar) (new : ServeMoment) (read : PieceRead) : Type 0 where
  pub piece : List ℕ
  pub few : length piece ≤ read.most
  pub consumed : Consumes read.before read.after piece
  pub part : PartServed stop (with_more so_far piece) new.taken

-- what a call that reads once comes to
abbrev pub PieceServed : SoFar → ServeMoment → PieceRead → Result ℕ Stop → Type 0
PieceServed so_far new read (Ok count) = PieceAnswered so_far new read count
PieceServed so_far new read (Err (Line number fault)) = ⊥
PieceServed so_far new read (Err TooLong) = ⊥
PieceServed so_far new read (Err ReadFault) = Consumes read.before read.after [] × Serves so_far new
PieceServed so_far new read (Err WriteFault) = PieceInPart WriteFault so_far new read
PieceServed so_far new read (Err LinkFault) = ⊥
PieceServed so_far new read (Err (FrontRefused place fault)) = ⊥
PieceServed so_far new read (Err NoRoom) = PieceInPart NoRoom so_far new read
PieceServed so_far new read (Err Memory) = PieceInPart Memory so_far new read

-- the end of a source, or the one byte that is too much
abbrev pub EndIsMet : Option (List ℕ) → Option (List ℕ) → Result (Unit {0}) Stop → Type 0
EndIsMet before after (Ok value) = Consumes before after [] × IsAtEnd after
EndIsMet before after (Err (Line number fault)) = ⊥
EndIsMet before after (Err TooLong) = (past : List ℕ) × (length past ≡ 1) × Consumes before after past
EndIsMet before after (Err ReadFault) = Consumes before after []
EndIsMet before after (Err WriteFault) = ⊥
EndIsMet before after (Err LinkFault) = ⊥
EndIsMet before after (Err (FrontRefused place fault)) = ⊥
EndIsMet before after (Err NoRoom) = ⊥
EndIsMet before after (Err Memory) = ⊥

-- bytes that were read, at most 2^26, and the whole frames in them answered
pub record ReadAnswered (first : Served) (call : ServeCall) (bytes past : List ℕ) : Type 0 where
  pub few : length bytes ≤ max_input
  pub read : Consumes call.left_before call.left_after (bytes ++ past)
  pub answered : AnsweredWhole first bytes call

-- bytes that were read, and answering stopped within the whole frames in them
pub record PartAnswered (stop : Stop) (first : Served) (call : ServeCall) : Type 0 where
  pub bytes : List ℕ
  pub few : length bytes ≤ max_input
  pub read : Consumes call.left_before call.left_after bytes
  pub halted : HaltedWithin stop first bytes call

-- all that a source had left was read and answered
pub record EndAnswered (first : Served) (call : ServeCall) : Type 0 where
  pub bytes : List ℕ
  pub answered : ReadAnswered first call bytes []
  pub ended : IsAtEnd call.left_after

-- 2^26 bytes were answered, and one byte more was read
pub record LimitAnswered (first : Served) (call : ServeCall) : Type 0 where
  pub bytes : List ℕ
  pub past : List ℕ
  pub answered : ReadAnswered first call bytes past
  pub full : length bytes ≡ max_input
  pub one_more : length past ≡ 1

-- all that was read was answered, when the source failed
pub record FaultAnswered (first : Served) (call : ServeCall) : Type 0 where
  pub bytes : List ℕ
  pub answered : ReadAnswered first call bytes []

-- what a call has served by its end, or until it stopped
abbrev pub HasServed : {T : Type 0} → Served → ServeCall → Result T Stop → Type 0
HasServed first call (Ok value) = EndAnswered first call
HasServed first call (Err (Line number fault)) = ⊥
HasServed first call (Err TooLong) = LimitAnswered first call
HasServed first call (Err ReadFault) = FaultAnswered first call
HasServed first call (Err WriteFault) = PartAnswered WriteFault first call
HasServed first call (Err LinkFault) = ⊥
HasServed first call (Err (FrontRefused place fault)) = ⊥
HasServed first call (Err NoRoom) = PartAnswered NoRoom first call
HasServed first call (Err Memory) = PartAnswered Memory first call

-- ---- causes

-- a write stops by a fault of the sink only where its count rose
abbrev pub WriteRose : {T : Type 0} → (before after : ℕ) → Result T Stop → Type 0
WriteRose before after (Ok value) = ⊤
WriteRose before after (Err (Line number fault)) = ⊥
WriteRose before after (Err TooLong) = ⊥
WriteRose before after (Err ReadFault) = ⊥
WriteRose before after (Err WriteFault) = Rose before after
WriteRose before after (Err LinkFault) = ⊥
WriteRose before after (Err (FrontRefused place fault)) = ⊥
WriteRose before after (Err NoRoom) = ⊤
WriteRose before after (Err Memory) = ⊤

-- the count of a sink never falls, a fault has its cause, and no fault is hidden
pub record HasWriteCause {T : Type 0} (before after : ℕ) (result : Result T Stop) : Type 0 where
  pub later : before ≤ after
  pub rose : WriteRose before after result
  pub others : OthersStill (two_counts before after 0 0) (says_of result).failed

-- serving stops by a fault of the source or the sink only where its count rose
abbrev pub ServeRose : {T : Type 0} → Counts → Result T Stop → Type 0
ServeRose c (Ok value) = ⊤
ServeRose c (Err (Line number fault)) = ⊥
ServeRose c (Err TooLong) = ⊤
ServeRose c (Err ReadFault) = Rose c.source_before c.source_after
ServeRose c (Err WriteFault) = Rose c.sink_before c.sink_after
ServeRose c (Err LinkFault) = ⊥
ServeRose c (Err (FrontRefused place fault)) = ⊥
ServeRose c (Err NoRoom) = ⊤
ServeRose c (Err Memory) = ⊤

-- neither count falls, a fault has its cause, and no fault is hidden
pub record HasServeCause {T : Type 0} (c : Counts) (result : Result T Stop) : Type 0 where
  pub source_later : c.source_before ≤ c.source_after
  pub sink_later : c.sink_before ≤ c.sink_after
  pub rose : ServeRose c result
  pub others : OthersStill c (says_of result).failed
