-- What an answer of a run with two front ends says: of what was written, of room, and of the fold of what went over the link.
use Rattle.std.specs.Prelude.{◌≡◌, ◌≤◌, ℕ, List, [], ◌∷◌, ◌++◌, map, codes, Option, Some, None, Result, Ok, ⊤}
use Rattle.std.specs.Io.KnownBytes.{Appends}
use Rattle.pipe_frames.specs.Whole.{WrotePart}
use Rattle.pipe_frames.specs.Pipe.{Pipe, sent_since, given_since}
use Rattle.pipe_frames.specs.Frames.{frames_of}
use Rattle.front_mirror.specs.Front.{FrontValue}
use Rattle.front_mirror.specs.Outline.{outline_text, seen_line}
use Rattle.session_runs.specs.Pairs.{Second}
use Rattle.inspect_world.specs.ShownReplies.{ShownReply, reply_id}
use Rattle.pair_world.specs.PairFresh.{FrontValues}
use Rattle.pair_world.specs.PairLinks.{LinkMoment, pair_fold_of, pair_replies_in, sent_when_pair_is_full}
use Rattle.replay_parts.specs.declared.status.Status.{Status}
use Rattle.replay_parts.specs.declared.stop.Stop.{Stop}
use Rattle.replay_parts.specs.Says.{Phase, untouched, reading, underway, ended, anywhen, Lie, refused, no_room, says, says_of}
use Rattle.replay_parts.specs.Answers.{InRunOnly}
use Rattle.replay_parts.specs.LinkFolds.{WentOver, went_since, FoldsFrom, LessAt, ResultFolds}

-- ---- what was written, over an honest link

-- The report where the run ended; a front part of it on any other answer, where no room was left too. The front ends never refuse.
abbrev pub PairTookAt : Phase → Option Lie → Option (List ℕ) → Option (List ℕ) → List ℕ → Type 0
PairTookAt untouched lie before after report = after ≡ before
PairTookAt reading lie before after report = after ≡ before
PairTookAt underway None before after report = WrotePart before after report
PairTookAt underway (Some no_room) before after report = WrotePart before after report
PairTookAt underway (Some (refused fault)) before after report = ⊥
PairTookAt ended lie before after report = Appends before after report
PairTookAt anywhen lie before after report = WrotePart before after report

-- what the sink took of the report, by what the whole call answers
abbrev pub PairTook : Status → Option (List ℕ) → Option (List ℕ) → List ℕ → Type 0
PairTook status before after report = PairTookAt (says status).phase (says status).lie before after report

-- the same of a run over an input that was read
abbrev pub PairRunTook : {T : Type 0} → Result T Stop → Option (List ℕ) → Option (List ℕ) → List ℕ → Type 0
PairRunTook result before after text =
    InRunOnly (says_of result).phase (PairTookAt (says_of result).phase (says_of result).lie before after text)

-- ---- room, over an honest link

-- What an answer says of room: it was there before each step where the run ended, and was not where none is left; no front end refuses.
abbrev pub RoomAt : Phase → Option Lie → Type 0 → Type 0
RoomAt untouched lie Room = ⊤
RoomAt reading lie Room = ⊤
RoomAt underway None Room = ⊤
RoomAt underway (Some no_room) Room = Room → ⊥
RoomAt underway (Some (refused fault)) Room = ⊥
RoomAt ended lie Room = Room
RoomAt anywhen lie Room = ⊤

-- what the whole call says of it
abbrev pub TellsRoom : Status → Type 0 → Type 0
TellsRoom status Room = RoomAt (says status).phase (says status).lie Room

-- and what a part of it says
abbrev pub RoomTold : {T : Type 0} → Result T Stop → Type 0 → Type 0
RoomTold result Room = RoomAt (says_of result).phase (says_of result).lie Room

-- an answer that may come over an honest link: no message is refused
abbrev pub NotRefused : Option Lie → Type 0
NotRefused None = ⊤
NotRefused (Some no_room) = ⊤
NotRefused (Some (refused fault)) = ⊥

-- such an answer of the whole call
abbrev pub IsPairHonest : Status → Type 0
IsPairHonest status = NotRefused (says status).lie

-- ---- over every link

-- what went over a link with two front ends
abbrev pub PairPassed : Type 0
PairPassed = WentOver FrontValues

-- what went over it since the pipes were as `up0` and `down0`
abbrev pub pair_since : (up0 down0 up down : Pipe) → PairPassed
pair_since up0 down0 up down = went_since pair_fold_of up0 down0 up down

-- A front end refuses a message exactly where this fold does, with its place and its fault; and no id or serial is left only where at
-- least 2^19 bytes were sent up.
abbrev pub PairFolds : Status → PairPassed → Type 0
PairFolds status passed = FoldsFrom sent_when_pair_is_full (says status).phase (says status).lie passed

-- no more bytes were given than were sent, by what the whole call answers
abbrev pub PairLess : Status → PairPassed → Type 0
PairLess status passed = LessAt (says status).phase passed

-- what the result of a part says of both
abbrev pub PairStopFolds : {T : Type 0} → Result T Stop → PairPassed → Type 0
PairStopFolds result passed = ResultFolds sent_when_pair_is_full result passed

-- the second outline at the end, where a second front end stands
abbrev pub second_shown : Option (Second FrontValue (List ℕ)) → List ℕ
second_shown None = []
second_shown (Some w) = codes "# end 2" ++ 10 ∷ outline_text seen_line w.value.tree

-- what was written ends with `# end` and the outline of the first front end, and `# end 2` and that of the second, where it stands
pub record PairEndsShown (before after : Option (List ℕ)) (passed : PairPassed) : Type 0 where
  pub fronts : FrontValues
  pub is_fold : passed.fold ≡ Ok fronts
  pub written : List ℕ
  pub printed : Appends before after
      (written ++ codes "# end" ++ 10 ∷ outline_text seen_line fronts.one.tree ++ second_shown fronts.two)

-- The replies that were sent down, of either session, answer the whole frames that were given up, in their order, each with its frame's id.
abbrev pub PairAnswersInOrder : (up0 down0 up down : Pipe) → Type 0
PairAnswersInOrder up0 down0 up down = map (λ (t : ShownReply). t.id) (pair_replies_in (sent_since down0 down))
    ≡ map reply_id (frames_of (given_since up0 up)).whole

-- what went over the link by now
abbrev pub moment_of : (up0 down0 up down : Pipe) → LinkMoment
moment_of up0 down0 up down = record { sent_up = sent_since up0 up; given_down = given_since down0 down }
