-- What went over a link, whichever front ends stand at its end: what its fold comes to, how much was sent and given, and what an answer
-- says of both.
use Rattle.std.specs.Prelude.{◌≡◌, ◌≤◌, ℕ, List, ◌∷◌, length, Option, Some, None, Result, Err, IsOk, OnOk, ⊤}
use Rattle.pipe_frames.specs.Pipe.{Pipe, sent_since, given_since}
use Rattle.front_mirror.specs.declared.faults.FrontFault.{FrontFault}
use Rattle.replay_parts.specs.declared.stop.Stop.{Stop}
use Rattle.replay_parts.specs.Moments.{Moment}
use Rattle.replay_parts.specs.LinkEnds.{EachAnswered}
use Rattle.replay_parts.specs.Says.{Phase, untouched, reading, underway, ended, anywhen, Lie, refused, no_room, says_of}

-- What went over a link: the fold of the bytes given down, begun with the asks among those sent up, which comes to what the front ends show
-- or to a fault; and how many bytes were sent and given, up and down.
pub record WentOver (V : Type 0) : Type 0 where
  pub fold : Result V FrontFault
  pub sent_up : ℕ
  pub given_up : ℕ
  pub sent_down : ℕ
  pub given_down : ℕ

-- what went over it since the pipes were as `up0` and `down0`, where this folds what was sent up and what was given down
abbrev pub went_since : {V : Type 0} → (List ℕ → List ℕ → Result V FrontFault) → (up0 down0 up down : Pipe) → WentOver V
went_since fold up0 down0 up down =
    record {
      fold = fold (sent_since up0 up) (given_since down0 down);
      sent_up = length (sent_since up0 up);
      given_up = length (given_since up0 up);
      sent_down = length (sent_since down0 down);
      given_down = length (given_since down0 down);
    }

-- What an answer says of the fold: the message that it refuses, or that it refuses none; want of memory says nothing. No id or serial is
-- left only where at least so many bytes were sent up.
abbrev pub FoldsFrom : {V : Type 0} → ℕ → Phase → Option Lie → WentOver V → Type 0
FoldsFrom full untouched lie went = IsOk went.fold
FoldsFrom full reading lie went = IsOk went.fold
FoldsFrom full underway None went = IsOk went.fold
FoldsFrom full underway (Some (refused fault)) went = went.fold ≡ Err fault
FoldsFrom full underway (Some no_room) went = IsOk went.fold × (full ≤ went.sent_up)
FoldsFrom full ended lie went = IsOk went.fold
FoldsFrom full anywhen lie went = ⊤

-- Of each pipe no more bytes were given than were sent: a delivery asks for no more than are there.
abbrev pub GivesNoMore : {V : Type 0} → WentOver V → Type 0
GivesNoMore went = (went.given_up ≤ went.sent_up) × (went.given_down ≤ went.sent_down)

-- no more bytes were given than were sent, whatever is answered; want of memory says nothing
abbrev pub LessAt : {V : Type 0} → Phase → WentOver V → Type 0
LessAt untouched went = GivesNoMore went
LessAt reading went = GivesNoMore went
LessAt underway went = GivesNoMore went
LessAt ended went = GivesNoMore went
LessAt anywhen went = ⊤

-- what the result of a part of a run says of both
abbrev pub ResultFolds : {V T : Type 0} → ℕ → Result T Stop → WentOver V → Type 0
ResultFolds full result went = FoldsFrom full (says_of result).phase (says_of result).lie went × LessAt (says_of result).phase went

-- the fold meets no fault, and no more was given than sent
abbrev pub IsWell : {V : Type 0} → WentOver V → Type 0
IsWell went = IsOk went.fold × GivesNoMore went

-- ---- what a call keeps

-- How what stands at the ends follows a link, since a run began so and the pipes were so, by the frames that came up whole and are not yet
-- answered; which of these it holds; how what goes over the link is folded; and how many bytes at least were sent up where no id or serial
-- is left.
pub record Follower (S E V : Type 0) : Type 1 where
  pub follows : S → (up0 down0 up down : Pipe) → List (List ℕ) → E → Type 0
  pub whole : E → List (List ℕ)
  pub fold : List ℕ → List ℕ → Result V FrontFault
  pub full : ℕ

-- it follows the link, and may hold whole frames that are not yet answered
abbrev pub FollowsHolding : {S E V : Type 0} → Follower S E V → S → (up0 down0 : Pipe) → Moment E → Type 0
FollowsHolding f start up0 down0 m = f.follows start up0 down0 m.up m.down (f.whole m.ends) m.ends

-- it follows the link, and every whole frame is answered
abbrev pub FollowsOn : {S E V : Type 0} → Follower S E V → S → (up0 down0 : Pipe) → Moment E → Type 0
FollowsOn f start up0 down0 m = EachAnswered (λ waiting. f.follows start up0 down0 m.up m.down waiting m.ends) (f.whole m.ends)

-- what a result says of all that went over the link by then
abbrev pub FoldsThen : {S E V T : Type 0} → Follower S E V → (up0 down0 : Pipe) → Moment E → Result T Stop → Type 0
FoldsThen f up0 down0 m result = ResultFolds f.full result (went_since f.fold up0 down0 m.up m.down)

-- A call goes on following, or stops as the fold says: a run that began as `more` has it before goes on as one that began as `less` has it.
abbrev pub Keeps : {S E V T : Type 0} → Follower S E V → (more less : S → S) → Moment E → Moment E → Result T Stop → Type 0
Keeps {S} f more less old new result =
    (start : S) (up0 down0 : Pipe) → FollowsOn f (more start) up0 down0 old
    → OnOk result (FollowsOn f (less start) up0 down0 new) × FoldsThen f up0 down0 new result

-- one that answers all whole frames
abbrev pub KeepsAnswers : {S E V T : Type 0} → Follower S E V → Moment E → Moment E → Result T Stop → Type 0
KeepsAnswers {S} f old new result =
    (start : S) (up0 down0 : Pipe) → FollowsHolding f start up0 down0 old
    → OnOk result (FollowsOn f start up0 down0 new) × FoldsThen f up0 down0 new result

-- one that answers this frame, before those that are held
abbrev pub KeepsAnswer : {S E V T : Type 0} → Follower S E V → List ℕ → Moment E → Moment E → Result T Stop → Type 0
KeepsAnswer {S} f frame old new result =
    (start : S) (up0 down0 : Pipe) → f.follows start up0 down0 old.up old.down (frame ∷ f.whole old.ends) old.ends
    → OnOk result (FollowsHolding f start up0 down0 new) × FoldsThen f up0 down0 new result
