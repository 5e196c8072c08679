-- Two runs of one script: one as the report tells it, and one with the fetches of its settles.
use Rattle.std.specs.Prelude.{◌≡◌, ℕ, List, [], All, Ok}
use Rattle.pipe_frames.specs.Frames.{frames_of}
use Rattle.session_runs.specs.Stream.{Stream, sent, held}
use Rattle.session_runs.specs.World.{World}
use Rattle.session_runs.specs.Fold.{Machine, Fits}
use Rattle.session_runs.specs.Fetches.{front_in}

-- in two runs the same is on its way, after the same part of a frame
pub record IsLike (s t : Stream) : Type 0 where
  pub flying : s.flying ≡ t.flying
  pub held : held s ≡ held t

-- nothing is on its way, and no part of a frame was given
pub record IsStill (s : Stream) : Type 0 where
  pub flying : s.flying ≡ []
  pub held : held s ≡ []

-- both streams of a run are still
pub record IsAtRest {S N L : Type 0} (w : World S N L) : Type 0 where
  pub up : IsStill w.up
  pub down : IsStill w.down

-- The runs agree: the state is the same, the same is on its way, as much was spent but for fetches, and the front ends of both
-- show the same but for their sheets; `seen front` is what a front end shows without them.
pub record RunsAgree {S F E X A N L M : Type 0} (machine : Machine S F E X N) (plainly : N → M) (start : F) (seen : F → A)
    (w v : World S N L) : Type 0 where
  pub state : w.state ≡ v.state
  pub up : IsLike w.up v.up
  pub down : IsLike w.down v.down
  pub spent : plainly w.spent ≡ plainly v.spent
  pub plain : F
  pub fresh : F
  pub plain_is : front_in machine start w ≡ Ok plain
  pub fresh_is : front_in machine start v ≡ Ok fresh
  pub same : seen plain ≡ seen fresh

-- Two runs of one script that go on together: w as the report tells it, and v with the fetches of its settles. Both fit the
-- state, they agree, and of the frames that the front end has sent in w none is a fetch.
pub record RunTogether {S F E X A N L M : Type 0} (machine : Machine S F E X N) (plainly : N → M) (Fit : N → F → S → List (List ℕ) → Type 0)
    (start : F) (seen : F → A) (IsPlain : List ℕ → Type 0) (w v : World S N L) : Type 0 where
  pub fits : Fits machine.take machine.join Fit start w
  pub fits_fresh : Fits machine.take machine.join Fit start v
  pub agrees : RunsAgree machine plainly start seen w v
  pub plain : All IsPlain (frames_of (sent w.up)).whole
