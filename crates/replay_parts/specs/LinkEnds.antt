-- What the two ends of a link hold of its pipes, whoever they are; and what comes of bytes that are taken up.
use Rattle.std.specs.Prelude.{◌≡◌, ◌≤◌, ◌+◌, ℕ, List, [], ◌++◌, length, take, min}
use Rattle.pipe_frames.specs.Pipe.{waiting}
use Rattle.pipe_frames.specs.Frames.{Frames, continued}
use Rattle.replay_parts.specs.Moments.{Moment}

-- what is cut of the bytes that came up, and how many bytes of each pipe were sent and not given
pub record LinkEnds : Type 0 where
  pub splitter : Frames
  pub up_there : ℕ
  pub down_there : ℕ

-- the ends of a link over which nothing went
abbrev pub unused_ends : LinkEnds
unused_ends = record { splitter = record { whole = []; rest = [] }; up_there = 0; down_there = 0 }

-- Bytes came up, at most n: they are cut behind what came up before, and count no more as on their way. Over an honest link they are the
-- next n, or all that are on their way.
pub record TookUp (n : ℕ) (old new : Moment LinkEnds) : Type 0 where
  pub piece : List ℕ
  pub sent : new.up.sent ≡ old.up.sent
  pub given : new.up.given ≡ old.up.given ++ piece
  pub few : length piece ≤ n
  pub cut : new.ends.splitter ≡ continued old.ends.splitter piece
  pub count : new.ends.up_there + length piece ≡ old.ends.up_there
  pub down_there : new.ends.down_there ≡ old.ends.down_there
  pub all : old.honest → piece ≡ take (min n old.ends.up_there) (waiting old.up)

-- ---- where a run has come to

-- Something holds of the ends, by the frames that came up whole and are not yet answered; and there are none.
pub record EachAnswered (At : List (List ℕ) → Type 0) (whole : List (List ℕ)) : Type 0 where
  pub so_far : At whole
  pub none_whole : whole ≡ []

-- the link is honest, and the ends are where the run is
pub record OverHonest (honest InWorld : Type 0) : Type 0 where
  pub is_honest : honest
  pub in_world : InWorld
