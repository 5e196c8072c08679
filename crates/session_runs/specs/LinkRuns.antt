-- A run over a link: what the pipes carry of it, and what the ends count. Of the ends themselves nothing is said here: which seats stand
-- for the state, and which front ends are the fold of what was given, is what those who use it add.
use Rattle.std.specs.Prelude.{◌≡◌, ◌++◌, ℕ, List, length}
use Rattle.pipe_frames.specs.Pipe.{Pipe}
use Rattle.session_runs.specs.Stream.{Stream, sent, held}
use Rattle.session_runs.specs.World.{World}
use Rattle.session_runs.specs.Fold.{Machine, FitsWith}

-- since the start, when it had nothing left to give, the pipe took and gave exactly what the stream has
pub record Carries (start now : Pipe) (s : Stream) : Type 0 where
  pub level : start.given ≡ start.sent
  pub sent_is : now.sent ≡ start.sent ++ sent s
  pub given_is : now.given ≡ start.given ++ s.given

-- the two pipes at one moment
pub record Pipes : Type 0 where
  pub up : Pipe
  pub down : Pipe

-- what the ends count: the bytes of a frame that is not whole at the back end, and how many bytes of each pipe were sent and not given
pub record LinkCounts : Type 0 where
  pub back_rest : List ℕ
  pub up_there : ℕ
  pub down_there : ℕ

-- Since the pipes were as at the start, they carry the run, the ends count what is on its way, and the whole streams, folded, fit the
-- state; `frames` are whole at the back end and not yet answered, or on their way to it.
pub record OnLink {S F E X N L : Type 0} (machine : Machine S F E X N) (Fit : N → F → S → List (List ℕ) → Type 0) (first : F)
    (start now : Pipes) (w : World S N L) (frames : List (List ℕ)) (c : LinkCounts) : Type 0 where
  pub up_is : Carries start.up now.up w.up
  pub down_is : Carries start.down now.down w.down
  pub back_is : c.back_rest ≡ held w.up
  pub up_left : c.up_there ≡ length w.up.flying
  pub down_left : c.down_there ≡ length w.down.flying
  pub fits : FitsWith machine.take machine.join Fit first w frames
