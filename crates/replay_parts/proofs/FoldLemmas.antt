-- What an answer says of the fold of what went over a link, whichever front ends stand at its end.
use Rattle.std.proofs.Common.{◌≡◌, ℕ, Option, Err, sym, subst}
use Rattle.pipe_frames.specs.Pipe.{Pipe}
use Rattle.replay_script.specs.declared.faults.LineFault.{LineFault}
use Rattle.replay_parts.specs.declared.status.Status.{Status}
use Rattle.replay_parts.specs.declared.stop.Stop.{Stop}
use Rattle.replay_parts.specs.declared.stop.Stop.TheVariants.{Line, TooLong, ReadFault, WriteFault, LinkFault, FrontRefused, NoRoom}
use Rattle.replay_parts.specs.declared.stop.Stop.TheVariants.{Memory}
use Rattle.replay_parts.specs.Says.{Phase, untouched, reading, underway, ended, anywhen, Lie, PartRose, Says, says, status_of}
use Rattle.replay_parts.specs.Answers.{InReadOnly, source_counts, IsInputStop}
use Rattle.replay_parts.specs.Stops.{GoesWell, UnlessMemory}
use Rattle.replay_parts.specs.Reads.{IsRead, ReadsAt}
use Rattle.replay_parts.specs.LinkFolds.{WentOver, FoldsFrom, GivesNoMore, LessAt, ResultFolds, IsWell}

module _ {V : Type 0} (full : ℕ) where
  -- a stop that is not the front ends', where all went well
  pub stop-folds : (stop : Stop) (went : WentOver V) → GoesWell {T = Unit {0}} (Err stop) → IsWell went
      → ResultFolds {T = Unit {0}} full (Err stop) went
  stop-folds (Line number fault) went never good = good
  stop-folds TooLong went never good = good
  stop-folds ReadFault went never good = good
  stop-folds WriteFault went never good = good
  stop-folds LinkFault went never good = good
  stop-folds (FrontRefused place kind) went never good = absurd never
  stop-folds NoRoom went never good = absurd never
  stop-folds Memory went never good = (tt, tt)

  -- bytes that were not taken up, but for want of memory, leave all as it was
  pub untaken-folds : (stop : Stop) (went : (up down : Pipe) → WentOver V) (up down up1 down1 : Pipe)
      → GoesWell {T = Unit {0}} (Err stop) → UnlessMemory {T = Unit {0}} (Err stop) (up1 ≡ up) → down1 ≡ down → IsWell (went up down)
      → ResultFolds {T = Unit {0}} full (Err stop) (went up1 down1)
  untaken-folds stop went up down up1 down1 never failed same_down well = at stop never failed where
    still : up1 ≡ up → IsWell (went up1 down1)
    still same = subst (λ pipe. IsWell (went pipe down1)) (sym same) (subst (λ pipe. IsWell (went up pipe)) (sym same_down) well)

    at : (s : Stop) → GoesWell {T = Unit {0}} (Err s) → UnlessMemory {T = Unit {0}} (Err s) (up1 ≡ up)
        → ResultFolds {T = Unit {0}} full (Err s) (went up1 down1)
    at (Line number fault) never same = still same
    at TooLong never same = still same
    at ReadFault never same = still same
    at WriteFault never same = still same
    at LinkFault never same = still same
    at (FrontRefused place kind) never same = absurd never
    at NoRoom never same = absurd never
    at Memory never same = (tt, tt)

  -- a line that is not read
  pub read-folds : (stop : Stop) (number : ℕ) (bad : Option LineFault) (went : WentOver V) → IsRead {T = Unit {0}} (Err stop) number bad
      → IsWell went
      → ResultFolds {T = Unit {0}} full (Err stop) went
  read-folds stop number bad went read good = let s : Says = says (status_of stop) in at-line s.phase s.lie s.line read
    where
      at-line : (phase : Phase) (lie : Option Lie) (line : Option (ℕ × LineFault)) → ReadsAt phase line number bad
          → FoldsFrom full phase lie went × LessAt phase went
      at-line untouched lie line read = absurd read
      at-line reading lie line read = absurd read
      at-line underway lie line read = absurd read
      at-line ended lie line read = good
      at-line anywhen lie line read = (tt, tt)

  -- an input that is not read
  pub input-folds : (stop : Stop) (before after : ℕ) (went : WentOver V) → IsInputStop before after (Err stop) → IsWell went
      → ResultFolds {T = Unit {0}} full (Err stop) went
  input-folds stop before after went is good = let s : Says = says (status_of stop) in at-input s.phase s.lie
      (PartRose (source_counts before after) s.failed) is
    where
      at-input : (phase : Phase) (lie : Option Lie) (P : Type 0) → InReadOnly phase P → FoldsFrom full phase lie went × LessAt phase went
      at-input untouched lie P is = absurd is
      at-input reading lie P is = good
      at-input underway lie P is = absurd is
      at-input ended lie P is = absurd is
      at-input anywhen lie P is = (tt, tt)

  -- the status that a stop is says of the fold what the stop says
  pub status-folds : (stop : Stop) (status : Status) (went : WentOver V) → status ≡ status_of stop
      → ResultFolds {T = Unit {0}} full (Err stop) went
      → FoldsFrom full (says status).phase (says status).lie went
  status-folds stop status went is folds = subst (λ (s : Status). FoldsFrom full (says s).phase (says s).lie went) (sym is) folds.0

  -- and of how much was given
  pub status-less : (stop : Stop) (status : Status) (went : WentOver V) → status ≡ status_of stop
      → ResultFolds {T = Unit {0}} full (Err stop) went
      → LessAt (says status).phase went
  status-less stop status went is folds = subst (λ (s : Status). LessAt (says s).phase went) (sym is) folds.1

-- where no more was given than sent, each phase says so
pub less-at : {V : Type 0} (phase : Phase) (went : WentOver V) → GivesNoMore went → LessAt phase went
less-at untouched went less = less
less-at reading went less = less
less-at underway went less = less
less-at ended went less = less
less-at anywhen went less = tt
