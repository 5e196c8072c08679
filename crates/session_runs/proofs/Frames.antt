-- The frames of a stream as bytes are put in and given.
use Rattle.std.proofs.Common.{◌≡◌, ℕ, [], ◌++◌, length, take, drop, sym, ◌∙◌, ap, append_assoc, append-nil, arith}
use Rattle.std.proofs.lemmas.List.{take-append-drop, drop_all}
use Rattle.pipe_frames.specs.Frames.{frames_of, frames_from, held_after}
use Rattle.pipe_frames.proofs.FrameLemmas.{frames_of-append, frames_from-append}
use Rattle.session_runs.specs.Stream.{Stream, sent, passed, held, arriving, awaited}

-- the rest of what was given and is on its way
pub rest-sent : (s : Stream) → (frames_of (sent s)).rest ≡ held_after (held s) s.flying
rest-sent s = ap (λ fs. fs.rest) (frames_of-append s.given s.flying)

-- what was sent does not change as it is given
pub sent-passed : (n : ℕ) (s : Stream) → sent (passed n s) ≡ sent s
sent-passed n s = append_assoc s.given (take n s.flying) (drop n s.flying) ∙ ap (λ bytes. s.given ++ bytes) (take-append-drop n s.flying)

-- the frames on their way are those that arrive now, and those that are on their way then
pub awaited-passed : (n : ℕ) (s : Stream) → awaited s ≡ arriving n s ++ awaited (passed n s)
awaited-passed n s =
    ap (λ bytes. frames_from (held s) bytes) (sym (take-append-drop n s.flying))
    ∙ frames_from-append (held s) (take n s.flying) (drop n s.flying)
    ∙ ap (λ rest. arriving n s ++ frames_from rest (drop n s.flying))
    (sym (ap (λ fs. fs.rest) (frames_of-append s.given (take n s.flying))))

-- the whole frames that were sent are those that were given, and those that are on their way
pub whole-sent : (s : Stream) → (frames_of (sent s)).whole ≡ (frames_of s.given).whole ++ awaited s
whole-sent s = ap (λ fs. fs.whole) (frames_of-append s.given s.flying)

-- those that were given after n bytes more
pub whole-given : (n : ℕ) (s : Stream) → (frames_of (passed n s).given).whole ≡ (frames_of s.given).whole ++ arriving n s
whole-given n s = ap (λ fs. fs.whole) (frames_of-append s.given (take n s.flying))

-- what is held then
pub rest-given : (n : ℕ) (s : Stream) → held (passed n s) ≡ held_after (held s) (take n s.flying)
rest-given n s = ap (λ fs. fs.rest) (frames_of-append s.given (take n s.flying))

-- ---- all was given

-- nothing is on its way after all was given
pub given-all : (s : Stream) → (passed (length s.flying) s).flying ≡ []
given-all s = drop_all (length s.flying) s.flying (omega arith)

pub sent-all : (s : Stream) → s.flying ≡ [] → sent s ≡ s.given
sent-all s still = ap (λ bytes. s.given ++ bytes) still ∙ append-nil s.given

-- no frame is awaited where nothing is held and nothing is on its way
pub awaited-none : (s : Stream) → s.flying ≡ [] → held s ≡ [] → awaited s ≡ []
unfolding frames_of
awaited-none s still empty = ap (λ bytes. frames_from (held s) bytes) still ∙ ap (λ rest. frames_from rest []) empty
