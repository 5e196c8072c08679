-- What was sent and given since an earlier moment, over calls that follow one another.
use Rattle.std.proofs.Common.{◌≡◌, ℕ, ◌+◌, ◌≤◌, List, [], ◌++◌, length, take, drop, refl, sym, ◌∙◌, ap, append_assoc, append-nil, arith}
use Rattle.std.proofs.Common.{length-append}
use Rattle.std.proofs.lemmas.List.{drop_all, drop_at, append_cancel_left, drop-drop}
use Rattle.pipe_frames.specs.Pipe.{Pipe, GivesPiece, waiting, GivesPrefix, IsLevel, sent_since, given_since, since, Extends}

-- what joins a list that goes on from a start
pub drop-grown : (start now piece later : List ℕ) → now ≡ start ++ drop (length start) now → later ≡ now ++ piece
    → drop (length start) later ≡ drop (length start) now ++ piece
drop-grown start now piece later extends more =
    ap (drop (length start)) (more ∙ ap (λ bytes. bytes ++ piece) extends ∙ append_assoc start (drop (length start) now) piece)
    ∙ drop_at start (drop (length start) now ++ piece) (length start) refl

-- a piece that is put waits after what waits
pub waiting-put : (now later : Pipe) (piece : List ℕ) → GivesPrefix now
    → later.sent ≡ now.sent ++ piece → later.given ≡ now.given → waiting later ≡ waiting now ++ piece
waiting-put now later piece prefix sent given =
    ap (λ bytes. drop (length bytes) later.sent) given ∙ drop-grown now.given now.sent piece later.sent prefix sent
