-- One read after the other, each when all before it was answered.
use Rattle.std.proofs.Common.{◌≡◌, ℕ, List, [], ◌∷◌, ◌++◌, Option, refl, sym, ◌∙◌, ap, subst, append_assoc, append-nil}
use Rattle.std.specs.Io.KnownBytes.{Appends, Consumes}
use Rattle.pipe_frames.specs.Fault.{next_count}
use Rattle.pipe_frames.proofs.WholeLemmas.{Consumes-nil}
use Rattle.inspect_replay.specs.Served.{Served, served}
use Rattle.inspect_replay.specs.Serving.{ServeCall}
use Rattle.inspect_replay.specs.ServeReads.{ReadMoment, came_by, counted_by, AnsweredFirst, AnswersInTurn}

-- ---- one read more

came-push : (reads : List ReadMoment) (last : ReadMoment) → came_by (reads ++ last ∷ []) ≡ came_by reads ++ last.piece
came-push [] last = append-nil last.piece
came-push (read ∷ reads) last =
    ap (λ bytes. read.piece ++ bytes) (came-push reads last) ∙ sym (append_assoc read.piece (came_by reads) last.piece)

counted-push : (reads : List ReadMoment) (last : ReadMoment) (calls : ℕ)
    → counted_by (reads ++ last ∷ []) calls ≡ next_count (counted_by reads calls)
counted-push [] last calls = refl
counted-push (read ∷ reads) last calls = ap next_count (counted-push reads last calls)

answered-push : (first : Served) (start : Option (List ℕ)) (came : List ℕ) (reads : List ReadMoment) (last : ReadMoment)
    → AnsweredFirst first start came reads → Appends start last.taken (served first (came ++ came_by reads))
    → AnsweredFirst first start came (reads ++ last ∷ [])
answered-push first start came [] last before now =
    (subst (λ bytes. Appends start last.taken (served first bytes)) (append-nil came) now, tt)
answered-push first start came (read ∷ reads) last before now = (
  before.0,
  answered-push first start (came ++ read.piece) reads last before.1
      (subst (λ bytes. Appends start last.taken (served first bytes)) (sym (append_assoc came read.piece (came_by reads))) now),
)

-- these bytes came by reads, each made when all before it was answered
pub record CameInTurn (first : Served) (calls_before calls : ℕ) (start : Option (List ℕ)) (bytes : List ℕ) : Type 0 where
  pub reads : List ReadMoment
  pub counted : calls ≡ counted_by reads calls_before
  pub answered : AnsweredFirst first start [] reads
  pub all : bytes ≡ came_by reads

-- no read yet
pub none-in-turn : (first : Served) (calls : ℕ) (start : Option (List ℕ)) → CameInTurn first calls calls start []
none-in-turn first calls start = record { reads = []; counted = refl; answered = tt; all = refl }

-- a read more, when the sink had taken the answers to what came
pub more-in-turn : (first : Served) (calls_before calls after : ℕ) (start taken : Option (List ℕ)) (bytes piece : List ℕ)
    → CameInTurn first calls_before calls start bytes → Appends start taken (served first bytes) → after ≡ next_count calls
    → CameInTurn first calls_before after start (bytes ++ piece)
more-in-turn first calls_before calls after start taken bytes piece came wrote counted =
    let last : ReadMoment = record { taken = taken; piece = piece } in
    record {
      reads = came.reads ++ last ∷ [];
      counted = counted ∙ ap next_count came.counted ∙ sym (counted-push came.reads last calls_before);
      answered = answered-push first start [] came.reads last came.answered
          (subst (λ all. Appends start taken (served first all)) came.all wrote);
      all = ap (λ all. all ++ piece) came.all ∙ sym (came-push came.reads last);
    }

-- what came in turn is what was read
pub reads-in-turn : (first : Served) (calls_before calls_after : ℕ) (bytes : List ℕ) (call : ServeCall)
    → CameInTurn first calls_before calls_after call.taken_before bytes → Consumes call.left_before call.left_after bytes
    → AnswersInTurn first calls_before calls_after call
reads-in-turn first calls_before calls_after bytes call came read = record {
  reads = came.reads;
  counted = came.counted;
  came = subst (λ all. Consumes call.left_before call.left_after all) came.all read;
  answered = came.answered;
}

-- a call that reads nothing
pub no-reads : (first : Served) (calls : ℕ) (left taken after : Option (List ℕ))
    → AnswersInTurn first calls calls (record { left_before = left; left_after = left; taken_before = taken; taken_after = after })
no-reads first calls left taken after = reads-in-turn first calls calls [] _ (none-in-turn first calls taken) (Consumes-nil left)
