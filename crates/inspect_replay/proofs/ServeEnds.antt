-- What came was read and answered by the end of the source, or until the call stopped.
use Rattle.std.proofs.Common.{◌≡◌, ℕ, zero, suc, ◌+◌, ◌^◌, ◌≤◌, List, [], ◌∷◌, ◌++◌, length, take, Option, Some, None, Result, Ok, Err}
use Rattle.std.proofs.Common.{refl, sym, ◌∙◌, ap, subst, append_assoc, append-nil, length-append, arith}
use Rattle.std.specs.Io.KnownBytes.{Consumes, IsAtEnd}
use Rattle.pipe_frames.specs.Fault.{next_count}
use Rattle.pipe_frames.specs.Whole.{ReadPart}
use Rattle.pipe_frames.specs.Frames.{frames_of, frames_from}
use Rattle.pipe_frames.proofs.WholeLemmas.{Consumes-nil, Consumes-append}
use Rattle.replay_parts.specs.declared.status.Status.{Status}
use Rattle.replay_parts.specs.declared.status.Status.TheVariants as status
use Rattle.replay_parts.specs.declared.stop.Stop.{Stop}
use Rattle.replay_parts.specs.declared.stop.Stop.TheVariants.{Line, TooLong, ReadFault, WriteFault, LinkFault, FrontRefused, NoRoom}
use Rattle.replay_parts.specs.declared.stop.Stop.TheVariants.{Memory}
use Rattle.std.specs.Result.{IsOk, IsErrAnd}
use Rattle.std.proofs.lemmas.Result.{err_from_is_err_and}
use Rattle.inspect_replay.specs.Followed.{Passed, StatusFolds}
use Rattle.replay_parts.specs.Says.{Counts, OthersStill, says_of, status_of}
use Rattle.replay_parts.specs.Answers.{StatusRose}
use Rattle.inspect_replay.specs.Served.{Served, first_alone}
use Rattle.inspect_replay.specs.Serving.{HaltedIn, HaltedWithin, AnsweredWhole, ServeCall, ServedRead, ServedAll, ServedLimit}
use Rattle.inspect_replay.specs.Serving.{AnswersTook, IsServeStatus, IsShareStatus, ServeMoment}
use Rattle.inspect_replay.specs.Serving.{SoFar, Serves, PieceRead, PieceAnswered, PieceInPart, PieceServed, EndIsMet, ReadAnswered}
use Rattle.inspect_replay.specs.Serving.{PartAnswered, EndAnswered}
use Rattle.inspect_replay.specs.Serving.{LimitAnswered, FaultAnswered, HasServed, HasServeCause, ServeRose}
use Rattle.inspect_replay.specs.ServeReads.{AnswersInTurn}
use Rattle.inspect_replay.proofs.ReadLemmas.{CameInTurn, none-in-turn, more-in-turn, reads-in-turn}
use Rattle.inspect_replay.proofs.ServeLemmas.{whole-more, halted-longer, lost-first}
use Rattle.inspect_replay.proofs.ServeRoom.{never-full}

-- ---- the loop

-- so many bytes came by reads in turn, and were answered
pub record ServedSoFar (first : Served) (calls_before calls : ℕ) (before left start : Option (List ℕ)) (now : ServeMoment) (came : ℕ)
    : Type 0 where
  pub bytes : List ℕ
  pub count : length bytes ≡ came
  pub few : came ≤ 2 ^ 26
  pub read : Consumes before left bytes
  pub serves : Serves (record { first = first; start = start; bytes = bytes }) now
  pub in_turn : CameInTurn first calls_before calls start bytes

-- nothing came yet
pub nothing-came : (first : Served) (calls : ℕ) (before : Option (List ℕ)) (now : ServeMoment)
    → Serves (record { first = first; start = now.taken; bytes = [] }) now
    → ServedSoFar first calls calls before before now.taken now 0
nothing-came first calls before now serves = record {
  bytes = [];
  count = refl;
  few = omega arith;
  read = Consumes-nil before;
  serves = serves;
  in_turn = none-in-turn first calls now.taken;
}

-- a piece more
pub more-came : (first : Served) (calls_before calls calls_after : ℕ) (before left after start : Option (List ℕ)) (now new : ServeMoment)
    (came count most : ℕ) (s : ServedSoFar first calls_before calls before left start now came)
    → PieceAnswered (record { first = first; start = start; bytes = s.bytes }) new
    (record { before = left; after = after; most = most }) count
    → came + most ≤ 2 ^ 26 → calls_after ≡ next_count calls
    → ServedSoFar first calls_before calls_after before after start new (came + count)
more-came first calls_before calls calls_after before left after start now new came count most s p room counted = record {
  bytes = s.bytes ++ p.piece;
  count = length-append s.bytes p.piece ∙ ap (λ n. n + length p.piece) s.count ∙ ap (λ n. came + n) p.length_is;
  few = let small : count ≤ most = p.few in omega (arith, small, room);
  read = Consumes-append before left after s.bytes p.piece s.read p.consumed;
  serves = p.serves;
  in_turn = more-in-turn first calls_before calls calls_after start now.taken s.bytes p.piece s.in_turn s.serves.answered.wrote counted;
}

-- what came is what was read
read-answered : (first : Served) (calls_before calls : ℕ) (before left start : Option (List ℕ)) (now : ServeMoment) (came : ℕ)
    (s : ServedSoFar first calls_before calls before left start now came)
    → ReadAnswered first (record { left_before = before; left_after = left; taken_before = start; taken_after = now.taken }) s.bytes []
read-answered first calls_before calls before left start now came s = record {
  few = let count = s.count in let few = s.few in omega (arith, count, few);
  read = subst (λ bytes. Consumes before left bytes) (sym (append-nil s.bytes)) s.read;
  answered = s.serves.answered;
}

-- the source ended
pub loop-ended : (first : Served) (calls_before calls : ℕ) (before left start : Option (List ℕ)) (now : ServeMoment) (came : ℕ)
    → ServedSoFar first calls_before calls before left start now came → IsAtEnd left
    → EndAnswered first (record { left_before = before; left_after = left; taken_before = start; taken_after = now.taken })
loop-ended first calls_before calls before left start now came s ended = record {
  bytes = s.bytes;
  answered = read-answered first calls_before calls before left start now came s;
  ended = ended;
}

-- a front part of the answers to what came was written
loop-part : (stop : Stop) (first : Served) (calls_before calls : ℕ) (before left after start : Option (List ℕ)) (now new : ServeMoment)
    (came most : ℕ)
    (s : ServedSoFar first calls_before calls before left start now came)
    → PieceInPart stop (record { first = first; start = start; bytes = s.bytes }) new (record { before = left; after = after; most = most })
    → came + most ≤ 2 ^ 26
    → PartAnswered stop first (record { left_before = before; left_after = after; taken_before = start; taken_after = new.taken })
loop-part stop first calls_before calls before left after start now new came most s p room = record {
  bytes = s.bytes ++ p.piece;
  few =
      let size : length (s.bytes ++ p.piece) ≡ length s.bytes + length p.piece = length-append s.bytes p.piece in
      let count = s.count in let small = p.few in omega (arith, size, count, small, room);
  read = Consumes-append before left after s.bytes p.piece s.read p.consumed;
  halted = p.part;
}

-- the loop stopped
pub loop-stopped : (first : Served) (calls_before calls : ℕ) (before left after start : Option (List ℕ)) (now new : ServeMoment)
    (came most : ℕ) (stop : Stop)
    (s : ServedSoFar first calls_before calls before left start now came)
    → PieceServed (record { first = first; start = start; bytes = s.bytes }) new
    (record { before = left; after = after; most = most }) (Err stop)
    → came + most ≤ 2 ^ 26
    → HasServed {T = Unit {0}} first (record { left_before = before; left_after = after; taken_before = start; taken_after = new.taken })
    (Err stop)
loop-stopped first calls_before calls before left after start now new came most (Line number fault) s p room = absurd p
loop-stopped first calls_before calls before left after start now new came most TooLong s p room = absurd p
loop-stopped first calls_before calls before left after start now new came most ReadFault s p room = record {
  bytes = s.bytes;
  answered = record {
    few = let count = s.count in let few = s.few in omega (arith, count, few);
    read = Consumes-append before left after s.bytes [] s.read p.0;
    answered = p.1.answered;
  };
}
loop-stopped first calls_before calls before left after start now new came most WriteFault s p room =
    loop-part WriteFault first calls_before calls before left after start now new came most s p room
loop-stopped first calls_before calls before left after start now new came most LinkFault s p room = absurd p
loop-stopped first calls_before calls before left after start now new came most (FrontRefused place fault) s p room = absurd p
loop-stopped first calls_before calls before left after start now new came most NoRoom s p room =
    loop-part NoRoom first calls_before calls before left after start now new came most s p room
loop-stopped first calls_before calls before left after start now new came most Memory s p room =
    loop-part Memory first calls_before calls before left after start now new came most s p room

-- as many came as an input may have
pub loop-full : (first : Served) (calls_before calls : ℕ) (before left after start : Option (List ℕ)) (now : ServeMoment) (came : ℕ)
    (result : Result (Unit {0}) Stop)
    → ServedSoFar first calls_before calls before left start now came → 2 ^ 26 ≤ came
    → EndIsMet left after result → HasServed first
    (record { left_before = before; left_after = after; taken_before = start; taken_after = now.taken }) result
loop-full first calls_before calls before left after start now came (Ok value) s full met = record {
  bytes = s.bytes;
  answered = record {
    few = let count = s.count in let few = s.few in omega (arith, count, few);
    read = Consumes-append before left after s.bytes [] s.read met.0;
    answered = s.serves.answered;
  };
  ended = met.1;
}
loop-full first calls_before calls before left after start now came (Err (Line number fault)) s full met = absurd met
loop-full first calls_before calls before left after start now came (Err TooLong) s full met = record {
  bytes = s.bytes;
  past = met.0;
  answered = record {
    few = let count = s.count in let few = s.few in omega (arith, count, few);
    read = Consumes-append before left after s.bytes met.0 s.read met.2;
    answered = s.serves.answered;
  };
  full = let count = s.count in let few = s.few in omega (arith, count, few, full);
  one_more = met.1;
}
loop-full first calls_before calls before left after start now came (Err ReadFault) s full met = record {
  bytes = s.bytes;
  answered = record {
    few = let count = s.count in let few = s.few in omega (arith, count, few);
    read = Consumes-append before left after s.bytes [] s.read met;
    answered = s.serves.answered;
  };
}
loop-full first calls_before calls before left after start now came (Err WriteFault) s full met = absurd met
loop-full first calls_before calls before left after start now came (Err LinkFault) s full met = absurd met
loop-full first calls_before calls before left after start now came (Err (FrontRefused place fault)) s full met = absurd met
loop-full first calls_before calls before left after start now came (Err NoRoom) s full met = absurd met
loop-full first calls_before calls before left after start now came (Err Memory) s full met = absurd met

-- ---- the reads

-- all that came was read in turn
pub turns-ended : (first : Served) (calls_before calls : ℕ) (before left start : Option (List ℕ)) (now : ServeMoment) (came : ℕ)
    → ServedSoFar first calls_before calls before left start now came
    → AnswersInTurn first calls_before calls
    (record { left_before = before; left_after = left; taken_before = start; taken_after = now.taken })
turns-ended first calls_before calls before left start now came s = reads-in-turn first calls_before calls s.bytes _ s.in_turn s.read

-- and what one read more gave
turns-more : (first : Served) (calls_before calls calls_after : ℕ) (before left after start end : Option (List ℕ)) (now : ServeMoment)
    (came : ℕ) (piece : List ℕ) → ServedSoFar first calls_before calls before left start now came → calls_after ≡ next_count calls
    → Consumes left after piece
    → AnswersInTurn first calls_before calls_after
    (record { left_before = before; left_after = after; taken_before = start; taken_after = end })
turns-more first calls_before calls calls_after before left after start end now came piece s counted consumed =
    reads-in-turn first calls_before calls_after (s.bytes ++ piece) _
    (more-in-turn first calls_before calls calls_after start now.taken s.bytes piece s.in_turn s.serves.answered.wrote counted)
    (Consumes-append before left after s.bytes piece s.read consumed)

-- what a call that stopped consumed
consumed-piece : (so_far : SoFar) (new : ServeMoment) (read : PieceRead) (stop : Stop) → PieceServed so_far new read (Err stop)
    → (piece : List ℕ) × Consumes read.before read.after piece
consumed-piece so_far new read (Line number fault) p = absurd p
consumed-piece so_far new read TooLong p = absurd p
consumed-piece so_far new read ReadFault p = ([], p.0)
consumed-piece so_far new read WriteFault p = (p.piece, p.consumed)
consumed-piece so_far new read LinkFault p = absurd p
consumed-piece so_far new read (FrontRefused place fault) p = absurd p
consumed-piece so_far new read NoRoom p = (p.piece, p.consumed)
consumed-piece so_far new read Memory p = (p.piece, p.consumed)

-- the loop stopped at a read
pub turns-stopped : (first : Served) (calls_before calls calls_after : ℕ) (before left after start : Option (List ℕ))
    (now new : ServeMoment) (came most : ℕ) (stop : Stop) (s : ServedSoFar first calls_before calls before left start now came)
    → PieceServed (record { first = first; start = start; bytes = s.bytes }) new
    (record { before = left; after = after; most = most }) (Err stop)
    → calls_after ≡ next_count calls
    → AnswersInTurn first calls_before calls_after
    (record { left_before = before; left_after = after; taken_before = start; taken_after = new.taken })
turns-stopped first calls_before calls calls_after before left after start now new came most stop s p counted =
    let last = consumed-piece _ new _ stop p in
    turns-more first calls_before calls calls_after before left after start new.taken now came last.0 s counted last.1

-- what the last read consumed
consumed-end : (before after : Option (List ℕ)) (result : Result (Unit {0}) Stop) → EndIsMet before after result
    → (piece : List ℕ) × Consumes before after piece
consumed-end before after (Ok value) met = ([], met.0)
consumed-end before after (Err (Line number fault)) met = absurd met
consumed-end before after (Err TooLong) met = (met.0, met.2)
consumed-end before after (Err ReadFault) met = ([], met)
consumed-end before after (Err WriteFault) met = absurd met
consumed-end before after (Err LinkFault) met = absurd met
consumed-end before after (Err (FrontRefused place fault)) met = absurd met
consumed-end before after (Err NoRoom) met = absurd met
consumed-end before after (Err Memory) met = absurd met

-- as many bytes came as an input may have, and one read more was made
pub turns-full : (first : Served) (calls_before calls calls_after : ℕ) (before left after start : Option (List ℕ)) (now : ServeMoment)
    (came : ℕ) (result : Result (Unit {0}) Stop) → ServedSoFar first calls_before calls before left start now came
    → EndIsMet left after result
    → calls_after ≡ next_count calls
    → AnswersInTurn first calls_before calls_after
    (record { left_before = before; left_after = after; taken_before = start; taken_after = now.taken })
turns-full first calls_before calls calls_after before left after start now came result s met counted =
    let last = consumed-end left after result met in
    turns-more first calls_before calls calls_after before left after start now.taken now came last.0 s counted last.1

-- ---- the whole call

-- nothing was read, and nothing was written
pub nothing-served : (first : Served) (left taken : Option (List ℕ))
    → PartAnswered Memory first (record { left_before = left; left_after = left; taken_before = taken; taken_after = taken })
nothing-served first left taken = record {
  bytes = [];
  few = omega arith;
  read = Consumes-nil left;
  halted = lost-first first (frames_of []).whole taken;
}

-- no memory was left to begin with
pub nothing-begun : {T : Type 0} (first : Served) (result : Result T Stop) (left taken : Option (List ℕ))
    → IsErrAnd result (λ stop. stop ≡ Memory)
    → HasServed first (record { left_before = left; left_after = left; taken_before = taken; taken_after = taken }) result
nothing-begun first result left taken lost =
    let p = err_from_is_err_and result lost in
    let is : result ≡ Err Memory = p.1 ∙ ap (λ (stop : Stop). Err stop) p.2 in
    subst (λ (r : Result _ Stop). HasServed first
    (record { left_before = left; left_after = left; taken_before = taken; taken_after = taken }) r) (sym is)
    (nothing-served first left taken)

-- and no count rose
pub nothing-rose : {T : Type 0} (result : Result T Stop) (source sink : ℕ) → IsErrAnd result (λ stop. stop ≡ Memory)
    → HasServeCause (record {
      source_before = source;
      source_after = source;
      sink_before = sink;
      sink_after = sink;
      link_before = 0;
      link_after = 0;
    }) result
nothing-rose result source sink lost =
    let p = err_from_is_err_and result lost in
    let is : result ≡ Err Memory = p.1 ∙ ap (λ (stop : Stop). Err stop) p.2 in
    record {
      source_later = omega arith;
      sink_later = omega arith;
      rose = subst (λ (r : Result _ Stop). ServeRose (record {
        source_before = source;
        source_after = source;
        sink_before = sink;
        sink_after = sink;
        link_before = 0;
        link_after = 0;
      }) r) (sym is) tt;
      others = subst (λ (r : Result _ Stop). OthersStill (record {
        source_before = source;
        source_after = source;
        sink_before = sink;
        sink_after = sink;
        link_before = 0;
        link_after = 0;
      }) (says_of r).failed) (sym is) (refl, refl, refl);
    }

-- a source that tells its bytes had these, and has the others left
known-left : (before after : Option (List ℕ)) (input bytes : List ℕ) → before ≡ Some input → Consumes before after bytes
    → (rest : List ℕ) × (after ≡ Some rest) × (input ≡ bytes ++ rest)
known-left None after input bytes is read = let no : ◌≡◌ {A = Option (List ℕ)} None (Some input) = is in absurd cc
known-left (Some left) None input bytes is read = absurd read
known-left (Some left) (Some rest) input bytes is read = let same : left ≡ input = cc in (rest, refl, sym same ∙ read)

-- the first n bytes of a text begin with its front, where this has at most n
take-past : (n : ℕ) (bytes rest : List ℕ) → length bytes ≤ n → (more : List ℕ) × (take n (bytes ++ rest) ≡ bytes ++ more)
take-past n [] rest few = (take n rest, refl)
take-past zero (byte ∷ bytes) rest few = absurd (omega (arith, few))
take-past (suc n) (byte ∷ bytes) rest few =
    let later = take-past n bytes rest (omega (arith, few)) in (later.0, ap (λ text. byte ∷ text) later.1)

take-full : (n : ℕ) (bytes rest : List ℕ) → length bytes ≡ n → take n (bytes ++ rest) ≡ bytes
take-full n [] rest is = subst (λ m. take m rest ≡ []) is refl
take-full zero (byte ∷ bytes) rest is = absurd (omega (arith, is))
take-full (suc n) (byte ∷ bytes) rest is = ap (λ text. byte ∷ text) (take-full n bytes rest (omega (arith, is)))

-- what stopped within the first bytes of an input stopped within its first 2^26
halted-part : (stop : Stop) (first : Served) (input bytes rest : List ℕ) (call : ServeCall) → input ≡ bytes ++ rest
    → length bytes ≤ 2 ^ 26 → HaltedWithin stop first bytes call
    → HaltedWithin stop first (take (2 ^ 26) input) call
halted-part stop first input bytes rest call whole few halted =
    let later = take-past (2 ^ 26) bytes rest few in
    let front : take (2 ^ 26) input ≡ bytes ++ later.0 = ap (take (2 ^ 26)) whole ∙ later.1 in
    subst (λ text. HaltedWithin stop first text call) (sym front)
    (subst (λ frames. HaltedIn stop first frames call.taken_before call.taken_after) (sym (whole-more bytes later.0))
    (halted-longer stop first (frames_of bytes).whole (frames_from (frames_of bytes).rest later.0) call.taken_before call.taken_after
    halted))

part-took : (stop : Stop) (first : Served) (input : List ℕ) (call : ServeCall) → call.left_before ≡ Some input
    → PartAnswered stop first call
    → HaltedWithin stop first (take (2 ^ 26) input) call
part-took stop first input call is p =
    let k = known-left call.left_before call.left_after input p.bytes is p.read in
    halted-part stop first input p.bytes k.0 call k.2 p.few p.halted

-- the whole input was answered
pub end-took : (first : Served) (input : List ℕ) (call : ServeCall) → call.left_before ≡ Some input → EndAnswered first call
    → ServedAll first input call
end-took first input call is p =
    let k = known-left call.left_before call.left_after input (p.bytes ++ []) is p.answered.read in
    let ended : k.0 ≡ [] = at call.left_after k.0 k.1 p.ended in
    let whole : input ≡ p.bytes = k.2 ∙ ap (λ rest. (p.bytes ++ []) ++ rest) ended ∙ append-nil (p.bytes ++ []) ∙ append-nil p.bytes in
    record {
      few = let few = p.answered.few in let size : length input ≡ length p.bytes = ap length whole in omega (arith, few, size);
      left = k.1 ∙ ap (λ rest. Some rest) ended;
      answered = subst (λ bytes. AnsweredWhole first bytes call) (sym whole) p.answered.answered;
    }
  where
    at : (left : Option (List ℕ)) (rest : List ℕ) → left ≡ Some rest → IsAtEnd left → rest ≡ []
    at None rest is ended = let no : ◌≡◌ {A = Option (List ℕ)} None (Some rest) = is in absurd cc
    at (Some left) rest is ended = let same : left ≡ rest = cc in sym same ∙ ended

limit-took : (first : Served) (input : List ℕ) (call : ServeCall) → call.left_before ≡ Some input → LimitAnswered first call
    → ServedLimit first input call
limit-took first input call is p =
    let k = known-left call.left_before call.left_after input (p.bytes ++ p.past) is p.answered.read in
    let whole : input ≡ p.bytes ++ (p.past ++ k.0) = k.2 ∙ append_assoc p.bytes p.past k.0 in
    let size : length input ≡ length p.bytes + length (p.past ++ k.0) = ap length whole ∙ length-append p.bytes (p.past ++ k.0) in
    let beyond : length (p.past ++ k.0) ≡ length p.past + length k.0 = length-append p.past k.0 in
    let full = p.full in
    let one = p.one_more in
    let front : take (2 ^ 26) input ≡ p.bytes = ap (take (2 ^ 26)) whole ∙ take-full (2 ^ 26) p.bytes (p.past ++ k.0) full in
    record {
      more = omega (arith, size, beyond, full, one);
      answered = subst (λ bytes. AnsweredWhole first bytes call) (sym front) p.answered.answered;
    }

fault-took : (first : Served) (input : List ℕ) (call : ServeCall) → call.left_before ≡ Some input → FaultAnswered first call
    → ServedRead first input call
fault-took first input call is p =
    let k = known-left call.left_before call.left_after input (p.bytes ++ []) is p.answered.read in
    record {
      part = p.bytes;
      rest = k.0;
      left = k.1;
      whole = k.2 ∙ ap (λ bytes. bytes ++ k.0) (append-nil p.bytes);
      answered = p.answered.answered;
    }

-- what a stop that is a status took
pub stop-served : (stop : Stop) (first : Served) (input : List ℕ) (call : ServeCall) → call.left_before ≡ Some input
    → HasServed {T = Unit {0}} first call (Err stop) → AnswersTook first (status_of stop) input call
stop-served (Line number fault) first input call is p = absurd p
stop-served TooLong first input call is p = limit-took first input call is p
stop-served ReadFault first input call is p = fault-took first input call is p
stop-served WriteFault first input call is p = part-took WriteFault first input call is p
stop-served LinkFault first input call is p = absurd p
stop-served (FrontRefused place fault) first input call is p = absurd p
stop-served NoRoom first input call is p = part-took NoRoom first input call is p
stop-served Memory first input call is p = part-took Memory first input call is p

-- a stop of serving two clients is one of the answers of `share`
pub share-status : (stop : Stop) (first : Served) (call : ServeCall) → HasServed {T = Unit {0}} first call (Err stop)
    → IsShareStatus (status_of stop)
share-status (Line number fault) first call p = absurd p
share-status TooLong first call p = tt
share-status ReadFault first call p = tt
share-status WriteFault first call p = tt
share-status LinkFault first call p = absurd p
share-status (FrontRefused place fault) first call p = absurd p
share-status NoRoom first call p = tt
share-status Memory first call p = tt

-- and of serving one client one of those of `serve`: there is always room for it
pub serve-status : (stop : Stop) (call : ServeCall) → HasServed {T = Unit {0}} first_alone call (Err stop)
    → IsServeStatus (status_of stop)
serve-status (Line number fault) call p = absurd p
serve-status TooLong call p = tt
serve-status ReadFault call p = tt
serve-status WriteFault call p = tt
serve-status LinkFault call p = absurd p
serve-status (FrontRefused place fault) call p = absurd p
serve-status NoRoom call p = absurd (never-full p.bytes call.taken_before call.taken_after p.few p.halted)
serve-status Memory call p = tt

-- a stop of serving comes of what rose, whatever a link did
pub stop-rose : (stop : Stop) (c : Counts) (before after : ℕ) → ServeRose {T = Unit {0}} c (Err stop)
    → StatusRose (record c { link_before = before; link_after = after }) (status_of stop)
stop-rose (Line number fault) c before after rose = absurd rose
stop-rose TooLong c before after rose = tt
stop-rose ReadFault c before after rose = rose
stop-rose WriteFault c before after rose = rose
stop-rose LinkFault c before after rose = absurd rose
stop-rose (FrontRefused place fault) c before after rose = absurd rose
stop-rose NoRoom c before after rose = tt
stop-rose Memory c before after rose = tt

-- at most one byte more than an input may have was read
answered-reads : (first : Served) (call : ServeCall) (bytes past : List ℕ) → ReadAnswered first call bytes past → length past ≤ 1
    → ReadPart call.left_before call.left_after (2 ^ 26 + 1)
answered-reads first call bytes past p one = record {
  part = bytes ++ past;
  count = let size : length (bytes ++ past)
      ≡ length bytes + length past = length-append bytes past in let few = p.few in omega (arith, size, few, one);
  read = p.read;
}

part-reads : (stop : Stop) (first : Served) (call : ServeCall) → PartAnswered stop first call
    → ReadPart call.left_before call.left_after (2 ^ 26 + 1)
part-reads stop first call p = record { part = p.bytes; count = let few = p.few in omega (arith, few); read = p.read }

pub served-reads : (first : Served) (call : ServeCall) (result : Result (Unit {0}) Stop) → HasServed first call result
    → ReadPart call.left_before call.left_after (2 ^ 26 + 1)
served-reads first call (Ok value) p = answered-reads first call p.bytes [] p.answered (omega arith)
served-reads first call (Err (Line number fault)) p = absurd p
served-reads first call (Err TooLong) p = answered-reads first call p.bytes p.past p.answered (let one = p.one_more in omega (arith, one))
served-reads first call (Err ReadFault) p = answered-reads first call p.bytes [] p.answered (omega arith)
served-reads first call (Err WriteFault) p = part-reads WriteFault first call p
served-reads first call (Err LinkFault) p = absurd p
served-reads first call (Err (FrontRefused place fault)) p = absurd p
served-reads first call (Err NoRoom) p = part-reads NoRoom first call p
served-reads first call (Err Memory) p = part-reads Memory first call p

-- an answer of serving says nothing of a front end
pub serve-folds : (s : Status) (passed : Passed) → IsServeStatus s → IsOk passed.fold → StatusFolds s passed
serve-folds status.Done passed is good = good
serve-folds status.Usage passed is good = absurd is
serve-folds (status.Line number fault) passed is good = absurd is
serve-folds status.TooLong passed is good = good
serve-folds status.ReadFault passed is good = good
serve-folds status.WriteFault passed is good = good
serve-folds status.LinkFault passed is good = absurd is
serve-folds (status.FrontRefused place kind) passed is good = absurd is
serve-folds status.NoRoom passed is good = absurd is
serve-folds status.Memory passed is good = tt
