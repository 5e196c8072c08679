-- What a pipe in memory gives.
use Rattle.std.proofs.Common.{◌≡◌, ℕ, ◌+◌, ◌-◌, ◌≤◌, ◌<◌, List, ◌++◌, length, take, drop, min, set, refl, sym, ◌∙◌, ap, inl, inr, arith}
use Rattle.std.proofs.Common.{length-append}
use Rattle.std.proofs.lemmas.Bool.{cases_lt, cases_eq, ne_eqb}
use Rattle.std.proofs.Math.Seq.{drop-append-add}
use Rattle.std.proofs.lemmas.List.{take-append-drop, take-take, take_min, drop-take, length-take-le, length-drop, set-append_left}
use Rattle.std.proofs.lemmas.List.{set-append_right, set_past, length-set, take_at, drop_at}
use Rattle.pipe_frames.specs.Pipe.{Pipe, GivesPiece, waiting}
use Rattle.pipe_frames.specs.Calls.{Flow, pipe_of, replaced, lying_pipe}

-- a front part is the front part before it, and the piece after that
take_piece : (bytes : List ℕ) (passed count : ℕ)
    → take (passed + count) bytes ≡ take passed bytes ++ take count (drop passed bytes)
take_piece bytes passed count =
    sym (take-append-drop passed (take (passed + count) bytes))
    ∙ ap (λ front. front ++ drop passed (take (passed + count) bytes)) (take-take passed (passed + count) bytes (omega arith))
    ∙ ap (λ piece. take passed bytes ++ piece) (drop-take passed count bytes)

length-piece : (bytes : List ℕ) (passed count : ℕ) → passed + count ≤ length bytes → length (take count (drop passed bytes)) ≡ count
length-piece bytes passed count within = length-take-le count (drop passed bytes) (omega (arith, length-drop passed bytes))

-- a pipe that gives what was sent moves the next bytes
pub Moves-flow : (bytes before after : List ℕ) (passed count : ℕ) → passed + count ≤ length bytes
    → after ≡ before ++ take (passed + count - passed) (drop passed bytes)
    → GivesPiece (pipe_of (record { sent = bytes; passed = passed }))
    (pipe_of (record { sent = bytes; passed = passed + count })) before after count
Moves-flow bytes before after passed count within into = record {
  piece = take count (drop passed bytes);
  count = length-piece bytes passed count within;
  into = into ∙ ap (λ n. before ++ take n (drop passed bytes)) (omega arith);
  given = take_piece bytes passed count;
  sent = refl;
}

-- the bytes after those that were let go are held
drop_gone : (gone held : List ℕ) (passed at : ℕ) → passed ≡ length gone + at → drop passed (gone ++ held) ≡ drop at held
drop_gone gone held passed at is = ap (λ n. drop n (gone ++ held)) is ∙ drop-append-add gone held at

-- a pipe that holds what it has not let go moves the next bytes of it
pub Moves-held : (gone held before after : List ℕ) (passed later at count : ℕ) → passed ≡ length gone + at → later ≡ passed + count
    → at + count ≤ length held → after ≡ before ++ take (at + count - at) (drop at held)
    → GivesPiece (pipe_of (record { sent = gone ++ held; passed = passed }))
    (pipe_of (record { sent = gone ++ held; passed = later })) before after count
Moves-held gone held before after passed later at count is more within into = rw more
    (Moves-flow (gone ++ held) before after passed count (omega (arith, length-append gone held))
    (into ∙ ap (λ bytes. before ++ take (at + count - at) bytes) (sym (drop_gone gone held passed at is))
    ∙ ap (λ n. before ++ take n (drop passed (gone ++ held))) (omega arith)))

-- what waits is what is held and was not given
pub waiting_held : (gone held : List ℕ) (passed at : ℕ) → passed ≡ length gone + at → at ≤ length held
    → waiting (pipe_of (record { sent = gone ++ held; passed = passed })) ≡ drop at held
waiting_held gone held passed at is within =
    ap (λ n. drop n (gone ++ held)) (length-take-le passed (gone ++ held) (omega (arith, length-append gone held)))
    ∙ drop_gone gone held passed at is

-- the next bytes, as many as were asked for and wait
pub next_held : (gone held : List ℕ) (passed at max count : ℕ) → passed ≡ length gone + at → at ≤ length held
    → count ≡ min max (length held - at)
    → take (at + count - at) (drop at held) ≡ take max (waiting (pipe_of (record { sent = gone ++ held; passed = passed })))
next_held gone held passed at max count is within few =
    ap (λ n. take n (drop at held)) (let size = length-drop at held in omega arith)
    ∙ take_min max (drop at held)
    ∙ ap (take max) (sym (waiting_held gone held passed at is within))

-- place 0 replaces nothing
replaced-none : (place to : ℕ) (bytes : List ℕ) → place ≡ 0 → replaced place to bytes ≡ bytes
replaced-none place to bytes none = rw none refl

-- any other place is that of a byte, if there are so many
replaced-some : (place to : ℕ) (bytes : List ℕ) → 0 < place → replaced place to bytes ≡ set bytes (place - 1) to
replaced-some place to bytes some = rw (ne_eqb place 0 (λ none. omega (arith, none))) refl

replaced_within : (place to : ℕ) (first second : List ℕ) → place ≤ length first
    → replaced place to (first ++ second) ≡ replaced place to first ++ second
replaced_within place to first second within = elim (cases_eq place 0) [
  | inl none ↦ rw none refl
  | inr some ↦
      let index : 0 < place = omega arith in
      replaced-some place to (first ++ second) index
      ∙ set-append_left first second (place - 1) to (omega arith)
      ∙ ap (λ front. front ++ second) (sym (replaced-some place to first index))
]

pub length-replaced : (place to : ℕ) (bytes : List ℕ) → length (replaced place to bytes) ≡ length bytes
length-replaced place to bytes = elim (cases_eq place 0) [
  | inl none ↦ rw none refl
  | inr some ↦
      let index : 0 < place = omega arith in
      ap length (replaced-some place to bytes index) ∙ length-set bytes (place - 1) to
]

-- a byte of joined lists is replaced in the one where it lies
pub replaced-append : (place to : ℕ) (first second : List ℕ)
    → replaced place to (first ++ second) ≡ replaced place to first ++ replaced (place - length first) to second
replaced-append place to first second = elim (cases_lt (length first) place) [
  | inl past ↦
      replaced-some place to (first ++ second) (omega arith)
      ∙ set-append_right first second (length first) (place - 1) to refl (omega arith)
      ∙ ap (λ index. first ++ set second index to) (omega arith)
      ∙ ap (λ front. front ++ set second (place - length first - 1) to)
      (sym (replaced-some place to first (omega arith) ∙ set_past first (place - 1) to (omega arith)))
      ∙ ap (λ back. replaced place to first ++ back) (sym (replaced-some (place - length first) to second (omega arith)))
  | inr within ↦
      replaced_within place to first second within
      ∙ ap (λ back. replaced place to first ++ back) (sym (replaced-none (place - length first) to second (omega arith)))
]

-- the bytes that a lie is told about follow the bytes that were there before
pub lied_after : (place to : ℕ) (before moved after piece : List ℕ) (start : ℕ) → start ≡ length before → moved ≡ before ++ piece
    → after ≡ take start moved ++ replaced place to (drop start moved) → after ≡ before ++ replaced place to piece
lied_after place to before moved after piece start size into lie =
    lie
    ∙ ap (λ all. take start all ++ replaced place to (drop start all)) into
    ∙ ap (λ front. front ++ replaced place to (drop start (before ++ piece))) (take_at before piece start (sym size))
    ∙ ap (λ back. before ++ replaced place to back) (drop_at before piece start (sym size))

-- a lie moves as many bytes as an honest pipe does, and one of them is replaced where its place has come
pub Moves-lie : (place to : ℕ) (old new : Flow) (before moved after : List ℕ) (count start passed : ℕ)
    → GivesPiece (pipe_of old) (pipe_of new) before moved count → start ≡ length before
    → passed ≡ old.passed → passed ≤ length old.sent
    → after ≡ take start moved ++ replaced (place - passed) to (drop start moved)
    → GivesPiece (lying_pipe place to old) (lying_pipe place to new) before after count
Moves-lie place to old new before moved after count start passed moves size is within lie = record {
  piece = replaced (place - passed) to moves.piece;
  count = length-replaced (place - passed) to moves.piece ∙ moves.count;
  into = lied_after (place - passed) to before moved after moves.piece start size moves.into lie;
  given =
      ap (replaced place to) moves.given
      ∙ replaced-append place to (take old.passed old.sent) moves.piece
      ∙ ap (λ n. replaced place to (take old.passed old.sent) ++ replaced (place - n) to moves.piece)
      (length-take-le old.passed old.sent (omega arith) ∙ sym is);
  sent = moves.sent;
}

-- all that waits has come to be given
pub waiting-count : (flow : Flow) (count : ℕ) → flow.passed ≤ length flow.sent → count ≡ length (waiting (pipe_of flow))
    → length flow.sent ≡ flow.passed + count
waiting-count flow count within is =
    let gone : length (take flow.passed flow.sent) ≡ flow.passed = length-take-le flow.passed flow.sent within in
    let size : length (waiting (pipe_of flow)) ≡ length flow.sent - length (take flow.passed flow.sent) =
    length-drop (length (take flow.passed flow.sent)) flow.sent in
    omega (arith, gone, size, is, within)

-- what waits after a put
pub waiting-put : (old new : Pipe) (piece : List ℕ) → length old.given ≤ length old.sent → new.sent ≡ old.sent ++ piece
    → new.given ≡ old.given → length (waiting new) ≡ length (waiting old) + length piece
waiting-put old new piece within sent given =
    let after : length (waiting new) ≡ length new.sent - length new.given = length-drop (length new.given) new.sent in
    let before : length (waiting old) ≡ length old.sent - length old.given = length-drop (length old.given) old.sent in
    omega (arith, after, before, ap length sent, ap length given, length-append old.sent piece, within)
