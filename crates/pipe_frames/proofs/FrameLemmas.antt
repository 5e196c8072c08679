-- The frames of bytes that are joined, and of texts that are framed.
use Rattle.std.proofs.Common.{subst, ◌≡◌, ◌≢◌, ℕ, ◌+◌, ◌-◌, ◌<◌, ◌≤◌, List, [], ◌∷◌, ◌++◌, length, take}
use Rattle.std.proofs.Common.{drop, get_or, refl, sym, ◌∙◌, ap, inl, inr}
use Rattle.std.proofs.Common.{append_assoc, append-nil, arith, length-append, length-take, length-drop, eqb-true, true, ◌==◌}
use Rattle.std.proofs.Common.{Result, Ok, Err, OnOk, OnErr}
use Rattle.std.proofs.Math.Seq.{take-add}
use Rattle.std.proofs.lemmas.Bool.{cases_eq, ne_eqb}
use Rattle.std.proofs.lemmas.List.Elements.{All-nil, All-cons, All-head, All-tail}
use Rattle.std.proofs.lemmas.List.{take_more, take_at, take_all, take_rest, get_or-drop}
use Rattle.std.specs.List.{All, flat_map}
use Rattle.pipe_frames.specs.Frames.{Frames, IsText, framed, bytes_of, IsFrame, Splits, lengthened, put_front, frames_of, frames_from}
use Rattle.pipe_frames.specs.Frames.{held_after, continued, with_frame, IsCut, bytes_in}

abbrev IsLetter : ℕ → Type 0
IsLetter byte = byte ≢ 0

-- a byte that is not zero lengthens what comes first
put_front-letter : (byte : ℕ) (whole : List (List ℕ)) (rest : List ℕ) → byte ≢ 0
    → put_front byte (record { whole = whole; rest = rest }) ≡ lengthened byte whole rest
put_front-letter byte whole rest letter = rw (ne_eqb byte 0 letter) refl

-- a byte in front, of frames that go on
put_front-continued : (byte : ℕ) (whole : List (List ℕ)) (rest more : List ℕ)
    → put_front byte (continued (record { whole = whole; rest = rest }) more)
    ≡ continued (put_front byte (record { whole = whole; rest = rest })) more
unfolding frames_of
put_front-continued byte [] rest more =
    elim (cases_eq byte 0) [
      | inl zero ↦ rw zero refl
      | inr letter ↦ sym (ap (λ frames. continued frames more) (put_front-letter byte [] rest letter))
    ]
put_front-continued byte (frame ∷ frames) rest more =
    elim (cases_eq byte 0) [ inl zero ↦ rw zero refl | inr letter ↦ rw (ne_eqb byte 0 letter) refl ]

-- the frames of joined bytes are those of the first, gone on with the second
pub frames_of-append : (first second : List ℕ) → frames_of (first ++ second) ≡ continued (frames_of first) second
unfolding frames_of
frames_of-append [] second = refl
frames_of-append (byte ∷ first) second =
    ap (put_front byte) (frames_of-append first second)
    ∙ put_front-continued byte (frames_of first).whole (frames_of first).rest second

-- a text alone is a rest
pub frames_of-text : (text : List ℕ) → IsText text → frames_of text ≡ record { whole = []; rest = text }
unfolding frames_of
frames_of-text [] letters = refl
frames_of-text (byte ∷ text) letters =
    rw (frames_of-text text (All-tail IsLetter byte text letters), ne_eqb byte 0 (All-head IsLetter byte text letters)) refl

-- a framed text is the first whole frame
pub frames_of-framed : (text more : List ℕ) → IsText text
    → frames_of (framed text ++ more) ≡ record { whole = text ∷ (frames_of more).whole; rest = (frames_of more).rest }
unfolding frames_of
frames_of-framed [] more letters = refl
frames_of-framed (byte ∷ text) more letters =
    rw (frames_of-framed text more (All-tail IsLetter byte text letters), ne_eqb byte 0 (All-head IsLetter byte text letters)) refl

-- a framed text alone is one frame
pub frames_of-one : (text : List ℕ) → IsText text → frames_of (framed text) ≡ record { whole = text ∷ []; rest = [] }
unfolding frames_of
frames_of-one text letters = ap frames_of (sym (append-nil (framed text))) ∙ frames_of-framed text [] letters

-- framed texts and a rest are cut where they were joined
pub frames_of-bytes_of : (whole : List (List ℕ)) (rest : List ℕ) → All IsText whole → IsText rest
    → frames_of (bytes_of (record { whole = whole; rest = rest })) ≡ record { whole = whole; rest = rest }
frames_of-bytes_of [] rest texts partial = frames_of-text rest partial
frames_of-bytes_of (text ∷ whole) rest texts partial =
    rw (append_assoc (framed text) (flat_map framed whole) rest)
    (frames_of-framed text (flat_map framed whole ++ rest) (All-head IsText text whole texts)
    ∙ ap (λ frames. record { whole = text ∷ frames.whole; rest = frames.rest })
    (frames_of-bytes_of whole rest (All-tail IsText text whole texts) partial))

-- one byte more in front is split as the rest is
Splits-put_front : (byte : ℕ) (bytes : List ℕ) (whole : List (List ℕ)) (rest : List ℕ)
    → Splits bytes (record { whole = whole; rest = rest })
    → Splits (byte ∷ bytes) (put_front byte (record { whole = whole; rest = rest }))
Splits-put_front byte bytes [] rest split =
    elim (cases_eq byte 0) [
      | inl zero ↦ rw zero (record {
        joined = ap (λ more. 0 ∷ more) split.joined;
        texts = All-cons IsText [] [] (All-nil IsLetter) split.texts;
        partial = split.partial;
      })
      | inr letter ↦ rw (ne_eqb byte 0 letter) (record {
        joined = ap (λ more. byte ∷ more) split.joined;
        texts = split.texts;
        partial = All-cons IsLetter byte rest letter split.partial;
      })
    ]
Splits-put_front byte bytes (text ∷ whole) rest split =
    elim (cases_eq byte 0) [
      | inl zero ↦ rw zero (record {
        joined = ap (λ more. 0 ∷ more) split.joined;
        texts = All-cons IsText [] (text ∷ whole) (All-nil IsLetter) split.texts;
        partial = split.partial;
      })
      | inr letter ↦ rw (ne_eqb byte 0 letter) (record {
        joined = ap (λ more. byte ∷ more) split.joined;
        texts = All-cons IsText (byte ∷ text) whole
            (All-cons IsLetter byte text letter (All-head IsText text whole split.texts)) (All-tail IsText text whole split.texts);
        partial = split.partial;
      })
    ]

-- the frames of bytes split them
pub Splits-frames_of : (bytes : List ℕ) → Splits bytes (frames_of bytes)
unfolding frames_of
Splits-frames_of [] = record { joined = refl; texts = All-nil IsText; partial = All-nil IsLetter }
Splits-frames_of (byte ∷ bytes) =
    Splits-put_front byte bytes (frames_of bytes).whole (frames_of bytes).rest (Splits-frames_of bytes)

-- no other frames do
pub frames_of-only : (bytes : List ℕ) (frames : Frames) → Splits bytes frames → frames ≡ frames_of bytes
frames_of-only bytes frames split =
    sym (ap frames_of split.joined ∙ frames_of-bytes_of frames.whole frames.rest split.texts split.partial)

-- what comes after the first whole frame
pub IsCut-first : (frame : List ℕ) (more whole : List (List ℕ)) (rest : List ℕ) → whole ≡ frame ∷ more → IsCut whole rest
    → IsCut more rest × IsText frame
IsCut-first frame more whole rest is cut =
    let first : IsCut (frame ∷ more) rest = subst (λ w. IsCut w rest) is cut in
    (record { texts = All-tail IsText frame more first.texts; partial = first.partial }, All-head IsText frame more first.texts)

-- how many bytes frames were cut from
pub bytes-counted : (whole : List (List ℕ)) (rest : List ℕ)
    → length (bytes_of (record { whole = whole; rest = rest })) ≡ bytes_in whole + length rest
bytes-counted [] rest = omega arith
bytes-counted (frame ∷ whole) rest =
    let more : length (flat_map framed whole ++ rest) ≡ bytes_in whole + length rest = bytes-counted whole rest in
    let sum : length ((framed frame ++ flat_map framed whole) ++ rest) ≡ length frame + 1 + length (flat_map framed whole ++ rest)
    = grind (arith, length-append) in
    omega (arith, more, sum)

-- more text lengthens the rest
pub continued-text : (whole : List (List ℕ)) (rest text : List ℕ) → IsText (rest ++ text)
    → continued (record { whole = whole; rest = rest }) text ≡ record { whole = whole; rest = rest ++ text }
continued-text whole rest text letters =
    ap (λ frames. record { whole = whole ++ frames.whole; rest = frames.rest }) (frames_of-text (rest ++ text) letters)
    ∙ ap (λ frames. record { whole = frames; rest = rest ++ text }) (append-nil whole)

-- a zero byte ends a frame
pub continued-zero : (whole : List (List ℕ)) (rest : List ℕ) → IsText rest
    → continued (record { whole = whole; rest = rest }) (0 ∷ []) ≡ record { whole = whole ++ rest ∷ []; rest = [] }
continued-zero whole rest letters =
    ap (λ frames. record { whole = whole ++ frames.whole; rest = frames.rest }) (frames_of-one rest letters)

-- no more bytes, no other frames
pub continued-nil : (frames : Frames) → IsText frames.rest → continued frames [] ≡ frames
continued-nil frames letters =
    continued-text frames.whole frames.rest [] (rw append-nil letters)
    ∙ ap (λ rest. record { whole = frames.whole; rest = rest }) (append-nil frames.rest)

-- pieces go on one after the other
pub continued-append : (frames : Frames) (first second : List ℕ)
    → continued (continued frames first) second ≡ continued frames (first ++ second)
continued-append frames first second =
    let joined : frames_of (frames.rest ++ (first ++ second)) ≡ continued (frames_of (frames.rest ++ first)) second
    = rw (← append_assoc frames.rest first second) (frames_of-append (frames.rest ++ first) second) in
    rw (append_assoc frames.whole (frames_from frames.rest first))
    (ap (λ more. record { whole = frames.whole ++ more.whole; rest = more.rest }) (sym joined))

-- a framed text ends the frame that the rest has begun
pub continued-framed : (whole : List (List ℕ)) (rest text : List ℕ) → IsText (rest ++ text)
    → continued (record { whole = whole; rest = rest }) (framed text) ≡ with_frame (record { whole = whole; rest = rest }) (rest ++ text)
continued-framed whole rest text letters =
    ap (λ frames. record { whole = whole ++ frames.whole; rest = frames.rest })
    (ap frames_of (sym (append_assoc rest text (0 ∷ []))) ∙ frames_of-one (rest ++ text) letters)

-- after whole frames a framed text is one more
pub frames_of-last : (bytes text : List ℕ) → IsText text → (frames_of bytes).rest ≡ []
    → frames_of (bytes ++ framed text) ≡ with_frame (frames_of bytes) text
frames_of-last bytes text letters none =
    frames_of-append bytes (framed text)
    ∙ ap (λ rest. continued (record { whole = (frames_of bytes).whole; rest = rest }) (framed text)) none
    ∙ continued-framed (frames_of bytes).whole [] text letters

-- the frames that come of joined bytes after a rest, and the rest that they leave
pub frames_from-append : (rest first second : List ℕ)
    → frames_from rest (first ++ second) ≡ frames_from rest first ++ frames_from (held_after rest first) second
frames_from-append rest first second =
    ap (λ bytes. (frames_of bytes).whole) (sym (append_assoc rest first second))
    ∙ ap (λ frames. frames.whole) (frames_of-append (rest ++ first) second)

pub held_after-append : (rest first second : List ℕ)
    → held_after rest (first ++ second) ≡ held_after (held_after rest first) second
held_after-append rest first second =
    ap (λ bytes. (frames_of bytes).rest) (sym (append_assoc rest first second))
    ∙ ap (λ frames. frames.rest) (frames_of-append (rest ++ first) second)

-- frames after a zero byte, given what the whole frames and the rest are now
pub ended : (old new : List (List ℕ)) (rest left : List ℕ) → IsText rest → new ≡ old ++ rest ∷ [] → left ≡ []
    → record { whole = new; rest = left } ≡ continued (record { whole = old; rest = rest }) (0 ∷ [])
ended old new rest left letters whole none = rw (whole, none) (sym (continued-zero old rest letters))

-- the text of a piece that is one frame is what stands before its last byte
frame-text : (piece : List ℕ) (frame : IsFrame piece) → take (length piece - 1) piece ≡ frame.text
frame-text piece frame =
    ap (λ bytes. take (length bytes - 1) bytes) frame.is
    ∙ ap (λ n. take n (framed frame.text)) (grind (arith, length-append))
    ∙ take_at frame.text (0 ∷ []) (length frame.text) refl

-- a piece that is one frame comes after whole frames
pub frame_kept : (whole after : List (List ℕ)) (rest piece text : List ℕ) → rest ≡ [] → IsFrame piece
    → text ≡ take (length piece - 1) piece → after ≡ whole ++ text ∷ []
    → record { whole = after; rest = rest } ≡ continued (record { whole = whole; rest = rest }) piece
frame_kept whole after rest piece text none frame taken is =
    rw (none, is, taken, frame-text piece frame)
    (sym (ap (λ bytes. continued (record { whole = whole; rest = [] }) bytes) frame.is
    ∙ continued-framed whole [] frame.text frame.letters))

-- of a frame no byte may be there
pub frame_refused : (old new : Frames) (piece : List ℕ) → IsFrame piece → new ≡ old → IsText old.rest
    → (n : ℕ) × (n < length piece) × (new ≡ continued old (take n piece))
frame_refused old new piece frame same letters =
    (0, rw frame.is (grind (arith, length-append)), same ∙ sym (continued-nil old letters))

-- more bytes of a piece
pub continued-more : (frames : Frames) (piece : List ℕ) (start more : ℕ)
    → continued (continued frames (take start piece)) (take more (drop start piece)) ≡ continued frames (take (start + more) piece)
continued-more frames piece start more =
    continued-append frames (take start piece) (take more (drop start piece))
    ∙ ap (continued frames) (sym (take-add start more piece))

-- a zero byte more of a piece
pub continued-end : (frames : Frames) (piece : List ℕ) (start : ℕ) → start < length piece → get_or piece start 0 ≡ 0
    → continued (continued frames (take start piece)) (0 ∷ []) ≡ continued frames (take (start + 1) piece)
continued-end frames piece start within zero =
    continued-append frames (take start piece) (0 ∷ [])
    ∙ ap (λ byte. continued frames (take start piece ++ byte ∷ [])) (sym zero)
    ∙ ap (continued frames) (sym (take_more piece start 0 within))

-- a splitter that took a text of a piece
pub took_text : (old now mid : Frames) (piece : List ℕ) (start len : ℕ) → now ≡ continued old (take start piece)
    → mid ≡ continued now (take (start + len - start) (drop start piece)) → mid ≡ continued old (take (start + len) piece)
took_text old now mid piece start len before text =
    text ∙ ap (λ n. continued now (take n (drop start piece))) (omega arith)
    ∙ ap (λ frames. continued frames (take len (drop start piece))) before
    ∙ continued-more old piece start len

-- the first zero byte of what is left of a piece, by its place in the piece
pub zero_in : (piece : List ℕ) (start len : ℕ) → len < length (take (length piece - start) (drop start piece))
    → (get_or (take (length piece - start) (drop start piece)) len 0 == 0) ≡ true
    → (start + len < length piece) × (get_or piece (start + len) 0 ≡ 0)
zero_in piece start len within is_zero =
    let inside : start + len < length piece
    = omega (arith, length-take (length piece - start) (drop start piece), length-drop start piece, within) in (
      inside,
      sym (get_or-drop start piece len 0) ∙ ap (λ bytes. get_or bytes len 0) (sym (take_rest piece start))
          ∙ eqb-true (get_or (take (length piece - start) (drop start piece)) len 0) 0 is_zero,
    )

-- a splitter that took more bytes of a piece, and then all of them
pub took_all : {T E : Type 0} (result : Result T E) (old now new : Frames) (piece : List ℕ) (start : ℕ) → start ≤ length piece
    → now ≡ continued old (take start piece)
    → OnOk result (new ≡ continued now (take (length piece - start) (drop start piece))) → OnOk result (new ≡ continued old piece)
took_all (Ok value) old now new piece start within before after =
    after ∙ ap (λ frames. continued frames (take (length piece - start) (drop start piece))) before
    ∙ continued-more old piece start (length piece - start)
    ∙ ap (continued old) (take_all (start + (length piece - start)) piece (omega (arith, within)))
took_all (Err error) old now new piece start within before after = after

-- a splitter that took a text of a piece, and was refused memory for the zero byte behind it
pub took_part : {T E : Type 0} (result : Result T E) (old now mid new : Frames) (piece : List ℕ) (start len : ℕ)
    → start + len < length piece → now ≡ continued old (take start piece)
    → mid ≡ continued now (take (start + len - start) (drop start piece)) → new ≡ mid
    → OnErr result ((n : ℕ) × (n < length piece) × (new ≡ continued old (take n piece)))
took_part (Ok value) old now mid new piece start len within before text same = tt
took_part (Err error) old now mid new piece start len within before text same =
    (start + len, within, same ∙ took_text old now mid piece start len before text)

-- a splitter that took a text and the zero byte behind it
pub took_frame : (old now mid new : Frames) (piece : List ℕ) (start len : ℕ) → start + len < length piece
    → get_or piece (start + len) 0 ≡ 0 → now ≡ continued old (take start piece)
    → mid ≡ continued now (take (start + len - start) (drop start piece)) → new ≡ continued mid (0 ∷ [])
    → new ≡ continued old (take (start + (len + 1)) piece)
took_frame old now mid new piece start len within zero before text after =
    after ∙ ap (λ frames. continued frames (0 ∷ [])) (took_text old now mid piece start len before text)
    ∙ continued-end old piece (start + len) within zero
    ∙ ap (λ n. continued old (take n piece)) (omega arith)

pub none-in : (frames : List (List ℕ)) → length frames ≡ 0 → bytes_in frames ≡ 0
none-in [] none = refl
none-in (frame ∷ frames) none = omega (arith, none)
