-- Frames of messages, each with a session in the place of its closing brace.
use Rattle.std.proofs.Common.{◌≡◌, ◌≢◌, ℕ, suc, ◌^◌, ◌<◌, ◌≤◌, List, [], ◌∷◌, ◌++◌, length, get_or, map, decimal, refl, sym, ◌∙◌, ap}
use Rattle.std.specs.Result.{is_ok}
use Rattle.std.proofs.Common.{Result, Ok, Err, OnOk, cond, append_assoc, append-nil, arith}
use Rattle.std.specs.Prelude.{All, codes}
use Rattle.std.proofs.lemmas.Fmt.{decimal_is_IsNumeral}
use Rattle.std.proofs.lemmas.Str.Parse.{digit_at}
use Rattle.json.specs.Print.{escape_byte, escape}
use Rattle.json.proofs.Printed.Strings.{escape_byte_plain}
use Rattle.std.specs.List.{flat_map}
use Rattle.std.proofs.lemmas.List.Elements.{All-nil, All-head, All-tail}
use Rattle.pipe_frames.specs.Frames.{IsText, frames_of}
use Rattle.pipe_frames.proofs.FrameLemmas.{frames_of-framed, frames_of-text}
use Rattle.cdp_messages.specs.Replies.{Message, message_text, message_frames}
use Rattle.session_mux.specs.Tags.{AreMessages, session_frames}
use Rattle.session_mux.specs.TaggedTexts.{session_end, written_end, tagged_frame}
use Rattle.session_mux.proofs.TagLemmas.{tags-last}

-- frames of messages are cut into their texts
frames-cut : (ms : List Message) → All (λ m. IsText (message_text m)) ms → (frames_of (message_frames ms)).whole ≡ map message_text ms
frames-cut [] texts = ap (λ frames. frames.whole) (frames_of-text [] (All-nil (λ byte. byte ≢ 0)))
frames-cut (m ∷ ms) texts =
    ap (λ frames. frames.whole)
    (frames_of-framed (message_text m) (message_frames ms) (All-head (λ x. IsText (message_text x)) m ms texts))
    ∙ ap (λ rest. message_text m ∷ rest) (frames-cut ms (All-tail (λ x. IsText (message_text x)) m ms texts))

texts-tagged : (n : ℕ) (ms : List Message) → flat_map (tagged_frame (session_end n)) (map message_text ms) ≡ session_frames n ms
texts-tagged n [] = refl
texts-tagged n (m ∷ ms) =
    ap (λ xs. tagged_frame (session_end n) (message_text m) ++ xs) (texts-tagged n ms)
    ∙ ap (λ xs. xs ++ session_frames n ms) (sym (tags-last n m))

-- each whole frame with the session in the place of its closing brace is that session's frame
pub frames-tagged : (n : ℕ) (bytes : List ℕ) (told : AreMessages bytes)
    → flat_map (tagged_frame (session_end n)) (frames_of bytes).whole ≡ session_frames n told.messages
frames-tagged n bytes told =
    ap (λ xs. flat_map (tagged_frame (session_end n)) (frames_of xs).whole) told.is
    ∙ ap (λ texts. flat_map (tagged_frame (session_end n)) texts) (frames-cut told.messages told.texts)
    ∙ texts-tagged n told.messages

-- one frame more is tagged
pub one-more : (end out front all frame : List ℕ) (left whole : List (List ℕ)) → whole ≡ frame ∷ left
    → front ++ end ≡ tagged_frame end frame → out ++ flat_map (tagged_frame end) whole ≡ all
    → ((out ++ front) ++ end) ++ flat_map (tagged_frame end) left ≡ all
one-more end out front all frame left whole is tagged same =
    ap (λ xs. xs ++ flat_map (tagged_frame end) left) (append_assoc out front end ∙ ap (λ xs. out ++ xs) tagged)
    ∙ append_assoc out (tagged_frame end frame) (flat_map (tagged_frame end) left)
    ∙ ap (λ fs. out ++ flat_map (tagged_frame end) fs) (sym is)
    ∙ same

-- no frame is left
pub none-left : (end out all : List ℕ) (whole : List (List ℕ)) → whole ≡ [] → out ++ flat_map (tagged_frame end) whole ≡ all → out ≡ all
none-left end out all whole none same =
    sym (append-nil out) ∙ ap (λ fs. out ++ flat_map (tagged_frame end) fs) (sym none) ∙ same

-- what was appended, by what it is
pub added : {T E : Type 0} (result : Result T E) (new old more all : List ℕ) → new ≡ cond (is_ok result) (old ++ more) old → more ≡ all
    → OnOk result (new ≡ old ++ all)
added (Ok value) new old more all is same = is ∙ ap (λ xs. old ++ xs) same
added (Err error) new old more all is same = tt

-- ---- the end of a message with a session

escaped-digits : (ds : List ℕ) → ((i : ℕ) → i < length ds → (48 ≤ get_or ds i 0) × (get_or ds i 0 ≤ 57)) → escape ds ≡ ds
escaped-digits [] h = refl
escaped-digits (d ∷ ds) h =
    let first = h 0 (omega arith) in
    ap (λ xs. xs ++ escape ds)
    (escape_byte_plain d (λ e. absurd (omega (arith, first, e))) (λ e. absurd (omega (arith, first, e))) (omega (arith, first)))
    ∙ ap (λ xs. d ∷ xs) (escaped-digits ds (λ i l. h (suc i) (omega arith)))

escaped-number : (n : ℕ) → n < 2 ^ 64 → escape (decimal n) ≡ decimal n
escaped-number n fits = escaped-digits (decimal n) (λ i l. digit_at (decimal n) i (decimal_is_IsNumeral n fits).0.1 l)

-- what is written behind the other properties
pub end-written : (n : ℕ) → n < 2 ^ 64 → written_end n ≡ session_end n
unfolding escape_byte
end-written n fits =
    let last : escape (decimal n) ++ 34 ∷ [] ≡ decimal n ++ 34 ∷ [] = ap (λ xs. xs ++ 34 ∷ []) (escaped-number n fits) in
    sym (ap (λ xs. codes ",\"sessionId\":\"S" ++ (xs ++ 125 ∷ 0 ∷ [])) last
    ∙ ap (λ xs. codes ",\"sessionId\":\"S" ++ xs) (append_assoc (decimal n) (34 ∷ []) (125 ∷ 0 ∷ [])))
