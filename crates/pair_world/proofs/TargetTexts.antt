-- The replies to an attach and a detach have no session, and say what was done; sessions have texts of their own.
use Rattle.std.proofs.Common.{◌≡◌, ◌<◌, ◌^◌, ℕ, true, ◌&&◌, nat_le, nat_lt, codes, decimal, drop, bytes_eq, Some}
use Rattle.std.proofs.Common.{None}
use Rattle.std.proofs.Common.{if◌then◌else◌, Ok, refl, ◌∙◌, ap, arith}
use Rattle.std.specs.Str.Parse.{digits_value}
use Rattle.std.proofs.lemmas.Bool.{lt-ltb, ltb-true}
use Rattle.std.proofs.lemmas.Fmt.{decimal_is_IsNumeral, decimal_injective}
use Rattle.std.proofs.lemmas.Slice.Eq.{bytes_eq-Decides}
use Rattle.json.proofs.Printed.Utf8.{IsUtf8-are_ascii}
use Rattle.node_tree.specs.Numbers.{counted_limit, fetch_limit}
use Rattle.serde_json.specs.Data.{Data, object, no_members, number, unsigned}
use Rattle.cdp_json.specs.Fields.{field_if}
use Rattle.cdp_json.specs.Kinds.{as_whole, is_counted}
use Rattle.css_objects.specs.Sheets.{sheet_text, is_sheet}
use Rattle.cdp_json.specs.Plain.{is_plain}
use Rattle.cdp_json.proofs.Options.{both, both_parts}
use Rattle.cdp_json.proofs.ReadBack.{IsUtf8-compact_text}
use Rattle.pipe_frames.specs.Frames.{IsText}
use Rattle.cdp_messages.specs.declared.down.ReplyBody.TheVariants.{Nothing}
use Rattle.cdp_messages.specs.Replies.{reply, message_data, message_text, down_of, fits_message}
use Rattle.cdp_messages.specs.SessionFrames.{session_name}
use Rattle.cdp_messages.proofs.Messages.{messages_are_read}
use Rattle.cdp_messages.proofs.ZeroFree.{texts_have_no_zero}
use Rattle.session_mux.specs.Sessions.{session_text}
use Rattle.session_mux.specs.Targets.{attached_result}
use Rattle.session_runs.specs.Pairs.{bare, attach, detach, session_made, session_dropped}
use Rattle.multi_replay.specs.Incoming.{if_there, down_value, frame_down, is_target_id, session_number, made_numbered, reply_says}
use Rattle.multi_replay.specs.Incoming.{target_says}
use Rattle.pair_world.specs.Shown.{IsSessionNumber}
use Rattle.pair_world.proofs.MessageTexts.{ReadsAgain, read-again, body-again}
use Rattle.pair_world.proofs.TaggedTexts.{session-utf8, bare-read}

-- ---- the text of a session

-- its digits
digits-same : (j k : ℕ) → session_text j ≡ session_text k → decimal j ≡ decimal k
digits-same j k e = ap (drop 1) e

pub texts-apart : (j k : ℕ) → IsSessionNumber j → IsSessionNumber k → bytes_eq (session_text j) (session_text k) ≡ true → j ≡ k
texts-apart j k small low e =
    decimal_injective j k (omega (arith, small.1)) (omega (arith, low.1))
    (digits-same j k ((bytes_eq-Decides (session_text j) (session_text k)).0 e))

pub number-read : (k : ℕ) → IsSessionNumber k → session_number (session_text k) ≡ Some k
number-read k small =
    let value : digits_value 10 (decimal k) ≡ k = (decimal_is_IsNumeral k (omega (arith, small.1))).1 in
    let fits : is_sheet k ≡ true = both (lt-ltb 0 k small.0) (lt-ltb k counted_limit (omega (arith, small.1))) in
    ap (λ m. if (is_sheet m && bytes_eq (sheet_text m) (sheet_text k)) then Some m else None) value
    ∙ ap (λ b. if (b && bytes_eq (sheet_text k) (sheet_text k)) then Some k else None) fits
    ∙ ap (λ b. if b then Some k else None) ((bytes_eq-Decides (sheet_text k) (sheet_text k)).1 refl)

-- ---- ids

pub target-counted : (id : ℕ) → is_target_id id ≡ true → is_counted id ≡ true
target-counted id e = (both_parts (nat_le fetch_limit id) (is_counted id) e).1

pub whole-read : (id : ℕ) → is_counted id ≡ true → as_whole (number (unsigned id)) ≡ Some id
whole-read id e = ap (λ b. if b then Some id else None) e

-- ---- the two replies

attached-again : (id k : ℕ) → is_counted id ≡ true → IsSessionNumber k → ReadsAgain (message_data (reply id (attached_result k)))
attached-again id k counted small =
    let d : Data = message_data (reply id (attached_result k)) in
    let low : id < counted_limit = ltb-true id counted_limit counted in
    let wide : nat_lt id (2 ^ 64) ≡ true = lt-ltb id (2 ^ 64) (omega (arith, low)) in
    let plain : is_plain d ≡ true = ap (λ b. b && true) wide in
    record {
      plain = plain;
      shallow = omega arith;
      utf8 = IsUtf8-compact_text d plain (
        IsUtf8-are_ascii (codes "id") refl,
        tt,
        (IsUtf8-are_ascii (codes "result") refl, (IsUtf8-are_ascii session_name refl, session-utf8 k small, tt), tt),
      );
    }

detached-again : (id : ℕ) → is_counted id ≡ true → ReadsAgain (message_data (reply id (object no_members)))
detached-again id counted = body-again id Nothing counted refl tt (omega arith)

-- a reply with an object is read as it
reply-read : (id : ℕ) (result : Data) → fits_message (reply id result) ≡ true → ReadsAgain (message_data (reply id result))
    → down_of (message_text (reply id result)) ≡ Some (reply id result)
reply-read id result fits r = messages_are_read (reply id result) fits r.plain r.shallow r.utf8

-- it has no session
reply-down : (id : ℕ) (result : Data) → is_counted id ≡ true → ReadsAgain (message_data (reply id result))
    → frame_down (message_text (reply id result)) ≡ bare (Some id)
reply-down id result counted r =
    ap down_value (read-again (message_data (reply id result)) r)
    ∙ bare-read (reply id result)
    ∙ ap (λ o. bare (if_there (field_if o))) (whole-read id counted)

pub attached-down : (id k : ℕ) → is_target_id id ≡ true → IsSessionNumber k
    → frame_down (message_text (reply id (attached_result k))) ≡ bare (Some id)
attached-down id k target small =
    let counted = target-counted id target in reply-down id (attached_result k) counted (attached-again id k counted small)

pub attached-text : (id k : ℕ) → is_target_id id ≡ true → IsSessionNumber k → IsText (message_text (reply id (attached_result k)))
attached-text id k target small =
    texts_have_no_zero (message_data (reply id (attached_result k))) (attached-again id k (target-counted id target) small).plain

pub attached-says : (id k : ℕ) → is_target_id id ≡ true → IsSessionNumber k
    → target_says attach (message_text (reply id (attached_result k))) ≡ Ok (session_made (session_text k) k)
attached-says id k target small =
    let counted = target-counted id target in
    ap (reply_says attach) (reply-read id (attached_result k) (both counted refl) (attached-again id k counted small))
    ∙ ap (made_numbered (session_text k)) (number-read k small)

pub detached-down : (id : ℕ) → is_target_id id ≡ true → frame_down (message_text (reply id (object no_members))) ≡ bare (Some id)
detached-down id target =
    let counted = target-counted id target in reply-down id (object no_members) counted (detached-again id counted)

pub detached-text : (id : ℕ) → is_target_id id ≡ true → IsText (message_text (reply id (object no_members)))
detached-text id target =
    texts_have_no_zero (message_data (reply id (object no_members))) (detached-again id (target-counted id target)).plain

pub detached-says : (id : ℕ) → is_target_id id ≡ true
    → target_says detach (message_text (reply id (object no_members))) ≡ Ok session_dropped
detached-says id target =
    let counted = target-counted id target in
    ap (reply_says detach) (reply-read id (object no_members) (both counted refl) (detached-again id counted))
