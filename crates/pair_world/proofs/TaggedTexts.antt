-- The message of each move has no session; with one as its last property it is read as that message of the session.
use Rattle.std.proofs.Common.{◌≡◌, ◌≤◌, ℕ, ◌+◌, ◌-◌, Bool, true, false, cond, List, [], ◌∷◌, ◌++◌, length, take, map, All, decimal}
use Rattle.std.proofs.Common.{Option, Some, None, refl, sym, ◌∙◌, ap, subst, append_assoc, length-append, arith}
use Rattle.std.specs.Prelude.{IsUtf8}
use Rattle.std.specs.List.{flat_map}
use Rattle.std.proofs.Math.Seq.{take-append_seam}
use Rattle.std.proofs.lemmas.Fmt.{IsAscii-decimal}
use Rattle.std.proofs.lemmas.List.Elements.{All-nil, All-cons, All-head, All-tail}
use Rattle.std.proofs.lemmas.Str.{IsUtf8-from_ascii, IsUtf8-append}
use Rattle.json.specs.Print.{quoted}
use Rattle.json.proofs.Printed.Utf8.{IsUtf8-are_ascii}
use Rattle.serde_json.specs.Data.{number, unsigned, depth}
use Rattle.serde_json.specs.Read.{max_depth}
use Rattle.serde_json.specs.Written.{compact_text, has_float}
use Rattle.cdp_json.specs.Fields.{field_if}
use Rattle.cdp_json.specs.Kinds.{as_whole, is_counted}
use Rattle.cdp_json.specs.Plain.{is_plain, HasUtf8}
use Rattle.cdp_json.proofs.ReadBack.{IsUtf8-compact_text, has_float-is_plain}
use Rattle.pipe_frames.specs.Frames.{IsText, framed}
use Rattle.cdp_messages.specs.Refusals.{code_of, refusal_words}
use Rattle.cdp_messages.specs.Replies.{Message, reply, fault, event, message_data, message_text}
use Rattle.cdp_messages.specs.SessionFrames.{session_name, without_session}
use Rattle.cdp_messages.proofs.ZeroFree.{texts_have_no_zero}
use Rattle.client_views.specs.Views.{View}
use Rattle.client_views.specs.Moves as move
use Rattle.client_views.specs.Moves.{Move, Course, ends, goes, CanBeTold, message_of, move_text}
use Rattle.session_mux.specs.Sessions.{session_text}
use Rattle.session_mux.specs.Tags.{with_session}
use Rattle.session_mux.specs.TaggedTexts.{session_end, tagged_frame}
use Rattle.session_mux.proofs.TagLemmas.{tags-last, tags-off}
use Rattle.back_end.specs.Laws.{reply_ids}
use Rattle.session_runs.specs.Pairs.{bare, of_session}
use Rattle.session_runs.specs.PairFit.{IsNoTarget, IsWritten}
use Rattle.multi_replay.specs.Incoming.{if_there, strange_frame, session_frame, down_value, frame_down}
use Rattle.pair_world.specs.Clients.{pair_reads, client_steps, session_tail}
use Rattle.pair_world.specs.Shown.{IsSessionNumber}
use Rattle.pair_world.proofs.MessageTexts.{ReadsAgain, read-again, texts-of, move-again}

-- a text of one session
abbrev pub text_tagged : ℕ → List ℕ → List ℕ
text_tagged k text = tagged_frame (session_tail (session_text k)) text

-- ---- as a property, and in the text

-- texts are the same where their frames are
unframed : (a b : List ℕ) → framed a ≡ framed b → a ≡ b
unframed a b e =
    let same : length a + 1 ≡ length b + 1 = sym (length-append a (0 ∷ [])) ∙ ap length e ∙ length-append b (0 ∷ []) in
    let long : length a ≡ length b = omega (arith, same) in
    sym (take-append_seam a (0 ∷ [])) ∙ ap (take (length a)) e ∙ ap (λ n. take n (framed b)) long ∙ take-append_seam b (0 ∷ [])

-- what stands at the end of a text, and the zero byte
pub tail-ends : (k : ℕ) → framed (session_tail (session_text k)) ≡ session_end k
tail-ends k =
    ap (λ xs. 44 ∷ xs) (append_assoc (quoted session_name) (58 ∷ (quoted (session_text k) ++ 125 ∷ [])) (0 ∷ [])
    ∙ ap (λ xs. quoted session_name ++ 58 ∷ xs) (append_assoc (quoted (session_text k)) (125 ∷ []) (0 ∷ [])))

pub framed-tagged : (k : ℕ) (text : List ℕ) → framed (text_tagged k text) ≡ tagged_frame (session_end k) text
framed-tagged k text =
    let front = take (length text - 1) text in
    append_assoc front (session_tail (session_text k)) (0 ∷ []) ∙ ap (λ xs. front ++ xs) (tail-ends k)

text-tagged : (k : ℕ) (m : Message) → text_tagged k (message_text m) ≡ compact_text (with_session k (message_data m))
text-tagged k m =
    unframed (text_tagged k (message_text m)) (compact_text (with_session k (message_data m)))
    (framed-tagged k (message_text m) ∙ sym (tags-last k m))

-- ---- what is read

-- the id of a reply
abbrev id_read : Message → Option ℕ
id_read (reply id result) = if_there (field_if (as_whole (number (unsigned id))))
id_read (fault None code said) = None
id_read (fault (Some id) code said) = if_there (field_if (as_whole (number (unsigned id))))
id_read (event n) = None

pub bare-read : (m : Message) → down_value (Some (message_data m)) ≡ bare (id_read m)
bare-read (reply id result) = refl
bare-read (fault None code said) = refl
bare-read (fault (Some id) code said) = refl
bare-read (event n) = refl

pub tagged-read : (k : ℕ) (m : Message) → has_float (message_data m) ≡ false
    → down_value (Some (with_session k (message_data m))) ≡ of_session (session_text k) (message_text m)
tagged-read k m whole =
    by-kind m
    ∙ ap (λ d. session_frame (session_text k) d) (tags-off k m)
    ∙ ap (λ b. cond b strange_frame (of_session (session_text k) (message_text m))) whole
  where
    by-kind : (m : Message) → down_value (Some (with_session k (message_data m)))
        ≡ session_frame (session_text k) (without_session (with_session k (message_data m)))
    by-kind (reply id result) = refl
    by-kind (fault None code said) = refl
    by-kind (fault (Some id) code said) = refl
    by-kind (event n) = refl

-- with a session a message is read again too
session-again : (k : ℕ) (m : Message) → IsUtf8 (session_text k) → ReadsAgain (message_data m) → ReadsAgain (with_session k (message_data m))
session-again k m u r = by-kind m r.plain r.shallow (texts-of (message_data m) r) where
  name : IsUtf8 session_name
  name = IsUtf8-are_ascii session_name refl

  by-kind : (m : Message) → is_plain (message_data m) ≡ true → depth (message_data m) ≤ max_depth → HasUtf8 (message_data m)
      → ReadsAgain (with_session k (message_data m))
  by-kind (reply id result) plain shallow h = record {
    plain = plain;
    shallow = shallow;
    utf8 = IsUtf8-compact_text (with_session k (message_data (reply id result))) plain (h.0, h.1, (h.2.0, h.2.1, (name, u, tt)));
  }
  by-kind (fault None code said) plain shallow h = record {
    plain = plain;
    shallow = shallow;
    utf8 = IsUtf8-compact_text (with_session k (message_data (fault None code said))) plain (h.0, h.1, (name, u, tt));
  }
  by-kind (fault (Some id) code said) plain shallow h = record {
    plain = plain;
    shallow = shallow;
    utf8 = IsUtf8-compact_text (with_session k (message_data (fault (Some id) code said))) plain (h.0, h.1, (h.2.0, h.2.1, (name, u, tt)));
  }
  by-kind (event n) plain shallow h = record {
    plain = plain;
    shallow = shallow;
    utf8 = IsUtf8-compact_text (with_session k (message_data (event n))) plain (h.0, h.1, (h.2.0, h.2.1, (name, u, tt)));
  }

-- ---- the text of a session

pub session-utf8 : (k : ℕ) → IsSessionNumber k → IsUtf8 (session_text k)
session-utf8 k small =
    IsUtf8-append (83 ∷ []) (decimal k) (IsUtf8-are_ascii (83 ∷ []) refl)
    (IsUtf8-from_ascii (decimal k) (IsAscii-decimal k (omega (arith, small.1))))

-- ---- messages that a client is told

-- an id is none of an attach or a detach
abbrev pub NoTarget : Option ℕ → Type 0
NoTarget o = IsNoTarget pair_reads o

-- none of these is
abbrev pub NoTargets : List (Option ℕ) → Type 0
NoTargets os = All (λ o. IsNoTarget pair_reads o) os

-- a frame that a client is told, as two front ends read it
abbrev pub Written : List ℕ → Type 0
Written frame = IsWritten pair_reads client_steps IsSessionNumber frame

message-written : (m : Message) → ReadsAgain (message_data m) → NoTarget (id_read m) → Written (message_text m)
message-written m r none = record {
  id = id_read m;
  is_bare = ap down_value (read-again (message_data m) r) ∙ bare-read m;
  no_target = none;
  tagged = λ k small.
      let t = session-again k m (session-utf8 k small) r in
      ap frame_down (text-tagged k m)
      ∙ ap down_value (read-again (with_session k (message_data m)) t)
      ∙ tagged-read k m (has_float-is_plain (message_data m) r.plain);
  letters = λ k small.
      let t = session-again k m (session-utf8 k small) r in
      subst IsText (sym (text-tagged k m)) (texts_have_no_zero (with_session k (message_data m)) t.plain);
}

-- an id that is read is the one that was written
id-none : (id : ℕ) → NoTarget (Some id) → NoTarget (if_there (field_if (as_whole (number (unsigned id)))))
id-none id none =
    (elim (is_counted id) as (λ (b : Bool). NoTarget (if_there (field_if (cond b (Some id) None)))) [
      | true ↦ none
      | false ↦ tt
    ])

head-none : (o : Option ℕ) (os : List (Option ℕ)) → NoTargets (o ∷ os) → NoTarget o
head-none o os none = All-head (λ o. IsNoTarget pair_reads o) o os none

tail-none : (o : Option ℕ) (os : List (Option ℕ)) → NoTargets (o ∷ os) → NoTargets os
tail-none o os none = All-tail (λ o. IsNoTarget pair_reads o) o os none

-- a move with its reply's id, and those of others
ids-read : (m : Move) (os : List (Option ℕ)) → NoTargets (reply_ids m ++ os) → NoTarget (id_read (message_of m)) × NoTargets os
ids-read (move.change id c) os none = (tt, none)
ids-read move.clear os none = (tt, none)
ids-read (move.met why) os none = (tt, none)
ids-read (move.added s) os none = (tt, none)
ids-read (move.dropped n) os none = (tt, none)
ids-read (move.rewritten n text) os none = (tt, none)
ids-read (move.root id b) os none = (id-none id (head-none (Some id) os none), tail-none (Some id) os none)
ids-read (move.texted id n text) os none = (id-none id (head-none (Some id) os none), tail-none (Some id) os none)
ids-read (move.replied id body) os none = (id-none id (head-none (Some id) os none), tail-none (Some id) os none)
ids-read (move.all_off id) os none = (id-none id (head-none (Some id) os none), tail-none (Some id) os none)
ids-read (move.sheets_off id) os none = (id-none id (head-none (Some id) os none), tail-none (Some id) os none)
ids-read (move.failed r) os none = (by-id r.id (head-none r.id os none), tail-none r.id os none) where
  by-id : (o : Option ℕ) → NoTarget o → NoTarget (id_read (fault o (code_of r.why) (refusal_words r.why)))
  by-id None h = tt
  by-id (Some id) h = id-none id h

-- the messages of a course, whose first view can be told
course-written : (ms : List Move) (u w : View) → Course ms u w → NoTargets (flat_map reply_ids ms)
    → CanBeTold u × All Written (map move_text ms)
course-written _ _ _ (ends v here) none = (here, All-nil Written)
course-written _ _ _ (goes m ms u v w here moves later) none =
    let p = ids-read m (flat_map reply_ids ms) none in
    let rest = course-written ms v w later p.1 in (
      here,
      All-cons Written (move_text m) (map move_text ms)
          (message-written (message_of m) (move-again m u v here rest.0 moves) p.0) rest.1,
    )

pub moves-written : (ms : List Move) (u w : View) → Course ms u w → NoTargets (flat_map reply_ids ms) → All Written (map move_text ms)
moves-written ms u w course none = (course-written ms u w course none).1
