-- The replies among what a step sends to two sessions answer the frames that came, each with its frame's id.
use Rattle.std.proofs.Common.{◌≡◌, ℕ, ◌≤◌, Bool, true, false, cond, List, [], ◌∷◌, ◌++◌, map, codes, bytes_eq, decimal, Option, Some, None}
use Rattle.std.proofs.Common.{option_map, option_and_then, unwrap_or, refl, sym, ◌∙◌, ap, subst, append-nil, Result, Ok, Err, arith, ◌<◌}
use Rattle.std.proofs.Common.{nat_lt, length, ◌^◌, ◌&&◌}
use Rattle.std.proofs.lemmas.Bool.{lt-ltb, ltb-true}
use Rattle.std.specs.Prelude.{All, IsUtf8}
use Rattle.std.specs.List.{flat_map}
use Rattle.std.specs.Ordering.{nat_cmp, match_ordering}
use Rattle.std.specs.declared.cmp.Ordering.{Ordering}
use Rattle.std.specs.declared.cmp.Ordering.TheVariants.{Less, Equal, Greater}
use Rattle.std.specs.Cmp.Lexicographic.{slice_cmp}
use Rattle.std.proofs.lemmas.Map.Lookups.{exact_bytes}
use Rattle.std.proofs.lemmas.List.{map-append}
use Rattle.std.proofs.lemmas.List.Concat.{flat_map-append}
use Rattle.std.proofs.lemmas.List.Elements.{All-nil, All-cons, All-head, All-tail}
use Rattle.std.proofs.lemmas.Slice.Eq.{bytes_eq-Decides}
use Rattle.std.proofs.lemmas.Str.{IsUtf8-append}
use Rattle.json.proofs.Printed.Utf8.{IsUtf8-are_ascii}
use Rattle.serde_json.specs.Data.{Data, null, boolean, number, string, array, object, Members, no_members, member, depth}
use Rattle.serde_json.specs.Read.{max_depth}
use Rattle.serde_json.specs.Find.{get_member, as_str, as_object}
use Rattle.serde_json.specs.Written.{compact_text}
use Rattle.cdp_json.specs.declared.fields.Field.{Field}
use Rattle.cdp_json.specs.declared.fields.Field.TheVariants.{Is, Missing, WrongKind}
use Rattle.cdp_json.specs.Fields.{field_if, field_from, field_of}
use Rattle.cdp_json.specs.Kinds.{as_whole, is_counted}
use Rattle.cdp_json.specs.Plain.{is_plain, HasUtf8}
use Rattle.cdp_json.proofs.Options.{both, and_then_some}
use Rattle.cdp_json.proofs.ReadBack.{IsUtf8-compact_text, has_float-is_plain}
use Rattle.node_tree.specs.Numbers.{counted_limit}
use Rattle.pipe_frames.specs.Frames.{Frames, framed, frames_of}
use Rattle.pipe_frames.proofs.FrameLemmas.{frames_of-framed}
use Rattle.cdp_messages.specs.declared.command.Command.{Command}
use Rattle.cdp_messages.specs.declared.command.Why.{Why}
use Rattle.cdp_messages.specs.declared.command.Why.TheVariants.{NoSession}
use Rattle.cdp_messages.specs.declared.command.Asked.{Asked}
use Rattle.cdp_messages.specs.declared.command.Refused.{Refused}
use Rattle.cdp_messages.specs.declared.down.ReplyBody.TheVariants.{Nothing}
use Rattle.cdp_messages.specs.Asked.{json_of, asked_in, asked_value, command_in, asked_by, with_id, refusal, method_name}
use Rattle.cdp_messages.specs.Replies.{Message, reply, fault, event, message_data, message_text, message_frames, down_of, refusal_message}
use Rattle.cdp_messages.specs.SessionFrames.{session_name, without, without_session, session_asked}
use Rattle.cdp_messages.proofs.Messages.{messages_are_read, refusals_are_read}
use Rattle.cdp_messages.proofs.ZeroFree.{texts_have_no_zero}
use Rattle.client_views.specs.Views.{View, ShownSheet}
use Rattle.client_views.specs.Moves.{Move, Course, ends, goes, CanBeTold, message_of, move_text, frames_of_moves, failed}
use Rattle.session_mux.specs.declared.router.Routed.TheVariants.{Root, Attached, Answered}
use Rattle.session_mux.specs.Sessions.{Sessions, session_text, is_attached}
use Rattle.session_mux.specs.Targets.{target_named, attach_refusal, detach_refusal, attached_result}
use Rattle.session_mux.specs.Tags.{with_session}
use Rattle.session_mux.specs.Routes.{Request, if_is, params_in, request_in, request_of, Routing, routing, routing_by}
use Rattle.session_mux.specs.Routes.{by_session, by_method, by_name, by_refusal, left_to}
use Rattle.session_mux.proofs.RouteLemmas.{attached-by-name}
use Rattle.front_mirror.specs.declared.replies.Ask.{Ask}
use Rattle.front_mirror.specs.declared.sheets.KnownSheet.{KnownSheet}
use Rattle.front_mirror.specs.Front.{FrontValue, first_value}
use Rattle.front_mirror.specs.Laws.{KnowsSheets, InTurn, rests, meets}
use Rattle.back_end.specs.States.{State, view_of}
use Rattle.back_end.specs.Steps.{Step}
use Rattle.back_end.specs.Laws.{reply_ids, IsAnswered}
use Rattle.back_end.specs.Pairs.{sent_to}
use Rattle.back_end.proofs.AskedLemmas.{whole-is}
use Rattle.session_runs.proofs.Worlds.{whole-after, rest-after}
use Rattle.multi_replay.specs.Incoming.{down_value, frame_down}
use Rattle.inspect_world.specs.Fits.{ask_with}
use Rattle.inspect_world.specs.ShownReplies.{ShownReply, reply_shown, replies_in_frame, replies_among, id_asked, reply_id}
use Rattle.inspect_world.proofs.PlainAsks.{ArePlain}
use Rattle.inspect_world.proofs.Replies.{replies-folded, replies_among-append}
use Rattle.inspect_world.proofs.StepsTaken.{course-quiet, Taken, taken, tells-all, meets-one, by-refusal, ids-kept, frames_of-moves}
use Rattle.client_views.proofs.MoveTexts.{course-texts}
use Rattle.pair_world.specs.PairLinks.{plain_frame}
use Rattle.pair_world.specs.SessionWays.{attach_method, detach_method}
use Rattle.pair_world.proofs.MessageTexts.{ReadsAgain, read-again, texts-of, body-again, refusal-again, move-again}
use Rattle.pair_world.proofs.TaggedTexts.{bare-read, tagged-read}
use Rattle.pair_replay.proofs.DecimalTexts.{decimal-utf8}

-- ---- ids among frames of both sessions

-- a frame that comes down, without its session
abbrev pub plain_of : List ℕ → List (List ℕ)
plain_of frame = plain_frame frame (frame_down frame)

-- the ids of the replies among frames that come down, whosever they are
abbrev pub ids_down : List (List ℕ) → List (Option ℕ)
ids_down frames = map (λ (t : ShownReply). t.id) (replies_among (flat_map plain_of frames))

pub ids_down-append : (first second : List (List ℕ)) → ids_down (first ++ second) ≡ ids_down first ++ ids_down second
ids_down-append first second =
    ap (λ fs. map (λ (t : ShownReply). t.id) (replies_among fs)) (flat_map-append plain_of first second)
    ∙ ap (map (λ (t : ShownReply). t.id)) (replies_among-append (flat_map plain_of first) (flat_map plain_of second))
    ∙ map-append (λ (t : ShownReply). t.id) (replies_among (flat_map plain_of first)) (replies_among (flat_map plain_of second))

-- ---- messages that are read again

-- each of them is
abbrev pub AreRead : List Message → Type 0
AreRead ms = All (λ (m : Message). ReadsAgain (message_data m)) ms

pub utf8-text : (k : ℕ) → IsUtf8 (session_text k)
utf8-text k =
    IsUtf8-append (83 ∷ []) (decimal k) (IsUtf8-are_ascii (83 ∷ []) refl) (decimal-utf8 k)

session-again : (k : ℕ) (m : Message) → ReadsAgain (message_data m) → ReadsAgain (with_session k (message_data m))
session-again k m r = by-kind m r.plain r.shallow (texts-of (message_data m) r) where
  name : IsUtf8 session_name
  name = IsUtf8-are_ascii session_name refl

  by-kind : (m : Message) → is_plain (message_data m) ≡ true → depth (message_data m) ≤ max_depth → HasUtf8 (message_data m)
      → ReadsAgain (with_session k (message_data m))
  by-kind (reply id result) plain shallow h = record {
    plain = plain;
    shallow = shallow;
    utf8 = IsUtf8-compact_text (with_session k (message_data (reply id result))) plain
        (h.0, h.1, (h.2.0, h.2.1, (name, utf8-text k, tt)));
  }
  by-kind (fault None code said) plain shallow h = record {
    plain = plain;
    shallow = shallow;
    utf8 = IsUtf8-compact_text (with_session k (message_data (fault None code said))) plain (h.0, h.1, (name, utf8-text k, tt));
  }
  by-kind (fault (Some id) code said) plain shallow h = record {
    plain = plain;
    shallow = shallow;
    utf8 = IsUtf8-compact_text (with_session k (message_data (fault (Some id) code said))) plain
        (h.0, h.1, (h.2.0, h.2.1, (name, utf8-text k, tt)));
  }
  by-kind (event n) plain shallow h = record {
    plain = plain;
    shallow = shallow;
    utf8 = IsUtf8-compact_text (with_session k (message_data (event n))) plain (h.0, h.1, (h.2.0, h.2.1, (name, utf8-text k, tt)));
  }

-- a message without a session is itself
plain-bare : (m : Message) → ReadsAgain (message_data m) → plain_of (message_text m) ≡ message_text m ∷ []
plain-bare m r = ap (plain_frame (message_text m)) (ap down_value (read-again (message_data m) r) ∙ bare-read m)

-- the text of a message of the session of that number
abbrev pub tagged_text : ℕ → Message → List ℕ
tagged_text k m = compact_text (with_session k (message_data m))

-- without its session it is that message
plain-tagged : (k : ℕ) (m : Message) → ReadsAgain (message_data m) → plain_of (tagged_text k m) ≡ message_text m ∷ []
plain-tagged k m r =
    ap (plain_frame (tagged_text k m))
    (ap down_value (read-again (with_session k (message_data m)) (session-again k m r))
    ∙ tagged-read k m (has_float-is_plain (message_data m) r.plain))

plain-all : (ms : List Message) → AreRead ms → flat_map plain_of (map message_text ms) ≡ map message_text ms
plain-all [] read = refl
plain-all (m ∷ ms) read =
    ap (λ fs. fs ++ flat_map plain_of (map message_text ms)) (plain-bare m (All-head (λ (m : Message). ReadsAgain (message_data m)) m ms
    read))
    ∙ ap (λ fs. message_text m ∷ fs) (plain-all ms (All-tail (λ (m : Message). ReadsAgain (message_data m)) m ms read))

tagged-all : (k : ℕ) (ms : List Message) → AreRead ms → flat_map plain_of (map (tagged_text k) ms) ≡ map message_text ms
tagged-all k [] read = refl
tagged-all k (m ∷ ms) read =
    ap (λ fs. fs ++ flat_map plain_of (map (tagged_text k) ms))
    (plain-tagged k m (All-head (λ (m : Message). ReadsAgain (message_data m)) m ms read))
    ∙ ap (λ fs. message_text m ∷ fs) (tagged-all k ms (All-tail (λ (m : Message). ReadsAgain (message_data m)) m ms read))

-- ---- the frames that are sent

-- the frames of these bytes are these, whole
abbrev pub AreWhole : List ℕ → List (List ℕ) → Type 0
AreWhole bytes texts = frames_of bytes ≡ record { whole = texts; rest = [] }

pub whole-both : (a b : List ℕ) (xs ys : List (List ℕ)) → AreWhole a xs → AreWhole b ys → AreWhole (a ++ b) (xs ++ ys)
whole-both a b xs ys first second =
    let none : (frames_of a).rest ≡ [] = ap (λ (f : Frames). f.rest) first in
    let whole : (frames_of (a ++ b)).whole ≡ xs ++ ys =
    whole-after a b none ∙ ap (λ (f : Frames). f.whole ++ (frames_of b).whole) first ∙ ap (λ (f : Frames). xs ++ f.whole) second in
    let rest : (frames_of (a ++ b)).rest ≡ [] = rest-after a b none ∙ ap (λ (f : Frames). f.rest) second in
    λ i. record { whole = whole i; rest = rest i }

bare-whole : (ms : List Message) → AreRead ms → AreWhole (message_frames ms) (map message_text ms)
unfolding frames_of
bare-whole [] read = refl
bare-whole (m ∷ ms) read =
    let r : ReadsAgain (message_data m) = All-head (λ (m : Message). ReadsAgain (message_data m)) m ms read in
    frames_of-framed (message_text m) (message_frames ms) (texts_have_no_zero (message_data m) r.plain)
    ∙ ap (λ (f : Frames). record { whole = message_text m ∷ f.whole; rest = f.rest })
    (bare-whole ms (All-tail (λ (m : Message). ReadsAgain (message_data m)) m ms read))

tagged-whole : (k : ℕ) (ms : List Message) → AreRead ms → AreWhole (sent_to (Some k) ms) (map (tagged_text k) ms)
unfolding frames_of
tagged-whole k [] read = refl
tagged-whole k (m ∷ ms) read =
    let r : ReadsAgain (with_session k (message_data m)) =
    session-again k m (All-head (λ (m : Message). ReadsAgain (message_data m)) m ms read) in
    frames_of-framed (tagged_text k m) (sent_to (Some k) ms) (texts_have_no_zero (with_session k (message_data m)) r.plain)
    ∙ ap (λ (f : Frames). record { whole = tagged_text k m ∷ f.whole; rest = f.rest })
    (tagged-whole k ms (All-tail (λ (m : Message). ReadsAgain (message_data m)) m ms read))

-- ---- the ids of what a client is told

-- sheets whose texts are not known
abbrev unread : List ShownSheet → List KnownSheet
unread ss = map (λ (s : ShownSheet). record { number = s.number; origin = s.origin; text = None; stale = true }) ss

knows-unread : (ss : List ShownSheet) → KnowsSheets (unread ss) ss
knows-unread [] = tt
knows-unread (s ∷ ss) = (record { number = refl; origin = refl; text = λ fresh. absurd cc }, knows-unread ss)

-- a front end that shows what the client sees, and waits for these
abbrev waiting_front : State → List Ask → FrontValue
waiting_front state asks = record (first_value asks) { tree = (view_of state).tree; sheets = unread (view_of state).sheets }

moves-ids : (before : State) (done : Step) (asks rest : List Ask) → Course done.moves (view_of before) (view_of done.state)
    → ArePlain asks → InTurn done.moves asks rest
    → map (λ (t : ShownReply). t.id) (replies_among (map move_text done.moves)) ≡ flat_map reply_ids done.moves
moves-ids before done asks rest course plain in_turn =
    let t : Taken done (waiting_front before asks) rest = taken before done (waiting_front before asks) rest course
    (record { tree = refl; sheets = knows-unread (view_of before).sheets }) in_turn in
    let same : t.texts ≡ map move_text done.moves = ap (λ (f : Frames). f.whole) (sym t.frames_are
    ∙ frames_of-moves done.moves (course-texts done.moves (view_of before) (view_of done.state) course)) in
    let among : map reply_shown t.after.replies
    ≡ replies_among t.texts = replies-folded t.texts (waiting_front before asks) t.after plain t.is_fold in
    ap (λ fs. map (λ (x : ShownReply). x.id) (replies_among fs)) (sym same)
    ∙ ap (map (λ (x : ShownReply). x.id)) (sym among ∙ ap (map reply_shown) t.replies)
    ∙ ids-kept done.moves asks plain

-- what answers nothing
pub quiet-ids : (before : State) (done : Step) → Course done.moves (view_of before) (view_of done.state)
    → flat_map reply_ids done.moves ≡ []
    → map (λ (t : ShownReply). t.id) (replies_among (map move_text done.moves)) ≡ []
quiet-ids before done course quiet = moves-ids before done [] [] course tt (tells-all done.moves [] quiet) ∙ quiet

-- what answers a frame
pub answered-ids : (before : State) (done : Step) (r : Result Asked Refused) → Course done.moves (view_of before) (view_of done.state)
    → IsAnswered r done.moves
    → map (λ (t : ShownReply). t.id) (replies_among (map move_text done.moves)) ≡ id_asked r ∷ []
answered-ids before done (Ok a) course answered =
    moves-ids before done (ask_with (method_name a.command) a.id ∷ []) [] course (refl, tt)
    (meets-one done.moves (method_name a.command) a.id [] answered.0 answered.1
    (course-quiet done.moves (view_of before) (view_of done.state) course))
    ∙ answered.0
answered-ids before done (Err r) course answered = at r.id refl where
  at : (o : Option ℕ) → r.id ≡ o → map (λ (t : ShownReply). t.id) (replies_among (map move_text done.moves)) ≡ r.id ∷ []
  at None none =
      moves-ids before done [] [] course tt (by-refusal [] done.moves r none answered) ∙ ap (flat_map reply_ids) answered
  at (Some id) some =
      moves-ids before done (ask_with [] id ∷ []) [] course (refl, tt)
      (subst (λ ms. InTurn ms (ask_with [] id ∷ []) []) (sym answered)
      (meets (failed r) [] (ask_with [] id) [] [] some (rests []))) ∙ ap (flat_map reply_ids) answered

-- ---- moves of a course

course-read : (ms : List Move) (u w : View) → Course ms u w → CanBeTold u × AreRead (map message_of ms)
course-read _ _ _ (ends v here) = (here, All-nil (λ (m : Message). ReadsAgain (message_data m)))
course-read _ _ _ (goes m ms u v w here moves later) =
    let rest = course-read ms v w later in (
      here,
      All-cons (λ (m : Message). ReadsAgain (message_data m)) (message_of m) (map message_of ms) (move-again m u v here rest.0 moves)
          rest.1,
    )

texts-same : (ms : List Move) → map message_text (map message_of ms) ≡ map move_text ms
texts-same [] = refl
texts-same (m ∷ ms) = ap (λ fs. move_text m ∷ fs) (texts-same ms)

-- what is sent to one client, and the ids of the replies among it
pub record IsSent (bytes : List ℕ) (ids : List (Option ℕ)) : Type 0 where
  pub texts : List (List ℕ)
  pub whole : AreWhole bytes texts
  pub ids_are : ids_down texts ≡ ids

nothing-sent : IsSent [] []
unfolding frames_of
nothing-sent = record { texts = []; whole = refl; ids_are = refl }

-- one behind the other
pub sent-both : (a b : List ℕ) (is js : List (Option ℕ)) → IsSent a is → IsSent b js → IsSent (a ++ b) (is ++ js)
sent-both a b is js first second = record {
  texts = first.texts ++ second.texts;
  whole = whole-both a b first.texts second.texts first.whole second.whole;
  ids_are =
      ids_down-append first.texts second.texts ∙ ap (λ xs. xs ++ ids_down second.texts) first.ids_are
      ∙ ap (λ xs. is ++ xs) second.ids_are;
}

frames-same : (ms : List Move) → message_frames (map message_of ms) ≡ frames_of_moves ms
frames-same [] = refl
frames-same (m ∷ ms) = ap (λ (rest : List ℕ). framed (move_text m) ++ rest) (frames-same ms)

-- moves of the root's client
pub root-sent : (ms : List Move) (u w : View) (ids : List (Option ℕ)) → Course ms u w
    → map (λ (t : ShownReply). t.id) (replies_among (map move_text ms)) ≡ ids → IsSent (frames_of_moves ms) ids
root-sent ms u w ids course is =
    let read : AreRead (map message_of ms) = (course-read ms u w course).1 in
    record {
      texts = map message_text (map message_of ms);
      whole = subst (λ bytes. AreWhole bytes (map message_text (map message_of ms))) (frames-same ms)
          (bare-whole (map message_of ms) read);
      ids_are =
          ap (λ fs. map (λ (t : ShownReply). t.id) (replies_among fs)) (plain-all (map message_of ms) read ∙ texts-same ms) ∙ is;
    }

-- moves of the second client, while that session is attached
pub session-sent : (k : ℕ) (ms : List Move) (u w : View) (ids : List (Option ℕ)) → Course ms u w
    → map (λ (t : ShownReply). t.id) (replies_among (map move_text ms)) ≡ ids → IsSent (sent_to (Some k) (map message_of ms)) ids
session-sent k ms u w ids course is =
    let read : AreRead (map message_of ms) = (course-read ms u w course).1 in
    record {
      texts = map (tagged_text k) (map message_of ms);
      whole = tagged-whole k (map message_of ms) read;
      ids_are =
          ap (λ fs. map (λ (t : ShownReply). t.id) (replies_among fs)) (tagged-all k (map message_of ms) read ∙ texts-same ms) ∙ is;
    }

-- what answers nothing, whether a session is attached or none
pub told-sent : (attached : Option ℕ) (ms : List Move) (u w : View) → Course ms u w
    → map (λ (t : ShownReply). t.id) (replies_among (map move_text ms)) ≡ [] → IsSent (sent_to attached (map message_of ms)) []
told-sent None ms u w course is = nothing-sent
told-sent (Some k) ms u w course is = session-sent k ms u w [] course is

-- ---- the id of a request

some-is : {A : Type 0} (x y : A) → Some x ≡ Some y → x ≡ y
some-is x y e = cc

request-id : (ms : Members) (r : Request) → request_in ms ≡ Some r → field_of as_whole (codes "id") ms ≡ Is r.id
request-id ms r e = by-id (field_of as_whole (codes "id") ms) e where
  made : ℕ → List ℕ → Members → Request
  made id method params = record { id = id; method = method; params = params; session = field_of as_str session_name ms }

  by-params : (id : ℕ) (method : List ℕ) (o : Option Members) → option_map (made id method) o ≡ Some r → Is id ≡ Is r.id
  by-params id method None e = absurd cc
  by-params id method (Some ps) e = ap (λ (q : Request). Is q.id) (some-is (made id method ps) r e)

  by-method : (id : ℕ) (f : Field (List ℕ))
      → if_is f (λ method. option_map (made id method) (params_in (field_of as_object (codes "params") ms)))
      ≡ Some r → Is id ≡ Is r.id
  by-method id Missing e = absurd cc
  by-method id WrongKind e = absurd cc
  by-method id (Is method) e = by-params id method (params_in (field_of as_object (codes "params") ms)) e

  by-id : (f : Field ℕ)
      → if_is f (λ id. if_is (field_of as_str (codes "method") ms) (λ method.
      option_map (made id method) (params_in (field_of as_object (codes "params") ms)))) ≡ Some r → f ≡ Is r.id
  by-id Missing e = absurd cc
  by-id WrongKind e = absurd cc
  by-id (Is id) e = by-method id (field_of as_str (codes "method") ms) e

asked-id : (id : ℕ) (c : Result Command Why) → id_asked (asked_by id c) ≡ Some id
asked-id id (Ok c) = refl
asked-id id (Err why) = refl

-- an object with that id is asked or refused under it
object-id : (ms : Members) (id : ℕ) → field_of as_whole (codes "id") ms ≡ Is id → id_asked (asked_in false (Some ms)) ≡ Some id
object-id ms id e =
    ap (λ f. id_asked (with_id f (command_in false ms))) e ∙ asked-id id (command_in false ms)

-- the object that a request is
record IsObject (frame : List ℕ) (r : Request) : Type 0 where
  value : Data
  members : Members
  json : json_of frame ≡ Some value
  there : as_object value ≡ Some members
  id_is : field_of as_whole (codes "id") members ≡ Is r.id

request-object : (frame : List ℕ) (r : Request) → request_of frame ≡ Some r → IsObject frame r
request-object frame r e =
    let p = and_then_some request_in (option_and_then as_object (json_of frame)) r e in
    let q = and_then_some as_object (json_of frame) p.0 p.1 in
    record { value = q.0; members = p.0; json = q.1; there = q.2; id_is = request-id p.0 r p.2 }

-- a request is asked or refused under its id
request-asked : (frame : List ℕ) (r : Request) → request_of frame ≡ Some r → reply_id frame ≡ Some r.id
request-asked frame r e =
    let o = request-object frame r e in
    ap (λ d. id_asked (asked_value false d)) o.json ∙ ap (λ ms. id_asked (asked_in false ms)) o.there ∙ object-id o.members r.id o.id_is

-- and messages carry it
request-counted : (frame : List ℕ) (r : Request) → request_of frame ≡ Some r → is_counted r.id ≡ true
request-counted frame r e = let o = request-object frame r e in by (get_member (codes "id") o.members) o.id_is where
  by-value : (d : Data) (f : Option ℕ) → as_whole d ≡ f → field_if f ≡ Is r.id → is_counted r.id ≡ true
  by-value d None is e = let no : ◌≡◌ {A = Field ℕ} WrongKind (Is r.id) = e in absurd cc
  by-value d (Some n) is e = let same : n ≡ r.id = cc in ap is_counted (sym same) ∙ whole-is d n is

  by : (o : Option Data) → field_from as_whole o ≡ Is r.id → is_counted r.id ≡ true
  by None e = let no : ◌≡◌ {A = Field ℕ} Missing (Is r.id) = e in absurd cc
  by (Some d) e = by-value d (as_whole d) refl e

-- ---- the id without the session

ids-apart : codes "id" ≡ session_name → ⊥
ids-apart e = let n : length (codes "id") ≡ length session_name = ap length e in omega arith

not-equal : (o : Ordering) (rest : Option Data) (d : Data) → (o ≡ Equal → ⊥) → match_ordering o rest (Some d) rest ≡ rest
not-equal Less rest d other = refl
not-equal Equal rest d other = absurd (other refl)
not-equal Greater rest d other = refl

get-without : (n k : List ℕ) (ms : Members) → (n ≡ k → ⊥) → get_member n (without k ms) ≡ get_member n ms
get-without n k no_members apart = refl
get-without n k (member l d ms) apart = at (bytes_eq k l) refl (get-without n k ms apart) where
  at : (b : Bool) → bytes_eq k l ≡ b → get_member n (without k ms) ≡ get_member n ms
      → get_member n (cond b ms (member l d (without k ms))) ≡ get_member n (member l d ms)
  at true e same =
      sym (not-equal (slice_cmp nat_cmp n l) (get_member n ms) d
      (λ is. apart (exact_bytes n l is ∙ sym ((bytes_eq-Decides k l).0 e))))
  at false e same = ap (λ o. match_ordering (slice_cmp nat_cmp n l) o (Some d) o) same

-- an object without its session
object-without : (d : Data) (ms : Members) → as_object d ≡ Some ms → without_session d ≡ object (without session_name ms)
object-without null ms e = absurd cc
object-without (boolean b) ms e = absurd cc
object-without (number n) ms e = absurd cc
object-without (string s) ms e = absurd cc
object-without (array ds) ms e = absurd cc
object-without (object ns) ms e = ap (λ os. object (without session_name os)) (some-is ns ms e)

-- what the attached session is asked has its frame's id
pub session-id : (frame : List ℕ) (s : Sessions) → (routing frame s).routed ≡ Attached → id_asked (session_asked frame) ≡ reply_id frame
session-id frame s routed =
    let by = (attached-by-name frame s).0 routed in
    let r = by.request in
    let o = request-object frame r by.is in
    let id : field_of as_whole (codes "id") (without session_name o.members) ≡ Is r.id =
    ap (field_from as_whole) (get-without (codes "id") session_name o.members ids-apart) ∙ o.id_is in
    ap (λ d. id_asked (asked_value false (option_map without_session d))) o.json
    ∙ ap (λ d. id_asked (asked_value false (Some d))) (object-without o.value o.members o.there)
    ∙ object-id (without session_name o.members) r.id id
    ∙ sym (request-asked frame r by.is)

-- ---- what answers at once

-- a message that is read again, and the id that it answers
record Answers (m : Message) (id : ℕ) : Type 0 where
  again : ReadsAgain (message_data m)
  ids_are : map (λ (t : ShownReply). t.id) (replies_among (message_text m ∷ [])) ≡ Some id ∷ []

answers-read : (m : Message) (id : ℕ) → ReadsAgain (message_data m) → down_of (message_text m) ≡ Some m
    → map (λ (t : ShownReply). t.id) (replies_in_frame (message_text m) (Some m)) ≡ Some id ∷ [] → Answers m id
answers-read m id r down is = record {
  again = r;
  ids_are =
      ap (λ o. map (λ (t : ShownReply). t.id) (replies_in_frame (message_text m) o ++ [])) down
      ∙ ap (map (λ (t : ShownReply). t.id)) (append-nil (replies_in_frame (message_text m) (Some m))) ∙ is;
}

refusal-answers : (id : ℕ) (why : Why) → is_counted id ≡ true → Answers (refusal_message (refusal (Some id) why)) id
refusal-answers id why counted =
    answers-read (refusal_message (refusal (Some id) why)) id (refusal-again (refusal (Some id) why) counted)
    (refusals_are_read (refusal (Some id) why) counted) refl

attached-again : (id k : ℕ) → is_counted id ≡ true → ReadsAgain (message_data (reply id (attached_result k)))
attached-again id k counted =
    let d : Data = message_data (reply id (attached_result k)) in
    let low : id < counted_limit = ltb-true id counted_limit counted in
    let wide : nat_lt id (2 ^ 64) ≡ true = lt-ltb id (2 ^ 64) (omega (arith, low)) in
    let plain : is_plain d ≡ true = ap (λ b. b && true) wide in
    record {
      plain = plain;
      shallow = omega arith;
      utf8 = IsUtf8-compact_text d plain (
        IsUtf8-are_ascii (codes "id") refl,
        tt,
        (IsUtf8-are_ascii (codes "result") refl, (IsUtf8-are_ascii session_name refl, utf8-text k, tt), tt),
      );
    }

attach-answers : (id next : ℕ) → is_counted id ≡ true → Answers (reply id (attached_result next)) id
attach-answers id next counted =
    let r = attached-again id next counted in
    answers-read (reply id (attached_result next)) id r
    (messages_are_read (reply id (attached_result next)) (both counted refl) r.plain r.shallow r.utf8) refl

detach-answers : (id : ℕ) → is_counted id ≡ true → Answers (reply id (object no_members)) id
detach-answers id counted =
    let r = body-again id Nothing counted refl tt (omega arith) in
    answers-read (reply id (object no_members)) id r
    (messages_are_read (reply id (object no_members)) (both counted refl) r.plain r.shallow r.utf8) refl

-- one message answers at once
one-sent : (m : Message) (id : ℕ) → Answers m id → IsSent (message_frames (m ∷ [])) (Some id ∷ [])
one-sent m id a =
    let read : AreRead (m ∷ []) =
    All-cons (λ (m : Message). ReadsAgain (message_data m)) m [] a.again (All-nil (λ (m : Message). ReadsAgain (message_data m))) in
    record {
      texts = message_text m ∷ [];
      whole = bare-whole (m ∷ []) read;
      ids_are = ap (λ fs. map (λ (t : ShownReply). t.id) (replies_among fs)) (plain-all (m ∷ []) read) ∙ a.ids_are;
    }

-- the message of a routing that answers at once
abbrev SaidOne : ℕ → Routing → Type 0
SaidOne id x = IsSent (message_frames x.said) (Some id ∷ [])

-- the router on a request with that method, which is one of the two, where this refuses it
abbrev pub refused_by : Option Why → ℕ → List ℕ → Sessions → Routing
refused_by why id method s = unwrap_or (option_map (λ target. by_refusal why id target s) (target_named method)) (left_to Root s)

said-attach : (why : Option Why) (id : ℕ) (s : Sessions) → is_counted id ≡ true → SaidOne id (refused_by why id attach_method s)
said-attach None id s counted = one-sent _ id (attach-answers id s.next counted)
said-attach (Some why) id s counted = one-sent _ id (refusal-answers id why counted)

said-detach : (why : Option Why) (id : ℕ) (s : Sessions) → is_counted id ≡ true → SaidOne id (refused_by why id detach_method s)
said-detach None id s counted = one-sent _ id (detach-answers id counted)
said-detach (Some why) id s counted = one-sent _ id (refusal-answers id why counted)

said-method : (attaching detaching : Bool) (id : ℕ) (params : Members) (s : Sessions) → is_counted id ≡ true
    → (by_method (cond attaching (target_named attach_method) (cond detaching (target_named detach_method) None)) id params s).routed
    ≡ Answered
    → SaidOne id (by_method (cond attaching (target_named attach_method) (cond detaching (target_named detach_method) None)) id params s)
said-method true detaching id params s counted e = said-attach (attach_refusal params s.attached) id s counted
said-method false true id params s counted e = said-detach (detach_refusal params s.attached) id s counted
said-method false false id params s counted e = let no : Root ≡ Answered = e in absurd cc

said-name : (b : Bool) (id : ℕ) (s : Sessions) → is_counted id ≡ true → (by_name b id s).routed ≡ Answered → SaidOne id (by_name b id s)
said-name true id s counted e = let no : Attached ≡ Answered = e in absurd cc
said-name false id s counted e = one-sent _ id (refusal-answers id NoSession counted)

said-session : (session : Field (List ℕ)) (r : Request) (s : Sessions) → is_counted r.id ≡ true
    → (by_session session r.id r.method r.params s).routed ≡ Answered → SaidOne r.id (by_session session r.id r.method r.params s)
said-session Missing r s counted e =
    said-method (bytes_eq attach_method r.method) (bytes_eq detach_method r.method) r.id r.params s counted e
said-session WrongKind r s counted e = one-sent _ r.id (refusal-answers r.id NoSession counted)
said-session (Is text) r s counted e = said-name (is_attached s.attached text) r.id s counted e

pub answered-sent : (frame : List ℕ) (s : Sessions) → (routing frame s).routed ≡ Answered
    → IsSent (message_frames (routing frame s).said) (reply_id frame ∷ [])
answered-sent frame s routed = at (request_of frame) refl routed where
  at : (o : Option Request) → request_of frame ≡ o → (routing_by o s).routed ≡ Answered
      → IsSent (message_frames (routing_by o s).said) (reply_id frame ∷ [])
  at None is e = let no : Root ≡ Answered = e in absurd cc
  at (Some r) is e =
      subst (λ o. IsSent (message_frames (by_session r.session r.id r.method r.params s).said) (o ∷ [])) (sym (request-asked frame r is))
      (said-session r.session r s (request-counted frame r is) e)
