-- The messages that answer a frame at once have no zero byte in their texts.
use Rattle.std.proofs.Common.{◌≡◌, ℕ, List, [], ◌∷◌, Bool, true, false, Option, Some, None, refl, sym, ap, subst}
use Rattle.std.specs.Prelude.{All, codes, option_map, option_and_then}
use Rattle.std.proofs.lemmas.List.Elements.{All-nil, All-cons}
use Rattle.serde_json.specs.Data.{Data, Members, no_members}
use Rattle.serde_json.specs.Find.{as_str, as_object, get_member}
use Rattle.pipe_frames.specs.Frames.{IsText}
use Rattle.cdp_json.specs.declared.fields.Field.{Field}
use Rattle.cdp_json.specs.declared.fields.Field.TheVariants.{Is, Missing, WrongKind}
use Rattle.cdp_json.specs.Fields.{field_if, field_from, field_of}
use Rattle.cdp_json.specs.Kinds.{is_counted, as_whole}
use Rattle.cdp_json.specs.Plain.{is_plain}
use Rattle.cdp_json.proofs.Options.{both}
use Rattle.cdp_json.proofs.KindLaws.{whole_lawful}
use Rattle.cdp_messages.specs.declared.command.Why.{Why}
use Rattle.cdp_messages.specs.declared.command.Why.TheVariants.{NoSession}
use Rattle.cdp_messages.specs.Asked.{json_of, refusal}
use Rattle.cdp_messages.specs.Events.{is_object}
use Rattle.cdp_messages.specs.Replies.{Message, reply, refusal_message, message_data, message_text}
use Rattle.cdp_messages.specs.SessionFrames.{session_name}
use Rattle.cdp_messages.proofs.Messages.{reply_lawful, refusal_plain}
use Rattle.cdp_messages.proofs.ZeroFree.{texts_have_no_zero}
use Rattle.session_mux.specs.declared.targets.Target.{Target}
use Rattle.session_mux.specs.declared.targets.Target.TheVariants.{Attach, Detach}
use Rattle.session_mux.specs.Sessions.{Sessions, is_attached}
use Rattle.session_mux.specs.Targets.{target_named, target_refusal, target_result}
use Rattle.session_mux.specs.Routes.{Request, if_is, params_in, request_in, request_of, by_refusal, by_method, by_name, by_session}
use Rattle.session_mux.specs.Routes.{routing_by}
use Rattle.session_mux.specs.Routes.{routing}
use Rattle.session_mux.specs.Laws.{AnswersAreMessages}

-- ---- ids

-- what the other fields of a frame with that id make of it
abbrev with_id : Field (List ℕ) → Field Members → Field (List ℕ) → ℕ → Option Request
with_id method params session id =
    if_is method (λ m. option_map (λ p. record { id = id; method = m; params = p; session = session }) (params_in params))

id-same : (m : List ℕ) (p : Members) (session : Field (List ℕ)) (id : ℕ) (r : Request)
    → Some (record { id = id; method = m; params = p; session = session }) ≡ Some r → r.id ≡ id
id-same m p session id r e =
    let same : ◌≡◌ {A = Request} (record { id = id; method = m; params = p; session = session }) r = cc in
    sym (ap (λ (x : Request). x.id) same)

id-is : (method : Field (List ℕ)) (params : Field Members) (session : Field (List ℕ)) (id : ℕ) (r : Request)
    → with_id method params session id ≡ Some r → r.id ≡ id
id-is Missing params session id r e = absurd cc
id-is WrongKind params session id r e = absurd cc
id-is (Is m) Missing session id r e = id-same m no_members session id r e
id-is (Is m) WrongKind session id r e = absurd cc
id-is (Is m) (Is p) session id r e = id-same m p session id r e

id-read : (d : Data) (method : Field (List ℕ)) (params : Field Members) (session : Field (List ℕ)) (r : Request) (o : Option ℕ)
    → as_whole d ≡ o → if_is (field_if o) (with_id method params session) ≡ Some r → is_counted r.id ≡ true
id-read d method params session r None is e = absurd cc
id-read d method params session r (Some id) is e =
    subst (λ (n : ℕ). is_counted n ≡ true) (sym (id-is method params session id r e)) (whole_lawful.takes d id is).1

id-found : (o : Option Data) (method : Field (List ℕ)) (params : Field Members) (session : Field (List ℕ)) (r : Request)
    → if_is (field_from as_whole o) (with_id method params session) ≡ Some r → is_counted r.id ≡ true
id-found None method params session r e = absurd cc
id-found (Some d) method params session r e = id-read d method params session r (as_whole d) refl e

id-in : (o : Option Members) (r : Request) → option_and_then request_in o ≡ Some r → is_counted r.id ≡ true
id-in None r e = absurd cc
id-in (Some frame) r e =
    id-found (get_member (codes "id") frame) (field_of as_str (codes "method") frame) (field_of as_object (codes "params") frame)
    (field_of as_str session_name frame) r e

-- a request has a usable id
id-counted : (bytes : List ℕ) (r : Request) → request_of bytes ≡ Some r → is_counted r.id ≡ true
id-counted bytes r e = id-in (option_and_then as_object (json_of bytes)) r e

-- ---- texts

abbrev HasText : Message → Type 0
HasText m = IsText (message_text m)

only : (m : Message) → HasText m → All HasText (m ∷ [])
only m t = All-cons HasText m [] t (All-nil HasText)

refusal-text : (id : ℕ) → is_counted id ≡ true → (why : Why) → HasText (refusal_message (refusal (Some id) why))
refusal-text id counted why =
    texts_have_no_zero (message_data (refusal_message (refusal (Some id) why))) (refusal_plain (refusal (Some id) why) counted)

result-object : (target : Target) (s : Sessions) → is_object (target_result target s) ≡ true
result-object Attach s = refl
result-object Detach s = refl

result-plain : (target : Target) (s : Sessions) → is_plain (target_result target s) ≡ true
result-plain Attach s = refl
result-plain Detach s = refl

reply-text : (id : ℕ) → is_counted id ≡ true → (target : Target) (s : Sessions) → HasText (reply id (target_result target s))
reply-text id counted target s =
    texts_have_no_zero (message_data (reply id (target_result target s)))
    (reply_lawful.plain (id, (target_result target s, tt)) (both counted (both (result-object target s) refl)) (result-plain target s))

refused-texts : (id : ℕ) → is_counted id ≡ true → (why : Option Why) (target : Target) (s : Sessions)
    → All HasText (by_refusal why id target s).said
refused-texts id counted None target s = only (reply id (target_result target s)) (reply-text id counted target s)
refused-texts id counted (Some why) target s = only (refusal_message (refusal (Some id) why)) (refusal-text id counted why)

method-texts : (r : Request) → is_counted r.id ≡ true → (target : Option Target) (s : Sessions)
    → All HasText (by_method target r.id r.params s).said
method-texts r counted None s = All-nil HasText
method-texts r counted (Some target) s = refused-texts r.id counted (target_refusal target r.params s.attached) target s

name-texts : (id : ℕ) → is_counted id ≡ true → (b : Bool) (s : Sessions) → All HasText (by_name b id s).said
name-texts id counted true s = All-nil HasText
name-texts id counted false s = only (refusal_message (refusal (Some id) NoSession)) (refusal-text id counted NoSession)

request-texts : (r : Request) → is_counted r.id ≡ true → (session : Field (List ℕ)) (s : Sessions)
    → All HasText (by_session session r.id r.method r.params s).said
request-texts r counted Missing s = method-texts r counted (target_named r.method) s
request-texts r counted WrongKind s = only (refusal_message (refusal (Some r.id) NoSession)) (refusal-text r.id counted NoSession)
request-texts r counted (Is text) s = name-texts r.id counted (is_attached s.attached text) s

frame-texts : (o : Option Request) → ((r : Request) → o ≡ Some r → is_counted r.id ≡ true) → (s : Sessions)
    → All HasText (routing_by o s).said
frame-texts None counted s = All-nil HasText
frame-texts (Some r) counted s = request-texts r (counted r refl) r.session s

pub answers-are-messages : AnswersAreMessages
answers-are-messages bytes s = record {
  messages = (routing bytes s).said;
  texts = frame-texts (request_of bytes) (id-counted bytes) s;
  is = refl;
}
