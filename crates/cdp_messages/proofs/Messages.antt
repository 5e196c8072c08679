-- The laws of the messages.
use Rattle.std.proofs.Common.{◌≡◌, ℕ, ◌≤◌, List, true, Option, Some, None, option_map, option_and_then, refl, sym, ap, ◌∙◌}
use Rattle.std.proofs.Common.{subst, arith}
use Rattle.std.specs.Prelude.{codes, IsUtf8, ℤ, ◌⊎◌}
use Rattle.std.proofs.lemmas.Slice.Eq.{bytes_eq-Decides}
use Rattle.std.proofs.Common.{inl, inr}
use Rattle.json.proofs.Printed.Utf8.{IsUtf8-are_ascii}
use Rattle.serde_json.specs.Data.{Data, object, depth}
use Rattle.serde_json.specs.Read.{max_depth}
use Rattle.serde_json.specs.Written.{compact_text}
use Rattle.cdp_json.specs.Plain.{is_plain, HasUtf8}
use Rattle.cdp_json.specs.Kinds.{is_counted, is_signed, holds_of_some}
use Rattle.cdp_json.specs.Lawful.{LawfulKind}
use Rattle.cdp_json.proofs.KindLaws.{whole_lawful, signed_lawful, text_lawful, anything_lawful, refined_lawful}
use Rattle.cdp_json.proofs.RowLaws.{ends_lawful, and_need_lawful, and_may_lawful, object_lawful}
use Rattle.cdp_json.proofs.ReadBack.{read-compact_text, IsUtf8-compact_text}
use Rattle.cdp_messages.specs.declared.command.Param.{Param}
use Rattle.cdp_messages.specs.declared.command.Param.TheVariants as param
use Rattle.cdp_messages.specs.declared.command.Why.{Why}
use Rattle.cdp_messages.specs.declared.command.Why.TheVariants.{NotJson, NoId, BadRequest, NoSession, NoMethod, BadParam, DomOff, CssOff}
use Rattle.cdp_messages.specs.declared.command.Why.TheVariants.{UnknownNode, NotPushed, NoPath, BadQuery, Crossed, NoNode, NotElement}
use Rattle.cdp_messages.specs.declared.command.Why.TheVariants.{NotText, IsDocument, NotChild, Inside, TooDeep, TooMany, BadName, NoAttr}
use Rattle.cdp_messages.specs.declared.command.Why.TheVariants.{NotContainer, NoSheet, NotMutable, BadRange, BadText, BadSelector, BadPlace}
use Rattle.cdp_messages.specs.declared.command.Why.TheVariants.{TooBig, NoSearch, BadSearchRange, NoTarget, SessionTaken, NoTargetSession}
use Rattle.cdp_messages.specs.declared.command.Refused.{Refused}
use Rattle.cdp_messages.specs.declared.down.ReplyBody.{ReplyBody}
use Rattle.cdp_messages.specs.declared.down.ReplyBody.TheVariants.{Nothing}
use Rattle.cdp_messages.specs.declared.method.Method.{Method}
use Rattle.cdp_messages.specs.Refusals.{code_of, refusal_words}
use Rattle.cdp_messages.specs.Asked.{json_of, request}
use Rattle.cdp_messages.specs.Events.{is_object, news_in}
use Rattle.cdp_messages.specs.Replies.{Message, reply, fault, event, reply_kind, error_kind, fault_kind, reply_from, fault_from}
use Rattle.cdp_messages.specs.Replies.{message_data, fits_message, message_in}
use Rattle.cdp_messages.specs.Replies.{result_of_method, result_of, refusal_message}
use Rattle.node_tree.specs.Keys.{first_of}
use Rattle.cdp_messages.specs.Methods.{method_named}
use Rattle.cdp_messages.specs.Methods.{result_form}
use Rattle.cdp_messages.specs.Results.{is_form, body_data, fits_body, form_of_body, result_by, Spells}
use Rattle.cdp_messages.specs.Laws.{RepliesAreRead, EventsAreRead, RefusalsAreRead, MessagesAreRead, FaultsAreRead, ObjectsAreEmpty}
use Rattle.cdp_messages.specs.Laws.{has_result, answers, ResultsAreRead, MessagesAreSpelled, ResultsAreSpelled, OneMessage}
use Rattle.cdp_messages.specs.Laws.{OneResult, ValuesAreRead, SpellingsAreRead}
use Rattle.cdp_json.proofs.Options.{both, map_some}
use Rattle.cdp_messages.proofs.FrameBytes.{json_is}
use Rattle.cdp_messages.proofs.Results.{same_form, form_itself, by_again, by_takes, first_name_in, told_by_name, body_plain, body_object}
use Rattle.cdp_messages.proofs.NewsLaws.{news_again, news_take, news_plain}

-- ---- the descriptions are lawful

pub reply_lawful : LawfulKind reply_kind
reply_lawful = object_lawful (and_need_lawful _ whole_lawful
    (and_need_lawful _ (refined_lawful is_object anything_lawful) ends_lawful refl) refl)

pub error_lawful : LawfulKind error_kind
error_lawful = object_lawful (and_need_lawful _ signed_lawful (and_need_lawful _ text_lawful ends_lawful refl) refl)

pub fault_lawful : LawfulKind fault_kind
fault_lawful = object_lawful (and_need_lawful _ error_lawful (and_may_lawful _ whole_lawful ends_lawful refl) refl)

pub request_lawful : LawfulKind request
request_lawful = object_lawful
    (and_need_lawful _ whole_lawful
    (and_need_lawful _ text_lawful (and_may_lawful _ anything_lawful (and_may_lawful _ anything_lawful ends_lawful refl) refl) refl) refl)

-- ---- values

pub message_again : ValuesAreRead
message_again (reply id result) f =
    let d = message_data (reply id result) in
    ap (λ o. first_of (option_map reply_from o) (first_of (option_map fault_from (fault_kind.reads d)) (option_map event (news_in d))))
    (reply_lawful.again (id, (result, tt)) f)
message_again (fault id code said) f =
    ap (λ o. first_of (option_map fault_from o) (option_map event (news_in (message_data (fault id code said)))))
    (fault_lawful.again ((code, (said, tt)), (id, tt)) f)
message_again (event n) f = ap (option_map event) (news_again n f)

pub spellings_are_read : SpellingsAreRead
spellings_are_read m bytes f e = ap (option_and_then message_in) e ∙ message_again m f

or_else_some : {A : Type 0} (o p : Option A) (x : A) → first_of o p ≡ Some x → (o ≡ Some x) ⊎ (p ≡ Some x)
or_else_some None p x e = inr e
or_else_some (Some y) p x e = inl e

abbrev IsSpelled : Data → Message → Type 0
IsSpelled d m = (message_data m ≡ d) × (fits_message m ≡ true)

other_spelled : (d : Data) (m : Message) → first_of (option_map fault_from (fault_kind.reads d)) (option_map event (news_in d)) ≡ Some m
    → IsSpelled d m
other_spelled d m e = elim (or_else_some (option_map fault_from (fault_kind.reads d)) (option_map event (news_in d)) m e) as
    (λ _. IsSpelled d m) [
      | inl r ↦
          let p = map_some fault_from (fault_kind.reads d) m r in
          subst (IsSpelled d) p.2 (fault_lawful.takes d p.0 p.1)
      | inr r ↦
          let p = map_some event (news_in d) m r in
          subst (IsSpelled d) p.2 (news_take d p.0 p.1)
    ]

pub messages_are_spelled : MessagesAreSpelled
messages_are_spelled d m e =
    elim (or_else_some (option_map reply_from (reply_kind.reads d))
    (first_of (option_map fault_from (fault_kind.reads d)) (option_map event (news_in d))) m e) as (λ _. IsSpelled d m) [
      | inl r ↦
          let p = map_some reply_from (reply_kind.reads d) m r in
          subst (IsSpelled d) p.2 (reply_lawful.takes d p.0 p.1)
      | inr r ↦ other_spelled d m r
    ]

pub one_message : OneMessage
one_message m n fm fn e = let same : Some m ≡ Some n = sym (message_again m fm) ∙ ap message_in e ∙ message_again n fn in cc

-- ---- results

-- a method with such a result
has_form : (o : Option Method) (body : ReplyBody) → has_result o body ≡ true
    → (m : Method) × (o ≡ Some m) × (result_form m ≡ form_of_body body)
has_form None body e = absurd cc
has_form (Some m) body e = (m, refl, same_form (result_form m) (form_of_body body) ((bytes_eq-Decides _ _).0 e))

-- what is read of a method with such a result is what its form reads
read_by_form : (method : List ℕ) (body : ReplyBody) (d : Data) → answers method body ≡ true
    → result_of method d ≡ result_by (form_of_body body) d
read_by_form method body d a =
    let p = has_form (method_named method) body a in
    ap (λ o. result_of_method o d) p.1 ∙ ap (λ f. result_by f d) p.2

pub results_are_read : ResultsAreRead
results_are_read method body a f = read_by_form method body (body_data body) a ∙ by_again body f

pub objects_are_empty : ObjectsAreEmpty
objects_are_empty method ms a = read_by_form method Nothing (object ms) a

method_takes : (o : Option Method) (d : Data) (body : ReplyBody) → result_of_method o d ≡ Some body
    → Spells body d × (fits_body body ≡ true) × (has_result o body ≡ true)
method_takes None d body e = absurd cc
method_takes (Some m) d body e =
    let t = by_takes (result_form m) d body e in
    (t.spells, t.fits, subst (λ f. is_form (result_form m) f ≡ true) (sym t.form) (form_itself (result_form m)))

pub results_are_spelled : ResultsAreSpelled
results_are_spelled method d body e = method_takes (method_named method) d body e

pub one_result : OneResult
one_result a b fa fb e =
    let form : form_of_body a ≡ form_of_body b = same_form (form_of_body a) (form_of_body b)
    (sym (told_by_name a) ∙ ap first_name_in e ∙ told_by_name b) in
    let same : ◌≡◌ {A = Option ReplyBody} (Some a) (Some b) = sym (by_again a fa) ∙ (λ i. result_by (form i) (e i)) ∙ by_again b fb in
    cc

-- ---- texts

-- the text of a plain value is that value
pub json_of-compact_text : (d : Data) → is_plain d ≡ true → depth d ≤ max_depth → IsUtf8 (compact_text d)
    → json_of (compact_text d) ≡ Some d
json_of-compact_text d p s u = json_is (compact_text d) d u (read-compact_text d p s)

pub reply_fits : (id : ℕ) (body : ReplyBody) → is_counted id ≡ true → fits_message (reply id (body_data body)) ≡ true
reply_fits id body c = both c (both (body_object body) refl)

pub reply_plain : (id : ℕ) (body : ReplyBody) → is_counted id ≡ true → fits_body body ≡ true
    → is_plain (message_data (reply id (body_data body))) ≡ true
reply_plain id body c f = reply_lawful.plain (id, (body_data body, tt)) (reply_fits id body c) (body_plain body f)

pub messages_are_read : MessagesAreRead
messages_are_read m f p s u = ap (option_and_then message_in) (json_of-compact_text (message_data m) p s u) ∙ message_again m f

pub replies_are_read : RepliesAreRead
replies_are_read id body c f s u = messages_are_read (reply id (body_data body)) (reply_fits id body c) (reply_plain id body c f) s u

pub events_are_read : EventsAreRead
events_are_read n f s u = messages_are_read (event n) f (news_plain n f) s u

-- ---- refusals

code_fits : (why : Why) → is_signed (code_of why) ≡ true
code_fits NotJson = refl
code_fits NoId = refl
code_fits BadRequest = refl
code_fits NoSession = refl
code_fits NoMethod = refl
code_fits (BadParam p) = refl
code_fits DomOff = refl
code_fits CssOff = refl
code_fits UnknownNode = refl
code_fits NotPushed = refl
code_fits NoPath = refl
code_fits BadQuery = refl
code_fits NoSearch = refl
code_fits BadSearchRange = refl
code_fits NoTarget = refl
code_fits SessionTaken = refl
code_fits NoTargetSession = refl
code_fits Crossed = refl
code_fits NoNode = refl
code_fits NotElement = refl
code_fits NotText = refl
code_fits IsDocument = refl
code_fits NotChild = refl
code_fits Inside = refl
code_fits TooDeep = refl
code_fits TooMany = refl
code_fits BadName = refl
code_fits NoAttr = refl
code_fits NotContainer = refl
code_fits NoSheet = refl
code_fits NotMutable = refl
code_fits BadRange = refl
code_fits BadText = refl
code_fits BadSelector = refl
code_fits BadPlace = refl
code_fits TooBig = refl

param_utf8 : (p : Param) → IsUtf8 (refusal_words (BadParam p))
param_utf8 param.BackendNodeId = IsUtf8-are_ascii (refusal_words (BadParam param.BackendNodeId)) refl
param_utf8 param.BackendNodeIds = IsUtf8-are_ascii (refusal_words (BadParam param.BackendNodeIds)) refl
param_utf8 param.Depth = IsUtf8-are_ascii (refusal_words (BadParam param.Depth)) refl
param_utf8 param.Edits = IsUtf8-are_ascii (refusal_words (BadParam param.Edits)) refl
param_utf8 param.Flatten = IsUtf8-are_ascii (refusal_words (BadParam param.Flatten)) refl
param_utf8 param.FromIndex = IsUtf8-are_ascii (refusal_words (BadParam param.FromIndex)) refl
param_utf8 param.IncludeUserAgentShadowDom = IsUtf8-are_ascii (refusal_words (BadParam param.IncludeUserAgentShadowDom)) refl
param_utf8 param.IncludeWhitespace = IsUtf8-are_ascii (refusal_words (BadParam param.IncludeWhitespace)) refl
param_utf8 param.InsertBeforeNodeId = IsUtf8-are_ascii (refusal_words (BadParam param.InsertBeforeNodeId)) refl
param_utf8 param.Location = IsUtf8-are_ascii (refusal_words (BadParam param.Location)) refl
param_utf8 param.Name = IsUtf8-are_ascii (refusal_words (BadParam param.Name)) refl
param_utf8 param.NodeId = IsUtf8-are_ascii (refusal_words (BadParam param.NodeId)) refl
param_utf8 param.Params = IsUtf8-are_ascii (refusal_words (BadParam param.Params)) refl
param_utf8 param.Path = IsUtf8-are_ascii (refusal_words (BadParam param.Path)) refl
param_utf8 param.Pierce = IsUtf8-are_ascii (refusal_words (BadParam param.Pierce)) refl
param_utf8 param.Query = IsUtf8-are_ascii (refusal_words (BadParam param.Query)) refl
param_utf8 param.Range = IsUtf8-are_ascii (refusal_words (BadParam param.Range)) refl
param_utf8 param.RuleText = IsUtf8-are_ascii (refusal_words (BadParam param.RuleText)) refl
param_utf8 param.SearchId = IsUtf8-are_ascii (refusal_words (BadParam param.SearchId)) refl
param_utf8 param.Selector = IsUtf8-are_ascii (refusal_words (BadParam param.Selector)) refl
param_utf8 param.SessionId = IsUtf8-are_ascii (refusal_words (BadParam param.SessionId)) refl
param_utf8 param.StyleSheetId = IsUtf8-are_ascii (refusal_words (BadParam param.StyleSheetId)) refl
param_utf8 param.TargetId = IsUtf8-are_ascii (refusal_words (BadParam param.TargetId)) refl
param_utf8 param.TargetNodeId = IsUtf8-are_ascii (refusal_words (BadParam param.TargetNodeId)) refl
param_utf8 param.Text = IsUtf8-are_ascii (refusal_words (BadParam param.Text)) refl
param_utf8 param.ToIndex = IsUtf8-are_ascii (refusal_words (BadParam param.ToIndex)) refl
param_utf8 param.Type = IsUtf8-are_ascii (refusal_words (BadParam param.Type)) refl
param_utf8 param.Value = IsUtf8-are_ascii (refusal_words (BadParam param.Value)) refl

why_utf8 : (why : Why) → IsUtf8 (refusal_words why)
why_utf8 NotJson = IsUtf8-are_ascii (refusal_words NotJson) refl
why_utf8 NoId = IsUtf8-are_ascii (refusal_words NoId) refl
why_utf8 BadRequest = IsUtf8-are_ascii (refusal_words BadRequest) refl
why_utf8 NoSession = IsUtf8-are_ascii (refusal_words NoSession) refl
why_utf8 NoMethod = IsUtf8-are_ascii (refusal_words NoMethod) refl
why_utf8 (BadParam p) = param_utf8 p
why_utf8 DomOff = IsUtf8-are_ascii (refusal_words DomOff) refl
why_utf8 CssOff = IsUtf8-are_ascii (refusal_words CssOff) refl
why_utf8 UnknownNode = IsUtf8-are_ascii (refusal_words UnknownNode) refl
why_utf8 NotPushed = IsUtf8-are_ascii (refusal_words NotPushed) refl
why_utf8 NoPath = IsUtf8-are_ascii (refusal_words NoPath) refl
why_utf8 BadQuery = IsUtf8-are_ascii (refusal_words BadQuery) refl
why_utf8 NoSearch = IsUtf8-are_ascii (refusal_words NoSearch) refl
why_utf8 BadSearchRange = IsUtf8-are_ascii (refusal_words BadSearchRange) refl
why_utf8 NoTarget = IsUtf8-are_ascii (refusal_words NoTarget) refl
why_utf8 SessionTaken = IsUtf8-are_ascii (refusal_words SessionTaken) refl
why_utf8 NoTargetSession = IsUtf8-are_ascii (refusal_words NoTargetSession) refl
why_utf8 Crossed = IsUtf8-are_ascii (refusal_words Crossed) refl
why_utf8 NoNode = IsUtf8-are_ascii (refusal_words NoNode) refl
why_utf8 NotElement = IsUtf8-are_ascii (refusal_words NotElement) refl
why_utf8 NotText = IsUtf8-are_ascii (refusal_words NotText) refl
why_utf8 IsDocument = IsUtf8-are_ascii (refusal_words IsDocument) refl
why_utf8 NotChild = IsUtf8-are_ascii (refusal_words NotChild) refl
why_utf8 Inside = IsUtf8-are_ascii (refusal_words Inside) refl
why_utf8 TooDeep = IsUtf8-are_ascii (refusal_words TooDeep) refl
why_utf8 TooMany = IsUtf8-are_ascii (refusal_words TooMany) refl
why_utf8 BadName = IsUtf8-are_ascii (refusal_words BadName) refl
why_utf8 NoAttr = IsUtf8-are_ascii (refusal_words NoAttr) refl
why_utf8 NotContainer = IsUtf8-are_ascii (refusal_words NotContainer) refl
why_utf8 NoSheet = IsUtf8-are_ascii (refusal_words NoSheet) refl
why_utf8 NotMutable = IsUtf8-are_ascii (refusal_words NotMutable) refl
why_utf8 BadRange = IsUtf8-are_ascii (refusal_words BadRange) refl
why_utf8 BadText = IsUtf8-are_ascii (refusal_words BadText) refl
why_utf8 BadSelector = IsUtf8-are_ascii (refusal_words BadSelector) refl
why_utf8 BadPlace = IsUtf8-are_ascii (refusal_words BadPlace) refl
why_utf8 TooBig = IsUtf8-are_ascii (refusal_words TooBig) refl

refusal_fits : (r : Refused) → holds_of_some is_counted r.id ≡ true → fits_message (refusal_message r) ≡ true
refusal_fits r c = both (both (code_fits r.why) refl) (both c refl)

fault_utf8 : (id : Option ℕ) (code : ℤ) (said : List ℕ) → IsUtf8 said → HasUtf8 (message_data (fault id code said))
fault_utf8 None code said u = (
  IsUtf8-are_ascii (codes "error") refl,
  (IsUtf8-are_ascii (codes "code") refl, tt, (IsUtf8-are_ascii (codes "message") refl, u, tt)),
  tt,
)
fault_utf8 (Some id) code said u = (
  IsUtf8-are_ascii (codes "error") refl,
  (IsUtf8-are_ascii (codes "code") refl, tt, (IsUtf8-are_ascii (codes "message") refl, u, tt)),
  (IsUtf8-are_ascii (codes "id") refl, tt, tt),
)

fault_shallow : (id : Option ℕ) (code : ℤ) (said : List ℕ) → depth (message_data (fault id code said)) ≤ max_depth
fault_shallow None code said = omega arith
fault_shallow (Some id) code said = omega arith

pub faults_are_read : FaultsAreRead
faults_are_read id code said c k u =
    let d = message_data (fault id code said) in
    let f = both (both k refl) (both c refl) in
    let p : is_plain d ≡ true = fault_lawful.plain ((code, (said, tt)), (id, tt)) f refl in
    messages_are_read (fault id code said) f p (fault_shallow id code said) (IsUtf8-compact_text d p (fault_utf8 id code said u))

pub refusal_plain : (r : Refused) → holds_of_some is_counted r.id ≡ true → is_plain (message_data (refusal_message r)) ≡ true
refusal_plain r c = fault_lawful.plain ((code_of r.why, (refusal_words r.why, tt)), (r.id, tt)) (refusal_fits r c) refl

pub refusals_are_read : RefusalsAreRead
refusals_are_read r c = faults_are_read r.id (code_of r.why) (refusal_words r.why) c (code_fits r.why) (why_utf8 r.why)
