-- What is known of a frame that is read, or that is not.
use Rattle.std.proofs.Common.{◌≡◌, ℕ, List, [], ◌∷◌, Bool, true, false, cond, codes, bytes_eq, ◌&&◌, Option, Some, None, option_and_then}
use Rattle.std.proofs.Common.{Result, Ok, Err, IsOk, Vec, refl, sym, ap, ◌∙◌, append-nil}
use Rattle.std.specs.Str.{IsUtf8, is_utf8}
use Rattle.std.proofs.lemmas.Str.{IsUtf8-from_is_utf8}
use Rattle.serde_json.specs.Read.{read}
use Rattle.serde_json.specs.Data.{Data}
use Rattle.node_tree.specs.Nodes.{Branch, nodes_of, alone}
use Rattle.node_tree.specs.Names.{is_attribute_name}
use Rattle.std.specs.declared.alloc.Global.{Global}
use Rattle.cdp_messages.specs.declared.down.Down.{Down}
use Rattle.cdp_messages.specs.declared.down.Down.TheVariants as down
use Rattle.cdp_messages.specs.declared.down.Event.{Event}
use Rattle.cdp_messages.specs.declared.down.Event.TheVariants.{AttributeModified, AttributeRemoved, ChildNodeInserted, SetChildNodes}
use Rattle.cdp_messages.specs.declared.down.ReplyBody.{ReplyBody}
use Rattle.cdp_messages.specs.declared.down.ReplyBody.TheVariants as body
use Rattle.client_views.specs.declared.effects.Effect.{Effect}
use Rattle.client_views.specs.declared.effects.Effect.TheVariants as effect
use Rattle.client_views.specs.Effects.{effect_by, effect_of}
use Rattle.dom_objects.specs.Told.{Told}
use Rattle.dom_objects.specs.NodeData.{fits_tree, fits_nodes}
use Rattle.cdp_messages.specs.Asked.{json_of}
use Rattle.cdp_messages.specs.Events.{attribute_modified, attribute_removed, inserted, set_children, news_of, fits_news}
use Rattle.dom_objects.specs.NodeKinds.{shows_no_children}
use Rattle.cdp_messages.specs.Replies.{Message, reply, event, message_of, message_in, down_of, result_of}
use Rattle.cdp_messages.specs.Results.{body_data, fits_body, Tale, no_result, document, sheet_text, new_styles, matched_styles}
use Rattle.cdp_messages.specs.Results.{answer_alone, tale_of}
use Rattle.cdp_messages.specs.Replies.{fits_message}
use Rattle.cdp_messages.proofs.Results.{IsTaleOf, tale_is}
use Rattle.cdp_messages.proofs.Messages.{messages_are_spelled, results_are_read, results_are_spelled}
use Rattle.css_objects.specs.Rules.{matched_kind}
use Rattle.front_mirror.specs.declared.faults.FrontKind.TheVariants.{NotMessage}
use Rattle.css_objects.specs.declared.rules.Matched.{Matched}
use Rattle.front_mirror.specs.declared.replies.MatchedReply.{MatchedReply}
use Rattle.front_mirror.specs.declared.edits.NodeChange.TheVariants as edit
use Rattle.front_mirror.specs.Edits.{fits_edit, fits_effect}
use Rattle.front_mirror.specs.Front.{FrontValue, reply_frame, method_waiting, root_fault, matched_told, with_matched, replied, with_root}
use Rattle.front_mirror.specs.Front.{with_effect, matched_by}
use Rattle.front_mirror.specs.Front.{with_body, with_reply, with_message, take_frame}
use Rattle.client_views.proofs.BoolLemmas.{and_left, both}

-- a result that is read has the forms of one, and so has what it changes
body_effect : (method : List ℕ) (b : ReplyBody) → fits_body b ≡ true → fits_effect (effect_of method b) ≡ true
body_effect method b fits = at (tale_of b) (tale_is b) where
  of_method : (x y : Bool) → fits_effect (cond x effect.AllOff (cond y effect.SheetsOff effect.NothingElse)) ≡ true
  of_method true y = refl
  of_method false true = refl
  of_method false false = refl

  at : (t : Tale) → IsTaleOf b t → fits_effect (effect_by method t) ≡ true
  at no_result e = of_method (bytes_eq method (codes "DOM.disable")) (bytes_eq method (codes "CSS.disable"))
  at (document tree) e = sym (ap fits_body e) ∙ fits
  at (sheet_text text) e = refl
  at (new_styles styles) e = refl
  at (matched_styles matched) e = refl
  at answer_alone e = refl

pub effect_fits : (method : List ℕ) (d : Data) (b : ReplyBody) (x : Effect) → result_of method d ≡ Some b → x ≡ effect_of method b
    → fits_effect x ≡ true
effect_fits method d b x e is = ap fits_effect is ∙ body_effect method b (results_are_spelled method d b e).1

message_fits : (o : Option Data) (m : Message) → option_and_then message_in o ≡ Some m → fits_message m ≡ true
message_fits None m e = cc
message_fits (Some d) m e = (messages_are_spelled d m e).1

-- and so has an event
pub news_fit : (bytes : List ℕ) (d : Down) (e : Event) → down_of bytes ≡ Some (message_of d) → d ≡ down.Event e
    → fits_news (news_of e) ≡ true
news_fit bytes d e read is = message_fits (json_of bytes) (event (news_of e)) (read ∙ ap (λ (m : Down). Some (message_of m)) is)

-- the nodes that come with it have the forms of a message, and its name of an attribute has its form
node_alone : (b : Branch Told) → fits_tree false b ≡ true → fits_nodes (alone b) ≡ true
node_alone b e = both e refl

pub insert_fits : (e : Event) (parent previous : ℕ) (b : Branch Told) → fits_news (news_of e) ≡ true
    → e ≡ ChildNodeInserted parent previous b → fits_edit (edit.Insert previous b) ≡ true
insert_fits e parent previous b fits is =
    let f : fits_news (inserted parent previous b) ≡ true = ap (λ (e : Event). fits_news (news_of e)) (sym is) ∙ fits in
    both (node_alone b (and_left (fits_tree false b) (shows_no_children b) (and_left (fits_tree false b && shows_no_children b) _ f))) refl

unread : (bytes : List ℕ) → (IsUtf8 bytes → ⊥) → (b : Bool) → is_utf8 bytes ≡ b → cond b (read bytes) None ≡ None
unread bytes wrong true is = absurd (wrong (IsUtf8-from_is_utf8 bytes is))
unread bytes wrong false is = refl

-- bytes that are no text are no message
pub no_text : (bytes : List ℕ) → (IsUtf8 bytes → ⊥) → down_of bytes ≡ None
no_text bytes wrong = ap (option_and_then message_in) (unread bytes wrong (is_utf8 bytes) refl)

ok_err : {A E : Type 0} (r : Result A E) (e : E) → r ≡ Err e → IsOk r → ⊥
ok_err (Ok x) e is h = cc
ok_err (Err d) e is h = cc

-- a front refuses them as such
pub text_refused : {A E : Type 0} (v : FrontValue) (bytes : List ℕ) (r : Result A E) (e : E) → r ≡ Err e → (IsUtf8 bytes → IsOk r)
    → take_frame v bytes ≡ Err NotMessage
text_refused v bytes r e is succeeds = ap (with_message v bytes) (no_text bytes (λ u. ok_err r e is (succeeds u)))

-- a result without matched styles adds none
pub none_matched : (v : FrontValue) → with_matched v [] ≡ v
none_matched v = ap (λ (rs : List MatchedReply). record v { matched = rs }) (append-nil v.matched)

untold : (id : ℕ) (b : ReplyBody) → ((m : Matched) → b ≡ body.Matched m → ⊥) → matched_told id b ≡ []
untold id b other = at (tale_of b) (tale_is b) where
  at : (t : Tale) → IsTaleOf b t → matched_by id t ≡ []
  at no_result e = refl
  at (document tree) e = refl
  at (sheet_text text) e = refl
  at (new_styles styles) e = refl
  at (matched_styles matched) e = absurd (other matched e)
  at answer_alone e = refl

-- What is read of a reply: the ask of its id waits and is of that method, which has this result.
pub record IsRead (v : FrontValue) (id : ℕ) (d : Data) (method : List ℕ) (b : ReplyBody) : Type 0 where
  pub waits : method_waiting id v.asks ≡ Some method
  pub result : result_of method d ≡ Some b

reply_read : (v : FrontValue) (id : ℕ) (frame : List ℕ) (d : Data) (method : List ℕ) (b : ReplyBody) → IsRead v id d method b
    → with_reply v (reply_frame id frame) d (method_waiting id v.asks)
    ≡ with_effect (with_matched v (matched_told id b)) (reply_frame id frame) (effect_of method b)
reply_read v id frame d method b has =
    ap (with_reply v (reply_frame id frame) d) has.waits ∙ ap (with_body v (reply_frame id frame) method) has.result

-- a result of matched styles is kept
pub matched_taken : (v w : FrontValue) (id : ℕ) (frame : List ℕ) (d : Data) (method : List ℕ) (b : ReplyBody) (m : Matched)
    → IsRead v id d method b → b ≡ body.Matched m
    → w ≡ replied (with_matched v (record { ask = id; matched = m } ∷ [])) (reply_frame id frame) true v.tree
    → with_reply v (reply_frame id frame) d (method_waiting id v.asks) ≡ Ok w
matched_taken v w id frame d method b m has is kept =
    reply_read v id frame d method b has
    ∙ ap (λ (x : ReplyBody). with_effect (with_matched v (matched_told id x)) (reply_frame id frame) (effect_of method x)) is
    ∙ ap Ok (sym kept)

-- any other result has its effect alone
pub other_taken : (v : FrontValue) (id : ℕ) (frame : List ℕ) (d : Data) (method : List ℕ) (b : ReplyBody) (x : Effect)
    → IsRead v id d method b
    → ((m : Matched) → b ≡ body.Matched m → ⊥) → x ≡ effect_of method b
    → with_reply v (reply_frame id frame) d (method_waiting id v.asks) ≡ with_effect v (reply_frame id frame) x
other_taken v id frame d method b x has other is =
    reply_read v id frame d method b has
    ∙ ap (λ (rs : List MatchedReply). with_effect (with_matched v rs) (reply_frame id frame) (effect_of method b)) (untold id b other)
    ∙ ap (λ (u : FrontValue). with_effect u (reply_frame id frame) (effect_of method b)) (none_matched v)
    ∙ ap (with_effect v (reply_frame id frame)) (sym is)

-- matched styles that an ask waits for
pub styles_taken : (v : FrontValue) (frame : List ℕ) (id : ℕ) (m : Matched) (method : List ℕ)
    → down_of frame ≡ Some (reply id (body_data (body.Matched m))) → matched_kind.fits m ≡ true
    → method_waiting id v.asks ≡ Some method → method ≡ codes "CSS.getMatchedStylesForNode"
    → take_frame v frame ≡ Ok (replied (with_matched v (record { ask = id; matched = m } ∷ [])) (reply_frame id frame) true v.tree)
styles_taken v frame id m method told fits waits is =
    let asked = codes "CSS.getMatchedStylesForNode" in
    let read : IsRead v id (body_data (body.Matched m)) asked (body.Matched m) =
    record { waits = waits ∙ ap Some is; result = results_are_read asked (body.Matched m) refl fits } in
    ap (with_message v frame) told ∙ matched_taken v _ id frame (body_data (body.Matched m)) asked (body.Matched m) m read refl refl

-- a document that an ask waits for
pub document_taken : (v : FrontValue) (frame : List ℕ) (id : ℕ) (tree : Branch Told) (method : List ℕ)
    → down_of frame ≡ Some (reply id (body_data (body.Root tree))) → fits_tree true tree ≡ true
    → method_waiting id v.asks ≡ Some method → method ≡ codes "DOM.getDocument"
    → take_frame v frame ≡ with_root v (reply_frame id frame) tree (root_fault tree)
document_taken v frame id tree method told fits waits is =
    ap (with_message v frame) told ∙ ap (with_reply v (reply_frame id frame) (body_data (body.Root tree))) (waits ∙ ap Some is)
    ∙ ap (with_body v (reply_frame id frame) (codes "DOM.getDocument"))
    (results_are_read (codes "DOM.getDocument") (body.Root tree) refl fits)
    ∙ ap (λ (u : FrontValue). with_root u (reply_frame id frame) tree (root_fault tree)) (none_matched v)
