-- A reply with a document, off its tokens.
use Rattle.std.proofs.Common.{◌≡◌, ℕ, ◌≤◌, List, true, Some, option_and_then, IsUtf8, sym, ap, ◌∙◌, [], ◌∷◌, ◌++◌, append_assoc}
use Rattle.json.specs.Json as json
use Rattle.json.specs.Lex.{tokens}
use Rattle.serde_json.specs.Read.{read, of_json, max_depth}
use Rattle.cdp_json.specs.Kinds.{is_counted, whole}
use Rattle.cdp_json.proofs.ReadBack.{tokens-compact_text, read-compact_text}
use Rattle.node_tree.specs.Nodes.{Branch, alone, height}
use Rattle.node_tree.specs.Levels.{most_told_root}
use Rattle.cdp_messages.specs.declared.down.ReplyBody.TheVariants.{Root}
use Rattle.dom_objects.specs.Told.{Told}
use Rattle.dom_objects.specs.NodeData.{fits_tree, tree_data}
use Rattle.cdp_messages.specs.Replies.{reply, message_data, message_in, down_of}
use Rattle.cdp_messages.specs.Results.{body_data}
use Rattle.dom_objects.specs.Tokens.{data_tokens, field_tokens}
use Rattle.cdp_messages.proofs.Results.{replies_are_shallow}
use Rattle.cdp_messages.proofs.FrameBytes.{json_is}
use Rattle.cdp_messages.proofs.Messages.{message_again, reply_fits, reply_plain}
use Rattle.std.specs.Prelude.{codes}
use Rattle.json.specs.Token.{Token, begin_object, end_object, key}

pub root_told : (text : List ℕ) (id : ℕ) (tree : Branch Told) → IsUtf8 text
    → tokens text ≡ data_tokens (message_data (reply id (body_data (Root tree)))) → is_counted id ≡ true → fits_tree true tree ≡ true
    → height (alone tree) ≤ most_told_root → down_of text ≡ Some (reply id (body_data (Root tree)))
root_told text id tree u e c f h =
    let d = message_data (reply id (body_data (Root tree))) in
    let p = reply_plain id (Root tree) c f in
    let r : read text ≡ Some d =
    ap (λ ts. option_and_then of_json (option_and_then (λ q. json.if_last q.0 q.1) (json.value max_depth ts)))
    (e ∙ sym (tokens-compact_text d p)) ∙ read-compact_text d p (replies_are_shallow id (Root tree) h) in
    ap (option_and_then message_in) (json_is text d u r) ∙ message_again (reply id (body_data (Root tree))) (reply_fits id (Root tree) c)

wrapped : (i : Token) (j r s t : List Token) (o x : Token) {old r1 r2 r3 r4 r5 r6 r7 r8 : List Token} → old ≡ o ∷ r1 → r1 ≡ (i ∷ j) ++ r2
    → r2 ≡ r ++ r3 → r3 ≡ o ∷ r4 → r4 ≡ s ++ r5 → r5 ≡ t ++ r6 → r6 ≡ x ∷ r7 → r7 ≡ x ∷ r8 → r8 ≡ []
    → old ≡ o ∷ ((i ∷ j) ++ (r ++ ((o ∷ (s ++ (t ++ x ∷ []))) ++ x ∷ [])))
wrapped i j r s t o x e0 e1 e2 e3 e4 e5 e6 e7 e8 = rw (e0, e1, e2, e3, e4, e5, e6, e7, e8) (simp append_assoc)

pub reply_scanned : (id : ℕ) (tree : Branch Told) {old r1 r2 r3 r4 r5 r6 r7 r8 : List Token} → old ≡ begin_object ∷ r1
    → r1 ≡ field_tokens (codes "id") (Some (whole.spell id)) ++ r2 → r2 ≡ key (codes "result") ∷ r3
    → r3 ≡ begin_object ∷ r4 → r4 ≡ key (codes "root") ∷ r5 → r5 ≡ data_tokens (tree_data tree) ++ r6 → r6 ≡ end_object ∷ r7
    → r7 ≡ end_object ∷ r8 → r8 ≡ []
    → old ≡ data_tokens (message_data (reply id (body_data (Root tree))))
reply_scanned id tree e0 e1 e2 e3 e4 e5 e6 e7 e8 =
    wrapped (key (codes "id")) (data_tokens (whole.spell id)) (key (codes "result") ∷ []) (key (codes "root") ∷ [])
    (data_tokens (tree_data tree)) begin_object end_object e0 e1 e2 e3 e4 e5 e6 e7 e8
