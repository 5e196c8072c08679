-- A reply off its tokens.
use Rattle.std.proofs.Common.{◌≡◌, ℕ, ◌≤◌, List, [], ◌++◌, true, Some, option_and_then, IsUtf8, append-nil, sym, ap, ◌∙◌}
use Rattle.json.specs.Json as json
use Rattle.json.specs.Lex.{tokens}
use Rattle.json.specs.Token.{Token}
use Rattle.serde_json.specs.Data.{Data, depth}
use Rattle.serde_json.specs.Read.{read, of_json, max_depth}
use Rattle.cdp_json.specs.Kinds.{is_counted}
use Rattle.cdp_json.specs.Tokens.{data_tokens}
use Rattle.cdp_json.proofs.ReadBack.{tokens-compact_text, read-compact_text}
use Rattle.cdp_messages.specs.declared.down.ReplyBody.{ReplyBody}
use Rattle.cdp_messages.specs.Replies.{reply, message_data, message_in, down_of}
use Rattle.cdp_messages.specs.Results.{body_data, fits_body}
use Rattle.cdp_messages.proofs.FrameBytes.{json_is}
use Rattle.cdp_messages.proofs.Messages.{message_again, reply_fits, reply_plain}

-- a text with the tokens of a reply is that reply
pub reply_told : (text : List ℕ) (id : ℕ) (body : ReplyBody) → IsUtf8 text
    → tokens text ≡ data_tokens (message_data (reply id (body_data body))) → is_counted id ≡ true → fits_body body ≡ true
    → depth (message_data (reply id (body_data body))) ≤ max_depth → down_of text ≡ Some (reply id (body_data body))
reply_told text id body u e c f h =
    let d = message_data (reply id (body_data body)) in
    let p = reply_plain id body c f in
    let r : read text ≡ Some d =
    ap (λ ts. option_and_then of_json (option_and_then (λ q. json.if_last q.0 q.1) (json.value max_depth ts)))
    (e ∙ sym (tokens-compact_text d p)) ∙ read-compact_text d p h in
    ap (option_and_then message_in) (json_is text d u r) ∙ message_again (reply id (body_data body)) (reply_fits id body c)

-- the tokens of a value, where none is left behind it
pub nothing_behind : (d : Data) {old left : List Token} → left ≡ [] → old ≡ data_tokens d ++ left → old ≡ data_tokens d
nothing_behind d e whole = whole ∙ ap (λ ts. data_tokens d ++ ts) e ∙ append-nil (data_tokens d)
