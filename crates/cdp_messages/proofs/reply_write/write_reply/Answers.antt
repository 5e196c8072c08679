use Rattle.std.proofs.Common.{◌≡◌, false, sym, ap, ◌∙◌, subst}
use Rattle.serde_json.specs.Data.{Data}
use Rattle.serde_json.specs.View.{view}
use Rattle.serde_json.specs.Written.{has_float}
use Rattle.cdp_messages.specs.Replies.{reply, message_data}
use Rattle.cdp_messages.specs.Results.{body_data}
use Rattle.cdp_messages.specs.Forms.{body_said}
use Rattle.cdp_messages.proofs.Results.{has_float-reply}
use Rattle.cdp_messages.proofs.reply_write.write_reply.Goals as goal

pub append_reply-requires : goal.append_reply-requires
append_reply-requires c =
    let said : body_data c.args.body.now ≡ view c.in-Plain.value = sym c.in-Ok.ensures ∙ ap body_said c.in-Plain.is in
    subst (λ (d : Data). has_float (message_data (reply c.args.id d)) ≡ false) said (has_float-reply c.args.id c.args.body.now)
