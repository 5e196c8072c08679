-- What a router answers can be tagged.
use Rattle.std.proofs.Common.{◌++◌, sym, ap, ◌∙◌, subst}
use Rattle.session_mux.specs.Routes.{routing}
use Rattle.session_mux.specs.Tags.{AreMessages}
use Rattle.cdp_messages.specs.Replies.{message_frames}
use Rattle.call_examples.proofs.session_rows.take_frame.Goals as goal

pub push_replies-requires : goal.push_replies-requires
push_replies-requires c =
    let said = message_frames (routing c.args.frame.now c.args.router.now).said in
    ∣ subst AreMessages (sym (c.deref.ensures.value ∙ c.in_ok-route.ensures.said ∙ ap (λ xs. xs ++ said) c.new-reply.ensures.items))
    (c.route_law.ensures.messages c.args.frame.now c.args.router.now) ∣₁
