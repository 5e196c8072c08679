use Rattle.cdp_messages.proofs.reply_write.append_reply.Goals as goal

pub append-requires : goal.append-requires
append-requires c = rw c.in_ok-value.ensures c.requires
