use Rattle.std.proofs.Common.{sym, ◌∙◌, arith}
use Rattle.cdp_messages.specs.declared.down.ReplyBody.TheVariants.{Matched}
use Rattle.cdp_messages.proofs.MatchedScans.{reply_told}
use Rattle.cdp_messages.proofs.Results.{replies_are_shallow}
use Rattle.cdp_messages.proofs.matched_reply.read_matched.Goals as goal

pub returns-in-Ok-clause-told : goal.returns-in-Ok-clause-told
returns-in-Ok-clause-told c =
    reply_told c.args.text.now c.in-Ok.found.0 (Matched c.in-Ok.found.1) c.utf8.text
    (sym c.in_ok-reader.ensures.ok ∙ c.in-Ok.ensures.read) c.in-Ok.ensures.counted c.in-Ok.ensures.fits
    (replies_are_shallow c.in-Ok.found.0 (Matched c.in-Ok.found.1) (omega arith))
