use Rattle.std.proofs.Common.{rules, ◌≡◌, true, codes, Some, sym}
use Rattle.css_objects.specs.Rules.{matched_kind}
use Rattle.cdp_messages.specs.declared.down.ReplyBody.TheVariants.{Matched}
use Rattle.cdp_messages.specs.Replies.{reply, down_of}
use Rattle.cdp_messages.specs.Results.{body_data}
use Rattle.front_mirror.specs.Known.{known_value}
use Rattle.front_mirror.proofs.MessageLemmas.{styles_taken}
use Rattle.front_mirror.proofs.known.Known.matched_in.Goals as goal

pub returns-then-eq : goal.returns-then-eq
returns-then-eq c =
    let told : down_of c.args.text.now ≡ Some (reply c.in_ok-id.id (body_data (Matched c.in_ok-id.matched))) = search rules in
    let fits : matched_kind.fits c.in_ok-id.matched ≡ true = search rules in
    let is : c.in_ok-method.method.now ≡ codes "CSS.getMatchedStylesForNode" = search rules in
    styles_taken (known_value c.args.self.now) c.args.text.now c.in_ok-id.id c.in_ok-id.matched c.in_ok-method.method.now told fits
    (sym c.in_ok-method.ensures) is
