use Rattle.std.proofs.Common.{rules, ◌≡◌, true, codes, Some, sym}
use Rattle.dom_objects.specs.NodeData.{fits_tree}
use Rattle.cdp_messages.specs.declared.down.ReplyBody.TheVariants.{Root}
use Rattle.cdp_messages.specs.Replies.{reply, down_of}
use Rattle.cdp_messages.specs.Results.{body_data}
use Rattle.front_mirror.specs.Known.{known_value}
use Rattle.front_mirror.proofs.MessageLemmas.{document_taken}
use Rattle.front_mirror.proofs.known.Known.document_in.Goals as goal

pub returns-then-eq-clause-taken : goal.returns-then-eq-clause-taken
returns-then-eq-clause-taken c =
    let told : down_of c.args.text.now ≡ Some (reply c.in_ok-id.id (body_data (Root c.in_ok-id.root))) = search rules in
    let fits : fits_tree true c.in_ok-id.root ≡ true = search rules in
    let is : c.in_ok-method.method.now ≡ codes "DOM.getDocument" = search rules in
    document_taken (known_value c.args.self.now) c.args.text.now c.in_ok-id.id c.in_ok-id.root c.in_ok-method.method.now told fits
    (sym c.in_ok-method.ensures) is
