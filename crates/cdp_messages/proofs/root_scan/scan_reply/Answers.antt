use Rattle.cdp_messages.proofs.RootScans.{reply_scanned}
use Rattle.cdp_messages.proofs.root_scan.scan_reply.Goals as goal

pub returns-clause-read : goal.returns-clause-read
returns-clause-read c =
    reply_scanned c.in_ok-id.id c.in_ok-tree.tree c.in_ok-take_begin_object.ensures c.in_ok-id.ensures c.in_ok-take_key.ensures
    c.in_ok-take_begin_object-2.ensures c.in_ok-take_key-2.ensures
    c.in_ok-tree.ensures.read c.in_ok-take_end_object.ensures c.in_ok-take_end_object-2.ensures c.in_ok-take_end.ensures
