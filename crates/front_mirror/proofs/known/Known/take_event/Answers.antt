use Rattle.front_mirror.proofs.MessageLemmas.{insert_fits}
use Rattle.front_mirror.proofs.known.Known.take_event.Goals as goal

pub take_edit-requires-in-ChildNodeInserted : goal.take_edit-requires-in-ChildNodeInserted
take_edit-requires-in-ChildNodeInserted c = insert_fits c.args.event _ _ _ c.requires c.in-ChildNodeInserted.is
