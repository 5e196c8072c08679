-- What has no fault has room.
use Rattle.std.proofs.Common.{sym}
use Rattle.page_tree.proofs.FaultLemmas.{insert_few}
use Rattle.call_examples.proofs.page_rows.put_in.Goals as goal

pub grow-requires-clause-few : goal.grow-requires-clause-few
grow-requires-clause-few c = insert_few c.args.parent c.args.before c.args.form c.args.page.now.tree (sym c.in_default.ensures)
