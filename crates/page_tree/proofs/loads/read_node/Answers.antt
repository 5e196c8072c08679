-- A node that is read may be inserted.
use Rattle.std.proofs.Common.{◌∙◌, true, sym}
use Rattle.serde_json.specs.View.{view}
use Rattle.page_tree.proofs.FormedLemmas.{form_formed}
use Rattle.page_tree.proofs.loads.read_node.Goals as goal

pub returns-in-Some-clause-fit : goal.returns-in-Some-clause-fit
returns-in-Some-clause-fit c = form_formed (view c.args.v.now) true c.in-Some.form (sym (c.in_ok-form.ensures {u = tt}) ∙ c.in-Some.is)
