-- What is read without a fault may be loaded.
use Rattle.std.proofs.Common.{◌∙◌, Option, Vec, Global, List, true, sym, ap, option_map}
use Rattle.std.specs.Option.{option_and_then}
use Rattle.node_tree.specs.Nodes.{Branch, nodes_of}
use Rattle.node_tree.specs.Labels.{Label}
use Rattle.serde_json.specs.Data.{Items}
use Rattle.serde_json.specs.View.{view, items_view}
use Rattle.serde_json.specs.declared.value.Value.{Value}
use Rattle.page_tree.specs.declared.forms.NodeForm.{NodeForm}
use Rattle.page_tree.specs.Loads.{forms_of, limit_faults}
use Rattle.node_tree.specs.Keys.{first_true}
use Rattle.page_tree.proofs.FormedLemmas.{can_load}
use Rattle.page_tree.proofs.loads.read_nodes.Goals as goal

pub returns-clause-fit : goal.returns-clause-fit
returns-clause-fit c =
    let listed = ap (λ (o : Option Items). option_and_then (forms_of true) o) (sym (c.in-Some.ensures {u = tt})) in
    let at_values = ap (λ (vs : List Value). forms_of true (items_view vs)) (sym c.deref.ensures.value) in
    let are_read = ap (option_map (λ (v : Vec NodeForm Global). nodes_of v.items)) c.in-Some-2.is in
    let clear = ap (λ (fs : List (Branch Label)). first_true (limit_faults (nodes_of fs))) (sym c.deref-2.ensures.value) in
    can_load (view c.args.v.now) (nodes_of c.in-Some-2.forms.items) (listed ∙ at_values ∙ sym (c.in_ok-forms.ensures {u = tt}) ∙ are_read)
    (clear ∙ sym c.in_default-limit_fault.ensures)
