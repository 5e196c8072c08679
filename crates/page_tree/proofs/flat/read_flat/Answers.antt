-- What is read without a fault may be loaded.
use Rattle.std.proofs.Common.{◌≡◌, ◌∙◌, Vec, Global, List, map, Option, Some, sym, ap, option_map}
use Rattle.std.specs.Option.{option_and_then}
use Rattle.serde_json.specs.Find.{as_array}
use Rattle.serde_json.specs.View.{view}
use Rattle.node_tree.specs.Nodes.{Branch, nodes_of}
use Rattle.node_tree.specs.Labels.{Label}
use Rattle.node_tree.specs.Keys.{first_true}
use Rattle.page_tree.specs.declared.flat_rows.Row.{Row}
use Rattle.page_tree.specs.Loads.{limit_faults}
use Rattle.page_tree.specs.Flat.{flat_formed}
use Rattle.page_tree.specs.FlatRows.{row_of, rows_of}
use Rattle.page_tree.proofs.FlatLoads.{can_load_flat}
use Rattle.page_tree.proofs.flat.read_flat.Goals as goal

pub returns-clause-fit : goal.returns-clause-fit
returns-clause-fit c =
    let listed : option_and_then rows_of (as_array (view c.args.v.now)) ≡ Some (map row_of c.in-Some.rows.items) =
    sym (c.in_ok-rows.ensures {u = tt}) ∙ ap (option_map (λ (v : Vec Row Global). map row_of v.items)) c.in-Some.is in
    let clear = ap (λ (fs : List (Branch Label)). first_true (limit_faults (nodes_of fs))) (sym c.deref.ensures.value) in
    can_load_flat (view c.args.v.now) (nodes_of c.in-Ok.forms.items) (ap (option_and_then flat_formed) listed ∙ c.in-Ok.ensures)
    (clear ∙ sym c.in_default-limit_fault.ensures)
