-- The nodes that are put together are those of the rows.
use Rattle.std.proofs.Common.{◌≡◌, ◌∙◌, Vec, Global, List, map, min, Option, Some, sym, ap, option_map}
use Rattle.node_tree.specs.Nodes.{nodes_of, height}
use Rattle.node_tree.specs.Levels.{most_levels}
use Rattle.page_tree.specs.declared.forms.NodeForm.{NodeForm}
use Rattle.page_tree.specs.declared.flat_rows.Row.{Row}
use Rattle.page_tree.specs.Flat.{flat_nodes, flat_formed}
use Rattle.page_tree.specs.FlatRows.{row_of}
use Rattle.page_tree.proofs.FlatLoads.{flat-some}
use Rattle.page_tree.proofs.flat.nest_rows.Goals as goal

pub returns : goal.returns
returns c =
    let levels : Some c.in-Some.levels
    ≡ option_map (λ n. min (height n) most_levels) (flat_formed (map row_of c.args.rows.items)) =
    sym c.in-Some.is ∙ c.in_ok-levels.ensures {u = tt}
    ∙ ap (λ (l : List Row). option_map (λ n. min (height n) most_levels) (flat_formed (map row_of l))) c.deref.ensures.value in
    let nested : flat_nodes (map row_of c.args.rows.items) ≡ Some (nodes_of c.in-Some-2.forms.items) =
    sym (c.in_ok-forms.ensures {u = tt}) ∙ ap (option_map (λ (v : Vec NodeForm Global). nodes_of v.items)) c.in-Some-2.is in
    flat-some (flat_nodes (map row_of c.args.rows.items)) c.in-Some.levels levels ∙ nested
