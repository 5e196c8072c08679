-- A loaded page is valid, and its slots keep it.
use Rattle.std.proofs.Common.{◌≡◌, subst, sym, ap, ◌∙◌}
use Rattle.node_tree.specs.Nodes.{Branch, nodes_of}
use Rattle.node_tree.specs.declared.Kind.TheVariants.{Document}
use Rattle.page_tree.specs.Pages.{PageRow, IsValid, loaded}
use Rattle.page_tree.proofs.NumberLemmas.{loaded_valid}
use Rattle.page_tree.proofs.PlaceLemmas.{planted_page, fresh_in_empty}
use Rattle.page_tree.proofs.pages.Page.load.Goals as goal

pub plant-requires-clause-fresh : goal.plant-requires-clause-fresh
plant-requires-clause-fresh c =
    let e = c.in_ok-children.ensures {u = tt} in
    fresh_in_empty c.new-arena.result _ c.in_ok-children.next c.new-arena.ensures.slots
    (subst IsValid (cc) (loaded_valid c.args.first (nodes_of c.args.nodes.items) c.requires.least c.requires.nodes))

pub invariant_of-result : goal.invariant_of-result
invariant_of-result c =
    let e = c.in_ok-children.ensures {u = tt} in
    let tree : Branch PageRow = record {
      row = record {
        serial = c.args.first;
        label = record { kind = Document; name = c.empty.result; value = c.empty-2.result; attributes = c.new.result };
      };
      children = nodes_of c.in_ok-children.children.items;
    } in
    let valid = subst IsValid (cc) (loaded_valid c.args.first (nodes_of c.args.nodes.items) c.requires.least c.requires.nodes) in
    (planted_page c.new-arena.result c.plant.new.self c.in_ok-root.root c.in_ok-children.next tree c.new-arena.ensures.slots
    c.plant.ensures.filed c.plant.ensures.grown (c.in_ok-root.ensures {u = tt}).ok valid).1

pub returns : goal.returns
returns c =
    let e = c.in_ok-children.ensures {u = tt} in
    let tree : Branch PageRow = record {
      row = record {
        serial = c.args.first;
        label = record { kind = Document; name = c.empty.result; value = c.empty-2.result; attributes = c.new.result };
      };
      children = nodes_of c.in_ok-children.children.items;
    } in
    let is : loaded c.args.first (nodes_of c.args.nodes.items) ≡ record { tree = tree; next = c.in_ok-children.next } = cc in
    let valid = subst IsValid is (loaded_valid c.args.first (nodes_of c.args.nodes.items) c.requires.least c.requires.nodes) in
    let same = (planted_page c.new-arena.result c.plant.new.self c.in_ok-root.root c.in_ok-children.next tree c.new-arena.ensures.slots
    c.plant.ensures.filed c.plant.ensures.grown (c.in_ok-root.ensures {u = tt}).ok valid).0 in
    ap (λ (t : Branch PageRow). record { tree = t; next = c.in_ok-children.next }) same ∙ sym is
