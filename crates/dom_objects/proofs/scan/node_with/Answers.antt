use Rattle.std.proofs.Common.{rules, ◌≡◌, true, sym, ◌∙◌}
use Rattle.dom_objects.proofs.ScannedNodes.{told_true, node_written, node_fits}
use Rattle.dom_objects.proofs.scan.node_with.Goals as goal

pub returns-clause-written : goal.returns-clause-written
returns-clause-written c =
    let told : c.tells.result ≡ true = search rules in
    node_written c.args.parts c.args.top c.args.children c.in_ok-tree.tree
    (told_true c.args.parts c.args.top c.args.children c.tells.result c.count_of.result c.tells.ensures c.count_of.ensures told)
    c.in_ok-tree.ensures

pub returns-clause-fits : goal.returns-clause-fits
returns-clause-fits c =
    let told : c.tells.result ≡ true = search rules in
    let counted : c.are_counted.result ≡ true = search rules in
    node_fits c.args.parts c.args.top c.args.children c.in_ok-tree.tree (sym c.are_counted.ensures ∙ counted)
    (told_true c.args.parts c.args.top c.args.children c.tells.result c.count_of.result c.tells.ensures c.count_of.ensures told)
    c.requires c.in_ok-tree.ensures
