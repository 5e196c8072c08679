use Rattle.std.proofs.Common.{rules, ◌≡◌, Some, true, sym, ap, ◌∙◌}
use Rattle.node_tree.specs.Labels.{is_ascending}
use Rattle.page_tree.proofs.OrderLemmas.{ascending_ordered}
use Rattle.page_tree.proofs.attributes.order_pairs.Goals as goal

pub returns-then-ascend : goal.returns-then-ascend
returns-then-ascend c =
    let sorted : is_ascending c.args.pairs.items ≡ true = search rules in
    ap Some (c.from_pairs.ensures ∙ c.shrink_to_fit.ensures.items) ∙ sym (ascending_ordered c.args.pairs.items sorted)
