-- The node was counted.
use Rattle.std.proofs.Common.{sym, ap, ◌∙◌}
use Rattle.node_tree.specs.Nodes.{alone}
use Rattle.front_mirror.specs.Shown.{known_at}
use Rattle.front_mirror.specs.Panels.{Numbers, numbers_of}
use Rattle.panels.specs.Numbers.{plus}
use Rattle.panels.proofs.CountLemmas.{numbers_inserted}
use Rattle.panels.proofs.numbers.Tally.insert.Goals as goal

pub returns : goal.returns
returns c = λ parent before t was yes.
    let after = c.args.mirror.now in
    c.in_ok-count_node.ensures {u = tt}
    ∙ ap (λ (n : Numbers). plus n (numbers_of (alone (known_at c.args.node after)))) was
    ∙ sym (numbers_inserted c.args.node parent before after t.is t.turns)
