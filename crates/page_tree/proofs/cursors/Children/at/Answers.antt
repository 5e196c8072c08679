-- The slot of the key at the place.
use Rattle.std.proofs.Common.{ap, sym, ◌∙◌, arith}
use Rattle.std.specs.Option.{option_copied}
use Rattle.node_tree.specs.Nodes.{width, tree_at}
use Rattle.page_tree.proofs.HangLemmas.{hangs-width, hung-there, hung-is}
use Rattle.page_tree.proofs.cursors.Children.at.Goals as goal

pub at-requires : goal.at-requires
at-requires c = omega (
  arith,
  hangs-width c.self.inside.arena.now c.self.inside.keys.now c.self.invariant,
  ap width c.self.view_is,
  c.requires,
)

pub unreachable-requires : goal.unreachable-requires
unreachable-requires c = hung-there c.self.inside.arena.now c.self.inside.keys.now c.args.i c.at.result c.self.invariant c.at.ensures
    (sym c.get.ensures ∙ ap (λ o. option_copied o) c.in-None.is)

pub invariant_of-result : goal.invariant_of-result
invariant_of-result c = (hung-is c.self.inside.arena.now c.self.inside.keys.now c.args.i c.at.result c.in-Some.slot.now c.self.invariant
    c.at.ensures (sym c.get.ensures ∙ ap (λ o. option_copied o) c.in-Some.is)).1

pub returns : goal.returns
returns c =
    sym (ap (tree_at c.args.i) c.self.view_is)
    ∙ (hung-is c.self.inside.arena.now c.self.inside.keys.now c.args.i c.at.result c.in-Some.slot.now c.self.invariant c.at.ensures
    (sym c.get.ensures ∙ ap (λ o. option_copied o) c.in-Some.is)).0
