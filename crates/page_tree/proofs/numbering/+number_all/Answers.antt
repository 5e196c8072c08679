-- One form more is numbered, or all are.
use Rattle.std.proofs.Common.{◌∷◌, ◌∙◌, List, sym, ap, arith}
use Rattle.node_tree.specs.Nodes.{Branch, node_count, nodes_of}
use Rattle.node_tree.specs.Labels.{Label}
use Rattle.page_tree.proofs.NumberLemmas.{number_turn, number_end, count_end}
use Rattle.page_tree.proofs.numbering.+number_all.Goals as goal

pub loop-form-preserved : goal.loop-form-preserved
loop-form-preserved t c =
    let rest = c.loop-form.form-iterator.rest.items in
    let later = c.next.new.self.rest.items in
    let steps = (c.in-Some.ensures {u = tt}).steps in
    let is_rest = steps.0 ∙ ap (λ (b : Branch Label). b ∷ later) (sym c.form.view_is) in
    let number = c.in_ok-children.ensures {u = tt} in
    let push = c.in_ok-push.ensures {u = tt} in
    let count = ap (λ (l : List (Branch Label)). node_count (nodes_of l)) is_rest in
    let so_far = rw is_rest at c.loop-form.invariant.4 in
    let label : Label = record {
      kind = c.form.inside.kind;
      name = c.form.inside.name;
      value = c.form.inside.value;
      attributes = c.form.inside.attributes;
    } in
    let turn = number_turn c.loop-form.trees.items label (nodes_of c.form.inside.children.items) (nodes_of c.in_ok-children.children.items)
    (nodes_of later) (nodes_of c.args.forms.items) c.args.first c.loop-form.next c.in_ok-children.after so_far number.0 number.1 in (
      tt,
      tt,
      c.loop-form.invariant.2,
      omega (arith, count, number.1, c.loop-form.invariant.3),
      rw push.items (turn),
      omega
          (arith, count, c.loop-form.invariant.5),
    )

pub returns : goal.returns
returns t c =
    let rest = c.loop-form.form-iterator.rest in
    let empty = sym rest.ok.0 ∙ (c.in-None.ensures {u = tt}).steps.0 in (
      number_end c.loop-form.trees.items rest.items
          (nodes_of c.args.forms.items) c.args.first c.loop-form.next empty c.loop-form.invariant.4,
      count_end rest.items c.loop-form.next _
          empty c.loop-form.invariant.3,
    )
