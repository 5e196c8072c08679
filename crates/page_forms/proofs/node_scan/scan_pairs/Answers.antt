use Rattle.std.proofs.Common.{[], ◌∷◌, ◌++◌, sym, ap₂, ◌∙◌}
use Rattle.page_forms.proofs.SpeltLists.{pairs_turn, pairs_end}
use Rattle.page_forms.proofs.node_scan.scan_pairs.Goals as goal

pub pairs-preserved : goal.pairs-preserved
pairs-preserved c =
    pairs_turn c.args.reader.now c.pairs.reader c.take_text.new.reader c.take_text-in-pairs.new.reader c.pairs.pairs.items
    c.push.new.self.items c.in_ok-name.name.now c.in_ok-value.value.now c.pairs.invariant
    (sym c.pairs-test.ensures.1 ∙ c.in_ok-name.ensures) c.in_ok-value.ensures
    (c.in_ok-push.ensures.items ∙ ap₂ (λ n v. c.pairs.pairs.items ++ (n, v) ∷ []) c.in_ok-copied.ensures c.in_ok-copied-2.ensures)

pub returns : goal.returns
returns c = pairs_end c.args.reader.now c.pairs.reader c.take_end_array.new.self c.pairs.pairs.items c.pairs.invariant c.pairs-test.ensures
