-- Where the pairs that are left have such texts, all have.
use Rattle.node_tree.specs.Labels.{PairsHaveUtf8}
use Rattle.page_forms.proofs.valid_texts.pairs_valid.Given as goal

abbrev pub invariant-loop-pair : goal.invariant-loop-pair
invariant-loop-pair l = PairsHaveUtf8 l.pair-iterator → PairsHaveUtf8 l.attributes
