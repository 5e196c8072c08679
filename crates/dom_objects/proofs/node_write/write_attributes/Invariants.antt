-- What is written so far, and then the attributes that are left.
use Rattle.std.proofs.Common.{◌≡◌, [], ◌∷◌, ◌++◌}
use Rattle.std.specs.Prelude.{flat_map}
use Rattle.json.specs.Token.{begin_array}
use Rattle.dom_objects.proofs.TokenLists.{pair_tokens}
use Rattle.dom_objects.proofs.node_write.write_attributes.Given as goal

abbrev pub invariant-loop-pair : goal.invariant-loop-pair
invariant-loop-pair l = record {
  tokens : l.out.tokens ++ flat_map pair_tokens l.pair-iterator
      ≡ (l.fn.out.tokens ++ begin_array ∷ []) ++ flat_map pair_tokens l.attributes;
  before : l.out.before ≡ l.fn.out.before;
}
