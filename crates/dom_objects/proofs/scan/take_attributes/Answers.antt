use Rattle.std.proofs.Common.{sym, ◌∙◌}
use Rattle.dom_objects.proofs.TokenLists.{pair_tokens}
use Rattle.dom_objects.proofs.ScannedTokens.{none_yet, pairs_step, pairs_over, pair_shorter}
use Rattle.dom_objects.proofs.scan.take_attributes.Goals as goal

pub pairs-init : goal.pairs-init
pairs-init c = none_yet pair_tokens c.args.reader.now _ c.new-pairs.result c.new-pairs.ensures c.in_ok-take_begin_array.ensures

pub pairs-preserved : goal.pairs-preserved
pairs-preserved c =
    pairs_step c.args.reader.now _ _ _ c.pairs.pairs c.push.new.self c.in_ok-name.name c.in_ok-value.value c.pairs.invariant
    (sym c.pairs-test.ensures ∙ c.in_ok-name.ensures) c.in_ok-value.ensures
    c.in_ok-push.ensures.ok

pub pairs-smaller : goal.pairs-smaller
pairs-smaller c = pair_shorter _ _ _ _ _ (sym c.pairs-test.ensures ∙ c.in_ok-name.ensures) c.in_ok-value.ensures

pub returns : goal.returns
returns c = pairs_over c.args.reader.now _ _ c.pairs.pairs c.pairs.invariant c.pairs-test.ensures
