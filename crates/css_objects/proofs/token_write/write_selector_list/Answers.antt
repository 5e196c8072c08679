use Rattle.std.proofs.Common.{◌∙◌}
use Rattle.css_objects.specs.Selectors.{selector_kind}
use Rattle.cdp_json.proofs.WrittenTokens.{list_begun, list_turn, list_end}
use Rattle.css_objects.proofs.token_write.write_selector_list.Goals as goal

pub loop-selector-init : goal.loop-selector-init
loop-selector-init c = record {
  tokens = list_begun selector_kind c.args.out.now.tokens _ c.args.selectors.now c.in_ok-begin_array.ensures.ok;
  before = c.in_ok-begin_array.ensures.room.0;
}

pub loop-selector-preserved : goal.loop-selector-preserved
loop-selector-preserved c = record {
  tokens = list_turn c.loop-selector.invariant.tokens c.loop-selector-test.true c.selector-item.is c.in_ok-write_selector.ensures.ok;
  before = c.in_ok-write_selector.ensures.before ∙ c.loop-selector.invariant.before;
}

pub returns-clause-ok : goal.returns-clause-ok
returns-clause-ok c = list_end c.loop-selector.invariant.tokens c.loop-selector-test.false c.in_ok-end_array.ensures.ok
