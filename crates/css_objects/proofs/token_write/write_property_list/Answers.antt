use Rattle.std.proofs.Common.{◌∙◌}
use Rattle.css_objects.specs.Styles.{property_kind}
use Rattle.cdp_json.proofs.WrittenTokens.{list_begun, list_turn, list_end}
use Rattle.css_objects.proofs.token_write.write_property_list.Goals as goal

pub loop-property-init : goal.loop-property-init
loop-property-init c = record {
  tokens = list_begun property_kind c.args.out.now.tokens _ c.args.properties.now c.in_ok-begin_array.ensures.ok;
  before = c.in_ok-begin_array.ensures.room.0;
}

pub loop-property-preserved : goal.loop-property-preserved
loop-property-preserved c = record {
  tokens = list_turn c.loop-property.invariant.tokens c.loop-property-test.true c.property-item.is c.in_ok-write_property.ensures.ok;
  before = c.in_ok-write_property.ensures.before ∙ c.loop-property.invariant.before;
}

pub returns-clause-ok : goal.returns-clause-ok
returns-clause-ok c = list_end c.loop-property.invariant.tokens c.loop-property-test.false c.in_ok-end_array.ensures.ok
