use Rattle.std.proofs.Common.{◌∙◌}
use Rattle.css_objects.specs.Rules.{inherited_kind}
use Rattle.cdp_json.proofs.WrittenTokens.{list_begun, list_turn, list_end}
use Rattle.css_objects.proofs.token_write.write_inherited_list.Goals as goal

pub loop-entry-init : goal.loop-entry-init
loop-entry-init c = record {
  tokens = list_begun inherited_kind c.args.out.now.tokens _ c.args.entries.now c.in_ok-begin_array.ensures.ok;
  before = c.in_ok-begin_array.ensures.room.0;
}

pub loop-entry-preserved : goal.loop-entry-preserved
loop-entry-preserved c = record {
  tokens = list_turn c.loop-entry.invariant.tokens c.loop-entry-test.true c.entry-item.is c.in_ok-write_inherited.ensures.ok;
  before = c.in_ok-write_inherited.ensures.before ∙ c.loop-entry.invariant.before;
}

pub returns-clause-ok : goal.returns-clause-ok
returns-clause-ok c = list_end c.loop-entry.invariant.tokens c.loop-entry-test.false c.in_ok-end_array.ensures.ok
