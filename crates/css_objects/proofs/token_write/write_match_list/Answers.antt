use Rattle.std.proofs.Common.{◌∙◌}
use Rattle.css_objects.specs.Rules.{match_kind}
use Rattle.cdp_json.proofs.WrittenTokens.{list_begun, list_turn, list_end}
use Rattle.css_objects.proofs.token_write.write_match_list.Goals as goal

pub loop-found-init : goal.loop-found-init
loop-found-init c = record {
  tokens = list_begun match_kind c.args.out.now.tokens _ c.args.matches.now c.in_ok-begin_array.ensures.ok;
  before = c.in_ok-begin_array.ensures.room.0;
}

pub loop-found-preserved : goal.loop-found-preserved
loop-found-preserved c = record {
  tokens = list_turn c.loop-found.invariant.tokens c.loop-found-test.true c.found-item.is c.in_ok-write_match.ensures.ok;
  before = c.in_ok-write_match.ensures.before ∙ c.loop-found.invariant.before;
}

pub returns-clause-ok : goal.returns-clause-ok
returns-clause-ok c = list_end c.loop-found.invariant.tokens c.loop-found-test.false c.in_ok-end_array.ensures.ok
