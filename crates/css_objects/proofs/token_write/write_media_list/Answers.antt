use Rattle.std.proofs.Common.{◌∙◌}
use Rattle.css_objects.specs.Media.{media_kind}
use Rattle.cdp_json.proofs.WrittenTokens.{list_begun, list_turn, list_end}
use Rattle.css_objects.proofs.token_write.write_media_list.Goals as goal

pub loop-media-init : goal.loop-media-init
loop-media-init c = record {
  tokens = list_begun media_kind c.args.out.now.tokens _ c.args.list.now c.in_ok-begin_array.ensures.ok;
  before = c.in_ok-begin_array.ensures.room.0;
}

pub loop-media-preserved : goal.loop-media-preserved
loop-media-preserved c = record {
  tokens = list_turn c.loop-media.invariant.tokens c.loop-media-test.true c.media-item.is c.in_ok-write_media.ensures.ok;
  before = c.in_ok-write_media.ensures.before ∙ c.loop-media.invariant.before;
}

pub returns-clause-ok : goal.returns-clause-ok
returns-clause-ok c = list_end c.loop-media.invariant.tokens c.loop-media-test.false c.in_ok-end_array.ensures.ok
