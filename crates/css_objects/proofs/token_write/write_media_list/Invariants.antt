use Rattle.std.proofs.Common.{◌≡◌}
use Rattle.css_objects.specs.Media.{media_kind}
use Rattle.cdp_json.proofs.WrittenTokens.{ListBegun}
use Rattle.css_objects.proofs.token_write.write_media_list.Given as goal

abbrev pub invariant-loop-media : goal.invariant-loop-media
invariant-loop-media l = record {
  tokens : ListBegun media_kind l.fn.out.tokens l.out.tokens l.list l.media-index;
  before : l.out.before ≡ l.fn.out.before;
}
