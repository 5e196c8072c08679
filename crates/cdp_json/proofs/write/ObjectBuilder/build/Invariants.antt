use Rattle.std.proofs.Common.{◌≡◌, map}
use Rattle.serde_json.specs.Data.{no_members}
use Rattle.serde_json.specs.View.{members_view}
use Rattle.cdp_json.specs.Builders.{written}
use Rattle.cdp_json.specs.Writes.{put_all}
use Rattle.cdp_json.proofs.write.ObjectBuilder.build.Given as goal

abbrev pub invariant-loop-name : goal.invariant-loop-name
invariant-loop-name l = members_view l.members.entries ≡ put_all (map written l.yielded) no_members
