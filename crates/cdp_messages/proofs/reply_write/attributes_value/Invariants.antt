-- What is listed so far, and then the attributes that are left.
use Rattle.std.proofs.Common.{◌≡◌, ◌++◌, map}
use Rattle.serde_json.specs.View.{view}
use Rattle.serde_json.specs.Data.{string}
use Rattle.dom_objects.specs.NodeObject.{flat}
use Rattle.cdp_messages.proofs.reply_write.attributes_value.Given as goal

abbrev pub invariant-loop-pair : goal.invariant-loop-pair
invariant-loop-pair l = map view l.list.items ++ map string (flat l.pair-iterator) ≡ map string (flat l.attributes)
