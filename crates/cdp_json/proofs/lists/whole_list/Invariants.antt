use Rattle.std.proofs.Common.{◌≡◌, map, take}
use Rattle.serde_json.specs.View.{view}
use Rattle.cdp_json.specs.Kinds.{whole}
use Rattle.cdp_json.proofs.lists.whole_list.Given as goal

abbrev pub invariant-loop-number : goal.invariant-loop-number
invariant-loop-number l = map view l.items.items ≡ map whole.spell (take l.number-index l.numbers)
