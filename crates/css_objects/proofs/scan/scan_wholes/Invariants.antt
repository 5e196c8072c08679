use Rattle.std.proofs.Common.{length}
use Rattle.cdp_json.specs.Kinds.{whole}
use Rattle.cdp_json.proofs.TakenTokens.{ListTaken}
use Rattle.css_objects.proofs.scan.scan_wholes.Given as goal

abbrev pub invariant-items : goal.invariant-items
invariant-items l = ListTaken whole l.fn.reader l.list.items l.reader

abbrev pub decreases-items : goal.decreases-items
decreases-items l = length l.reader
