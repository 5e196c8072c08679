use Rattle.std.proofs.Common.{length}
use Rattle.css_objects.specs.Selectors.{selector_kind}
use Rattle.cdp_json.proofs.TakenTokens.{ListTaken}
use Rattle.css_objects.proofs.scan.scan_selector_list.Given as goal

abbrev pub invariant-items : goal.invariant-items
invariant-items l = ListTaken selector_kind l.fn.reader l.list.items l.reader

abbrev pub decreases-items : goal.decreases-items
decreases-items l = length l.reader
