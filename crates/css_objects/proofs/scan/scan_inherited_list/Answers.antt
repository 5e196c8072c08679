use Rattle.css_objects.specs.Rules.{inherited_kind}
use Rattle.cdp_json.proofs.TakenTokens.{list_none, list_more}
use Rattle.css_objects.proofs.TakenParts.{fewer_left, listed_read, listed_fits}
use Rattle.css_objects.proofs.scan.scan_inherited_list.Goals as goal

pub items-init : goal.items-init
items-init c = list_none c.new-list.ensures.items c.in_ok-take_begin_array.ensures

pub items-preserved : goal.items-preserved
items-preserved c = list_more c.items.invariant c.items-test.ensures.1 c.in_ok-item.ensures.read c.in_ok-item.ensures.fits
    c.in_ok-push.ensures.items

pub items-smaller : goal.items-smaller
items-smaller c = fewer_left (inherited_kind.spell c.in_ok-item.item) _ c.items-test.ensures.1 c.in_ok-item.ensures.read

pub returns-clause-read : goal.returns-clause-read
returns-clause-read c = listed_read c.new-listed.ensures c.items.invariant c.items-test.ensures

pub returns-clause-fits : goal.returns-clause-fits
returns-clause-fits c = listed_fits c.new-listed.ensures c.items.invariant
