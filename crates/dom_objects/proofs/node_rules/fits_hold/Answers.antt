use Rattle.std.proofs.Common.{sym}
use Rattle.dom_objects.proofs.Rules.{fits_shown-some}
use Rattle.dom_objects.proofs.node_rules.fits_hold.Goals as goal

pub returns-then-container : goal.returns-then-container
returns-then-container c = fits_shown-some c.args.shown c.in-Some.width c.args.container c.args.count (sym c.in-Some.is) c.if-container.true
