-- The selector at a place.
use Rattle.std.proofs.Common.{◌∙◌, arith}
use Rattle.selectors.specs.Forms.{selector_seen}
use Rattle.selectors.specs.Lists.{list_seen}
use Rattle.sheet_reader.proofs.FilingForms.{list-init, list-step, list-done}
use Rattle.sheet_reader.proofs.filings.list_digest.Goals as goal

pub loop-i-preserved : goal.loop-i-preserved
loop-i-preserved c =
    list-step (list_seen c.args.selectors.now) c.loop-i.i (selector_seen c.at-in-loop-i.result.now) c.loop-i.number
    c.selector_digest.result c.agreed-number.result c.at-in-loop-i.ensures c.selector_digest.ensures c.agreed-number.ensures
    ∙ c.loop-i.invariant

pub loop-i-init : goal.loop-i-init
loop-i-init c =
    list-init (list_seen c.args.selectors.now) (selector_seen c.at.result.now) c.selector_digest-number.result c.at.ensures
    c.selector_digest-number.ensures

pub returns : goal.returns
returns c =
    list-done (list_seen c.args.selectors.now) c.loop-i.i c.loop-i.number (omega (arith, c.len-i-end.ensures, c.loop-i-test.false))
    ∙ c.loop-i.invariant
