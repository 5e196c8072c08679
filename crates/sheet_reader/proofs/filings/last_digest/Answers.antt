-- The test at a place.
use Rattle.std.proofs.Common.{◌∙◌}
use Rattle.sheet_reader.proofs.FilingForms.{last-step}
use Rattle.sheet_reader.proofs.filings.last_digest.Goals as goal

pub loop-simple-preserved : goal.loop-simple-preserved
loop-simple-preserved c =
    last-step c.args.tests.now c.loop-simple.simple-index c.simple-item.result c.loop-simple.last c.simple_digest.result
    c.later-last.result c.loop-simple-test.true c.simple-item.is c.simple_digest.ensures c.later-last.ensures
    ∙ c.loop-simple.invariant
