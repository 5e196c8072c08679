-- What is left asks for the same last, or else what is passed did.
use Rattle.std.proofs.Common.{◌≡◌, drop, map}
use Rattle.std.specs.Option.{option_map, option_or}
use Rattle.selectors.specs.Forms.{simple_seen}
use Rattle.sheet_reader.specs.Filings.{last_filing, filing_digest}
use Rattle.sheet_reader.proofs.filings.last_digest.Given as goal

abbrev pub invariant-loop-simple : goal.invariant-loop-simple
invariant-loop-simple l = option_or (option_map filing_digest (last_filing (map simple_seen (drop l.simple-index l.tests)))) l.last
    ≡ option_map filing_digest (last_filing (map simple_seen l.tests))
