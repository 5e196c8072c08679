-- The digits that are left lead to the same number.
use Rattle.std.proofs.Common.{◌≡◌, drop, fold}
use Rattle.sheet_reader.specs.Filings.{kind_digit, with_digit}
use Rattle.sheet_reader.proofs.filings.name_digest.Given as goal

abbrev pub invariant-loop-byte : goal.invariant-loop-byte
invariant-loop-byte l = fold with_digit l.number (drop l.byte-index l.name) ≡ fold with_digit (kind_digit l.fn.kind) l.name
