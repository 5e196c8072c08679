use Rattle.sheet_laws.proofs.SheetCuts.{rule_spelled, rule_reads, sheet_spelled, sheet_only}
use Rattle.sheet_laws.proofs.laws.reading_law.Goals as goal

pub returns : goal.returns
returns c = record { rule = rule_spelled; rule_only = rule_reads; sheet = sheet_spelled; sheet_only = sheet_only }
