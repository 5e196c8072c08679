use Rattle.sheet_reader.proofs.ListCuts.{prelude_reads, prelude_spells, whole_spells, whole_reads}
use Rattle.sheet_laws.proofs.RuleCuts.{rules_have_preludes, rule_dropped}
use Rattle.sheet_laws.proofs.laws.prelude_law.Goals as goal

pub returns : goal.returns
returns c = record {
  read = prelude_reads;
  spelled = prelude_spells;
  rules = rules_have_preludes;
  dropped = rule_dropped;
  whole = whole_spells;
  whole_only = whole_reads;
}
