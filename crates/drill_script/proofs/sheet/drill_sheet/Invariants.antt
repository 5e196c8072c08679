use Rattle.std.proofs.Common.{◌≡◌, ◌-◌, ◌++◌}
use Rattle.std.specs.Prelude.{string_bytes}
use Rattle.drill_script.specs.DrillPages.{rule_lines, all_rules}
use Rattle.drill_script.proofs.sheet.drill_sheet.Given as goal

abbrev pub invariant-loop-r : goal.invariant-loop-r
invariant-loop-r l = string_bytes l.text ++ rule_lines (all_rules - l.r) l.r ≡ rule_lines all_rules 0
