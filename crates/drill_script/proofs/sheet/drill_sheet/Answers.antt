use Rattle.std.proofs.Common.{ap, ◌∙◌}
use Rattle.std.specs.Prelude.{string_bytes}
use Rattle.drill_script.proofs.PageLaws.{sheet-of, sheet-end}
use Rattle.drill_script.proofs.sheet.drill_sheet.Goals as goal

pub returns : goal.returns
returns c = ap sheet-of (c.new.ensures ∙ sheet-end (string_bytes c.loop-r.text) c.loop-r.r c.loop-r-test.false c.loop-r.invariant)
