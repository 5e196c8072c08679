-- The byte behind the operand is a dash.
use Rattle.std.proofs.Common.{◌∙◌}
use Rattle.select_match.proofs.TextLemmas.{no_dash, dash}
use Rattle.select_match.proofs.texts.is_dashed.Goals as goal

pub returns-then-value-operand-ne45 : goal.returns-then-value-operand-ne45
returns-then-value-operand-ne45 c = no_dash c.args.operand.now c.args.value.now c.if-value-operand.false c.if-value-operand-ne45.true

pub returns : goal.returns
returns c = c.starts_with.ensures.value ∙ dash c.args.operand.now c.args.value.now c.if-value-operand.false c.if-value-operand-ne45.false
