use Rattle.std.proofs.Common.{arith}
use Rattle.short_json.proofs.escapes.guessed.Goals as goal

pub loop-plain-smaller : goal.loop-plain-smaller
loop-plain-smaller c =
    omega (arith, c.in-Some.ensures.back_len, c.in-Some-split_at_checked.ensures.back_len, c.in-Some-escape_at.ensures)
