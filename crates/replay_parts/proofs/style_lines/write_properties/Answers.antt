-- Where the marks or the properties end, nothing is left.
use Rattle.std.proofs.Common.{◌++◌, sym, ◌∙◌, ap, append-nil, arith}
use Rattle.replay_parts.proofs.StyleLineLemmas.{properties-end}
use Rattle.replay_parts.proofs.style_lines.write_properties.Goals as goal

pub returns : goal.returns
returns c =
    sym (append-nil c.loop-i.out.items)
    ∙ ap (λ text. c.loop-i.out.items ++ text)
    (sym (properties-end c.args.marks.now c.args.properties.now c.loop-i.i c.min-i-end.result c.min-i-end.ensures
    (omega (arith, c.loop-i-test.false))))
    ∙ c.loop-i.invariant
