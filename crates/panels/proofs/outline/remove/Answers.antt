-- No line in place of those of the child.
use Rattle.std.proofs.Common.{refl, sym, subst, []}
use Rattle.panels.proofs.SpliceLemmas.{LinesTurn, lines_removed}
use Rattle.panels.proofs.OutlineLemmas.{text_turned}
use Rattle.panels.proofs.outline.remove.Goals as goal

pub returns : goal.returns
returns c = λ before t was.
    let n = c.args.mirror.now in
    text_turned c.splice.result c.in-Some.start c.args.known c.args.text.now c.splice.new.self []
    c.splice.ensures before n t.was t.turns.at [] refl
    (subst (λ p. LinesTurn p c.args.known [] before n) (sym c.in-Some.ensures)
    (lines_removed c.args.node c.args.parent before n t.was t.is c.args.place c.args.known t.turns)) was
