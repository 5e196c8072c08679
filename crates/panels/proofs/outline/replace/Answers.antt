-- Another line in place of the node's.
use Rattle.std.proofs.Common.{sym, subst, ◌∙◌, ◌∷◌, [], append-nil}
use Rattle.front_mirror.specs.Shown.{known_at}
use Rattle.panels.specs.Lines.{outline_line}
use Rattle.panels.proofs.SpliceLemmas.{LinesTurn, lines_changed}
use Rattle.panels.proofs.OutlineLemmas.{text_turned}
use Rattle.panels.proofs.outline.replace.Goals as goal

pub returns : goal.returns
returns c = λ before t was.
    let n = c.args.mirror.now in
    let line = outline_line c.level.result (known_at c.args.node n).row in
    text_turned c.splice.result c.rank.result 1 c.args.text.now c.splice.new.self c.as_str.result.now
    c.splice.ensures before n t.was t.turns.at (line ∷ [])
    (c.as_str.ensures ∙ c.in_ok-line.ensures ∙ sym (append-nil line))
    (subst (λ p. LinesTurn p 1 (line ∷ []) before n) (sym c.rank.ensures)
    (lines_changed c.args.node before n t.was t.is t.turns c.level.result c.level.ensures.level)) was
