-- One line more.
use Rattle.std.proofs.Common.{sym, subst, ◌∙◌, ◌∷◌, [], append-nil}
use Rattle.front_mirror.specs.Shown.{known_at}
use Rattle.panels.specs.Lines.{outline_line}
use Rattle.panels.proofs.SpliceLemmas.{LinesTurn, lines_inserted}
use Rattle.panels.proofs.OutlineLemmas.{text_turned}
use Rattle.panels.proofs.outline.insert.Goals as goal

pub returns : goal.returns
returns c = λ before t was.
    let n = c.args.mirror.now in
    let line = outline_line c.level.result (known_at c.args.node n).row in
    text_turned c.splice.result c.rank.result 0 c.args.text.now c.splice.new.self c.as_str.result.now
    c.splice.ensures before n t.was t.turns.at (line ∷ [])
    (c.as_str.ensures ∙ c.in_ok-line.ensures ∙ sym (append-nil line))
    (subst (λ p. LinesTurn p 0 (line ∷ []) before n) (sym c.rank.ensures)
    (lines_inserted c.args.node c.args.parent before n t.was t.is t.turns c.level.result c.level.ensures.level)) was
