-- The lines at and below the node, in place of its own.
use Rattle.std.proofs.Common.{sym, subst, ◌∙◌}
use Rattle.front_mirror.specs.Shown.{known_at}
use Rattle.front_mirror.specs.Walks.{walk_in}
use Rattle.panels.specs.Lines.{outline_line}
use Rattle.panels.proofs.SpliceLemmas.{LinesTurn, lines_opened}
use Rattle.panels.proofs.OutlineLemmas.{text_turned, level_there, shown_known}
use Rattle.panels.proofs.outline.open.Goals as goal

pub returns : goal.returns
returns c = λ before t was.
    let n = c.args.mirror.now in
    let l = level_there c.args.node n t.is (shown_known c.args.node n c.known.result c.known.ensures c.if-not-known.false) in
    text_turned c.splice.result c.rank.result 1 c.args.text.now c.splice.new.self c.as_str.result.now
    c.splice.ensures before n t.was t.turns.at (walk_in outline_line l.0 (known_at c.args.node n))
    (c.as_str.ensures.value ∙ c.in_ok-more.ensures l.0 l.1)
    (subst (λ p. LinesTurn p 1 (walk_in outline_line l.0 (known_at c.args.node n)) before n) (sym c.rank.ensures)
    (lines_opened c.args.node before n t.was t.is t.turns l.0 l.1)) was
