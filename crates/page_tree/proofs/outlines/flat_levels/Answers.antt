-- What the outlines come to is what the nodes have.
use Rattle.std.proofs.Common.{◌≡◌, ◌∙◌, sym, map, ap, true, false}
use Rattle.page_tree.specs.FlatRows.{row_of, is_none_left}
use Rattle.page_tree.proofs.OutlineLemmas.{levels-read, levels-none, not_held, not_unheld}
use Rattle.page_tree.proofs.outlines.flat_levels.Goals as goal

pub returns-then-not-is_empty : goal.returns-then-not-is_empty
returns-then-not-is_empty c = levels-none (map row_of c.args.rows.now) c.in_ok-outlines.outlines (c.in_ok-outlines.ensures {u = tt})
    (ap is_none_left (sym c.take_kids-kids.ensures.past) ∙ sym c.is_empty.ensures ∙ c.if-not-is_empty.true)

pub returns-then-not-kids : goal.returns-then-not-kids
returns-then-not-kids c = levels-read (map row_of c.args.rows.now) c.in_ok-outlines.outlines true false c.take_kids-kids.result.levels
    (c.in_ok-outlines.ensures {u = tt})
    (sym c.if-not-is_empty.false ∙ c.is_empty.ensures ∙ ap is_none_left c.take_kids-kids.ensures.past)
    (sym (not_held c.take_kids-kids.result.are_held c.if-not-kids.true) ∙ c.take_kids-kids.ensures.held) c.take_kids-kids.ensures.levels

pub returns : goal.returns
returns c = levels-read (map row_of c.args.rows.now) c.in_ok-outlines.outlines true true c.take_kids-kids.result.levels
    (c.in_ok-outlines.ensures {u = tt})
    (sym c.if-not-is_empty.false ∙ c.is_empty.ensures ∙ ap is_none_left c.take_kids-kids.ensures.past)
    (sym (not_unheld c.take_kids-kids.result.are_held c.if-not-kids.false) ∙ c.take_kids-kids.ensures.held) c.take_kids-kids.ensures.levels
