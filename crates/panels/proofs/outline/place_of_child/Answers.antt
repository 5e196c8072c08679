use Rattle.std.proofs.Common.{◌+◌, ◌-◌, ap, ◌∙◌, arith}
use Rattle.front_mirror.proofs.ChildLemmas.{child_found, child_known}
use Rattle.panels.proofs.SpliceLemmas.{child_start, first_start}
use Rattle.panels.proofs.OutlineLemmas.{sum_is}
use Rattle.panels.proofs.outline.place_of_child.Goals as goal

pub returns-then-place-eq0 : goal.returns-then-place-eq0
returns-then-place-eq0 c =
    let e = first_start c.args.parent c.args.place c.args.mirror.now c.if-place-eq0.true in
    sum_is c.checked_add.result _ _ _ c.checked_add.ensures (ap (λ x. x + 1) c.rank.ensures ∙ e)

pub rank-requires-2 : goal.rank-requires-2
rank-requires-2 c = record {
  known = child_known c.args.parent c.child_at-sibling.result (c.args.place - 1) c.args.mirror.now
      (child_found c.args.parent c.child_at-sibling.result (c.args.place - 1) c.args.mirror.now c.valid.ensures c.requires.known
      c.child_at-sibling.ensures);
}

pub size-requires : goal.size-requires
size-requires c = record {
  known = child_known c.args.parent c.child_at-sibling.result (c.args.place - 1) c.args.mirror.now
      (child_found c.args.parent c.child_at-sibling.result (c.args.place - 1) c.args.mirror.now c.valid.ensures c.requires.known
      c.child_at-sibling.ensures);
}

pub returns : goal.returns
returns c =
    let e = child_start c.args.parent c.args.place c.args.mirror.now c.valid.ensures c.requires.known c.child_at-sibling.result
    (omega (arith, c.if-place-eq0.false)) c.child_at-sibling.ensures in
    sum_is c.checked_add-2.result _ _ _ c.checked_add-2.ensures ((λ i. c.rank-2.ensures i + c.size.ensures i) ∙ e)
