use Rattle.std.proofs.Common.{◌≡◌, Bool, true, cond, Some, sym, ap, ◌∙◌, arith}
use Rattle.shown_pages.specs.Modes.{hides, hidden_in}
use Rattle.shown_pages.specs.Walks.{first_shown}
use Rattle.shown_pages.proofs.NearestLemmas.{left_back, left-previous, shown_back, shown-previous}
use Rattle.shown_pages.proofs.readers.nearest_shown.Goals as goal

pub loop-at-init : goal.loop-at-init
loop-at-init c = shown-previous c.args.mode c.args.node.now c.previous_sibling-at.result c.previous_sibling-at.ensures

pub loop-at-smaller : goal.loop-at-smaller
loop-at-smaller c =
    let here = ap left_back c.in-Some.is in
    let next = left-previous c.in-Some.other c.previous_sibling-at-in-Some.result c.previous_sibling-at-in-Some.ensures in
    omega (arith, here, next)

pub loop-at-preserved : goal.loop-at-preserved
loop-at-preserved c =
    let mode = c.args.mode in
    let other = c.in-Some.other in
    let hidden : hidden_in c.args.mode c.in-Some.other.branch.row.label ≡ true =
    sym (c.hides.ensures ∙ (λ i. hides c.args.mode (c.kind.ensures i) (c.value.ensures i))) ∙ c.if-not-hides.false in
    shown-previous mode other c.previous_sibling-at-in-Some.result c.previous_sibling-at-in-Some.ensures
    ∙ sym (ap (λ (h : Bool). cond h (first_shown mode other.before) (Some other.branch.row.serial)) hidden)
    ∙ sym (ap (shown_back mode) c.in-Some.is) ∙ c.loop-at.invariant
