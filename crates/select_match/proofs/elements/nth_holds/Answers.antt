-- A place beyond the limit is not reached.
use Rattle.std.proofs.Common.{ℕ, ℤ, sym, ap, ◌∙◌}
use Rattle.std.proofs.lemmas.Int.{to_z-of_z}
use mir.Syntax.{w64}
use mir.Val.{to_z, of_z}
use Rattle.select_match.specs.Elements.{index, is_nth}
use Rattle.select_match.proofs.NthLemmas.{nth-within}
use Rattle.select_match.proofs.elements.nth_holds.Goals as goal

pub returns : goal.returns
returns c =
    let e = c.index_within-place.ensures in
    let step = to_z-of_z w64 c.args.step c.ranges.step in
    let offset = to_z-of_z w64 c.args.offset c.ranges.offset in
    let same = λ (i : ℕ). ap (λ (x : ℤ). is_nth x (to_z w64 (of_z w64 c.args.offset)) i) step ∙ ap
    (λ (x : ℤ). is_nth c.args.step x i) offset in
    c.is_nth.ensures ∙ same c.index_within-place.result
    ∙ nth-within c.args.step c.args.offset c.last_place.result c.index_within-place.result (index c.args.kind c.args.node.now)
    (λ i less few. sym (same i) ∙ c.last_place.ensures i less few) e.within e.beyond e.bound e.few
