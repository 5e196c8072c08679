-- The declaration at a place.
use Rattle.std.proofs.Common.{ℕ, List, [], cond, Some, get_or, ap, ◌∙◌}
use Rattle.std.specs.Str.{bytes_eq}
use Rattle.std.specs.Ordering.{nat_cmp}
use Rattle.std.specs.Cmp.Lexicographic.{slice_cmp}
use Rattle.std.specs.BTreeMap.{get_by}
use Rattle.cascade_match.specs.declared.winning.Top.{Top}
use Rattle.cascade_match.specs.declared.winning.Ranked.{Ranked}
use Rattle.cascade_match.proofs.TopLemmas.{tops-step}
use Rattle.cascade_match.proofs.winning.tops_of.Goals as goal

pub loop-i-preserved : goal.loop-i-preserved
loop-i-preserved c = λ q.
    let d : Ranked = record { name = record { ref_ptr = (0, 0); now = [] }; rank = 0 } in
    let name = (get_or c.args.all.now c.loop-i.i d).name.now in
    tops-step c.args.all.now c.loop-i.i d q (λ (k : List ℕ). get_by (λ w. slice_cmp nat_cmp k w.now) c.loop-i.tops)
    (λ (k : List ℕ). get_by (λ w. slice_cmp nat_cmp k w.now) c.put_top.new.tops) c.copied-best.result c.loop-i-test.true
    (c.copied-best.ensures ∙ c.get.ensures.value)
    (λ k. (c.in_ok-put_top.ensures {u = tt} k) ∙ ap
    (λ (t : Top). cond (bytes_eq name k) (Some t) (get_by (λ w. slice_cmp nat_cmp k w.now) c.loop-i.tops)) c.better.ensures)
    ∙ c.loop-i.invariant q
