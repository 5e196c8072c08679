-- The declaration at a place.
use Rattle.std.proofs.Common.{[], Option, get_or, ap, ◌∙◌}
use Rattle.cascade_match.specs.declared.winning.Top.{Top}
use Rattle.cascade_match.specs.declared.winning.Ranked.{Ranked}
use Rattle.cascade_match.specs.Tops.{is_at_place}
use Rattle.cascade_match.proofs.TopLemmas.{wins-step}
use Rattle.cascade_match.proofs.winning.winners_of.Goals as goal

pub loop-i-preserved : goal.loop-i-preserved
loop-i-preserved c =
    let d : Ranked = record { name = record { ref_ptr = (0, 0); now = [] }; rank = 0 } in
    let name = (get_or c.args.all.now c.loop-i.i d).name.now in
    wins-step c.args.all.now c.loop-i.i d c.loop-i.won.items c.push.new.self.items c.is_top.result c.loop-i-test.true
    ((c.in_ok-push.ensures {u = tt}).items)
    (c.is_top.ensures ∙ ap (λ (o : Option Top). is_at_place o c.loop-i.i) (c.in_ok-tops.ensures {u = tt} name))
    ∙ c.loop-i.invariant
