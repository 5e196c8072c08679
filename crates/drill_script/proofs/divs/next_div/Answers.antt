use Rattle.std.proofs.Common.{◌<◌, length, sym, subst, rules}
use Rattle.drill_script.proofs.DrawLemmas.{drawn-below}
use Rattle.drill_script.proofs.DivLemmas.{place-below}
use Rattle.drill_script.proofs.divs.next_div.Goals as goal

pub place-up-requires : goal.place-up-requires
place-up-requires c = subst (λ k. k < length c.args.levels.now) (sym c.draw-j.ensures.drawn)
    (drawn-below c.args.draws.now.at (length c.args.levels.now) c.requires.some)

pub offset_bounds-levels-up : goal.offset_bounds-levels-up
offset_bounds-levels-up c =
    let drawn : c.draw-j.result < length c.args.levels.now = subst (λ k. k < length c.args.levels.now) (sym c.draw-j.ensures.drawn)
    (drawn-below c.args.draws.now.at (length c.args.levels.now) c.requires.some) in
    let h : c.place-up.result < length c.args.levels.now = subst (λ k. k < length c.args.levels.now) (sym c.place-up.ensures)
    (place-below c.args.levels.now c.draw-j.result drawn) in
    search rules

pub bounds-levels-up : goal.bounds-levels-up
bounds-levels-up c = subst (λ k. k < length c.args.levels.now) (sym c.place-up.ensures)
    (place-below c.args.levels.now c.draw-j.result (subst (λ k. k < length c.args.levels.now) (sym c.draw-j.ensures.drawn)
    (drawn-below c.args.draws.now.at (length c.args.levels.now) c.requires.some)))
