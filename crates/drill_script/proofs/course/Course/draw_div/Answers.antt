use Rattle.std.proofs.Common.{◌<◌, sym, subst, rules}
use Rattle.drill_script.proofs.LineLaws.{divs-some, divs-few}
use Rattle.drill_script.proofs.DrawLemmas.{drawn-below}
use Rattle.drill_script.proofs.course.Course.draw_div.Goals as goal

pub overflow_add-result : goal.overflow_add-result
overflow_add-result c =
    let few = divs-few c.args.self.now.divs c.requires in
    let drawn : c.draw.result < c.args.self.now.divs = subst (λ k. k < c.args.self.now.divs) (sym c.draw.ensures.drawn)
    (drawn-below c.args.self.now.draws.at c.args.self.now.divs (divs-some c.args.self.now.divs c.requires)) in
    search rules
