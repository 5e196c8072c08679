-- Above a key without a slot nothing stands.
use Rattle.std.proofs.Common.{◌<◌, ap, sym, ◌∙◌, arith}
use Rattle.std.specs.Option.{option_copied}
use Rattle.page_tree.specs.Arenas.{climbed}
use Rattle.page_tree.proofs.PlaceLemmas.{climbed_lost}
use Rattle.page_tree.proofs.arenas.Arena.+climb.Goals as goal

pub returns-in_default-get-clause-rise : goal.returns-in_default-get-clause-rise
returns-in_default-get-clause-rise t c =
    let some : 0 < c.args.levels = omega (arith, c.if-levels-eq0.false) in
    climbed_lost c.args.self.now c.args.levels c.in-Some.key some (sym c.get.ensures ∙ ap (λ o. option_copied o) c.in_default-get.is) ∙ ap
    (λ o. climbed c.args.self.now c.args.levels o) (sym c.in-Some.is)
