use Rattle.number_map.proofs.PlaceLemmas.{held, seats-without}
use Rattle.number_map.proofs.long_lists.unseat.Goals as goal

pub returns-in-Some : goal.returns-in-Some
returns-in-Some c ks has =
    seats-without c.in-Some.seated _ ks c.args.number (held _ _ _ c.in-Some.is has)
    (c.remove.ensures.left)
