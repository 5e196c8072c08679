use Rattle.drill_script.proofs.HangLemmas.{others-stay}
use Rattle.drill_script.proofs.nodes.hang_div.Goals as goal

pub hang-requires : goal.hang-requires
hang-requires c =
    others-stay c.args.hanging.now c.take_last-children.new.self c.args.div.up c.requires
    (λ front last is. (c.take_last-children.ensures front last is).1)
