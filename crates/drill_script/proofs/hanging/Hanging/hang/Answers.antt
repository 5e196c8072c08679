use Rattle.drill_script.proofs.HangLemmas.{hang-is}
use Rattle.drill_script.proofs.hanging.Hanging.hang.Goals as goal

pub returns : goal.returns
returns c =
    hang-is c.self.inside.lists.items c.args.self.now c.args.up c.index_mut-trees.result.now c.push.new.self c.args.form c.requires
    c.self.view_is c.index_mut-trees.ensures.value (c.in_ok-push.ensures {u = tt}).items
