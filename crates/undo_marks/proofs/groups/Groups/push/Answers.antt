use Rattle.std.proofs.Common.{◌≡◌, ◌∷◌, ap, ◌∙◌, arith}
use Rattle.undo_marks.specs.Marks.{entry_count}
use Rattle.undo_marks.specs.Groups.{groups_in}
use Rattle.undo_marks.proofs.GroupLemmas.{groups_in-push, entries-few}
use Rattle.undo_marks.proofs.groups.Groups.push.Goals as goal

pub overflow_add-count : goal.overflow_add-count
overflow_add-count c = omega
    (arith, c.self.invariant, entries-few c.self.inside.groups.items, c.self.inside.groups.ok, c.len.ensures, c.args.group.ok)

pub invariant_of-self-2 : goal.invariant_of-self-2
invariant_of-self-2 c =
    let e : groups_in c.push.new.self.items
    ≡ c.args.group.items ∷ groups_in c.self.inside.groups.items = ap groups_in c.in_ok-push.ensures.items ∙ groups_in-push
    c.self.inside.groups.items c.args.group in
    omega (arith, ap entry_count e, c.args.group.ok, c.len.ensures, c.self.invariant)

pub returns-clause-ok : goal.returns-clause-ok
returns-clause-ok c = ap groups_in c.in_ok-push.ensures.items ∙ groups_in-push c.self.inside.groups.items c.args.group ∙ ap
    (λ gs. c.args.group.items ∷ gs) c.self.view_is
