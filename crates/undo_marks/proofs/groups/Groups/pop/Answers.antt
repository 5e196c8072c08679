use Rattle.std.proofs.Common.{◌≡◌, ◌∷◌, ap, sym, ◌∙◌, arith}
use Rattle.undo_marks.specs.Marks.{entry_count, newest, older}
use Rattle.undo_marks.specs.Groups.{groups_in}
use Rattle.undo_marks.proofs.GroupLemmas.{groups_in-push}
use Rattle.undo_marks.proofs.groups.Groups.pop.Goals as goal

pub overflow_sub-self : goal.overflow_sub-self
overflow_sub-self c =
    let e : groups_in c.self.inside.groups.items
    ≡ c.in_ok-group.group.items ∷ groups_in c.pop.new.self.items = ap groups_in c.in_ok-group.ensures.items ∙ groups_in-push
    c.pop.new.self.items c.in_ok-group.group in
    omega (arith, ap entry_count e, c.in_ok-group.group.ok, c.self.invariant)

pub invariant_of-self-2 : goal.invariant_of-self-2
invariant_of-self-2 c =
    let e : groups_in c.self.inside.groups.items
    ≡ c.in_ok-group.group.items ∷ groups_in c.pop.new.self.items = ap groups_in c.in_ok-group.ensures.items ∙ groups_in-push
    c.pop.new.self.items c.in_ok-group.group in
    omega (arith, ap entry_count e, c.in_ok-group.group.ok, c.self.invariant)

pub returns-clause-group : goal.returns-clause-group
returns-clause-group c = sym (ap newest
    (sym c.self.view_is ∙ ap groups_in c.in_ok-group.ensures.items ∙ groups_in-push c.pop.new.self.items c.in_ok-group.group))

pub returns-clause-rest : goal.returns-clause-rest
returns-clause-rest c = sym (ap older
    (sym c.self.view_is ∙ ap groups_in c.in_ok-group.ensures.items ∙ groups_in-push c.pop.new.self.items c.in_ok-group.group))
