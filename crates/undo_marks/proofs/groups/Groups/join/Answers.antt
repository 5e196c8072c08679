use Rattle.std.proofs.Common.{◌∷◌, ◌-◌, [], ap, sym, ◌∙◌, arith, vec_len, refl}
use Rattle.undo_marks.specs.Marks.{entry_count, onto_newest}
use Rattle.undo_marks.proofs.GroupLemmas.{last_set, entry_count-joined, entries-few, on_err}
use Rattle.undo_marks.proofs.groups.Groups.join.Goals as goal

pub overflow_add-count : goal.overflow_add-count
overflow_add-count c = omega (arith, c.self.invariant, entries-few c.self.inside.groups.items, c.self.inside.groups.ok)

pub invariant_of-self-2 : goal.invariant_of-self-2
invariant_of-self-2 c =
    let filled = c.in-Some.ensures.variant.0 refl in
    let l = last_set c.self.inside.groups.items (vec_len c.self.inside.groups - 1) c.in-Some.group.now c.push.new.self
    (omega (arith, c.self.inside.groups.ok)) c.in-Some.ensures.value in
    let more = entry_count-joined c.args.inverse c.in-Some.group.now.items l.rest _ _ l.old
    (l.new ∙ ap (λ g. g ∷ l.rest) c.in_ok-push.ensures.items) in
    omega (arith, c.self.invariant)

pub returns-clause-ok : goal.returns-clause-ok
returns-clause-ok c =
    let filled = c.in-Some.ensures.variant.0 refl in
    let l = last_set c.self.inside.groups.items (vec_len c.self.inside.groups - 1) c.in-Some.group.now c.push.new.self
    (omega (arith, c.self.inside.groups.ok)) c.in-Some.ensures.value in
    l.new ∙ ap (λ g. g ∷ l.rest) c.in_ok-push.ensures.items ∙ sym (ap (onto_newest (c.args.inverse ∷ [])) (sym c.self.view_is ∙ l.old))

pub invariant_of-self-in_err-push : goal.invariant_of-self-in_err-push
invariant_of-self-in_err-push c =
    let filled = c.in-Some.ensures.variant.0 refl in
    let l = last_set c.self.inside.groups.items (vec_len c.self.inside.groups - 1) c.in-Some.group.now c.push.new.self
    (omega (arith, c.self.inside.groups.ok)) c.in-Some.ensures.value in
    c.self.invariant ∙ ap entry_count (l.old ∙ sym (l.new ∙ ap (λ g. g ∷ l.rest) c.in_err-push.ensures.items))

pub returns-in_err-push-clause-err : goal.returns-in_err-push-clause-err
returns-in_err-push-clause-err c =
    let filled = c.in-Some.ensures.variant.0 refl in
    let l = last_set c.self.inside.groups.items (vec_len c.self.inside.groups - 1) c.in-Some.group.now c.push.new.self
    (omega (arith, c.self.inside.groups.ok)) c.in-Some.ensures.value in
    on_err _ _ (l.new ∙ ap (λ g. g ∷ l.rest) c.in_err-push.ensures.items ∙ sym (sym c.self.view_is ∙ l.old))
