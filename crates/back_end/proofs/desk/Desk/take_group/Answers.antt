-- The group that is handed out is carried out, and what leads back is kept.
use Rattle.std.proofs.Common.{Some, None, sym, ap, ◌∙◌, ◌^◌, length, arith}
use Rattle.undo_marks.specs.Marks.{group_pushed}
use Rattle.back_end.specs.Steps.{taking_command}
use Rattle.back_end.specs.Outside.{command_outward}
use Rattle.back_end.proofs.SeatLemmas.{on_ok}
use Rattle.back_end.proofs.ScriptLemmas.{in_any}
use Rattle.back_end.proofs.UndoSeats.{handed-few, group-taken, group-takes, group-both, group-sent, none-both, nothing-sent, crossed-sent}
use Rattle.back_end.proofs.GuestSteps.{made-hears, unchanged-hears}
use Rattle.back_end.proofs.GuestSeats.{hear-fewer}
use Rattle.back_end.proofs.GuestUndo.{taking-outward}
use Rattle.back_end.proofs.desk.Desk.take_group.Goals as goal

pub apply_all-requires-clause-taken : goal.apply_all-requires-clause-taken
apply_all-requires-clause-taken c =
    group-taken c.args.direction c.args.self.now c.args.history.now c.args.side.now c.into_vec.result.items
    ((c.in-Group.ensures {u = tt}).popped ∙ ap (λ es. Some es) (sym c.into_vec.ensures)) c.requires.standing

pub apply_all-requires-clause-ids : goal.apply_all-requires-clause-ids
apply_all-requires-clause-ids c =
    let few = handed-few c.args.direction c.args.history.now c.into_vec.result.items
    ((c.in-Group.ensures {u = tt}).popped ∙ ap (λ es. Some es) (sym c.into_vec.ensures)) in
    omega (arith, few, c.requires.few, c.requires.room.ids)

pub apply_all-requires-clause-can_hear : goal.apply_all-requires-clause-can_hear
apply_all-requires-clause-can_hear c =
    let few = handed-few c.args.direction c.args.history.now c.into_vec.result.items
    ((c.in-Group.ensures {u = tt}).popped ∙ ap (λ es. Some es) (sym c.into_vec.ensures)) in
    hear-fewer (2 ^ 30) (length c.into_vec.result.items) c.args.guest.now c.args.side.now (omega (arith, few, c.requires.few))
    c.requires.can_hear

pub returns-in_ok-push-in-Group-clause-stands : goal.returns-in_ok-push-in-Group-clause-stands
returns-in_ok-push-in-Group-clause-stands c = λ state both.
    let es = c.into_vec.result.items in
    let out = (c.in-Group.ensures {u = tt}).popped ∙ ap (λ es. Some es) (sym c.into_vec.ensures) in
    in_any c.write_reply.result _
    (group-both c.args.direction c.args.self.now c.args.history.now c.args.side.now state c.args.id both c.requires.on
    c.apply_all.new.self c.push.new.self c.apply_all.new.side es c.in_ok-backs-in-Group.backs.items out
    (c.in_ok-backs-in-Group.ensures.stands state both.stands
    (group-takes c.args.direction c.args.self.now c.args.history.now c.args.side.now state es out both))
    c.in_ok-backs-in-Group.ensures.saved c.in_ok-backs-in-Group.ensures.next c.in_ok-backs-in-Group.ensures.backs
    ((c.in_ok-push-in-Group.ensures {u = tt}).ok
    ∙ ap (group_pushed c.args.direction c.in_ok-backs-in-Group.backs.items) c.pop.ensures.after))

pub returns-in_ok-push-in-Group-clause-sent : goal.returns-in_ok-push-in-Group-clause-sent
returns-in_ok-push-in-Group-clause-sent c = λ state both.
    let es = c.into_vec.result.items in
    let out = (c.in-Group.ensures {u = tt}).popped ∙ ap (λ es. Some es) (sym c.into_vec.ensures) in
    on_ok c.write_reply.result _ _ c.write_reply.ensures.ok
    (group-sent c.args.direction c.args.self.now c.args.history.now c.args.side.now state c.args.id both c.requires.on es
    c.args.out.now.items c.apply_all.new.out.items c.write_reply.new.out.items out
    (c.in_ok-backs-in-Group.ensures.sent state both.stands
    (group-takes c.args.direction c.args.self.now c.args.history.now c.args.side.now state es out both)))

pub returns-in_ok-push-in-Group-clause-told : goal.returns-in_ok-push-in-Group-clause-told
returns-in_ok-push-in-Group-clause-told c = λ state other both stands.
    let es = c.into_vec.result.items in
    let out = (c.in-Group.ensures {u = tt}).popped ∙ ap (λ es. Some es) (sym c.into_vec.ensures) in
    in_any c.write_reply.result _
    (made-hears c.args.guest.now c.apply_all.new.guest c.args.self.now c.args.side.now c.apply_all.new.side state other
    (command_outward (taking_command c.args.direction) state) es both.stands stands
    (taking-outward c.args.direction c.args.self.now c.args.history.now c.args.side.now state (Some es) both c.requires.on out)
    (c.in_ok-backs-in-Group.ensures.told other stands
    (group-takes c.args.direction c.args.self.now c.args.history.now c.args.side.now state es out both)))

pub returns-in-Nothing-clause-stands : goal.returns-in-Nothing-clause-stands
returns-in-Nothing-clause-stands c = λ state both.
    in_any c.write_reply-in-Nothing.result _
    (none-both c.args.direction c.args.self.now c.args.history.now c.args.side.now state c.args.id both c.requires.on
    c.pop.new.self (c.in-Nothing.ensures {u = tt}).popped.0 c.pop.ensures.after)

pub returns-in-Nothing-clause-sent : goal.returns-in-Nothing-clause-sent
returns-in-Nothing-clause-sent c = λ state both.
    let p = (c.in-Nothing.ensures {u = tt}).popped in
    on_ok c.write_reply-in-Nothing.result _ _ c.write_reply-in-Nothing.ensures.ok
    (nothing-sent c.args.direction c.args.self.now c.args.history.now c.args.side.now state c.args.id both c.requires.on
    c.args.out.now.items c.write_reply-in-Nothing.new.out.items p.0 p.1)

pub returns-in-Nothing-clause-told : goal.returns-in-Nothing-clause-told
returns-in-Nothing-clause-told c = λ state other both stands.
    in_any c.write_reply-in-Nothing.result _
    (unchanged-hears c.args.guest.now c.args.self.now c.args.side.now state other (command_outward (taking_command c.args.direction) state)
    both.stands stands
    (taking-outward c.args.direction c.args.self.now c.args.history.now c.args.side.now state None both c.requires.on
    (c.in-Nothing.ensures {u = tt}).popped.0))

pub returns-in-Crossed-clause-stands : goal.returns-in-Crossed-clause-stands
returns-in-Crossed-clause-stands c = λ state both.
    in_any c.refuse.result _
    (none-both c.args.direction c.args.self.now c.args.history.now c.args.side.now state c.args.id both c.requires.on
    c.pop.new.self (c.in-Crossed.ensures {u = tt}).popped.0 c.pop.ensures.after)

pub returns-in-Crossed-clause-sent : goal.returns-in-Crossed-clause-sent
returns-in-Crossed-clause-sent c = λ state both.
    let p = (c.in-Crossed.ensures {u = tt}).popped in
    on_ok c.refuse.result _ _ (c.refuse.ensures state)
    (crossed-sent c.args.direction c.args.self.now c.args.history.now c.args.side.now state c.args.id both c.requires.on
    c.args.out.now.items c.refuse.new.out.items p.0 p.1)

pub returns-in-Crossed-clause-told : goal.returns-in-Crossed-clause-told
returns-in-Crossed-clause-told c = λ state other both stands.
    in_any c.refuse.result _
    (unchanged-hears c.args.guest.now c.args.self.now c.args.side.now state other (command_outward (taking_command c.args.direction) state)
    both.stands stands
    (taking-outward c.args.direction c.args.self.now c.args.history.now c.args.side.now state None both c.requires.on
    (c.in-Crossed.ensures {u = tt}).popped.0))
