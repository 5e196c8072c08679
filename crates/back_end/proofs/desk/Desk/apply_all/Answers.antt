-- One edit more, or all.
use Rattle.std.proofs.Common.{rules, ◌∙◌, sym}
use Rattle.back_end.proofs.GuestUndo.{heard-begin, heard-next, heard-turn, heard-end}
use Rattle.back_end.proofs.UndoSeats.{Turned, way-begin, way-next, way-ids, way-turn, way-end}
use Rattle.back_end.proofs.desk.Desk.apply_all.Goals as goal

pub loop-edit-init : goal.loop-edit-init
loop-edit-init c = (
  tt,
  tt,
  way-begin c.args.edits.items c.into_iter-edit-iterator.result.rest.items c.new-backs.result.items
      c.args.self.now c.args.side.now c.args.out.now.items (search rules) c.new-backs.ensures.items c.requires.taken,
  heard-begin c.args.edits.items c.into_iter-edit-iterator.result.rest.items c.args.guest.now c.args.side.now (search rules)
      c.requires.can_hear c.requires.serials c.requires.sheets,
)

pub apply_kept-requires-clause-taken : goal.apply_kept-requires-clause-taken
apply_kept-requires-clause-taken c =
    way-next c.args.edits.items c.loop-edit.edit-iterator.rest.items c.next.new.self.rest.items c.in-Some.edit c.args.self.now
    c.loop-edit.self c.args.side.now c.loop-edit.side c.loop-edit.backs.items
    c.args.out.now.items c.loop-edit.out.items (c.in-Some.ensures {u = tt}).steps.0 c.loop-edit.invariant.2

pub apply_kept-requires-clause-ids : goal.apply_kept-requires-clause-ids
apply_kept-requires-clause-ids c =
    way-ids c.args.edits.items c.loop-edit.edit-iterator.rest.items c.args.self.now c.loop-edit.self c.args.side.now c.loop-edit.side
    c.loop-edit.backs.items
    c.args.out.now.items c.loop-edit.out.items c.loop-edit.invariant.2 c.requires.ids

pub apply_kept-requires-clause-can_hear : goal.apply_kept-requires-clause-can_hear
apply_kept-requires-clause-can_hear c =
    heard-next c.args.edits.items c.loop-edit.edit-iterator.rest.items c.next.new.self.rest.items c.in-Some.edit c.args.guest.now
    c.loop-edit.guest c.args.side.now c.loop-edit.side (c.in-Some.ensures {u = tt}).steps.0 c.loop-edit.invariant.3

pub loop-edit-preserved : goal.loop-edit-preserved
loop-edit-preserved c =
    let turned : Turned c.in-Some.edit c.in_ok-back.back c.loop-edit.self c.apply_kept.new.self c.loop-edit.side c.apply_kept.new.side
    c.loop-edit.out.items c.apply_kept.new.out.items = record {
      few = c.in_ok-back.ensures.few;
      saved = c.in_ok-back.ensures.saved;
      next = c.in_ok-back.ensures.next;
      numbers = c.in_ok-back.ensures.numbers;
      back_is = c.in_ok-back.ensures.back;
      stands = c.in_ok-back.ensures.stands;
      sent = c.in_ok-back.ensures.sent;
    } in (
      tt,
      tt,
      way-turn c.args.edits.items c.loop-edit.edit-iterator.rest.items c.next.new.self.rest.items c.in-Some.edit c.args.self.now
          c.loop-edit.self c.apply_kept.new.self c.args.side.now c.loop-edit.side
          c.apply_kept.new.side c.loop-edit.backs.items c.push.new.self.items c.in_ok-back.back c.args.out.now.items c.loop-edit.out.items
          c.apply_kept.new.out.items (c.in-Some.ensures {u = tt}).steps.0
          c.loop-edit.invariant.2 turned (c.in_ok-push.ensures {u = tt}).items,
      heard-turn c.args.edits.items c.loop-edit.edit-iterator.rest.items c.next.new.self.rest.items c.in-Some.edit c.in_ok-back.back
          c.args.guest.now c.loop-edit.guest c.apply_kept.new.guest c.loop-edit.self c.apply_kept.new.self c.args.side.now c.loop-edit.side
          c.apply_kept.new.side c.loop-edit.out.items c.apply_kept.new.out.items (c.in-Some.ensures {u = tt}).steps.0
          c.loop-edit.invariant.3
          (way-next c.args.edits.items c.loop-edit.edit-iterator.rest.items c.next.new.self.rest.items c.in-Some.edit c.args.self.now
          c.loop-edit.self c.args.side.now c.loop-edit.side c.loop-edit.backs.items
          c.args.out.now.items c.loop-edit.out.items (c.in-Some.ensures {u = tt}).steps.0 c.loop-edit.invariant.2)
          turned c.in_ok-back.ensures.told,
    )

pub returns-clause-saved : goal.returns-clause-saved
returns-clause-saved c =
    (way-end c.args.edits.items c.loop-edit.edit-iterator.rest.items c.args.self.now c.loop-edit.self c.args.side.now c.loop-edit.side
    c.loop-edit.backs.items c.args.out.now.items c.loop-edit.out.items
    (sym c.loop-edit.edit-iterator.rest.ok.0 ∙ (c.in-None.ensures {u = tt}).steps.0) c.loop-edit.invariant.2).saved

pub returns-clause-next : goal.returns-clause-next
returns-clause-next c = c.loop-edit.invariant.2.next

pub returns-clause-backs : goal.returns-clause-backs
returns-clause-backs c =
    (way-end c.args.edits.items c.loop-edit.edit-iterator.rest.items c.args.self.now c.loop-edit.self c.args.side.now c.loop-edit.side
    c.loop-edit.backs.items c.args.out.now.items c.loop-edit.out.items
    (sym c.loop-edit.edit-iterator.rest.ok.0 ∙ (c.in-None.ensures {u = tt}).steps.0) c.loop-edit.invariant.2).backs_are

pub returns-clause-stands : goal.returns-clause-stands
returns-clause-stands c =
    (way-end c.args.edits.items c.loop-edit.edit-iterator.rest.items c.args.self.now c.loop-edit.self c.args.side.now c.loop-edit.side
    c.loop-edit.backs.items c.args.out.now.items c.loop-edit.out.items
    (sym c.loop-edit.edit-iterator.rest.ok.0 ∙ (c.in-None.ensures {u = tt}).steps.0) c.loop-edit.invariant.2).stands

pub returns-clause-sent : goal.returns-clause-sent
returns-clause-sent c =
    (way-end c.args.edits.items c.loop-edit.edit-iterator.rest.items c.args.self.now c.loop-edit.self c.args.side.now c.loop-edit.side
    c.loop-edit.backs.items c.args.out.now.items c.loop-edit.out.items
    (sym c.loop-edit.edit-iterator.rest.ok.0 ∙ (c.in-None.ensures {u = tt}).steps.0) c.loop-edit.invariant.2).sent

pub returns-clause-told : goal.returns-clause-told
returns-clause-told c = λ other stands takes.
    heard-end c.args.edits.items c.loop-edit.edit-iterator.rest.items c.args.guest.now c.loop-edit.guest c.args.side.now c.loop-edit.side
    (sym c.loop-edit.edit-iterator.rest.ok.0 ∙ (c.in-None.ensures {u = tt}).steps.0) c.loop-edit.invariant.3 other stands takes
