-- A client's edit of sheets is carried out by the CSS agent, while both domains are on, or else refused.
use Rattle.std.proofs.Common.{List, Err, refl, sym, ap, subst, ◌∙◌}
use Rattle.cdp_messages.specs.declared.command.Command.TheVariants as commands
use Rattle.back_end.specs.Sheets.{NumberedBook}
use Rattle.back_end.specs.Outside.{command_outward}
use Rattle.style_edits.specs.declared.splice.Splice.{Splice}
use Rattle.back_end.specs.Guests.{Hears, HearsSplices, heard_step}
use Rattle.back_end.proofs.SeatLemmas.{on_ok}
use Rattle.back_end.proofs.ScriptLemmas.{in_any}
use Rattle.back_end.proofs.SpliceSeats.{restyled-both, restyled-sent, unrestyled-both, unrestyled-sent, why-sent, in_fault}
use Rattle.back_end.proofs.GuestSheets.{restyled-hears, unrestyled-hears}
use Rattle.back_end.proofs.desk.Desk.answer_sheet_edit.Goals as goal

pub returns-in-Err-Fault-clause-stands : goal.returns-in-Err-Fault-clause-stands
returns-in-Err-Fault-clause-stands c = λ state both.
    let is = c.in-Err-Fault.is ∙ ap (λ e. Err e) c.in-Err-Fault.field-0-is in
    in_any c.refuse.result _
    (unrestyled-both c.args.self.now c.args.history.now c.args.side.now
    (record { page = c.args.side.now.page; sheets = c.edit.new.self }) state c.args.id c.args.edit.now c.in-Err-Fault.fault both
    c.requires.on c.requires.css (in_fault c.edit.result c.in-Err-Fault.fault _ is c.edit.ensures.fault) refl
    (in_fault c.edit.result c.in-Err-Fault.fault _ is c.edit.ensures.unchanged))

pub returns-in-Err-Fault-clause-sent : goal.returns-in-Err-Fault-clause-sent
returns-in-Err-Fault-clause-sent c = λ state stands.
    on_ok c.refuse.result _ _ (c.refuse.ensures state)
    (λ sent. let is = c.in-Err-Fault.is ∙ ap (λ e. Err e) c.in-Err-Fault.field-0-is in
    unrestyled-sent c.args.self.now c.args.side.now state c.args.id c.args.edit.now c.in-Err-Fault.fault c.args.out.now.items
    c.refuse.new.out.items stands
    c.requires.on c.requires.css (in_fault c.edit.result c.in-Err-Fault.fault _ is c.edit.ensures.fault)
    (why-sent c.args.id state c.sheet_why.result c.in-Err-Fault.fault c.edit.new.out.items c.args.out.now.items
    c.refuse.new.out.items c.sheet_why.ensures
    (in_fault c.edit.result c.in-Err-Fault.fault _ is c.edit.ensures.unsent) sent))

pub returns-in_ok-tell_guest_splices-in-Ok-clause-stands : goal.returns-in_ok-tell_guest_splices-in-Ok-clause-stands
returns-in_ok-tell_guest_splices-in-Ok-clause-stands c = λ state both.
    on_ok c.note_splices.result _ _ c.note_splices.ensures
    (restyled-both c.args.self.now c.args.history.now c.note_splices.new.history c.args.side.now
    (record { page = c.args.side.now.page; sheets = c.edit.new.self }) state c.args.id c.args.edit.now c.in-Ok.backs.items both
    c.requires.room c.requires.texts c.requires.on c.requires.css c.in-Ok.ensures.done refl c.in-Ok.ensures.next c.in-Ok.ensures.medium)

pub returns-in_ok-tell_guest_splices-in-Ok-clause-sent : goal.returns-in_ok-tell_guest_splices-in-Ok-clause-sent
returns-in_ok-tell_guest_splices-in-Ok-clause-sent c = λ state stands.
    in_any c.note_splices.result _
    (restyled-sent c.args.self.now c.args.side.now state c.args.id c.args.edit.now c.edit.new.self.entries c.in-Ok.backs.items
    c.args.out.now.items c.edit.new.out.items stands
    c.requires.room c.requires.texts c.requires.on c.requires.css c.in-Ok.ensures.done c.in-Ok.ensures.sent)

pub returns-in-Err-Fault-clause-told : goal.returns-in-Err-Fault-clause-told
returns-in-Err-Fault-clause-told c = λ state other first stands.
    let is = c.in-Err-Fault.is ∙ ap (λ e. Err e) c.in-Err-Fault.field-0-is in
    in_any c.refuse.result _
    (subst (λ (b : NumberedBook). Hears c.args.guest.now c.args.guest.now (record { page = c.args.side.now.page; sheets = b })
    (heard_step (command_outward (commands.EditCss c.args.edit.now) state) other))
    (sym (in_fault c.edit.result c.in-Err-Fault.fault _ is c.edit.ensures.unchanged))
    (unrestyled-hears c.args.guest.now c.args.self.now c.args.side.now state other c.args.edit.now c.in-Err-Fault.fault first stands
    c.requires.on c.requires.css (in_fault c.edit.result c.in-Err-Fault.fault _ is c.edit.ensures.fault)))

pub returns-in_ok-tell_guest_splices-in-Ok-clause-told : goal.returns-in_ok-tell_guest_splices-in-Ok-clause-told
returns-in_ok-tell_guest_splices-in-Ok-clause-told c = λ state other first stands.
    in_any c.note_splices.result _
    (restyled-hears c.args.guest.now c.tell_guest_splices.new.guest c.args.self.now c.args.side.now
    (record { page = c.args.side.now.page; sheets = c.edit.new.self }) state other c.args.edit.now c.in-Ok.backs.items first stands
    c.requires.room.sheets c.requires.texts c.requires.on c.requires.css c.in-Ok.ensures.done refl c.in-Ok.ensures.next
    c.in-Ok.ensures.medium
    (subst (λ (backs : List Splice). HearsSplices c.args.guest.now c.tell_guest_splices.new.guest backs) c.as_slice.ensures.value
    (c.in_ok-tell_guest_splices-in-Ok.ensures {u = tt})))
