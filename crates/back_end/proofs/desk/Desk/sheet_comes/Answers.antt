-- A sheet that fits comes last, and is told.
use Rattle.std.proofs.Common.{◌++◌, refl, ap, ◌∙◌}
use Rattle.cdp_messages.specs.Events.{News, news_of}
use Rattle.cdp_messages.specs.Replies.{message_frames}
use Rattle.css_agent.specs.Told.{event_messages}
use Rattle.style_edits.specs.Edits.{new_sheet}
use Rattle.back_end.specs.Sheets.{NumberedBook}
use Rattle.back_end.proofs.ScriptLemmas.{in_any}
use Rattle.back_end.proofs.SheetSeats.{came-stands, came-sent, last-is}
use Rattle.back_end.proofs.SeatLemmas.{on_ok}
use Rattle.back_end.proofs.GuestSheets.{came-hears}
use Rattle.back_end.proofs.desk.Desk.sheet_comes.Goals as goal

pub returns-clause-stands : goal.returns-clause-stands
returns-clause-stands c = λ state stands utf8.
    in_any c.tell_guest.result _
    (came-stands c.args.self.now c.args.side.now
    (record {
      page = c.args.side.now.page;
      sheets = c.add.new.self;
    }) state c.args.origin c.args.text.now stands utf8 c.requires.fits refl
    (c.in-Ok.ensures {u = tt}).last)

pub returns-clause-sent : goal.returns-clause-sent
returns-clause-sent c = λ state stands.
    let e = new_sheet c.args.side.now.sheets.next c.args.origin c.args.text.now in
    let event_is = c.last_added-event.ensures e (last-is c.book.result.now c.args.side.now.sheets.entries e
    (c.book.ensures ∙ ap (λ (b : NumberedBook). b.entries) (c.in-Ok.ensures {u = tt}).last)) in
    in_any c.tell_guest.result _
    (came-sent c.args.self.now c.args.side.now state c.args.origin c.args.text.now c.args.out.now.items c.tell.new.out.items stands
    ((c.in_ok-tell.ensures {u = tt}).sent
    ∙ ap (λ (n : News). c.args.out.now.items ++ message_frames (event_messages c.args.self.now.css n)) event_is))

pub returns-clause-told : goal.returns-clause-told
returns-clause-told c = λ other stands utf8.
    let e = new_sheet c.args.side.now.sheets.next c.args.origin c.args.text.now in
    let event_is = c.last_added-event.ensures e (last-is c.book.result.now c.args.side.now.sheets.entries e
    (c.book.ensures ∙ ap (λ (b : NumberedBook). b.entries) (c.in-Ok.ensures {u = tt}).last)) in
    on_ok c.tell_guest.result _ _ c.tell_guest.ensures
    (came-hears c.args.guest.now c.tell_guest.new.guest c.args.side.now
    (record {
      page = c.args.side.now.page;
      sheets = c.add.new.self;
    }) other c.args.origin c.args.text.now (news_of c.last_added-event.result) stands utf8 c.requires.fits refl
    (c.in-Ok.ensures {u = tt}).last event_is)
