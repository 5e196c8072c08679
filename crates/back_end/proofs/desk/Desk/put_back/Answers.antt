-- A splice that the page takes is made, and told.
use Rattle.std.proofs.Common.{◌++◌, refl}
use Rattle.cdp_messages.specs.Events.{sheet_changed}
use Rattle.back_end.specs.Steps.{splice_step}
use Rattle.back_end.specs.Guests.{sheet_news}
use Rattle.back_end.proofs.UndoSeats.{put-stands, put-sent}
use Rattle.back_end.proofs.GuestSeats.{told-hears}
use Rattle.back_end.proofs.desk.Desk.put_back.Goals as goal

pub returns-clause-stands : goal.returns-clause-stands
returns-clause-stands c = λ state stands takes.
    put-stands c.args.self.now c.args.side.now
    (record {
      page = c.args.side.now.page;
      sheets = c.put_back.new.self;
    }) state c.args.splice stands takes refl c.in_ok-back.ensures.done

pub returns-clause-sent : goal.returns-clause-sent
returns-clause-sent c = λ state stands.
    put-sent c.args.self.now c.args.side.now state c.args.splice c.args.out.now.items c.tell.new.out.items stands
    (c.in_ok-tell.ensures {u = tt}).sent

pub returns-clause-told : goal.returns-clause-told
returns-clause-told c = λ other stands takes.
    told-hears c.args.guest.now c.tell_guest.new.guest (sheet_news (sheet_changed c.args.splice.sheet)) c.args.side.now
    (record {
      page = c.args.side.now.page;
      sheets = c.put_back.new.self;
    }) other (splice_step c.args.splice other) stands (c.in_ok-tell_guest.ensures {u = tt}) refl
    (λ g both. put-stands g.seat.desk c.args.side.now
    (record {
      page = c.args.side.now.page;
      sheets = c.put_back.new.self;
    }) other c.args.splice both.stands takes refl c.in_ok-back.ensures.done)
    (λ g both old. put-sent g.seat.desk c.args.side.now other c.args.splice old (old ++ sheet_news (sheet_changed c.args.splice.sheet) g)
    both.stands refl)
