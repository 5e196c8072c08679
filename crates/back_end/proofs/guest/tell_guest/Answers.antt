-- The guest, if there is one, is told.
use Rattle.std.proofs.Common.{refl}
use Rattle.cdp_messages.specs.Events.{news_of}
use Rattle.back_end.specs.Guests.{sheet_news}
use Rattle.back_end.proofs.GuestSeats.{told-as, told-none}
use Rattle.back_end.proofs.guest.tell_guest.Goals as goal

pub returns-in_ok-tell-in-Some : goal.returns-in_ok-tell-in-Some
returns-in_ok-tell-in-Some c =
    told-as c.args.guest.now c.in-Some.guest _ (sheet_news (news_of c.args.event.now)) c.in-Some.is refl c.cross.ensures
    (c.in_ok-tell-in-Some.ensures {u = tt}).sent

pub returns-in-None : goal.returns-in-None
returns-in-None c = told-none c.args.guest.now (sheet_news (news_of c.args.event.now)) c.in-None.is
