-- A sheet that is there goes.
use Rattle.std.proofs.Common.{refl}
use Rattle.back_end.proofs.SeatLemmas.{on_ok}
use Rattle.back_end.proofs.ScriptLemmas.{in_any}
use Rattle.back_end.proofs.SheetSeats.{left-stands, left-sent}
use Rattle.back_end.proofs.GuestSheets.{left-hears}
use Rattle.back_end.proofs.desk.Desk.sheet_leaves.Goals as goal

pub returns-clause-stands : goal.returns-clause-stands
returns-clause-stands c = λ state stands.
    in_any c.tell_guest.result _
    (left-stands c.args.self.now c.args.side.now
    (record {
      page = c.args.side.now.page;
      sheets = c.remove.new.self;
    }) state c.args.number stands c.requires.there refl c.remove.ensures.others)

pub returns-clause-sent : goal.returns-clause-sent
returns-clause-sent c = λ state stands.
    in_any c.tell_guest.result _
    (left-sent c.args.self.now c.args.side.now state c.args.number c.args.out.now.items c.tell.new.out.items stands
    (c.in_ok-tell.ensures {u = tt}).sent)

pub returns-clause-told : goal.returns-clause-told
returns-clause-told c = λ other stands.
    on_ok c.tell_guest.result _ _ c.tell_guest.ensures
    (left-hears c.args.guest.now c.tell_guest.new.guest c.args.side.now
    (record {
      page = c.args.side.now.page;
      sheets = c.remove.new.self;
    }) other c.args.number stands c.requires.there refl c.remove.ensures.others)
