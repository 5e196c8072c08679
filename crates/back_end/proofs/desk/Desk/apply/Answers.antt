-- An edit that the page takes is made for the client alone, or for it and the guest.
use Rattle.undo_marks.specs.declared.inverse_lists.Inverse.TheVariants.{Tree}
use Rattle.std.proofs.Common.{Option, subst}
use Rattle.back_end.specs.declared.guest.Guest.{Guest}
use Rattle.back_end.specs.Guests.{heard_one, GuestHasTexts}
use Rattle.back_end.proofs.GuestSeats.{guest-hears, none-hears, one-left}
use Rattle.back_end.proofs.desk.Desk.apply.Goals as goal

pub apply_both-requires-clause-guest_ids : goal.apply_both-requires-clause-guest_ids
apply_both-requires-clause-guest_ids c = one-left c.args.guest.now c.in-Some.guest c.args.side.now c.in-Some.is c.requires.can_hear

pub returns-in-Some-clause-told : goal.returns-in-Some-clause-told
returns-in-Some-clause-told c = λ other stands given.
    let texts = subst (λ (o : Option Guest). GuestHasTexts o c.args.edit) c.in-Some.is given in
    guest-hears c.apply_both.result c.args.guest.now c.in-Some.guest c.apply_both.new.guest c.args.side.now c.apply_both.new.side other
    (heard_one (Tree c.args.edit) other) c.in-Some.is stands
    (λ both. c.apply_both.ensures.guest_stands other both texts) (λ both. c.apply_both.ensures.guest_sent other both.stands)

pub returns-in-None-clause-told : goal.returns-in-None-clause-told
returns-in-None-clause-told c = λ other stands texts.
    none-hears c.apply_alone.result c.args.guest.now c.apply_alone.new.side (heard_one (Tree c.args.edit) other) c.in-None.is
