-- One edit is heard as a plan of one.
use Rattle.std.proofs.Common.{sym, subst, arith}
use Rattle.back_end.specs.declared.node_edits.TreeWish.{TreeWish}
use Rattle.back_end.specs.Texts.{IsPlainEdit}
use Rattle.back_end.specs.Plans.{node_edit_plan}
use Rattle.back_end.specs.Guests.{Hears, heard_plan}
use Rattle.back_end.proofs.GuestSeats.{hear-fewer}
use Rattle.back_end.proofs.GuestSteps.{guest-texts, lone-hears}
use Rattle.back_end.proofs.desk.Desk.put.Goals as goal

pub apply_by_client-requires-clause-can_hear : goal.apply_by_client-requires-clause-can_hear
apply_by_client-requires-clause-can_hear c = hear-fewer 2 1 c.args.guest.now c.args.side.now (omega arith) c.requires.can_hear

pub returns-in_ok-apply_by_client-in-One-clause-told : goal.returns-in_ok-apply_by_client-in-One-clause-told
returns-in_ok-apply_by_client-in-One-clause-told c = λ other stands.
    subst (λ (e : TreeWish). Hears c.args.guest.now c.apply_by_client.new.guest c.apply_by_client.new.side
    (heard_plan (node_edit_plan e c.args.side.now.page) other)) (sym c.in-One.is)
    (lone-hears c.args.guest.now c.apply_by_client.new.guest c.args.side.now c.apply_by_client.new.side other c.in-One.edit stands
    ((c.in_ok-apply_by_client-in-One.ensures {u = tt}).told other stands
    (guest-texts c.args.guest.now c.in-One.edit (subst IsPlainEdit c.in-One.is c.requires.plain).0)))

pub returns-in_ok-put_moved-in-MoveNode-clause-told : goal.returns-in_ok-put_moved-in-MoveNode-clause-told
returns-in_ok-put_moved-in-MoveNode-clause-told c = λ other stands.
    subst (λ (e : TreeWish). Hears c.args.guest.now c.put_moved.new.guest c.put_moved.new.side
    (heard_plan (node_edit_plan e c.args.side.now.page) other)) (sym c.in-MoveNode.is)
    ((c.in_ok-put_moved-in-MoveNode.ensures {u = tt}).told other stands)

pub returns-in_ok-put_copy-in-CopyNode-clause-told : goal.returns-in_ok-put_copy-in-CopyNode-clause-told
returns-in_ok-put_copy-in-CopyNode-clause-told c = λ other stands.
    subst (λ (e : TreeWish). Hears c.args.guest.now c.put_copy.new.guest c.put_copy.new.side
    (heard_plan (node_edit_plan e c.args.side.now.page) other)) (sym c.in-CopyNode.is)
    ((c.in_ok-put_copy-in-CopyNode.ensures {u = tt}).told other stands)
