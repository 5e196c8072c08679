-- An edit of the tree, or a splice.
use Rattle.std.proofs.Common.{sym, subst}
use Rattle.undo_marks.specs.declared.inverse_lists.Inverse.{Inverse}
use Rattle.undo_marks.specs.declared.inverse_lists.Inverse.TheVariants.{Tree, Sheet}
use Rattle.back_end.proofs.UndoSeats.{tree-taken, sheet-taken, tree-can, sheet-fits, tree-saved, tree-next, tree-back, sheet-saved}
use Rattle.back_end.proofs.UndoSeats.{sheet-back, step-stands, step-sent, saved_at}
use Rattle.back_end.specs.Guests.{heard_one, Hears}
use Rattle.back_end.proofs.GuestSteps.{guest-texts}
use Rattle.back_end.proofs.desk.Desk.apply_kept.Goals as goal

pub apply-requires-clause-can : goal.apply-requires-clause-can
apply-requires-clause-can c = tree-can c.args.side.now c.args.edit c.in-Tree.edit c.in-Tree.is c.requires.taken

pub put_back-requires : goal.put_back-requires
put_back-requires c = record { fits = sheet-fits c.args.side.now c.args.edit c.in-Sheet.splice c.in-Sheet.is c.requires.taken }

pub returns-in_ok-back-in-Tree-clause-saved : goal.returns-in_ok-back-in-Tree-clause-saved
returns-in_ok-back-in-Tree-clause-saved c = tree-saved c.args.side.now c.apply.new.side c.args.edit c.in-Tree.edit c.in-Tree.is
    c.in_ok-back-in-Tree.ensures.page c.apply.ensures.kept

pub returns-in_ok-back-in-Tree-clause-next : goal.returns-in_ok-back-in-Tree-clause-next
returns-in_ok-back-in-Tree-clause-next c =
    tree-next c.args.side.now c.apply.new.side c.in-Tree.edit
    (tree-can c.args.side.now c.args.edit c.in-Tree.edit c.in-Tree.is c.requires.taken) c.in_ok-back-in-Tree.ensures.page

pub returns-in_ok-back-in-Tree-clause-back : goal.returns-in_ok-back-in-Tree-clause-back
returns-in_ok-back-in-Tree-clause-back c = tree-back c.args.side.now c.args.edit c.in-Tree.edit c.in_ok-back-in-Tree.back c.in-Tree.is
    c.in_ok-back-in-Tree.ensures.back

pub returns-in_ok-back-in-Tree-clause-stands : goal.returns-in_ok-back-in-Tree-clause-stands
returns-in_ok-back-in-Tree-clause-stands c = λ state stands takes.
    let t = tree-taken c.args.side.now.page.next c.args.edit c.in-Tree.edit (saved_at c.args.side.now) c.in-Tree.is takes in
    step-stands c.apply.new.self c.apply.new.side state c.args.edit (Tree c.in-Tree.edit) c.in-Tree.is
    (c.in_ok-back-in-Tree.ensures.stands state stands t.own)

pub returns-in_ok-back-in-Tree-clause-sent : goal.returns-in_ok-back-in-Tree-clause-sent
returns-in_ok-back-in-Tree-clause-sent c = λ state stands.
    step-sent state c.args.edit (Tree c.in-Tree.edit) c.args.out.now.items c.apply.new.out.items c.in-Tree.is
    (c.in_ok-back-in-Tree.ensures.sent state stands)

pub returns-in_ok-back-in-Sheet-clause-saved : goal.returns-in_ok-back-in-Sheet-clause-saved
returns-in_ok-back-in-Sheet-clause-saved c = sheet-saved c.args.side.now c.put_back.new.side c.args.edit c.in-Sheet.splice c.in-Sheet.is
    c.put_back.ensures.page c.in_ok-back-in-Sheet.ensures.entries

pub returns-in_ok-back-in-Sheet-clause-back : goal.returns-in_ok-back-in-Sheet-clause-back
returns-in_ok-back-in-Sheet-clause-back c = sheet-back c.args.side.now c.args.edit c.in-Sheet.splice c.in_ok-back-in-Sheet.back
    c.in-Sheet.is c.in_ok-back-in-Sheet.ensures.back

pub returns-in_ok-back-in-Sheet-clause-stands : goal.returns-in_ok-back-in-Sheet-clause-stands
returns-in_ok-back-in-Sheet-clause-stands c = λ state stands takes.
    let t = sheet-taken c.args.side.now.page.next c.args.edit c.in-Sheet.splice (saved_at c.args.side.now) c.in-Sheet.is takes in
    step-stands c.args.self.now c.put_back.new.side state c.args.edit (Sheet c.in-Sheet.splice) c.in-Sheet.is
    (c.in_ok-back-in-Sheet.ensures.stands state stands t.taken)

pub returns-in_ok-back-in-Sheet-clause-sent : goal.returns-in_ok-back-in-Sheet-clause-sent
returns-in_ok-back-in-Sheet-clause-sent c = λ state stands.
    step-sent state c.args.edit (Sheet c.in-Sheet.splice) c.args.out.now.items c.put_back.new.out.items c.in-Sheet.is
    (c.in_ok-back-in-Sheet.ensures.sent state stands)

pub returns-in_ok-back-in-Tree-clause-told : goal.returns-in_ok-back-in-Tree-clause-told
returns-in_ok-back-in-Tree-clause-told c = λ other stands takes.
    let t = tree-taken c.args.side.now.page.next c.args.edit c.in-Tree.edit (saved_at c.args.side.now) c.in-Tree.is takes in
    subst (λ (e : Inverse). Hears c.args.guest.now c.apply.new.guest c.apply.new.side (heard_one e other)) (sym c.in-Tree.is)
    (c.in_ok-back-in-Tree.ensures.told other stands (guest-texts c.args.guest.now c.in-Tree.edit t.own))

pub returns-in_ok-back-in-Sheet-clause-told : goal.returns-in_ok-back-in-Sheet-clause-told
returns-in_ok-back-in-Sheet-clause-told c = λ other stands takes.
    let t = sheet-taken c.args.side.now.page.next c.args.edit c.in-Sheet.splice (saved_at c.args.side.now) c.in-Sheet.is takes in
    subst (λ (e : Inverse). Hears c.args.guest.now c.put_back.new.guest c.put_back.new.side (heard_one e other)) (sym c.in-Sheet.is)
    (c.in_ok-back-in-Sheet.ensures.told other stands t.taken)
