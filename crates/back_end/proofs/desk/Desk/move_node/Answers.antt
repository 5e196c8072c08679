-- A move is a detach and an attach of what was taken out.
use Rattle.std.proofs.Common.{[], ◌∷◌, refl, sym, ap, arith}
use Rattle.back_end.proofs.ScriptLemmas.{taken-out, moved-can, moved-texts, moved-stands, moved-sent}
use Rattle.page_forms.specs.declared.acts.Act.TheVariants as act
use Rattle.page_tree.specs.Pages.{node_at}
use Rattle.page_tree.specs.Edits.{moved_before}
use Rattle.page_tree.specs.declared.edits.TreeEdit.TheVariants.{Attach, Detach}
use Rattle.page_tree.proofs.MoveLemmas.{move-leads}
use Rattle.undo_marks.specs.declared.inverse_lists.Inverse.TheVariants.{Tree}
use Rattle.back_end.specs.Plans.{edit_fault}
use Rattle.back_end.specs.Guests.{heard_one}
use Rattle.back_end.proofs.GuestSeats.{hears-stands, hear-fewer}
use Rattle.back_end.proofs.GuestSteps.{guest-texts, moved-guest-texts, moved-hears, can-hear-detached, act-hears, unacted-hears}
use Rattle.back_end.proofs.desk.Desk.move_node.Goals as goal

pub apply_by_script-requires-2-clause-can : goal.apply_by_script-requires-2-clause-can
apply_by_script-requires-2-clause-can c =
    moved-can c.args.side.now.page c.apply_by_script.new.side.page c.args.node c.args.parent c.args.before c.moved_before-before.result
    c.in-Attach.tree
    c.valid.ensures (sym c.in_default.ensures) c.moved_before-before.ensures c.in_ok-back.ensures.page
    (taken-out c.in-Attach.is c.in_ok-back.ensures.back)

pub returns-clause-stands : goal.returns-clause-stands
returns-clause-stands c = λ state stands.
    moved-stands c.apply_by_script-2.new.self c.apply_by_script-2.new.side state c.args.node c.args.parent c.args.before
    c.moved_before-before.result c.in-Attach.tree
    c.args.side.now.page stands.page_is (sym c.in_default.ensures) c.moved_before-before.ensures
    (taken-out c.in-Attach.is c.in_ok-back.ensures.back)
    (c.in_ok-apply_by_script.ensures.stands _ (c.in_ok-back.ensures.stands state stands tt)
    (moved-texts c.args.self.now c.args.side.now state c.args.node c.in-Attach.tree stands
    (taken-out c.in-Attach.is c.in_ok-back.ensures.back)))

pub returns-clause-sent : goal.returns-clause-sent
returns-clause-sent c = λ state stands.
    moved-sent state c.args.node c.args.parent c.args.before c.moved_before-before.result c.in-Attach.tree
    c.args.side.now.page c.args.out.now.items c.apply_by_script.new.out.items c.apply_by_script-2.new.out.items stands.page_is
    (sym c.in_default.ensures) c.moved_before-before.ensures (taken-out c.in-Attach.is c.in_ok-back.ensures.back)
    (c.in_ok-back.ensures.sent state stands)
    (c.in_ok-apply_by_script.ensures.sent _ (c.in_ok-back.ensures.stands state stands tt))

pub apply_by_script-requires-clause-can : goal.apply_by_script-requires-clause-can
apply_by_script-requires-clause-can c =
    (move-leads c.args.side.now.page c.args.node c.args.parent c.args.before c.valid.ensures (sym c.in_default.ensures)).0

pub apply_by_script-requires-clause-can_hear : goal.apply_by_script-requires-clause-can_hear
apply_by_script-requires-clause-can_hear c = hear-fewer 2 1 c.args.guest.now c.args.side.now (omega arith) c.requires.can_hear

pub apply_by_script-requires-2-clause-can_hear : goal.apply_by_script-requires-2-clause-can_hear
apply_by_script-requires-2-clause-can_hear c =
    can-hear-detached 1 c.args.node c.args.guest.now c.apply_by_script.new.guest c.args.side.now c.apply_by_script.new.side
    c.requires.can_hear
    (move-leads c.args.side.now.page c.args.node c.args.parent c.args.before c.valid.ensures (sym c.in_default.ensures)).0
    (omega (arith, c.requires.room.serials)) (omega (arith, c.requires.room.sheets)) c.in_ok-back.ensures.told

pub returns-in-Some-clause-told : goal.returns-in-Some-clause-told
returns-in-Some-clause-told c = λ other stands.
    unacted-hears c.args.guest.now c.args.side.now other (act.Move c.args.node c.args.parent c.args.before) _ stands
    (ap edit_fault (sym c.in-Some.ensures))

pub returns-clause-told : goal.returns-clause-told
returns-clause-told c = λ other stands.
    let page = c.args.side.now.page in
    let tree_is = taken-out c.in-Attach.is c.in_ok-back.ensures.back in
    let done = heard_one (Tree (Detach c.args.node)) other in
    let first = c.in_ok-back.ensures.told other stands (guest-texts c.args.guest.now (Detach c.args.node) tt) in
    act-hears c.args.guest.now c.apply_by_script-2.new.guest c.args.side.now c.apply_by_script-2.new.side other
    (act.Move c.args.node c.args.parent c.args.before) (Detach c.args.node)
    (Attach c.args.parent (moved_before c.args.node c.args.parent c.args.before page.tree) (node_at c.args.node page.tree) ∷ [])
    page stands (ap edit_fault (sym c.in_default.ensures)) refl
    (moved-hears c.args.guest.now c.apply_by_script.new.guest c.apply_by_script-2.new.guest c.args.side.now c.apply_by_script.new.side
    c.apply_by_script-2.new.side other c.args.node c.args.parent c.args.before c.moved_before-before.result c.in-Attach.tree stands
    c.moved_before-before.ensures tree_is first
    (c.in_ok-apply_by_script.ensures.told done.state
    (hears-stands c.args.guest.now c.apply_by_script.new.guest c.apply_by_script.new.side done first)
    (moved-guest-texts c.args.guest.now c.apply_by_script.new.guest c.args.side.now c.apply_by_script.new.side other done c.args.node
    c.args.parent c.moved_before-before.result c.in-Attach.tree stands first tree_is)))
