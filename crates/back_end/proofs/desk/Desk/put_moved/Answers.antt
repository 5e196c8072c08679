-- A move is a detach and an attach of what was taken out.
use Rattle.std.proofs.Common.{◌∙◌, arith}
use Rattle.back_end.proofs.SeatLemmas.{on_ok}
use Rattle.back_end.proofs.ScriptLemmas.{moved-can, moved-texts}
use Rattle.back_end.proofs.TreeSeats.{moved-there, moved-noted, moved-plan-stands, moved-plan-sent}
use Rattle.page_tree.specs.declared.edits.TreeEdit.TheVariants.{Detach}
use Rattle.page_tree.proofs.MoveLemmas.{move-leads}
use Rattle.undo_marks.specs.declared.inverse_lists.Inverse.TheVariants.{Tree}
use Rattle.back_end.specs.Guests.{heard_one}
use Rattle.back_end.proofs.GuestSeats.{hears-stands}
use Rattle.back_end.proofs.GuestSteps.{guest-texts, moved-guest-texts, moved-hears, can-hear-detached}
use Rattle.back_end.proofs.desk.Desk.put_moved.Goals as goal

pub node-requires : goal.node-requires
node-requires c = moved-there c.args.node c.args.parent c.args.before c.args.side.now.page.tree c.requires.fits

pub apply_by_client-requires-2-clause-can : goal.apply_by_client-requires-2-clause-can
apply_by_client-requires-2-clause-can c =
    moved-can c.args.side.now.page c.apply_by_client.new.side.page c.args.node c.args.parent c.args.before c.moved_before-place.result
    c.in_ok-tree.tree
    c.valid.ensures c.requires.fits c.moved_before-place.ensures (c.in_ok-apply_by_client.ensures {u = tt}).page
    (c.in_ok-tree.ensures ∙ c.node.ensures)

pub returns-clause-noted : goal.returns-clause-noted
returns-clause-noted c =
    on_ok c.apply_by_client-2.result _ _ c.apply_by_client-2.ensures.noted
    (moved-noted c.args.history.now c.apply_by_client.new.history c.apply_by_client-2.new.history c.args.side.now.page
    c.args.side.now.sheets.entries c.args.node c.args.parent c.args.before c.in_ok-tree.tree
    (c.in_ok-tree.ensures ∙ c.node.ensures) (c.in_ok-apply_by_client.ensures {u = tt}).noted)

pub returns-clause-stands : goal.returns-clause-stands
returns-clause-stands c = λ state stands.
    on_ok c.apply_by_client-2.result _ _
    (c.apply_by_client-2.ensures.stands _ ((c.in_ok-apply_by_client.ensures {u = tt}).stands state stands tt)
    (moved-texts c.args.self.now c.args.side.now state c.args.node c.in_ok-tree.tree stands (c.in_ok-tree.ensures ∙ c.node.ensures)))
    (moved-plan-stands c.apply_by_client-2.new.self c.apply_by_client-2.new.side state c.args.node c.args.parent c.args.before
    c.moved_before-place.result c.in_ok-tree.tree
    c.args.side.now.page stands.page_is c.moved_before-place.ensures (c.in_ok-tree.ensures ∙ c.node.ensures))

pub returns-clause-sent : goal.returns-clause-sent
returns-clause-sent c = λ state stands.
    on_ok c.apply_by_client-2.result _ _
    (c.apply_by_client-2.ensures.sent _ ((c.in_ok-apply_by_client.ensures {u = tt}).stands state stands tt))
    (moved-plan-sent state c.args.node c.args.parent c.args.before c.moved_before-place.result c.in_ok-tree.tree
    c.args.side.now.page c.args.out.now.items c.apply_by_client.new.out.items c.apply_by_client-2.new.out.items stands.page_is
    c.moved_before-place.ensures (c.in_ok-tree.ensures ∙ c.node.ensures)
    ((c.in_ok-apply_by_client.ensures {u = tt}).sent state stands))

pub apply_by_client-requires-2-clause-can_hear : goal.apply_by_client-requires-2-clause-can_hear
apply_by_client-requires-2-clause-can_hear c =
    can-hear-detached 1 c.args.node c.args.guest.now c.apply_by_client.new.guest c.args.side.now c.apply_by_client.new.side
    c.requires.can_hear
    (move-leads c.args.side.now.page c.args.node c.args.parent c.args.before c.valid.ensures c.requires.fits).0
    (omega (arith, c.requires.room.serials)) (omega (arith, c.requires.room.sheets))
    (c.in_ok-apply_by_client.ensures {u = tt}).told

pub returns-clause-told : goal.returns-clause-told
returns-clause-told c = λ other stands.
    let tree_is = c.in_ok-tree.ensures ∙ c.node.ensures in
    let done = heard_one (Tree (Detach c.args.node)) other in
    let first = (c.in_ok-apply_by_client.ensures {u = tt}).told other stands (guest-texts c.args.guest.now (Detach c.args.node) tt) in
    on_ok c.apply_by_client-2.result _ _
    (c.apply_by_client-2.ensures.told done.state
    (hears-stands c.args.guest.now c.apply_by_client.new.guest c.apply_by_client.new.side done first)
    (moved-guest-texts c.args.guest.now c.apply_by_client.new.guest c.args.side.now c.apply_by_client.new.side other done c.args.node
    c.args.parent c.moved_before-place.result c.in_ok-tree.tree stands first tree_is))
    (moved-hears c.args.guest.now c.apply_by_client.new.guest c.apply_by_client-2.new.guest c.args.side.now c.apply_by_client.new.side
    c.apply_by_client-2.new.side other c.args.node c.args.parent c.args.before c.moved_before-place.result c.in_ok-tree.tree stands
    c.moved_before-place.ensures tree_is first)

pub apply_by_client-requires-clause-can : goal.apply_by_client-requires-clause-can
apply_by_client-requires-clause-can c =
    (move-leads c.args.side.now.page c.args.node c.args.parent c.args.before c.valid.ensures c.requires.fits).0
