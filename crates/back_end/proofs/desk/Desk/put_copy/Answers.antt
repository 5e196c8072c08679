-- A copy is one attach of new nodes, whose serials are drawn.
use Rattle.std.proofs.Common.{refl, arith}
use Rattle.page_tree.specs.Edits.{form_at}
use Rattle.back_end.proofs.SeatLemmas.{on_ok}
use Rattle.back_end.proofs.ScriptLemmas.{drawn-form}
use Rattle.back_end.proofs.TreeSeats.{copied-can, copied-texts, copied-noted, copied-stands, copied-sent}
use Rattle.back_end.proofs.GuestSeats.{hear-fewer}
use Rattle.back_end.proofs.GuestSteps.{guest-drawn, can-hear-drawn, copied-guest-texts, drawn-hears}
use Rattle.back_end.proofs.desk.Desk.put_copy.Goals as goal

pub apply_by_client-requires-clause-can : goal.apply_by_client-requires-clause-can
apply_by_client-requires-clause-can c =
    copied-can c.args.side.now.page c.copy.new.self c.args.node c.args.parent c.args.before c.in_ok-tree.tree c.valid.ensures
    c.requires.fits c.in_ok-tree.ensures.drawn c.in_ok-tree.ensures.tree

pub returns-clause-noted : goal.returns-clause-noted
returns-clause-noted c =
    on_ok c.apply_by_client.result _ _ c.apply_by_client.ensures.noted
    (copied-noted c.args.history.now c.apply_by_client.new.history c.args.side.now.page c.args.side.now.sheets.entries c.args.node
    c.args.parent c.args.before c.in_ok-tree.tree c.in_ok-tree.ensures.tree)

pub returns-clause-stands : goal.returns-clause-stands
returns-clause-stands c = λ state stands.
    on_ok c.apply_by_client.result _ _
    (c.apply_by_client.ensures.stands _
    (drawn-form c.args.self.now c.args.side.now (record { page = _; sheets = _ }) state
    (form_at c.args.node c.args.side.now.page.tree) stands c.in_ok-tree.ensures.drawn refl)
    (copied-texts c.args.self.now c.args.side.now state c.args.node c.in_ok-tree.tree stands c.in_ok-tree.ensures.tree))
    (copied-stands c.apply_by_client.new.self c.apply_by_client.new.side state c.args.node c.args.parent c.args.before c.in_ok-tree.tree
    c.args.side.now.page stands.page_is c.in_ok-tree.ensures.tree)

pub returns-clause-sent : goal.returns-clause-sent
returns-clause-sent c = λ state stands.
    on_ok c.apply_by_client.result _ _
    (c.apply_by_client.ensures.sent _
    (drawn-form c.args.self.now c.args.side.now (record { page = _; sheets = _ }) state
    (form_at c.args.node c.args.side.now.page.tree) stands c.in_ok-tree.ensures.drawn refl))
    (copied-sent state c.args.node c.args.parent c.args.before c.in_ok-tree.tree c.args.side.now.page c.args.out.now.items
    c.apply_by_client.new.out.items stands.page_is c.in_ok-tree.ensures.tree)

pub apply_by_client-requires-clause-can_hear : goal.apply_by_client-requires-clause-can_hear
apply_by_client-requires-clause-can_hear c =
    can-hear-drawn 1 c.args.guest.now c.args.side.now (record { page = _; sheets = _ }) (form_at c.args.node c.args.side.now.page.tree)
    c.in_ok-tree.ensures.drawn refl (hear-fewer 2 1 c.args.guest.now c.args.side.now (omega arith) c.requires.can_hear)

pub returns-clause-told : goal.returns-clause-told
returns-clause-told c = λ other stands.
    let form = form_at c.args.node c.args.side.now.page.tree in
    on_ok c.apply_by_client.result _ _
    (c.apply_by_client.ensures.told _
    (guest-drawn c.args.guest.now c.args.side.now (record { page = _; sheets = _ }) other form c.in_ok-tree.ensures.drawn refl stands)
    (copied-guest-texts c.args.guest.now c.args.side.now other c.args.node c.args.parent c.args.before c.in_ok-tree.tree stands
    c.in_ok-tree.ensures.tree))
    (drawn-hears c.args.guest.now c.apply_by_client.new.guest c.apply_by_client.new.side other c.args.parent c.args.before form
    c.in_ok-tree.tree c.args.side.now.page c.in_ok-tree.ensures.tree)
