-- An edit that the page takes is carried out and answered; one that it does not is refused.
use Rattle.std.proofs.Common.{◌≡◌, Some, None, ◌++◌, sym, ap, ◌∙◌}
use Rattle.page_tree.specs.Pages.{PageValue}
use Rattle.client_views.specs.Moves.{frames_of_moves}
use Rattle.back_end.specs.Plans.{node_edit_fault}
use Rattle.back_end.specs.Steps.{refusing}
use Rattle.back_end.proofs.SeatLemmas.{on_ok}
use Rattle.back_end.proofs.ScriptLemmas.{in_any}
use Rattle.back_end.proofs.TreeSeats.{can-push, put-answered-sent, fault-both, fault-sent}
use Rattle.back_end.proofs.NoteSeats.{edited-both}
use Rattle.back_end.proofs.GuestSteps.{edited-hears, unedited-hears}
use Rattle.back_end.proofs.desk.Desk.answer_node_edit.Goals as goal

pub returns-in-Some-clause-stands : goal.returns-in-Some-clause-stands
returns-in-Some-clause-stands c = λ state both begun.
    in_any c.refuse.result _
    (fault-both c.args.self.now c.args.history.now c.args.side.now state c.args.id c.args.edit c.in-Some.fault both
    (ap (λ (p : PageValue). node_edit_fault c.args.edit p) (sym c.page.ensures) ∙ sym c.in-Some.ensures))

pub returns-in-Some-clause-sent : goal.returns-in-Some-clause-sent
returns-in-Some-clause-sent c = λ state stands begun.
    on_ok c.refuse.result _ _ (c.refuse.ensures state)
    (λ sent. fault-sent c.args.side.now state c.args.id c.args.edit c.in-Some.fault c.args.out.now.items c.refuse.new.out.items
    stands.page_is
    (ap (λ (p : PageValue). node_edit_fault c.args.edit p) (sym c.page.ensures) ∙ sym c.in-Some.ensures)
    (sent ∙ ap (λ why. c.args.out.now.items ++ frames_of_moves (refusing (Some c.args.id) why state).moves) c.edit_why.ensures))

pub returns-clause-stands : goal.returns-clause-stands
returns-clause-stands c = λ state both begun.
    let fits : node_edit_fault c.args.edit c.args.side.now.page
    ≡ None = ap (λ (p : PageValue). node_edit_fault c.args.edit p) (sym c.page.ensures) ∙ sym c.in_default.ensures in
    on_ok c.answer_put.result _ _
    (c.answer_put.ensures.stands _ (c.in_ok-put.ensures.stands state both.stands)
    (can-push state c.args.edit begun))
    (edited-both c.args.self.now c.answer_put.new.self c.args.history.now c.put.new.history c.args.side.now c.put.new.side state c.args.id
    c.args.edit c.in_ok-put.put both c.requires.plain fits
    c.in_ok-put.ensures.put c.in_ok-put.ensures.noted)

pub returns-clause-sent : goal.returns-clause-sent
returns-clause-sent c = λ state stands begun.
    let fits : node_edit_fault c.args.edit c.args.side.now.page
    ≡ None = ap (λ (p : PageValue). node_edit_fault c.args.edit p) (sym c.page.ensures) ∙ sym c.in_default.ensures in
    on_ok c.answer_put.result _ _
    (c.answer_put.ensures.sent _ (c.in_ok-put.ensures.stands state stands)
    (can-push state c.args.edit begun))
    (put-answered-sent c.args.side.now state c.args.id c.args.edit c.in_ok-put.put c.args.out.now.items c.put.new.out.items
    c.answer_put.new.out.items stands.page_is fits c.in_ok-put.ensures.put
    (c.in_ok-put.ensures.sent state stands))

pub returns-in-Some-clause-told : goal.returns-in-Some-clause-told
returns-in-Some-clause-told c = λ state other first stands.
    in_any c.refuse.result _
    (unedited-hears c.args.guest.now c.args.self.now c.args.side.now state other c.args.edit c.in-Some.fault first stands
    (ap (λ (p : PageValue). node_edit_fault c.args.edit p) (sym c.page.ensures) ∙ sym c.in-Some.ensures))

pub returns-clause-told : goal.returns-clause-told
returns-clause-told c = λ state other first stands.
    let fits : node_edit_fault c.args.edit c.args.side.now.page
    ≡ None = ap (λ (p : PageValue). node_edit_fault c.args.edit p) (sym c.page.ensures) ∙ sym c.in_default.ensures in
    in_any c.answer_put.result _
    (edited-hears c.args.guest.now c.put.new.guest c.args.side.now c.put.new.side state other c.args.edit first.page_is fits
    (c.in_ok-put.ensures.told other stands))
