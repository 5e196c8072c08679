-- A push by the agent is the step of the state; a node that is hidden is not pushed.
use Rattle.std.proofs.Common.{refl, sym, ◌∙◌}
use Rattle.page_tree.specs.Pages.{find_in}
use Rattle.shown_pages.specs.ShownPages.{shown_page}
use Rattle.back_end.proofs.SeatLemmas.{on_ok}
use Rattle.back_end.proofs.PushSeats.{push-stands, push-sent, push-gives, hidden-now, hidden-stands, hidden-sent, hidden-gives, found-some}
use Rattle.back_end.proofs.desk.Desk.push.Goals as goal

pub returns-in_default-clause-id : goal.returns-in_default-clause-id
returns-in_default-clause-id c = λ state stands begun.
    hidden-gives state c.args.node (hidden-now c.args.self.now c.args.side.now state c.args.node c.page.result.now c.mode.result stands
    c.page.ensures c.mode.ensures c.in_default.ensures)

pub returns-in_default-clause-stands : goal.returns-in_default-clause-stands
returns-in_default-clause-stands c = λ state stands begun.
    hidden-stands state c.args.node (hidden-now c.args.self.now c.args.side.now state c.args.node c.page.result.now c.mode.result stands
    c.page.ensures c.mode.ensures c.in_default.ensures) c.args.self.now c.args.side.now stands

pub returns-in_default-clause-sent : goal.returns-in_default-clause-sent
returns-in_default-clause-sent c = λ state stands begun.
    hidden-sent state c.args.node (hidden-now c.args.self.now c.args.side.now state c.args.node c.page.result.now c.mode.result stands
    c.page.ensures c.mode.ensures c.in_default.ensures) c.args.out.now.items

pub push-requires-clause-shown : goal.push-requires-clause-shown
push-requires-clause-shown c =
    found-some c.in-Some.field-0 _ (c.in-Some.ensures ∙ (λ i. find_in c.args.node (shown_page (c.mode.ensures i)
    ((c.page.ensures ∙ sym c.page-2.ensures) i)).tree))

pub returns-clause-id : goal.returns-clause-id
returns-clause-id c = λ state stands begun.
    push-gives c.push.result c.args.self.now c.args.side.now state c.args.node c.page-2.result.now c.push.new.self stands begun
    c.page-2.ensures c.push.ensures.id c.push.ensures.known

pub returns-clause-stands : goal.returns-clause-stands
returns-clause-stands c = λ state stands begun.
    on_ok c.push.result _ _ c.push.ensures.known
    (push-stands c.args.self.now (record {
      alloc = _;
      is_on = _;
      css = _;
      agent = _;
      watches = _;
      searches = _;
    }) c.args.side.now state c.args.node c.page-2.result.now stands begun c.page-2.ensures refl refl refl refl)

pub returns-clause-sent : goal.returns-clause-sent
returns-clause-sent c = λ state stands begun.
    on_ok c.push.result _ _ c.push.ensures.sent
    (push-sent c.args.self.now c.args.side.now state c.args.node c.page-2.result.now c.args.out.now.items c.push.new.out.items stands begun
    c.page-2.ensures)
