-- The first refusal, or a push of what was found.
use Rattle.std.proofs.Common.{Result, Ok, Err, Some, List, ℕ, refl, sym, ap, subst, ◌∙◌, ◌++◌}
use Rattle.cdp_messages.specs.declared.command.Why.{Why}
use Rattle.cdp_messages.specs.declared.command.Why.TheVariants.{NotPushed, NoSearch}
use Rattle.cdp_messages.specs.declared.dom_ask.DomAsk.TheVariants.{PushBySerials}
use Rattle.client_views.specs.Moves.{frames_of_moves}
use Rattle.back_end.specs.declared.desk.Desk.{Desk}
use Rattle.back_end.specs.Steps.{results_asked, results_step}
use Rattle.back_end.specs.Seats.{DeskStandsFor}
use Rattle.back_end.proofs.AskCounts.{ask-few}
use Rattle.back_end.proofs.SeatLemmas.{on_ok}
use Rattle.back_end.proofs.SearchSeats.{unpushed, listed, unlisted-sent, listed-stands, listed-sent}
use Rattle.back_end.proofs.desk.Desk.get_search_results.Goals as goal

pub returns-then-not-has_document-clause-sent : goal.returns-then-not-has_document-clause-sent
returns-then-not-has_document-clause-sent c = λ state stands.
    on_ok c.refuse.result _ _ (c.refuse.ensures state)
    (unlisted-sent c.args.self.now c.args.side.now state c.args.id stands (results_asked c.args.search.now c.args.from c.args.to state)
    NotPushed c.args.out.now.items c.refuse.new.out.items
    (unpushed c.args.self.now c.args.side.now state c.args.id stands c.page-page.result.now c.page-page.ensures
    c.args.search.now c.args.from
    c.args.to c.has_document.result c.has_document.ensures c.if-not-has_document.true))

pub returns-in_default-clause-sent : goal.returns-in_default-clause-sent
returns-in_default-clause-sent c = λ state stands.
    on_ok c.refuse-in_default.result _ _ (c.refuse-in_default.ensures state)
    (unlisted-sent c.args.self.now c.args.side.now state c.args.id stands (results_asked c.args.search.now c.args.from c.args.to state)
    NoSearch c.args.out.now.items c.refuse-in_default.new.out.items
    (listed c.args.self.now c.args.side.now state c.args.id stands c.page-page.result.now c.page-page.ensures c.args.search.now c.args.from
    c.args.to c.has_document.result _ _ c.has_document.ensures c.if-not-has_document.false c.in_default.ensures refl))

pub push_by_serials-requires : goal.push_by_serials-requires
push_by_serials-requires c = record {
  few = ask-few c.args.self.now c.args.side.now c.page-page.result.now (PushBySerials c.in-Ok.serials.now) refl c.requires.room.ids
      c.page-page.ensures c.requires.standing;
}

pub returns-in-Ok-clause-stands : goal.returns-in-Ok-clause-stands
returns-in-Ok-clause-stands c = λ state stands.
    let after : Desk = record {
      alloc = c.args.self.now.alloc;
      is_on = c.args.self.now.is_on;
      css = c.args.self.now.css;
      agent = c.push_by_serials.new.self;
      watches = c.args.self.now.watches;
      searches = c.args.self.now.searches;
    } in
    let asked = listed c.args.self.now c.args.side.now state c.args.id stands c.page-page.result.now c.page-page.ensures c.args.search.now
    c.args.from c.args.to c.has_document.result (Some c.in-Some.search) (Ok c.in-Ok.serials.now) c.has_document.ensures
    c.if-not-has_document.false c.in-Some.ensures c.in-Ok.ensures.ok in
    on_ok c.push_by_serials.result _ _ c.push_by_serials.ensures.known
    (λ known. subst (λ (r : Result (List ℕ) Why). DeskStandsFor after c.args.side.now (results_step c.args.id r state).state) (sym asked)
    (listed-stands c.args.self.now c.args.side.now state c.args.id stands c.page-page.result.now c.page-page.ensures c.in-Ok.serials.now
    c.requires.on after refl refl refl refl known))

pub returns-in-Ok-clause-sent : goal.returns-in-Ok-clause-sent
returns-in-Ok-clause-sent c = λ state stands.
    let asked = listed c.args.self.now c.args.side.now state c.args.id stands c.page-page.result.now c.page-page.ensures c.args.search.now
    c.args.from c.args.to c.has_document.result (Some c.in-Some.search) (Ok c.in-Ok.serials.now) c.has_document.ensures
    c.if-not-has_document.false c.in-Some.ensures c.in-Ok.ensures.ok in
    on_ok c.push_by_serials.result _ _ c.push_by_serials.ensures.sent
    (λ sent. listed-sent c.args.self.now c.args.side.now state c.args.id stands c.page-page.result.now c.page-page.ensures
    c.in-Ok.serials.now c.requires.on c.args.out.now.items c.push_by_serials.new.out.items sent
    ∙ ap (λ (r : Result (List ℕ) Why). c.args.out.now.items ++ frames_of_moves (results_step c.args.id r state).moves) (sym asked))

pub returns-in-Err-clause-sent : goal.returns-in-Err-clause-sent
returns-in-Err-clause-sent c = λ state stands.
    on_ok c.refuse-in-Err.result _ _ (c.refuse-in-Err.ensures state)
    (unlisted-sent c.args.self.now c.args.side.now state c.args.id stands (results_asked c.args.search.now c.args.from c.args.to state)
    c.search_why.result c.args.out.now.items c.refuse-in-Err.new.out.items
    (listed c.args.self.now c.args.side.now state c.args.id stands c.page-page.result.now c.page-page.ensures c.args.search.now c.args.from
    c.args.to c.has_document.result (Some c.in-Some.search) (Err c.in-Err.fault) c.has_document.ensures c.if-not-has_document.false
    c.in-Some.ensures c.in-Err.ensures.fault
    ∙ ap (λ (why : Why). Err why) (sym c.search_why.ensures)))
