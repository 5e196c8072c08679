-- What the query finds is kept, and answered by its number.
use Rattle.std.proofs.Common.{refl, arith, ◌∙◌}
use Rattle.back_end.proofs.SeatLemmas.{on_ok}
use Rattle.back_end.proofs.ScriptLemmas.{in_any}
use Rattle.back_end.proofs.SearchSeats.{performed-stands, performed-sent, shown-found}
use Rattle.back_end.proofs.desk.Desk.perform_search.Goals as goal

pub keep-requires : goal.keep-requires
keep-requires c = omega (arith, c.requires.room.searches)

pub returns-clause-stands : goal.returns-clause-stands
returns-clause-stands c = λ state stands.
    in_any c.write_reply.result _
    (performed-stands c.args.self.now c.args.side.now state c.args.id c.args.query.now c.page-page.result.now c.in_ok-serials.serials.items
    stands c.page-page.ensures
    (c.in_ok-serials.ensures ∙ shown-found c.args.self.now.agent.mode c.mode.result c.page-page.result.now c.args.query.now
    c.as_slice.result.now c.mode.ensures (c.as_slice.ensures.value ∙ c.in_ok-all.ensures))
    (record { alloc = _; is_on = _; css = _; agent = _; watches = _; searches = _ }) refl refl refl c.in_ok-search.ensures.kept refl)

pub returns-clause-sent : goal.returns-clause-sent
returns-clause-sent c = λ state stands.
    on_ok c.write_reply.result _ _ c.write_reply.ensures.ok
    (performed-sent c.args.self.now c.args.side.now state c.args.id c.args.query.now c.page-page.result.now c.in_ok-serials.serials.items
    stands c.page-page.ensures
    (c.in_ok-serials.ensures ∙ shown-found c.args.self.now.agent.mode c.mode.result c.page-page.result.now c.args.query.now
    c.as_slice.result.now c.mode.ensures (c.as_slice.ensures.value ∙ c.in_ok-all.ensures))
    c.in_ok-search.search c.len-count.result c.args.out.now.items c.write_reply.new.out.items
    c.in_ok-search.ensures.number (omega (arith, c.len-count.ensures, c.in_ok-serials.serials.ok)))
