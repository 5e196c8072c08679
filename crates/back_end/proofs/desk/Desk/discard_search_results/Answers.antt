-- What the search found goes, where it is kept.
use Rattle.std.proofs.Common.{Option, List, ℕ, ap}
use Rattle.std.specs.Prelude.{is_some}
use Rattle.back_end.proofs.SeatLemmas.{on_ok}
use Rattle.back_end.proofs.SearchSeats.{unknown-search-sent, gone-sent}
use Rattle.back_end.proofs.desk.Desk.discard_search_results.Goals as goal

pub returns-in_default-clause-sent : goal.returns-in_default-clause-sent
returns-in_default-clause-sent c = λ state stands.
    on_ok c.refuse.result _ _ (c.refuse.ensures state)
    (unknown-search-sent c.args.self.now c.args.side.now state c.args.id c.args.search.now stands c.args.out.now.items
    c.refuse.new.out.items c.in_default.ensures)

pub returns-in-Err-clause-sent : goal.returns-in-Err-clause-sent
returns-in-Err-clause-sent c = λ state stands.
    on_ok c.refuse-in-Err.result _ _ (c.refuse-in-Err.ensures state)
    (gone-sent c.args.self.now c.args.side.now state c.args.id c.args.search.now stands c.in-Some.search c.args.out.now.items
    c.refuse-in-Err.new.out.items c.in-Some.ensures (ap (λ (o : Option (List ℕ)). is_some o) c.in-Err.ensures.fault.1))
