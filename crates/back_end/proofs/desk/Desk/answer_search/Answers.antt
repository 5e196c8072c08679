-- While DOM is on, what is asked of searches is served.
use Rattle.std.proofs.Common.{sym, ap, subst, ◌∙◌, ◌++◌}
use Rattle.client_views.specs.Moves.{frames_of_moves}
use Rattle.back_end.specs.Steps.{Step}
use Rattle.back_end.specs.Seats.{DeskStandsFor}
use Rattle.back_end.proofs.SeatLemmas.{on_ok}
use Rattle.back_end.proofs.SearchSeats.{search-is}
use Rattle.back_end.proofs.desk.Desk.answer_search.Goals as goal

pub returns-clause-stands : goal.returns-clause-stands
returns-clause-stands c = λ state stands.
    on_ok c.ask_search.result _ _ (c.ask_search.ensures.stands state stands)
    (λ done. subst (λ (d : Step). DeskStandsFor c.ask_search.new.self c.args.side.now d.state)
    (sym (search-is c.args.self.now c.args.side.now state c.args.id c.args.ask.now stands c.requires.on)) done)

pub returns-clause-sent : goal.returns-clause-sent
returns-clause-sent c = λ state stands.
    on_ok c.ask_search.result _ _ (c.ask_search.ensures.sent state stands)
    (λ sent. sent ∙ ap (λ (d : Step). c.args.out.now.items ++ frames_of_moves d.moves)
    (sym (search-is c.args.self.now c.args.side.now state c.args.id c.args.ask.now stands c.requires.on)))
