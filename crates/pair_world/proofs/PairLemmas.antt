-- Both front ends show their sessions, whatever the parts of the run.
use Rattle.std.proofs.Common.{ℕ, List, [], take, Option, subst}
use Rattle.front_mirror.specs.Front.{FrontValue}
use Rattle.back_end.specs.States.{Side, loaded_side}
use Rattle.back_end.specs.Laws.{IsTurn}
use Rattle.back_end.specs.Steps.{Turn}
use Rattle.back_end.proofs.StartLemmas.{IsState-first}
use Rattle.session_runs.specs.World.{first_world}
use Rattle.session_runs.specs.Pairs.{Second}
use Rattle.session_runs.specs.PairFit.{TwoFit, neither, both, Calm}
use Rattle.session_runs.specs.PairRuns.{PairPassage, SecondShows, no_second, one_second}
use Rattle.session_runs.proofs.PairRuns.{pair-first, pair-passages-fit, settled-shown}
use Rattle.pair_world.specs.Clients.{pair_reads, RunClient, client_steps}
use Rattle.pair_world.specs.Shown.{IsSessionNumber, HasRoomFor, MaySend, Shows}
use Rattle.pair_world.specs.PairFits.{PairWorld, pair_loaded, after_parts, MayComeAll, PairFits, PairsFit, PairsShown, PairsSettle}
use Rattle.pair_world.proofs.ClientLemmas.{read_laws, LeadsSide, shows-fresh, client_laws}

-- a second front end that fits, while nothing is on its way up, shows its session
second-shows : (side : Side) (second : RunClient) (next : ℕ) (two : Option (Second FrontValue (List ℕ))) (attached : Option ℕ)
    → TwoFit pair_reads client_steps IsSessionNumber Shows side second next [] two attached
    → SecondShows pair_reads client_steps IsSessionNumber Shows side second two attached
second-shows side second next _ _ neither = no_second
second-shows side second next _ _ (both k v number few shows) = one_second k v shows

module _ {N L : Type 0} where
  pub pairs-fit : PairsFit N L
  pairs-fit one_turn nothing told page can texts ps may n =
      pair-passages-fit pair_reads client_steps read_laws HasRoomFor IsSessionNumber MaySend IsTurn LeadsSide Shows client_laws one_turn n
      ps (first_world nothing told (pair_loaded page)) may
      (pair-first pair_reads client_steps read_laws HasRoomFor IsSessionNumber MaySend IsTurn LeadsSide Shows client_laws one_turn nothing
      told (loaded_side 1 1 page) (shows-fresh (loaded_side 1 1 page) (IsState-first page can texts)))

  -- the same from any run that fits
  pub passages-fit-pairs : (one_turn : N → N) (n : ℕ) (ps : List (PairPassage Turn N)) (w : PairWorld N L) → MayComeAll one_turn ps w
      → PairFits w → PairFits (after_parts one_turn (take n ps) w)
  passages-fit-pairs one_turn n ps w may fits =
      pair-passages-fit pair_reads client_steps read_laws HasRoomFor IsSessionNumber MaySend IsTurn LeadsSide Shows client_laws one_turn n
      ps w may fits

  pub pairs-shown : PairsShown N L
  pairs-shown w none fits =
      let c : Calm pair_reads client_steps IsSessionNumber Shows MaySend fits.front w.state [] =
      subst (λ frames. Calm pair_reads client_steps IsSessionNumber Shows MaySend fits.front w.state frames) none fits.fit in
      record {
        fronts = fits.front;
        is_fold = fits.is_fold;
        first_shows = c.one;
        second_shows = second-shows w.state.side w.state.second w.state.next fits.front.two w.state.attached c.two;
        none_waits = c.none_waiting;
      }

  pub pairs-settle : PairsSettle N L
  pairs-settle one_turn w fits room =
      settled-shown pair_reads client_steps read_laws HasRoomFor IsSessionNumber MaySend IsTurn LeadsSide Shows client_laws one_turn w room
      fits
