-- What the ends of a run with two front ends know of it while no attach and no detach is on its way, and once all has come.
use Rattle.std.proofs.Common.{◌≡◌, ℕ, ◌+◌, ◌≤◌, Bool, true, false, List, [], Option, Some, None, is_some, option_map, length}
use Rattle.std.proofs.Common.{refl, sym, ◌∙◌, ap, subst, arith, Ok, Result}
use Rattle.pipe_frames.specs.Pipe.{Pipe}
use Rattle.pipe_frames.specs.Frames.{frames_of}
use Rattle.front_mirror.specs.declared.replies.Ask.{Ask}
use Rattle.front_mirror.specs.declared.faults.FrontKind.{FrontKind}
use Rattle.front_mirror.specs.Front.{FrontValue, FrontState}
use Rattle.session_mux.specs.Sessions.{session_text}
use Rattle.session_runs.specs.Stream.{sent, awaited}
use Rattle.session_runs.specs.World.{delivered_up}
use Rattle.session_runs.specs.Agreement.{IsAtRest}
use Rattle.session_runs.specs.Fold.{folded, asks_joined}
use Rattle.session_runs.specs.Fetches.{front_in}
use Rattle.session_runs.specs.Pairs.{Second, take_pair, join_pair, first_pair, pair_step}
use Rattle.session_runs.specs.PairFit.{TwoFit, neither, both, is_calm}
use Rattle.session_runs.proofs.Frames.{given-all, sent-all, awaited-none}
use Rattle.multi_replay.specs.Folds.{value_reads}
use Rattle.multi_replay.specs.States.{StatePair, FrontsState, is_there, HaveRoom}
use Rattle.multi_replay.specs.States as states
use Rattle.multi_replay.specs.Laws.{second_value, pair_value}
use Rattle.multi_replay.proofs.PlaceLemmas.{as-folded}
use Rattle.back_end.specs.States.{Side}
use Rattle.inspect_world.specs.Fits.{most_fetches}
use Rattle.pair_world.specs.Clients.{pair_reads, RunClient, client_steps}
use Rattle.pair_world.specs.Shown.{IsSessionNumber, Shows}
use Rattle.pair_world.specs.PairRuns.{PairSpent, PairRun, one_fetch_on, fetches_on, pair_settled}
use Rattle.pair_world.specs.PairFresh.{pair_runner, FrontValues, PairIsCalm, PairIsFit, no_fronts, PairHasLeft}
use Rattle.pair_world.specs.PairHeld.{up_reads, PairEnds, SecondCounted, NumberAsCounted, PairMode, calm, targeted, IsSecondOf}
use Rattle.pair_world.specs.PairHeld.{InPairWorld}
use Rattle.pair_world.specs.PairSendings.{PairHasIds}
use Rattle.pair_world.proofs.DeedLemmas.{number-of}
use Rattle.pair_world.proofs.FetchBoth.{calm-alone}

-- ---- the attached session

-- The second front end stands: its session is the attached one.
pub record SecondIs (attached : Option ℕ) (p : StatePair) : Type 0 where
  pub number : ℕ
  pub front : Second FrontState (List ℕ)
  pub attached_is : attached ≡ Some number
  pub is_number : IsSessionNumber number
  pub stands : p.two ≡ Some front
  pub text : front.text ≡ session_text number

second-of : (two : Option (Second FrontState (List ℕ))) (attached : Option ℕ) (p : StatePair) → p.two ≡ two → IsSecondOf two attached
    → ((k : ℕ) → attached ≡ Some k → IsSessionNumber k) → is_some two ≡ true → SecondIs attached p
second-of None attached p is known number there = let no : false ≡ true = there in absurd cc
second-of (Some v) None p is known number there = absurd known
second-of (Some v) (Some k) p is known number there = record {
  number = k;
  front = v;
  attached_is = refl;
  is_number = number k refl;
  stands = is;
  text = known;
}

none-of : (two : Option (Second FrontState (List ℕ))) (attached : Option ℕ) → IsSecondOf two attached → is_some two ≡ false
    → attached ≡ None
none-of None None known alone = refl
none-of None (Some k) known alone = absurd known
none-of (Some v) attached known alone = let no : true ≡ false = alone in absurd cc

module _ (up0 down0 up down : Pipe) (w : PairRun) (frames : List (List ℕ)) (e : PairEnds)
    (in_world : InPairWorld calm up0 down0 up down w frames e) where
  -- where a second front end stands, a session is attached
  pub second-is : is_there true e.fronts.pair ≡ true → SecondIs w.state.attached e.fronts.pair
  second-is there =
      second-of e.fronts.pair.two w.state.attached e.fronts.pair refl in_world.session.1
      (λ k is. number-of w.state.side w.state.second w.state.next k _ in_world.on_link.fits.front.two w.state.attached
      in_world.on_link.fits.fit.two is)
      there

  -- where none stands, none is
  pub none-attached : is_there true e.fronts.pair ≡ false → w.state.attached ≡ None
  none-attached alone = none-of e.fronts.pair.two w.state.attached in_world.session.1 alone

-- ---- ids

-- lines that may still come leave ids for what is sent next
pub ids-left : (n : PairSpent) (bytes : ℕ) → PairHasLeft n bytes → PairHasIds n
ids-left n bytes left =
    let asks = left.asks in
    let second_asks = left.second_asks in
    let targets = left.targets in
    let fetches = left.fetches in
    let second_fetches = left.second_fetches in
    record {
      asks = omega (arith, asks);
      second_asks = omega (arith, second_asks);
      fetches = omega (arith, fetches);
      second_fetches = omega (arith, second_fetches);
      targets = omega (arith, targets);
    }

-- so does a fetch, while no more are made than a run makes
pub ids-fetched : (second : Bool) (n : PairSpent) → fetches_on second n + 1 ≤ most_fetches → PairHasIds n
    → PairHasIds (one_fetch_on second n)
ids-fetched false n few ids = record {
  asks = ids.asks;
  second_asks = ids.second_asks;
  fetches = few;
  second_fetches = ids.second_fetches;
  targets = ids.targets;
}
ids-fetched true n few ids = record {
  asks = ids.asks;
  second_asks = ids.second_asks;
  fetches = ids.fetches;
  second_fetches = few;
  targets = ids.targets;
}

-- each front end has room then
pub world-ids : (n : PairSpent) (s : FrontsState) → NumberAsCounted n s → PairHasIds n → HaveRoom s
world-ids n s num ids =
    let next = num.asks in
    let few = ids.asks in
    let count = num.fetches in
    let fetches = ids.fetches in
    let target = num.targets in
    let targets = ids.targets in
    ((omega (arith, next, few), omega (arith, count, fetches)), by s.pair.two num.second, omega (arith, target, targets))
  where
    by : (two : Option (Second FrontState (List ℕ))) → SecondCounted n two → states.SecondHasRoom two
    by None counted = tt
    by (Some w) counted =
        let next = counted.0 in
        let few = ids.second_asks in
        let count = counted.1 in
        let fetches = ids.second_fetches in
        (omega (arith, next, few), omega (arith, count, fetches))

-- ---- the values of the front ends

-- the front ends of the run are those of the ends
pub world-fronts : (mode : PairMode) (up0 down0 up down : Pipe) (w : PairRun) (frames : List (List ℕ)) (e : PairEnds)
    (in_world : InPairWorld mode up0 down0 up down w frames e)
    → front_in pair_runner no_fronts w ≡ Ok (pair_value in_world.fronts_are.asked e.fronts.pair)
world-fronts mode up0 down0 up down w frames e in_world =
    as-folded (value_reads up_reads) (frames_of w.down.given).whole
    (asks_joined (join_pair (value_reads up_reads)) (first_pair (value_reads up_reads)) (frames_of (sent w.up)).whole)
    (pair_value in_world.fronts_are.asked e.fronts.pair) 0 in_world.fronts_are.value

-- ---- from calm on, and back

-- while nothing is on its way, both ways to speak of what fits hold
pub world-targeted : (up0 down0 up down : Pipe) (w : PairRun) (frames : List (List ℕ)) (e : PairEnds)
    → InPairWorld calm up0 down0 up down w frames e → InPairWorld targeted up0 down0 up down w frames e
world-targeted up0 down0 up down w frames e in_world =
    let on = in_world.on_link in
    record {
      on_link = record {
        up_is = on.up_is;
        down_is = on.down_is;
        back_is = on.back_is;
        up_left = on.up_left;
        down_left = on.down_left;
        fits = record {
          front = on.fits.front;
          is_fold = on.fits.is_fold;
          fit = is_calm on.fits.fit;
          up_whole = on.fits.up_whole;
          down_whole = on.fits.down_whole;
        };
      };
      usual = in_world.usual;
      stands = in_world.stands;
      fronts_are = in_world.fronts_are;
      numbered = in_world.numbered;
      session = tt;
      alive = in_world.alive;
      first_alive = in_world.first_alive;
      panels = in_world.panels;
      first_told = in_world.first_told;
      second_told = in_world.second_told;
    }
