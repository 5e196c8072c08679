-- A settle with its fetches over an honest link: the texts that the first front end lacks are fetched, and then those of the second.
use Rattle.std.proofs.Common.{◌≡◌, ℕ, ◌+◌, ◌*◌, ◌≤◌, ◌<◌, List, [], ◌∷◌, ◌++◌, length, arith}
use Rattle.std.proofs.Common.{Bool, true, false, cond, Option, Some, None, Result, Ok, Err, refl, sym, ◌∙◌, ap, subst}
use Rattle.std.specs.Result.{OnOk}
use Rattle.node_tree.specs.Numbers.{first_fetch, fetch_limit, counted_limit}
use Rattle.front_mirror.specs.declared.panels.Panel.{Ghosts}
use Rattle.front_mirror.specs.Sheets.{stale_of}
use Rattle.pipe_frames.specs.Pipe.{Pipe}
use Rattle.back_end.specs.Laws.{IsTurn}
use Rattle.session_runs.specs.Stream.{awaited}
use Rattle.session_runs.specs.Fold.{Fits, FitsWith}
use Rattle.session_runs.specs.Fetches.{Fetcher, FetchLaws, front_in, fetched, fetched_if, all_fetched, stale_in, refreshed}
use Rattle.session_runs.specs.Agreement.{IsAtRest, RunsAgree}
use Rattle.session_runs.specs.PairFit.{is_calm}
use Rattle.session_runs.proofs.FetchLemmas.{fit-rests, IsFetched, one-fetched, AreFetched, all-fetched}
use Rattle.multi_replay.specs.States.{is_there, front_meant}
use Rattle.multi_replay.specs.Laws.{pair_value}
use Rattle.inspect_world.specs.Fits.{most_sheets, most_fetches}
use Rattle.pair_world.specs.Shown.{IsSessionNumber}
use Rattle.pair_world.specs.PairRuns.{PairSpent, PairAudience, PairPlainlySpent, PairRun, pair_plainly, pair_settled, fetches_on}
use Rattle.pair_world.specs.PairFresh.{FrontValues, pair_runner, no_fronts, first_fetcher, second_fetcher, second_fetched}
use Rattle.pair_world.specs.PairFresh.{pair_unstyled, PairIsCalm, PairIsFit, PairHasLeft, PairRoom, SettleHasRoom, WhereTrue}
use Rattle.pair_world.specs.PairFresh.{FetchesHaveRoom, SecondFetchesHaveRoom, RefreshHasRoom}
use Rattle.pair_world.specs.PairHeld.{PairMode, calm}
use Rattle.pair_world.proofs.FetchBoth.{NextOfPair, no_other_fetches, first_laws, second_laws}
use Rattle.pair_world.proofs.FetchRuns.{fit_laws, attached-number, fetches-keep}
use Rattle.pair_world.proofs.PairKnown.{ids-left}
use Rattle.replay_parts.specs.declared.stop.Stop.{Stop}
use Rattle.replay_parts.specs.Moments.{Moment}
use Rattle.replay_parts.specs.Stops.{HasStopCause}
use Rattle.pair_replay.specs.declared.two_fronts.TwoFronts.{TwoFronts}
use Rattle.pair_replay.specs.PairAnswers.{RoomTold}
use Rattle.pair_replay.specs.Running.{InPairRun, PairSteps, PairGoes, PairFetches, PairHasIds, delivers_all, refreshing, fetching_all}
use Rattle.pair_replay.specs.Running.{fetcher_on, by_fetcher, room_by, stale_meant, KnownHasRoom, AllHaveRoom}
use Rattle.pair_replay.proofs.PairTheory.{fetcher-same, few-stale}
use Rattle.pair_replay.proofs.FetchSteps.{Meant, meant, none-meant}
use Rattle.pair_replay.proofs.SettleLemmas.{settled-still}
use Rattle.pair_replay.proofs.StopLemmas.{room-iff, room-stops}
use Rattle.pair_replay.proofs.LineRuns.{run-front}

-- ---- texts that are old

-- a run whose front end would fetch these sheets next
record MayFetch (f : Fetcher FrontValues PairSpent) (numbers : List ℕ) (v : PairRun) : Type 0 where
  fits : Fits pair_runner.take pair_runner.join PairIsFit no_fronts v
  rests : IsAtRest v
  front : FrontValues
  is : front_in pair_runner no_fronts v ≡ Ok front
  stale : f.stale front ≡ numbers
  few : f.count v.spent + length numbers ≤ most_fetches

-- where some are old, there is room for a step
abbrev RoomWhereOld : List ℕ → PairRun → Type 0
RoomWhereOld numbers v = (numbers ≡ [] → ⊥) → PairRoom v.state

-- what their fetches come to
record OldFetched (f : Fetcher FrontValues PairSpent) (numbers : List ℕ) (v : PairRun) : Type 0 where
  need : RoomWhereOld numbers v → AllHaveRoom f numbers v
  back : AllHaveRoom f numbers v → RoomWhereOld numbers v
  rests : RoomWhereOld numbers v → IsAtRest (all_fetched pair_runner f no_fronts numbers v)
  counts : RoomWhereOld numbers v → f.count (all_fetched pair_runner f no_fronts numbers v).spent ≡ f.count v.spent + length numbers

-- a run agrees with itself
abbrev agrees-self : (v : PairRun) (front : FrontValues) → front_in pair_runner no_fronts v ≡ Ok front
    → RunsAgree pair_runner pair_plainly no_fronts pair_unstyled v v
agrees-self v front is = record {
  state = refl;
  up = record { flying = refl; held = refl };
  down = record { flying = refl; held = refl };
  spent = refl;
  plain = front;
  fresh = front;
  plain_is = is;
  fresh_is = is;
  same = refl;
}

module _ {R : Type 0} (f : Fetcher FrontValues PairSpent) (rest : FrontValues → R)
    (laws : FetchLaws pair_runner PairRoom NextOfPair PairIsFit pair_plainly f pair_unstyled rest most_sheets most_fetches) where
  -- the first of them is known
  first-known : (number : ℕ) (numbers : List ℕ) (v : PairRun) → (m : MayFetch f (number ∷ numbers) v) → f.knows m.front number ≡ true
  first-known number numbers v m = laws.known m.front number numbers m.stale

  -- so it is fetched
  first-fetched : (number : ℕ) (numbers : List ℕ) (v : PairRun) → MayFetch f (number ∷ numbers) v
      → fetched_if pair_runner f (front_in pair_runner no_fronts v) number v ≡ fetched pair_runner f number v
  first-fetched number numbers v m =
      ap (λ r. fetched_if pair_runner f r number v) m.is
      ∙ ap (λ b. cond b (fetched pair_runner f number v) v) (first-known number numbers v m)

  -- and there has to be room for it
  first-room : (number : ℕ) (numbers : List ℕ) (v : PairRun) → MayFetch f (number ∷ numbers) v → PairRoom v.state
      → KnownHasRoom f number (front_in pair_runner no_fronts v) v
  first-room number numbers v m room =
      subst (λ r. KnownHasRoom f number r v) (sym m.is)
      (subst (λ b. WhereTrue b (PairRoom v.state)) (sym (first-known number numbers v m)) room)

  room-first : (number : ℕ) (numbers : List ℕ) (v : PairRun) → MayFetch f (number ∷ numbers) v
      → KnownHasRoom f number (front_in pair_runner no_fronts v) v → PairRoom v.state
  room-first number numbers v m room =
      subst (λ b. WhereTrue b (PairRoom v.state)) (first-known number numbers v m) (subst (λ r. KnownHasRoom f number r v) m.is room)

  -- after it the others are old, and the state is as it was
  record IsNext (numbers : List ℕ) (v after : PairRun) : Type 0 where
    may : MayFetch f numbers after
    state_is : after.state ≡ v.state

  then-next : (number : ℕ) (numbers : List ℕ) (v : PairRun) → MayFetch f (number ∷ numbers) v → PairRoom v.state
      → IsNext numbers v (fetched pair_runner f number v)
  then-next number numbers v m room =
      let few : f.count v.spent + length (number ∷ numbers) ≤ most_fetches = m.few in
      let one : IsFetched pair_runner PairRoom NextOfPair (λ n. IsTurn) PairIsFit fit_laws pair_plainly f pair_unstyled rest most_sheets
      most_fetches laws no_fronts v v (fetched pair_runner f number v) m.front numbers =
      one-fetched pair_runner PairRoom NextOfPair (λ n. IsTurn) PairIsFit fit_laws pair_plainly f pair_unstyled rest most_sheets
      most_fetches laws no_fronts v v number numbers m.fits m.rests (agrees-self v m.front m.is) m.stale (omega (arith, few)) room in
      let spent : f.count (fetched pair_runner f number v).spent ≡ f.count v.spent + 1 = one.fetches in
      record {
        may = record {
          fits = one.fits;
          rests = one.rests;
          front = one.agrees.fresh;
          is = one.agrees.fresh_is;
          stale = one.left;
          few = omega (arith, few, spent);
        };
        state_is = sym one.agrees.state;
      }

  -- room for one is room for all
  all-room : (numbers : List ℕ) (v : PairRun) → MayFetch f numbers v → PairRoom v.state → AllHaveRoom f numbers v
  all-room [] v m room = tt
  all-room (number ∷ numbers) v m room =
      let then : IsNext numbers v (fetched pair_runner f number v) = then-next number numbers v m room in (
        first-room number numbers v m room,
        subst (λ u. AllHaveRoom f numbers u) (sym (first-fetched number numbers v m))
            (all-room numbers (fetched pair_runner f number v) then.may (subst PairRoom (sym then.state_is) room)),
      )

  need-room : (numbers : List ℕ) (v : PairRun) → MayFetch f numbers v → RoomWhereOld numbers v → AllHaveRoom f numbers v
  need-room [] v m room = tt
  need-room (number ∷ numbers) v m room =
      all-room (number ∷ numbers) v m (room (λ none. let no : number ∷ numbers ≡ [] = none in absurd cc))

  back-room : (numbers : List ℕ) (v : PairRun) → MayFetch f numbers v → AllHaveRoom f numbers v → RoomWhereOld numbers v
  back-room [] v m room = λ some. absurd (some refl)
  back-room (number ∷ numbers) v m room = λ some. room-first number numbers v m room.0

  -- all of them, where there is room
  fetch-all : (numbers : List ℕ) (v : PairRun) → (m : MayFetch f numbers v) → PairRoom v.state
      → AreFetched pair_runner PairRoom NextOfPair (λ n. IsTurn) PairIsFit fit_laws pair_plainly f pair_unstyled rest most_sheets
      most_fetches laws no_fronts v v (all_fetched pair_runner f no_fronts numbers v) m.front numbers
  fetch-all numbers v m room =
      all-fetched pair_runner PairRoom NextOfPair (λ n. IsTurn) PairIsFit fit_laws pair_plainly f pair_unstyled rest most_sheets
      most_fetches laws no_fronts numbers v v m.fits m.rests (agrees-self v m.front m.is) m.stale m.few room

  all-rest : (numbers : List ℕ) (v : PairRun) → MayFetch f numbers v → RoomWhereOld numbers v
      → IsAtRest (all_fetched pair_runner f no_fronts numbers v)
  all-rest [] v m room = m.rests
  all-rest (number ∷ numbers) v m room =
      (fetch-all (number ∷ numbers) v m (room (λ none. let no : number ∷ numbers ≡ [] = none in absurd cc))).rests

  all-counted : (numbers : List ℕ) (v : PairRun) → MayFetch f numbers v → RoomWhereOld numbers v
      → f.count (all_fetched pair_runner f no_fronts numbers v).spent ≡ f.count v.spent + length numbers
  all-counted [] v m room = omega arith
  all-counted (number ∷ numbers) v m room =
      (fetch-all (number ∷ numbers) v m (room (λ none. let no : number ∷ numbers ≡ [] = none in absurd cc))).fetches

  old-fetched : (numbers : List ℕ) (v : PairRun) → MayFetch f numbers v → OldFetched f numbers v
  old-fetched numbers v m = record {
    need = need-room numbers v m;
    back = back-room numbers v m;
    rests = all-rest numbers v m;
    counts = all-counted numbers v m;
  }

-- of either front end
fetched-by : (second : Bool) (attached : Option ℕ) (f : Fetcher FrontValues PairSpent) (numbers : List ℕ) (v : PairRun)
    → fetcher_on second attached ≡ Some f → ((k : ℕ) → attached ≡ Some k → IsSessionNumber k) → MayFetch f numbers v
    → OldFetched f numbers v
fetched-by false attached f numbers v is small =
    subst (λ (g : Fetcher FrontValues PairSpent). MayFetch g numbers v → OldFetched g numbers v) (fetcher-same first_fetcher f is)
    (old-fetched first_fetcher no_other_fetches first_laws numbers v)
fetched-by true None f numbers v is small = absurd cc
fetched-by true (Some k) f numbers v is small =
    subst (λ (g : Fetcher FrontValues PairSpent). MayFetch g numbers v → OldFetched g numbers v) (fetcher-same (second_fetcher k) f is)
    (old-fetched (second_fetcher k) first_fetcher.stale (second_laws k (small k refl)) numbers v)

-- it counts its own
count-of : (second : Bool) (attached : Option ℕ) (f : Fetcher FrontValues PairSpent) (n : PairSpent) → fetcher_on second attached ≡ Some f
    → fetches_on second n ≡ f.count n
count-of false attached f n is =
    subst (λ (g : Fetcher FrontValues PairSpent). n.fetches ≡ g.count n) (fetcher-same first_fetcher f is) refl
count-of true None f n is = absurd cc
count-of true (Some k) f n is =
    subst (λ (g : Fetcher FrontValues PairSpent). n.second_fetches ≡ g.count n) (fetcher-same (second_fetcher k) f is) refl

-- ---- the fetches of one front end

-- the run with them
abbrev StaleFetched : Option (Fetcher FrontValues PairSpent) → PairRun → PairRun
StaleFetched o w =
    by_fetcher o (λ fetcher v. all_fetched pair_runner fetcher no_fronts (stale_in fetcher (front_in pair_runner no_fronts v)) v) w

-- and room for them
abbrev StaleHasRoom : Option (Fetcher FrontValues PairSpent) → PairRun → Type 0
StaleHasRoom o w = room_by o (λ fetcher v. FetchesHaveRoom fetcher v) w

module _ {P : Type 0} {g : Ghosts P} (old : Moment (TwoFronts P g)) (up0 down0 : Pipe) (w : PairRun) (rests : IsAtRest w)
    (run : InPairRun calm old.honest up0 down0 old.up old.down w old.ends) where
  -- what both front ends have come to
  abbrev values : FrontValues
  values = pair_value run.so_far.in_world.fronts_are.asked old.ends.fronts.pair

  front-is : front_in pair_runner no_fronts w ≡ Ok values
  front-is = run-front calm old.honest up0 down0 old.up old.down w old.ends run

  calm-fits : Fits pair_runner.take pair_runner.join PairIsCalm no_fronts w
  calm-fits =
      subst (λ ws. FitsWith pair_runner.take pair_runner.join PairIsCalm no_fronts w (ws ++ awaited w.up)) run.none_whole
      run.so_far.in_world.on_link.fits

  number-of : (k : ℕ) → w.state.attached ≡ Some k → IsSessionNumber k
  number-of k is = attached-number w.spent calm-fits.front w.state (awaited w.up) k (is_calm calm-fits.fit) is

  -- a fetcher may fetch what it lacks
  may-fetch : (f : Fetcher FrontValues PairSpent) (numbers : List ℕ) → f.stale values ≡ numbers
      → f.count w.spent + length numbers ≤ most_fetches → MayFetch f numbers w
  may-fetch f numbers stale few = record {
    fits = record {
      front = calm-fits.front;
      is_fold = calm-fits.is_fold;
      fit = is_calm calm-fits.fit;
      up_whole = calm-fits.up_whole;
      down_whole = calm-fits.down_whole;
    };
    rests = rests;
    front = values;
    is = front-is;
    stale = stale;
    few = few;
  }

  -- which are few
  few-meant : (second : Bool) (f : Fetcher FrontValues PairSpent) → fetcher_on second w.state.attached ≡ Some f
      → length (f.stale values) ≤ most_sheets
  few-meant second f is =
      few-stale second w.spent values w.state f (fit-rests pair_runner PairIsCalm no_fronts w values calm-fits rests front-is) is

  -- where there is room for them, what the first front end fetches leaves nothing on its way, and ids
  record FirstMade (after : PairRun) : Type 0 where
    still : IsAtRest after
    ids : PairHasIds after.spent
    second : after.spent.second_fetches ≡ w.spent.second_fetches

  -- as much was spent but for them
  plainly-same : (numbers : List ℕ)
      → (pair_plainly (all_fetched pair_runner first_fetcher no_fronts numbers w).spent ≡ pair_plainly w.spent)
      × ((all_fetched pair_runner first_fetcher no_fronts numbers w).spent.second_fetches ≡ w.spent.second_fetches)
  plainly-same numbers =
      fetches-keep (λ (n : PairSpent) (told : PairAudience). (pair_plainly n ≡ pair_plainly w.spent)
      × (n.second_fetches ≡ w.spent.second_fetches)) first_fetcher (λ n told h. h) numbers w (refl, refl)

  first-made : PairHasIds w.spent → w.spent.fetches + most_sheets ≤ most_fetches → FetchesHaveRoom first_fetcher w
      → FirstMade (StaleFetched (Some first_fetcher) w)
  first-made ids left room =
      let numbers = first_fetcher.stale values in
      let few : length numbers ≤ most_sheets = few-meant false first_fetcher refl in
      let t : OldFetched first_fetcher numbers w =
      old-fetched first_fetcher no_other_fetches first_laws numbers w
      (may-fetch first_fetcher numbers refl (omega (arith, few, left))) in
      let old_room : RoomWhereOld numbers w =
      subst (λ r. RoomWhereOld (stale_in first_fetcher r) w) front-is room in
      let after : PairRun = all_fetched pair_runner first_fetcher no_fronts numbers w in
      let same = plainly-same numbers in
      let spent : after.spent.fetches ≡ w.spent.fetches + length numbers = t.counts old_room in
      subst (λ r. FirstMade (all_fetched pair_runner first_fetcher no_fronts (stale_in first_fetcher r) w)) (sym front-is) (record {
        still = t.rests old_room;
        ids = record {
          asks = subst (λ (k : PairPlainlySpent). k.asks + 1 < first_fetch) (sym same.0) ids.asks;
          second_asks = subst (λ (k : PairPlainlySpent). k.second_asks + 1 < first_fetch) (sym same.0) ids.second_asks;
          fetches = omega (arith, few, left, spent);
          second_fetches = subst (λ n. n ≤ most_fetches) (sym same.1) ids.second_fetches;
          targets = subst (λ (k : PairPlainlySpent). fetch_limit + k.targets < counted_limit) (sym same.0) ids.targets;
        };
        second = same.1;
      })

  module _ (second : Bool) (new : Moment (TwoFronts P g)) (result : Result (Unit {0}) Stop) (ids : PairHasIds w.spent)
      (left : fetches_on second w.spent + most_sheets ≤ most_fetches) where
    -- where these sheets are fetched
    abbrev Fetched : List ℕ → Type 0
    Fetched numbers = PairFetches second (length numbers) old new result (fetching_all second numbers)

    -- what a call that fetches what is old comes to
    abbrev Gone : Option (Fetcher FrontValues PairSpent) → Type 0
    Gone o =
        RoomTold result (StaleHasRoom o w)
        × OnOk result (InPairRun calm new.honest up0 down0 new.up new.down (StaleFetched o w) new.ends)

    -- so far as the front end that is meant stands
    there-goes : is_there second old.ends.fronts.pair ≡ true → Fetched (stale_meant second old.ends.fronts.pair)
        → Gone (fetcher_on second w.state.attached)
    there-goes there fetches =
        let p = old.ends.fronts.pair in
        let m : Meant second run.so_far.in_world.fronts_are.asked p w.state.attached =
        meant second run.so_far.in_world.fronts_are.asked p w.state.attached there run.so_far.in_world.session.1 in
        let f = m.fetcher in
        let numbers = f.stale values in
        let same : stale_meant second p ≡ numbers =
        ap (λ b. cond b (stale_of (front_meant second p).value.sheets) []) there ∙ sym m.stale in
        let few : length numbers ≤ most_sheets = few-meant second f m.is in
        let counted : fetches_on second w.spent ≡ f.count w.spent = count-of second w.state.attached f w.spent m.is in
        let t : OldFetched f numbers w =
        fetched-by second w.state.attached f numbers w m.is number-of (may-fetch f numbers refl (omega (arith, few, left, counted))) in
        let made = subst (λ o. RoomTold result (room_by o (λ fetcher v. AllHaveRoom fetcher numbers v) w)
        × OnOk result (InPairRun calm new.honest up0 down0 new.up new.down
        (by_fetcher o (λ fetcher v. all_fetched pair_runner fetcher no_fronts numbers v) w) new.ends)) m.is
        (subst Fetched same fetches up0 down0 w ids (omega (arith, few, left)) (refl, rests) run) in
        subst Gone (sym m.is) (
          subst (λ r. RoomTold result (RoomWhereOld (stale_in f r) w)) (sym front-is)
              (room-iff result (AllHaveRoom f numbers w) (RoomWhereOld numbers w) t.need t.back made.0),
          subst (λ r. OnOk result (InPairRun calm new.honest up0 down0 new.up new.down
              (all_fetched pair_runner f no_fronts (stale_in f r) w) new.ends)) (sym front-is) made.1,
        )

    -- where it does not, nothing is fetched
    alone-goes : is_there second old.ends.fronts.pair ≡ false → Fetched (stale_meant second old.ends.fronts.pair)
        → Gone (fetcher_on second w.state.attached)
    alone-goes alone fetches =
        let p = old.ends.fronts.pair in
        let none = none-meant second p w.state.attached alone run.so_far.in_world.session.1 in
        let same : stale_meant second p ≡ [] = ap (λ b. cond b (stale_of (front_meant second p).value.sheets) []) alone in
        let made = subst (λ o. RoomTold result (room_by o (λ fetcher v. AllHaveRoom fetcher [] v) w)
        × OnOk result (InPairRun calm new.honest up0 down0 new.up new.down
        (by_fetcher o (λ fetcher v. all_fetched pair_runner fetcher no_fronts [] v) w) new.ends)) none
        (subst Fetched same fetches up0 down0 w ids (omega (arith, left)) (refl, rests) run) in
        subst Gone (sym none) made

    stale-goes : Fetched (stale_meant second old.ends.fronts.pair) → Gone (fetcher_on second w.state.attached)
    stale-goes fetches = by (is_there second old.ends.fronts.pair) refl where
      by : (b : Bool) → is_there second old.ends.fronts.pair ≡ b → Gone (fetcher_on second w.state.attached)
      by true there = there-goes there fetches
      by false alone = alone-goes alone fetches

-- ---- a settle

-- the fetches of the second front end, by the session that is attached
second-run : (o : Option ℕ) (w : PairRun) → StaleFetched (fetcher_on true o) w ≡ second_fetched o w
second-run None w = refl
second-run (Some k) w = refl

room-second : (o : Option ℕ) (w : PairRun) → StaleHasRoom (fetcher_on true o) w → SecondFetchesHaveRoom o w
room-second None w room = room
room-second (Some k) w room = room

second-room : (o : Option ℕ) (w : PairRun) → SecondFetchesHaveRoom o w → StaleHasRoom (fetcher_on true o) w
second-room None w room = room
second-room (Some k) w room = room

-- all that was on its way is delivered
record IsDelivered {P : Type 0} {g : Ghosts P} (up0 down0 : Pipe) (w : PairRun) (now : Moment (TwoFronts P g)) : Type 0 where
  room : SettleHasRoom w
  run : InPairRun calm now.honest up0 down0 now.up now.down (pair_settled w) now.ends
  rests : IsAtRest (pair_settled w)
  ids : PairHasIds w.spent

delivered : {P : Type 0} {g : Ghosts P} (old now : Moment (TwoFronts P g)) → PairGoes {T = Unit {0}} old now (Ok tt) delivers_all
    → (mode : PairMode) (up0 down0 : Pipe) (w : PairRun) → PairHasLeft w.spent 0
    → InPairRun mode old.honest up0 down0 old.up old.down w old.ends → IsDelivered up0 down0 w now
delivered old now delivers mode up0 down0 w left run =
    let done = delivers mode up0 down0 w tt run in
    record {
      room = done.0;
      run = done.1;
      rests = settled-still now.honest up0 down0 now.up now.down w now.ends calm done.1;
      ids = ids-left w.spent 0 left;
    }

module _ {P : Type 0} {g : Ghosts P} (old mid : Moment (TwoFronts P g)) where
  -- the first front end fetches these
  abbrev FirstFetches : Moment (TwoFronts P g) → Result (Unit {0}) Stop → Type 0
  FirstFetches late result =
      PairFetches false (length (stale_meant false mid.ends.fronts.pair)) mid late result
      (fetching_all false (stale_meant false mid.ends.fronts.pair))

  -- all was delivered, and both fetched
  pub settle-goes : (result : Result (Unit {0}) Stop) (late new : Moment (TwoFronts P g))
      → PairGoes {T = Unit {0}} old mid (Ok tt) delivers_all
      → FirstFetches late (Ok tt)
      → PairFetches true (length (stale_meant true late.ends.fronts.pair)) late new result
      (fetching_all true (stale_meant true late.ends.fronts.pair))
      → PairSteps 0 old new result refreshing
  settle-goes result late new delivers one two = λ mode up0 down0 w left may run.
      let d : IsDelivered up0 down0 w mid = delivered old mid delivers mode up0 down0 w left run in
      let w1 : PairRun = pair_settled w in
      let w2 : PairRun = refreshed pair_runner first_fetcher no_fronts w in
      let fetches : w.spent.fetches + (0 + 1) * most_sheets ≤ most_fetches = left.fetches in
      let second_fetches : w.spent.second_fetches + (0 + 1) * most_sheets ≤ most_fetches = left.second_fetches in
      let few : w.spent.fetches + most_sheets ≤ most_fetches = omega (arith, fetches) in
      let first = stale-goes mid up0 down0 w1 d.rests d.run false late (Ok tt) d.ids few one in
      let made : FirstMade mid up0 down0 w1 d.rests d.run w2 = first-made mid up0 down0 w1 d.rests d.run d.ids few first.0 in
      let spent : w2.spent.second_fetches ≡ w.spent.second_fetches = made.second in
      let second = stale-goes late up0 down0 w2 made.still first.1 true new result made.ids (omega (arith, second_fetches, spent)) two in (
        room-iff result (StaleHasRoom (fetcher_on true w2.state.attached) w2) (RefreshHasRoom w)
            (λ room. second-room w2.state.attached w2 room.2) (λ room. (d.room, first.0, room-second w2.state.attached w2 room)) second.0,
        subst (λ u. OnOk result (InPairRun calm new.honest up0 down0 new.up new.down u new.ends))
            (second-run w2.state.attached w2) second.1,
      )

  -- the first did not fetch all
  pub settle-amid : (stop : Stop) (late : Moment (TwoFronts P g)) (link0 link1 : ℕ)
      → HasStopCause {T = Unit {0}} 0 0 link0 link1 (Err stop) → PairGoes {T = Unit {0}} old mid (Ok tt) delivers_all
      → FirstFetches late (Err stop)
      → PairSteps {T = Unit {0}} 0 old late (Err stop) refreshing
  settle-amid stop late link0 link1 cause delivers one = λ mode up0 down0 w left may run.
      let d : IsDelivered up0 down0 w mid = delivered old mid delivers mode up0 down0 w left run in
      let w1 : PairRun = pair_settled w in
      let fetches : w.spent.fetches + (0 + 1) * most_sheets ≤ most_fetches = left.fetches in
      let first = stale-goes mid up0 down0 w1 d.rests d.run false late (Err stop) d.ids (omega (arith, fetches)) one in
      (room-stops stop 0 0 link0 link1 (FetchesHaveRoom first_fetcher w1) (RefreshHasRoom w) cause (λ room. room.1) first.0, tt)

  -- nor was all delivered
  pub settle-unsent : (stop : Stop) (link0 link1 : ℕ) → HasStopCause {T = Unit {0}} 0 0 link0 link1 (Err stop)
      → PairGoes {T = Unit {0}} old mid (Err stop) delivers_all → PairSteps {T = Unit {0}} 0 old mid (Err stop) refreshing
  settle-unsent stop link0 link1 cause delivers = λ mode up0 down0 w left may run.
      (room-stops stop 0 0 link0 link1 (SettleHasRoom w) (RefreshHasRoom w) cause (λ room. room.0) (delivers mode up0 down0 w tt run).0, tt)
