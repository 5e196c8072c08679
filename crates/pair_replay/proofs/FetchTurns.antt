-- The fetches of a settle over an honest link, one after the other: each finds the session of the start, with nothing on its way.
use Rattle.std.proofs.Common.{◌≡◌, ℕ, suc, ◌+◌, ◌^◌, ◌<◌, ◌≤◌, List, [], ◌∷◌, length, drop, drop-cons, get_or, add-one, codes, arith}
use Rattle.std.proofs.Common.{Bool, true, false, cond, Option, Some, None, Result, Ok, Err, refl, ◌∙◌, ap, subst}
use Rattle.std.specs.Result.{OnOk}
use Rattle.front_mirror.specs.declared.panels.Panel.{Ghosts}
use Rattle.front_mirror.specs.declared.faults.FrontKind.{FrontKind}
use Rattle.front_mirror.specs.Front.{fetch_params}
use Rattle.node_tree.specs.Numbers.{first_fetch}
use Rattle.pipe_frames.specs.Pipe.{Pipe}
use Rattle.session_mux.specs.Sessions.{session_text}
use Rattle.session_runs.specs.World.{steps, sent_up}
use Rattle.session_runs.specs.Fetches.{Fetcher, front_in, fetched, fetched_if, all_fetched}
use Rattle.session_runs.specs.Agreement.{IsAtRest}
use Rattle.session_runs.specs.Pairs.{way_step, session_step, second_step, answers_with, pair_step}
use Rattle.session_runs.specs.PairFit.{is_calm}
use Rattle.session_runs.proofs.FetchLemmas.{arriving-one}
use Rattle.inspect_world.specs.Fits.{most_fetches}
use Rattle.pair_world.specs.Clients.{pair_reads, client_steps}
use Rattle.pair_world.specs.Shown.{IsSessionNumber}
use Rattle.pair_world.specs.PairFits.{PageSessions}
use Rattle.pair_world.specs.PairRuns.{PairSpent, PairRun, fetches_on}
use Rattle.pair_world.specs.PairFresh.{FrontValues, pair_runner, no_fronts, first_fetcher, second_fetcher}
use Rattle.pair_world.specs.PairHeld.{calm}
use Rattle.pair_world.proofs.WayLemmas.{asks-are-the-roots, asks-are-the-sessions}
use Rattle.pair_world.proofs.DeedLemmas.{session-command}
use Rattle.pair_world.proofs.FetchRuns.{attached-number}
use Rattle.pair_world.proofs.PairKnown.{ids-fetched}
use Rattle.replay_parts.specs.declared.stop.Stop.{Stop}
use Rattle.replay_parts.specs.Moments.{Moment}
use Rattle.replay_parts.specs.Stops.{HasStopCause}
use Rattle.pair_replay.specs.declared.two_fronts.TwoFronts.{TwoFronts}
use Rattle.pair_replay.specs.PairAnswers.{RoomTold}
use Rattle.pair_replay.specs.Running.{InPairRun, PairFetches, PairHasIds, fetching, fetcher_on, by_fetcher, room_by, KnownHasRoom}
use Rattle.pair_replay.specs.Running.{AllHaveRoom}
use Rattle.pair_replay.proofs.AnySends.{fetch-command}
use Rattle.pair_replay.proofs.PairTheory.{fetcher-same, fetch-letters}
use Rattle.pair_replay.proofs.SettleLemmas.{settled-still}
use Rattle.pair_replay.proofs.StopLemmas.{room-stops}

-- ---- a fetch leaves the session

-- the step on a frame with a session
session-keeps : (attached : Option ℕ) (t text : List ℕ) (s : PageSessions)
    → (session_step pair_reads client_steps attached t text s).state.attached ≡ s.attached
session-keeps None t text s = refl
session-keeps (Some k) t text s = by (pair_reads.same (client_steps.text_of k) t) where
  by : (b : Bool)
      → (cond b (second_step pair_reads client_steps k text s)
      (answers_with pair_reads client_steps (client_steps.unknown_reply text) s)).state.attached ≡ s.attached
  by true = refl
  by false = refl

-- on a fetch of the first front end
first-keeps : (count number : ℕ) (s : PageSessions) → count + 1 ≤ most_fetches → number < 2 ^ 64
    → (pair_step pair_reads client_steps s (first_fetcher.text count number)).state.attached ≡ s.attached
first-keeps count number s few fits =
    ap (λ way. (way_step pair_reads client_steps way s).state.attached)
    (asks-are-the-roots (first_fetch + count) (codes "CSS.getStyleSheetText") (Some (fetch_params number))
    (fetch-command count number (omega (arith, few)) fits) refl)

-- and of the second
second-keeps : (k count number : ℕ) (s : PageSessions) → IsSessionNumber k → count + 1 ≤ most_fetches → number < 2 ^ 64
    → (pair_step pair_reads client_steps s ((second_fetcher k).text count number)).state.attached ≡ s.attached
second-keeps k count number s small few fits =
    let id = first_fetch + count in
    let method = codes "CSS.getStyleSheetText" in
    let plain = fetch-command count number (omega (arith, few)) fits in
    ap (λ way. (way_step pair_reads client_steps way s).state.attached)
    (asks-are-the-sessions id method (Some (fetch_params number)) (session_text k)
    (session-command id k method (Some (fetch_params number)) small plain) refl)
    ∙ session-keeps s.attached (session_text k) (first_fetcher.text count number) s

-- on one of the front end that is meant
step-keeps : (second : Bool) (attached : Option ℕ) (f : Fetcher FrontValues PairSpent) (n : PairSpent) (number : ℕ) (s : PageSessions)
    → fetcher_on second attached ≡ Some f → ((k : ℕ) → attached ≡ Some k → IsSessionNumber k) → fetches_on second n + 1 ≤ most_fetches
    → number < 2 ^ 64
    → (pair_step pair_reads client_steps s (f.text (f.count n) number)).state.attached ≡ s.attached
step-keeps false attached f n number s is small few fits =
    subst
    (λ (g : Fetcher FrontValues PairSpent). (pair_step pair_reads client_steps s (g.text (g.count n) number)).state.attached ≡ s.attached)
    (fetcher-same first_fetcher f is) (first-keeps n.fetches number s few fits)
step-keeps true None f n number s is small few fits = absurd cc
step-keeps true (Some k) f n number s is small few fits =
    subst
    (λ (g : Fetcher FrontValues PairSpent). (pair_step pair_reads client_steps s (g.text (g.count n) number)).state.attached ≡ s.attached)
    (fetcher-same (second_fetcher k) f is) (second-keeps k n.second_fetches number s (small k refl) few fits)

-- ---- what a fetch spends

-- it is counted
pub fetch-counts : (second : Bool) (attached : Option ℕ) (f : Fetcher FrontValues PairSpent) (n : PairSpent)
    → fetcher_on second attached ≡ Some f
    → fetches_on second (f.one_more n) ≡ fetches_on second n + 1
fetch-counts false attached f n is =
    subst (λ (g : Fetcher FrontValues PairSpent). fetches_on false (g.one_more n) ≡ n.fetches + 1) (fetcher-same first_fetcher f is) refl
fetch-counts true None f n is = absurd cc
fetch-counts true (Some k) f n is =
    subst (λ (g : Fetcher FrontValues PairSpent). fetches_on true (g.one_more n) ≡ n.second_fetches + 1)
    (fetcher-same (second_fetcher k) f is) refl

-- there are ids still
fetch-ids : (second : Bool) (attached : Option ℕ) (f : Fetcher FrontValues PairSpent) (n : PairSpent) → fetcher_on second attached ≡ Some f
    → fetches_on second n + 1 ≤ most_fetches → PairHasIds n → PairHasIds (f.one_more n)
fetch-ids false attached f n is few ids =
    subst (λ (g : Fetcher FrontValues PairSpent). PairHasIds (g.one_more n)) (fetcher-same first_fetcher f is) (ids-fetched false n few ids)
fetch-ids true None f n is few ids = absurd cc
fetch-ids true (Some k) f n is few ids =
    subst (λ (g : Fetcher FrontValues PairSpent). PairHasIds (g.one_more n)) (fetcher-same (second_fetcher k) f is)
    (ids-fetched true n few ids)

-- ---- a fetch that may be passed over

-- after a fetch, or none: nothing is on its way, there are ids still, one was spent at most, and the session is the same
record IsAfter (second : Bool) (v after : PairRun) : Type 0 where
  rests : IsAtRest after
  ids : PairHasIds after.spent
  few : fetches_on second after.spent ≤ fetches_on second v.spent + 1
  same : after.state.attached ≡ v.state.attached

-- where one of the list stands, it is the first of what is left
split : (numbers : List ℕ) (i : ℕ) → i < length numbers → drop i numbers ≡ get_or numbers i 0 ∷ drop (i + 1) numbers
split numbers i h = rw (add-one, drop-cons numbers i 0) refl

module _ {P : Type 0} {g : Ghosts P} (second : Bool) where
  module _ (f : Fetcher FrontValues PairSpent) (number : ℕ) (up0 down0 : Pipe) (v : PairRun) (new : Moment (TwoFronts P g))
      (is : fetcher_on second v.state.attached ≡ Some f) (small : (k : ℕ) → v.state.attached ≡ Some k → IsSessionNumber k)
      (rests : IsAtRest v) (ids : PairHasIds v.spent) (few : fetches_on second v.spent + 1 ≤ most_fetches) (fits : number < 2 ^ 64) where
    -- the session after a fetch
    session-same : (fetched pair_runner f number v).state.attached ≡ v.state.attached
    session-same =
        ap (λ frames. (steps (pair_step pair_reads client_steps) v.state frames).state.attached)
        (arriving-one (f.text (f.count v.spent) number) v.up (fetch-letters second v.state.attached f v.spent number is few) rests.up)
        ∙ step-keeps second v.state.attached f v.spent number v.state is small few fits

    after-fetch : InPairRun calm new.honest up0 down0 new.up new.down (fetched pair_runner f number v) new.ends
        → IsAfter second v (fetched pair_runner f number v)
    after-fetch run = record {
      rests =
          settled-still new.honest up0 down0 new.up new.down (sent_up (f.text (f.count v.spent) number) f.one_more v) new.ends calm run;
      ids = fetch-ids second v.state.attached f v.spent is few ids;
      few = let e = fetch-counts second v.state.attached f v.spent is in omega (arith, e);
      same = session-same;
    }

    after-none : IsAfter second v v
    after-none = record { rests = rests; ids = ids; few = omega arith; same = refl }

    after-known : (known : Bool)
        → InPairRun calm new.honest up0 down0 new.up new.down (cond known (fetched pair_runner f number v) v) new.ends
        → IsAfter second v (cond known (fetched pair_runner f number v) v)
    after-known true run = after-fetch run
    after-known false run = after-none

    after-one : (r : Result FrontValues FrontKind)
        → InPairRun calm new.honest up0 down0 new.up new.down (fetched_if pair_runner f r number v) new.ends
        → IsAfter second v (fetched_if pair_runner f r number v)
    after-one (Ok p) run = after-known (f.knows p number) run
    after-one (Err fault) run = after-none

  -- ---- one after the other

  -- Some sheets are left to fetch: where the run is; it goes to where it would have gone, and room for all is room for
  -- these.
  pub record Fetching (o : Option (Fetcher FrontValues PairSpent)) (target : PairRun) (Room : Type 0) (up0 down0 : Pipe) (numbers : List ℕ)
      (now : Moment (TwoFronts P g)) : Type 0 where
    pub world : PairRun
    pub in_run : InPairRun calm now.honest up0 down0 now.up now.down world now.ends
    pub is : fetcher_on second world.state.attached ≡ o
    pub rests : IsAtRest world
    pub ids : PairHasIds world.spent
    pub few : fetches_on second world.spent + length numbers ≤ most_fetches
    pub goes : by_fetcher o (λ fetcher v. all_fetched pair_runner fetcher no_fronts numbers v) world ≡ target
    pub room : room_by o (λ fetcher v. AllHaveRoom fetcher numbers v) world → Room
    pub need : Room → room_by o (λ fetcher v. AllHaveRoom fetcher numbers v) world

  -- the number of the session that is attached
  number-of : (up0 down0 : Pipe) (w : PairRun) (now : Moment (TwoFronts P g))
      → InPairRun calm now.honest up0 down0 now.up now.down w now.ends
      → (k : ℕ) → w.state.attached ≡ Some k → IsSessionNumber k
  number-of up0 down0 w now run k is =
      let fits = run.so_far.in_world.on_link.fits in attached-number w.spent fits.front w.state _ k (is_calm fits.fit) is

  -- what one fetch came to
  one-goes : (o : Option (Fetcher FrontValues PairSpent)) (target : PairRun) (Room : Type 0) (up0 down0 : Pipe) (number : ℕ)
      (numbers : List ℕ)
      (old new : Moment (TwoFronts P g)) (result : Result (Unit {0}) Stop)
      → (going : Fetching o target Room up0 down0 (number ∷ numbers) old)
      → PairFetches second 1 old new result (fetching second number)
      → RoomTold result (room_by o (λ fetcher v. KnownHasRoom fetcher number (front_in pair_runner no_fronts v) v) going.world)
      × OnOk result (InPairRun calm new.honest up0 down0 new.up new.down
      (by_fetcher o (λ fetcher v. fetched_if pair_runner fetcher (front_in pair_runner no_fronts v) number v) going.world) new.ends)
  one-goes o target Room up0 down0 number numbers old new result going fetches =
      let few : fetches_on second going.world.spent + suc (length numbers) ≤ most_fetches = going.few in
      subst (λ o. RoomTold result (room_by o (λ fetcher v. KnownHasRoom fetcher number (front_in pair_runner no_fronts v) v) going.world)
      × OnOk result (InPairRun calm new.honest up0 down0 new.up new.down
      (by_fetcher o (λ fetcher v. fetched_if pair_runner fetcher (front_in pair_runner no_fronts v) number v) going.world)
      new.ends)) going.is
      (fetches up0 down0 going.world going.ids (omega (arith, few)) (refl, going.rests) going.in_run)

  -- the next of them was fetched, or passed over
  next-fetched : (o : Option (Fetcher FrontValues PairSpent)) (target : PairRun) (Room : Type 0) (up0 down0 : Pipe) (number : ℕ)
      (numbers : List ℕ) (old new : Moment (TwoFronts P g)) → number < 2 ^ 64
      → Fetching o target Room up0 down0 (number ∷ numbers) old
      → PairFetches {T = Unit {0}} second 1 old new (Ok tt) (fetching second number)
      → Fetching o target Room up0 down0 numbers new
  next-fetched None target Room up0 down0 number numbers old new fits going fetches =
      let few : fetches_on second going.world.spent + suc (length numbers) ≤ most_fetches = going.few in
      let done = one-goes None target Room up0 down0 number numbers old new (Ok tt) going fetches in
      record {
        world = going.world;
        in_run = done.1;
        is = going.is;
        rests = going.rests;
        ids = going.ids;
        few = omega (arith, few);
        goes = going.goes;
        room = going.room;
        need = going.need;
      }
  next-fetched (Some f) target Room up0 down0 number numbers old new fits going fetches =
      let v = going.world in
      let few : fetches_on second v.spent + suc (length numbers) ≤ most_fetches = going.few in
      let done = one-goes (Some f) target Room up0 down0 number numbers old new (Ok tt) going fetches in
      let after : PairRun = fetched_if pair_runner f (front_in pair_runner no_fronts v) number v in
      let then : IsAfter second v after =
      after-one f number up0 down0 v new going.is (number-of up0 down0 v old going.in_run) going.rests going.ids (omega (arith, few)) fits
      (front_in pair_runner no_fronts v) done.1 in
      let spent : fetches_on second after.spent ≤ fetches_on second v.spent + 1 = then.few in
      record {
        world = after;
        in_run = done.1;
        is = ap (fetcher_on second) then.same ∙ going.is;
        rests = then.rests;
        ids = then.ids;
        few = omega (arith, few, spent);
        goes = going.goes;
        room = λ all. going.room (done.0, all);
        need = λ room. (going.need room).1;
      }

  -- or the run stopped there
  next-stops : (o : Option (Fetcher FrontValues PairSpent)) (target : PairRun) (Room : Type 0) (up0 down0 : Pipe) (number : ℕ)
      (numbers : List ℕ) (old new : Moment (TwoFronts P g)) (stop : Stop) (link0 link1 : ℕ)
      → HasStopCause {T = Unit {0}} 0 0 link0 link1 (Err stop)
      → Fetching o target Room up0 down0 (number ∷ numbers) old
      → PairFetches {T = Unit {0}} second 1 old new (Err stop) (fetching second number)
      → RoomTold {T = Unit {0}} (Err stop) Room
  next-stops None target Room up0 down0 number numbers old new stop link0 link1 cause going fetches =
      room-stops stop 0 0 link0 link1 _ Room cause (λ room. tt)
      (one-goes None target Room up0 down0 number numbers old new (Err stop) going fetches).0
  next-stops (Some f) target Room up0 down0 number numbers old new stop link0 link1 cause going fetches =
      room-stops stop 0 0 link0 link1 _ Room cause (λ room. (going.need room).0)
      (one-goes (Some f) target Room up0 down0 number numbers old new (Err stop) going fetches).0

  -- ---- in the list that is gone through

  pub fetch-turn : (o : Option (Fetcher FrontValues PairSpent)) (target : PairRun) (Room : Type 0) (up0 down0 : Pipe) (numbers : List ℕ)
      (i : ℕ) (old new : Moment (TwoFronts P g)) → i < length numbers → get_or numbers i 0 < 2 ^ 64
      → Fetching o target Room up0 down0 (drop i numbers) old
      → PairFetches {T = Unit {0}} second 1 old new (Ok tt) (fetching second (get_or numbers i 0))
      → Fetching o target Room up0 down0 (drop (i + 1) numbers) new
  fetch-turn o target Room up0 down0 numbers i old new h fits going fetches =
      next-fetched o target Room up0 down0 (get_or numbers i 0) (drop (i + 1) numbers) old new fits
      (subst (λ ns. Fetching o target Room up0 down0 ns old) (split numbers i h) going) fetches

  pub fetch-stops : (o : Option (Fetcher FrontValues PairSpent)) (target : PairRun) (Room : Type 0) (up0 down0 : Pipe) (numbers : List ℕ)
      (i : ℕ) (old new : Moment (TwoFronts P g)) (stop : Stop) (link0 link1 : ℕ) → i < length numbers
      → HasStopCause {T = Unit {0}} 0 0 link0 link1 (Err stop)
      → Fetching o target Room up0 down0 (drop i numbers) old
      → PairFetches {T = Unit {0}} second 1 old new (Err stop) (fetching second (get_or numbers i 0))
      → RoomTold {T = Unit {0}} (Err stop) Room
  fetch-stops o target Room up0 down0 numbers i old new stop link0 link1 h cause going fetches =
      next-stops o target Room up0 down0 (get_or numbers i 0) (drop (i + 1) numbers) old new stop link0 link1 cause
      (subst (λ ns. Fetching o target Room up0 down0 ns old) (split numbers i h) going) fetches

  -- no sheet is left
  none-left : (o : Option (Fetcher FrontValues PairSpent)) (target : PairRun) (Room : Type 0) (up0 down0 : Pipe)
      (now : Moment (TwoFronts P g))
      → Fetching o target Room up0 down0 [] now
      → Room × InPairRun calm now.honest up0 down0 now.up now.down target now.ends
  none-left None target Room up0 down0 now going =
      (going.room tt, subst (λ w. InPairRun calm now.honest up0 down0 now.up now.down w now.ends) going.goes going.in_run)
  none-left (Some f) target Room up0 down0 now going =
      (going.room tt, subst (λ w. InPairRun calm now.honest up0 down0 now.up now.down w now.ends) going.goes going.in_run)

  pub fetch-end : (o : Option (Fetcher FrontValues PairSpent)) (target : PairRun) (Room : Type 0) (up0 down0 : Pipe) (numbers : List ℕ)
      (now : Moment (TwoFronts P g)) → numbers ≡ [] → Fetching o target Room up0 down0 numbers now
      → Room × InPairRun calm now.honest up0 down0 now.up now.down target now.ends
  fetch-end o target Room up0 down0 numbers now none going =
      none-left o target Room up0 down0 now (subst (λ ns. Fetching o target Room up0 down0 ns now) none going)

  -- all of them are left
  pub fetch-start : (numbers : List ℕ) (up0 down0 : Pipe) (w : PairRun) (now : Moment (TwoFronts P g)) → PairHasIds w.spent
      → fetches_on second w.spent + length numbers ≤ most_fetches → IsAtRest w
      → InPairRun calm now.honest up0 down0 now.up now.down w now.ends
      → Fetching (fetcher_on second w.state.attached)
      (by_fetcher (fetcher_on second w.state.attached) (λ fetcher v. all_fetched pair_runner fetcher no_fronts numbers v) w)
      (room_by (fetcher_on second w.state.attached) (λ fetcher v. AllHaveRoom fetcher numbers v) w) up0 down0 numbers now
  fetch-start numbers up0 down0 w now ids few rests run = record {
    world = w;
    in_run = run;
    is = refl;
    rests = rests;
    ids = ids;
    few = few;
    goes = refl;
    room = λ room. room;
    need = λ room. room;
  }
