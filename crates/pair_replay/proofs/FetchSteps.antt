-- The fetches of a settle over an honest link, for either front end: each is sent and delivered where its sheet is still known.
use Rattle.std.proofs.Common.{◌≡◌, ℕ, ◌+◌, List, [], Bool, true, false, ◌&&◌, cond, is_some, Option, Some, None}
use Rattle.std.proofs.Common.{refl, sym, ◌∙◌, ap, subst, Result, Ok, Err}
use Rattle.std.proofs.lemmas.Slice.Eq.{bytes_eq-Decides}
use Rattle.std.specs.Prelude.{⊤}
use Rattle.std.specs.Result.{OnOk}
use Rattle.front_mirror.specs.declared.panels.Panel.{Ghosts}
use Rattle.front_mirror.specs.declared.replies.Ask.{Ask}
use Rattle.front_mirror.specs.Front.{FrontState}
use Rattle.front_mirror.specs.Sheets.{has_sheet, stale_of}
use Rattle.session_mux.specs.Sessions.{session_text}
use Rattle.session_runs.specs.World.{sent_up}
use Rattle.session_runs.specs.Fetches.{Fetcher, front_in, fetched, fetched_if}
use Rattle.session_runs.specs.Pairs.{Second, SessionAsks}
use Rattle.multi_replay.specs.States.{StatePair, is_there, front_meant}
use Rattle.multi_replay.specs.Laws.{pair_value}
use Rattle.pair_world.specs.PairRuns.{PairSpent, PairRun, fetches_on}
use Rattle.pair_world.specs.PairFresh.{FrontValues, pair_runner, no_fronts, first_fetcher, second_fetcher, PairRoom, SettleHasRoom}
use Rattle.pair_world.specs.PairFresh.{WhereTrue}
use Rattle.pair_world.specs.PairHeld.{calm, IsSecondOf}
use Rattle.replay_parts.specs.declared.stop.Stop.{Stop}
use Rattle.replay_parts.specs.Moments.{Moment}
use Rattle.replay_parts.specs.Stops.{HasStopCause}
use Rattle.pair_replay.specs.declared.two_fronts.TwoFronts.{TwoFronts}
use Rattle.pair_replay.specs.PairAnswers.{RoomTold}
use Rattle.pair_replay.specs.Running.{InPairRun, PairGoes, PairFetches, delivers_all, sending_fetch, fetching_known, fetching, fetcher_on}
use Rattle.pair_replay.specs.Running.{by_fetcher}
use Rattle.pair_replay.specs.Running.{room_by, KnownHasRoom}
use Rattle.pair_replay.proofs.PairTheory.{fetch-room, room-fetch}
use Rattle.pair_replay.proofs.StopLemmas.{room-iff, room-stops}
use Rattle.pair_replay.proofs.LineRuns.{run-front}

-- ---- who fetches

-- The front end that is meant stands: its fetcher, what that finds in the fold, and how it counts.
pub record Meant (second : Bool) (asked : List (SessionAsks Ask (List ℕ))) (p : StatePair) (attached : Option ℕ) : Type 0 where
  pub fetcher : Fetcher FrontValues PairSpent
  pub is : fetcher_on second attached ≡ Some fetcher
  pub knows : (number : ℕ) → fetcher.knows (pair_value asked p) number ≡ has_sheet number (front_meant second p).value.sheets
  pub stale : fetcher.stale (pair_value asked p) ≡ stale_of (front_meant second p).value.sheets
  pub counts : (n : PairSpent) → fetches_on second (fetcher.one_more n) ≡ fetches_on second n + 1

pub meant : (second : Bool) (asked : List (SessionAsks Ask (List ℕ))) (p : StatePair) (attached : Option ℕ) → is_there second p ≡ true
    → IsSecondOf p.two attached → Meant second asked p attached
meant false asked p attached there known =
    record { fetcher = first_fetcher; is = refl; knows = λ number. refl; stale = refl; counts = λ n. refl }
meant true asked p attached there known = by p.two attached there known where
  by : (two : Option (Second FrontState (List ℕ))) (attached : Option ℕ) → is_some two ≡ true → IsSecondOf two attached
      → Meant true asked (record p { two = two }) attached
  by None attached there known = absurd cc
  by (Some v) None there known = absurd known
  by (Some v) (Some k) there known = record {
    fetcher = second_fetcher k;
    is = refl;
    knows = λ number. ap (λ b. cond b (has_sheet number v.value.value.sheets) false) ((bytes_eq-Decides v.text (session_text k)).1 known);
    stale = ap (λ b. cond b (stale_of v.value.value.sheets) []) ((bytes_eq-Decides v.text (session_text k)).1 known);
    counts = λ n. refl;
  }

-- where it does not stand, no one fetches
pub none-meant : (second : Bool) (p : StatePair) (attached : Option ℕ) → is_there second p ≡ false → IsSecondOf p.two attached
    → fetcher_on second attached ≡ None
none-meant false p attached there known = absurd cc
none-meant true p attached there known = by p.two attached there known where
  by : (two : Option (Second FrontState (List ℕ))) (attached : Option ℕ) → is_some two ≡ false → IsSecondOf two attached
      → fetcher_on true attached ≡ None
  by None None there known = refl
  by None (Some k) there known = absurd known
  by (Some v) attached there known = absurd cc

-- ---- one fetch

module _ {P : Type 0} {g : Ghosts P} (second : Bool) (number : ℕ) where
  -- a fetch was sent, and all is delivered
  pub text-fetched : (result : Result (Unit {0}) Stop) (old mid new : Moment (TwoFronts P g)) → is_there second old.ends.fronts.pair ≡ true
      → PairFetches {T = Unit {0}} second 1 old mid (Ok tt) (sending_fetch second number) → PairGoes mid new result delivers_all
      → PairFetches second 1 old new result (fetching_known second number)
  text-fetched result old mid new there sends delivers = λ up0 down0 w ids few may run.
      let m = meant second run.so_far.in_world.fronts_are.asked old.ends.fronts.pair w.state.attached there run.so_far.in_world.session.1 in
      let f = m.fetcher in
      let u : PairRun = sent_up (f.text (f.count w.spent) number) f.one_more w in
      let sent : InPairRun calm mid.honest up0 down0 mid.up mid.down u mid.ends =
      subst (λ o. InPairRun calm mid.honest up0 down0 mid.up mid.down
      (by_fetcher o (λ fetcher v. sent_up (fetcher.text (fetcher.count v.spent) number) fetcher.one_more v) w) mid.ends) m.is
      (sends up0 down0 w ids few may run).1 in
      let done = delivers calm up0 down0 u tt sent in (
        room-iff result (SettleHasRoom u) (PairRoom w.state) (room-fetch second f number w m.is may.1 few)
            (fetch-room second f number w m.is may.1 few) done.0,
        subst (λ o. OnOk result (InPairRun calm new.honest up0 down0 new.up new.down
            (by_fetcher o (λ fetcher v. fetched pair_runner fetcher number v) w) new.ends)) (sym m.is) done.1,
      )

  -- the fetch was not sent
  pub text-unsent : (stop : Stop) (old new : Moment (TwoFronts P g)) (link0 link1 : ℕ)
      → HasStopCause {T = Unit {0}} 0 0 link0 link1 (Err stop)
      → PairFetches {T = Unit {0}} second 1 old new (Err stop) (sending_fetch second number)
      → PairFetches {T = Unit {0}} second 1 old new (Err stop) (fetching_known second number)
  text-unsent stop old new link0 link1 cause sends = λ up0 down0 w ids few may run.
      (room-stops stop 0 0 link0 link1 ⊤ (PairRoom w.state) cause (λ room. tt) (sends up0 down0 w ids few may run).0, tt)

  -- a sheet that the front end knows
  pub known-fetched : (result : Result (Unit {0}) Stop) (old new : Moment (TwoFronts P g)) → is_there second old.ends.fronts.pair ≡ true
      → has_sheet number (front_meant second old.ends.fronts.pair).value.sheets ≡ true
      → PairFetches second 1 old new result (fetching_known second number) → PairFetches second 1 old new result (fetching second number)
  known-fetched result old new there known goes = λ up0 down0 w ids few may run.
      let asked = run.so_far.in_world.fronts_are.asked in
      let m = meant second asked old.ends.fronts.pair w.state.attached there run.so_far.in_world.session.1 in
      let front = run-front calm old.honest up0 down0 old.up old.down w old.ends run in
      let p : FrontValues = pair_value asked old.ends.fronts.pair in
      let knows : m.fetcher.knows p number ≡ true = m.knows number ∙ known in
      let is : fetched_if pair_runner m.fetcher (front_in pair_runner no_fronts w) number w ≡ fetched pair_runner m.fetcher number w =
      ap (λ r. fetched_if pair_runner m.fetcher r number w) front
      ∙ ap (λ b. cond b (fetched pair_runner m.fetcher number w) w) knows in
      let done = goes up0 down0 w ids few may run in (
        subst (λ o. RoomTold result (room_by o (λ fetcher v. KnownHasRoom fetcher number (front_in pair_runner no_fronts v) v) w))
            (sym m.is)
            (subst (λ r. RoomTold result (KnownHasRoom m.fetcher number r w)) (sym front)
            (subst (λ b. RoomTold result (WhereTrue b (PairRoom w.state))) (sym knows) done.0)),
        subst (λ o. OnOk result (InPairRun calm new.honest up0 down0 new.up new.down
            (by_fetcher o (λ fetcher v. fetched_if pair_runner fetcher (front_in pair_runner no_fronts v) number v) w) new.ends)) (sym m.is)
            (subst (λ v. OnOk result (InPairRun calm new.honest up0 down0 new.up new.down v new.ends)) (sym is)
            (subst (λ o. OnOk result (InPairRun calm new.honest up0 down0 new.up new.down
            (by_fetcher o (λ fetcher v. fetched pair_runner fetcher number v) w) new.ends)) m.is done.1)),
      )

  -- a sheet that it does not know, or of a front end that does not stand
  pub unknown-passed : (old : Moment (TwoFronts P g)) (there : Bool)
      → is_there second old.ends.fronts.pair ≡ there
      → (there ≡ true → has_sheet number (front_meant second old.ends.fronts.pair).value.sheets ≡ false)
      → PairFetches {T = Unit {0}} second 1 old old (Ok tt) (fetching second number)
  unknown-passed old true there unknown = λ up0 down0 w ids few may run.
      let asked = run.so_far.in_world.fronts_are.asked in
      let m = meant second asked old.ends.fronts.pair w.state.attached there run.so_far.in_world.session.1 in
      let front = run-front calm old.honest up0 down0 old.up old.down w old.ends run in
      let p : FrontValues = pair_value asked old.ends.fronts.pair in
      let knows : m.fetcher.knows p number ≡ false = m.knows number ∙ unknown refl in
      let is : fetched_if pair_runner m.fetcher (front_in pair_runner no_fronts w) number w ≡ w =
      ap (λ r. fetched_if pair_runner m.fetcher r number w) front
      ∙ ap (λ b. cond b (fetched pair_runner m.fetcher number w) w) knows in (
        subst (λ o. room_by o (λ fetcher v. KnownHasRoom fetcher number (front_in pair_runner no_fronts v) v) w) (sym m.is)
            (subst (λ r. KnownHasRoom m.fetcher number r w) (sym front)
            (subst (λ b. WhereTrue b (PairRoom w.state)) (sym knows) tt)),
        subst (λ o. InPairRun calm old.honest up0 down0 old.up old.down
            (by_fetcher o (λ fetcher v. fetched_if pair_runner fetcher (front_in pair_runner no_fronts v) number v) w) old.ends) (sym m.is)
            (subst (λ v. InPairRun calm old.honest up0 down0 old.up old.down v old.ends) (sym is) run),
      )
  unknown-passed old false there unknown = λ up0 down0 w ids few may run.
      let none = none-meant second old.ends.fronts.pair w.state.attached there run.so_far.in_world.session.1 in (
        subst (λ o. room_by o (λ fetcher v. KnownHasRoom fetcher number (front_in pair_runner no_fronts v) v) w) (sym none) tt,
        subst (λ o. InPairRun calm old.honest up0 down0 old.up old.down
            (by_fetcher o (λ fetcher v. fetched_if pair_runner fetcher (front_in pair_runner no_fronts v) number v) w) old.ends) (sym
            none) run,
      )

-- ---- whether it is known

pub both-true : (a b : Bool) → true ≡ a && b → (a ≡ true) × (b ≡ true)
both-true true true e = (refl, refl)
both-true true false e = absurd cc
both-true false b e = absurd cc

pub not-both : (a b : Bool) → false ≡ a && b → a ≡ true → b ≡ false
not-both true true e there = absurd cc
not-both true false e there = refl
not-both false b e there = absurd cc
