-- After a settle with its fetches each front end shows just what its client sees, with each text, and has kept what came to it.
use Rattle.std.proofs.Common.{◌≡◌, ℕ, List, [], map, Option, Some, None, option_map, Ok, refl, sym, ◌∙◌, ap, subst}
use Rattle.std.specs.Prelude.{cond, false}
use Rattle.pipe_frames.specs.Frames.{frames_of}
use Rattle.front_mirror.specs.Front.{FrontValue}
use Rattle.front_mirror.specs.Sheets.{stale_of}
use Rattle.back_end.specs.States.{Side, sheets_shown}
use Rattle.session_mux.specs.Sessions.{session_text}
use Rattle.session_runs.specs.Stream.{sent}
use Rattle.session_runs.specs.Fetches.{front_in}
use Rattle.session_runs.specs.Pairs.{Second}
use Rattle.session_runs.specs.PairCame.{second_seen}
use Rattle.session_runs.specs.PairFit.{TwoFit, neither, both}
use Rattle.session_runs.proofs.AgreeLemmas.{ok-one}
use Rattle.session_runs.proofs.FetchLemmas.{fit-rests}
use Rattle.inspect_world.specs.FreshRuns.{Unstyled, unstyled}
use Rattle.inspect_world.specs.ShownReplies.{reply_shown}
use Rattle.inspect_world.proofs.ShownSheets.{fresh-texts}
use Rattle.pair_world.specs.Clients.{pair_reads, RunClient, state_of, client_steps}
use Rattle.pair_world.specs.Shown.{IsSessionNumber, Shows}
use Rattle.pair_world.specs.PairFits.{PageSessions}
use Rattle.pair_world.specs.PairRuns.{PairRun, pair_settled, attached_came, came_on}
use Rattle.pair_world.specs.PairFresh.{FrontValues, pair_runner, no_fronts, of_second_session, second_fetcher, pair_refreshes, PairUnstyled}
use Rattle.pair_world.specs.PairFresh.{pair_unstyled}
use Rattle.pair_world.specs.PairFresh.{PairIsCalm, PairIsFit}
use Rattle.pair_world.specs.FetchShown.{FrontShows, SecondShowsFresh, BothShowFresh, PairRefreshShows}
use Rattle.pair_world.proofs.FetchBoth.{calm-alone, number_laws}
use Rattle.pair_world.proofs.FetchRuns.{SettledAs, fetches-left, settle-runs}
use Rattle.pair_world.proofs.KeptFrames.{to_that, HasKept, first-kept, second-kept}

-- a front end that shows a client, lacks no text, and has kept as much as one that has sent no fetch
front-shows : (v plain : FrontValue) (side : Side) (c : RunClient) (came : List (List ℕ)) → Shows v side c [] → stale_of v.sheets ≡ []
    → unstyled plain ≡ unstyled v → HasKept plain came → FrontShows v side c came
front-shows v plain side c came shows fresh same kept = record {
  has = shows.has;
  texts = fresh-texts v.sheets (sheets_shown (state_of side c)) shows.has.sheets fresh;
  told = sym (ap (λ (u : Unstyled). map reply_shown u.replies) same) ∙ kept.told;
  pauses = sym (ap (λ (u : Unstyled). u.pauses) same) ∙ kept.pauses;
  styles = shows.styles;
  waits = sym shows.waiting;
}

-- the second front end of a run without fetches
record HasPlain (plain : Option (Second FrontValue (List ℕ))) (text : List ℕ) (v : FrontValue) : Type 0 where
  value : FrontValue
  is : plain ≡ Some (record { text = text; value = value })
  same : unstyled value ≡ unstyled v

plain-second : (plain : Option (Second FrontValue (List ℕ))) (text : List ℕ) (v : FrontValue)
    → option_map (second_seen unstyled) plain ≡ Some (record { text = text; value = unstyled v }) → HasPlain plain text v
plain-second None text v e = absurd cc
plain-second (Some w) text v e =
    let same : second_seen unstyled w ≡ record { text = text; value = unstyled v } = some-same _ _ e in
    let texts : w.text ≡ text = ap (λ (x : Second Unstyled (List ℕ)). x.text) same in
    record {
      value = w.value;
      is = λ i. Some (record { text = texts i; value = w.value });
      same = ap (λ (x : Second Unstyled (List ℕ)). x.value) same;
    }
  where
    some-same : (a b : Second Unstyled (List ℕ)) → Some a ≡ Some b → a ≡ b
    some-same a b e = cc

second-shows : (side : Side) (second : RunClient) (next : ℕ) (two : Option (Second FrontValue (List ℕ))) (attached : Option ℕ)
    (bytes : List ℕ) (plain : Option (Second FrontValue (List ℕ)))
    → TwoFit pair_reads client_steps IsSessionNumber Shows side second next [] two attached
    → option_map (second_seen unstyled) plain ≡ option_map (second_seen unstyled) two
    → ((k : ℕ) (v : FrontValue) → IsSessionNumber k → plain ≡ Some (record { text = session_text k; value = v })
    → HasKept v (to_that (session_text k) (frames_of bytes).whole))
    → ((k : ℕ) → attached ≡ Some k → of_second_session (session_text k) (λ v. stale_of v.sheets) [] two ≡ [])
    → SecondShowsFresh two attached side second (attached_came attached bytes)
second-shows side second next _ _ bytes plain neither same kept none = tt
second-shows side second next _ _ bytes plain (both k v number few shows) same kept none =
    let p : HasPlain plain (session_text k) v = plain-second plain (session_text k) v same in
    let fresh : stale_of v.sheets ≡ [] =
    ap (λ b. cond b (stale_of v.sheets) []) (sym (number_laws.same_all (session_text k))) ∙ none k refl in (
      refl,
      front-shows v p.value side second (to_that (session_text k) (frames_of bytes).whole) shows fresh p.same (kept k p.value number p.is),
    )

-- What two front ends show after a settle with its fetches, whether an attach or a detach waited before or none.
pub shown-after : (w v : PairRun) (p : FrontValues) → SettledAs w v (pair_refreshes v)
    → front_in pair_runner no_fronts (pair_refreshes v) ≡ Ok p → BothShowFresh (pair_settled w) p
shown-after w v p s is =
    let w1 : PairRun = pair_settled w in
    let v1 : PairRun = pair_refreshes v in
    let plain : FrontValues = s.runs.agrees.plain in
    let fresh_is : s.runs.agrees.fresh ≡ p = ok-one (front_in pair_runner no_fronts v1) s.runs.agrees.fresh p s.runs.agrees.fresh_is is in
    let same : pair_unstyled plain ≡ pair_unstyled p = s.runs.agrees.same ∙ ap pair_unstyled fresh_is in
    let c : PairIsCalm v1.spent p v1.state [] =
    calm-alone v1.spent p v1.state (fit-rests pair_runner PairIsFit no_fronts v1 p s.runs.fits_fresh s.rests is) in
    let state_is : v1.state ≡ w1.state = sym s.runs.agrees.state in
    let sent_frames = (frames_of (sent w1.up)).whole in
    let frames = (frames_of w1.down.given).whole in
    let first : FrontShows p.one v1.state.side v1.state.root (came_on false w1) =
    front-shows p.one plain.one v1.state.side v1.state.root (came_on false w1) c.one
    (ap (λ (q : FrontValues). stale_of q.one.sheets) (sym fresh_is) ∙ s.none) (ap (λ (u : PairUnstyled). u.one) same)
    (first-kept sent_frames frames plain s.runs.plain s.runs.agrees.plain_is) in
    let second : SecondShowsFresh p.two v1.state.attached v1.state.side v1.state.second (attached_came v1.state.attached w1.down.given) =
    second-shows v1.state.side v1.state.second v1.state.next p.two v1.state.attached w1.down.given plain.two c.two
    (ap (λ (u : PairUnstyled). u.two) same) (second-kept sent_frames frames plain s.runs.plain s.runs.agrees.plain_is)
    (λ k some. ap (second_fetcher k).stale (sym fresh_is) ∙ s.none_second k some) in
    record {
      first = subst (λ (x : PageSessions). FrontShows p.one x.side x.root (came_on false w1)) state_is first;
      second = subst (λ (x : PageSessions). SecondShowsFresh p.two x.attached x.side x.second (attached_came x.attached w1.down.given))
          state_is second;
      none_waits = c.none_waiting;
    }

pub pair-refresh-shows : PairRefreshShows
pair-refresh-shows w v together room =
    let few = fetches-left v.spent 0 together.left in
    let s : SettledAs w v (pair_refreshes v) = settle-runs w v together.runs few.0 few.1 room in
    record {
      fronts = s.runs.agrees.fresh;
      is_fold = s.runs.agrees.fresh_is;
      shown = shown-after w v s.runs.agrees.fresh s s.runs.agrees.fresh_is;
    }
