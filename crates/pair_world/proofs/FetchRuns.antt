-- A settle of two front ends with its fetches, beside one without: both runs go on together, and no text is old.
use Rattle.std.proofs.Common.{◌≡◌, ℕ, ◌+◌, ◌*◌, ◌≤◌, Bool, true, false, cond, List, [], ◌∷◌, length, Option, Some, None, Result, Ok, Err}
use Rattle.std.proofs.Common.{refl, sym, ◌∙◌, ap, subst, arith}
use Rattle.front_mirror.specs.declared.faults.FrontKind.{FrontKind}
use Rattle.front_mirror.specs.Sheets.{stale_of}
use Rattle.back_end.specs.Laws.{IsTurn}
use Rattle.session_runs.specs.Stream.{arriving, awaited}
use Rattle.session_runs.specs.Fold.{Laws, RoomThroughout, Fits}
use Rattle.session_runs.specs.Fetches.{Fetcher, front_in, fetched, fetched_if, all_fetched, stale_in, refreshed}
use Rattle.session_runs.specs.Agreement.{IsAtRest, RunTogether}
use Rattle.session_runs.specs.Pairs.{take_pair, join_pair, pair_step}
use Rattle.session_runs.specs.PairRuns.{NextIsCalm}
use Rattle.session_runs.proofs.Frames.{awaited-none}
use Rattle.session_runs.proofs.AgreeLemmas.{like-arriving}
use Rattle.session_runs.proofs.FetchLemmas.{settled-rests}
use Rattle.session_runs.proofs.RefreshLemmas.{OneRefreshed, together-one, TwoRefreshed, together-two}
use Rattle.session_runs.proofs.PairLaws.{pair_laws, calm_laws}
use Rattle.inspect_world.specs.Fits.{most_bytes, most_sheets, most_fetches}
use Rattle.pair_world.specs.Clients.{pair_reads, client_steps}
use Rattle.pair_world.specs.Shown.{IsSessionNumber, HasRoomFor, MaySend, Shows}
use Rattle.pair_world.specs.PairFits.{PageSessions, PairFits}
use Rattle.pair_world.specs.PairRuns.{PairSpent, PairAudience, PairPlainlySpent, pair_plainly, none_more, PairRun, pair_settled}
use Rattle.pair_world.specs.PairFresh.{FrontValues, no_fronts, pair_runner, first_fetcher, second_fetcher, second_fetched, pair_refreshes}
use Rattle.pair_world.specs.PairFresh.{pair_unstyled, PairIsCalm, PairIsFit, PairHasLeft, PairTogether, PairRoom, SettleHasRoom}
use Rattle.pair_world.specs.PairFresh.{SecondFetchesHaveRoom, RefreshHasRoom}
use Rattle.pair_world.specs.FetchShown.{IsPlainOfPair}
use Rattle.pair_world.proofs.ClientLemmas.{read_laws, LeadsSide, client_laws}
use Rattle.pair_world.proofs.DeedLemmas.{number-of}
use Rattle.pair_world.proofs.FetchBoth.{calm-alone, second-fit, NextOfPair, no_other_fetches, first_laws, second_laws}

-- ---- the laws of the run

-- whether an attach or a detach waits or none
pub fit_laws : Laws pair_runner PairRoom NextOfPair (λ n. IsTurn) PairIsFit
fit_laws = pair_laws pair_reads client_steps read_laws HasRoomFor IsSessionNumber MaySend IsTurn LeadsSide Shows client_laws none_more

-- what may be sent while none waits
abbrev pub NextWhileCalm : PairSpent → PageSessions → List (List ℕ) → List ℕ → PairSpent → Type 0
NextWhileCalm = NextIsCalm pair_reads client_steps none_more IsSessionNumber HasRoomFor MaySend IsTurn

-- while none waits
pub still_laws : Laws pair_runner PairRoom NextWhileCalm (λ n. IsTurn) PairIsCalm
still_laws = calm_laws pair_reads client_steps read_laws HasRoomFor IsSessionNumber MaySend IsTurn LeadsSide Shows client_laws none_more

-- two runs of one script go together, but for what is left
abbrev pub RunsTogether : PairRun → PairRun → Type 0
RunsTogether w v = RunTogether pair_runner pair_plainly PairIsFit no_fronts pair_unstyled IsPlainOfPair w v

-- ---- room, in both runs

pub room-alike : (n : ℕ) (w v : PairRun) → RunsTogether w v
    → RoomThroughout (pair_step pair_reads client_steps) PairRoom v.state (arriving n v.up)
    → RoomThroughout (pair_step pair_reads client_steps) PairRoom w.state (arriving n w.up)
room-alike n w v together room =
    subst (λ s. RoomThroughout (pair_step pair_reads client_steps) PairRoom s (arriving n w.up)) (sym together.agrees.state)
    (subst (RoomThroughout (pair_step pair_reads client_steps) PairRoom v.state) (sym (like-arriving n w.up v.up together.agrees.up)) room)

pub settle-room-alike : (w v : PairRun) → RunsTogether w v → SettleHasRoom v → SettleHasRoom w
settle-room-alike w v together room =
    room-alike (length w.up.flying) w v together
    (subst (λ n. RoomThroughout (pair_step pair_reads client_steps) PairRoom v.state (arriving n v.up))
    (sym (ap length together.agrees.up.flying)) room)

-- ---- what fetches keep of a run

-- what each fetch keeps of what was spent, and each of who was told what, all keep
module _ (P : PairSpent → PairAudience → Type 0) (fetcher : Fetcher FrontValues PairSpent)
    (keeps : (n : PairSpent) (told : PairAudience) → P n told → P (fetcher.one_more n) told) where
  if-known : (number : ℕ) (w : PairRun) (known : Bool) → P w.spent w.told
      → P (cond known (fetched pair_runner fetcher number w) w).spent (cond known (fetched pair_runner fetcher number w) w).told
  if-known number w true holds = keeps w.spent w.told holds
  if-known number w false holds = holds

  if-there : (number : ℕ) (w : PairRun) (r : Result FrontValues FrontKind) → P w.spent w.told
      → P (fetched_if pair_runner fetcher r number w).spent (fetched_if pair_runner fetcher r number w).told
  if-there number w (Ok p) holds = if-known number w (fetcher.knows p number) holds
  if-there number w (Err kind) holds = holds

  pub fetches-keep : (numbers : List ℕ) (w : PairRun) → P w.spent w.told
      → P (all_fetched pair_runner fetcher no_fronts numbers w).spent (all_fetched pair_runner fetcher no_fronts numbers w).told
  fetches-keep [] w holds = holds
  fetches-keep (number ∷ numbers) w holds =
      fetches-keep numbers (fetched_if pair_runner fetcher (front_in pair_runner no_fronts w) number w)
      (if-there number w (front_in pair_runner no_fronts w) holds)

-- the fetches of the first front end count for nothing of the second
first-keeps : (w : PairRun) → (refreshed pair_runner first_fetcher no_fronts w).spent.second_fetches ≡ w.spent.second_fetches
first-keeps w =
    fetches-keep (λ n told. n.second_fetches ≡ w.spent.second_fetches) first_fetcher (λ n told h. h)
    (stale_in first_fetcher (front_in pair_runner no_fronts (pair_settled w))) (pair_settled w) refl

second-keeps : (k : ℕ) (numbers : List ℕ) (w : PairRun)
    → (all_fetched pair_runner (second_fetcher k) no_fronts numbers w).spent.fetches ≡ w.spent.fetches
second-keeps k numbers w = fetches-keep (λ n told. n.fetches ≡ w.spent.fetches) (second_fetcher k) (λ n told h. h) numbers w refl

-- a settle tells nothing
pub refreshes-told : (w : PairRun) → (pair_refreshes w).told ≡ w.told
refreshes-told w =
    by first.state.attached
    ∙ fetches-keep (λ n told. told ≡ w.told) first_fetcher (λ n told h. h)
    (stale_in first_fetcher (front_in pair_runner no_fronts (pair_settled w))) (pair_settled w) refl
  where
    first : PairRun
    first = refreshed pair_runner first_fetcher no_fronts w

    by : (o : Option ℕ) → (second_fetched o first).told ≡ first.told
    by None = refl
    by (Some k) =
        fetches-keep (λ n told. told ≡ first.told) (second_fetcher k) (λ n told h. h)
        (stale_in (second_fetcher k) (front_in pair_runner no_fronts first)) first refl

-- ---- a settle

-- The runs go on together to a settle without fetches and to this one, after which nothing is on its way, and no text is old in either
-- front end; each has fetched the sheets of one page at most.
pub record SettledAs (w v after : PairRun) : Type 0 where
  pub runs : RunsTogether (pair_settled w) after
  pub rests : IsAtRest after
  pub none : stale_of runs.agrees.fresh.one.sheets ≡ []
  pub none_second : (k : ℕ) → after.state.attached ≡ Some k → (second_fetcher k).stale runs.agrees.fresh ≡ []
  pub fetches : after.spent.fetches ≤ v.spent.fetches + most_sheets
  pub second_fetches : after.spent.second_fetches ≤ v.spent.second_fetches + most_sheets

-- the settle of the first front end
abbrev FirstRefreshed : PairRun → PairRun → PairRun → Type 0
FirstRefreshed w v after =
    OneRefreshed pair_runner PairRoom NextOfPair (λ n. IsTurn) PairIsFit fit_laws pair_plainly first_fetcher pair_unstyled no_other_fetches
    most_sheets most_fetches first_laws IsPlainOfPair no_fronts w v after

-- the number of the attached session is one of a session
pub attached-number : (n : PairSpent) (p : FrontValues) (s : PageSessions) (frames : List (List ℕ)) (k : ℕ) → PairIsFit n p s frames
    → s.attached ≡ Some k → IsSessionNumber k
attached-number n p s frames k fit is = number-of s.side s.second s.next k _ p.two s.attached (second-fit n p s frames fit).1 is

none-here : {P : Type 0} (a : Option ℕ) (k : ℕ) → a ≡ None → a ≡ Some k → P
none-here a k none some = let no : ◌≡◌ {A = Option ℕ} None (Some k) = sym none ∙ some in absurd cc

second-settles : (w v after : PairRun) → FirstRefreshed w v after → (o : Option ℕ) → after.state.attached ≡ o
    → SecondFetchesHaveRoom o after
    → after.spent.second_fetches ≡ v.spent.second_fetches → v.spent.second_fetches + most_sheets ≤ most_fetches
    → SettledAs w v (second_fetched o after)
second-settles w v after first None is room same left =
    let one : after.spent.fetches ≤ v.spent.fetches + most_sheets = first.fetches in
    record {
      runs = first.runs;
      rests = first.rests;
      none = first.none;
      none_second = λ k some. none-here after.state.attached k is some;
      fetches = one;
      second_fetches = omega (arith, same);
    }
second-settles w v after first (Some k) is room same left =
    let small : IsSessionNumber k = attached-number after.spent first.runs.fits_fresh.front after.state (awaited after.up) k
    first.runs.fits_fresh.fit is in
    let numbers = stale_in (second_fetcher k) (front_in pair_runner no_fronts after) in
    let few : after.spent.second_fetches + most_sheets ≤ most_fetches = omega (arith, same, left) in
    let last : PairRun = all_fetched pair_runner (second_fetcher k) no_fronts numbers after in
    let two : TwoRefreshed pair_runner PairRoom NextOfPair (λ n. IsTurn) PairIsFit fit_laws pair_plainly first_fetcher pair_unstyled
    no_other_fetches most_sheets most_fetches first_laws IsPlainOfPair (second_fetcher k) (second_laws k small) no_fronts w after last =
    together-two pair_runner PairRoom NextOfPair (λ n. IsTurn) PairIsFit fit_laws pair_plainly first_fetcher pair_unstyled no_other_fetches
    most_sheets most_fetches first_laws IsPlainOfPair (second_fetcher k) (second_laws k small) no_fronts w v after first few room in
    let state_is : last.state ≡ after.state = sym two.runs.agrees.state ∙ first.runs.agrees.state in
    let one : after.spent.fetches ≤ v.spent.fetches + most_sheets = first.fetches in
    let kept : last.spent.fetches ≡ after.spent.fetches = second-keeps k numbers after in
    let more : last.spent.second_fetches ≤ after.spent.second_fetches + most_sheets = two.fetches in
    record {
      runs = two.runs;
      rests = two.rests;
      none = two.none;
      none_second = λ j some.
          let number : k ≡ j = some-same k j (sym is ∙ ap (λ (s : PageSessions). s.attached) (sym state_is) ∙ some) in
          subst (λ i. (second_fetcher i).stale two.runs.agrees.fresh ≡ []) number two.none_two;
      fetches = omega (arith, one, kept);
      second_fetches = omega (arith, more, same);
    }
  where
    some-same : (a b : ℕ) → Some a ≡ Some b → a ≡ b
    some-same a b e = cc

-- A settle, whether an attach or a detach waits or none.
pub settle-runs : (w v : PairRun) → RunsTogether w v → v.spent.fetches + most_sheets ≤ most_fetches
    → v.spent.second_fetches + most_sheets ≤ most_fetches → RefreshHasRoom v → SettledAs w v (pair_refreshes v)
settle-runs w v together left left2 room =
    let first : PairRun = refreshed pair_runner first_fetcher no_fronts v in
    let one : FirstRefreshed w v first =
    together-one pair_runner PairRoom NextOfPair (λ n. IsTurn) PairIsFit fit_laws pair_plainly first_fetcher pair_unstyled no_other_fetches
    most_sheets most_fetches first_laws IsPlainOfPair no_fronts w v left (settle-room-alike w v together room.0) room.0 room.1 together in
    second-settles w v first one first.state.attached refl room.2 (first-keeps v) left2

-- ---- between two lines

-- Where nothing is on its way, no attach and no detach waits.
pub calm-at-rest : (w : PairRun) → Fits (take_pair pair_reads) (join_pair pair_reads) PairIsFit no_fronts w → IsAtRest w → PairFits w
calm-at-rest w fits rests =
    let none : awaited w.up ≡ [] = awaited-none w.up rests.up.flying rests.up.held in
    record {
      front = fits.front;
      is_fold = fits.is_fold;
      fit = subst (PairIsCalm w.spent fits.front w.state) (sym none)
          (calm-alone w.spent fits.front w.state (subst (PairIsFit w.spent fits.front w.state) none fits.fit));
      up_whole = fits.up_whole;
      down_whole = fits.down_whole;
    }

-- as much was spent, but for the fetches of a settle
pub record SettleSpent (n m : PairSpent) : Type 0 where
  pub plain : pair_plainly n ≡ pair_plainly m
  pub fetches : m.fetches ≤ n.fetches + most_sheets
  pub second_fetches : m.second_fetches ≤ n.second_fetches + most_sheets

pub settle-spent : (w v after : PairRun) → RunsTogether w v → SettledAs w v after → SettleSpent v.spent after.spent
settle-spent w v after together s = record {
  plain = sym together.agrees.spent ∙ s.runs.agrees.spent;
  fetches = s.fetches;
  second_fetches = s.second_fetches;
}

settle-left : (n m : PairSpent) (bytes : ℕ) → SettleSpent n m → PairHasLeft n (bytes + 1) → PairHasLeft m bytes
settle-left n m bytes spent left =
    let asks : n.asks ≡ m.asks = ap (λ (k : PairPlainlySpent). k.asks) spent.plain in
    let second : n.second_asks ≡ m.second_asks = ap (λ (k : PairPlainlySpent). k.second_asks) spent.plain in
    let targets : n.targets ≡ m.targets = ap (λ (k : PairPlainlySpent). k.targets) spent.plain in
    let asks_left : n.asks * 4 + (bytes + 1) ≤ most_bytes = left.asks in
    let second_left : n.second_asks * 4 + (bytes + 1) ≤ most_bytes = left.second_asks in
    let targets_left : n.targets * 4 + (bytes + 1) ≤ most_bytes = left.targets in
    let fetches : m.fetches ≤ n.fetches + most_sheets = spent.fetches in
    let second_fetches : m.second_fetches ≤ n.second_fetches + most_sheets = spent.second_fetches in
    let fetches_left : n.fetches + (bytes + 1 + 1) * most_sheets ≤ most_fetches = left.fetches in
    let second_fetches_left : n.second_fetches + (bytes + 1 + 1) * most_sheets ≤ most_fetches = left.second_fetches in
    record {
      asks = omega (arith, asks, asks_left);
      second_asks = omega (arith, second, second_left);
      targets = omega (arith, targets, targets_left);
      fetches = omega (arith, fetches, fetches_left);
      second_fetches = omega (arith, second_fetches, second_fetches_left);
    }

-- before a settle the texts of a page may be fetched
pub fetches-left : (n : PairSpent) (bytes : ℕ) → PairHasLeft n (bytes + 1)
    → (n.fetches + most_sheets ≤ most_fetches) × (n.second_fetches + most_sheets ≤ most_fetches)
fetches-left n bytes left =
    let one : n.fetches + (bytes + 1 + 1) * most_sheets ≤ most_fetches = left.fetches in
    let two : n.second_fetches + (bytes + 1 + 1) * most_sheets ≤ most_fetches = left.second_fetches in
    (omega (arith, one), omega (arith, two))

-- A settle between two lines.
pub settle-together : (bytes : ℕ) (w v : PairRun) → PairTogether IsPlainOfPair (bytes + 1) w v → RefreshHasRoom v
    → PairTogether IsPlainOfPair bytes (pair_settled w) (pair_refreshes v)
settle-together bytes w v together room =
    let few = fetches-left v.spent bytes together.left in
    let s : SettledAs w v (pair_refreshes v) = settle-runs w v together.runs few.0 few.1 room in
    record {
      runs = s.runs;
      calm = calm-at-rest (pair_settled w) s.runs.fits (settled-rests pair_runner PairIsFit no_fronts w s.runs.fits);
      calm_fresh = calm-at-rest (pair_refreshes v) s.runs.fits_fresh s.rests;
      left = settle-left v.spent (pair_refreshes v).spent bytes (settle-spent w v (pair_refreshes v) together.runs s) together.left;
    }
