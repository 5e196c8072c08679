-- Two runs of one script with two front ends: one as the report tells it, and one with the fetches of its settles.
use Rattle.std.proofs.Common.{◌≡◌, ℕ, ◌+◌, ◌*◌, ◌^◌, ◌<◌, ◌≤◌, List, [], ◌∷◌, length, map, refl, Bool, true, false, is_some, Option, Some}
use Rattle.std.proofs.Common.{None}
use Rattle.std.proofs.Common.{sym, ◌∙◌, ap, subst, arith, Ok}
use Rattle.std.specs.Prelude.{⊤}
use Rattle.page_forms.specs.Pages.{LoadedPage, CanLoadPage}
use Rattle.page_forms.specs.Texts.{PageHasTexts}
use Rattle.front_mirror.specs.declared.panels.PanelKind.{PanelKind}
use Rattle.front_mirror.specs.Front.{FrontValue, seen_pause}
use Rattle.front_mirror.specs.Sheets.{stale_of}
use Rattle.front_mirror.specs.Laws.{Has}
use Rattle.back_end.specs.States.{view_of}
use Rattle.back_end.specs.Steps.{Turn}
use Rattle.back_end.specs.Laws.{IsTurn}
use Rattle.session_runs.specs.Stream.{arriving}
use Rattle.session_runs.specs.World.{sent_up, turned, delivered_up, delivered_down}
use Rattle.session_runs.specs.Fold.{RoomThroughout}
use Rattle.session_runs.specs.Fetches.{Fetcher, front_in}
use Rattle.session_runs.specs.Agreement.{IsAtRest, RunTogether}
use Rattle.session_runs.specs.Pairs.{Second, pair_step, pair_act}
use Rattle.session_mux.specs.Sessions.{session_text}
use Rattle.multi_replay.specs.States.{attach_text, detach_text}
use Rattle.cdp_messages.specs.Asked.{command_text}
use Rattle.replay_script.specs.Forms.{AskForm}
use Rattle.replay_script.specs.Sound.{CanSend}
use Rattle.inspect_world.specs.Costs.{least_line}
use Rattle.inspect_world.specs.ShownReplies.{reply_shown}
use Rattle.inspect_world.specs.Fits.{kept_styles, most_bytes, most_sheets, most_fetches}
use Rattle.pair_world.specs.Clients.{pair_reads, client_steps}
use Rattle.pair_world.specs.PairFits.{PageSessions, PairFits}
use Rattle.pair_world.specs.PairRuns.{PairPlainlySpent, PairSpent, PairRun, pair_plainly, none_more, pair_loaded_run, pair_settled}
use Rattle.pair_world.specs.PairRuns.{client_meant, state_on, asks_on, fetches_on}
use Rattle.pair_world.specs.PairRuns.{next_target}
use Rattle.pair_world.specs.PairScripts.{pair_replies, pair_pauses, session_on}
use Rattle.pair_world.specs.PairFresh.{FrontValues, pair_runner, no_fronts, PairIsFit, pair_unstyled, PairRoom, pair_refreshes}
use Rattle.pair_world.specs.PairFresh.{RefreshHasRoom}
use Rattle.pair_world.specs.PairFresh.{PairHasLeft, PairTogether, PairIsCalm, SettleHasRoom}
use Rattle.pair_replay.specs.PairStarts.{may_ask_on}
use Rattle.pair_replay.specs.Running.{IsPlainOfPair, fetcher_on}
use Rattle.client_views.specs.Views.{ShownSheet}
use Rattle.back_end.specs.States.{sheets_shown}
use Rattle.session_runs.specs.Stream.{awaited}
use Rattle.session_runs.proofs.FetchLemmas.{settled-rests, arriving-one}
use Rattle.session_runs.specs.PairFit.{is_calm}
use Rattle.pipe_frames.specs.Frames.{IsText}
use Rattle.pair_world.specs.PairFresh.{first_fetcher, second_fetcher}
use Rattle.inspect_world.proofs.FetchForms.{fetcher-text}
use Rattle.pair_world.proofs.FetchBoth.{session-letters, first_laws, second_laws}
use Rattle.inspect_world.specs.FreshRuns.{known_fresh}
use Rattle.pair_world.specs.Shown.{IsSessionNumber}
use Rattle.pair_world.specs.PairRuns.{came_on}
use Rattle.pair_world.specs.FetchShown.{FrontShows, SecondShowsFresh, BothShowFresh}
use Rattle.pair_world.proofs.FetchRuns.{SettledAs, attached-number, settle-runs, calm-at-rest}
use Rattle.pair_world.proofs.KeptShown.{shown-after}
use Rattle.pair_world.proofs.FetchParts as parts
use Rattle.pair_world.proofs.FetchParts.{TargetGoes, first-goes, second-goes}
pub use Rattle.pair_world.proofs.FetchParts.{left-fewer, together-fewer, together-told, MayGo, raw-goes}

-- ---- what is left

-- there are ids for the fetches of so many settles more
pub record FetchesLeft (n : PairSpent) (settles : ℕ) : Type 0 where
  pub fetches : n.fetches + settles * most_sheets ≤ most_fetches
  pub second_fetches : n.second_fetches + settles * most_sheets ≤ most_fetches

-- lines of so many bytes have them
pub left-fetches : (n : PairSpent) (settles k : ℕ) → settles ≤ k + 1 → PairHasLeft n k → FetchesLeft n settles
left-fetches n settles k less left =
    let fetches : n.fetches + (k + 1) * most_sheets ≤ most_fetches = left.fetches in
    let second_fetches : n.second_fetches + (k + 1) * most_sheets ≤ most_fetches = left.second_fetches in
    record { fetches = omega (arith, fetches, less); second_fetches = omega (arith, second_fetches, less) }

-- ---- what a front end shows

-- A front end shows just what its client sees, has a fresh text of each sheet, and has kept the replies and the pauses that came in the run
-- without fetches, and the matched styles that the client was told.
pub record OneShown (second : Bool) (w : PairRun) (v : FrontValue) : Type 0 where
  pub has : Has v (view_of (state_on second w.state))
  pub fresh : stale_of v.sheets ≡ []
  pub told : map reply_shown v.replies ≡ pair_replies second w
  pub pauses : v.pauses ≡ map seen_pause (pair_pauses second w)
  pub styles : map kept_styles v.matched ≡ (client_meant second w.state).styles

-- so does the second, where a session is attached
abbrev pub TwoShown : PairRun → Option (Second FrontValue (List ℕ)) → Option ℕ → Type 0
TwoShown w None None = ⊤
TwoShown w None (Some k) = ⊥
TwoShown w (Some v) None = ⊥
TwoShown w (Some v) (Some k) = OneShown true w v.value

-- both
pub record FoldShown (w : PairRun) (p : FrontValues) : Type 0 where
  pub one : OneShown false w p.one
  pub two : TwoShown w p.two w.state.attached

-- ---- both runs

-- the runs go on together, whether an attach or a detach is on its way or none
abbrev pub AreTogether : PairRun → PairRun → Type 0
AreTogether w v = RunTogether pair_runner pair_plainly PairIsFit no_fronts pair_unstyled IsPlainOfPair w v

-- Both runs after a settle, with its fetches in the one: each front end has made one for each sheet of a page at most.
pub record SettledRuns (w v : PairRun) : Type 0 where
  pub runs : AreTogether (pair_settled w) (pair_refreshes v)
  pub calm : PairFits (pair_settled w)
  pub calm_fresh : PairFits (pair_refreshes v)
  pub rests : IsAtRest (pair_refreshes v)
  pub fetches : (pair_refreshes v).spent.fetches ≤ v.spent.fetches + most_sheets
  pub second_fetches : (pair_refreshes v).spent.second_fetches ≤ v.spent.second_fetches + most_sheets
  pub shown : (p : FrontValues) → front_in pair_runner no_fronts (pair_refreshes v) ≡ Ok p → FoldShown (pair_settled w) p

-- sheets with their texts are not old
none-stale : (ss : List ShownSheet) → stale_of (map known_fresh ss) ≡ []
none-stale [] = refl
none-stale (s ∷ ss) = none-stale ss

one-shown : (second : Bool) (w : PairRun) (v : FrontValue)
    → FrontShows v w.state.side (client_meant second w.state) (came_on second w) → OneShown second w v
one-shown second w v shows = record {
  has = shows.has;
  fresh = ap stale_of shows.texts ∙ none-stale (sheets_shown (state_on second w.state));
  told = shows.told;
  pauses = shows.pauses;
  styles = shows.styles;
}

fold-shown : (w : PairRun) (p : FrontValues) → BothShowFresh w p → FoldShown w p
fold-shown w p shown = record { one = one-shown false w p.one shown.first; two = by p.two w.state.attached shown.second } where
  by : (two : Option (Second FrontValue (List ℕ))) (attached : Option ℕ)
      → SecondShowsFresh two attached w.state.side w.state.second (came_on true w) → TwoShown w two attached
  by None None shows = tt
  by None (Some k) shows = shows
  by (Some x) None shows = shows
  by (Some x) (Some k) shows = one-shown true w x.value shows.1

pub settled-runs : (w v : PairRun) → AreTogether w v → FetchesLeft v.spent 1 → RefreshHasRoom v → SettledRuns w v
settled-runs w v both left room =
    let one : v.spent.fetches + 1 * most_sheets ≤ most_fetches = left.fetches in
    let two : v.spent.second_fetches + 1 * most_sheets ≤ most_fetches = left.second_fetches in
    let s : SettledAs w v (pair_refreshes v) = settle-runs w v both (omega (arith, one)) (omega (arith, two)) room in
    record {
      runs = s.runs;
      calm = calm-at-rest (pair_settled w) s.runs.fits (settled-rests pair_runner PairIsFit no_fronts w s.runs.fits);
      calm_fresh = calm-at-rest (pair_refreshes v) s.runs.fits_fresh s.rests;
      rests = s.rests;
      fetches = s.fetches;
      second_fetches = s.second_fetches;
      shown = λ p is. fold-shown (pair_settled w) p (shown-after w v p s is);
    }

-- both runs then, with room for lines of so many bytes
pub record SettledBoth (bytes : ℕ) (w v : PairRun) : Type 0 where
  pub runs : SettledRuns w v
  pub both : PairTogether IsPlainOfPair bytes (pair_settled w) (pair_refreshes v)

pub settled-both : (bytes : ℕ) (w v : PairRun) → AreTogether w v → PairHasLeft v.spent bytes → FetchesLeft v.spent (bytes + 2)
    → RefreshHasRoom v → SettledBoth bytes w v
settled-both bytes w v both left fetches room =
    let first : v.spent.fetches + (bytes + 2) * most_sheets ≤ most_fetches = fetches.fetches in
    let second : v.spent.second_fetches + (bytes + 2) * most_sheets ≤ most_fetches = fetches.second_fetches in
    let one : FetchesLeft v.spent 1 = record { fetches = omega (arith, first); second_fetches = omega (arith, second) } in
    let made : SettledRuns w v = settled-runs w v both one room in
    let same : pair_plainly (pair_refreshes v).spent ≡ pair_plainly v.spent = sym made.runs.agrees.spent ∙ both.agrees.spent in
    let asks : (pair_refreshes v).spent.asks ≡ v.spent.asks = ap (λ (n : PairPlainlySpent). n.asks) same in
    let second_asks : (pair_refreshes v).spent.second_asks ≡ v.spent.second_asks = ap (λ (n : PairPlainlySpent). n.second_asks) same in
    let targets : (pair_refreshes v).spent.targets ≡ v.spent.targets = ap (λ (n : PairPlainlySpent). n.targets) same in
    let few : (pair_refreshes v).spent.fetches ≤ v.spent.fetches + most_sheets = made.fetches in
    let few_second : (pair_refreshes v).spent.second_fetches ≤ v.spent.second_fetches + most_sheets = made.second_fetches in
    record {
      runs = made;
      both = record {
        runs = made.runs;
        calm = made.calm;
        calm_fresh = made.calm_fresh;
        left = record {
          asks = subst (λ n. n * 4 + bytes ≤ most_bytes) (sym asks) left.asks;
          second_asks = subst (λ n. n * 4 + bytes ≤ most_bytes) (sym second_asks) left.second_asks;
          targets = subst (λ n. n * 4 + bytes ≤ most_bytes) (sym targets) left.targets;
          fetches = omega (arith, first, few);
          second_fetches = omega (arith, second, few_second);
        };
      };
    }

-- ---- what is sent

-- the number of the session that is attached
session-number : (w v : PairRun) (k number : ℕ) → PairTogether IsPlainOfPair k w v → w.state.attached ≡ Some number
    → IsSessionNumber number
session-number w v k number both is =
    attached-number w.spent both.runs.fits.front w.state (awaited w.up) number both.runs.fits.fit is

-- an ask of the front end that is meant
pub ask-goes : (second : Bool) (a : AskForm) (k : ℕ) (w v : PairRun) → CanSend a → may_ask_on second a ≡ true
    → (second ≡ true → is_some w.state.attached ≡ true) → PairTogether IsPlainOfPair (k + least_line) w v
    → MayGo w.state.attached (command_text (asks_on second w.spent + 1) a.method a.params (session_on second w.state.attached))
ask-goes false a k w v can may there both =
    let few : v.spent.asks * 4 + (k + 4) ≤ most_bytes = both.left.asks in
    let same : w.spent.asks ≡ v.spent.asks = ap (λ (n : PairPlainlySpent). n.asks) both.runs.agrees.spent in
    first-goes a w.spent.asks w.state.attached (omega (arith, few, same)) can may
ask-goes true a k w v can may there both = by w.state.attached refl (there refl) where
  few : w.spent.second_asks * 4 + least_line ≤ most_bytes
  few =
      let left : v.spent.second_asks * 4 + (k + 4) ≤ most_bytes = both.left.second_asks in
      let same : w.spent.second_asks ≡ v.spent.second_asks = ap (λ (n : PairPlainlySpent). n.second_asks) both.runs.agrees.spent in
      omega (arith, left, same)

  by : (o : Option ℕ) → w.state.attached ≡ o → is_some o ≡ true
      → MayGo w.state.attached (command_text (w.spent.second_asks + 1) a.method a.params (session_on true w.state.attached))
  by None is some = absurd cc
  by (Some number) is some =
      subst (λ o. MayGo o (command_text (w.spent.second_asks + 1) a.method a.params (session_on true o))) (sym is)
      (second-goes a w.spent.second_asks number few can may (session-number w v (k + least_line) number both is))

-- an attach or a detach that may be sent
abbrev pub MayTarget : Option ℕ → List ℕ → Type 0
MayTarget attached text = TargetGoes attached text

few-targets : (k : ℕ) (w v : PairRun) → PairTogether IsPlainOfPair k w v → w.spent.targets < 2 ^ 52
few-targets k w v both =
    let few : v.spent.targets * 4 + k ≤ most_bytes = both.left.targets in
    let same : w.spent.targets ≡ v.spent.targets = ap (λ (n : PairPlainlySpent). n.targets) both.runs.agrees.spent in
    omega (arith, few, same)

pub attach-goes : (k : ℕ) (w v : PairRun) → w.state.attached ≡ None → PairTogether IsPlainOfPair k w v
    → MayTarget w.state.attached (attach_text (next_target w.spent))
attach-goes k w v none both =
    subst (λ o. MayTarget o (attach_text (next_target w.spent))) (sym none) (parts.attach-goes w.spent.targets (few-targets k w v both))

pub detach-goes : (k number : ℕ) (w v : PairRun) → w.state.attached ≡ Some number → PairTogether IsPlainOfPair k w v
    → MayTarget w.state.attached (detach_text (next_target w.spent) (session_text number))
detach-goes k number w v is both =
    subst (λ o. MayTarget o (detach_text (next_target w.spent) (session_text number))) (sym is)
    (parts.detach-goes w.spent.targets number (few-targets k w v both) (session-number w v k number both is))

-- a frame is sent that is no fetch
pub sent-together : (bytes k : ℕ) (text : List ℕ) (more : PairSpent → PairSpent) (w v : PairRun) → MayGo w.state.attached text
    → pair_plainly (more w.spent) ≡ pair_plainly (more v.spent)
    → PairHasLeft (more v.spent) bytes → PairTogether IsPlainOfPair k w v
    → PairTogether IsPlainOfPair bytes (sent_up text more w) (sent_up text more v)
sent-together bytes k text more w v go spent left both = parts.sent-together bytes k text more w v go spent left both

-- an attach or a detach is sent, once all has come
pub targeted-together : (k : ℕ) (text : List ℕ) (more : PairSpent → PairSpent) (w v : PairRun) → MayTarget w.state.attached text
    → pair_plainly (more w.spent) ≡ pair_plainly (more v.spent) → IsAtRest v → PairTogether IsPlainOfPair k w v
    → AreTogether (sent_up text more w) (sent_up text more v)
targeted-together k text more w v go spent rests both = parts.targeted-together text more w v go spent rests both.runs

-- the script makes a step by itself
pub turned-together : (bytes : ℕ) (x : Turn) (w v : PairRun) → IsTurn x → PairRoom v.state → PairTogether IsPlainOfPair bytes w v
    → PairTogether IsPlainOfPair bytes (turned none_more (pair_act pair_reads client_steps) x w)
    (turned none_more (pair_act pair_reads client_steps) x v)
turned-together bytes x w v is_turn room both = parts.turned-together bytes x w v is_turn room both

-- bytes are delivered up
pub up-together : (bytes n : ℕ) (w v : PairRun) → RoomThroughout (pair_step pair_reads client_steps) PairRoom v.state (arriving n v.up)
    → PairTogether IsPlainOfPair bytes w v
    → PairTogether IsPlainOfPair bytes (delivered_up (pair_step pair_reads client_steps) n w)
    (delivered_up (pair_step pair_reads client_steps) n v)
up-together bytes n w v room both = parts.up-together bytes n w v room both

-- or down
pub down-together : (bytes n : ℕ) (w v : PairRun) → PairTogether IsPlainOfPair bytes w v
    → PairTogether IsPlainOfPair bytes (delivered_down n w) (delivered_down n v)
down-together bytes n w v both = parts.down-together bytes n w v both

-- both begin alike
pub loaded-together : (bytes : ℕ) (kinds : List PanelKind) (page : LoadedPage) → CanLoadPage page → PageHasTexts page → bytes ≤ most_bytes
    → PairTogether IsPlainOfPair bytes (pair_loaded_run kinds page) (pair_loaded_run kinds page)
loaded-together bytes kinds page can texts few = parts.loaded-together bytes kinds page can texts few

-- ---- fetches

pub fetcher-same : (a b : Fetcher FrontValues PairSpent) → Some a ≡ Some b → a ≡ b
fetcher-same a b e = cc

-- the text of a fetch for which there is an id
pub fetch-letters : (second : Bool) (attached : Option ℕ) (f : Fetcher FrontValues PairSpent) (n : PairSpent) (number : ℕ)
    → fetcher_on second attached ≡ Some f → fetches_on second n + 1 ≤ most_fetches → IsText (f.text (f.count n) number)
fetch-letters false attached f n number is few =
    subst (λ (g : Fetcher FrontValues PairSpent). IsText (g.text (g.count n) number)) (fetcher-same first_fetcher f is)
    (fetcher-text n.fetches number few)
fetch-letters true None f n number is few = absurd cc
fetch-letters true (Some k) f n number is few =
    subst (λ (g : Fetcher FrontValues PairSpent). IsText (g.text (g.count n) number)) (fetcher-same (second_fetcher k) f is)
    (session-letters (session_text k) n.second_fetches number few)

-- a fetch that is sent where all has come is all that is on its way: there is room for it where there is room for a step
pub room-fetch : (second : Bool) (f : Fetcher FrontValues PairSpent) (number : ℕ) (w : PairRun)
    → fetcher_on second w.state.attached ≡ Some f
    → IsAtRest w → fetches_on second w.spent + 1 ≤ most_fetches → PairRoom w.state
    → SettleHasRoom (sent_up (f.text (f.count w.spent) number) f.one_more w)
room-fetch second f number w is rests few room =
    subst (RoomThroughout (pair_step pair_reads client_steps) PairRoom w.state)
    (sym (arriving-one (f.text (f.count w.spent) number) w.up (fetch-letters second w.state.attached f w.spent number is few) rests.up))
    (room, tt)

pub fetch-room : (second : Bool) (f : Fetcher FrontValues PairSpent) (number : ℕ) (w : PairRun)
    → fetcher_on second w.state.attached ≡ Some f
    → IsAtRest w → fetches_on second w.spent + 1 ≤ most_fetches
    → SettleHasRoom (sent_up (f.text (f.count w.spent) number) f.one_more w) → PairRoom w.state
fetch-room second f number w is rests few room =
    let one : RoomThroughout (pair_step pair_reads client_steps) PairRoom w.state (f.text (f.count w.spent) number ∷ []) =
    subst (RoomThroughout (pair_step pair_reads client_steps) PairRoom w.state)
    (arriving-one (f.text (f.count w.spent) number) w.up (fetch-letters second w.state.attached f w.spent number is few) rests.up) room in
    one.0

-- a page has no more sheets than that, and so has each front end
few-by : (second : Bool) (attached : Option ℕ) (n : PairSpent) (p : FrontValues) (s : PageSessions) (f : Fetcher FrontValues PairSpent)
    → PairIsFit n p s [] → s.attached ≡ attached → fetcher_on second attached ≡ Some f → length (f.stale p) ≤ most_sheets
few-by false attached n p s f shown same is =
    subst (λ (g : Fetcher FrontValues PairSpent). length (g.stale p) ≤ most_sheets) (fetcher-same first_fetcher f is)
    (first_laws.few n p s [] shown)
few-by true None n p s f shown same is = absurd cc
few-by true (Some k) n p s f shown same is =
    subst (λ (g : Fetcher FrontValues PairSpent). length (g.stale p) ≤ most_sheets) (fetcher-same (second_fetcher k) f is)
    ((second_laws k (attached-number n p s [] k shown same)).few n p s [] shown)

pub few-stale : (second : Bool) (n : PairSpent) (p : FrontValues) (s : PageSessions) (f : Fetcher FrontValues PairSpent)
    → PairIsCalm n p s [] → fetcher_on second s.attached ≡ Some f → length (f.stale p) ≤ most_sheets
few-stale second n p s f shown is = few-by second s.attached n p s f (is_calm shown) refl is
