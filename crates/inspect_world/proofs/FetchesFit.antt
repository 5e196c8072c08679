-- What the fetches of a settle need of this protocol.
use Rattle.std.proofs.Common.{◌≡◌, ℕ, ◌+◌, ◌==◌, ◌^◌, ◌<◌, ◌≤◌, Bool, true, false, ◌&&◌, cond, nat_lt, List, [], ◌∷◌, ◌++◌, length}
use Rattle.std.proofs.Common.{take, map}
use Rattle.std.proofs.Common.{codes, Some, None, option_map, option_and_then, Result, Ok, Err, refl, sym, ◌∙◌, ap, subst, arith, append-nil}
use Rattle.std.proofs.Common.{lt-ltb}
use Rattle.std.specs.List.{All}
use Rattle.std.specs.Str.{IsUtf8}
use Rattle.std.proofs.lemmas.Bool.{eq-eqb}
use Rattle.pipe_frames.specs.Frames.{IsText, Frames, frames_of}
use Rattle.cdp_json.specs.Kinds.{is_counted}
use Rattle.css_objects.specs.Sheets.{is_sheet}
use Rattle.cdp_messages.specs.declared.down.ReplyBody.TheVariants.{SheetText}
use Rattle.cdp_messages.specs.Asked.{command_text}
use Rattle.client_views.specs.Views.{ShownSheet, shown_text}
use Rattle.cdp_messages.specs.Replies.{message_data, reply, reply_text}
use Rattle.cdp_messages.specs.Results.{body_data}
use Rattle.client_views.specs.Moves.{texted, move_text, frames_of_moves}
use Rattle.cdp_messages.proofs.Results.{replies_are_shallow}
use Rattle.cdp_messages.proofs.Messages.{reply_plain, replies_are_read, results_are_read}
use Rattle.cdp_messages.proofs.TextsUtf8.{replies_are_utf8}
use Rattle.cdp_messages.proofs.ZeroFree.{texts_have_no_zero}
use Rattle.replay_script.specs.Forms.{AskForm, LineForm}
use Rattle.page_forms.specs.Pages.{LoadedPage, CanLoadPage}
use Rattle.page_forms.specs.Texts.{PageHasTexts}
use Rattle.back_end.specs.Steps.{Step, asked_step, frame_step}
use Rattle.inspect_world.specs.RunStates.{RunState, styles_asked, styles_answered, run_step}
use Rattle.inspect_world.specs.ShownPauses.{pauses_in}
use Rattle.inspect_world.proofs.Growing.{pauses-of}
use Rattle.front_mirror.specs.declared.replies.Ask.{Ask}
use Rattle.front_mirror.specs.declared.sheets.KnownSheet.{KnownSheet}
use Rattle.front_mirror.specs.Sheets.{has_sheet, with_fetched, stale_of}
use Rattle.front_mirror.specs.declared.faults.FrontKind.{FrontKind}
use Rattle.front_mirror.specs.Front.{FrontValue, reply_frame, first_value, fetch_ask, method_waiting, fetched_sheet, reply_kept}
use Rattle.front_mirror.specs.Front.{unless_fetch}
use Rattle.front_mirror.specs.Front.{kept_reply, sheets_fetched, asks_without, replied, seen_pause, with_body, with_reply, with_message}
use Rattle.front_mirror.specs.Front.{take_frame}
use Rattle.front_mirror.specs.Laws.{Has, KnowsSheets}
use Rattle.back_end.specs.States.{State, IsState, sheets_shown, view_of}
use Rattle.back_end.specs.Laws.{HasRoom}
use Rattle.session_runs.specs.Stream.{sent, arriving}
use Rattle.front_mirror.specs.declared.panels.PanelKind.{PanelKind}
use Rattle.session_runs.specs.World.{settled}
use Rattle.inspect_world.specs.World.{World, Audience, Spent, PlainlySpent, plainly}
use Rattle.cdp_json.specs.Lookups.{then_ok}
use Rattle.session_runs.specs.Fold.{folded}
use Rattle.session_runs.specs.Fetches.{front_in, fetched, fetched_if, all_fetched, stale_in, IsDue, GivesText, FetchLaws}
use Rattle.inspect_world.specs.Fits.{join, with_ask, IsPlainFrame, most_bytes, most_sheets, most_fetches, kept_styles, IsBare, AlwaysRoom}
use Rattle.inspect_world.specs.Fits.{IsNextIn}
use Rattle.inspect_world.specs.Fits.{IsNextTurn, IsFit, replay, Fits}
use Rattle.inspect_world.specs.Costs.{line_cost, lines_cost}
use Rattle.inspect_world.specs.Scripts.{after_line, after_lines, loaded_world}
use Rattle.inspect_world.specs.ScriptsFit.{IsLater}
use Rattle.replay_script.specs.Sound.{CanSend}
use Rattle.inspect_world.specs.ShownReplies.{reply_shown, replies_in}
use Rattle.inspect_world.specs.FreshRuns.{front_fetcher, refreshes, fresh_line, Unstyled, unstyled, no_others, Together, FreshLinesFit}
use Rattle.inspect_world.specs.FreshRuns.{FreshInputsFit}
use Rattle.inspect_world.specs.FreshRuns.{fresh_lines, ShowsFresh, RefreshedShows, InputsShowTexts}
use Rattle.inspect_world.proofs.FitLemmas.{fit-room, world_laws, room-always}
use Rattle.session_runs.proofs.AgreeLemmas.{ok-one}
use Rattle.session_runs.proofs.FetchLemmas.{IsRefreshed, settled-rests, fit-rests, refreshed-made}
use Rattle.inspect_world.proofs.Messages.{ask_in-sent}
use Rattle.inspect_world.proofs.Replies.{replies-of}
use Rattle.inspect_world.proofs.StepsTaken.{frames_of-moves}
use Rattle.inspect_world.proofs.ShownSheets.{fresh-texts, shown-below, are-apart, known-length, HasText, stale-shown, shown-number}
use Rattle.inspect_world.proofs.ShownSheets.{shown-utf8}
use Rattle.inspect_world.proofs.StaleLemmas.{AreApart, stale-known, stale-few, stale-fetched}
use Rattle.inspect_world.proofs.FetchTold.{shown-told}
use Rattle.inspect_world.proofs.UnstyledLemmas.{unstyled-takes, unstyled-joins}
use Rattle.inspect_world.proofs.FetchForms.{fetcher-text, fetcher-asks, fetcher-asked, fetcher-next}
use Rattle.inspect_world.proofs.FreshLemmas.{together-told, room-fetches, settled-plain, together-line, together-loaded, fresh-lines-fit}
use Rattle.inspect_world.proofs.FreshLemmas.{fresh-inputs-fit, refreshed-shows, lines-together}
use Rattle.inspect_world.proofs.Inputs.{input-script, Script}

-- ---- which sheets are fetched

-- a front end knows the sheets that are shown, which are few
pub few-known : (state : State) (known : List KnownSheet) → IsState state → KnowsSheets known (sheets_shown state)
    → length (stale_of known) ≤ most_sheets
few-known state known is knows =
    let shown : length (sheets_shown state) ≤ 1000 = (shown-below state is).few in
    let same : length known ≡ length (sheets_shown state) = known-length known (sheets_shown state) knows in
    let stale : length (stale_of known) ≤ length known = stale-few known in
    omega (arith, shown, same, stale)

few-stale : (n : Spent) (front : FrontValue) (s : RunState) (frames : List (List ℕ)) → IsFit n front s frames
    → length (stale_of front.sheets) ≤ most_sheets
few-stale n front s frames fit = few-known s.back front.sheets fit.is_state fit.has.sheets

-- a sheet whose text is fetched: it is shown, with a number of sheets; both domains are on
pub record IsShownSheet (state : State) (number : ℕ) : Type 0 where
  pub text : List ℕ
  pub shown : shown_text number state.side.sheets ≡ Some text
  pub css : state.client.css_on ≡ true
  pub dom : state.client.dom_on ≡ true
  pub low : 1 ≤ number
  pub high : number < 2 ^ 53

shown-on : (on : Bool) (ss : List ShownSheet) (number : ℕ) (text : List ℕ) → shown_text number (cond on ss []) ≡ Some text
    → (on ≡ true) × (shown_text number ss ≡ Some text)
shown-on true ss number text e = (refl, e)
shown-on false ss number text e = absurd cc

not-off : (b : Bool) → (b ≡ false → ⊥) → b ≡ true
not-off true never = refl
not-off false never = absurd (never refl)

-- the first sheet without a fresh text is such a one
pub stale-is-shown : (state : State) (known : List KnownSheet) (number : ℕ) (numbers : List ℕ) → IsState state → HasRoom state
    → KnowsSheets known (sheets_shown state) → stale_of known ≡ number ∷ numbers → IsShownSheet state number
stale-is-shown state known number numbers is room knows first =
    let next : state.side.next_sheet < 2 ^ 50 = room.sheets in
    let has : HasText number (sheets_shown state) = stale-shown known (sheets_shown state) number numbers knows first in
    let on = shown-on state.client.css_on state.side.sheets number has.text has.is in
    let within : (1 ≤ number) × (number < state.side.next_sheet) =
    shown-number number 1 state.side.next_sheet (sheets_shown state) has.text (shown-below state is).numbers has.is in
    record {
      text = has.text;
      shown = on.1;
      css = on.0;
      dom = not-off state.client.dom_on (λ off. let no : true ≡ false = sym on.0 ∙ is.now.css_off off in absurd cc);
      low = within.0;
      high = let below : number < state.side.next_sheet = within.1 in omega (arith, next, below);
    }

due-shown : (n : Spent) (front : FrontValue) (s : RunState) (number : ℕ) (numbers : List ℕ)
    → IsDue IsFit front_fetcher most_fetches n front s number numbers
    → IsShownSheet s.back number
due-shown n front s number numbers due =
    stale-is-shown s.back front.sheets number numbers due.fit.is_state (fit-room n front s [] due.fit) due.fit.has.sheets due.first

numbered : (number : ℕ) → 1 ≤ number → number < 2 ^ 53 → is_sheet number ≡ true
numbered number low high = both (nat_lt 0 number) (is_counted number) (lt-ltb 0 number (omega (arith, low))) (lt-ltb number (2 ^ 53) high)
  where
    both : (a b : Bool) → a ≡ true → b ≡ true → (a && b) ≡ true
    both true b x y = y
    both false b x y = absurd cc

-- ---- what is answered

-- a reply with a text is one without a zero byte
pub texted-is-text : (id number : ℕ) (text : List ℕ) → is_counted id ≡ true → IsText (move_text (texted id number text))
texted-is-text id number text counted = texts_have_no_zero (message_data (reply id (body_data (SheetText text))))
    (reply_plain id (SheetText text) counted refl)

-- the step on the fetch
pub fetch-step : (count number : ℕ) (state : State) → count + 1 ≤ most_fetches → (s : IsShownSheet state number)
    → frame_step false (front_fetcher.text count number) state
    ≡ record { state = state; moves = texted (2 ^ 30 + count) number s.text ∷ [] }
fetch-step count number state few s =
    ap (λ r. asked_step r state) (fetcher-asked count number few (omega (arith, s.high)))
    ∙ shown-told (2 ^ 30 + count) number s.text state s.dom s.css s.high (numbered number s.low s.high) s.shown

-- a reply with the text of a sheet, to the fetch that waits alone
pub fetched-front : (v : FrontValue) (count number : ℕ) (text : List ℕ) → v.asks ≡ fetch_ask count number ∷ []
    → is_counted (2 ^ 30 + count) ≡ true → IsUtf8 text
    → (after : FrontValue) × (take_frame v (move_text (texted (2 ^ 30 + count) number text)) ≡ Ok after)
    × (after.sheets ≡ with_fetched number text v.sheets) × (unstyled after ≡ record (unstyled v) { asks = [] })
fetched-front v count number text asks counted utf8 =
    let id : ℕ = 2 ^ 30 + count in
    let frame = reply_text id (SheetText text) in
    let method = codes "CSS.getStyleSheetText" in
    let first : (id == id) ≡ true = eq-eqb id id refl in
    let waits : method_waiting id v.asks ≡ Some method =
    ap (method_waiting id) asks ∙ ap (λ b. option_map (λ (a : Ask). a.method) (cond b (Some (fetch_ask count number)) None)) first in
    let sheet : fetched_sheet id v.asks ≡ Some number =
    ap (fetched_sheet id) asks ∙ ap (λ b. option_and_then (λ (a : Ask). a.sheet) (cond b (Some (fetch_ask count number)) None)) first in
    let gone : asks_without id v.asks ≡ [] = ap (asks_without id) asks ∙ ap (λ b. cond b [] (fetch_ask count number ∷ [])) first in
    let after : FrontValue = record
    (replied v (reply_frame id frame) true v.tree) {
      sheets = sheets_fetched (fetched_sheet id v.asks) text v.sheets;
      matched = v.matched ++ [];
    } in
    let reply_kept : kept_reply id v.asks frame true
    ≡ [] = ap (λ o. unless_fetch o (reply_kept (Some id) (method_waiting id v.asks) frame true)) sheet in (
      after,
      ap (with_message v frame) (replies_are_read id (SheetText text) counted refl (replies_are_shallow id (SheetText text) (omega arith))
          (replies_are_utf8 id (SheetText text) counted refl utf8))
          ∙ ap (with_reply v (reply_frame id frame) (body_data (SheetText text))) waits
          ∙ ap (with_body v (reply_frame id frame) method) (results_are_read method (SheetText text) refl refl),
      ap (λ o. sheets_fetched o text v.sheets) sheet,
      λ i. record {
        tree = v.tree;
        asks = gone i;
        replies = (ap (λ ks. v.replies ++ ks) reply_kept ∙ append-nil v.replies) i;
        pauses = v.pauses;
        matched = append-nil v.matched i;
      },
    )

-- the answer to a fetch that is due leaves the state, and gives the text
gives-text : (n : Spent) (front after : FrontValue) (run : RunState) (number : ℕ) (numbers : List ℕ)
    → IsDue IsFit front_fetcher most_fetches n front run number numbers
    → folded take_frame (join front (front_fetcher.text n.fetches number))
    (frames_of (run_step run (front_fetcher.text n.fetches number)).sent).whole ≡ Ok after
    → GivesText front_fetcher unstyled no_others front after run (run_step run (front_fetcher.text n.fetches number)).state numbers
gives-text n front after run number numbers due taken =
    let state : State = run.back in
    let s : IsShownSheet state number = due-shown n front run number numbers due in
    let text = front_fetcher.text n.fetches number in
    let move = texted (2 ^ 30 + n.fetches) number s.text in
    let done : frame_step false text state ≡ record { state = state; moves = move ∷ [] } = fetch-step n.fetches number state due.left s in
    let few : n.fetches + 1 ≤ most_fetches = due.left in
    let counted : is_counted (2 ^ 30 + n.fetches) ≡ true = lt-ltb (2 ^ 30 + n.fetches) (2 ^ 53) (omega (arith, few)) in
    let utf8 : IsUtf8 s.text = shown-utf8 number s.text state.side.sheets due.fit.is_state.now.sheets.texts s.shown in
    let joins : join front text ≡ with_ask front (Some (fetch_ask n.fetches number)) = ap (with_ask front)
    (fetcher-asks n.fetches number due.left (omega (arith, s.high))) in
    let v = with_ask front (Some (fetch_ask n.fetches number)) in
    let asks : v.asks ≡ fetch_ask n.fetches number
    ∷ [] = ap (λ (asks : List Ask). asks ++ fetch_ask n.fetches number ∷ []) (sym due.fit.asks) in
    let f = fetched-front v n.fetches number s.text asks counted utf8 in
    let frames : (frames_of (run_step run text).sent).whole ≡ move_text move ∷ [] =
    ap (λ (d : Step). (frames_of (frames_of_moves d.moves)).whole) done ∙ ap (λ (fs : Frames). fs.whole)
    (frames_of-moves (move ∷ []) (texted-is-text (2 ^ 30 + n.fetches) number s.text counted, tt)) in
    let is : after ≡ f.0 =
    ok-one (folded take_frame (join front text) (frames_of (run_step run text).sent).whole) after f.0 taken
    (ap (λ u. folded take_frame u (frames_of (run_step run text).sent).whole) joins ∙ ap (folded take_frame v) frames ∙ ap
    (λ r. then_ok r (λ (next : FrontValue). Ok next)) f.1) in
    let apart : AreApart front.sheets = are-apart 1 state.side.next_sheet front.sheets (sheets_shown state) due.fit.has.sheets
    (shown-below state due.fit.is_state).numbers in
    record {
      state_is =
          let none : styles_answered text state
          ≡ [] = ap (λ r. styles_asked r state) (fetcher-asked n.fetches number due.left (omega (arith, s.high))) in
          λ i. record { back = (done i).state; styles = (ap (λ ts. run.styles ++ ts) none ∙ append-nil run.styles) i };
      left = ap (λ (u : FrontValue). stale_of u.sheets) is ∙ ap stale_of f.2 ∙ stale-fetched front.sheets number numbers s.text apart
          due.first;
      same = ap unstyled is ∙ f.3 ∙ ap (λ (asks : List Ask). record (unstyled front) { asks = asks }) due.fit.asks;
      others = refl;
    }

-- ---- the laws

pub fetch_laws : FetchLaws replay AlwaysRoom IsNextIn IsFit plainly front_fetcher unstyled no_others most_sheets most_fetches
fetch_laws = record {
  counts = λ n. refl;
  plain = λ n. refl;
  turns = λ n m same. ap (λ (k : PlainlySpent). record k { turns = k.turns + 1 }) same;
  takes = unstyled-takes;
  joins = unstyled-joins;
  few = few-stale;
  known = λ front number numbers first. stale-known front.sheets number numbers first;
  letters = λ n front state number numbers due. fetcher-text n.fetches number due.left;
  next = λ n front state number numbers room due. let s : IsShownSheet state.back number = due-shown n front state number numbers due in
      fetcher-next n number due.left (omega (arith, s.high));
  answer = λ n front after state number numbers room. gives-text n front after state number numbers;
}

-- a script's asks are no fetches
pub plain-sent : (id : ℕ) (a : AskForm) → CanSend a → id < 2 ^ 30 → IsPlainFrame (command_text id a.method a.params a.session)
plain-sent id a can small = ap (option_and_then (λ (ask : Ask). ask.sheet)) (ask_in-sent id a can small)

-- and no frame is one that names no ask
pub plain-bare : (text : List ℕ) → IsBare text → IsPlainFrame text
plain-bare text bare = ap (option_and_then (λ (ask : Ask). ask.sheet)) bare.no_ask

-- a front end that has sent no fetch has kept the replies that came down
kept-all : (w : World RunState) (front : FrontValue) → All IsPlainFrame (frames_of (sent w.up)).whole
    → front_in replay (first_value []) w ≡ Ok front → map reply_shown front.replies ≡ replies_in w.down.given
kept-all w front all is = replies-of (frames_of (sent w.up)).whole (frames_of w.down.given).whole front all is

-- ---- the law of the run with fetches

pub fresh-lines : FreshLinesFit front_fetcher IsPlainFrame
fresh-lines = fresh-lines-fit front_fetcher IsPlainFrame (λ n. refl) fetch_laws plain-sent plain-bare

pub fresh-inputs : FreshInputsFit front_fetcher IsPlainFrame
fresh-inputs = fresh-inputs-fit front_fetcher IsPlainFrame (λ n. refl) fetch_laws plain-sent plain-bare

pub refreshed-all : RefreshedShows front_fetcher IsPlainFrame
refreshed-all = refreshed-shows front_fetcher IsPlainFrame (λ n. refl) fetch_laws plain-sent plain-bare kept-all

-- after any lines of an input, a settle shows the texts of the page
pub inputs-show-texts : InputsShowTexts
inputs-show-texts input page lines is few kinds n =
    let script : Script page lines (length input) = input-script input page lines is in
    let cost : lines_cost lines ≤ length input = script.rest.few in
    let w = after_lines (take n lines) (loaded_world kinds page) in
    let v = fresh_lines front_fetcher (take n lines) (loaded_world kinds page) in
    let start : Together IsPlainFrame (lines_cost lines) (loaded_world kinds page) (loaded_world kinds page) =
    together-loaded front_fetcher IsPlainFrame (λ n. refl) fetch_laws plain-sent plain-bare kinds page
    (lines_cost lines) script.can script.texts
    (omega (arith, cost, few)) in
    let both : Together IsPlainFrame 0 w v =
    lines-together front_fetcher IsPlainFrame (λ n. refl) fetch_laws plain-sent plain-bare n lines (loaded_world kinds page)
    (loaded_world kinds page)
    script.rest.later start in
    let shown : ShowsFresh front_fetcher (settled run_step w) (refreshes front_fetcher v) = refreshed-all w v both in
    record {
      shown = shown;
      texts = fresh-texts shown.front.sheets (sheets_shown (settled run_step w).state.back) shown.shows.sheets shown.fresh;
    }

-- ---- lines, in both runs

pub play-line : (line : LineForm) (k : ℕ) (w v : World RunState) → IsLater line → Together IsPlainFrame (k + line_cost line) w v
    → Together IsPlainFrame k (after_line line w) (fresh_line front_fetcher line v)
play-line = together-line front_fetcher IsPlainFrame (λ n. refl) fetch_laws plain-sent plain-bare

pub play-loaded : (kinds : List PanelKind) (page : LoadedPage) (k : ℕ) → CanLoadPage page → PageHasTexts page → k ≤ most_bytes
    → Together IsPlainFrame k (loaded_world kinds page) (loaded_world kinds page)
play-loaded = together-loaded front_fetcher IsPlainFrame (λ n. refl) fetch_laws plain-sent plain-bare

pub play-told : (k : ℕ) (w v : World RunState) (n : Audience) → Together IsPlainFrame k w v
    → Together IsPlainFrame k w (record v { told = n })
play-told = together-told front_fetcher IsPlainFrame (λ n. refl) fetch_laws plain-sent plain-bare

-- what a front end shows after a settle: what the client sees; and it has kept the replies and the pauses that came in the run without
-- fetches, and the matched styles that the client was told
pub record ShownThen (w : World RunState) (front : FrontValue) : Type 0 where
  pub has : Has front (view_of (settled run_step w).state.back)
  pub fresh : stale_of front.sheets ≡ []
  pub told : map reply_shown front.replies ≡ replies_in (settled run_step w).down.given
  pub pauses : front.pauses ≡ map seen_pause (pauses_in (settled run_step w).down.given)
  pub styles : map kept_styles front.matched ≡ (settled run_step w).state.styles

pub shown-then : (k : ℕ) (w v : World RunState) (front : FrontValue) → Together IsPlainFrame k w v
    → front_in replay (first_value []) (refreshes front_fetcher v) ≡ Ok front → ShownThen w front
shown-then k w v front both is =
    let made : IsRefreshed replay AlwaysRoom IsNextIn IsNextTurn IsFit world_laws plainly front_fetcher unstyled no_others most_sheets
    most_fetches fetch_laws (first_value []) w v (refreshes front_fetcher v) =
    refreshed-made replay AlwaysRoom IsNextIn IsNextTurn IsFit world_laws plainly front_fetcher unstyled no_others most_sheets most_fetches
    fetch_laws (first_value []) w v
    both.runs.fits both.runs.fits_fresh both.runs.agrees
    (room-fetches front_fetcher IsPlainFrame (λ n. refl) fetch_laws plain-sent plain-bare v k both.left)
    (room-always w.state (arriving (length w.up.flying) w.up)) (room-always v.state (arriving (length v.up.flying) v.up)) tt in
    let v1 = refreshes front_fetcher v in
    let fit : IsFit v1.spent front v1.state [] =
    fit-rests replay IsFit (first_value []) v1 front made.fits made.rests is in
    let same : made.agrees.fresh ≡ front = ok-one (front_in replay (first_value []) v1) made.agrees.fresh front made.agrees.fresh_is is in
    record {
      has = subst (λ (s : RunState). Has front (view_of s.back)) (sym made.agrees.state) fit.has;
      styles = fit.styles ∙ ap (λ (s : RunState). s.styles) (sym made.agrees.state);
      pauses =
          ap (λ (f : FrontValue). f.pauses) (sym same)
          ∙ sym (ap (λ (u : Unstyled). u.pauses) made.agrees.same)
          ∙ pauses-of (frames_of (sent (settled run_step w).up)).whole
          (frames_of (settled run_step w).down.given).whole made.agrees.plain made.agrees.plain_is;
      fresh = ap (λ (f : FrontValue). stale_of f.sheets) (sym same) ∙ made.none;
      told =
          ap (λ (f : FrontValue). map reply_shown f.replies) (sym same)
          ∙ sym (ap (λ (u : Unstyled). map reply_shown u.replies) made.agrees.same)
          ∙ kept-all (settled run_step w) made.agrees.plain
          (settled-plain front_fetcher IsPlainFrame (λ n. refl) fetch_laws plain-sent plain-bare w both.runs.plain) made.agrees.plain_is;
    }

-- ---- fetches spend nothing but fetches, and tell no reply

-- a sheet that is fetched, or passed over, spends one fetch at most
pub fetched-if-spends : (start : FrontValue) (number : ℕ) (w : World RunState)
    → (fetched_if replay front_fetcher (front_in replay start w) number w).spent.fetches ≤ w.spent.fetches + 1
fetched-if-spends start number w = at (front_in replay start w) where
  by : (known : Bool) → (cond known (fetched replay front_fetcher number w) w).spent.fetches ≤ w.spent.fetches + 1
  by true = omega arith
  by false = omega arith

  at : (r : Result FrontValue FrontKind) → (fetched_if replay front_fetcher r number w).spent.fetches ≤ w.spent.fetches + 1
  at (Ok front) = by (has_sheet number front.sheets)
  at (Err kind) = omega arith

fetched-if-told : (start : FrontValue) (number : ℕ) (w : World RunState)
    → (fetched_if replay front_fetcher (front_in replay start w) number w).told ≡ w.told
fetched-if-told start number w = at (front_in replay start w) where
  by : (known : Bool) → (cond known (fetched replay front_fetcher number w) w).told ≡ w.told
  by true = refl
  by false = refl

  at : (r : Result FrontValue FrontKind) → (fetched_if replay front_fetcher r number w).told ≡ w.told
  at (Ok front) = by (has_sheet number front.sheets)
  at (Err kind) = refl

all-fetched-told : (start : FrontValue) (numbers : List ℕ) (w : World RunState)
    → (all_fetched replay front_fetcher start numbers w).told ≡ w.told
all-fetched-told start [] w = refl
all-fetched-told start (number ∷ numbers) w =
    all-fetched-told start numbers (fetched_if replay front_fetcher (front_in replay start w) number w) ∙ fetched-if-told start number w

pub refreshed-told : (w : World RunState) → (refreshes front_fetcher w).told ≡ w.told
refreshed-told w = all-fetched-told (first_value []) (stale_in front_fetcher (front_in replay (first_value []) (settled run_step w)))
    (settled run_step w)

-- after a settle the sheets that the front end would fetch are few
pub few-then : (w : World RunState) (front : FrontValue) → Fits (settled run_step w)
    → front_in replay (first_value []) (settled run_step w) ≡ Ok front
    → length (stale_of front.sheets) ≤ most_sheets
few-then w front fits is =
    let w1 = settled run_step w in
    let rests = settled-rests replay IsFit (first_value []) w fits in
    few-stale w1.spent front w1.state []
    (fit-rests replay IsFit (first_value []) w1 front fits rests is)
