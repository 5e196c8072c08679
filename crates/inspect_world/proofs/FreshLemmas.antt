-- The run of a script with the fetches of its settles goes together with the run that the report tells, line by line.
use Rattle.std.proofs.Common.{◌≡◌, ℕ, zero, suc, ◌+◌, ◌*◌, ◌^◌, ◌<◌, ◌≤◌, List, [], ◌∷◌, length, take, map, Ok, refl, sym, ◌∙◌, ap, subst}
use Rattle.std.proofs.Common.{arith}
use Rattle.std.specs.List.{All}
use Rattle.page_forms.specs.Pages.{LoadedPage, CanLoadPage}
use Rattle.page_forms.specs.Texts.{PageHasTexts}
use Rattle.pipe_frames.specs.Frames.{IsText, frames_of}
use Rattle.cdp_messages.specs.Asked.{command_text}
use Rattle.replay_script.specs.Forms as forms
use Rattle.replay_script.specs.Forms.{AskForm, LineForm, load, ask, up, down, settle, show_front, show_page, show_sheets, show_replies}
use Rattle.replay_script.specs.Forms.{show_pauses, show_panels, show_styles, close}
use Rattle.front_mirror.specs.Front.{FrontValue, first_value, take_frame}
use Rattle.front_mirror.specs.Laws.{Has}
use Rattle.back_end.specs.States.{view_of}
use Rattle.back_end.specs.Steps.{Turn, acts, loads}
use Rattle.inspect_world.specs.RunStates.{RunState, run_start, run_step, run_turn}
use Rattle.inspect_world.proofs.Growing.{pauses-of}
use Rattle.session_runs.specs.Stream.{sent, arriving}
use Rattle.front_mirror.specs.declared.panels.PanelKind.{PanelKind}
use Rattle.session_runs.specs.World.{sent_up, settled}
use Rattle.inspect_world.specs.World.{World, Audience, audience, Spent, nothing_spent, one_ask, one_raw, turned, PlainlySpent, plainly}
use Rattle.inspect_world.specs.Costs.{ask_edits, least_line, line_cost, lines_cost}
use Rattle.session_runs.specs.Fold.{folded, asks_joined}
use Rattle.session_runs.specs.Fetches.{Fetcher, front_in, FetchLaws}
use Rattle.session_runs.specs.Agreement.{RunTogether}
use Rattle.inspect_world.specs.Fits.{join, most_bytes, most_frames, most_sheets, most_fetches, HasLeft, IsBare, IsNext, AlwaysRoom}
use Rattle.inspect_world.specs.Fits.{IsNextIn, next_raw}
use Rattle.inspect_world.specs.Fits.{IsNextTurn, IsFit, replay}
use Rattle.inspect_world.specs.Scripts.{sends, telling, after_line, after_lines, loaded_world}
use Rattle.inspect_world.specs.ScriptsFit.{IsLater, AreLater}
use Rattle.replay_script.specs.Sound.{CanSend}
use Rattle.inspect_world.specs.ShownReplies.{reply_shown, replies_in}
use Rattle.inspect_world.specs.FreshRuns.{refreshes, fresh_line, fresh_lines, Unstyled, unstyled, no_others, Together, FreshLinesFit}
use Rattle.inspect_world.specs.FreshRuns.{FreshInputsFit}
use Rattle.inspect_world.specs.FreshRuns.{RefreshedShows}
use Rattle.session_runs.proofs.Frames.{sent-all, sent-passed}
use Rattle.inspect_world.proofs.FitLemmas.{world_laws, room-always}
use Rattle.inspect_world.proofs.Messages.{IsText-sent, IsNext-sent}
use Rattle.inspect_world.proofs.Scripts.{fit-first, fits-told, frame-left, edits-left, turn-left, Spends, spends-nothing, spends-ask}
use Rattle.inspect_world.proofs.Scripts.{spends-raw, spends-turn, left-first, left-fewer, left-one, spent-on}
use Rattle.inspect_world.proofs.Inputs.{input-script, Script}
use Rattle.session_runs.proofs.FetchLemmas.{IsRefreshed, refreshed-made, fit-rests}
use Rattle.session_runs.proofs.TogetherLemmas.{together-first, together-sent_up, together-turned, together-delivered_up}
use Rattle.session_runs.proofs.TogetherLemmas.{together-delivered_down, together-settled}

-- the asks of both runs are counted alike
sent-alike : (a : AskForm) (w v : World RunState) → w.spent.asks ≡ v.spent.asks
    → sends a v ≡ sent_up (command_text (w.spent.asks + 1) a.method a.params a.session) (one_ask (ask_edits a)) v
sent-alike a w v same = ap (λ n. sent_up (command_text (n + 1) a.method a.params a.session) (one_ask (ask_edits a)) v) (sym same)

-- two runs have spent as much, but for fetches
record SpentAlike (n m : Spent) : Type 0 where
  asks : n.asks ≡ m.asks
  raws : n.raws ≡ m.raws
  turns : n.turns ≡ m.turns
  edits : n.edits ≡ m.edits

spent-alike : (n m : Spent) → plainly n ≡ plainly m → SpentAlike n m
spent-alike n m same = record {
  asks = ap (λ (k : PlainlySpent). k.asks) same;
  raws = ap (λ (k : PlainlySpent). k.raws) same;
  turns = ap (λ (k : PlainlySpent). k.turns) same;
  edits = ap (λ (k : PlainlySpent). k.edits) same;
}

-- a count of the one run is that of the other
few-alike : (n m more most : ℕ) → n ≡ m → m + more ≤ most → n + more ≤ most
few-alike n m more most same few = omega (arith, same, few)

frames-alike : (asks asks1 raws raws1 most : ℕ) → asks ≡ asks1 → raws ≡ raws1 → asks1 + raws1 + 1 ≤ most → asks + raws + 1 ≤ most
frames-alike asks asks1 raws raws1 most same same_raws few = omega (arith, same, same_raws, few)

module _ (fetcher : Fetcher FrontValue Spent) (IsPlain : List ℕ → Type 0) (counts-fetches : (n : Spent) → fetcher.count n ≡ n.fetches)
    (fetching : FetchLaws replay AlwaysRoom IsNextIn IsFit plainly fetcher unstyled no_others most_sheets most_fetches)
    (plain-sent : (id : ℕ) (a : AskForm) → CanSend a → id < 2 ^ 30 → IsPlain (command_text id a.method a.params a.session))
    (plain-bare : (text : List ℕ) → IsBare text → IsPlain text) where
  -- both runs of a script
  abbrev pub BothRuns : World RunState → World RunState → Type 0
  BothRuns w v = RunTogether replay plainly IsFit (first_value []) unstyled IsPlain w v

  -- ---- a line

  both-sent : (a : AskForm) (w v : World RunState) → CanSend a → HasLeft v.spent (line_cost (ask a)) → BothRuns w v
      → BothRuns (sends a w) (sends a v)
  both-sent a w v can left both =
      let alike : SpentAlike w.spent v.spent = spent-alike w.spent v.spent both.agrees.spent in
      let frame : v.spent.asks + v.spent.raws + 1 ≤ most_frames = frame-left v.spent (ask_edits a) left in
      let edits : v.spent.edits + ask_edits a ≤ most_bytes = edits-left v.spent (ask_edits a) left in
      let few : w.spent.asks + w.spent.raws + 1 ≤ most_frames =
      frames-alike w.spent.asks v.spent.asks w.spent.raws v.spent.raws most_frames alike.asks alike.raws frame in
      let few_edits : w.spent.edits + ask_edits a
      ≤ most_bytes = few-alike w.spent.edits v.spent.edits (ask_edits a) most_bytes alike.edits edits in
      let small : w.spent.asks + 1 < 2 ^ 30 = omega (arith, few) in
      let text = command_text (w.spent.asks + 1) a.method a.params a.session in
      let next1 : IsNext v.spent text (one_ask (ask_edits a) v.spent) =
      subst (λ k. IsNext v.spent (command_text (k + 1) a.method a.params a.session) (one_ask (ask_edits a) v.spent)) (sym alike.asks)
      (IsNext-sent v.spent a can frame edits (subst (λ k. k + 1 < 2 ^ 30) alike.asks small)) in
      subst (λ u. BothRuns (sends a w) u) (sym (sent-alike a w v alike.asks))
      (together-sent_up replay AlwaysRoom IsNextIn IsNextTurn IsFit world_laws plainly fetcher unstyled no_others most_sheets most_fetches
      fetching IsPlain
      (first_value []) text (one_ask (ask_edits a)) w v
      (IsText-sent (w.spent.asks + 1) a can (omega (arith, few))) (plain-sent (w.spent.asks + 1) a can small)
      (ap (λ (k : PlainlySpent). record k { asks = k.asks + 1; edits = k.edits + ask_edits a }) both.agrees.spent)
      (IsNext-sent w.spent a can few few_edits small) next1 both)

  both-raw : (text : List ℕ) (w v : World RunState) → IsText text → IsBare text → HasLeft v.spent least_line → BothRuns w v
      → BothRuns (after_line (forms.raw text) w) (fresh_line fetcher (forms.raw text) v)
  both-raw text w v letters bare left both =
      let alike : SpentAlike w.spent v.spent = spent-alike w.spent v.spent both.agrees.spent in
      together-sent_up replay AlwaysRoom IsNextIn IsNextTurn IsFit world_laws plainly fetcher unstyled no_others most_sheets most_fetches
      fetching IsPlain
      (first_value []) text one_raw w v letters (plain-bare text bare)
      (ap (λ (k : PlainlySpent). record k { raws = k.raws + 1 }) both.agrees.spent)
      (next_raw bare (frames-alike w.spent.asks v.spent.asks w.spent.raws v.spent.raws most_frames alike.asks alike.raws
      (frame-left v.spent 0 left)))
      (next_raw bare (frame-left v.spent 0 left)) both

  both-turned : (x : Turn) (w v : World RunState) → IsNextTurn v.spent x → BothRuns w v
      → BothRuns (turned run_turn x w) (turned run_turn x v)
  both-turned x w v next both =
      let alike : SpentAlike w.spent v.spent = spent-alike w.spent v.spent both.agrees.spent in
      together-turned replay AlwaysRoom IsNextIn IsNextTurn IsFit world_laws plainly fetcher unstyled no_others most_sheets most_fetches
      fetching IsPlain
      (first_value []) x w v tt tt
      (record { is_turn = next.is_turn; few = few-alike w.spent.turns v.spent.turns 1 most_bytes alike.turns next.few }) next both

  -- a settle, which fetches the texts of a page's sheets at most
  pub room-fetches : (v : World RunState) (k : ℕ) → HasLeft v.spent k → v.spent.fetches + most_sheets ≤ most_fetches
  room-fetches v k left = let room : v.spent.fetches + (k + 1) * most_sheets ≤ most_fetches = left.fetches in omega (arith, room)

  -- the same, as the fetcher counts them
  room-counted : (v : World RunState) (k : ℕ) → HasLeft v.spent k → fetcher.count v.spent + most_sheets ≤ most_fetches
  room-counted v k left =
      subst (λ count. count + most_sheets ≤ most_fetches) (sym (counts-fetches v.spent)) (room-fetches v k left)

  both-settled : (w v : World RunState) → HasLeft v.spent least_line → BothRuns w v → BothRuns (settled run_step w) (refreshes fetcher v)
  both-settled w v left both =
      together-settled replay AlwaysRoom IsNextIn IsNextTurn IsFit world_laws plainly fetcher unstyled no_others most_sheets most_fetches
      fetching IsPlain
      (first_value []) w v (room-counted v least_line left) (room-always w.state (arriving (length w.up.flying) w.up))
      (room-always v.state (arriving (length v.up.flying) v.up)) tt both

  -- what was told says nothing of the streams
  both-told : (w v : World RunState) (told told1 : Audience) → BothRuns w v → BothRuns (telling told w) (telling told1 v)
  both-told w v told told1 both = record {
    fits = fits-told w _ both.fits;
    fits_fresh = fits-told v _ both.fits_fresh;
    agrees = record {
      state = both.agrees.state;
      up = both.agrees.up;
      down = both.agrees.down;
      spent = both.agrees.spent;
      plain = both.agrees.plain;
      fresh = both.agrees.fresh;
      plain_is = both.agrees.plain_is;
      fresh_is = both.agrees.fresh_is;
      same = both.agrees.same;
    };
    plain = both.plain;
  }

  -- in the run with fetches it may be anything
  pub together-told : (k : ℕ) (w v : World RunState) (n : Audience) → Together IsPlain k w v
      → Together IsPlain k w (record v { told = n })
  together-told k w v n both = record {
    runs = record {
      fits = both.runs.fits;
      fits_fresh = fits-told v n both.runs.fits_fresh;
      agrees = record {
        state = both.runs.agrees.state;
        up = both.runs.agrees.up;
        down = both.runs.agrees.down;
        spent = both.runs.agrees.spent;
        plain = both.runs.agrees.plain;
        fresh = both.runs.agrees.fresh;
        plain_is = both.runs.agrees.plain_is;
        fresh_is = both.runs.agrees.fresh_is;
        same = both.runs.agrees.same;
      };
      plain = both.runs.plain;
    };
    left = both.left;
  }

  both-line : (line : LineForm) (w v : World RunState) → IsLater line → HasLeft v.spent (line_cost line) → BothRuns w v
      → BothRuns (after_line line w) (fresh_line fetcher line v)
  both-line (load page) w v later left both = both-turned (loads page) w v (record { is_turn = later; few = turn-left v.spent left }) both
  both-line (forms.act a) w v later left both = both-turned (acts a) w v (record { is_turn = later; few = turn-left v.spent left }) both
  both-line (ask a) w v later left both = both-sent a w v later left both
  both-line (forms.raw text) w v later left both = both-raw text w v later.0 later.1 left both
  both-line (up n) w v later left both =
      together-delivered_up replay AlwaysRoom IsNextIn IsNextTurn IsFit world_laws plainly fetcher unstyled no_others most_sheets
      most_fetches fetching IsPlain
      (first_value []) n w v (room-always w.state (arriving n w.up)) (room-always v.state (arriving n v.up)) both
  both-line (down n) w v later left both =
      together-delivered_down replay AlwaysRoom IsNextIn IsNextTurn IsFit world_laws plainly fetcher unstyled no_others most_sheets
      most_fetches fetching IsPlain
      (first_value []) n w v both
  both-line settle w v later left both = both-settled w v left both
  both-line show_front w v later left both = both-settled w v left both
  both-line show_page w v later left both = both
  both-line show_sheets w v later left both = both-settled w v left both
  both-line show_replies w v later left both = both-told (settled run_step w) (refreshes fetcher v) _ _ (both-settled w v left both)
  both-line show_pauses w v later left both = both-told (settled run_step w) (refreshes fetcher v) _ _ (both-settled w v left both)
  both-line show_panels w v later left both = both-settled w v left both
  both-line (show_styles i) w v later left both = both-settled w v left both
  both-line (close i) w v later left both = both-told w v _ _ both

  -- ---- what a line spends

  -- what a settle spends
  settle-spends : (w v : World RunState) → BothRuns w v → HasLeft v.spent least_line → Spends v.spent (refreshes fetcher v).spent least_line
  settle-spends w v both one =
      let made : IsRefreshed replay AlwaysRoom IsNextIn IsNextTurn IsFit world_laws plainly fetcher unstyled no_others most_sheets
      most_fetches fetching
      (first_value []) w v (refreshes fetcher v) =
      refreshed-made replay AlwaysRoom IsNextIn IsNextTurn IsFit world_laws plainly fetcher unstyled no_others most_sheets most_fetches
      fetching (first_value []) w v
      both.fits both.fits_fresh both.agrees (room-counted v least_line one)
      (room-always w.state (arriving (length w.up.flying) w.up)) (room-always v.state (arriving (length v.up.flying) v.up)) tt in
      let alike : SpentAlike (refreshes fetcher v).spent v.spent =
      spent-alike (refreshes fetcher v).spent v.spent (sym made.agrees.spent ∙ both.agrees.spent) in
      let before : fetcher.count v.spent ≡ v.spent.fetches = counts-fetches v.spent in
      let after : fetcher.count (refreshes fetcher v).spent
      ≡ (refreshes fetcher v).spent.fetches = counts-fetches (refreshes fetcher v).spent in
      let few : fetcher.count (refreshes fetcher v).spent ≤ fetcher.count v.spent + most_sheets = made.fetches in
      spends-nothing v.spent (refreshes fetcher v).spent alike.asks alike.raws alike.turns alike.edits (omega (arith, before, after, few))

  line-spends : (line : LineForm) (w v : World RunState) → HasLeft v.spent (line_cost line) → BothRuns w v
      → Spends v.spent (fresh_line fetcher line v).spent (line_cost line)
  line-spends (load page) w v one both = spends-turn (loads page) v
  line-spends (forms.act a) w v one both = spends-turn (acts a) v
  line-spends (ask a) w v one both = spends-ask a v
  line-spends (forms.raw text) w v one both = spends-raw text v
  line-spends (up n) w v one both = spends-nothing v.spent v.spent refl refl refl refl (omega arith)
  line-spends (down n) w v one both = spends-nothing v.spent v.spent refl refl refl refl (omega arith)
  line-spends settle w v one both = settle-spends w v both one
  line-spends show_front w v one both = settle-spends w v both one
  line-spends show_page w v one both = spends-nothing v.spent v.spent refl refl refl refl (omega arith)
  line-spends show_sheets w v one both = settle-spends w v both one
  line-spends show_replies w v one both = settle-spends w v both one
  line-spends show_pauses w v one both = settle-spends w v both one
  line-spends show_panels w v one both = settle-spends w v both one
  line-spends (show_styles i) w v one both = settle-spends w v both one
  line-spends (close i) w v one both = spends-nothing v.spent v.spent refl refl refl refl (omega arith)

  -- both runs are carried on by a line
  pub together-line : (line : LineForm) (k : ℕ) (w v : World RunState) → IsLater line → Together IsPlain (k + line_cost line) w v
      → Together IsPlain k (after_line line w) (fresh_line fetcher line v)
  together-line line k w v later both =
      let one : HasLeft v.spent (line_cost line) = left-one v.spent k (line_cost line) both.left in
      record {
        runs = both-line line w v later one both.runs;
        left = spent-on k (line_cost line) v.spent (fresh_line fetcher line v).spent (line-spends line w v one both.runs) both.left;
      }

  -- ---- all lines

  both-lines : (n : ℕ) (lines : List LineForm) (w v : World RunState) → AreLater lines → Together IsPlain (lines_cost lines) w v
      → BothRuns (after_lines (take n lines) w) (fresh_lines fetcher (take n lines) v)
  both-lines zero lines w v later both = both.runs
  both-lines (suc n) [] w v later both = both.runs
  both-lines (suc n) (line ∷ lines) w v later both =
      both-lines n lines (after_line line w) (fresh_line fetcher line v) later.1 (together-line line (lines_cost lines) w v later.0 both)

  -- and there is room for a settle more
  pub lines-together : (n : ℕ) (lines : List LineForm) (w v : World RunState) → AreLater lines → Together IsPlain (lines_cost lines) w v
      → Together IsPlain 0 (after_lines (take n lines) w) (fresh_lines fetcher (take n lines) v)
  lines-together zero lines w v later both =
      record { runs = both.runs; left = left-fewer v.spent 0 (lines_cost lines) (omega arith) both.left }
  lines-together (suc n) [] w v later both = both
  lines-together (suc n) (line ∷ lines) w v later both =
      lines-together n lines (after_line line w) (fresh_line fetcher line v) later.1
      (together-line line (lines_cost lines) w v later.0 both)

  -- both runs begin with the load
  pub together-loaded : (kinds : List PanelKind) (page : LoadedPage) (k : ℕ) → CanLoadPage page → PageHasTexts page → k ≤ most_bytes
      → Together IsPlain k (loaded_world kinds page) (loaded_world kinds page)
  together-loaded kinds page k can texts few = record {
    runs =
        together-first replay AlwaysRoom IsNextIn IsNextTurn IsFit world_laws plainly fetcher unstyled no_others most_sheets most_fetches
        fetching IsPlain
        (first_value []) nothing_spent (audience kinds) (run_start page)
        (fit-first page can texts);
    left = left-first kinds page k few;
  }

  pub fresh-lines-fit : FreshLinesFit fetcher IsPlain
  fresh-lines-fit page lines can texts later few kinds n =
      both-lines n lines (loaded_world kinds page) (loaded_world kinds page) later
      (together-loaded kinds page (lines_cost lines) can texts few)

  pub fresh-inputs-fit : FreshInputsFit fetcher IsPlain
  fresh-inputs-fit input page lines is few kinds n =
      let script : Script page lines (length input) = input-script input page lines is in
      let a : lines_cost lines ≤ length input = script.rest.few in
      fresh-lines-fit page lines script.can script.texts script.rest.later (omega (arith, a, few)) kinds n

  -- ---- after a settle

  -- the frames that were sent are the same after a settle
  pub settled-plain : (w : World RunState) → All IsPlain (frames_of (sent w.up)).whole
      → All IsPlain (frames_of (sent (settled run_step w).up)).whole
  settled-plain w all = subst (λ bytes. All IsPlain (frames_of bytes).whole) (sym (sent-passed (length w.up.flying) w.up)) all

  -- `kept`: a front end that has sent no fetch has kept the replies that came down
  pub refreshed-shows : ((w : World RunState) (front : FrontValue) → All IsPlain (frames_of (sent w.up)).whole
      → front_in replay (first_value []) w ≡ Ok front → map reply_shown front.replies ≡ replies_in w.down.given)
      → RefreshedShows fetcher IsPlain
  refreshed-shows kept w v both =
      let made : IsRefreshed replay AlwaysRoom IsNextIn IsNextTurn IsFit world_laws plainly fetcher unstyled no_others most_sheets
      most_fetches fetching
      (first_value []) w v (refreshes fetcher v) =
      refreshed-made replay AlwaysRoom IsNextIn IsNextTurn IsFit world_laws plainly fetcher unstyled no_others most_sheets most_fetches
      fetching (first_value []) w v
      both.runs.fits both.runs.fits_fresh both.runs.agrees (room-counted v 0 both.left)
      (room-always w.state (arriving (length w.up.flying) w.up)) (room-always v.state (arriving (length v.up.flying) v.up)) tt in
      let v1 = refreshes fetcher v in
      let front = made.agrees.fresh in
      let fit : IsFit v1.spent front v1.state [] =
      fit-rests replay IsFit (first_value []) v1 front made.fits made.rests made.agrees.fresh_is in
      record {
        front = front;
        is_fold =
            ap (λ bytes. folded take_frame (asks_joined join (first_value []) (frames_of bytes).whole) (frames_of v1.down.given).whole)
            (sym (sent-all v1.up made.rests.up.flying))
            ∙ made.agrees.fresh_is;
        shows = subst (λ (s : RunState). Has front (view_of s.back)) (sym made.agrees.state) fit.has;
        fresh = made.none;
        told = sym (ap (λ (u : Unstyled). map reply_shown u.replies) made.agrees.same) ∙ kept (settled run_step w) made.agrees.plain
            (settled-plain w both.runs.plain) made.agrees.plain_is;
        pauses = sym (ap (λ (u : Unstyled). u.pauses) made.agrees.same)
            ∙ pauses-of (frames_of (sent (settled run_step w).up)).whole
            (frames_of (settled run_step w).down.given).whole made.agrees.plain made.agrees.plain_is;
        styles = fit.styles ∙ ap (λ (s : RunState). s.styles) (sym made.agrees.state);
        waits = sym fit.asks;
        whole = made.rests.down.held;
      }
