-- The run of a script with two front ends, with the fetches of its settles put into the streams: those of the first front end and then
-- those of the second. Beside the run that the report tells; and that there is room for each step.
use Rattle.std.specs.Prelude.{◌≡◌, ℕ, ◌+◌, ◌*◌, ◌≤◌, Bool, true, false, cond, bytes_eq, List, [], ◌∷◌, codes, Option, Some, None}
use Rattle.std.specs.Prelude.{⊤}
use Rattle.node_tree.specs.Numbers.{first_fetch}
use Rattle.serde_json.specs.Data.{Data, string}
use Rattle.page_forms.specs.Pages.{LoadedPage}
use Rattle.cdp_messages.specs.Asked.{command_text}
use Rattle.front_mirror.specs.declared.replies.Ask.{Ask}
use Rattle.front_mirror.specs.declared.faults.FrontKind.{FrontKind}
use Rattle.front_mirror.specs.declared.panels.PanelKind.{PanelKind}
use Rattle.front_mirror.specs.Front.{FrontValue, fetch_params}
use Rattle.front_mirror.specs.Sheets.{has_sheet, stale_of}
use Rattle.replay_script.specs.Forms as forms
use Rattle.replay_script.specs.Forms.{LineForm, load, ask, up, down, settle, show_front, show_page, show_sheets, show_replies}
use Rattle.replay_script.specs.Forms.{show_pauses, show_panels, show_styles, close}
use Rattle.replay_script.specs.PairLines.{PairForm, attach_session, detach_session, of_first, of_second}
use Rattle.replay_script.specs.PairScript.{pair_script_fault, pair_script_forms}
use Rattle.replay_script.specs.declared.faults.LineFault.{LineFault}
use Rattle.back_end.specs.Steps.{Turn}
use Rattle.session_mux.specs.Sessions.{session_text}
use Rattle.multi_replay.specs.Incoming.{session_number}
use Rattle.session_runs.specs.Stream.{arriving}
use Rattle.session_runs.specs.World.{sent_up}
use Rattle.session_runs.specs.Fold.{Machine, RoomThroughout}
use Rattle.session_runs.specs.Passages.{Passage, sending, turning, delivering_up, delivering_down, settling, RoomToSettle}
use Rattle.session_runs.specs.Fetches.{Fetcher, front_in, all_fetched, stale_in, refreshed}
use Rattle.session_runs.specs.Agreement.{RunTogether}
use Rattle.session_runs.specs.Pairs.{Second, FrontPair, first_pair, pair_step}
use Rattle.session_runs.specs.PairCame.{pair_seen}
use Rattle.session_runs.specs.PairFit.{BothHaveRoom, Calm, PairFit}
use Rattle.session_runs.specs.PairRuns.{passing, targeting, pair_machine}
use Rattle.inspect_world.specs.Fits.{most_bytes, most_sheets, most_fetches}
use Rattle.inspect_world.specs.FreshRuns.{Unstyled, unstyled}
use Rattle.pair_world.specs.Clients.{pair_reads, client_steps}
use Rattle.pair_world.specs.Shown.{IsSessionNumber, HasRoomFor, MaySend, Shows}
use Rattle.pair_world.specs.PairFits.{PageSessions, PairFits}
use Rattle.pair_world.specs.PairRuns.{PairSpent, pair_plainly, one_fetch_on, none_more, PairRun, pair_loaded_run}
use Rattle.pair_world.specs.PairRuns.{PairDeed, pair_settled, after_deed_by}
use Rattle.pair_world.specs.PairScripts.{deeds, after_pair_line, after_pair_line_by, after_pair_lines_by, pair_lacking}
use Rattle.pair_world.specs.PairScripts.{pair_page}

-- the values of two front ends
abbrev pub FrontValues : Type 0
FrontValues = FrontPair FrontValue Ask (List ℕ)

-- the first alone, which has taken nothing
abbrev pub no_fronts : FrontValues
no_fronts = first_pair pair_reads

-- how the run of two sessions goes on
abbrev pub pair_runner : Machine PageSessions FrontValues FrontKind Turn PairSpent
pair_runner = pair_machine pair_reads client_steps none_more

-- ---- fetches

-- the text of a fetch, of a front end that has sent so many, in its session if it has one
abbrev pub fetch_in : Option Data → ℕ → ℕ → List ℕ
fetch_in session count number =
    command_text (first_fetch + count) (codes "CSS.getStyleSheetText") (Some (fetch_params number)) session

-- the fetches of the first front end
abbrev pub first_fetcher : Fetcher FrontValues PairSpent
first_fetcher = record {
  stale = λ p. stale_of p.one.sheets;
  knows = λ p number. has_sheet number p.one.sheets;
  text = fetch_in None;
  count = λ n. n.fetches;
  one_more = one_fetch_on false;
}

-- a value of the second front end, where it stands and has the session of that text
abbrev pub of_second_session : {A : Type 0} → List ℕ → (FrontValue → A) → A → Option (Second FrontValue (List ℕ)) → A
of_second_session text f other None = other
of_second_session text f other (Some w) = cond (bytes_eq w.text text) (f w.value) other

-- the fetches of the second front end, in the session of that number
abbrev pub second_fetcher : ℕ → Fetcher FrontValues PairSpent
second_fetcher k = record {
  stale = λ p. of_second_session (session_text k) (λ v. stale_of v.sheets) [] p.two;
  knows = λ p number. of_second_session (session_text k) (λ v. has_sheet number v.sheets) false p.two;
  text = fetch_in (Some (string (session_text k)));
  count = λ n. n.second_fetches;
  one_more = one_fetch_on true;
}

-- the sheets of the second front end without a fresh text are fetched, where a session is attached
abbrev pub second_fetched : Option ℕ → PairRun → PairRun
second_fetched None w = w
second_fetched (Some k) w =
    all_fetched pair_runner (second_fetcher k) no_fronts (stale_in (second_fetcher k) (front_in pair_runner no_fronts w)) w

-- a settle with its fetches: those of the first front end, and then those of the second
abbrev pub pair_refreshes : PairRun → PairRun
pair_refreshes w =
    let first = refreshed pair_runner first_fetcher no_fronts w in
    second_fetched first.state.attached first

-- the run after a line
abbrev pub fresh_pair_line : PairForm → PairRun → PairRun
fresh_pair_line line w = after_pair_line_by pair_refreshes line w

-- the run after some lines
abbrev pub fresh_pair_lines : List PairForm → PairRun → PairRun
fresh_pair_lines lines w = after_pair_lines_by pair_refreshes lines w

-- ---- that both go together

-- what two front ends have but for their sheets, for how many messages they took, and for asks of sessions that came already
abbrev pub PairUnstyled : Type 0
PairUnstyled = FrontPair Unstyled Ask (List ℕ)

-- what two front ends show but for their sheets
abbrev pub pair_unstyled : FrontValues → PairUnstyled
pair_unstyled p = pair_seen unstyled session_number p

-- two front ends show two sessions, and no attach and no detach waits, whatever was spent
abbrev pub PairIsCalm : PairSpent → FrontValues → PageSessions → List (List ℕ) → Type 0
PairIsCalm n = Calm pair_reads client_steps IsSessionNumber Shows MaySend

-- they show them, whether an attach or a detach waits or none
abbrev pub PairIsFit : PairSpent → FrontValues → PageSessions → List (List ℕ) → Type 0
PairIsFit n = PairFit pair_reads client_steps IsSessionNumber Shows MaySend

-- Lines of so many bytes more may be carried out. Each line of four bytes sends a frame at most, or settles, and an attach and a detach,
-- which settle twice, are longer; each settle fetches the sheets of one page for each front end at most.
pub record PairHasLeft (n : PairSpent) (bytes : ℕ) : Type 0 where
  pub asks : n.asks * 4 + bytes ≤ most_bytes
  pub second_asks : n.second_asks * 4 + bytes ≤ most_bytes
  pub targets : n.targets * 4 + bytes ≤ most_bytes
  pub fetches : n.fetches + (bytes + 1) * most_sheets ≤ most_fetches
  pub second_fetches : n.second_fetches + (bytes + 1) * most_sheets ≤ most_fetches

-- w is the run that the report tells, and v the same with fetches; in neither an attach or a detach waits, as between two lines; lines of
-- so many bytes more may be carried out
pub record PairTogether (IsPlain : List ℕ → Type 0) (bytes : ℕ) (w v : PairRun) : Type 0 where
  pub runs : RunTogether pair_runner pair_plainly PairIsFit no_fronts pair_unstyled IsPlain w v
  pub calm : PairFits w
  pub calm_fresh : PairFits v
  pub left : PairHasLeft v.spent bytes

-- ---- room

-- both sessions have room for a step, and another session could be numbered
abbrev pub PairRoom : PageSessions → Type 0
PairRoom s = BothHaveRoom pair_reads client_steps IsSessionNumber HasRoomFor s

-- there is room for the steps on all that is on its way up
abbrev pub SettleHasRoom : PairRun → Type 0
SettleHasRoom w = RoomToSettle pair_runner PairRoom w

-- Where some text is old that this front end would fetch, once all has come, there is room for a step. A fetch leaves the state as it is,
-- so there is for each.
abbrev pub FetchesHaveRoom : Fetcher FrontValues PairSpent → PairRun → Type 0
FetchesHaveRoom fetcher w = (stale_in fetcher (front_in pair_runner no_fronts w) ≡ [] → ⊥) → PairRoom w.state

-- the same of the second front end, where a session is attached
abbrev pub SecondFetchesHaveRoom : Option ℕ → PairRun → Type 0
SecondFetchesHaveRoom None w = ⊤
SecondFetchesHaveRoom (Some k) w = FetchesHaveRoom (second_fetcher k) w

-- there is room for a settle and its fetches
abbrev pub RefreshHasRoom : PairRun → Type 0
RefreshHasRoom w =
    let first = refreshed pair_runner first_fetcher no_fronts w in
    SettleHasRoom w × FetchesHaveRoom first_fetcher (pair_settled w) × SecondFetchesHaveRoom first.state.attached first

-- there is room for a part of a run
abbrev pub PassageHasRoom : Passage Turn PairSpent → PairRun → Type 0
PassageHasRoom (sending text more) w = ⊤
PassageHasRoom (turning x) w = PairRoom w.state
PassageHasRoom (delivering_up n) w = RoomThroughout (pair_step pair_reads client_steps) PairRoom w.state (arriving n w.up)
PassageHasRoom (delivering_down n) w = ⊤
PassageHasRoom settling w = RefreshHasRoom w

-- for one that may be an attach or a detach
abbrev pub DeedHasRoom : PairDeed → PairRun → Type 0
DeedHasRoom (passing p) w = PassageHasRoom p w
DeedHasRoom (targeting text more) w = RefreshHasRoom w × RefreshHasRoom (sent_up text more (pair_refreshes w))

-- for some of them
abbrev pub DeedsHaveRoom : List PairDeed → PairRun → Type 0
DeedsHaveRoom [] w = ⊤
DeedsHaveRoom (d ∷ ds) w = DeedHasRoom d w × DeedsHaveRoom ds (after_deed_by pair_refreshes d w)

-- where the test holds, the statement does
abbrev pub WhereTrue : Bool → Type 0 → Type 0
WhereTrue true P = P
WhereTrue false P = ⊤

-- a line of any script settles before it is refused, where it shows something of a front end
abbrev pub settles_first : LineForm → Bool
settles_first (load page) = false
settles_first (forms.act a) = false
settles_first (ask a) = false
settles_first (forms.raw text) = false
settles_first (up n) = false
settles_first (down n) = false
settles_first settle = true
settles_first show_front = true
settles_first show_page = false
settles_first show_sheets = true
settles_first show_replies = true
settles_first show_pauses = true
settles_first show_panels = true
settles_first (show_styles k) = true
settles_first (close k) = false

-- so do an attach and a detach
abbrev pub pair_settles_first : PairForm → Bool
pair_settles_first attach_session = true
pair_settles_first detach_session = true
pair_settles_first (of_first form) = settles_first form
pair_settles_first (of_second form) = settles_first form

-- There is room for each step of a line, and what is said of those behind it; one that is refused may settle before.
abbrev pub line_or : Option LineFault → PairForm → PairRun → Type 0 → Type 0
line_or None line v Later = DeedsHaveRoom (deeds line v) v × Later
line_or (Some fault) line v Later = WhereTrue (pair_settles_first line) (RefreshHasRoom v)

-- the closing settle comes where no line is refused
abbrev pub closing_or : Option (ℕ × LineFault) → PairRun → Type 0
closing_or None v = RefreshHasRoom v
closing_or (Some bad) v = ⊤

-- There is room for each step of some lines, up to the first that is refused; w is the run that the report tells, and v the same with
-- fetches. `Closing` says of what follows the last line.
abbrev pub LinesHaveRoom : (PairRun → Type 0) → List PairForm → PairRun → PairRun → Type 0
LinesHaveRoom Closing [] w v = Closing v
LinesHaveRoom Closing (line ∷ lines) w v =
    line_or (pair_lacking line w) line v (LinesHaveRoom Closing lines (after_pair_line line w) (fresh_pair_line line v))

-- the lines after one that loads a page
abbrev pub room_from : List PanelKind → Option (ℕ × LineFault) → Option LoadedPage → List PairForm → Type 0
room_from kinds bad None lines = ⊤
room_from kinds bad (Some page) lines =
    LinesHaveRoom (closing_or bad) lines (pair_loaded_run kinds page) (pair_loaded_run kinds page)

-- those of a script
abbrev pub room_of : List PanelKind → Option (ℕ × LineFault) → List PairForm → Type 0
room_of kinds bad [] = ⊤
room_of kinds bad (line ∷ lines) = room_from kinds bad (pair_page line) lines

-- Before each step of the run of an input there is room: before each frame, fetches among them, each act and each load.
abbrev pub ScriptHasRoom : List PanelKind → List ℕ → Type 0
ScriptHasRoom kinds input = room_of kinds (pair_script_fault input) (pair_script_forms input)
