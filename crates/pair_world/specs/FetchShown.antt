-- What two front ends show after a settle that has fetched the texts which they lacked.
use Rattle.std.specs.Prelude.{◌≡◌, ◌≤◌, ℕ, ◌+◌, ◌*◌, true, false, List, [], ◌∷◌, length, take, map, All, Option, Some, None, Ok, ⊤}
use Rattle.std.specs.List.{flat_map}
use Rattle.std.specs.Option.{option_to_list}
use Rattle.page_forms.specs.Pages.{LoadedPage, CanLoadPage}
use Rattle.page_forms.specs.Texts.{PageHasTexts}
use Rattle.front_mirror.specs.declared.replies.Ask.{Ask}
use Rattle.front_mirror.specs.declared.panels.PanelKind.{PanelKind}
use Rattle.front_mirror.specs.Front.{FrontValue, seen_pause}
use Rattle.front_mirror.specs.Laws.{Has}
use Rattle.replay_script.specs.PairLines.{PairForm}
use Rattle.back_end.specs.States.{Side, sheets_shown, view_of}
use Rattle.session_mux.specs.Sessions.{session_text}
use Rattle.session_runs.specs.Fetches.{front_in}
use Rattle.session_runs.specs.Pairs.{Way, to_root, to_session, attaches, detaches, Second}
use Rattle.inspect_world.specs.Costs.{least_line}
use Rattle.inspect_world.specs.Fits.{ask_of_frame, kept_styles, most_bytes}
use Rattle.inspect_world.specs.FreshRuns.{known_fresh}
use Rattle.inspect_world.specs.ShownReplies.{reply_shown, replies_among}
use Rattle.inspect_world.specs.ShownPauses.{pauses_in_frame}
use Rattle.pair_world.specs.SessionWays.{frame_way}
use Rattle.pair_world.specs.Clients.{RunClient, state_of}
use Rattle.pair_world.specs.PairRuns.{PairRun, pair_loaded_run, pair_settled, came_on}
use Rattle.pair_world.specs.PairScripts.{deeds, after_pair_lines, pair_shown_lines}
use Rattle.pair_world.specs.PairScriptsFit.{IsPairLater}
use Rattle.pair_world.specs.PairFresh.{FrontValues, pair_runner, no_fronts, pair_refreshes, fresh_pair_line, fresh_pair_lines, PairTogether}
use Rattle.pair_world.specs.PairFresh.{RefreshHasRoom, DeedsHaveRoom}

-- ---- frames that fetch nothing

-- the asks that stand in a frame that goes up, by what it is
abbrev pub asks_in_way : Way (List ℕ) → List Ask
asks_in_way (to_root text) = option_to_list (ask_of_frame text)
asks_in_way (to_session session text) = option_to_list (ask_of_frame text)
asks_in_way (attaches id) = []
asks_in_way (detaches id session) = []

-- a frame fetches no text of a sheet, for either front end
abbrev pub IsPlainOfPair : List ℕ → Type 0
IsPlainOfPair frame = All (λ (a : Ask). a.sheet ≡ None) (asks_in_way (frame_way frame))

-- ---- what is shown

-- A front end shows just what a client sees: the tree, and the page's sheets while the domain CSS is on, in their order and each with its
-- text. It has kept the replies and the pauses among the frames that came to it in a run without fetches, and the matched styles that the
-- client was told; and it waits for no reply.
pub record FrontShows (v : FrontValue) (side : Side) (c : RunClient) (came : List (List ℕ)) : Type 0 where
  pub has : Has v (view_of (state_of side c))
  pub texts : v.sheets ≡ map known_fresh (sheets_shown (state_of side c))
  pub told : map reply_shown v.replies ≡ replies_among came
  pub pauses : v.pauses ≡ map seen_pause (flat_map pauses_in_frame came)
  pub styles : map kept_styles v.matched ≡ c.styles
  pub waits : v.asks ≡ []

-- a second front end stands just where a session is attached, has its text, and shows it
abbrev pub SecondShowsFresh : Option (Second FrontValue (List ℕ)) → Option ℕ → Side → RunClient → List (List ℕ) → Type 0
SecondShowsFresh None None side c came = ⊤
SecondShowsFresh None (Some k) side c came = ⊥
SecondShowsFresh (Some w) None side c came = ⊥
SecondShowsFresh (Some w) (Some k) side c came = (w.text ≡ session_text k) × FrontShows w.value side c came

-- both front ends show their clients, by the run that the report tells; no attach and no detach waits
pub record BothShowFresh (w : PairRun) (p : FrontValues) : Type 0 where
  pub first : FrontShows p.one w.state.side w.state.root (came_on false w)
  pub second : SecondShowsFresh p.two w.state.attached w.state.side w.state.second (came_on true w)
  pub none_waits : p.waiting ≡ []

-- The run with fetches has given both front ends all that they show, beside the run that the report tells.
pub record PairShowsFresh (w v : PairRun) : Type 0 where
  pub fronts : FrontValues
  pub is_fold : front_in pair_runner no_fronts v ≡ Ok fronts
  pub shown : BothShowFresh w fronts

-- Two runs of one script, one with fetches and one without: after a settle of both, each front end shows its client, with each text.
abbrev pub PairRefreshShows : Type 0
PairRefreshShows =
    (w v : PairRun) → PairTogether IsPlainOfPair 1 w v → RefreshHasRoom v → PairShowsFresh (pair_settled w) (pair_refreshes v)

-- there is room for each step of some lines that are carried out, in the run with fetches
abbrev pub FreshLinesHaveRoom : List PairForm → PairRun → Type 0
FreshLinesHaveRoom [] v = ⊤
FreshLinesHaveRoom (line ∷ lines) v = DeedsHaveRoom (deeds line v) v × FreshLinesHaveRoom lines (fresh_pair_line line v)

-- With any page and any lines that a script can have after it, and after any number of those that are carried out, where there is room for
-- each step: a settle with its fetches leaves each front end showing its client, with each text.
abbrev pub PairLinesShow : Type 0
PairLinesShow =
    (kinds : List PanelKind) (page : LoadedPage) (lines : List PairForm) → CanLoadPage page → PageHasTexts page → All IsPairLater lines
    → 1 + length lines * least_line ≤ most_bytes → (n : ℕ)
    → let start = pair_loaded_run kinds page in
    let carried = take n (pair_shown_lines lines start) in
    let fresh = fresh_pair_lines carried start in
    FreshLinesHaveRoom carried start → RefreshHasRoom fresh
    → PairShowsFresh (pair_settled (after_pair_lines carried start)) (pair_refreshes fresh)
