-- The run of a script with the fetches of its settles put into the streams, beside the run that the report tells.
use Rattle.std.specs.Prelude.{◌≡◌, ℕ, ◌+◌, ◌≤◌, false, List, [], ◌∷◌, length, take, map, codes, Some, None, Ok, ⊤}
use Rattle.node_tree.specs.Numbers.{first_fetch}
use Rattle.node_tree.specs.Nodes.{Nodes}
use Rattle.node_tree.specs.Seen.{Seen}
use Rattle.page_forms.specs.Pages.{LoadedPage, CanLoadPage}
use Rattle.page_forms.specs.Texts.{PageHasTexts}
use Rattle.pipe_frames.specs.Frames.{frames_of}
use Rattle.replay_script.specs.Forms.{LineForm, load}
use Rattle.replay_script.specs.Script.{script_forms}
use Rattle.front_mirror.specs.declared.replies.Ask.{Ask}
use Rattle.front_mirror.specs.declared.replies.Kept.{Kept}
use Rattle.front_mirror.specs.declared.pauses.SeenPause.{SeenPause}
use Rattle.front_mirror.specs.declared.panels.PanelKind.{PanelKind}
use Rattle.front_mirror.specs.declared.replies.MatchedReply.{MatchedReply}
use Rattle.front_mirror.specs.Front.{FrontValue, first_value, fetch_params, take_frame, seen_pause}
use Rattle.front_mirror.specs.Sheets.{has_sheet, stale_of}
use Rattle.cdp_messages.specs.Asked.{command_text}
use Rattle.front_mirror.specs.Laws.{Has}
use Rattle.client_views.specs.Views.{ShownSheet}
use Rattle.front_mirror.specs.declared.sheets.KnownSheet.{KnownSheet}
use Rattle.back_end.specs.States.{view_of, sheets_shown}
use Rattle.inspect_world.specs.RunStates.{RunState, run_step}
use Rattle.inspect_world.specs.ShownPauses.{pauses_in}
use Rattle.session_runs.specs.Stream.{held}
use Rattle.session_runs.specs.World.{settled}
use Rattle.inspect_world.specs.World.{World, Spent, one_fetch, plainly}
use Rattle.session_runs.specs.Fold.{folded, asks_joined}
use Rattle.session_runs.specs.Fetches.{Fetcher, refreshed}
use Rattle.session_runs.specs.Agreement.{RunTogether}
use Rattle.inspect_world.specs.Fits.{join, most_bytes, HasLeft, kept_styles, IsFit, replay}
use Rattle.inspect_world.specs.ShownReplies.{reply_shown, replies_in}
use Rattle.inspect_world.specs.Costs.{lines_cost}
use Rattle.inspect_world.specs.Scripts.{after_line_by, after_lines_by, after_lines, loaded_world}
use Rattle.inspect_world.specs.ScriptsFit.{AreLater}

-- the fetches of the front end: their ids are from 2^30 on
abbrev pub front_fetcher : Fetcher FrontValue Spent
front_fetcher = record {
  stale = λ v. stale_of v.sheets;
  knows = λ v number. has_sheet number v.sheets;
  text = λ count number. command_text (first_fetch + count) (codes "CSS.getStyleSheetText") (Some (fetch_params number)) None;
  count = λ n. n.fetches;
  one_more = one_fetch;
}

-- ---- the run with fetches

-- a settle with its fetches
abbrev pub refreshes : Fetcher FrontValue Spent → World RunState → World RunState
refreshes fetcher w = refreshed replay fetcher (first_value []) w

-- the run after a line
abbrev pub fresh_line : Fetcher FrontValue Spent → LineForm → World RunState → World RunState
fresh_line fetcher line w = after_line_by (refreshes fetcher) line w

-- the run after some lines
abbrev pub fresh_lines : Fetcher FrontValue Spent → List LineForm → World RunState → World RunState
fresh_lines fetcher lines w = after_lines_by (refreshes fetcher) lines w

-- ---- that both go together

-- what a front end has but for its sheets, and for how many messages it took
pub record Unstyled : Type 0 where
  pub tree : Nodes Seen
  pub asks : List Ask
  pub replies : List Kept
  pub pauses : List SeenPause
  pub matched : List MatchedReply

-- what a front end shows but for its sheets
abbrev pub unstyled : FrontValue → Unstyled
unstyled v = record { tree = v.tree; asks = v.asks; replies = v.replies; pauses = v.pauses; matched = v.matched }

-- there are no other fetches
abbrev pub no_others : FrontValue → ⊤
no_others v = tt

-- w is the run that the report tells, and v the same with fetches; lines of so many bytes more may be carried out
pub record Together (IsPlain : List ℕ → Type 0) (bytes : ℕ) (w v : World RunState) : Type 0 where
  pub runs : RunTogether replay plainly IsFit (first_value []) unstyled IsPlain w v
  pub left : HasLeft v.spent bytes

-- With any page and any lines that a script can have, and after any number of these lines: the two whole streams with
-- the fetches fit the state, and both runs agree.
abbrev pub FreshLinesFit : Fetcher FrontValue Spent → (List ℕ → Type 0) → Type 0
FreshLinesFit fetcher IsPlain =
    (page : LoadedPage) (lines : List LineForm) → CanLoadPage page → PageHasTexts page → AreLater lines → lines_cost lines ≤ most_bytes
    → (kinds : List PanelKind) (n : ℕ)
    → RunTogether replay plainly IsFit (first_value []) unstyled IsPlain (after_lines (take n lines) (loaded_world kinds page))
    (fresh_lines fetcher (take n lines) (loaded_world kinds page))

-- with each input that a replay reads
abbrev pub FreshInputsFit : Fetcher FrontValue Spent → (List ℕ → Type 0) → Type 0
FreshInputsFit fetcher IsPlain =
    (input : List ℕ) (page : LoadedPage) (lines : List LineForm) → script_forms input ≡ load page ∷ lines → length input ≤ most_bytes
    → (kinds : List PanelKind) (n : ℕ)
    → RunTogether replay plainly IsFit (first_value []) unstyled IsPlain (after_lines (take n lines) (loaded_world kinds page))
    (fresh_lines fetcher (take n lines) (loaded_world kinds page))

-- After a settle of both, the front end of the run with fetches shows exactly what the client sees, no text of a sheet is old,
-- and it has kept just the replies and the pauses that came down in the run without, and the matched styles that the client was
-- told; it waits for no reply, and holds no part of a frame.
pub record ShowsFresh (fetcher : Fetcher FrontValue Spent) (w v : World RunState) : Type 0 where
  pub front : FrontValue
  pub is_fold : folded take_frame (asks_joined join (first_value []) (frames_of v.up.given).whole) (frames_of v.down.given).whole ≡ Ok front
  pub shows : Has front (view_of w.state.back)
  pub fresh : fetcher.stale front ≡ []
  pub told : map reply_shown front.replies ≡ replies_in w.down.given
  pub pauses : front.pauses ≡ map seen_pause (pauses_in w.down.given)
  pub styles : map kept_styles front.matched ≡ w.state.styles
  pub waits : front.asks ≡ []
  pub whole : held v.down ≡ []

-- a sheet of the page, as a front end knows it whose text is not old
abbrev pub known_fresh : ShownSheet → KnownSheet
known_fresh s = record { number = s.number; origin = s.origin; text = Some s.text; stale = false }

-- The same, and what it knows are just the page's sheets while the domain CSS is on, and none otherwise: in their order, each with
-- its text.
pub record ShowsTexts (w v : World RunState) : Type 0 where
  pub shown : ShowsFresh front_fetcher w v
  pub texts : shown.front.sheets ≡ map known_fresh (sheets_shown w.state.back)

-- With each input that a replay reads: after any number of its lines, and then a settle, as one of its lines or the closing one.
abbrev pub InputsShowTexts : Type 0
InputsShowTexts =
    (input : List ℕ) (page : LoadedPage) (lines : List LineForm) → script_forms input ≡ load page ∷ lines → length input ≤ most_bytes
    → (kinds : List PanelKind) (n : ℕ) → ShowsTexts (settled run_step (after_lines (take n lines) (loaded_world kinds page)))
    (refreshes front_fetcher (fresh_lines front_fetcher (take n lines) (loaded_world kinds page)))

-- once all that is on its way has come, and the texts that were old were fetched
abbrev pub RefreshedShows : Fetcher FrontValue Spent → (List ℕ → Type 0) → Type 0
RefreshedShows fetcher IsPlain =
    (w v : World RunState) → Together IsPlain 0 w v → ShowsFresh fetcher (settled run_step w) (refreshes fetcher v)
