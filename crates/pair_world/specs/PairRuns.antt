-- A run with two front ends: what is counted of it, who was told what, what came to each front end, and the run after a part of it.
use Rattle.std.specs.Prelude.{ℕ, ◌+◌, Bool, true, false, cond, bytes_eq, List, [], ◌∷◌, map, Option, Some, None}
use Rattle.std.specs.List.{flat_map}
use Rattle.node_tree.specs.Numbers.{fetch_limit}
use Rattle.page_forms.specs.Pages.{LoadedPage}
use Rattle.pipe_frames.specs.Frames.{frames_of}
use Rattle.front_mirror.specs.declared.panels.PanelKind.{PanelKind}
use Rattle.back_end.specs.States.{State}
use Rattle.back_end.specs.Steps.{Turn}
use Rattle.session_mux.specs.Sessions.{session_text}
use Rattle.session_runs.specs.World.{first_world, sent_up, settled}
use Rattle.session_runs.specs.Passages.{Passage, sending, turning, delivering_up, delivering_down, settling, after_passage}
use Rattle.session_runs.specs.Pairs.{Down, bare, of_session, pair_step}
use Rattle.session_runs.specs.PairRuns.{PairPassage, passing, targeting, pair_machine}
use Rattle.multi_replay.specs.Incoming.{frame_down, is_target_id}
use Rattle.inspect_world.specs.World.{AlreadyTold, nothing_told}
use Rattle.pair_world.specs.Clients.{pair_reads, client_steps, RunClient, state_of}
use Rattle.pair_world.specs.PairFits.{PageSessions, PairWorld, pair_loaded}

-- ---- what is counted and told

-- What a run has spent: how many asks and how many fetches the first front end has sent, and how many the second, which begins anew with
-- each session; and how many sessions were attached or detached.
pub record PairSpent : Type 0 where
  pub asks : ℕ
  pub fetches : ℕ
  pub second_asks : ℕ
  pub second_fetches : ℕ
  pub targets : ℕ

-- nothing yet
abbrev pub pair_nothing_spent : PairSpent
pair_nothing_spent = record { asks = 0; fetches = 0; second_asks = 0; second_fetches = 0; targets = 0 }

-- one ask more of the front end that is meant
abbrev pub one_ask_on : Bool → PairSpent → PairSpent
one_ask_on false n = record n { asks = n.asks + 1 }
one_ask_on true n = record n { second_asks = n.second_asks + 1 }

-- one fetch more of it
abbrev pub one_fetch_on : Bool → PairSpent → PairSpent
one_fetch_on false n = record n { fetches = n.fetches + 1 }
one_fetch_on true n = record n { second_fetches = n.second_fetches + 1 }

-- A session was attached: the second front end that comes of it has sent nothing.
abbrev pub one_attach : PairSpent → PairSpent
one_attach n = record n { second_asks = 0; second_fetches = 0; targets = n.targets + 1 }

-- a session was detached
abbrev pub one_detach : PairSpent → PairSpent
one_detach n = record n { targets = n.targets + 1 }

-- a step of the script, and a frame that names no ask, count for nothing
abbrev pub none_more : PairSpent → PairSpent
none_more n = n

-- how many asks the front end that is meant has sent
abbrev pub asks_on : Bool → PairSpent → ℕ
asks_on false n = n.asks
asks_on true n = n.second_asks

-- how many fetches it has sent
abbrev pub fetches_on : Bool → PairSpent → ℕ
fetches_on false n = n.fetches
fetches_on true n = n.second_fetches

-- what was spent but for fetches: two runs of one script, of which one fetches, spend alike
pub record PairPlainlySpent : Type 0 where
  pub asks : ℕ
  pub second_asks : ℕ
  pub targets : ℕ

-- the same of a run
abbrev pub pair_plainly : PairSpent → PairPlainlySpent
pair_plainly n = record { asks = n.asks; second_asks = n.second_asks; targets = n.targets }

-- how much was told of each front end, and the kinds of the panels that are told of the first: none where one was dropped
pub record PairAudience : Type 0 where
  pub first : AlreadyTold
  pub second : AlreadyTold
  pub panels : List (Option PanelKind)

-- panels of these kinds, and nothing told so far
abbrev pub pair_audience : List PanelKind → PairAudience
pair_audience kinds = record { first = nothing_told; second = nothing_told; panels = map Some kinds }

-- how much was told of the front end that is meant
abbrev pub told_on : Bool → PairAudience → AlreadyTold
told_on false told = told.first
told_on true told = told.second

-- so much was told of it
abbrev pub with_told : Bool → AlreadyTold → PairAudience → PairAudience
with_told false n told = record told { first = n }
with_told true n told = record told { second = n }

-- ---- the run

-- a run with two front ends: two sessions over one page, and the two streams
abbrev pub PairRun : Type 0
PairRun = PairWorld PairSpent PairAudience

-- before the line after the load, with panels of these kinds
abbrev pub pair_loaded_run : List PanelKind → LoadedPage → PairRun
pair_loaded_run kinds page = first_world pair_nothing_spent (pair_audience kinds) (pair_loaded page)

-- all that is on its way is delivered, up and then down
abbrev pub pair_settled : PairRun → PairRun
pair_settled w = settled (pair_step pair_reads client_steps) w

-- one part of a run, as lines have them
abbrev pub PairDeed : Type 0
PairDeed = PairPassage Turn PairSpent

-- a part that is none of an attach or a detach, by what a settle does to a run
abbrev pub after_passage_by : (PairRun → PairRun) → Passage Turn PairSpent → PairRun → PairRun
after_passage_by settles (sending text more) w = after_passage (pair_machine pair_reads client_steps none_more) (sending text more) w
after_passage_by settles (turning x) w = after_passage (pair_machine pair_reads client_steps none_more) (turning x) w
after_passage_by settles (delivering_up n) w = after_passage (pair_machine pair_reads client_steps none_more) (delivering_up n) w
after_passage_by settles (delivering_down n) w = after_passage (pair_machine pair_reads client_steps none_more) (delivering_down n) w
after_passage_by settles settling w = settles w

-- The run after a part, by what a settle does: an attach and a detach are sent between two settles.
abbrev pub after_deed_by : (PairRun → PairRun) → PairDeed → PairRun → PairRun
after_deed_by settles (passing p) w = after_passage_by settles p w
after_deed_by settles (targeting text more) w = settles (sent_up text more (settles w))

-- the run after some parts, one after the other
abbrev pub after_deeds_by : (PairRun → PairRun) → List PairDeed → PairRun → PairRun
after_deeds_by settles [] w = w
after_deeds_by settles (d ∷ ds) w = after_deeds_by settles ds (after_deed_by settles d w)

-- ---- the two clients

-- the client that is meant: the root's, or that of the attached session
abbrev pub client_meant : Bool → PageSessions → RunClient
client_meant false s = s.root
client_meant true s = s.second

-- the page as that client has it
abbrev pub state_on : Bool → PageSessions → State
state_on second s = state_of s.side (client_meant second s)

-- ---- what came to each

-- a frame that came down is the first front end's where it has no session, and is no reply to an attach or a detach
abbrev pub of_root : List ℕ → Down (List ℕ) → List (List ℕ)
of_root frame (bare None) = frame ∷ []
of_root frame (bare (Some id)) = cond (is_target_id id) [] (frame ∷ [])
of_root frame (of_session text stripped) = []

-- the frames of the first front end, in their order
abbrev pub root_came : List ℕ → List (List ℕ)
root_came bytes = flat_map (λ frame. of_root frame (frame_down frame)) (frames_of bytes).whole

-- a frame of the session of this text, without its session
abbrev pub in_session : List ℕ → Down (List ℕ) → List (List ℕ)
in_session session (bare id) = []
in_session session (of_session text stripped) = cond (bytes_eq text session) (stripped ∷ []) []

-- the frames of that session, in their order
abbrev pub session_frames_came : List ℕ → List ℕ → List (List ℕ)
session_frames_came session bytes = flat_map (λ frame. in_session session (frame_down frame)) (frames_of bytes).whole

-- those of the session that is attached: as no number comes twice, all came to the front end that stands
abbrev pub attached_came : Option ℕ → List ℕ → List (List ℕ)
attached_came None bytes = []
attached_came (Some k) bytes = session_frames_came (session_text k) bytes

-- the frames that came to the front end that is meant
abbrev pub came_on : Bool → PairRun → List (List ℕ)
came_on false w = root_came w.down.given
came_on true w = attached_came w.state.attached w.down.given

-- the id of the next attach or detach
abbrev pub next_target : PairSpent → ℕ
next_target n = fetch_limit + n.targets
