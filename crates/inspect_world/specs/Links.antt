-- What holds over every link, whatever bytes it gives.
use Rattle.std.specs.Prelude.{◌≡◌, ◌≤◌, ℕ, ◌+◌, ◌*◌, List, [], ◌∷◌, ◌++◌, length, map, All, Bool, true, false, Option, is_some, Result, Ok}
use Rattle.std.specs.Prelude.{Err}
use Rattle.pipe_frames.specs.Pipe.{Pipe}
use Rattle.pipe_frames.specs.Frames.{frames_of}
use Rattle.cdp_messages.specs.declared.command.Asked.{Asked}
use Rattle.cdp_messages.specs.declared.command.Refused.{Refused}
use Rattle.cdp_messages.specs.Asked.{asked}
use Rattle.front_mirror.specs.declared.faults.FrontFault.{FrontFault}
use Rattle.front_mirror.specs.declared.panels.PanelKind.{PanelKind}
use Rattle.front_mirror.specs.Front.{FrontValue, matched_in, fold}
use Rattle.back_end.specs.States.{State}
use Rattle.back_end.specs.Steps.{Turn}
use Rattle.session_runs.specs.World.{Stepped}
use Rattle.inspect_world.specs.StepBytes.{step, turn}
use Rattle.back_end.specs.Laws.{most_ids, tree_edits, edits_kept}
use Rattle.back_end.specs.Seats.{StandsFor}
use Rattle.page_tree.specs.Forms.{max_nodes}
use Rattle.page_forms.specs.Sheets.{max_sheets}
use Rattle.inspect_world.specs.Fits.{most_bytes, asks_among}
use Rattle.inspect_world.specs.Held.{Ends, good_front, with_panels}
use Rattle.inspect_world.specs.ShownReplies.{ShownReply, replies_in, reply_id}

-- The front end that sent these bytes up, and was given those bytes down: what it shows, or the first message that it refuses.
-- A run stops at the first fault, so the asks that were sent by then are all that could wait.
abbrev pub fold_of : (sent_up given_down : List ℕ) → Result FrontValue FrontFault
fold_of sent_up given_down = fold (asks_among (frames_of sent_up).whole) given_down

-- a reply told the front end the matched styles that this ask asks for
abbrev pub knows_styles : FrontValue → ℕ → Bool
knows_styles v ask = is_some (matched_in ask v.matched)

-- a reply told the front end that a fold comes to the matched styles that this ask asks for
abbrev pub came_styles : Result FrontValue FrontFault → ℕ → Bool
came_styles (Ok v) ask = knows_styles v ask
came_styles (Err fault) ask = false

-- ---- what comes to the back end

-- a frame that came up, or a step that the script made
pub data Happening : Type 0 where
  came : List ℕ → Happening
  made : Turn → Happening

-- the step of a frame that came up, or of what the script did
abbrev pub happening_step : Happening → State → Stepped State
happening_step (came frame) state = step state frame
happening_step (made x) state = turn x state

-- the steps, one after the other
abbrev pub happened : State → List Happening → Stepped State
happened state [] = record { state = state; sent = [] }
happened state (h ∷ hs) =
    let first = happening_step h state in
    let later = happened first.state hs in
    record { state = later.state; sent = first.sent ++ later.sent }

-- the frames that came up
abbrev pub frames_among : List Happening → List (List ℕ)
frames_among [] = []
frames_among (came frame ∷ hs) = frame ∷ frames_among hs
frames_among (made x ∷ hs) = frames_among hs

-- how many steps the script made
abbrev pub made_among : List Happening → ℕ
made_among [] = 0
made_among (came frame ∷ hs) = made_among hs
made_among (made x ∷ hs) = made_among hs + 1

-- ---- how much the steps draw

-- a frame that is a command may draw; one that is refused changes nothing
abbrev pub commands_in : Result Asked Refused → ℕ
commands_in (Ok a) = 1
commands_in (Err r) = 0

-- how many of the frames that came up are commands
abbrev pub commands_among : List Happening → ℕ
commands_among [] = 0
commands_among (came frame ∷ hs) = commands_among hs + commands_in (asked frame false)
commands_among (made x ∷ hs) = commands_among hs

-- the bytes of frames, each with its zero
abbrev pub bytes_among : List (List ℕ) → ℕ
bytes_among [] = 0
bytes_among (frame ∷ frames) = bytes_among frames + (length frame + 1)

-- How much was drawn by so many commands and steps of the script, and by frames of so many bytes: each command keeps two edits of the
-- tree at most, and draws no more ids beside those of any step than there were such edits; a step of the script leaves no edit, or
-- changes nothing. Each byte may come to one edit.
pub record Drew (state : State) (commands made bytes : ℕ) : Type 0 where
  pub ids : length state.client.session.pushed + tree_edits state ≤ (commands + made) * most_ids + (commands * commands + commands)
  pub trees : tree_edits state ≤ commands * 2
  pub edits : edits_kept state ≤ bytes

-- ---- the ends over a link

-- where a run begins: the state, and the kinds of the panels
pub record Begun : Type 0 where
  pub state : State
  pub panels : List (Option PanelKind)

-- so it begins
abbrev pub begun : State → List (Option PanelKind) → Begun
begun state panels = record { state = state; panels = panels }

-- where a run began; how many lines more it may carry out, each of which makes one step of the script at most; the asks whose
-- matched styles it has shown; and the kinds of its panels, none where one was dropped
pub record Started : Type 0 where
  pub state : State
  pub lines : ℕ
  pub shown : List ℕ
  pub panels : List (Option PanelKind)

-- a run that has shown the matched styles of these asks
abbrev pub run_started : State → ℕ → List ℕ → List (Option PanelKind) → Started
run_started state lines shown panels = record { state = state; lines = lines; shown = shown; panels = panels }

-- one line more may be carried out
abbrev pub one_line_more : Started → Started
one_line_more start = run_started start.state (start.lines + 1) start.shown start.panels

-- how a pipe goes on from an earlier moment, when no more was given than sent
pub record PipeGoesOn (start now : Pipe) (sent given : List ℕ) : Type 0 where
  pub within : length start.given ≤ length start.sent
  pub sent_is : now.sent ≡ start.sent ++ sent
  pub given_is : now.given ≡ start.given ++ given

-- Since the pipes were as `up0` and `down0`, and the run began as `state0` says: the front end is the fold of what it sent and was
-- given; the back end has carried out the frames that were given up, but for those that `waiting` holds whole, and between them
-- the script's own steps, and has sent just what these steps send. What the ends count as sent and not given is just that.
-- Matched styles that were shown are there for good. Ids, serials and numbers of sheets and searches were drawn for what was sent up
-- and for the script's steps alone, and edits kept for what was sent up.
pub record Follows (state0 : Started) (up0 down0 up down : Pipe) (waiting : List (List ℕ)) (e : Ends) : Type 0 where
  pub sent_up : List ℕ
  pub given_up : List ℕ
  pub sent_down : List ℕ
  pub given_down : List ℕ
  pub up_is : PipeGoesOn up0 up sent_up given_up
  pub down_is : PipeGoesOn down0 down sent_down given_down
  pub up_whole : (frames_of sent_up).rest ≡ []
  pub value : FrontValue
  pub front_is : e.front ≡ with_panels state0.panels (good_front value (frames_of given_down).rest e.front.next e.front.fetches)
  pub is_fold : fold_of sent_up given_down ≡ Ok value
  pub styled : All (λ ask. knows_styles value ask ≡ true) state0.shown
  pub events : List Happening
  pub frames_are : (frames_of given_up).whole ≡ frames_among events ++ waiting
  pub back_is : e.back_rest ≡ (frames_of given_up).rest
  pub state : State
  pub side_is : (happened state0.state events).state ≡ state
  pub sent_is : sent_down ≡ (happened state0.state events).sent
  pub replies_are : map (λ (t : ShownReply). t.id) (replies_in sent_down) ≡ map reply_id (frames_among events)
  pub down_whole : (frames_of sent_down).rest ≡ []
  pub stands : StandsFor e.seat e.side state
  pub up_left : e.up_there + length given_up ≡ length sent_up
  pub down_left : e.down_there + length given_down ≡ length sent_down
  pub few_asked : e.front.next + e.front.fetches ≤ length sent_up + 1
  pub few_made : made_among events + state0.lines ≤ most_bytes
  pub drew : Drew state (commands_among events) (made_among events) (bytes_among (frames_among events))
  pub few_serials : state.side.page.next ≤ (length events + 1) * (max_nodes + 1)
  pub few_numbers : state.side.next_sheet ≤ (length events + 1) * max_sheets + 1
  pub few_searches : state.client.searches.given ≤ length events
