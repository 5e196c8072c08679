-- What holds of a run with two front ends over every link, whatever bytes it gives.
use Rattle.std.specs.Prelude.{◌≡◌, ◌≤◌, ℕ, ◌+◌, ◌*◌, ◌^◌, List, [], ◌∷◌, ◌++◌, length, map, Bool, true, false, Option, Some, None, is_some}
use Rattle.std.specs.Prelude.{Result, Ok, Err, ⊤}
use Rattle.std.specs.List.{flat_map}
use Rattle.pipe_frames.specs.Pipe.{Pipe}
use Rattle.pipe_frames.specs.Frames.{frames_of}
use Rattle.node_tree.specs.Numbers.{fetch_limit}
use Rattle.page_tree.specs.Forms.{max_nodes}
use Rattle.page_forms.specs.Sheets.{max_sheets}
use Rattle.front_mirror.specs.declared.faults.FrontFault.{FrontFault}
use Rattle.front_mirror.specs.declared.panels.PanelKind.{PanelKind}
use Rattle.front_mirror.specs.Front.{FrontValue, FrontState}
use Rattle.cdp_json.specs.declared.fields.Field.{Field}
use Rattle.cdp_json.specs.declared.fields.Field.TheVariants.{Is, Missing, WrongKind}
use Rattle.cdp_messages.specs.declared.command.Asked.{Asked}
use Rattle.cdp_messages.specs.declared.command.Refused.{Refused}
use Rattle.cdp_messages.specs.Asked.{asked}
use Rattle.cdp_messages.specs.SessionFrames.{session_asked}
use Rattle.session_mux.specs.Routes.{Request, request_of}
use Rattle.session_runs.specs.World.{Stepped}
use Rattle.session_runs.specs.Pairs.{Down, bare, of_session, Second}
use Rattle.multi_replay.specs.Incoming.{frame_down}
use Rattle.multi_replay.specs.Folds.{fold_both}
use Rattle.multi_replay.specs.Laws.{IsFoldOfBoth}
use Rattle.back_end.specs.States.{State}
use Rattle.back_end.specs.Laws.{most_ids, tree_edits, edits_kept}
use Rattle.back_end.specs.Guests.{drawn_by_outside}
use Rattle.back_end.specs.Pairs.{Pair, pair_step, pair_turn, root_state, second_state}
use Rattle.back_end.specs.PairSeats.{PairStandsFor}
use Rattle.replay_script.specs.PairLines.{Met}
use Rattle.inspect_world.specs.Fits.{most_bytes}
use Rattle.inspect_world.specs.ShownReplies.{ShownReply, replies_among, reply_id}
use Rattle.inspect_world.specs.Links.{Happening, came, made, frames_among, made_among, commands_in, bytes_among, knows_styles}
use Rattle.inspect_world.specs.Links.{PipeGoesOn}
use Rattle.pair_world.specs.PairHeld.{PairEnds, up_reads}
use Rattle.pair_world.specs.PairFresh.{FrontValues}

-- ---- the fold of two front ends

-- The two front ends that sent these bytes up, and were given those bytes down: what they show, or the first message that is refused. A
-- run stops at the first fault, so the frames that were sent by then are all the asks that could wait.
abbrev pub pair_fold_of : (sent_up given_down : List ℕ) → Result FrontValues FrontFault
pair_fold_of sent_up given_down = fold_both up_reads sent_up given_down

-- a second front end stands in what a fold comes to
abbrev pub second_in : Result FrontValues FrontFault → Bool
second_in (Ok p) = is_some p.two
second_in (Err fault) = false

-- the second front end knows the matched styles that this ask asks for
abbrev pub second_knows : Option (Second FrontValue (List ℕ)) → ℕ → Bool
second_knows None ask = false
second_knows (Some w) ask = knows_styles w.value ask

-- so does the front end that is meant, in what a fold comes to
abbrev pub pair_came_styles : Bool → Result FrontValues FrontFault → ℕ → Bool
pair_came_styles false (Ok p) ask = knows_styles p.one ask
pair_came_styles true (Ok p) ask = second_knows p.two ask
pair_came_styles second (Err fault) ask = false

-- what a line meets, by what the fold comes to then and the panels that stand open
abbrev pub met_by : {K : Type 0} → Result FrontValues FrontFault → List (Option K) → Met K
met_by fold panels = record {
  stands = second_in fold;
  panels = panels;
  first_came = pair_came_styles false fold;
  second_came = pair_came_styles true fold;
}

-- ---- what comes to the back end

-- the step of a frame that came up, or of what the script did; our own two methods are unknown
abbrev pub pair_happening_step : Happening → Pair → Stepped Pair
pair_happening_step (came frame) p = pair_step false frame p
pair_happening_step (made x) p = pair_turn x p

-- the steps, one after the other
abbrev pub pair_happened : Pair → List Happening → Stepped Pair
pair_happened p [] = record { state = p; sent = [] }
pair_happened p (h ∷ hs) =
    let first = pair_happening_step h p in
    let later = pair_happened first.state hs in
    record { state = later.state; sent = first.sent ++ later.sent }

-- a message of either session, without its session
abbrev pub plain_frame : List ℕ → Down (List ℕ) → List (List ℕ)
plain_frame frame (bare id) = frame ∷ []
plain_frame frame (of_session text stripped) = stripped ∷ []

-- the replies among the whole frames of these bytes, whosever they are
abbrev pub pair_replies_in : List ℕ → List ShownReply
pair_replies_in bytes = replies_among (flat_map (λ frame. plain_frame frame (frame_down frame)) (frames_of bytes).whole)

-- ---- how much the steps draw

-- what a frame asks of the session that it names
abbrev pub asked_in_session : List ℕ → Field (List ℕ) → Result Asked Refused
asked_in_session frame Missing = asked frame false
asked_in_session frame WrongKind = session_asked frame
asked_in_session frame (Is session) = session_asked frame

-- what a frame asks, of whichever session
abbrev pub asked_of_either : List ℕ → Option Request → Result Asked Refused
asked_of_either frame None = asked frame false
asked_of_either frame (Some r) = asked_in_session frame r.session

-- how many of the frames that came up are commands of either session
abbrev pub pair_commands_among : List Happening → ℕ
pair_commands_among [] = 0
pair_commands_among (came frame ∷ hs) = pair_commands_among hs + commands_in (asked_of_either frame (request_of frame))
pair_commands_among (made x ∷ hs) = pair_commands_among hs

-- How much was drawn for one client by so many commands and steps of the script, and by frames of so many bytes: each command keeps two
-- edits of the tree at most, and an undo of the other client's may come to all of these.
pub record DrewOne (state : State) (commands made bytes : ℕ) : Type 0 where
  pub ids : length state.client.session.pushed + tree_edits state
      ≤ (commands + made) * (most_ids + 2) + drawn_by_outside * (commands * commands)
  pub trees : tree_edits state ≤ commands * 2
  pub edits : edits_kept state ≤ bytes

-- for both clients
pub record DrewBoth (p : Pair) (commands made bytes : ℕ) : Type 0 where
  pub root : DrewOne (root_state p) commands made bytes
  pub second : DrewOne (second_state p) commands made bytes

-- at least so many bytes were sent up where no id is left
abbrev pub sent_when_pair_is_full : ℕ
sent_when_pair_is_full = 2 ^ 19

-- ---- what each line met

-- A moment of a run: what was sent up and given down by then.
pub record LinkMoment : Type 0 where
  pub sent_up : List ℕ
  pub given_down : List ℕ

-- no less was sent and given by a later moment
pub record IsLaterMoment (before after : LinkMoment) : Type 0 where
  pub more_sent : List ℕ
  pub more_given : List ℕ
  pub sent_is : after.sent_up ≡ before.sent_up ++ more_sent
  pub given_is : after.given_down ≡ before.given_down ++ more_given

-- each of some moments is no earlier than the one before it, and the last one of all is this
abbrev pub AreInOrderTo : LinkMoment → List LinkMoment → Type 0
AreInOrderTo last [] = ⊤
AreInOrderTo last (m ∷ []) = IsLaterMoment m last
AreInOrderTo last (m ∷ n ∷ ms) = IsLaterMoment m n × AreInOrderTo last (n ∷ ms)

-- ---- the ends over a link

-- Where a run began; how many lines more it may carry out, each of which makes one step of the script at most; the kinds of its panels,
-- none where one was dropped; and a moment of it, since which it went on.
pub record PairStarted : Type 0 where
  pub pair : Pair
  pub lines : ℕ
  pub panels : List (Option PanelKind)
  pub from : LinkMoment

-- so it began
abbrev pub pair_started : Pair → ℕ → List (Option PanelKind) → LinkMoment → PairStarted
pair_started pair lines panels from = record { pair = pair; lines = lines; panels = panels; from = from }

-- one line more may be carried out
abbrev pub one_pair_line_more : PairStarted → PairStarted
one_pair_line_more start = pair_started start.pair (start.lines + 1) start.panels start.from

-- the second front end, where it stands, has sent no more frames than bytes were sent up
abbrev pub SecondFew : Option (Second FrontState (List ℕ)) → ℕ → Type 0
SecondFew None sent = ⊤
SecondFew (Some w) sent = w.value.next + w.value.fetches ≤ sent + 1

-- Since the pipes were as `up0` and `down0`, and the run began as `start` says: the two front ends are the fold of what they sent and were
-- given; the back end has carried out the frames that were given up, but for those that `waiting` holds whole, and between them the
-- script's own steps, and has sent just what these steps send. What the ends count as sent and not given is just that. Ids, serials and
-- numbers of sheets, of searches and of sessions were drawn for what was sent up and for the script's steps alone. Nothing that was sent up
-- or given down by the moment of `start` was taken back.
pub record FollowsPair (start : PairStarted) (up0 down0 up down : Pipe) (waiting : List (List ℕ)) (e : PairEnds) : Type 0 where
  pub sent_up : List ℕ
  pub given_up : List ℕ
  pub sent_down : List ℕ
  pub given_down : List ℕ
  pub up_is : PipeGoesOn up0 up sent_up given_up
  pub down_is : PipeGoesOn down0 down sent_down given_down
  pub later : IsLaterMoment start.from (record { sent_up = sent_up; given_down = given_down })
  pub fronts_are : IsFoldOfBoth up_reads sent_up given_down e.fronts
  pub alive : e.fronts.dead ≡ false
  pub first_alive : e.fronts.pair.one.dead ≡ false
  pub panels : e.fronts.pair.one.panels ≡ start.panels
  pub events : List Happening
  pub frames_are : (frames_of given_up).whole ≡ frames_among events ++ waiting
  pub back_is : e.back_rest ≡ (frames_of given_up).rest
  pub pair : Pair
  pub pair_is : (pair_happened start.pair events).state ≡ pair
  pub sent_is : sent_down ≡ (pair_happened start.pair events).sent
  pub replies_are : map (λ (t : ShownReply). t.id) (pair_replies_in sent_down) ≡ map reply_id (frames_among events)
  pub down_whole : (frames_of sent_down).rest ≡ []
  pub stands : PairStandsFor e.mux e.side pair
  pub up_left : e.up_there + length given_up ≡ length sent_up
  pub down_left : e.down_there + length given_down ≡ length sent_down
  pub few_asked : e.fronts.pair.one.next + e.fronts.pair.one.fetches ≤ length sent_up + 1
  pub few_second : SecondFew e.fronts.pair.two (length sent_up)
  pub few_targets : e.fronts.next ≤ fetch_limit + length sent_up
  pub few_made : made_among events + start.lines ≤ most_bytes
  pub drew : DrewBoth pair (pair_commands_among events) (made_among events) (bytes_among (frames_among events))
  pub few_serials : pair.side.page.next ≤ (length events + 1) * (max_nodes + 1)
  pub few_numbers : pair.side.next_sheet ≤ (length events + 1) * max_sheets + 1
  pub few_searches : (root_state pair).client.searches.given ≤ length events
  pub few_second_searches : (second_state pair).client.searches.given ≤ length events
  pub few_sessions : pair.sessions.next ≤ length events + 1
