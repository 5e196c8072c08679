-- One client of this protocol keeps what two sessions need: its own steps, the other session's and the script's take its front end along.
use Rattle.std.proofs.Common.{◌≡◌, ℕ, false, List, [], ◌∷◌, ◌++◌, map, codes, All, Option, Some, None, Result, refl, sym}
use Rattle.std.proofs.Common.{◌∙◌}
use Rattle.std.proofs.Common.{ap, subst, append-nil}
use Rattle.std.specs.List.{flat_map}
use Rattle.std.specs.Option.{option_to_list}
use Rattle.std.proofs.lemmas.List.{map-append}
use Rattle.std.proofs.lemmas.List.Elements.{All-nil, All-cons}
use Rattle.pipe_frames.specs.Frames.{Frames, frames_of}
use Rattle.cdp_messages.specs.declared.command.Asked.{Asked}
use Rattle.cdp_messages.specs.declared.command.Refused.{Refused}
use Rattle.cdp_messages.specs.Asked.{asked, refusal}
use Rattle.client_views.specs.Moves.{Move, texted, failed, Course, move_text, frames_of_moves}
use Rattle.front_mirror.specs.declared.replies.Ask.{Ask}
use Rattle.front_mirror.specs.declared.replies.MatchedReply.{MatchedReply}
use Rattle.front_mirror.specs.Front.{FrontValue, first_value, take_frame}
use Rattle.front_mirror.specs.Laws.{matched_after, IsOfSheet, InTurn, rests, meets}
use Rattle.back_end.specs.States.{Side, State, view_of, IsState}
use Rattle.back_end.specs.Steps.{Step, Turn, frame_step, turn_step}
use Rattle.back_end.specs.Laws.{IsAnswered, IsTurn, reply_ids}
use Rattle.back_end.specs.Outside.{Outward, frame_outward, outside_step}
use Rattle.back_end.proofs.FrameLemmas.{frame-steps-well}
use Rattle.back_end.proofs.StepLemmas.{turn-steps-well}
use Rattle.back_end.proofs.AnswerLemmas.{turn-answers}
use Rattle.back_end.proofs.OutsideSteps.{IsDone, asked-done, outside-done, turn-sides}
use Rattle.back_end.proofs.OwnTexts.{frame-texts}
use Rattle.back_end.proofs.PairLemmas.{fresh-state}
use Rattle.inspect_world.specs.RunStates.{ToldStyles, styles_answered}
use Rattle.inspect_world.specs.Fits.{ask_of_frame, Sendable, is_ask, is_bare, kept_styles}
use Rattle.inspect_world.proofs.Messages.{AskedAs, commanded, refused_as, asked-ask, fetch-method}
use Rattle.inspect_world.proofs.FetchTold.{FetchAnswered, not_told, is_told, fetch-answered}
use Rattle.client_views.proofs.MoveTexts.{course-texts}
use Rattle.inspect_world.proofs.StepsTaken.{AreQuiet, course-quiet, frames_of-moves, Taken, taken, tells-all, by-asked}
use Rattle.inspect_world.proofs.StepsTaken.{by-failed}
use Rattle.inspect_world.proofs.StepsTaken.{by-refusal}
use Rattle.inspect_world.proofs.StylesTold.{styles-told, quiet-styles}
use Rattle.session_runs.specs.Fold.{folded}
use Rattle.session_runs.specs.PairFit.{ReadLaws, IsNoTarget, LeadsClient, ClientLaws}
use Rattle.multi_replay.specs.Incoming.{is_target_id}
use Rattle.multi_replay.specs.Folds.{asks_more}
use Rattle.pair_world.specs.Clients.{pair_reads, RunClient, state_of, fresh_client, client_steps}
use Rattle.pair_world.specs.Shown.{IsSessionNumber, HasRoomFor, MaySend, Shows}
use Rattle.multi_replay.proofs.SendLemmas.{read-laws}
use Rattle.pair_world.specs.PairHeld.{up_reads}
use Rattle.pair_world.proofs.TaggedTexts.{NoTarget, NoTargets, Written, moves-written}
use Rattle.pair_world.proofs.TargetTexts.{texts-apart, attached-down, attached-text, attached-says, detached-down, detached-text}
use Rattle.pair_world.proofs.TargetTexts.{detached-says}

-- ---- one front end

pub read_laws : ReadLaws pair_reads
read_laws = read-laws up_reads

-- ---- what a step tells

-- a front end of a client, after bytes
abbrev Led : FrontValue → List ℕ → Side → RunClient → List Ask → Type 0
Led v sent side c asks = LeadsClient pair_reads client_steps IsSessionNumber Shows v sent side c asks

-- the client of a state that was told these styles
abbrev client_in : State → List ToldStyles → RunClient
client_in state styles = record { client = state.client; styles = styles }

kept-more : (v w : FrontValue) (styles told : List ToldStyles) (more : List MatchedReply) → map kept_styles v.matched ≡ styles
    → w.matched ≡ v.matched ++ more
    → map kept_styles more ≡ told → map kept_styles w.matched ≡ styles ++ told
kept-more v w styles told more kept after is =
    ap (map kept_styles) after ∙ map-append kept_styles v.matched more ∙ ap (λ ts. ts ++ map kept_styles more) kept ∙ ap
    (λ ts. styles ++ ts) is

-- the messages of a step take the front end along
leads : (v : FrontValue) (side : Side) (c : RunClient) (before more : List Ask) (done : Step) (told : List ToldStyles)
    → Shows v side c before → IsState done.state → Course done.moves (view_of (state_of side c)) (view_of done.state)
    → InTurn done.moves v.asks more → map kept_styles (flat_map matched_after done.moves) ≡ told → NoTargets (flat_map reply_ids done.moves)
    → Led v (frames_of_moves done.moves) done.state.side (client_in done.state (c.styles ++ told)) more
leads v side c before more done told shows is course turn tells ids =
    let k : Taken done v more = taken (state_of side c) done v more course shows.has turn in
    let are : frames_of (frames_of_moves done.moves) ≡ record { whole = map move_text done.moves; rest = [] } =
    frames_of-moves done.moves (course-texts done.moves (view_of (state_of side c)) (view_of done.state) course) in
    record {
      after = k.after;
      is_fold = ap (λ (fs : Frames). folded take_frame v fs.whole) k.frames_are ∙ k.is_fold;
      shows = record {
        has = k.has;
        styles = kept-more v k.after c.styles told (flat_map matched_after done.moves) shows.styles k.matched tells;
        waiting = sym k.asks;
        is_state = is;
      };
      whole = ap (λ (fs : Frames). fs.rest) are;
      written = subst (λ (fs : Frames). All Written fs.whole) (sym are)
          (moves-written done.moves (view_of (state_of side c)) (view_of done.state) course ids);
    }

-- a step that answers nothing
leads-quietly : (v : FrontValue) (side : Side) (c : RunClient) (asks : List Ask) (done : Step) → Shows v side c asks → IsState done.state
    → Course done.moves (view_of (state_of side c)) (view_of done.state) → flat_map reply_ids done.moves ≡ []
    → Led v (frames_of_moves done.moves) done.state.side (client_in done.state c.styles) asks
leads-quietly v side c asks done shows is course quiet =
    subst (λ styles. Led v (frames_of_moves done.moves) done.state.side (client_in done.state styles) asks) (append-nil c.styles)
    (leads v side c asks asks done [] shows is course
    (subst (λ xs. InTurn done.moves xs asks) shows.waiting (tells-all done.moves asks quiet))
    (ap (map kept_styles) (quiet-styles done.moves quiet))
    (subst NoTargets (sym quiet) (All-nil (λ o. IsNoTarget pair_reads o))))

-- ---- the answer comes in turn

-- a frame that may be sent is answered as the first of what waits
in-turn : (frame : List ℕ) (state : State) (more : List Ask) → Sendable frame
    → IsAnswered (asked frame false) (frame_step false frame state).moves → AreQuiet (frame_step false frame state).moves
    → InTurn (frame_step false frame state).moves (option_to_list (ask_of_frame frame) ++ more) more
in-turn frame state more sendable answered quiet = by sendable where
  moves : List Move
  moves = (frame_step false frame state).moves

  -- the reply to a fetch answers the ask that it is
  fetched : (ask : Ask) (sheet : ℕ) (done : Step) → ask.sheet ≡ Some sheet → ask.method ≡ codes "CSS.getStyleSheetText"
      → FetchAnswered ask.id sheet state done → InTurn done.moves (ask ∷ more) more
  fetched ask sheet _ fetches method (not_told why) = by-failed ask more _ why refl
  fetched ask sheet _ fetches method (is_told text) =
      meets (texted ask.id sheet text) [] ask more more (refl, method, subst (IsOfSheet sheet) (sym fetches) refl) (rests more)

  by-sheet : (ask : Ask) → ask_of_frame frame ≡ Some ask → (o : Option ℕ) → ask.sheet ≡ o
      → InTurn (frame_step false frame state).moves (ask ∷ more) more
  by-sheet ask is (Some sheet) fetches =
      fetched ask sheet (frame_step false frame state) fetches (fetch-method frame ask sheet is fetches)
      (fetch-answered frame ask sheet state is fetches)
  by-sheet ask is None plain =
      by-asked ask more (frame_step false frame state).moves (asked frame false) plain (asked-ask frame ask is) answered quiet

  by : Sendable frame → InTurn (frame_step false frame state).moves (option_to_list (ask_of_frame frame) ++ more) more
  by (is_ask ask is) =
      subst (λ o. InTurn (frame_step false frame state).moves (option_to_list o ++ more) more) (sym is) (by-sheet ask is ask.sheet refl)
  by (is_bare bare) =
      subst (λ o. InTurn (frame_step false frame state).moves (option_to_list o ++ more) more) (sym bare.no_ask)
      (by-refusal more (frame_step false frame state).moves (refusal None bare.why) refl
      (subst (λ r. IsAnswered r (frame_step false frame state).moves) bare.refused answered))

-- ---- no attach and no detach is answered

one-id : (o : Option ℕ) → NoTarget o → NoTargets (o ∷ [])
one-id o none = All-cons (λ o. IsNoTarget pair_reads o) o [] none (All-nil (λ o. IsNoTarget pair_reads o))

asked-ids : (ask : Ask) (result : Result Asked Refused) (moves : List Move) → is_target_id ask.id ≡ false → AskedAs ask result
    → IsAnswered result moves → NoTargets (flat_map reply_ids moves)
asked-ids ask _ moves none (commanded c is) answered = subst NoTargets (sym answered.0) (one-id (Some ask.id) none)
asked-ids ask _ moves none (refused_as why) answered =
    subst (λ ms. NoTargets (flat_map reply_ids ms)) (sym answered) (one-id (Some ask.id) none)

answered-ids : (frame : List ℕ) (moves : List Move) → MaySend frame → IsAnswered (asked frame false) moves
    → NoTargets (flat_map reply_ids moves)
answered-ids frame moves may answered = by may.sendable where
  by : Sendable frame → NoTargets (flat_map reply_ids moves)
  by (is_ask ask is) = asked-ids ask (asked frame false) moves (may.no_target ask is) (asked-ask frame ask is) answered
  by (is_bare bare) =
      let one : moves ≡ failed (refusal None bare.why) ∷ [] = subst (λ r. IsAnswered r moves) bare.refused answered in
      subst (λ ms. NoTargets (flat_map reply_ids ms)) (sym one) (one-id None tt)

-- ---- the laws

-- what a step is to the page leads its side there, whoever the client is
abbrev pub LeadsSide : Side → Outward → Side → Type 0
LeadsSide side d after = IsDone (state_of side fresh_client) d after

client-owns : (text : List ℕ) (v : FrontValue) (side : Side) (c : RunClient) (more : List Ask) → HasRoomFor side c → MaySend text
    → Shows v side c (option_to_list (ask_of_frame text) ++ more)
    → let done = client_steps.own text side c in
    Led v done.sent done.side done.client more × LeadsSide side done.outward done.side
client-owns text v side c more room may shows =
    let state : State = state_of side c in
    let well = frame-steps-well false state text shows.is_state room in
    let done : Step = frame_step false text state in
    let quiet : AreQuiet done.moves = course-quiet done.moves (view_of state) (view_of done.state) well.0.course in
    let to_page : IsDone state (frame_outward false text state) done.state.side =
    asked-done (asked text false) state (frame-texts false text) shows.is_state room in (
      leads v side c (option_to_list (ask_of_frame text) ++ more) more done (styles_answered text state) shows well.0.is_state
          well.0.course
          (subst (λ xs. InTurn done.moves xs more) shows.waiting (in-turn text state more may.sendable well.1 quiet))
          (styles-told text state well.1) (answered-ids text done.moves may well.1),
      record { can = to_page.can; led = to_page.led },
    )

client-outsides : (d : Outward) (v : FrontValue) (side after : Side) (c : RunClient) (asks : List Ask) → HasRoomFor side c
    → LeadsSide side d after → Shows v side c asks
    → let done = client_steps.outside d side c in Led v done.sent after done.client asks
client-outsides d v side after c asks room leading shows =
    let state : State = state_of side c in
    let o = outside-done d (state_of side fresh_client) state after leading shows.is_state room refl in
    let done : Step = outside_step d state in
    subst (λ s. Led v (frames_of_moves done.moves) s (client_in done.state c.styles) asks) o.side_is
    (leads-quietly v side c asks done shows o.is_state o.course o.quiet)

client-acts : (x : Turn) (v : FrontValue) (side : Side) (c : RunClient) (asks : List Ask) → HasRoomFor side c → IsTurn x
    → Shows v side c asks
    → let done = client_steps.act x side c in Led v done.sent done.side done.client asks
client-acts x v side c asks room turn shows =
    let state : State = state_of side c in
    let well = (turn-steps-well state x shows.is_state room turn).0 in
    leads-quietly v side c asks (turn_step x state) shows well.is_state well.course (turn-answers x state)

-- a front end that was told nothing shows it
pub shows-fresh : (side : Side) → IsState (state_of side fresh_client) → Shows (first_value []) side fresh_client []
shows-fresh side is = record { has = record { tree = refl; sheets = tt }; styles = refl; waiting = refl; is_state = is }

client-joins : (v : FrontValue) (side : Side) (c : RunClient) (asks more : List Ask) → Shows v side c asks
    → Shows (asks_more v more) side c (asks ++ more)
client-joins v side c asks more shows = record {
  has = record { tree = shows.has.tree; sheets = shows.has.sheets };
  styles = shows.styles;
  waiting = ap (λ xs. xs ++ more) shows.waiting;
  is_state = shows.is_state;
}

-- Each client keeps what two sessions need.
pub client_laws : ClientLaws pair_reads client_steps IsSessionNumber HasRoomFor MaySend IsTurn LeadsSide Shows
client_laws = record {
  owns = client-owns;
  outsides = client-outsides;
  acts = client-acts;
  acts_alike = λ x side one two. turn-sides x (state_of side one) (state_of side two) refl;
  begins = λ v side c asks shows. shows-fresh side (fresh-state (state_of side c) shows.is_state);
  joins = client-joins;
  apart = texts-apart;
  attached_down = attached-down;
  attached_letters = attached-text;
  attached_says = attached-says;
  detached_down = detached-down;
  detached_letters = detached-text;
  detached_says = detached-says;
}
