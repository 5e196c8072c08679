-- The ends follow the run as bytes are sent and given.
use Rattle.std.proofs.Common.{◌≡◌, refl, false, ℕ, ◌+◌, ◌-◌, ◌^◌, ◌<◌, ◌≤◌, List, [], ◌∷◌, ◌++◌, length, take, Option, Some, None}
use Rattle.std.proofs.Common.{sym, ◌∙◌}
use Rattle.std.proofs.Common.{ap, append_assoc, Result, Ok, Err, arith}
use Rattle.page_forms.specs.Pages.{LoadedPage, CanLoadPage}
use Rattle.pipe_frames.specs.Pipe.{Pipe, waiting}
use Rattle.pipe_frames.specs.Frames.{IsText, framed, frames_of, held_after}
use Rattle.pipe_frames.proofs.FrameLemmas.{frames_of-one}
use Rattle.cdp_messages.specs.Asked.{command_text}
use Rattle.front_mirror.specs.declared.faults.FrontKind.{FrontKind}
use Rattle.front_mirror.specs.declared.panels.PanelKind.{PanelKind}
use Rattle.front_mirror.specs.Front as front
use Rattle.front_mirror.specs.Front.{FrontValue, FrontState, first_state, first_value, take_frame, Folded, after_message, fetch_ask}
use Rattle.front_mirror.specs.Front.{after_ask, after_fetch, after_take}
use Rattle.replay_script.specs.Forms.{AskForm, ask}
use Rattle.session_runs.specs.Stream.{sent, passed, held, arriving, awaited}
use Rattle.session_runs.specs.World.{sent_up}
use Rattle.inspect_world.specs.World.{World, AlreadyTold, nothing_told, Audience, audience, Spent, nothing_spent, one_ask, one_fetch}
use Rattle.inspect_world.specs.World.{one_raw, raw, turned}
use Rattle.session_runs.specs.World.{answered, given_up, delivered_down}
use Rattle.cdp_json.specs.Lookups.{then_ok}
use Rattle.session_runs.specs.Fold.{folded, asks_joined}
use Rattle.session_runs.specs.LinkRuns.{Pipes, LinkCounts, OnLink}
use Rattle.back_end.specs.declared.seat.Seat.{Seat}
use Rattle.back_end.specs.declared.side.PageSide.{PageSide}
use Rattle.back_end.specs.States.{loaded_state}
use Rattle.back_end.specs.Steps.{Turn}
use Rattle.inspect_world.specs.StepBytes.{step, turn}
use Rattle.inspect_world.specs.RunStates.{RunState, run_start, run_step, run_turn}
use Rattle.back_end.specs.Laws.{HasRoom}
use Rattle.back_end.specs.Seats.{StandsFor, HasRoomLeft}
use Rattle.inspect_world.specs.Costs.{ask_edits, least_line, line_cost}
use Rattle.inspect_world.specs.Fits.{join, IsNext, next_raw, IsBare, IsNextTurn, replay, ask_of_frame, ask_with, with_ask, most_frames}
use Rattle.inspect_world.specs.Fits.{most_fetches, HasLeft, IsFit, AlwaysRoom, IsNextIn}
use Rattle.inspect_world.specs.FreshRuns.{front_fetcher}
use Rattle.inspect_world.specs.Scripts.{sends, loaded_world}
use Rattle.page_forms.specs.Texts.{PageHasTexts}
use Rattle.replay_script.specs.Sound.{CanSend}
use Rattle.inspect_world.specs.Held.{Ends, good_front, with_panels, InWorld}
use Rattle.session_runs.proofs.Frames.{sent-passed, rest-given}
use Rattle.session_runs.proofs.Worlds.{whole-after}
use Rattle.inspect_world.proofs.FitLemmas.{world_laws, fit-room}
use Rattle.inspect_world.proofs.Messages.{IsText-sent, ask_in-sent, IsNext-sent}
use Rattle.inspect_world.proofs.FetchForms.{fetcher-text, fetcher-asks, fetcher-next}
use Rattle.inspect_world.proofs.Scripts.{frame-left, edits-left, fit-first}
use Rattle.back_end.proofs.SeatRoom.{has-room-left}
use Rattle.session_runs.proofs.Folds.{joined-append}
use Rattle.session_runs.proofs.LinkRuns.{link-waits, link-first, link-sent_up, link-given_up, link-answered, link-turned}
use Rattle.session_runs.proofs.LinkRuns.{link-delivered_down, TakesMore, link-takes}

-- ---- the front end's own fold

-- what a front makes of frames that it does not refuse
pub front-folded : (frames : List (List ℕ)) (v w : FrontValue) → folded take_frame v frames ≡ Ok w
    → front.front_folded v frames ≡ record { value = w; fault = None }
front-folded [] v w e = let same : v ≡ w = cc in ap (λ value. record { value = value; fault = None }) same
front-folded (frame ∷ frames) v w e =
    (elim (take_frame v frame) as (λ (r : Result FrontValue FrontKind). then_ok r (λ next. folded take_frame next frames) ≡ Ok w
    → after_message v (λ next. front.front_folded next frames) r ≡ record { value = w; fault = None }) [
      | Ok next ↦ λ rest. front-folded frames next w rest
      | Err kind ↦ λ rest. let no : ◌≡◌ {A = Result FrontValue FrontKind} (Err kind) (Ok w) = rest in cc
    ]) e

-- ---- the link

-- the two pipes at one moment
abbrev pipes : Pipe → Pipe → Pipes
pipes up down = record { up = up; down = down }

-- what the ends count
abbrev counts : Ends → LinkCounts
counts e = record { back_rest = e.back_rest; up_there = e.up_there; down_there = e.down_there }

-- the link carries the run of a replay
abbrev OnReplay : Pipes → Pipes → World RunState → List (List ℕ) → LinkCounts → Type 0
OnReplay = OnLink replay IsFit (first_value [])

-- what the ends count waits in the link
pub world-waits : (up0 down0 up down : Pipe) (w : World RunState) (frames : List (List ℕ)) (e : Ends)
    → InWorld up0 down0 up down w frames e → (e.up_there ≤ length (waiting up)) × (e.down_there ≤ length (waiting down))
world-waits up0 down0 up down w frames e in_world =
    link-waits replay AlwaysRoom IsNextIn IsNextTurn IsFit world_laws (first_value []) (pipes up0 down0) (pipes up down) w frames (counts e)
    in_world.on_link

-- ---- bytes go down

-- what the front end makes of the bytes that come down in an honest run
pub record Takes (front1 : FrontState) (w : World RunState) (n : ℕ) : Type 0 where
  pub value : FrontValue
  pub front_is : front1 ≡ with_panels w.told.panels (good_front value (held (passed n w.down)) (w.spent.asks + 1) w.spent.fetches)
  pub is_fold : folded take_frame (asks_joined join (first_value []) (frames_of (sent w.up)).whole) (frames_of (passed n
      w.down).given).whole
      ≡ Ok value

takes : (up0 down0 up down : Pipe) (w : World RunState) (frames : List (List ℕ)) (e : Ends) (n : ℕ) (piece : List ℕ)
    → InWorld up0 down0 up down w frames e → piece ≡ take n w.down.flying → Takes (after_take e.front piece) w n
takes up0 down0 up down w frames e n piece in_world front_part =
    let more : TakesMore replay AlwaysRoom IsNextIn IsNextTurn IsFit world_laws (first_value []) w in_world.value n =
    link-takes replay AlwaysRoom IsNextIn IsNextTurn IsFit world_laws (first_value []) (pipes up0 down0) (pipes up down) w frames (counts e)
    in_world.value n in_world.on_link in_world.is_fold in
    let taken : front.front_folded in_world.value (arriving n w.down) ≡ record { value = more.after; fault = None } =
    front-folded (arriving n w.down) in_world.value more.after more.coming in
    record {
      value = more.after;
      front_is =
          ap (λ state. after_take state piece) in_world.front_is
          ∙ ap (λ bytes. after_take
          (with_panels w.told.panels (good_front in_world.value (held w.down) (w.spent.asks + 1) w.spent.fetches)) bytes) front_part
          ∙ ap (λ (end : Folded). record {
            value = end.value;
            rest = held_after (held w.down) (take n w.down.flying);
            fault = end.fault;
            next = w.spent.asks + 1;
            fetches = w.spent.fetches;
            dead = false;
            panels = w.told.panels;
          }) taken
          ∙ ap (λ rest. with_panels w.told.panels (good_front more.after rest (w.spent.asks + 1) w.spent.fetches))
          (sym (rest-given n w.down));
      is_fold = more.is_fold;
    }

-- bytes are delivered down
pub world-delivered_down : (up0 down0 up down down1 : Pipe) (w : World RunState) (frames : List (List ℕ)) (e : Ends) (n there : ℕ)
    (piece : List ℕ)
    → InWorld up0 down0 up down w frames e → piece ≡ take n w.down.flying
    → down1.sent ≡ down.sent → down1.given ≡ down.given ++ piece → there ≡ e.down_there - length piece
    → InWorld up0 down0 up down1 (delivered_down n w) frames (record e { front = after_take e.front piece; down_there = there })
world-delivered_down up0 down0 up down down1 w frames e n there piece in_world front_part sent_is given_is left =
    let took : Takes (after_take e.front piece) w n = takes up0 down0 up down w frames e n piece in_world front_part in
    record {
      on_link = link-delivered_down replay AlwaysRoom IsNextIn IsNextTurn IsFit world_laws (first_value []) (pipes up0 down0)
          (pipes up down) down1 w frames (counts e) n there piece in_world.on_link front_part sent_is given_is left;
      stands = in_world.stands;
      value = took.value;
      front_is = took.front_is;
      is_fold = took.is_fold;
      told_is = in_world.told_is;
    }

-- the front end meets no fault
pub never-refuses : (up0 down0 up down : Pipe) (w : World RunState) (frames : List (List ℕ)) (e : Ends) (n : ℕ) (piece : List ℕ)
    → InWorld up0 down0 up down w frames e → piece ≡ take n w.down.flying → (after_take e.front piece).fault ≡ None
never-refuses up0 down0 up down w frames e n piece in_world front_part =
    ap (λ (state : FrontState). state.fault) (takes up0 down0 up down w frames e n piece in_world front_part).front_is

-- ---- bytes go up

-- a frame is sent
pub world-sent_up : (up0 down0 up down up1 : Pipe) (w : World RunState) (e : Ends) (text : List ℕ) (more : Spent → Spent)
    (front1 : FrontState) (there : ℕ)
    → (in_world : InWorld up0 down0 up down w (awaited w.up) e) → IsText text → IsNext w.spent text (more w.spent)
    → front1 ≡ with_panels w.told.panels
    (good_front (join in_world.value text) (held w.down) ((more w.spent).asks + 1) (more w.spent).fetches)
    → up1.sent ≡ up.sent ++ framed text → up1.given ≡ up.given → there ≡ e.up_there + length (framed text)
    → InWorld up0 down0 up1 down (sent_up text more w) (awaited (sent_up text more w).up) (record e { front = front1; up_there = there })
world-sent_up up0 down0 up down up1 w e text more front1 there in_world letters is_next front_is sent_is given_is left =
    let start = asks_joined join (first_value []) (frames_of (sent w.up)).whole in
    record {
      on_link = link-sent_up replay AlwaysRoom IsNextIn IsNextTurn IsFit world_laws (first_value []) (pipes up0 down0) (pipes up down) up1
          w (counts e) text more there in_world.on_link letters is_next sent_is given_is left;
      stands = in_world.stands;
      value = join in_world.value text;
      front_is = front_is;
      is_fold =
          ap (λ frames. folded take_frame (asks_joined join (first_value []) frames) (frames_of w.down.given).whole)
          (ap (λ bytes. (frames_of bytes).whole) (sym (append_assoc w.up.given w.up.flying (framed text)))
          ∙ whole-after (sent w.up) (framed text) in_world.on_link.fits.up_whole
          ∙ ap (λ fs. (frames_of (sent w.up)).whole ++ fs.whole) (frames_of-one text letters))
          ∙ ap (λ front. folded take_frame front (frames_of w.down.given).whole)
          (joined-append join (first_value []) (frames_of (sent w.up)).whole (text ∷ []))
          ∙ world_laws.later text start in_world.value (frames_of w.down.given).whole in_world.is_fold;
      told_is = in_world.told_is;
    }

-- the ask of a line is sent
pub world-sent : (up0 down0 up down up1 : Pipe) (w : World RunState) (e : Ends) (a : AskForm) (text : List ℕ) (there : ℕ)
    → InWorld up0 down0 up down w (awaited w.up) e → CanSend a → HasLeft w.spent (line_cost (ask a))
    → text ≡ command_text (w.spent.asks + 1) a.method a.params a.session
    → up1.sent ≡ up.sent ++ framed text → up1.given ≡ up.given → there ≡ e.up_there + length (framed text)
    → InWorld up0 down0 up1 down (sends a w) (awaited (sends a w).up)
    (record e { front = after_ask e.front a.method; up_there = there })
world-sent up0 down0 up down up1 w e a text there in_world can room text_is sent_is given_is left =
    let few : w.spent.asks + w.spent.raws + 1 ≤ most_frames = frame-left w.spent (ask_edits a) room in
    let small : w.spent.asks + 1 < 2 ^ 30 = omega (arith, few) in
    let sends_text = command_text (w.spent.asks + 1) a.method a.params a.session in
    let is : ask_of_frame sends_text ≡ Some (ask_with a.method (w.spent.asks + 1)) = ask_in-sent (w.spent.asks + 1) a can small in
    let joins : join in_world.value sends_text
    ≡ with_ask in_world.value (Some (ask_with a.method (w.spent.asks + 1))) = ap (with_ask in_world.value) is in
    world-sent_up up0 down0 up down up1 w e sends_text (one_ask (ask_edits a)) (after_ask e.front a.method) there in_world
    (IsText-sent (w.spent.asks + 1) a can (omega (arith, few)))
    (IsNext-sent w.spent a can few (edits-left w.spent (ask_edits a) room) small)
    (ap (λ front. after_ask front a.method) in_world.front_is
    ∙ ap (λ value. with_panels w.told.panels (good_front value (held w.down) (w.spent.asks + 1 + 1) w.spent.fetches)) (sym joins))
    (sent_is ∙ ap (λ bytes. up.sent ++ framed bytes) text_is) given_is (left ∙ ap (λ bytes. e.up_there + length (framed bytes)) text_is)

-- a frame is sent that names no ask
pub world-raw : (up0 down0 up down up1 : Pipe) (w : World RunState) (e : Ends) (text : List ℕ) (there : ℕ)
    → InWorld up0 down0 up down w (awaited w.up) e → IsText text → IsBare text → HasLeft w.spent least_line
    → up1.sent ≡ up.sent ++ framed text → up1.given ≡ up.given → there ≡ e.up_there + length (framed text)
    → InWorld up0 down0 up1 down (raw text w) (awaited (raw text w).up) (record e { up_there = there })
world-raw up0 down0 up down up1 w e text there in_world letters bare room sent_is given_is left =
    let joins : join in_world.value text ≡ in_world.value = ap (with_ask in_world.value) bare.no_ask in
    world-sent_up up0 down0 up down up1 w e text one_raw e.front there in_world letters (next_raw bare (frame-left w.spent 0 room))
    (in_world.front_is
    ∙ ap (λ value. with_panels w.told.panels (good_front value (held w.down) (w.spent.asks + 1) w.spent.fetches)) (sym joins))
    sent_is given_is left

-- the text of a sheet is fetched
pub world-fetched : (up0 down0 up down up1 : Pipe) (w : World RunState) (e : Ends) (sheet there : ℕ)
    → InWorld up0 down0 up down w (awaited w.up) e → sheet < 2 ^ 64 → w.spent.fetches + 1 ≤ most_fetches
    → up1.sent ≡ up.sent ++ framed (front_fetcher.text w.spent.fetches sheet) → up1.given ≡ up.given
    → there ≡ e.up_there + length (framed (front_fetcher.text w.spent.fetches sheet))
    → InWorld up0 down0 up1 down (sent_up (front_fetcher.text w.spent.fetches sheet) one_fetch w)
    (awaited (sent_up (front_fetcher.text w.spent.fetches sheet) one_fetch w).up)
    (record e { front = after_fetch e.front sheet; up_there = there })
world-fetched up0 down0 up down up1 w e sheet there in_world fits few sent_is given_is left =
    let text = front_fetcher.text w.spent.fetches sheet in
    let is : ask_of_frame text ≡ Some (fetch_ask w.spent.fetches sheet) = fetcher-asks w.spent.fetches sheet few fits in
    let joins : join in_world.value text
    ≡ with_ask in_world.value (Some (fetch_ask w.spent.fetches sheet)) = ap (with_ask in_world.value) is in
    world-sent_up up0 down0 up down up1 w e text one_fetch (after_fetch e.front sheet) there in_world
    (fetcher-text w.spent.fetches sheet few) (fetcher-next w.spent sheet few fits)
    (ap (λ front. after_fetch front sheet) in_world.front_is
    ∙ ap (λ value. with_panels w.told.panels (good_front value (held w.down) (w.spent.asks + 1) (w.spent.fetches + 1))) (sym joins))
    sent_is given_is left

-- bytes come up
pub world-given_up : (up0 down0 up down up1 : Pipe) (w : World RunState) (e : Ends) (n there : ℕ) (piece rest : List ℕ)
    → InWorld up0 down0 up down w (awaited w.up) e → piece ≡ take n w.up.flying
    → up1.sent ≡ up.sent → up1.given ≡ up.given ++ piece → there ≡ e.up_there - length piece
    → rest ≡ held_after e.back_rest piece
    → InWorld up0 down0 up1 down (given_up n w) (arriving n w.up ++ awaited (passed n w.up))
    (record e { back_rest = rest; up_there = there })
world-given_up up0 down0 up down up1 w e n there piece rest in_world front_part sent_is given_is left rest_is = record {
  on_link = link-given_up replay AlwaysRoom IsNextIn IsNextTurn IsFit world_laws (first_value []) (pipes up0 down0) (pipes up down) up1 w
      (counts e) n there piece rest in_world.on_link front_part sent_is given_is left rest_is;
  stands = in_world.stands;
  value = in_world.value;
  front_is = in_world.front_is;
  is_fold =
      ap (λ bytes. folded take_frame (asks_joined join (first_value []) (frames_of bytes).whole) (frames_of w.down.given).whole)
      (sent-passed n w.up)
      ∙ in_world.is_fold;
  told_is = in_world.told_is;
}

-- a frame that came up whole is answered
pub world-answered : (up0 down0 up down down1 : Pipe) (w : World RunState) (frame : List ℕ) (frames : List (List ℕ)) (e : Ends)
    → (seat : Seat) (side : PageSide) (out : List ℕ) (there : ℕ)
    → InWorld up0 down0 up down w (frame ∷ frames) e
    → StandsFor seat side (step w.state.back frame).state → out ≡ (step w.state.back frame).sent
    → down1.sent ≡ down.sent ++ out → down1.given ≡ down.given → there ≡ e.down_there + length out
    → InWorld up0 down0 up down1 (answered run_step (frame ∷ []) w) frames (record e { seat = seat; side = side; down_there = there })
world-answered up0 down0 up down down1 w frame frames e seat side out there in_world stands out_is sent_is given_is left = record {
  on_link = link-answered replay AlwaysRoom IsNextIn IsNextTurn IsFit world_laws (first_value []) (pipes up0 down0) (pipes up down) down1 w
      frame frames (counts e) out there in_world.on_link tt out_is sent_is given_is left;
  stands = stands;
  value = in_world.value;
  front_is = in_world.front_is;
  is_fold = in_world.is_fold;
  told_is = in_world.told_is;
}

-- the script makes a step by itself
pub world-turned : (up0 down0 up down down1 : Pipe) (w : World RunState) (e : Ends) (x : Turn)
    → (seat : Seat) (side : PageSide) (out : List ℕ) (there : ℕ)
    → InWorld up0 down0 up down w (awaited w.up) e → IsNextTurn w.spent x
    → StandsFor seat side (turn x w.state.back).state → out ≡ (turn x w.state.back).sent
    → down1.sent ≡ down.sent ++ out → down1.given ≡ down.given → there ≡ e.down_there + length out
    → InWorld up0 down0 up down1 (turned run_turn x w) (awaited w.up) (record e { seat = seat; side = side; down_there = there })
world-turned up0 down0 up down down1 w e x seat side out there in_world next stands out_is sent_is given_is left = record {
  on_link = link-turned replay AlwaysRoom IsNextIn IsNextTurn IsFit world_laws (first_value []) (pipes up0 down0) (pipes up down) down1 w x
      (counts e) out there in_world.on_link tt next out_is sent_is given_is left;
  stands = stands;
  value = in_world.value;
  front_is = in_world.front_is;
  is_fold = in_world.is_fold;
  told_is = in_world.told_is;
}

-- ---- there is room

-- at the back end
pub world-room : (up0 down0 up down : Pipe) (w : World RunState) (frames : List (List ℕ)) (e : Ends) → InWorld up0 down0 up down w frames e
    → HasRoomLeft e.seat e.side
world-room up0 down0 up down w frames e in_world =
    let room : HasRoom w.state.back = fit-room w.spent in_world.on_link.fits.front w.state frames in_world.on_link.fits.fit in
    has-room-left e.seat e.side w.state.back in_world.stands room

-- and at the front end
pub world-ids : (up0 down0 up down : Pipe) (w : World RunState) (frames : List (List ℕ)) (e : Ends) → InWorld up0 down0 up down w frames e
    → w.spent.fetches ≤ most_fetches → (e.front.next < 2 ^ 30) × (2 ^ 30 + e.front.fetches < 2 ^ 52)
world-ids up0 down0 up down w frames e in_world few_fetches =
    let next : e.front.next ≡ w.spent.asks + 1 = ap (λ (f : FrontState). f.next) in_world.front_is in
    let fetches : e.front.fetches ≡ w.spent.fetches = ap (λ (f : FrontState). f.fetches) in_world.front_is in
    let few : w.spent.asks + w.spent.raws ≤ most_frames = in_world.on_link.fits.fit.few in
    (omega (arith, next, few), omega (arith, fetches, few_fetches))

-- ---- the replies and the panels

-- who is told of the run says nothing of the link
on-told : (start now : Pipes) (w : World RunState) (frames : List (List ℕ)) (c : LinkCounts) (told : Audience)
    → OnReplay start now w frames c → OnReplay start now (record w { told = told }) frames c
on-told start now w frames c told on = record {
  up_is = on.up_is;
  down_is = on.down_is;
  back_is = on.back_is;
  up_left = on.up_left;
  down_left = on.down_left;
  fits = record {
    front = on.fits.front;
    is_fold = on.fits.is_fold;
    fit = on.fits.fit;
    up_whole = on.fits.up_whole;
    down_whole = on.fits.down_whole;
  };
}

-- what was told says nothing of the link
pub world-told : (up0 down0 up down : Pipe) (w : World RunState) (frames : List (List ℕ)) (e : Ends) (n : AlreadyTold)
    → InWorld up0 down0 up down w frames e
    → InWorld up0 down0 up down (record w { told = record w.told { so_far = n } }) frames
    (record e { told = n })
world-told up0 down0 up down w frames e n in_world = record {
  on_link = on-told (pipes up0 down0) (pipes up down) w frames (counts e) (record w.told { so_far = n }) in_world.on_link;
  stands = in_world.stands;
  value = in_world.value;
  front_is = in_world.front_is;
  is_fold = in_world.is_fold;
  told_is = refl;
}

-- nor do the panels
pub world-panels : (up0 down0 up down : Pipe) (w : World RunState) (frames : List (List ℕ)) (e : Ends) (panels : List (Option PanelKind))
    → InWorld up0 down0 up down w frames e
    → InWorld up0 down0 up down (record w { told = record w.told { panels = panels } }) frames
    (record e { front = with_panels panels e.front })
world-panels up0 down0 up down w frames e panels in_world = record {
  on_link = on-told (pipes up0 down0) (pipes up down) w frames (counts e) (record w.told { panels = panels }) in_world.on_link;
  stands = in_world.stands;
  value = in_world.value;
  front_is = ap (with_panels panels) in_world.front_is;
  is_fold = in_world.is_fold;
  told_is = in_world.told_is;
}

-- ---- the start

-- a page was loaded, and nothing was sent since the pipes had nothing left to give
pub world-first : (up0 down0 : Pipe) (kinds : List PanelKind) (page : LoadedPage) (seat : Seat) (side : PageSide) → CanLoadPage page
    → PageHasTexts page
    → up0.given ≡ up0.sent → down0.given ≡ down0.sent → StandsFor seat side (loaded_state page)
    → InWorld up0 down0 up0 down0 (loaded_world kinds page) []
    (record { seat = seat; side = side; back_rest = []; front = first_state kinds; up_there = 0; down_there = 0; told = nothing_told })
unfolding frames_of
world-first up0 down0 kinds page seat side can texts up_level down_level stands = record {
  on_link = link-first replay AlwaysRoom IsNextIn IsNextTurn IsFit world_laws (first_value []) (pipes up0 down0) nothing_spent
      (audience kinds) (run_start page) up_level down_level (fit-first page can texts);
  stands = stands;
  value = first_value [];
  front_is = refl;
  is_fold = refl;
  told_is = refl;
}
