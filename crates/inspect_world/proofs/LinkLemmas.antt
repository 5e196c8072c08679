-- The ends follow every link, whatever bytes it gives.
use Rattle.std.proofs.Common.{◌≡◌, is_some, refl, true, false, ℕ, ◌+◌, ◌*◌, ◌^◌, ◌<◌, ◌≤◌, List, [], ◌∷◌, ◌++◌, length, map, drop}
use Rattle.std.proofs.Common.{Option, Some, None, sym, ◌∙◌, ap, subst, append_assoc, append-nil, length-append, Ok, Err, arith}
use Rattle.std.specs.List.{All}
use Rattle.std.proofs.lemmas.List.Elements.{All-nil, All-weaker}
use Rattle.std.specs.Option.{option_to_list}
use Rattle.std.proofs.Math.Seq.{drop-append_seam}
use Rattle.std.proofs.lemmas.List.{map-append}
use Rattle.pipe_frames.specs.Pipe as pipes
use Rattle.pipe_frames.specs.Pipe.{Pipe, sent_since, given_since}
use Rattle.pipe_frames.specs.Frames.{IsText, Frames, framed, frames_of, frames_from, held_after}
use Rattle.pipe_frames.proofs.FrameLemmas.{frames_of-append, frames_of-one}
use Rattle.cdp_messages.specs.Asked.{command_text}
use Rattle.front_mirror.specs.declared.faults.FrontFault.{FrontFault}
use Rattle.front_mirror.specs.declared.panels.PanelKind.{PanelKind}
use Rattle.front_mirror.specs.Front as front
use Rattle.front_mirror.specs.Front.{FrontValue, FrontState, Folded, first_value, first_state, fold, fold_frames, fold_result}
use Rattle.front_mirror.specs.Front.{fetch_ask, after_ask, after_fetch, after_take}
use Rattle.front_mirror.specs.Laws as front_laws
use Rattle.replay_script.specs.Forms.{AskForm}
use Rattle.back_end.specs.declared.seat.Seat.{Seat}
use Rattle.back_end.specs.declared.side.PageSide.{PageSide}
use Rattle.back_end.specs.States.{State}
use Rattle.back_end.specs.Steps.{Turn}
use Rattle.inspect_world.specs.StepBytes.{step, turn}
use Rattle.back_end.specs.Laws.{tree_edits, edits_kept, HasRoom, IsTurn}
use Rattle.page_tree.specs.Forms.{max_nodes}
use Rattle.page_forms.specs.Sheets.{max_sheets}
use Rattle.back_end.specs.Seats.{StandsFor, HasRoomLeft}
use Rattle.inspect_world.specs.Fits.{ask_of_frame, ask_with, asks_among, most_bytes}
use Rattle.inspect_world.specs.Held.{Ends, good_front, with_panels}
use Rattle.inspect_world.specs.Links.{fold_of, knows_styles, Happening, came, made, happening_step, happened, frames_among, made_among}
use Rattle.inspect_world.specs.Links.{commands_among, bytes_among, Drew, Started, run_started, one_line_more, PipeGoesOn}
use Rattle.inspect_world.specs.Links.{Follows}
use Rattle.replay_script.specs.Sound.{CanSend}
use Rattle.inspect_world.specs.FreshRuns.{front_fetcher}
use Rattle.inspect_world.proofs.FetchForms.{fetch-text, sent-fetch}
use Rattle.inspect_world.specs.ShownReplies.{ShownReply, replies_among, replies_in, reply_id}
use Rattle.front_mirror.proofs.FoldLemmas.{fold-append, fold-more}
use Rattle.inspect_world.proofs.Messages.{IsText-sent, ask_in-sent}
use Rattle.inspect_world.proofs.Replies.{replies_among-append}
use Rattle.inspect_world.specs.World.{AlreadyTold, nothing_told}
use Rattle.front_mirror.specs.Front.{matched_in}
use Rattle.inspect_world.proofs.Growing.{grows-folded, styles-stay}
use Rattle.inspect_world.proofs.StepsTaken.{folded-fold}
use Rattle.inspect_world.proofs.AskLemmas.{asks_among-append}
use Rattle.session_runs.proofs.Worlds.{whole-after, rest-after}
use Rattle.inspect_world.proofs.CountLemmas.{events-counted, frames-few, frames-within, bytes-append, commands-long, commands-last}
use Rattle.inspect_world.proofs.CountLemmas.{made-last}
use Rattle.inspect_world.proofs.CountLemmas.{more_serials, more_numbers, more_searches, is-full, ids-left, serials-left, numbers-left}
use Rattle.inspect_world.proofs.CountLemmas.{searches-left, few-edits}
use Rattle.back_end.proofs.SeatRoom.{has-room-left, seated-state}
use Rattle.inspect_world.proofs.StepSends.{Sends, same-drew, frame-sends, turn-sends, happened-state, happened-sent, frames-last}
use Rattle.inspect_world.proofs.StepSends.{goes-start, goes-put, goes-get, goes-waits, sent_since-is, given_since-is, Folds, folds-sent}

-- ---- the start

-- a page was loaded, and both ends are new
pub follows-start : (up0 down0 : Pipe) (kinds : List PanelKind) (state0 : Started) (seat : Seat) (side : PageSide)
    → length up0.given ≤ length up0.sent → length down0.given ≤ length down0.sent → state0.shown ≡ []
    → state0.panels ≡ map Some kinds → StandsFor seat side state0.state
    → state0.lines ≤ most_bytes → Drew state0.state 0 0 0 → state0.state.side.page.next ≤ (0 + 1) * (max_nodes + 1)
    → state0.state.side.next_sheet ≤ (0 + 1) * max_sheets + 1 → state0.state.client.searches.given ≤ 0
    → Follows state0 up0 down0 up0 down0 []
    (record { seat = seat; side = side; back_rest = []; front = first_state kinds; up_there = 0; down_there = 0; told = nothing_told })
unfolding frames_of
follows-start up0 down0 kinds state0 seat side up_within down_within none panels stands few drew serials numbers searches = record {
  sent_up = [];
  given_up = [];
  sent_down = [];
  given_down = [];
  up_is = goes-start up0 up_within;
  down_is = goes-start down0 down_within;
  up_whole = refl;
  value = first_value [];
  front_is = ap (λ ps. with_panels ps (good_front (first_value []) [] 1 0)) (sym panels);
  is_fold = refl;
  styled = subst (All (λ ask. knows_styles (first_value []) ask ≡ true)) (sym none)
      (All-nil (λ ask. knows_styles (first_value []) ask ≡ true));
  events = [];
  frames_are = refl;
  back_is = refl;
  state = state0.state;
  side_is = refl;
  sent_is = refl;
  replies_are = refl;
  down_whole = refl;
  stands = stands;
  up_left = refl;
  down_left = refl;
  few_asked = omega arith;
  few_made = omega (arith, few);
  drew = drew;
  few_serials = serials;
  few_numbers = numbers;
  few_searches = searches;
}

-- a line that makes no step of the script
pub follows-fewer : (state0 : Started) (up0 down0 up down : Pipe) (waiting : List (List ℕ)) (e : Ends)
    → Follows (one_line_more state0) up0 down0 up down waiting e → Follows state0 up0 down0 up down waiting e
follows-fewer state0 up0 down0 up down waiting e f = record {
  sent_up = f.sent_up;
  given_up = f.given_up;
  sent_down = f.sent_down;
  given_down = f.given_down;
  up_is = f.up_is;
  down_is = f.down_is;
  up_whole = f.up_whole;
  value = f.value;
  front_is = f.front_is;
  is_fold = f.is_fold;
  styled = f.styled;
  events = f.events;
  frames_are = f.frames_are;
  back_is = f.back_is;
  state = f.state;
  side_is = f.side_is;
  sent_is = f.sent_is;
  replies_are = f.replies_are;
  down_whole = f.down_whole;
  stands = f.stands;
  up_left = f.up_left;
  down_left = f.down_left;
  few_asked = f.few_asked;
  few_made = let few : made_among f.events + (state0.lines + 1) ≤ most_bytes = f.few_made in omega (arith, few);
  drew = f.drew;
  few_serials = f.few_serials;
  few_numbers = f.few_numbers;
  few_searches = f.few_searches;
}

-- more matched styles were shown, which are there
pub follows-showing : (state0 : Started) (shown : List ℕ) (up0 down0 up down : Pipe) (waiting : List (List ℕ)) (e : Ends)
    → (f : Follows state0 up0 down0 up down waiting e) → All (λ ask. knows_styles f.value ask ≡ true) shown
    → Follows (run_started state0.state state0.lines shown state0.panels) up0 down0 up down waiting e
follows-showing state0 shown up0 down0 up down waiting e f all = record {
  sent_up = f.sent_up;
  given_up = f.given_up;
  sent_down = f.sent_down;
  given_down = f.given_down;
  up_is = f.up_is;
  down_is = f.down_is;
  up_whole = f.up_whole;
  value = f.value;
  front_is = f.front_is;
  is_fold = f.is_fold;
  styled = all;
  events = f.events;
  frames_are = f.frames_are;
  back_is = f.back_is;
  state = f.state;
  side_is = f.side_is;
  sent_is = f.sent_is;
  replies_are = f.replies_are;
  down_whole = f.down_whole;
  stands = f.stands;
  up_left = f.up_left;
  down_left = f.down_left;
  few_asked = f.few_asked;
  few_made = f.few_made;
  drew = f.drew;
  few_serials = f.few_serials;
  few_numbers = f.few_numbers;
  few_searches = f.few_searches;
}

-- matched styles that came are there for good
stay-all : (v w : FrontValue) (frames : List (List ℕ)) (asks : List ℕ) → fold_frames v frames ≡ Ok w
    → All (λ ask. knows_styles v ask ≡ true) asks → All (λ ask. knows_styles w ask ≡ true) asks
stay-all v w frames asks e all =
    All-weaker (λ ask. knows_styles v ask ≡ true) (λ ask. knows_styles w ask ≡ true)
    (λ ask here. styles-stay v w _ ask (grows-folded frames v w (folded-fold frames v w e)) here) asks all

module _ (state0 : Started) (up0 down0 : Pipe) where
  -- ---- bytes go up

  -- a frame is sent, and the front end waits for the ask that it is, if it is one
  follows-sent : (up down up1 : Pipe) (waiting : List (List ℕ)) (e : Ends) (text : List ℕ) (value1 : FrontValue) (front1 : FrontState)
      (there : ℕ)
      → (f : Follows state0 up0 down0 up down waiting e) → there ≡ e.up_there + length (framed text) → IsText text
      → front1 ≡ with_panels state0.panels (good_front value1 (frames_of f.given_down).rest front1.next front1.fetches)
      → front1.next + front1.fetches ≤ e.front.next + e.front.fetches + 1 → value1.matched ≡ f.value.matched
      → fold (asks_among (frames_of f.sent_up).whole ++ option_to_list (ask_of_frame text)) f.given_down ≡ Ok value1
      → up1.sent ≡ up.sent ++ framed text → up1.given ≡ up.given
      → Follows state0 up0 down0 up1 down waiting (record e { front = front1; up_there = there })
  follows-sent up down up1 waiting e text value1 front1 there f left letters front_is one matched folds sent_is given_is =
      let frames : (frames_of (f.sent_up ++ framed text)).whole ≡ (frames_of f.sent_up).whole ++ text ∷ [] =
      whole-after f.sent_up (framed text) f.up_whole ∙ ap (λ (fs : Frames). (frames_of f.sent_up).whole ++ fs.whole)
      (frames_of-one text letters) in
      let asks : asks_among (frames_of (f.sent_up ++ framed text)).whole
      ≡ asks_among (frames_of f.sent_up).whole ++ option_to_list (ask_of_frame text) =
      ap asks_among frames ∙ asks_among-append (frames_of f.sent_up).whole (text ∷ [])
      ∙ ap (λ more. asks_among (frames_of f.sent_up).whole ++ more) (append-nil (option_to_list (ask_of_frame text))) in
      record {
        sent_up = f.sent_up ++ framed text;
        given_up = f.given_up;
        sent_down = f.sent_down;
        given_down = f.given_down;
        up_is = goes-put up0 up up1 f.sent_up f.given_up (framed text) f.up_is sent_is given_is;
        down_is = f.down_is;
        up_whole = rest-after f.sent_up (framed text) f.up_whole ∙ ap (λ (fs : Frames). fs.rest) (frames_of-one text letters);
        value = value1;
        front_is = front_is;
        is_fold = ap (λ waits. fold waits f.given_down) asks ∙ folds;
        styled = subst (λ rs. All (λ ask. is_some (matched_in ask rs) ≡ true) state0.shown) (sym matched) f.styled;
        events = f.events;
        frames_are = f.frames_are;
        back_is = f.back_is;
        state = f.state;
        side_is = f.side_is;
        sent_is = f.sent_is;
        replies_are = f.replies_are;
        down_whole = f.down_whole;
        stands = f.stands;
        up_left =
            let more : length (f.sent_up ++ framed text)
            ≡ length f.sent_up + length (framed text) = length-append f.sent_up (framed text) in
            let before : e.up_there + length f.given_up ≡ length f.sent_up = f.up_left in
            omega (arith, more, before, left);
        down_left = f.down_left;
        few_asked =
            let more : length (f.sent_up ++ framed text)
            ≡ length f.sent_up + length (framed text) = length-append f.sent_up (framed text) in
            let zero : length (framed text) ≡ length text + 1 = length-append text (0 ∷ []) in
            let before : e.front.next + e.front.fetches ≤ length f.sent_up + 1 = f.few_asked in
            omega (arith, more, zero, before, one);
        few_made = f.few_made;
        drew = f.drew;
        few_serials = f.few_serials;
        few_numbers = f.few_numbers;
        few_searches = f.few_searches;
      }

  -- an ask is sent
  pub follows-asked : (up down up1 : Pipe) (waiting : List (List ℕ)) (e : Ends) (text method : List ℕ) (there : ℕ)
      → Follows state0 up0 down0 up down waiting e → there ≡ e.up_there + length (framed text) → IsText text
      → ask_of_frame text ≡ Some (ask_with method e.front.next)
      → up1.sent ≡ up.sent ++ framed text → up1.given ≡ up.given
      → Follows state0 up0 down0 up1 down waiting (record e { front = after_ask e.front method; up_there = there })
  follows-asked up down up1 waiting e text method there f left letters is sent_is given_is =
      let ask = ask_with method e.front.next in
      follows-sent up down up1 waiting e text (front_laws.ask_joined f.value ask) (after_ask e.front method) there f left letters
      (ap (λ s. after_ask s method) f.front_is) (omega arith) refl
      (ap (λ o. fold (asks_among (frames_of f.sent_up).whole ++ option_to_list o) f.given_down) is
      ∙ fold-more (asks_among (frames_of f.sent_up).whole) ask f.given_down f.value f.is_fold)
      sent_is given_is

  -- a frame is sent that names no ask
  pub follows-raw : (up down up1 : Pipe) (waiting : List (List ℕ)) (e : Ends) (text : List ℕ) (there : ℕ)
      → Follows state0 up0 down0 up down waiting e → there ≡ e.up_there + length (framed text) → IsText text → ask_of_frame text ≡ None
      → up1.sent ≡ up.sent ++ framed text → up1.given ≡ up.given
      → Follows state0 up0 down0 up1 down waiting (record e { up_there = there })
  follows-raw up down up1 waiting e text there f left letters none sent_is given_is =
      follows-sent up down up1 waiting e text f.value e.front there f left letters f.front_is (omega arith) refl
      (ap (λ o. fold (asks_among (frames_of f.sent_up).whole ++ option_to_list o) f.given_down) none
      ∙ ap (λ asks. fold asks f.given_down) (append-nil (asks_among (frames_of f.sent_up).whole)) ∙ f.is_fold)
      sent_is given_is

  -- the text of a sheet is fetched
  pub follows-fetched : (up down up1 : Pipe) (waiting : List (List ℕ)) (e : Ends) (sheet there : ℕ)
      → Follows state0 up0 down0 up down waiting e → sheet < 2 ^ 64 → 2 ^ 30 + e.front.fetches < 2 ^ 52
      → there ≡ e.up_there + length (framed (front_fetcher.text e.front.fetches sheet))
      → up1.sent ≡ up.sent ++ framed (front_fetcher.text e.front.fetches sheet) → up1.given ≡ up.given
      → Follows state0 up0 down0 up1 down waiting (record e { front = after_fetch e.front sheet; up_there = there })
  follows-fetched up down up1 waiting e sheet there f fits room left sent_is given_is =
      let ask = fetch_ask e.front.fetches sheet in
      let text = front_fetcher.text e.front.fetches sheet in
      let small : 2 ^ 30 + e.front.fetches < 2 ^ 53 = omega (arith, room) in
      let is : ask_of_frame text ≡ Some ask = sent-fetch e.front.fetches sheet small fits in
      follows-sent up down up1 waiting e text (front_laws.ask_joined f.value ask) (after_fetch e.front sheet) there f left
      (fetch-text (2 ^ 30 + e.front.fetches) sheet small)
      (ap (λ s. after_fetch s sheet) f.front_is) (omega arith) refl
      (ap (λ o. fold (asks_among (frames_of f.sent_up).whole ++ option_to_list o) f.given_down) is
      ∙ fold-more (asks_among (frames_of f.sent_up).whole) ask f.given_down f.value f.is_fold)
      sent_is given_is

  -- the ask of a line
  pub follows-sends : (up down up1 : Pipe) (waiting : List (List ℕ)) (e : Ends) (a : AskForm) (text : List ℕ) (there : ℕ)
      → Follows state0 up0 down0 up down waiting e → there ≡ e.up_there + length (framed text) → CanSend a → e.front.next < 2 ^ 30
      → text ≡ command_text e.front.next a.method a.params a.session
      → up1.sent ≡ up.sent ++ framed text → up1.given ≡ up.given
      → Follows state0 up0 down0 up1 down waiting (record e { front = after_ask e.front a.method; up_there = there })
  follows-sends up down up1 waiting e a text there f left can small text_is sent_is given_is =
      follows-asked up down up1 waiting e (command_text e.front.next a.method a.params a.session) a.method there f
      (left ∙ ap (λ bytes. e.up_there + length (framed bytes)) text_is)
      (IsText-sent e.front.next a can (omega (arith, small))) (ask_in-sent e.front.next a can small)
      (sent_is ∙ ap (λ bytes. up.sent ++ framed bytes) text_is) given_is

  -- any bytes are given up; the frames that become whole wait
  pub follows-given_up : (up down up1 : Pipe) (waiting : List (List ℕ)) (e : Ends) (piece rest : List ℕ) (there : ℕ)
      → Follows state0 up0 down0 up down waiting e → there + length piece ≡ e.up_there → up1.sent ≡ up.sent → up1.given ≡ up.given ++ piece
      → rest ≡ held_after e.back_rest piece
      → Follows state0 up0 down0 up1 down (waiting ++ frames_from e.back_rest piece) (record e { back_rest = rest; up_there = there })
  follows-given_up up down up1 waiting e piece rest there f left sent_is given_is rest_is = record {
    sent_up = f.sent_up;
    given_up = f.given_up ++ piece;
    sent_down = f.sent_down;
    given_down = f.given_down;
    up_is = goes-get up0 up up1 f.sent_up f.given_up piece f.up_is sent_is given_is;
    down_is = f.down_is;
    up_whole = f.up_whole;
    value = f.value;
    front_is = f.front_is;
    is_fold = f.is_fold;
    styled = f.styled;
    events = f.events;
    frames_are =
        ap (λ (fs : Frames). fs.whole) (frames_of-append f.given_up piece)
        ∙ ap (λ frames. frames ++ frames_from (frames_of f.given_up).rest piece) f.frames_are
        ∙ ap (λ held. (frames_among f.events ++ waiting) ++ frames_from held piece) (sym f.back_is)
        ∙ append_assoc (frames_among f.events) waiting (frames_from e.back_rest piece);
    back_is = rest_is ∙ ap (λ held. held_after held piece) f.back_is ∙ sym
        (ap (λ (fs : Frames). fs.rest) (frames_of-append f.given_up piece));
    state = f.state;
    side_is = f.side_is;
    sent_is = f.sent_is;
    replies_are = f.replies_are;
    down_whole = f.down_whole;
    stands = f.stands;
    up_left =
        let more : length (f.given_up ++ piece) ≡ length f.given_up + length piece = length-append f.given_up piece in
        let before : e.up_there + length f.given_up ≡ length f.sent_up = f.up_left in
        omega (arith, more, before, left);
    down_left = f.down_left;
    few_asked = f.few_asked;
    few_made = f.few_made;
    drew = f.drew;
    few_serials = f.few_serials;
    few_numbers = f.few_numbers;
    few_searches = f.few_searches;
  }

  -- ---- a step is made

  -- a step is carried out, and what it sends is put down; `lines` is how many lines more there were before
  follows-step : (lines : ℕ) (up down down1 : Pipe) (h : Happening) (waits waiting : List (List ℕ)) (e : Ends) (seat : Seat)
      (side : PageSide) (out : List ℕ) (there : ℕ)
      → made_among (h ∷ []) + state0.lines ≤ lines
      → (f : Follows (run_started state0.state lines state0.shown state0.panels) up0 down0 up down waits e) → waits ≡ frames_among
      (h ∷ []) ++ waiting
      → there ≡ e.down_there + length out
      → Sends f.state h → StandsFor seat side (happening_step h f.state).state
      → out ≡ (happening_step h f.state).sent → down1.sent ≡ down.sent ++ out → down1.given ≡ down.given
      → Follows state0 up0 down0 up down1 waiting (record e { seat = seat; side = side; down_there = there })
  follows-step lines up down down1 h waits waiting e seat side out there room f waits_are left s stands out_is sent_is given_is =
      let old : State = (happened state0.state f.events).state in
      let events : length (f.events ++ h ∷ []) ≡ length f.events + 1 = length-append f.events (h ∷ []) in
      let out_frames : frames_of out ≡ record { whole = s.texts; rest = [] } = ap frames_of out_is ∙ s.frames_are in
      let more : (frames_of (f.sent_down ++ out)).whole ≡ (frames_of f.sent_down).whole ++ s.texts =
      whole-after f.sent_down out f.down_whole ∙ ap (λ (fs : Frames). (frames_of f.sent_down).whole ++ fs.whole) out_frames in
      record {
        sent_up = f.sent_up;
        given_up = f.given_up;
        sent_down = f.sent_down ++ out;
        given_down = f.given_down;
        up_is = f.up_is;
        down_is = goes-put down0 down down1 f.sent_down f.given_down out f.down_is sent_is given_is;
        up_whole = f.up_whole;
        value = f.value;
        front_is = f.front_is;
        is_fold = f.is_fold;
        styled = f.styled;
        events = f.events ++ h ∷ [];
        frames_are =
            f.frames_are ∙ ap (λ frames. frames_among f.events ++ frames) waits_are
            ∙ sym (append_assoc (frames_among f.events) (frames_among (h ∷ [])) waiting)
            ∙ ap (λ frames. frames ++ waiting) (sym (frames-last f.events h));
        back_is = f.back_is;
        state = (happening_step h f.state).state;
        side_is = happened-state state0.state f.events h ∙ ap (λ state. (happening_step h state).state) f.side_is;
        sent_is =
            ap (λ bytes. f.sent_down ++ bytes) (out_is ∙ ap (λ state. (happening_step h state).sent) (sym f.side_is))
            ∙ ap (λ bytes. bytes ++ (happening_step h old).sent) f.sent_is
            ∙ sym (happened-sent state0.state f.events h);
        replies_are =
            ap (λ fs. map (λ (t : ShownReply). t.id) (replies_among fs)) more
            ∙ ap (map (λ (t : ShownReply). t.id)) (replies_among-append (frames_of f.sent_down).whole s.texts)
            ∙ map-append (λ (t : ShownReply). t.id) (replies_in f.sent_down) (replies_among s.texts)
            ∙ ap (λ ids. ids ++ map (λ (t : ShownReply). t.id) (replies_among s.texts)) f.replies_are
            ∙ ap (λ ids. map reply_id (frames_among f.events) ++ ids) s.ids_are
            ∙ sym (map-append reply_id (frames_among f.events) (frames_among (h ∷ [])))
            ∙ ap (map reply_id) (sym (frames-last f.events h));
        down_whole = rest-after f.sent_down out f.down_whole ∙ ap (λ (fs : Frames). fs.rest) out_frames;
        stands = stands;
        up_left = f.up_left;
        down_left =
            let longer : length (f.sent_down ++ out) ≡ length f.sent_down + length out = length-append f.sent_down out in
            let before : e.down_there + length f.given_down ≡ length f.sent_down = f.down_left in
            omega (arith, longer, before, left);
        few_asked = f.few_asked;
        few_made =
            let before : made_among f.events + lines ≤ most_bytes = f.few_made in
            let last : made_among (f.events ++ h ∷ []) ≡ made_among f.events + made_among (h ∷ []) = made-last f.events h in
            omega (arith, before, last, room);
        drew =
            let commands : commands_among (f.events ++ h ∷ [])
            ≡ commands_among f.events + commands_among (h ∷ []) = commands-last f.events h in
            let made_last : made_among (f.events ++ h ∷ []) ≡ made_among f.events + made_among (h ∷ []) = made-last f.events h in
            let bytes : bytes_among (frames_among (f.events ++ h ∷ []))
            ≡ bytes_among (frames_among f.events) + bytes_among (frames_among (h ∷ [])) =
            ap bytes_among (frames-last f.events h) ∙ bytes-append (frames_among f.events) (frames_among (h ∷ [])) in
            same-drew (happening_step h f.state).state commands made_last bytes
            (s.drew (commands_among f.events) (made_among f.events) (bytes_among (frames_among f.events)) f.drew);
        few_serials = more_serials f.state.side.page.next (happening_step h f.state).state.side.page.next (length f.events)
            (length (f.events ++ h ∷ [])) events f.few_serials s.serials;
        few_numbers = more_numbers f.state.side.next_sheet (happening_step h f.state).state.side.next_sheet (length f.events)
            (length (f.events ++ h ∷ [])) events f.few_numbers s.numbers;
        few_searches = more_searches f.state.client.searches.given (happening_step h f.state).state.client.searches.given
            (length f.events) (length (f.events ++ h ∷ [])) events f.few_searches s.searches;
      }

  -- a frame is answered
  pub follows-answered : (up down down1 : Pipe) (frame : List ℕ) (frames : List (List ℕ)) (e : Ends) (seat : Seat) (side : PageSide)
      (out : List ℕ) (there : ℕ)
      → (f : Follows state0 up0 down0 up down (frame ∷ frames) e) → there ≡ e.down_there + length out → HasRoom f.state
      → StandsFor seat side (step f.state frame).state
      → out ≡ (step f.state frame).sent → down1.sent ≡ down.sent ++ out → down1.given ≡ down.given
      → Follows state0 up0 down0 up down1 frames (record e { seat = seat; side = side; down_there = there })
  follows-answered up down down1 frame frames e seat side out there f left room stands out_is sent_is given_is =
      follows-step state0.lines up down down1 (came frame) (frame ∷ frames) frames e seat side out there (omega arith) f refl left
      (frame-sends f.state frame (seated-state e.seat e.side f.state f.stands) room) stands out_is sent_is given_is

  -- the script makes a step by itself
  pub follows-turned : (up down down1 : Pipe) (x : Turn) (waiting : List (List ℕ)) (e : Ends) (seat : Seat) (side : PageSide)
      (out : List ℕ) (there : ℕ)
      → (f : Follows (one_line_more state0) up0 down0 up down waiting e) → there ≡ e.down_there + length out → HasRoom f.state → IsTurn x
      → StandsFor seat side (turn x f.state).state
      → out ≡ (turn x f.state).sent → down1.sent ≡ down.sent ++ out → down1.given ≡ down.given
      → Follows state0 up0 down0 up down1 waiting (record e { seat = seat; side = side; down_there = there })
  follows-turned up down down1 x waiting e seat side out there f left room is_turn stands out_is sent_is given_is =
      follows-step (state0.lines + 1) up down down1 (made x) waiting waiting e seat side out there (omega arith) f refl left
      (turn-sends f.state x (seated-state e.seat e.side f.state f.stands) room is_turn) stands out_is sent_is given_is

  -- ---- bytes go down

  -- the fold of what was given with these bytes more is what the front makes of them
  fold-down : (up down : Pipe) (waiting : List (List ℕ)) (e : Ends) (piece : List ℕ) (f : Follows state0 up0 down0 up down waiting e)
      → let end = front.front_folded f.value (frames_from (frames_of f.given_down).rest piece) in
      fold_of f.sent_up (f.given_down ++ piece) ≡ fold_result end.value end.fault
  fold-down up down waiting e piece f = fold-append (asks_among (frames_of f.sent_up).whole) f.given_down piece f.value f.is_fold

  -- what the front is after these bytes
  front-down : (up down : Pipe) (waiting : List (List ℕ)) (e : Ends) (piece : List ℕ) (f : Follows state0 up0 down0 up down waiting e)
      → let end = front.front_folded f.value (frames_from (frames_of f.given_down).rest piece) in
      after_take e.front piece ≡ record {
        value = end.value;
        rest = held_after (frames_of f.given_down).rest piece;
        fault = end.fault;
        next = e.front.next;
        fetches = e.front.fetches;
        dead = false;
        panels = state0.panels;
      }
  front-down up down waiting e piece f = ap (λ s. after_take s piece) f.front_is

  -- any bytes are given down, and the front refuses none of the messages
  pub follows-delivered_down : (up down down1 : Pipe) (waiting : List (List ℕ)) (e : Ends) (piece : List ℕ) (there : ℕ)
      → Follows state0 up0 down0 up down waiting e → there + length piece ≡ e.down_there → down1.sent ≡ down.sent
      → down1.given ≡ down.given ++ piece → (after_take e.front piece).fault ≡ None
      → Follows state0 up0 down0 up down1 waiting (record e { front = after_take e.front piece; down_there = there })
  follows-delivered_down up down down1 waiting e piece there f left sent_is given_is good =
      let end : Folded = front.front_folded f.value (frames_from (frames_of f.given_down).rest piece) in
      let front_now = front-down up down waiting e piece f in
      let none : end.fault ≡ None = sym (ap (λ (s : FrontState). s.fault) front_now) ∙ good in
      let next : (after_take e.front piece).next ≡ e.front.next = ap (λ (s : FrontState). s.next) front_now in
      let fetches : (after_take e.front piece).fetches ≡ e.front.fetches = ap (λ (s : FrontState). s.fetches) front_now in
      record {
        sent_up = f.sent_up;
        given_up = f.given_up;
        sent_down = f.sent_down;
        given_down = f.given_down ++ piece;
        up_is = f.up_is;
        down_is = goes-get down0 down down1 f.sent_down f.given_down piece f.down_is sent_is given_is;
        up_whole = f.up_whole;
        value = end.value;
        front_is =
            front_now
            ∙ ap (λ o. record {
              value = end.value;
              rest = held_after (frames_of f.given_down).rest piece;
              fault = o;
              next = e.front.next;
              fetches = e.front.fetches;
              dead = false;
              panels = state0.panels;
            }) none
            ∙ ap (λ n. with_panels state0.panels
            (good_front end.value (held_after (frames_of f.given_down).rest piece) n e.front.fetches)) (sym next)
            ∙ ap (λ n. with_panels state0.panels
            (good_front end.value (held_after (frames_of f.given_down).rest piece) (after_take e.front piece).next n))
            (sym fetches)
            ∙ ap (λ rest. with_panels state0.panels
            (good_front end.value rest (after_take e.front piece).next (after_take e.front piece).fetches))
            (sym (ap (λ (fs : Frames). fs.rest) (frames_of-append f.given_down piece)));
        is_fold = fold-down up down waiting e piece f ∙ ap (fold_result end.value) none;
        styled = stay-all f.value end.value (frames_from (frames_of f.given_down).rest piece) state0.shown
            (ap (fold_result end.value) none) f.styled;
        events = f.events;
        frames_are = f.frames_are;
        back_is = f.back_is;
        state = f.state;
        side_is = f.side_is;
        sent_is = f.sent_is;
        replies_are = f.replies_are;
        down_whole = f.down_whole;
        stands = f.stands;
        up_left = f.up_left;
        down_left =
            let more : length (f.given_down ++ piece) ≡ length f.given_down + length piece = length-append f.given_down piece in
            let before : e.down_there + length f.given_down ≡ length f.sent_down = f.down_left in
            omega (arith, more, before, left);
        few_asked =
            let before : e.front.next + e.front.fetches ≤ length f.sent_up + 1 = f.few_asked in
            omega (arith, before, next, fetches);
        few_made = f.few_made;
        drew = f.drew;
        few_serials = f.few_serials;
        few_numbers = f.few_numbers;
        few_searches = f.few_searches;
      }

  -- or the front refuses one, and the fold is this fault
  pub follows-refused : (up down down1 : Pipe) (waiting : List (List ℕ)) (e : Ends) (piece : List ℕ) (fault : FrontFault)
      → Follows state0 up0 down0 up down waiting e → down1.sent ≡ down.sent → down1.given ≡ down.given ++ piece
      → (after_take e.front piece).fault ≡ Some fault
      → fold_of (sent_since up0 up) (given_since down0 down1) ≡ Err fault
  follows-refused up down down1 waiting e piece fault f sent_is given_is bad =
      let end : Folded = front.front_folded f.value (frames_from (frames_of f.given_down).rest piece) in
      let some : end.fault ≡ Some fault = sym (ap (λ (s : FrontState). s.fault) (front-down up down waiting e piece f)) ∙ bad in
      let down_is : PipeGoesOn down0 down1 f.sent_down
      (f.given_down ++ piece) = goes-get down0 down down1 f.sent_down f.given_down piece f.down_is sent_is given_is in
      ap (λ bytes. fold_of bytes (given_since down0 down1)) (sent_since-is up0 up f.sent_up f.given_up f.up_is)
      ∙ ap (fold_of f.sent_up) (given_since-is down0 down1 f.sent_down (f.given_down ++ piece) down_is)
      ∙ fold-down up down waiting e piece f ∙ ap (fold_result end.value) some

  -- ---- what it says of the pipes

  -- the fold of what was sent up and given down is what the front end shows
  pub follows-fold : (up down : Pipe) (waiting : List (List ℕ)) (e : Ends) → Follows state0 up0 down0 up down waiting e
      → fold_of (sent_since up0 up) (given_since down0 down) ≡ Ok e.front.value
  follows-fold up down waiting e f =
      ap (λ bytes. fold_of bytes (given_since down0 down)) (sent_since-is up0 up f.sent_up f.given_up f.up_is)
      ∙ ap (fold_of f.sent_up) (given_since-is down0 down f.sent_down f.given_down f.down_is)
      ∙ f.is_fold ∙ ap (λ v. Ok v) (sym (ap (λ (s : FrontState). s.value) f.front_is))

  -- whatever more is sent up, and while nothing more is given down, the fold meets no fault
  pub follows-still : (up down up1 down1 : Pipe) (waiting : List (List ℕ)) (e : Ends) (piece : List ℕ)
      → Follows state0 up0 down0 up down waiting e
      → up1.sent ≡ up.sent ++ piece → down1.given ≡ down.given
      → (v : FrontValue) × (fold_of (sent_since up0 up1) (given_since down0 down1) ≡ Ok v)
  follows-still up down up1 down1 waiting e piece f sent_is given_is =
      let folds : Folds (asks_among (frames_of
      (f.sent_up ++ piece)).whole) f.given_down = folds-sent f.sent_up piece f.given_down f.value f.up_whole f.is_fold in
      let sent : sent_since up0 up1 ≡ f.sent_up ++ piece =
      ap (drop (length up0.sent)) (sent_is ∙ ap
      (λ bytes. bytes ++ piece) f.up_is.sent_is ∙ append_assoc up0.sent f.sent_up piece) ∙ drop-append_seam up0.sent
      (f.sent_up ++ piece) in
      let given : given_since down0 down1
      ≡ f.given_down = ap (drop (length down0.given)) (given_is ∙ f.down_is.given_is) ∙ drop-append_seam down0.given f.given_down in
      (folds.value, ap (λ bytes. fold_of bytes (given_since down0 down1)) sent ∙ ap (fold_of (f.sent_up ++ piece)) given ∙ folds.is_fold)

  -- the replies that were sent down answer the frames that were given up, in their order
  pub follows-replies : (up down : Pipe) (e : Ends) → Follows state0 up0 down0 up down [] e
      → map (λ (t : ShownReply). t.id) (replies_in (sent_since down0 down)) ≡ map reply_id (frames_of (given_since up0 up)).whole
  follows-replies up down e f =
      ap (λ bytes. map (λ (t : ShownReply). t.id) (replies_in bytes)) (sent_since-is down0 down f.sent_down f.given_down f.down_is)
      ∙ f.replies_are
      ∙ ap (map reply_id) (sym (append-nil (frames_among f.events)) ∙ sym f.frames_are)
      ∙ ap (λ bytes. map reply_id (frames_of bytes).whole) (sym (given_since-is up0 up f.sent_up f.given_up f.up_is))

  -- no more bytes were given than were sent
  pub follows-less : (up down : Pipe) (waiting : List (List ℕ)) (e : Ends) → Follows state0 up0 down0 up down waiting e
      → (length (given_since up0 up) ≤ length (sent_since up0 up)) × (length (given_since down0 down) ≤ length (sent_since down0 down))
  follows-less up down waiting e f =
      let up_sent : length (sent_since up0 up) ≡ length f.sent_up = ap length (sent_since-is up0 up f.sent_up f.given_up f.up_is) in
      let up_given : length (given_since up0 up) ≡ length f.given_up = ap length (given_since-is up0 up f.sent_up f.given_up f.up_is) in
      let down_sent : length (sent_since down0 down)
      ≡ length f.sent_down = ap length (sent_since-is down0 down f.sent_down f.given_down f.down_is) in
      let down_given : length (given_since down0 down)
      ≡ length f.given_down = ap length (given_since-is down0 down f.sent_down f.given_down f.down_is) in
      let up_left : e.up_there + length f.given_up ≡ length f.sent_up = f.up_left in
      let down_left : e.down_there + length f.given_down ≡ length f.sent_down = f.down_left in
      (omega (arith, up_sent, up_given, up_left), omega (arith, down_sent, down_given, down_left))

  -- what the ends count waits in the link
  pub follows-wait : (up down : Pipe) (frames : List (List ℕ)) (e : Ends) → Follows state0 up0 down0 up down frames e
      → (e.up_there ≤ length (pipes.waiting up)) × (e.down_there ≤ length (pipes.waiting down))
  follows-wait up down frames e f = (
    goes-waits up0 up f.sent_up f.given_up e.up_there f.up_is f.up_left,
    goes-waits down0 down f.sent_down f.given_down e.down_there f.down_is f.down_left,
  )

  -- ---- where there is no room

  -- where the front end has no id left, 2^28 bytes were sent up
  pub front-full : (up down : Pipe) (waiting : List (List ℕ)) (e : Ends) → Follows state0 up0 down0 up down waiting e
      → ((e.front.next < 2 ^ 30) × (2 ^ 30 + e.front.fetches < 2 ^ 52) → false ≡ true) → 2 ^ 28 ≤ length (sent_since up0 up)
  front-full up down waiting e f none =
      let sent : length (sent_since up0 up) ≡ length f.sent_up = ap length (sent_since-is up0 up f.sent_up f.given_up f.up_is) in
      let few : e.front.next + e.front.fetches ≤ length f.sent_up + 1 = f.few_asked in
      is-full (length (sent_since up0 up))
      (λ less. let no : false ≡ true = none (omega (arith, few, sent, less), omega (arith, few, sent, less)) in absurd cc)

  -- and where the back end has none
  pub seat-full : (up down : Pipe) (waiting : List (List ℕ)) (e : Ends) → Follows state0 up0 down0 up down waiting e
      → (HasRoomLeft e.seat e.side → false ≡ true) → 2 ^ 28 ≤ length (sent_since up0 up)
  seat-full up down waiting e f none =
      let sent : length (sent_since up0 up) ≡ length f.sent_up = ap length (sent_since-is up0 up f.sent_up f.given_up f.up_is) in
      let left : e.up_there + length f.given_up ≡ length f.sent_up = f.up_left in
      let few : made_among f.events + state0.lines ≤ most_bytes = f.few_made in
      let counted : length f.events ≡ length (frames_among f.events) + made_among f.events = events-counted f.events in
      let whole : length (frames_of f.given_up).whole ≤ length f.given_up = frames-few f.given_up in
      let all : length (frames_of f.given_up).whole ≡ length (frames_among f.events) + length waiting =
      ap length f.frames_are ∙ length-append (frames_among f.events) waiting in
      let long : commands_among f.events * 9 ≤ bytes_among (frames_among f.events) = commands-long f.events in
      let within : bytes_among (frames_of f.given_up).whole ≤ length f.given_up = frames-within f.given_up in
      let bytes : bytes_among (frames_of f.given_up).whole ≡ bytes_among (frames_among f.events) + bytes_among waiting =
      ap bytes_among f.frames_are ∙ bytes-append (frames_among f.events) waiting in
      is-full (length (sent_since up0 up)) (λ less.
      let events : length f.events < 2 ^ 29 = omega (arith, sent, left, few, counted, whole, all, less) in
      let given : bytes_among (frames_among f.events) < 2 ^ 28 = omega (arith, sent, left, within, bytes, less) in
      let few_made : made_among f.events ≤ 2 ^ 26 = omega (arith, few) in
      let no : false ≡ true = none (has-room-left e.seat e.side f.state f.stands (record {
        ids = ids-left (length f.state.client.session.pushed) (tree_edits f.state) (commands_among f.events) (made_among f.events)
            (bytes_among (frames_among f.events)) long given few_made f.drew.ids;
        serials = serials-left f.state.side.page.next (length f.events) events f.few_serials;
        sheets = numbers-left f.state.side.next_sheet (length f.events) events f.few_numbers;
        edits = few-edits (edits_kept f.state) (bytes_among (frames_among f.events)) given f.drew.edits;
        searches = searches-left f.state.client.searches.given (length f.events) events f.few_searches;
      })) in absurd cc)

  -- ---- what was told says nothing of the link

  pub follows-told : (up down : Pipe) (waiting : List (List ℕ)) (e : Ends) (n : AlreadyTold) → Follows state0 up0 down0 up down waiting e
      → Follows state0 up0 down0 up down waiting (record e { told = n })
  follows-told up down waiting e n f = record {
    sent_up = f.sent_up;
    given_up = f.given_up;
    sent_down = f.sent_down;
    given_down = f.given_down;
    up_is = f.up_is;
    down_is = f.down_is;
    up_whole = f.up_whole;
    value = f.value;
    front_is = f.front_is;
    is_fold = f.is_fold;
    styled = f.styled;
    events = f.events;
    frames_are = f.frames_are;
    back_is = f.back_is;
    state = f.state;
    side_is = f.side_is;
    sent_is = f.sent_is;
    replies_are = f.replies_are;
    down_whole = f.down_whole;
    stands = f.stands;
    up_left = f.up_left;
    down_left = f.down_left;
    few_asked = f.few_asked;
    few_made = f.few_made;
    drew = f.drew;
    few_serials = f.few_serials;
    few_numbers = f.few_numbers;
    few_searches = f.few_searches;
  }

  -- ---- the panels

  -- nor do the panels
  pub follows-panels : (up down : Pipe) (waiting : List (List ℕ)) (e : Ends) (panels : List (Option PanelKind))
      → Follows state0 up0 down0 up down waiting e
      → Follows (record state0 { panels = panels }) up0 down0 up down waiting (record e { front = with_panels panels e.front })
  follows-panels up down waiting e panels f = record {
    sent_up = f.sent_up;
    given_up = f.given_up;
    sent_down = f.sent_down;
    given_down = f.given_down;
    up_is = f.up_is;
    down_is = f.down_is;
    up_whole = f.up_whole;
    value = f.value;
    front_is = ap (with_panels panels) f.front_is;
    is_fold = f.is_fold;
    styled = f.styled;
    events = f.events;
    frames_are = f.frames_are;
    back_is = f.back_is;
    state = f.state;
    side_is = f.side_is;
    sent_is = f.sent_is;
    replies_are = f.replies_are;
    down_whole = f.down_whole;
    stands = f.stands;
    up_left = f.up_left;
    down_left = f.down_left;
    few_asked = f.few_asked;
    few_made = f.few_made;
    drew = f.drew;
    few_serials = f.few_serials;
    few_numbers = f.few_numbers;
    few_searches = f.few_searches;
  }
