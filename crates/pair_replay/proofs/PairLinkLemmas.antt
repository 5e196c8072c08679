-- The ends of a run with two front ends follow every link, whatever bytes it gives.
use Rattle.std.proofs.Common.{◌≡◌, refl, true, false, ℕ, ◌+◌, ◌*◌, ◌^◌, ◌<◌, ◌≤◌, List, [], ◌∷◌, ◌++◌, length, map, Bool, cond, ◌&&◌}
use Rattle.std.proofs.Common.{Option, Some, None, sym, ◌∙◌, ap, subst, append_assoc, append-nil, length-append, Result, Ok, Err, arith}
use Rattle.std.proofs.Common.{is_none, nat_lt}
use Rattle.std.proofs.Common.{inl, inr, bytes_eq, option_map}
use Rattle.std.proofs.lemmas.Bool.{cases_lt}
use Rattle.std.proofs.lemmas.List.{map-append}
use Rattle.cdp_json.specs.Lookups.{then_ok}
use Rattle.pipe_frames.specs.Pipe as pipes
use Rattle.pipe_frames.specs.Pipe.{Pipe, sent_since, given_since}
use Rattle.pipe_frames.specs.Frames.{Frames, framed, frames_of, frames_from, held_after}
use Rattle.pipe_frames.proofs.FrameLemmas.{frames_of-append}
use Rattle.page_tree.specs.Forms.{max_nodes}
use Rattle.page_forms.specs.Sheets.{max_sheets}
use Rattle.front_mirror.specs.declared.faults.FrontFault.{FrontFault}
use Rattle.front_mirror.specs.declared.faults.FrontKind.{FrontKind}
use Rattle.front_mirror.specs.declared.panels.PanelKind.{PanelKind}
use Rattle.front_mirror.specs.Front.{FrontState}
use Rattle.session_runs.specs.Pairs.{Down, bare, of_session, Second, TargetKind, TargetOutcome, nothing_done, session_made, session_dropped}
use Rattle.session_runs.specs.Pairs.{front_pair, kind_waiting, without_id, asks_of_session, with_one, take_two, take_target, take_down}
use Rattle.session_runs.specs.Pairs.{target_done, take_pair}
use Rattle.session_runs.proofs.Worlds.{whole-after, rest-after}
use Rattle.multi_replay.specs.Incoming.{frame_down, is_target_id, target_says}
use Rattle.multi_replay.specs.Folds.{after_down, pair_folded, take_whole, state_reads}
use Rattle.multi_replay.specs.States.{StatePair, FrontsState, SecondHasRoom, HaveRoom, first_fronts, after_taken, after_down_bytes}
use Rattle.multi_replay.specs.States.{unless_faulty}
use Rattle.multi_replay.specs.Laws.{pair_value, IsFoldOfBoth}
use Rattle.multi_replay.proofs.BothLemmas.{both-begin, both-take, faults-are-of-fold}
use Rattle.back_end.specs.declared.mux.Mux.{Mux}
use Rattle.back_end.specs.declared.side.PageSide.{PageSide}
use Rattle.back_end.specs.States.{State}
use Rattle.back_end.specs.Steps.{Turn}
use Rattle.back_end.specs.Laws.{IsTurn, tree_edits, edits_kept, HasRoom}
use Rattle.back_end.specs.Pairs.{Pair, pair_step, pair_turn, root_state, second_state, PairHasRoom}
use Rattle.back_end.specs.PairSeats.{PairStandsFor, PairHasRoomLeft}
use Rattle.back_end.proofs.PairLemmas.{pair-states, pairs-have-room-left}
use Rattle.inspect_world.specs.Fits.{most_bytes}
use Rattle.inspect_world.specs.World.{AlreadyTold}
use Rattle.inspect_world.specs.Links.{Happening, came, made, frames_among, made_among, bytes_among, PipeGoesOn}
use Rattle.inspect_world.specs.ShownReplies.{ShownReply, reply_id}
use Rattle.inspect_world.proofs.CountLemmas.{events-counted, frames-few, frames-within, bytes-append, made-last, more_serials, more_numbers}
use Rattle.inspect_world.proofs.CountLemmas.{more_searches, serials-left, numbers-left, searches-left}
use Rattle.inspect_world.proofs.StepSends.{frames-last, goes-start, goes-put, goes-get, goes-waits, sent_since-is, given_since-is}
use Rattle.pair_world.specs.PairHeld.{PairEnds, up_reads}
use Rattle.pair_world.specs.PairLinks.{pair_fold_of, pair_happening_step, pair_happened, pair_commands_among, pair_replies_in, DrewOne}
use Rattle.pair_world.specs.PairLinks.{DrewBoth}
use Rattle.pair_world.specs.PairLinks.{LinkMoment, IsLaterMoment, PairStarted, pair_started, one_pair_line_more, SecondFew, FollowsPair}
use Rattle.pair_world.proofs.PairNumbers.{pairs-same, whole-keeps}
use Rattle.pair_world.proofs.PairDown.{one-taken}
use Rattle.pair_replay.proofs.ReplyIds.{ids_down, ids_down-append}
use Rattle.pair_replay.proofs.PairSteps.{PairSends, frame-sends, turn-sends, happened-state, happened-sent, commands-last, commands-long}
use Rattle.pair_replay.proofs.PairSteps.{ids-enough}

-- ---- moments

-- a moment of some bytes
abbrev pub moment_by : (sent_up given_down : List ℕ) → LinkMoment
moment_by sent_up given_down = record { sent_up = sent_up; given_down = given_down }

later-sent : (from : LinkMoment) (sent given more : List ℕ) → IsLaterMoment from (moment_by sent given)
    → IsLaterMoment from (moment_by (sent ++ more) given)
later-sent from sent given more later = record {
  more_sent = later.more_sent ++ more;
  more_given = later.more_given;
  sent_is = ap (λ all. all ++ more) later.sent_is ∙ append_assoc from.sent_up later.more_sent more;
  given_is = later.given_is;
}

later-given : (from : LinkMoment) (sent given more : List ℕ) → IsLaterMoment from (moment_by sent given)
    → IsLaterMoment from (moment_by sent (given ++ more))
later-given from sent given more later = record {
  more_sent = later.more_sent;
  more_given = later.more_given ++ more;
  sent_is = later.sent_is;
  given_is = ap (λ all. all ++ more) later.given_is ∙ append_assoc from.given_down later.more_given more;
}

-- ---- how many frames the second front end sent

pub few-more : (two : Option (Second FrontState (List ℕ))) (n m : ℕ) → n ≤ m → SecondFew two n → SecondFew two m
few-more None n m more few = tt
few-more (Some w) n m more few = omega (arith, more, few)

-- one frame more
pub few-one : (two : Option (Second FrontState (List ℕ))) (f : FrontState → FrontState) (n m : ℕ) → n + 1 ≤ m
    → ((s : FrontState) → (f s).next + (f s).fetches ≤ s.next + s.fetches + 1) → SecondFew two n
    → SecondFew (option_map (λ (w : Second FrontState (List ℕ)). record { text = w.text; value = f w.value }) two) m
few-one None f n m more one few = tt
few-one (Some w) f n m more one few = let h = one w.value in omega (arith, more, few, h)

target-few : (n : ℕ) (o : TargetOutcome (List ℕ)) (p q : StatePair) → target_done state_reads o p ≡ Ok q → SecondFew p.two n
    → SecondFew q.two n
target-few n nothing_done p q e few = subst (λ (x : StatePair). SecondFew x.two n) (pairs-same p q e) few
target-few n (session_made t k) p q e few = by (is_none p.two && nat_lt p.top k) e where
  fresh : StatePair
  fresh = front_pair p.one (Some (record {
    text = t;
    value = state_reads.join state_reads.begin (asks_of_session state_reads t p.asked);
  })) p.waiting p.asked k

  by : (b : Bool) → cond b (Ok fresh) (Err state_reads.strange) ≡ Ok q → SecondFew q.two n
  by true e = subst (λ (x : StatePair). SecondFew x.two n) (pairs-same fresh q e) (omega arith)
  by false e = let no : ◌≡◌ {A = Result StatePair FrontKind} (Err state_reads.strange) (Ok q) = e in absurd cc
target-few n session_dropped p q e few = subst (λ (x : StatePair). SecondFew x.two n) (pairs-same (record p { two = None }) q e) tt

frame-few : (n : ℕ) (p q : StatePair) (frame : List ℕ) → take_pair state_reads p frame ≡ Ok q → SecondFew p.two n → SecondFew q.two n
frame-few n p q frame e few = by (frame_down frame) e where
  first : (result : Result FrontState FrontKind) → with_one state_reads result p ≡ Ok q → SecondFew q.two n
  first (Ok t) e = subst (λ (x : StatePair). SecondFew x.two n) (pairs-same (record p { one = t }) q e) few
  first (Err kind) e = let no : ◌≡◌ {A = Result StatePair FrontKind} (Err kind) (Ok q) = e in absurd cc

  with_second : (w : Second FrontState (List ℕ)) (text : List ℕ) → SecondFew (Some w) n → (result : Result FrontState FrontKind)
      → take_whole w.value text ≡ result
      → then_ok result (λ v. Ok (record p { two = Some (record { text = w.text; value = v }) })) ≡ Ok q → SecondFew q.two n
  with_second w text before (Ok t) is e =
      let kept = whole-keeps w.value t text is in
      let next : t.next ≡ w.value.next = kept.0 in
      let fetches : t.fetches ≡ w.value.fetches = kept.1 in
      subst (λ (x : StatePair). SecondFew x.two n) (pairs-same (record p { two = Some (record { text = w.text; value = t }) }) q e)
      (omega (arith, next, fetches, before))
  with_second w text before (Err kind) is e = let no : ◌≡◌ {A = Result StatePair FrontKind} (Err kind) (Ok q) = e in absurd cc

  second : (t text : List ℕ) (two : Option (Second FrontState (List ℕ))) → two ≡ p.two → take_two state_reads t text two p ≡ Ok q
      → SecondFew q.two n
  second t text None is e = let no : ◌≡◌ {A = Result StatePair FrontKind} (Err state_reads.strange) (Ok q) = e in absurd cc
  second t text (Some w) is e =
      (elim (bytes_eq w.text t) as (λ (b : Bool).
      cond b (then_ok (take_whole w.value text) (λ v. Ok (record p { two = Some (record { text = w.text; value = v }) })))
      (Err state_reads.strange) ≡ Ok q → SecondFew q.two n) [
        | true ↦ λ h. with_second w text (subst (λ two. SecondFew two n) (sym is) few) (take_whole w.value text) refl h
        | false ↦ λ h. let no : ◌≡◌ {A = Result StatePair FrontKind} (Err state_reads.strange) (Ok q) = h in absurd cc
      ]) e

  answered : (id : ℕ) (result : Result (TargetOutcome (List ℕ)) FrontKind)
      → then_ok result (λ outcome. target_done state_reads outcome (record p { waiting = without_id id p.waiting })) ≡ Ok q
      → SecondFew q.two n
  answered id (Ok outcome) e = target-few n outcome (record p { waiting = without_id id p.waiting }) q e few
  answered id (Err fault) e = let no : ◌≡◌ {A = Result StatePair FrontKind} (Err fault) (Ok q) = e in absurd cc

  target : (id : ℕ) (kind : Option TargetKind) → take_target state_reads id frame kind p ≡ Ok q → SecondFew q.two n
  target id None e = let no : ◌≡◌ {A = Result StatePair FrontKind} (Err state_reads.unasked) (Ok q) = e in absurd cc
  target id (Some kind) e = answered id (target_says kind frame) e

  by : (d : Down (List ℕ)) → take_down state_reads d frame p ≡ Ok q → SecondFew q.two n
  by (of_session t text) e = second t text p.two refl e
  by (bare None) e = first (take_whole p.one frame) e
  by (bare (Some id)) e =
      (elim (is_target_id id) as (λ (b : Bool).
      cond b (take_target state_reads id frame (kind_waiting id p.waiting) p) (with_one state_reads (take_whole p.one frame) p) ≡ Ok q
      → SecondFew q.two n) [
        | true ↦ λ h. target id (kind_waiting id p.waiting) h
        | false ↦ λ h. first (take_whole p.one frame) h
      ]) e

folded-few : (n : ℕ) (frames : List (List ℕ)) (p : StatePair) (taken : ℕ) → SecondFew p.two n
    → SecondFew (pair_folded state_reads p taken frames).pair.two n
folded-few n [] p taken few = few
folded-few n (frame ∷ frames) p taken few =
    by (take_pair state_reads p frame) refl (λ q is. folded-few n frames q (taken + 1) (frame-few n p q frame is few))
  where
    by : (result : Result StatePair FrontKind) → take_pair state_reads p frame ≡ result
        → ((q : StatePair) → take_pair state_reads p frame ≡ Ok q → SecondFew (pair_folded state_reads q (taken + 1) frames).pair.two n)
        → SecondFew (after_down p taken (λ q. pair_folded state_reads q (taken + 1) frames) result).pair.two n
    by (Ok q) is next = next q is
    by (Err kind) is next = few

taken-few : (n : ℕ) (s : FrontsState) (bytes : List ℕ) → SecondFew s.pair.two n → SecondFew (after_taken s bytes).pair.two n
taken-few n s bytes few = by s.fault where
  by : (fault : Option FrontFault) → SecondFew (unless_faulty fault s (after_down_bytes s bytes)).pair.two n
  by None = folded-few n (frames_from s.rest bytes) s.pair s.taken few
  by (Some f) = few

taken-next : (s : FrontsState) (bytes : List ℕ) → (after_taken s bytes).next ≡ s.next
taken-next s bytes = by s.fault where
  by : (fault : Option FrontFault) → (unless_faulty fault s (after_down_bytes s bytes)).next ≡ s.next
  by None = refl
  by (Some f) = refl

-- ---- the start

-- a page was loaded, and both ends are new
pub follows-start : (up0 down0 : Pipe) (kinds : List PanelKind) (start : PairStarted) (mux : Mux) (side : PageSide) (first second :
    AlreadyTold)
    → length up0.given ≤ length up0.sent → length down0.given ≤ length down0.sent → start.panels ≡ map Some kinds
    → start.from ≡ moment_by [] [] → PairStandsFor mux side start.pair
    → start.lines ≤ most_bytes → DrewBoth start.pair 0 0 0 → start.pair.side.page.next ≤ (0 + 1) * (max_nodes + 1)
    → start.pair.side.next_sheet ≤ (0 + 1) * max_sheets + 1 → (root_state start.pair).client.searches.given ≤ 0
    → (second_state start.pair).client.searches.given ≤ 0 → start.pair.sessions.next ≤ 0 + 1
    → FollowsPair start up0 down0 up0 down0 []
    (record {
      mux = mux;
      side = side;
      back_rest = [];
      fronts = first_fronts kinds;
      up_there = 0;
      down_there = 0;
      first_told = first;
      second_told = second;
    })
unfolding frames_of
follows-start up0 down0 kinds start mux side first second up_within down_within panels from stands few drew serials numbers searches
    second_searches sessions = record {
      sent_up = [];
      given_up = [];
      sent_down = [];
      given_down = [];
      up_is = goes-start up0 up_within;
      down_is = goes-start down0 down_within;
      later = subst (λ m. IsLaterMoment m (moment_by [] [])) (sym from)
          (record { more_sent = []; more_given = []; sent_is = refl; given_is = refl });
      fronts_are = both-begin up_reads kinds;
      alive = refl;
      first_alive = refl;
      panels = sym panels;
      events = [];
      frames_are = refl;
      back_is = refl;
      pair = start.pair;
      pair_is = refl;
      sent_is = refl;
      replies_are = refl;
      down_whole = refl;
      stands = stands;
      up_left = refl;
      down_left = refl;
      few_asked = omega arith;
      few_second = tt;
      few_targets = omega arith;
      few_made = omega (arith, few);
      drew = drew;
      few_serials = serials;
      few_numbers = numbers;
      few_searches = searches;
      few_second_searches = second_searches;
      few_sessions = sessions;
    }

module _ (start : PairStarted) (up0 down0 : Pipe) where
  -- ---- bytes go up

  -- a frame is sent, and the front ends are the fold with it
  pub follows-sent : (up down up1 : Pipe) (waiting : List (List ℕ)) (e : PairEnds) (text : List ℕ) (fronts : FrontsState) (there : ℕ)
      → (f : FollowsPair start up0 down0 up down waiting e) → there ≡ e.up_there + length (framed text)
      → IsFoldOfBoth up_reads (f.sent_up ++ framed text) f.given_down fronts
      → fronts.dead ≡ e.fronts.dead → fronts.pair.one.dead ≡ e.fronts.pair.one.dead → fronts.pair.one.panels ≡ e.fronts.pair.one.panels
      → fronts.pair.one.next + fronts.pair.one.fetches ≤ e.fronts.pair.one.next + e.fronts.pair.one.fetches + 1
      → ((n m : ℕ) → n + 1 ≤ m → SecondFew e.fronts.pair.two n → SecondFew fronts.pair.two m) → fronts.next ≤ e.fronts.next + 1
      → up1.sent ≡ up.sent ++ framed text → up1.given ≡ up.given
      → FollowsPair start up0 down0 up1 down waiting (record e { fronts = fronts; up_there = there })
  follows-sent up down up1 waiting e text fronts there f left folds dead first_dead panels one two targets sent_is given_is =
      let more : length (f.sent_up ++ framed text)
      ≡ length f.sent_up + length (framed text) = length-append f.sent_up (framed text) in
      let zero : length (framed text) ≡ length text + 1 = length-append text (0 ∷ []) in
      record {
        sent_up = f.sent_up ++ framed text;
        given_up = f.given_up;
        sent_down = f.sent_down;
        given_down = f.given_down;
        up_is = goes-put up0 up up1 f.sent_up f.given_up (framed text) f.up_is sent_is given_is;
        down_is = f.down_is;
        later = later-sent start.from f.sent_up f.given_down (framed text) f.later;
        fronts_are = folds;
        alive = dead ∙ f.alive;
        first_alive = first_dead ∙ f.first_alive;
        panels = panels ∙ f.panels;
        events = f.events;
        frames_are = f.frames_are;
        back_is = f.back_is;
        pair = f.pair;
        pair_is = f.pair_is;
        sent_is = f.sent_is;
        replies_are = f.replies_are;
        down_whole = f.down_whole;
        stands = f.stands;
        up_left =
            let before : e.up_there + length f.given_up ≡ length f.sent_up = f.up_left in
            omega (arith, more, before, left);
        down_left = f.down_left;
        few_asked =
            let before : e.fronts.pair.one.next + e.fronts.pair.one.fetches ≤ length f.sent_up + 1 = f.few_asked in
            omega (arith, more, zero, before, one);
        few_second = two (length f.sent_up) (length (f.sent_up ++ framed text)) (omega (arith, more, zero)) f.few_second;
        few_targets =
            let before : e.fronts.next ≤ 2 ^ 52 + length f.sent_up = f.few_targets in
            omega (arith, more, zero, before, targets);
        few_made = f.few_made;
        drew = f.drew;
        few_serials = f.few_serials;
        few_numbers = f.few_numbers;
        few_searches = f.few_searches;
        few_second_searches = f.few_second_searches;
        few_sessions = f.few_sessions;
      }

  -- any bytes are given up; the frames that become whole wait
  pub follows-given_up : (up down up1 : Pipe) (waiting : List (List ℕ)) (e : PairEnds) (piece rest : List ℕ) (there : ℕ)
      → FollowsPair start up0 down0 up down waiting e → there + length piece ≡ e.up_there → up1.sent ≡ up.sent
      → up1.given ≡ up.given ++ piece → rest ≡ held_after e.back_rest piece
      → FollowsPair start up0 down0 up1 down (waiting ++ frames_from e.back_rest piece) (record e { back_rest = rest; up_there = there })
  follows-given_up up down up1 waiting e piece rest there f left sent_is given_is rest_is = record {
    sent_up = f.sent_up;
    given_up = f.given_up ++ piece;
    sent_down = f.sent_down;
    given_down = f.given_down;
    up_is = goes-get up0 up up1 f.sent_up f.given_up piece f.up_is sent_is given_is;
    down_is = f.down_is;
    later = f.later;
    fronts_are = f.fronts_are;
    alive = f.alive;
    first_alive = f.first_alive;
    panels = f.panels;
    events = f.events;
    frames_are =
        ap (λ (fs : Frames). fs.whole) (frames_of-append f.given_up piece)
        ∙ ap (λ frames. frames ++ frames_from (frames_of f.given_up).rest piece) f.frames_are
        ∙ ap (λ held. (frames_among f.events ++ waiting) ++ frames_from held piece) (sym f.back_is)
        ∙ append_assoc (frames_among f.events) waiting (frames_from e.back_rest piece);
    back_is = rest_is ∙ ap (λ held. held_after held piece) f.back_is ∙ sym
        (ap (λ (fs : Frames). fs.rest) (frames_of-append f.given_up piece));
    pair = f.pair;
    pair_is = f.pair_is;
    sent_is = f.sent_is;
    replies_are = f.replies_are;
    down_whole = f.down_whole;
    stands = f.stands;
    up_left =
        let more : length (f.given_up ++ piece) ≡ length f.given_up + length piece = length-append f.given_up piece in
        let before : e.up_there + length f.given_up ≡ length f.sent_up = f.up_left in
        omega (arith, more, before, left);
    down_left = f.down_left;
    few_asked = f.few_asked;
    few_second = f.few_second;
    few_targets = f.few_targets;
    few_made = f.few_made;
    drew = f.drew;
    few_serials = f.few_serials;
    few_numbers = f.few_numbers;
    few_searches = f.few_searches;
    few_second_searches = f.few_second_searches;
    few_sessions = f.few_sessions;
  }

  -- ---- a step is made

  -- a step is carried out, and what it sends is put down; `lines` is how many lines more there were before
  follows-step : (lines : ℕ) (up down down1 : Pipe) (h : Happening) (waits waiting : List (List ℕ)) (e : PairEnds) (mux : Mux)
      (side : PageSide) (out : List ℕ) (there : ℕ)
      → made_among (h ∷ []) + start.lines ≤ lines
      → (f : FollowsPair (pair_started start.pair lines start.panels start.from) up0 down0 up down waits e)
      → waits ≡ frames_among (h ∷ []) ++ waiting
      → there ≡ e.down_there + length out
      → PairSends f.pair h → PairStandsFor mux side (pair_happening_step h f.pair).state
      → out ≡ (pair_happening_step h f.pair).sent → down1.sent ≡ down.sent ++ out → down1.given ≡ down.given
      → FollowsPair start up0 down0 up down1 waiting (record e { mux = mux; side = side; down_there = there })
  follows-step lines up down down1 h waits waiting e mux side out there room f waits_are left s stands out_is sent_is given_is =
      let old : Pair = (pair_happened start.pair f.events).state in
      let events : length (f.events ++ h ∷ []) ≡ length f.events + 1 = length-append f.events (h ∷ []) in
      let out_frames : frames_of out ≡ record { whole = s.sends.texts; rest = [] } = ap frames_of out_is ∙ s.sends.whole in
      let more : (frames_of (f.sent_down ++ out)).whole ≡ (frames_of f.sent_down).whole ++ s.sends.texts =
      whole-after f.sent_down out f.down_whole ∙ ap (λ (fs : Frames). (frames_of f.sent_down).whole ++ fs.whole) out_frames in
      record {
        sent_up = f.sent_up;
        given_up = f.given_up;
        sent_down = f.sent_down ++ out;
        given_down = f.given_down;
        up_is = f.up_is;
        down_is = goes-put down0 down down1 f.sent_down f.given_down out f.down_is sent_is given_is;
        later = f.later;
        fronts_are = f.fronts_are;
        alive = f.alive;
        first_alive = f.first_alive;
        panels = f.panels;
        events = f.events ++ h ∷ [];
        frames_are =
            f.frames_are ∙ ap (λ frames. frames_among f.events ++ frames) waits_are
            ∙ sym (append_assoc (frames_among f.events) (frames_among (h ∷ [])) waiting)
            ∙ ap (λ frames. frames ++ waiting) (sym (frames-last f.events h));
        back_is = f.back_is;
        pair = (pair_happening_step h f.pair).state;
        pair_is = happened-state start.pair f.events h ∙ ap (λ p. (pair_happening_step h p).state) f.pair_is;
        sent_is =
            ap (λ bytes. f.sent_down ++ bytes) (out_is ∙ ap (λ p. (pair_happening_step h p).sent) (sym f.pair_is))
            ∙ ap (λ bytes. bytes ++ (pair_happening_step h old).sent) f.sent_is
            ∙ sym (happened-sent start.pair f.events h);
        replies_are =
            ap ids_down more
            ∙ ids_down-append (frames_of f.sent_down).whole s.sends.texts
            ∙ ap (λ ids. ids ++ ids_down s.sends.texts) f.replies_are
            ∙ ap (λ ids. map reply_id (frames_among f.events) ++ ids) s.sends.ids_are
            ∙ sym (map-append reply_id (frames_among f.events) (frames_among (h ∷ [])))
            ∙ ap (map reply_id) (sym (frames-last f.events h));
        down_whole = rest-after f.sent_down out f.down_whole ∙ ap (λ (fs : Frames). fs.rest) out_frames;
        stands = stands;
        up_left = f.up_left;
        down_left =
            let longer : length (f.sent_down ++ out) ≡ length f.sent_down + length out = length-append f.sent_down out in
            let before : e.down_there + length f.given_down ≡ length f.sent_down = f.down_left in
            omega (arith, longer, before, left);
        few_asked = f.few_asked;
        few_second = f.few_second;
        few_targets = f.few_targets;
        few_made =
            let before : made_among f.events + lines ≤ most_bytes = f.few_made in
            let last : made_among (f.events ++ h ∷ []) ≡ made_among f.events + made_among (h ∷ []) = made-last f.events h in
            omega (arith, before, last, room);
        drew =
            let commands : pair_commands_among (f.events ++ h ∷ [])
            ≡ pair_commands_among f.events + pair_commands_among (h ∷ []) = commands-last f.events h in
            let made_last : made_among (f.events ++ h ∷ []) ≡ made_among f.events + made_among (h ∷ []) = made-last f.events h in
            let bytes : bytes_among (frames_among (f.events ++ h ∷ []))
            ≡ bytes_among (frames_among f.events) + bytes_among (frames_among (h ∷ [])) =
            ap bytes_among (frames-last f.events h) ∙ bytes-append (frames_among f.events) (frames_among (h ∷ [])) in
            same-drew (pair_happening_step h f.pair).state commands made_last bytes
            (s.drew (pair_commands_among f.events) (made_among f.events) (bytes_among (frames_among f.events)) f.drew);
        few_serials = more_serials f.pair.side.page.next (pair_happening_step h f.pair).state.side.page.next (length f.events)
            (length (f.events ++ h ∷ [])) events f.few_serials s.serials;
        few_numbers = more_numbers f.pair.side.next_sheet (pair_happening_step h f.pair).state.side.next_sheet (length f.events)
            (length (f.events ++ h ∷ [])) events f.few_numbers s.numbers;
        few_searches = more_searches (root_state f.pair).client.searches.given
            (root_state (pair_happening_step h f.pair).state).client.searches.given
            (length f.events) (length (f.events ++ h ∷ [])) events f.few_searches s.searches;
        few_second_searches = more_searches (second_state f.pair).client.searches.given
            (second_state (pair_happening_step h f.pair).state).client.searches.given
            (length f.events) (length (f.events ++ h ∷ [])) events f.few_second_searches s.second_searches;
        few_sessions = more_sessions f.pair.sessions.next (pair_happening_step h f.pair).state.sessions.next (length f.events)
            (length (f.events ++ h ∷ [])) events f.few_sessions s.sessions;
      }
    where
      same-drew : (p : Pair) {c c1 m m1 b b1 : ℕ} → c1 ≡ c → m1 ≡ m → b1 ≡ b → DrewBoth p c m b → DrewBoth p c1 m1 b1
      same-drew p {c} {c1} {m} {m1} {b} {b1} x y z drew =
          subst (λ x. DrewBoth p x m1 b1) (sym x) (subst (λ y. DrewBoth p c y b1) (sym y) (subst (λ z. DrewBoth p c m z) (sym z) drew))

      more_sessions : (before after n m : ℕ) → m ≡ n + 1 → before ≤ n + 1 → after ≤ before + 1 → after ≤ m + 1
      more_sessions before after n m one few more = omega (arith, one, few, more)

  -- a frame is answered
  pub follows-answered : (up down down1 : Pipe) (frame : List ℕ) (frames : List (List ℕ)) (e : PairEnds) (mux : Mux) (side : PageSide)
      (out : List ℕ) (there : ℕ)
      → (f : FollowsPair start up0 down0 up down (frame ∷ frames) e) → there ≡ e.down_there + length out → PairHasRoom f.pair
      → PairStandsFor mux side (pair_step false frame f.pair).state
      → out ≡ (pair_step false frame f.pair).sent → down1.sent ≡ down.sent ++ out → down1.given ≡ down.given
      → FollowsPair start up0 down0 up down1 frames (record e { mux = mux; side = side; down_there = there })
  follows-answered up down down1 frame frames e mux side out there f left room stands out_is sent_is given_is =
      let are = pair-states e.mux e.side f.pair f.stands in
      follows-step start.lines up down down1 (came frame) (frame ∷ frames) frames e mux side out there (omega arith) f refl left
      (frame-sends f.pair are.0 are.1 room frame) stands out_is sent_is given_is

  -- the script makes a step by itself
  pub follows-turned : (up down down1 : Pipe) (x : Turn) (waiting : List (List ℕ)) (e : PairEnds) (mux : Mux) (side : PageSide)
      (out : List ℕ) (there : ℕ)
      → (f : FollowsPair (one_pair_line_more start) up0 down0 up down waiting e) → there ≡ e.down_there + length out → PairHasRoom f.pair
      → IsTurn x → PairStandsFor mux side (pair_turn x f.pair).state
      → out ≡ (pair_turn x f.pair).sent → down1.sent ≡ down.sent ++ out → down1.given ≡ down.given
      → FollowsPair start up0 down0 up down1 waiting (record e { mux = mux; side = side; down_there = there })
  follows-turned up down down1 x waiting e mux side out there f left room is_turn stands out_is sent_is given_is =
      let are = pair-states e.mux e.side f.pair f.stands in
      follows-step (start.lines + 1) up down down1 (made x) waiting waiting e mux side out there (omega arith) f refl left
      (turn-sends f.pair are.0 are.1 room x is_turn) stands out_is sent_is given_is

  -- ---- bytes go down

  -- any bytes are given down, and the front ends refuse none of the messages
  pub follows-delivered_down : (up down down1 : Pipe) (waiting : List (List ℕ)) (e : PairEnds) (piece : List ℕ) (there : ℕ)
      → FollowsPair start up0 down0 up down waiting e → there + length piece ≡ e.down_there → down1.sent ≡ down.sent
      → down1.given ≡ down.given ++ piece → (after_taken e.fronts piece).fault ≡ None
      → FollowsPair start up0 down0 up down1 waiting (record e { fronts = after_taken e.fronts piece; down_there = there })
  follows-delivered_down up down down1 waiting e piece there f left sent_is given_is good =
      let kept = one-taken e.fronts piece in
      let next : (after_taken e.fronts piece).pair.one.next ≡ e.fronts.pair.one.next = ap (λ (s : FrontState). s.next) kept.1 in
      let fetches : (after_taken e.fronts piece).pair.one.fetches ≡ e.fronts.pair.one.fetches = ap (λ (s : FrontState). s.fetches) kept.1 in
      record {
        sent_up = f.sent_up;
        given_up = f.given_up;
        sent_down = f.sent_down;
        given_down = f.given_down ++ piece;
        up_is = f.up_is;
        down_is = goes-get down0 down down1 f.sent_down f.given_down piece f.down_is sent_is given_is;
        later = later-given start.from f.sent_up f.given_down piece f.later;
        fronts_are = both-take up_reads f.sent_up f.given_down piece e.fronts f.fronts_are good;
        alive = kept.0 ∙ f.alive;
        first_alive = ap (λ (s : FrontState). s.dead) kept.1 ∙ f.first_alive;
        panels = ap (λ (s : FrontState). s.panels) kept.1 ∙ f.panels;
        events = f.events;
        frames_are = f.frames_are;
        back_is = f.back_is;
        pair = f.pair;
        pair_is = f.pair_is;
        sent_is = f.sent_is;
        replies_are = f.replies_are;
        down_whole = f.down_whole;
        stands = f.stands;
        up_left = f.up_left;
        down_left =
            let more : length (f.given_down ++ piece) ≡ length f.given_down + length piece = length-append f.given_down piece in
            let before : e.down_there + length f.given_down ≡ length f.sent_down = f.down_left in
            omega (arith, more, before, left);
        few_asked =
            let before : e.fronts.pair.one.next + e.fronts.pair.one.fetches ≤ length f.sent_up + 1 = f.few_asked in
            omega (arith, before, next, fetches);
        few_second = taken-few (length f.sent_up) e.fronts piece f.few_second;
        few_targets = subst (λ n. n ≤ 2 ^ 52 + length f.sent_up) (sym (taken-next e.fronts piece)) f.few_targets;
        few_made = f.few_made;
        drew = f.drew;
        few_serials = f.few_serials;
        few_numbers = f.few_numbers;
        few_searches = f.few_searches;
        few_second_searches = f.few_second_searches;
        few_sessions = f.few_sessions;
      }

  -- or they refuse one, and the fold is this fault
  pub follows-refused : (up down down1 : Pipe) (waiting : List (List ℕ)) (e : PairEnds) (piece : List ℕ) (fault : FrontFault)
      → FollowsPair start up0 down0 up down waiting e → down1.sent ≡ down.sent → down1.given ≡ down.given ++ piece
      → (after_taken e.fronts piece).fault ≡ Some fault
      → pair_fold_of (sent_since up0 up) (given_since down0 down1) ≡ Err fault
  follows-refused up down down1 waiting e piece fault f sent_is given_is bad =
      let down_is : PipeGoesOn down0 down1 f.sent_down
      (f.given_down ++ piece) = goes-get down0 down down1 f.sent_down f.given_down piece f.down_is sent_is given_is in
      ap (λ bytes. pair_fold_of bytes (given_since down0 down1)) (sent_since-is up0 up f.sent_up f.given_up f.up_is)
      ∙ ap (pair_fold_of f.sent_up) (given_since-is down0 down1 f.sent_down (f.given_down ++ piece) down_is)
      ∙ faults-are-of-fold up_reads f.sent_up f.given_down piece e.fronts fault f.fronts_are bad

  -- ---- what it says of the pipes

  -- the fold of what was sent up and given down is what the front ends show
  pub follows-fold : (up down : Pipe) (waiting : List (List ℕ)) (e : PairEnds) → (f : FollowsPair start up0 down0 up down waiting e)
      → pair_fold_of (sent_since up0 up) (given_since down0 down) ≡ Ok (pair_value f.fronts_are.asked e.fronts.pair)
  follows-fold up down waiting e f =
      ap (λ bytes. pair_fold_of bytes (given_since down0 down)) (sent_since-is up0 up f.sent_up f.given_up f.up_is)
      ∙ ap (pair_fold_of f.sent_up) (given_since-is down0 down f.sent_down f.given_down f.down_is)
      ∙ f.fronts_are.value

  -- the replies that were sent down answer the frames that were given up, in their order
  pub follows-replies : (up down : Pipe) (e : PairEnds) → FollowsPair start up0 down0 up down [] e
      → map (λ (t : ShownReply). t.id) (pair_replies_in (sent_since down0 down)) ≡ map reply_id (frames_of (given_since up0 up)).whole
  follows-replies up down e f =
      ap (λ bytes. map (λ (t : ShownReply). t.id) (pair_replies_in bytes)) (sent_since-is down0 down f.sent_down f.given_down f.down_is)
      ∙ f.replies_are
      ∙ ap (map reply_id) (sym (append-nil (frames_among f.events)) ∙ sym f.frames_are)
      ∙ ap (λ bytes. map reply_id (frames_of bytes).whole) (sym (given_since-is up0 up f.sent_up f.given_up f.up_is))

  -- no more bytes were given than were sent
  pub follows-less : (up down : Pipe) (waiting : List (List ℕ)) (e : PairEnds) → FollowsPair start up0 down0 up down waiting e
      → (length (given_since up0 up) ≤ length (sent_since up0 up)) × (length (given_since down0 down) ≤ length (sent_since down0 down))
  follows-less up down waiting e f =
      let up_sent : length (sent_since up0 up) ≡ length f.sent_up = ap length (sent_since-is up0 up f.sent_up f.given_up f.up_is) in
      let up_given : length (given_since up0 up) ≡ length f.given_up = ap length (given_since-is up0 up f.sent_up f.given_up f.up_is) in
      let down_sent : length (sent_since down0 down)
      ≡ length f.sent_down = ap length (sent_since-is down0 down f.sent_down f.given_down f.down_is) in
      let down_given : length (given_since down0 down)
      ≡ length f.given_down = ap length (given_since-is down0 down f.sent_down f.given_down f.down_is) in
      let up_left : e.up_there + length f.given_up ≡ length f.sent_up = f.up_left in
      let down_left : e.down_there + length f.given_down ≡ length f.sent_down = f.down_left in
      (omega (arith, up_sent, up_given, up_left), omega (arith, down_sent, down_given, down_left))

  -- what the ends count waits in the link
  pub follows-wait : (up down : Pipe) (frames : List (List ℕ)) (e : PairEnds) → FollowsPair start up0 down0 up down frames e
      → (e.up_there ≤ length (pipes.waiting up)) × (e.down_there ≤ length (pipes.waiting down))
  follows-wait up down frames e f = (
    goes-waits up0 up f.sent_up f.given_up e.up_there f.up_is f.up_left,
    goes-waits down0 down f.sent_down f.given_down e.down_there f.down_is f.down_left,
  )

  -- ---- where there is no room

  -- what cannot be with fewer than 2^19 bytes
  is-full : (sent : ℕ) → (sent < 2 ^ 19 → ⊥) → 2 ^ 19 ≤ sent
  is-full sent none = elim (cases_lt sent (2 ^ 19)) [
    | inl less ↦ absurd (none less)
    | inr most ↦ most
  ]

  second-room : (two : Option (Second FrontState (List ℕ))) (n : ℕ) → SecondFew two n → n < 2 ^ 19 → SecondHasRoom two
  second-room None n few less = tt
  second-room (Some w) n few less = (omega (arith, few, less), omega (arith, few, less))

  -- where the front ends have no id left, 2^19 bytes were sent up
  pub front-full : (up down : Pipe) (waiting : List (List ℕ)) (e : PairEnds) → FollowsPair start up0 down0 up down waiting e
      → (HaveRoom e.fronts → false ≡ true) → 2 ^ 19 ≤ length (sent_since up0 up)
  front-full up down waiting e f none =
      let sent : length (sent_since up0 up) ≡ length f.sent_up = ap length (sent_since-is up0 up f.sent_up f.given_up f.up_is) in
      let few : e.fronts.pair.one.next + e.fronts.pair.one.fetches ≤ length f.sent_up + 1 = f.few_asked in
      let targets : e.fronts.next ≤ 2 ^ 52 + length f.sent_up = f.few_targets in
      is-full (length (sent_since up0 up))
      (λ less. let no : false ≡ true = none (
        (omega (arith, few, sent, less), omega (arith, few, sent, less)),
        second-room e.fronts.pair.two (length f.sent_up) f.few_second (omega (arith, sent, less)),
        omega (arith, targets, sent, less),
      ) in
      absurd cc)

  -- ids, serials and the rest are left for one client
  one-room : (state : State) (c m b events : ℕ) → DrewOne state c m b → c * 9 ≤ b → b < 2 ^ 19 → m ≤ 2 ^ 26 → events < 2 ^ 29
      → state.side.page.next ≤ (events + 1) * (max_nodes + 1) → state.side.next_sheet ≤ (events + 1) * max_sheets + 1
      → state.client.searches.given ≤ events → HasRoom state
  one-room state c m b events drew long small few_made few serials numbers searches = record {
    ids = ids-enough (length state.client.session.pushed) (tree_edits state) c m b long small few_made drew.ids;
    serials = serials-left state.side.page.next events few serials;
    sheets = numbers-left state.side.next_sheet events few numbers;
    edits = few-edits (edits_kept state) drew.edits;
    searches = searches-left state.client.searches.given events few searches;
  }
    where
      few-edits : (kept : ℕ) → kept ≤ b → kept < 2 ^ 30
      few-edits kept few = omega (arith, few, small)

  -- and where the back end has none
  pub seat-full : (up down : Pipe) (waiting : List (List ℕ)) (e : PairEnds) → FollowsPair start up0 down0 up down waiting e
      → (PairHasRoomLeft e.mux e.side → false ≡ true) → 2 ^ 19 ≤ length (sent_since up0 up)
  seat-full up down waiting e f none =
      let sent : length (sent_since up0 up) ≡ length f.sent_up = ap length (sent_since-is up0 up f.sent_up f.given_up f.up_is) in
      let left : e.up_there + length f.given_up ≡ length f.sent_up = f.up_left in
      let few : made_among f.events + start.lines ≤ most_bytes = f.few_made in
      let counted : length f.events ≡ length (frames_among f.events) + made_among f.events = events-counted f.events in
      let whole : length (frames_of f.given_up).whole ≤ length f.given_up = frames-few f.given_up in
      let all : length (frames_of f.given_up).whole ≡ length (frames_among f.events) + length waiting =
      ap length f.frames_are ∙ length-append (frames_among f.events) waiting in
      let long : pair_commands_among f.events * 9 ≤ bytes_among (frames_among f.events) = commands-long f.events in
      let within : bytes_among (frames_of f.given_up).whole ≤ length f.given_up = frames-within f.given_up in
      let bytes : bytes_among (frames_of f.given_up).whole ≡ bytes_among (frames_among f.events) + bytes_among waiting =
      ap bytes_among f.frames_are ∙ bytes-append (frames_among f.events) waiting in
      is-full (length (sent_since up0 up)) (λ less.
      let events : length f.events < 2 ^ 29 = omega (arith, sent, left, few, counted, whole, all, less) in
      let given : bytes_among (frames_among f.events) < 2 ^ 19 = omega (arith, sent, left, within, bytes, less) in
      let few_made : made_among f.events ≤ 2 ^ 26 = omega (arith, few) in
      let sessions : f.pair.sessions.next ≤ length f.events + 1 = f.few_sessions in
      let no : false ≡ true = none ((pairs-have-room-left e.mux e.side f.pair f.stands).1 (record {
        root = one-room (root_state f.pair) (pair_commands_among f.events) (made_among f.events) (bytes_among (frames_among f.events))
            (length f.events) f.drew.root long given few_made events f.few_serials f.few_numbers f.few_searches;
        second = one-room (second_state f.pair) (pair_commands_among f.events) (made_among f.events) (bytes_among (frames_among f.events))
            (length f.events) f.drew.second long given few_made events f.few_serials f.few_numbers f.few_second_searches;
        number = omega (arith, sessions, events);
      })) in absurd cc)

  -- ---- what was told says nothing of the link

  pub follows-told : (up down : Pipe) (waiting : List (List ℕ)) (e : PairEnds) (first second : AlreadyTold)
      → FollowsPair start up0 down0 up down waiting e
      → FollowsPair start up0 down0 up down waiting (record e { first_told = first; second_told = second })
  follows-told up down waiting e first second f = record {
    sent_up = f.sent_up;
    given_up = f.given_up;
    sent_down = f.sent_down;
    given_down = f.given_down;
    up_is = f.up_is;
    down_is = f.down_is;
    later = f.later;
    fronts_are = f.fronts_are;
    alive = f.alive;
    first_alive = f.first_alive;
    panels = f.panels;
    events = f.events;
    frames_are = f.frames_are;
    back_is = f.back_is;
    pair = f.pair;
    pair_is = f.pair_is;
    sent_is = f.sent_is;
    replies_are = f.replies_are;
    down_whole = f.down_whole;
    stands = f.stands;
    up_left = f.up_left;
    down_left = f.down_left;
    few_asked = f.few_asked;
    few_second = f.few_second;
    few_targets = f.few_targets;
    few_made = f.few_made;
    drew = f.drew;
    few_serials = f.few_serials;
    few_numbers = f.few_numbers;
    few_searches = f.few_searches;
    few_second_searches = f.few_second_searches;
    few_sessions = f.few_sessions;
  }
