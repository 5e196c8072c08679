-- What the calls on the link and on the two ends make of a run, each from what it says of itself.
use Rattle.std.proofs.Common.{◌≡◌, ℕ, ◌+◌, ◌-◌, ◌<◌, ◌≤◌, ◌^◌, min, Bool, true, false, length, take, List, [], ◌∷◌, ◌++◌, Option, Some}
use Rattle.std.proofs.Common.{None}
use Rattle.std.proofs.Common.{refl, sym, ◌∙◌, ap, subst, arith, option_map}
use Rattle.std.specs.Prelude.{IfSome, unwrap_or}
use Rattle.serde_json.specs.Data.{Data, string}
use Rattle.pipe_frames.specs.Pipe.{Pipe, waiting}
use Rattle.pipe_frames.specs.Frames.{IsText, Frames, framed, frames_of, frames_from, held_after, continued}
use Rattle.cdp_messages.specs.Asked.{command_text}
use Rattle.front_mirror.specs.declared.faults.FrontFault.{FrontFault}
use Rattle.front_mirror.specs.Front.{FrontState}
use Rattle.replay_script.specs.Forms.{AskForm}
use Rattle.replay_script.specs.Sound.{CanSend}
use Rattle.session_mux.specs.Sessions.{session_text}
use Rattle.session_runs.specs.Stream.{passed, arriving, awaited}
use Rattle.session_runs.specs.World.{sent_up, answered, given_up, turned, delivered_down}
use Rattle.session_runs.specs.Agreement.{IsAtRest}
use Rattle.session_runs.specs.Pairs.{Second, attach, detach, pair_step, pair_act}
use Rattle.session_runs.proofs.LinkRuns.{waiting-is, came-front}
use Rattle.multi_replay.specs.States.{StatePair, FrontsState, is_there, attach_text, detach_text, ask_text}
use Rattle.multi_replay.specs.States.{fetch_text, after_target, after_asked, after_fetched, after_taken}
use Rattle.back_end.specs.declared.mux.Mux.{Mux}
use Rattle.back_end.specs.declared.side.PageSide.{PageSide}
use Rattle.back_end.specs.Steps.{Turn}
use Rattle.back_end.specs.Laws.{IsTurn}
use Rattle.back_end.specs.Pairs as clients
use Rattle.back_end.specs.Pairs.{Pair, pair_turn}
use Rattle.back_end.specs.PairSeats.{PairStandsFor}
use Rattle.inspect_world.specs.Fits.{IsBare, most_fetches}
use Rattle.pair_world.specs.Clients.{pair_reads, client_steps}
use Rattle.pair_world.specs.SameSteps.{clients_of}
use Rattle.pair_world.specs.PairRuns as runs
use Rattle.pair_world.specs.PairRuns.{PairSpent, PairRun, one_ask_on, one_fetch_on, one_attach, one_detach, none_more, fetches_on}
use Rattle.pair_world.specs.PairScripts.{session_on}
use Rattle.pair_world.specs.PairFresh.{PairRoom, fetch_in}
use Rattle.pair_world.specs.PairHeld.{PairEnds, PairMode, calm, targeted, InPairWorld}
use Rattle.pair_world.specs.PairSendings.{may_ask_on, next_ask_text, attached_text, fetcher_on, by_fetcher, PairHasIds}
use Rattle.pair_world.proofs.PairEndLemmas.{pair-answered, pair-turned, pair-given_up}
use Rattle.pair_world.proofs.PairKnown.{second-is}
use Rattle.pair_world.proofs.PairDown.{never-refused, pair-down}
use Rattle.pair_world.proofs.PairAsks.{second-counts, pair-asked, pair-fetched-first, pair-fetched-second, pair-raw}
use Rattle.pair_world.proofs.PairTargets.{pair-attached, pair-detached}

-- ---- frames that came up whole

-- where none is left, those on their way are all that wait
unplaced : (mode : PairMode) (up0 down0 up down : Pipe) (w : PairRun) (whole : List (List ℕ)) (e : PairEnds)
    → InPairWorld mode up0 down0 up down w (whole ++ awaited w.up) e → whole ≡ [] → InPairWorld mode up0 down0 up down w (awaited w.up) e
unplaced mode up0 down0 up down w whole e in_world none =
    subst (λ frames. InPairWorld mode up0 down0 up down w (frames ++ awaited w.up) e) none in_world

placed : (mode : PairMode) (up0 down0 up down down1 : Pipe) (w : PairRun) (whole : List (List ℕ)) (e : PairEnds)
    → InPairWorld mode up0 down0 up down w (awaited w.up) e → whole ≡ [] → down1 ≡ down
    → InPairWorld mode up0 down0 up down1 w (whole ++ awaited w.up) e
placed mode up0 down0 up down down1 w whole e in_world none same =
    subst (λ pipe. InPairWorld mode up0 down0 up pipe w (whole ++ awaited w.up) e) (sym same)
    (subst (λ frames. InPairWorld mode up0 down0 up down w (frames ++ awaited w.up) e) (sym none) in_world)

-- ---- the texts of what is sent

second-next : (p : StatePair) (v : Second FrontState (List ℕ)) (method : List ℕ) (params : Option Data) → p.two ≡ Some v
    → ask_text true p method params ≡ command_text v.value.next method params (Some (string v.text))
second-next p v method params stands =
    ap (λ o. command_text (unwrap_or (option_map (λ (x : Second FrontState (List ℕ)). x.value) o) p.one).next method params
    (option_map (λ (x : Second FrontState (List ℕ)). string x.text) o)) stands

second-fetch : (p : StatePair) (v : Second FrontState (List ℕ)) (sheet : ℕ) → p.two ≡ Some v
    → fetch_text true p sheet ≡ fetch_in (Some (string v.text)) v.value.fetches sheet
second-fetch p v sheet stands =
    ap (λ o. fetch_in (option_map (λ (x : Second FrontState (List ℕ)). string x.text) o)
    (unwrap_or (option_map (λ (x : Second FrontState (List ℕ)). x.value) o) p.one).fetches sheet) stands

-- what a front end sends as its next ask is the run's
pub ask-texts : (second : Bool) (up0 down0 up down : Pipe) (w : PairRun) (frames : List (List ℕ)) (e : PairEnds) (a : AskForm)
    → InPairWorld calm up0 down0 up down w frames e → is_there second e.fronts.pair ≡ true
    → ask_text second e.fronts.pair a.method a.params ≡ next_ask_text second a w
ask-texts false up0 down0 up down w frames e a in_world stands = ap (λ n. command_text n a.method a.params None) in_world.numbered.asks
ask-texts true up0 down0 up down w frames e a in_world stands =
    let s = second-is up0 down0 up down w frames e in_world stands in
    let counts = second-counts w.spent e.fronts.pair.two s.front s.stands in_world.numbered.second in
    second-next e.fronts.pair s.front a.method a.params s.stands
    ∙ ap (λ n. command_text n a.method a.params (Some (string s.front.text))) counts.0
    ∙ ap (λ t. command_text (w.spent.second_asks + 1) a.method a.params (Some (string t))) s.text
    ∙ ap (λ o. command_text (w.spent.second_asks + 1) a.method a.params (session_on true o)) (sym s.attached_is)

-- ---- asks

pub asked_in : (second : Bool) (up0 down0 up down up1 down1 : Pipe) (w : PairRun) (e : PairEnds) (a : AskForm) (whole : List (List ℕ))
    (frame bytes : List ℕ) (there : ℕ) (fronts1 : FrontsState)
    → is_there second e.fronts.pair ≡ true → CanSend a → may_ask_on second a ≡ true → PairHasIds w.spent
    → InPairWorld calm up0 down0 up down w (whole ++ awaited w.up) e → whole ≡ []
    → frame ≡ framed (ask_text second e.fronts.pair a.method a.params) → fronts1 ≡ after_asked e.fronts second a.method
    → bytes ≡ frame → (up1.sent ≡ up.sent ++ bytes) × (up1.given ≡ up.given) → down1 ≡ down → there ≡ e.up_there + length frame
    → InPairWorld calm up0 down0 up1 down1 (sent_up (next_ask_text second a w) (one_ask_on second) w)
    (whole ++ awaited (sent_up (next_ask_text second a w) (one_ask_on second) w).up) (record e { fronts = fronts1; up_there = there })
asked_in second up0 down0 up down up1 down1 w e a whole frame bytes there fronts1 stands can may ids in_world none frame_is fronts_is
    same_bytes sent same_down left =
    let text = next_ask_text second a w in
    let after : PairRun = sent_up text (one_ask_on second) w in
    let framed_is : frame ≡ framed text = frame_is ∙ ap framed
    (ask-texts second up0 down0 up down w (whole ++ awaited w.up) e a in_world stands) in
    let asks = ids.asks in
    let second_asks = ids.second_asks in
    let all : InPairWorld calm up0 down0 up1 down after (awaited after.up)
    (record e { fronts = after_asked e.fronts second a.method; up_there = there }) =
    pair-asked second up0 down0 up down up1 w e a there (unplaced calm up0 down0 up down w whole e in_world none) stands can may
    (omega (arith, asks)) (omega (arith, second_asks)) (sent.0 ∙ ap (λ piece. up.sent ++ piece) (same_bytes ∙ framed_is)) sent.1
    (left ∙ ap (λ piece. e.up_there + length piece) framed_is) in
    placed calm up0 down0 up1 down down1 after whole (record e { fronts = fronts1; up_there = there })
    (subst (λ f. InPairWorld calm up0 down0 up1 down after (awaited after.up) (record e { fronts = f; up_there = there }))
    (sym fronts_is) all)
    none same_down

-- ---- fetches

-- the run after a fetch of the front end that is meant was sent, while that session is attached
abbrev pub fetch_sent : Bool → ℕ → Option ℕ → PairRun → PairRun
fetch_sent second sheet attached w =
    by_fetcher (fetcher_on second attached)
    (λ fetcher v. sent_up (fetcher.text (fetcher.count v.spent) sheet) fetcher.one_more v) w

pub fetched_in : (second : Bool) (up0 down0 up down up1 down1 : Pipe) (w : PairRun) (e : PairEnds) (sheet : ℕ) (whole : List (List ℕ))
    (frame bytes : List ℕ) (there : ℕ) (fronts1 : FrontsState)
    → is_there second e.fronts.pair ≡ true → sheet < 2 ^ 64 → fetches_on second w.spent + 1 ≤ most_fetches
    → InPairWorld calm up0 down0 up down w (whole ++ awaited w.up) e → whole ≡ []
    → frame ≡ framed (fetch_text second e.fronts.pair sheet) → fronts1 ≡ after_fetched e.fronts second sheet
    → bytes ≡ frame → (up1.sent ≡ up.sent ++ bytes) × (up1.given ≡ up.given) → down1 ≡ down → there ≡ e.up_there + length frame
    → InPairWorld calm up0 down0 up1 down1 (fetch_sent second sheet w.state.attached w)
    (whole ++ awaited (fetch_sent second sheet w.state.attached w).up) (record e { fronts = fronts1; up_there = there })
fetched_in false up0 down0 up down up1 down1 w e sheet whole frame bytes there fronts1 stands fits few in_world none frame_is fronts_is
    same_bytes sent same_down left =
    let text = fetch_in None w.spent.fetches sheet in
    let after : PairRun = sent_up text (one_fetch_on false) w in
    let framed_is : frame ≡ framed text = frame_is ∙ ap (λ n. framed (fetch_in None n sheet)) in_world.numbered.fetches in
    let all : InPairWorld calm up0 down0 up1 down after (awaited after.up)
    (record e { fronts = after_fetched e.fronts false sheet; up_there = there }) =
    pair-fetched-first up0 down0 up down up1 w e sheet there (unplaced calm up0 down0 up down w whole e in_world none) fits few
    (sent.0 ∙ ap (λ piece. up.sent ++ piece) (same_bytes ∙ framed_is)) sent.1
    (left ∙ ap (λ piece. e.up_there + length piece) framed_is) in
    placed calm up0 down0 up1 down down1 after whole (record e { fronts = fronts1; up_there = there })
    (subst (λ f. InPairWorld calm up0 down0 up1 down after (awaited after.up) (record e { fronts = f; up_there = there }))
    (sym fronts_is) all)
    none same_down
fetched_in true up0 down0 up down up1 down1 w e sheet whole frame bytes there fronts1 stands fits few in_world none frame_is fronts_is
    same_bytes sent same_down left =
    let s = second-is up0 down0 up down w (whole ++ awaited w.up) e in_world stands in
    let counts = second-counts w.spent e.fronts.pair.two s.front s.stands in_world.numbered.second in
    let text = fetch_in (Some (string (session_text s.number))) w.spent.second_fetches sheet in
    let after : PairRun = sent_up text (one_fetch_on true) w in
    let framed_is : frame ≡ framed text =
    frame_is ∙ ap framed (second-fetch e.fronts.pair s.front sheet s.stands
    ∙ ap (λ n. fetch_in (Some (string s.front.text)) n sheet) counts.1
    ∙ ap (λ t. fetch_in (Some (string t)) w.spent.second_fetches sheet) s.text) in
    let all : InPairWorld calm up0 down0 up1 down after (awaited after.up)
    (record e { fronts = after_fetched e.fronts true sheet; up_there = there }) =
    pair-fetched-second up0 down0 up down up1 w e s.number sheet there (unplaced calm up0 down0 up down w whole e in_world none) stands
    s.attached_is fits few (sent.0 ∙ ap (λ piece. up.sent ++ piece) (same_bytes ∙ framed_is)) sent.1
    (left ∙ ap (λ piece. e.up_there + length piece) framed_is) in
    subst (λ o. InPairWorld calm up0 down0 up1 down1 (fetch_sent true sheet o w) (whole ++ awaited (fetch_sent true sheet o w).up)
    (record e { fronts = fronts1; up_there = there })) (sym s.attached_is)
    (placed calm up0 down0 up1 down down1 after whole (record e { fronts = fronts1; up_there = there })
    (subst (λ f. InPairWorld calm up0 down0 up1 down after (awaited after.up) (record e { fronts = f; up_there = there }))
    (sym fronts_is) all)
    none same_down)

-- ---- frames that name no ask

pub raw_in : (up0 down0 up down up1 down1 : Pipe) (w : PairRun) (e : PairEnds) (text : List ℕ) (whole : List (List ℕ))
    (frame bytes : List ℕ) (there : ℕ)
    → IsText text → IsBare text → InPairWorld calm up0 down0 up down w (whole ++ awaited w.up) e → whole ≡ []
    → frame ≡ framed text → bytes ≡ frame → (up1.sent ≡ up.sent ++ bytes) × (up1.given ≡ up.given) → down1 ≡ down
    → there ≡ e.up_there + length frame
    → InPairWorld calm up0 down0 up1 down1 (sent_up text none_more w) (whole ++ awaited (sent_up text none_more w).up)
    (record e { up_there = there })
raw_in up0 down0 up down up1 down1 w e text whole frame bytes there letters bare in_world none frame_is same_bytes sent same_down left =
    let after : PairRun = sent_up text none_more w in
    placed calm up0 down0 up1 down down1 after whole (record e { up_there = there })
    (pair-raw up0 down0 up down up1 w e text there (unplaced calm up0 down0 up down w whole e in_world none) letters bare
    (sent.0 ∙ ap (λ piece. up.sent ++ piece) (same_bytes ∙ frame_is)) sent.1
    (left ∙ ap (λ piece. e.up_there + length piece) frame_is))
    none same_down

-- ---- attach and detach

few-targets : (n : PairSpent) → PairHasIds n → n.targets < 2 ^ 52
few-targets n ids = let targets = ids.targets in omega (arith, targets)

pub attached_in : (up0 down0 up down up1 down1 : Pipe) (w : PairRun) (e : PairEnds) (whole : List (List ℕ)) (frame bytes : List ℕ)
    (there : ℕ) (fronts1 : FrontsState)
    → is_there true e.fronts.pair ≡ false → PairHasIds w.spent → IsAtRest w
    → InPairWorld calm up0 down0 up down w (whole ++ awaited w.up) e → whole ≡ []
    → frame ≡ framed (attach_text e.fronts.next) → fronts1 ≡ after_target e.fronts attach
    → bytes ≡ frame → (up1.sent ≡ up.sent ++ bytes) × (up1.given ≡ up.given) → down1 ≡ down → there ≡ e.up_there + length frame
    → InPairWorld targeted up0 down0 up1 down1 (sent_up (attach_text (runs.next_target w.spent)) one_attach w)
    (whole ++ awaited (sent_up (attach_text (runs.next_target w.spent)) one_attach w).up)
    (record e { fronts = fronts1; up_there = there })
attached_in up0 down0 up down up1 down1 w e whole frame bytes there fronts1 alone ids rest in_world none frame_is fronts_is same_bytes
    sent same_down left =
    let text = attach_text (runs.next_target w.spent) in
    let after : PairRun = sent_up text one_attach w in
    let framed_is : frame ≡ framed text = frame_is ∙ ap (λ n. framed (attach_text n)) in_world.numbered.targets in
    let all : InPairWorld targeted up0 down0 up1 down after (awaited after.up)
    (record e { fronts = after_target e.fronts attach; up_there = there }) =
    pair-attached up0 down0 up down up1 w e there (unplaced calm up0 down0 up down w whole e in_world none) rest alone
    (few-targets w.spent ids) (sent.0 ∙ ap (λ piece. up.sent ++ piece) (same_bytes ∙ framed_is)) sent.1
    (left ∙ ap (λ piece. e.up_there + length piece) framed_is) in
    placed targeted up0 down0 up1 down down1 after whole (record e { fronts = fronts1; up_there = there })
    (subst (λ f. InPairWorld targeted up0 down0 up1 down after (awaited after.up) (record e { fronts = f; up_there = there }))
    (sym fronts_is) all)
    none same_down

-- the run after a detach of that session was sent
abbrev pub detach_sent : Option ℕ → PairRun → PairRun
detach_sent attached w = sent_up (detach_text (runs.next_target w.spent) (attached_text attached)) one_detach w

pub detached_in : (up0 down0 up down up1 down1 : Pipe) (w : PairRun) (e : PairEnds) (whole : List (List ℕ)) (frame bytes : List ℕ)
    (there : ℕ) (fronts1 : FrontsState)
    → is_there true e.fronts.pair ≡ true → PairHasIds w.spent → IsAtRest w
    → InPairWorld calm up0 down0 up down w (whole ++ awaited w.up) e → whole ≡ []
    → IfSome e.fronts.pair.two (λ v. frame ≡ framed (detach_text e.fronts.next v.text)) → fronts1 ≡ after_target e.fronts detach
    → bytes ≡ frame → (up1.sent ≡ up.sent ++ bytes) × (up1.given ≡ up.given) → down1 ≡ down → there ≡ e.up_there + length frame
    → InPairWorld targeted up0 down0 up1 down1 (detach_sent w.state.attached w) (whole ++ awaited (detach_sent w.state.attached w).up)
    (record e { fronts = fronts1; up_there = there })
detached_in up0 down0 up down up1 down1 w e whole frame bytes there fronts1 stands ids rest in_world none frame_is fronts_is same_bytes
    sent same_down left =
    let s = second-is up0 down0 up down w (whole ++ awaited w.up) e in_world stands in
    let text = detach_text (runs.next_target w.spent) (session_text s.number) in
    let after : PairRun = sent_up text one_detach w in
    let framed_is : frame ≡ framed text =
    subst (λ o. IfSome o (λ (v : Second FrontState (List ℕ)). frame ≡ framed (detach_text e.fronts.next v.text))) s.stands frame_is
    ∙ ap (λ n. framed (detach_text n s.front.text)) in_world.numbered.targets
    ∙ ap (λ t. framed (detach_text (runs.next_target w.spent) t)) s.text in
    let all : InPairWorld targeted up0 down0 up1 down after (awaited after.up)
    (record e { fronts = after_target e.fronts detach; up_there = there }) =
    pair-detached up0 down0 up down up1 w e s.number there (unplaced calm up0 down0 up down w whole e in_world none) rest stands
    s.attached_is (few-targets w.spent ids) (sent.0 ∙ ap (λ piece. up.sent ++ piece) (same_bytes ∙ framed_is)) sent.1
    (left ∙ ap (λ piece. e.up_there + length piece) framed_is) in
    subst (λ o. InPairWorld targeted up0 down0 up1 down1 (detach_sent o w) (whole ++ awaited (detach_sent o w).up)
    (record e { fronts = fronts1; up_there = there })) (sym s.attached_is)
    (placed targeted up0 down0 up1 down down1 after whole (record e { fronts = fronts1; up_there = there })
    (subst (λ f. InPairWorld targeted up0 down0 up1 down after (awaited after.up) (record e { fronts = f; up_there = there }))
    (sym fronts_is) all)
    none same_down)

-- ---- bytes come

-- bytes come up, and are cut into frames
pub given_in : (mode : PairMode) (up0 down0 up down up1 down1 : Pipe) (w : PairRun) (e : PairEnds) (n there max : ℕ) (piece : List ℕ)
    (s s1 : Frames)
    → InPairWorld mode up0 down0 up down w (s.whole ++ awaited w.up) e → s.whole ≡ [] → s.rest ≡ e.back_rest
    → max ≡ min n e.up_there → piece ≡ take max (waiting up)
    → (up1.sent ≡ up.sent) × (up1.given ≡ up.given ++ piece) → down1 ≡ down → there ≡ e.up_there - length piece
    → s1 ≡ continued s piece
    → InPairWorld mode up0 down0 up1 down1 (given_up n w) (s1.whole ++ awaited (given_up n w).up)
    (record e { back_rest = s1.rest; up_there = there })
    × (s1.whole ≡ arriving n w.up)
given_in mode up0 down0 up down up1 down1 w e n there max piece s s1 in_world none rest max_is front moved same_down left cut =
    let start = unplaced mode up0 down0 up down w s.whole e in_world none in
    let on = in_world.on_link in
    let part : piece ≡ take n w.up.flying =
    came-front up n e.up_there max piece w.up (waiting-is up0 up w.up on.up_is) on.up_left max_is front in
    let rest_is : s1.rest ≡ held_after e.back_rest piece = ap (λ (f : Frames). f.rest) cut ∙ ap (λ held. held_after held piece) rest in
    let whole : s1.whole ≡ arriving n w.up =
    ap (λ (f : Frames). f.whole) cut
    ∙ ap (λ frames. frames ++ frames_from s.rest piece) none
    ∙ ap (λ held. frames_from held piece) (rest ∙ on.back_is)
    ∙ ap (λ bytes. frames_from (frames_of w.up.given).rest bytes) part in
    let all : InPairWorld mode up0 down0 up1 down (given_up n w) (arriving n w.up ++ awaited (passed n w.up))
    (record e { back_rest = s1.rest; up_there = there }) =
    pair-given_up mode up0 down0 up down up1 w e n there piece s1.rest start part moved.0 moved.1 left rest_is in (
      subst (λ frames. InPairWorld mode up0 down0 up1 down1 (given_up n w) (frames ++ awaited (passed n w.up))
          (record e { back_rest = s1.rest; up_there = there })) (sym whole)
          (subst (λ pipe. InPairWorld mode up0 down0 up1 pipe (given_up n w) (arriving n w.up ++ awaited (passed n w.up))
          (record e { back_rest = s1.rest; up_there = there })) (sym same_down) all),
      whole,
    )

-- bytes come down
pub delivered_in : (mode : PairMode) (up0 down0 up down up1 down1 : Pipe) (w : PairRun) (frames : List (List ℕ)) (e : PairEnds)
    (n there max : ℕ) (piece : List ℕ) (fronts1 : FrontsState)
    → InPairWorld mode up0 down0 up down w frames e
    → max ≡ min n e.down_there → piece ≡ take max (waiting down)
    → (down1.sent ≡ down.sent) × (down1.given ≡ down.given ++ piece) → up1 ≡ up → there ≡ e.down_there - length piece
    → fronts1 ≡ after_taken e.fronts piece
    → InPairWorld mode up0 down0 up1 down1 (delivered_down n w) frames (record e { fronts = fronts1; down_there = there })
delivered_in mode up0 down0 up down up1 down1 w frames e n there max piece fronts1 in_world max_is front moved same_up left fronts_is =
    let on = in_world.on_link in
    let part : piece ≡ take n w.down.flying =
    came-front down n e.down_there max piece w.down (waiting-is down0 down w.down on.down_is) on.down_left max_is front in
    let all : InPairWorld mode up0 down0 up down1 (delivered_down n w) frames
    (record e { fronts = after_taken e.fronts piece; down_there = there }) =
    pair-down mode up0 down0 up down down1 w frames e n there piece in_world part moved.0 moved.1 left in
    subst (λ pipe. InPairWorld mode up0 down0 pipe down1 (delivered_down n w) frames (record e { fronts = fronts1; down_there = there }))
    (sym same_up)
    (subst (λ f. InPairWorld mode up0 down0 up down1 (delivered_down n w) frames (record e { fronts = f; down_there = there }))
    (sym fronts_is) all)

-- the front ends are never at fault
pub no_fault : (mode : PairMode) (up0 down0 up down : Pipe) (w : PairRun) (frames : List (List ℕ)) (e : PairEnds) (n max : ℕ)
    (piece : List ℕ)
    (fronts1 : FrontsState) (f : FrontFault)
    → InPairWorld mode up0 down0 up down w frames e → max ≡ min n e.down_there → piece ≡ take max (waiting down)
    → fronts1 ≡ after_taken e.fronts piece → fronts1.fault ≡ Some f → ⊥
no_fault mode up0 down0 up down w frames e n max piece fronts1 f in_world max_is front fronts_is fault =
    let on = in_world.on_link in
    let part : piece ≡ take n w.down.flying =
    came-front down n e.down_there max piece w.down (waiting-is down0 down w.down on.down_is) on.down_left max_is front in
    let none : (after_taken e.fronts piece).fault ≡ None = never-refused mode up0 down0 up down w frames e n piece in_world part in
    let both : ◌≡◌ {A = Option FrontFault} (Some f) None = sym fault ∙ ap (λ (s : FrontsState). s.fault) fronts_is ∙ none in
    cc

-- ---- steps of the back end

-- a frame that came up whole is answered
pub answered_in : (mode : PairMode) (up0 down0 up down up1 down1 : Pipe) (w : PairRun) (frame : List ℕ) (frames : List (List ℕ))
    (e : PairEnds)
    (mux : Mux) (side : PageSide) (old out bytes : List ℕ) (there : ℕ)
    → InPairWorld mode up0 down0 up down w (frame ∷ frames) e → PairRoom w.state
    → ((p : Pair) → PairStandsFor e.mux e.side p → PairStandsFor mux side (clients.pair_step false frame p).state)
    → ((p : Pair) → PairStandsFor e.mux e.side p → out ≡ old ++ (clients.pair_step false frame p).sent)
    → old ≡ [] → bytes ≡ out
    → up1 ≡ up → (down1.sent ≡ down.sent ++ bytes) × (down1.given ≡ down.given) → there ≡ e.down_there + length out
    → InPairWorld mode up0 down0 up1 down1 (answered (pair_step pair_reads client_steps) (frame ∷ []) w) frames
    (record e { mux = mux; side = side; down_there = there })
answered_in mode up0 down0 up down up1 down1 w frame frames e mux side old out bytes there in_world room stood said empty same_out
    same_up sent left =
    let p = clients_of w.state in
    subst (λ pipe. InPairWorld mode up0 down0 pipe down1 (answered (pair_step pair_reads client_steps) (frame ∷ []) w) frames
    (record e { mux = mux; side = side; down_there = there })) (sym same_up)
    (pair-answered mode up0 down0 up down down1 w frame frames e mux side out there in_world room (stood p in_world.stands)
    (said p in_world.stands ∙ ap (λ start. start ++ (clients.pair_step false frame p).sent) empty)
    (sent.0 ∙ ap (λ piece. down.sent ++ piece) same_out) sent.1 left)

-- the script makes a step by itself
pub turned_in : (mode : PairMode) (up0 down0 up down up1 down1 : Pipe) (w : PairRun) (x : Turn) (whole : List (List ℕ)) (e : PairEnds)
    (mux : Mux) (side : PageSide) (old out bytes : List ℕ) (there : ℕ)
    → InPairWorld mode up0 down0 up down w (whole ++ awaited w.up) e → whole ≡ [] → PairRoom w.state → IsTurn x
    → ((p : Pair) → PairStandsFor e.mux e.side p → PairStandsFor mux side (pair_turn x p).state)
    → ((p : Pair) → PairStandsFor e.mux e.side p → out ≡ old ++ (pair_turn x p).sent)
    → old ≡ [] → bytes ≡ out
    → up1 ≡ up → (down1.sent ≡ down.sent ++ bytes) × (down1.given ≡ down.given) → there ≡ e.down_there + length out
    → InPairWorld mode up0 down0 up1 down1 (turned none_more (pair_act pair_reads client_steps) x w)
    (whole ++ awaited (turned none_more (pair_act pair_reads client_steps) x w).up)
    (record e { mux = mux; side = side; down_there = there })
turned_in mode up0 down0 up down up1 down1 w x whole e mux side old out bytes there in_world none room is_turn stood said empty same_out
    same_up sent left =
    let p = clients_of w.state in
    let after : PairRun = turned none_more (pair_act pair_reads client_steps) x w in
    placed mode up0 down0 up1 down1 down1 after whole (record e { mux = mux; side = side; down_there = there })
    (subst (λ pipe. InPairWorld mode up0 down0 pipe down1 after (awaited w.up) (record e { mux = mux; side = side; down_there = there }))
    (sym same_up)
    (pair-turned mode up0 down0 up down down1 w x e mux side out there (unplaced mode up0 down0 up down w whole e in_world none) room
    is_turn (stood p in_world.stands)
    (said p in_world.stands ∙ ap (λ start. start ++ (pair_turn x p).sent) empty)
    (sent.0 ∙ ap (λ piece. down.sent ++ piece) same_out) sent.1 left))
    none refl
