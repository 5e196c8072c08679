-- What each of two front ends sends is the next step of the run: an ask of either, a fetch of either, and a frame that names no ask.
use Rattle.std.proofs.Common.{◌≡◌, ℕ, ◌+◌, ◌<◌, ◌≤◌, ◌^◌, Bool, true, false, length, List, [], ◌∷◌, ◌++◌, codes, Option, Some, None}
use Rattle.std.proofs.Common.{refl, sym, ◌∙◌, ap, subst, arith, option_map}
use Rattle.std.specs.Prelude.{All}
use Rattle.std.specs.Option.{option_to_list}
use Rattle.std.proofs.lemmas.List.Elements.{All-nil}
use Rattle.serde_json.specs.Data.{string}
use Rattle.cdp_json.specs.Kinds.{holds_of_some}
use Rattle.node_tree.specs.Numbers.{first_fetch}
use Rattle.pipe_frames.specs.Pipe.{Pipe}
use Rattle.pipe_frames.specs.Frames.{IsText, framed}
use Rattle.cdp_messages.specs.Asked.{command_text}
use Rattle.cdp_messages.specs.Events.{is_object}
use Rattle.front_mirror.specs.Front.{FrontState, fetch_ask, fetch_params, after_ask, after_fetch}
use Rattle.replay_script.specs.Forms.{AskForm}
use Rattle.replay_script.specs.Sound.{CanSend}
use Rattle.replay_script.specs.PairLines.{may_ask, may_ask_second}
use Rattle.session_mux.specs.Sessions.{session_text}
use Rattle.session_runs.specs.Stream.{awaited}
use Rattle.session_runs.specs.World.{sent_up}
use Rattle.session_runs.specs.PairFit.{IsCalm}
use Rattle.session_runs.specs.Pairs.{to_session, Second, attach, WaitingTarget}
use Rattle.multi_replay.specs.States.{is_there, after_asked, after_fetched}
use Rattle.multi_replay.proofs.SendLemmas.{first-fetches, second-asks, second-fetches, both-unasked}
use Rattle.inspect_world.specs.Fits.{ask_of_frame, ask_with, IsBare, most_fetches}
use Rattle.inspect_world.proofs.Messages.{ask_in-sent}
use Rattle.inspect_world.proofs.FetchForms.{sent-fetch}
use Rattle.pair_world.specs.SessionWays.{frame_way}
use Rattle.pair_world.specs.Clients.{pair_reads, client_steps}
use Rattle.pair_world.specs.Shown.{IsSessionNumber, MaySend}
use Rattle.pair_world.specs.FrameLaws.{IsCommand, IsUsual}
use Rattle.pair_world.specs.PairRuns.{PairSpent, PairRun, one_ask_on, one_fetch_on, none_more}
use Rattle.pair_world.specs.PairScripts.{session_on}
use Rattle.pair_world.specs.PairFresh.{fetch_in}
use Rattle.pair_world.specs.PairHeld.{up_reads, PairEnds, SecondCounted, calm, IsSecondOf, InPairWorld}
use Rattle.pair_world.specs.PairSendings.{may_ask_on, next_ask_text}
use Rattle.pair_world.proofs.WayLemmas.{asks-are-the-roots, asks-are-the-sessions, roots-are-usual, sessions-are-usual}
use Rattle.pair_world.proofs.SendLemmas.{asks-may-be-sent, session-asks-may-be-sent, bare-frames-may-be-sent, bare-way}
use Rattle.pair_world.proofs.DeedLemmas.{ask-id, ask-command, session-command, ask-alone, both-of, object-params}
use Rattle.pair_world.proofs.FetchBoth.{fetch-command}
use Rattle.pair_world.proofs.PairNumbers.{numbered-asked, numbered-fetched}
use Rattle.pair_world.proofs.PairEndLemmas.{pair-sent}
use Rattle.pair_world.proofs.PairSends.{pair-asked-first}
use Rattle.pair_world.proofs.PairKnown.{second-is}

-- ---- the second front end

-- it counts as the run does
pub second-counts : (n : PairSpent) (two : Option (Second FrontState (List ℕ))) (v : Second FrontState (List ℕ)) → two ≡ Some v
    → SecondCounted n two → (v.value.next ≡ n.second_asks + 1) × (v.value.fetches ≡ n.second_fetches)
second-counts n two v stands counted = subst (SecondCounted n) stands counted

-- whatever it sends, its session stays
second-stays : (f : FrontState → FrontState) (two : Option (Second FrontState (List ℕ))) (attached : Option ℕ) → IsSecondOf two attached
    → IsSecondOf (option_map (λ (w : Second FrontState (List ℕ)). record { text = w.text; value = f w.value }) two) attached
second-stays f None attached known = known
second-stays f (Some v) None known = known
second-stays f (Some v) (Some k) known = known

-- no attach waits where nothing does
none-attaches : (ws : List WaitingTarget) → ws ≡ [] → All (λ (t : WaitingTarget). t.kind ≡ attach → ⊥) ws
none-attaches ws none =
    subst (All (λ (t : WaitingTarget). t.kind ≡ attach → ⊥)) (sym none) (All-nil (λ (t : WaitingTarget). t.kind ≡ attach → ⊥))

-- ---- asks

-- an ask of the second front end is sent
pub pair-asked-second : (up0 down0 up down up1 : Pipe) (w : PairRun) (e : PairEnds) (a : AskForm) (there : ℕ)
    → InPairWorld calm up0 down0 up down w (awaited w.up) e → is_there true e.fronts.pair ≡ true → CanSend a → may_ask_second a ≡ true
    → w.spent.second_asks + 1 < 2 ^ 30 → up1.sent ≡ up.sent ++ framed (next_ask_text true a w) → up1.given ≡ up.given
    → there ≡ e.up_there + length (framed (next_ask_text true a w))
    → InPairWorld calm up0 down0 up1 down (sent_up (next_ask_text true a w) (one_ask_on true) w)
    (awaited (sent_up (next_ask_text true a w) (one_ask_on true) w).up)
    (record e { fronts = after_asked e.fronts true a.method; up_there = there })
pair-asked-second up0 down0 up down up1 w e a there in_world stands can may small sent_is given_is left =
    let s = second-is up0 down0 up down w (awaited w.up) e in_world stands in
    let id = w.spent.second_asks + 1 in
    let k = s.number in
    let t = session_text k in
    let text = next_ask_text true a w in
    let plain_text = command_text id a.method a.params None in
    let parts = both-of (may_ask a) (holds_of_some is_object a.params) may in
    let ids = ask-id id (omega (arith, small)) in
    let plain : IsCommand id a.method a.params None = ask-command a id ids.0 can (ask-alone a parts.0) in
    let c : IsCommand id a.method a.params (Some (string t)) = session-command id k a.method a.params s.is_number plain in
    let are = object-params a.params parts.1 in
    let same : command_text id a.method a.params (Some (string t)) ≡ text =
    ap (λ o. command_text id a.method a.params (session_on true o)) (sym s.attached_is) in
    let sent = session-asks-may-be-sent id k a.method a.params c plain are ids.1 in
    let is : ask_of_frame plain_text ≡ Some (ask_with a.method id) =
    subst (λ session. ask_of_frame (command_text id a.method a.params session) ≡ Some (ask_with a.method id)) (ask-alone a parts.0)
    (ask_in-sent id a can small) in
    let counts = second-counts w.spent e.fronts.pair.two s.front s.stands in_world.numbered.second in
    let fold = second-asks up_reads _ w.down.given text a.method e.fronts s.front in_world.fronts_are s.stands (record {
      letters = subst IsText same sent.0;
      text = plain_text;
      way = ap frame_way (sym same) ∙ asks-are-the-sessions id a.method a.params t c are
          ∙ ap (λ name. to_session name plain_text) (sym s.text);
      asks = ap option_to_list is ∙ ap (λ n. ask_with a.method n ∷ []) (sym counts.0);
    }) in
    pair-sent calm up0 down0 up down up1 w e text (one_ask_on true) (after_asked e.fronts true a.method) there in_world
    (subst IsText same sent.0) (subst IsUsual same (sessions-are-usual id a.method a.params t c plain are))
    (subst (λ o. IsCalm pair_reads client_steps MaySend o (frame_way text)) (sym s.attached_is)
    (subst (λ frame. IsCalm pair_reads client_steps MaySend (Some k) (frame_way frame)) same sent.1))
    fold
    (numbered-asked true w.spent e.fronts a.method stands (λ is. none-attaches e.fronts.pair.waiting in_world.session.0) in_world.numbered)
    (in_world.session.0, second-stays (λ f. after_ask f a.method) e.fronts.pair.two w.state.attached in_world.session.1) refl refl refl
    sent_is given_is left

-- an ask of the front end that is meant
pub pair-asked : (second : Bool) (up0 down0 up down up1 : Pipe) (w : PairRun) (e : PairEnds) (a : AskForm) (there : ℕ)
    → InPairWorld calm up0 down0 up down w (awaited w.up) e → is_there second e.fronts.pair ≡ true → CanSend a → may_ask_on second a ≡ true
    → w.spent.asks + 1 < 2 ^ 30 → w.spent.second_asks + 1 < 2 ^ 30
    → up1.sent ≡ up.sent ++ framed (next_ask_text second a w) → up1.given ≡ up.given
    → there ≡ e.up_there + length (framed (next_ask_text second a w))
    → InPairWorld calm up0 down0 up1 down (sent_up (next_ask_text second a w) (one_ask_on second) w)
    (awaited (sent_up (next_ask_text second a w) (one_ask_on second) w).up)
    (record e { fronts = after_asked e.fronts second a.method; up_there = there })
pair-asked false up0 down0 up down up1 w e a there in_world stands can may small second_small sent_is given_is left =
    pair-asked-first up0 down0 up down up1 w e a there in_world can may small sent_is given_is left
pair-asked true up0 down0 up down up1 w e a there in_world stands can may small second_small sent_is given_is left =
    pair-asked-second up0 down0 up down up1 w e a there in_world stands can may second_small sent_is given_is left

-- ---- fetches

-- a fetch of the first front end is sent
pub pair-fetched-first : (up0 down0 up down up1 : Pipe) (w : PairRun) (e : PairEnds) (sheet there : ℕ)
    → InPairWorld calm up0 down0 up down w (awaited w.up) e → sheet < 2 ^ 64 → w.spent.fetches + 1 ≤ most_fetches
    → up1.sent ≡ up.sent ++ framed (fetch_in None w.spent.fetches sheet) → up1.given ≡ up.given
    → there ≡ e.up_there + length (framed (fetch_in None w.spent.fetches sheet))
    → InPairWorld calm up0 down0 up1 down (sent_up (fetch_in None w.spent.fetches sheet) (one_fetch_on false) w)
    (awaited (sent_up (fetch_in None w.spent.fetches sheet) (one_fetch_on false) w).up)
    (record e { fronts = after_fetched e.fronts false sheet; up_there = there })
pair-fetched-first up0 down0 up down up1 w e sheet there in_world fits few sent_is given_is left =
    let count = w.spent.fetches in
    let id = first_fetch + count in
    let method = codes "CSS.getStyleSheetText" in
    let text = fetch_in None count sheet in
    let ids = ask-id id (omega (arith, few)) in
    let c = fetch-command count sheet few fits in
    let sent = asks-may-be-sent id method (Some (fetch_params sheet)) w.state.attached c ids.1 refl in
    let way = asks-are-the-roots id method (Some (fetch_params sheet)) c refl in
    let is : ask_of_frame text ≡ Some (fetch_ask count sheet) = sent-fetch count sheet (omega (arith, few)) fits in
    let same : e.fronts.pair.one.fetches ≡ count = in_world.numbered.fetches in
    let fold = first-fetches up_reads _ w.down.given text sheet e.fronts in_world.fronts_are (record {
      letters = sent.0;
      text = text;
      way = way;
      asks = ap option_to_list is ∙ ap (λ n. fetch_ask n sheet ∷ []) (sym same);
    }) in
    pair-sent calm up0 down0 up down up1 w e text (one_fetch_on false) (after_fetched e.fronts false sheet) there in_world sent.0
    (roots-are-usual text text way) sent.1 fold
    (numbered-fetched false w.spent e.fronts sheet refl (λ (no : false ≡ true). absurd cc) in_world.numbered) in_world.session refl refl
    refl
    sent_is given_is left

-- a fetch of the second, in the session of that number
pub pair-fetched-second : (up0 down0 up down up1 : Pipe) (w : PairRun) (e : PairEnds) (k sheet there : ℕ)
    → InPairWorld calm up0 down0 up down w (awaited w.up) e → is_there true e.fronts.pair ≡ true → w.state.attached ≡ Some k
    → sheet < 2 ^ 64 → w.spent.second_fetches + 1 ≤ most_fetches
    → up1.sent ≡ up.sent ++ framed (fetch_in (Some (string (session_text k))) w.spent.second_fetches sheet) → up1.given ≡ up.given
    → there ≡ e.up_there + length (framed (fetch_in (Some (string (session_text k))) w.spent.second_fetches sheet))
    → InPairWorld calm up0 down0 up1 down
    (sent_up (fetch_in (Some (string (session_text k))) w.spent.second_fetches sheet) (one_fetch_on true) w)
    (awaited (sent_up (fetch_in (Some (string (session_text k))) w.spent.second_fetches sheet) (one_fetch_on true) w).up)
    (record e { fronts = after_fetched e.fronts true sheet; up_there = there })
pair-fetched-second up0 down0 up down up1 w e k sheet there in_world stands attached_is fits few sent_is given_is left =
    let s = second-is up0 down0 up down w (awaited w.up) e in_world stands in
    let number_is : s.number ≡ k = some-same s.number k (sym s.attached_is ∙ attached_is) in
    let small = subst IsSessionNumber number_is s.is_number in
    let count = w.spent.second_fetches in
    let id = first_fetch + count in
    let method = codes "CSS.getStyleSheetText" in
    let params = Some (fetch_params sheet) in
    let t = session_text k in
    let text = fetch_in (Some (string t)) count sheet in
    let plain_text = fetch_in None count sheet in
    let ids = ask-id id (omega (arith, few)) in
    let plain = fetch-command count sheet few fits in
    let c = session-command id k method params small plain in
    let sent = session-asks-may-be-sent id k method params c plain refl ids.1 in
    let is : ask_of_frame plain_text ≡ Some (fetch_ask count sheet) = sent-fetch count sheet (omega (arith, few)) fits in
    let counts = second-counts w.spent e.fronts.pair.two s.front s.stands in_world.numbered.second in
    let fold = second-fetches up_reads _ w.down.given text sheet e.fronts s.front in_world.fronts_are s.stands (record {
      letters = sent.0;
      text = plain_text;
      way =
          asks-are-the-sessions id method params t c refl
          ∙ ap (λ name. to_session name plain_text) (ap session_text (sym number_is) ∙ sym s.text);
      asks = ap option_to_list is ∙ ap (λ n. fetch_ask n sheet ∷ []) (sym counts.1);
    }) in
    pair-sent calm up0 down0 up down up1 w e text (one_fetch_on true) (after_fetched e.fronts true sheet) there in_world sent.0
    (sessions-are-usual id method params t c plain refl)
    (subst (λ o. IsCalm pair_reads client_steps MaySend o (frame_way text)) (sym attached_is) sent.1) fold
    (numbered-fetched true w.spent e.fronts sheet stands (λ is. none-attaches e.fronts.pair.waiting in_world.session.0) in_world.numbered)
    (in_world.session.0, second-stays (λ f. after_fetch f sheet) e.fronts.pair.two w.state.attached in_world.session.1) refl refl refl
    sent_is given_is left
  where
    some-same : (j k : ℕ) → Some j ≡ Some k → j ≡ k
    some-same j k e = cc

-- ---- frames that name no ask

pub pair-raw : (up0 down0 up down up1 : Pipe) (w : PairRun) (e : PairEnds) (text : List ℕ) (there : ℕ)
    → InPairWorld calm up0 down0 up down w (awaited w.up) e → IsText text → IsBare text
    → up1.sent ≡ up.sent ++ framed text → up1.given ≡ up.given → there ≡ e.up_there + length (framed text)
    → InPairWorld calm up0 down0 up1 down (sent_up text none_more w) (awaited (sent_up text none_more w).up) (record e { up_there = there })
pair-raw up0 down0 up down up1 w e text there in_world letters bare sent_is given_is left =
    let way = bare-way text bare in
    let sent = bare-frames-may-be-sent text w.state.attached letters bare in
    let fold = both-unasked up_reads _ w.down.given text text e.fronts in_world.fronts_are letters way (ap option_to_list bare.no_ask) in
    pair-sent calm up0 down0 up down up1 w e text none_more e.fronts there in_world letters (roots-are-usual text text way) sent.1 fold
    in_world.numbered in_world.session refl refl refl sent_is given_is left
