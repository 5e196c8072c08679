-- Two runs of one script, one with the fetches of its settles, go on together as its lines are carried out.
use Rattle.std.proofs.Common.{◌≡◌, ℕ, ◌+◌, ◌*◌, ◌≤◌, Bool, true, false, cond, List, [], ◌∷◌, Option, Some, None, is_some, refl}
use Rattle.std.proofs.Common.{◌<◌, ◌^◌}
use Rattle.std.proofs.Common.{sym}
use Rattle.std.proofs.Common.{ap, subst, arith}
use Rattle.node_tree.specs.Numbers.{fetch_limit}
use Rattle.cdp_messages.specs.Asked.{command_text}
use Rattle.replay_script.specs.Forms as forms
use Rattle.replay_script.specs.Forms.{AskForm, load, ask, up, down, settle, show_front, show_page, show_sheets, show_replies}
use Rattle.replay_script.specs.Forms.{show_pauses, show_panels, show_styles, close}
use Rattle.replay_script.specs.Sound.{CanSend}
use Rattle.replay_script.specs.declared.faults.LineFault.TheVariants.{BadSession}
use Rattle.replay_script.specs.PairLines.{PairForm, attach_session, detach_session, of_first, of_second, may_ask, may_ask_second}
use Rattle.replay_script.specs.PairLines.{session_fault}
use Rattle.session_mux.specs.Sessions.{session_text}
use Rattle.back_end.specs.Steps.{Turn, acts, loads}
use Rattle.back_end.specs.Laws.{IsTurn}
use Rattle.session_runs.specs.Stream.{awaited}
use Rattle.session_runs.specs.World.{sent_up}
use Rattle.session_runs.specs.Passages.{turning}
use Rattle.session_runs.specs.PairRuns.{passing, targeting}
use Rattle.session_runs.proofs.FetchLemmas.{settled-rests}
use Rattle.session_runs.proofs.CalmLemmas.{settle-keeps}
use Rattle.multi_replay.specs.States.{attach_text, detach_text}
use Rattle.inspect_world.specs.Fits.{most_bytes, most_sheets, most_fetches}
use Rattle.inspect_world.specs.Costs.{least_line}
use Rattle.pair_world.specs.Clients.{pair_reads, client_steps}
use Rattle.pair_world.specs.Shown.{IsSessionNumber, MaySend}
use Rattle.pair_world.specs.PairFits.{PageSessions}
use Rattle.pair_world.specs.PairRuns.{PairSpent, PairPlainlySpent, pair_plainly}
use Rattle.pair_world.specs.PairRuns.{one_ask_on}
use Rattle.pair_world.specs.PairRuns.{next_target, one_attach, one_detach, none_more, PairRun, pair_settled, PairDeed}
use Rattle.pair_world.specs.PairRuns.{after_deeds_by}
use Rattle.pair_world.specs.PairScripts.{session_on, ask_deed, settle_deed, detach_deeds, deeds, told_after, after_pair_line}
use Rattle.pair_world.specs.PairFresh.{no_fronts, pair_runner, pair_refreshes, fresh_pair_line}
use Rattle.pair_world.specs.PairFresh.{PairIsFit, PairHasLeft, DeedHasRoom, DeedsHaveRoom}
use Rattle.pair_world.specs.PairScriptsFit.{IsPairLater}
use Rattle.pair_world.proofs.FetchRuns.{RunsTogether, SettledAs, attached-number}
use Rattle.pair_world.proofs.FetchRuns.{settle-runs}
use Rattle.pair_world.proofs.FetchRuns.{calm-at-rest, SettleSpent, settle-spent, settle-together}
use Rattle.pair_world.proofs.FetchParts.{Together, left-fewer, together-fewer, together-told, MayGo, first-goes, second-goes, raw-goes}
use Rattle.pair_world.proofs.FetchParts.{TargetGoes, attach-goes, detach-goes, sent-together, targeted-together, turned-together}
use Rattle.pair_world.proofs.FetchParts.{up-together, down-together}

-- ---- what is left

pub ask-left : (second : Bool) (n : PairSpent) (bytes : ℕ) → PairHasLeft n (bytes + least_line) → PairHasLeft (one_ask_on second n) bytes
ask-left second n bytes left = by second where
  asks : n.asks * 4 + (bytes + 4) ≤ most_bytes
  asks = left.asks

  seconds : n.second_asks * 4 + (bytes + 4) ≤ most_bytes
  seconds = left.second_asks

  fewer : PairHasLeft n bytes
  fewer = left-fewer n bytes (bytes + 4) (omega arith) left

  by : (second : Bool) → PairHasLeft (one_ask_on second n) bytes
  by false = record {
    asks = omega (arith, asks);
    second_asks = fewer.second_asks;
    targets = fewer.targets;
    fetches = fewer.fetches;
    second_fetches = fewer.second_fetches;
  }
  by true = record {
    asks = fewer.asks;
    second_asks = omega (arith, seconds);
    targets = fewer.targets;
    fetches = fewer.fetches;
    second_fetches = fewer.second_fetches;
  }

-- how an attach or a detach is counted
record CountsTarget (more : PairSpent → PairSpent) : Type 0 where
  asks : (n : PairSpent) → (more n).asks ≡ n.asks
  second : (n : PairSpent) → (more n).second_asks ≤ n.second_asks
  one : (n : PairSpent) → (more n).targets ≡ n.targets + 1
  fetches : (n : PairSpent) → (more n).fetches ≡ n.fetches
  fewer : (n : PairSpent) → (more n).second_fetches ≤ n.second_fetches
  alike : (n m : PairSpent) → pair_plainly n ≡ pair_plainly m → pair_plainly (more n) ≡ pair_plainly (more m)

counts-attach : CountsTarget one_attach
counts-attach = record {
  asks = λ n. refl;
  second = λ n. omega arith;
  one = λ n. refl;
  fetches = λ n. refl;
  fewer = λ n. omega arith;
  alike = λ n m e. ap (λ (k : PairPlainlySpent). record k { second_asks = 0; targets = k.targets + 1 }) e;
}

counts-detach : CountsTarget one_detach
counts-detach = record {
  asks = λ n. refl;
  second = λ n. omega arith;
  one = λ n. refl;
  fetches = λ n. refl;
  fewer = λ n. omega arith;
  alike = λ n m e. ap (λ (k : PairPlainlySpent). record k { targets = k.targets + 1 }) e;
}

-- before a line the texts of a page may be fetched
line-fetches : (n : PairSpent) (bytes : ℕ) → PairHasLeft n (bytes + least_line)
    → (n.fetches + most_sheets ≤ most_fetches) × (n.second_fetches + most_sheets ≤ most_fetches)
line-fetches n bytes left =
    let one : n.fetches + (bytes + 4 + 1) * most_sheets ≤ most_fetches = left.fetches in
    let two : n.second_fetches + (bytes + 4 + 1) * most_sheets ≤ most_fetches = left.second_fetches in
    (omega (arith, one), omega (arith, two))

-- before the second settle of an attach or a detach the texts of a page may be fetched
target-fetches : (n m : PairSpent) (bytes : ℕ) (more : PairSpent → PairSpent) → CountsTarget more → SettleSpent n m
    → PairHasLeft n (bytes + least_line)
    → ((more m).fetches + most_sheets ≤ most_fetches) × ((more m).second_fetches + most_sheets ≤ most_fetches)
target-fetches n m bytes more counts spent left =
    let fetches : m.fetches ≤ n.fetches + most_sheets = spent.fetches in
    let second : m.second_fetches ≤ n.second_fetches + most_sheets = spent.second_fetches in
    let same : (more m).fetches ≡ m.fetches = counts.fetches m in
    let fewer : (more m).second_fetches ≤ m.second_fetches = counts.fewer m in
    let fetches_left : n.fetches + (bytes + 4 + 1) * most_sheets ≤ most_fetches = left.fetches in
    let second_left : n.second_fetches + (bytes + 4 + 1) * most_sheets ≤ most_fetches = left.second_fetches in
    (omega (arith, fetches, same, fetches_left), omega (arith, second, fewer, second_left))

target-left : (n m k : PairSpent) (bytes : ℕ) (more : PairSpent → PairSpent) → CountsTarget more → SettleSpent n m → SettleSpent (more m) k
    → PairHasLeft n (bytes + least_line) → PairHasLeft k bytes
target-left n m k bytes more counts first last left =
    let asks : n.asks ≡ m.asks = ap (λ (x : PairPlainlySpent). x.asks) first.plain in
    let asks1 : (more m).asks ≡ m.asks = counts.asks m in
    let asks2 : (more m).asks ≡ k.asks = ap (λ (x : PairPlainlySpent). x.asks) last.plain in
    let asks_left : n.asks * 4 + (bytes + 4) ≤ most_bytes = left.asks in
    let second : n.second_asks ≡ m.second_asks = ap (λ (x : PairPlainlySpent). x.second_asks) first.plain in
    let second1 : (more m).second_asks ≤ m.second_asks = counts.second m in
    let second2 : (more m).second_asks ≡ k.second_asks = ap (λ (x : PairPlainlySpent). x.second_asks) last.plain in
    let second_left : n.second_asks * 4 + (bytes + 4) ≤ most_bytes = left.second_asks in
    let targets : n.targets ≡ m.targets = ap (λ (x : PairPlainlySpent). x.targets) first.plain in
    let targets1 : (more m).targets ≡ m.targets + 1 = counts.one m in
    let targets2 : (more m).targets ≡ k.targets = ap (λ (x : PairPlainlySpent). x.targets) last.plain in
    let targets_left : n.targets * 4 + (bytes + 4) ≤ most_bytes = left.targets in
    let fetches : m.fetches ≤ n.fetches + most_sheets = first.fetches in
    let fetches1 : (more m).fetches ≡ m.fetches = counts.fetches m in
    let fetches2 : k.fetches ≤ (more m).fetches + most_sheets = last.fetches in
    let fetches_left : n.fetches + (bytes + 4 + 1) * most_sheets ≤ most_fetches = left.fetches in
    let others : m.second_fetches ≤ n.second_fetches + most_sheets = first.second_fetches in
    let others1 : (more m).second_fetches ≤ m.second_fetches = counts.fewer m in
    let others2 : k.second_fetches ≤ (more m).second_fetches + most_sheets = last.second_fetches in
    let others_left : n.second_fetches + (bytes + 4 + 1) * most_sheets ≤ most_fetches = left.second_fetches in
    record {
      asks = omega (arith, asks, asks1, asks2, asks_left);
      second_asks = omega (arith, second, second1, second2, second_left);
      targets = omega (arith, targets, targets1, targets2, targets_left);
      fetches = omega (arith, fetches, fetches1, fetches2, fetches_left);
      second_fetches = omega (arith, others, others1, others2, others_left);
    }

-- an attach or a detach is sent between two settles
targets-together : (bytes : ℕ) (text : List ℕ) (more : PairSpent → PairSpent) (w v : PairRun) → Together (bytes + least_line) w v
    → CountsTarget more → TargetGoes w.state.attached text → DeedHasRoom (targeting text more) v
    → Together bytes (pair_settled (sent_up text more (pair_settled w))) (pair_refreshes (sent_up text more (pair_refreshes v)))
targets-together bytes text more w v both counts go room =
    let w1 : PairRun = pair_settled w in
    let v1 : PairRun = pair_refreshes v in
    let before = line-fetches v.spent bytes both.left in
    let first : SettledAs w v v1 = settle-runs w v both.runs before.0 before.1 room.0 in
    let same : w.state.attached ≡ w1.state.attached = sym (settle-keeps pair_reads client_steps MaySend w both.calm.fit.calm) in
    let w2 : PairRun = sent_up text more w1 in
    let v2 : PairRun = sent_up text more v1 in
    let sent : RunsTogether w2 v2 =
    targeted-together text more w1 v1 (subst (λ a. TargetGoes a text) same go) (counts.alike w1.spent v1.spent first.runs.agrees.spent)
    first.rests first.runs in
    let spent : SettleSpent v.spent v1.spent = settle-spent w v v1 both.runs first in
    let few = target-fetches v.spent v1.spent bytes more counts spent both.left in
    let s : SettledAs w2 v2 (pair_refreshes v2) = settle-runs w2 v2 sent few.0 few.1 room.1 in
    record {
      runs = s.runs;
      calm = calm-at-rest (pair_settled w2) s.runs.fits (settled-rests pair_runner PairIsFit no_fronts w2 s.runs.fits);
      calm_fresh = calm-at-rest (pair_refreshes v2) s.runs.fits_fresh s.rests;
      left = target-left v.spent v1.spent (pair_refreshes v2).spent bytes more counts spent (settle-spent w2 v2 (pair_refreshes v2) sent s)
          both.left;
    }

-- The line is carried out in both runs, where a session is attached if it names the second front end or detaches, and none if it attaches;
-- and where there is room for each of its steps in the run with fetches.
pub line-together : (bytes : ℕ) (line : PairForm) (w v : PairRun) → IsPairLater line → session_fault (is_some w.state.attached) line ≡ None
    → Together (bytes + least_line) w v → DeedsHaveRoom (deeds line v) v
    → Together bytes (after_pair_line line w) (fresh_pair_line line v)
line-together bytes line w v later lacks both room =
    together-told bytes (after_deeds_by pair_settled (deeds line w) w) (after_deeds_by pair_refreshes (deeds line v) v)
    (told_after line (after_deeds_by pair_settled (deeds line w) w)) (told_after line (after_deeds_by pair_refreshes (deeds line v) v))
    (by line later lacks room)
  where
    Done : List PairDeed → List PairDeed → Type 0
    Done ds es = Together bytes (after_deeds_by pair_settled ds w) (after_deeds_by pair_refreshes es v)

    spent : pair_plainly w.spent ≡ pair_plainly v.spent
    spent = both.runs.agrees.spent

    attached : w.state.attached ≡ v.state.attached
    attached = ap (λ (s : PageSessions). s.attached) both.runs.agrees.state

    small : (k : ℕ) → w.state.attached ≡ Some k → IsSessionNumber k
    small k is = attached-number w.spent both.runs.fits.front w.state (awaited w.up) k both.runs.fits.fit is

    nothing : Together bytes w v
    nothing = together-fewer bytes (bytes + least_line) w v (omega arith) both

    settles : DeedsHaveRoom (settle_deed ∷ []) v → Done (settle_deed ∷ []) (settle_deed ∷ [])
    settles room =
        let bytes_are : bytes + least_line ≡ bytes + 3 + 1 = omega arith in
        together-fewer bytes (bytes + 3) (pair_settled w) (pair_refreshes v) (omega arith)
        (settle-together (bytes + 3) w v (subst (λ n. Together n w v) bytes_are both) room.0)

    turns : (x : Turn) → IsTurn x → DeedsHaveRoom (passing (turning x) ∷ []) v → Done (passing (turning x) ∷ []) (passing (turning x) ∷ [])
    turns x turn room = turned-together bytes x w v turn room.0 nothing

    asks : (a : AskForm) → CanSend a → may_ask a ≡ true → Done (ask_deed false a w ∷ []) (ask_deed false a v ∷ [])
    asks a can may =
        let few : v.spent.asks * 4 + (bytes + 4) ≤ most_bytes = both.left.asks in
        let same : w.spent.asks ≡ v.spent.asks = ap (λ (k : PairPlainlySpent). k.asks) spent in
        let go = first-goes a w.spent.asks w.state.attached (omega (arith, few, same)) can may in
        subst (λ n. Together bytes (sent_up (command_text (w.spent.asks + 1) a.method a.params None) (one_ask_on false) w)
        (sent_up (command_text (n + 1) a.method a.params None) (one_ask_on false) v)) same
        (sent-together bytes (bytes + least_line) (command_text (w.spent.asks + 1) a.method a.params None) (one_ask_on false) w v go
        (ap (λ (k : PairPlainlySpent). record k { asks = k.asks + 1 }) spent) (ask-left false v.spent bytes both.left) both)

    asks-second : (o : Option ℕ) (a : AskForm) → w.state.attached ≡ o → cond (is_some o) None (Some BadSession) ≡ None → CanSend a
        → may_ask_second a ≡ true → Done (ask_deed true a w ∷ []) (ask_deed true a v ∷ [])
    asks-second None a is lacks can may = absurd cc
    asks-second (Some k) a is lacks can may =
        let few : v.spent.second_asks * 4 + (bytes + 4) ≤ most_bytes = both.left.second_asks in
        let same : w.spent.second_asks ≡ v.spent.second_asks = ap (λ (x : PairPlainlySpent). x.second_asks) spent in
        let text = command_text (w.spent.second_asks + 1) a.method a.params (session_on true w.state.attached) in
        let go : MayGo w.state.attached text =
        subst (λ o. MayGo o (command_text (w.spent.second_asks + 1) a.method a.params (session_on true o))) (sym is)
        (second-goes a w.spent.second_asks k (omega (arith, few, same)) can may (small k is)) in
        subst (λ o. Together bytes (sent_up text (one_ask_on true) w)
        (sent_up (command_text (v.spent.second_asks + 1) a.method a.params (session_on true o)) (one_ask_on true) v)) attached
        (subst (λ n. Together bytes (sent_up text (one_ask_on true) w)
        (sent_up (command_text (n + 1) a.method a.params (session_on true w.state.attached)) (one_ask_on true) v)) same
        (sent-together bytes (bytes + least_line) text (one_ask_on true) w v go
        (ap (λ (x : PairPlainlySpent). record x { second_asks = x.second_asks + 1 }) spent) (ask-left true v.spent bytes both.left) both))

    ids : next_target w.spent ≡ next_target v.spent
    ids = ap (λ (k : PairPlainlySpent). fetch_limit + k.targets) spent

    few-targets : w.spent.targets < 2 ^ 52
    few-targets =
        let few : v.spent.targets * 4 + (bytes + 4) ≤ most_bytes = both.left.targets in
        let same : w.spent.targets ≡ v.spent.targets = ap (λ (k : PairPlainlySpent). k.targets) spent in
        omega (arith, few, same)

    attaches-both : w.state.attached ≡ None → DeedsHaveRoom (deeds attach_session v) v
        → Done (deeds attach_session w) (deeds attach_session v)
    attaches-both none room =
        let go : TargetGoes w.state.attached (attach_text (next_target v.spent)) =
        subst (λ o. TargetGoes o (attach_text (next_target v.spent))) (sym none)
        (subst (λ id. TargetGoes None (attach_text id)) ids (attach-goes w.spent.targets few-targets)) in
        subst (λ id. Together bytes (pair_settled (sent_up (attach_text id) one_attach (pair_settled w)))
        (pair_refreshes (sent_up (attach_text (next_target v.spent)) one_attach (pair_refreshes v)))) (sym ids)
        (targets-together bytes (attach_text (next_target v.spent)) one_attach w v both counts-attach go room.0)

    detaches-both : (o : Option ℕ) → w.state.attached ≡ o → DeedsHaveRoom (detach_deeds o (next_target v.spent)) v
        → Done (detach_deeds o (next_target w.spent)) (detach_deeds o (next_target v.spent))
    detaches-both None is room = nothing
    detaches-both (Some k) is room =
        let t = session_text k in
        let go : TargetGoes w.state.attached (detach_text (next_target v.spent) t) =
        subst (λ o. TargetGoes o (detach_text (next_target v.spent) t)) (sym is)
        (subst (λ id. TargetGoes (Some k) (detach_text id t)) ids (detach-goes w.spent.targets k few-targets (small k is))) in
        subst (λ id. Together bytes (pair_settled (sent_up (detach_text id t) one_detach (pair_settled w)))
        (pair_refreshes (sent_up (detach_text (next_target v.spent) t) one_detach (pair_refreshes v)))) (sym ids)
        (targets-together bytes (detach_text (next_target v.spent) t) one_detach w v both counts-detach go room.0)

    alone : (o : Option ℕ) → w.state.attached ≡ o → cond (is_some o) (Some BadSession) None ≡ None → w.state.attached ≡ None
    alone None is lacks = is
    alone (Some k) is lacks = absurd cc

    by : (line : PairForm) → IsPairLater line → session_fault (is_some w.state.attached) line ≡ None → DeedsHaveRoom (deeds line v) v
        → Done (deeds line w) (deeds line v)
    by attach_session later lacks room = attaches-both (alone w.state.attached refl lacks) room
    by detach_session later lacks room =
        subst (λ o. Done (detach_deeds w.state.attached (next_target w.spent)) (detach_deeds o (next_target v.spent))) attached
        (detaches-both w.state.attached refl
        (subst (λ o. DeedsHaveRoom (detach_deeds o (next_target v.spent)) v) (sym attached) room))
    by (of_first (load page)) later lacks room = turns (loads page) later.0 room
    by (of_first (forms.act a)) later lacks room = turns (acts a) later.0 room
    by (of_first (ask a)) later lacks room = asks a later.0 later.1
    by (of_first (forms.raw text)) later lacks room =
        sent-together bytes (bytes + least_line) text none_more w v (raw-goes text w.state.attached later.0.0 later.0.1) spent
        (left-fewer v.spent bytes (bytes + least_line) (omega arith) both.left) both
    by (of_first (up n)) later lacks room = up-together bytes n w v room.0 nothing
    by (of_first (down n)) later lacks room = down-together bytes n w v nothing
    by (of_first settle) later lacks room = settles room
    by (of_first show_front) later lacks room = settles room
    by (of_first show_page) later lacks room = nothing
    by (of_first show_sheets) later lacks room = settles room
    by (of_first show_replies) later lacks room = settles room
    by (of_first show_pauses) later lacks room = settles room
    by (of_first show_panels) later lacks room = settles room
    by (of_first (show_styles k)) later lacks room = settles room
    by (of_first (close k)) later lacks room = nothing
    by (of_second (load page)) later lacks room = nothing
    by (of_second (forms.act a)) later lacks room = nothing
    by (of_second (ask a)) later lacks room = asks-second w.state.attached a refl lacks later.0 later.1
    by (of_second (forms.raw text)) later lacks room = nothing
    by (of_second (up n)) later lacks room = nothing
    by (of_second (down n)) later lacks room = nothing
    by (of_second settle) later lacks room = nothing
    by (of_second show_front) later lacks room = settles room
    by (of_second show_page) later lacks room = nothing
    by (of_second show_sheets) later lacks room = settles room
    by (of_second show_replies) later lacks room = settles room
    by (of_second show_pauses) later lacks room = settles room
    by (of_second show_panels) later lacks room = nothing
    by (of_second (show_styles k)) later lacks room = settles room
    by (of_second (close k)) later lacks room = nothing
