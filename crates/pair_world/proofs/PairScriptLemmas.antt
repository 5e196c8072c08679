-- After any number of the lines of a script both front ends show their sessions.
use Rattle.std.proofs.Common.{◌≡◌, ℕ, zero, suc, ◌+◌, ◌<◌, ◌≤◌, ◌^◌, true, false, cond, length, take, List, [], ◌∷◌, ◌++◌, codes}
use Rattle.std.proofs.Common.{Option, Some, None, is_some, refl, sym, ◌∙◌, ap, subst, arith}
use Rattle.std.specs.Prelude.{⊤, option_and_then}
use Rattle.std.specs.Option.{option_to_list}
use Rattle.serde_json.specs.Find.{get_member, as_str, as_object}
use Rattle.node_tree.specs.Keys.{first_of}
use Rattle.page_forms.specs.Pages.{LoadedPage, CanLoadPage}
use Rattle.page_forms.specs.Texts.{PageHasTexts}
use Rattle.cdp_json.specs.Kinds.{as_whole, holds_of_some}
use Rattle.cdp_messages.specs.Asked.{json_of, command_text}
use Rattle.cdp_messages.specs.Events.{is_object}
use Rattle.front_mirror.specs.declared.panels.PanelKind.{PanelKind}
use Rattle.pipe_frames.specs.Frames.{IsText, frames_of}
use Rattle.replay_script.specs.Forms as forms
use Rattle.replay_script.specs.Forms.{AskForm, LineForm, load, ask, up, down, settle, show_front, show_page, show_sheets, show_replies}
use Rattle.replay_script.specs.Forms.{show_pauses, show_panels, show_styles, close}
use Rattle.replay_script.specs.Sound.{CanSend}
use Rattle.replay_script.specs.declared.faults.LineFault.{LineFault}
use Rattle.replay_script.specs.PairLines.{PairForm, attach_session, detach_session, of_first, of_second, may_ask, may_ask_second}
use Rattle.replay_script.specs.PairLines.{session_fault, pair_line_form, pair_line_fault}
use Rattle.replay_script.specs.PairScript.{pairs_unless_bad, pair_good_lines, pair_script_forms}
use Rattle.replay_script.specs.PairSeen.{IsPairSound}
use Rattle.replay_script.specs.Sound.{IsSound}
use Rattle.replay_script.specs.Lines.{lines_of}
use Rattle.replay_script.proofs.PairLemmas.{pair_forms_are_sound}
use Rattle.inspect_world.proofs.Inputs.{length-lines_of}
use Rattle.session_mux.specs.Sessions.{session_text}
use Rattle.session_runs.specs.Stream.{held}
use Rattle.session_runs.proofs.Frames.{sent-all, awaited-none}
use Rattle.session_runs.specs.Passages.{sending, turning, delivering_up, delivering_down, settling}
use Rattle.session_runs.specs.Pairs.{attach, detach}
use Rattle.session_runs.specs.PairFit.{IsCalm, MayTarget}
use Rattle.session_runs.specs.PairRuns.{passing, targeting}
use Rattle.session_runs.proofs.CalmLemmas.{settle-keeps}
use Rattle.multi_replay.specs.States.{attach_text, detach_text}
use Rattle.inspect_world.specs.Fits.{ask_by, most_bytes}
use Rattle.inspect_world.specs.ScriptsFit.{IsLater}
use Rattle.pair_world.specs.SessionWays.{frame_way}
use Rattle.pair_world.specs.Clients.{pair_reads, client_steps}
use Rattle.pair_world.specs.Shown.{IsSessionNumber, MaySend}
use Rattle.pair_world.specs.PairFits.{PairFits, MayComeAll}
use Rattle.pair_world.specs.PairRuns.{PairSpent, PairAudience, PairRun, PairDeed, pair_loaded_run, pair_settled, after_deed_by}
use Rattle.pair_world.specs.PairRuns.{after_deeds_by}
use Rattle.pair_world.specs.PairRuns.{none_more}
use Rattle.pair_world.specs.PairRuns.{next_target}
use Rattle.pair_world.specs.PairRuns.{one_attach, one_detach}
use Rattle.pair_world.specs.PairScripts.{deeds, detach_deeds, ask_deed, session_on, after_pair_line, after_pair_lines, pair_lacking}
use Rattle.pair_world.specs.PairScripts.{pair_shown_lines, told_after, settle_deed}
use Rattle.pair_world.specs.PairFresh.{SettleHasRoom}
use Rattle.back_end.specs.Steps.{acts, loads}
use Rattle.replay_script.specs.declared.faults.LineFault.TheVariants.{BadSession}
use Rattle.pair_world.specs.PairScriptsFit.{IsPairLater, DeedRoom, DeedsRoom, LinesRoom, PairInputsFit, PairInputsShow}
use Rattle.pair_world.proofs.PairLemmas.{pairs-fit, pairs-shown, passages-fit-pairs}
use Rattle.pair_world.proofs.SendLemmas.{asks-may-be-sent, session-asks-may-be-sent, bare-frames-may-be-sent, targets-may-be-sent}
use Rattle.pair_world.proofs.DeedLemmas.{ask-id, target-id, ask-command, session-command, ask-alone, ask-of-no-target, both-of}
use Rattle.pair_world.proofs.DeedLemmas.{object-params, number-of}

-- ---- one part of a run

-- a part that may come keeps that both front ends show their sessions
deed-fits : (d : PairDeed) (w : PairRun) → MayComeAll none_more (d ∷ []) w → PairFits w → PairFits (after_deed_by pair_settled d w)
deed-fits (passing (sending text more)) w may fits = passages-fit-pairs none_more 1 (passing (sending text more) ∷ []) w may fits
deed-fits (passing (turning x)) w may fits = passages-fit-pairs none_more 1 (passing (turning x) ∷ []) w may fits
deed-fits (passing (delivering_up n)) w may fits = passages-fit-pairs none_more 1 (passing (delivering_up n) ∷ []) w may fits
deed-fits (passing (delivering_down n)) w may fits = passages-fit-pairs none_more 1 (passing (delivering_down n) ∷ []) w may fits
deed-fits (passing settling) w may fits = passages-fit-pairs none_more 1 (passing settling ∷ []) w may fits
deed-fits (targeting text more) w may fits = passages-fit-pairs none_more 1 (targeting text more ∷ []) w may fits

-- who was told what says nothing of the streams
told-fits : (w : PairRun) (told : PairAudience) → PairFits w → PairFits (record w { told = told })
told-fits w told fits = record {
  front = fits.front;
  is_fold = fits.is_fold;
  fit = fits.fit;
  up_whole = fits.up_whole;
  down_whole = fits.down_whole;
}

-- ---- what lines send

-- few asks were sent, and few sessions attached and detached, if so many more come
pub record IsSmall (n : ℕ) (w : PairRun) : Type 0 where
  pub asks : w.spent.asks + n < 2 ^ 52
  pub second : w.spent.second_asks + n < 2 ^ 52
  pub targets : w.spent.targets + n < 2 ^ 52

ask-may : (n : ℕ) (a : AskForm) (w : PairRun) → IsSmall (suc n) w → CanSend a → may_ask a ≡ true
    → MayComeAll none_more (ask_deed false a w ∷ []) w
ask-may n a w small can may =
    let few : w.spent.asks + suc n < 2 ^ 52 = small.asks in
    let ids = ask-id (w.spent.asks + 1) (omega (arith, few)) in
    let sent = asks-may-be-sent (w.spent.asks + 1) a.method a.params w.state.attached
    (ask-command a (w.spent.asks + 1) ids.0 can (ask-alone a may)) ids.1 (ask-of-no-target a may) in
    ((sent.0, sent.1), tt)

second-may : (n k : ℕ) (a : AskForm) (w : PairRun) → IsSmall (suc n) w → CanSend a → may_ask_second a ≡ true → w.state.attached ≡ Some k
    → IsSessionNumber k
    → MayComeAll none_more (ask_deed true a w ∷ []) w
second-may n k a w small can may is low =
    let few : w.spent.second_asks + suc n < 2 ^ 52 = small.second in
    let id = w.spent.second_asks + 1 in
    let ids = ask-id id (omega (arith, few)) in
    let parts = both-of (may_ask a) (holds_of_some is_object a.params) may in
    let plain = ask-command a id ids.0 can (ask-alone a parts.0) in
    let sent = session-asks-may-be-sent id k a.method a.params (session-command id k a.method a.params low plain) plain
    (object-params a.params parts.1) ids.1 in (
      subst (λ o. IsText (command_text id a.method a.params (session_on true o))
          × IsCalm pair_reads client_steps MaySend o (frame_way (command_text id a.method a.params (session_on true o)))) (sym is)
          (sent.0, sent.1),
      tt,
    )

attach-may : (n : ℕ) (w : PairRun) → IsSmall (suc n) w → PairFits w → w.state.attached ≡ None
    → DeedRoom (targeting (attach_text (next_target w.spent)) one_attach) w
    → MayComeAll none_more (targeting (attach_text (next_target w.spent)) one_attach ∷ []) w
attach-may n w small fits none room =
    let few : w.spent.targets + suc n < 2 ^ 52 = small.targets in
    let target = target-id w.spent.targets (omega (arith, few)) in
    let sent = (targets-may-be-sent (next_target w.spent) 1 target (omega arith, omega arith)).0 in
    let same : (pair_settled w).state.attached ≡ None = settle-keeps pair_reads client_steps MaySend w fits.fit.calm ∙ none in (
      record {
        letters = sent.0;
        waiting = record { id = next_target w.spent; kind = attach };
        may_target = subst (λ o. MayTarget pair_reads client_steps o (frame_way (attach_text (next_target w.spent)))
            (record { id = next_target w.spent; kind = attach })) (sym same) sent.1;
        room = room.0;
        room_after = room.1;
      },
      tt,
    )

detach-may : (n k : ℕ) (w : PairRun) → IsSmall (suc n) w → PairFits w → w.state.attached ≡ Some k → IsSessionNumber k
    → DeedRoom (targeting (detach_text (next_target w.spent) (session_text k)) one_detach) w
    → MayComeAll none_more (targeting (detach_text (next_target w.spent) (session_text k)) one_detach ∷ []) w
detach-may n k w small fits is low room =
    let few : w.spent.targets + suc n < 2 ^ 52 = small.targets in
    let target = target-id w.spent.targets (omega (arith, few)) in
    let sent = (targets-may-be-sent (next_target w.spent) k target low).1 in
    let same : (pair_settled w).state.attached ≡ Some k = settle-keeps pair_reads client_steps MaySend w fits.fit.calm ∙ is in (
      record {
        letters = sent.0;
        waiting = record { id = next_target w.spent; kind = detach };
        may_target = subst (λ o. MayTarget pair_reads client_steps o (frame_way (detach_text (next_target w.spent) (session_text k)))
            (record { id = next_target w.spent; kind = detach })) (sym same) sent.1;
        room = room.0;
        room_after = room.1;
      },
      tt,
    )

-- ---- one line

-- what a line does may come
line-may : (n : ℕ) (line : PairForm) (w : PairRun) → IsPairLater line → session_fault (is_some w.state.attached) line ≡ None
    → IsSmall (suc n) w → PairFits w → DeedsRoom (deeds line w) w → PairFits (after_pair_line line w)
line-may n line w later lacks small fits room = told-fits (after_deeds w line) (told_after line (after_deeds w line))
    (by line later lacks room)
  where
    after_deeds : PairRun → PairForm → PairRun
    after_deeds w line = after_deeds_by pair_settled (deeds line w) w

    one : (d : PairDeed) → MayComeAll none_more (d ∷ []) w → PairFits (after_deeds_by pair_settled (d ∷ []) w)
    one d may = deed-fits d w may fits

    attached-number : (k : ℕ) → w.state.attached ≡ Some k → IsSessionNumber k
    attached-number k is =
        number-of w.state.side w.state.second w.state.next k _ fits.front.two w.state.attached fits.fit.two is

    detaching : (o : Option ℕ) → o ≡ w.state.attached → DeedsRoom (detach_deeds o (next_target w.spent)) w
        → PairFits (after_deeds_by pair_settled (detach_deeds o (next_target w.spent)) w)
    detaching None is room = fits
    detaching (Some k) is room =
        one (targeting (detach_text (next_target w.spent) (session_text k)) one_detach)
        (detach-may n k w small fits (sym is) (attached-number k (sym is)) room.0)

    asking : (o : Option ℕ) (a : AskForm) → o ≡ w.state.attached → cond (is_some o) None (Some BadSession) ≡ None → CanSend a
        → may_ask_second a ≡ true
        → PairFits (after_deeds_by pair_settled (ask_deed true a w ∷ []) w)
    asking None a is lacks can may = absurd cc
    asking (Some k) a is lacks can may =
        one (ask_deed true a w) (second-may n k a w small can may (sym is) (attached-number k (sym is)))

    alone : (o : Option ℕ) → o ≡ w.state.attached → cond (is_some o) (Some BadSession) None ≡ None → w.state.attached ≡ None
    alone None is lacks = sym is
    alone (Some k) is lacks = absurd cc

    settles : SettleHasRoom w → PairFits (after_deeds_by pair_settled (settle_deed ∷ []) w)
    settles room = one settle_deed (room, tt)

    by : (line : PairForm) → IsPairLater line → session_fault (is_some w.state.attached) line ≡ None → DeedsRoom (deeds line w) w
        → PairFits (after_deeds_by pair_settled (deeds line w) w)
    by attach_session later lacks room =
        one (targeting (attach_text (next_target w.spent)) one_attach)
        (attach-may n w small fits (alone w.state.attached refl lacks) room.0)
    by detach_session later lacks room = detaching w.state.attached refl room
    by (of_first (load page)) later lacks room = one (passing (turning (loads page))) ((room.0, later.0), tt)
    by (of_first (forms.act a)) later lacks room = one (passing (turning (acts a))) ((room.0, later.0), tt)
    by (of_first (ask a)) later lacks room = one (ask_deed false a w) (ask-may n a w small later.0 later.1)
    by (of_first (forms.raw text)) later lacks room =
        let sent = bare-frames-may-be-sent text w.state.attached later.0.0 later.0.1 in
        one (passing (sending text none_more)) ((sent.0, sent.1), tt)
    by (of_first (up n)) later lacks room = one (passing (delivering_up n)) (room.0, tt)
    by (of_first (down n)) later lacks room = one (passing (delivering_down n)) (tt, tt)
    by (of_first settle) later lacks room = settles room.0
    by (of_first show_front) later lacks room = settles room.0
    by (of_first show_page) later lacks room = fits
    by (of_first show_sheets) later lacks room = settles room.0
    by (of_first show_replies) later lacks room = settles room.0
    by (of_first show_pauses) later lacks room = settles room.0
    by (of_first show_panels) later lacks room = settles room.0
    by (of_first (show_styles k)) later lacks room = settles room.0
    by (of_first (close k)) later lacks room = fits
    by (of_second (load page)) later lacks room = fits
    by (of_second (forms.act a)) later lacks room = fits
    by (of_second (ask a)) later lacks room = asking w.state.attached a refl lacks later.0 later.1
    by (of_second (forms.raw text)) later lacks room = fits
    by (of_second (up n)) later lacks room = fits
    by (of_second (down n)) later lacks room = fits
    by (of_second settle) later lacks room = fits
    by (of_second show_front) later lacks room = settles room.0
    by (of_second show_page) later lacks room = fits
    by (of_second show_sheets) later lacks room = settles room.0
    by (of_second show_replies) later lacks room = settles room.0
    by (of_second show_pauses) later lacks room = settles room.0
    by (of_second show_panels) later lacks room = fits
    by (of_second (show_styles k)) later lacks room = settles room.0
    by (of_second (close k)) later lacks room = fits

-- a line counts for one
line-small : (n : ℕ) (line : PairForm) (w : PairRun) → IsSmall (suc n) w → IsSmall n (after_pair_line line w)
line-small n line w small = by line where
  asks : w.spent.asks + suc n < 2 ^ 52
  asks = small.asks

  second : w.spent.second_asks + suc n < 2 ^ 52
  second = small.second

  targets : w.spent.targets + suc n < 2 ^ 52
  targets = small.targets

  same : (told : PairAudience) (v : PairRun) → v.spent ≡ w.spent → IsSmall n (record v { told = told })
  same told v is = record {
    asks = subst (λ (s : PairSpent). s.asks + n < 2 ^ 52) (sym is) (omega (arith, asks));
    second = subst (λ (s : PairSpent). s.second_asks + n < 2 ^ 52) (sym is) (omega (arith, second));
    targets = subst (λ (s : PairSpent). s.targets + n < 2 ^ 52) (sym is) (omega (arith, targets));
  }

  detached : (o : Option ℕ) (told : PairAudience)
      → IsSmall n (record (after_deeds_by pair_settled (detach_deeds o (next_target w.spent)) w) { told = told })
  detached None told = same told w refl
  detached (Some k) told = record {
    asks = omega (arith, asks);
    second = omega (arith, second);
    targets = omega (arith, targets);
  }

  by : (line : PairForm) → IsSmall n (after_pair_line line w)
  by attach_session = record { asks = omega (arith, asks); second = omega (arith, second); targets = omega (arith, targets) }
  by detach_session = detached w.state.attached (told_after detach_session
      (after_deeds_by pair_settled (detach_deeds w.state.attached (next_target w.spent)) w))
  by (of_first (load page)) = same _ (after_deeds_by pair_settled (deeds (of_first (load page)) w) w) refl
  by (of_first (forms.act a)) = same _ (after_deeds_by pair_settled (deeds (of_first (forms.act a)) w) w) refl
  by (of_first (ask a)) = record { asks = omega (arith, asks); second = omega (arith, second); targets = omega (arith, targets) }
  by (of_first (forms.raw text)) = same _ (after_deeds_by pair_settled (deeds (of_first (forms.raw text)) w) w) refl
  by (of_first (up n)) = same _ (after_deeds_by pair_settled (deeds (of_first (up n)) w) w) refl
  by (of_first (down n)) = same _ (after_deeds_by pair_settled (deeds (of_first (down n)) w) w) refl
  by (of_first settle) = same _ (pair_settled w) refl
  by (of_first show_front) = same _ (pair_settled w) refl
  by (of_first show_page) = same _ w refl
  by (of_first show_sheets) = same _ (pair_settled w) refl
  by (of_first show_replies) = same _ (pair_settled w) refl
  by (of_first show_pauses) = same _ (pair_settled w) refl
  by (of_first show_panels) = same _ (pair_settled w) refl
  by (of_first (show_styles k)) = same _ (pair_settled w) refl
  by (of_first (close k)) = same _ w refl
  by (of_second (load page)) = same _ w refl
  by (of_second (forms.act a)) = same _ w refl
  by (of_second (ask a)) = record { asks = omega (arith, asks); second = omega (arith, second); targets = omega (arith, targets) }
  by (of_second (forms.raw text)) = same _ w refl
  by (of_second (up n)) = same _ w refl
  by (of_second (down n)) = same _ w refl
  by (of_second settle) = same _ w refl
  by (of_second show_front) = same _ (pair_settled w) refl
  by (of_second show_page) = same _ w refl
  by (of_second show_sheets) = same _ (pair_settled w) refl
  by (of_second show_replies) = same _ (pair_settled w) refl
  by (of_second show_pauses) = same _ (pair_settled w) refl
  by (of_second show_panels) = same _ w refl
  by (of_second (show_styles k)) = same _ (pair_settled w) refl
  by (of_second (close k)) = same _ w refl

-- ---- lines

-- each of some lines may come after the load
abbrev pub ArePairLater : List PairForm → Type 0
ArePairLater [] = ⊤
ArePairLater (line ∷ lines) = IsPairLater line × ArePairLater lines

-- where neither is there, the first is not
pub first-none : {A : Type 0} (a b : Option A) → first_of a b ≡ None → a ≡ None
first-none None b e = refl
first-none (Some x) b e = absurd cc

-- after any number of the lines that are carried out
pub lines-fit : (n : ℕ) (lines : List PairForm) (w : PairRun) → ArePairLater lines → IsSmall (length lines) w → PairFits w
    → LinesRoom (take n (pair_shown_lines lines w)) w → PairFits (after_pair_lines (take n (pair_shown_lines lines w)) w)
lines-fit zero lines w later small fits room = fits
lines-fit (suc n) [] w later small fits room = fits
lines-fit (suc n) (line ∷ lines) w later small fits room =
    by (pair_lacking line w) refl
    (λ next. lines-fit n lines (after_pair_line line w) later.1 (line-small (length lines) line w small) next) room
  where
    rest : List PairForm
    rest = pair_shown_lines lines (after_pair_line line w)

    by : (o : Option LineFault) → pair_lacking line w ≡ o
        → (PairFits (after_pair_line line w) → LinesRoom (take n rest) (after_pair_line line w)
        → PairFits (after_pair_lines (take n rest) (after_pair_line line w)))
        → LinesRoom (take (suc n) (pairs_unless_bad o (line ∷ rest))) w
        → PairFits (after_pair_lines (take (suc n) (pairs_unless_bad o (line ∷ rest))) w)
    by None is next room =
        next (line-may (length lines) line w later.0 (first-none _ _ is) small fits room.0) room.1
    by (Some fault) is next room = fits

-- ---- scripts

-- a script's page may be loaded, its lines may come, and they are few
pub record IsPairScript (page : LoadedPage) (lines : List PairForm) : Type 0 where
  pub can : CanLoadPage page
  pub texts : PageHasTexts page
  pub later : ArePairLater lines
  pub few : length lines ≤ most_bytes

-- a text that names no ask by its id is none
pub no-ask-by : {A B C : Type 0} (f : A → Option B) (g : A → B → Option C) (o : Option A) → option_and_then f o ≡ None
    → option_and_then (λ a. option_and_then (g a) (f a)) o ≡ None
no-ask-by f g None e = refl
no-ask-by f g (Some a) e = ap (option_and_then (g a)) e

-- what may be done with a form may come
sound-later : (form : LineForm) → IsSound form → IsLater form
sound-later (load page) s = (s.can, s.texts)
sound-later (forms.act a) s = (s.insertable, s.texts)
sound-later (ask a) s = s
sound-later (forms.raw text) s = (
  s.no_zero,
  record {
    no_ask = no-ask-by (λ ms. option_and_then as_whole (get_member (codes "id") ms))
        (λ ms id. option_and_then (λ method. Some (ask_by ms id method)) (option_and_then as_str (get_member (codes "method") ms)))
        (option_and_then as_object (json_of text)) s.no_ask.no_id;
    why = s.no_ask.why;
    refused = s.no_ask.refused false;
  },
)
sound-later (up n) s = tt
sound-later (down n) s = tt
sound-later settle s = tt
sound-later show_front s = tt
sound-later show_page s = tt
sound-later show_sheets s = tt
sound-later show_replies s = tt
sound-later show_pauses s = tt
sound-later show_panels s = tt
sound-later (show_styles k) s = tt
sound-later (close k) s = tt

pair-later : (form : PairForm) → IsPairSound form → IsPairLater form
pair-later attach_session s = tt
pair-later detach_session s = tt
pair-later (of_first form) s = (sound-later form s.0, s.1)
pair-later (of_second form) s = (sound-later form s.0, s.1)

-- the lines before the first that is refused by its form may come
good-later : (nth : ℕ) (lines : List (List ℕ)) → ArePairLater (pair_good_lines nth lines)
good-later nth [] = tt
good-later nth (line ∷ more) =
    by (pair_line_fault nth line) refl (pair_line_form line) refl (pair_good_lines (nth + 1) more) (good-later (nth + 1) more)
  where
    by : (o : Option LineFault) → pair_line_fault nth line ≡ o → (f : Option PairForm) → pair_line_form line ≡ f → (rest : List PairForm)
        → ArePairLater rest → ArePairLater (pairs_unless_bad o (option_to_list f ++ rest))
    by None e None g rest later = later
    by None e (Some form) g rest later = (pair-later form (pair_forms_are_sound nth line form e g), later)
    by (Some fault) e f g rest later = tt

-- they are no more than the lines
good-few : (nth : ℕ) (lines : List (List ℕ)) → length (pair_good_lines nth lines) ≤ length lines
good-few nth [] = omega arith
good-few nth (line ∷ more) =
    by (pair_line_fault nth line) (pair_line_form line) (pair_good_lines (nth + 1) more) (good-few (nth + 1) more)
  where
    by : (o : Option LineFault) (f : Option PairForm) (rest : List PairForm) → length rest ≤ length more
        → length (pairs_unless_bad o (option_to_list f ++ rest)) ≤ suc (length more)
    by None None rest few = omega (arith, few)
    by None (Some form) rest few = omega (arith, few)
    by (Some fault) f rest few = omega arith

-- so is each that is read
pub pair-script : (input : List ℕ) (page : LoadedPage) (lines : List PairForm) → pair_script_forms input ≡ of_first (load page) ∷ lines
    → length input ≤ most_bytes → IsPairScript page lines
pair-script input page lines is long =
    let all : ArePairLater (of_first (load page) ∷ lines) = subst ArePairLater is (good-later 1 (lines_of input)) in
    let count : suc (length lines) ≤ length (lines_of input) = subst (λ (fs : List PairForm). length fs ≤ length (lines_of input)) is
    (good-few 1 (lines_of input)) in
    let bytes : length (lines_of input) ≤ length input = length-lines_of input in
    record { can = all.0.0.0; texts = all.0.0.1; later = all.1; few = omega (arith, count, bytes, long) }

script-small : (kinds : List PanelKind) (page : LoadedPage) (lines : List PairForm) → length lines ≤ most_bytes
    → IsSmall (length lines) (pair_loaded_run kinds page)
script-small kinds page lines few = record { asks = omega (arith, few); second = omega (arith, few); targets = omega (arith, few) }

pub pair-inputs-fit : PairInputsFit
pair-inputs-fit input page lines is long kinds n room =
    let s = pair-script input page lines is long in
    lines-fit n lines (pair_loaded_run kinds page) s.later (script-small kinds page lines s.few)
    (pairs-fit none_more _ _ page s.can s.texts [] tt 0) room

pub pair-inputs-show : PairInputsShow
pair-inputs-show input page lines is long kinds n room up_still down_still =
    let carried = take n (pair_shown_lines lines (pair_loaded_run kinds page)) in
    let w = after_pair_lines carried (pair_loaded_run kinds page) in
    let fits : PairFits w = pair-inputs-fit input page lines is long kinds n room in
    let held : held w.up ≡ [] = ap (λ bytes. (frames_of bytes).rest) (sym (sent-all w.up up_still)) ∙ fits.up_whole in
    pairs-shown w (awaited-none w.up up_still held) fits
