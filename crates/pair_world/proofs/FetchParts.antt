-- Two runs of one script, one with the fetches of its settles, go on together as frames are sent and bytes delivered.
use Rattle.std.proofs.Common.{◌≡◌, ℕ, ◌+◌, ◌*◌, ◌≤◌, true, List, [], Option, Some, None, refl}
use Rattle.std.proofs.Common.{◌<◌, ◌^◌, ◌∙◌}
use Rattle.std.proofs.Common.{sym}
use Rattle.std.proofs.Common.{option_and_then, ap, subst, arith}
use Rattle.std.specs.Prelude.{All}
use Rattle.std.specs.Option.{option_to_list}
use Rattle.std.proofs.lemmas.List.Elements.{All-nil, All-cons}
use Rattle.node_tree.specs.Numbers.{fetch_limit}
use Rattle.pipe_frames.specs.Frames.{IsText}
use Rattle.page_forms.specs.Pages.{LoadedPage, CanLoadPage}
use Rattle.page_forms.specs.Texts.{PageHasTexts}
use Rattle.serde_json.specs.Data.{string}
use Rattle.cdp_json.specs.Kinds.{holds_of_some}
use Rattle.cdp_messages.specs.Asked.{command_text}
use Rattle.cdp_messages.specs.Events.{is_object}
use Rattle.front_mirror.specs.declared.replies.Ask.{Ask}
use Rattle.front_mirror.specs.declared.panels.PanelKind.{PanelKind}
use Rattle.front_mirror.specs.Front.{first_value}
use Rattle.replay_script.specs.Forms.{AskForm}
use Rattle.replay_script.specs.Sound.{CanSend}
use Rattle.replay_script.specs.PairLines.{may_ask, may_ask_second}
use Rattle.session_mux.specs.Sessions.{session_text}
use Rattle.back_end.specs.States.{loaded_side}
use Rattle.back_end.specs.Steps.{Turn}
use Rattle.back_end.specs.Laws.{IsTurn}
use Rattle.back_end.proofs.StartLemmas.{IsState-first}
use Rattle.session_runs.specs.Stream.{arriving}
use Rattle.session_runs.specs.World.{sent_up, turned, delivered_up, delivered_down}
use Rattle.session_runs.specs.Fold.{RoomThroughout, Fits}
use Rattle.session_runs.specs.Agreement.{IsStill, IsAtRest}
use Rattle.session_runs.specs.Pairs.{Way, to_root, to_session, attaches, detaches, attach, detach, WaitingTarget, take_pair, join_pair}
use Rattle.session_runs.specs.Pairs.{pair_step, pair_act}
use Rattle.session_runs.specs.PairFit.{MayTarget, IsCalm, next_frame, next_target, neither, is_calm}
use Rattle.session_runs.proofs.Frames.{awaited-none}
use Rattle.session_runs.proofs.Worlds.{fits-sent_up, fits-turned, fits-delivered_up, fits-delivered_down}
use Rattle.session_runs.proofs.TogetherLemmas.{together-first, together-sent_up, together-turned, together-delivered_up}
use Rattle.session_runs.proofs.TogetherLemmas.{together-delivered_down}
use Rattle.multi_replay.specs.States.{attach_text, detach_text}
use Rattle.inspect_world.specs.Fits.{ask_of_frame, IsBare, IsPlainFrame, most_bytes, most_sheets, most_fetches}
use Rattle.inspect_world.specs.Costs.{least_line}
use Rattle.inspect_world.proofs.FetchesFit.{plain-sent}
use Rattle.pair_world.specs.SessionWays.{frame_way}
use Rattle.pair_world.specs.Clients.{pair_reads, fresh_client, client_steps}
use Rattle.pair_world.specs.Shown.{IsSessionNumber, MaySend, Shows}
use Rattle.pair_world.specs.FrameLaws.{are_object}
use Rattle.pair_world.specs.PairFits.{PageSessions, PairFits, pair_loaded}
use Rattle.pair_world.specs.PairRuns.{PairSpent, PairAudience, pair_plainly, pair_nothing_spent, pair_audience}
use Rattle.pair_world.specs.PairRuns.{none_more, PairRun, pair_loaded_run}
use Rattle.pair_world.specs.PairScripts.{session_on}
use Rattle.pair_world.specs.PairFresh.{no_fronts, pair_runner, first_fetcher, pair_unstyled, PairIsCalm}
use Rattle.pair_world.specs.PairFresh.{PairIsFit, PairHasLeft, PairTogether, PairRoom}
use Rattle.pair_world.specs.FetchShown.{asks_in_way, IsPlainOfPair}
use Rattle.pair_world.proofs.ClientLemmas.{shows-fresh}
use Rattle.pair_world.proofs.PairLemmas.{pairs-fit}
use Rattle.pair_world.proofs.WayLemmas.{asks-are-the-roots, asks-are-the-sessions, targets-are-known}
use Rattle.pair_world.proofs.SendLemmas.{asks-may-be-sent, session-asks-may-be-sent, bare-way, bare-frames-may-be-sent, targets-may-be-sent}
use Rattle.pair_world.proofs.TargetTexts.{target-counted}
use Rattle.pair_world.proofs.DeedLemmas.{ask-id, target-id, ask-command, session-command, ask-alone, ask-of-no-target, both-of}
use Rattle.pair_world.proofs.DeedLemmas.{object-params}
use Rattle.pair_world.proofs.FetchBoth.{NextOfPair, no_other_fetches, first_laws}
use Rattle.pair_world.proofs.FetchRuns.{fit_laws, NextWhileCalm, still_laws, RunsTogether, room-alike}

-- two runs go together between two lines, while lines of so many bytes more may come
abbrev pub Together : ℕ → PairRun → PairRun → Type 0
Together bytes w v = PairTogether IsPlainOfPair bytes w v

-- ---- what is left

-- room for lines of more bytes is room for fewer
pub left-fewer : (n : PairSpent) (j k : ℕ) → j ≤ k → PairHasLeft n k → PairHasLeft n j
left-fewer n j k less left =
    let asks : n.asks * 4 + k ≤ most_bytes = left.asks in
    let second_asks : n.second_asks * 4 + k ≤ most_bytes = left.second_asks in
    let targets : n.targets * 4 + k ≤ most_bytes = left.targets in
    let fetches : n.fetches + (k + 1) * most_sheets ≤ most_fetches = left.fetches in
    let second_fetches : n.second_fetches + (k + 1) * most_sheets ≤ most_fetches = left.second_fetches in
    record {
      asks = omega (arith, asks, less);
      second_asks = omega (arith, second_asks, less);
      targets = omega (arith, targets, less);
      fetches = omega (arith, fetches, less);
      second_fetches = omega (arith, second_fetches, less);
    }

-- ---- what says nothing of the streams

-- who was told what
pub together-told : (bytes : ℕ) (w v : PairRun) (m n : PairAudience) → Together bytes w v
    → Together bytes (record w { told = m }) (record v { told = n })
together-told bytes w v m n both = record {
  runs = record {
    fits = fits-told w m both.runs.fits;
    fits_fresh = fits-told v n both.runs.fits_fresh;
    agrees = record {
      state = both.runs.agrees.state;
      up = both.runs.agrees.up;
      down = both.runs.agrees.down;
      spent = both.runs.agrees.spent;
      plain = both.runs.agrees.plain;
      fresh = both.runs.agrees.fresh;
      plain_is = both.runs.agrees.plain_is;
      fresh_is = both.runs.agrees.fresh_is;
      same = both.runs.agrees.same;
    };
    plain = both.runs.plain;
  };
  calm = calm-told w m both.calm;
  calm_fresh = calm-told v n both.calm_fresh;
  left = both.left;
} where
  fits-told : (w : PairRun) (n : PairAudience) → Fits (take_pair pair_reads) (join_pair pair_reads) PairIsFit no_fronts w
      → Fits (take_pair pair_reads) (join_pair pair_reads) PairIsFit no_fronts (record w { told = n })
  fits-told w n fits = record {
    front = fits.front;
    is_fold = fits.is_fold;
    fit = fits.fit;
    up_whole = fits.up_whole;
    down_whole = fits.down_whole;
  }

  calm-told : (w : PairRun) (n : PairAudience) → PairFits w → PairFits (record w { told = n })
  calm-told w n fits = record {
    front = fits.front;
    is_fold = fits.is_fold;
    fit = fits.fit;
    up_whole = fits.up_whole;
    down_whole = fits.down_whole;
  }

-- how many bytes more may come
pub together-fewer : (j k : ℕ) (w v : PairRun) → j ≤ k → Together k w v → Together j w v
together-fewer j k w v less both = record {
  runs = both.runs;
  calm = both.calm;
  calm_fresh = both.calm_fresh;
  left = left-fewer v.spent j k less both.left;
}

-- ---- the start

pub loaded-together : (bytes : ℕ) (kinds : List PanelKind) (page : LoadedPage) → CanLoadPage page → PageHasTexts page → bytes ≤ most_bytes
    → Together bytes (pair_loaded_run kinds page) (pair_loaded_run kinds page)
loaded-together bytes kinds page can texts few =
    let fits : PairFits (pair_loaded_run kinds page) =
    pairs-fit none_more pair_nothing_spent (pair_audience kinds) page can texts [] tt 0 in
    let shows : Shows (first_value []) (loaded_side 1 1 page) fresh_client [] =
    shows-fresh (loaded_side 1 1 page) (IsState-first page can texts) in
    record {
      runs =
          together-first pair_runner PairRoom NextOfPair (λ n. IsTurn) PairIsFit fit_laws pair_plainly first_fetcher pair_unstyled
          no_other_fetches most_sheets most_fetches first_laws IsPlainOfPair no_fronts pair_nothing_spent (pair_audience kinds)
          (pair_loaded page)
          (is_calm (record {
            one = shows;
            two = neither;
            calm = tt;
            none_waiting = refl;
            top = omega arith;
            attached_told = refl;
            asked = λ k low more. refl;
          }));
      calm = fits;
      calm_fresh = fits;
      left = record {
        asks = omega (arith, few);
        second_asks = omega (arith, few);
        targets = omega (arith, few);
        fetches = omega (arith, few);
        second_fetches = omega (arith, few);
      };
    }

-- ---- what is sent

-- a frame may be sent while that session is attached, or none, and fetches no text
pub record MayGo (attached : Option ℕ) (text : List ℕ) : Type 0 where
  pub letters : IsText text
  pub plain : IsPlainOfPair text
  pub may : IsCalm pair_reads client_steps MaySend attached (frame_way text)

plain-list : (o : Option Ask) → option_and_then (λ (a : Ask). a.sheet) o ≡ None → All (λ (a : Ask). a.sheet ≡ None) (option_to_list o)
plain-list None e = All-nil (λ (a : Ask). a.sheet ≡ None)
plain-list (Some a) e = All-cons (λ (a : Ask). a.sheet ≡ None) a [] e (All-nil (λ (a : Ask). a.sheet ≡ None))

-- a frame that goes up by this way
plain-way : (frame : List ℕ) (way : Way (List ℕ)) → frame_way frame ≡ way → All (λ (a : Ask). a.sheet ≡ None) (asks_in_way way)
    → IsPlainOfPair frame
plain-way frame way is plain = subst (λ x. All (λ (a : Ask). a.sheet ≡ None) (asks_in_way x)) (sym is) plain

-- the ask after so many others of the first front end
pub first-goes : (a : AskForm) (n : ℕ) (attached : Option ℕ) → n * 4 + least_line ≤ most_bytes → CanSend a → may_ask a ≡ true
    → MayGo attached (command_text (n + 1) a.method a.params None)
first-goes a n attached few can may =
    let text = command_text (n + 1) a.method a.params None in
    let ids = ask-id (n + 1) (omega (arith, few)) in
    let command = ask-command a (n + 1) ids.0 can (ask-alone a may) in
    let other = ask-of-no-target a may in
    let sent = asks-may-be-sent (n + 1) a.method a.params attached command ids.1 other in
    let plain : IsPlainFrame text =
    subst (λ session. IsPlainFrame (command_text (n + 1) a.method a.params session)) (ask-alone a may)
    (plain-sent (n + 1) a can (omega (arith, few))) in
    record {
      letters = sent.0;
      plain = plain-way text (to_root text) (asks-are-the-roots (n + 1) a.method a.params command other)
          (plain-list (ask_of_frame text) plain);
      may = sent.1;
    }

-- of the second, in its session
pub second-goes : (a : AskForm) (n k : ℕ) → n * 4 + least_line ≤ most_bytes → CanSend a → may_ask_second a ≡ true → IsSessionNumber k
    → MayGo (Some k) (command_text (n + 1) a.method a.params (session_on true (Some k)))
second-goes a n k few can may small =
    let t = session_text k in
    let text = command_text (n + 1) a.method a.params (Some (string t)) in
    let inner = command_text (n + 1) a.method a.params None in
    let ids = ask-id (n + 1) (omega (arith, few)) in
    let parts = both-of (may_ask a) (holds_of_some is_object a.params) may in
    let without = ask-command a (n + 1) ids.0 can (ask-alone a parts.0) in
    let command = session-command (n + 1) k a.method a.params small without in
    let are : are_object a.params ≡ true = object-params a.params parts.1 in
    let sent = session-asks-may-be-sent (n + 1) k a.method a.params command without are ids.1 in
    let plain : IsPlainFrame inner =
    subst (λ session. IsPlainFrame (command_text (n + 1) a.method a.params session)) (ask-alone a parts.0)
    (plain-sent (n + 1) a can (omega (arith, few))) in
    record {
      letters = sent.0;
      plain = plain-way text (to_session t inner) (asks-are-the-sessions (n + 1) a.method a.params t command are)
          (plain-list (ask_of_frame inner) plain);
      may = sent.1;
    }

-- a text that names no ask
pub raw-goes : (text : List ℕ) (attached : Option ℕ) → IsText text → IsBare text → MayGo attached text
raw-goes text attached letters bare =
    let sent = bare-frames-may-be-sent text attached letters bare in
    record {
      letters = sent.0;
      plain = plain-way text (to_root text) (bare-way text bare)
          (plain-list (ask_of_frame text) (ap (option_and_then (λ (a : Ask). a.sheet)) bare.no_ask));
      may = sent.1;
    }

-- an attach or a detach that may be sent
pub record TargetGoes (attached : Option ℕ) (text : List ℕ) : Type 0 where
  pub letters : IsText text
  pub plain : IsPlainOfPair text
  pub waiting : WaitingTarget
  pub may : MayTarget pair_reads client_steps attached (frame_way text) waiting

-- an attach after so many others of both
pub attach-goes : (n : ℕ) → n < 2 ^ 52 → TargetGoes None (attach_text (fetch_limit + n))
attach-goes n few =
    let id = fetch_limit + n in
    let target = target-id n few in
    let sent = (targets-may-be-sent id 1 target (omega arith, omega arith)).0 in
    let way = (targets-are-known id 1 (target-counted id target) (omega arith, omega arith)).0 in
    record {
      letters = sent.0;
      plain = plain-way (attach_text id) (attaches id) way (All-nil (λ (a : Ask). a.sheet ≡ None));
      waiting = record { id = id; kind = attach };
      may = sent.1;
    }

-- a detach, while that session is attached
pub detach-goes : (n k : ℕ) → n < 2 ^ 52 → IsSessionNumber k → TargetGoes (Some k) (detach_text (fetch_limit + n) (session_text k))
detach-goes n k few small =
    let id = fetch_limit + n in
    let t = session_text k in
    let target = target-id n few in
    let sent = (targets-may-be-sent id k target small).1 in
    let way = (targets-are-known id k (target-counted id target) small).1 in
    record {
      letters = sent.0;
      plain = plain-way (detach_text id t) (detaches id t) way (All-nil (λ (a : Ask). a.sheet ≡ None));
      waiting = record { id = id; kind = detach };
      may = sent.1;
    }

-- ---- parts of a run

-- a frame is sent
pub sent-together : (bytes k : ℕ) (text : List ℕ) (more : PairSpent → PairSpent) (w v : PairRun) → MayGo w.state.attached text
    → pair_plainly (more w.spent) ≡ pair_plainly (more v.spent) → PairHasLeft (more v.spent) bytes → Together k w v
    → Together bytes (sent_up text more w) (sent_up text more v)
sent-together bytes k text more w v go spent left both =
    let same : w.state.attached ≡ v.state.attached = ap (λ (s : PageSessions). s.attached) both.runs.agrees.state in
    let may : IsCalm pair_reads client_steps MaySend v.state.attached (frame_way text) =
    subst (λ a. IsCalm pair_reads client_steps MaySend a (frame_way text)) same go.may in
    record {
      runs =
          together-sent_up pair_runner PairRoom NextOfPair (λ n. IsTurn) PairIsFit fit_laws pair_plainly first_fetcher pair_unstyled
          no_other_fetches most_sheets most_fetches first_laws IsPlainOfPair no_fronts text more w v go.letters go.plain spent
          (next_frame both.calm.fit.calm go.may) (next_frame both.calm_fresh.fit.calm may) both.runs;
      calm = fits-sent_up pair_runner PairRoom NextWhileCalm (λ n. IsTurn) PairIsCalm still_laws no_fronts text more w go.letters go.may
          both.calm;
      calm_fresh = fits-sent_up pair_runner PairRoom NextWhileCalm (λ n. IsTurn) PairIsCalm still_laws no_fronts text more v go.letters may
          both.calm_fresh;
      left = left;
    }

-- an attach or a detach is sent, once all has come
pub targeted-together : (text : List ℕ) (more : PairSpent → PairSpent) (w v : PairRun) → TargetGoes w.state.attached text
    → pair_plainly (more w.spent) ≡ pair_plainly (more v.spent) → IsAtRest v → RunsTogether w v
    → RunsTogether (sent_up text more w) (sent_up text more v)
targeted-together text more w v go spent rests both =
    let same : w.state.attached ≡ v.state.attached = ap (λ (s : PageSessions). s.attached) both.agrees.state in
    let may : MayTarget pair_reads client_steps v.state.attached (frame_way text) go.waiting =
    subst (λ a. MayTarget pair_reads client_steps a (frame_way text) go.waiting) same go.may in
    let still : IsStill w.up = record {
      flying = both.agrees.up.flying ∙ rests.up.flying;
      held = both.agrees.up.held ∙ rests.up.held;
    } in
    together-sent_up pair_runner PairRoom NextOfPair (λ n. IsTurn) PairIsFit fit_laws pair_plainly first_fetcher pair_unstyled
    no_other_fetches most_sheets most_fetches first_laws IsPlainOfPair no_fronts text more w v go.letters go.plain spent
    (next_target go.waiting (awaited-none w.up still.flying still.held) go.may)
    (next_target go.waiting (awaited-none v.up rests.up.flying rests.up.held) may) both

-- the script makes a step by itself
pub turned-together : (bytes : ℕ) (x : Turn) (w v : PairRun) → IsTurn x → PairRoom v.state → Together bytes w v
    → Together bytes (turned none_more (pair_act pair_reads client_steps) x w) (turned none_more (pair_act pair_reads client_steps) x v)
turned-together bytes x w v turn room both =
    let room_w : PairRoom w.state = subst PairRoom (sym both.runs.agrees.state) room in
    record {
      runs =
          together-turned pair_runner PairRoom NextOfPair (λ n. IsTurn) PairIsFit fit_laws pair_plainly first_fetcher pair_unstyled
          no_other_fetches most_sheets most_fetches first_laws IsPlainOfPair no_fronts x w v room_w room turn turn both.runs;
      calm = fits-turned pair_runner PairRoom NextWhileCalm (λ n. IsTurn) PairIsCalm still_laws no_fronts x w room_w turn both.calm;
      calm_fresh = fits-turned pair_runner PairRoom NextWhileCalm (λ n. IsTurn) PairIsCalm still_laws no_fronts x v room turn
          both.calm_fresh;
      left = both.left;
    }

-- bytes are delivered up
pub up-together : (bytes n : ℕ) (w v : PairRun) → RoomThroughout (pair_step pair_reads client_steps) PairRoom v.state (arriving n v.up)
    → Together bytes w v
    → Together bytes (delivered_up (pair_step pair_reads client_steps) n w) (delivered_up (pair_step pair_reads client_steps) n v)
up-together bytes n w v room both =
    let room_w = room-alike n w v both.runs room in
    record {
      runs =
          together-delivered_up pair_runner PairRoom NextOfPair (λ n. IsTurn) PairIsFit fit_laws pair_plainly first_fetcher pair_unstyled
          no_other_fetches most_sheets most_fetches first_laws IsPlainOfPair no_fronts n w v room_w room both.runs;
      calm = fits-delivered_up pair_runner PairRoom NextWhileCalm (λ n. IsTurn) PairIsCalm still_laws no_fronts n w room_w both.calm;
      calm_fresh = fits-delivered_up pair_runner PairRoom NextWhileCalm (λ n. IsTurn) PairIsCalm still_laws no_fronts n v room
          both.calm_fresh;
      left = both.left;
    }

-- or down
pub down-together : (bytes n : ℕ) (w v : PairRun) → Together bytes w v → Together bytes (delivered_down n w) (delivered_down n v)
down-together bytes n w v both = record {
  runs =
      together-delivered_down pair_runner PairRoom NextOfPair (λ n. IsTurn) PairIsFit fit_laws pair_plainly first_fetcher pair_unstyled
      no_other_fetches most_sheets most_fetches first_laws IsPlainOfPair no_fronts n w v both.runs;
  calm = fits-delivered_down pair_runner PairRoom NextWhileCalm (λ n. IsTurn) PairIsCalm still_laws no_fronts n w both.calm;
  calm_fresh = fits-delivered_down pair_runner PairRoom NextWhileCalm (λ n. IsTurn) PairIsCalm still_laws no_fronts n v both.calm_fresh;
  left = both.left;
}
