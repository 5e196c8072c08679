-- What the fetches of a settle need of two front ends: those of the first, and those of the second in the attached session.
use Rattle.std.proofs.Common.{◌≡◌, ℕ, ◌+◌, ◌^◌, ◌<◌, ◌≤◌, Bool, true, false, cond, bytes_eq, List, [], ◌∷◌, ◌++◌, length, codes}
use Rattle.std.proofs.Common.{Option, Some, None, option_map, Ok, refl, sym, ◌∙◌, ap, subst, arith, append-nil}
use Rattle.std.specs.Prelude.{⊤}
use Rattle.std.proofs.lemmas.Bool.{le-ltb}
use Rattle.std.proofs.lemmas.Slice.Eq.{bytes_eq-Decides}
use Rattle.node_tree.specs.Numbers.{first_fetch}
use Rattle.serde_json.specs.Data.{string}
use Rattle.cdp_json.specs.Kinds.{is_counted}
use Rattle.cdp_json.proofs.ReadBack.{IsUtf8-compact_text}
use Rattle.pipe_frames.specs.Frames.{IsText, frames_of}
use Rattle.cdp_messages.specs.Asked.{command_value}
use Rattle.cdp_messages.specs.Replies.{Message, reply, fault, event, down_of}
use Rattle.cdp_messages.proofs.Commands.{ask_plain}
use Rattle.cdp_messages.proofs.ZeroFree.{texts_have_no_zero}
use Rattle.front_mirror.specs.declared.replies.Ask.{Ask}
use Rattle.front_mirror.specs.Front.{FrontValue, fetch_params}
use Rattle.front_mirror.specs.Sheets.{has_sheet, stale_of}
use Rattle.back_end.specs.States.{Side}
use Rattle.back_end.specs.Laws.{IsTurn}
use Rattle.session_mux.specs.Sessions.{session_text}
use Rattle.session_mux.specs.Targets.{attached_kind}
use Rattle.session_runs.specs.Fold.{folded}
use Rattle.session_runs.specs.Fetches.{IsDue, GivesText, FetchLaws}
use Rattle.session_runs.specs.Pairs.{to_root, to_session, TargetKind, attach, detach, session_made, SessionAsks, Second}
use Rattle.session_runs.specs.Pairs.{front_pair, take_pair, join_pair, pair_step}
use Rattle.session_runs.specs.PairCame.{is_to_come, asks_to_come, second_seen, NumberLaws}
use Rattle.session_runs.specs.PairFit.{IsCalm, TwoFit, neither, both, is_calm, is_targeting, next_frame, AttachedIsTold}
use Rattle.session_runs.specs.PairRuns.{NextInPair}
use Rattle.session_runs.proofs.SeenLemmas.{come-last, seen-takes, seen-joins}
use Rattle.session_runs.proofs.FetchPairs.{IsTold, root-told, second-told}
use Rattle.multi_replay.specs.Folds.{asks_more}
use Rattle.multi_replay.specs.Incoming.{session_number, made_numbered, made_told, reply_says}
use Rattle.inspect_world.specs.Fits.{most_sheets, most_fetches}
use Rattle.inspect_world.specs.FreshRuns.{Unstyled, unstyled}
use Rattle.inspect_world.proofs.FetchForms.{fetcher-text, fetch-plain, fetch-shallow, fetch-utf8}
use Rattle.inspect_world.proofs.FetchesFit.{IsShownSheet, few-known, stale-is-shown}
use Rattle.inspect_world.proofs.StaleLemmas.{stale-known}
use Rattle.inspect_world.proofs.UnstyledLemmas.{unstyled-takes}
use Rattle.pair_world.specs.SessionWays.{frame_way}
use Rattle.pair_world.specs.Clients.{pair_reads, RunClient, state_of, client_steps}
use Rattle.pair_world.specs.Shown.{IsSessionNumber, HasRoomFor, MaySend, Shows}
use Rattle.pair_world.specs.FrameLaws.{IsCommand}
use Rattle.pair_world.specs.PairFits.{PageSessions}
use Rattle.pair_world.specs.PairRuns.{PairSpent, pair_plainly, none_more}
use Rattle.pair_world.specs.PairFresh.{FrontValues, pair_runner, fetch_in, first_fetcher, of_second_session, second_fetcher}
use Rattle.pair_world.specs.PairFresh.{pair_unstyled, PairIsCalm, PairIsFit, PairRoom}
use Rattle.pair_world.proofs.ClientLemmas.{read_laws}
use Rattle.pair_world.proofs.TargetTexts.{texts-apart, number-read}
use Rattle.pair_world.proofs.WayLemmas.{asks-are-the-roots, asks-are-the-sessions}
use Rattle.pair_world.proofs.SendLemmas.{asks-may-be-sent, session-asks-may-be-sent}
use Rattle.pair_world.proofs.DeedLemmas.{session-command}
use Rattle.pair_world.proofs.FetchSteps.{fetch_frame, fetch_asks, FetchTold, fetch-id, fetch-told}

-- ---- what both show

-- the number that an attach tells is the one of its text
numbered-by : (text t : List ℕ) (n : ℕ) (o : Option ℕ) → session_number text ≡ o → made_numbered text o ≡ Ok (session_made t n)
    → session_number t ≡ Some n
numbered-by text t n None is e = absurd cc
numbered-by text t n (Some m) is e =
    let same : text ≡ t = cc e in
    let equal : m ≡ n = cc e in
    ap session_number (sym same) ∙ is ∙ ap (λ k. Some k) equal

made-by : (o : Option (List ℕ × ⊤)) (t : List ℕ) (n : ℕ) → made_told o ≡ Ok (session_made t n) → session_number t ≡ Some n
made-by None t n e = absurd cc
made-by (Some p) t n e = numbered-by p.0 t n (session_number p.0) refl e

says-number : (kind : TargetKind) (o : Option Message) (t : List ℕ) (n : ℕ) → reply_says kind o ≡ Ok (session_made t n)
    → session_number t ≡ Some n
says-number kind None t n e = absurd cc
says-number attach (Some (reply id result)) t n e = made-by (attached_kind.reads result) t n e
says-number detach (Some (reply id result)) t n e = absurd cc
says-number kind (Some (fault id code text)) t n e = absurd cc
says-number kind (Some (event news)) t n e = absurd cc

-- The text of a session has its number.
pub number_laws : NumberLaws pair_reads session_number
number_laws = record {
  same_is = λ t u e. (bytes_eq-Decides t u).0 e;
  same_all = λ t. (bytes_eq-Decides t t).1 refl;
  made = λ kind frame t n e. says-number kind (down_of frame) t n e;
}

-- asks that both wait for are no difference
more-unstyled : (v w : FrontValue) (more : List Ask) → unstyled v ≡ unstyled w → unstyled (asks_more v more) ≡ unstyled (asks_more w more)
more-unstyled v w more same = ap (λ (u : Unstyled). record u { asks = u.asks ++ more }) same

pub pair-takes : (v w v1 w1 : FrontValues) (frame : List ℕ) → pair_unstyled v ≡ pair_unstyled w → take_pair pair_reads v frame ≡ Ok v1
    → take_pair pair_reads w frame ≡ Ok w1 → pair_unstyled v1 ≡ pair_unstyled w1
pair-takes = seen-takes pair_reads unstyled session_number number_laws unstyled-takes more-unstyled

pub pair-joins : (v w : FrontValues) (ask : List ℕ) → pair_unstyled v ≡ pair_unstyled w
    → pair_unstyled (join_pair pair_reads v ask) ≡ pair_unstyled (join_pair pair_reads w ask)
pair-joins = seen-joins pair_reads unstyled session_number number_laws unstyled-takes more-unstyled

-- ---- a fetch as a command

-- a fetch is a command
pub fetch-command : (count sheet : ℕ) → count + 1 ≤ most_fetches → sheet < 2 ^ 64
    → IsCommand (first_fetch + count) (codes "CSS.getStyleSheetText") (Some (fetch_params sheet)) None
fetch-command count sheet few fits =
    let id = first_fetch + count in
    let counted : is_counted id ≡ true = (fetch-id count few).0 in
    record {
      counted = counted;
      plain = refl;
      shallow = fetch-shallow id sheet;
      utf8 = IsUtf8-compact_text (command_value id (codes "CSS.getStyleSheetText") (Some (fetch_params sheet)) None)
          (fetch-plain id sheet counted) (fetch-utf8 id sheet fits);
    }

-- a fetch in a session is a text without the zero byte
pub session-letters : (text : List ℕ) (count number : ℕ) → count + 1 ≤ most_fetches → IsText (fetch_in (Some (string text)) count number)
session-letters text count number few =
    texts_have_no_zero
    (command_value (first_fetch + count) (codes "CSS.getStyleSheetText") (Some (fetch_params number)) (Some (string text)))
    (ask_plain (first_fetch + count) (codes "CSS.getStyleSheetText") (Some (fetch_params number)) (Some (string text))
    (fetch-id count few).0 refl refl)

-- where nothing waits, no attach and no detach does
pub calm-alone : (n : PairSpent) (p : FrontValues) (s : PageSessions) → PairIsFit n p s [] → PairIsCalm n p s []
calm-alone n p s (is_calm c) = c
calm-alone n p s (is_targeting t) = let wrong : [] ≡ t.frame ∷ [] = t.frames_are in absurd cc

-- the front ends show the sessions, whatever waits
first-shown : (n : PairSpent) (p : FrontValues) (s : PageSessions) (frames : List (List ℕ)) → PairIsFit n p s frames
    → (asks : List Ask) × (Shows p.one s.side s.root asks)
first-shown n p s frames (is_calm c) = (_, c.one)
first-shown n p s frames (is_targeting t) = (_, t.so_far.one)

pub second-fit : (n : PairSpent) (p : FrontValues) (s : PageSessions) (frames : List (List ℕ)) → PairIsFit n p s frames
    → (asks : List Ask) × (TwoFit pair_reads client_steps IsSessionNumber Shows s.side s.second s.next asks p.two s.attached)
second-fit n p s frames (is_calm c) = (_, c.two)
second-fit n p s frames (is_targeting t) = (_, t.so_far.two)

-- what may be sent next in a run with two front ends
abbrev pub NextOfPair : PairSpent → PageSessions → List (List ℕ) → List ℕ → PairSpent → Type 0
NextOfPair = NextInPair pair_reads client_steps none_more IsSessionNumber HasRoomFor MaySend IsTurn

-- ---- the first front end

-- its fetches turn on no others
abbrev pub no_other_fetches : FrontValues → ⊤
no_other_fetches p = tt

-- the sheet of a fetch that is due has a number that a message carries
due-low : (v : FrontValue) (side : Side) (c : RunClient) (number : ℕ) (numbers : List ℕ) → Shows v side c [] → HasRoomFor side c
    → stale_of v.sheets ≡ number ∷ numbers → number < 2 ^ 64
due-low v side c number numbers shows room first =
    let s : IsShownSheet (state_of side c) number =
    stale-is-shown (state_of side c) v.sheets number numbers shows.is_state room shows.has.sheets first in
    let high : number < 2 ^ 53 = s.high in omega (arith, high)

first-next : (n : PairSpent) (p : FrontValues) (s : PageSessions) (number : ℕ) (numbers : List ℕ) → PairRoom s
    → IsDue PairIsFit first_fetcher most_fetches n p s number numbers
    → NextOfPair n s [] (first_fetcher.text n.fetches number) (first_fetcher.one_more n)
first-next n p s number numbers room due =
    let c : PairIsCalm n p s [] = calm-alone n p s due.fit in
    let fits : number < 2 ^ 64 = due-low p.one s.side s.root number numbers c.one room.0 due.first in
    let may = asks-may-be-sent (first_fetch + n.fetches) (codes "CSS.getStyleSheetText") (Some (fetch_params number)) s.attached
    (fetch-command n.fetches number due.left fits) (fetch-id n.fetches due.left).1 refl in
    next_frame tt may.1

first-answer : (n : PairSpent) (p after : FrontValues) (s : PageSessions) (number : ℕ) (numbers : List ℕ) → PairRoom s
    → IsDue PairIsFit first_fetcher most_fetches n p s number numbers
    → folded (take_pair pair_reads) (join_pair pair_reads p (first_fetcher.text n.fetches number))
    (frames_of (pair_step pair_reads client_steps s (first_fetcher.text n.fetches number)).sent).whole ≡ Ok after
    → GivesText first_fetcher pair_unstyled no_other_fetches p after s
    (pair_step pair_reads client_steps s (first_fetcher.text n.fetches number)).state numbers
first-answer n p after s number numbers room due taken =
    let c : PairIsCalm n p s [] = calm-alone n p s due.fit in
    let frame = first_fetcher.text n.fetches number in
    let fits : number < 2 ^ 64 = due-low p.one s.side s.root number numbers c.one room.0 due.first in
    let way : frame_way frame ≡ to_root frame =
    asks-are-the-roots (first_fetch + n.fetches) (codes "CSS.getStyleSheetText") (Some (fetch_params number))
    (fetch-command n.fetches number due.left fits) refl in
    let told : FetchTold p.one s.side s.root n.fetches number numbers =
    fetch-told p.one s.side s.root n.fetches number numbers c.one room.0 due.first due.left in
    let t : IsTold pair_reads client_steps read_laws IsSessionNumber Shows s frame after (record p { one = told.leads.after }) =
    root-told pair_reads client_steps read_laws IsSessionNumber Shows frame frame p after s _ _ [] way told.leaves c.attached_told
    told.leads taken in
    record {
      state_is = t.state_is;
      left = ap (λ (q : FrontValues). stale_of q.one.sheets) t.front_is ∙ told.left;
      same = ap pair_unstyled t.front_is ∙ ap (λ (u : Unstyled). record (pair_unstyled p) { one = u }) told.same;
      others = refl;
    }

-- What the fetches of the first front end keep.
pub first_laws : FetchLaws pair_runner PairRoom NextOfPair PairIsFit pair_plainly first_fetcher pair_unstyled no_other_fetches most_sheets
    most_fetches
first_laws = record {
  counts = λ n. refl;
  plain = λ n. refl;
  turns = λ n m same. same;
  takes = pair-takes;
  joins = pair-joins;
  few = λ n p s frames fit. let shown = (first-shown n p s frames fit).1 in
      few-known (state_of s.side s.root) p.one.sheets shown.is_state shown.has.sheets;
  known = λ p number numbers first. stale-known p.one.sheets number numbers first;
  letters = λ n p s number numbers due. fetcher-text n.fetches number due.left;
  next = first-next;
  answer = first-answer;
}

-- ---- the second

module _ (k : ℕ) (small : IsSessionNumber k) where
  abbrev t : List ℕ
  t = session_text k

  -- it stands, in that session, and lacks these texts
  record Stands (two : Option (Second FrontValue (List ℕ))) (numbers : List ℕ) : Type 0 where
    v : FrontValue
    is : two ≡ Some (record { text = session_text k; value = v })
    stale : stale_of v.sheets ≡ numbers

  stands : (o : Option (Second FrontValue (List ℕ))) (number : ℕ) (numbers : List ℕ)
      → of_second_session t (λ v. stale_of v.sheets) [] o ≡ number ∷ numbers → Stands o (number ∷ numbers)
  stands None number numbers e = absurd cc
  stands (Some w) number numbers e =
      (elim (bytes_eq w.text t) as (λ (b : Bool). bytes_eq w.text t ≡ b → cond b (stale_of w.value.sheets) [] ≡ number ∷ numbers
      → Stands (Some w) (number ∷ numbers)) [
        | true ↦ λ is h.
            let same : w.text ≡ t = (bytes_eq-Decides w.text t).0 is in
            record { v = w.value; is = λ i. Some (record { text = same i; value = w.value }); stale = h }
        | false ↦ λ is h. absurd cc
      ]) refl e

  -- its session is attached, and it shows that
  record IsAttached (side : Side) (second : RunClient) (asks : List Ask) (v : FrontValue) (attached : Option ℕ) : Type 0 where
    is : attached ≡ Some k
    shows : Shows v side second asks

  attached-by : (side : Side) (second : RunClient) (next : ℕ) (asks : List Ask) (two : Option (Second FrontValue (List ℕ)))
      (attached : Option ℕ) (v : FrontValue)
      → TwoFit pair_reads client_steps IsSessionNumber Shows side second next asks two attached
      → two ≡ Some (record { text = session_text k; value = v }) → IsAttached side second asks v attached
  attached-by side second next asks _ _ v neither e = absurd cc
  attached-by side second next asks _ _ v (both j u number few shows) e =
      let mine : Second FrontValue (List ℕ) = record { text = session_text j; value = u } in
      let asked : Second FrontValue (List ℕ) = record { text = session_text k; value = v } in
      let equal : mine ≡ asked = one-same mine asked e in
      let texts : session_text j ≡ session_text k = ap (λ (w : Second FrontValue (List ℕ)). w.text) equal in
      let same : j ≡ k = texts-apart j k number small ((bytes_eq-Decides (session_text j) (session_text k)).1 texts) in
      let values : u ≡ v = ap (λ (w : Second FrontValue (List ℕ)). w.value) equal in
      record { is = ap (λ n. Some n) same; shows = subst (λ x. Shows x side second asks) values shows }
    where
      one-same : (a b : Second FrontValue (List ℕ)) → Some a ≡ Some b → a ≡ b
      one-same a b e = cc

  few-second : (side : Side) (second : RunClient) (next : ℕ) (asks : List Ask) (two : Option (Second FrontValue (List ℕ)))
      (attached : Option ℕ) → TwoFit pair_reads client_steps IsSessionNumber Shows side second next asks two attached
      → length (of_second_session t (λ v. stale_of v.sheets) [] two) ≤ most_sheets
  few-second side second next asks _ _ neither = omega arith
  few-second side second next asks _ _ (both j v number few shows) =
      let all : length (stale_of v.sheets) ≤ most_sheets = few-known (state_of side second) v.sheets shows.is_state shows.has.sheets in
      (elim (bytes_eq (session_text j) t) as (λ (b : Bool). length (cond b (stale_of v.sheets) []) ≤ most_sheets) [
        | true ↦ all
        | false ↦ omega arith
      ])

  known-second : (p : FrontValues) (number : ℕ) (numbers : List ℕ) → (second_fetcher k).stale p ≡ number ∷ numbers
      → (second_fetcher k).knows p number ≡ true
  known-second p number numbers e =
      let s = stands p.two number numbers e in
      ap (of_second_session t (λ v. has_sheet number v.sheets) false) s.is
      ∙ ap (λ b. cond b (has_sheet number s.v.sheets) false) (number_laws.same_all t)
      ∙ stale-known s.v.sheets number numbers s.stale

  -- what is known where a fetch is due
  record IsReady (n : PairSpent) (p : FrontValues) (s : PageSessions) (number : ℕ) (numbers : List ℕ) : Type 0 where
    calm : PairIsCalm n p s []
    stand : Stands p.two (number ∷ numbers)
    attached : IsAttached s.side s.second [] stand.v s.attached
    fits : number < 2 ^ 64

  ready : (n : PairSpent) (p : FrontValues) (s : PageSessions) (number : ℕ) (numbers : List ℕ) → PairRoom s
      → IsDue PairIsFit (second_fetcher k) most_fetches n p s number numbers → IsReady n p s number numbers
  ready n p s number numbers room due =
      let c : PairIsCalm n p s [] = calm-alone n p s due.fit in
      let stand : Stands p.two (number ∷ numbers) = stands p.two number numbers due.first in
      let here : IsAttached s.side s.second [] stand.v s.attached =
      attached-by s.side s.second s.next [] p.two s.attached stand.v c.two stand.is in
      record {
        calm = c;
        stand = stand;
        attached = here;
        fits = due-low stand.v s.side s.second number numbers here.shows room.1 stand.stale;
      }

  next-second : (n : PairSpent) (p : FrontValues) (s : PageSessions) (number : ℕ) (numbers : List ℕ) → PairRoom s
      → IsDue PairIsFit (second_fetcher k) most_fetches n p s number numbers
      → NextOfPair n s [] ((second_fetcher k).text n.second_fetches number) ((second_fetcher k).one_more n)
  next-second n p s number numbers room due =
      let x : IsReady n p s number numbers = ready n p s number numbers room due in
      let plain = fetch-command n.second_fetches number due.left x.fits in
      let id = first_fetch + n.second_fetches in
      let may = session-asks-may-be-sent id k (codes "CSS.getStyleSheetText") (Some (fetch_params number))
      (session-command id k (codes "CSS.getStyleSheetText") (Some (fetch_params number)) small plain) plain refl
      (fetch-id n.second_fetches due.left).1 in
      next_frame tt
      (subst (λ a. IsCalm pair_reads client_steps MaySend a (frame_way ((second_fetcher k).text n.second_fetches number)))
      (sym x.attached.is) may.1)

  told-low : (s : PageSessions) (top : ℕ) → s.attached ≡ Some k
      → AttachedIsTold pair_reads client_steps IsSessionNumber s.second top s.attached → k ≤ top
  told-low s top is told = subst (AttachedIsTold pair_reads client_steps IsSessionNumber s.second top) is told

  answer-second : (n : PairSpent) (p after : FrontValues) (s : PageSessions) (number : ℕ) (numbers : List ℕ) → PairRoom s
      → IsDue PairIsFit (second_fetcher k) most_fetches n p s number numbers
      → folded (take_pair pair_reads) (join_pair pair_reads p ((second_fetcher k).text n.second_fetches number))
      (frames_of (pair_step pair_reads client_steps s ((second_fetcher k).text n.second_fetches number)).sent).whole ≡ Ok after
      → GivesText (second_fetcher k) pair_unstyled first_fetcher.stale p after s
      (pair_step pair_reads client_steps s ((second_fetcher k).text n.second_fetches number)).state numbers
  answer-second n p after s number numbers room due taken =
      let x : IsReady n p s number numbers = ready n p s number numbers room due in
      let id = first_fetch + n.second_fetches in
      let count = n.second_fetches in
      let v = x.stand.v in
      let frame = (second_fetcher k).text count number in
      let text = fetch_frame count number in
      let way : frame_way frame ≡ to_session t text =
      asks-are-the-sessions id (codes "CSS.getStyleSheetText") (Some (fetch_params number)) t
      (session-command id k (codes "CSS.getStyleSheetText") (Some (fetch_params number)) small
      (fetch-command count number due.left x.fits)) refl in
      let told : FetchTold v s.side s.second count number numbers =
      fetch-told v s.side s.second count number numbers x.attached.shows room.1 x.stand.stale due.left in
      let more : SessionAsks Ask (List ℕ) = record { text = t; asks = fetch_asks count number } in
      let here : FrontValues =
      front_pair p.one (Some (record { text = t; value = told.leads.after })) p.waiting (p.asked ++ more ∷ []) p.top in
      let answered : IsTold pair_reads client_steps read_laws IsSessionNumber Shows s frame after here =
      second-told pair_reads client_steps read_laws IsSessionNumber Shows k frame text p after s v _ _ [] small way x.stand.is x.attached.is
      told.leaves told.leads taken in
      let low : k ≤ p.top = told-low s p.top x.attached.is x.calm.attached_told in
      let two_is : Some (record { text = t; value = unstyled told.leads.after }) ≡ option_map (second_seen unstyled) p.two =
      ap (λ (u : Unstyled). Some (record { text = t; value = u })) told.same ∙ ap (option_map (second_seen unstyled)) (sym x.stand.is) in
      let later_is : asks_to_come session_number p.top (p.asked ++ more ∷ []) ≡ asks_to_come session_number p.top p.asked =
      come-last session_number p.top p.asked more
      ∙ ap (λ o. asks_to_come session_number p.top p.asked ++ cond (is_to_come p.top o) (more ∷ []) []) (number-read k small)
      ∙ ap (λ b. asks_to_come session_number p.top p.asked ++ cond b (more ∷ []) []) (le-ltb p.top k low)
      ∙ append-nil (asks_to_come session_number p.top p.asked) in
      record {
        state_is = answered.state_is;
        left =
            ap (λ (q : FrontValues). of_second_session t (λ v. stale_of v.sheets) [] q.two) answered.front_is
            ∙ ap (λ b. cond b (stale_of told.leads.after.sheets) []) (number_laws.same_all t)
            ∙ told.left;
        same = ap pair_unstyled answered.front_is ∙ (λ i. front_pair (unstyled p.one) (two_is i) p.waiting (later_is i) p.top);
        others = ap (λ (q : FrontValues). stale_of q.one.sheets) answered.front_is;
      }

  -- What the fetches of the second front end keep, in the session of that number: they leave what the first would fetch.
  pub second_laws : FetchLaws pair_runner PairRoom NextOfPair PairIsFit pair_plainly (second_fetcher k) pair_unstyled first_fetcher.stale
      most_sheets most_fetches
  second_laws = record {
    counts = λ n. refl;
    plain = λ n. refl;
    turns = λ n m same. same;
    takes = pair-takes;
    joins = pair-joins;
    few = λ n p s frames fit. few-second s.side s.second s.next _ p.two s.attached (second-fit n p s frames fit).1;
    known = known-second;
    letters = λ n p s number numbers due. session-letters t n.second_fetches number due.left;
    next = next-second;
    answer = answer-second;
  }
