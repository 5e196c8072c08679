-- Two front ends that follow a link: what the fold of what went over it comes to, and what the lines keep.
use Rattle.std.proofs.Common.{◌≡◌, ℕ, suc, ◌+◌, ◌≤◌, ◌^◌, List, [], ◌∷◌, ◌++◌, length, map, Option, false, refl, sym, ◌∙◌}
use Rattle.std.proofs.Common.{ap, subst, arith, append_assoc, append-nil, Result, Ok, Err}
use Rattle.std.specs.Result.{OnOk, IsOk}
use Rattle.front_mirror.specs.declared.panels.Panel.{Ghosts}
use Rattle.front_mirror.specs.declared.panels.PanelKind.{PanelKind}
use Rattle.pipe_frames.specs.Pipe.{Pipe, sent_since, given_since}
use Rattle.pipe_frames.specs.Frames.{Frames, frames_of}
use Rattle.inspect_world.specs.Links.{frames_among, made_among}
use Rattle.inspect_world.specs.ShownReplies.{ShownReply, reply_id}
use Rattle.inspect_world.specs.Fits.{most_bytes}
use Rattle.inspect_world.specs.World.{AlreadyTold}
use Rattle.inspect_world.proofs.StepSends.{sent_since-is, given_since-is}
use Rattle.multi_replay.specs.States.{FrontsState, after_close}
use Rattle.multi_replay.specs.Laws.{pair_value, IsFoldOfBoth}
use Rattle.front_mirror.specs.Places.{closed_at}
use Rattle.pair_world.specs.PairHeld.{up_reads}
use Rattle.pair_world.specs.PairHeld as held
use Rattle.pair_world.specs.PairLinks.{LinkMoment, IsLaterMoment, AreInOrderTo, PairStarted, pair_started, one_pair_line_more, SecondFew}
use Rattle.pair_world.specs.PairLinks.{FollowsPair}
use Rattle.pair_world.specs.PairLinks.{pair_fold_of, pair_replies_in, sent_when_pair_is_full}
use Rattle.replay_parts.specs.declared.stop.Stop.{Stop}
use Rattle.replay_parts.specs.Stops.{GoesWell}
use Rattle.pair_replay.specs.declared.two_fronts.TwoFronts.{TwoFronts}
use Rattle.pair_replay.specs.Running.{pair_ends_of}
use Rattle.replay_parts.specs.LinkFolds.{GivesNoMore, IsWell}
use Rattle.replay_parts.proofs.FoldLemmas as parts
use Rattle.pair_replay.specs.PairAnswers.{PairPassed, PairStopFolds, PairAnswersInOrder, pair_since, moment_of}
use Rattle.pair_replay.specs.Following.{FollowsPairRun}

-- ---- moments

-- a moment is no earlier than itself
pub later-still : (m : LinkMoment) → IsLaterMoment m m
later-still m = record { more_sent = []; more_given = []; sent_is = sym (append-nil m.sent_up); given_is = sym (append-nil m.given_down) }

-- nor is one that is later than a later one
pub later-on : (a b c : LinkMoment) → IsLaterMoment a b → IsLaterMoment b c → IsLaterMoment a c
later-on a b c first second = record {
  more_sent = first.more_sent ++ second.more_sent;
  more_given = first.more_given ++ second.more_given;
  sent_is = second.sent_is ∙ ap (λ bytes. bytes ++ second.more_sent) first.sent_is
      ∙ append_assoc a.sent_up first.more_sent second.more_sent;
  given_is = second.given_is ∙ ap (λ bytes. bytes ++ second.more_given) first.given_is
      ∙ append_assoc a.given_down first.more_given second.more_given;
}

-- moments up to one are moments up to a later one
pub order-later : (ms : List LinkMoment) (now last : LinkMoment) → AreInOrderTo now ms → IsLaterMoment now last → AreInOrderTo last ms
order-later [] now last order later = tt
order-later (m ∷ []) now last order later = later-on m now last order later
order-later (m ∷ n ∷ ms) now last order later = (order.0, order-later (n ∷ ms) now last order.1 later)

-- one moment more
pub order-push : (ms : List LinkMoment) (now m last : LinkMoment) → AreInOrderTo now ms → IsLaterMoment now m → IsLaterMoment m last
    → AreInOrderTo last (ms ++ m ∷ [])
order-push [] now m last order before later = later
order-push (k ∷ []) now m last order before later = (later-on k now m order before, later)
order-push (k ∷ n ∷ ms) now m last order before later = (order.0, order-push (n ∷ ms) now m last order.1 before later)

-- ---- what went over the link

-- a stop that is none of a front end, where all went well
pub stop-folds : (stop : Stop) (passed : PairPassed) → GoesWell {T = Unit {0}} (Err stop) → IsWell passed
    → PairStopFolds {T = Unit {0}} (Err stop) passed
stop-folds stop passed never good = parts.stop-folds sent_when_pair_is_full stop passed never good

module _ (start : PairStarted) (up0 down0 up down : Pipe) (waiting : List (List ℕ)) (e : held.PairEnds)
    (f : FollowsPair start up0 down0 up down waiting e) where
  up-since : sent_since up0 up ≡ f.sent_up
  up-since = sent_since-is up0 up f.sent_up f.given_up f.up_is

  down-since : given_since down0 down ≡ f.given_down
  down-since = given_since-is down0 down f.sent_down f.given_down f.down_is

  -- the fold comes to the two front ends
  pub pair-fold : (pair_since up0 down0 up down).fold ≡ Ok (pair_value f.fronts_are.asked e.fronts.pair)
  pair-fold =
      ap (λ bytes. pair_fold_of bytes (given_since down0 down)) up-since
      ∙ ap (λ bytes. pair_fold_of f.sent_up bytes) down-since
      ∙ f.fronts_are.value

  pub pair-less : GivesNoMore (pair_since up0 down0 up down)
  pair-less =
      let up_sent : length (sent_since up0 up) ≡ length f.sent_up = ap length up-since in
      let up_given : length (given_since up0 up) ≡ length f.given_up = ap length (given_since-is up0 up f.sent_up f.given_up f.up_is) in
      let down_sent : length (sent_since down0 down) ≡ length f.sent_down
      = ap length (sent_since-is down0 down f.sent_down f.given_down f.down_is) in
      let down_given : length (given_since down0 down) ≡ length f.given_down = ap length down-since in
      let up_left : e.up_there + length f.given_up ≡ length f.sent_up = f.up_left in
      let down_left : e.down_there + length f.given_down ≡ length f.sent_down = f.down_left in
      (omega (arith, up_sent, up_given, up_left), omega (arith, down_sent, down_given, down_left))

  pub pair-well : IsWell (pair_since up0 down0 up down)
  pair-well = (subst IsOk (sym pair-fold) refl, pair-less)

  -- what went over the link by now, as the ends have it
  pub moment-is : moment_of up0 down0 up down ≡ record { sent_up = f.sent_up; given_down = f.given_down }
  moment-is = λ i. record { sent_up = up-since i; given_down = down-since i }

  pub later-than : IsLaterMoment start.from (moment_of up0 down0 up down)
  later-than = subst (IsLaterMoment start.from) (sym moment-is) f.later

  -- The same ends, of which no more is asked: fewer lines, another moment, other panels of the first front end, and told counts.
  pub follows-anew : (lines : ℕ) (panels : List (Option PanelKind)) (from : LinkMoment) (fronts : FrontsState)
      (first_told second_told : AlreadyTold)
      → lines ≤ start.lines → IsLaterMoment from (record { sent_up = f.sent_up; given_down = f.given_down })
      → IsFoldOfBoth up_reads f.sent_up f.given_down fronts → fronts.dead ≡ false → fronts.pair.one.dead ≡ false
      → fronts.pair.one.panels ≡ panels → fronts.pair.one.next + fronts.pair.one.fetches ≤ length f.sent_up + 1
      → SecondFew fronts.pair.two (length f.sent_up) → fronts.next ≤ 2 ^ 52 + length f.sent_up
      → FollowsPair (pair_started start.pair lines panels from) up0 down0 up down waiting
      (record e { fronts = fronts; first_told = first_told; second_told = second_told })
  follows-anew lines panels from fronts first_told second_told fewer later fold alive first_alive same few_asked few_second
      few_targets = record {
        sent_up = f.sent_up;
        given_up = f.given_up;
        sent_down = f.sent_down;
        given_down = f.given_down;
        up_is = f.up_is;
        down_is = f.down_is;
        later = later;
        fronts_are = fold;
        alive = alive;
        first_alive = first_alive;
        panels = same;
        events = f.events;
        frames_are = f.frames_are;
        back_is = f.back_is;
        pair = f.pair;
        pair_is = f.pair_is;
        sent_is = f.sent_is;
        replies_are = f.replies_are;
        down_whole = f.down_whole;
        stands = f.stands;
        up_left = f.up_left;
        down_left = f.down_left;
        few_asked = few_asked;
        few_second = few_second;
        few_targets = few_targets;
        few_made = let few : made_among f.events + start.lines ≤ most_bytes = f.few_made in omega (arith, few, fewer);
        drew = f.drew;
        few_serials = f.few_serials;
        few_numbers = f.few_numbers;
        few_searches = f.few_searches;
        few_second_searches = f.few_second_searches;
        few_sessions = f.few_sessions;
      }

  -- with the same front ends
  pub follows-still : (lines : ℕ) (from : LinkMoment) (first_told second_told : AlreadyTold)
      → lines ≤ start.lines → IsLaterMoment from (record { sent_up = f.sent_up; given_down = f.given_down })
      → FollowsPair (pair_started start.pair lines start.panels from) up0 down0 up down waiting
      (record e { first_told = first_told; second_told = second_told })
  follows-still lines from first_told second_told fewer later =
      follows-anew lines start.panels from e.fronts first_told second_told fewer later f.fronts_are f.alive f.first_alive f.panels
      f.few_asked
      f.few_second f.few_targets

-- where all is answered, the replies answer the frames that were given up
pub pair-replies : (start : PairStarted) (up0 down0 up down : Pipe) (e : held.PairEnds) → FollowsPair start up0 down0 up down [] e
    → PairAnswersInOrder up0 down0 up down
pair-replies start up0 down0 up down e f =
    ap (λ bytes. map (λ (t : ShownReply). t.id) (pair_replies_in bytes)) (sent_since-is down0 down f.sent_down f.given_down f.down_is)
    ∙ f.replies_are
    ∙ ap (map reply_id) (sym (append-nil (frames_among f.events)) ∙ sym f.frames_are)
    ∙ ap (λ bytes. map reply_id (frames_of bytes).whole) (sym (given_since-is up0 up f.sent_up f.given_up f.up_is))

-- ---- the ends of the program

module _ {P : Type 0} {g : Ghosts P} (start : PairStarted) (up0 down0 up down : Pipe) (e : TwoFronts P g)
    (run : FollowsPairRun start up0 down0 up down e) where
  pub run-well : IsWell (pair_since up0 down0 up down)
  run-well = pair-well start up0 down0 up down e.ends.splitter.whole (pair_ends_of e) run.so_far

  -- a call that did nothing to the link has come through, or not
  pub kept-run : {T : Type 0} (result : Result T Stop) → GoesWell result
      → OnOk result (FollowsPairRun start up0 down0 up down e) × PairStopFolds result (pair_since up0 down0 up down)
  kept-run (Ok value) never = (run, run-well)
  kept-run (Err stop) never = (tt, stop-folds stop (pair_since up0 down0 up down) never run-well)

  pub run-fold : (pair_since up0 down0 up down).fold ≡ Ok (pair_value run.so_far.fronts_are.asked e.fronts.pair)
  run-fold = pair-fold start up0 down0 up down e.ends.splitter.whole (pair_ends_of e) run.so_far

  -- nothing was taken back since the moment of the start
  pub run-later : IsLaterMoment start.from (moment_of up0 down0 up down)
  run-later = later-than start up0 down0 up down e.ends.splitter.whole (pair_ends_of e) run.so_far

  -- so many lines may be left, and any moment that is no later may be looked back on
  pub run-from : (lines : ℕ) (from : LinkMoment) → lines ≤ start.lines → IsLaterMoment from (moment_of up0 down0 up down)
      → FollowsPairRun (pair_started start.pair lines start.panels from) up0 down0 up down e
  run-from lines from fewer later = record {
    so_far = follows-still start up0 down0 up down e.ends.splitter.whole (pair_ends_of e) run.so_far lines from (pair_ends_of e).first_told
        (pair_ends_of e).second_told fewer
        (subst (IsLaterMoment from) (moment-is start up0 down0 up down e.ends.splitter.whole (pair_ends_of e) run.so_far) later);
    none_whole = run.none_whole;
  }

  -- the present moment is one
  pub run-here : FollowsPairRun (pair_started start.pair start.lines start.panels (moment_of up0 down0 up down)) up0 down0 up down e
  run-here = run-from start.lines (moment_of up0 down0 up down) (omega arith) (later-still (moment_of up0 down0 up down))

  pub run-replies : PairAnswersInOrder up0 down0 up down
  run-replies =
      pair-replies start up0 down0 up down (pair_ends_of e)
      (subst (λ frames. FollowsPair start up0 down0 up down frames (pair_ends_of e)) run.none_whole run.so_far)

-- a line that makes no step of the script
pub run-fewer : {P : Type 0} {g : Ghosts P} (start : PairStarted) (up0 down0 up down : Pipe) (e : TwoFronts P g)
    → FollowsPairRun (one_pair_line_more start) up0 down0 up down e → FollowsPairRun start up0 down0 up down e
run-fewer start up0 down0 up down e run =
    run-from (one_pair_line_more start) up0 down0 up down e run start.lines start.from (omega arith)
    (run-later (one_pair_line_more start) up0 down0 up down e run)

-- the line that comes next is one of those that are left
pub run-line : {P : Type 0} {g : Ghosts P} (start : PairStarted) (panels : List (Option PanelKind)) (up0 down0 up down : Pipe)
    (e : TwoFronts P g) (lines : List (List ℕ)) (line : List ℕ) (more : List (List ℕ)) → lines ≡ line ∷ more
    → FollowsPairRun (pair_started start.pair (length lines) panels start.from) up0 down0 up down e
    → FollowsPairRun (one_pair_line_more (pair_started start.pair (length more) panels start.from)) up0 down0 up down e
run-line start panels up0 down0 up down e lines line more is run =
    let count : length lines ≡ suc (length more) = ap length is in
    let plus : length lines ≡ length more + 1 = omega (arith, count) in
    subst (λ n. FollowsPairRun (pair_started start.pair n panels start.from) up0 down0 up down e) plus run

-- what was told of a front end says nothing of the link
pub run-told : {P : Type 0} {g : Ghosts P} (start : PairStarted) (up0 down0 up down : Pipe) (e e1 : TwoFronts P g)
    → pair_ends_of e1 ≡ record (pair_ends_of e) {
      first_told = (pair_ends_of e1).first_told;
      second_told = (pair_ends_of e1).second_told;
    }
    → e1.ends.splitter ≡ e.ends.splitter → FollowsPairRun start up0 down0 up down e → FollowsPairRun start up0 down0 up down e1
run-told start up0 down0 up down e e1 is same run = record {
  so_far = subst (λ (s : Frames). FollowsPair start up0 down0 up down s.whole (pair_ends_of e1)) (sym same)
      (subst (λ h. FollowsPair start up0 down0 up down e.ends.splitter.whole h) (sym is)
      (follows-still start up0 down0 up down e.ends.splitter.whole (pair_ends_of e) run.so_far start.lines start.from
      (pair_ends_of e1).first_told
      (pair_ends_of e1).second_told (omega arith) run.so_far.later));
  none_whole = ap (λ (s : Frames). s.whole) same ∙ run.none_whole;
}

-- a panel of the first front end was dropped
pub run-closed : {P : Type 0} {g : Ghosts P} (start : PairStarted) (up0 down0 up down : Pipe) (e : TwoFronts P g) (place : ℕ)
    → FollowsPairRun start up0 down0 up down e
    → FollowsPairRun (pair_started start.pair start.lines (closed_at place start.panels) start.from) up0 down0 up down
    (record e { fronts = after_close e.fronts place })
run-closed start up0 down0 up down e place run =
    let f = run.so_far in
    record {
      so_far = follows-anew start up0 down0 up down e.ends.splitter.whole (pair_ends_of e) f start.lines
          (closed_at place start.panels) start.from
          (after_close e.fronts place) (pair_ends_of e).first_told (pair_ends_of e).second_told (omega arith) f.later
          (record {
            asked = f.fronts_are.asked;
            value = f.fronts_are.value;
            taken = f.fronts_are.taken;
            rest = f.fronts_are.rest;
            well = f.fronts_are.well;
            unread = f.fronts_are.unread;
            whole = f.fronts_are.whole;
            were_attached = f.fronts_are.were_attached;
            second = f.fronts_are.second;
          }) f.alive f.first_alive (ap (closed_at place) f.panels) f.few_asked f.few_second f.few_targets;
      none_whole = run.none_whole;
    }
