-- Over an honest link both runs go on line by line: what a settle takes them to, and what a line says where it settles first.
use Rattle.std.proofs.Common.{◌≡◌, ℕ, ◌+◌, ◌≤◌, List, [], ◌∷◌, ◌++◌, Bool, true, false, is_some, Option, Some, None}
use Rattle.std.proofs.Common.{option_map, refl, sym, ◌∙◌, ap, subst, arith, Result, Ok, Err}
use Rattle.std.specs.Prelude.{⊤}
use Rattle.std.specs.Result.{OnOk}
use Rattle.std.specs.Io.KnownBytes.{Appends}
use Rattle.front_mirror.specs.declared.panels.Panel.{Ghosts}
use Rattle.front_mirror.specs.declared.panels.PanelKind.{PanelKind}
use Rattle.front_mirror.specs.declared.replies.Ask.{Ask}
use Rattle.front_mirror.specs.Front.{FrontState}
use Rattle.pipe_frames.specs.Pipe.{Pipe}
use Rattle.pipe_frames.specs.Frames.{Frames, frames_of}
use Rattle.pipe_frames.proofs.WholeLemmas.{Appends-nil}
use Rattle.replay_script.specs.Forms.{LineForm, show_front, show_sheets, show_replies, show_pauses, show_styles}
use Rattle.replay_script.specs.Script.{numbered_or, panel_fault, styles_fault}
use Rattle.replay_script.specs.PairLines.{PairForm}
use Rattle.replay_script.specs.declared.faults.LineFault.{LineFault}
use Rattle.replay_script.specs.declared.faults.LineFault.TheVariants.{BadSession}
use Rattle.session_runs.specs.Stream.{sent, awaited}
use Rattle.session_runs.specs.Fold.{asks_joined}
use Rattle.session_runs.specs.Fetches.{front_in}
use Rattle.session_runs.specs.Agreement.{IsAtRest}
use Rattle.session_runs.specs.Pairs.{Second, SessionAsks, first_pair, join_pair}
use Rattle.session_runs.proofs.CalmLemmas.{settle-keeps}
use Rattle.multi_replay.specs.Folds.{value_reads}
use Rattle.multi_replay.specs.States.{StatePair, is_there, front_meant}
use Rattle.multi_replay.specs.Laws.{pair_value, second_value}
use Rattle.multi_replay.proofs.PlaceLemmas.{as-folded}
use Rattle.inspect_world.specs.Costs.{least_line}
use Rattle.pair_world.specs.Clients.{pair_reads, client_steps}
use Rattle.pair_world.specs.Shown.{MaySend}
use Rattle.pair_world.specs.PairFits.{PageSessions, PairFits}
use Rattle.pair_world.specs.PairRuns.{PairAudience, told_on, PairRun, pair_settled}
use Rattle.pair_world.specs.PairScripts.{deeds, settle_deed, pair_telling, told_by_form, after_pair_line, show_text, pair_line_text, met_in}
use Rattle.pair_world.specs.PairScripts.{pair_lacking}
use Rattle.pair_world.specs.PairFresh.{pair_runner, no_fronts, pair_refreshes, fresh_pair_line, PairTogether, RefreshHasRoom}
use Rattle.pair_world.specs.PairFresh.{DeedsHaveRoom, pair_settles_first, line_or, WhereTrue}
use Rattle.pair_world.specs.PairHeld as held
use Rattle.pair_world.specs.PairHeld.{PairMode, calm, up_reads, IsSecondOf, InPairWorld}
use Rattle.replay_parts.specs.declared.stop.Stop.{Stop}
use Rattle.replay_parts.specs.declared.stop.Stop.TheVariants.{Line}
use Rattle.replay_parts.specs.Moments.{Moment, scene}
use Rattle.replay_parts.specs.Stops.{HasStopCause, GoesWell}
use Rattle.replay_parts.specs.Answers.{RunTells}
use Rattle.pair_replay.specs.declared.two_fronts.TwoFronts.{TwoFronts}
use Rattle.pair_replay.specs.Tellings.{told_seen}
use Rattle.pair_replay.specs.PairStarts.{told_held, line_on}
use Rattle.pair_replay.specs.PairAnswers.{PairRunTook, RoomTold}
use Rattle.pair_replay.specs.Running.{pair_ends_of, InPairRun, InPairPlay, PairSteps, refreshing, IsPlainOfPair}
use Rattle.pair_replay.specs.Playing.{PairCarries, numbered_pair, text_unless}
use Rattle.pair_replay.proofs.PairTheory.{left-fewer, together-told, left-fetches, OneShown, TwoShown, FoldShown, SettledRuns, settled-runs}
use Rattle.pair_replay.proofs.PairTheory.{SettledBoth}
use Rattle.pair_replay.proofs.PairTheory.{settled-both}
use Rattle.pair_replay.proofs.TellingLemmas.{refresh-telling, room-telling}
use Rattle.pair_replay.proofs.StopLemmas.{part-took, room-stops, room-there}
use Rattle.pair_replay.proofs.LineFaults.{there_on, came_to, show_fault, show-want}
use Rattle.replay_parts.proofs.StopLemmas.{wrote-none, part-tells}

-- ---- what was told

-- what is told of the front ends says nothing else of a run
world-told : (mode : PairMode) (up0 down0 up down : Pipe) (w : PairRun) (frames : List (List ℕ)) (e : held.PairEnds) (told : PairAudience)
    → told.panels ≡ w.told.panels → InPairWorld mode up0 down0 up down w frames e
    → InPairWorld mode up0 down0 up down (pair_telling told w) frames (record e { first_told = told.first; second_told = told.second })
world-told mode up0 down0 up down w frames e told panels world =
    let link = world.on_link in
    record {
      on_link = record {
        up_is = link.up_is;
        down_is = link.down_is;
        back_is = link.back_is;
        up_left = link.up_left;
        down_left = link.down_left;
        fits = record {
          front = link.fits.front;
          is_fold = link.fits.is_fold;
          fit = link.fits.fit;
          up_whole = link.fits.up_whole;
          down_whole = link.fits.down_whole;
        };
      };
      usual = world.usual;
      stands = world.stands;
      fronts_are = world.fronts_are;
      numbered = world.numbered;
      session = world.session;
      alive = world.alive;
      first_alive = world.first_alive;
      panels = world.panels ∙ sym panels;
      first_told = refl;
      second_told = refl;
    }

pub run-told-so : {P : Type 0} {g : Ghosts P} (mode : PairMode) (honest : Type 0) (up0 down0 up down : Pipe) (w : PairRun)
    (e e1 : TwoFronts P g)
    (told : PairAudience)
    → told.panels ≡ w.told.panels → pair_ends_of e1 ≡ record (pair_ends_of e) { first_told = told.first; second_told = told.second }
    → e1.ends.splitter ≡ e.ends.splitter → InPairRun mode honest up0 down0 up down w e
    → InPairRun mode honest up0 down0 up down (pair_telling told w) e1
run-told-so mode honest up0 down0 up down w e e1 told panels is same run = record {
  so_far = record {
    is_honest = run.so_far.is_honest;
    in_world = subst (λ (s : Frames). InPairWorld mode up0 down0 up down (pair_telling told w) (s.whole ++ awaited w.up) (pair_ends_of e1))
        (sym same)
        (subst (λ h. InPairWorld mode up0 down0 up down (pair_telling told w) (e.ends.splitter.whole ++ awaited w.up) h) (sym is)
        (world-told mode up0 down0 up down w (e.ends.splitter.whole ++ awaited w.up) (pair_ends_of e) told panels run.so_far.in_world));
  };
  none_whole = ap (λ (s : Frames). s.whole) same ∙ run.none_whole;
}

-- ---- a settle that came through

-- the front ends are what the run's streams fold into
pub run-front : {P : Type 0} {g : Ghosts P} (mode : PairMode) (honest : Type 0) (up0 down0 up down : Pipe) (w : PairRun) (e : TwoFronts P g)
    → (run : InPairRun mode honest up0 down0 up down w e)
    → front_in pair_runner no_fronts w ≡ Ok (pair_value run.so_far.in_world.fronts_are.asked e.fronts.pair)
run-front mode honest up0 down0 up down w e run =
    let fold = run.so_far.in_world.fronts_are in
    let r = value_reads up_reads in
    as-folded r (frames_of w.down.given).whole (asks_joined (join_pair r) (first_pair r) (frames_of (sent w.up)).whole)
    (pair_value fold.asked e.fronts.pair) 0 fold.value

-- the second front end stands where a session is attached
second-of : (two : Option (Second FrontState (List ℕ))) (attached : Option ℕ) → IsSecondOf two attached → is_some two ≡ is_some attached
second-of None None is = refl
second-of None (Some k) is = absurd is
second-of (Some w) None is = absurd is
second-of (Some w) (Some k) is = refl

one-of : (w : PairRun) (asked : List (SessionAsks Ask (List ℕ))) (p : StatePair) (second : Bool) → FoldShown w (pair_value asked p)
    → is_there second p ≡ true
    → OneShown second w (front_meant second p).value
one-of w asked p false shown there = shown.one
one-of w asked p true shown there = by p.two w.state.attached there shown.two where
  by : (two : Option (Second FrontState (List ℕ))) (attached : Option ℕ) → is_some two ≡ true
      → TwoShown w (option_map second_value two) attached → OneShown true w (front_meant true (record p { two = two })).value
  by None attached there two = absurd cc
  by (Some v) None there two = absurd two
  by (Some v) (Some k) there two = two

-- between two lines the second front end stands where a session is attached
pub play-stands : {P : Type 0} {g : Ghosts P} (honest : Type 0) (up0 down0 up down : Pipe) (bytes : ℕ) (w v : PairRun) (e : TwoFronts P g)
    → InPairPlay honest up0 down0 up down bytes w v e → is_there true e.fronts.pair ≡ is_some w.state.attached
play-stands honest up0 down0 up down bytes w v e play =
    second-of e.fronts.pair.two v.state.attached play.in_run.so_far.in_world.session.1
    ∙ ap (λ (s : PageSessions). is_some s.attached) (sym play.both.runs.agrees.state)

-- Both runs after a settle that came through; both front ends show what their clients see then.
pub record Settled {P : Type 0} {g : Ghosts P} (honest : Type 0) (up0 down0 up down : Pipe) (bytes : ℕ) (w v : PairRun) (e : TwoFronts P g)
    : Type 0 where
  pub in_run : InPairRun calm honest up0 down0 up down (pair_telling w.told (pair_refreshes v)) e
  pub both : PairTogether IsPlainOfPair bytes (pair_settled w) (pair_refreshes v)
  pub rests : IsAtRest (pair_refreshes v)
  pub kept : (pair_settled w).state.attached ≡ w.state.attached
  pub stands : is_there true e.fronts.pair ≡ is_some w.state.attached
  pub shown : (second : Bool) → is_there second e.fronts.pair ≡ true
      → OneShown second (pair_settled w) (front_meant second e.fronts.pair).value
  pub room : RefreshHasRoom v

-- what holds then, whatever is left
pub record SettledThen {P : Type 0} {g : Ghosts P} (honest : Type 0) (up0 down0 up down : Pipe) (w v : PairRun) (e : TwoFronts P g)
    : Type 0 where
  pub in_run : InPairRun calm honest up0 down0 up down (pair_telling w.told (pair_refreshes v)) e
  pub kept : (pair_settled w).state.attached ≡ w.state.attached
  pub stands : is_there true e.fronts.pair ≡ is_some w.state.attached
  pub shown : (second : Bool) → is_there second e.fronts.pair ≡ true
      → OneShown second (pair_settled w) (front_meant second e.fronts.pair).value

settle-then : {P : Type 0} {g : Ghosts P} (honest : Type 0) (up0 down0 up down : Pipe) (w v : PairRun) (e : TwoFronts P g)
    → PairFits w → SettledRuns w v → InPairRun calm honest up0 down0 up down (pair_telling w.told (pair_refreshes v)) e
    → SettledThen honest up0 down0 up down w v e
settle-then honest up0 down0 up down w v e fits made run =
    let kept : (pair_settled w).state.attached ≡ w.state.attached = settle-keeps pair_reads client_steps MaySend w fits.fit.calm in
    record {
      in_run = run;
      kept = kept;
      stands =
          second-of e.fronts.pair.two (pair_refreshes v).state.attached run.so_far.in_world.session.1
          ∙ ap (λ (s : PageSessions). is_some s.attached) (sym made.runs.agrees.state)
          ∙ ap is_some kept;
      shown = λ second there.
          one-of (pair_settled w) run.so_far.in_world.fronts_are.asked e.fronts.pair second
          (made.shown (pair_value run.so_far.in_world.fronts_are.asked e.fronts.pair)
          (run-front calm honest up0 down0 up down (pair_telling w.told (pair_refreshes v)) e run)) there;
    }

pub settle-made : {P : Type 0} {g : Ghosts P} (old new : Moment (TwoFronts P g)) → PairSteps {T = Unit {0}} 0 old new (Ok tt) refreshing
    → (up0 down0 : Pipe) (bytes : ℕ) (w v : PairRun) → InPairPlay old.honest up0 down0 old.up old.down (bytes + 1) w v old.ends
    → Settled new.honest up0 down0 new.up new.down bytes w v new.ends
settle-made old new steps up0 down0 bytes w v play =
    let told = w.told in
    let left = play.both.left in
    let done = steps calm up0 down0 (pair_telling told v) (left-fewer v.spent 0 (bytes + 1) (omega arith) left) tt play.in_run in
    let room : RefreshHasRoom v = subst (λ (R : Type 0). R) (room-telling told v) done.0 in
    let run : InPairRun calm new.honest up0 down0 new.up new.down (pair_telling told (pair_refreshes v)) new.ends =
    subst (λ (x : PairRun). InPairRun calm new.honest up0 down0 new.up new.down x new.ends) (refresh-telling told v) done.1 in
    let made : SettledBoth bytes w v =
    settled-both bytes w v play.both.runs (left-fewer v.spent bytes (bytes + 1) (omega arith) left)
    (left-fetches v.spent (bytes + 2) (bytes + 1) (omega arith) left) room in
    let then : SettledThen new.honest up0 down0 new.up new.down w v new.ends =
    settle-then new.honest up0 down0 new.up new.down w v new.ends play.both.calm made.runs run in
    record {
      in_run = run;
      both = made.both;
      rests = made.runs.rests;
      kept = then.kept;
      stands = then.stands;
      shown = then.shown;
      room = room;
    }

-- the last settle, after which no line comes
pub settle-last : {P : Type 0} {g : Ghosts P} (old new : Moment (TwoFronts P g)) → PairSteps {T = Unit {0}} 0 old new (Ok tt) refreshing
    → (up0 down0 : Pipe) (w v : PairRun) → InPairPlay old.honest up0 down0 old.up old.down 0 w v old.ends
    → SettledThen new.honest up0 down0 new.up new.down w v new.ends × RefreshHasRoom v
settle-last old new steps up0 down0 w v play =
    let told = w.told in
    let done = steps calm up0 down0 (pair_telling told v) play.both.left tt play.in_run in
    let room : RefreshHasRoom v = subst (λ (R : Type 0). R) (room-telling told v) done.0 in (
      settle-then new.honest up0 down0 new.up new.down w v new.ends play.both.calm
          (settled-runs w v play.both.runs (left-fetches v.spent 1 0 (omega arith) play.both.left) room)
          (subst (λ (x : PairRun). InPairRun calm new.honest up0 down0 new.up new.down x new.ends) (refresh-telling told v) done.1),
      room,
    )

module _ {P : Type 0} {g : Ghosts P} (honest : Type 0) (up0 down0 up down : Pipe) (bytes : ℕ) (w v : PairRun) (e : TwoFronts P g)
    (s : Settled honest up0 down0 up down bytes w v e) where
  -- as much was told of each front end as in the run
  pub settled-told : (second : Bool) → told_seen (told_held second e) ≡ told_on second w.told
  settled-told false = s.in_run.so_far.in_world.first_told
  settled-told true = s.in_run.so_far.in_world.second_told

  -- the front end that is meant stands just where its session does
  pub settled-there : (second : Bool) → there_on second (is_some w.state.attached) ≡ is_there second e.fronts.pair
  settled-there false = refl
  settled-there true = sym s.stands

  -- both runs go on from there
  pub settled-play : (more : ℕ) → more ≤ bytes → InPairPlay honest up0 down0 up down more (pair_settled w) (pair_refreshes v) e
  settled-play more less = record {
    both = record {
      runs = s.both.runs;
      calm = s.both.calm;
      calm_fresh = s.both.calm_fresh;
      left = left-fewer (pair_refreshes v).spent more bytes less s.both.left;
    };
    in_run = s.in_run;
  }

  -- with something told
  pub settled-telling : (more : ℕ) (told told1 : PairAudience) (e1 : TwoFronts P g) → more ≤ bytes → told.panels ≡ w.told.panels
      → pair_ends_of e1 ≡ record (pair_ends_of e) { first_told = told.first; second_told = told.second } → e1.ends.splitter
      ≡ e.ends.splitter
      → InPairPlay honest up0 down0 up down more (pair_telling told (pair_settled w)) (pair_telling told1 (pair_refreshes v)) e1
  settled-telling more told told1 e1 less panels is same = record {
    both = together-told more (pair_settled w) (pair_refreshes v) told told1 (settled-play more less).both;
    in_run = run-told-so calm honest up0 down0 up down (pair_telling w.told (pair_refreshes v)) e e1 told panels is same s.in_run;
  }

-- ---- shows

both-ways : (B : Bool → Type 0) → B false → B true → (b : Bool) → B b
both-ways B at_false at_true false = at_false
both-ways B at_false at_true true = at_true

-- A line that shows something of a front end, of either: it settles, and prints what it shows then.
pub record IsShow (form : LineForm) : Type 0 where
  pub after : (second : Bool) (w : PairRun)
      → after_pair_line (line_on second form) w ≡ pair_telling (told_by_form second form (pair_settled w)) (pair_settled w)
  pub fresh : (second : Bool) (v : PairRun)
      → fresh_pair_line (line_on second form) v ≡ pair_telling (told_by_form second form (pair_refreshes v)) (pair_refreshes v)
  pub deeds_are : (second : Bool) (v : PairRun) → deeds (line_on second form) v ≡ settle_deed ∷ []
  pub first : (second : Bool) → pair_settles_first (line_on second form) ≡ true
  pub text : (second : Bool) (number : ℕ) (w : PairRun)
      → pair_line_text number (line_on second form) w ≡ show_text second form (pair_settled w)
  pub keeps : (panels : List (Option PanelKind)) → panel_fault panels form ≡ None

pub is-show-front : IsShow show_front
is-show-front = record {
  after = both-ways (λ b. (w : PairRun)
      → after_pair_line (line_on b show_front) w
      ≡ pair_telling (told_by_form b show_front (pair_settled w)) (pair_settled w)) (λ w. refl) (λ w. refl);
  fresh = both-ways (λ b. (v : PairRun)
      → fresh_pair_line (line_on b show_front) v
      ≡ pair_telling (told_by_form b show_front (pair_refreshes v)) (pair_refreshes v)) (λ v. refl) (λ v. refl);
  deeds_are = both-ways (λ b. (v : PairRun) → deeds (line_on b show_front) v ≡ settle_deed ∷ []) (λ v. refl) (λ v. refl);
  first = both-ways (λ b. pair_settles_first (line_on b show_front) ≡ true) refl refl;
  text = both-ways
      (λ b. (number : ℕ) (w : PairRun) → pair_line_text number (line_on b show_front) w ≡ show_text b show_front (pair_settled w))
      (λ number w. refl) (λ number w. refl);
  keeps = λ panels. refl;
}

pub is-show-sheets : IsShow show_sheets
is-show-sheets = record {
  after = both-ways (λ b. (w : PairRun)
      → after_pair_line (line_on b show_sheets) w
      ≡ pair_telling (told_by_form b show_sheets (pair_settled w)) (pair_settled w)) (λ w. refl) (λ w. refl);
  fresh = both-ways (λ b. (v : PairRun)
      → fresh_pair_line (line_on b show_sheets) v
      ≡ pair_telling (told_by_form b show_sheets (pair_refreshes v)) (pair_refreshes v)) (λ v. refl)
      (λ v. refl);
  deeds_are = both-ways (λ b. (v : PairRun) → deeds (line_on b show_sheets) v ≡ settle_deed ∷ []) (λ v. refl) (λ v. refl);
  first = both-ways (λ b. pair_settles_first (line_on b show_sheets) ≡ true) refl refl;
  text = both-ways
      (λ b. (number : ℕ) (w : PairRun) → pair_line_text number (line_on b show_sheets) w ≡ show_text b show_sheets (pair_settled w))
      (λ number w. refl) (λ number w. refl);
  keeps = λ panels. refl;
}

pub is-show-replies : IsShow show_replies
is-show-replies = record {
  after = both-ways (λ b. (w : PairRun)
      → after_pair_line (line_on b show_replies) w
      ≡ pair_telling (told_by_form b show_replies (pair_settled w)) (pair_settled w)) (λ w. refl)
      (λ w. refl);
  fresh = both-ways (λ b. (v : PairRun)
      → fresh_pair_line (line_on b show_replies) v
      ≡ pair_telling (told_by_form b show_replies (pair_refreshes v)) (pair_refreshes v)) (λ v. refl)
      (λ v. refl);
  deeds_are = both-ways (λ b. (v : PairRun) → deeds (line_on b show_replies) v ≡ settle_deed ∷ []) (λ v. refl) (λ v. refl);
  first = both-ways (λ b. pair_settles_first (line_on b show_replies) ≡ true) refl refl;
  text = both-ways
      (λ b. (number : ℕ) (w : PairRun) → pair_line_text number (line_on b show_replies) w ≡ show_text b show_replies (pair_settled w))
      (λ number w. refl) (λ number w. refl);
  keeps = λ panels. refl;
}

pub is-show-pauses : IsShow show_pauses
is-show-pauses = record {
  after = both-ways (λ b. (w : PairRun)
      → after_pair_line (line_on b show_pauses) w
      ≡ pair_telling (told_by_form b show_pauses (pair_settled w)) (pair_settled w)) (λ w. refl) (λ w. refl);
  fresh = both-ways (λ b. (v : PairRun)
      → fresh_pair_line (line_on b show_pauses) v
      ≡ pair_telling (told_by_form b show_pauses (pair_refreshes v)) (pair_refreshes v)) (λ v. refl)
      (λ v. refl);
  deeds_are = both-ways (λ b. (v : PairRun) → deeds (line_on b show_pauses) v ≡ settle_deed ∷ []) (λ v. refl) (λ v. refl);
  first = both-ways (λ b. pair_settles_first (line_on b show_pauses) ≡ true) refl refl;
  text = both-ways
      (λ b. (number : ℕ) (w : PairRun) → pair_line_text number (line_on b show_pauses) w ≡ show_text b show_pauses (pair_settled w))
      (λ number w. refl) (λ number w. refl);
  keeps = λ panels. refl;
}

pub is-show-styles : (ask : ℕ) → IsShow (show_styles ask)
is-show-styles ask = record {
  after = both-ways (λ b. (w : PairRun)
      → after_pair_line (line_on b (show_styles ask)) w ≡ pair_telling (told_by_form b (show_styles ask) (pair_settled w)) (pair_settled w))
      (λ w. refl) (λ w. refl);
  fresh = both-ways (λ b. (v : PairRun)
      → fresh_pair_line (line_on b (show_styles ask)) v
      ≡ pair_telling (told_by_form b (show_styles ask) (pair_refreshes v)) (pair_refreshes v))
      (λ v. refl) (λ v. refl);
  deeds_are = both-ways (λ b. (v : PairRun) → deeds (line_on b (show_styles ask)) v ≡ settle_deed ∷ []) (λ v. refl) (λ v. refl);
  first = both-ways (λ b. pair_settles_first (line_on b (show_styles ask)) ≡ true) refl refl;
  text = both-ways (λ b. (number : ℕ) (w : PairRun)
      → pair_line_text number (line_on b (show_styles ask)) w ≡ show_text b (show_styles ask) (pair_settled w)) (λ number w. refl)
      (λ number w. refl);
  keeps = λ panels. refl;
}

-- ---- lines that settle first

-- a line whose first part is a settle has room for that where it has room
pub record SettlesFirst (form : PairForm) : Type 0 where
  pub good : (w v : PairRun) → w.state.attached ≡ v.state.attached → pair_lacking form w ≡ None → DeedsHaveRoom (deeds form v) v
      → RefreshHasRoom v
  pub bad : pair_settles_first form ≡ true

first-room : (form : PairForm) → SettlesFirst form → (w v : PairRun) → w.state.attached ≡ v.state.attached
    → line_or (pair_lacking form w) form v ⊤ → RefreshHasRoom v
first-room form first w v same room = by (pair_lacking form w) refl room where
  by : (o : Option LineFault) → pair_lacking form w ≡ o → line_or o form v ⊤ → RefreshHasRoom v
  by None is room = first.good w v same is room.0
  by (Some fault) is room = subst (λ b. WhereTrue b (RefreshHasRoom v)) first.bad room

-- a show is such a line
pub show-settles : (second : Bool) (form : LineForm) → IsShow form → SettlesFirst (line_on second form)
show-settles second form show = record {
  good = λ w v same lacks room. (subst (λ ds. DeedsHaveRoom ds v) (show.deeds_are second v) room).0;
  bad = show.first second;
}

-- such a line, where the settle stops
pub settle-stops : {P : Type 0} {g : Ghosts P} (stop : Stop) (old new : Moment (TwoFronts P g)) (taken : Option (List ℕ)) (number : ℕ)
    (form : PairForm) (sink0 sink1 link0 link1 : ℕ) → SettlesFirst form
    → HasStopCause {T = Unit {0}} sink0 sink1 link0 link1 (Err stop) → PairSteps {T = Unit {0}} 0 old new (Err stop) refreshing
    → PairCarries {T = Unit {0}} (numbered_pair number form) (scene old taken) (scene new taken) (Err stop)
settle-stops stop old new taken number form sink0 sink1 link0 link1 first cause steps = λ up0 down0 more w v play.
    let done = steps calm up0 down0 (pair_telling w.told v) (left-fewer v.spent 0 (more + least_line) (omega arith) play.both.left) tt
    play.in_run in
    let told : RoomTold {T = Unit {0}} (Err stop) (RefreshHasRoom v) =
    subst (λ (R : Type 0). RoomTold {T = Unit {0}} (Err stop) R) (room-telling w.told v) done.0 in
    let text = text_unless (pair_lacking form w) (pair_line_text number form w) in (
      tt,
      part-took stop sink0 sink1 link0 link1 (RefreshHasRoom v) taken taken text cause told (wrote-none taken text),
      part-tells stop sink0 sink1 link0 link1 (numbered_or number (pair_lacking form w) None) cause,
      room-stops stop sink0 sink1 link0 link1 (RefreshHasRoom v) (line_or (pair_lacking form w) form v ⊤) cause
          (first-room form first w v (ap (λ (s : PageSessions). s.attached) play.both.runs.agrees.state)) told,
    )

-- the least line counts four bytes: one for its settle, and three more
pub line-counts : (more : ℕ) → more + least_line ≡ more + 3 + 1
line-counts more = omega arith

-- a line that is refused prints nothing, once all has come
pub line-refused : {P : Type 0} {g : Ghosts P} (fault : LineFault) (stop : Stop) (old mid : Moment (TwoFronts P g))
    (taken : Option (List ℕ))
    (number : ℕ) (form : PairForm)
    → stop ≡ Line number fault → pair_settles_first form ≡ true → PairSteps {T = Unit {0}} 0 old mid (Ok tt) refreshing
    → ((up0 down0 : Pipe) (bytes : ℕ) (w v : PairRun) → Settled mid.honest up0 down0 mid.up mid.down bytes w v mid.ends
    → pair_lacking form w ≡ Some fault)
    → PairCarries {T = Unit {0}} (numbered_pair number form) (scene old taken) (scene mid taken) (Err stop)
line-refused fault stop old mid taken number form is first steps lacks =
    subst (λ s. PairCarries {T = Unit {0}} (numbered_pair number form) (scene old taken) (scene mid taken) (Err s)) (sym is)
    (λ up0 down0 more w v play.
    let s : Settled mid.honest up0 down0 mid.up mid.down (more + 3) w v mid.ends =
    settle-made old mid steps up0 down0 (more + 3) w v
    (subst (λ n. InPairPlay old.honest up0 down0 old.up old.down n w v old.ends) (line-counts more) play) in
    let lacking : pair_lacking form w ≡ Some fault = lacks up0 down0 (more + 3) w v s in (
      tt,
      subst (λ o. Appends taken taken (text_unless o (pair_line_text number form w))) (sym lacking) (Appends-nil taken),
      ap (λ o. numbered_or number o None) lacking,
      subst (λ o. line_or o form v ⊤) (sym lacking) (subst (λ b. WhereTrue b (RefreshHasRoom v)) (sym first) s.room),
    ))

-- a show of a front end that does not stand
pub show-refused : {P : Type 0} {g : Ghosts P} (second : Bool) (form : LineForm) (stop : Stop) (old mid : Moment (TwoFronts P g))
    (taken : Option (List ℕ)) (number : ℕ)
    → IsShow form → stop ≡ Line number BadSession → is_there second mid.ends.fronts.pair ≡ false
    → PairSteps {T = Unit {0}} 0 old mid (Ok tt) refreshing
    → PairCarries {T = Unit {0}} (numbered_pair number (line_on second form)) (scene old taken) (scene mid taken) (Err stop)
show-refused second form stop old mid taken number show is none steps =
    line-refused BadSession stop old mid taken number (line_on second form) is (show.first second) steps
    (λ up0 down0 bytes w v s.
    show-want (met_in w) second form (show.keeps w.told.panels)
    ∙ ap (λ b. show_fault b (styles_fault (came_to second (met_in w)) form))
    (settled-there mid.honest up0 down0 mid.up mid.down bytes w v mid.ends s second ∙ none))

-- Where the front end stands, and its client sees what is printed: the line says so.
pub record ShowSays {P : Type 0} {g : Ghosts P} (second : Bool) (form : LineForm) (result : Result (Unit {0}) Stop)
    (mid new : Moment (TwoFronts P g))
    (taken taken1 : Option (List ℕ)) (number : ℕ) (up0 down0 : Pipe) (more : ℕ) (w v : PairRun) : Type 0 where
  pub play : OnOk result (InPairPlay new.honest up0 down0 new.up new.down more
      (pair_telling (told_by_form second form (pair_settled w)) (pair_settled w))
      (pair_telling (told_by_form second form (pair_refreshes v)) (pair_refreshes v)) new.ends)
  pub took : PairRunTook result taken taken1
      (text_unless (styles_fault (came_to second (met_in w)) form) (show_text second form (pair_settled w)))
  pub tells : RunTells result (numbered_or number (styles_fault (came_to second (met_in w)) form) None)

pub show-carries : {P : Type 0} {g : Ghosts P} (second : Bool) (form : LineForm) (result : Result (Unit {0}) Stop)
    (old mid new : Moment (TwoFronts P g))
    (taken taken1 : Option (List ℕ)) (number : ℕ)
    → IsShow form → is_there second mid.ends.fronts.pair ≡ true → PairSteps {T = Unit {0}} 0 old mid (Ok tt) refreshing → GoesWell result
    → ((up0 down0 : Pipe) (more : ℕ) (w v : PairRun) → Settled mid.honest up0 down0 mid.up mid.down (more + 3) w v mid.ends
    → ShowSays second form result mid new taken taken1 number up0 down0 more w v)
    → PairCarries (numbered_pair number (line_on second form)) (scene old taken) (scene new taken1) result
show-carries second form result old mid new taken taken1 number show there steps well says = λ up0 down0 more w v play.
    let s : Settled mid.honest up0 down0 mid.up mid.down (more + 3) w v mid.ends =
    settle-made old mid steps up0 down0 (more + 3) w v
    (subst (λ n. InPairPlay old.honest up0 down0 old.up old.down n w v old.ends) (line-counts more) play) in
    let said = says up0 down0 more w v s in
    let fault = styles_fault (came_to second (met_in w)) form in
    let lacking : pair_lacking (line_on second form) w ≡ fault =
    show-want (met_in w) second form (show.keeps w.told.panels)
    ∙ ap (λ b. show_fault b fault) (settled-there mid.honest up0 down0 mid.up mid.down (more + 3) w v mid.ends s second ∙ there) in (
      subst (λ x. OnOk result (InPairPlay new.honest up0 down0 new.up new.down more x (fresh_pair_line (line_on second form) v) new.ends))
          (sym (show.after second w))
          (subst (λ x. OnOk result (InPairPlay new.honest up0 down0 new.up new.down more
          (pair_telling (told_by_form second form (pair_settled w)) (pair_settled w)) x new.ends)) (sym (show.fresh second v)) said.play),
      subst (λ o. PairRunTook result taken taken1 (text_unless o (pair_line_text number (line_on second form) w))) (sym lacking)
          (subst (λ t. PairRunTook result taken taken1 (text_unless fault t)) (sym (show.text second number w)) said.took),
      subst (λ o. RunTells result (numbered_or number o None)) (sym lacking) said.tells,
      room-there result (line_or (pair_lacking (line_on second form) w) (line_on second form) v ⊤) well
          (by v (pair_lacking (line_on second form) w) s.room),
    )
  where
    by : (v : PairRun) (o : Option LineFault) → RefreshHasRoom v → line_or o (line_on second form) v ⊤
    by v None room = (subst (λ ds. DeedsHaveRoom ds v) (sym (show.deeds_are second v)) (room, tt), tt)
    by v (Some fault) room = subst (λ b. WhereTrue b (RefreshHasRoom v)) (sym (show.first second)) room
