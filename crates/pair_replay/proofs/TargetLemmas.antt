-- A session is attached or detached: a settle, the command, and a settle.
use Rattle.std.proofs.Common.{◌≡◌, ℕ, ◌+◌, ◌*◌, ◌≤◌, List, [], ◌∷◌, Bool, true, false, cond, is_some, Option, Some, None, refl, sym, ◌∙◌}
use Rattle.std.proofs.Common.{ap}
use Rattle.std.proofs.Common.{subst, arith, Result, Ok, Err}
use Rattle.std.specs.Prelude.{⊤}
use Rattle.std.specs.Result.{OnOk}
use Rattle.std.specs.Io.KnownBytes.{Appends}
use Rattle.front_mirror.specs.declared.panels.Panel.{Ghosts}
use Rattle.pipe_frames.specs.Pipe.{Pipe}
use Rattle.pipe_frames.proofs.WholeLemmas.{Appends-nil}
use Rattle.node_tree.specs.Keys.{first_of}
use Rattle.node_tree.specs.Numbers.{fetch_limit}
use Rattle.replay_script.specs.Script.{numbered_or}
use Rattle.replay_script.specs.PairLines.{PairForm, attach_session, detach_session}
use Rattle.replay_script.specs.declared.faults.LineFault.{LineFault}
use Rattle.replay_script.specs.declared.faults.LineFault.TheVariants.{BadSession}
use Rattle.session_mux.specs.Sessions.{session_text}
use Rattle.session_runs.specs.World.{sent_up}
use Rattle.session_runs.specs.PairRuns.{targeting}
use Rattle.multi_replay.specs.States.{is_there, attach_text, detach_text}
use Rattle.inspect_world.specs.World.{nothing_told}
use Rattle.inspect_world.specs.Costs.{least_line}
use Rattle.inspect_world.specs.Fits.{most_bytes, most_sheets, most_fetches}
use Rattle.pair_world.specs.PairFits.{PageSessions}
use Rattle.pair_world.specs.PairRuns.{PairSpent, PairPlainlySpent, PairAudience, PairRun, pair_plainly, pair_settled, one_attach}
use Rattle.pair_world.specs.PairRuns.{one_detach}
use Rattle.pair_world.specs.PairRuns.{next_target, with_told, after_deeds_by, PairDeed}
use Rattle.pair_world.specs.PairScripts.{deeds, detach_deeds, pair_telling, told_after, after_pair_line, pair_line_text, pair_lacking}
use Rattle.pair_world.specs.PairFresh.{pair_refreshes, fresh_pair_line, PairTogether, PairHasLeft, RefreshHasRoom, DeedsHaveRoom, line_or}
use Rattle.pair_world.specs.PairHeld.{calm, targeted}
use Rattle.pair_world.proofs.FetchRuns.{refreshes-told}
use Rattle.replay_parts.specs.declared.stop.Stop.{Stop}
use Rattle.replay_parts.specs.declared.stop.Stop.TheVariants.{Line}
use Rattle.replay_parts.specs.Moments.{Moment, scene}
use Rattle.replay_parts.specs.Stops.{HasStopCause}
use Rattle.replay_parts.specs.Answers.{RunTells}
use Rattle.pair_replay.specs.declared.two_fronts.TwoFronts.{TwoFronts}
use Rattle.pair_replay.specs.declared.two_fronts.ToldCounts.{ToldCounts}
use Rattle.pair_replay.specs.Tellings.{told_seen}
use Rattle.pair_replay.specs.PairStarts.{with_told_held}
use Rattle.pair_replay.specs.PairAnswers.{PairRunTook, RoomTold}
use Rattle.pair_replay.specs.Running.{pair_ends_of, InPairRun, InPairPlay, PairSteps, refreshing, targets_up, attached_text, IsPlainOfPair}
use Rattle.pair_replay.specs.Running.{sending_attach, sending_detach}
use Rattle.pair_replay.specs.Playing.{PairCarries, numbered_pair, text_unless}
use Rattle.pair_replay.proofs.PairTheory.{left-fewer, together-told, FetchesLeft, AreTogether, SettledBoth, settled-both, MayTarget}
use Rattle.pair_replay.proofs.PairTheory.{attach-goes}
use Rattle.pair_replay.proofs.PairTheory.{detach-goes}
use Rattle.pair_replay.proofs.PairTheory.{targeted-together}
use Rattle.pair_replay.proofs.TellingLemmas.{refresh-telling, room-telling}
use Rattle.pair_replay.proofs.StopLemmas.{part-took, room-stops}
use Rattle.pair_replay.proofs.LineRuns.{Settled, settle-made, SettlesFirst, run-told-so, line-refused, line-counts}
use Rattle.replay_parts.proofs.StopLemmas.{wrote-none, part-tells}

-- What the line of an attach or a detach is, where that session is attached: the command has an id, and counts as one more.
pub record Targets (form : PairForm) (Right : Option ℕ → Type 0) (mk : ℕ → List ℕ) (text : PairRun → List ℕ) (count : PairSpent → PairSpent)
    (retold : PairAudience → PairAudience) : Type 0 where
  pub text_is : (u : PairRun) → Right u.state.attached → text u ≡ mk (next_target u.spent)
  pub deeds_are : (v : PairRun) → Right v.state.attached → deeds form v ≡ targeting (mk (next_target v.spent)) count ∷ []
  pub told_is : (w : PairRun) → told_after form w ≡ retold w.told
  pub keeps : (told : PairAudience) → (retold told).panels ≡ told.panels
  pub silent : (number : ℕ) (w : PairRun) → pair_line_text number form w ≡ []
  pub lacks : (w : PairRun) → Right w.state.attached → pair_lacking form w ≡ None
  pub goes : (k : ℕ) (w v : PairRun) → Right w.state.attached → PairTogether IsPlainOfPair k w v
      → MayTarget w.state.attached (mk (next_target w.spent))
  pub plain : (n m : PairSpent) → pair_plainly n ≡ pair_plainly m → pair_plainly (count n) ≡ pair_plainly (count m)
  pub left : (n m : PairSpent) (k : ℕ) → pair_plainly n ≡ pair_plainly m → PairHasLeft m (k + least_line) → PairHasLeft n (k + 3)
      → PairHasLeft (count n) k × FetchesLeft (count n) (k + 2)

module _ {P : Type 0} {g : Ghosts P} (form : PairForm) (Right : Option ℕ → Type 0) (mk : ℕ → List ℕ) (text : PairRun → List ℕ)
    (count : PairSpent → PairSpent) (retold : PairAudience → PairAudience) (targets : Targets form Right mk text count retold)
    (honest1 : Type 0) (up0 down0 up1 down1 : Pipe) (more : ℕ) (w v : PairRun) (e1 : TwoFronts P g)
    (both : PairTogether IsPlainOfPair (more + least_line) w v) (s : Settled honest1 up0 down0 up1 down1 (more + 3) w v e1)
    (right : Right w.state.attached) where
  -- the run with fetches, after the first settle
  abbrev first : PairRun
  first = pair_refreshes v

  right-settled : Right (pair_settled w).state.attached
  right-settled = subst Right (sym s.kept) right

  right-first : Right first.state.attached
  right-first = subst (λ (x : PageSessions). Right x.attached) s.both.runs.agrees.state right-settled

  right-fresh : Right v.state.attached
  right-fresh = subst (λ (x : PageSessions). Right x.attached) both.runs.agrees.state right

  -- as many were sent before in both runs
  same-plain : pair_plainly first.spent ≡ pair_plainly v.spent
  same-plain = sym s.both.runs.agrees.spent ∙ both.runs.agrees.spent

  same-text : mk (next_target first.spent) ≡ mk (next_target v.spent)
  same-text = ap (λ (n : PairPlainlySpent). mk (fetch_limit + n.targets)) same-plain

  run-text : mk (next_target w.spent) ≡ mk (next_target v.spent)
  run-text = ap (λ (n : PairPlainlySpent). mk (fetch_limit + n.targets)) both.runs.agrees.spent

  -- the command may be sent
  pub may-target : (targets_up text count).may calm (pair_telling w.told first)
  may-target = (refl, record { up = s.rests.up; down = s.rests.down })

  -- where the second settle begins
  abbrev sent_first : PairRun
  sent_first = sent_up (mk (next_target v.spent)) count first

  pub left-then : PairHasLeft (count first.spent) more × FetchesLeft (count first.spent) (more + 2)
  left-then = targets.left first.spent v.spent more same-plain both.left s.both.left

  together-then : AreTogether (sent_up (mk (next_target w.spent)) count (pair_settled w)) sent_first
  together-then =
      subst (λ t. AreTogether (sent_up (mk (next_target w.spent)) count (pair_settled w)) (sent_up t count first)) run-text
      (targeted-together (more + 3) (mk (next_target w.spent)) count (pair_settled w) first
      (targets.goes (more + 3) (pair_settled w) first right-settled s.both)
      (targets.plain (pair_settled w).spent first.spent s.both.runs.agrees.spent) s.rests s.both)

  -- what the command takes the run to
  pub sent-is : (targets_up text count).to (pair_telling w.told first) ≡ pair_telling w.told sent_first
  sent-is =
      ap (λ t. sent_up t count (pair_telling w.told first))
      (targets.text_is (pair_telling w.told first) right-first ∙ same-text)

  lacks-none : pair_lacking form w ≡ None
  lacks-none = targets.lacks w right

  -- the room of the line is that of both settles
  pub second-room : line_or (pair_lacking form w) form v ⊤ → RefreshHasRoom sent_first
  second-room room =
      (subst (λ ds. DeedsHaveRoom ds v) (targets.deeds_are v right-fresh) (subst (λ o. line_or o form v ⊤) lacks-none room).0).0.1

  rooms-are : RefreshHasRoom sent_first → line_or (pair_lacking form w) form v ⊤
  rooms-are room =
      subst (λ o. line_or o form v ⊤) (sym lacks-none)
      (subst (λ ds. DeedsHaveRoom ds v) (sym (targets.deeds_are v right-fresh)) ((s.room, room), tt), tt)

  -- both runs after the line
  after-is : after_pair_line form w
      ≡ pair_telling (retold w.told) (pair_settled (sent_up (mk (next_target w.spent)) count (pair_settled w)))
  after-is =
      let of_deeds : List PairDeed → PairRun = λ ds.
      let done = after_deeds_by pair_settled ds w in pair_telling (told_after form done) done in
      let done = pair_settled (sent_up (mk (next_target w.spent)) count (pair_settled w)) in
      ap of_deeds (targets.deeds_are w right) ∙ ap (λ t. pair_telling t done) (targets.told_is done)

  fresh-is : fresh_pair_line form v ≡ pair_telling (retold v.told) (pair_refreshes sent_first)
  fresh-is =
      let of_deeds : List PairDeed → PairRun =
      λ ds. let done = after_deeds_by pair_refreshes ds v in pair_telling (told_after form done) done in
      let done = pair_refreshes sent_first in
      ap of_deeds (targets.deeds_are v right-fresh)
      ∙ ap (λ t. pair_telling t done) (targets.told_is done ∙ ap retold told-still)
    where
      told-still : (pair_refreshes sent_first).told ≡ v.told
      told-still = refreshes-told sent_first ∙ refreshes-told v

  -- the second settle came through
  pub target-play : (honest3 : Type 0) (up3 down3 : Pipe) (e3 e4 : TwoFronts P g)
      → InPairRun calm honest3 up0 down0 up3 down3 (pair_refreshes (pair_telling w.told sent_first)) e3
      → RefreshHasRoom (pair_telling w.told sent_first)
      → pair_ends_of e4 ≡ record (pair_ends_of e3) { first_told = (retold w.told).first; second_told = (retold w.told).second }
      → e4.ends.splitter ≡ e3.ends.splitter
      → InPairPlay honest3 up0 down0 up3 down3 more (after_pair_line form w) (fresh_pair_line form v) e4
      × line_or (pair_lacking form w) form v ⊤
  target-play honest3 up3 down3 e3 e4 run room is same =
      let room1 : RefreshHasRoom sent_first = subst (λ (R : Type 0). R) (room-telling w.told sent_first) room in
      let made : SettledBoth more (sent_up (mk (next_target w.spent)) count (pair_settled w)) sent_first =
      settled-both more (sent_up (mk (next_target w.spent)) count (pair_settled w)) sent_first together-then left-then.0 left-then.1
      room1 in
      let done = pair_settled (sent_up (mk (next_target w.spent)) count (pair_settled w)) in
      let told_run : InPairRun calm honest3 up0 down0 up3 down3 (pair_telling (retold w.told) (pair_refreshes sent_first)) e4 =
      run-told-so calm honest3 up0 down0 up3 down3 (pair_telling w.told (pair_refreshes sent_first)) e3 e4 (retold w.told)
      (targets.keeps w.told) is same
      (subst (λ x. InPairRun calm honest3 up0 down0 up3 down3 x e3) (refresh-telling w.told sent_first) run) in
      let play : InPairPlay honest3 up0 down0 up3 down3 more (pair_telling (retold w.told) done)
      (pair_telling (retold v.told) (pair_refreshes sent_first)) e4 = record {
        both = together-told more done (pair_refreshes sent_first) (retold w.told) (retold v.told) made.both;
        in_run = told_run;
      } in (
        subst (λ x. InPairPlay honest3 up0 down0 up3 down3 more x (fresh_pair_line form v) e4) (sym after-is)
            (subst (λ x. InPairPlay honest3 up0 down0 up3 down3 more (pair_telling (retold w.told) done) x e4) (sym fresh-is) play),
        rooms-are room1,
      )

-- ---- the whole line

module _ {P : Type 0} {g : Ghosts P} (form : PairForm) (number : ℕ) (taken : Option (List ℕ)) (old mid : Moment (TwoFronts P g)) where
  -- what such a line says, where the session is as it has to be
  abbrev pub Says : Result (Unit {0}) Stop → Moment (TwoFronts P g) → (up0 down0 : Pipe) → ℕ → PairRun → PairRun → Type 0
  Says result new up0 down0 more w v =
      OnOk result (InPairPlay new.honest up0 down0 new.up new.down more (after_pair_line form w) (fresh_pair_line form v) new.ends)
      × PairRunTook result taken taken (text_unless (pair_lacking form w) (pair_line_text number form w))
      × RunTells result (numbered_or number (pair_lacking form w) None)
      × RoomTold result (line_or (pair_lacking form w) form v ⊤)

  -- it says so of any run, once the first settle came through
  pub by-settle : (result : Result (Unit {0}) Stop) (new : Moment (TwoFronts P g)) → PairSteps {T = Unit {0}} 0 old mid (Ok tt) refreshing
      → ((up0 down0 : Pipe) (more : ℕ) (w v : PairRun) → PairTogether IsPlainOfPair (more + least_line) w v
      → Settled mid.honest up0 down0 mid.up mid.down (more + 3) w v mid.ends → Says result new up0 down0 more w v)
      → PairCarries (numbered_pair number form) (scene old taken) (scene new taken) result
  by-settle result new steps says = λ up0 down0 more w v play.
      says up0 down0 more w v play.both
      (settle-made old mid steps up0 down0 (more + 3) w v
      (subst (λ n. InPairPlay old.honest up0 down0 old.up old.down n w v old.ends) (line-counts more) play))

  module _ (Right : Option ℕ → Type 0) (mk : ℕ → List ℕ) (text : PairRun → List ℕ) (count : PairSpent → PairSpent)
      (retold : PairAudience → PairAudience) (targets : Targets form Right mk text count retold) where
    -- the command was not sent
    pub target-unsent : (stop : Stop) (new : Moment (TwoFronts P g)) (sink0 sink1 link0 link1 : ℕ)
        → HasStopCause {T = Unit {0}} sink0 sink1 link0 link1 (Err stop)
        → PairSteps {T = Unit {0}} 0 mid new (Err stop) (targets_up text count)
        → (up0 down0 : Pipe) (more : ℕ) (w v : PairRun) → PairTogether IsPlainOfPair (more + least_line) w v
        → Settled mid.honest up0 down0 mid.up mid.down (more + 3) w v mid.ends → Right w.state.attached
        → Says (Err stop) new up0 down0 more w v
    target-unsent stop new sink0 sink1 link0 link1 cause steps up0 down0 more w v both s right =
        let first = pair_refreshes v in
        let done = steps calm up0 down0 (pair_telling w.told first) (left-fewer first.spent 0 (more + 3) (omega arith) s.both.left)
        (may-target form Right mk text count retold targets mid.honest up0 down0 mid.up mid.down more w v mid.ends both s right) s.in_run in
        let shown = text_unless (pair_lacking form w) (pair_line_text number form w) in (
          tt,
          part-took stop sink0 sink1 link0 link1 ⊤ taken taken shown cause done.0 (wrote-none taken shown),
          part-tells stop sink0 sink1 link0 link1 (numbered_or number (pair_lacking form w) None) cause,
          room-stops stop sink0 sink1 link0 link1 ⊤ (line_or (pair_lacking form w) form v ⊤) cause (λ room. tt) done.0,
        )

    -- the second settle stopped
    pub target-stops : (stop : Stop) (mid2 new : Moment (TwoFronts P g)) (sink0 sink1 link0 link1 : ℕ)
        → HasStopCause {T = Unit {0}} sink0 sink1 link0 link1 (Err stop)
        → PairSteps {T = Unit {0}} 0 mid mid2 (Ok tt) (targets_up text count)
        → PairSteps {T = Unit {0}} 0 mid2 new (Err stop) refreshing
        → (up0 down0 : Pipe) (more : ℕ) (w v : PairRun) → PairTogether IsPlainOfPair (more + least_line) w v
        → Settled mid.honest up0 down0 mid.up mid.down (more + 3) w v mid.ends → Right w.state.attached
        → Says (Err stop) new up0 down0 more w v
    target-stops stop mid2 new sink0 sink1 link0 link1 cause steps steps2 up0 down0 more w v both s right =
        let first = pair_refreshes v in
        let u = pair_telling w.told (sent_up (mk (next_target v.spent)) count first) in
        let done = steps calm up0 down0 (pair_telling w.told first) (left-fewer first.spent 0 (more + 3) (omega arith) s.both.left)
        (may-target form Right mk text count retold targets mid.honest up0 down0 mid.up mid.down more w v mid.ends both s right) s.in_run in
        let run : InPairRun targeted mid2.honest up0 down0 mid2.up mid2.down u mid2.ends =
        subst (λ x. InPairRun targeted mid2.honest up0 down0 mid2.up mid2.down x mid2.ends)
        (sent-is form Right mk text count retold targets mid.honest up0 down0 mid.up mid.down more w v mid.ends both s right) done.1 in
        let left = left-then form Right mk text count retold targets mid.honest up0 down0 mid.up mid.down more w v mid.ends both s right in
        let done2 = steps2 targeted up0 down0 u (left-fewer (count first.spent) 0 more (omega arith) left.0) tt run in
        let told : RoomTold {T = Unit {0}} (Err stop) (RefreshHasRoom (sent_up (mk (next_target v.spent)) count first)) =
        subst (λ (R : Type 0). RoomTold {T = Unit {0}} (Err stop) R)
        (room-telling w.told (sent_up (mk (next_target v.spent)) count first)) done2.0 in
        let shown = text_unless (pair_lacking form w) (pair_line_text number form w) in (
          tt,
          part-took stop sink0 sink1 link0 link1 (RefreshHasRoom u) taken taken shown cause done2.0 (wrote-none taken shown),
          part-tells stop sink0 sink1 link0 link1 (numbered_or number (pair_lacking form w) None) cause,
          room-stops stop sink0 sink1 link0 link1 (RefreshHasRoom (sent_up (mk (next_target v.spent)) count first))
              (line_or (pair_lacking form w) form v ⊤) cause
              (second-room form Right mk text count retold targets mid.honest up0 down0 mid.up mid.down more w v mid.ends both s right)
              told,
        )

    -- or came through
    pub target-done : (mid2 mid3 : Moment (TwoFronts P g)) (e : TwoFronts P g)
        → PairSteps {T = Unit {0}} 0 mid mid2 (Ok tt) (targets_up text count)
        → PairSteps {T = Unit {0}} 0 mid2 mid3 (Ok tt) refreshing
        → ((told : PairAudience) → (pair_ends_of mid3.ends).first_told ≡ told.first → (pair_ends_of mid3.ends).second_told ≡ told.second
        → pair_ends_of e ≡ record (pair_ends_of mid3.ends) { first_told = (retold told).first; second_told = (retold told).second })
        → e.ends.splitter ≡ mid3.ends.ends.splitter
        → (up0 down0 : Pipe) (more : ℕ) (w v : PairRun)
        → PairTogether IsPlainOfPair (more + least_line) w v
        → Settled mid.honest up0 down0 mid.up mid.down (more + 3) w v mid.ends → Right w.state.attached
        → Says (Ok tt) (record mid3 { ends = e }) up0 down0 more w v
    target-done mid2 mid3 e steps steps2 retells same up0 down0 more w v both s right =
        let first = pair_refreshes v in
        let u = pair_telling w.told (sent_up (mk (next_target v.spent)) count first) in
        let done = steps calm up0 down0 (pair_telling w.told first) (left-fewer first.spent 0 (more + 3) (omega arith) s.both.left)
        (may-target form Right mk text count retold targets mid.honest up0 down0 mid.up mid.down more w v mid.ends both s right) s.in_run in
        let run : InPairRun targeted mid2.honest up0 down0 mid2.up mid2.down u mid2.ends =
        subst (λ x. InPairRun targeted mid2.honest up0 down0 mid2.up mid2.down x mid2.ends)
        (sent-is form Right mk text count retold targets mid.honest up0 down0 mid.up mid.down more w v mid.ends both s right) done.1 in
        let left = left-then form Right mk text count retold targets mid.honest up0 down0 mid.up mid.down more w v mid.ends both s right in
        let done2 = steps2 targeted up0 down0 u (left-fewer (count first.spent) 0 more (omega arith) left.0) tt run in
        let told_is : (pair_refreshes u).told ≡ w.told = refreshes-told u in
        let world = done2.1.so_far.in_world in
        let is = retells w.told (world.first_told ∙ ap (λ (n : PairAudience). n.first) told_is)
        (world.second_told ∙ ap (λ (n : PairAudience). n.second) told_is) in
        let play = target-play form Right mk text count retold targets mid.honest up0 down0 mid.up mid.down more w v mid.ends both s right
        mid3.honest mid3.up mid3.down mid3.ends e done2.1 done2.0 is same in
        let none : pair_lacking form w ≡ None = targets.lacks w right in (
          play.0,
          subst (λ o. Appends taken taken (text_unless o (pair_line_text number form w))) (sym none)
              (subst (λ t. Appends taken taken t) (sym (targets.silent number w)) (Appends-nil taken)),
          ap (λ o. numbered_or number o None) none,
          play.1,
        )

-- ---- an attach

left-attached : (n m : PairSpent) (k : ℕ) → pair_plainly n ≡ pair_plainly m → PairHasLeft m (k + least_line) → PairHasLeft n (k + 3)
    → PairHasLeft (one_attach n) k × FetchesLeft (one_attach n) (k + 2)
left-attached n m k same left rest =
    let asks : m.asks * 4 + (k + 4) ≤ most_bytes = left.asks in
    let targets : m.targets * 4 + (k + 4) ≤ most_bytes = left.targets in
    let fetches : n.fetches + (k + 3 + 1) * most_sheets ≤ most_fetches = rest.fetches in
    let same_asks : n.asks ≡ m.asks = ap (λ (x : PairPlainlySpent). x.asks) same in
    let same_targets : n.targets ≡ m.targets = ap (λ (x : PairPlainlySpent). x.targets) same in (
      record {
        asks = omega (arith, asks, same_asks);
        second_asks = omega (arith, asks);
        targets = omega (arith, targets, same_targets);
        fetches = omega (arith, fetches);
        second_fetches = omega (arith, fetches);
      },
      record { fetches = omega (arith, fetches); second_fetches = omega (arith, fetches) },
    )

pub attach-targets : Targets attach_session (λ o. o ≡ None) attach_text (λ w. attach_text (next_target w.spent)) one_attach
    (with_told true nothing_told)
attach-targets = record {
  text_is = λ u right. refl;
  deeds_are = λ v right. refl;
  told_is = λ w. refl;
  keeps = λ told. refl;
  silent = λ number w. refl;
  lacks = λ w right. ap (λ (o : Option ℕ). first_of (cond (is_some o) (Some BadSession) None) None) right;
  goes = λ k w v right both. attach-goes k w v right both;
  plain = λ n m same.
      ap (λ (x : PairPlainlySpent). record { asks = x.asks; second_asks = 0; targets = x.targets + 1 }) same;
  left = left-attached;
}

-- an attach settles first
pub attach-first : SettlesFirst attach_session
attach-first = record { good = λ w v same lacks room. room.0.0; bad = refl }

-- ---- a detach

left-detached : (n m : PairSpent) (k : ℕ) → pair_plainly n ≡ pair_plainly m → PairHasLeft m (k + least_line) → PairHasLeft n (k + 3)
    → PairHasLeft (one_detach n) k × FetchesLeft (one_detach n) (k + 2)
left-detached n m k same left rest =
    let less : PairHasLeft n k = left-fewer n k (k + 3) (omega arith) rest in
    let targets : m.targets * 4 + (k + 4) ≤ most_bytes = left.targets in
    let fetches : n.fetches + (k + 3 + 1) * most_sheets ≤ most_fetches = rest.fetches in
    let second_fetches : n.second_fetches + (k + 3 + 1) * most_sheets ≤ most_fetches = rest.second_fetches in
    let same_targets : n.targets ≡ m.targets = ap (λ (x : PairPlainlySpent). x.targets) same in (
      record {
        asks = less.asks;
        second_asks = less.second_asks;
        targets = omega (arith, targets, same_targets);
        fetches = less.fetches;
        second_fetches = less.second_fetches;
      },
      record { fetches = omega (arith, fetches); second_fetches = omega (arith, second_fetches) },
    )

pub detach-targets : (k : ℕ) → Targets detach_session (λ o. o ≡ Some k) (λ id. detach_text id (session_text k))
    (λ w. detach_text (next_target w.spent) (attached_text w.state.attached)) one_detach (λ told. told)
detach-targets k = record {
  text_is = λ u right. ap (λ o. detach_text (next_target u.spent) (attached_text o)) right;
  deeds_are = λ v right. ap (λ o. detach_deeds o (next_target v.spent)) right;
  told_is = λ w. refl;
  keeps = λ told. refl;
  silent = λ number w. refl;
  lacks = λ w right. ap (λ (o : Option ℕ). first_of (cond (is_some o) None (Some BadSession)) None) right;
  goes = λ j w v right both. detach-goes j k w v right both;
  plain = λ n m same. ap (λ (x : PairPlainlySpent). record x { targets = x.targets + 1 }) same;
  left = left-detached;
}

pub none-of : (o : Option ℕ) → is_some o ≡ false → o ≡ None
none-of None e = refl
none-of (Some k) e = absurd cc

pub some-of : (o : Option ℕ) → is_some o ≡ true → (k : ℕ) × (o ≡ Some k)
some-of None e = absurd cc
some-of (Some k) e = (k, refl)

-- so does a detach
pub detach-first : SettlesFirst detach_session
detach-first = record {
  good = λ w v same lacks room.
      let some = some-of w.state.attached (stands (is_some w.state.attached) lacks) in
      (subst (λ ds. DeedsHaveRoom ds v) (ap (λ o. detach_deeds o (next_target v.spent)) (sym same ∙ some.1)) room).0.0;
  bad = refl;
}
  where
    stands : (b : Bool) → ◌≡◌ {A = Option LineFault} (first_of (cond b None (Some BadSession)) None) None → b ≡ true
    stands true e = refl
    stands false e = absurd cc

-- ---- both lines

-- the session of the run is as the front ends have it
module _ {P : Type 0} {g : Ghosts P} (number : ℕ) (taken : Option (List ℕ)) (old mid : Moment (TwoFronts P g))
    (steps : PairSteps {T = Unit {0}} 0 old mid (Ok tt) refreshing) where
  -- an attach where a session is attached
  pub attach-refused : (stop : Stop) → stop ≡ Line number BadSession → is_there true mid.ends.fronts.pair ≡ true
      → PairCarries {T = Unit {0}} (numbered_pair number attach_session) (scene old taken) (scene mid taken) (Err stop)
  attach-refused stop is there =
      line-refused BadSession stop old mid taken number attach_session is refl steps
      (λ up0 down0 bytes w v s. ap (λ b. first_of (cond b (Some BadSession) None) None) (sym s.stands ∙ there))

  -- a detach where none is
  pub detach-refused : (stop : Stop) → stop ≡ Line number BadSession → is_there true mid.ends.fronts.pair ≡ false
      → PairCarries {T = Unit {0}} (numbered_pair number detach_session) (scene old taken) (scene mid taken) (Err stop)
  detach-refused stop is there =
      line-refused BadSession stop old mid taken number detach_session is refl steps
      (λ up0 down0 bytes w v s. ap (λ b. first_of (cond b None (Some BadSession)) None) (sym s.stands ∙ there))

  module _ (there : is_there true mid.ends.fronts.pair ≡ false) where
    pub attach-unsent : (stop : Stop) (new : Moment (TwoFronts P g)) (sink0 sink1 link0 link1 : ℕ)
        → HasStopCause {T = Unit {0}} sink0 sink1 link0 link1 (Err stop)
        → PairSteps {T = Unit {0}} 0 mid new (Err stop) sending_attach
        → PairCarries {T = Unit {0}} (numbered_pair number attach_session) (scene old taken) (scene new taken) (Err stop)
    attach-unsent stop new sink0 sink1 link0 link1 cause steps1 =
        by-settle attach_session number taken old mid (Err stop) new steps
        (λ up0 down0 more w v both s.
        target-unsent attach_session number taken old mid (λ o. o ≡ None) attach_text (λ w. attach_text (next_target w.spent)) one_attach
        (with_told true nothing_told) attach-targets stop new sink0 sink1 link0 link1 cause steps1 up0 down0 more w v both s
        (none-of w.state.attached (sym s.stands ∙ there)))

    pub attach-stops : (stop : Stop) (mid2 new : Moment (TwoFronts P g)) (sink0 sink1 link0 link1 : ℕ)
        → HasStopCause {T = Unit {0}} sink0 sink1 link0 link1 (Err stop)
        → PairSteps {T = Unit {0}} 0 mid mid2 (Ok tt) sending_attach → PairSteps {T = Unit {0}} 0 mid2 new (Err stop) refreshing
        → PairCarries {T = Unit {0}} (numbered_pair number attach_session) (scene old taken) (scene new taken) (Err stop)
    attach-stops stop mid2 new sink0 sink1 link0 link1 cause steps1 steps2 =
        by-settle attach_session number taken old mid (Err stop) new steps
        (λ up0 down0 more w v both s.
        target-stops attach_session number taken old mid (λ o. o ≡ None) attach_text (λ w. attach_text (next_target w.spent)) one_attach
        (with_told true nothing_told) attach-targets stop mid2 new sink0 sink1 link0 link1 cause steps1 steps2 up0 down0 more w v both s
        (none-of w.state.attached (sym s.stands ∙ there)))

    pub attach-done : (mid2 mid3 : Moment (TwoFronts P g)) (e : TwoFronts P g) (t : ToldCounts)
        → PairSteps {T = Unit {0}} 0 mid mid2 (Ok tt) sending_attach → PairSteps {T = Unit {0}} 0 mid2 mid3 (Ok tt) refreshing
        → e ≡ with_told_held true t mid3.ends → told_seen t ≡ nothing_told
        → PairCarries {T = Unit {0}} (numbered_pair number attach_session) (scene old taken) (scene (record mid3 { ends = e }) taken)
        (Ok tt)
    attach-done mid2 mid3 e t steps1 steps2 is told_is =
        by-settle attach_session number taken old mid (Ok tt) (record mid3 { ends = e }) steps
        (λ up0 down0 more w v both s.
        target-done attach_session number taken old mid (λ o. o ≡ None) attach_text (λ w. attach_text (next_target w.spent)) one_attach
        (with_told true nothing_told) attach-targets mid2 mid3 e steps1 steps2
        (λ told first second.
        ap pair_ends_of is ∙ (λ i. record (pair_ends_of mid3.ends) { first_told = first i; second_told = told_is i }))
        (ap (λ (x : TwoFronts P g). x.ends.splitter) is) up0 down0 more w v both s
        (none-of w.state.attached (sym s.stands ∙ there)))

  module _ (there : is_there true mid.ends.fronts.pair ≡ true) where
    pub detach-unsent : (stop : Stop) (new : Moment (TwoFronts P g)) (sink0 sink1 link0 link1 : ℕ)
        → HasStopCause {T = Unit {0}} sink0 sink1 link0 link1 (Err stop)
        → PairSteps {T = Unit {0}} 0 mid new (Err stop) sending_detach
        → PairCarries {T = Unit {0}} (numbered_pair number detach_session) (scene old taken) (scene new taken) (Err stop)
    detach-unsent stop new sink0 sink1 link0 link1 cause steps1 =
        by-settle detach_session number taken old mid (Err stop) new steps
        (λ up0 down0 more w v both s.
        let k = some-of w.state.attached (sym s.stands ∙ there) in
        target-unsent detach_session number taken old mid (λ o. o ≡ Some k.0) (λ id. detach_text id (session_text k.0))
        (λ w. detach_text (next_target w.spent) (attached_text w.state.attached)) one_detach (λ told. told)
        (detach-targets k.0) stop new sink0
        sink1 link0 link1 cause steps1 up0 down0 more w v both s k.1)

    pub detach-stops : (stop : Stop) (mid2 new : Moment (TwoFronts P g)) (sink0 sink1 link0 link1 : ℕ)
        → HasStopCause {T = Unit {0}} sink0 sink1 link0 link1 (Err stop)
        → PairSteps {T = Unit {0}} 0 mid mid2 (Ok tt) sending_detach → PairSteps {T = Unit {0}} 0 mid2 new (Err stop) refreshing
        → PairCarries {T = Unit {0}} (numbered_pair number detach_session) (scene old taken) (scene new taken) (Err stop)
    detach-stops stop mid2 new sink0 sink1 link0 link1 cause steps1 steps2 =
        by-settle detach_session number taken old mid (Err stop) new steps
        (λ up0 down0 more w v both s.
        let k = some-of w.state.attached (sym s.stands ∙ there) in
        target-stops detach_session number taken old mid (λ o. o ≡ Some k.0) (λ id. detach_text id (session_text k.0))
        (λ w. detach_text (next_target w.spent) (attached_text w.state.attached)) one_detach (λ told. told)
        (detach-targets k.0) stop mid2 new
        sink0 sink1 link0 link1 cause steps1 steps2 up0 down0 more w v both s k.1)

    pub detach-done : (mid2 mid3 : Moment (TwoFronts P g))
        → PairSteps {T = Unit {0}} 0 mid mid2 (Ok tt) sending_detach → PairSteps {T = Unit {0}} 0 mid2 mid3 (Ok tt) refreshing
        → PairCarries {T = Unit {0}} (numbered_pair number detach_session) (scene old taken) (scene mid3 taken) (Ok tt)
    detach-done mid2 mid3 steps1 steps2 =
        by-settle detach_session number taken old mid (Ok tt) mid3 steps
        (λ up0 down0 more w v both s.
        let k = some-of w.state.attached (sym s.stands ∙ there) in
        target-done detach_session number taken old mid (λ o. o ≡ Some k.0) (λ id. detach_text id (session_text k.0))
        (λ w. detach_text (next_target w.spent) (attached_text w.state.attached)) one_detach (λ told. told) (detach-targets k.0) mid2 mid3
        mid3.ends steps1 steps2
        (λ told first second. λ i. record (pair_ends_of mid3.ends) { first_told = first i; second_told = second i }) refl up0 down0 more w v
        both s k.1)

    -- however the settle after it came through
    pub detach-ends : (result : Result (Unit {0}) Stop) (mid2 new : Moment (TwoFronts P g)) (sink0 sink1 link0 link1 : ℕ)
        → HasStopCause sink0 sink1 link0 link1 result
        → PairSteps {T = Unit {0}} 0 mid mid2 (Ok tt) sending_detach → PairSteps 0 mid2 new result refreshing
        → PairCarries (numbered_pair number detach_session) (scene old taken) (scene new taken) result
    detach-ends (Ok value) mid2 new sink0 sink1 link0 link1 cause steps1 steps2 = detach-done mid2 new steps1 steps2
    detach-ends (Err stop) mid2 new sink0 sink1 link0 link1 cause steps1 steps2 =
        detach-stops stop mid2 new sink0 sink1 link0 link1 cause steps1 steps2
