-- The closing part of a script with two front ends, and the whole script.
use Rattle.std.proofs.Common.{◌≡◌, ℕ, ◌+◌, List, [], ◌∷◌, ◌++◌, true, false, is_some, Option, Some, None, codes}
use Rattle.std.proofs.Common.{option_map, refl, sym, ◌∙◌, ap, subst, append_assoc, append-nil, Result, Ok, Err}
use Rattle.std.specs.Prelude.{⊤}
use Rattle.std.specs.Result.{OnOk, OnErr}
use Rattle.std.specs.Io.KnownBytes.{Appends}
use Rattle.front_mirror.specs.declared.panels.Panel.{Ghosts}
use Rattle.front_mirror.specs.Front.{FrontState}
use Rattle.front_mirror.specs.Outline.{outline_text, seen_line}
use Rattle.pipe_frames.specs.Pipe.{Pipe}
use Rattle.pipe_frames.specs.Whole.{WrotePart}
use Rattle.pipe_frames.proofs.WholeLemmas.{Appends-append, WrotePart-longer, WrotePart-after}
use Rattle.replay_script.specs.PairLines.{PairForm}
use Rattle.replay_script.specs.declared.faults.LineFault.{LineFault}
use Rattle.session_runs.specs.Pairs.{Second}
use Rattle.multi_replay.specs.States.{front_meant}
use Rattle.multi_replay.specs.Laws.{second_value, pair_value}
use Rattle.pair_world.specs.PairRuns.{PairRun, pair_settled}
use Rattle.pair_world.specs.PairScripts.{after_pair_line, after_pair_lines, pair_lines_text, pair_lacking, pair_shown_lines}
use Rattle.pair_world.specs.PairScripts.{pair_rest_refused}
use Rattle.pair_world.specs.PairScripts.{heading_on, outline_on, second_end, pair_closing, pair_closing_unless, pair_rest_text}
use Rattle.pair_world.specs.PairScripts.{pair_first_lacking, pair_telling}
use Rattle.replay_script.specs.PairScript.{pairs_unless_bad}
use Rattle.replay_script.specs.Script.{numbered_or}
use Rattle.node_tree.specs.Keys.{first_of}
use Rattle.pair_world.specs.PairFresh.{fresh_pair_line, fresh_pair_lines, RefreshHasRoom, line_or, closing_or, LinesHaveRoom}
use Rattle.pair_world.specs.PairHeld.{calm}
use Rattle.replay_parts.specs.declared.stop.Stop.{Stop}
use Rattle.replay_parts.specs.declared.stop.Stop.TheVariants.{Line, TooLong, ReadFault, WriteFault, LinkFault, FrontRefused, NoRoom}
use Rattle.replay_parts.specs.declared.stop.Stop.TheVariants.{Memory}
use Rattle.replay_parts.specs.Moments.{Moment, scene}
use Rattle.replay_parts.specs.Stops.{HasStopCause, GoesWell}
use Rattle.replay_parts.specs.Answers.{RunTells}
use Rattle.replay_parts.specs.Printed.{PrintedSome}
use Rattle.pair_replay.specs.declared.two_fronts.TwoFronts.{TwoFronts}
use Rattle.pair_replay.specs.PairStarts.{second_end_text, ends_text}
use Rattle.pair_replay.specs.PairAnswers.{PairRunTook, RoomTold, PairPassed, second_shown, PairEndsShown}
use Rattle.pair_replay.specs.PairAnswers.{pair_since}
use Rattle.pair_replay.specs.Running.{PairSteps, refreshing}
use Rattle.pair_replay.specs.Playing.{PairCloses}
use Rattle.pair_replay.specs.Following.{KeepsPair, PairClosesShown}
use Rattle.pair_replay.proofs.TellingLemmas.{room-telling}
use Rattle.pair_replay.proofs.StopLemmas.{part-took, prints-took, room-there}
use Rattle.pair_replay.proofs.PairFollows.{stop-folds, run-well, run-fold, run-replies, run-later}
use Rattle.pair_replay.proofs.LineFaults.{heading-text}
use Rattle.pair_replay.proofs.LineRuns.{SettledThen, settle-last}
use Rattle.replay_parts.proofs.StopLemmas.{wrote-none}

-- ---- what is printed

-- the second outline at the end is that of its client
second-ends : (w : PairRun) (two : Option (Second FrontState (List ℕ))) (attached : Option ℕ) → is_some two ≡ is_some attached
    → ((x : Second FrontState (List ℕ)) → two ≡ Some x → outline_text seen_line x.value.value.tree ≡ outline_on true w)
    → second_end_text two ≡ second_end attached w
second-ends w None None same shows = refl
second-ends w None (Some k) same shows = absurd cc
second-ends w (Some x) None same shows = absurd cc
second-ends w (Some x) (Some k) same shows =
    heading-text true (codes "# end") (codes "# end 2") (outline_text seen_line x.value.value.tree) refl
    ∙ ap (λ t. heading_on true (codes "# end") ++ t) (shows x refl)

-- the closing part is what both clients see
closing-is : {P : Type 0} {g : Ghosts P} (honest : Type 0) (up0 down0 up down : Pipe) (w v : PairRun) (e : TwoFronts P g)
    → SettledThen honest up0 down0 up down w v e → ends_text e.fronts.pair ≡ pair_closing w
closing-is honest up0 down0 up down w v e s =
    let w1 = pair_settled w in
    let p = e.fronts.pair in
    let one = s.shown false refl in
    let first : codes "# end" ++ 10 ∷ outline_text seen_line p.one.value.tree ≡ heading_on false (codes "# end") ++ outline_on false w1 =
    heading-text false (codes "# end") (codes "# end 2") (outline_text seen_line p.one.value.tree) refl
    ∙ ap (λ t. heading_on false (codes "# end") ++ outline_text seen_line t) one.has.tree in
    let second : second_end_text p.two ≡ second_end w1.state.attached w1 =
    second-ends w1 p.two w1.state.attached (s.stands ∙ ap is_some (sym s.kept))
    (λ x is. ap (outline_text seen_line) (tree-of p.two x is ∙ (s.shown true (ap is_some is)).has.tree)) in
    ap (λ t. t ++ second_end_text p.two) first ∙ ap (λ t. (heading_on false (codes "# end") ++ outline_on false w1) ++ t) second
  where
    tree-of : (two : Option (Second FrontState (List ℕ))) (x : Second FrontState (List ℕ)) → two ≡ Some x
        → x.value.value.tree ≡ (front_meant true (record e.fronts.pair { two = two })).value.tree
    tree-of None x is = absurd cc
    tree-of (Some y) x is = let same : y ≡ x = cc in ap (λ (z : Second FrontState (List ℕ)). z.value.value.tree) (sym same)

-- over an honest link
pub closes-well : {P : Type 0} {g : Ghosts P} (result : Result (Unit {0}) Stop) (old mid : Moment (TwoFronts P g))
    (taken taken1 : Option (List ℕ))
    (sink0 sink1 link0 link1 : ℕ) → HasStopCause sink0 sink1 link0 link1 result → GoesWell result
    → PairSteps {T = Unit {0}} 0 old mid (Ok tt) refreshing
    → OnOk result (Appends taken taken1 (ends_text mid.ends.fronts.pair))
    → OnErr result (WrotePart taken taken1 (ends_text mid.ends.fronts.pair))
    → PairCloses (scene old taken) taken1 result
closes-well result old mid taken taken1 sink0 sink1 link0 link1 cause well steps ok err = λ up0 down0 w v play.
    let last = settle-last old mid steps up0 down0 w v play in (
      subst (λ t. PairRunTook result taken taken1 t) (closing-is mid.honest up0 down0 mid.up mid.down w v mid.ends last.0)
          (prints-took result sink0 sink1 link0 link1 taken taken1 (ends_text mid.ends.fronts.pair) cause well ok err),
      room-there result (RefreshHasRoom v) well last.1,
    )

pub closes-not : {P : Type 0} {g : Ghosts P} (stop : Stop) (old mid : Moment (TwoFronts P g)) (taken : Option (List ℕ))
    (sink0 sink1 link0 link1 : ℕ) → HasStopCause {T = Unit {0}} sink0 sink1 link0 link1 (Err stop)
    → PairSteps {T = Unit {0}} 0 old mid (Err stop) refreshing
    → PairCloses {T = Unit {0}} (scene old taken) taken (Err stop)
closes-not stop old mid taken sink0 sink1 link0 link1 cause steps = λ up0 down0 w v play.
    let done = steps calm up0 down0 (pair_telling w.told v) play.both.left tt play.in_run in
    let told : RoomTold {T = Unit {0}} (Err stop) (RefreshHasRoom v) =
    subst (λ (R : Type 0). RoomTold {T = Unit {0}} (Err stop) R) (room-telling w.told v) done.0 in (
      part-took stop sink0 sink1 link0 link1 (RefreshHasRoom v) taken taken (pair_closing w) cause told (wrote-none taken
          (pair_closing w)),
      told,
    )

-- ---- over every link

second-shows : (two : Option (Second FrontState (List ℕ))) → second_end_text two ≡ second_shown (option_map second_value two)
second-shows None = refl
second-shows (Some w) = refl

-- the closing part, where it was printed
pub closes-shown : {P : Type 0} {g : Ghosts P} (result : Result (Unit {0}) Stop) (old mid : Moment (TwoFronts P g))
    (taken taken1 : Option (List ℕ))
    (old_faults new_faults : ℕ)
    → KeepsPair {T = Unit {0}} old mid (Ok tt) → GoesWell result → OnOk result (Appends taken taken1 (ends_text mid.ends.fronts.pair))
    → PairClosesShown (record { now = old; taken = taken; faults = old_faults })
    (record { now = mid; taken = taken1; faults = new_faults }) result
closes-shown (Ok value) old mid taken taken1 old_faults new_faults keeps well ok = λ start up0 down0 run.
    let after = (keeps start up0 down0 run).0 in
    let pair = mid.ends.fronts.pair in (
      (
        record {
          fronts = pair_value after.so_far.fronts_are.asked pair;
          is_fold = run-fold start up0 down0 mid.up mid.down mid.ends after;
          written = [];
          printed = subst (λ t. Appends taken taken1 ((codes "# end" ++ 10 ∷ outline_text seen_line pair.one.value.tree) ++ t))
              (second-shows pair.two) ok;
        },
        run-replies start up0 down0 mid.up mid.down mid.ends after,
        run-later start up0 down0 mid.up mid.down mid.ends after,
      ),
      run-well start up0 down0 mid.up mid.down mid.ends after,
    )
closes-shown (Err stop) old mid taken taken1 old_faults new_faults keeps well ok = λ start up0 down0 run.
    let after = (keeps start up0 down0 run).0 in
    (tt, stop-folds stop (pair_since up0 down0 mid.up mid.down) well (run-well start up0 down0 mid.up mid.down mid.ends after))

-- after what was printed before
pub ends-after : (before middle after : Option (List ℕ)) (passed : PairPassed) → PrintedSome before middle
    → PairEndsShown middle after passed
    → PairEndsShown before after passed
ends-after before middle after passed some shown =
    let head = codes "# end" in
    let outline = 10 ∷ outline_text seen_line shown.fronts.one.tree in
    let second = second_shown shown.fronts.two in
    let same : (((some.written ++ shown.written) ++ head) ++ outline) ++ second
    ≡ some.written ++ (((shown.written ++ head) ++ outline) ++ second) =
    ap (λ text. (text ++ outline) ++ second) (append_assoc some.written shown.written head)
    ∙ ap (λ text. text ++ second) (append_assoc some.written (shown.written ++ head) outline)
    ∙ append_assoc some.written ((shown.written ++ head) ++ outline) second in
    record {
      fronts = shown.fronts;
      is_fold = shown.is_fold;
      written = some.written ++ shown.written;
      printed = subst (λ text. Appends before after text) (sym same)
          (Appends-append before middle after some.written (((shown.written ++ head) ++ outline) ++ second) some.printed shown.printed);
    }

pub ends-shown : {T : Type 0} (result : Result T Stop) (before middle after : Option (List ℕ)) (passed : PairPassed) (Q R : Type 0)
    → PrintedSome before middle → OnOk result (PairEndsShown middle after passed × Q × R) → OnOk result (PairEndsShown before after passed)
ends-shown (Ok value) before middle after passed Q R some all = ends-after before middle after passed some all.0
ends-shown (Err stop) before middle after passed Q R some all = tt

pub second-of-three : {T : Type 0} (result : Result T Stop) (A B C : Type 0) → OnOk result (A × B × C) → OnOk result B
second-of-three (Ok value) A B C all = all.1
second-of-three (Err stop) A B C all = tt

pub third-of-three : {T : Type 0} (result : Result T Stop) (A B C : Type 0) → OnOk result (A × B × C) → OnOk result C
third-of-three (Ok value) A B C all = all.2
third-of-three (Err stop) A B C all = tt

-- ---- the report

-- the part after the lines
pub closed-took : (result : Result (Unit {0}) Stop) (taken0 taken taken1 : Option (List ℕ)) (bad : Option (ℕ × LineFault))
    (forms : List PairForm)
    (w : PairRun)
    → pair_rest_refused bad forms w ≡ None
    → Appends taken0 taken (pair_lines_text 2 (pair_shown_lines forms w) w)
    → PairRunTook result taken taken1 (pair_closing (after_pair_lines (pair_shown_lines forms w) w))
    → PairRunTook result taken0 taken1 (pair_rest_text bad forms w)
closed-took result taken0 taken taken1 bad forms w none wrote took =
    let text = pair_lines_text 2 (pair_shown_lines forms w) w in
    let last = after_pair_lines (pair_shown_lines forms w) w in
    subst (λ b. PairRunTook result taken0 taken1 (text ++ pair_closing_unless b last)) (sym none)
    (by result text (pair_closing last) wrote took)
  where
    by : (result : Result (Unit {0}) Stop) (text more : List ℕ) → Appends taken0 taken text → PairRunTook result taken taken1 more
        → PairRunTook result taken0 taken1 (text ++ more)
    by (Ok value) text more wrote took = Appends-append taken0 taken taken1 text more wrote took
    by (Err (Line n fault)) text more wrote took = Appends-append taken0 taken taken1 text more wrote took
    by (Err TooLong) text more wrote took = took
    by (Err ReadFault) text more wrote took = took
    by (Err WriteFault) text more wrote took = WrotePart-after taken0 taken taken1 text more wrote took
    by (Err LinkFault) text more wrote took = WrotePart-after taken0 taken taken1 text more wrote took
    by (Err (FrontRefused place kind)) text more wrote took = took
    by (Err NoRoom) text more wrote took = WrotePart-after taken0 taken taken1 text more wrote took
    by (Err Memory) text more wrote took = WrotePart-after taken0 taken taken1 text more wrote took

-- the lines stopped
pub stopped-took : (stop : Stop) (taken0 taken : Option (List ℕ)) (bad : Option (ℕ × LineFault)) (forms : List PairForm) (w : PairRun)
    → RunTells {T = Unit {0}} (Err stop) (pair_rest_refused bad forms w)
    → PairRunTook {T = Unit {0}} (Err stop) taken0 taken (pair_lines_text 2 (pair_shown_lines forms w) w)
    → PairRunTook {T = Unit {0}} (Err stop) taken0 taken (pair_rest_text bad forms w)
stopped-took stop taken0 taken bad forms w tells took =
    by stop (pair_lines_text 2 (pair_shown_lines forms w) w) (after_pair_lines (pair_shown_lines forms w) w) (pair_rest_refused bad forms w)
    tells took
  where
    by : (stop : Stop) (text : List ℕ) (last : PairRun) (refused : Option (ℕ × LineFault)) → RunTells {T = Unit {0}} (Err stop) refused
        → PairRunTook {T = Unit {0}} (Err stop) taken0 taken text
        → PairRunTook {T = Unit {0}} (Err stop) taken0 taken (text ++ pair_closing_unless refused last)
    by (Line n fault) text last refused tells took =
        subst (λ b. Appends taken0 taken (text ++ pair_closing_unless b last)) (sym tells)
        (subst (λ t. Appends taken0 taken t) (sym (append-nil text)) took)
    by TooLong text last refused tells took = took
    by ReadFault text last refused tells took = took
    by WriteFault text last refused tells took = WrotePart-longer taken0 taken text (pair_closing_unless refused last) took
    by LinkFault text last refused tells took = WrotePart-longer taken0 taken text (pair_closing_unless refused last) took
    by (FrontRefused place kind) text last refused tells took = took
    by NoRoom text last refused tells took = WrotePart-longer taken0 taken text (pair_closing_unless refused last) took
    by Memory text last refused tells took = WrotePart-longer taken0 taken text (pair_closing_unless refused last) took

-- ---- the room of the whole

module _ (Closing : PairRun → Type 0) where
  -- room for the lines, and for what follows them where none is refused
  pub lines-and-closing : (forms : List PairForm) (w v : PairRun) (nth : ℕ) → pair_first_lacking nth forms w ≡ None
      → LinesHaveRoom (λ x. ⊤) forms w v → Closing (fresh_pair_lines (pair_shown_lines forms w) v) → LinesHaveRoom Closing forms w v
  lines-and-closing [] w v nth none room closing = closing
  lines-and-closing (form ∷ forms) w v nth none room closing =
      by (pair_lacking form w)
      (λ e r c. lines-and-closing forms (after_pair_line form w) (fresh_pair_line form v) (nth + 1) e r c) none room
      closing
    where
      by : (o : Option LineFault)
          → (pair_first_lacking (nth + 1) forms (after_pair_line form w) ≡ None
          → LinesHaveRoom (λ x. ⊤) forms (after_pair_line form w) (fresh_pair_line form v)
          → Closing (fresh_pair_lines (pair_shown_lines forms (after_pair_line form w)) (fresh_pair_line form v))
          → LinesHaveRoom Closing forms (after_pair_line form w) (fresh_pair_line form v))
          → numbered_or nth o (pair_first_lacking (nth + 1) forms (after_pair_line form w)) ≡ None
          → line_or o form v (LinesHaveRoom (λ x. ⊤) forms (after_pair_line form w) (fresh_pair_line form v))
          → Closing (fresh_pair_lines (pairs_unless_bad o (form ∷ pair_shown_lines forms (after_pair_line form w))) v)
          → line_or o form v (LinesHaveRoom Closing forms (after_pair_line form w) (fresh_pair_line form v))
      by None later none room closing = (room.0, later none room.1 closing)
      by (Some fault) later none room closing = room

  -- which is room for what follows them
  pub closing-needed : (forms : List PairForm) (w v : PairRun) (nth : ℕ) → pair_first_lacking nth forms w ≡ None
      → LinesHaveRoom Closing forms w v → Closing (fresh_pair_lines (pair_shown_lines forms w) v)
  closing-needed [] w v nth none room = room
  closing-needed (form ∷ forms) w v nth none room =
      by (pair_lacking form w) (λ e r. closing-needed forms (after_pair_line form w) (fresh_pair_line form v) (nth + 1) e r) none room
    where
      some-none : (nth : ℕ) (fault : LineFault) → ◌≡◌ {A = Option (ℕ × LineFault)} (Some (nth, fault)) None → ⊥
      some-none nth fault e = absurd cc

      by : (o : Option LineFault)
          → (pair_first_lacking (nth + 1) forms (after_pair_line form w) ≡ None
          → LinesHaveRoom Closing forms (after_pair_line form w) (fresh_pair_line form v)
          → Closing (fresh_pair_lines (pair_shown_lines forms (after_pair_line form w)) (fresh_pair_line form v)))
          → numbered_or nth o (pair_first_lacking (nth + 1) forms (after_pair_line form w)) ≡ None
          → line_or o form v (LinesHaveRoom Closing forms (after_pair_line form w) (fresh_pair_line form v))
          → Closing (fresh_pair_lines (pairs_unless_bad o (form ∷ pair_shown_lines forms (after_pair_line form w))) v)
      by None later none room = later none room.1
      by (Some fault) later none room = absurd (some-none nth fault none)

  -- and for the lines alone
  pub lines-needed : (forms : List PairForm) (w v : PairRun) → LinesHaveRoom Closing forms w v → LinesHaveRoom (λ x. ⊤) forms w v
  lines-needed [] w v room = tt
  lines-needed (form ∷ forms) w v room =
      by (pair_lacking form w) (λ r. lines-needed forms (after_pair_line form w) (fresh_pair_line form v) r) room
    where
      by : (o : Option LineFault)
          → (LinesHaveRoom Closing forms (after_pair_line form w) (fresh_pair_line form v)
          → LinesHaveRoom (λ x. ⊤) forms (after_pair_line form w) (fresh_pair_line form v))
          → line_or o form v (LinesHaveRoom Closing forms (after_pair_line form w) (fresh_pair_line form v))
          → line_or o form v (LinesHaveRoom (λ x. ⊤) forms (after_pair_line form w) (fresh_pair_line form v))
      by None later room = (room.0, later room.1)
      by (Some fault) later room = room

-- lines of which one is refused need no more
pub refused-room : (bad : Option (ℕ × LineFault)) (forms : List PairForm) (w v : PairRun) (nth : ℕ)
    → (first_of (pair_first_lacking nth forms w) bad ≡ None → ⊥)
    → LinesHaveRoom (λ x. ⊤) forms w v → LinesHaveRoom (closing_or bad) forms w v
refused-room bad [] w v nth some room = at bad some where
  at : (bad : Option (ℕ × LineFault)) → (bad ≡ None → ⊥) → closing_or bad v
  at None some = absurd (some refl)
  at (Some b) some = tt
refused-room bad (form ∷ forms) w v nth some room =
    by (pair_lacking form w) (λ s r. refused-room bad forms (after_pair_line form w) (fresh_pair_line form v) (nth + 1) s r) some room
  where
    by : (o : Option LineFault)
        → ((first_of (pair_first_lacking (nth + 1) forms (after_pair_line form w)) bad ≡ None → ⊥)
        → LinesHaveRoom (λ x. ⊤) forms (after_pair_line form w) (fresh_pair_line form v)
        → LinesHaveRoom (closing_or bad) forms (after_pair_line form w) (fresh_pair_line form v))
        → (first_of (numbered_or nth o (pair_first_lacking (nth + 1) forms (after_pair_line form w))) bad ≡ None → ⊥)
        → line_or o form v (LinesHaveRoom (λ x. ⊤) forms (after_pair_line form w) (fresh_pair_line form v))
        → line_or o form v (LinesHaveRoom (closing_or bad) forms (after_pair_line form w) (fresh_pair_line form v))
    by None later some room = (room.0, later some room.1)
    by (Some fault) later some room = room
