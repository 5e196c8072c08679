-- What the calls of a drill answer, from what their parts answer.
use Rattle.std.proofs.Common.{◌≡◌, ℕ, ◌+◌, ◌≤◌, List, [], length, map, Option, Some, Result, Ok, Err, refl, sym, subst, arith}
use Rattle.std.specs.Prelude.{OnOk, IfErr}
use Rattle.front_mirror.specs.declared.panels.Panel.{Ghosts}
use Rattle.front_mirror.specs.declared.panels.PanelKind.{PanelKind}
use Rattle.pipe_frames.specs.Pipe.{Pipe, IsLevel}
use Rattle.pipe_frames.proofs.WholeLemmas.{Appends-nil}
use Rattle.page_forms.specs.Pages.{LoadedPage, CanLoadPage}
use Rattle.page_forms.specs.Texts.{PageHasTexts}
use Rattle.back_end.specs.States.{loaded_state}
use Rattle.replay_script.specs.Forms.{LineForm}
use Rattle.drill_script.specs.LineKinds.{AreDrillLines, most_lines}
use Rattle.inspect_world.specs.Costs.{lines_cost}
use Rattle.inspect_world.specs.Scripts.{loaded_world}
use Rattle.inspect_world.specs.Links.{Started, run_started}
use Rattle.inspect_replay.specs.declared.one_front.OneFront.{OneFront}
use Rattle.replay_parts.specs.declared.status.Status.{Status}
use Rattle.replay_parts.specs.declared.stop.Stop.{Stop}
use Rattle.replay_parts.specs.declared.stop.Stop.TheVariants.{Line, TooLong, ReadFault, WriteFault, LinkFault, FrontRefused, NoRoom}
use Rattle.replay_parts.specs.declared.stop.Stop.TheVariants.{Memory}
use Rattle.replay_parts.specs.Says.{Counts, status_of}
use Rattle.inspect_replay.specs.Starts.{IsNew}
use Rattle.inspect_replay.specs.Runs.{InPlay}
use Rattle.replay_parts.specs.Stops.{GoesWell, HasStopCause}
use Rattle.replay_parts.specs.Answers.{Prints, Took, StatusRose}
use Rattle.inspect_replay.specs.Followed.{FollowsRun}
use Rattle.inspect_replay.specs.Drilled.{IsOfWriting, WritesAtEnd, DrillWrites, IsDrillStatus, lines_more}
use Rattle.inspect_replay.proofs.RunLemmas.{begins, play-begins}
use Rattle.inspect_replay.proofs.FollowLemmas.{run-first}
use Rattle.inspect_replay.proofs.DrillLemmas.{drill-cheap}

-- ---- what was written

-- nothing was written
pub writes-none : (stop : Stop) (taken : Option (List ℕ)) → WritesAtEnd {T = Unit {0}} (Err stop) taken taken
writes-none (Line number fault) taken = refl
writes-none TooLong taken = refl
writes-none ReadFault taken = refl
writes-none WriteFault taken = tt
writes-none LinkFault taken = refl
writes-none (FrontRefused place fault) taken = refl
writes-none NoRoom taken = refl
writes-none Memory taken = tt

-- a stop that comes of writing says nothing of what was written
pub writes-some : (result : Result (Unit {0}) Stop) (before after : Option (List ℕ)) → IfErr result IsOfWriting
    → WritesAtEnd result before after
writes-some (Ok u) before after of = tt
writes-some (Err (Line number fault)) before after of = absurd of
writes-some (Err TooLong) before after of = absurd of
writes-some (Err ReadFault) before after of = absurd of
writes-some (Err WriteFault) before after of = tt
writes-some (Err LinkFault) before after of = absurd of
writes-some (Err (FrontRefused place fault)) before after of = absurd of
writes-some (Err NoRoom) before after of = absurd of
writes-some (Err Memory) before after of = tt

-- no part of the text was
pub prints-none : (stop : Stop) (taken : Option (List ℕ)) (text : List ℕ) → Prints {T = Unit {0}} (Err stop) taken taken text
prints-none stop taken text = record { part = []; rest = text; whole = refl; wrote = Appends-nil taken }

-- ---- the whole call

-- a stop of a drill over an honest link
pub drill-took : (stop : Stop) (sink sink1 link link1 : ℕ) (before after : Option (List ℕ)) (text : List ℕ)
    → HasStopCause {T = Unit {0}} sink sink1 link link1 (Err stop) → GoesWell {T = Unit {0}} (Err stop)
    → Prints {T = Unit {0}} (Err stop) before after text
    → Took (status_of stop) before after text
drill-took (Line number fault) sink sink1 link link1 before after text cause well prints = absurd cause.rose
drill-took TooLong sink sink1 link link1 before after text cause well prints = absurd cause.rose
drill-took ReadFault sink sink1 link link1 before after text cause well prints = absurd cause.rose
drill-took WriteFault sink sink1 link link1 before after text cause well prints = prints
drill-took LinkFault sink sink1 link link1 before after text cause well prints = prints
drill-took (FrontRefused place fault) sink sink1 link link1 before after text cause well prints = absurd well
drill-took NoRoom sink sink1 link link1 before after text cause well prints = absurd well
drill-took Memory sink sink1 link link1 before after text cause well prints = prints

-- the cause of a stop
pub drill-rose : (stop : Stop) (status : Status) (source source1 sink sink1 link link1 : ℕ) → status ≡ status_of stop
    → HasStopCause {T = Unit {0}} sink sink1 link link1 (Err stop)
    → StatusRose (record {
      source_before = source;
      source_after = source1;
      sink_before = sink;
      sink_after = sink1;
      link_before = link;
      link_after = link1;
    }) status
drill-rose stop status source source1 sink sink1 link link1 is cause = subst (λ s. StatusRose counts s) (sym is) (by-stop stop cause)
  where
    counts : Counts
    counts = record {
      source_before = source;
      source_after = source1;
      sink_before = sink;
      sink_after = sink1;
      link_before = link;
      link_after = link1;
    }

    by-stop : (stop : Stop) → HasStopCause {T = Unit {0}} sink sink1 link link1 (Err stop) → StatusRose counts (status_of stop)
    by-stop (Line number fault) cause = tt
    by-stop TooLong cause = tt
    by-stop ReadFault cause = absurd cause.rose
    by-stop WriteFault cause = cause.rose
    by-stop LinkFault cause = cause.rose
    by-stop (FrontRefused place fault) cause = tt
    by-stop NoRoom cause = tt
    by-stop Memory cause = tt

-- what it wrote
pub drill-writes : (stop : Stop) (before after : Option (List ℕ)) → WritesAtEnd {T = Unit {0}} (Err stop) before after
    → DrillWrites (status_of stop) before after
drill-writes (Line number fault) before after writes = writes
drill-writes TooLong before after writes = writes
drill-writes ReadFault before after writes = writes
drill-writes WriteFault before after writes = tt
drill-writes LinkFault before after writes = writes
drill-writes (FrontRefused place fault) before after writes = writes
drill-writes NoRoom before after writes = writes
drill-writes Memory before after writes = tt

-- a stop of a drill is one of the answers that it gives
pub drill-status : (stop : Stop) (sink sink1 link link1 : ℕ) → HasStopCause {T = Unit {0}} sink sink1 link link1 (Err stop)
    → IsDrillStatus (status_of stop)
drill-status (Line number fault) sink sink1 link link1 cause = absurd cause.rose
drill-status TooLong sink sink1 link link1 cause = absurd cause.rose
drill-status ReadFault sink sink1 link link1 cause = absurd cause.rose
drill-status WriteFault sink sink1 link link1 cause = tt
drill-status LinkFault sink sink1 link link1 cause = tt
drill-status (FrontRefused place fault) sink sink1 link link1 cause = tt
drill-status NoRoom sink sink1 link link1 cause = tt
drill-status Memory sink sink1 link link1 cause = tt

-- the cause of a stop that comes after the lines, in which the link did not fail
pub drill-cause : (result : Result (Unit {0}) Stop) (sink sink1 link link1 link2 : ℕ) → link1 ≡ link
    → HasStopCause sink sink1 link1 link2 result → HasStopCause sink sink1 link link2 result
drill-cause result sink sink1 link link1 link2 same cause = subst (λ n. HasStopCause sink sink1 n link2 result) same cause

-- ---- the start

-- the lines so far, which are none
abbrev pub drill_start : List PanelKind → LoadedPage → Started
drill_start kinds page = run_started (loaded_state page) 0 [] (map Some kinds)

-- the ends of the page follow the link, with room for the lines
pub drill-follows : {P : Type 0} {g : Ghosts P} (up down : Pipe) (kinds : List PanelKind) (page : LoadedPage) (lines : List LineForm)
    (e : OneFront P g)
    → length up.given ≤ length up.sent → length down.given ≤ length down.sent → CanLoadPage page → PageHasTexts page
    → length lines ≤ most_lines
    → IsNew e kinds page → FollowsRun (lines_more (length lines) (drill_start kinds page)) up down up down e
drill-follows up down kinds page lines e up_within down_within can texts few new =
    let same : length lines ≡ 0 + length lines = omega arith in
    subst (λ n. FollowsRun (run_started (loaded_state page) n [] (map Some kinds)) up down up down e) same
    (run-first up down kinds page (length lines) e up_within down_within can texts (omega (arith, few)) new)

-- and over an honest link they are in a run
pub drill-plays : {P : Type 0} {g : Ghosts P} (honest : Type 0) (up down : Pipe) (kinds : List PanelKind) (page : LoadedPage)
    (lines : List LineForm) (e : OneFront P g)
    → honest → CanLoadPage page → PageHasTexts page → IsLevel up → IsLevel down → AreDrillLines lines → length lines ≤ most_lines
    → IsNew e kinds page
    → InPlay honest up down up down (0 + lines_cost lines) (loaded_world kinds page) e
drill-plays honest up down kinds page lines e is_honest can texts up_level down_level are few new =
    let same : lines_cost lines ≡ 0 + lines_cost lines = omega arith in
    subst (λ n. InPlay honest up down up down n (loaded_world kinds page) e) same
    (play-begins honest up down kinds page (lines_cost lines) e can texts (drill-cheap lines are few)
    (begins honest up down kinds page e is_honest can texts up_level down_level new))

pub on-first : {T : Type 0} (result : Result T Stop) (P Q : Type 0) → OnOk result (P × Q) → OnOk result P
on-first (Ok value) P Q both = both.0
on-first (Err stop) P Q both = tt

pub on-second : {T : Type 0} (result : Result T Stop) (P Q : Type 0) → OnOk result (P × Q) → OnOk result Q
on-second (Ok value) P Q both = both.1
on-second (Err stop) P Q both = tt
