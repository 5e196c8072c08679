-- A line that drops a panel.
use Rattle.std.proofs.Common.{◌≡◌, ℕ, ◌+◌, List, [], ◌++◌, Bool, true, false, Option, None}
use Rattle.std.proofs.Common.{sym, ◌∙◌, ap, subst, Result}
use Rattle.std.specs.Result.{OnOk}
use Rattle.node_tree.specs.Keys.{first_of}
use Rattle.front_mirror.specs.declared.panels.Panel.{Ghosts}
use Rattle.pipe_frames.specs.Pipe.{Pipe}
use Rattle.pipe_frames.proofs.WholeLemmas.{Appends-nil}
use Rattle.front_mirror.specs.declared.panels.PanelKind.{PanelKind}
use Rattle.front_mirror.specs.Front.{FrontState}
use Rattle.replay_script.specs.Forms.{close}
use Rattle.replay_script.specs.Script.{stands_open, dropped, numbered_or, panel_missing, want_fault}
use Rattle.session_runs.specs.Stream.{awaited}
use Rattle.session_runs.specs.World.{settled}
use Rattle.inspect_world.specs.World.{World, Audience}
use Rattle.inspect_world.specs.RunStates.{RunState, run_step}
use Rattle.inspect_world.specs.Held.{with_panels}
use Rattle.inspect_world.specs.Links.{came_styles}
use Rattle.inspect_world.specs.Scripts.{panel_dropped, has_styles}
use Rattle.inspect_world.proofs.Ends.{world-panels}
use Rattle.inspect_world.proofs.LinkLemmas.{follows-panels}
use Rattle.inspect_world.proofs.FetchesFit.{play-line}
use Rattle.inspect_replay.specs.declared.one_front.OneFront.{OneFront}
use Rattle.replay_parts.specs.declared.stop.Stop.{Stop}
use Rattle.replay_parts.specs.declared.stop.Stop.TheVariants.{Line}
use Rattle.replay_script.specs.declared.faults.LineFault.TheVariants.{NoPanel}
use Rattle.replay_parts.specs.Says.{says_of}
use Rattle.replay_parts.specs.Moments.{moment, scene}
use Rattle.inspect_replay.specs.Runs.{InRun, InPlay, ends_of}
use Rattle.replay_parts.specs.Answers.{RunTells, RunTook}
use Rattle.replay_parts.specs.LinkFolds.{IsWell}
use Rattle.inspect_replay.specs.Followed.{AllCame, Passed, StopFolds, fold_since, FollowsRun, LinePasses, LineTells}
use Rattle.inspect_replay.specs.Prints.{CarriesLine, numbered_line, drops}
use Rattle.inspect_replay.proofs.FollowLemmas.{run-fewer, run-good, run-came, stop-folds}
use Rattle.replay_parts.proofs.StopLemmas.{at-end}
use Rattle.replay_parts.proofs.ClosedPanels.{dropped-tells}

-- ---- a line that drops a panel

module _ {P : Type 0} {g : Ghosts P} (result : Result (Unit {0}) Stop) (number place : ℕ) (honest : Type 0) (up down : Pipe)
    (e e1 : OneFront P g)
    (is : result ≡ drops number (stands_open place e.front.panels)) where
  -- over every link the run goes on without the panel, or the line is refused
  pub panel-passes : e1 ≡ record e { front = with_panels (dropped place e.front.panels) e.front }
      → LinePasses (moment honest up down e) (moment honest up down e1) (close place) result
  panel-passes dropped_is = λ state0 up0 down0 run.
      let here = run-fewer state0 up0 down0 up down e run in
      let panels : e.front.panels ≡ state0.panels = ap (λ (s : FrontState). s.panels) here.so_far.front_is in
      let left : FollowsRun (record state0 { panels = dropped place e.front.panels }) up0 down0 up down
      (record e { front = with_panels (dropped place e.front.panels) e.front }) =
      record {
        so_far = follows-panels state0 up0 down0 up down e.ends.splitter.whole (ends_of e) (dropped place e.front.panels) here.so_far;
        none_whole = here.none_whole;
      } in
      let gone : FollowsRun (record state0 { panels = dropped place state0.panels }) up0 down0 up down e1 =
      subst (λ (x : OneFront P g). FollowsRun (record state0 { panels = dropped place state0.panels }) up0 down0 up down x) (sym dropped_is)
      (subst (λ ps. FollowsRun (record state0 { panels = dropped place ps }) up0 down0 up down
      (record e { front = with_panels (dropped place e.front.panels) e.front })) panels left) in
      subst (λ (r : Result (Unit {0}) Stop).
      OnOk r (FollowsRun (record state0 { panels = dropped place state0.panels }) up0 down0 up down e1)
      × StopFolds r (fold_since up0 down0 up down)) (sym is)
      (at (stands_open place e.front.panels) (FollowsRun (record state0 { panels = dropped place state0.panels }) up0 down0 up down e1)
      (fold_since up0 down0 up down) gone (run-good state0 up0 down0 up down e here))
    where
      at : (there : Bool) (Q : Type 0) (passed : Passed) → Q → IsWell passed
          → OnOk (drops number there) Q × StopFolds (drops number there) passed
      at true Q passed q good = (q, good)
      at false Q passed q good = (tt, stop-folds (Line number NoPanel) passed tt good)

  tells-drop : (panels : List (Option PanelKind)) (came : ℕ → Bool) → stands_open place e.front.panels ≡ stands_open place panels
      → RunTells result (numbered_or number (want_fault came panels (close place)) None)
  tells-drop panels came same = subst (λ (r : Result (Unit {0}) Stop). RunTells r
      (numbered_or number (want_fault came panels (close place)) None)) (sym is)
      (subst (λ b. RunTells (drops number (stands_open place e.front.panels)) (numbered_or number (first_of (panel_missing b) None) None))
      same (dropped-tells number (stands_open place e.front.panels)))

  -- it tells just that
  pub panel-tells : LineTells (moment honest up down e) (moment honest up down e1) (numbered_line number (close place)) result
  panel-tells = λ state0 up0 down0 run.
      let here = run-fewer state0 up0 down0 up down e run in
      let panels : e.front.panels ≡ state0.panels = ap (λ (s : FrontState). s.panels) here.so_far.front_is in
      let passed = fold_since up0 down0 up down in (
        tells-drop state0.panels (came_styles passed.fold) (ap (stands_open place) panels),
        at-end (says_of result).phase (AllCame passed state0.shown) (run-came state0 up0 down0 up down e here),
      )

  -- over an honest link both runs go on without the panel, or the line is refused
  pub panel-carries : (taken : Option (List ℕ)) → e1 ≡ record e { front = with_panels (dropped place e.front.panels) e.front }
      → CarriesLine (scene (moment honest up down e) taken) (scene (moment honest up down e1) taken)
      (numbered_line number (close place)) result
  panel-carries taken dropped_is = λ up0 down0 more w play.
      let v : World RunState = play.fresh in
      let world = play.in_run.so_far.in_world in
      let panels : e.front.panels ≡ v.told.panels = ap (λ (s : FrontState). s.panels) world.front_is in
      let same : e.front.panels ≡ w.told.panels = panels ∙ ap (λ (n : Audience). n.panels) play.told_is in
      let gone : InRun honest up0 down0 up down (panel_dropped place v) e1 =
      subst (λ (x : OneFront P g). InRun honest up0 down0 up down (panel_dropped place v) x) (sym dropped_is)
      (subst (λ ps. InRun honest up0 down0 up down (record v { told = record v.told { panels = dropped place ps } })
      (record e { front = with_panels (dropped place e.front.panels) e.front })) panels
      (record {
        so_far = record {
          is_honest = play.in_run.so_far.is_honest;
          in_world = world-panels up0 down0 up down v (e.ends.splitter.whole ++ awaited v.up) (ends_of e)
              (dropped place e.front.panels) world;
        };
        none_whole = play.in_run.none_whole;
      })) in
      let on : InPlay honest up0 down0 up down more (panel_dropped place w) e1 =
      record {
        fresh = panel_dropped place v;
        both = play-line (close place) more w v tt play.both;
        in_run = gone;
        told_is = ap (λ (n : Audience). record n { panels = dropped place n.panels }) play.told_is;
      } in (
        subst (λ (r : Result (Unit {0}) Stop). OnOk r (InPlay honest up0 down0 up down more (panel_dropped place w) e1)) (sym is)
            (on-drop (stands_open place e.front.panels) on),
        subst (λ (r : Result (Unit {0}) Stop). RunTook r taken taken []) (sym is) (took (stands_open place e.front.panels)),
        tells-drop w.told.panels (has_styles (settled run_step w)) (ap (stands_open place) same),
      )
    where
      on-drop : {Q : Type 0} (there : Bool) → Q → OnOk (drops number there) Q
      on-drop true q = q
      on-drop false q = tt

      took : (there : Bool) → RunTook (drops number there) taken taken []
      took true = Appends-nil taken
      took false = Appends-nil taken
