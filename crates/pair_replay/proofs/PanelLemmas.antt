-- A line that drops a panel of the first front end.
use Rattle.std.proofs.Common.{◌≡◌, ℕ, ◌+◌, List, [], ◌++◌, Bool, true, false, Option, Some, None, sym, ◌∙◌, ap, subst}
use Rattle.std.proofs.Common.{arith, Result}
use Rattle.std.specs.Prelude.{⊤}
use Rattle.std.specs.Result.{OnOk}
use Rattle.std.specs.Io.KnownBytes.{Appends}
use Rattle.front_mirror.specs.declared.panels.Panel.{Ghosts}
use Rattle.front_mirror.specs.declared.panels.PanelKind.{PanelKind}
use Rattle.pipe_frames.specs.Pipe.{Pipe}
use Rattle.pipe_frames.proofs.WholeLemmas.{Appends-nil}
use Rattle.node_tree.specs.Keys.{first_of}
use Rattle.replay_script.specs.Forms.{close}
use Rattle.replay_script.specs.Script.{stands_open, dropped, numbered_or, panel_missing}
use Rattle.replay_script.specs.PairLines.{of_first}
use Rattle.replay_script.specs.declared.faults.LineFault.{LineFault}
use Rattle.replay_script.specs.declared.faults.LineFault.TheVariants.{NoPanel}
use Rattle.session_runs.specs.Stream.{awaited}
use Rattle.multi_replay.specs.States.{after_close}
use Rattle.inspect_world.specs.Costs.{least_line}
use Rattle.pair_world.specs.PairRuns.{PairAudience, PairRun}
use Rattle.pair_world.specs.PairScripts.{pair_telling, after_pair_line, pair_lacking}
use Rattle.pair_world.specs.PairFresh.{fresh_pair_line, line_or}
use Rattle.pair_world.specs.PairHeld as held
use Rattle.pair_world.specs.PairHeld.{calm, InPairWorld}
use Rattle.pair_world.specs.PairLinks.{pair_started}
use Rattle.replay_parts.specs.declared.stop.Stop.{Stop}
use Rattle.replay_parts.specs.declared.stop.Stop.TheVariants.{Line}
use Rattle.replay_parts.specs.Moments.{moment, scene}
use Rattle.replay_parts.specs.Answers.{RunTells}
use Rattle.replay_parts.specs.Reads.{drops}
use Rattle.pair_replay.specs.declared.two_fronts.TwoFronts.{TwoFronts}
use Rattle.pair_replay.specs.PairAnswers.{PairPassed, PairRunTook, PairStopFolds, RoomTold, pair_since}
use Rattle.pair_replay.specs.Running.{pair_ends_of, InPairRun, InPairPlay}
use Rattle.pair_replay.specs.Following.{FollowsPairRun, pair_passing, PairLinePasses, PairLineTells}
use Rattle.pair_replay.specs.Playing.{PairCarries, numbered_pair, text_unless}
use Rattle.pair_replay.proofs.PairTheory.{together-fewer, together-told}
use Rattle.replay_parts.specs.LinkFolds.{IsWell}
use Rattle.pair_replay.proofs.PairFollows.{stop-folds, run-well, run-fewer, run-closed}
use Rattle.pair_replay.proofs.LineFaults.{tells-now}
use Rattle.pair_replay.proofs.LineFollows.{keeps-still}
use Rattle.replay_parts.proofs.StopLemmas.{after-ok}
use Rattle.replay_parts.proofs.ClosedPanels.{dropped-is, dropped-tells}

-- ---- a line that drops a panel

module _ {P : Type 0} {g : Ghosts P} (result : Result (Unit {0}) Stop) (number place : ℕ) (honest : Type 0) (up down : Pipe)
    (e e1 : TwoFronts P g)
    (is : result ≡ drops number (stands_open place e.fronts.pair.one.panels))
    (left : e1 ≡ record e { fronts = after_close e.fronts place }) where
  -- over every link the run goes on without the panel, or the line is refused
  pub panel-passes : PairLinePasses (of_first (close place)) (moment honest up down e) (moment honest up down e1) result
  panel-passes = λ start up0 down0 run.
      let here = run-fewer start up0 down0 up down e run in
      let gone : FollowsPairRun (pair_passing (of_first (close place)) start) up0 down0 up down e1 =
      subst (λ (x : TwoFronts P g). FollowsPairRun (pair_passing (of_first (close place)) start) up0 down0 up down x) (sym left)
      (subst (λ ps. FollowsPairRun (pair_started start.pair start.lines ps start.from) up0 down0 up down
      (record e { fronts = after_close e.fronts place })) (dropped-is place start.panels)
      (run-closed start up0 down0 up down e place here)) in
      subst (λ (r : Result (Unit {0}) Stop).
      OnOk r (FollowsPairRun (pair_passing (of_first (close place)) start) up0 down0 up down e1)
      × PairStopFolds r (pair_since up0 down0 up down)) (sym is)
      (at (stands_open place e.fronts.pair.one.panels) (FollowsPairRun (pair_passing (of_first (close place)) start) up0 down0 up down e1)
      (pair_since up0 down0 up down) gone (run-well start up0 down0 up down e here))
    where
      at : (there : Bool) (Q : Type 0) (passed : PairPassed) → Q → IsWell passed
          → OnOk (drops number there) Q × PairStopFolds (drops number there) passed
      at true Q passed q good = (q, good)
      at false Q passed q good = (tt, stop-folds (Line number NoPanel) passed tt good)

  tells-drop : (panels : List (Option PanelKind)) → e.fronts.pair.one.panels ≡ panels
      → RunTells result (numbered_or number (first_of (panel_missing (stands_open place panels)) None) None)
  tells-drop panels same =
      subst (λ ps. RunTells result (numbered_or number (first_of (panel_missing (stands_open place ps)) None) None)) same
      (subst (λ (r : Result (Unit {0}) Stop). RunTells r (numbered_or number
      (first_of (panel_missing (stands_open place e.fronts.pair.one.panels)) None) None)) (sym is)
      (dropped-tells number (stands_open place e.fronts.pair.one.panels)))

  -- it tells just that
  pub panel-tells : PairLineTells (numbered_pair number (of_first (close place))) (moment honest up down e) (moment honest up down e1)
      result
  panel-tells =
      tells-now {U = Unit {0}} tt result number (of_first (close place)) (moment honest up down e) (moment honest up down e)
      (keeps-still (moment honest up down e))
      (λ start up0 down0 run. tells-drop start.panels run.so_far.panels)

  -- over an honest link both runs go on without the panel, or the line is refused
  pub panel-carries : (taken : Option (List ℕ))
      → PairCarries (numbered_pair number (of_first (close place))) (scene (moment honest up down e) taken)
      (scene (moment honest up down e1) taken)
      result
  panel-carries taken = λ up0 down0 more w v play.
      let run = play.in_run in
      let world = run.so_far.in_world in
      let told : PairAudience = record w.told { panels = dropped place w.told.panels } in
      let closed : held.PairEnds = record (pair_ends_of e) { fronts = after_close e.fronts place } in
      let gone : InPairWorld calm up0 down0 up down (pair_telling told v) (e.ends.splitter.whole ++ awaited v.up) closed =
      panel-dropped up0 down0 up down v w.told (e.ends.splitter.whole ++ awaited v.up) (pair_ends_of e) world in
      let after : InPairPlay honest up0 down0 up down more (after_pair_line (of_first (close place)) w)
      (fresh_pair_line (of_first (close place)) v) e1 = record {
        both = together-told more w v told (record v.told { panels = dropped place v.told.panels })
            (together-fewer more (more + least_line) w v (omega arith) play.both);
        in_run = subst (λ (x : TwoFronts P g). InPairRun calm honest up0 down0 up down (pair_telling told v) x) (sym left)
            (record { so_far = record { is_honest = run.so_far.is_honest; in_world = gone }; none_whole = run.none_whole });
      } in
      let same : e.fronts.pair.one.panels ≡ w.told.panels = world.panels in
      let tells : RunTells result (numbered_or number (pair_lacking (of_first (close place)) w) None) = tells-drop w.told.panels same in (
        after-ok result after,
        subst (λ (r : Result (Unit {0}) Stop). PairRunTook r taken taken (text_unless (pair_lacking (of_first (close place)) w) []))
            (sym is)
            (took (stands_open place e.fronts.pair.one.panels) (pair_lacking (of_first (close place)) w)),
        tells,
        subst (λ (r : Result (Unit {0}) Stop).
            RoomTold r (line_or (pair_lacking (of_first (close place)) w) (of_first (close place)) v ⊤)) (sym is)
            (room (stands_open place e.fronts.pair.one.panels) (pair_lacking (of_first (close place)) w) v),
      )
    where
      panel-dropped : (up0 down0 up down : Pipe) (v : PairRun) (told : PairAudience) (frames : List (List ℕ)) (h : held.PairEnds)
          → InPairWorld calm up0 down0 up down (pair_telling told v) frames h
          → InPairWorld calm up0 down0 up down (pair_telling (record told { panels = dropped place told.panels }) v) frames
          (record h { fronts = after_close h.fronts place })
      panel-dropped up0 down0 up down v told frames h world =
          let link = world.on_link in
          record {
            on_link = record {
              up_is = link.up_is;
              down_is = link.down_is;
              back_is = link.back_is;
              up_left = link.up_left;
              down_left = link.down_left;
              fits = record {
                front = link.fits.front;
                is_fold = link.fits.is_fold;
                fit = link.fits.fit;
                up_whole = link.fits.up_whole;
                down_whole = link.fits.down_whole;
              };
            };
            usual = world.usual;
            stands = world.stands;
            fronts_are = record {
              asked = world.fronts_are.asked;
              value = world.fronts_are.value;
              taken = world.fronts_are.taken;
              rest = world.fronts_are.rest;
              well = world.fronts_are.well;
              unread = world.fronts_are.unread;
              whole = world.fronts_are.whole;
              were_attached = world.fronts_are.were_attached;
              second = world.fronts_are.second;
            };
            numbered = record {
              asks = world.numbered.asks;
              fetches = world.numbered.fetches;
              second = world.numbered.second;
              attaching = world.numbered.attaching;
              targets = world.numbered.targets;
            };
            session = world.session;
            alive = world.alive;
            first_alive = world.first_alive;
            panels = dropped-is place h.fronts.pair.one.panels ∙ ap (dropped place) world.panels;
            first_told = world.first_told;
            second_told = world.second_told;
          }

      nothing : (o : Option LineFault) → Appends taken taken (text_unless o [])
      nothing None = Appends-nil taken
      nothing (Some fault) = Appends-nil taken

      took : (there : Bool) (o : Option LineFault) → PairRunTook (drops number there) taken taken (text_unless o [])
      took true o = nothing o
      took false o = nothing o

      none-needed : (o : Option LineFault) (v : PairRun) → line_or o (of_first (close place)) v ⊤
      none-needed None v = (tt, tt)
      none-needed (Some fault) v = tt

      room : (there : Bool) (o : Option LineFault) (v : PairRun) → RoomTold (drops number there) (line_or o (of_first (close place)) v ⊤)
      room true o v = none-needed o v
      room false o v = none-needed o v
