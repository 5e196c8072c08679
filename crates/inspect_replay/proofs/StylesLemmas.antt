-- A line that shows matched styles.
use Rattle.std.proofs.Common.{◌≡◌, ℕ, ◌+◌, List, is_some, Option}
use Rattle.std.proofs.Common.{None, refl, sym, ◌∙◌, ap, subst, Result, Ok}
use Rattle.front_mirror.specs.declared.panels.Panel.{Ghosts}
use Rattle.pipe_frames.specs.Pipe.{Pipe}
use Rattle.css_objects.specs.declared.rules.Matched.{Matched}
use Rattle.front_mirror.specs.Front.{matched_in}
use Rattle.replay_script.specs.Forms.{show_styles}
use Rattle.replay_script.specs.Script.{numbered_or, styles_missing, want_fault}
use Rattle.session_runs.specs.World.{settled}
use Rattle.inspect_world.specs.World.{World}
use Rattle.inspect_world.specs.RunStates.{RunState, styles_under, run_step}
use Rattle.inspect_world.specs.Costs.{least_line}
use Rattle.inspect_world.specs.FreshRuns.{front_fetcher, refreshes}
use Rattle.inspect_world.specs.Scripts.{styles_at, styles_shown}
use Rattle.inspect_world.specs.Links.{Started, came_styles}
use Rattle.inspect_world.proofs.FetchesFit.{ShownThen, refreshed-told}
use Rattle.inspect_replay.specs.declared.one_front.OneFront.{OneFront}
use Rattle.replay_parts.specs.declared.stop.Stop.{Stop}
use Rattle.inspect_replay.specs.Runs.{InRun}
use Rattle.replay_parts.specs.Says.{says_of}
use Rattle.replay_parts.specs.Moments.{moment, scene}
use Rattle.replay_parts.specs.Answers.{AtEnd, RunTells, RunTook}
use Rattle.inspect_replay.specs.Followed.{AllCame, fold_since, FollowsRun}
use Rattle.inspect_replay.specs.Prints.{CarriesLine, numbered_line}
use Rattle.inspect_replay.proofs.RunLemmas.{SettlesTo, left-none, plays, shown-settled}
use Rattle.inspect_replay.proofs.FollowLemmas.{run-came, run-kept}
use Rattle.replay_parts.proofs.StopLemmas.{at-end, after-ok}
use Rattle.replay_parts.proofs.StyleLineLemmas.{under-kept}

shown-styles : {P : Type 0} {g : Ghosts P} (w : World RunState) (e1 : OneFront P g) (ask : ℕ) → ShownThen w e1.front.value
    → matched_in ask e1.front.value.matched ≡ styles_at ask (settled run_step w)
shown-styles w e1 ask shown = sym (under-kept ask e1.front.value.matched) ∙ ap (styles_under ask) shown.styles

-- a show of matched styles: they were printed, or the line is refused
pub styles-carry : {P : Type 0} {g : Ghosts P} (result : Result (Unit {0}) Stop) (number ask : ℕ) (found : Option Matched)
    (honest honest1 : Type 0)
    (up down up1 down1 : Pipe) (taken taken1 : Option (List ℕ)) (e e1 : OneFront P g)
    → SettlesTo honest honest1 up down up1 down1 e e1 → found ≡ matched_in ask e1.front.value.matched
    → RunTook result taken taken1 (styles_shown ask found) → RunTells result (numbered_or number (styles_missing (is_some found)) None)
    → CarriesLine (scene (moment honest up down e) taken) (scene (moment honest1 up1 down1 e1) taken1)
    (numbered_line number (show_styles ask)) result
styles-carry result number ask found honest honest1 up down up1 down1 taken taken1 e e1 settles is took tells = λ up0 down0 more w play.
    let v : World RunState = play.fresh in
    let after : InRun honest1 up0 down0 up1 down1 (refreshes front_fetcher v) e1 = settles up0 down0 v
    (left-none v.spent (more + least_line) play.both.left) play.in_run in
    let shown : ShownThen w e1.front.value = shown-settled honest1 up0 down0 up1 down1 (more + least_line) w v e1 play.both after in
    let same : found ≡ styles_at ask (settled run_step w) = is ∙ shown-styles w e1 ask shown in
    let both = plays {T = Unit {0}} (Ok tt) honest honest1 up down up1 down1 e e1 (refreshes front_fetcher) (show_styles ask) tt
    (λ v. refl) refreshed-told (λ v. refl)
    (λ up0 down0 v few run. (tt, settles up0 down0 v (left-none v.spent least_line few) run)) up0 down0 more w play in (
      after-ok result both.1,
      subst (λ o. RunTook result taken taken1 (styles_shown ask o)) same took,
      subst (λ o. RunTells result (numbered_or number (styles_missing (is_some o)) None)) same tells,
    )

-- over every link they are those that the front end has kept
pub styles-tell : {P : Type 0} {g : Ghosts P} (result : Result (Unit {0}) Stop) (number ask : ℕ) (found : Option Matched) (state0 : Started)
    (up0 down0 up down : Pipe)
    (e : OneFront P g)
    → FollowsRun state0 up0 down0 up down e → found ≡ matched_in ask e.front.value.matched
    → RunTells result (numbered_or number (styles_missing (is_some found)) None)
    → RunTells result
    (numbered_or number (want_fault (came_styles (fold_since up0 down0 up down).fold) state0.panels (show_styles ask)) None)
    × AtEnd (says_of result).phase (AllCame (fold_since up0 down0 up down) state0.shown)
styles-tell result number ask found state0 up0 down0 up down e run is tells = (
  subst (λ b. RunTells result (numbered_or number (styles_missing b) None))
      (ap is_some is ∙ sym (run-kept state0 up0 down0 up down e ask run)) tells,
  at-end (says_of result).phase (AllCame (fold_since up0 down0 up down) state0.shown) (run-came state0 up0 down0 up down e run),
)
