-- Over every link, a line is refused exactly where it is the first that is refused by its form or lacks matched styles.
use Rattle.std.proofs.Common.{◌≡◌, ℕ, ◌+◌, List, [], ◌∷◌, ◌++◌, length, Bool, true, false, Option, Some, None, option_and_then, refl, sym}
use Rattle.std.proofs.Common.{◌∙◌, ap, subst, Result, Ok, Err}
use Rattle.std.specs.List.{All}
use Rattle.std.specs.Option.{option_map_or, option_to_list}
use Rattle.std.specs.Result.{OnOk}
use Rattle.std.proofs.lemmas.List.Elements.{All-nil, All-cons, All-head, All-tail, All-append}
use Rattle.front_mirror.specs.declared.panels.Panel.{Ghosts}
use Rattle.pipe_frames.specs.Pipe.{Pipe}
use Rattle.node_tree.specs.Keys.{first_of}
use Rattle.replay_script.specs.Forms.{LineForm, line_form}
use Rattle.replay_script.specs.Faults.{line_fault}
use Rattle.replay_script.specs.Script.{numbered_or, closed_by, panel_fault, panels_after, panels_left, styles_ask}
use Rattle.replay_script.specs.Script.{styles_missing, styles_fault, want_fault, first_refused, dropped}
use Rattle.replay_script.proofs.FaultLemmas.{first_none}
use Rattle.replay_script.specs.declared.faults.LineFault.{LineFault}
use Rattle.front_mirror.specs.declared.panels.PanelKind.{PanelKind}
use Rattle.front_mirror.specs.Front.{FrontState}
use Rattle.inspect_world.specs.Links.{Begun, Started, run_started, knows_styles, came_styles}
use Rattle.inspect_world.proofs.LinkLemmas.{follows-fold, follows-showing}
use Rattle.inspect_replay.specs.declared.one_front.OneFront.{OneFront}
use Rattle.replay_parts.specs.declared.stop.Stop.{Stop}
use Rattle.replay_parts.specs.declared.stop.Stop.TheVariants.{Line, TooLong, ReadFault, WriteFault, LinkFault, FrontRefused, NoRoom}
use Rattle.replay_parts.specs.declared.stop.Stop.TheVariants.{Memory}
use Rattle.replay_parts.specs.Says.{says, says_of, status_of}
use Rattle.replay_parts.specs.Moments.{Moment}
use Rattle.replay_parts.specs.Stops.{HasStopCause}
use Rattle.replay_parts.specs.Answers.{AtEnd, RunTells}
use Rattle.inspect_replay.specs.Followed.{AllCame, EndsShown, AnswersInOrder, Passed, fold_since, FollowsRun, LineFollows}
use Rattle.inspect_replay.specs.Followed.{passing, LinePasses, LineTells, LinesCarried}
use Rattle.inspect_replay.specs.Prints.{numbered_line, IsRead}
use Rattle.inspect_replay.specs.Runs.{ends_of}
use Rattle.inspect_replay.proofs.LinesRun.{plain-lacking, no-number, some-number}
use Rattle.inspect_replay.proofs.FollowLemmas.{run-came}
use Rattle.replay_parts.proofs.StopLemmas.{part-tells, closed-tells, came-through}

-- ---- one line

-- what came of a run that follows
pub ok-came : {P : Type 0} {g : Ghosts P} (result : Result (Unit {0}) Stop) (state0 : Started) (up0 down0 up down : Pipe) (e : OneFront P g)
    → OnOk result (FollowsRun state0 up0 down0 up down e)
    → OnOk result (AllCame (fold_since up0 down0 up down) state0.shown)
ok-came (Ok value) state0 up0 down0 up down e run = run-came state0 up0 down0 up down e run
ok-came (Err stop) state0 up0 down0 up down e run = tt

-- a line that shows no matched styles lacks none
pub plain-tells : {P : Type 0} {g : Ghosts P} (result : Result (Unit {0}) Stop) (old new : Moment (OneFront P g)) (number : ℕ)
    (form : LineForm)
    (sink0 sink1 link0 link1 : ℕ)
    → closed_by form ≡ None → styles_ask form ≡ None → HasStopCause sink0 sink1 link0 link1 result → LineFollows old new result
    → LineTells old new (numbered_line number form) result
plain-tells result old new number form sink0 sink1 link0 link1 keeps none cause follows = λ state0 up0 down0 run.
    let passed = fold_since up0 down0 new.up new.down in (
      closed-tells result sink0 sink1 link0 link1 (numbered_or number (want_fault (came_styles passed.fold) state0.panels form) None)
          (ap (λ o. numbered_or number o None) (plain-lacking (came_styles passed.fold) state0.panels form keeps none)) cause,
      came-through result sink0 sink1 link0 link1 (AllCame passed state0.shown) cause
          (ok-came result state0 up0 down0 new.up new.down new.ends (follows state0 up0 down0 run).0),
    )

-- a line that drops no panel keeps them
pub keeps-passing : {P : Type 0} {g : Ghosts P} (result : Result (Unit {0}) Stop) (old new : Moment (OneFront P g)) (form : LineForm)
    → closed_by form ≡ None
    → LineFollows old new result → LinePasses old new form result
keeps-passing result old new form keeps follows = λ state0 up0 down0 run.
    let all = follows state0 up0 down0 run in (
      subst (λ o. OnOk result (FollowsRun (run_started state0.state state0.lines state0.shown
          (option_map_or (λ k. dropped k state0.panels) o state0.panels)) up0 down0 new.up new.down new.ends)) (sym keeps) all.0,
      all.1,
    )

-- a call that stopped amid a run tells of no line
pub stopped-tells : (stop : Stop) (sink0 sink1 link0 link1 number : ℕ) (form : LineForm) (state0 : Started) (passed : Passed)
    → HasStopCause {T = Unit {0}} sink0 sink1 link0 link1 (Err stop)
    → RunTells {T = Unit {0}} (Err stop) (numbered_or number (want_fault (came_styles passed.fold) state0.panels form) None)
    × AtEnd (says_of {T = Unit {0}} (Err stop)).phase (AllCame passed state0.shown)
stopped-tells stop sink0 sink1 link0 link1 number form state0 passed cause = (
  part-tells stop sink0 sink1 link0 link1 (numbered_or number (want_fault (came_styles passed.fold) state0.panels form) None) cause,
  came-through (Err stop) sink0 sink1 link0 link1 (AllCame passed state0.shown) cause tt,
)

-- ---- the lines

-- the run so far: the asks whose matched styles were shown, and that the first line that is refused is among those left, while these are
-- there
pub record Carried {P : Type 0} {g : Ghosts P} (begun : Begun) (up0 down0 up down : Pipe) (initial : List (List ℕ)) (number : ℕ)
    (lines : List (List ℕ))
    (e : OneFront P g) : Type 0 where
  pub shown : List ℕ
  pub panels : List (Option PanelKind)
  pub run : FollowsRun (run_started begun.state (length lines) shown panels) up0 down0 up down e
  pub goes : (there : ℕ → Bool) → All (λ ask. there ask ≡ true) shown
      → first_refused there begun.panels 2 initial ≡ first_refused there panels number lines

pub carried-first : {P : Type 0} {g : Ghosts P} (begun : Begun) (up0 down0 up down : Pipe) (lines : List (List ℕ)) (e : OneFront P g)
    → FollowsRun (run_started begun.state (length lines) [] begun.panels) up0 down0 up down e
    → Carried begun up0 down0 up down lines 2 lines e
carried-first begun up0 down0 up down lines e run = record { shown = []; panels = begun.panels; run = run; goes = λ there all. refl }

pub carried-lines : {P : Type 0} {g : Ghosts P} (begun : Begun) (up0 down0 up down : Pipe) (initial : List (List ℕ)) (number : ℕ)
    (lines lines1 : List (List ℕ))
    (e : OneFront P g) → lines ≡ lines1
    → Carried begun up0 down0 up down initial number lines e → Carried begun up0 down0 up down initial number lines1 e
carried-lines begun up0 down0 up down initial number lines lines1 e same carried = subst
    (λ ls. Carried begun up0 down0 up down initial number ls e) same carried

-- matched styles that are not missing are there
not-missing : (there : Bool) → styles_missing there ≡ None → there ≡ true
not-missing true e = refl
not-missing false e = absurd cc

asked-there : (there : ℕ → Bool) (o : Option ℕ) → option_and_then (λ k. styles_missing (there k)) o ≡ None
    → All (λ ask. there ask ≡ true) (option_to_list o)
asked-there there None e = All-nil (λ ask. there ask ≡ true)
asked-there there (Some k) e = All-cons (λ ask. there ask ≡ true) k [] (not-missing (there k) e) (All-nil (λ ask. there ask ≡ true))

-- and those that are there are not missing
there-asked : (there : ℕ → Bool) (o : Option ℕ) (shown : List ℕ) → All (λ ask. there ask ≡ true) (option_to_list o ++ shown)
    → (option_and_then (λ k. styles_missing (there k)) o ≡ None) × All (λ ask. there ask ≡ true) shown
there-asked there None shown all = (refl, all)
there-asked there (Some k) shown all =
    (ap styles_missing (All-head (λ ask. there ask ≡ true) k shown all), All-tail (λ ask. there ask ≡ true) k shown all)

-- the first fault of the lines from a line on, which has a form
refused-from : (there : ℕ → Bool) (panels : List (Option PanelKind)) (number : ℕ) (line : List ℕ) (more : List (List ℕ))
    (form : LineForm) → line_fault number line ≡ None
    → line_form line ≡ Some form
    → first_refused there panels number (line ∷ more)
    ≡ numbered_or number (want_fault there panels form) (first_refused there (panels_after form panels) (number + 1) more)
refused-from there panels number line more form good is =
    ap (λ o. numbered_or number (first_of o (option_and_then (want_fault there panels) (line_form line)))
    (first_refused there (panels_left line panels) (number + 1) more)) good
    ∙ ap (λ o. numbered_or number (option_and_then (want_fault there panels) o)
    (first_refused there (option_map_or (λ f. panels_after f panels) o panels) (number + 1) more)) is

-- a run that follows has the matched styles that came
run-shows : {P : Type 0} {g : Ghosts P} (start : Started) (asks : List ℕ) (up0 down0 up down : Pipe) (e : OneFront P g)
    → FollowsRun start up0 down0 up down e
    → AllCame (fold_since up0 down0 up down) asks
    → FollowsRun (run_started start.state start.lines asks start.panels) up0 down0 up down e
run-shows start asks up0 down0 up down e run all =
    let f = run.so_far in
    let fold : (fold_since up0 down0 up down).fold
    ≡ Ok e.front.value = follows-fold start up0 down0 up down e.ends.splitter.whole (ends_of e) f in
    let value : e.front.value ≡ f.value = ap (λ (s : FrontState). s.value) f.front_is in
    record {
      so_far = follows-showing start asks up0 down0 up down e.ends.splitter.whole (ends_of e) f
          (subst (λ v. All (λ ask. knows_styles v ask ≡ true) asks) value
          (subst (λ r. All (λ ask. came_styles r ask ≡ true) asks) fold all));
      none_whole = run.none_whole;
    }

-- what a line lacks: a panel, or matched styles
lacks-both : (there : ℕ → Bool) (panels : List (Option PanelKind)) (form : LineForm) → want_fault there panels form ≡ None
    → (panel_fault panels form ≡ None) × (styles_fault there form ≡ None)
lacks-both there panels form none = first_none (panel_fault panels form) (styles_fault there form) none

lacks-none : (there : ℕ → Bool) (panels : List (Option PanelKind)) (form : LineForm) → panel_fault panels form ≡ None
    → styles_fault there form ≡ None → want_fault there panels form ≡ None
lacks-none there panels form panel styles = ap (λ o. first_of o (styles_fault there form)) panel ∙ styles

-- a line was carried out
pub carried-on : {P : Type 0} {g : Ghosts P} (begun : Begun) (up0 down0 up down : Pipe) (old new : Moment (OneFront P g))
    (initial : List (List ℕ))
    (number : ℕ)
    (line : List ℕ) (more : List (List ℕ)) (form : LineForm)
    → (c : Carried begun up0 down0 up down initial number (line ∷ more) old.ends) → line_fault number line ≡ None
    → line_form line ≡ Some form
    → FollowsRun (passing form (run_started begun.state (length more) c.shown c.panels)) up0 down0 new.up new.down new.ends
    → (want_fault (came_styles (fold_since up0 down0 new.up new.down).fold) c.panels form ≡ None)
    → Carried begun up0 down0 new.up new.down initial (number + 1) more new.ends
carried-on begun up0 down0 up down old new initial number line more form c good is run lacks =
    let came = came_styles (fold_since up0 down0 new.up new.down).fold in
    let asks = option_to_list (styles_ask form) in
    let start = passing form (run_started begun.state (length more) c.shown c.panels) in
    let none = lacks-both came c.panels form lacks in
    record {
      shown = asks ++ c.shown;
      panels = panels_after form c.panels;
      run = run-shows start (asks ++ c.shown) up0 down0 new.up new.down new.ends run
          (All-append (λ ask. came ask ≡ true) asks c.shown (asked-there came (styles_ask form) none.1)
          (run-came start up0 down0 new.up new.down new.ends run));
      goes = λ there all.
          let both = there-asked there (styles_ask form) c.shown all in
          c.goes there both.1 ∙ refused-from there c.panels number line more form good is
          ∙ ap (λ o. numbered_or number o (first_refused there (panels_after form c.panels) (number + 1) more))
          (lacks-none there c.panels form none.0 both.0);
    }

-- it lacks nothing, where it came through
pub ok-lacks : (number : ℕ) (o : Option LineFault) → RunTells {T = Unit {0}} (Ok tt) (numbered_or number o None) → o ≡ None
ok-lacks number o tells = no-number number o tells

-- or it stopped the run
pub line-stops : {P : Type 0} {g : Ghosts P} (stop : Stop) (begun : Begun) (up0 down0 up down : Pipe) (passed : Passed)
    (initial : List (List ℕ))
    (number : ℕ)
    (line : List ℕ) (more : List (List ℕ)) (form : LineForm) (e : OneFront P g)
    → (c : Carried begun up0 down0 up down initial number (line ∷ more) e) → line_fault number line ≡ None → line_form line ≡ Some form
    → RunTells {T = Unit {0}} (Err stop) (numbered_or number (want_fault (came_styles passed.fold) c.panels form) None)
    × AtEnd (says (status_of stop)).phase (AllCame passed c.shown)
    → RunTells {T = Unit {0}} (Err stop) (first_refused (came_styles passed.fold) begun.panels 2 initial)
line-stops (Line n fault) begun up0 down0 up down passed initial number line more form e c good is tells =
    let came = came_styles passed.fold in
    let f = some-number number (want_fault came c.panels form) (n, fault) tells.0 in
    c.goes came tells.1 ∙ refused-from came c.panels number line more form good is ∙ ap
    (λ o. numbered_or number o (first_refused came (panels_after form c.panels) (number + 1) more)) f.1 ∙ f.2
line-stops TooLong begun up0 down0 up down passed initial number line more form e c good is tells = tells.0
line-stops ReadFault begun up0 down0 up down passed initial number line more form e c good is tells = tells.0
line-stops WriteFault begun up0 down0 up down passed initial number line more form e c good is tells = tt
line-stops LinkFault begun up0 down0 up down passed initial number line more form e c good is tells = tt
line-stops (FrontRefused place kind) begun up0 down0 up down passed initial number line more form e c good is tells = tt
line-stops NoRoom begun up0 down0 up down passed initial number line more form e c good is tells = tt
line-stops Memory begun up0 down0 up down passed initial number line more form e c good is tells = tt

-- a line is not read
pub read-tells : {P : Type 0} {g : Ghosts P} (stop : Stop) (begun : Begun) (up0 down0 up down : Pipe) (initial : List (List ℕ)) (number : ℕ)
    (line : List ℕ)
    (more : List (List ℕ)) (e : OneFront P g)
    → Carried begun up0 down0 up down initial number (line ∷ more) e → IsRead {T = Unit {0}} (Err stop) number (line_fault number line)
    → RunTells {T = Unit {0}} (Err stop) (first_refused (came_styles (fold_since up0 down0 up down).fold) begun.panels 2 initial)
read-tells (Line n fault) begun up0 down0 up down initial number line more e c read =
    let came = came_styles (fold_since up0 down0 up down).fold in
    c.goes came (run-came (run_started begun.state (length (line ∷ more)) c.shown c.panels) up0 down0 up down e c.run)
    ∙ ap (λ o. numbered_or number (first_of o (option_and_then (want_fault came c.panels) (line_form line)))
    (first_refused came (panels_left line c.panels) (number + 1) more)) read.1
    ∙ ap (λ m. Some (m, fault)) (sym read.0)
read-tells TooLong begun up0 down0 up down initial number line more e c read = absurd read
read-tells ReadFault begun up0 down0 up down initial number line more e c read = absurd read
read-tells WriteFault begun up0 down0 up down initial number line more e c read = tt
read-tells LinkFault begun up0 down0 up down initial number line more e c read = tt
read-tells (FrontRefused place kind) begun up0 down0 up down initial number line more e c read = tt
read-tells NoRoom begun up0 down0 up down initial number line more e c read = tt
read-tells Memory begun up0 down0 up down initial number line more e c read = tt

-- no line is left
pub carried-all : {P : Type 0} {g : Ghosts P} (begun : Begun) (up0 down0 : Pipe) (new : Moment (OneFront P g)) (initial : List (List ℕ))
    (number : ℕ)
    (lines : List (List ℕ))
    → lines ≡ []
    → Carried begun up0 down0 new.up new.down initial number lines new.ends → LinesCarried begun up0 down0 new initial
carried-all begun up0 down0 new initial number lines none c = record {
  shown = c.shown;
  panels = c.panels;
  run = subst
      (λ (ls : List (List ℕ)). FollowsRun (run_started begun.state (length ls) c.shown c.panels) up0 down0 new.up new.down new.ends)
      none c.run;
  none = λ there all. c.goes there all ∙ ap (first_refused there c.panels number) none;
}

-- and then none is refused
pub carried-tells : {P : Type 0} {g : Ghosts P} (begun : Begun) (up0 down0 : Pipe) (new : Moment (OneFront P g)) (lines : List (List ℕ))
    → LinesCarried begun up0 down0 new lines
    → first_refused (came_styles (fold_since up0 down0 new.up new.down).fold) begun.panels 2 lines ≡ None
carried-tells begun up0 down0 new lines c = c.none _
    (run-came (run_started begun.state 0 c.shown c.panels) up0 down0 new.up new.down new.ends c.run)

-- nor after the closing part
pub closing-tells : {P : Type 0} {g : Ghosts P} (result : Result (Unit {0}) Stop) (sink0 sink1 link0 link1 : ℕ) (begun : Begun)
    (up0 down0 up down : Pipe)
    (new : Moment (OneFront P g)) (before after : Option (List ℕ)) (lines : List (List ℕ))
    → (c : LinesCarried begun up0 down0 new lines) → HasStopCause sink0 sink1 link0 link1 result
    → OnOk result (EndsShown before after (fold_since up0 down0 up down) × AnswersInOrder up0 down0 up down
    × AllCame (fold_since up0 down0 up down) c.shown)
    → RunTells result (first_refused (came_styles (fold_since up0 down0 up down).fold) begun.panels 2 lines)
closing-tells (Ok value) sink0 sink1 link0 link1 begun up0 down0 up down new before after lines c cause shown = c.none _ shown.2
closing-tells (Err stop) sink0 sink1 link0 link1 begun up0 down0 up down new before after lines c cause shown =
    part-tells stop sink0 sink1 link0 link1 (first_refused (came_styles (fold_since up0 down0 up down).fold) begun.panels 2 lines) cause
