-- Over every link: the shows of a front end go on following it, and are judged once all has come.
use Rattle.std.proofs.Common.{◌≡◌, ℕ, List, Bool, true, false, cond, is_some, Option, Some, None, refl, sym, ◌∙◌, ap, subst, Result, Ok}
use Rattle.std.proofs.Common.{Err}
use Rattle.std.specs.Result.{OnOk}
use Rattle.front_mirror.specs.declared.panels.Panel.{Ghosts}
use Rattle.front_mirror.specs.Front.{matched_in}
use Rattle.css_objects.specs.declared.rules.Matched.{Matched}
use Rattle.pipe_frames.specs.Pipe.{Pipe}
use Rattle.replay_script.specs.Forms.{LineForm, show_styles}
use Rattle.replay_script.specs.Script.{numbered_or, panels_after, panel_fault, styles_missing, styles_fault}
use Rattle.replay_script.specs.PairLines.{PairForm, attach_session, detach_session, of_second}
use Rattle.replay_script.specs.Forms as forms
use Rattle.replay_script.specs.Forms.{AskForm}
use Rattle.node_tree.specs.Keys.{first_of}
use Rattle.replay_script.specs.declared.faults.LineFault.TheVariants.{BadSession}
use Rattle.front_mirror.specs.declared.panels.PanelKind.{PanelKind}
use Rattle.multi_replay.specs.States.{is_there, front_meant}
use Rattle.pair_world.specs.PairLinks.{PairStarted}
use Rattle.replay_parts.specs.declared.stop.Stop.{Stop}
use Rattle.replay_parts.specs.declared.stop.Stop.TheVariants.{Line}
use Rattle.replay_parts.specs.Moments.{Moment}
use Rattle.replay_parts.specs.Stops.{HasStopCause, GoesWell}
use Rattle.replay_parts.specs.Answers.{RunTells}
use Rattle.pair_replay.specs.declared.two_fronts.TwoFronts.{TwoFronts}
use Rattle.pair_replay.specs.PairStarts.{line_on}
use Rattle.pair_replay.specs.PairAnswers.{moment_of}
use Rattle.pair_replay.specs.Judged.{fault_at}
use Rattle.pair_replay.specs.Following.{FollowsPairRun, KeepsPair, pair_passing, PairLinePasses, PairLineTells, numbered_pair}
use Rattle.pair_replay.proofs.PairFollows.{run-well, kept-run, run-fewer}
use Rattle.pair_replay.proofs.LineFaults.{show_fault, link-show, link-none, link-styles, link-session, tells-now, tells-amid, tells-not}
use Rattle.replay_parts.proofs.StopLemmas.{closed-tells}

-- ---- a line that settles and prints

-- a line of either front end that drops no panel leaves the run as it is
pub passing-on : (second : Bool) (form : LineForm) (start : PairStarted)
    → ((panels : List (Option PanelKind)) → panels_after form panels ≡ panels) → pair_passing (line_on second form) start ≡ start
passing-on false form start keeps = ap (λ ps. record start { panels = ps }) (keeps start.panels)
passing-on true form start keeps = refl

-- it passes, where what it keeps leaves all panels
pub keeps-passes : {P : Type 0} {g : Ghosts P} (result : Result (Unit {0}) Stop) (form : PairForm) (old new : Moment (TwoFronts P g))
    → ((start : PairStarted) → pair_passing form start ≡ start)
    → KeepsPair old new result → PairLinePasses form old new result
keeps-passes result form old new still keeps = λ start up0 down0 run.
    let all = keeps start up0 down0 (run-fewer start up0 down0 old.up old.down old.ends run) in
    (subst (λ s. OnOk result (FollowsPairRun s up0 down0 new.up new.down new.ends)) (sym (still start)) all.0, all.1)

-- a settle that came through, after which nothing went over the link
pub settled-passes : {P : Type 0} {g : Ghosts P} (result : Result (Unit {0}) Stop) (form : PairForm) (old mid : Moment (TwoFronts P g))
    → ((start : PairStarted) → pair_passing form start ≡ start) → GoesWell result
    → KeepsPair {T = Unit {0}} old mid (Ok tt) → PairLinePasses form old mid result
settled-passes result form old mid still well keeps =
    keeps-passes result form old mid still
    (λ start up0 down0 run. kept-run start up0 down0 mid.up mid.down mid.ends (keeps start up0 down0 run).0 result well)

-- the same where something was told then
pub told-passes : {P : Type 0} {g : Ghosts P} (form : PairForm) (old mid new : Moment (TwoFronts P g))
    → ((start : PairStarted) → pair_passing form start ≡ start)
    → ((start : PairStarted) (up0 down0 : Pipe) → FollowsPairRun start up0 down0 mid.up mid.down mid.ends
    → FollowsPairRun start up0 down0 new.up new.down new.ends)
    → KeepsPair {T = Unit {0}} old mid (Ok tt) → PairLinePasses {T = Unit {0}} form old new (Ok tt)
told-passes form old mid new still told keeps =
    keeps-passes (Ok tt) form old new still
    (λ start up0 down0 run.
    let all = told start up0 down0 (keeps start up0 down0 run).0 in
    (all, run-well start up0 down0 new.up new.down new.ends all))

-- ---- how it is judged

-- a show of a front end that does not stand
pub none-tells : {P : Type 0} {g : Ghosts P} (second : Bool) (form : LineForm) (stop : Stop) (number : ℕ) (old mid : Moment (TwoFronts P g))
    → ((panels : List (Option PanelKind)) → panel_fault panels form ≡ None) → stop ≡ Line number BadSession
    → is_there second mid.ends.fronts.pair ≡ false
    → KeepsPair {T = Unit {0}} old mid (Ok tt)
    → PairLineTells {T = Unit {0}} (numbered_pair number (line_on second form)) old mid (Err stop)
none-tells second form stop number old mid keeps is none follows =
    tells-now {T = Unit {0}} {U = Unit {0}} tt (Err stop) number (line_on second form) old mid follows
    (λ start up0 down0 run.
    subst (λ s. RunTells {T = Unit {0}} (Err s) (numbered_or number (fault_at (moment_of up0 down0 mid.up mid.down) start.panels
    (line_on second form)) None)) (sym is)
    (ap (λ o. numbered_or number o None)
    (link-none start up0 down0 mid.up mid.down mid.ends run second form start.panels (keeps start.panels) none)))

-- one that shows no matched styles, of a front end that stands
pub show-tells : {P : Type 0} {g : Ghosts P} (second : Bool) (form : LineForm) (result : Result (Unit {0}) Stop) (number : ℕ)
    (old mid : Moment (TwoFronts P g)) (sink0 sink1 link0 link1 : ℕ)
    → ((panels : List (Option PanelKind)) → panel_fault panels form ≡ None) → ((came : ℕ → Bool) → styles_fault came form ≡ None)
    → HasStopCause sink0 sink1 link0 link1 result → is_there second mid.ends.fronts.pair ≡ true
    → KeepsPair {T = Unit {0}} old mid (Ok tt) → PairLineTells (numbered_pair number (line_on second form)) old mid result
show-tells second form result number old mid sink0 sink1 link0 link1 keeps plain cause there follows =
    tells-now {U = Unit {0}} tt result number (line_on second form) old mid follows
    (λ start up0 down0 run.
    closed-tells result sink0 sink1 link0 link1 _
    (ap (λ o. numbered_or number o None)
    (link-show start up0 down0 mid.up mid.down mid.ends run second form start.panels (keeps start.panels) plain
    ∙ ap (λ b. show_fault b None) there)) cause)

-- one that shows matched styles
pub styles-tell : {P : Type 0} {g : Ghosts P} (second : Bool) (ask : ℕ) (found : Option Matched) (result : Result (Unit {0}) Stop)
    (number : ℕ)
    (old mid : Moment (TwoFronts P g))
    → RunTells result (numbered_or number (styles_missing (is_some found)) None) → is_there second mid.ends.fronts.pair ≡ true
    → found ≡ matched_in ask (front_meant second mid.ends.fronts.pair).value.matched
    → KeepsPair {T = Unit {0}} old mid (Ok tt) → PairLineTells (numbered_pair number (line_on second (show_styles ask))) old mid result
styles-tell second ask found result number old mid tells there is follows =
    tells-now {U = Unit {0}} tt result number (line_on second (show_styles ask)) old mid follows
    (λ start up0 down0 run.
    subst (λ o. RunTells result (numbered_or number o None))
    (ap (λ x. styles_missing (is_some x)) is
    ∙ sym (link-styles start up0 down0 mid.up mid.down mid.ends run second ask start.panels there)) tells)

-- ---- calls, one after the other

-- a call, and then another
pub keeps-then : {P : Type 0} {g : Ghosts P} {T U : Type 0} (value : U) (result : Result T Stop) (old mid new : Moment (TwoFronts P g))
    → KeepsPair {T = U} old mid (Ok value) → KeepsPair mid new result → KeepsPair old new result
keeps-then value result old mid new first then = λ start up0 down0 run. then start up0 down0 (first start up0 down0 run).0

-- nothing was done
pub keeps-still : {P : Type 0} {g : Ghosts P} (old : Moment (TwoFronts P g)) → KeepsPair {T = Unit {0}} old old (Ok tt)
keeps-still old = λ start up0 down0 run. (run, run-well start up0 down0 old.up old.down old.ends run)

-- ---- attaches and detaches

-- which session stands, over every link
attach-fault : {P : Type 0} {g : Ghosts P} (start : PairStarted) (up0 down0 up down : Pipe) (e : TwoFronts P g)
    (panels : List (Option PanelKind))
    → FollowsPairRun start up0 down0 up down e
    → fault_at (moment_of up0 down0 up down) panels attach_session
    ≡ first_of (cond (is_there true e.fronts.pair) (Some BadSession) None) None
attach-fault start up0 down0 up down e panels run =
    ap (λ b. first_of (cond b (Some BadSession) None) None) (link-session start up0 down0 up down e run panels)

detach-fault : {P : Type 0} {g : Ghosts P} (start : PairStarted) (up0 down0 up down : Pipe) (e : TwoFronts P g)
    (panels : List (Option PanelKind))
    → FollowsPairRun start up0 down0 up down e
    → fault_at (moment_of up0 down0 up down) panels detach_session
    ≡ first_of (cond (is_there true e.fronts.pair) None (Some BadSession)) None
detach-fault start up0 down0 up down e panels run =
    ap (λ b. first_of (cond b None (Some BadSession)) None) (link-session start up0 down0 up down e run panels)

second-ask-fault : {P : Type 0} {g : Ghosts P} (start : PairStarted) (up0 down0 up down : Pipe) (e : TwoFronts P g) (a : AskForm)
    (panels : List (Option PanelKind))
    → FollowsPairRun start up0 down0 up down e
    → fault_at (moment_of up0 down0 up down) panels (of_second (forms.ask a))
    ≡ first_of (cond (is_there true e.fronts.pair) None (Some BadSession)) None
second-ask-fault start up0 down0 up down e a panels run =
    ap (λ b. first_of (cond b None (Some BadSession)) None) (link-session start up0 down0 up down e run panels)

-- a line that is refused for its session, at the last moment
module _ {P : Type 0} {g : Ghosts P} (stop : Stop) (number : ℕ) (old mid : Moment (TwoFronts P g)) (is : stop ≡ Line number BadSession)
    (follows : KeepsPair {T = Unit {0}} old mid (Ok tt)) where
  refused-tells : (form : PairForm)
      → ((start : PairStarted) (up0 down0 : Pipe) → FollowsPairRun start up0 down0 mid.up mid.down mid.ends
      → fault_at (moment_of up0 down0 mid.up mid.down) start.panels form ≡ Some BadSession)
      → PairLineTells {T = Unit {0}} (numbered_pair number form) old mid (Err stop)
  refused-tells form bad =
      tells-now {T = Unit {0}} {U = Unit {0}} tt (Err stop) number form old mid follows
      (λ start up0 down0 run.
      subst
      (λ s. RunTells {T = Unit {0}} (Err s) (numbered_or number (fault_at (moment_of up0 down0 mid.up mid.down) start.panels form) None))
      (sym is) (ap (λ o. numbered_or number o None) (bad start up0 down0 run)))

  pub attach-refused-tells : is_there true mid.ends.fronts.pair ≡ true
      → PairLineTells {T = Unit {0}} (numbered_pair number attach_session) old mid (Err stop)
  attach-refused-tells there =
      refused-tells attach_session
      (λ start up0 down0 run.
      attach-fault start up0 down0 mid.up mid.down mid.ends start.panels run
      ∙ ap (λ b. first_of (cond b (Some BadSession) None) None) there)

  pub detach-refused-tells : is_there true mid.ends.fronts.pair ≡ false
      → PairLineTells {T = Unit {0}} (numbered_pair number detach_session) old mid (Err stop)
  detach-refused-tells there =
      refused-tells detach_session
      (λ start up0 down0 run.
      detach-fault start up0 down0 mid.up mid.down mid.ends start.panels run
      ∙ ap (λ b. first_of (cond b None (Some BadSession)) None) there)

  pub ask-refused-tells : (a : AskForm) → is_there true mid.ends.fronts.pair ≡ false
      → PairLineTells {T = Unit {0}} (numbered_pair number (of_second (forms.ask a))) old mid (Err stop)
  ask-refused-tells a there =
      refused-tells (of_second (forms.ask a))
      (λ start up0 down0 run.
      second-ask-fault start up0 down0 mid.up mid.down mid.ends a start.panels run
      ∙ ap (λ b. first_of (cond b None (Some BadSession)) None) there)

-- one that is carried out
module _ {P : Type 0} {g : Ghosts P} (number : ℕ) (old mid new : Moment (TwoFronts P g)) (first : KeepsPair {T = Unit {0}} old mid (Ok tt))
    (then : KeepsPair {T = Unit {0}} mid new (Ok tt)) where
  pub attach-tells : is_there true mid.ends.fronts.pair ≡ false
      → PairLineTells {T = Unit {0}} (numbered_pair number attach_session) old new (Ok tt)
  attach-tells there =
      tells-amid number attach_session old mid new first then
      (λ start up0 down0 run.
      attach-fault start up0 down0 mid.up mid.down mid.ends start.panels run
      ∙ ap (λ b. first_of (cond b (Some BadSession) None) None) there)

  pub detach-tells : is_there true mid.ends.fronts.pair ≡ true
      → PairLineTells {T = Unit {0}} (numbered_pair number detach_session) old new (Ok tt)
  detach-tells there =
      tells-amid number detach_session old mid new first then
      (λ start up0 down0 run.
      detach-fault start up0 down0 mid.up mid.down mid.ends start.panels run
      ∙ ap (λ b. first_of (cond b None (Some BadSession)) None) there)

  pub ask-tells : (a : AskForm) → is_there true mid.ends.fronts.pair ≡ true
      → PairLineTells {T = Unit {0}} (numbered_pair number (of_second (forms.ask a))) old new (Ok tt)
  ask-tells a there =
      tells-amid number (of_second (forms.ask a)) old mid new first then
      (λ start up0 down0 run.
      second-ask-fault start up0 down0 mid.up mid.down mid.ends a start.panels run
      ∙ ap (λ b. first_of (cond b None (Some BadSession)) None) there)

-- an ask of a second front end that stands, however it came through
pub ask-judged : {P : Type 0} {g : Ghosts P} (result : Result (Unit {0}) Stop) (number : ℕ) (old new : Moment (TwoFronts P g))
    (sink0 sink1 link0 link1 : ℕ) (a : AskForm) → HasStopCause sink0 sink1 link0 link1 result → KeepsPair old new result
    → is_there true old.ends.fronts.pair ≡ true → PairLineTells (numbered_pair number (of_second (forms.ask a))) old new result
ask-judged (Ok value) number old new sink0 sink1 link0 link1 a cause keeps there =
    ask-tells number old old new (keeps-still old) keeps a there
ask-judged (Err stop) number old new sink0 sink1 link0 link1 a cause keeps there =
    tells-not stop number (of_second (forms.ask a)) old new sink0 sink1 link0 link1 cause

-- a detach that was sent, however the settle after it came through
pub detach-judged : {P : Type 0} {g : Ghosts P} (result : Result (Unit {0}) Stop) (number : ℕ) (old mid mid2 new : Moment (TwoFronts P g))
    (sink0 sink1 link0 link1 : ℕ) → HasStopCause sink0 sink1 link0 link1 result → KeepsPair {T = Unit {0}} old mid (Ok tt)
    → KeepsPair {T = Unit {0}} mid mid2 (Ok tt) → KeepsPair mid2 new result
    → is_there true mid.ends.fronts.pair ≡ true → PairLineTells (numbered_pair number detach_session) old new result
detach-judged (Ok value) number old mid mid2 new sink0 sink1 link0 link1 cause first sent then there =
    detach-tells number old mid new first (keeps-then {T = Unit {0}} {U = Unit {0}} (tt {0}) (Ok (tt {0})) mid mid2 new sent then) there
detach-judged (Err stop) number old mid mid2 new sink0 sink1 link0 link1 cause first sent then there =
    tells-not stop number detach_session old new sink0 sink1 link0 link1 cause
