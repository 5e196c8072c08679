-- Why a line in form is refused, by what it meets: over every link, and in the run of the script.
use Rattle.std.proofs.Common.{◌≡◌, ℕ, List, [], ◌∷◌, ◌++◌, Bool, true, false, cond, is_some, Option, Some, None, option_map, refl, sym}
use Rattle.std.proofs.Common.{◌∙◌, ap}
use Rattle.std.proofs.Common.{codes, append_assoc, append-nil, Result, Ok, Err}
use Rattle.std.specs.Result.{OnOk}
use Rattle.front_mirror.specs.declared.panels.Panel.{Ghosts}
use Rattle.front_mirror.specs.declared.panels.PanelKind.{PanelKind}
use Rattle.front_mirror.specs.declared.faults.FrontFault.{FrontFault}
use Rattle.front_mirror.specs.declared.replies.Ask.{Ask}
use Rattle.front_mirror.specs.Front.{FrontState, matched_in}
use Rattle.pipe_frames.specs.Pipe.{Pipe}
use Rattle.node_tree.specs.Keys.{first_of}
use Rattle.replay_script.specs.Forms.{LineForm, show_styles}
use Rattle.replay_script.specs.Script.{numbered_or, panel_fault, styles_missing, styles_fault}
use Rattle.replay_script.specs.PairLines.{PairForm, Met, pair_want_fault}
use Rattle.replay_script.specs.declared.faults.LineFault.{LineFault}
use Rattle.replay_script.specs.declared.faults.LineFault.TheVariants.{BadSession}
use Rattle.session_runs.specs.Pairs.{Second, SessionAsks}
use Rattle.multi_replay.specs.States.{StatePair, is_there, front_meant}
use Rattle.multi_replay.specs.Laws.{pair_value, second_value}
use Rattle.pair_world.specs.PairLinks.{LinkMoment, PairStarted, pair_started, one_pair_line_more, second_in, pair_came_styles, met_by}
use Rattle.pair_world.specs.PairFresh.{FrontValues}
use Rattle.pair_world.specs.PairScripts.{heading_on}
use Rattle.replay_parts.specs.declared.stop.Stop.{Stop}
use Rattle.replay_parts.specs.Moments.{Moment}
use Rattle.replay_parts.specs.Says.{says_of}
use Rattle.replay_parts.specs.Stops.{HasStopCause}
use Rattle.replay_parts.specs.Answers.{RunTells}
use Rattle.pair_replay.specs.declared.two_fronts.TwoFronts.{TwoFronts}
use Rattle.pair_replay.specs.PairStarts.{line_on}
use Rattle.pair_replay.specs.PairAnswers.{pair_since, moment_of}
use Rattle.pair_replay.specs.Judged.{fault_at}
use Rattle.pair_replay.specs.Following.{FollowsPairRun, KeepsPair, LineJudged, PairLineTells, numbered_pair}
use Rattle.pair_replay.proofs.PairFollows.{later-still, run-fold, run-later, run-here, run-fewer}
use Rattle.replay_parts.proofs.StopLemmas.{at-end, part-not-ended}

-- ---- a show of a front end

-- whether the front end that is meant stands, by whether a second does
abbrev pub there_on : Bool → Bool → Bool
there_on false stands = true
there_on true stands = stands

-- of which asks the matched styles came to it
abbrev pub came_to : {K : Type 0} → Bool → Met K → ℕ → Bool
came_to false met = met.first_came
came_to true met = met.second_came

-- the fault of a show, by whether the front end stands
abbrev pub show_fault : Bool → Option LineFault → Option LineFault
show_fault there fault = cond there fault (Some BadSession)

stands-or : (stands : Bool) (fault : Option LineFault) → first_of (cond stands None (Some BadSession)) fault ≡ show_fault stands fault
stands-or true fault = refl
stands-or false fault = refl

-- a show is refused where the front end does not stand, or shows matched styles that did not come
pub show-want : {K : Type 0} (met : Met K) (second : Bool) (form : LineForm) → panel_fault met.panels form ≡ None
    → pair_want_fault met (line_on second form) ≡ show_fault (there_on second met.stands) (styles_fault (came_to second met) form)
show-want met false form keeps = ap (λ o. first_of o (styles_fault met.first_came form)) keeps
show-want met true form keeps = stands-or met.stands (styles_fault met.second_came form)

some-mapped : {A B : Type 0} (f : A → B) (o : Option A) → is_some (option_map f o) ≡ is_some o
some-mapped f None = refl
some-mapped f (Some x) = refl

-- ---- over every link

-- a second front end stands in the fold just where it stands
pub there-in : (second : Bool) (asked : List (SessionAsks Ask (List ℕ))) (p : StatePair)
    → there_on second (second_in (Ok (pair_value asked p))) ≡ is_there second p
there-in false asked p = refl
there-in true asked p = some-mapped second_value p.two

-- the matched styles that came, by the fold, are those that the front end has kept
pub came-in : (second : Bool) (asked : List (SessionAsks Ask (List ℕ))) (p : StatePair) (ask : ℕ) → is_there second p ≡ true
    → pair_came_styles second (Ok (pair_value asked p)) ask ≡ is_some (matched_in ask (front_meant second p).value.matched)
came-in false asked p ask there = refl
came-in true asked p ask there = by p.two there where
  by : (two : Option (Second FrontState (List ℕ))) → is_some two ≡ true
      → pair_came_styles true (Ok (pair_value asked (record p { two = two }))) ask
      ≡ is_some (matched_in ask (front_meant true (record p { two = two })).value.matched)
  by None there = absurd cc
  by (Some w) there = refl

came-by : {K : Type 0} (second : Bool) (fold : Result FrontValues FrontFault) (panels : List (Option K)) (ask : ℕ)
    → came_to second (met_by fold panels) ask ≡ pair_came_styles second fold ask
came-by false fold panels ask = refl
came-by true fold panels ask = refl

-- ---- a line that is judged at the last moment

module _ {P : Type 0} {g : Ghosts P} (start : PairStarted) (up0 down0 up down : Pipe) (e : TwoFronts P g)
    (run : FollowsPairRun start up0 down0 up down e) where
  -- a show of a front end that shows no matched styles
  pub link-show : (second : Bool) (form : LineForm) (panels : List (Option PanelKind)) → panel_fault panels form ≡ None
      → ((came : ℕ → Bool) → styles_fault came form ≡ None)
      → fault_at (moment_of up0 down0 up down) panels (line_on second form) ≡ show_fault (is_there second e.fronts.pair) None
  link-show second form panels keeps plain =
      let fold = (pair_since up0 down0 up down).fold in
      let met = met_by fold panels in
      show-want met second form keeps
      ∙ ap (show_fault (there_on second met.stands)) (plain (came_to second met))
      ∙ ap (λ r. show_fault (there_on second (second_in r)) None) (run-fold start up0 down0 up down e run)
      ∙ ap (λ b. show_fault b None) (there-in second run.so_far.fronts_are.asked e.fronts.pair)

  -- where it does not stand, any show is refused
  pub link-none : (second : Bool) (form : LineForm) (panels : List (Option PanelKind)) → panel_fault panels form ≡ None
      → is_there second e.fronts.pair ≡ false
      → fault_at (moment_of up0 down0 up down) panels (line_on second form) ≡ Some BadSession
  link-none second form panels keeps none =
      let fold = (pair_since up0 down0 up down).fold in
      let met = met_by fold panels in
      show-want met second form keeps
      ∙ ap (λ r. show_fault (there_on second (second_in r)) (styles_fault (came_to second met) form))
      (run-fold start up0 down0 up down e run)
      ∙ ap (λ b. show_fault b (styles_fault (came_to second met) form))
      (there-in second run.so_far.fronts_are.asked e.fronts.pair ∙ none)

  -- a show of matched styles
  pub link-styles : (second : Bool) (ask : ℕ) (panels : List (Option PanelKind)) → is_there second e.fronts.pair ≡ true
      → fault_at (moment_of up0 down0 up down) panels (line_on second (show_styles ask))
      ≡ styles_missing (is_some (matched_in ask (front_meant second e.fronts.pair).value.matched))
  link-styles second ask panels there =
      let fold = (pair_since up0 down0 up down).fold in
      let met = met_by fold panels in
      show-want met second (show_styles ask) refl
      ∙ ap (λ r. show_fault (there_on second (second_in r)) (styles_missing (came_to second met ask)))
      (run-fold start up0 down0 up down e run)
      ∙ ap (λ b. show_fault b (styles_missing (came_to second met ask)))
      (there-in second run.so_far.fronts_are.asked e.fronts.pair ∙ there)
      ∙ ap styles_missing (came-by second fold panels ask ∙ ap (λ r. pair_came_styles second r ask) (run-fold start up0 down0 up down e run)
      ∙ came-in second run.so_far.fronts_are.asked e.fronts.pair ask there)

  -- whether a session stands
  pub link-session : (panels : List (Option PanelKind)) → (met_by (pair_since up0 down0 up down).fold panels).stands
      ≡ is_there true e.fronts.pair
  link-session panels =
      ap second_in (run-fold start up0 down0 up down e run) ∙ some-mapped second_value e.fronts.pair.two

-- A call after which nothing more goes over the link: the line is judged by what came.
pub judged-after : {P : Type 0} {g : Ghosts P} {T : Type 0} (result : Result T Stop) (number : ℕ) (form : PairForm)
    (old mid : Moment (TwoFronts P g))
    → ((start : PairStarted) (up0 down0 : Pipe) → FollowsPairRun (one_pair_line_more start) up0 down0 old.up old.down old.ends
    → FollowsPairRun start up0 down0 mid.up mid.down mid.ends)
    → ((start : PairStarted) (up0 down0 : Pipe) → FollowsPairRun start up0 down0 mid.up mid.down mid.ends
    → RunTells result (numbered_or number (fault_at (moment_of up0 down0 mid.up mid.down) start.panels form) None))
    → PairLineTells (numbered_pair number form) old mid result
judged-after result number form old mid keeps tells = λ start up0 down0 run.
    let before = moment_of up0 down0 old.up old.down in
    let begun = pair_started start.pair start.lines start.panels before in
    let after = keeps begun up0 down0 (run-here (one_pair_line_more start) up0 down0 old.up old.down old.ends run) in
    let last = moment_of up0 down0 mid.up mid.down in
    at-end (says_of result).phase
    (LineJudged (moment_of up0 down0 old.up old.down) (moment_of up0 down0 mid.up mid.down) start.panels number form result)
    (record {
      moment = last;
      from = run-later begun up0 down0 mid.up mid.down mid.ends after;
      until = later-still last;
      tells = tells begun up0 down0 after;
      last = λ some. refl;
    })

-- the same of a call that makes no step of the script
pub tells-now : {P : Type 0} {g : Ghosts P} {T U : Type 0} (value : U) (result : Result T Stop) (number : ℕ) (form : PairForm)
    (old mid : Moment (TwoFronts P g))
    → KeepsPair {T = U} old mid (Ok value)
    → ((start : PairStarted) (up0 down0 : Pipe) → FollowsPairRun start up0 down0 mid.up mid.down mid.ends
    → RunTells result (numbered_or number (fault_at (moment_of up0 down0 mid.up mid.down) start.panels form) None))
    → PairLineTells (numbered_pair number form) old mid result
tells-now value result number form old mid keeps tells =
    judged-after result number form old mid
    (λ start up0 down0 run. (keeps start up0 down0 (run-fewer start up0 down0 old.up old.down old.ends run)).0) tells

-- a line that was judged good at a moment amid it
pub tells-amid : {P : Type 0} {g : Ghosts P} (number : ℕ) (form : PairForm) (old mid new : Moment (TwoFronts P g))
    → KeepsPair {T = Unit {0}} old mid (Ok tt) → KeepsPair {T = Unit {0}} mid new (Ok tt)
    → ((start : PairStarted) (up0 down0 : Pipe) → FollowsPairRun start up0 down0 mid.up mid.down mid.ends
    → fault_at (moment_of up0 down0 mid.up mid.down) start.panels form ≡ None)
    → PairLineTells {T = Unit {0}} (numbered_pair number form) old new (Ok tt)
tells-amid number form old mid new first then good = λ start up0 down0 run.
    let before = moment_of up0 down0 old.up old.down in
    let m = moment_of up0 down0 mid.up mid.down in
    let begun = pair_started start.pair start.lines start.panels before in
    let a = (first begun up0 down0 (run-here start up0 down0 old.up old.down old.ends
    (run-fewer start up0 down0 old.up old.down old.ends run))).0 in
    let b = (then (pair_started start.pair start.lines start.panels m) up0 down0
    (run-here begun up0 down0 mid.up mid.down mid.ends a)).0 in
    let none = good begun up0 down0 a in
    record {
      moment = m;
      from = run-later begun up0 down0 mid.up mid.down mid.ends a;
      until = run-later (pair_started start.pair start.lines start.panels m) up0 down0 new.up new.down new.ends b;
      tells = ap (λ o. numbered_or number o None) none;
      last = λ some. absurd (some none);
    }

-- a call that says nothing of lines, on one that lacks nothing
pub call-tells : {P : Type 0} {g : Ghosts P} (result : Result (Unit {0}) Stop) (number : ℕ) (form : PairForm)
    (old new : Moment (TwoFronts P g))
    (sink0 sink1 link0 link1 : ℕ)
    → ((m : LinkMoment) (panels : List (Option PanelKind)) → fault_at m panels form ≡ None) → HasStopCause sink0 sink1 link0 link1 result
    → ((start : PairStarted) (up0 down0 : Pipe) → FollowsPairRun (one_pair_line_more start) up0 down0 old.up old.down old.ends
    → OnOk result (FollowsPairRun start up0 down0 new.up new.down new.ends))
    → PairLineTells (numbered_pair number form) old new result
call-tells (Ok value) number form old new sink0 sink1 link0 link1 good cause keeps =
    judged-after (Ok value) number form old new keeps
    (λ start up0 down0 run. ap (λ o. numbered_or number o None) (good (moment_of up0 down0 new.up new.down) start.panels))
call-tells (Err stop) number form old new sink0 sink1 link0 link1 good cause keeps = λ start up0 down0 run.
    part-not-ended stop sink0 sink1 link0 link1
    (LineJudged {T = Unit {0}} (moment_of up0 down0 old.up old.down) (moment_of up0 down0 new.up new.down) start.panels number form
    (Err stop))
    cause

-- a stop amid a run says nothing of lines
pub tells-not : {P : Type 0} {g : Ghosts P} (stop : Stop) (number : ℕ) (form : PairForm) (old mid : Moment (TwoFronts P g))
    (sink0 sink1 link0 link1 : ℕ)
    → HasStopCause {T = Unit {0}} sink0 sink1 link0 link1 (Err stop)
    → PairLineTells {T = Unit {0}} (numbered_pair number form) old mid (Err stop)
tells-not stop number form old mid sink0 sink1 link0 link1 cause = λ start up0 down0 run.
    part-not-ended stop sink0 sink1 link0 link1
    (LineJudged {T = Unit {0}} (moment_of up0 down0 old.up old.down) (moment_of up0 down0 mid.up mid.down) start.panels number form
    (Err stop))
    cause

-- ---- headings

-- a heading, and what stands under it
pub heading-text : (second : Bool) (words words_two text : List ℕ) → words_two ≡ words ++ codes " 2"
    → cond second words_two words ++ 10 ∷ text ≡ heading_on second words ++ text
heading-text false words words_two text is =
    ap (λ ws. ws ++ 10 ∷ text) (sym (append-nil words)) ∙ sym (append_assoc (words ++ []) (10 ∷ []) text)
heading-text true words words_two text is =
    ap (λ ws. ws ++ 10 ∷ text) is ∙ sym (append_assoc (words ++ codes " 2") (10 ∷ []) text)
