-- Over an honest link both runs go on over a line that sends a frame, makes a step, delivers bytes, or attaches and detaches a session.
use Rattle.std.proofs.Common.{◌≡◌, ℕ, ◌+◌, ◌≤◌, List, [], ◌∷◌, ◌++◌, Bool, true, false, cond, is_some, Option, Some, None}
use Rattle.std.proofs.Common.{option_and_then, codes, refl, sym, ◌∙◌, ap, subst, arith, Result, Ok, Err}
use Rattle.std.specs.Prelude.{⊤}
use Rattle.std.specs.Result.{OnOk, OnErr}
use Rattle.std.specs.Io.KnownBytes.{Appends}
use Rattle.front_mirror.specs.declared.panels.Panel.{Ghosts}
use Rattle.front_mirror.specs.Outline.{outline_text}
use Rattle.pipe_frames.specs.Pipe.{Pipe}
use Rattle.pipe_frames.specs.Frames.{IsText}
use Rattle.pipe_frames.specs.Whole.{WrotePart}
use Rattle.pipe_frames.proofs.WholeLemmas.{Appends-nil}
use Rattle.node_tree.specs.Nodes.{alone}
use Rattle.page_tree.specs.Pages.{PageValue}
use Rattle.page_forms.specs.declared.acts.Act.{Act}
use Rattle.cdp_messages.specs.Asked.{json_of, command_text}
use Rattle.replay_script.specs.Forms as forms
use Rattle.replay_script.specs.Forms.{AskForm, show_page}
use Rattle.replay_script.specs.Script.{numbered_or}
use Rattle.node_tree.specs.Keys.{first_of}
use Rattle.page_forms.specs.Pages.{LoadedPage}
use Rattle.replay_script.specs.Sound.{CanSend, IsSoundFrame}
use Rattle.serde_json.specs.Find.{get_member, as_str, as_object}
use Rattle.cdp_json.specs.Kinds.{as_whole}
use Rattle.replay_script.specs.PairLines.{PairForm, of_first, of_second}
use Rattle.replay_script.specs.declared.faults.LineFault.{LineFault}
use Rattle.replay_script.specs.declared.faults.LineFault.TheVariants.{BadSession}
use Rattle.session_runs.specs.World.{sent_up}
use Rattle.back_end.specs.declared.faults.ActFault.{ActFault}
use Rattle.back_end.specs.States.{book_in}
use Rattle.back_end.specs.Steps.{acts, loads}
use Rattle.back_end.specs.Laws.{IsTurn}
use Rattle.back_end.specs.Plans.{act_fault}
use Rattle.multi_replay.specs.States.{is_there}
use Rattle.inspect_world.specs.ActTexts.{act_text}
use Rattle.inspect_world.specs.Costs.{least_line}
use Rattle.inspect_world.specs.Fits.{ask_by, IsBare}
use Rattle.inspect_world.specs.Scripts.{page_line}
use Rattle.pair_world.specs.PairFits.{PageSessions}
use Rattle.pair_world.specs.PairRuns.{PairPlainlySpent, PairAudience, PairRun, pair_plainly, none_more, one_ask_on}
use Rattle.pair_world.specs.PairRuns.{state_on}
use Rattle.pair_world.specs.PairScripts.{deeds, session_on, pair_telling, after_pair_line, pair_line_text, pair_lacking}
use Rattle.pair_world.specs.PairFresh.{fresh_pair_line, PairTogether, DeedsHaveRoom, line_or}
use Rattle.pair_world.specs.PairHeld.{calm}
use Rattle.pair_world.proofs.PairScriptLemmas.{no-ask-by}
use Rattle.pair_world.proofs.FetchLines.{ask-left}
use Rattle.replay_parts.specs.declared.stop.Stop.{Stop}
use Rattle.replay_parts.specs.declared.stop.Stop.TheVariants.{Line}
use Rattle.replay_parts.specs.Moments.{Moment, scene}
use Rattle.replay_parts.specs.Stops.{HasStopCause, GoesWell}
use Rattle.replay_parts.specs.Answers.{RunTells}
use Rattle.pair_replay.specs.declared.two_fronts.TwoFronts.{TwoFronts}
use Rattle.pair_replay.specs.PairStarts.{may_ask_on}
use Rattle.pair_replay.specs.PairAnswers.{PairRunTook, RoomTold}
use Rattle.pair_replay.specs.Running.{InPairRun, InPairPlay, Aim, PairSteps, sends_up, sending_ask, turns_page, delivers_up, delivers_down}
use Rattle.pair_replay.specs.Running.{refreshing, IsPlainOfPair}
use Rattle.pair_replay.specs.Playing.{PairCarries, numbered_pair, text_unless}
use Rattle.pair_replay.proofs.PairTheory.{left-fetches, together-fewer, settled-both}
use Rattle.pair_replay.proofs.PairTheory.{left-fewer, MayGo, ask-goes, raw-goes, sent-together, turned-together, up-together, down-together}
use Rattle.pair_replay.proofs.StopLemmas.{part-took, prints-took, room-stops, room-there}
use Rattle.pair_replay.proofs.TellingLemmas.{refresh-telling, room-telling}
use Rattle.pair_replay.proofs.LineRuns.{play-stands}
use Rattle.replay_parts.proofs.StopLemmas.{wrote-none, part-tells, closed-tells, after-ok}

-- ---- a line that is one call

-- How a line is one call that aims there: it prints nothing of its own, and leaves what was told.
pub record PassesAs (form : PairForm) (aim : Aim) : Type 0 where
  -- both runs go on together
  pub together : (more : ℕ) (w v : PairRun) → pair_lacking form w ≡ None → PairTogether IsPlainOfPair (more + least_line) w v
      → aim.room (pair_telling w.told v)
      → PairTogether IsPlainOfPair more (after_pair_line form w) (fresh_pair_line form v)
  pub told : (w : PairRun) → (after_pair_line form w).told ≡ w.told
  -- the call may be made, and leads where the line does
  pub may : (v : PairRun) → aim.may calm v
  pub mode : aim.mode calm ≡ calm
  pub goes : (told : PairAudience) (v : PairRun) → aim.to (pair_telling told v) ≡ pair_telling told (fresh_pair_line form v)
  -- it needs the room of the line
  pub room : (told : PairAudience) (v : PairRun) → aim.room (pair_telling told v) → DeedsHaveRoom (deeds form v) v
  pub roomy : (told : PairAudience) (v : PairRun) → DeedsHaveRoom (deeds form v) v → aim.room (pair_telling told v)

module _ {P : Type 0} {g : Ghosts P} (form : PairForm) (aim : Aim) (passes : PassesAs form aim) (bytes : ℕ) (few : bytes ≤ least_line)
    (old new : Moment (TwoFronts P g)) where
  -- where the call came through
  pub passes-play : {T : Type 0} (value : T) → PairSteps bytes old new (Ok value) aim
      → (up0 down0 : Pipe) (more : ℕ) (w v : PairRun) → pair_lacking form w ≡ None
      → InPairPlay old.honest up0 down0 old.up old.down (more + least_line) w v old.ends
      → InPairPlay new.honest up0 down0 new.up new.down more (after_pair_line form w) (fresh_pair_line form v) new.ends
      × DeedsHaveRoom (deeds form v) v
  passes-play value steps up0 down0 more w v lacks play =
      let u = pair_telling w.told v in
      let done = steps calm up0 down0 u (left-fewer v.spent bytes (more + least_line) (omega (arith, few)) play.both.left) (passes.may u)
      play.in_run in (
        record {
          both = passes.together more w v lacks play.both done.0;
          in_run =
              subst (λ t. InPairRun calm new.honest up0 down0 new.up new.down (pair_telling t (fresh_pair_line form v)) new.ends)
              (sym (passes.told w))
              (subst (λ x. InPairRun calm new.honest up0 down0 new.up new.down x new.ends) (passes.goes w.told v)
              (subst (λ m. InPairRun m new.honest up0 down0 new.up new.down (aim.to u) new.ends) passes.mode done.1));
        },
        passes.room w.told v done.0,
      )

  -- or did not
  pub passes-stop : (T : Type 0) (stop : Stop) (taken : Option (List ℕ)) (number sink0 sink1 link0 link1 : ℕ)
      → HasStopCause {T = Unit {0}} sink0 sink1 link0 link1 (Err stop) → PairSteps {T = T} bytes old new (Err stop) aim
      → (up0 down0 : Pipe) (more : ℕ) (w v : PairRun) → pair_lacking form w ≡ None
      → InPairPlay old.honest up0 down0 old.up old.down (more + least_line) w v old.ends
      → PairRunTook {T = Unit {0}} (Err stop) taken taken (text_unless (pair_lacking form w) (pair_line_text number form w))
      × RunTells {T = Unit {0}} (Err stop) (numbered_or number (pair_lacking form w) None)
      × RoomTold {T = Unit {0}} (Err stop) (line_or (pair_lacking form w) form v ⊤)
  passes-stop T stop taken number sink0 sink1 link0 link1 cause steps up0 down0 more w v lacks play =
      let u = pair_telling w.told v in
      let done = steps calm up0 down0 u (left-fewer v.spent bytes (more + least_line) (omega (arith, few)) play.both.left) (passes.may u)
      play.in_run in
      let text = text_unless (pair_lacking form w) (pair_line_text number form w) in (
        part-took stop sink0 sink1 link0 link1 (aim.room u) taken taken text cause done.0 (wrote-none taken text),
        part-tells stop sink0 sink1 link0 link1 (numbered_or number (pair_lacking form w) None) cause,
        subst (λ o. RoomTold {T = Unit {0}} (Err stop) (line_or o form v ⊤)) (sym lacks)
            (room-stops stop sink0 sink1 link0 link1 (aim.room u) (line_or None form v ⊤) cause
            (λ room. passes.roomy w.told v room.0) done.0),
      )

  -- a line that prints nothing
  pub passes-carry : (result : Result (Unit {0}) Stop) (taken : Option (List ℕ)) (number sink0 sink1 link0 link1 : ℕ)
      → HasStopCause sink0 sink1 link0 link1 result → PairSteps bytes old new result aim
      → ((w : PairRun) → pair_line_text number form w ≡ [])
      → (up0 down0 : Pipe) (more : ℕ) (w v : PairRun) → pair_lacking form w ≡ None
      → InPairPlay old.honest up0 down0 old.up old.down (more + least_line) w v old.ends
      → OnOk result (InPairPlay new.honest up0 down0 new.up new.down more (after_pair_line form w) (fresh_pair_line form v) new.ends)
      × PairRunTook result taken taken (text_unless (pair_lacking form w) (pair_line_text number form w))
      × RunTells result (numbered_or number (pair_lacking form w) None)
      × RoomTold result (line_or (pair_lacking form w) form v ⊤)
  passes-carry (Ok value) taken number sink0 sink1 link0 link1 cause steps silent up0 down0 more w v lacks play =
      let all = passes-play value steps up0 down0 more w v lacks play in (
        all.0,
        subst (λ o. Appends taken taken (text_unless o (pair_line_text number form w))) (sym lacks)
            (subst (λ t. Appends taken taken t) (sym (silent w)) (Appends-nil taken)),
        ap (λ o. numbered_or number o None) lacks,
        subst (λ o. line_or o form v ⊤) (sym lacks) (all.1, tt),
      )
  passes-carry (Err stop) taken number sink0 sink1 link0 link1 cause steps silent up0 down0 more w v lacks play =
      let all = passes-stop (Unit {0}) stop taken number sink0 sink1 link0 link1 cause steps up0 down0 more w v lacks play in
      (tt, all.0, all.1, all.2)

  -- the same as a contract has it
  pub line-carries : (result : Result (Unit {0}) Stop) (taken : Option (List ℕ)) (number sink0 sink1 link0 link1 : ℕ)
      → HasStopCause sink0 sink1 link0 link1 result → PairSteps bytes old new result aim
      → ((w : PairRun) → pair_line_text number form w ≡ []) → ((w : PairRun) → pair_lacking form w ≡ None)
      → PairCarries (numbered_pair number form) (scene old taken) (scene new taken) result
  line-carries result taken number sink0 sink1 link0 link1 cause steps silent lacks = λ up0 down0 more w v play.
      passes-carry result taken number sink0 sink1 link0 link1 cause steps silent up0 down0 more w v (lacks w) play

-- ---- which lines are

-- a page is loaded
pub load-passes : (page : LoadedPage) → IsTurn (loads page) → PassesAs (of_first (forms.load page)) (turns_page (loads page))
load-passes page is_turn = record {
  together = λ more w v lacks both room.
      turned-together more (loads page) w v is_turn room (together-fewer more (more + least_line) w v (omega arith) both);
  told = λ w. refl;
  may = λ v. tt;
  mode = refl;
  goes = λ told v. refl;
  room = λ told v room. (room, tt);
  roomy = λ told v room. room.0;
}

-- the page is changed
pub act-passes : (a : Act) → IsTurn (acts a) → PassesAs (of_first (forms.act a)) (turns_page (acts a))
act-passes a is_turn = record {
  together = λ more w v lacks both room.
      turned-together more (acts a) w v is_turn room (together-fewer more (more + least_line) w v (omega arith) both);
  told = λ w. refl;
  may = λ v. tt;
  mode = refl;
  goes = λ told v. refl;
  room = λ told v room. (room, tt);
  roomy = λ told v room. room.0;
}

-- the first front end asks
pub first-ask-passes : (a : AskForm) → CanSend a → may_ask_on false a ≡ true → PassesAs (of_first (forms.ask a)) (sending_ask false a)
first-ask-passes a can may = record {
  together = λ more w v lacks both room.
      let same : pair_plainly w.spent ≡ pair_plainly v.spent = both.runs.agrees.spent in
      let text = command_text (w.spent.asks + 1) a.method a.params None in
      let go : MayGo w.state.attached text = ask-goes false a more w v can may (λ e. absurd cc) both in
      subst (λ t. PairTogether IsPlainOfPair more (sent_up text (one_ask_on false) w) (sent_up t (one_ask_on false) v))
      (ap (λ (n : PairPlainlySpent). command_text (n.asks + 1) a.method a.params None) same)
      (sent-together more (more + least_line) text (one_ask_on false) w v go
      (ap (λ (n : PairPlainlySpent). record n { asks = n.asks + 1 }) same) (ask-left false v.spent more both.left) both);
  told = λ w. refl;
  may = λ v. refl;
  mode = refl;
  goes = λ told v. refl;
  room = λ told v room. (tt, tt);
  roomy = λ told v room. tt;
}

-- a line of the second front end meets it
session-there : (stands : Bool) (fault : Option LineFault) → first_of (cond stands None (Some BadSession)) fault ≡ None → stands ≡ true
session-there true fault e = refl
session-there false fault e = absurd cc

-- the second asks
pub second-ask-passes : (a : AskForm) → CanSend a → may_ask_on true a ≡ true → PassesAs (of_second (forms.ask a)) (sending_ask true a)
second-ask-passes a can may = record {
  together = λ more w v lacks both room.
      let same : pair_plainly w.spent ≡ pair_plainly v.spent = both.runs.agrees.spent in
      let state : w.state ≡ v.state = both.runs.agrees.state in
      let text = command_text (w.spent.second_asks + 1) a.method a.params (session_on true w.state.attached) in
      let go : MayGo w.state.attached text =
      ask-goes true a more w v can may (λ e. session-there (is_some w.state.attached) None lacks) both in
      subst (λ t. PairTogether IsPlainOfPair more (sent_up text (one_ask_on true) w) (sent_up t (one_ask_on true) v))
      (ap (λ (n : PairPlainlySpent). command_text (n.second_asks + 1) a.method a.params (session_on true w.state.attached)) same
      ∙ ap (λ (s : PageSessions). command_text (v.spent.second_asks + 1) a.method a.params (session_on true s.attached)) state)
      (sent-together more (more + least_line) text (one_ask_on true) w v go
      (ap (λ (n : PairPlainlySpent). record n { second_asks = n.second_asks + 1 }) same) (ask-left true v.spent more both.left) both);
  told = λ w. refl;
  may = λ v. refl;
  mode = refl;
  goes = λ told v. refl;
  room = λ told v room. (tt, tt);
  roomy = λ told v room. tt;
}

-- a text is sent that names no ask
pub raw-passes : (text : List ℕ) → IsText text → IsBare text → PassesAs (of_first (forms.raw text)) (sends_up (λ w. text) none_more)
raw-passes text letters bare = record {
  together = λ more w v lacks both room.
      sent-together more (more + least_line) text none_more w v (raw-goes text w.state.attached letters bare) both.runs.agrees.spent
      (left-fewer v.spent more (more + least_line) (omega arith) both.left) both;
  told = λ w. refl;
  may = λ v. refl;
  mode = refl;
  goes = λ told v. refl;
  room = λ told v room. (tt, tt);
  roomy = λ told v room. tt;
}

-- bytes are delivered up
pub up-passes : (n : ℕ) → PassesAs (of_first (forms.up n)) (delivers_up n)
up-passes n = record {
  together = λ more w v lacks both room. up-together more n w v room (together-fewer more (more + least_line) w v (omega arith) both);
  told = λ w. refl;
  may = λ v. tt;
  mode = refl;
  goes = λ told v. refl;
  room = λ told v room. (room, tt);
  roomy = λ told v room. room.0;
}

-- or down
pub down-passes : (n : ℕ) → PassesAs (of_first (forms.down n)) (delivers_down n)
down-passes n = record {
  together = λ more w v lacks both room. down-together more n w v (together-fewer more (more + least_line) w v (omega arith) both);
  told = λ w. refl;
  may = λ v. tt;
  mode = refl;
  goes = λ told v. refl;
  room = λ told v room. (tt, tt);
  roomy = λ told v room. tt;
}

-- all is delivered, and the texts are fetched
pub settle-passes : PassesAs (of_first forms.settle) refreshing
settle-passes = record {
  together = λ more w v lacks both room.
      (settled-both more w v both.runs (left-fewer v.spent more (more + least_line) (omega arith) both.left)
      (left-fetches v.spent (more + 2) (more + least_line) (omega arith) both.left)
      (subst (λ (R : Type 0). R) (room-telling w.told v) room)).both;
  told = λ w. refl;
  may = λ v. tt;
  mode = refl;
  goes = λ told v. refresh-telling told v;
  room = λ told v room. (subst (λ (R : Type 0). R) (room-telling told v) room, tt);
  roomy = λ told v room. subst (λ (R : Type 0). R) (sym (room-telling told v)) room.0;
}

-- ---- lines that print by the page

-- the page and its sheets are those of the run
module _ {P : Type 0} {g : Ghosts P} (honest : Type 0) (up0 down0 up down : Pipe) (bytes : ℕ) (w v : PairRun) (e : TwoFronts P g)
    (play : InPairPlay honest up0 down0 up down bytes w v e) where
  pub page-is : e.side.page ≡ w.state.side.page
  page-is =
      play.in_run.so_far.in_world.stands.root_stands.stands.page_is
      ∙ ap (λ (s : PageSessions). s.side.page) (sym play.both.runs.agrees.state)

  pub sheets-are : e.side.sheets.entries ≡ book_in (state_on false w.state)
  sheets-are =
      play.in_run.so_far.in_world.stands.root_stands.stands.sheets_are
      ∙ ap (λ (s : PageSessions). book_in (state_on false s)) (sym play.both.runs.agrees.state)

-- a change of the page that was made
pub act-carries : {P : Type 0} {g : Ghosts P} (result : Result (Unit {0}) Stop) (fault : Option ActFault) (old mid : Moment (TwoFronts P g))
    (taken taken1 : Option (List ℕ)) (number sink0 sink1 link0 link1 : ℕ) (a : Act)
    → PairSteps {T = Option ActFault} 0 old mid (Ok fault) (turns_page (acts a)) → IsTurn (acts a)
    → fault ≡ act_fault a old.ends.side.page old.ends.side.sheets.entries → HasStopCause sink0 sink1 link0 link1 result → GoesWell result
    → OnOk result (Appends taken taken1 (act_text number fault)) → OnErr result (WrotePart taken taken1 (act_text number fault))
    → PairCarries (numbered_pair number (of_first (forms.act a))) (scene old taken) (scene mid taken1) result
act-carries result fault old mid taken taken1 number sink0 sink1 link0 link1 a steps is_turn is cause well ok
    err = λ up0 down0 more w v play.
    let all = passes-play (of_first (forms.act a)) (turns_page (acts a)) (act-passes a is_turn) 0 (omega arith) old mid fault steps
    up0 down0 more w v refl play in
    let same : fault ≡ act_fault a w.state.side.page (book_in (state_on false w.state)) =
    is
    ∙ ap (λ page. act_fault a page old.ends.side.sheets.entries)
    (page-is old.honest up0 down0 old.up old.down (more + least_line) w v old.ends play)
    ∙ ap (act_fault a w.state.side.page) (sheets-are old.honest up0 down0 old.up old.down (more + least_line) w v old.ends play) in (
      after-ok result all.0,
      subst (λ t. PairRunTook result taken taken1 t) (ap (act_text number) same)
          (prints-took result sink0 sink1 link0 link1 taken taken1 (act_text number fault) cause well ok err),
      closed-tells result sink0 sink1 link0 link1 None refl cause,
      room-there result (line_or None (of_first (forms.act a)) v ⊤) well (all.1, tt),
    )

-- the page itself is printed
pub page-carries : {P : Type 0} {g : Ghosts P} (result : Result (Unit {0}) Stop) (old : Moment (TwoFronts P g))
    (taken taken1 : Option (List ℕ))
    (number sink0 sink1 link0 link1 : ℕ) (page : PageValue)
    → page ≡ old.ends.side.page → HasStopCause sink0 sink1 link0 link1 result → GoesWell result
    → OnOk result (Appends taken taken1 (codes "# page" ++ 10 ∷ outline_text page_line (alone page.tree)))
    → OnErr result (WrotePart taken taken1 (codes "# page" ++ 10 ∷ outline_text page_line (alone page.tree)))
    → PairCarries (numbered_pair number (of_first show_page)) (scene old taken) (scene old taken1) result
page-carries result old taken taken1 number sink0 sink1 link0 link1 page is cause well ok err = λ up0 down0 more w v play.
    let same : page ≡ w.state.side.page = is ∙ page-is old.honest up0 down0 old.up old.down (more + least_line) w v old.ends play in (
      after-ok result (record {
        both = together-fewer more (more + least_line) w v (omega arith) play.both;
        in_run = play.in_run;
      }),
      subst (λ t. PairRunTook result taken taken1 t)
          (ap (λ (p : PageValue). codes "# page" ++ 10 ∷ outline_text page_line (alone p.tree)) same)
          (prints-took result sink0 sink1 link0 link1 taken taken1 (codes "# page" ++ 10 ∷ outline_text page_line (alone page.tree))
          cause well ok err),
      closed-tells result sink0 sink1 link0 link1 None refl cause,
      room-there result (line_or None (of_first show_page) v ⊤) well (tt, tt),
    )

-- ---- a line that is refused at once

-- an ask of a second front end that does not stand
pub ask-refused : {P : Type 0} {g : Ghosts P} (stop : Stop) (old : Moment (TwoFronts P g)) (taken : Option (List ℕ)) (number : ℕ)
    (a : AskForm)
    → stop ≡ Line number BadSession → is_there true old.ends.fronts.pair ≡ false
    → PairCarries {T = Unit {0}} (numbered_pair number (of_second (forms.ask a))) (scene old taken) (scene old taken) (Err stop)
ask-refused stop old taken number a is none =
    subst (λ s. PairCarries {T = Unit {0}} (numbered_pair number (of_second (forms.ask a))) (scene old taken) (scene old taken) (Err s))
    (sym is)
    (λ up0 down0 more w v play.
    let lacks : pair_lacking (of_second (forms.ask a)) w ≡ Some BadSession =
    ap (λ b. first_of (cond b None (Some BadSession)) None)
    (sym (play-stands old.honest up0 down0 old.up old.down (more + least_line) w v old.ends play) ∙ none) in (
      tt,
      subst (λ o. Appends taken taken (text_unless o [])) (sym lacks) (Appends-nil taken),
      ap (λ o. numbered_or number o None) lacks,
      subst (λ o. line_or o (of_second (forms.ask a)) v ⊤) (sym lacks) tt,
    ))

-- an ask of a second front end that stands
pub ask-carries : {P : Type 0} {g : Ghosts P} (result : Result (Unit {0}) Stop) (old new : Moment (TwoFronts P g)) (taken : Option (List ℕ))
    (number sink0 sink1 link0 link1 : ℕ) (a : AskForm)
    → CanSend a → may_ask_on true a ≡ true → HasStopCause sink0 sink1 link0 link1 result
    → PairSteps least_line old new result (sending_ask true a) → is_there true old.ends.fronts.pair ≡ true
    → PairCarries (numbered_pair number (of_second (forms.ask a))) (scene old taken) (scene new taken) result
ask-carries result old new taken number sink0 sink1 link0 link1 a can may cause steps there = λ up0 down0 more w v play.
    passes-carry (of_second (forms.ask a)) (sending_ask true a) (second-ask-passes a can may) least_line (omega arith) old new result taken
    number sink0 sink1 link0 link1 cause steps (λ w. refl) up0 down0 more w v
    (ap (λ b. first_of (cond b None (Some BadSession)) None)
    (sym (play-stands old.honest up0 down0 old.up old.down (more + least_line) w v old.ends play) ∙ there)) play

-- ---- what may be done with a line

-- a text that may be sent as it is names no ask
pub sound-bare : (text : List ℕ) → IsSoundFrame text → IsBare text
sound-bare text s = record {
  no_ask = no-ask-by (λ ms. option_and_then as_whole (get_member (codes "id") ms))
      (λ ms id. option_and_then (λ method. Some (ask_by ms id method)) (option_and_then as_str (get_member (codes "method") ms)))
      (option_and_then as_object (json_of text)) s.no_ask.no_id;
  why = s.no_ask.why;
  refused = s.no_ask.refused false;
}

-- the text that is sent is the line's
pub raw-steps : {P : Type 0} {g : Ghosts P} (result : Result (Unit {0}) Stop) (old new : Moment (TwoFronts P g)) (text text1 : List ℕ)
    → text1 ≡ text
    → PairSteps least_line old new result (sends_up (λ w. text1) none_more)
    → PairSteps least_line old new result (sends_up (λ w. text) none_more)
raw-steps result old new text text1 is steps = subst (λ t. PairSteps least_line old new result (sends_up (λ w. t) none_more)) is steps
