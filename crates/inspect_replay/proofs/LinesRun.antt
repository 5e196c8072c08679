-- The lines of a script are carried out one after the other, up to the first that is refused.
use Rattle.std.proofs.Common.{◌≡◌, ℕ, ◌+◌, ◌≤◌, List, [], ◌∷◌, ◌++◌, length, map, Bool, is_some, Option, Some, None, option_and_then, refl}
use Rattle.std.proofs.Common.{sym, ◌∙◌, ap, subst, arith, append_assoc, append-nil, Result, Ok, Err}
use Rattle.std.specs.Result.{OnOk, OnErr}
use Rattle.std.specs.Io.KnownBytes.{Appends}
use Rattle.front_mirror.specs.declared.panels.Panel.{Ghosts}
use Rattle.pipe_frames.specs.Pipe.{Pipe}
use Rattle.pipe_frames.specs.Whole.{WrotePart}
use Rattle.pipe_frames.proofs.WholeLemmas.{Appends-append, WrotePart-all, WrotePart-longer, WrotePart-after}
use Rattle.node_tree.specs.Keys.{first_of}
use Rattle.css_objects.specs.declared.rules.Matched.{Matched}
use Rattle.replay_script.specs.Forms as forms_of
use Rattle.replay_script.specs.Forms.{LineForm, load, ask, show_front, show_page, show_sheets, show_replies, show_pauses}
use Rattle.replay_script.specs.Forms.{show_panels, show_styles, close, line_form}
use Rattle.replay_script.specs.Faults.{line_fault}
use Rattle.replay_script.specs.Script.{numbered_or, unless_bad, stands_open, panel_missing, panels_left, want_fault, closed_by}
use Rattle.replay_script.specs.Script.{styles_ask, styles_missing, styles_fault, first_refused, refused_of_lines}
use Rattle.replay_script.specs.Script.{script_refused, first_bad, fault_of_lines, good_lines}
use Rattle.replay_script.specs.Lines.{lines_of}
use Rattle.replay_script.specs.declared.faults.LineFault.{LineFault}
use Rattle.replay_script.specs.declared.faults.LineFault.TheVariants.{NotLoad}
use Rattle.replay_script.proofs.ScriptLemmas.{first_bad-good, first_bad-bad, good_lines-good, good_lines-bad}
use Rattle.front_mirror.specs.declared.panels.PanelKind.{PanelKind}
use Rattle.session_runs.specs.World.{settled}
use Rattle.inspect_world.specs.World.{World}
use Rattle.inspect_world.specs.RunStates.{RunState, run_step}
use Rattle.inspect_world.specs.Costs.{line_cost, line_bytes}
use Rattle.inspect_world.specs.Scripts.{after_line, after_lines, line_text, lines_text, closing_text, closing_unless, rest_text, styles_at}
use Rattle.inspect_world.specs.Scripts.{has_styles, styles_shown, lacking, shown_lines, first_lacking, rest_refused, refused_of}
use Rattle.inspect_world.specs.Scripts.{report_refused}
use Rattle.inspect_world.proofs.LineSizes.{line-long}
use Rattle.inspect_world.proofs.Scripts.{left-fewer}
use Rattle.inspect_replay.specs.declared.one_front.OneFront.{OneFront}
use Rattle.replay_parts.specs.declared.stop.Stop.{Stop}
use Rattle.replay_parts.specs.declared.stop.Stop.TheVariants.{Line, TooLong, ReadFault, WriteFault, LinkFault, FrontRefused, NoRoom}
use Rattle.replay_parts.specs.declared.stop.Stop.TheVariants.{Memory}
use Rattle.inspect_replay.specs.Runs.{InPlay}
use Rattle.replay_parts.specs.Moments.{moment, scene}
use Rattle.replay_parts.specs.Stops.{HasStopCause, GoesWell}
use Rattle.replay_parts.specs.Answers.{RunTells, RunTook, Prints}
use Rattle.inspect_replay.specs.Prints.{CarriesOut, CarriesLine, numbered_line, IsRead}
use Rattle.inspect_replay.proofs.RunLemmas.{part-took}
use Rattle.replay_parts.proofs.StopLemmas.{part-tells, closed-tells}

-- ---- a part of a run that prints a text, as an answer of a run

pub prints-took : (result : Result (Unit {0}) Stop) (sink0 sink1 link0 link1 : ℕ) (before after : Option (List ℕ)) (text : List ℕ)
    → HasStopCause sink0 sink1 link0 link1 result → GoesWell result → Prints result before after text → RunTook result before after text
prints-took (Ok value) sink0 sink1 link0 link1 before after text cause well printed = printed
prints-took (Err stop) sink0 sink1 link0 link1 before after text cause well printed = part-took stop sink0 sink1 link0 link1 before after
    text cause well printed

-- a line that drops no panel and shows no matched styles lacks nothing
pub plain-lacking : (there : ℕ → Bool) (panels : List (Option PanelKind)) (form : LineForm) → closed_by form ≡ None
    → styles_ask form ≡ None → want_fault there panels form ≡ None
plain-lacking there panels form keeps none =
    ap (λ o. first_of (option_and_then (λ k. panel_missing (stands_open k panels)) o) (styles_fault there form)) keeps
    ∙ ap (option_and_then (λ k. styles_missing (there k))) none

pub plain-line : {P : Type 0} {g : Ghosts P} (result : Result (Unit {0}) Stop) (honest honest1 : Type 0) (up down up1 down1 : Pipe)
    (taken taken1 : Option (List ℕ))
    (e e1 : OneFront P g) (number : ℕ) (form : LineForm)
    (sink0 sink1 link0 link1 : ℕ) → closed_by form ≡ None → styles_ask form ≡ None → HasStopCause sink0 sink1 link0 link1 result
    → CarriesOut (scene (moment honest up down e) taken) (scene (moment honest1 up1 down1 e1) taken1) (numbered_line number form) result
    → CarriesLine (scene (moment honest up down e) taken) (scene (moment honest1 up1 down1 e1) taken1) (numbered_line number form) result
plain-line result honest honest1 up down up1 down1 taken taken1 e e1 number form sink0 sink1 link0 link1 keeps none cause carries =
    λ up0 down0 more w play.
    let all = carries up0 down0 more w play in (
      all.1,
      prints-took result sink0 sink1 link0 link1 taken taken1 (line_text number form w) cause all.0 all.2,
      closed-tells result sink0 sink1 link0 link1 (numbered_or number (lacking form w) None)
          (ap (λ o. numbered_or number o None) (plain-lacking (has_styles (settled run_step w)) w.told.panels form keeps none)) cause,
    )

-- the line that shows the matched styles of an ask
pub shows-styles : (form : LineForm) (k : ℕ) → styles_ask form ≡ Some k → form ≡ show_styles k
shows-styles (load page) k is = absurd cc
shows-styles (forms_of.act a) k is = absurd cc
shows-styles (ask a) k is = absurd cc
shows-styles (forms_of.raw text) k is = absurd cc
shows-styles (forms_of.up n) k is = absurd cc
shows-styles (forms_of.down n) k is = absurd cc
shows-styles forms_of.settle k is = absurd cc
shows-styles show_front k is = absurd cc
shows-styles show_page k is = absurd cc
shows-styles show_sheets k is = absurd cc
shows-styles show_replies k is = absurd cc
shows-styles show_pauses k is = absurd cc
shows-styles show_panels k is = absurd cc
shows-styles (show_styles i) k is = let same : i ≡ k = cc in ap show_styles same
shows-styles (close i) k is = absurd cc

-- ---- a line that is refused prints nothing

-- the line that drops a panel
pub drops-panel : (form : LineForm) (k : ℕ) → closed_by form ≡ Some k → form ≡ close k
drops-panel (load page) k is = absurd cc
drops-panel (forms_of.act a) k is = absurd cc
drops-panel (ask a) k is = absurd cc
drops-panel (forms_of.raw text) k is = absurd cc
drops-panel (forms_of.up n) k is = absurd cc
drops-panel (forms_of.down n) k is = absurd cc
drops-panel forms_of.settle k is = absurd cc
drops-panel show_front k is = absurd cc
drops-panel show_page k is = absurd cc
drops-panel show_sheets k is = absurd cc
drops-panel show_replies k is = absurd cc
drops-panel show_pauses k is = absurd cc
drops-panel show_panels k is = absurd cc
drops-panel (show_styles i) k is = absurd cc
drops-panel (close i) k is = let same : i ≡ k = cc in ap close same

silent-missing : (number k : ℕ) (o : Option Matched) (fault : LineFault) → styles_missing (is_some o) ≡ Some fault → styles_shown k o ≡ []
silent-missing number k None fault is = refl
silent-missing number k (Some m) fault is = absurd cc

silent-lacking : (number : ℕ) (form : LineForm) (w : World RunState) (fault : LineFault) → lacking form w ≡ Some fault
    → line_text number form w ≡ []
silent-lacking number (load page) w fault is = absurd cc
silent-lacking number (forms_of.act a) w fault is = absurd cc
silent-lacking number (ask a) w fault is = absurd cc
silent-lacking number (forms_of.raw text) w fault is = absurd cc
silent-lacking number (forms_of.up n) w fault is = absurd cc
silent-lacking number (forms_of.down n) w fault is = absurd cc
silent-lacking number forms_of.settle w fault is = absurd cc
silent-lacking number show_front w fault is = absurd cc
silent-lacking number show_page w fault is = absurd cc
silent-lacking number show_sheets w fault is = absurd cc
silent-lacking number show_replies w fault is = absurd cc
silent-lacking number show_pauses w fault is = absurd cc
silent-lacking number show_panels w fault is = absurd cc
silent-lacking number (show_styles k) w fault is = silent-missing number k (styles_at k (settled run_step w)) fault is
silent-lacking number (close k) w fault is = refl

pub no-number : (number : ℕ) (o : Option LineFault) → numbered_or number o None ≡ None → o ≡ None
no-number number None e = refl
no-number number (Some fault) e = absurd cc

pub some-number : (number : ℕ) (o : Option LineFault) (bad : ℕ × LineFault) → numbered_or number o None ≡ Some bad
    → (fault : LineFault) × (o ≡ Some fault) × (◌≡◌ {A = Option (ℕ × LineFault)} (Some (number, fault)) (Some bad))
some-number number None bad e = absurd cc
some-number number (Some fault) bad e = (fault, refl, e)

-- ---- the lines

-- what lines print up to the first that is refused, the run after them, and which that is
pub record Whole : Type 0 where
  pub text : List ℕ
  pub world : World RunState
  pub refused : Option (ℕ × LineFault)

-- where a run of lines is: the world, what was printed so far, and that the lines left do the rest
pub record Running {P : Type 0} {g : Ghosts P} (honest : Type 0) (up0 down0 up down : Pipe) (taken0 taken : Option (List ℕ))
    (all : Whole) (number : ℕ)
    (lines : List (List ℕ)) (e : OneFront P g) : Type 0 where
  pub world : World RunState
  pub in_play : InPlay honest up0 down0 up down (line_bytes lines) world e
  pub so_far : List ℕ
  pub wrote : Appends taken0 taken so_far
  pub text : all.text ≡ so_far ++ lines_text number (shown_lines (good_lines number lines) world) world
  pub worlds : all.world ≡ after_lines (shown_lines (good_lines number lines) world) world
  pub refused : all.refused ≡ first_of (first_lacking number (good_lines number lines) world) (first_bad number lines)

-- those of the lines after the load
abbrev pub whole_of : List (List ℕ) → World RunState → Whole
whole_of lines w = record {
  text = lines_text 2 (shown_lines (good_lines 2 lines) w) w;
  world = after_lines (shown_lines (good_lines 2 lines) w) w;
  refused = rest_refused (first_bad 2 lines) (good_lines 2 lines) w;
}

-- the same of lines that are equal
pub with_lines : {P : Type 0} {g : Ghosts P} (honest : Type 0) (up0 down0 up down : Pipe) (taken0 taken : Option (List ℕ)) (all : Whole)
    (number : ℕ)
    (lines lines1 : List (List ℕ)) (e : OneFront P g) → lines ≡ lines1
    → Running honest up0 down0 up down taken0 taken all number lines e → Running honest up0 down0 up down taken0 taken all number lines1 e
with_lines honest up0 down0 up down taken0 taken all number lines lines1 e same running =
    subst (λ ls. Running honest up0 down0 up down taken0 taken all number ls e) same running

-- room for more bytes is room for fewer
play-fewer : {P : Type 0} {g : Ghosts P} (honest : Type 0) (up0 down0 up down : Pipe) (j k : ℕ) (w : World RunState) (e : OneFront P g) → j
    ≤ k
    → InPlay honest up0 down0 up down k w e → InPlay honest up0 down0 up down j w e
play-fewer honest up0 down0 up down j k w e less play = record {
  fresh = play.fresh;
  both = record { runs = play.both.runs; left = left-fewer play.fresh.spent j k less play.both.left };
  in_run = play.in_run;
  told_is = play.told_is;
}

-- the line that comes next is one of those that are left, and has the bytes that it costs
pub run-later : {P : Type 0} {g : Ghosts P} (honest : Type 0) (up0 down0 up down : Pipe) (line : List ℕ) (more : List (List ℕ))
    (form : LineForm)
    (w : World RunState)
    (e : OneFront P g) → line_form line ≡ Some form
    → InPlay honest up0 down0 up down (line_bytes (line ∷ more)) w e
    → InPlay honest up0 down0 up down (line_bytes more + line_cost form) w e
run-later honest up0 down0 up down line more form w e is play =
    let long : line_cost form ≤ length line = line-long line form is in
    play-fewer honest up0 down0 up down (line_bytes more + line_cost form) (line_bytes more + length line) w e (omega (arith, long)) play

-- what comes of a line, by whether it lacks something
record ThisLine (all : Whole) (number : ℕ) (form : LineForm) (later : List LineForm) (bad : Option (ℕ × LineFault)) (w : World RunState)
    (so_far : List ℕ) : Type 0 where
  text : all.text ≡ so_far ++ lines_text number (unless_bad (lacking form w) (form ∷ shown_lines later (after_line form w))) w
  worlds : all.world ≡ after_lines (unless_bad (lacking form w) (form ∷ shown_lines later (after_line form w))) w
  refused : all.refused ≡ first_of (numbered_or number (lacking form w) (first_lacking (number + 1) later (after_line form w))) bad

at-line : {P : Type 0} {g : Ghosts P} (honest : Type 0) (up0 down0 up down : Pipe) (taken0 taken : Option (List ℕ)) (all : Whole)
    (number : ℕ)
    (line : List ℕ)
    (more : List (List ℕ)) (form : LineForm) (e : OneFront P g)
    → (running : Running honest up0 down0 up down taken0 taken all number (line ∷ more) e) → line_fault number line ≡ None
    → line_form line ≡ Some form
    → ThisLine all number form (good_lines (number + 1) more) (first_bad (number + 1) more) running.world running.so_far
at-line honest up0 down0 up down taken0 taken all number line more form e running good is =
    let w = running.world in
    let forms : good_lines number (line ∷ more) ≡ form ∷ good_lines (number + 1) more = good_lines-good number line more form good is in
    record {
      text = running.text ∙ ap (λ fs. running.so_far ++ lines_text number (shown_lines fs w) w) forms;
      worlds = running.worlds ∙ ap (λ fs. after_lines (shown_lines fs w) w) forms;
      refused = running.refused ∙ ap (λ fs. first_of (first_lacking number fs w) (first_bad number (line ∷ more))) forms
          ∙ ap (first_of (first_lacking number (form ∷ good_lines (number + 1) more) w)) (first_bad-good number line more good);
    }

-- a line that lacks nothing was carried out
pub run-on : {P : Type 0} {g : Ghosts P} (honest honest1 : Type 0) (up0 down0 up down up1 down1 : Pipe)
    (taken0 taken taken1 : Option (List ℕ))
    (all : Whole)
    (number : ℕ) (line : List ℕ) (more : List (List ℕ)) (form : LineForm) (e e1 : OneFront P g)
    → Running honest up0 down0 up down taken0 taken all number (line ∷ more) e → line_fault number line ≡ None → line_form line ≡ Some form
    → CarriesLine {T = Unit {0}} (scene (moment honest up down e) taken) (scene (moment honest1 up1 down1 e1) taken1)
    (numbered_line number form) (Ok tt)
    → Running honest1 up0 down0 up1 down1 taken0 taken1 all (number + 1) more e1
run-on honest honest1 up0 down0 up down up1 down1 taken0 taken taken1 all number line more form e e1 running good is carries =
    let w = running.world in
    let l : ThisLine all number form (good_lines (number + 1) more)
    (first_bad (number + 1) more) w running.so_far = at-line honest up0 down0 up down taken0 taken all number line more form e running good
    is in
    let c = carries up0 down0 (line_bytes more) w (run-later honest up0 down0 up down line more form w e is running.in_play) in
    let whole : lacking form w ≡ None = no-number number (lacking form w) c.2 in
    let later = good_lines (number + 1) more in
    let w1 = after_line form w in
    record {
      world = w1;
      in_play = c.0;
      so_far = running.so_far ++ line_text number form w;
      wrote = Appends-append taken0 taken taken1 running.so_far (line_text number form w) running.wrote c.1;
      text = l.text ∙ ap (λ o. running.so_far ++ lines_text number (unless_bad o (form ∷ shown_lines later w1)) w) whole
          ∙ sym (append_assoc running.so_far (line_text number form w) (lines_text (number + 1) (shown_lines later w1) w1));
      worlds = l.worlds ∙ ap (λ o. after_lines (unless_bad o (form ∷ shown_lines later w1)) w) whole;
      refused = l.refused ∙ ap (λ o. first_of (numbered_or number o (first_lacking (number + 1) later w1))
          (first_bad (number + 1) more)) whole;
    }

-- a front part of what a line prints is one of what all lines print
part-line : (taken0 taken1 : Option (List ℕ)) (number : ℕ) (form : LineForm) (later : List LineForm) (w : World RunState) (so_far : List ℕ)
    (o : Option LineFault)
    → lacking form w ≡ o → WrotePart taken0 taken1 (so_far ++ line_text number form w)
    → WrotePart taken0 taken1 (so_far ++ lines_text number (unless_bad o (form ∷ later)) w)
part-line taken0 taken1 number form later w so_far None is wrote =
    subst (λ t. WrotePart taken0 taken1 t)
    (append_assoc so_far (line_text number form w) (lines_text (number + 1) later (after_line form w)))
    (WrotePart-longer taken0 taken1 (so_far ++ line_text number form w) (lines_text (number + 1) later (after_line form w)) wrote)
part-line taken0 taken1 number form later w so_far (Some fault) is wrote =
    subst (λ t. WrotePart taken0 taken1 (so_far ++ t)) (silent-lacking number form w fault is) wrote

-- a line stopped the run
module _ {P : Type 0} {g : Ghosts P} (honest honest1 : Type 0) (up0 down0 up down up1 down1 : Pipe) (taken0 taken taken1 : Option (List ℕ))
    (all : Whole) (number : ℕ)
    (line : List ℕ) (more : List (List ℕ)) (form : LineForm) (e e1 : OneFront P g)
    (running : Running honest up0 down0 up down taken0 taken all number (line ∷ more) e) (good : line_fault number line ≡ None)
    (is : line_form line ≡ Some form) where
  part-all : WrotePart taken taken1 (line_text number form running.world) → WrotePart taken0 taken1 all.text
  part-all wrote =
      let w = running.world in
      let l = at-line honest up0 down0 up down taken0 taken all number line more form e running good is in
      subst (λ t. WrotePart taken0 taken1 t) (sym l.text)
      (part-line taken0 taken1 number form (shown_lines (good_lines (number + 1) more) (after_line form w)) w running.so_far
      (lacking form w) refl
      (WrotePart-after taken0 taken taken1 running.so_far (line_text number form w) running.wrote wrote))

  line-refused : (n : ℕ) (fault : LineFault) → numbered_or number (lacking form running.world) None ≡ Some (n, fault)
      → Appends taken taken1 (line_text number form running.world)
      → Appends taken0 taken1 all.text × (all.refused ≡ Some (n, fault))
  line-refused n fault tells printed =
      let w = running.world in
      let l = at-line honest up0 down0 up down taken0 taken all number line more form e running good is in
      let f = some-number number (lacking form w) (n, fault) tells in
      let silent : line_text number form w ≡ [] = silent-lacking number form w f.0 f.1 in (
        subst (λ t. Appends taken0 taken1 t)
            (ap (λ t. running.so_far ++ t) silent
            ∙ sym (l.text ∙ ap (λ o. running.so_far
            ++ lines_text number (unless_bad o (form ∷ shown_lines (good_lines (number + 1) more) (after_line form w))) w) f.1))
            (Appends-append taken0 taken taken1 running.so_far (line_text number form w) running.wrote printed),
        l.refused ∙ ap (λ o. first_of (numbered_or number o
            (first_lacking (number + 1) (good_lines (number + 1) more) (after_line form w))) (first_bad (number + 1) more)) f.1 ∙ f.2,
      )

  pub run-stops : (stop : Stop) → RunTook {T = Unit {0}} (Err stop) taken taken1 (line_text number form running.world)
      → RunTells {T = Unit {0}} (Err stop) (numbered_or number (lacking form running.world) None)
      → RunTook {T = Unit {0}} (Err stop) taken0 taken1 all.text × RunTells {T = Unit {0}} (Err stop) all.refused
  run-stops (Line n fault) took tells = line-refused n fault tells took
  run-stops TooLong took tells = absurd took
  run-stops ReadFault took tells = absurd took
  run-stops WriteFault took tells = (part-all took, tt)
  run-stops LinkFault took tells = (part-all took, tt)
  run-stops (FrontRefused place kind) took tells = absurd took
  run-stops NoRoom took tells = absurd took
  run-stops Memory took tells = (part-all took, tt)

-- ---- how the lines end

nothing-left : (so_far : List ℕ) (number : ℕ) (w : World RunState) (forms : List LineForm) → forms ≡ []
    → so_far ++ lines_text number (shown_lines forms w) w ≡ so_far
nothing-left so_far number w forms e = ap (λ fs. so_far ++ lines_text number (shown_lines fs w) w) e ∙ append-nil so_far

-- a line is not read
pub read-stops : {P : Type 0} {g : Ghosts P} (stop : Stop) (honest : Type 0) (up0 down0 up down : Pipe) (taken0 taken : Option (List ℕ))
    (all : Whole)
    (number : ℕ)
    (line : List ℕ) (more : List (List ℕ)) (e : OneFront P g)
    → Running honest up0 down0 up down taken0 taken all number (line ∷ more) e
    → IsRead {T = Unit {0}} (Err stop) number (line_fault number line)
    → RunTook {T = Unit {0}} (Err stop) taken0 taken all.text × RunTells {T = Unit {0}} (Err stop) all.refused
read-stops (Line n fault) honest up0 down0 up down taken0 taken all number line more e running read =
    let none : good_lines number (line ∷ more) ≡ [] = good_lines-bad number line more fault read.1 in (
      subst (λ t. Appends taken0 taken t)
          (sym (running.text ∙ nothing-left running.so_far number running.world (good_lines number (line ∷ more)) none)) running.wrote,
      running.refused ∙ ap (λ fs. first_of (first_lacking number fs running.world) (first_bad number (line ∷ more))) none
          ∙ first_bad-bad number line more fault read.1 ∙ ap (λ m. Some (m, fault)) (sym read.0),
    )
read-stops TooLong honest up0 down0 up down taken0 taken all number line more e running read = absurd read
read-stops ReadFault honest up0 down0 up down taken0 taken all number line more e running read = absurd read
read-stops WriteFault honest up0 down0 up down taken0 taken all number line more e running read = absurd read
read-stops LinkFault honest up0 down0 up down taken0 taken all number line more e running read = absurd read
read-stops (FrontRefused place kind) honest up0 down0 up down taken0 taken all number line more e running read = absurd read
read-stops NoRoom honest up0 down0 up down taken0 taken all number line more e running read = absurd read
read-stops Memory honest up0 down0 up down taken0 taken all number line more e running read = (
  subst (λ t. WrotePart taken0 taken t) (sym running.text)
      (WrotePart-all taken0 taken running.so_far
      (lines_text number (shown_lines (good_lines number (line ∷ more)) running.world) running.world) running.wrote),
  tt,
)

-- no line is left
pub lines-done : {P : Type 0} {g : Ghosts P} (honest : Type 0) (up0 down0 up down : Pipe) (taken0 taken : Option (List ℕ)) (all : Whole)
    (number : ℕ)
    (lines : List (List ℕ)) (e : OneFront P g)
    → Running honest up0 down0 up down taken0 taken all number lines e → lines ≡ []
    → InPlay honest up0 down0 up down 0 all.world e × Appends taken0 taken all.text × (all.refused ≡ None)
lines-done honest up0 down0 up down taken0 taken all number lines e running none =
    let forms : good_lines number lines ≡ [] = ap (good_lines number) none in (
      subst (λ v. InPlay honest up0 down0 up down 0 v e)
          (sym (running.worlds ∙ ap (λ fs. after_lines (shown_lines fs running.world) running.world) forms))
          (subst (λ (ls : List (List ℕ)). InPlay honest up0 down0 up down (line_bytes ls) running.world e) none running.in_play),
      subst (λ t. Appends taken0 taken t)
          (sym (running.text ∙ nothing-left running.so_far number running.world (good_lines number lines) forms)) running.wrote,
      running.refused ∙ ap (λ (ls : List (List ℕ)). first_of (first_lacking number (good_lines number ls) running.world)
          (first_bad number ls)) none,
    )

-- the part after the lines
pub closed-took : (result : Result (Unit {0}) Stop) (sink0 sink1 link0 link1 : ℕ) (taken0 taken taken1 : Option (List ℕ))
    (bad : Option (ℕ × LineFault)) (forms : List LineForm) (w : World RunState)
    → rest_refused bad forms w ≡ None → HasStopCause sink0 sink1 link0 link1 result → GoesWell result
    → Appends taken0 taken (lines_text 2 (shown_lines forms w) w)
    → Prints result taken taken1 (closing_text (after_lines (shown_lines forms w) w))
    → RunTook result taken0 taken1 (rest_text bad forms w)
closed-took (Ok value) sink0 sink1 link0 link1 taken0 taken taken1 bad forms w none cause well wrote printed =
    let text = lines_text 2 (shown_lines forms w) w in
    let last = after_lines (shown_lines forms w) w in
    subst (λ b. Appends taken0 taken1 (text ++ closing_unless b last)) (sym none)
    (Appends-append taken0 taken taken1 text (closing_text last) wrote printed)
closed-took (Err stop) sink0 sink1 link0 link1 taken0 taken taken1 bad forms w none cause well wrote printed =
    let text = lines_text 2 (shown_lines forms w) w in
    let last = after_lines (shown_lines forms w) w in
    part-took stop sink0 sink1 link0 link1 taken0 taken1 (rest_text bad forms w) cause well
    (subst (λ b. WrotePart taken0 taken1 (text ++ closing_unless b last)) (sym none)
    (WrotePart-after taken0 taken taken1 text (closing_text last) wrote printed))

-- the lines stopped
pub stopped-took : (stop : Stop) (taken0 taken : Option (List ℕ)) (bad : Option (ℕ × LineFault)) (forms : List LineForm)
    (w : World RunState)
    → RunTells {T = Unit {0}} (Err stop) (rest_refused bad forms w)
    → RunTook {T = Unit {0}} (Err stop) taken0 taken (lines_text 2 (shown_lines forms w) w)
    → RunTook {T = Unit {0}} (Err stop) taken0 taken (rest_text bad forms w)
stopped-took stop taken0 taken bad forms w tells took = by stop tells took
  where
    text : List ℕ
    text = lines_text 2 (shown_lines forms w) w

    last : World RunState
    last = after_lines (shown_lines forms w) w

    by : (stop : Stop) → RunTells {T = Unit {0}} (Err stop) (rest_refused bad forms w) → RunTook {T = Unit {0}} (Err stop) taken0 taken text
        → RunTook {T = Unit {0}} (Err stop) taken0 taken (text ++ closing_unless (rest_refused bad forms w) last)
    by (Line n fault) tells took =
        subst (λ b. Appends taken0 taken (text ++ closing_unless b last)) (sym tells)
        (subst (λ t. Appends taken0 taken t) (sym (append-nil text)) took)
    by TooLong tells took = absurd took
    by ReadFault tells took = absurd took
    by WriteFault tells took = WrotePart-longer taken0 taken text (closing_unless (rest_refused bad forms w) last) took
    by LinkFault tells took = WrotePart-longer taken0 taken text (closing_unless (rest_refused bad forms w) last) took
    by (FrontRefused place kind) tells took = absurd took
    by NoRoom tells took = absurd took
    by Memory tells took = WrotePart-longer taken0 taken text (closing_unless (rest_refused bad forms w) last) took

-- a line that did not settle
pub stopped-line : {P : Type 0} {g : Ghosts P} (stop : Stop) (sink0 sink1 link0 link1 number : ℕ) (form : LineForm)
    (honest honest1 : Type 0)
    (up down up1 down1 : Pipe) (taken taken1 : Option (List ℕ)) (e e1 : OneFront P g)
    → HasStopCause {T = Unit {0}} sink0 sink1 link0 link1 (Err stop)
    → CarriesOut {T = Unit {0}} (scene (moment honest up down e) taken) (scene (moment honest1 up1 down1 e1) taken1)
    (numbered_line number form) (Err stop)
    → CarriesLine {T = Unit {0}} (scene (moment honest up down e) taken) (scene (moment honest1 up1 down1 e1) taken1)
    (numbered_line number form) (Err stop)
stopped-line stop sink0 sink1 link0 link1 number form honest honest1 up down up1 down1 taken taken1 e e1 cause carries = λ up0 down0 more w
    play.
    let all = carries up0 down0 more w play in (
      tt,
      part-took stop sink0 sink1 link0 link1 taken taken1 (line_text number form w) cause all.0 all.2,
      part-tells stop sink0 sink1 link0 link1 (numbered_or number (lacking form w) None) cause,
    )

-- ---- an input whose first line is not read, or that has none

pub unread-tells : (stop : Stop) (there : ℕ → Bool) (kinds : List PanelKind) (input first : List ℕ) (more : List (List ℕ))
    → lines_of input ≡ first ∷ more
    → IsRead {T = Unit {0}} (Err stop) 1 (line_fault 1 first)
    → RunTells {T = Unit {0}} (Err stop) (script_refused there kinds input)
unread-tells (Line n fault) there kinds input first more lines read =
    ap (refused_of_lines there (map Some kinds)) lines
    ∙ ap (λ o. numbered_or 1 (first_of o (option_and_then (want_fault there (map Some kinds)) (line_form first)))
    (first_refused there (panels_left first (map Some kinds)) 2 more)) read.1
    ∙ ap (λ m. Some (m, fault)) (sym read.0)
unread-tells TooLong there kinds input first more lines read = absurd read
unread-tells ReadFault there kinds input first more lines read = absurd read
unread-tells WriteFault there kinds input first more lines read = tt
unread-tells LinkFault there kinds input first more lines read = tt
unread-tells (FrontRefused place kind) there kinds input first more lines read = tt
unread-tells NoRoom there kinds input first more lines read = tt
unread-tells Memory there kinds input first more lines read = tt

pub unread-stops : (stop : Stop) (kinds : List PanelKind) (input first : List ℕ) (more : List (List ℕ)) → lines_of input ≡ first ∷ more
    → IsRead {T = Unit {0}} (Err stop) 1 (line_fault 1 first)
    → RunTells {T = Unit {0}} (Err stop) (report_refused kinds input)
unread-stops (Line n fault) kinds input first more lines read =
    ap (λ ls. refused_of kinds (fault_of_lines ls) (good_lines 1 ls)) lines
    ∙ ap (refused_of kinds (first_bad 1 (first ∷ more))) (good_lines-bad 1 first more fault read.1)
    ∙ first_bad-bad 1 first more fault read.1 ∙ ap (λ m. Some (m, fault)) (sym read.0)
unread-stops TooLong kinds input first more lines read = absurd read
unread-stops ReadFault kinds input first more lines read = absurd read
unread-stops WriteFault kinds input first more lines read = tt
unread-stops LinkFault kinds input first more lines read = tt
unread-stops (FrontRefused place kind) kinds input first more lines read = tt
unread-stops NoRoom kinds input first more lines read = tt
unread-stops Memory kinds input first more lines read = tt

pub no-lines-tell : (there : ℕ → Bool) (kinds : List PanelKind) (input : List ℕ) → lines_of input ≡ []
    → script_refused there kinds input ≡ Some (1, NotLoad)
no-lines-tell there kinds input none = ap (refused_of_lines there (map Some kinds)) none

pub no-lines-stop : (kinds : List PanelKind) (input : List ℕ) → lines_of input ≡ [] → report_refused kinds input ≡ Some (1, NotLoad)
no-lines-stop kinds input none = ap (λ ls. refused_of kinds (fault_of_lines ls) (good_lines 1 ls)) none
