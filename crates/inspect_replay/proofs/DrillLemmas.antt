-- The lines of a drill carried out one after the other.
use Rattle.std.proofs.Common.{◌≡◌, ℕ, suc, ◌+◌, ◌*◌, ◌^◌, ◌≤◌, List, [], ◌∷◌}
use Rattle.std.proofs.Common.{length, Option, Some, None, Result, Ok, Err, refl, sym, ap, ◌∙◌}
use Rattle.std.proofs.Common.{subst, arith}
use Rattle.std.specs.Prelude.{false, option_map}
use Rattle.front_mirror.specs.declared.panels.Panel.{Ghosts}
use Rattle.pipe_frames.specs.Pipe.{Pipe}
use Rattle.cdp_messages.specs.declared.command.Command.{Command}
use Rattle.cdp_messages.specs.declared.command.Why.{Why}
use Rattle.cdp_messages.specs.Asked.{command_of}
use Rattle.back_end.proofs.EditSizes.{params_size, edits-params}
use Rattle.replay_script.specs.Forms.{AskForm, LineForm}
use Rattle.replay_script.specs.Seen.{seen}
use Rattle.replay_script.specs.declared.forms.Line.{Line}
use Rattle.drill_script.specs.Given.{GivesFirst}
use Rattle.drill_script.specs.LineKinds.{IsDrillLine, document, styles, watch, settling, class, title, matched, text, rising, falling}
use Rattle.drill_script.specs.LineKinds.{AreDrillLines, most_lines}
use Rattle.drill_script.proofs.LineKindLaws.{line-sound}
use Rattle.inspect_world.specs.World.{World}
use Rattle.inspect_world.specs.RunStates.{RunState}
use Rattle.inspect_world.specs.Costs.{edits_commanded, ask_edits, line_cost, lines_cost}
use Rattle.inspect_world.specs.Scripts.{after_line, after_lines}
use Rattle.inspect_world.specs.ScriptsFit.{IsLater}
use Rattle.inspect_world.specs.Links.{Started, run_started, one_line_more}
use Rattle.inspect_replay.specs.declared.one_front.OneFront.{OneFront}
use Rattle.inspect_replay.specs.Runs.{InPlay}
use Rattle.inspect_replay.specs.Followed.{FollowsRun}
use Rattle.inspect_replay.specs.Drilled.{lines_more}

-- ---- what may be done with a line

-- a line of a drill may come after its load
pub drill-later : (line : LineForm) → IsDrillLine line → IsLater line
drill-later line document = line-sound line document
drill-later line styles = line-sound line styles
drill-later line watch = line-sound line watch
drill-later line settling = tt
drill-later line (class s digit a b) = let h = line-sound line (class s digit a b) in (h.insertable, h.texts)
drill-later line (title s digit a b) = line-sound line (title s digit a b)
drill-later line (matched s a) = line-sound line (matched s a)
drill-later line text = let h = line-sound line text in (h.insertable, h.texts)
drill-later line (rising n a) = tt
drill-later line (falling n a) = tt

-- ---- what lines cost

edits-low : (a : AskForm) (r : Result Command Why) → command_of false a.method a.params a.session ≡ r
    → edits_commanded r ≤ params_size a.params
edits-low a (Ok c) is = edits-params false a.method a.params a.session c is
edits-low a (Err why) is = omega arith

ask-low : (a : AskForm) → ask_edits a ≤ params_size a.params
unfolding ask_edits
ask-low a = edits-low a (command_of false a.method a.params a.session) refl

ask-cheap : (a : AskForm) → params_size a.params ≤ 50 → 4 + ask_edits a ≤ 64
ask-cheap a h = omega (arith, ask-low a)

line-cheap : (line : LineForm) → IsDrillLine line → line_cost line ≤ 64
line-cheap line document = ask-cheap _ (omega arith)
line-cheap line styles = ask-cheap _ (omega arith)
line-cheap line watch = ask-cheap _ (omega arith)
line-cheap line settling = omega arith
line-cheap line (class s digit a b) = omega arith
line-cheap line (title s digit a b) = ask-cheap _ (omega arith)
line-cheap line (matched s a) = ask-cheap _ (omega arith)
line-cheap line text = omega arith
line-cheap line (rising n a) = omega arith
line-cheap line (falling n a) = omega arith

lines-cheap : (lines : List LineForm) → AreDrillLines lines → lines_cost lines ≤ 64 * length lines
lines-cheap [] are = omega arith
lines-cheap (line ∷ lines) are = omega (arith, line-cheap line are.0, lines-cheap lines are.1)

-- the lines of a drill cost far less than an input may have
pub drill-cheap : (lines : List LineForm) → AreDrillLines lines → length lines ≤ most_lines → lines_cost lines ≤ 2 ^ 26
drill-cheap lines are few = omega (arith, lines-cheap lines are, few)

-- ---- one line

-- the lines after a first one
pub rest-drill : (lines : List LineForm) (line : LineForm) (more : List LineForm) → lines ≡ line ∷ more → AreDrillLines lines
    → IsDrillLine line × AreDrillLines more
rest-drill lines line more is are = subst AreDrillLines is are

-- a run that may carry out so many lines may carry out one, and then the others
pub follow-line : {P : Type 0} {g : Ghosts P} (state0 : Started) (up0 down0 up down : Pipe) (e : OneFront P g) (lines : List LineForm)
    (line : LineForm) (more : List LineForm) → lines ≡ line ∷ more
    → FollowsRun (lines_more (length lines) state0) up0 down0 up down e
    → FollowsRun (one_line_more (lines_more (length more) state0)) up0 down0 up down e
follow-line state0 up0 down0 up down e lines line more is run =
    let count : length lines ≡ suc (length more) = ap length is in
    let plus : state0.lines + length lines ≡ (state0.lines + length more) + 1 = omega (arith, count) in
    subst (λ n. FollowsRun (run_started state0.state n state0.shown state0.panels) up0 down0 up down e) plus run

-- over an honest link the lines so far led to a world from which those that are left lead on
pub record Turned {P : Type 0} {g : Ghosts P} (honest : Type 0) (up0 down0 up down : Pipe) (more : ℕ) (all left : List LineForm)
    (w : World RunState) (e : OneFront P g) : Type 0 where
  pub world : World RunState
  pub in_play : InPlay honest up0 down0 up down (more + lines_cost left) world e
  pub leads : after_lines left world ≡ after_lines all w

-- before a line the run has room for it
pub turn-room : {P : Type 0} {g : Ghosts P} (honest : Type 0) (up0 down0 up down : Pipe) (more : ℕ) (all left : List LineForm)
    (line : LineForm) (rest : List LineForm) (w : World RunState) (e : OneFront P g) → left ≡ line ∷ rest
    → (t : Turned honest up0 down0 up down more all left w e)
    → InPlay honest up0 down0 up down ((more + lines_cost rest) + line_cost line) t.world e
turn-room honest up0 down0 up down more all left line rest w e is t =
    let same : more + lines_cost left ≡ (more + lines_cost rest) + line_cost line
    = ap (λ ls. more + lines_cost ls) is ∙ (let r : more + (lines_cost rest + line_cost line) ≡ (more + lines_cost rest) + line_cost line
    = omega arith in r) in
    subst (λ n. InPlay honest up0 down0 up down n t.world e) same t.in_play

-- after it the lines that are left lead on
pub turn-on : {P : Type 0} {g : Ghosts P} (honest honest1 : Type 0) (up0 down0 up down up1 down1 : Pipe) (more : ℕ)
    (all left : List LineForm) (line : LineForm) (rest : List LineForm) (w : World RunState) (e e1 : OneFront P g) → left ≡ line ∷ rest
    → (t : Turned honest up0 down0 up down more all left w e)
    → InPlay honest1 up0 down0 up1 down1 (more + lines_cost rest) (after_line line t.world) e1
    → Turned honest1 up0 down0 up1 down1 more all rest w e1
turn-on honest honest1 up0 down0 up down up1 down1 more all left line rest w e e1 is t play = record {
  world = after_line line t.world;
  in_play = play;
  leads = sym (ap (λ ls. after_lines ls t.world) is) ∙ t.leads;
}

-- behind the last line
pub turn-end : {P : Type 0} {g : Ghosts P} (honest : Type 0) (up0 down0 up down : Pipe) (more : ℕ) (all left : List LineForm)
    (w : World RunState) (e : OneFront P g) → left ≡ [] → Turned honest up0 down0 up down more all left w e
    → InPlay honest up0 down0 up down more (after_lines all w) e
turn-end honest up0 down0 up down more all left w e is t =
    let room : more + lines_cost left ≡ more = ap (λ ls. more + lines_cost ls) is ∙ (let z : more + 0 ≡ more = omega arith in z) in
    subst (λ v. InPlay honest up0 down0 up down more v e) (sym (ap (λ ls. after_lines ls t.world) is) ∙ t.leads)
    (subst (λ n. InPlay honest up0 down0 up down n t.world e) room t.in_play)

-- the line that was given is the first of those that were left
pub gave-line : (left after : List LineForm) (o : Option Line) (line : Line) → o ≡ Some line → GivesFirst left (option_map seen o) after
    → left ≡ seen line ∷ after
gave-line left after o line is gives = subst (λ (p : Option Line). GivesFirst left (option_map seen p) after) is gives

-- none was left
pub gave-none : (left after : List LineForm) (o : Option Line) → o ≡ None → GivesFirst left (option_map seen o) after → left ≡ []
gave-none left after o is gives = (subst (λ (p : Option Line). GivesFirst left (option_map seen p) after) is gives).0

-- behind the last line no room is kept for another
pub follow-none : {P : Type 0} {g : Ghosts P} (state0 : Started) (up0 down0 up down : Pipe) (e : OneFront P g) (left : List LineForm)
    → left ≡ [] → FollowsRun (lines_more (length left) state0) up0 down0 up down e → FollowsRun state0 up0 down0 up down e
follow-none state0 up0 down0 up down e left is run =
    let count : length left ≡ 0 = ap length is in
    let same : state0.lines + length left ≡ state0.lines = omega (arith, count) in
    subst (λ n. FollowsRun (run_started state0.state n state0.shown state0.panels) up0 down0 up down e) same run
