-- The lines of a script with two front ends are carried out one after the other, up to the first that is refused: over an honest link.
use Rattle.std.proofs.Common.{◌≡◌, ℕ, ◌+◌, ◌≤◌, List, [], ◌∷◌, ◌++◌, length, Option, Some, None}
use Rattle.std.proofs.Common.{refl, sym, ◌∙◌, ap, subst, arith, append_assoc, append-nil, Ok, Err}
use Rattle.std.specs.Prelude.{⊤}
use Rattle.std.specs.Option.{option_to_list}
use Rattle.std.specs.Str.{is_utf8}
use Rattle.std.specs.Io.KnownBytes.{Appends}
use Rattle.serde_json.specs.Data.{Data, null, boolean, number, string, array, object, no_members, member}
use Rattle.serde_json.specs.Read.{read}
use Rattle.cdp_json.proofs.Options.{and_then_some}
use Rattle.cdp_messages.specs.Asked.{json_of}
use Rattle.back_end.proofs.FrameSizes.{data_size, read-long}
use Rattle.front_mirror.specs.declared.panels.Panel.{Ghosts}
use Rattle.pipe_frames.specs.Pipe.{Pipe}
use Rattle.pipe_frames.specs.Whole.{WrotePart}
use Rattle.pipe_frames.proofs.WholeLemmas.{Appends-append, WrotePart-all, WrotePart-longer, WrotePart-after}
use Rattle.node_tree.specs.Keys.{first_of}
use Rattle.replay_script.specs.Script.{numbered_or}
use Rattle.replay_script.specs.PairLines.{PairForm, pair_form_of, pair_line_form, pair_line_fault}
use Rattle.replay_script.specs.PairScript.{pair_first_bad, pairs_unless_bad, pair_good_lines}
use Rattle.replay_script.specs.declared.faults.LineFault.{LineFault}
use Rattle.inspect_world.specs.Costs.{least_line, line_bytes}
use Rattle.pair_world.specs.PairRuns.{PairRun}
use Rattle.pair_world.specs.PairScripts.{deeds, after_pair_line, after_pair_lines, pair_line_text, pair_lines_text, pair_lacking}
use Rattle.pair_world.specs.PairScripts.{pair_shown_lines}
use Rattle.pair_world.specs.PairScripts.{pair_first_lacking, pair_rest_refused}
use Rattle.pair_world.specs.PairFresh.{fresh_pair_line, fresh_pair_lines, DeedsHaveRoom, line_or, LinesHaveRoom}
use Rattle.replay_parts.specs.declared.stop.Stop.{Stop}
use Rattle.replay_parts.specs.declared.stop.Stop.TheVariants.{Line, TooLong, ReadFault, WriteFault, LinkFault, FrontRefused, NoRoom}
use Rattle.replay_parts.specs.declared.stop.Stop.TheVariants.{Memory}
use Rattle.replay_parts.specs.Moments.{scene, Moment}
use Rattle.replay_parts.specs.Answers.{RunTells}
use Rattle.replay_parts.specs.Reads.{IsRead}
use Rattle.pair_replay.specs.declared.two_fronts.TwoFronts.{TwoFronts}
use Rattle.pair_replay.specs.PairAnswers.{PairRunTook, RoomTold}
use Rattle.pair_replay.specs.Running.{InPairPlay}
use Rattle.pair_replay.specs.Playing.{PairCarries, numbered_pair, text_unless}
use Rattle.back_end.proofs.EditSizes.{utf8-read}
use Rattle.pair_replay.proofs.PairTheory.{together-fewer}

-- ---- a line that has a form

-- a value that tells a line is an object with a property
pair-size : (d : Data) (form : PairForm) → pair_form_of d ≡ Some form → 4 ≤ data_size d
pair-size null form e = absurd cc
pair-size (boolean b) form e = absurd cc
pair-size (number n) form e = absurd cc
pair-size (string s) form e = absurd cc
pair-size (array ds) form e = absurd cc
pair-size (object no_members) form e = absurd cc
pair-size (object (member k v ms)) form e = omega arith

pub pair-line-long : (line : List ℕ) (form : PairForm) → pair_line_form line ≡ Some form → least_line ≤ length line
pair-line-long line form is =
    let p = and_then_some pair_form_of (json_of line) form is in
    let long : data_size p.0 ≤ length line = read-long line p.0 (utf8-read (is_utf8 line) (read line) p.0 p.1) in
    let cost : 4 ≤ data_size p.0 = pair-size p.0 form p.2 in
    omega (arith, long, cost)

-- ---- a step over one line

pub first-bad-good : (nth : ℕ) (line : List ℕ) (more : List (List ℕ)) → pair_line_fault nth line ≡ None
    → pair_first_bad nth (line ∷ more) ≡ pair_first_bad (nth + 1) more
first-bad-good nth line more good = ap (λ (f : Option LineFault). numbered_or nth f (pair_first_bad (nth + 1) more)) good

pub first-bad-bad : (nth : ℕ) (line : List ℕ) (more : List (List ℕ)) (fault : LineFault) → pair_line_fault nth line ≡ Some fault
    → pair_first_bad nth (line ∷ more) ≡ Some (nth, fault)
first-bad-bad nth line more fault bad = ap (λ (f : Option LineFault). numbered_or nth f (pair_first_bad (nth + 1) more)) bad

pub good-lines-good : (nth : ℕ) (line : List ℕ) (more : List (List ℕ)) (form : PairForm) → pair_line_fault nth line ≡ None
    → pair_line_form line ≡ Some form → pair_good_lines nth (line ∷ more) ≡ form ∷ pair_good_lines (nth + 1) more
good-lines-good nth line more form good is =
    let rest : List PairForm = pair_good_lines (nth + 1) more in
    ap (λ (f : Option LineFault). pairs_unless_bad f (option_to_list (pair_line_form line) ++ rest)) good
    ∙ ap (λ (o : Option PairForm). option_to_list o ++ rest) is

pub good-lines-bad : (nth : ℕ) (line : List ℕ) (more : List (List ℕ)) (fault : LineFault) → pair_line_fault nth line ≡ Some fault
    → pair_good_lines nth (line ∷ more) ≡ []
good-lines-bad nth line more fault bad =
    ap (λ (f : Option LineFault). pairs_unless_bad f (option_to_list (pair_line_form line) ++ pair_good_lines (nth + 1) more)) bad

pub no-number : (nth : ℕ) (o : Option LineFault) → numbered_or nth o None ≡ None → o ≡ None
no-number nth None e = refl
no-number nth (Some fault) e = absurd cc

pub some-number : (nth : ℕ) (o : Option LineFault) (bad : ℕ × LineFault) → numbered_or nth o None ≡ Some bad
    → (fault : LineFault) × (o ≡ Some fault) × (◌≡◌ {A = Option (ℕ × LineFault)} (Some (nth, fault)) (Some bad))
some-number nth None bad e = absurd cc
some-number nth (Some fault) bad e = (fault, refl, e)

-- ---- the lines

-- what lines print up to the first that is refused, both runs after them, which that is, and the room that they need
pub record Whole : Type 1 where
  pub text : List ℕ
  pub world : PairRun
  pub fresh : PairRun
  pub refused : Option (ℕ × LineFault)
  pub room : Type 0

-- where a run of lines is: both runs, what was printed so far, and that the lines left do the rest
pub record RunningOn {P : Type 0} {g : Ghosts P} (honest : Type 0) (up0 down0 up down : Pipe) (taken0 taken : Option (List ℕ)) (all : Whole)
    (nth : ℕ) (lines : List (List ℕ)) (e : TwoFronts P g) : Type 0 where
  pub world : PairRun
  pub fresh : PairRun
  pub in_play : InPairPlay honest up0 down0 up down (line_bytes lines) world fresh e
  pub so_far : List ℕ
  pub wrote : Appends taken0 taken so_far
  pub text : all.text ≡ so_far ++ pair_lines_text nth (pair_shown_lines (pair_good_lines nth lines) world) world
  pub worlds : all.world ≡ after_pair_lines (pair_shown_lines (pair_good_lines nth lines) world) world
  pub freshes : all.fresh ≡ fresh_pair_lines (pair_shown_lines (pair_good_lines nth lines) world) fresh
  pub refused : all.refused ≡ first_of (pair_first_lacking nth (pair_good_lines nth lines) world) (pair_first_bad nth lines)
  pub room : LinesHaveRoom (λ x. ⊤) (pair_good_lines nth lines) world fresh → all.room
  pub needed : all.room → LinesHaveRoom (λ x. ⊤) (pair_good_lines nth lines) world fresh

-- those of the lines after the load
abbrev pub whole_of : List (List ℕ) → PairRun → PairRun → Whole
whole_of lines w v = record {
  text = pair_lines_text 2 (pair_shown_lines (pair_good_lines 2 lines) w) w;
  world = after_pair_lines (pair_shown_lines (pair_good_lines 2 lines) w) w;
  fresh = fresh_pair_lines (pair_shown_lines (pair_good_lines 2 lines) w) v;
  refused = pair_rest_refused (pair_first_bad 2 lines) (pair_good_lines 2 lines) w;
  room = LinesHaveRoom (λ x. ⊤) (pair_good_lines 2 lines) w v;
}

pub running-first : {P : Type 0} {g : Ghosts P} (honest : Type 0) (up0 down0 up down : Pipe) (taken : Option (List ℕ))
    (lines : List (List ℕ))
    (w v : PairRun) (e : TwoFronts P g)
    → Appends taken taken [] → InPairPlay honest up0 down0 up down (line_bytes lines) w v e
    → RunningOn honest up0 down0 up down taken taken (whole_of lines w v) 2 lines e
running-first honest up0 down0 up down taken lines w v e none play = record {
  world = w;
  fresh = v;
  in_play = play;
  so_far = [];
  wrote = none;
  text = refl;
  worlds = refl;
  freshes = refl;
  refused = refl;
  room = λ room. room;
  needed = λ room. room;
}

-- the same of lines that are equal
pub with-lines : {P : Type 0} {g : Ghosts P} (honest : Type 0) (up0 down0 up down : Pipe) (taken0 taken : Option (List ℕ)) (all : Whole)
    (nth : ℕ) (lines lines1 : List (List ℕ)) (e : TwoFronts P g) → lines ≡ lines1
    → RunningOn honest up0 down0 up down taken0 taken all nth lines e → RunningOn honest up0 down0 up down taken0 taken all nth lines1 e
with-lines honest up0 down0 up down taken0 taken all nth lines lines1 e same running =
    subst (λ ls. RunningOn honest up0 down0 up down taken0 taken all nth ls e) same running

-- the line that comes next has the bytes of the least line
pub run-later : {P : Type 0} {g : Ghosts P} (honest : Type 0) (up0 down0 up down : Pipe) (line : List ℕ) (more : List (List ℕ))
    (form : PairForm)
    (w v : PairRun) (e : TwoFronts P g) → pair_line_form line ≡ Some form
    → InPairPlay honest up0 down0 up down (line_bytes (line ∷ more)) w v e
    → InPairPlay honest up0 down0 up down (line_bytes more + least_line) w v e
run-later honest up0 down0 up down line more form w v e is play =
    let long : least_line ≤ length line = pair-line-long line form is in
    record {
      both = together-fewer (line_bytes more + least_line) (line_bytes more + length line) w v (omega (arith, long)) play.both;
      in_run = play.in_run;
    }

-- what comes of a line, by whether it lacks something
record ThisLine (all : Whole) (nth : ℕ) (form : PairForm) (later : List PairForm) (bad : Option (ℕ × LineFault)) (w v : PairRun)
    (so_far : List ℕ) : Type 0 where
  text : all.text ≡ so_far
      ++ pair_lines_text nth (pairs_unless_bad (pair_lacking form w) (form ∷ pair_shown_lines later (after_pair_line form w))) w
  worlds : all.world ≡ after_pair_lines (pairs_unless_bad (pair_lacking form w) (form ∷ pair_shown_lines later (after_pair_line form w))) w
  freshes : all.fresh ≡ fresh_pair_lines (pairs_unless_bad (pair_lacking form w) (form ∷ pair_shown_lines later (after_pair_line form w))) v
  refused : all.refused
      ≡ first_of (numbered_or nth (pair_lacking form w) (pair_first_lacking (nth + 1) later (after_pair_line form w))) bad
  room : line_or (pair_lacking form w) form v (LinesHaveRoom (λ x. ⊤) later (after_pair_line form w) (fresh_pair_line form v)) → all.room
  needed : all.room → line_or (pair_lacking form w) form v (LinesHaveRoom (λ x. ⊤) later (after_pair_line form w) (fresh_pair_line form v))

at-line : {P : Type 0} {g : Ghosts P} (honest : Type 0) (up0 down0 up down : Pipe) (taken0 taken : Option (List ℕ)) (all : Whole)
    (nth : ℕ) (line : List ℕ) (more : List (List ℕ)) (form : PairForm) (e : TwoFronts P g)
    → (running : RunningOn honest up0 down0 up down taken0 taken all nth (line ∷ more) e) → pair_line_fault nth line ≡ None
    → pair_line_form line ≡ Some form
    → ThisLine all nth form (pair_good_lines (nth + 1) more) (pair_first_bad (nth + 1) more) running.world running.fresh running.so_far
at-line honest up0 down0 up down taken0 taken all nth line more form e running good is =
    let w = running.world in
    let v = running.fresh in
    let forms : pair_good_lines nth (line ∷ more) ≡ form ∷ pair_good_lines (nth + 1) more = good-lines-good nth line more form good is in
    record {
      text = running.text ∙ ap (λ fs. running.so_far ++ pair_lines_text nth (pair_shown_lines fs w) w) forms;
      worlds = running.worlds ∙ ap (λ fs. after_pair_lines (pair_shown_lines fs w) w) forms;
      freshes = running.freshes ∙ ap (λ fs. fresh_pair_lines (pair_shown_lines fs w) v) forms;
      refused = running.refused ∙ ap (λ fs. first_of (pair_first_lacking nth fs w) (pair_first_bad nth (line ∷ more))) forms
          ∙ ap (first_of (pair_first_lacking nth (form ∷ pair_good_lines (nth + 1) more) w)) (first-bad-good nth line more good);
      room = λ room. running.room (subst (λ fs. LinesHaveRoom (λ x. ⊤) fs w v) (sym forms) room);
      needed = λ room. subst (λ fs. LinesHaveRoom (λ x. ⊤) fs w v) forms (running.needed room);
    }

-- a line that lacks nothing was carried out
pub run-on : {P : Type 0} {g : Ghosts P} (up0 down0 : Pipe) (taken0 : Option (List ℕ)) (old new : Moment (TwoFronts P g))
    (taken taken1 : Option (List ℕ)) (all : Whole) (nth : ℕ) (line : List ℕ) (more : List (List ℕ)) (form : PairForm)
    → RunningOn old.honest up0 down0 old.up old.down taken0 taken all nth (line ∷ more) old.ends → pair_line_fault nth line ≡ None
    → pair_line_form line ≡ Some form
    → PairCarries {T = Unit {0}} (numbered_pair nth form) (scene old taken) (scene new taken1) (Ok tt)
    → RunningOn new.honest up0 down0 new.up new.down taken0 taken1 all (nth + 1) more new.ends
run-on up0 down0 taken0 old new taken taken1 all nth line more form running good is carries =
    let w = running.world in
    let v = running.fresh in
    let l : ThisLine all nth form (pair_good_lines (nth + 1) more) (pair_first_bad (nth + 1) more) w v running.so_far =
    at-line old.honest up0 down0 old.up old.down taken0 taken all nth line more form old.ends running good is in
    let c = carries up0 down0 (line_bytes more) w v
    (run-later old.honest up0 down0 old.up old.down line more form w v old.ends is running.in_play) in
    let none : pair_lacking form w ≡ None = no-number nth (pair_lacking form w) c.2 in
    let later = pair_good_lines (nth + 1) more in
    let w1 = after_pair_line form w in
    let v1 = fresh_pair_line form v in
    let printed : Appends taken taken1 (pair_line_text nth form w) =
    subst (λ o. Appends taken taken1 (text_unless o (pair_line_text nth form w))) none c.1 in
    let here : DeedsHaveRoom (deeds form v) v = (subst (λ o. line_or o form v ⊤) none c.3).0 in
    record {
      world = w1;
      fresh = v1;
      in_play = c.0;
      so_far = running.so_far ++ pair_line_text nth form w;
      wrote = Appends-append taken0 taken taken1 running.so_far (pair_line_text nth form w) running.wrote printed;
      text = l.text
          ∙ ap (λ o. running.so_far ++ pair_lines_text nth (pairs_unless_bad o (form ∷ pair_shown_lines later w1)) w) none
          ∙ sym (append_assoc running.so_far (pair_line_text nth form w) (pair_lines_text (nth + 1) (pair_shown_lines later w1) w1));
      worlds = l.worlds ∙ ap (λ o. after_pair_lines (pairs_unless_bad o (form ∷ pair_shown_lines later w1)) w) none;
      freshes = l.freshes ∙ ap (λ o. fresh_pair_lines (pairs_unless_bad o (form ∷ pair_shown_lines later w1)) v) none;
      refused = l.refused
          ∙ ap (λ o. first_of (numbered_or nth o (pair_first_lacking (nth + 1) later w1)) (pair_first_bad (nth + 1) more)) none;
      room = λ room. l.room (subst (λ o. line_or o form v (LinesHaveRoom (λ x. ⊤) later w1 v1)) (sym none) (here, room));
      needed = λ room. (subst (λ o. line_or o form v (LinesHaveRoom (λ x. ⊤) later w1 v1)) none (l.needed room)).1;
    }

-- a front part of what a line prints is one of what all lines print
part-line : (taken0 taken1 : Option (List ℕ)) (nth : ℕ) (form : PairForm) (later : List PairForm) (w : PairRun) (so_far : List ℕ)
    (o : Option LineFault)
    → WrotePart taken0 taken1 (so_far ++ text_unless o (pair_line_text nth form w))
    → WrotePart taken0 taken1 (so_far ++ pair_lines_text nth (pairs_unless_bad o (form ∷ later)) w)
part-line taken0 taken1 nth form later w so_far None wrote =
    subst (λ t. WrotePart taken0 taken1 t)
    (append_assoc so_far (pair_line_text nth form w) (pair_lines_text (nth + 1) later (after_pair_line form w)))
    (WrotePart-longer taken0 taken1 (so_far ++ pair_line_text nth form w) (pair_lines_text (nth + 1) later (after_pair_line form w)) wrote)
part-line taken0 taken1 nth form later w so_far (Some fault) wrote = wrote

-- room for all lines is room for the first
first-needed : (o : Option LineFault) (form : PairForm) (v : PairRun) (Later : Type 0) → line_or o form v Later → line_or o form v ⊤
first-needed None form v Later room = (room.0, tt)
first-needed (Some fault) form v Later room = room

-- what a run that stopped says of all lines
abbrev pub StopsSo : Stop → Option (List ℕ) → Option (List ℕ) → Whole → Type 0
StopsSo stop taken0 taken1 all =
    PairRunTook {T = Unit {0}} (Err stop) taken0 taken1 all.text × RunTells {T = Unit {0}} (Err stop) all.refused
    × RoomTold {T = Unit {0}} (Err stop) all.room

-- a line stopped the run
module _ {P : Type 0} {g : Ghosts P} (honest : Type 0) (up0 down0 up down : Pipe) (taken0 taken taken1 : Option (List ℕ))
    (all : Whole) (nth : ℕ) (line : List ℕ) (more : List (List ℕ)) (form : PairForm) (e : TwoFronts P g)
    (running : RunningOn honest up0 down0 up down taken0 taken all nth (line ∷ more) e) (good : pair_line_fault nth line ≡ None)
    (is : pair_line_form line ≡ Some form) where
  part-all : WrotePart taken taken1 (text_unless (pair_lacking form running.world) (pair_line_text nth form running.world))
      → WrotePart taken0 taken1 all.text
  part-all wrote =
      let w = running.world in
      let l = at-line honest up0 down0 up down taken0 taken all nth line more form e running good is in
      subst (λ t. WrotePart taken0 taken1 t) (sym l.text)
      (part-line taken0 taken1 nth form (pair_shown_lines (pair_good_lines (nth + 1) more) (after_pair_line form w)) w running.so_far
      (pair_lacking form w)
      (WrotePart-after taken0 taken taken1 running.so_far (text_unless (pair_lacking form w)
      (pair_line_text nth form w)) running.wrote wrote))

  room-all : all.room → line_or (pair_lacking form running.world) form running.fresh ⊤
  room-all room =
      let w = running.world in
      let l = at-line honest up0 down0 up down taken0 taken all nth line more form e running good is in
      first-needed (pair_lacking form w) form running.fresh
      (LinesHaveRoom (λ x. ⊤) (pair_good_lines (nth + 1) more) (after_pair_line form w) (fresh_pair_line form running.fresh))
      (l.needed room)

  line-refused : (n : ℕ) (fault : LineFault) → numbered_or nth (pair_lacking form running.world) None ≡ Some (n, fault)
      → Appends taken taken1 (text_unless (pair_lacking form running.world) (pair_line_text nth form running.world))
      → line_or (pair_lacking form running.world) form running.fresh ⊤
      → Appends taken0 taken1 all.text × (all.refused ≡ Some (n, fault)) × all.room
  line-refused n fault tells printed room =
      let w = running.world in
      let v = running.fresh in
      let later = pair_good_lines (nth + 1) more in
      let w1 = after_pair_line form w in
      let v1 = fresh_pair_line form v in
      let l = at-line honest up0 down0 up down taken0 taken all nth line more form e running good is in
      let f = some-number nth (pair_lacking form w) (n, fault) tells in
      let none : Appends taken taken1 [] = subst (λ o. Appends taken taken1 (text_unless o (pair_line_text nth form w))) f.1 printed in
      let text : running.so_far ++ [] ≡ all.text =
      sym (l.text ∙ ap (λ o. running.so_far ++ pair_lines_text nth (pairs_unless_bad o (form ∷ pair_shown_lines later w1)) w) f.1) in (
        subst (λ t. Appends taken0 taken1 t) text (Appends-append taken0 taken taken1 running.so_far [] running.wrote none),
        l.refused ∙ ap (λ o. first_of (numbered_or nth o (pair_first_lacking (nth + 1) later w1)) (pair_first_bad (nth + 1) more)) f.1
            ∙ f.2,
        l.room (subst (λ o. line_or o form v (LinesHaveRoom (λ x. ⊤) later w1 v1)) (sym f.1) (subst (λ o. line_or o form v ⊤) f.1 room)),
      )

  pub run-stops : (stop : Stop)
      → PairRunTook {T = Unit {0}} (Err stop) taken taken1
      (text_unless (pair_lacking form running.world) (pair_line_text nth form running.world))
      → RunTells {T = Unit {0}} (Err stop) (numbered_or nth (pair_lacking form running.world) None)
      → RoomTold {T = Unit {0}} (Err stop) (line_or (pair_lacking form running.world) form running.fresh ⊤)
      → StopsSo stop taken0 taken1 all
  run-stops (Line n fault) took tells room = line-refused n fault tells took room
  run-stops TooLong took tells room = absurd took
  run-stops ReadFault took tells room = absurd took
  run-stops WriteFault took tells room = (part-all took, tt, tt)
  run-stops LinkFault took tells room = (part-all took, tt, tt)
  run-stops (FrontRefused place kind) took tells room = absurd took
  run-stops NoRoom took tells room = (part-all took, tt, λ all_room. room (room-all all_room))
  run-stops Memory took tells room = (part-all took, tt, tt)

-- ---- how the lines end

nothing-left : (so_far : List ℕ) (nth : ℕ) (w : PairRun) (forms : List PairForm) → forms ≡ []
    → so_far ++ pair_lines_text nth (pair_shown_lines forms w) w ≡ so_far
nothing-left so_far nth w forms e = ap (λ fs. so_far ++ pair_lines_text nth (pair_shown_lines fs w) w) e ∙ append-nil so_far

-- a line is not read
pub read-stops : {P : Type 0} {g : Ghosts P} (stop : Stop) (honest : Type 0) (up0 down0 up down : Pipe) (taken0 taken : Option (List ℕ))
    (all : Whole) (nth : ℕ) (line : List ℕ) (more : List (List ℕ)) (e : TwoFronts P g)
    → RunningOn honest up0 down0 up down taken0 taken all nth (line ∷ more) e
    → IsRead {T = Unit {0}} (Err stop) nth (pair_line_fault nth line)
    → StopsSo stop taken0 taken all
read-stops (Line n fault) honest up0 down0 up down taken0 taken all nth line more e running read =
    let w = running.world in
    let none : pair_good_lines nth (line ∷ more) ≡ [] = good-lines-bad nth line more fault read.1 in (
      subst (λ t. Appends taken0 taken t)
          (sym (running.text ∙ nothing-left running.so_far nth w (pair_good_lines nth (line ∷ more)) none)) running.wrote,
      running.refused ∙ ap (λ fs. first_of (pair_first_lacking nth fs w) (pair_first_bad nth (line ∷ more))) none
          ∙ first-bad-bad nth line more fault read.1 ∙ ap (λ m. Some (m, fault)) (sym read.0),
      running.room (subst (λ fs. LinesHaveRoom (λ x. ⊤) fs w running.fresh) (sym none) tt),
    )
read-stops TooLong honest up0 down0 up down taken0 taken all nth line more e running read = absurd read
read-stops ReadFault honest up0 down0 up down taken0 taken all nth line more e running read = absurd read
read-stops WriteFault honest up0 down0 up down taken0 taken all nth line more e running read = absurd read
read-stops LinkFault honest up0 down0 up down taken0 taken all nth line more e running read = absurd read
read-stops (FrontRefused place kind) honest up0 down0 up down taken0 taken all nth line more e running read = absurd read
read-stops NoRoom honest up0 down0 up down taken0 taken all nth line more e running read = absurd read
read-stops Memory honest up0 down0 up down taken0 taken all nth line more e running read = (
  subst (λ t. WrotePart taken0 taken t) (sym running.text)
      (WrotePart-all taken0 taken running.so_far
      (pair_lines_text nth (pair_shown_lines (pair_good_lines nth (line ∷ more)) running.world) running.world) running.wrote),
  tt,
  tt,
)

-- no line is left
pub lines-done : {P : Type 0} {g : Ghosts P} (honest : Type 0) (up0 down0 up down : Pipe) (taken0 taken : Option (List ℕ)) (all : Whole)
    (nth : ℕ) (lines : List (List ℕ)) (e : TwoFronts P g)
    → RunningOn honest up0 down0 up down taken0 taken all nth lines e → lines ≡ []
    → InPairPlay honest up0 down0 up down 0 all.world all.fresh e × Appends taken0 taken all.text × (all.refused ≡ None) × all.room
lines-done honest up0 down0 up down taken0 taken all nth lines e running none =
    let w = running.world in
    let v = running.fresh in
    let forms : pair_good_lines nth lines ≡ [] = ap (pair_good_lines nth) none in (
      subst (λ x. InPairPlay honest up0 down0 up down 0 x all.fresh e)
          (sym (running.worlds ∙ ap (λ fs. after_pair_lines (pair_shown_lines fs w) w) forms))
          (subst (λ x. InPairPlay honest up0 down0 up down 0 w x e)
          (sym (running.freshes ∙ ap (λ fs. fresh_pair_lines (pair_shown_lines fs w) v) forms))
          (subst (λ (ls : List (List ℕ)). InPairPlay honest up0 down0 up down (line_bytes ls) w v e) none running.in_play)),
      subst (λ t. Appends taken0 taken t)
          (sym (running.text ∙ nothing-left running.so_far nth w (pair_good_lines nth lines) forms)) running.wrote,
      running.refused
          ∙ ap (λ (ls : List (List ℕ)). first_of (pair_first_lacking nth (pair_good_lines nth ls) w) (pair_first_bad nth ls)) none,
      running.room (subst (λ fs. LinesHaveRoom (λ x. ⊤) fs w v) (sym forms) tt),
    )
