-- Over every link: each line that is in form is judged at a moment of its own, and the first that is refused by the exit's.
use Rattle.std.proofs.Common.{◌≡◌, ℕ, ◌+◌, List, [], ◌∷◌, ◌++◌, length, Option, Some, None, refl, sym, ◌∙◌, ap, subst, append_assoc}
use Rattle.std.proofs.Common.{append-nil, Result, Ok, Err}
use Rattle.std.specs.Result.{OnOk}
use Rattle.front_mirror.specs.declared.panels.Panel.{Ghosts}
use Rattle.front_mirror.specs.declared.panels.PanelKind.{PanelKind}
use Rattle.pipe_frames.specs.Pipe.{Pipe}
use Rattle.replay_script.specs.PairLines.{PairForm, pair_line_form, pair_line_fault}
use Rattle.replay_script.specs.declared.faults.LineFault.{LineFault}
use Rattle.pair_world.specs.PairLinks.{LinkMoment, IsLaterMoment, AreInOrderTo, PairStarted, pair_started}
use Rattle.replay_parts.specs.declared.stop.Stop.{Stop}
use Rattle.replay_parts.specs.declared.stop.Stop.TheVariants.{Line, TooLong, ReadFault, WriteFault, LinkFault, FrontRefused, NoRoom}
use Rattle.replay_parts.specs.declared.stop.Stop.TheVariants.{Memory}
use Rattle.replay_parts.specs.Says.{says, says_of, status_of}
use Rattle.replay_parts.specs.Moments.{Moment}
use Rattle.replay_parts.specs.Answers.{AtEnd}
use Rattle.replay_parts.specs.Reads.{IsRead}
use Rattle.pair_replay.specs.declared.two_fronts.TwoFronts.{TwoFronts}
use Rattle.pair_replay.specs.PairAnswers.{PairPassed, PairStopFolds, moment_of}
use Rattle.pair_replay.specs.Judged.{pair_panels_after, fault_at, LastOr, IsBadForm, judged_form, JudgedLine, AreJudged}
use Rattle.pair_replay.specs.Following.{FollowsPairRun, pair_passing, LineJudged, PairLinesJudged, PairLinesCarried}
use Rattle.replay_parts.specs.LinkFolds.{IsWell}
use Rattle.replay_parts.proofs.FoldLemmas as parts
use Rattle.pair_world.specs.PairLinks.{sent_when_pair_is_full}
use Rattle.pair_replay.proofs.PairFollows.{later-still, order-later, order-push}
use Rattle.replay_parts.specs.Stops.{HasStopCause}
use Rattle.pair_replay.proofs.LinesRun.{no-number, some-number}
use Rattle.replay_parts.proofs.StopLemmas.{part-not-ended}

-- The run so far: the panels that stand open, and the moments at which the lines before were judged; what is said of the lines left is
-- said of all.
pub record CarriedOn {P : Type 0} {g : Ghosts P} (start : PairStarted) (up0 down0 up down : Pipe) (initial : List (List ℕ)) (nth : ℕ)
    (lines : List (List ℕ)) (e : TwoFronts P g) : Type 0 where
  pub panels : List (Option PanelKind)
  pub run : FollowsPairRun (pair_started start.pair (length lines) panels start.from) up0 down0 up down e
  pub moments : List LinkMoment
  pub in_order : AreInOrderTo (moment_of up0 down0 up down) moments
  pub goes : (last : LinkMoment) (ms : List LinkMoment) (bad : Option (ℕ × LineFault)) → AreJudged last nth panels lines ms bad
      → AreJudged last 2 start.panels initial (moments ++ ms) bad

pub carried-first : {P : Type 0} {g : Ghosts P} (start : PairStarted) (up0 down0 up down : Pipe) (lines : List (List ℕ)) (e : TwoFronts P g)
    → FollowsPairRun (pair_started start.pair (length lines) start.panels start.from) up0 down0 up down e
    → CarriedOn start up0 down0 up down lines 2 lines e
carried-first start up0 down0 up down lines e run =
    record { panels = start.panels; run = run; moments = []; in_order = tt; goes = λ last ms bad judged. judged }

pub carried-lines : {P : Type 0} {g : Ghosts P} (start : PairStarted) (up0 down0 up down : Pipe) (initial : List (List ℕ)) (nth : ℕ)
    (lines lines1 : List (List ℕ)) (e : TwoFronts P g) → lines ≡ lines1
    → CarriedOn start up0 down0 up down initial nth lines e → CarriedOn start up0 down0 up down initial nth lines1 e
carried-lines start up0 down0 up down initial nth lines lines1 e same carried =
    subst (λ ls. CarriedOn start up0 down0 up down initial nth ls e) same carried

-- ---- one line

-- a line in form that met no fault is judged, and those behind it are
line-judged : (last m : LinkMoment) (nth : ℕ) (panels : List (Option PanelKind)) (line : List ℕ) (more : List (List ℕ)) (form : PairForm)
    (ms : List LinkMoment) (bad : Option (ℕ × LineFault))
    → pair_line_fault nth line ≡ None → pair_line_form line ≡ Some form → fault_at m panels form ≡ None
    → AreJudged last (nth + 1) (pair_panels_after form panels) more ms bad
    → AreJudged last nth panels (line ∷ more) (m ∷ ms) bad
line-judged last m nth panels line more form ms bad good is none judged =
    subst (λ f. JudgedLine last nth panels (judged_form f (pair_line_form line)) m ms bad (λ ps. AreJudged last (nth + 1) ps more ms bad))
    (sym good)
    (subst (λ o. JudgedLine last nth panels o m ms bad (λ ps. AreJudged last (nth + 1) ps more ms bad)) (sym is)
    (subst (λ f. LastOr f nth m last ms bad (AreJudged last (nth + 1) (pair_panels_after form panels) more ms bad)) (sym none) judged))

-- one that met a fault is the last
line-refused : (last : LinkMoment) (nth : ℕ) (panels : List (Option PanelKind)) (line : List ℕ) (more : List (List ℕ)) (form : PairForm)
    (fault : LineFault) (bad : Option (ℕ × LineFault))
    → pair_line_fault nth line ≡ None → pair_line_form line ≡ Some form → fault_at last panels form ≡ Some fault → bad ≡ Some (nth, fault)
    → AreJudged last nth panels (line ∷ more) (last ∷ []) bad
line-refused last nth panels line more form fault bad good is met bad_is =
    subst
    (λ f. JudgedLine last nth panels (judged_form f (pair_line_form line)) last [] bad (λ ps. AreJudged last (nth + 1) ps more [] bad))
    (sym good)
    (subst (λ o. JudgedLine last nth panels o last [] bad (λ ps. AreJudged last (nth + 1) ps more [] bad)) (sym is)
    (subst (λ f. LastOr f nth last last [] bad (AreJudged last (nth + 1) (pair_panels_after form panels) more [] bad)) (sym met)
    (refl, refl, bad_is)))

-- a line was carried out
pub carried-on : {P : Type 0} {g : Ghosts P} (start : PairStarted) (up0 down0 : Pipe) (old new : Moment (TwoFronts P g))
    (initial : List (List ℕ))
    (nth : ℕ) (line : List ℕ) (more : List (List ℕ)) (form : PairForm)
    → (c : CarriedOn start up0 down0 old.up old.down initial nth (line ∷ more) old.ends) → pair_line_fault nth line ≡ None
    → pair_line_form line ≡ Some form
    → FollowsPairRun (pair_passing form (pair_started start.pair (length more) c.panels start.from)) up0 down0 new.up new.down new.ends
    → LineJudged {T = Unit {0}} (moment_of up0 down0 old.up old.down) (moment_of up0 down0 new.up new.down) c.panels nth form (Ok tt)
    → CarriedOn start up0 down0 new.up new.down initial (nth + 1) more new.ends
carried-on start up0 down0 old new initial nth line more form c good is run judged =
    let now = moment_of up0 down0 old.up old.down in
    let last = moment_of up0 down0 new.up new.down in
    let m = judged.moment in
    record {
      panels = pair_panels_after form c.panels;
      run = run;
      moments = c.moments ++ m ∷ [];
      in_order = order-push c.moments now m last c.in_order judged.from judged.until;
      goes = λ last ms bad behind.
          subst (λ all. AreJudged last 2 start.panels initial all bad) (sym (append_assoc c.moments (m ∷ []) ms))
          (c.goes last (m ∷ ms) bad
          (line-judged last m nth c.panels line more form ms bad good is (no-number nth (fault_at m c.panels form) judged.tells) behind));
    }

-- or it stopped the run
pub line-stops : {P : Type 0} {g : Ghosts P} (stop : Stop) (start : PairStarted) (up0 down0 : Pipe) (old new : Moment (TwoFronts P g))
    (initial : List (List ℕ)) (nth : ℕ) (line : List ℕ) (more : List (List ℕ)) (form : PairForm)
    → (c : CarriedOn start up0 down0 old.up old.down initial nth (line ∷ more) old.ends) → pair_line_fault nth line ≡ None
    → pair_line_form line ≡ Some form
    → AtEnd (says (status_of stop)).phase
    (LineJudged {T = Unit {0}} (moment_of up0 down0 old.up old.down) (moment_of up0 down0 new.up new.down) c.panels nth form (Err stop))
    → AtEnd (says (status_of stop)).phase
    (PairLinesJudged (moment_of up0 down0 new.up new.down) start.panels initial {T = Unit {0}} (Err stop))
line-stops (Line n fault) start up0 down0 old new initial nth line more form c good is judged =
    let now = moment_of up0 down0 old.up old.down in
    let last = moment_of up0 down0 new.up new.down in
    let m = judged.moment in
    let f = some-number nth (fault_at m c.panels form) (n, fault) judged.tells in
    let here : m ≡ last = judged.last (λ none. some-none f.0 (sym f.1 ∙ none)) in
    record {
      moments = c.moments ++ last ∷ [];
      in_order = order-push c.moments now last last c.in_order (subst (IsLaterMoment now) here judged.from) (later-still last);
      judged = c.goes last (last ∷ []) (Some (n, fault))
          (line-refused last nth c.panels line more form f.0 (Some (n, fault)) good is
          (subst (λ x. fault_at x c.panels form ≡ Some f.0) here f.1) (sym f.2));
    }
  where
    some-none : (fault : LineFault) → ◌≡◌ {A = Option LineFault} (Some fault) None → ⊥
    some-none fault e = absurd cc
line-stops TooLong start up0 down0 old new initial nth line more form c good is judged = tt
line-stops ReadFault start up0 down0 old new initial nth line more form c good is judged = tt
line-stops WriteFault start up0 down0 old new initial nth line more form c good is judged = tt
line-stops LinkFault start up0 down0 old new initial nth line more form c good is judged = tt
line-stops (FrontRefused place kind) start up0 down0 old new initial nth line more form c good is judged = tt
line-stops NoRoom start up0 down0 old new initial nth line more form c good is judged = tt
line-stops Memory start up0 down0 old new initial nth line more form c good is judged = tt

-- a line is not read
pub read-tells : {P : Type 0} {g : Ghosts P} (stop : Stop) (start : PairStarted) (up0 down0 up down : Pipe) (initial : List (List ℕ))
    (nth : ℕ)
    (line : List ℕ) (more : List (List ℕ)) (e : TwoFronts P g)
    → CarriedOn start up0 down0 up down initial nth (line ∷ more) e → IsRead {T = Unit {0}} (Err stop) nth (pair_line_fault nth line)
    → AtEnd (says (status_of stop)).phase (PairLinesJudged (moment_of up0 down0 up down) start.panels initial {T = Unit {0}} (Err stop))
read-tells (Line n fault) start up0 down0 up down initial nth line more e c read = record {
  moments = c.moments;
  in_order = c.in_order;
  judged =
      subst (λ ms. AreJudged (moment_of up0 down0 up down) 2 start.panels initial ms (Some (n, fault))) (append-nil c.moments)
      (c.goes (moment_of up0 down0 up down) [] (Some (n, fault))
      (subst (λ f. IsBadForm nth f (Some (n, fault))) (sym read.1) (ap (λ k. Some (k, fault)) read.0)));
}
read-tells TooLong start up0 down0 up down initial nth line more e c read = absurd read
read-tells ReadFault start up0 down0 up down initial nth line more e c read = absurd read
read-tells WriteFault start up0 down0 up down initial nth line more e c read = absurd read
read-tells LinkFault start up0 down0 up down initial nth line more e c read = absurd read
read-tells (FrontRefused place kind) start up0 down0 up down initial nth line more e c read = absurd read
read-tells NoRoom start up0 down0 up down initial nth line more e c read = absurd read
read-tells Memory start up0 down0 up down initial nth line more e c read = tt

-- a line that is not read leaves all well
pub read-folds : (stop : Stop) (nth : ℕ) (bad : Option LineFault) (passed : PairPassed) → IsRead {T = Unit {0}} (Err stop) nth bad
    → IsWell passed → PairStopFolds {T = Unit {0}} (Err stop) passed
read-folds stop nth bad passed read good = parts.read-folds sent_when_pair_is_full stop nth bad passed read good

-- no line is left
pub carried-all : {P : Type 0} {g : Ghosts P} (start : PairStarted) (up0 down0 : Pipe) (new : Moment (TwoFronts P g))
    (initial : List (List ℕ))
    (nth : ℕ) (lines : List (List ℕ)) → lines ≡ []
    → CarriedOn start up0 down0 new.up new.down initial nth lines new.ends
    → PairLinesCarried start up0 down0 new
    × PairLinesJudged (moment_of up0 down0 new.up new.down) start.panels initial {T = Unit {0}} (Ok tt)
carried-all start up0 down0 new initial nth lines none c = (
  record {
    panels = c.panels;
    run = subst
        (λ (ls : List (List ℕ)). FollowsPairRun (pair_started start.pair
        (length ls) c.panels start.from) up0 down0 new.up new.down new.ends)
        none c.run;
  },
  record {
    moments = c.moments;
    in_order = c.in_order;
    judged =
        subst (λ ms. AreJudged (moment_of up0 down0 new.up new.down) 2 start.panels initial ms None) (append-nil c.moments)
        (c.goes (moment_of up0 down0 new.up new.down) [] None
        (subst (λ (ls : List (List ℕ)). AreJudged (moment_of up0 down0 new.up new.down) nth c.panels ls [] None) (sym none) refl));
  },
)

-- later moments do not change how lines were judged, where none is refused
judged-later : {T U : Type 0} (value : T) (value1 : U) (panels : List (Option PanelKind)) (lines : List (List ℕ)) (now last : LinkMoment)
    → PairLinesJudged now panels lines {T = T} (Ok value) → IsLaterMoment now last → PairLinesJudged last panels lines {T = U} (Ok value1)
judged-later value value1 panels lines now last judged later = record {
  moments = judged.moments;
  in_order = order-later judged.moments now last judged.in_order later;
  judged = whole 2 panels lines judged.moments judged.judged;
}
  where
    at : (nth : ℕ) (m : LinkMoment) (ms : List LinkMoment) (o : Option LineFault) (P Q : Type 0) → (P → Q) → LastOr o nth m now ms None P
        → LastOr o nth m last ms None Q
    at nth m ms None P Q f p = f p
    at nth m ms (Some fault) P Q f p = absurd (none-some nth fault p.2)
      where
        none-some : (nth : ℕ) (fault : LineFault) → ◌≡◌ {A = Option (ℕ × LineFault)} None (Some (nth, fault)) → ⊥
        none-some nth fault e = absurd cc

    bad-form : (nth : ℕ) (o : Option LineFault) → IsBadForm nth o None → ⊥
    bad-form nth None p = p
    bad-form nth (Some fault) p = absurd cc

    whole : (nth : ℕ) (panels : List (Option PanelKind)) (lines : List (List ℕ)) (ms : List LinkMoment)
        → AreJudged now nth panels lines ms None → AreJudged last nth panels lines ms None
    whole nth panels [] [] p = p
    whole nth panels [] (m ∷ ms) p = p
    whole nth panels (line ∷ lines) [] p = p
    whole nth panels (line ∷ lines) (m ∷ ms) p =
        by (judged_form (pair_line_fault nth line) (pair_line_form line)) (λ ps q. whole (nth + 1) ps lines ms q) p
      where
        by : (o : Option PairForm)
            → ((ps : List (Option PanelKind)) → AreJudged now (nth + 1) ps lines ms None → AreJudged last (nth + 1) ps lines ms None)
            → JudgedLine now nth panels o m ms None (λ ps. AreJudged now (nth + 1) ps lines ms None)
            → JudgedLine last nth panels o m ms None (λ ps. AreJudged last (nth + 1) ps lines ms None)
        by None later p = p
        by (Some form) later p =
            at nth m ms (fault_at m panels form) _ _ (later (pair_panels_after form panels)) p

-- nor does the closing part
pub closing-tells : {T : Type 0} (value : T) (result : Result (Unit {0}) Stop) (sink0 sink1 link0 link1 : ℕ)
    (panels : List (Option PanelKind))
    (lines : List (List ℕ)) (now last : LinkMoment)
    → HasStopCause sink0 sink1 link0 link1 result → PairLinesJudged now panels lines {T = T} (Ok value)
    → OnOk result (IsLaterMoment now last)
    → AtEnd (says_of result).phase (PairLinesJudged last panels lines result)
closing-tells value (Ok done) sink0 sink1 link0 link1 panels lines now last cause judged later =
    judged-later value done panels lines now last judged later
closing-tells value (Err stop) sink0 sink1 link0 link1 panels lines now last cause judged later =
    part-not-ended stop sink0 sink1 link0 link1 (PairLinesJudged last panels lines {T = Unit {0}} (Err stop)) cause
