-- A whole script with two front ends: its first line loads a page.
use Rattle.std.proofs.Common.{◌≡◌, ℕ, List, [], ◌∷◌, length, map, Option, Some, None, refl, sym, ◌∙◌, ap, subst, arith}
use Rattle.std.proofs.Common.{Result, Err}
use Rattle.std.specs.Prelude.{⊤}
use Rattle.std.specs.Result.{IsErrAnd, OnOk, IsOk}
use Rattle.std.proofs.lemmas.List.{drop_all}
use Rattle.std.proofs.Common.{drop}
use Rattle.front_mirror.specs.declared.panels.PanelKind.{PanelKind}
use Rattle.pipe_frames.specs.Pipe.{Pipe, given_since}
use Rattle.pipe_frames.specs.Frames.{frames_of}
use Rattle.pipe_frames.proofs.WholeLemmas.{Appends-nil}
use Rattle.std.specs.Io.KnownBytes.{Appends}
use Rattle.page_forms.specs.Pages.{LoadedPage}
use Rattle.replay_script.specs.Forms.{load}
use Rattle.replay_script.specs.Lines.{lines_of}
use Rattle.replay_script.specs.PairLines.{PairForm, of_first, pair_line_form, pair_line_fault}
use Rattle.replay_script.specs.PairScript.{pair_first_bad, pair_good_lines, pair_fault_of_lines, pair_script_fault, pair_script_forms}
use Rattle.replay_script.specs.declared.faults.LineFault.{LineFault}
use Rattle.replay_script.specs.declared.faults.LineFault.TheVariants.{NotLoad}
use Rattle.pair_world.specs.PairRuns.{pair_loaded_run}
use Rattle.pair_world.specs.PairScripts.{pair_rest_text, pair_text, pair_report, pair_rest_refused, pair_refused_of, pair_refused}
use Rattle.pair_world.specs.PairFresh.{LinesHaveRoom, closing_or, room_of, ScriptHasRoom}
use Rattle.pair_world.specs.PairLinks.{LinkMoment, pair_fold_of}
use Rattle.replay_parts.specs.declared.stop.Stop.{Stop}
use Rattle.replay_parts.specs.declared.stop.Stop.TheVariants.{Line, TooLong, ReadFault, WriteFault, LinkFault, FrontRefused, NoRoom}
use Rattle.replay_parts.specs.declared.stop.Stop.TheVariants.{Memory}
use Rattle.replay_parts.specs.Says.{Phase, untouched, reading, underway, ended, anywhen, says, says_of, status_of}
use Rattle.replay_parts.specs.Answers.{AtEnd, RunTells}
use Rattle.replay_parts.specs.Reads.{IsRead}
use Rattle.pair_replay.specs.PairAnswers.{PairRunTook, RoomTold, PairStopFolds, pair_since}
use Rattle.pair_replay.specs.Judged.{AreJudged, FirstOr, LinesJudged, IsJudged}
use Rattle.pair_replay.specs.Following.{PairLinesJudged}
use Rattle.replay_parts.specs.LinkFolds.{IsWell}
use Rattle.replay_parts.specs.Stops.{HasRunCause}
use Rattle.replay_script.proofs.FaultLemmas.{first_none}
use Rattle.pair_world.specs.PairRuns.{PairRun}
use Rattle.pair_world.specs.PairScripts.{pair_shown_lines, pair_first_lacking}
use Rattle.pair_world.specs.PairFresh.{RefreshHasRoom, fresh_pair_lines}
use Rattle.pair_replay.proofs.StopLemmas.{room-iff}
use Rattle.pair_replay.proofs.LinesClose.{refused-room, lines-needed, lines-and-closing, closing-needed}
use Rattle.pair_replay.proofs.LinesRun.{first-bad-good, first-bad-bad, good-lines-good, good-lines-bad}
use Rattle.replay_parts.proofs.StopLemmas.{wrote-none, memory-is}

-- ---- a script whose first line is good

module _ (kinds : List PanelKind) (input first : List ℕ) (more : List (List ℕ)) (page : LoadedPage) (lines : lines_of input ≡ first ∷ more)
    (good : pair_line_fault 1 first ≡ None) (is : pair_line_form first ≡ Some (of_first (load page))) where
  forms-first : pair_script_forms input ≡ of_first (load page) ∷ pair_good_lines 2 more
  forms-first = ap (pair_good_lines 1) lines ∙ good-lines-good 1 first more (of_first (load page)) good is

  bad-first : pair_script_fault input ≡ pair_first_bad 2 more
  bad-first = ap pair_fault_of_lines lines ∙ first-bad-good 1 first more good

  pub report-loads : pair_report kinds input ≡ pair_rest_text (pair_first_bad 2 more) (pair_good_lines 2 more) (pair_loaded_run kinds page)
  report-loads =
      ap (λ bad. pair_text kinds bad (pair_script_forms input)) bad-first ∙ ap (pair_text kinds (pair_first_bad 2 more)) forms-first

  pub refused-loads : pair_refused kinds input
      ≡ pair_rest_refused (pair_first_bad 2 more) (pair_good_lines 2 more) (pair_loaded_run kinds page)
  refused-loads =
      ap (λ bad. pair_refused_of kinds bad (pair_script_forms input)) bad-first
      ∙ ap (pair_refused_of kinds (pair_first_bad 2 more)) forms-first

  pub room-loads : ◌≡◌ {A = Type 0} (ScriptHasRoom kinds input)
      (LinesHaveRoom (closing_or (pair_first_bad 2 more)) (pair_good_lines 2 more) (pair_loaded_run kinds page)
      (pair_loaded_run kinds page))
  room-loads =
      ap (λ bad. room_of kinds bad (pair_script_forms input)) bad-first ∙ ap (room_of kinds (pair_first_bad 2 more)) forms-first

  -- each line is judged by a moment
  pub judged-loads : {T : Type 0} (result : Result T Stop) (exit : LinkMoment)
      → AtEnd (says_of result).phase (PairLinesJudged exit (map Some kinds) more result)
      → AtEnd (says_of result).phase (IsJudged exit kinds input (says_of result).line)
  judged-loads result exit judged = by (says_of result).phase judged where
    all : PairLinesJudged exit (map Some kinds) more result → IsJudged exit kinds input (says_of result).line
    all j = record {
      moments = j.moments;
      in_order = j.in_order;
      judged = subst (λ ls. LinesJudged exit (map Some kinds) ls j.moments (says_of result).line) (sym lines)
          (subst (λ f. FirstOr f (says_of result).line (AreJudged exit 2 (map Some kinds) more j.moments (says_of result).line)) (sym good)
          j.judged);
    }

    by : (phase : Phase) → AtEnd phase (PairLinesJudged exit (map Some kinds) more result)
        → AtEnd phase (IsJudged exit kinds input (says_of result).line)
    by untouched j = tt
    by reading j = tt
    by underway j = tt
    by ended j = all j
    by anywhen j = tt

-- ---- one whose first line is not read

module _ (kinds : List PanelKind) (input first : List ℕ) (more : List (List ℕ)) (lines : lines_of input ≡ first ∷ more) where
  -- what is refused, printed and needed then
  bad-line : (fault : LineFault) → pair_line_fault 1 first ≡ Some fault
      → (pair_script_fault input ≡ Some (1, fault)) × (pair_script_forms input ≡ [])
  bad-line fault bad = (
    ap pair_fault_of_lines lines ∙ first-bad-bad 1 first more fault bad,
    ap (pair_good_lines 1) lines ∙ good-lines-bad 1 first more fault bad,
  )

  pub unread-stops : (stop : Stop) → IsRead {T = Unit {0}} (Err stop) 1 (pair_line_fault 1 first)
      → RunTells {T = Unit {0}} (Err stop) (pair_refused kinds input)
  unread-stops (Line n fault) read =
      let b = bad-line fault read.1 in
      ap (λ forms. pair_refused_of kinds (pair_script_fault input) forms) b.1 ∙ b.0 ∙ ap (λ m. Some (m, fault)) (sym read.0)
  unread-stops TooLong read = absurd read
  unread-stops ReadFault read = absurd read
  unread-stops WriteFault read = absurd read
  unread-stops LinkFault read = absurd read
  unread-stops (FrontRefused place kind) read = absurd read
  unread-stops NoRoom read = absurd read
  unread-stops Memory read = tt

  pub unread-took : (stop : Stop) (taken : Option (List ℕ)) → IsRead {T = Unit {0}} (Err stop) 1 (pair_line_fault 1 first)
      → PairRunTook {T = Unit {0}} (Err stop) taken taken (pair_report kinds input)
  unread-took (Line n fault) taken read =
      let b = bad-line fault read.1 in
      subst (λ t. Appends taken taken t) (sym (ap (λ forms. pair_text kinds (pair_script_fault input) forms) b.1)) (Appends-nil taken)
  unread-took TooLong taken read = absurd read
  unread-took ReadFault taken read = absurd read
  unread-took WriteFault taken read = absurd read
  unread-took LinkFault taken read = absurd read
  unread-took (FrontRefused place kind) taken read = absurd read
  unread-took NoRoom taken read = absurd read
  unread-took Memory taken read = wrote-none taken (pair_report kinds input)

  pub unread-room : (stop : Stop) → IsRead {T = Unit {0}} (Err stop) 1 (pair_line_fault 1 first)
      → RoomTold {T = Unit {0}} (Err stop) (ScriptHasRoom kinds input)
  unread-room (Line n fault) read =
      let b = bad-line fault read.1 in subst (λ forms. room_of kinds (pair_script_fault input) forms) (sym b.1) tt
  unread-room TooLong read = tt
  unread-room ReadFault read = tt
  unread-room WriteFault read = tt
  unread-room LinkFault read = tt
  unread-room (FrontRefused place kind) read = absurd read
  unread-room NoRoom read = absurd read
  unread-room Memory read = tt

  pub unread-judged : (stop : Stop) (exit : LinkMoment) → IsRead {T = Unit {0}} (Err stop) 1 (pair_line_fault 1 first)
      → AtEnd (says (status_of stop)).phase (IsJudged exit kinds input (says (status_of stop)).line)
  unread-judged (Line n fault) exit read = record {
    moments = [];
    in_order = tt;
    judged = subst (λ ls. LinesJudged exit (map Some kinds) ls [] (Some (n, fault))) (sym lines)
        (subst (λ f. FirstOr f (Some (n, fault)) (AreJudged exit 2 (map Some kinds) more [] (Some (n, fault)))) (sym read.1)
        (ap (λ k. Some (k, fault)) read.0));
  }
  unread-judged TooLong exit read = tt
  unread-judged ReadFault exit read = tt
  unread-judged WriteFault exit read = tt
  unread-judged LinkFault exit read = tt
  unread-judged (FrontRefused place kind) exit read = tt
  unread-judged NoRoom exit read = tt
  unread-judged Memory exit read = tt

-- ---- one that has no line

module _ (kinds : List PanelKind) (input : List ℕ) (none : lines_of input ≡ []) where
  pub no-lines-stop : pair_refused kinds input ≡ Some (1, NotLoad)
  no-lines-stop = ap (λ ls. pair_refused_of kinds (pair_fault_of_lines ls) (pair_good_lines 1 ls)) none

  pub no-lines-report : pair_report kinds input ≡ []
  no-lines-report = ap (λ ls. pair_text kinds (pair_fault_of_lines ls) (pair_good_lines 1 ls)) none

  pub no-lines-room : ScriptHasRoom kinds input
  no-lines-room = subst (λ ls. room_of kinds (pair_fault_of_lines ls) (pair_good_lines 1 ls)) (sym none) tt

  pub no-lines-judged : (exit : LinkMoment) → IsJudged exit kinds input (Some (1, NotLoad))
  no-lines-judged exit = record {
    moments = [];
    in_order = tt;
    judged = subst (λ ls. LinesJudged exit (map Some kinds) ls [] (Some (1, NotLoad))) (sym none) refl;
  }

-- ---- nothing went over the link

pub start-well : (up down : Pipe) → IsWell (pair_since up down up down)
unfolding frames_of
start-well up down =
    let none : (bytes : List ℕ) → drop (length bytes) bytes ≡ [] = λ bytes. drop_all (length bytes) bytes (omega arith) in
    let folds : IsOk (pair_fold_of [] []) = refl in
    let nothing : (bytes : List ℕ) → length (drop (length bytes) bytes) ≡ 0 = λ bytes. ap length (none bytes) in (
      subst (λ bytes. IsOk (pair_fold_of bytes (given_since down down))) (sym (none up.sent))
          (subst (λ bytes. IsOk (pair_fold_of [] bytes)) (sym (none down.given)) folds),
      (omega (arith, nothing up.given, nothing up.sent), omega (arith, nothing down.given, nothing down.sent)),
    )

module _ (result : Result (Unit {0}) Stop) (gone : IsErrAnd result (λ stop. stop ≡ Memory)) where
  pub lost-took : (taken : Option (List ℕ)) (text : List ℕ) → PairRunTook result taken taken text
  lost-took taken text =
      subst (λ (r : Result (Unit {0}) Stop). PairRunTook r taken taken text) (sym (memory-is result gone)) (wrote-none taken text)

  pub lost-tells : (bad : Option (ℕ × LineFault)) → RunTells result bad
  lost-tells bad = subst (λ (r : Result (Unit {0}) Stop). RunTells r bad) (sym (memory-is result gone)) tt

  pub lost-room : (R : Type 0) → RoomTold result R
  lost-room R = subst (λ (r : Result (Unit {0}) Stop). RoomTold r R) (sym (memory-is result gone)) tt

  pub lost-judged : (exit : LinkMoment) (panels : List (Option PanelKind)) (lines : List (List ℕ))
      → AtEnd (says_of result).phase (PairLinesJudged exit panels lines result)
  lost-judged exit panels lines =
      subst (λ (r : Result (Unit {0}) Stop). AtEnd (says_of r).phase (PairLinesJudged exit panels lines r)) (sym (memory-is result gone)) tt

  pub lost-folds : (up0 down0 up down : Pipe) → PairStopFolds result (pair_since up0 down0 up down)
  lost-folds up0 down0 up down =
      subst (λ (r : Result (Unit {0}) Stop). PairStopFolds r (pair_since up0 down0 up down)) (sym (memory-is result gone)) (tt, tt)

  pub lost-ok : (Q : Type 0) → OnOk result Q
  lost-ok Q = subst (λ (r : Result (Unit {0}) Stop). OnOk r Q) (sym (memory-is result gone)) tt

  pub lost-cause : (sink link : ℕ) → HasRunCause sink sink link link result
  lost-cause sink link =
      subst (λ (r : Result (Unit {0}) Stop). HasRunCause sink sink link link r) (sym (memory-is result gone))
      (record { sink_later = omega arith; link_later = omega arith; rose = tt; others = (refl, refl, refl) })

-- ---- lines that stopped, or came through and then the closing part

-- the room of lines that stopped
pub stopped-room : (stop : Stop) (bad : Option (ℕ × LineFault)) (forms : List PairForm) (w v : PairRun)
    → RunTells {T = Unit {0}} (Err stop) (pair_rest_refused bad forms w)
    → RoomTold {T = Unit {0}} (Err stop) (LinesHaveRoom (λ x. ⊤) forms w v)
    → RoomTold {T = Unit {0}} (Err stop) (LinesHaveRoom (closing_or bad) forms w v)
stopped-room (Line n fault) bad forms w v tells room = refused-room bad forms w v 2 (λ e. some-none (n, fault) (sym tells ∙ e)) room where
  some-none : (x : ℕ × LineFault) → ◌≡◌ {A = Option (ℕ × LineFault)} (Some x) None → ⊥
  some-none x e = absurd cc
stopped-room TooLong bad forms w v tells room = tt
stopped-room ReadFault bad forms w v tells room = tt
stopped-room WriteFault bad forms w v tells room = tt
stopped-room LinkFault bad forms w v tells room = tt
stopped-room (FrontRefused place kind) bad forms w v tells room = room
stopped-room NoRoom bad forms w v tells room = λ all. room (lines-needed (closing_or bad) forms w v all)
stopped-room Memory bad forms w v tells room = tt

-- lines that came through, and the room of the closing part
pub closed-room : (result : Result (Unit {0}) Stop) (bad : Option (ℕ × LineFault)) (forms : List PairForm) (w v : PairRun)
    → pair_rest_refused bad forms w ≡ None → LinesHaveRoom (λ x. ⊤) forms w v
    → RoomTold result (RefreshHasRoom (fresh_pair_lines (pair_shown_lines forms w) v))
    → RoomTold result (LinesHaveRoom (closing_or bad) forms w v)
closed-room result bad forms w v none lines told =
    let both = first_none (pair_first_lacking 2 forms w) bad none in
    room-iff result (RefreshHasRoom (fresh_pair_lines (pair_shown_lines forms w) v)) (LinesHaveRoom (closing_or bad) forms w v)
    (λ all. subst (λ b. closing_or b (fresh_pair_lines (pair_shown_lines forms w) v)) both.1
    (closing-needed (closing_or bad) forms w v 2 both.0 all))
    (λ last. lines-and-closing (closing_or bad) forms w v 2 both.0 lines
    (subst (λ b. closing_or b (fresh_pair_lines (pair_shown_lines forms w) v)) (sym both.1) last)) told
