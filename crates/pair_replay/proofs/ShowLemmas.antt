-- What the shows of a front end print is what its client sees of the page, and what came to it.
use Rattle.std.proofs.Common.{◌≡◌, ℕ, ◌+◌, List, [], ◌∷◌, ◌++◌, length, map, drop, Bool, true, false, cond, is_some, Option, Some}
use Rattle.std.proofs.Common.{None, codes, refl, sym, ◌∙◌, ap, subst, arith, Result, Ok, Err}
use Rattle.std.proofs.lemmas.List.{drop-map, length-map}
use Rattle.std.specs.Result.{OnOk, OnErr}
use Rattle.std.specs.Io.KnownBytes.{Appends}
use Rattle.front_mirror.specs.declared.panels.Panel.{Ghosts}
use Rattle.front_mirror.specs.declared.pauses.SeenPause.{SeenPause}
use Rattle.front_mirror.specs.declared.replies.Kept.{Kept}
use Rattle.front_mirror.specs.declared.sheets.KnownSheet.{KnownSheet}
use Rattle.front_mirror.specs.Front.{FrontState, seen_pause, matched_in}
use Rattle.front_mirror.specs.Outline.{outline_text, seen_line}
use Rattle.pipe_frames.specs.Pipe.{Pipe}
use Rattle.pipe_frames.specs.Whole.{WrotePart}
use Rattle.pipe_frames.proofs.WholeLemmas.{WrotePart-after}
use Rattle.node_tree.specs.Nodes.{Nodes}
use Rattle.node_tree.specs.Seen.{Seen}
use Rattle.css_objects.specs.declared.rules.Matched.{Matched}
use Rattle.replay_script.specs.Forms.{show_front, show_sheets, show_replies, show_pauses, show_panels, show_styles}
use Rattle.replay_script.specs.Script.{numbered_or, styles_missing}
use Rattle.replay_script.specs.PairLines.{of_first}
use Rattle.back_end.specs.States.{sheets_shown, view_of}
use Rattle.session_runs.specs.Pairs.{Second}
use Rattle.multi_replay.specs.States.{StatePair, is_there, front_meant, at_rest}
use Rattle.inspect_world.specs.World.{AlreadyTold}
use Rattle.inspect_world.specs.RunStates.{styles_under}
use Rattle.inspect_world.specs.Scripts.{styles_shown_headed}
use Rattle.inspect_world.specs.ShownReplies.{reply_shown, told_lines}
use Rattle.inspect_world.specs.ShownPauses.{pause_lines, seen_pause_lines}
use Rattle.inspect_world.specs.SheetTexts.{known_lines}
use Rattle.inspect_world.specs.PanelTexts.{panels_text}
use Rattle.inspect_world.proofs.ShownSheets.{fresh-lines}
use Rattle.pair_world.specs.PairRuns.{PairAudience, told_on, with_told, PairRun, pair_settled, state_on}
use Rattle.pair_world.specs.PairScripts.{pair_telling, pair_replies, pair_pauses, told_by_form, heading_on, mark_on}
use Rattle.pair_world.specs.PairScripts.{new_replies, new_pauses, styles_on, pair_panels, show_text, met_in}
use Rattle.pair_world.specs.PairFresh.{pair_refreshes}
use Rattle.replay_parts.specs.declared.stop.Stop.{Stop}
use Rattle.replay_parts.specs.Moments.{Moment, moment, scene}
use Rattle.replay_parts.specs.Stops.{HasStopCause, GoesWell}
use Rattle.replay_parts.specs.Answers.{RunTells, RunTook}
use Rattle.pair_replay.specs.declared.two_fronts.TwoFronts.{TwoFronts}
use Rattle.pair_replay.specs.declared.two_fronts.ToldCounts.{ToldCounts}
use Rattle.pair_replay.specs.Tellings.{told_seen}
use Rattle.pair_replay.specs.PairStarts.{told_held, with_told_held, second_end_text}
use Rattle.pair_replay.specs.PairAnswers.{PairRunTook}
use Rattle.pair_replay.specs.Running.{pair_ends_of, InPairPlay, PairSteps, refreshing}
use Rattle.pair_replay.specs.Playing.{PairCarries, numbered_pair, text_unless}
use Rattle.pair_replay.proofs.StopLemmas.{prints-took, run-took, room-there}
use Rattle.pair_replay.proofs.LineFaults.{came_to, heading-text}
use Rattle.pair_world.specs.PairLinks.{PairStarted}
use Rattle.pair_replay.specs.Following.{FollowsPairRun, KeepsPair}
use Rattle.pair_replay.proofs.PairFollows.{run-told, run-well}
use Rattle.pair_replay.proofs.LineRuns.{Settled, settle-made, settled-told, settled-play, settled-telling, SettlesFirst, ShowSays}
use Rattle.pair_replay.proofs.LineRuns.{line-counts}
use Rattle.replay_parts.proofs.StopLemmas.{closed-tells, after-ok}
use Rattle.replay_parts.proofs.PauseLineLemmas.{same-pauses}
use Rattle.replay_parts.proofs.StyleLineLemmas.{under-kept}

-- a printed text is the one that is asked for
pub same-took : (result : Result (Unit {0}) Stop) (sink0 sink1 link0 link1 : ℕ) (before after : Option (List ℕ)) (text text1 : List ℕ)
    → HasStopCause sink0 sink1 link0 link1 result → GoesWell result → text ≡ text1
    → OnOk result (Appends before after text) → OnErr result (WrotePart before after text) → PairRunTook result before after text1
same-took result sink0 sink1 link0 link1 before after text text1 cause well same ok err =
    subst (λ t. PairRunTook result before after t) same (prints-took result sink0 sink1 link0 link1 before after text cause well ok err)

-- ---- the outline and the sheets

module _ {P : Type 0} {g : Ghosts P} (second : Bool) (result : Result (Unit {0}) Stop) (mid : Moment (TwoFronts P g))
    (taken taken1 : Option (List ℕ))
    (number sink0 sink1 link0 link1 : ℕ) (cause : HasStopCause sink0 sink1 link0 link1 result) (well : GoesWell result)
    (there : is_there second mid.ends.fronts.pair ≡ true) (heading : List ℕ) where
  pub front-says : (tree : Nodes Seen) → heading ≡ cond second (codes "# front 2") (codes "# front")
      → tree ≡ (front_meant second mid.ends.fronts.pair).value.tree
      → OnOk result (Appends taken taken1 (heading ++ 10 ∷ outline_text seen_line tree))
      → OnErr result (WrotePart taken taken1 (heading ++ 10 ∷ outline_text seen_line tree))
      → (up0 down0 : Pipe) (more : ℕ) (w v : PairRun) → Settled mid.honest up0 down0 mid.up mid.down (more + 3) w v mid.ends
      → ShowSays second show_front result mid mid taken taken1 number up0 down0 more w v
  front-says tree heading_is tree_is ok err up0 down0 more w v s =
      let shows = s.shown second there in
      let text : heading ++ 10 ∷ outline_text seen_line tree ≡ show_text second show_front (pair_settled w) =
      ap (λ hs. hs ++ 10 ∷ outline_text seen_line tree) heading_is
      ∙ heading-text second (codes "# front") (codes "# front 2") (outline_text seen_line tree) refl
      ∙ ap (λ t. heading_on second (codes "# front") ++ outline_text seen_line t) (tree_is ∙ shows.has.tree) in
      record {
        play = after-ok result (settled-play mid.honest up0 down0 mid.up mid.down (more + 3) w v mid.ends s more (omega arith));
        took = same-took result sink0 sink1 link0 link1 taken taken1 (heading ++ 10 ∷ outline_text seen_line tree)
            (show_text second show_front (pair_settled w)) cause well text ok err;
        tells = closed-tells result sink0 sink1 link0 link1 None refl cause;
      }

  pub sheets-say : (sheets : List KnownSheet) → heading ≡ cond second (codes "# sheets 2") (codes "# sheets")
      → sheets ≡ (front_meant second mid.ends.fronts.pair).value.sheets
      → OnOk result (Appends taken taken1 (heading ++ 10 ∷ known_lines sheets))
      → OnErr result (WrotePart taken taken1 (heading ++ 10 ∷ known_lines sheets))
      → (up0 down0 : Pipe) (more : ℕ) (w v : PairRun) → Settled mid.honest up0 down0 mid.up mid.down (more + 3) w v mid.ends
      → ShowSays second show_sheets result mid mid taken taken1 number up0 down0 more w v
  sheets-say sheets heading_is sheets_are ok err up0 down0 more w v s =
      let shows = s.shown second there in
      let value = (front_meant second mid.ends.fronts.pair).value in
      let shown = sheets_shown (state_on second (pair_settled w).state) in
      let text : heading ++ 10 ∷ known_lines sheets ≡ show_text second show_sheets (pair_settled w) =
      ap (λ hs. hs ++ 10 ∷ known_lines sheets) heading_is
      ∙ heading-text second (codes "# sheets") (codes "# sheets 2") (known_lines sheets) refl
      ∙ ap (λ t. heading_on second (codes "# sheets") ++ t)
      (ap known_lines sheets_are ∙ fresh-lines value.sheets shown shows.has.sheets shows.fresh) in
      record {
        play = after-ok result (settled-play mid.honest up0 down0 mid.up mid.down (more + 3) w v mid.ends s more (omega arith));
        took = same-took result sink0 sink1 link0 link1 taken taken1 (heading ++ 10 ∷ known_lines sheets)
            (show_text second show_sheets (pair_settled w)) cause well text ok err;
        tells = closed-tells result sink0 sink1 link0 link1 None refl cause;
      }

-- ---- what is told

-- as many came as were told of the front end that is meant
ends-told : {P : Type 0} {g : Ghosts P} (second : Bool) (e e1 : TwoFronts P g) (t : ToldCounts) (told : PairAudience) (n : AlreadyTold)
    → e1 ≡ with_told_held second t e → told_seen t ≡ n → ((b : Bool) → told_seen (told_held b e) ≡ told_on b told)
    → pair_ends_of e1
    ≡ record (pair_ends_of e) { first_told = (with_told second n told).first; second_told = (with_told second n told).second }
ends-told false e e1 t told n is same others =
    ap pair_ends_of is ∙ (λ i. record (pair_ends_of e) { first_told = same i; second_told = others true i })
ends-told true e e1 t told n is same others =
    ap pair_ends_of is ∙ (λ i. record (pair_ends_of e) { first_told = others false i; second_told = same i })

splitter-told : {P : Type 0} {g : Ghosts P} (second : Bool) (t : ToldCounts) (e : TwoFronts P g)
    → (with_told_held second t e).ends.splitter ≡ e.ends.splitter
splitter-told false t e = refl
splitter-told true t e = refl

panels-told : (second : Bool) (n : AlreadyTold) (told : PairAudience) → (with_told second n told).panels ≡ told.panels
panels-told false n told = refl
panels-told true n told = refl

-- what was told of the front end that is meant says nothing of the link
pub told-run : {P : Type 0} {g : Ghosts P} (second : Bool) (start : PairStarted) (up0 down0 up down : Pipe) (e e1 : TwoFronts P g)
    (t : ToldCounts)
    → e1 ≡ with_told_held second t e → FollowsPairRun start up0 down0 up down e → FollowsPairRun start up0 down0 up down e1
told-run false start up0 down0 up down e e1 t is run =
    subst (λ x. FollowsPairRun start up0 down0 up down x) (sym is)
    (run-told start up0 down0 up down e (with_told_held false t e) refl refl run)
told-run true start up0 down0 up down e e1 t is run =
    subst (λ x. FollowsPairRun start up0 down0 up down x) (sym is)
    (run-told start up0 down0 up down e (with_told_held true t e) refl refl run)

-- nor does a call after which so much was told
pub keeps-told : {P : Type 0} {g : Ghosts P} (second : Bool) (old mid : Moment (TwoFronts P g)) (e : TwoFronts P g) (t : ToldCounts)
    → e ≡ with_told_held second t mid.ends → KeepsPair {T = Unit {0}} old mid (Ok tt)
    → KeepsPair {T = Unit {0}} old (record mid { ends = e }) (Ok tt)
keeps-told second old mid e t is keeps = λ start up0 down0 run.
    let told = told-run second start up0 down0 mid.up mid.down mid.ends e t is (keeps start up0 down0 run).0 in
    (told, run-well start up0 down0 mid.up mid.down e told)

-- both runs go on, with so much told
pub told-play : {P : Type 0} {g : Ghosts P} (second : Bool) (honest : Type 0) (up0 down0 up down : Pipe) (more : ℕ) (w v : PairRun)
    (e e1 : TwoFronts P g) (t : ToldCounts) (n : AlreadyTold) (told1 : PairAudience)
    → Settled honest up0 down0 up down (more + 3) w v e → e1 ≡ with_told_held second t e → told_seen t ≡ n
    → InPairPlay honest up0 down0 up down more (pair_telling (with_told second n w.told) (pair_settled w))
    (pair_telling told1 (pair_refreshes v)) e1
told-play second honest up0 down0 up down more w v e e1 t n told1 s is same =
    settled-telling honest up0 down0 up down (more + 3) w v e s more (with_told second n w.told) told1 e1 (omega arith)
    (panels-told second n w.told)
    (ends-told second e e1 t w.told n is same (settled-told honest up0 down0 up down (more + 3) w v e s))
    (ap (λ (x : TwoFronts _ _). x.ends.splitter) is ∙ splitter-told second t e)

-- ---- the replies

module _ {P : Type 0} {g : Ghosts P} (second : Bool) (mid : Moment (TwoFronts P g)) (taken taken1 : Option (List ℕ))
    (number sink0 sink1 link0 link1 : ℕ) (there : is_there second mid.ends.fronts.pair ≡ true) (heading : List ℕ) (told : ToldCounts)
    (told_is : told ≡ told_held second mid.ends) where
  -- those that are printed are new
  replies-new : (replies : List Kept) → heading ≡ cond second (codes "# replies 2") (codes "# replies")
      → replies ≡ (front_meant second mid.ends.fronts.pair).value.replies
      → (up0 down0 : Pipe) (more : ℕ) (w v : PairRun) → Settled mid.honest up0 down0 mid.up mid.down (more + 3) w v mid.ends
      → heading ++ 10 ∷ told_lines (map reply_shown (drop told.replies replies)) ≡ show_text second show_replies (pair_settled w)
  replies-new replies heading_is replies_are up0 down0 more w v s =
      let shows = s.shown second there in
      let came = pair_replies second (pair_settled w) in
      let count : told.replies ≡ (told_on second w.told).replies =
      ap (λ (t : ToldCounts). t.replies) told_is
      ∙ ap (λ (n : AlreadyTold). n.replies) (settled-told mid.honest up0 down0 mid.up mid.down (more + 3) w v mid.ends s second) in
      let kept : map reply_shown (drop told.replies replies) ≡ new_replies second (pair_settled w) =
      sym (drop-map reply_shown told.replies replies)
      ∙ ap (drop told.replies) (ap (map reply_shown) replies_are ∙ shows.told)
      ∙ ap (λ n. drop n came) count in
      ap (λ hs. hs ++ 10 ∷ told_lines (map reply_shown (drop told.replies replies))) heading_is
      ∙ heading-text second (codes "# replies") (codes "# replies 2") (told_lines (map reply_shown (drop told.replies replies))) refl
      ∙ ap (λ ts. heading_on second (codes "# replies") ++ told_lines ts) kept

  -- they were printed, and count as told
  pub replies-said : (replies : List Kept) (e1 : TwoFronts P g) (count : ℕ) → heading ≡ cond second (codes "# replies 2")
      (codes "# replies")
      → replies ≡ (front_meant second mid.ends.fronts.pair).value.replies → count ≡ length replies
      → e1 ≡ with_told_held second (record { replies = count; pauses = told.pauses }) mid.ends
      → Appends taken taken1 (heading ++ 10 ∷ told_lines (map reply_shown (drop told.replies replies)))
      → (up0 down0 : Pipe) (more : ℕ) (w v : PairRun) → Settled mid.honest up0 down0 mid.up mid.down (more + 3) w v mid.ends
      → ShowSays second show_replies (Ok tt) mid (moment mid.honest mid.up mid.down e1) taken taken1 number up0 down0 more w v
  replies-said replies e1 count heading_is replies_are all ends ok up0 down0 more w v s =
      let shows = s.shown second there in
      let so_far = settled-told mid.honest up0 down0 mid.up mid.down (more + 3) w v mid.ends s second in
      let n : AlreadyTold = record {
        replies = length (pair_replies second (pair_settled w));
        pauses = (told_on second w.told).pauses;
      } in
      let here : count ≡ n.replies =
      all ∙ ap length replies_are ∙ sym (length-map (front_meant second mid.ends.fronts.pair).value.replies reply_shown)
      ∙ ap length shows.told in
      let pauses : told.pauses ≡ n.pauses = ap (λ (t : ToldCounts). t.pauses) told_is ∙ ap (λ (x : AlreadyTold). x.pauses) so_far in
      record {
        play = told-play second mid.honest up0 down0 mid.up mid.down more w v mid.ends e1
            (record { replies = count; pauses = told.pauses }) n
            (told_by_form second show_replies (pair_refreshes v)) s ends (λ i. record { replies = here i; pauses = pauses i });
        took = subst (λ t. Appends taken taken1 t) (replies-new replies heading_is replies_are up0 down0 more w v s) ok;
        tells = refl;
      }

  -- or they were not
  pub replies-stop : (replies : List Kept) (stop : Stop) → heading ≡ cond second (codes "# replies 2") (codes "# replies")
      → replies ≡ (front_meant second mid.ends.fronts.pair).value.replies
      → HasStopCause {T = Unit {0}} sink0 sink1 link0 link1 (Err stop) → GoesWell {T = Unit {0}} (Err stop)
      → WrotePart taken taken1 (heading ++ 10 ∷ told_lines (map reply_shown (drop told.replies replies)))
      → (up0 down0 : Pipe) (more : ℕ) (w v : PairRun) → Settled mid.honest up0 down0 mid.up mid.down (more + 3) w v mid.ends
      → ShowSays second show_replies (Err stop) mid mid taken taken1 number up0 down0 more w v
  replies-stop replies stop heading_is replies_are cause well err up0 down0 more w v s = record {
    play = tt;
    took = same-took (Err stop) sink0 sink1 link0 link1 taken taken1
        (heading ++ 10 ∷ told_lines (map reply_shown (drop told.replies replies)))
        (show_text second show_replies (pair_settled w)) cause well
        (replies-new replies heading_is replies_are up0 down0 more w v s) tt err;
    tells = closed-tells (Err stop) sink0 sink1 link0 link1 None refl cause;
  }

-- ---- the pauses

module _ {P : Type 0} {g : Ghosts P} (second : Bool) (mid : Moment (TwoFronts P g)) (taken taken1 : Option (List ℕ))
    (number sink0 sink1 link0 link1 : ℕ) (there : is_there second mid.ends.fronts.pair ≡ true) (heading : List ℕ) (told : ToldCounts)
    (told_is : told ≡ told_held second mid.ends) where
  -- those that are printed are new
  pauses-new : (pauses : List SeenPause) → heading ≡ cond second (codes "# pauses 2") (codes "# pauses")
      → pauses ≡ (front_meant second mid.ends.fronts.pair).value.pauses
      → (up0 down0 : Pipe) (more : ℕ) (w v : PairRun) → Settled mid.honest up0 down0 mid.up mid.down (more + 3) w v mid.ends
      → heading ++ 10 ∷ seen_pause_lines (drop told.pauses pauses) ≡ show_text second show_pauses (pair_settled w)
  pauses-new pauses heading_is pauses_are up0 down0 more w v s =
      let shows = s.shown second there in
      let came = pair_pauses second (pair_settled w) in
      let count : told.pauses ≡ (told_on second w.told).pauses =
      ap (λ (t : ToldCounts). t.pauses) told_is
      ∙ ap (λ (n : AlreadyTold). n.pauses) (settled-told mid.honest up0 down0 mid.up mid.down (more + 3) w v mid.ends s second) in
      let lines : seen_pause_lines (drop told.pauses pauses) ≡ pause_lines (new_pauses second (pair_settled w)) =
      ap (λ ps. seen_pause_lines (drop told.pauses ps)) (pauses_are ∙ shows.pauses)
      ∙ ap (λ n. seen_pause_lines (drop n (map seen_pause came))) count
      ∙ ap seen_pause_lines (drop-map seen_pause (told_on second w.told).pauses came)
      ∙ same-pauses (new_pauses second (pair_settled w)) in
      ap (λ hs. hs ++ 10 ∷ seen_pause_lines (drop told.pauses pauses)) heading_is
      ∙ heading-text second (codes "# pauses") (codes "# pauses 2") (seen_pause_lines (drop told.pauses pauses)) refl
      ∙ ap (λ t. heading_on second (codes "# pauses") ++ t) lines

  -- they were printed, and count as told
  pub pauses-said : (pauses : List SeenPause) (e1 : TwoFronts P g) (count : ℕ)
      → heading ≡ cond second (codes "# pauses 2") (codes "# pauses")
      → pauses ≡ (front_meant second mid.ends.fronts.pair).value.pauses → count ≡ length pauses
      → e1 ≡ with_told_held second (record { replies = told.replies; pauses = count }) mid.ends
      → Appends taken taken1 (heading ++ 10 ∷ seen_pause_lines (drop told.pauses pauses))
      → (up0 down0 : Pipe) (more : ℕ) (w v : PairRun) → Settled mid.honest up0 down0 mid.up mid.down (more + 3) w v mid.ends
      → ShowSays second show_pauses (Ok tt) mid (moment mid.honest mid.up mid.down e1) taken taken1 number up0 down0 more w v
  pauses-said pauses e1 count heading_is pauses_are all ends ok up0 down0 more w v s =
      let shows = s.shown second there in
      let so_far = settled-told mid.honest up0 down0 mid.up mid.down (more + 3) w v mid.ends s second in
      let came = pair_pauses second (pair_settled w) in
      let n : AlreadyTold = record { replies = (told_on second w.told).replies; pauses = length came } in
      let here : count ≡ n.pauses = all ∙ ap length (pauses_are ∙ shows.pauses) ∙ length-map came seen_pause in
      let replies : told.replies ≡ n.replies = ap (λ (t : ToldCounts). t.replies) told_is ∙ ap (λ (x : AlreadyTold). x.replies) so_far in
      record {
        play = told-play second mid.honest up0 down0 mid.up mid.down more w v mid.ends e1
            (record { replies = told.replies; pauses = count }) n
            (told_by_form second show_pauses (pair_refreshes v)) s ends (λ i. record { replies = replies i; pauses = here i });
        took = subst (λ t. Appends taken taken1 t) (pauses-new pauses heading_is pauses_are up0 down0 more w v s) ok;
        tells = refl;
      }

  -- or they were not
  pub pauses-stop : (pauses : List SeenPause) (stop : Stop) → heading ≡ cond second (codes "# pauses 2") (codes "# pauses")
      → pauses ≡ (front_meant second mid.ends.fronts.pair).value.pauses
      → HasStopCause {T = Unit {0}} sink0 sink1 link0 link1 (Err stop) → GoesWell {T = Unit {0}} (Err stop)
      → WrotePart taken taken1 (heading ++ 10 ∷ seen_pause_lines (drop told.pauses pauses))
      → (up0 down0 : Pipe) (more : ℕ) (w v : PairRun) → Settled mid.honest up0 down0 mid.up mid.down (more + 3) w v mid.ends
      → ShowSays second show_pauses (Err stop) mid mid taken taken1 number up0 down0 more w v
  pauses-stop pauses stop heading_is pauses_are cause well err up0 down0 more w v s = record {
    play = tt;
    took = same-took (Err stop) sink0 sink1 link0 link1 taken taken1 (heading ++ 10 ∷ seen_pause_lines (drop told.pauses pauses))
        (show_text second show_pauses (pair_settled w)) cause well (pauses-new pauses heading_is pauses_are up0 down0 more w v s) tt err;
    tells = closed-tells (Err stop) sink0 sink1 link0 link1 None refl cause;
  }

-- ---- matched styles

-- of which asks they came, in the run
came-run : (second : Bool) (w : PairRun) (ask : ℕ) → came_to second (met_in w) ask ≡ is_some (styles_on second (pair_settled w) ask)
came-run false w ask = refl
came-run true w ask = refl

-- where none came, nothing is printed
unless-missing : (mark : List ℕ) (ask : ℕ) (o : Option Matched)
    → styles_shown_headed mark ask o ≡ text_unless (styles_missing (is_some o)) (styles_shown_headed mark ask o)
unless-missing mark ask None = refl
unless-missing mark ask (Some m) = refl

marked : (second : Bool) → cond second (codes " 2") [] ≡ mark_on second
marked false = refl
marked true = refl

pub styles-say : {P : Type 0} {g : Ghosts P} (second : Bool) (result : Result (Unit {0}) Stop) (mid : Moment (TwoFronts P g))
    (taken taken1 : Option (List ℕ)) (number ask : ℕ) (behind : List ℕ) (found : Option Matched)
    → is_there second mid.ends.fronts.pair ≡ true → behind ≡ cond second (codes " 2") []
    → found ≡ matched_in ask (front_meant second mid.ends.fronts.pair).value.matched
    → RunTook result taken taken1 (styles_shown_headed behind ask found)
    → RunTells result (numbered_or number (styles_missing (is_some found)) None)
    → (up0 down0 : Pipe) (more : ℕ) (w v : PairRun) → Settled mid.honest up0 down0 mid.up mid.down (more + 3) w v mid.ends
    → ShowSays second (show_styles ask) result mid mid taken taken1 number up0 down0 more w v
styles-say second result mid taken taken1 number ask behind found there behind_is found_is took tells up0 down0 more w v s =
    let shows = s.shown second there in
    let value = (front_meant second mid.ends.fronts.pair).value in
    let o = styles_on second (pair_settled w) ask in
    let same : found ≡ o = found_is ∙ sym (under-kept ask value.matched) ∙ ap (styles_under ask) shows.styles in
    let came : styles_missing (is_some found) ≡ styles_missing (came_to second (met_in w) ask) =
    ap (λ x. styles_missing (is_some x)) same ∙ ap styles_missing (sym (came-run second w ask)) in
    let text : styles_shown_headed behind ask found
    ≡ text_unless (styles_missing (came_to second (met_in w) ask)) (styles_shown_headed (mark_on second) ask o) =
    ap (λ b. styles_shown_headed b ask found) (behind_is ∙ marked second)
    ∙ ap (styles_shown_headed (mark_on second) ask) same
    ∙ unless-missing (mark_on second) ask o
    ∙ ap (λ b. text_unless (styles_missing b) (styles_shown_headed (mark_on second) ask o)) (sym (came-run second w ask)) in
    record {
      play = after-ok result (settled-play mid.honest up0 down0 mid.up mid.down (more + 3) w v mid.ends s more (omega arith));
      took = subst (λ t. PairRunTook result taken taken1 t) text
          (run-took result taken taken1 (styles_shown_headed behind ask found) took);
      tells = subst (λ f. RunTells result (numbered_or number f None)) came tells;
    }

-- ---- the panels

-- a show of the panels settles first
pub panels-first : SettlesFirst (of_first show_panels)
panels-first = record { good = λ w v same lacks room. room.0; bad = refl }

-- what the panels show that stand open: they are told of the first front end
pub panels-carry : {P : Type 0} {g : Ghosts P} (result : Result (Unit {0}) Stop) (old mid : Moment (TwoFronts P g))
    (taken taken1 : Option (List ℕ))
    (number sink0 sink1 link0 link1 : ℕ) (front : FrontState)
    → HasStopCause sink0 sink1 link0 link1 result → GoesWell result → PairSteps {T = Unit {0}} 0 old mid (Ok tt) refreshing
    → at_rest front ≡ mid.ends.fronts.pair.one
    → (front.dead ≡ false → OnOk result (Appends taken taken1 (codes "# panels" ++ 10 ∷ panels_text front.panels front.value.tree)))
    → (front.dead ≡ false → OnErr result (WrotePart taken taken1 (codes "# panels" ++ 10 ∷ panels_text front.panels front.value.tree)))
    → PairCarries (numbered_pair number (of_first show_panels)) (scene old taken) (scene mid taken1) result
panels-carry result old mid taken taken1 number sink0 sink1 link0 link1 front cause well steps is ok err = λ up0 down0 more w v play.
    let s : Settled mid.honest up0 down0 mid.up mid.down (more + 3) w v mid.ends =
    settle-made old mid steps up0 down0 (more + 3) w v
    (subst (λ n. InPairPlay old.honest up0 down0 old.up old.down n w v old.ends) (line-counts more) play) in
    let shows = s.shown false refl in
    let world = s.in_run.so_far.in_world in
    let alive : front.dead ≡ false = ap (λ (f : FrontState). f.dead) is ∙ world.first_alive in
    let panels : front.panels ≡ w.told.panels = ap (λ (f : FrontState). f.panels) is ∙ world.panels in
    let tree : front.value.tree ≡ (view_of (state_on false (pair_settled w).state)).tree =
    ap (λ (f : FrontState). f.value.tree) is ∙ shows.has.tree in
    let text : codes "# panels" ++ 10 ∷ panels_text front.panels front.value.tree ≡ codes "# panels" ++ 10 ∷ pair_panels (pair_settled w) =
    ap (λ ps. codes "# panels" ++ 10 ∷ panels_text ps front.value.tree) panels
    ∙ ap (λ t. codes "# panels" ++ 10 ∷ panels_text w.told.panels t) tree in (
      after-ok result (settled-play mid.honest up0 down0 mid.up mid.down (more + 3) w v mid.ends s more (omega arith)),
      same-took result sink0 sink1 link0 link1 taken taken1 (codes "# panels" ++ 10 ∷ panels_text front.panels front.value.tree)
          (codes "# panels" ++ 10 ∷ pair_panels (pair_settled w)) cause well text (ok alive) (err alive),
      closed-tells result sink0 sink1 link0 link1 None refl cause,
      room-there result _ well ((s.room, tt), tt),
    )

-- ---- the closing part

-- what is printed of the second front end, where it stands
pub second-end : (p : StatePair) → is_there true p ≡ true
    → second_end_text p.two ≡ codes "# end 2" ++ 10 ∷ outline_text seen_line (front_meant true p).value.tree
second-end p there = by p.two there where
  by : (two : Option (Second FrontState (List ℕ))) → is_some two ≡ true
      → second_end_text two ≡ codes "# end 2" ++ 10 ∷ outline_text seen_line (front_meant true (record p { two = two })).value.tree
  by None there = absurd cc
  by (Some w) there = refl

-- a text was written, and the front part of the next
pub err-after : {T : Type 0} (result : Result T Stop) (before between after : Option (List ℕ)) (text more : List ℕ)
    → Appends before between text → OnErr result (WrotePart between after more) → OnErr result (WrotePart before after (text ++ more))
err-after (Ok value) before between after text more first wrote = tt
err-after (Err stop) before between after text more first wrote = WrotePart-after before between after text more first wrote
