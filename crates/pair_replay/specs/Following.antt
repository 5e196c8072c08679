-- What holds of a run with two front ends over every link, whatever bytes it gives.
use Rattle.std.specs.Prelude.{◌≡◌, ℕ, List, ◌∷◌, length, Option, None, Result, OnOk}
use Rattle.front_mirror.specs.declared.panels.Panel.{Ghosts}
use Rattle.front_mirror.specs.declared.panels.PanelKind.{PanelKind}
use Rattle.pipe_frames.specs.Pipe.{Pipe}
use Rattle.replay_script.specs.PairLines.{PairForm}
use Rattle.replay_script.specs.Script.{numbered_or}
use Rattle.pair_world.specs.PairLinks.{LinkMoment, IsLaterMoment, AreInOrderTo, PairStarted, pair_started, one_pair_line_more, FollowsPair}
use Rattle.pair_world.specs.PairLinks.{pair_fold_of, sent_when_pair_is_full}
use Rattle.pair_world.specs.PairFresh.{FrontValues}
use Rattle.replay_parts.specs.declared.stop.Stop.{Stop}
use Rattle.replay_parts.specs.Says.{says_of}
use Rattle.replay_parts.specs.Answers.{AtEnd, RunTells}
use Rattle.replay_parts.specs.Moments.{Moment, Scene}
use Rattle.replay_parts.specs.LinkEnds.{EachAnswered}
use Rattle.replay_parts.specs.LinkFolds.{Follower, Keeps, KeepsAnswers, KeepsAnswer}
use Rattle.pair_replay.specs.declared.two_fronts.TwoFronts.{TwoFronts}
use Rattle.pair_replay.specs.Running.{pair_ends_of}
use Rattle.pair_replay.specs.PairAnswers.{PairStopFolds, PairEndsShown, PairAnswersInOrder, pair_since, moment_of}
use Rattle.pair_replay.specs.Judged.{pair_panels_after, fault_at, AreJudged}

-- the ends follow the link; the splitter may hold whole frames that are not yet answered
abbrev pub FollowsPairWith : {P : Type 0} {g : Ghosts P} → PairStarted → (up0 down0 up down : Pipe) → TwoFronts P g → Type 0
FollowsPairWith start up0 down0 up down e = FollowsPair start up0 down0 up down e.ends.splitter.whole (pair_ends_of e)

-- the ends follow the link, and every whole frame is answered
abbrev pub FollowsPairRun : {P : Type 0} {g : Ghosts P} → PairStarted → (up0 down0 up down : Pipe) → TwoFronts P g → Type 0
FollowsPairRun start up0 down0 up down e =
    EachAnswered (λ waiting. FollowsPair start up0 down0 up down waiting (pair_ends_of e)) e.ends.splitter.whole

-- both as one
abbrev pub pair_follower : {P : Type 0} {g : Ghosts P} → Follower PairStarted (TwoFronts P g) FrontValues
pair_follower = record {
  follows = λ start up0 down0 up down waiting e. FollowsPair start up0 down0 up down waiting (pair_ends_of e);
  whole = λ e. e.ends.splitter.whole;
  fold = pair_fold_of;
  full = sent_when_pair_is_full;
}

-- a call goes on following, or stops as the fold says
abbrev pub KeepsPair : {P : Type 0} {g : Ghosts P} {T : Type 0} → Moment (TwoFronts P g) → Moment (TwoFronts P g) → Result T Stop → Type 0
KeepsPair old new result = Keeps pair_follower (λ start. start) (λ start. start) old new result

-- one that answers all whole frames
abbrev pub KeepsPairAnswers : {P : Type 0} {g : Ghosts P} {T : Type 0} → Moment (TwoFronts P g) → Moment (TwoFronts P g) → Result T Stop
    → Type 0
KeepsPairAnswers old new result = KeepsAnswers pair_follower old new result

-- one that answers this frame, before those that the splitter holds
abbrev pub KeepsPairAnswer : {P : Type 0} {g : Ghosts P} {T : Type 0} → List ℕ → Moment (TwoFronts P g) → Moment (TwoFronts P g)
    → Result T Stop → Type 0
KeepsPairAnswer frame old new result = KeepsAnswer pair_follower frame old new result

-- one that carries out a line, and may make a step of the script
abbrev pub PairLineFollows : {P : Type 0} {g : Ghosts P} {T : Type 0} → Moment (TwoFronts P g) → Moment (TwoFronts P g) → Result T Stop
    → Type 0
PairLineFollows old new result = Keeps pair_follower one_pair_line_more (λ start. start) old new result

-- a run after a line, which may have dropped a panel
abbrev pub pair_passing : PairForm → PairStarted → PairStarted
pair_passing form start = pair_started start.pair start.lines (pair_panels_after form start.panels) start.from

-- one that carries out any line
abbrev pub PairLinePasses : {P : Type 0} {g : Ghosts P} {T : Type 0} → PairForm → Moment (TwoFronts P g) → Moment (TwoFronts P g)
    → Result T Stop → Type 0
PairLinePasses form old new result = Keeps pair_follower one_pair_line_more (pair_passing form) old new result

-- a line with its number
pub record NumberedPair : Type 0 where
  pub number : ℕ
  pub form : PairForm

-- a line with its number
abbrev pub numbered_pair : ℕ → PairForm → NumberedPair
numbered_pair number form = record { number = number; form = form }

-- A line was judged at some moment of its own: by what the fold came to then; where it is refused, that moment is its end.
pub record LineJudged {T : Type 0} (before after : LinkMoment) (panels : List (Option PanelKind)) (number : ℕ) (form : PairForm)
    (result : Result T Stop) : Type 0 where
  pub moment : LinkMoment
  pub from : IsLaterMoment before moment
  pub until : IsLaterMoment moment after
  pub tells : RunTells result (numbered_or number (fault_at moment panels form) None)
  pub last : (fault_at moment panels form ≡ None → ⊥) → moment ≡ after

-- so it was, over every link
abbrev pub PairLineTells : {P : Type 0} {g : Ghosts P} {T : Type 0} → NumberedPair → Moment (TwoFronts P g) → Moment (TwoFronts P g)
    → Result T Stop → Type 0
PairLineTells line old new result =
    (start : PairStarted) (up0 down0 : Pipe) → FollowsPairRun (one_pair_line_more start) up0 down0 old.up old.down old.ends
    → AtEnd (says_of result).phase
    (LineJudged (moment_of up0 down0 old.up old.down) (moment_of up0 down0 new.up new.down) start.panels line.number line.form
    result)

-- the lines after the load were judged, each at a moment of its own
pub record PairLinesJudged (after : LinkMoment) (panels : List (Option PanelKind)) (lines : List (List ℕ)) {T : Type 0}
    (result : Result T Stop) : Type 0 where
  pub moments : List LinkMoment
  pub in_order : AreInOrderTo after moments
  pub judged : AreJudged after 2 panels lines moments (says_of result).line

-- the lines were carried out, and some panels are left
pub record PairLinesCarried {P : Type 0} {g : Ghosts P} (start : PairStarted) (up0 down0 : Pipe)
    (new : Moment (TwoFronts P g)) : Type 0 where
  pub panels : List (Option PanelKind)
  pub run : FollowsPairRun (pair_started start.pair 0 panels start.from) up0 down0 new.up new.down new.ends

-- a call that carries out these lines goes on following, or stops as the fold and the lines say
abbrev pub PairLinesFollow : {P : Type 0} {g : Ghosts P} {T : Type 0} → List (List ℕ) → Moment (TwoFronts P g) → Moment (TwoFronts P g)
    → Result T Stop → Type 0
PairLinesFollow lines old new result =
    (start : PairStarted) (up0 down0 : Pipe)
    → FollowsPairRun (pair_started start.pair (length lines) start.panels start.from) up0 down0 old.up old.down old.ends
    → OnOk result (PairLinesCarried start up0 down0 new)
    × PairStopFolds result (pair_since up0 down0 new.up new.down)
    × AtEnd (says_of result).phase (PairLinesJudged (moment_of up0 down0 new.up new.down) start.panels lines result)

-- the closing part is printed
abbrev pub PairClosesShown : {P : Type 0} {g : Ghosts P} {T : Type 0} → Scene (TwoFronts P g) → Scene (TwoFronts P g) → Result T Stop
    → Type 0
PairClosesShown old new result =
    (start : PairStarted) (up0 down0 : Pipe) → FollowsPairRun start up0 down0 old.now.up old.now.down old.now.ends
    → OnOk result (PairEndsShown old.taken new.taken (pair_since up0 down0 new.now.up new.now.down)
    × PairAnswersInOrder up0 down0 new.now.up new.now.down × IsLaterMoment start.from (moment_of up0 down0 new.now.up new.now.down))
    × PairStopFolds result (pair_since up0 down0 new.now.up new.now.down)
