-- What holds of a run over every link, whatever bytes it gives.
use Rattle.std.specs.Prelude.{◌≡◌, ◌≤◌, ℕ, List, [], ◌∷◌, ◌++◌, length, map, codes, All, Bool, true, Option, None, Result, Ok}
use Rattle.std.specs.Prelude.{OnOk}
use Rattle.std.specs.Io.KnownBytes.{Appends}
use Rattle.node_tree.specs.Numbers.{sent_when_full}
use Rattle.front_mirror.specs.declared.panels.Panel.{Ghosts}
use Rattle.pipe_frames.specs.Pipe.{Pipe, sent_since, given_since}
use Rattle.pipe_frames.specs.Frames.{frames_of}
use Rattle.front_mirror.specs.declared.panels.PanelKind.{PanelKind}
use Rattle.front_mirror.specs.Front.{FrontValue}
use Rattle.front_mirror.specs.Outline.{outline_text, seen_line}
use Rattle.replay_script.specs.Forms.{LineForm}
use Rattle.replay_script.specs.Script.{numbered_or, panels_after, want_fault, first_refused}
use Rattle.inspect_world.specs.Links.{Begun, Started, run_started, one_line_more, came_styles, Follows, fold_of}
use Rattle.inspect_world.specs.ShownReplies.{ShownReply, replies_in, reply_id}
use Rattle.inspect_replay.specs.declared.one_front.OneFront.{OneFront}
use Rattle.replay_parts.specs.declared.status.Status.{Status}
use Rattle.replay_parts.specs.declared.stop.Stop.{Stop}
use Rattle.replay_parts.specs.Says.{says, says_of}
use Rattle.replay_parts.specs.Answers.{AtEnd, RunTells}
use Rattle.inspect_replay.specs.Prints.{NumberedLine}
use Rattle.replay_parts.specs.Moments.{Moment, Scene}
use Rattle.replay_parts.specs.LinkEnds.{EachAnswered}
use Rattle.replay_parts.specs.LinkFolds.{WentOver, went_since, FoldsFrom, LessAt, ResultFolds, Follower, Keeps, KeepsAnswers, KeepsAnswer}
use Rattle.inspect_replay.specs.Runs.{ends_of}

-- ---- what the clauses of the whole call say

-- what went over a link with one front end
abbrev pub Passed : Type 0
Passed = WentOver FrontValue

-- the fold of what was sent and given since the pipes were as `up0` and `down0`
abbrev pub fold_since : (up0 down0 up down : Pipe) → Passed
fold_since up0 down0 up down = went_since fold_of up0 down0 up down

-- The front end refuses a message exactly where this fold does, with its place and its fault; and no id or serial is left only
-- where at least 2^28 bytes were sent up.
abbrev pub StatusFolds : Status → Passed → Type 0
StatusFolds status passed = FoldsFrom sent_when_full (says status).phase (says status).lie passed

-- what was written ends with `# end` and the outline of what the fold shows
pub record EndsShown (before after : Option (List ℕ)) (passed : Passed) : Type 0 where
  pub value : FrontValue
  pub is_fold : passed.fold ≡ Ok value
  pub written : List ℕ
  pub printed : Appends before after (written ++ codes "# end" ++ 10 ∷ outline_text seen_line value.tree)

-- The replies that were sent down answer the whole frames that were given up, in their order, each with its frame's id.
abbrev pub AnswersInOrder : (up0 down0 up down : Pipe) → Type 0
AnswersInOrder up0 down0 up down = map (λ (t : ShownReply). t.id) (replies_in (sent_since down0 down))
    ≡ map reply_id (frames_of (given_since up0 up)).whole

-- no more bytes were given than were sent, by what the whole call answers
abbrev pub StatusLess : Status → Passed → Type 0
StatusLess status passed = LessAt (says status).phase passed

-- ---- the same of its parts

-- what the result of a part says of both
abbrev pub StopFolds : {T : Type 0} → Result T Stop → Passed → Type 0
StopFolds result passed = ResultFolds sent_when_full result passed

-- the ends follow the link; the splitter may hold whole frames that are not yet answered
abbrev pub FollowsWith : {P : Type 0} {g : Ghosts P} → Started → (up0 down0 up down : Pipe) → OneFront P g → Type 0
FollowsWith state0 up0 down0 up down e = Follows state0 up0 down0 up down e.ends.splitter.whole (ends_of e)

-- the ends follow the link, and every whole frame is answered
abbrev pub FollowsRun : {P : Type 0} {g : Ghosts P} → Started → (up0 down0 up down : Pipe) → OneFront P g → Type 0
FollowsRun state0 up0 down0 up down e = EachAnswered (λ waiting. Follows state0 up0 down0 up down waiting (ends_of e)) e.ends.splitter.whole

-- both as one
abbrev pub one_follower : {P : Type 0} {g : Ghosts P} → Follower Started (OneFront P g) FrontValue
one_follower = record {
  follows = λ start up0 down0 up down waiting e. Follows start up0 down0 up down waiting (ends_of e);
  whole = λ e. e.ends.splitter.whole;
  fold = fold_of;
  full = sent_when_full;
}

-- a call goes on following, or stops as the fold says
abbrev pub KeepsFollowing : {P : Type 0} {g : Ghosts P} {T : Type 0} → Moment (OneFront P g) → Moment (OneFront P g) → Result T Stop
    → Type 0
KeepsFollowing old new result = Keeps one_follower (λ start. start) (λ start. start) old new result

-- a call that carries out a line, and may make a step of the script, goes on following or stops as the fold says
abbrev pub LineFollows : {P : Type 0} {g : Ghosts P} {T : Type 0} → Moment (OneFront P g) → Moment (OneFront P g) → Result T Stop → Type 0
LineFollows old new result = Keeps one_follower one_line_more (λ start. start) old new result

-- a run after a line, which may have dropped a panel
abbrev pub passing : LineForm → Started → Started
passing form start = run_started start.state start.lines start.shown (panels_after form start.panels)

-- a call that carries out any line goes on following or stops as the fold says
abbrev pub LinePasses : {P : Type 0} {g : Ghosts P} {T : Type 0} → Moment (OneFront P g) → Moment (OneFront P g) → LineForm
    → Result T Stop → Type 0
LinePasses old new form result = Keeps one_follower one_line_more (passing form) old new result

-- these asks are among those whose matched styles came
abbrev pub AllCame : Passed → List ℕ → Type 0
AllCame passed asks = All (λ ask. came_styles passed.fold ask ≡ true) asks

-- A line is refused exactly where it drops a panel that does not stand open, or shows matched styles that did not come; what was shown
-- before is there still.
abbrev pub LineTells : {P : Type 0} {g : Ghosts P} {T : Type 0} → Moment (OneFront P g) → Moment (OneFront P g) → NumberedLine
    → Result T Stop
    → Type 0
LineTells old new line result =
    (state0 : Started) (up0 down0 : Pipe) → FollowsRun (one_line_more state0) up0 down0 old.up old.down old.ends
    → RunTells result (numbered_or line.number
    (want_fault (came_styles (fold_since up0 down0 new.up new.down).fold) state0.panels line.form) None)
    × AtEnd (says_of result).phase (AllCame (fold_since up0 down0 new.up new.down) state0.shown)

-- The lines were carried out: while the matched styles of the asks that they show are there, none of them is refused.
pub record LinesCarried {P : Type 0} {g : Ghosts P} (begun : Begun) (up0 down0 : Pipe) (new : Moment (OneFront P g))
    (lines : List (List ℕ)) : Type 0 where
  pub shown : List ℕ
  pub panels : List (Option PanelKind)
  pub run : FollowsRun (run_started begun.state 0 shown panels) up0 down0 new.up new.down new.ends
  pub none : (there : ℕ → Bool) → All (λ ask. there ask ≡ true) shown → first_refused there begun.panels 2 lines ≡ None

-- a call that carries out these lines, the first of which has the number 2, goes on following or stops as the fold says
abbrev pub LinesFollow : {P : Type 0} {g : Ghosts P} {T : Type 0} → Moment (OneFront P g) → Moment (OneFront P g) → List (List ℕ)
    → Result T Stop
    → Type 0
LinesFollow old new lines result =
    (begun : Begun) (up0 down0 : Pipe)
    → FollowsRun (run_started begun.state (length lines) [] begun.panels) up0 down0 old.up old.down old.ends
    → OnOk result (LinesCarried begun up0 down0 new lines)
    × StopFolds result (fold_since up0 down0 new.up new.down)
    × RunTells result (first_refused (came_styles (fold_since up0 down0 new.up new.down).fold) begun.panels 2 lines)

-- a call that answers all whole frames goes on following or stops as the fold says
abbrev pub FollowsAnswers : {P : Type 0} {g : Ghosts P} {T : Type 0} → Moment (OneFront P g) → Moment (OneFront P g) → Result T Stop
    → Type 0
FollowsAnswers old new result = KeepsAnswers one_follower old new result

-- a call that answers this frame, before those that the splitter holds, goes on following or stops as the fold says
abbrev pub FollowsAnswer : {P : Type 0} {g : Ghosts P} {T : Type 0} → Moment (OneFront P g) → Moment (OneFront P g) → List ℕ
    → Result T Stop → Type 0
FollowsAnswer old new frame result = KeepsAnswer one_follower frame old new result

-- the closing part is printed
abbrev pub ClosesShown : {P : Type 0} {g : Ghosts P} {T : Type 0} → Scene (OneFront P g) → Scene (OneFront P g) → Result T Stop → Type 0
ClosesShown old new result =
    (state0 : Started) (up0 down0 : Pipe) → FollowsRun state0 up0 down0 old.now.up old.now.down old.now.ends
    → OnOk result (EndsShown old.taken new.taken (fold_since up0 down0 new.now.up new.now.down)
    × AnswersInOrder up0 down0 new.now.up new.now.down
    × AllCame (fold_since up0 down0 new.now.up new.now.down) state0.shown)
    × StopFolds result (fold_since up0 down0 new.now.up new.now.down)
