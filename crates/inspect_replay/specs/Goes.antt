-- What a call on the link and the ends keeps, whatever it answers, and where it leads: four facts of the moments before and after it.
use Rattle.std.specs.Prelude.{ℕ, List}
use Rattle.front_mirror.specs.declared.panels.Panel.{Ghosts}
use Rattle.back_end.specs.Steps.{Turn}
use Rattle.inspect_world.specs.Costs.{least_line}
use Rattle.inspect_world.specs.RunStates.{RunState, run_turn}
use Rattle.inspect_world.specs.World.{World, turned}
use Rattle.replay_script.specs.Forms.{LineForm}
use Rattle.replay_parts.specs.Stops.{StopRose, RunRose}
pub use Rattle.replay_parts.specs.Manners.{Manner, Goes, PrintManner, Plays}
use Rattle.inspect_replay.specs.declared.one_front.OneFront.{OneFront}
use Rattle.replay_parts.specs.Moments.{passage}
use Rattle.inspect_replay.specs.Runs.{Steps, Spends, AnswersAll, AnswersOne, SendsFetch, FetchesText, FetchesOne, FetchesAll}
use Rattle.inspect_replay.specs.Runs.{Refreshes}
use Rattle.inspect_replay.specs.Followed.{KeepsFollowing, LineFollows, LinePasses, LinesFollow, FollowsAnswers}
use Rattle.inspect_replay.specs.Followed.{FollowsAnswer}
use Rattle.inspect_replay.specs.Prints.{NumberedLine, numbered_line, CarriesOut, CarriesLine, RunsLines}

-- ---- calls that print nothing

-- the run goes where this function takes it
abbrev pub stepping : {P : Type 0} {g : Ghosts P} {T : Type 0} → (World RunState → World RunState) → Manner (OneFront P g) T
stepping f = record { follows = λ old new result. KeepsFollowing old new result; steps = λ old new result. Steps old new result f }

-- the same, while there is room for a line of so many bytes
abbrev pub spending : {P : Type 0} {g : Ghosts P} {T : Type 0} → ℕ → (World RunState → World RunState) → Manner (OneFront P g) T
spending bytes f = record {
  follows = λ old new result. KeepsFollowing old new result;
  steps = λ old new result. Spends bytes (passage old new) result f;
}

-- the script makes a step
abbrev pub turning : {P : Type 0} {g : Ghosts P} {T : Type 0} → Turn → Manner (OneFront P g) T
turning x = record {
  follows = λ old new result. LineFollows old new result;
  steps = λ old new result. Spends least_line (passage old new) result (λ w. turned run_turn x w);
}

-- the frames that are whole are answered
abbrev pub answering_all : {P : Type 0} {g : Ghosts P} {T : Type 0} → Manner (OneFront P g) T
answering_all = record { follows = λ old new result. FollowsAnswers old new result; steps = λ old new result. AnswersAll old new result }

-- this frame is answered
abbrev pub answering : {P : Type 0} {g : Ghosts P} {T : Type 0} → List ℕ → Manner (OneFront P g) T
answering frame = record {
  follows = λ old new result. FollowsAnswer old new frame result;
  steps = λ old new result. AnswersOne old new frame result;
}

-- the fetch of a sheet's text is sent
abbrev pub sending_fetch : {P : Type 0} {g : Ghosts P} {T : Type 0} → ℕ → Manner (OneFront P g) T
sending_fetch number = record {
  follows = λ old new result. KeepsFollowing old new result;
  steps = λ old new result. SendsFetch old new number result;
}

-- the text of a sheet is fetched
abbrev pub fetching_text : {P : Type 0} {g : Ghosts P} {T : Type 0} → ℕ → Manner (OneFront P g) T
fetching_text number = record {
  follows = λ old new result. KeepsFollowing old new result;
  steps = λ old new result. FetchesText old new number result;
}

-- the same, unless the sheet is passed over
abbrev pub fetching_one : {P : Type 0} {g : Ghosts P} {T : Type 0} → ℕ → Manner (OneFront P g) T
fetching_one number = record {
  follows = λ old new result. KeepsFollowing old new result;
  steps = λ old new result. FetchesOne old new number result;
}

-- the texts of these sheets are fetched
abbrev pub fetching_all : {P : Type 0} {g : Ghosts P} {T : Type 0} → List ℕ → Manner (OneFront P g) T
fetching_all numbers = record {
  follows = λ old new result. KeepsFollowing old new result;
  steps = λ old new result. FetchesAll old new numbers result;
}

-- all is delivered, and then the texts that are old are fetched
abbrev pub settling : {P : Type 0} {g : Ghosts P} {T : Type 0} → Manner (OneFront P g) T
settling = record { follows = λ old new result. KeepsFollowing old new result; steps = λ old new result. Refreshes old new result }

-- ---- calls that print

-- a show, of any number
abbrev pub showing : {P : Type 0} {g : Ghosts P} {T : Type 0} → LineForm → PrintManner (OneFront P g) T
showing form = record {
  cause = λ c result. StopRose c result;
  follows = λ old new result. KeepsFollowing old new result;
  runs = λ old new result. (number : ℕ) → CarriesOut old new (numbered_line number form) result;
}

-- a line that is not refused
abbrev pub carrying : {P : Type 0} {g : Ghosts P} {T : Type 0} → NumberedLine → PrintManner (OneFront P g) T
carrying line = record {
  cause = λ c result. StopRose c result;
  follows = λ old new result. LineFollows old new result;
  runs = λ old new result. CarriesOut old new line result;
}

-- a show of matched styles, which is refused where none came
abbrev pub showing_styles : {P : Type 0} {g : Ghosts P} {T : Type 0} → NumberedLine → PrintManner (OneFront P g) T
showing_styles line = record {
  cause = λ c result. RunRose c result;
  follows = λ old new result. KeepsFollowing old new result;
  runs = λ old new result. CarriesLine old new line result;
}

-- any line
abbrev pub carrying_line : {P : Type 0} {g : Ghosts P} {T : Type 0} → NumberedLine → PrintManner (OneFront P g) T
carrying_line line = record {
  cause = λ c result. RunRose c result;
  follows = λ old new result. LinePasses old new line.form result;
  runs = λ old new result. CarriesLine old new line result;
}

-- the lines after the load
abbrev pub running : {P : Type 0} {g : Ghosts P} {T : Type 0} → List (List ℕ) → PrintManner (OneFront P g) T
running lines = record {
  cause = λ c result. RunRose c result;
  follows = λ old new result. LinesFollow old new lines result;
  runs = λ old new result. RunsLines old new lines result;
}
