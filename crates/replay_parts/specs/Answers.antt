-- What an answer of the program says of its input, and of what was written.
use Rattle.std.specs.Prelude.{◌≡◌, ◌<◌, ℕ, Vec, List, [], Bool, true, false, ◌||◌, nat_lt, length, Option, Some, None, Result, Ok, Err, ⊤}
use Rattle.std.specs.Io.KnownBytes.{Appends}
use Rattle.std.specs.declared.alloc.Global.{Global}
use Rattle.node_tree.specs.Numbers.{max_input, max_line}
use Rattle.pipe_frames.specs.Whole.{WrotePart}
use Rattle.replay_script.specs.declared.faults.LineFault.{LineFault}
use Rattle.replay_script.specs.Lines.{has_long_line}
use Rattle.replay_parts.specs.declared.status.Status.{Status}
use Rattle.replay_parts.specs.declared.status.Status.TheVariants as answers
use Rattle.replay_parts.specs.declared.stop.Stop.{Stop}
use Rattle.replay_parts.specs.Says.{Phase, untouched, reading, underway, ended, anywhen, Lie, Counts, PartRose, says, says_of}

-- where the test holds, the statement does
abbrev pub OnTrue : Bool → Type 0 → Type 0
OnTrue true P = P
OnTrue false P = ⊤

-- there is none
abbrev pub Absent : {A : Type 0} → Option A → Type 0
Absent None = ⊤
Absent (Some x) = ⊥

-- ---- the input

-- more than 2^26 bytes, or a line of more than 2^24 bytes
abbrev pub is_too_long : List ℕ → Bool
is_too_long input = nat_lt max_input (length input) || has_long_line input max_line

-- what an answer says of the limits of the input
abbrev pub LimitsAt : Phase → Bool → List ℕ → Type 0
LimitsAt untouched over input = ⊤
LimitsAt reading over input = OnTrue over (is_too_long input ≡ true)
LimitsAt underway over input = is_too_long input ≡ false
LimitsAt ended over input = is_too_long input ≡ false
LimitsAt anywhen over input = ⊤

-- TooLong is answered where the input is too long, and each later answer where it is not
abbrev pub FitsLimits : Status → List ℕ → Type 0
FitsLimits status input = LimitsAt (says status).phase (says status).over input

-- a statement that holds at the end, and says nothing of other answers
abbrev pub AtEnd : Phase → Type 0 → Type 0
AtEnd untouched P = ⊤
AtEnd reading P = ⊤
AtEnd underway P = ⊤
AtEnd ended P = P
AtEnd anywhen P = ⊤

-- Done is answered where no line is refused, and a line with its fault where it is the first that is refused
abbrev pub TellsLine : Status → Option (ℕ × LineFault) → Type 0
TellsLine status bad = AtEnd (says status).phase (bad ≡ (says status).line)

-- a statement that holds once the input was read, and says nothing of earlier answers
abbrev pub OnceRead : Phase → Type 0 → Type 0
OnceRead untouched P = ⊤
OnceRead reading P = ⊤
OnceRead underway P = P
OnceRead ended P = P
OnceRead anywhen P = ⊤

-- the source has nothing left after an answer that came of the whole input
abbrev pub ReadsAll : Status → Option (List ℕ) → Type 0
ReadsAll status left = OnceRead (says status).phase (left ≡ Some [])

-- ---- what was written, over an honest link

-- what the sink took of the report, by how far the call had come and whether the answer comes over no honest link
abbrev pub TookAt : Phase → Option Lie → Option (List ℕ) → Option (List ℕ) → List ℕ → Type 0
TookAt untouched lie before after report = after ≡ before
TookAt reading lie before after report = after ≡ before
TookAt underway None before after report = WrotePart before after report
TookAt underway (Some lie) before after report = ⊥
TookAt ended lie before after report = Appends before after report
TookAt anywhen lie before after report = WrotePart before after report

-- The report on Done; of a script with a line that is refused, the report is what the lines before that one print.
-- Nothing before the input was read; a front part of the report on any other answer. The front end never refuses, and there
-- is always room.
abbrev pub Took : Status → Option (List ℕ) → Option (List ℕ) → List ℕ → Type 0
Took status before after report = TookAt (says status).phase (says status).lie before after report

-- an answer that may come over an honest link
abbrev pub IsHonest : Status → Type 0
IsHonest status = Absent (says status).lie

-- a statement of answers that come before the input was read
abbrev pub BeforeRead : Phase → Type 0 → Type 0
BeforeRead untouched P = P
BeforeRead reading P = P
BeforeRead underway P = ⊤
BeforeRead ended P = ⊤
BeforeRead anywhen P = ⊤

-- nothing is written before the whole input was read
abbrev pub WritesNothing : Status → Option (List ℕ) → Option (List ℕ) → Type 0
WritesNothing status before after = BeforeRead (says status).phase (after ≡ before)

-- ---- the same of a run over an input that was read

-- an answer of a run over an input that was read: it is none of those that come before
abbrev pub InRunOnly : Phase → Type 0 → Type 0
InRunOnly untouched P = ⊥
InRunOnly reading P = ⊥
InRunOnly underway P = P
InRunOnly ended P = P
InRunOnly anywhen P = P

-- a run ends where no line is refused, or stops at the first that is
abbrev pub RunTells : {T : Type 0} → Result T Stop → Option (ℕ × LineFault) → Type 0
RunTells result bad = InRunOnly (says_of result).phase (AtEnd (says_of result).phase (bad ≡ (says_of result).line))

-- what the sink took of what a run prints
abbrev pub RunTook : {T : Type 0} → Result T Stop → Option (List ℕ) → Option (List ℕ) → List ℕ → Type 0
RunTook result before after text = InRunOnly (says_of result).phase (TookAt (says_of result).phase (says_of result).lie before after text)

-- a part of a run that prints a text, and is not one that refuses lines
abbrev pub Prints : {T : Type 0} → Result T Stop → Option (List ℕ) → Option (List ℕ) → List ℕ → Type 0
Prints (Ok value) before after text = Appends before after text
Prints (Err stop) before after text = WrotePart before after text

-- an answer that comes after the input was read
abbrev pub IsLate : Status → Type 0
IsLate status = InRunOnly (says status).phase ⊤

-- ---- the whole call

-- A fault is answered only where the count of its cause rose in this call.
abbrev pub StatusRose : Counts → Status → Type 0
StatusRose c status = PartRose c (says status).failed

-- No fault is hidden: where the count of a part rose in this call, the answer is the fault of that part.
pub record AnswersFaults (c : Counts) (status : Status) : Type 0 where
  pub source_told : c.source_before < c.source_after → status ≡ answers.ReadFault
  pub sink_told : c.sink_before < c.sink_after → status ≡ answers.WriteFault
  pub link_told : c.link_before < c.link_after → status ≡ answers.LinkFault

-- ---- the reading of the input

-- an answer of the reading: it is none of those that come later
abbrev pub InReadOnly : Phase → Type 0 → Type 0
InReadOnly untouched P = ⊥
InReadOnly reading P = P
InReadOnly underway P = ⊥
InReadOnly ended P = ⊥
InReadOnly anywhen P = ⊤

-- An input that is read within its limits, or the one reason why not.
abbrev pub InputTells : Result (Vec ℕ Global) Stop → List ℕ → Type 0
InputTells (Ok read) input = (read.items ≡ input) × (is_too_long input ≡ false)
InputTells (Err stop) input = InReadOnly (says_of {T = Vec ℕ Global} (Err stop)).phase
    (OnTrue (says_of {T = Vec ℕ Global} (Err stop)).over (is_too_long input ≡ true))

-- the counts of a source, with no sink and no link
abbrev pub source_counts : (before after : ℕ) → Counts
source_counts before after = record {
  source_before = before;
  source_after = after;
  sink_before = 0;
  sink_after = 0;
  link_before = 0;
  link_after = 0;
}

-- reading stops by a fault of the source only where its count rose
abbrev pub IsInputStop : (before after : ℕ) → Result (Vec ℕ Global) Stop → Type 0
IsInputStop before after (Ok read) = ⊤
IsInputStop before after (Err stop) = InReadOnly (says_of {T = Vec ℕ Global} (Err stop)).phase
    (PartRose (source_counts before after) (says_of {T = Vec ℕ Global} (Err stop)).failed)
