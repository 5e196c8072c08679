-- The reads of a call that serves: before each, what came was answered.
use Rattle.std.specs.Prelude.{◌≡◌, ℕ, List, [], ◌∷◌, ◌++◌, Option, ⊤}
use Rattle.std.specs.Io.KnownBytes.{Appends, Consumes}
use Rattle.pipe_frames.specs.Fault.{next_count}
use Rattle.inspect_replay.specs.Served.{Served, first_alone, first_paired, served}
use Rattle.inspect_replay.specs.Serving.{ServeCall}

-- one read of the source: what the sink had taken when it was made, and what it gave, which is nothing at the end and at a fault
pub record ReadMoment : Type 0 where
  pub taken : Option (List ℕ)
  pub piece : List ℕ

-- all that came by these reads
abbrev pub came_by : List ReadMoment → List ℕ
came_by [] = []
came_by (read ∷ reads) = read.piece ++ came_by reads

-- a count of calls after as many more
abbrev pub counted_by : List ReadMoment → ℕ → ℕ
counted_by [] calls = calls
counted_by (read ∷ reads) calls = next_count (counted_by reads calls)

-- at each of these reads, one after the other, the sink had taken the answers to all frames that were whole in what came before
abbrev pub AnsweredFirst : Served → Option (List ℕ) → List ℕ → List ReadMoment → Type 0
AnsweredFirst first start came [] = ⊤
AnsweredFirst first start came (read ∷ reads) =
    Appends start read.taken (served first came) × AnsweredFirst first start (came ++ read.piece) reads

-- All reads of a call, as many as the count of calls rose by: together they gave what was read, and nothing that was whole was
-- left unanswered when one of them was made.
pub record AnswersInTurn (first : Served) (calls_before calls_after : ℕ) (call : ServeCall) : Type 0 where
  pub reads : List ReadMoment
  pub counted : calls_after ≡ counted_by reads calls_before
  pub came : Consumes call.left_before call.left_after (came_by reads)
  pub answered : AnsweredFirst first call.taken_before [] reads

-- the reads of a call that serves one client
abbrev pub ReadsInTurn : (calls_before calls_after : ℕ) → ServeCall → Type 0
ReadsInTurn calls_before calls_after call = AnswersInTurn first_alone calls_before calls_after call

-- the reads of a call that serves two
abbrev pub SharesInTurn : (calls_before calls_after : ℕ) → ServeCall → Type 0
SharesInTurn calls_before calls_after call = AnswersInTurn first_paired calls_before calls_after call
