-- What comes of the reading of a line, and of a line that drops a panel.
use Rattle.std.specs.Prelude.{◌≡◌, ℕ, Bool, true, false, Option, Some, None, Result, Ok, Err, ⊤}
use Rattle.replay_script.specs.declared.faults.LineFault.{LineFault}
use Rattle.replay_script.specs.declared.faults.LineFault.TheVariants.{NoPanel}
use Rattle.replay_parts.specs.declared.stop.Stop.{Stop}
use Rattle.replay_parts.specs.declared.stop.Stop.TheVariants.{Line}
use Rattle.replay_parts.specs.Says.{Phase, untouched, reading, underway, ended, anywhen, says, status_of}

-- the line is the one of that number, with that fault
abbrev pub IsLine : Option (ℕ × LineFault) → ℕ → Option LineFault → Type 0
IsLine None number fault = ⊥
IsLine (Some line) number fault = (line.0 ≡ number) × (fault ≡ Some line.1)

-- an answer of the reading of one line
abbrev pub ReadsAt : Phase → Option (ℕ × LineFault) → ℕ → Option LineFault → Type 0
ReadsAt untouched line number fault = ⊥
ReadsAt reading line number fault = ⊥
ReadsAt underway line number fault = ⊥
ReadsAt ended line number fault = IsLine line number fault
ReadsAt anywhen line number fault = ⊤

-- a line is read, or refused with its number and fault
abbrev pub IsRead : {T : Type 0} → Result T Stop → ℕ → Option LineFault → Type 0
IsRead (Ok line) number fault = ⊤
IsRead (Err stop) number fault = ReadsAt (says (status_of stop)).phase (says (status_of stop)).line number fault

-- what comes of a line that drops a panel, by whether one stands open there
abbrev pub drops : ℕ → Bool → Result (Unit {0}) Stop
drops number true = Ok tt
drops number false = Err (Line number NoPanel)
