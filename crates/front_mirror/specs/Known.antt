-- What a front knows, as its value.
use Rattle.std.specs.Prelude.{◌≡◌, Option, Some, None, Result, Ok, Err, ⊤}
use Rattle.front_mirror.specs.declared.faults.FrontKind.{FrontKind}
use Rattle.front_mirror.specs.declared.known.Known.{Known}
use Rattle.front_mirror.specs.declared.faults.FrameErr.{FrameErr}
use Rattle.front_mirror.specs.declared.faults.FrameErr.TheVariants.{Refused, Memory}
use Rattle.front_mirror.specs.declared.faults.FrontErr.{FrontErr}
use Rattle.front_mirror.specs.declared.faults.FrontErr.TheVariants as front_err
use Rattle.front_mirror.specs.declared.panels.Change.{Change}
use Rattle.front_mirror.specs.Panels.{TreeTold}
use Rattle.front_mirror.specs.Front.{FrontValue, Folded}

-- what is known, as contracts see it
abbrev pub known_value : Known → FrontValue
known_value k = record {
  tree = k.mirror;
  sheets = k.sheets;
  asks = k.asks.items;
  replies = k.replies.items;
  pauses = k.pauses.items;
  matched = k.matched.items;
  taken = k.taken;
}

-- Ok is the front after, with what became of its tree; a refusal leaves the front as it was, and want of memory says nothing.
abbrev pub Takes : FrontValue → FrontValue → Result (Option Change) FrameErr → Result FrontValue FrontKind → Type 0
Takes old new (Ok told) r = (r ≡ Ok new) × TreeTold old.tree told new.tree
Takes old new (Err (Refused kind)) r = (r ≡ Err kind) × (new ≡ old)
Takes old new (Err Memory) r = ⊤

-- Ok is a fold without a fault, a fault is the one that the fold met, and want of memory says nothing.
abbrev pub EndsFold : Folded → FrontValue → Result (Unit {0}) FrontErr → Type 0
EndsFold end v (Ok done) = end ≡ record { value = v; fault = None }
EndsFold end v (Err (front_err.Fault f)) = end ≡ record { value = v; fault = Some f }
EndsFold end v (Err front_err.Memory) = ⊤

-- a fact that holds after each answer but want of memory
abbrev pub UnlessMemory : Result (Unit {0}) FrontErr → Type 0 → Type 0
UnlessMemory (Ok done) P = P
UnlessMemory (Err (front_err.Fault f)) P = P
UnlessMemory (Err front_err.Memory) P = ⊤
