-- What a reader answers that takes memory.
use Rattle.std.specs.Prelude.{◌≡◌, Option, Some, None, Result, Ok, Err}

-- A reader gives a value with the parts that are read, and refuses only where none are. Any other error is free.
abbrev pub Gives : {X T E : Type 0} → (X → T) → E → Result X E → Option T → Type 0
Gives parts refusal (Ok x) found = found ≡ Some (parts x)
Gives parts refusal (Err e) found = e ≡ refusal → found ≡ None
