-- What a reader of nodes answers; want of memory may come at any time.
use Rattle.std.specs.Prelude.{◌≡◌, Option, Some, None, Result, Ok, Err, ⊤}
use Rattle.dom_objects.specs.declared.down_err.DownErr.{DownErr}
use Rattle.dom_objects.specs.declared.down_err.DownErr.TheVariants.{NotMessage, Memory}

-- Ok tells, as f sees it, what was read; NotMessage comes exactly where nothing is
abbrev pub GivesMessage : {T X : Type 0} → (T → X) → Result T DownErr → Option X → Type 0
GivesMessage f (Ok t) r = r ≡ Some (f t)
GivesMessage f (Err NotMessage) r = r ≡ None
GivesMessage f (Err Memory) r = ⊤
