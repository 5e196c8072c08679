-- That something was written, or nothing.
use Rattle.std.specs.Prelude.{ℕ, List, Option}
use Rattle.std.specs.Io.KnownBytes.{Appends}

-- something was printed, or nothing
pub record PrintedSome (before after : Option (List ℕ)) : Type 0 where
  pub written : List ℕ
  pub printed : Appends before after written
