-- Parts one behind the other, as many as there are.
use Rattle.std.specs.Prelude.{ℕ, zero, suc, Bool, List, [], ◌++◌, length, Option, Some, None, if◌then◌else◌}
use Rattle.selectors.specs.Words.{WordReading}
use Rattle.selectors.specs.Forms.{◌>>=◌}

-- what stood before, in front of what is read
abbrev pub with_front : {X : Type 0} → List X → Option ((List X × Bool) × WordReading) → Option ((List X × Bool) × WordReading)
with_front front None = None
with_front front (Some x) = Some ((front ++ x.0.0, x.0.1), x.1)

-- as many parts as there are; a part that is or ends in a pseudo-element is the last
unfoldable pub many_in : {X : Type 0} → (WordReading → Bool) → (WordReading → Option ((List X × Bool) × WordReading)) → ℕ → Bool
    → WordReading → Option ((List X × Bool) × WordReading)
many_in ends read zero element r = None
many_in ends read (suc n) element r =
    if ends r then Some (([], element), r)
    else (if element then None else (read r >>= λ x. with_front x.0.0 (many_in ends read n x.0.1 x.1)))

-- the parts from here to where `ends` holds, if each can be read; none may follow if a pseudo-element stands before
abbrev pub many : {X : Type 0} → (WordReading → Bool) → (WordReading → Option ((List X × Bool) × WordReading)) → Bool → WordReading
    → Option ((List X × Bool) × WordReading)
many ends read element r = many_in ends read (suc (length r.words)) element r
