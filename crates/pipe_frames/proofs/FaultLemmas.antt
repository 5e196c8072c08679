-- Counts of faults over calls that follow one another.
use Rattle.std.proofs.Common.{◌≡◌, ℕ, ◌≤◌, ◌<◌, Ok, Err, IsErrOf, nat_lt, true, false, arith, refl, ap, subst}
use Rattle.std.proofs.lemmas.Bool.Decides.{nat_tests}
use Rattle.std.specs.Prelude.{Result}
use Rattle.pipe_frames.specs.declared.outside.OutErr.{OutErr}
use Rattle.pipe_frames.specs.declared.outside.OutErr.TheVariants.{Failed}
use Rattle.pipe_frames.specs.Fault.{Rose, HasCause}

-- the cause of the last of some calls is that of all of them, where no count rose before
pub HasCause-before : {T S : Type 0} (start before now : ℕ) (err : OutErr)
    → before ≡ start → HasCause {T = T} before now (Err err) → HasCause {T = S} start now (Err err)
HasCause-before {T} {S} start before now err same cause = record {
  later = let later : before ≤ now = cause.later in omega (arith, later, same);
  failed = λ failed. subst (λ n. Rose n now) same (cause.failed (failed_as failed));
  answered = λ rose. failed_as (cause.answered (omega (arith, rose, same)));
}
  where
    failed_as : {A B : Type 0} → IsErrOf {T = A} (Err err) Failed → IsErrOf {T = B} (Err err) Failed
    failed_as {A} {B} is = let e : err ≡ Failed = cc in ap (λ (x : OutErr). Err x) e

-- a call that goes well is none whose count rose
pub still : {T : Type 0} (before now : ℕ) (value : T) → before ≤ now
    → (before < now → IsErrOf {T = T} {E = OutErr} (Ok value) Failed) → now ≡ before
still {T} before now value later never =
    (elim (nat_lt before now) as (λ b. nat_lt before now ≡ b → now ≡ before) [
      | true ↦ λ is. (let no : ◌≡◌ {A = Result T OutErr} (Ok value) (Err Failed) = never (grind (arith, nat_tests)) in absurd cc)
      | false ↦ λ is. grind (arith, nat_tests)
    ]) refl

-- a call that goes well, with no count that rose
pub HasCause-well : {T : Type 0} (before now : ℕ) (value : T) → now ≡ before → HasCause before now (Ok value)
HasCause-well {T} before now value same = record {
  later = omega (arith, same);
  failed = λ failed. (let no : ◌≡◌ {A = Result T OutErr} (Ok value) (Err Failed) = failed in absurd cc);
  answered = λ rose. absurd (omega (arith, rose, same));
}
