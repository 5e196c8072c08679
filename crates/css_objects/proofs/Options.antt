-- Tests, and chains of options.
use Rattle.std.proofs.Common.{◌≡◌, Bool, true, false, ◌&&◌, Option, Some, None, option_map, option_and_then, Result, Ok, Err, IfOk, ap, ◌∙◌}
use Rattle.std.proofs.Common.{refl}
use Rattle.cdp_json.specs.Rows.{left_with}

pub both : {a b : Bool} → a ≡ true → b ≡ true → (a && b) ≡ true
both p q = rw p q

pub both_parts : (a b : Bool) → (a && b) ≡ true → (a ≡ true) × (b ≡ true)
both_parts true b e = (refl, e)
both_parts false b e = absurd cc

pub and_then_some : {A B : Type 0} (f : A → Option B) (o : Option A) (y : B) → option_and_then f o ≡ Some y
    → (x : A) × (o ≡ Some x) × (f x ≡ Some y)
and_then_some f None y e = absurd cc
and_then_some f (Some x) y e = (x, refl, e)

-- A field that was taken, with what is left behind it, and then read: the field is read as the reader says.
pub field_read : {D M T E : Type 0} (reads : D → Option T) (first : Option D) (rest left : M) (value : D) (result : Result (Option T) E)
    → Some (left_with left value) ≡ option_map (left_with rest) (option_and_then Some first)
    → IfOk result (λ o. o ≡ reads value)
    → IfOk result (λ o. option_map (left_with left) o ≡ option_map (left_with rest) (option_and_then reads first))
field_read reads None rest left value result took read = absurd cc
field_read reads (Some v) rest left value (Err e) took read = tt
field_read reads (Some v) rest left value (Ok o) took read =
    let same : left_with left value ≡ left_with rest v = cc in
    ap (option_map (left_with left)) read
    ∙ ap (λ p. option_map (left_with p.1) (reads p.0)) same
