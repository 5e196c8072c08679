-- Tests and steps that may fail: what is known where they gave something.
use Rattle.std.proofs.Common.{◌≡◌, ◌⊎◌, inl, inr, Bool, true, false, cond, Option, Some, None, refl}
use Rattle.selectors.specs.Forms.{◌>>=◌}

pub none_some : {A : Type 0} (x : A) → None ≡ Some x → ⊥
none_some x e = cc

pub some_is : {A : Type 0} (x y : A) → Some x ≡ Some y → x ≡ y
some_is x y e = cc

pub chosen : {X : Type 0} (b : Bool) (x y z : X) → cond b x y ≡ z → ((b ≡ true) × (x ≡ z)) ⊎ ((b ≡ false) × (y ≡ z))
chosen true x y z e = inl (refl, e)
chosen false x y z e = inr (refl, e)

-- a test whose failure gives none
pub passed_test : {X : Type 0} (b : Bool) (o : Option X) (z : X) → cond b o None ≡ Some z → (b ≡ true) × (o ≡ Some z)
passed_test true o z e = (refl, e)
passed_test false o z e = absurd (none_some z e)

-- a test whose success gives none
pub failed_test : {X : Type 0} (b : Bool) (o : Option X) (z : X) → cond b None o ≡ Some z → (b ≡ false) × (o ≡ Some z)
failed_test false o z e = (refl, e)
failed_test true o z e = absurd (none_some z e)

pub bind_some : {A B : Type 0} (o : Option A) (f : A → Option B) (y : B) → (o >>= f) ≡ Some y → (x : A) × (o ≡ Some x) × (f x ≡ Some y)
bind_some None f y e = absurd (none_some y e)
bind_some (Some x) f y e = (x, refl, e)
