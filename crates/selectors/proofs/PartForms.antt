-- Reading parts one after the other: what stands in front, and what the rest gives.
use Rattle.std.proofs.Common.{◌≡◌, ℕ, zero, suc, ◌<◌, Bool, true, false, List, [], ◌++◌, length, Option, Some, None, refl, sym, ap, ◌∙◌}
use Rattle.std.proofs.Common.{append_assoc, append-nil, arith, cond}
use Rattle.selectors.specs.Words.{WordReading}
use Rattle.selectors.specs.declared.selector.SelErr.{SelErr}
use Rattle.selectors.specs.declared.selector.SelErr.TheVariants.{Invalid, Memory}
use Rattle.selectors.specs.Forms.{◌>>=◌, Fails}
use Rattle.selectors.specs.Parts.{with_front, many_in, many}

abbrev pub Parts : Type 0 → Type 0
Parts X = Option ((List X × Bool) × WordReading)

pub regroup : {X : Type 0} (a b : List X) (o : Parts X) → with_front a (with_front b o) ≡ with_front (a ++ b) o
regroup {X = X} a b None = refl
regroup {X = X} a b (Some x) = ap (λ (xs : List X). some ((xs, x.0.1), x.1)) (sym (append_assoc a b x.0.0))
  where
    some : (List X × Bool) × WordReading → Parts X
    some y = Some y

chosen : {X : Type 0} (b : Bool) (x y : X) → b ≡ false → cond b x y ≡ y
chosen b x y e = rw e refl

taken : {X : Type 0} (b : Bool) (x y : X) → b ≡ true → cond b x y ≡ x
taken b x y e = rw e refl

-- With the front, the rest is the total, at some fuel above what is left.
pub record IsRest {X : Type 0} (ends : WordReading → Bool) (read : WordReading → Parts X) (front : List X) (element : Bool)
    (r : WordReading) (total : Parts X) : Type 0 where
  pub fuel : ℕ
  pub enough : length r.words < fuel
  pub is : with_front front (many_in ends read fuel element r) ≡ total

pub rest_start : {X : Type 0} (ends : WordReading → Bool) (read : WordReading → Parts X) (front : List X) (element : Bool)
    (r : WordReading) → IsRest ends read front element r (with_front front (many ends read element r))
rest_start ends read front element r = record { fuel = suc (length r.words); enough = omega arith; is = refl }

more_at : {X : Type 0} (ends : WordReading → Bool) (read : WordReading → Parts X) (front : List X) (r : WordReading) (total : Parts X)
    (x : (List X × Bool) × WordReading) (fuel : ℕ)
    → length r.words < fuel → with_front front (many_in ends read fuel false r) ≡ total → ends r ≡ false → read r ≡ Some x
    → length x.1.words < length r.words → IsRest ends read (front ++ x.0.0) x.0.1 x.1 total
unfolding many_in
more_at ends read front r total x zero enough is go e shorter = absurd (omega (arith, enough))
more_at {X = X} ends read front r total x (suc n) enough is go e shorter = record {
  fuel = n;
  enough = omega (arith, enough, shorter);
  is = sym (regroup front x.0.0 (many_in ends read n x.0.1 x.1))
      ∙ sym (ap (λ (o : Parts X). with_front front (o >>= λ y. with_front y.0.0 (many_in ends read n y.0.1 y.1))) e)
      ∙ sym (ap (λ (b : Bool). with_front front
      (cond b (Some (([], false), r)) (read r >>= λ y. with_front y.0.0 (many_in ends read n y.0.1 y.1)))) go)
      ∙ is;
}

pub rest_more : {X : Type 0} (ends : WordReading → Bool) (read : WordReading → Parts X) (front : List X) (r : WordReading)
    (total : Parts X) (x : (List X × Bool) × WordReading)
    → IsRest ends read front false r total → ends r ≡ false → read r ≡ Some x → length x.1.words < length r.words
    → IsRest ends read (front ++ x.0.0) x.0.1 x.1 total
rest_more ends read front r total x rest go e shorter = more_at ends read front r total x rest.fuel rest.enough rest.is go e shorter

fails_at : {X : Type 0} (ends : WordReading → Bool) (read : WordReading → Parts X) (front : List X) (r : WordReading) (total : Parts X)
    (fuel : ℕ)
    → length r.words < fuel → with_front front (many_in ends read fuel false r) ≡ total → ends r ≡ false → read r ≡ None → total ≡ None
unfolding many_in
fails_at ends read front r total zero enough is go e = absurd (omega (arith, enough))
fails_at {X = X} ends read front r total (suc n) enough is go e =
    sym is
    ∙ ap (λ (b : Bool). with_front front
    (cond b (Some (([], false), r)) (read r >>= λ y. with_front y.0.0 (many_in ends read n y.0.1 y.1)))) go
    ∙ ap (λ (o : Parts X). with_front front (o >>= λ y. with_front y.0.0 (many_in ends read n y.0.1 y.1))) e

-- the next part is none
pub rest_fails : {X : Type 0} (ends : WordReading → Bool) (read : WordReading → Parts X) (front : List X) (r : WordReading)
    (total : Parts X) → IsRest ends read front false r total → ends r ≡ false → read r ≡ None → total ≡ None
rest_fails ends read front r total rest go e = fails_at ends read front r total rest.fuel rest.enough rest.is go e

misplaced_at : {X : Type 0} (ends : WordReading → Bool) (read : WordReading → Parts X) (front : List X) (r : WordReading) (total : Parts X)
    (fuel : ℕ)
    → length r.words < fuel → with_front front (many_in ends read fuel true r) ≡ total → ends r ≡ false → total ≡ None
unfolding many_in
misplaced_at ends read front r total zero enough is go = absurd (omega (arith, enough))
misplaced_at {X = X} ends read front r total (suc n) enough is go = sym is ∙ ap
    (λ (b : Bool). with_front front (cond b (Some (([], true), r)) None)) go

-- a part follows a pseudo-element
pub rest_misplaced : {X : Type 0} (ends : WordReading → Bool) (read : WordReading → Parts X) (front : List X) (r : WordReading)
    (total : Parts X) → IsRest ends read front true r total → ends r ≡ false → total ≡ None
rest_misplaced ends read front r total rest go = misplaced_at ends read front r total rest.fuel rest.enough rest.is go

done_at : {X : Type 0} (ends : WordReading → Bool) (read : WordReading → Parts X) (front : List X) (element : Bool) (r : WordReading)
    (total : Parts X) (fuel : ℕ)
    → length r.words < fuel → with_front front (many_in ends read fuel element r) ≡ total → ends r ≡ true
    → total ≡ Some ((front, element), r)
unfolding many_in
done_at ends read front element r total zero enough is stop = absurd (omega (arith, enough))
done_at {X = X} ends read front element r total (suc n) enough is stop =
    sym is
    ∙ ap (λ (b : Bool). with_front front
    (cond b (Some (([], element), r)) (cond element None (read r >>= λ y. with_front y.0.0 (many_in ends read n y.0.1 y.1))))) stop
    ∙ ap (λ (xs : List X). at xs) (append-nil front)
  where
    at : List X → Parts X
    at xs = Some ((xs, element), r)

pub rest_done : {X : Type 0} (ends : WordReading → Bool) (read : WordReading → Parts X) (front : List X) (element : Bool) (r : WordReading)
    (total : Parts X) → IsRest ends read front element r total → ends r ≡ true → total ≡ Some ((front, element), r)
rest_done ends read front element r total rest stop = done_at ends read front element r total rest.fuel rest.enough rest.is stop

-- what fails with a part
pub fails_too : {A B : Type 0} (e : SelErr) (a : Option A) (b : Option B) → (a ≡ None → b ≡ None) → Fails e a → Fails e b
fails_too Memory a b f h = tt
fails_too Invalid a b f h = f h
