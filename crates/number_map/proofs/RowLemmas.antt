-- What stands in a row, and what a change of the row comes to.
use Rattle.std.proofs.Common.{◌≡◌, ℕ, zero, suc, ◌+◌, ◌-◌, ◌<◌, ◌≤◌, ◌==◌, Bool, true, false, cond}
use Rattle.std.proofs.Common.{List, [], ◌∷◌, ◌++◌, length, replicate, take, slice_get, slice_set, get_or, append-nil, length-append}
use Rattle.std.proofs.Common.{option_to_list, Option, Some, None, Result, Ok, Err, OnErr, refl, sym, ap, ◌∙◌, arith}
use Rattle.std.proofs.lemmas.Bool.Decides.{nat_tests}
use Rattle.std.proofs.lemmas.Option.{slice_get_read}
use Rattle.std.specs.Option.{option_or}
use Rattle.number_map.specs.Rows.{row_at}

-- ---- a row

option_or-none : {A : Type 0} (o : Option A) → option_or o None ≡ o
option_or-none None = refl
option_or-none (Some x) = refl

pub option_or-assoc : {A : Type 0} (a b c : Option A) → option_or (option_or a b) c ≡ option_or a (option_or b c)
option_or-assoc None b c = refl
option_or-assoc (Some x) b c = refl

pub none_either : {A : Type 0} (b : Bool) → cond {A = Option A} b None None ≡ None
none_either true = refl
none_either false = refl

apart : (a b : ℕ) → a < b → (a == b) ≡ false
apart a b h = grind (arith, nat_tests)

-- before the first key nothing stands
pub row-below : (first : ℕ) (row : List (Option ℕ)) (key : ℕ) → key < first → row_at first row key ≡ None
row-below first [] key h = refl
row-below first (place ∷ row) key h =
    ap (λ b. option_or (cond b place None) (row_at (suc first) row key)) (apart key first h)
    ∙ row-below (suc first) row key (omega arith)

-- a place as an option of an option
pub flat : Option (Option ℕ) → Option ℕ
flat None = None
flat (Some place) = place

same_is : (a : ℕ) → (a == a) ≡ true
same_is a = grind (arith, nat_tests)

pub row-at : (first : ℕ) (row : List (Option ℕ)) (i : ℕ) → row_at first row (first + i) ≡ flat (slice_get row i)
unfolding flat
row-at first [] i = refl
row-at first (place ∷ row) zero =
    let e : first + 0 ≡ first = omega arith in
    ap (row_at first (place ∷ row)) e
    ∙ ap (λ b. option_or (cond b place None) (row_at (suc first) row first)) (same_is first)
    ∙ ap (option_or place) (row-below (suc first) row first (omega arith))
    ∙ option_or-none place
row-at first (place ∷ row) (suc i) =
    let e : first + suc i ≡ suc first + i = omega arith in
    let other : (first + suc i == first) ≡ false = grind (arith, nat_tests) in
    ap (λ b. option_or (cond b place None) (row_at (suc first) row (first + suc i))) other
    ∙ ap (row_at (suc first) row) e
    ∙ row-at (suc first) row i

-- behind the last key nothing stands
pub row-behind : (first : ℕ) (row : List (Option ℕ)) (key : ℕ) → first + length row ≤ key → row_at first row key ≡ None
row-behind first [] key h = refl
row-behind first (place ∷ row) key h =
    let other : (key == first) ≡ false = grind (arith, nat_tests) in
    ap (λ b. option_or (cond b place None) (row_at (suc first) row key)) other
    ∙ row-behind (suc first) row key (omega arith)

put_here : (place : Option ℕ) (v : Option ℕ) (b : Bool) (rest : Option ℕ) → (b ≡ true → rest ≡ None)
    → option_or (cond b v None) rest ≡ cond b v (option_or (cond b place None) rest)
put_here place v true rest nothing = ap (option_or v) (nothing refl) ∙ option_or-none v
put_here place v false rest nothing = refl

put_later : (place : Option ℕ) (v x : Option ℕ) (here there : Bool) → (there ≡ true → here ≡ false)
    → option_or (cond here place None) (cond there v x) ≡ cond there v (option_or (cond here place None) x)
put_later place v x here true only = ap (λ b. option_or (cond b place None) v) (only refl)
put_later place v x here false only = refl

pub row-set : (first : ℕ) (row : List (Option ℕ)) (i : ℕ) (v : Option ℕ) (key : ℕ) → i < length row
    → row_at first (slice_set row i v) key ≡ cond (key == first + i) v (row_at first row key)
row-set first [] i v key h = absurd (omega arith)
row-set first (place ∷ row) zero v key h =
    let e : first + 0 ≡ first = omega arith in
    put_here place v (key == first) (row_at (suc first) row key)
    (λ same. row-below (suc first) row key (grind (arith, nat_tests)))
    ∙ ap (λ n. cond (key == n) v (row_at first (place ∷ row) key)) (sym e)
row-set first (place ∷ row) (suc i) v key h =
    let e : suc first + i ≡ first + suc i = omega arith in
    ap (option_or (cond (key == first) place None)) (row-set (suc first) row i v key (omega arith))
    ∙ ap (λ n. option_or (cond (key == first) place None) (cond (key == n) v (row_at (suc first) row key))) e
    ∙ put_later place v (row_at (suc first) row key) (key == first) (key == first + suc i)
    (λ there. grind (arith, nat_tests))

pub row-append : (first : ℕ) (xs ys : List (Option ℕ)) (key : ℕ)
    → row_at first (xs ++ ys) key ≡ option_or (row_at first xs key) (row_at (first + length xs) ys key)
row-append first [] ys key =
    let e : first ≡ first + 0 = omega arith in ap (λ n. row_at n ys key) e
row-append first (x ∷ xs) ys key =
    let e : suc first + length xs ≡ first + suc (length xs) = omega arith in
    ap (option_or (cond (key == first) x None)) (row-append (suc first) xs ys key
    ∙ ap (λ n. option_or (row_at (suc first) xs key) (row_at n ys key)) e)
    ∙ sym (option_or-assoc (cond (key == first) x None) (row_at (suc first) xs key) _)

pub row-blank : (first n key : ℕ) → row_at first (replicate n None) key ≡ None
row-blank first zero key = refl
row-blank first (suc n) key =
    ap (λ o. option_or o (row_at (suc first) (replicate n None) key)) (none_either (key == first))
    ∙ row-blank (suc first) n key

pub row-pop : (first : ℕ) (row : List (Option ℕ)) (key : ℕ) → row_at first (row ++ None ∷ []) key ≡ row_at first row key
row-pop first row key =
    row-append first row (None ∷ []) key
    ∙ ap (option_or (row_at first row key)) (row-blank (first + length row) 1 key)
    ∙ option_or-none _

behind : (v x : Option ℕ) (b : Bool) → (b ≡ true → x ≡ None) → option_or x (option_or (cond b v None) None) ≡ cond b v x
behind v x true nothing = ap (λ o. option_or o (option_or v None)) (nothing refl) ∙ option_or-none v
behind v x false nothing = option_or-none x

take_past : {A : Type 0} (n : ℕ) (xs : List A) → length xs ≤ n → take n xs ≡ xs
take_past zero [] h = refl
take_past (suc n) [] h = refl
take_past zero (x ∷ xs) h = absurd (omega arith)
take_past (suc n) (x ∷ xs) h = ap (λ ys. x ∷ ys) (take_past n xs (omega arith))

-- a row that was lengthened
pub row-wide : (row wide : List (Option ℕ)) (place len : ℕ) → len ≡ length row → len ≤ place
    → wide ≡ take place row ++ replicate (place - len) None → wide ≡ row ++ replicate (place - length row) None
row-wide row wide place len same h is =
    is ∙ ap (λ xs. xs ++ replicate (place - len) None) (take_past place row (omega arith))
    ∙ ap (λ n. row ++ replicate (place - n) None) same

-- a row that is lengthened, with a number at its end
pub row-push : (first : ℕ) (row wide : List (Option ℕ)) (place : ℕ) (v : Option ℕ) (key : ℕ) → length row ≤ place
    → wide ≡ row ++ replicate (place - length row) None → length wide ≡ place
    → row_at first (wide ++ v ∷ []) key ≡ cond (key == first + place) v (row_at first row key)
row-push first row wide place v key h is long =
    let blank : row_at first wide key ≡ row_at first row key =
    ap (λ xs. row_at first xs key) is ∙ row-append first row (replicate (place - length row) None) key
    ∙ ap (option_or (row_at first row key)) (row-blank (first + length row) (place - length row) key) ∙ option_or-none _ in
    row-append first wide (v ∷ []) key
    ∙ ap (λ n. option_or (row_at first wide key) (row_at (first + n) (v ∷ []) key)) long
    ∙ ap (λ o. option_or o (row_at (first + place) (v ∷ []) key)) blank
    ∙ behind v (row_at first row key) (key == first + place)
    (λ there. row-behind first row key (grind (arith, nat_tests)))

-- a number that was read at the place of a key
pub row-read : (first : ℕ) (row : List (Option ℕ)) (i key : ℕ) (x : Option ℕ) → first + i ≡ key → i < length row
    → x ≡ get_or row i x → x ≡ row_at first row key
unfolding flat
row-read first row i key x there within read =
    sym (ap (row_at first row) (sym there) ∙ row-at first row i ∙ ap flat (slice_get_read row (length row) i x refl within read))

-- a place that was changed, by its key
pub row-put : (first : ℕ) (row : List (Option ℕ)) (i key : ℕ) (v : Option ℕ) (other : ℕ) → first + i ≡ key → i < length row
    → row_at first (slice_set row i v) other ≡ cond (other == key) v (row_at first row other)
row-put first row i key v other there within =
    row-set first row i v other within ∙ ap (λ n. cond (other == n) v (row_at first row other)) there

last_of : {A : Type 0} (xs : List A) (x : A) → slice_get (xs ++ x ∷ []) (length (xs ++ x ∷ []) - 1) ≡ Some x
last_of [] x = refl
last_of (y ∷ xs) x =
    let e : suc (length (xs ++ x ∷ [])) - 1 ≡ suc (length (xs ++ x ∷ []) - 1) = omega (arith, length-append xs (x ∷ [])) in
    ap (slice_get (y ∷ (xs ++ x ∷ []))) e ∙ last_of xs x

-- the last place taken away, where no number stood at it
pub row-popped : (first : ℕ) (old new : List (Option ℕ)) (last : Option (Option ℕ)) (place : Option ℕ) (key : ℕ)
    → old ≡ new ++ option_to_list last → slice_get old (length old - 1) ≡ Some place → place ≡ None
    → row_at first new key ≡ row_at first old key
row-popped first old new None place key is at none = ap (λ xs. row_at first xs key) (sym (is ∙ append-nil new))
row-popped first old new (Some x) place key is at none =
    let same : ◌≡◌ {A = Option (Option ℕ)} (Some x) (Some place) =
    sym (last_of new x) ∙ ap (λ xs. slice_get xs (length xs - 1)) (sym is) ∙ at in
    let blank : x ≡ None = (let e : x ≡ place = cc in e ∙ none) in
    sym (ap (λ xs. row_at first xs key) (is ∙ ap (λ o. new ++ o ∷ []) blank) ∙ row-pop first new key)

-- what holds anyway holds where a call fails
pub on_err : {T E : Type 0} (result : Result T E) (P : Type 0) → P → OnErr result P
on_err (Ok x) P p = tt
on_err (Err e) P p = p

-- a row that was lengthened by places without a number
pub row-long : (first : ℕ) (row wide new : List (Option ℕ)) (place : ℕ) (key : ℕ)
    → new ≡ wide → wide ≡ row ++ replicate (place - length row) None → row_at first new key ≡ row_at first row key
row-long first row wide new place key same is =
    ap (λ xs. row_at first xs key) (same ∙ is) ∙ row-append first row (replicate (place - length row) None) key
    ∙ ap (option_or (row_at first row key)) (row-blank (first + length row) (place - length row) key)
    ∙ option_or-none _

-- a row of places without a number
pub row-fresh : (first n m : ℕ) (none_yet row : List (Option ℕ)) (key : ℕ) → none_yet ≡ []
    → row ≡ take n none_yet ++ replicate m None → row_at first row key ≡ None
row-fresh first n m none_yet row key empty is =
    ap (λ xs. row_at first xs key) (is ∙ ap (λ xs. take n xs ++ replicate m None) empty
    ∙ ap (λ xs. xs ++ replicate m None) (take_past n [] (omega arith)))
    ∙ row-blank first m key
