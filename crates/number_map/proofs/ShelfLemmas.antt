-- Numbers in shelves: passed over, found, put in and taken out.
use Rattle.std.proofs.Common.{◌≡◌, ℕ, zero, suc, ◌+◌, ◌<◌, ◌≤◌, Bool, cond, Option, Some, List, [], ◌∷◌, ◌++◌, length, take, drop}
use Rattle.std.proofs.Common.{slice_get, slice_set, get_or, refl, sym, ap, subst, ◌∙◌, arith, inl, inr, append_assoc, length-append}
use Rattle.std.proofs.lemmas.Option.{slice_get_read}
use Rattle.std.proofs.lemmas.Bool.{eq-eqb, ne_eqb, cases_eq}
use Rattle.std.specs.List.{insert, remove}
use Rattle.number_map.specs.declared.shelves.Shelf.{Shelf}
use Rattle.number_map.specs.Places.{number_place}
use Rattle.number_map.specs.Shelves.{numbers_in, StartAt, Spot, Within}
use Rattle.number_map.proofs.PlaceLemmas.{drop_here}

-- ---- lists behind one another

module _ {A : Type 0} where
  -- what was read at a place stands there
  pub read_at : (xs : List A) (i : ℕ) (x : A) → i < length xs → x ≡ get_or xs i x → slice_get xs i ≡ Some x
  read_at xs i x within read = slice_get_read xs (length xs) i x refl within read

  pub at_low : (xs : List A) (i : ℕ) (x : A) → slice_get xs i ≡ Some x → i < length xs
  at_low [] i x e = absurd cc
  at_low (y ∷ xs) zero x e = omega arith
  at_low (y ∷ xs) (suc i) x e = let h = at_low xs i x e in omega (arith, h)

  get-front : (xs ys : List A) (i : ℕ) (x : A) → slice_get xs i ≡ Some x → slice_get (xs ++ ys) i ≡ Some x
  get-front [] ys i x e = absurd cc
  get-front (y ∷ xs) ys zero x e = e
  get-front (y ∷ xs) ys (suc i) x e = get-front xs ys i x e

  -- what stands in the second of three lists
  pub get-within : (xs ys zs : List A) (i : ℕ) (x : A) → slice_get ys i ≡ Some x → slice_get (xs ++ (ys ++ zs)) (length xs + i) ≡ Some x
  get-within [] ys zs i x at = let e : 0 + i ≡ i = omega arith in ap (slice_get (ys ++ zs)) e ∙ get-front ys zs i x at
  get-within (y ∷ xs) ys zs i x at =
      let e : suc (length xs) + i ≡ suc (length xs + i) = omega arith in
      ap (slice_get (y ∷ (xs ++ (ys ++ zs)))) e ∙ get-within xs ys zs i x at

  insert_front : (ys zs : List A) (j : ℕ) (x : A) → j ≤ length ys → insert (ys ++ zs) j x ≡ insert ys j x ++ zs
  insert_front [] zs zero x low = refl
  insert_front [] zs (suc j) x low = absurd (omega (arith, low))
  insert_front (y ∷ ys) zs zero x low = refl
  insert_front (y ∷ ys) zs (suc j) x low = ap (λ (l : List A). y ∷ l) (insert_front ys zs j x (omega (arith, low)))

  -- one put into the second of three lists
  pub insert-within : (xs ys zs : List A) (j : ℕ) (x : A) → j ≤ length ys
      → insert (xs ++ (ys ++ zs)) (length xs + j) x ≡ xs ++ (insert ys j x ++ zs)
  insert-within [] ys zs j x low = let e : 0 + j ≡ j = omega arith in ap (λ i. insert (ys ++ zs) i x) e ∙ insert_front ys zs j x low
  insert-within (y ∷ xs) ys zs j x low =
      let e : suc (length xs) + j ≡ suc (length xs + j) = omega arith in
      ap (λ i. insert (y ∷ (xs ++ (ys ++ zs))) i x) e ∙ ap (λ (l : List A). y ∷ l) (insert-within xs ys zs j x low)

  -- one put in behind the last
  pub insert-last : (xs : List A) (i : ℕ) (x : A) → i ≡ length xs → insert xs i x ≡ xs ++ x ∷ []
  insert-last xs i x e = ap (λ k. insert xs k x) e ∙ go xs where
    go : (xs : List A) → insert xs (length xs) x ≡ xs ++ x ∷ []
    go [] = refl
    go (y ∷ xs) = ap (λ (l : List A). y ∷ l) (go xs)

  remove_front : (ys zs : List A) (j : ℕ) → j < length ys → remove (ys ++ zs) j ≡ remove ys j ++ zs
  remove_front [] zs j low = absurd (omega (arith, low))
  remove_front (y ∷ ys) zs zero low = refl
  remove_front (y ∷ ys) zs (suc j) low = ap (λ (l : List A). y ∷ l) (remove_front ys zs j (omega (arith, low)))

  -- one taken out of the second of three lists
  pub remove-within : (xs ys zs : List A) (j : ℕ) → j < length ys
      → remove (xs ++ (ys ++ zs)) (length xs + j) ≡ xs ++ (remove ys j ++ zs)
  remove-within [] ys zs j low = let e : 0 + j ≡ j = omega arith in ap (remove (ys ++ zs)) e ∙ remove_front ys zs j low
  remove-within (y ∷ xs) ys zs j low =
      let e : suc (length xs) + j ≡ suc (length xs + j) = omega arith in
      ap (remove (y ∷ (xs ++ (ys ++ zs)))) e ∙ ap (λ (l : List A). y ∷ l) (remove-within xs ys zs j low)

  -- a list changed at a place
  pub set_at : (xs : List A) (k : ℕ) (x : A) → k < length xs → slice_get (slice_set xs k x) k ≡ Some x
  set_at [] k x low = absurd (omega (arith, low))
  set_at (y ∷ xs) zero x low = refl
  set_at (y ∷ xs) (suc k) x low = set_at xs k x (omega (arith, low))

  pub set_before : (xs : List A) (k i : ℕ) (x : A) → i < k → slice_get (slice_set xs k x) i ≡ slice_get xs i
  set_before [] k i x low = refl
  set_before (y ∷ xs) zero i x low = absurd (omega (arith, low))
  set_before (y ∷ xs) (suc k) zero x low = refl
  set_before (y ∷ xs) (suc k) (suc i) x low = set_before xs k i x (omega (arith, low))

  -- a list with one more behind a place
  pub inserted_before : (xs : List A) (k i : ℕ) (x : A) → i < k → k ≤ length xs → slice_get (insert xs k x) i ≡ slice_get xs i
  inserted_before xs zero i x low fits = absurd (omega (arith, low))
  inserted_before [] (suc k) i x low fits = absurd (omega (arith, fits))
  inserted_before (y ∷ xs) (suc k) zero x low fits = refl
  inserted_before (y ∷ xs) (suc k) (suc i) x low fits = inserted_before xs k i x (omega (arith, low)) (omega (arith, fits))

  pub take_set : (xs : List A) (k i : ℕ) (x : A) → i ≤ k → take i (slice_set xs k x) ≡ take i xs
  take_set xs k zero x low = refl
  take_set [] k (suc i) x low = refl
  take_set (y ∷ xs) zero (suc i) x low = absurd (omega (arith, low))
  take_set (y ∷ xs) (suc k) (suc i) x low = ap (λ (l : List A). y ∷ l) (take_set xs k i x (omega (arith, low)))

  pub length_set : (xs : List A) (k : ℕ) (x : A) → length (slice_set xs k x) ≡ length xs
  length_set [] k x = refl
  length_set (y ∷ xs) zero x = refl
  length_set (y ∷ xs) (suc k) x = ap suc (length_set xs k x)

  pub take_inserted : (xs : List A) (k : ℕ) (x : A) → k ≤ length xs → take k (insert xs k x) ≡ take k xs
  take_inserted xs zero x low = refl
  take_inserted [] (suc k) x low = absurd (omega (arith, low))
  take_inserted (y ∷ xs) (suc k) x low = ap (λ (l : List A). y ∷ l) (take_inserted xs k x (omega (arith, low)))

  pub set_other : (xs : List A) (k i : ℕ) (x : A) → (i ≡ k → ⊥) → slice_get (slice_set xs k x) i ≡ slice_get xs i
  set_other [] k i x other = refl
  set_other (y ∷ xs) zero zero x other = absurd (other refl)
  set_other (y ∷ xs) zero (suc i) x other = refl
  set_other (y ∷ xs) (suc k) zero x other = refl
  set_other (y ∷ xs) (suc k) (suc i) x other = set_other xs k i x (λ e. other (ap suc e))

  pub length_inserted : (xs : List A) (k : ℕ) (x : A) → k ≤ length xs → length (insert xs k x) ≡ suc (length xs)
  length_inserted xs zero x low = refl
  length_inserted [] (suc k) x low = absurd (omega (arith, low))
  length_inserted (y ∷ xs) (suc k) x low = ap suc (length_inserted xs k x (omega (arith, low)))

  pub length_removed : (xs : List A) (k : ℕ) → k < length xs → suc (length (remove xs k)) ≡ length xs
  length_removed [] k low = absurd (omega (arith, low))
  length_removed (y ∷ xs) zero low = refl
  length_removed (y ∷ xs) (suc k) low = ap suc (length_removed xs k (omega (arith, low)))

  -- at one place one thing stands
  pub one_at : (xs : List A) (k : ℕ) (x y : A) → slice_get xs k ≡ Some x → slice_get xs k ≡ Some y → x ≡ y
  one_at xs k x y here there = let e : ◌≡◌ {A = Option A} (Some x) (Some y) = sym here ∙ there in cc

  pub take_removed : (xs : List A) (k : ℕ) → take k (remove xs k) ≡ take k xs
  take_removed xs zero = refl
  take_removed [] (suc k) = refl
  take_removed (y ∷ xs) (suc k) = ap (λ (l : List A). y ∷ l) (take_removed xs k)

  -- where the first of two lists are alike, the same stands at their places
  pub get_taken : (xs : List A) (k i : ℕ) → i < k → slice_get (take k xs) i ≡ slice_get xs i
  get_taken xs zero i low = absurd (omega (arith, low))
  get_taken [] (suc k) i low = refl
  get_taken (y ∷ xs) (suc k) zero low = refl
  get_taken (y ∷ xs) (suc k) (suc i) low = get_taken xs k i (omega (arith, low))

  pub take_taken : (xs : List A) (k i : ℕ) → i ≤ k → take i (take k xs) ≡ take i xs
  take_taken xs k zero low = refl
  take_taken xs zero (suc i) low = absurd (omega (arith, low))
  take_taken [] (suc k) (suc i) low = refl
  take_taken (y ∷ xs) (suc k) (suc i) low = ap (λ (l : List A). y ∷ l) (take_taken xs k i (omega (arith, low)))

-- ---- where a number stands first

module _ (x : ℕ) where
  pub place-at : (ks : List ℕ) → number_place x ks < length ks → slice_get ks (number_place x ks) ≡ Some x
  place-at [] low = absurd (omega arith)
  place-at (k ∷ ks) low = elim (cases_eq k x) [
    | inl same ↦ rw (eq-eqb k x same) (ap (λ (y : ℕ). Some y) same)
    | inr other ↦
        let low2 : suc (number_place x ks) < suc (length ks) =
        subst (λ (b : Bool). cond {A = ℕ} b 0 (suc (number_place x ks)) < suc (length ks)) (ne_eqb k x other) low
        in
        rw (ne_eqb k x other) (place-at ks (omega (arith, low2)))
  ]

  pub place-front : (a b : List ℕ) → number_place x a < length a → number_place x (a ++ b) ≡ number_place x a
  place-front [] b low = absurd (omega arith)
  place-front (k ∷ a) b low = elim (cases_eq k x) [
    | inl same ↦ rw (eq-eqb k x same) refl
    | inr other ↦
        let low2 : suc (number_place x a) < suc (length a) =
        subst (λ (v : Bool). cond {A = ℕ} v 0 (suc (number_place x a)) < suc (length a)) (ne_eqb k x other) low
        in
        rw (ne_eqb k x other) (ap suc (place-front a b (omega (arith, low2))))
  ]

  pub place-behind : (a b : List ℕ) → length a ≤ number_place x a → number_place x (a ++ b) ≡ length a + number_place x b
  place-behind [] b past = let e : 0 + number_place x b ≡ number_place x b = omega arith in sym e
  place-behind (k ∷ a) b past = elim (cases_eq k x) [
    | inl same ↦
        let none : suc (length a) ≤ 0 =
        subst (λ (v : Bool). suc (length a) ≤ cond {A = ℕ} v 0 (suc (number_place x a))) (eq-eqb k x same) past
        in
        absurd (omega (arith, none))
    | inr other ↦
        let past2 : suc (length a) ≤ suc (number_place x a) =
        subst (λ (v : Bool). suc (length a) ≤ cond {A = ℕ} v 0 (suc (number_place x a))) (ne_eqb k x other) past
        in
        let h = place-behind a b (omega (arith, past2)) in
        rw (ne_eqb k x other) (omega (arith, h))
  ]

-- ---- the numbers of shelves, in parts

pub parts : (k : ℕ) (ss : List Shelf) → numbers_in ss ≡ numbers_in (take k ss) ++ numbers_in (drop k ss)
parts zero ss = refl
parts (suc k) [] = refl
parts (suc k) (s ∷ ss) =
    ap (λ (l : List ℕ). s.numbers.items ++ l) (parts k ss)
    ∙ sym (append_assoc s.numbers.items (numbers_in (take k ss)) (numbers_in (drop k ss)))

module _ (ss : List Shelf) (k : ℕ) (s : Shelf) (at : slice_get ss k ≡ Some s) where
  -- those of a shelf stand between those before it and those behind it
  pub rest-here : numbers_in (drop k ss) ≡ s.numbers.items ++ numbers_in (drop (suc k) ss)
  rest-here = ap (λ (l : List Shelf). numbers_in l) (drop_here ss k s at)

  pub around : numbers_in ss ≡ numbers_in (take k ss) ++ (s.numbers.items ++ numbers_in (drop (suc k) ss))
  around = parts k ss ∙ ap (λ (l : List ℕ). numbers_in (take k ss) ++ l) rest-here

  pub length-around : length (numbers_in ss)
      ≡ length (numbers_in (take k ss)) + (length s.numbers.items + length (numbers_in (drop (suc k) ss)))
  length-around =
      let e = ap (λ (l : List ℕ). length l) around in
      let a = length-append (numbers_in (take k ss)) (s.numbers.items ++ numbers_in (drop (suc k) ss)) in
      let b = length-append s.numbers.items (numbers_in (drop (suc k) ss)) in
      omega (arith, e, a, b)

  -- how many stand before the next shelf
  pub length-next : length (numbers_in (take (k + 1) ss)) ≡ length (numbers_in (take k ss)) + length s.numbers.items
  length-next =
      let n : k + 1 ≡ suc k = omega arith in
      let m = ap (λ i. length (numbers_in (take i ss))) n in
      let e = ap (λ (l : List ℕ). length l) (parts (suc k) ss) in
      let a = length-append (numbers_in (take (suc k) ss)) (numbers_in (drop (suc k) ss)) in
      let h = length-around in
      omega (arith, m, e, a, h)

  -- a number that is read in the shelf
  pub number-in : (j x place : ℕ) → length (numbers_in (take k ss)) + j ≡ place → slice_get s.numbers.items j ≡ Some x
      → slice_get (numbers_in ss) place ≡ Some x
  number-in j x place before here =
      ap (slice_get (numbers_in ss)) (sym before)
      ∙ ap (λ (l : List ℕ). slice_get l (length (numbers_in (take k ss)) + j)) around
      ∙ get-within (numbers_in (take k ss)) s.numbers.items (numbers_in (drop (suc k) ss)) j x here

  -- a number that is found in the shelf, or not
  pub found-in : (x j place : ℕ) → length (numbers_in (take k ss)) + j ≡ place → j ≡ number_place x s.numbers.items
      → j < length s.numbers.items → slice_get (numbers_in ss) place ≡ Some x
  found-in x j place before is low =
      number-in j x place before (ap (slice_get s.numbers.items) is
      ∙ place-at x s.numbers.items (subst (λ i. i < length s.numbers.items) is low))

  pub first-in : (x j all : ℕ) → all ≡ length (numbers_in (take k ss)) + number_place x (numbers_in (drop k ss))
      → j ≡ number_place x s.numbers.items → j < length s.numbers.items → length (numbers_in (take k ss)) + j ≡ all
  first-in x j all was is low =
      let low2 : number_place x s.numbers.items < length s.numbers.items = subst (λ i. i < length s.numbers.items) is low in
      let f = ap (number_place x) rest-here ∙ place-front x s.numbers.items (numbers_in (drop (suc k) ss)) low2 in
      omega (arith, was, is, f)

  pub first-turn : (x j all : ℕ) → all ≡ length (numbers_in (take k ss)) + number_place x (numbers_in (drop k ss))
      → j ≡ number_place x s.numbers.items → length s.numbers.items ≤ j
      → all ≡ length (numbers_in (take (k + 1) ss)) + number_place x (numbers_in (drop (k + 1) ss))
  first-turn x j all was is past =
      let past2 : length s.numbers.items ≤ number_place x s.numbers.items = subst (λ i. length s.numbers.items ≤ i) is past in
      let f = ap (number_place x) rest-here ∙ place-behind x s.numbers.items (numbers_in (drop (suc k) ss)) past2 in
      let n : k + 1 ≡ suc k = omega arith in
      let m = ap (λ i. number_place x (numbers_in (drop i ss))) n in
      let h = length-next in
      omega (arith, was, f, m, h)

-- a place that lies in a shelf
pub within-at : (ss : List Shelf) (k : ℕ) (s : Shelf) (place j : ℕ) → slice_get ss k ≡ Some s
    → s.start ≡ length (numbers_in (take k ss)) → s.start + j ≡ place → j < length s.numbers.items → Within ss place k j
within-at ss k s place j at start is low = record {
  spot = record { shelf = s; is = at; fits = omega (arith, low); before = omega (arith, start, is) };
  low = low;
}

-- a spot, by the shelf that is read there
module _ (ss : List Shelf) (place k j : ℕ) (m : Shelf) (read : m ≡ get_or ss k m) where
  pub spot-at : Spot ss place k j → slice_get ss k ≡ Some m
  spot-at p = read_at ss k m (at_low ss k p.shelf p.is) read

  pub spot-fits : Spot ss place k j → j ≤ length m.numbers.items
  spot-fits p = subst (λ (s : Shelf). j ≤ length s.numbers.items) (one_at ss k p.shelf m p.is (spot-at p)) p.fits

  pub within-low : Within ss place k j → j < length m.numbers.items
  within-low w = subst (λ (s : Shelf). j < length s.numbers.items) (one_at ss k w.spot.shelf m w.spot.is (spot-at w.spot)) w.low

-- the numbers of shelves of which one was changed
pub set-in : (ss : List Shelf) (k : ℕ) (t : Shelf) → k < length ss
    → numbers_in (slice_set ss k t) ≡ numbers_in (take k ss) ++ (t.numbers.items ++ numbers_in (drop (suc k) ss))
set-in [] k t low = absurd (omega (arith, low))
set-in (s ∷ ss) zero t low = refl
set-in (s ∷ ss) (suc k) t low =
    ap (λ (l : List ℕ). s.numbers.items ++ l) (set-in ss k t (omega (arith, low)))
    ∙ sym (append_assoc s.numbers.items (numbers_in (take k ss)) (t.numbers.items ++ numbers_in (drop (suc k) ss)))

-- a shelf changed in nothing but where it starts
pub set-same : (ss : List Shelf) (k : ℕ) (s t : Shelf) → slice_get ss k ≡ Some s → t.numbers.items ≡ s.numbers.items
    → numbers_in (slice_set ss k t) ≡ numbers_in ss
set-same ss k s t at same =
    set-in ss k t (at_low ss k s at)
    ∙ ap (λ (l : List ℕ). numbers_in (take k ss) ++ (l ++ numbers_in (drop (suc k) ss))) same
    ∙ sym (around ss k s at)

-- a number put into a shelf
pub put-in : (ss : List Shelf) (k j place x : ℕ) (s t : Shelf) → slice_get ss k ≡ Some s → j ≤ length s.numbers.items
    → length (numbers_in (take k ss)) + j ≡ place → t.numbers.items ≡ insert s.numbers.items j x
    → numbers_in (slice_set ss k t) ≡ insert (numbers_in ss) place x
put-in ss k j place x s t at low before is =
    set-in ss k t (at_low ss k s at)
    ∙ ap (λ (l : List ℕ). numbers_in (take k ss) ++ (l ++ numbers_in (drop (suc k) ss))) is
    ∙ sym (insert-within (numbers_in (take k ss)) s.numbers.items (numbers_in (drop (suc k) ss)) j x low)
    ∙ ap (λ (l : List ℕ). insert l (length (numbers_in (take k ss)) + j) x) (sym (around ss k s at))
    ∙ ap (λ i. insert (numbers_in ss) i x) before

-- a number taken out of a shelf
pub taken-out : (ss : List Shelf) (k j place : ℕ) (s t : Shelf) → slice_get ss k ≡ Some s → j < length s.numbers.items
    → length (numbers_in (take k ss)) + j ≡ place → t.numbers.items ≡ remove s.numbers.items j
    → numbers_in (slice_set ss k t) ≡ remove (numbers_in ss) place
taken-out ss k j place s t at low before is =
    set-in ss k t (at_low ss k s at)
    ∙ ap (λ (l : List ℕ). numbers_in (take k ss) ++ (l ++ numbers_in (drop (suc k) ss))) is
    ∙ sym (remove-within (numbers_in (take k ss)) s.numbers.items (numbers_in (drop (suc k) ss)) j low)
    ∙ ap (λ (l : List ℕ). remove l (length (numbers_in (take k ss)) + j)) (sym (around ss k s at))
    ∙ ap (remove (numbers_in ss)) before

-- an empty shelf that goes
pub empty-out : (ss : List Shelf) (k : ℕ) (s : Shelf) → slice_get ss k ≡ Some s → s.numbers.items ≡ []
    → numbers_in (remove ss k) ≡ numbers_in ss
empty-out [] k s at none = absurd cc
empty-out (r ∷ ss) zero s at none =
    let same : r ≡ s = cc in
    sym (ap (λ (l : List ℕ). l ++ numbers_in ss) (ap (λ (q : Shelf). q.numbers.items) same ∙ none))
empty-out (r ∷ ss) (suc k) s at none = ap (λ (l : List ℕ). r.numbers.items ++ l) (empty-out ss k s at none)

-- a shelf cut in two
pub cut-in : (ss : List Shelf) (k : ℕ) (s low high : Shelf) → slice_get ss k ≡ Some s
    → low.numbers.items ++ high.numbers.items ≡ s.numbers.items
    → numbers_in (slice_set (insert ss (k + 1) high) k low) ≡ numbers_in ss
cut-in ss k s low high at halves = let n : k + 1 ≡ suc k = omega arith in rw n (go ss k at) where
  go : (ss : List Shelf) (k : ℕ) → slice_get ss k ≡ Some s → numbers_in (slice_set (insert ss (suc k) high) k low) ≡ numbers_in ss
  go [] k e = absurd cc
  go (r ∷ ss) zero e =
      let same : r ≡ s = cc in
      sym (append_assoc low.numbers.items high.numbers.items (numbers_in ss))
      ∙ ap (λ (l : List ℕ). l ++ numbers_in ss) (halves ∙ ap (λ (q : Shelf). q.numbers.items) (sym same))
  go (r ∷ ss) (suc k) e = ap (λ (l : List ℕ). r.numbers.items ++ l) (go ss k e)

-- ---- where shelves start

-- the first shelves are the same, and start where they did
pub starts-front : (ss ts : List Shelf) (k : ℕ) → take k ts ≡ take k ss → ((i : ℕ) → StartAt ss i) → (i : ℕ) → i < k → StartAt ts i
starts-front ss ts k same starts i low s at =
    let there : slice_get ss i ≡ Some s =
    sym (get_taken ss k i low) ∙ ap (λ (l : List Shelf). slice_get l i) (sym same) ∙ get_taken ts k i low ∙ at in
    let front : take i ts ≡ take i ss =
    sym (take_taken ts k i (omega (arith, low))) ∙ ap (λ (l : List Shelf). take i l) same ∙ take_taken ss k i (omega (arith, low)) in
    starts i s there ∙ ap (λ (l : List Shelf). length (numbers_in l)) (sym front)

-- a shelf that was started anew
pub starts-turn : (ss : List Shelf) (k : ℕ) (t : Shelf) → k < length ss → t.start ≡ length (numbers_in (take k ss))
    → ((i : ℕ) → i < k → StartAt ss i) → (i : ℕ) → i < k + 1 → StartAt (slice_set ss k t) i
starts-turn ss k t low is starts i less s at = elim (cases_eq i k) [
  | inl same ↦
      let here : slice_get (slice_set ss k t) k ≡ Some s = ap (slice_get (slice_set ss k t)) (sym same) ∙ at in
      let so : ◌≡◌ {A = Option Shelf} (Some t) (Some s) = sym (set_at ss k t low) ∙ here in
      let e : t ≡ s = cc in
      ap (λ (q : Shelf). q.start) (sym e) ∙ is
      ∙ ap (λ (l : List Shelf). length (numbers_in l)) (sym (take_set ss k k t (omega arith)))
      ∙ ap (λ n. length (numbers_in (take n (slice_set ss k t)))) (sym same)
  | inr other ↦
      let under : i < k = omega (arith, less, other) in
      starts i under s (sym (set_before ss k i t under) ∙ at)
      ∙ ap (λ (l : List Shelf). length (numbers_in l)) (sym (take_set ss k i t (omega (arith, under))))
]

-- behind the last there is none
pub starts-all : (ss : List Shelf) (n : ℕ) → length ss ≤ n → ((i : ℕ) → i < n → StartAt ss i) → (i : ℕ) → StartAt ss i
starts-all ss n past starts i s at =
    let low = at_low ss i s at in
    starts i (omega (arith, low, past)) s at

-- a shelf changed in nothing that counts
front-same : (ss : List Shelf) (k i : ℕ) (s t : Shelf) → slice_get ss k ≡ Some s → t.numbers.items ≡ s.numbers.items
    → numbers_in (take i (slice_set ss k t)) ≡ numbers_in (take i ss)
front-same [] k i s t at same = refl
front-same (r ∷ ss) k zero s t at same = refl
front-same (r ∷ ss) zero (suc i) s t at same =
    let e : r ≡ s = cc in
    ap (λ (l : List ℕ). l ++ numbers_in (take i ss)) (same ∙ ap (λ (q : Shelf). q.numbers.items) (sym e))
front-same (r ∷ ss) (suc k) (suc i) s t at same = ap (λ (l : List ℕ). r.numbers.items ++ l) (front-same ss k i s t at same)

pub starts-same : (ss : List Shelf) (k : ℕ) (s t : Shelf) → slice_get ss k ≡ Some s → t.numbers.items ≡ s.numbers.items
    → t.start ≡ s.start → ((i : ℕ) → StartAt ss i) → (i : ℕ) → StartAt (slice_set ss k t) i
starts-same ss k s t at same start starts i q there = elim (cases_eq i k) [
  | inl here ↦
      let is : t ≡ q = one_at (slice_set ss k t) k t q (set_at ss k t (at_low ss k s at))
      (ap (slice_get (slice_set ss k t)) (sym here) ∙ there) in
      ap (λ (r : Shelf). r.start) (sym is) ∙ start ∙ starts k s at
      ∙ ap (λ (l : List ℕ). length l) (sym (front-same ss k k s t at same))
      ∙ ap (λ n. length (numbers_in (take n (slice_set ss k t)))) (sym here)
  | inr other ↦
      starts i q (sym (set_other ss k i t other) ∙ there) ∙ ap (λ (l : List ℕ). length l) (sym (front-same ss k i s t at same))
]
