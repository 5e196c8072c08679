-- A winner is the greatest of its name.
use Rattle.std.proofs.Common.{◌≡◌, ◌⊎◌, ℕ, zero, suc, ◌+◌, ◌-◌, ◌<◌, ◌≤◌, nat_lt, Bool, true, false, not, ◌&&◌, ◌||◌, List, [], ◌∷◌, ◌++◌}
use Rattle.std.proofs.Common.{map, take, length, Option, Some, subst, refl, sym, ap, ◌∙◌, inl, inr, arith, append_assoc, append-nil}
use Rattle.std.proofs.Common.{length-append}
use Rattle.std.proofs.lemmas.Bool.{cases_lt, cases_order, and_parts, and_from, and_cases, or_parts, or_from, ltb-true, ltb-false, le-ltb}
use Rattle.std.proofs.lemmas.Bool.{lt-ltb, not_from_false}
use Rattle.std.proofs.lemmas.List.{length-map}
use Rattle.std.proofs.lemmas.Option.{slice_get_within}
use Rattle.std.proofs.lemmas.Slice.Eq.{bytes_eq-Decides}
use Rattle.std.specs.Str.{bytes_eq}
use Rattle.std.specs.List.{slice_get, list_any, flat_map}
use Rattle.cascade_match.specs.declared.blocks.Block.{Block}
use Rattle.cascade_match.specs.Winning.{rank_of, Candidate, candidate_of, candidates, outranks, overrides, is_winner, wins_from, wins}
use Rattle.cascade_match.specs.WinnerPlaces.{PlacedDecl, IsDeclared, IsBelow, IsGreatest, number_of, IsWinner}

-- ---- lists

module _ {A : Type 0} where
  get-front : (front rest : List A) (i : ℕ) → i < length front → slice_get (front ++ rest) i ≡ slice_get front i
  get-front [] rest i inside = absurd (omega arith)
  get-front (x ∷ front) rest zero inside = refl
  get-front (x ∷ front) rest (suc i) inside = get-front front rest i (omega arith)

  get-behind : (front rest : List A) (i k : ℕ) → i ≡ length front + k → slice_get (front ++ rest) i ≡ slice_get rest k
  get-behind [] rest i k e = ap (λ (n : ℕ). slice_get rest n) (let same : i ≡ k = omega arith in same)
  get-behind (x ∷ front) rest zero k e = absurd (omega arith)
  get-behind (x ∷ front) rest (suc i) k e = get-behind front rest i k (omega arith)

  -- a list at one of its places
  record Cut (xs : List A) (i : ℕ) (x : A) : Type 0 where
    front : List A
    back : List A
    is : xs ≡ front ++ x ∷ back
    long : length front ≡ i

  cut : (xs : List A) (i : ℕ) (x : A) → slice_get xs i ≡ Some x → Cut xs i x
  cut [] i x e = absurd (cc)
  cut (y ∷ xs) zero x e = let same : y ≡ x = cc in record { front = []; back = xs; is = ap (λ (w : A). w ∷ xs) same; long = refl }
  cut (y ∷ xs) (suc i) x e = let h = cut xs i x e in record {
    front = y ∷ h.front;
    back = h.back;
    is = ap (λ (l : List A). y ∷ l) h.is;
    long = ap suc h.long;
  }

  any-at : (test : A → Bool) (xs : List A) (i : ℕ) (x : A) → list_any test xs ≡ false → slice_get xs i ≡ Some x → test x ≡ false
  any-at test [] i x none e = absurd (cc)
  any-at test (y ∷ xs) zero x none e = let same : y ≡ x = cc in ap test (sym same) ∙ (or_parts (test y) (list_any test xs) none).0
  any-at test (y ∷ xs) (suc i) x none e = any-at test xs i x (or_parts (test y) (list_any test xs) none).1 e

  any-of : (test : A → Bool) (xs : List A) → ((i : ℕ) (x : A) → slice_get xs i ≡ Some x → test x ≡ false) → list_any test xs ≡ false
  any-of test [] each = refl
  any-of test (y ∷ xs) each = or_from (test y) (list_any test xs) (each 0 y refl) (any-of test xs (λ i x e. each (suc i) x e))

  any-here : (test : A → Bool) (xs : List A) (i : ℕ) (x : A) → slice_get xs i ≡ Some x → test x ≡ true → list_any test xs ≡ true
  any-here test xs i x e holds = by (list_any test xs) refl
    where
      by : (b : Bool) → list_any test xs ≡ b → list_any test xs ≡ true
      by true h = h
      by false h = let fails = any-at test xs i x h e in absurd (cc)

module _ {A B : Type 0} (f : A → B) where
  get-map : (xs : List A) (i : ℕ) (x : A) → slice_get xs i ≡ Some x → slice_get (map f xs) i ≡ Some (f x)
  get-map [] i x e = absurd (cc)
  get-map (y ∷ xs) zero x e = let same : y ≡ x = cc in ap (λ (w : A). Some (f w)) same
  get-map (y ∷ xs) (suc i) x e = get-map xs i x e

  map-get : (xs : List A) (i : ℕ) (y : B) → slice_get (map f xs) i ≡ Some y → (x : A) × (slice_get xs i ≡ Some x) × (f x ≡ y)
  map-get [] i y e = absurd (cc)
  map-get (x ∷ xs) zero y e = let same : f x ≡ y = cc in (x, refl, same)
  map-get (x ∷ xs) (suc i) y e = map-get xs i y e

-- lists, one behind the other
module _ {A B : Type 0} (f : A → List B) where
  flat-at : (xs : List A) (b p i : ℕ) (x : A) (y : B) → slice_get xs b ≡ Some x → slice_get (f x) p ≡ Some y
      → i ≡ length (flat_map f (take b xs)) + p → slice_get (flat_map f xs) i ≡ Some y
  flat-at [] b p i x y at e is = absurd (cc)
  flat-at (w ∷ xs) zero p i x y at e is =
      let same : w ≡ x = cc in
      let here : i ≡ p = omega arith in
      let inside = slice_get_within (f x) p y e in
      ap (λ (n : ℕ). slice_get (f w ++ flat_map f xs) n) here ∙ ap (λ (v : A). slice_get (f v ++ flat_map f xs) p) same ∙ get-front (f x)
      (flat_map f xs) p inside ∙ e
  flat-at (w ∷ xs) (suc b) p i x y at e is =
      let k = length (flat_map f (take b xs)) + p in
      let long = length-append (f w) (flat_map f (take b xs)) in
      let there : i ≡ length (f w) + k = omega arith in
      get-behind (f w) (flat_map f xs) i k there ∙ flat-at xs b p k x y at e refl

  record Flat (xs : List A) (i : ℕ) (y : B) : Type 0 where
    outer : ℕ
    inner : ℕ
    item : A
    there : slice_get xs outer ≡ Some item
    inside : slice_get (f item) inner ≡ Some y
    is : i ≡ length (flat_map f (take outer xs)) + inner

  flat-of : (xs : List A) (i : ℕ) (y : B) → slice_get (flat_map f xs) i ≡ Some y → Flat xs i y
  flat-of [] i y e = absurd (cc)
  flat-of (w ∷ xs) i y e = elim (cases_lt i (length (f w))) [
    | inl here ↦ record {
      outer = 0;
      inner = i;
      item = w;
      there = refl;
      inside = sym (get-front (f w) (flat_map f xs) i here) ∙ e;
      is = omega arith;
    }
    | inr there ↦ behind (λ k there. flat-of xs k y there) (i - length (f w)) (omega arith)
  ]
    where
      behind : ((k : ℕ) → slice_get (flat_map f xs) k ≡ Some y → Flat xs k y) → (k : ℕ) → i ≡ length (f w) + k → Flat (w ∷ xs) i y
      behind rest k is =
          let h = rest k (sym (get-behind (f w) (flat_map f xs) i k is) ∙ e) in
          let long = length-append (f w) (flat_map f (take h.outer xs)) in
          let at : k ≡ length (flat_map f (take h.outer xs)) + h.inner = h.is in
          record { outer = suc h.outer; inner = h.inner; item = h.item; there = h.there; inside = h.inside; is = omega arith }

  flat-order : (xs : List A) (b c p : ℕ) (x : A) (y : B) → b < c → slice_get xs b ≡ Some x → slice_get (f x) p ≡ Some y
      → length (flat_map f (take b xs)) + p < length (flat_map f (take c xs))
  flat-order [] b c p x y less at e = absurd (cc)
  flat-order (w ∷ xs) b zero p x y less at e = absurd (omega arith)
  flat-order (w ∷ xs) zero (suc c) p x y less at e =
      let same : w ≡ x = cc in
      let inside : p < length (f w) = subst (λ (v : A). p < length (f v)) (sym same) (slice_get_within (f x) p y e) in
      let long = length-append (f w) (flat_map f (take c xs)) in
      omega arith
  flat-order (w ∷ xs) (suc b) (suc c) p x y less at e =
      let rest : length (flat_map f (take b xs)) + p < length (flat_map f (take c xs)) = flat-order xs b c p x y (omega arith) at e in
      let long = length-append (f w) (flat_map f (take c xs)) in
      let other = length-append (f w) (flat_map f (take b xs)) in
      omega arith

-- ---- winners among candidates

wins-at : (before front : List Candidate) (r : Candidate) (back : List Candidate)
    → slice_get (wins_from before (front ++ r ∷ back)) (length front) ≡ Some (is_winner (before ++ front) r back)
wins-at before [] r back = ap (λ (l : List Candidate). Some (is_winner l r back)) (sym (append-nil before))
wins-at before (x ∷ front) r back = wins-at (before ++ x ∷ []) front r back ∙ ap (λ (l : List Candidate). Some (is_winner l r back))
    (append_assoc before (x ∷ []) front)

length-wins : (before xs : List Candidate) → length (wins_from before xs) ≡ length xs
length-wins before [] = refl
length-wins before (x ∷ xs) = ap suc (length-wins (before ++ x ∷ []) xs)

-- each other of its name is of a lower rank, or of the same rank and before it
abbrev IsBest : List Candidate → ℕ → Candidate → Type 0
IsBest xs n r = (j : ℕ) (x : Candidate) → slice_get xs j ≡ Some x → x.name ≡ r.name → (j < n → x.rank ≤ r.rank) × (n < j → x.rank < r.rank)

same_names : (a b : List ℕ) → a ≡ b → bytes_eq a b ≡ true
same_names a b e = (bytes_eq-Decides a b).1 e

no-outranks : (r x : Candidate) → outranks r x ≡ false → x.name ≡ r.name → x.rank ≤ r.rank
no-outranks r x fails same = elim (and_cases (bytes_eq x.name r.name) (nat_lt r.rank x.rank) fails) [
  | inl other ↦ let is = same_names x.name r.name same in absurd (cc)
  | inr low ↦ ltb-false r.rank x.rank low
]

no-overrides : (r x : Candidate) → overrides r x ≡ false → x.name ≡ r.name → x.rank < r.rank
no-overrides r x fails same = elim (and_cases (bytes_eq x.name r.name) (not (nat_lt x.rank r.rank)) fails) [
  | inl other ↦ let is = same_names x.name r.name same in absurd (cc)
  | inr low ↦ lower (nat_lt x.rank r.rank) refl low
]
  where
    lower : (b : Bool) → nat_lt x.rank r.rank ≡ b → not b ≡ false → x.rank < r.rank
    lower true e h = ltb-true x.rank r.rank e
    lower false e h = absurd (cc)

outranks-no : (r x : Candidate) → (x.name ≡ r.name → x.rank ≤ r.rank) → outranks r x ≡ false
outranks-no r x low = by (bytes_eq x.name r.name) refl
  where
    by : (b : Bool) → bytes_eq x.name r.name ≡ b → (b && nat_lt r.rank x.rank) ≡ false
    by true e = le-ltb r.rank x.rank (low ((bytes_eq-Decides x.name r.name).0 e))
    by false e = refl

overrides-no : (r x : Candidate) → (x.name ≡ r.name → x.rank < r.rank) → overrides r x ≡ false
overrides-no r x low = by (bytes_eq x.name r.name) refl
  where
    by : (b : Bool) → bytes_eq x.name r.name ≡ b → (b && not (nat_lt x.rank r.rank)) ≡ false
    by true e = ap not (lt-ltb x.rank r.rank (low ((bytes_eq-Decides x.name r.name).0 e)))
    by false e = refl

not_true : (b : Bool) → not b ≡ true → b ≡ false
not_true true e = absurd (cc)
not_true false e = refl

same_winner : {a b : Bool} → Some a ≡ Some b → a ≡ b
same_winner e = cc

module _ (xs : List Candidate) (n : ℕ) (r : Candidate) (there : slice_get xs n ≡ Some r) where
  whole : Cut xs n r
  whole = cut xs n r there

  told : slice_get (wins_from [] xs) n ≡ Some (is_winner whole.front r whole.back)
  told =
      ap (λ (l : List Candidate). slice_get (wins_from [] l) n) whole.is ∙ ap
      (λ (i : ℕ). slice_get (wins_from [] (whole.front ++ r ∷ whole.back)) i) (sym whole.long) ∙ wins-at [] whole.front r whole.back

  at_front : (j : ℕ) → j < n → slice_get xs j ≡ slice_get whole.front j
  at_front j less = ap (λ (l : List Candidate). slice_get l j) whole.is ∙ get-front whole.front (r ∷ whole.back) j
      (let inside : j < length whole.front = omega (arith, whole.long) in inside)

  at_back : (j k : ℕ) → j ≡ n + suc k → slice_get xs j ≡ slice_get whole.back k
  at_back j k e = ap (λ (l : List Candidate). slice_get l j) whole.is ∙ get-behind whole.front (r ∷ whole.back) j (suc k)
      (let at : j ≡ length whole.front + suc k = omega (arith, whole.long) in at)

  pub best-of : slice_get (wins_from [] xs) n ≡ Some true → IsBest xs n r
  best-of won j x at same =
      let is = same_winner (sym told ∙ won) in
      let parts = and_parts (not (list_any (outranks r) whole.front)) (not (list_any (overrides r) whole.back)) is in (
        λ less. no-outranks r x (any-at (outranks r) whole.front j x (not_true (list_any (outranks r) whole.front) parts.0)
            (sym (at_front j less) ∙ at)) same,
        λ less. let k = j - suc n in
            no-overrides r x (any-at (overrides r) whole.back k x (not_true (list_any (overrides r) whole.back) parts.1)
            (sym (at_back j k (omega arith)) ∙ at)) same,
      )

  pub of-best : IsBest xs n r → slice_get (wins_from [] xs) n ≡ Some true
  of-best best =
      let before = any-of (outranks r) whole.front (λ j x at.
      let less : j < n = (let inside = slice_get_within whole.front j x at in omega (arith, whole.long)) in
      outranks-no r x (λ same. (best j x (at_front j less ∙ at) same).0 less)) in
      let after = any-of (overrides r) whole.back
      (λ k x at. overrides-no r x (λ same. (best (n + suc k) x (at_back (n + suc k) k refl ∙ at) same).1 (omega arith))) in
      told ∙ ap Some (and_from (not (list_any (outranks r) whole.front)) (not (list_any (overrides r) whole.back))
      (not_from_false (list_any (outranks r) whole.front) before) (not_from_false (list_any (overrides r) whole.back) after))

-- a name that is there has a best
pub record Best (q : List ℕ) (xs : List Candidate) : Type 0 where
  pub place : ℕ
  pub best : Candidate
  pub there : slice_get xs place ≡ Some best
  pub name : best.name ≡ q
  pub is : IsBest xs place best

first-best : (q : List ℕ) (x : Candidate) (xs : List Candidate) → x.name ≡ q
    → ((j : ℕ) (y : Candidate) → slice_get xs j ≡ Some y → y.name ≡ q → y.rank < x.rank) → Best q (x ∷ xs)
first-best q x xs same low = record { place = 0; best = x; there = refl; name = same; is = each }
  where
    each : IsBest (x ∷ xs) 0 x
    each zero y at e = (λ less. absurd (omega arith), λ less. absurd (omega arith))
    each (suc j) y at e = (λ less. absurd (omega arith), λ less. low j y at (e ∙ same))

later-best : (q : List ℕ) (x : Candidate) (xs : List Candidate) (b : Best q xs) → (x.name ≡ q → x.rank ≤ b.best.rank) → Best q (x ∷ xs)
later-best q x xs b low = record { place = suc b.place; best = b.best; there = b.there; name = b.name; is = each }
  where
    each : IsBest (x ∷ xs) (suc b.place) b.best
    each zero y at e = let same : x
        ≡ y = cc in (
          λ less. subst (λ (w : Candidate). w.rank ≤ b.best.rank) same
              (low (ap (λ (w : Candidate). w.name) same ∙ e ∙ b.name)),
          λ less. absurd (omega arith),
        )
    each (suc j) y at e = let rest = b.is j y at e in (λ less. rest.0 (omega arith), λ less. rest.1 (omega arith))

pub best-there : (q : List ℕ) (xs : List Candidate) → list_any (λ x. bytes_eq x.name q) xs ≡ true → Best q xs
best-there q [] e = absurd (cc)
best-there q (x ∷ xs) e = by (λ there. best-there q xs there) (bytes_eq x.name q) (list_any (λ y. bytes_eq y.name q) xs) refl refl
  where
    none_more : list_any (λ y. bytes_eq y.name q) xs ≡ false → (j : ℕ) (y : Candidate) → slice_get xs j ≡ Some y → y.name ≡ q
        → y.rank < x.rank
    none_more none j y at same = let other = any-at
        (λ (w : Candidate). bytes_eq w.name q) xs j y none at in let is = same_names y.name q same in absurd (cc)

    highest : (b : Best q xs) → b.best.rank < x.rank → (j : ℕ) (y : Candidate) → slice_get xs j ≡ Some y → y.name ≡ q → y.rank < x.rank
    highest b less j y at same = elim (cases_order j b.place) [
      | inl here ↦ let it : Some y ≡ Some b.best = sym at ∙ ap (λ (n : ℕ). slice_get xs n) here ∙ b.there in let equal : y
          ≡ b.best = cc in subst (λ (w : Candidate). w.rank < x.rank) (sym equal) less
      | inr other ↦ elim other [
        | inl before ↦ let low = (b.is j y at (same ∙ sym b.name)).0 before in omega arith
        | inr after ↦ let low = (b.is j y at (same ∙ sym b.name)).1 after in omega arith
      ]
    ]

    by : (list_any (λ y. bytes_eq y.name q) xs ≡ true → Best q xs) → (here more : Bool) → bytes_eq x.name q ≡ here
        → list_any (λ y. bytes_eq y.name q) xs ≡ more → Best q (x ∷ xs)
    by rest here true same there =
        let b = rest there in
        elim (cases_lt b.best.rank x.rank) [
          | inl less ↦ named here same b less
          | inr low ↦ later-best q x xs b (λ _. low)
        ]
      where
        named : (here : Bool) → bytes_eq x.name q ≡ here → (b : Best q xs) → b.best.rank < x.rank → Best q (x ∷ xs)
        named true same b less = first-best q x xs ((bytes_eq-Decides x.name q).0 same) (highest b less)
        named false same b less = later-best q x xs b (λ is. let yes = same_names x.name q is in absurd (cc))
    by rest true false same there = first-best q x xs ((bytes_eq-Decides x.name q).0 same) (none_more there)
    by rest false false same there = let wrong : (bytes_eq x.name q || list_any (λ y. bytes_eq y.name q) xs)
        ≡ false = or_from (bytes_eq x.name q) (list_any (λ y. bytes_eq y.name q) xs) same there in absurd (cc)

-- ---- declarations by their places

abbrev block_candidates : Block → List Candidate
block_candidates b = map (candidate_of b.origin) b.declarations

-- a declaration as it competes
abbrev pub as_candidate : PlacedDecl → Candidate
as_candidate d = record { name = d.name; rank = d.rank }

same-count : (blocks : List Block) → length (flat_map (λ b. b.declarations) blocks) ≡ length (flat_map block_candidates blocks)
same-count [] = refl
same-count (b ∷ blocks) =
    let rest = same-count blocks in
    let one = length-append b.declarations (flat_map (λ c. c.declarations) blocks) in
    let other = length-append (block_candidates b) (flat_map block_candidates blocks) in
    let mapped = length-map b.declarations (candidate_of b.origin) in
    omega arith

module _ (blocks : List Block) where
  inner-of : (d : PlacedDecl) (h : IsDeclared blocks d) → slice_get (block_candidates h.among) d.place ≡ Some (as_candidate d)
  inner-of d h =
      get-map (candidate_of h.among.origin) h.among.declarations d.place h.decl h.place
      ∙ ap (λ (name : List ℕ). Some (record { name = name; rank = rank_of h.among.origin h.decl.important })) (sym h.name)
      ∙ ap (λ (rank : ℕ). Some (record { name = d.name; rank = rank })) (sym h.rank)

  number-is : (d : PlacedDecl) → number_of blocks d ≡ length (flat_map block_candidates (take d.block blocks)) + d.place
  number-is d = let same = same-count (take d.block blocks) in omega arith

  pub number-there : (d : PlacedDecl) → IsDeclared blocks d → slice_get (candidates blocks) (number_of blocks d) ≡ Some (as_candidate d)
  number-there d h = flat-at block_candidates blocks d.block d.place (number_of blocks d) h.among (as_candidate d) h.block (inner-of d h)
      (number-is d)

  record Numbered (n : ℕ) (x : Candidate) : Type 0 where
    decl : PlacedDecl
    declared : IsDeclared blocks decl
    number : number_of blocks decl ≡ n
    is : as_candidate decl ≡ x

  numbered : (n : ℕ) (x : Candidate) → slice_get (candidates blocks) n ≡ Some x → Numbered n x
  numbered n x e =
      let f = flat-of block_candidates blocks n x e in
      let m = map-get (candidate_of f.item.origin) f.item.declarations f.inner x f.inside in
      let d : PlacedDecl = record { block = f.outer; place = f.inner; name = m.0.name; rank = rank_of f.item.origin m.0.important } in
      record {
        decl = d;
        declared = record { among = f.item; decl = m.0; block = f.there; place = m.1; name = refl; rank = refl };
        number = number-is d ∙ sym f.is;
        is = m.2;
      }

  before-number : (d e : PlacedDecl) → IsDeclared blocks d → (d.block < e.block) ⊎ ((d.block ≡ e.block) × (d.place < e.place))
      → number_of blocks d < number_of blocks e
  before-number d e h (inl less) =
      let order = flat-order block_candidates blocks d.block e.block d.place h.among (as_candidate d) less h.block (inner-of d h) in
      omega (arith, number-is d, number-is e)
  before-number d e h (inr (same, less)) =
      let at : length (flat_map block_candidates (take d.block blocks))
      ≡ length (flat_map block_candidates (take e.block blocks)) = ap
      (λ (n : ℕ). length (flat_map block_candidates (take n blocks))) same in
      omega (arith, number-is d, number-is e)

  -- where two declarations stand to one another
  order-of : (d e : PlacedDecl) → ((d.block ≡ e.block) × (d.place ≡ e.place))
      ⊎ (((d.block < e.block) ⊎ ((d.block ≡ e.block) × (d.place < e.place)))
      ⊎ ((e.block < d.block) ⊎ ((e.block ≡ d.block) × (e.place < d.place))))
  order-of d e = elim (cases_order d.block e.block) [
    | inl same ↦ elim (cases_order d.place e.place) [
      | inl equal ↦ inl (same, equal)
      | inr other ↦ elim other [ inl less ↦ inr (inl (inr (same, less))) | inr more ↦ inr (inr (inr (sym same, more))) ]
    ]
    | inr other ↦ elim other [ inl less ↦ inr (inl (inl less)) | inr more ↦ inr (inr (inl more)) ]
  ]

  same-decl : (d e : PlacedDecl) → IsDeclared blocks d → IsDeclared blocks e → d.block ≡ e.block → d.place ≡ e.place → d ≡ e
  same-decl d e h k block place =
      let at : number_of blocks d ≡ number_of blocks e = ap
      (λ (n : ℕ). length (flat_map (λ b. b.declarations) (take n blocks)) + d.place) block ∙ ap
      (λ (n : ℕ). length (flat_map (λ b. b.declarations) (take e.block blocks)) + n) place in
      let both : Some (as_candidate d)
      ≡ Some (as_candidate e) = sym (number-there d h) ∙ ap (λ (n : ℕ). slice_get (candidates blocks) n) at ∙ number-there e k in
      let same : as_candidate d ≡ as_candidate e = same_candidate (as_candidate d) (as_candidate e) both in
      λ i. record { block = block i; place = place i; name = (same i).name; rank = (same i).rank }
    where
      same_candidate : (x y : Candidate) → Some x ≡ Some y → x ≡ y
      same_candidate x y e = cc

  pub greatest-of : (d : PlacedDecl) → IsDeclared blocks d → slice_get (wins blocks) (number_of blocks d) ≡ Some true → IsGreatest blocks d
  greatest-of d h won e k same =
      let best = best-of (candidates blocks) (number_of blocks d) (as_candidate d) (number-there d h) won (number_of blocks e)
      (as_candidate e) (number-there e k) same in
      elim (order-of e d) [
        | inl at ↦ inl (same-decl e d k h at.0 at.1)
        | inr other ↦ elim other [
          | inl less ↦ inr (before (best.0 (before-number e d k less)) less)
          | inr more ↦ inr (inl (best.1 (before-number d e h more)))
        ]
      ]
    where
      before : e.rank ≤ d.rank → (e.block < d.block) ⊎ ((e.block ≡ d.block) × (e.place < d.place)) → IsBelow e d
      before low less = elim (cases_lt e.rank d.rank) [
        | inl lower ↦ inl lower
        | inr high ↦ inr
            ((let equal : e.rank ≡ d.rank = omega arith in equal), less)
      ]

  pub of-greatest : (d : PlacedDecl) → IsDeclared blocks d → IsGreatest blocks d → slice_get (wins blocks) (number_of blocks d) ≡ Some true
  of-greatest d h greatest = of-best (candidates blocks) (number_of blocks d) (as_candidate d) (number-there d h) each
    where
      by : (e : PlacedDecl) → IsDeclared blocks e → (e ≡ d) ⊎ IsBelow e d
          → (number_of blocks e < number_of blocks d → e.rank ≤ d.rank) × (number_of blocks d < number_of blocks e → e.rank < d.rank)
      by e k (inl same) = let at = ap (λ (w : PlacedDecl). number_of blocks w) same in
          (λ less. absurd (omega arith), λ less. absurd (omega arith))
      by e k (inr (inl lower)) = (λ less. omega arith, λ less. lower)
      by e k (inr (inr (equal, less))) = let order = before-number e d k less in (λ _. omega arith, λ more. absurd (omega arith))

      each : IsBest (candidates blocks) (number_of blocks d) (as_candidate d)
      each j x at same =
          let m = numbered j x at in
          let rank : m.decl.rank ≡ x.rank = ap (λ (w : Candidate). w.rank) m.is in
          let two = by m.decl m.declared (greatest m.decl m.declared (ap (λ (w : Candidate). w.name) m.is ∙ same)) in
          let low = two.0 in
          let lower = two.1 in (
            λ less. (let r = low (let l : number_of blocks m.decl < number_of blocks d = omega (arith, m.number) in l) in omega arith),
            λ more. (let r = lower (let l : number_of blocks d < number_of blocks m.decl = omega (arith, m.number) in l) in omega arith),
          )

  pub winner-there : (d : PlacedDecl) → IsDeclared blocks d → (w : PlacedDecl) × IsWinner blocks w × (w.name ≡ d.name)
  winner-there d h =
      let xs = candidates blocks in
      let b = best-there d.name xs (any-here (λ (x : Candidate). bytes_eq x.name d.name) xs (number_of blocks d) (as_candidate d)
      (number-there d h) (same_names d.name d.name refl)) in
      let m = numbered b.place b.best b.there in
      let won : slice_get (wins blocks) b.place ≡ Some true = of-best xs b.place b.best b.there b.is in (
        m.decl,
        record { declared = m.declared; told = ap (λ (n : ℕ). slice_get (wins blocks) n) m.number ∙ won },
        ap
            (λ (w : Candidate). w.name) m.is ∙ b.name,
      )

  not_both : (d e : PlacedDecl) → IsBelow d e → IsBelow e d → ⊥
  not_both d e (inl a) (inl b) = omega arith
  not_both d e (inl a) (inr (b, _)) = omega arith
  not_both d e (inr (a, _)) (inl b) = omega arith
  not_both d e (inr (a, inl x)) (inr (b, inl y)) = omega arith
  not_both d e (inr (a, inl x)) (inr (b, inr (y, z))) = omega arith
  not_both d e (inr (a, inr (x, w))) (inr (b, inl y)) = omega arith
  not_both d e (inr (a, inr (x, w))) (inr (b, inr (y, z))) = omega arith

  pub one-winner : (d e : PlacedDecl) → IsWinner blocks d → IsWinner blocks e → d.name ≡ e.name → d ≡ e
  one-winner d e h k same = by (greatest-of e k.declared k.told d h.declared same) (greatest-of d h.declared h.told e k.declared (sym same))
    where
      by : (d ≡ e) ⊎ IsBelow d e → (e ≡ d) ⊎ IsBelow e d → d ≡ e
      by (inl is) _ = is
      by (inr _) (inl is) = sym is
      by (inr a) (inr b) = absurd (not_both d e a b)

  pub all-told : length (wins blocks) ≡ length (flat_map (λ b. b.declarations) blocks)
  all-told = length-wins [] (candidates blocks) ∙ sym (same-count blocks)
