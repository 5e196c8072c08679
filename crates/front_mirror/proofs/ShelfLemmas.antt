-- Ids in shelves: passed over, found, taken out and put in.
use Rattle.std.proofs.Common.{◌≡◌, ℕ, suc, ◌+◌, ◌-◌, ◌<◌, ◌≤◌, ◌==◌, Bool, true, false, cond, ◌||◌, nat_eq, Option, Some, List, []}
use Rattle.std.proofs.Common.{◌∷◌, ◌++◌, length, take, drop, get_or, slice_get, refl, sym, ap, subst, ◌∙◌, arith}
use Rattle.std.proofs.Common.{append_assoc, length-append, take-append-drop}
use Rattle.std.proofs.lemmas.List.{drop_more, drop_all, take-append-le, drop-append-le}
use Rattle.std.proofs.lemmas.Bool.{eq-eqb, eqb-true}
use Rattle.std.proofs.lemmas.Grind.{flat_map-append}
use Rattle.number_map.specs.Places.{number_place}
use Rattle.number_map.proofs.ShelfLemmas.{get-within, place-at, place-front, place-behind}
use Rattle.front_mirror.specs.declared.orders.Shelf.{Shelf}
use Rattle.front_mirror.specs.Orders.{ids_in}
use Rattle.front_mirror.specs.Tables.{PutsAt}
use Rattle.front_mirror.specs.Walks.{spliced}
use Rattle.client_views.specs.Views.{is_in}

-- ---- shelves in parts

pub parts : (i : ℕ) (ss : List Shelf) → ids_in (take i ss) ++ ids_in (drop i ss) ≡ ids_in ss
parts i ss =
    sym (flat_map-append (λ (s : Shelf). s.ids) (take i ss) (drop i ss)) ∙ ap (λ (l : List Shelf). ids_in l) (take-append-drop i ss)

pub parts-length : (i : ℕ) (ss : List Shelf) → length (ids_in (take i ss)) + length (ids_in (drop i ss)) ≡ length (ids_in ss)
parts-length i ss =
    let e = ap (λ (l : List ℕ). length l) (parts i ss) in
    let a = length-append (ids_in (take i ss)) (ids_in (drop i ss)) in
    omega (arith, e, a)

module _ (ss : List Shelf) (i : ℕ) (s : Shelf) (within : i < length ss) (is : s ≡ get_or ss i s) where
  pub next-rest : ids_in (drop i ss) ≡ s.ids ++ ids_in (drop (i + 1) ss)
  next-rest =
      let e : drop i ss ≡ s ∷ drop (i + 1) ss = drop_more ss i s within ∙ ap (λ (x : Shelf). x ∷ drop (i + 1) ss) (sym is) in
      ap (λ (l : List Shelf). ids_in l) e

  pub next-front : length (ids_in (take (i + 1) ss)) ≡ length (ids_in (take i ss)) + length s.ids
  next-front =
      let a = parts-length i ss in
      let b = parts-length (i + 1) ss in
      let n = ap (λ (l : List ℕ). length l) next-rest in
      let d = length-append s.ids (ids_in (drop (i + 1) ss)) in
      omega (arith, a, b, n, d)

  pub front-fits : length (ids_in (take i ss)) + length s.ids ≤ length (ids_in ss)
  front-fits =
      let a = next-front in
      let b = parts-length (i + 1) ss in
      omega (arith, a, b)

  pub left-turn : (place left size rest : ℕ) → length (ids_in (take i ss)) + left ≡ place → size ≡ length s.ids → size < left
      → rest ≡ left - size → length (ids_in (take (i + 1) ss)) + rest ≡ place
  left-turn place left size rest before sized less is_rest = let a = next-front in omega (arith, a, before, sized, less, is_rest)

  pub before-turn : (before size sum : ℕ) → before ≡ length (ids_in (take i ss)) → size ≡ length s.ids → sum ≡ before + size
      → sum ≡ length (ids_in (take (i + 1) ss))
  before-turn before size sum b sized is_sum = let a = next-front in omega (arith, a, b, sized, is_sum)

  -- an id that is found in the shelf
  pub found-in : (id before place : ℕ) → before ≡ length (ids_in (take i ss)) → place ≡ number_place id s.ids → place < length s.ids
      → slice_get (ids_in ss) (before + place) ≡ Some id
  found-in id before place b p low =
      let low2 : number_place id s.ids < length s.ids = subst (λ k. k < length s.ids) p low in
      let front = ids_in (take i ss) in
      let around : ids_in ss ≡ front ++ (s.ids ++ ids_in (drop (i + 1) ss)) =
      sym (parts i ss) ∙ ap (λ (l : List ℕ). front ++ l) next-rest in
      let where_ : before + place ≡ length front + number_place id s.ids = omega (arith, b, p) in
      ap (slice_get (ids_in ss)) where_
      ∙ ap (λ (l : List ℕ). slice_get l (length front + number_place id s.ids)) around
      ∙ get-within front s.ids (ids_in (drop (i + 1) ss)) (number_place id s.ids) id (place-at id s.ids low2)

  pub first-in : (id before place all : ℕ) → before + number_place id (ids_in (drop i ss)) ≡ all → place ≡ number_place id s.ids
      → place < length s.ids → before + place ≡ all
  first-in id before place all e p low =
      let low2 : number_place id s.ids < length s.ids = subst (λ k. k < length s.ids) p low in
      let f = ap (number_place id) next-rest ∙ place-front id s.ids (ids_in (drop (i + 1) ss)) low2 in
      omega (arith, e, p, f)

  pub first-turn : (id before place size sum all : ℕ) → before + number_place id (ids_in (drop i ss)) ≡ all → place ≡ number_place id s.ids
      → size ≡ length s.ids → size ≤ place → sum ≡ before + size → sum + number_place id (ids_in (drop (i + 1) ss)) ≡ all
  first-turn id before place size sum all e p sized past is_sum =
      let past2 : length s.ids ≤ number_place id s.ids = omega (arith, p, sized, past) in
      let f = ap (number_place id) next-rest ∙ place-behind id s.ids (ids_in (drop (i + 1) ss)) past2 in
      omega (arith, e, sized, is_sum, f)

-- ---- lists spliced within

module _ {A : Type 0} where
  take-past : (a b : List A) (k : ℕ) → take (length a + k) (a ++ b) ≡ a ++ take k b
  take-past [] b k = let e : 0 + k ≡ k = omega arith in ap (λ i. take i b) e
  take-past (x ∷ a) b k =
      let e : suc (length a) + k ≡ suc (length a + k) = omega arith in
      ap (λ i. take i (x ∷ (a ++ b))) e ∙ ap (λ (l : List A). x ∷ l) (take-past a b k)

  drop-past : (a b : List A) (k : ℕ) → drop (length a + k) (a ++ b) ≡ drop k b
  drop-past [] b k = let e : 0 + k ≡ k = omega arith in ap (λ i. drop i b) e
  drop-past (x ∷ a) b k =
      let e : suc (length a) + k ≡ suc (length a + k) = omega arith in
      ap (λ i. drop i (x ∷ (a ++ b))) e ∙ drop-past a b k

  -- a list in three parts, spliced within the second
  pub spliced_within : (front gone place : ℕ) (a old rest new mid all fin : List A) → front + gone ≤ length old
      → length a + front ≡ place → all ≡ a ++ (old ++ rest) → mid ≡ (take front old ++ new) ++ drop (front + gone) old
      → fin ≡ a ++ (mid ++ rest) → fin ≡ spliced place gone new all
  spliced_within front gone place a old rest new mid all fin low at was made is =
      let t : take place all ≡ a ++ take front old =
      ap (λ i. take i all) (sym at) ∙ ap (take (length a + front)) was ∙ take-past a (old ++ rest) front
      ∙ ap (λ (l : List A). a ++ l) (take-append-le front old rest (omega (arith, low)))
      in
      let p : place + gone ≡ length a + (front + gone) = omega (arith, at) in
      let d : drop (place + gone) all ≡ drop (front + gone) old ++ rest =
      ap (λ i. drop i all) p ∙ ap (drop (length a + (front + gone))) was ∙ drop-past a (old ++ rest) (front + gone)
      ∙ drop-append-le (front + gone) old rest low
      in
      is ∙ ap (λ (l : List A). a ++ (l ++ rest)) made ∙ around a (take front old) new (drop (front + gone) old) rest
      ∙ (λ i. sym t i ++ (new ++ sym d i))
    where
      around : (a b c d e : List A) → a ++ (((b ++ c) ++ d) ++ e) ≡ (a ++ b) ++ (c ++ (d ++ e))
      around a b c d e = simp append_assoc

-- where no shelf is left, all ids behind the first shelves were taken out
pub enough-end : (ss now : List Shelf) (start wanted : ℕ) (ids : List ℕ) → length now ≤ start
    → ids ++ ids_in (drop start now) ≡ ids_in (drop start ss) → length (ids_in (take start ss)) + wanted ≤ length (ids_in ss)
    → wanted ≤ length ids
enough-end ss now start wanted ids past rest there =
    let none : ids_in (drop start now) ≡ [] = ap (λ (l : List Shelf). ids_in l) (drop_all start now past) in
    let all : length (ids ++ ids_in (drop start now)) ≡ length (ids_in (drop start ss)) = ap (λ (l : List ℕ). length l) rest in
    let a = length-append ids (ids_in (drop start now)) in
    let n : length (ids_in (drop start now)) ≡ 0 = ap (λ (l : List ℕ). length l) none in
    let p = parts-length start ss in
    omega (arith, all, a, n, p, there)

-- a part cut off and put in before a shelf
pub cut-rest : (ids part new a b all : List ℕ) (cut : ℕ) → part ≡ drop cut ids → new ≡ take cut ids → b ≡ part ++ a → ids ++ a ≡ all
    → new ++ b ≡ all
cut-rest ids part new a b all cut p n made before =
    ap (λ (l : List ℕ). new ++ l) made
    ∙ sym (append_assoc new part a)
    ∙ (λ i. (n i ++ p i) ++ a) ∙ ap (λ (l : List ℕ). l ++ a) (take-append-drop cut ids) ∙ before

-- all ids, by those before a shelf and those from it on
pub joined : (start : ℕ) (ss old : List Shelf) (mid : List ℕ) → take start ss ≡ take start old → ids_in (drop start ss) ≡ mid
    → ids_in ss ≡ ids_in (take start old) ++ mid
joined start ss old mid front rest =
    sym (parts start ss) ∙ (λ i. ids_in (front i) ++ rest i)

-- nothing comes in place of nothing
pub spliced-nothing : (gone : ℕ) (new : List ℕ) (place : ℕ) (ids : List ℕ) → gone ≡ 0 → (length new == 0) ≡ true
    → ids ≡ spliced place gone new ids
spliced-nothing gone [] place ids g e =
    let p : place + gone ≡ place = omega (arith, g) in
    sym (ap (λ k. take place ids ++ drop k ids) p ∙ take-append-drop place ids)
spliced-nothing gone (x ∷ new) place ids g e =
    let h : length (x ∷ new) ≡ 0 = eqb-true (length (x ∷ new)) 0 e in
    absurd (omega (arith, h))

-- ---- the numbers of shelves

noted_step : (v w : Bool) (n a b : Option ℕ) → (v ≡ true → a ≡ n) → (v ≡ false → a ≡ b) → cond w n a ≡ cond (v || w) n b
noted_step true true n a b y f = refl
noted_step true false n a b y f = y refl
noted_step false true n a b y f = refl
noted_step false false n a b y f = f refl

pub noted-turn : (ids : List ℕ) (i k number : ℕ) (now new : ℕ → Option ℕ) → i < length ids
    → PutsAt now new (get_or ids i 0) (Some number)
    → cond (is_in k (drop (i + 1) ids)) (Some number) (new k) ≡ cond (is_in k (drop i ids)) (Some number) (now k)
noted-turn ids i k number now new within puts =
    let x = get_or ids i 0 in
    noted_step (nat_eq k x) (is_in k (drop (i + 1) ids)) (Some number) (new k) (now k)
    (λ y. ap new (eqb-true k x y) ∙ puts.at)
    (λ f. puts.others k (λ same. let clash : ◌≡◌ {A = Bool} true false = sym (eq-eqb k x same) ∙ f in absurd cc))
    ∙ ap (λ (l : List ℕ). cond (is_in k l) (Some number) (now k)) (sym (drop_more ids i 0 within))

pub noted-end : (ids : List ℕ) (i k number : ℕ) (now : ℕ → Option ℕ) (all : Option ℕ) → length ids ≤ i
    → cond (is_in k (drop i ids)) (Some number) (now k) ≡ all → now k ≡ all
noted-end ids i k number now all past e =
    ap (λ (l : List ℕ). cond (is_in k l) (Some number) (now k)) (sym (drop_all i ids past)) ∙ e
