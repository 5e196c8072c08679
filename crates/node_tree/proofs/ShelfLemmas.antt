-- Attributes in shelves: found, put in, taken out, set, and a name looked for.
use Rattle.std.proofs.Common.{◌≡◌, ℕ, zero, suc, ◌+◌, ◌<◌, ◌≤◌, Option, Some, List, [], ◌∷◌, ◌++◌, length, take, drop, slice_get, slice_set}
use Rattle.std.proofs.Common.{get_or, true, Result, Ok, Err, OnErr, Less, Greater, nat_cmp, refl, sym, ap, subst, ◌∙◌, arith}
use Rattle.std.proofs.Common.{append_assoc, append-nil, length-append}
use Rattle.std.proofs.lemmas.Option.{slice_get_read}
use Rattle.std.proofs.lemmas.List.{take_more}
use Rattle.std.specs.List.{insert, remove}
use Rattle.std.specs.Ordering.{match_ordering, is_lt}
use Rattle.std.specs.Cmp.Lexicographic.{slice_cmp}
use Rattle.node_tree.specs.Labels.{Pair, is_ascending, is_below, is_before}
use Rattle.node_tree.specs.Searches.{shifted, further, search_name}
use Rattle.node_tree.specs.Shelves.{Shelf, pairs_of, start_of, place_of, number_of, AreFilled, IsSpot, IsWithin, IsFound}
use Rattle.node_tree.proofs.PairLemmas.{both, left, right, lt_less}
use Rattle.node_tree.proofs.SearchedLemmas.{Searched, searched, drop-get, get-within, search_from}

-- ---- lists behind one another

module _ {A : Type 0} where
  -- what was read at a place stands there
  pub read_at : (xs : List A) (i : ℕ) (x : A) → i < length xs → x ≡ get_or xs i x → slice_get xs i ≡ Some x
  read_at xs i x within read = slice_get_read xs (length xs) i x refl within read

  -- at one place one thing stands
  pub one_at : (xs : List A) (k : ℕ) (x y : A) → slice_get xs k ≡ Some x → slice_get xs k ≡ Some y → x ≡ y
  one_at xs k x y here there = let e : ◌≡◌ {A = Option A} (Some x) (Some y) = sym here ∙ there in cc

  get_front : (xs ys : List A) (i : ℕ) (x : A) → slice_get xs i ≡ Some x → slice_get (xs ++ ys) i ≡ Some x
  get_front [] ys i x e = absurd cc
  get_front (y ∷ xs) ys zero x e = e
  get_front (y ∷ xs) ys (suc i) x e = get_front xs ys i x e

  -- what stands in the second of three lists
  get_inner : (xs ys zs : List A) (i : ℕ) (x : A) → slice_get ys i ≡ Some x → slice_get (xs ++ (ys ++ zs)) (length xs + i) ≡ Some x
  get_inner [] ys zs i x at = let e : 0 + i ≡ i = omega arith in ap (slice_get (ys ++ zs)) e ∙ get_front ys zs i x at
  get_inner (y ∷ xs) ys zs i x at =
      let e : suc (length xs) + i ≡ suc (length xs + i) = omega arith in
      ap (slice_get (y ∷ (xs ++ (ys ++ zs)))) e ∙ get_inner xs ys zs i x at

  insert_front : (ys zs : List A) (j : ℕ) (x : A) → j ≤ length ys → insert (ys ++ zs) j x ≡ insert ys j x ++ zs
  insert_front [] zs zero x low = refl
  insert_front [] zs (suc j) x low = absurd (omega (arith, low))
  insert_front (y ∷ ys) zs zero x low = refl
  insert_front (y ∷ ys) zs (suc j) x low = ap (λ (l : List A). y ∷ l) (insert_front ys zs j x (omega (arith, low)))

  -- one put into the second of three lists
  insert_inner : (xs ys zs : List A) (j : ℕ) (x : A) → j ≤ length ys
      → insert (xs ++ (ys ++ zs)) (length xs + j) x ≡ xs ++ (insert ys j x ++ zs)
  insert_inner [] ys zs j x low = let e : 0 + j ≡ j = omega arith in ap (λ i. insert (ys ++ zs) i x) e ∙ insert_front ys zs j x low
  insert_inner (y ∷ xs) ys zs j x low =
      let e : suc (length xs) + j ≡ suc (length xs + j) = omega arith in
      ap (λ i. insert (y ∷ (xs ++ (ys ++ zs))) i x) e ∙ ap (λ (l : List A). y ∷ l) (insert_inner xs ys zs j x low)

  remove_front : (ys zs : List A) (j : ℕ) → j < length ys → remove (ys ++ zs) j ≡ remove ys j ++ zs
  remove_front [] zs j low = absurd (omega (arith, low))
  remove_front (y ∷ ys) zs zero low = refl
  remove_front (y ∷ ys) zs (suc j) low = ap (λ (l : List A). y ∷ l) (remove_front ys zs j (omega (arith, low)))

  -- one taken out of the second of three lists
  remove_inner : (xs ys zs : List A) (j : ℕ) → j < length ys
      → remove (xs ++ (ys ++ zs)) (length xs + j) ≡ xs ++ (remove ys j ++ zs)
  remove_inner [] ys zs j low = let e : 0 + j ≡ j = omega arith in ap (remove (ys ++ zs)) e ∙ remove_front ys zs j low
  remove_inner (y ∷ xs) ys zs j low =
      let e : suc (length xs) + j ≡ suc (length xs + j) = omega arith in
      ap (remove (y ∷ (xs ++ (ys ++ zs)))) e ∙ ap (λ (l : List A). y ∷ l) (remove_inner xs ys zs j low)

  set_front : (ys zs : List A) (j : ℕ) (x : A) → j < length ys → slice_set (ys ++ zs) j x ≡ slice_set ys j x ++ zs
  set_front [] zs j x low = absurd (omega (arith, low))
  set_front (y ∷ ys) zs zero x low = refl
  set_front (y ∷ ys) zs (suc j) x low = ap (λ (l : List A). y ∷ l) (set_front ys zs j x (omega (arith, low)))

  -- one set in the second of three lists
  set_inner : (xs ys zs : List A) (j : ℕ) (x : A) → j < length ys
      → slice_set (xs ++ (ys ++ zs)) (length xs + j) x ≡ xs ++ (slice_set ys j x ++ zs)
  set_inner [] ys zs j x low = let e : 0 + j ≡ j = omega arith in ap (λ i. slice_set (ys ++ zs) i x) e ∙ set_front ys zs j x low
  set_inner (y ∷ xs) ys zs j x low =
      let e : suc (length xs) + j ≡ suc (length xs + j) = omega arith in
      ap (λ i. slice_set (y ∷ (xs ++ (ys ++ zs))) i x) e ∙ ap (λ (l : List A). y ∷ l) (set_inner xs ys zs j x low)

  drop_front : (xs ys : List A) → drop (length xs) (xs ++ ys) ≡ ys
  drop_front [] ys = refl
  drop_front (x ∷ xs) ys = drop_front xs ys

  pub length_set : (xs : List A) (k : ℕ) (x : A) → length (slice_set xs k x) ≡ length xs
  length_set [] k x = refl
  length_set (y ∷ xs) zero x = refl
  length_set (y ∷ xs) (suc k) x = ap suc (length_set xs k x)

  pub length_inserted : (xs : List A) (k : ℕ) (x : A) → k ≤ length xs → length (insert xs k x) ≡ suc (length xs)
  length_inserted xs zero x low = refl
  length_inserted [] (suc k) x low = absurd (omega (arith, low))
  length_inserted (y ∷ xs) (suc k) x low = ap suc (length_inserted xs k x (omega (arith, low)))

  pub length_removed : (xs : List A) (k : ℕ) → k < length xs → suc (length (remove xs k)) ≡ length xs
  length_removed [] k low = absurd (omega (arith, low))
  length_removed (y ∷ xs) zero low = refl
  length_removed (y ∷ xs) (suc k) low = ap suc (length_removed xs k (omega (arith, low)))

  pub removed_set : (xs : List A) (k : ℕ) (x : A) → remove (slice_set xs k x) k ≡ remove xs k
  removed_set [] k x = refl
  removed_set (y ∷ xs) zero x = refl
  removed_set (y ∷ xs) (suc k) x = ap (λ (l : List A). y ∷ l) (removed_set xs k x)

  -- one put in behind the last
  pub insert_last : (xs : List A) (i : ℕ) (x : A) → i ≡ length xs → insert xs i x ≡ xs ++ x ∷ []
  insert_last xs i x e = ap (λ k. insert xs k x) e ∙ go xs where
    go : (xs : List A) → insert xs (length xs) x ≡ xs ++ x ∷ []
    go [] = refl
    go (y ∷ xs) = ap (λ (l : List A). y ∷ l) (go xs)

-- ---- the pairs of shelves, in parts

parts : (k : ℕ) (ss : List Shelf) → pairs_of ss ≡ pairs_of (take k ss) ++ pairs_of (drop k ss)
parts zero ss = refl
parts (suc k) [] = refl
parts (suc k) (s ∷ ss) =
    ap (λ (l : List Pair). s.items ++ l) (parts k ss) ∙ sym (append_assoc s.items (pairs_of (take k ss)) (pairs_of (drop k ss)))

-- what is behind the start of a shelf
drop_start : (ss : List Shelf) (k : ℕ) → drop (start_of ss k) (pairs_of ss) ≡ pairs_of (drop k ss)
drop_start ss k = ap (λ (l : List Pair). drop (start_of ss k) l) (parts k ss) ∙ drop_front (pairs_of (take k ss)) (pairs_of (drop k ss))

module _ (ss : List Shelf) (k : ℕ) (s : Shelf) (at : slice_get ss k ≡ Some s) where
  -- those of a shelf stand between those before it and those behind it
  rest_here : pairs_of (drop k ss) ≡ s.items ++ pairs_of (drop (suc k) ss)
  rest_here = ap (λ (l : List Shelf). pairs_of l) (drop-get ss k s at)

  around : pairs_of ss ≡ pairs_of (take k ss) ++ (s.items ++ pairs_of (drop (suc k) ss))
  around = parts k ss ∙ ap (λ (l : List Pair). pairs_of (take k ss) ++ l) rest_here

  pub length_around : length (pairs_of ss) ≡ start_of ss k + (length s.items + length (pairs_of (drop (suc k) ss)))
  length_around =
      let e = ap (λ (l : List Pair). length l) around in
      let a = length-append (pairs_of (take k ss)) (s.items ++ pairs_of (drop (suc k) ss)) in
      let b = length-append s.items (pairs_of (drop (suc k) ss)) in
      omega (arith, e, a, b)

  -- how many stand before the next shelf
  pub start_next : start_of ss (suc k) ≡ start_of ss k + length s.items
  start_next =
      let e = ap (λ (l : List Pair). length l) (parts (suc k) ss) in
      let a = length-append (pairs_of (take (suc k) ss)) (pairs_of (drop (suc k) ss)) in
      let h = length_around in
      omega (arith, e, a, h)

  -- a pair that is read in the shelf
  pub pair_in : (j : ℕ) (p : Pair) → slice_get s.items j ≡ Some p → slice_get (pairs_of ss) (place_of ss k j) ≡ Some p
  pair_in j p here =
      ap (λ (l : List Pair). slice_get l (place_of ss k j)) around
      ∙ get_inner (pairs_of (take k ss)) s.items (pairs_of (drop (suc k) ss)) j p here

-- the pairs of shelves of which one was changed
set_in : (ss : List Shelf) (k : ℕ) (t : Shelf) → k < length ss
    → pairs_of (slice_set ss k t) ≡ pairs_of (take k ss) ++ (t.items ++ pairs_of (drop (suc k) ss))
set_in [] k t low = absurd (omega (arith, low))
set_in (s ∷ ss) zero t low = refl
set_in (s ∷ ss) (suc k) t low =
    ap (λ (l : List Pair). s.items ++ l) (set_in ss k t (omega (arith, low)))
    ∙ sym (append_assoc s.items (pairs_of (take k ss)) (t.items ++ pairs_of (drop (suc k) ss)))

module _ (ss : List Shelf) (k : ℕ) (s t : Shelf) (at : slice_get ss k ≡ Some s) where
  changed : (items : List Pair) → t.items ≡ items
      → pairs_of (slice_set ss k t) ≡ pairs_of (take k ss) ++ (items ++ pairs_of (drop (suc k) ss))
  changed items is =
      set_in ss k t (get-within ss k s at) ∙ ap (λ (l : List Pair). pairs_of (take k ss) ++ (l ++ pairs_of (drop (suc k) ss))) is

  -- a shelf that has the same pairs
  pub same_in : t.items ≡ s.items → pairs_of (slice_set ss k t) ≡ pairs_of ss
  same_in is = changed s.items is ∙ sym (around ss k s at)

  -- a pair put into a shelf
  pub put_in : (j : ℕ) (p : Pair) → j ≤ length s.items → t.items ≡ insert s.items j p
      → pairs_of (slice_set ss k t) ≡ insert (pairs_of ss) (place_of ss k j) p
  put_in j p low is =
      changed (insert s.items j p) is
      ∙ sym (insert_inner (pairs_of (take k ss)) s.items (pairs_of (drop (suc k) ss)) j p low)
      ∙ ap (λ (l : List Pair). insert l (place_of ss k j) p) (sym (around ss k s at))

  -- a pair taken out of a shelf
  pub taken_out : (j : ℕ) → j < length s.items → t.items ≡ remove s.items j
      → pairs_of (slice_set ss k t) ≡ remove (pairs_of ss) (place_of ss k j)
  taken_out j low is =
      changed (remove s.items j) is
      ∙ sym (remove_inner (pairs_of (take k ss)) s.items (pairs_of (drop (suc k) ss)) j low)
      ∙ ap (λ (l : List Pair). remove l (place_of ss k j)) (sym (around ss k s at))

  -- a pair of a shelf that is another one
  pub value_in : (j : ℕ) (p : Pair) → j < length s.items → t.items ≡ slice_set s.items j p
      → pairs_of (slice_set ss k t) ≡ slice_set (pairs_of ss) (place_of ss k j) p
  value_in j p low is =
      changed (slice_set s.items j p) is
      ∙ sym (set_inner (pairs_of (take k ss)) s.items (pairs_of (drop (suc k) ss)) j p low)
      ∙ ap (λ (l : List Pair). slice_set l (place_of ss k j) p) (sym (around ss k s at))

-- an empty shelf that goes
pub empty_out : (ss : List Shelf) (k : ℕ) (s : Shelf) → slice_get ss k ≡ Some s → s.items ≡ [] → pairs_of (remove ss k) ≡ pairs_of ss
empty_out [] k s at none = absurd cc
empty_out (r ∷ ss) zero s at none =
    let same : r ≡ s = cc in
    sym (ap (λ (l : List Pair). l ++ pairs_of ss) (ap (λ (q : Shelf). q.items) same ∙ none))
empty_out (r ∷ ss) (suc k) s at none = ap (λ (l : List Pair). r.items ++ l) (empty_out ss k s at none)

-- a shelf cut in two
pub cut_in : (ss : List Shelf) (k : ℕ) (s low high : Shelf) → slice_get ss k ≡ Some s → low.items ++ high.items ≡ s.items
    → pairs_of (insert (slice_set ss k low) (suc k) high) ≡ pairs_of ss
cut_in [] k s low high e halves = absurd cc
cut_in (r ∷ ss) zero s low high e halves =
    let same : r ≡ s = cc in
    sym (append_assoc low.items high.items (pairs_of ss))
    ∙ ap (λ (l : List Pair). l ++ pairs_of ss) (halves ∙ ap (λ (q : Shelf). q.items) (sym same))
cut_in (r ∷ ss) (suc k) s low high e halves = ap (λ (l : List Pair). r.items ++ l) (cut_in ss k s low high e halves)

-- ---- a spot, by the shelf that is read there

module _ (ss : List Shelf) (k j : ℕ) (m : Shelf) (at : slice_get ss k ≡ Some m) where
  pub spot_fits : IsSpot ss k j → j ≤ length m.items
  spot_fits p = subst (λ (s : Shelf). j ≤ length s.items) (one_at ss k p.shelf m p.is at) p.fits

  pub within_low : IsWithin ss k j → j < length m.items
  within_low p = subst (λ (s : Shelf). j < length s.items) (one_at ss k p.shelf m p.is at) p.low

-- a place within a shelf is a spot
pub within_spot : (ss : List Shelf) (k j : ℕ) → IsWithin ss k j → IsSpot ss k j
within_spot ss k j p = let low = p.low in record { shelf = p.shelf; is = p.is; fits = omega (arith, low) }

-- there is such a shelf
pub spot_shelf : (ss : List Shelf) (k j : ℕ) → IsSpot ss k j → k < length ss
spot_shelf ss k j p = get-within ss k p.shelf p.is

pub within_shelf : (ss : List Shelf) (k j : ℕ) → IsWithin ss k j → k < length ss
within_shelf ss k j p = get-within ss k p.shelf p.is

-- a place in a shelf is one among all pairs
pub within_place : (ss : List Shelf) (k j : ℕ) → IsWithin ss k j → place_of ss k j < length (pairs_of ss)
within_place ss k j p = let e = length_around ss k p.shelf p.is in let low = p.low in omega (arith, e, low)

pub spot_place : (ss : List Shelf) (k j : ℕ) → IsSpot ss k j → place_of ss k j ≤ length (pairs_of ss)
spot_place ss k j p = let e = length_around ss k p.shelf p.is in let fits = p.fits in omega (arith, e, fits)

-- ---- shelves that have pairs

pub filled_at : (ss : List Shelf) (k : ℕ) (s : Shelf) → slice_get ss k ≡ Some s → AreFilled ss → 0 < length s.items
filled_at [] k s e f = absurd cc
filled_at (r ∷ ss) zero s e f = let same : r ≡ s = cc in subst (λ (q : Shelf). 0 < length q.items) same f.0
filled_at (r ∷ ss) (suc k) s e f = filled_at ss k s e f.1

pub filled_set : (ss : List Shelf) (k : ℕ) (t : Shelf) → AreFilled ss → 0 < length t.items → AreFilled (slice_set ss k t)
filled_set [] k t f low = f
filled_set (r ∷ ss) zero t f low = (low, f.1)
filled_set (r ∷ ss) (suc k) t f low = (f.0, filled_set ss k t f.1 low)

pub filled_put : (ss : List Shelf) (k : ℕ) (t : Shelf) → k ≤ length ss → AreFilled ss → 0 < length t.items → AreFilled (insert ss k t)
filled_put ss zero t fits f low = (low, f)
filled_put [] (suc k) t fits f low = absurd (omega (arith, fits))
filled_put (r ∷ ss) (suc k) t fits f low = (f.0, filled_put ss k t (omega (arith, fits)) f.1 low)

pub filled_without : (ss : List Shelf) (k : ℕ) → AreFilled ss → AreFilled (remove ss k)
filled_without [] zero f = f
filled_without [] (suc k) f = f
filled_without (r ∷ ss) zero f = f.1
filled_without (r ∷ ss) (suc k) f = (f.0, filled_without ss k f.1)

-- one was changed, and has pairs
pub filled_read : (ss : List Shelf) (k : ℕ) (t s : Shelf) → slice_get (slice_set ss k t) k ≡ Some s → 0 < length s.items → AreFilled ss
    → AreFilled (slice_set ss k t)
filled_read [] k t s e low f = f
filled_read (r ∷ ss) zero t s e low f =
    let same : t ≡ s = cc in
    (subst (λ (q : Shelf). 0 < length q.items) (sym same) low, f.1)
filled_read (r ∷ ss) (suc k) t s e low f = (f.0, filled_read ss k t s e low f.1)

-- one more at the end
pub filled_last : (ss : List Shelf) (t : Shelf) → AreFilled ss → 0 < length t.items → AreFilled (ss ++ t ∷ [])
filled_last [] t f low = (low, f)
filled_last (r ∷ ss) t f low = (f.0, filled_last ss t f.1 low)

-- ---- a name looked for

search_below : (name : List ℕ) (zs : List Pair) → is_below name zs ≡ true → search_name name zs ≡ Err 0
search_below name [] b = refl
search_below name (z ∷ zs) b =
    ap (λ o. match_ordering o (Err 0) (Ok 0) (further (search_name name zs))) (lt_less (slice_cmp nat_cmp name z.0) b)

-- what is behind the name does not count
search_inner : (name : List ℕ) (ys zs : List Pair) → is_below name zs ≡ true → search_name name (ys ++ zs) ≡ search_name name ys
search_inner name [] zs b = search_below name zs b
search_inner name (y ∷ ys) zs b =
    ap (λ r. match_ordering (slice_cmp nat_cmp name y.0) (Err 0) (Ok 0) (further r)) (search_inner name ys zs b)

below_front : (name : List ℕ) (ys zs : List Pair) (q : Pair) → slice_get ys 0 ≡ Some q → slice_cmp nat_cmp name q.0 ≡ Less
    → is_below name (ys ++ zs) ≡ true
below_front name [] zs q e is = absurd cc
below_front name (y ∷ ys) zs q e is =
    let same : y ≡ q = cc in
    ap is_lt (ap (λ (p : Pair). slice_cmp nat_cmp name p.0) same ∙ is)

below_part : (name : List ℕ) (ys zs : List Pair) → is_below name (ys ++ zs) ≡ true → is_below name ys ≡ true
below_part name [] zs b = refl
below_part name (y ∷ ys) zs b = b

ascending_front : (ys zs : List Pair) → is_ascending (ys ++ zs) ≡ true → is_ascending ys ≡ true
ascending_front [] zs h = refl
ascending_front (y ∷ ys) zs h =
    both (is_below y.0 ys) (is_ascending ys)
    (below_part y.0 ys zs (left (is_below y.0 (ys ++ zs)) (is_ascending (ys ++ zs)) h))
    (ascending_front ys zs (right (is_below y.0 (ys ++ zs)) (is_ascending (ys ++ zs)) h))

ascending_behind : (xs ys : List Pair) → is_ascending (xs ++ ys) ≡ true → is_ascending ys ≡ true
ascending_behind [] ys h = h
ascending_behind (x ∷ xs) ys h = ascending_behind xs ys (right (is_below x.0 (xs ++ ys)) (is_ascending (xs ++ ys)) h)

module _ (name : List ℕ) (ss : List Shelf) (k : ℕ) (s : Shelf) (at : slice_get ss k ≡ Some s) where
  -- a shelf of a list that ascends does
  pub shelf_ascends : is_ascending (pairs_of ss) ≡ true → is_ascending s.items ≡ true
  shelf_ascends h =
      ascending_front s.items (pairs_of (drop (suc k) ss))
      (ascending_behind (pairs_of (take k ss)) (s.items ++ pairs_of (drop (suc k) ss))
      (sym (ap is_ascending (around ss k s at)) ∙ h))

  -- all before a shelf are passed, where its first name is not behind the one that is looked for
  pub shelf_passed : (q : Pair) → slice_get s.items 0 ≡ Some q → is_ascending (pairs_of ss) ≡ true
      → ((x : Pair) → is_before x.0 q.0 ≡ true → slice_cmp nat_cmp name x.0 ≡ Greater)
      → search_name name (pairs_of ss) ≡ shifted (start_of ss k) (search_name name (pairs_of (drop k ss)))
  shelf_passed q first h passes =
      let e : place_of ss k 0 ≡ start_of ss k = omega arith in
      let here : slice_get (pairs_of ss) (start_of ss k) ≡ Some q =
      ap (slice_get (pairs_of ss)) (sym e) ∙ pair_in ss k s at 0 q first
      in
      search_from name q passes (pairs_of ss) (start_of ss k) h here
      ∙ ap (λ (l : List Pair). shifted (start_of ss k) (search_name name l)) (drop_start ss k)

  -- all from a shelf on are behind the name, where its first name is
  pub shelf_behind : (q : Pair) → slice_get s.items 0 ≡ Some q → slice_cmp nat_cmp name q.0 ≡ Less
      → is_below name (pairs_of (drop k ss)) ≡ true
  shelf_behind q first is =
      ap (is_below name) (rest_here ss k s at) ∙ below_front name s.items (pairs_of (drop (suc k) ss)) q first is

  -- the search in a shelf is that in all
  pub shelf_searched : (r : Result ℕ ℕ)
      → search_name name (pairs_of ss) ≡ shifted (start_of ss k) (search_name name (pairs_of (drop k ss)))
      → is_below name (pairs_of (drop (suc k) ss)) ≡ true → r ≡ search_name name s.items
      → search_name name (pairs_of ss) ≡ shifted (start_of ss k) r
  shelf_searched r passed below is =
      passed ∙ ap (shifted (start_of ss k)) (ap (search_name name) (rest_here ss k s at)
      ∙ search_inner name s.items (pairs_of (drop (suc k) ss)) below ∙ sym is)

  found_by : (r : Result ℕ ℕ) → Searched name [] s.items r → IsFound ss k r
  found_by (Ok j) (was, here, put, value, without) = record { shelf = s; is = at; low = get-within s.items j was here }
  found_by (Err j) (fits, put, absent) = record { shelf = s; is = at; fits = fits }

  pub shelf_found : (r : Result ℕ ℕ) → r ≡ search_name name s.items → IsFound ss k r
  shelf_found r is = found_by r (subst (λ (o : Result ℕ ℕ). Searched name [] s.items o) (sym is) (searched name [] s.items))

-- the same, where so many later shelves begin at the name or before it
module _ (name : List ℕ) (first : Shelf) (later : List Shelf) (before k : ℕ) (m : Shelf) (is : before ≡ k)
    (at : slice_get (first ∷ later) k ≡ Some m) where
  pub searched_in : (r : Result ℕ ℕ)
      → search_name name (pairs_of (first ∷ later))
      ≡ shifted (start_of (first ∷ later) before) (search_name name (pairs_of (drop before (first ∷ later))))
      → is_below name (pairs_of (drop before later)) ≡ true → r ≡ search_name name m.items
      → search_name name (pairs_of (first ∷ later)) ≡ shifted (start_of (first ∷ later) k) r
  searched_in r passed below same =
      shelf_searched name (first ∷ later) k m at r
      (subst (λ n. search_name name (pairs_of (first ∷ later))
      ≡ shifted (start_of (first ∷ later) n) (search_name name (pairs_of (drop n (first ∷ later))))) is passed)
      (subst (λ n. is_below name (pairs_of (drop n later)) ≡ true) is below) same

-- ---- a copy

pairs_last : (ss : List Shelf) (t : Shelf) → pairs_of (ss ++ t ∷ []) ≡ pairs_of ss ++ t.items
pairs_last [] t = append-nil t.items
pairs_last (s ∷ ss) t = ap (λ (l : List Pair). s.items ++ l) (pairs_last ss t) ∙ sym (append_assoc s.items (pairs_of ss) t.items)

-- one shelf more is copied
pub copied_turn : (ss done : List Shelf) (i : ℕ) (s t : Shelf) → i < length ss → s ≡ get_or ss i s → t.items ≡ s.items
    → pairs_of done ≡ pairs_of (take i ss) → pairs_of (done ++ t ∷ []) ≡ pairs_of (take (i + 1) ss)
copied_turn ss done i s t low at same so =
    pairs_last done t ∙ (λ n. so n ++ same n) ∙ sym (pairs_last (take i ss) s)
    ∙ ap (λ (l : List Shelf). pairs_of l) (sym (take_more ss i s low ∙ ap (λ (q : Shelf). take i ss ++ q ∷ []) (sym at)))

-- ---- a later shelf that is changed

-- what stands after an error
pub on_err : {T E : Type 0} (result : Result T E) (P : Type 0) → P → OnErr result P
on_err (Ok x) P p = tt
on_err (Err e) P p = p

module _ (first : Shelf) (later : List Shelf) (o : Option ℕ) (k j : ℕ) (is : o ≡ Some k) (m : Shelf) (read : m ≡ get_or later k m) where
  number_is : number_of o ≡ suc k
  number_is = ap number_of is

  pub later_spot : IsSpot (first ∷ later) (number_of o) j → IsSpot (first ∷ later) (suc k) j
  later_spot spot = subst (λ n. IsSpot (first ∷ later) n j) number_is spot

  pub later_within : IsWithin (first ∷ later) (number_of o) j → IsWithin (first ∷ later) (suc k) j
  later_within within = subst (λ n. IsWithin (first ∷ later) n j) number_is within

  pub later_at : IsSpot (first ∷ later) (number_of o) j → slice_get later k ≡ Some m
  later_at spot =
      let low = spot_shelf (first ∷ later) (suc k) j (later_spot spot) in
      read_at later k m (omega (arith, low)) read

  pub later_fits : IsSpot (first ∷ later) (number_of o) j → j ≤ length m.items
  later_fits spot = spot_fits (first ∷ later) (suc k) j m (later_at spot) (later_spot spot)

  pub later_low : IsWithin (first ∷ later) (number_of o) j → j < length m.items
  later_low within =
      within_low (first ∷ later) (suc k) j m (later_at (within_spot (first ∷ later) (number_of o) j within)) (later_within within)

  -- a pair put into it
  pub later_put : (t : Shelf) (p : Pair) → IsSpot (first ∷ later) (number_of o) j → t.items ≡ insert m.items j p
      → pairs_of (first ∷ slice_set later k t) ≡ insert (pairs_of (first ∷ later)) (place_of (first ∷ later) (number_of o) j) p
  later_put t p spot put =
      put_in (first ∷ later) (suc k) m t (later_at spot) j p (later_fits spot) put
      ∙ ap (λ n. insert (pairs_of (first ∷ later)) (place_of (first ∷ later) n j) p) (sym number_is)

  pub later_longer : (t : Shelf) (p : Pair) → IsSpot (first ∷ later) (number_of o) j → t.items ≡ insert m.items j p → AreFilled later
      → AreFilled (slice_set later k t)
  later_longer t p spot put f =
      let e = ap (λ (l : List Pair). length l) put in
      let more = length_inserted m.items j p (later_fits spot) in
      filled_set later k t f (omega (arith, e, more))

  -- none put into it
  pub later_same : (t : Shelf) → IsSpot (first ∷ later) (number_of o) j → t.items ≡ m.items
      → pairs_of (first ∷ slice_set later k t) ≡ pairs_of (first ∷ later)
  later_same t spot same = same_in (first ∷ later) (suc k) m t (later_at spot) same

  pub later_kept : (t : Shelf) → IsSpot (first ∷ later) (number_of o) j → t.items ≡ m.items → AreFilled later
      → AreFilled (slice_set later k t)
  later_kept t spot same f =
      let e = ap (λ (l : List Pair). length l) same in
      let some = filled_at later k m (later_at spot) f in
      filled_set later k t f (omega (arith, e, some))

-- a later shelf cut in two
module _ (later reserved now : List Shelf) (k : ℕ) (m low high : Shelf) (same : reserved ≡ later) (inside : k < length later)
    (read : m ≡ get_or reserved k m) (is : now ≡ insert (slice_set reserved k low) (k + 1) high) where
  cut_at : slice_get reserved k ≡ Some m
  cut_at = let e = ap (λ (l : List Shelf). length l) same in read_at reserved k m (omega (arith, e, inside)) read

  cut_is : now ≡ insert (slice_set reserved k low) (suc k) high
  cut_is = let n : k + 1 ≡ suc k = omega arith in is ∙ ap (λ i. insert (slice_set reserved k low) i high) n

  pub cut_pairs : low.items ++ high.items ≡ m.items → pairs_of now ≡ pairs_of later
  cut_pairs halves =
      ap (λ (l : List Shelf). pairs_of l) cut_is ∙ cut_in reserved k m low high cut_at halves
      ∙ ap (λ (l : List Shelf). pairs_of l) same

  pub cut_filled : AreFilled later → 0 < length low.items → 0 < length high.items → AreFilled now
  cut_filled f lower upper =
      let e = ap (λ (l : List Shelf). length l) same in
      let n = length_set reserved k low in
      let g : AreFilled (slice_set reserved k low) =
      filled_set reserved k low (subst (λ (l : List Shelf). AreFilled l) (sym same) f) lower
      in
      subst (λ (l : List Shelf). AreFilled l) (sym cut_is)
      (filled_put (slice_set reserved k low) (suc k) high (omega (arith, e, n, inside)) g upper)

-- a pair that gets another value
pub set_turn : (ss : List Shelf) (n k j : ℕ) (m t : Shelf) (q : Pair) (dest old name was value : List ℕ) → n ≡ k
    → slice_get ss k ≡ Some m → j < length m.items → q ≡ get_or m.items j q → t.items ≡ slice_set m.items j (q.0, dest) → dest ≡ value
    → old ≡ q.1 → slice_get (pairs_of ss) (place_of ss n j) ≡ Some (name, was)
    → (pairs_of (slice_set ss k t) ≡ slice_set (pairs_of ss) (place_of ss n j) (name, value)) × (old ≡ was)
set_turn ss n k j m t q dest old name was value same at low read set after before there =
    let here = pair_in ss k m at j q (read_at m.items j q low read) in
    let stands : slice_get (pairs_of ss) (place_of ss k j) ≡ Some (name, was) =
    ap (λ i. slice_get (pairs_of ss) (place_of ss i j)) (sym same) ∙ there
    in
    let is : q ≡ (name, was) = one_at (pairs_of ss) (place_of ss k j) q (name, was) here stands in
    let first : q.0 ≡ name = ap (λ (p : Pair). p.0) is in
    let second : q.1 ≡ was = ap (λ (p : Pair). p.1) is in
    let new : t.items ≡ slice_set m.items j (name, value) = set ∙ (λ i. slice_set m.items j (first i, after i)) in (
      value_in ss k m t at j (name, value) low new ∙ ap (λ i. slice_set (pairs_of ss) (place_of ss i j) (name, value)) (sym same),
      before ∙ second,
    )

-- as many pairs stand there then
pub set_count : (ss : List Shelf) (k j : ℕ) (m t : Shelf) (p : Pair) → slice_get ss k ≡ Some m → j < length m.items
    → t.items ≡ slice_set m.items j p → length (pairs_of (slice_set ss k t)) ≡ length (pairs_of ss)
set_count ss k j m t p at low set =
    ap (λ (l : List Pair). length l) (value_in ss k m t at j p low set) ∙ length_set (pairs_of ss) (place_of ss k j) p
