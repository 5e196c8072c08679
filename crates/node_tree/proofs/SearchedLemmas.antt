-- What is found in a search for a name.
use Rattle.std.proofs.Common.{◌≡◌, ℕ, zero, suc, ◌+◌, ◌<◌, ◌≤◌, true, List, [], ◌∷◌, length, drop, slice_get, slice_set, Some, None, Result}
use Rattle.std.proofs.Common.{Ok, Err, Ordering, Less, Equal, Greater, nat_cmp, refl, sym, ap, subst, ◌∙◌, arith}
use Rattle.std.specs.List.{insert, remove}
use Rattle.std.proofs.lemmas.Cmp.{nat_list_cmp_total}
use Rattle.std.proofs.lemmas.Slice.Eq.{bytes_eq-Decides}
use Rattle.std.specs.Ordering.{match_ordering, is_lt, ordering_reverse}
use Rattle.std.specs.Cmp.Lexicographic.{slice_cmp}
use Rattle.node_tree.specs.Labels.{Pair, is_ascending, is_below, is_before, value_of}
use Rattle.node_tree.specs.LabelChanges.{placed, pairs_without}
use Rattle.node_tree.specs.Searches.{shifted, further, search_name}
use Rattle.node_tree.proofs.PairLemmas.{left, right, lt_less, below_trans, same_name, value-below}

pub drop-get : {A : Type 0} (ks : List A) (i : ℕ) (k : A) → slice_get ks i ≡ Some k → drop i ks ≡ k ∷ drop (suc i) ks
drop-get [] i k e = absurd (cc)
drop-get (x ∷ ks) zero k e = let same : x ≡ k = cc in ap (λ y. y ∷ ks) same
drop-get (x ∷ ks) (suc i) k e = drop-get ks i k e

module _ (n v : List ℕ) where
  abbrev pub Searched : List Pair → Result ℕ ℕ → Type 0
  Searched qs (Ok i) = (was : Pair) × (slice_get qs i ≡ Some was) × (placed (n, v) qs ≡ slice_set qs i (was.0, v))
      × (value_of n qs ≡ Some was.1) × (pairs_without n qs ≡ remove qs i)
  Searched qs (Err i) = (i ≤ length qs) × (placed (n, v) qs ≡ insert qs i (n, v)) × (is_ascending qs ≡ true → value_of n qs ≡ None)

  searched_at : (q : Pair) (qs : List Pair) (o : Ordering) (r : Result ℕ ℕ) → slice_cmp nat_cmp n q.0 ≡ o → Searched qs r
      → Searched (q ∷ qs) (match_ordering o (Err 0) (Ok 0) (further r))
  searched_at q qs Less r is rest = (omega arith, rw is refl, λ h. value-below n (q ∷ qs) (ap is_lt is) h)
  searched_at q qs Equal r is rest = (q, refl, rw is refl, rw (same_name n q.0 Equal is) refl, rw (same_name n q.0 Equal is) refl)
  searched_at q qs Greater (Ok i) is (was, at, put, value, without) = (
    was,
    at,
    rw is (ap (λ ps. q ∷ ps) put),
    rw (same_name n q.0 Greater is) value,
    rw (same_name n q.0 Greater is)
        (ap (λ ps. q ∷ ps) without),
  )
  searched_at q qs Greater (Err i) is (within, put, absent) = (
    omega arith,
    rw is (ap (λ ps. q ∷ ps) put),
    λ h. rw (same_name n q.0 Greater is)
        (absent (right (is_below q.0 qs) (is_ascending qs) h)),
  )

  pub searched : (qs : List Pair) → Searched qs (search_name n qs)
  searched [] = (omega arith, refl, λ h. refl)
  searched (q ∷ qs) = searched_at q qs (slice_cmp nat_cmp n q.0) (search_name n qs) refl (searched qs)

-- ---- the search, one attribute after another

shifted_further : (i : ℕ) (r : Result ℕ ℕ) → shifted i (further r) ≡ shifted (i + 1) r
shifted_further i (Ok j) = let e : i + suc j ≡ i + 1 + j = omega arith in ap (λ k. Ok k) e
shifted_further i (Err j) = let e : i + suc j ≡ i + 1 + j = omega arith in ap (λ k. Err k) e

module _ (name : List ℕ) (all : List Pair) (i : ℕ) (q : Pair) (at : slice_get all i ≡ Some q)
    (so_far : search_name name all ≡ shifted i (search_name name (drop i all))) where
  opened : search_name name all ≡ shifted i
      (match_ordering (slice_cmp nat_cmp name q.0) (Err 0) (Ok 0) (further (search_name name (drop (i + 1) all))))
  opened =
      let e : i + 1 ≡ suc i = omega arith in
      let next : drop i all ≡ q ∷ drop (i + 1) all = rw e (drop-get all i q at) in
      so_far ∙ ap (λ ps. shifted i (search_name name ps)) next

  pub search_less : slice_cmp nat_cmp name q.0 ≡ Less → Err i ≡ search_name name all
  search_less is = let e : i ≡ i
      + 0 = omega arith in ap (λ k. Err k) e ∙ sym
      (opened ∙ ap (λ o. shifted i (match_ordering o (Err 0) (Ok 0) (further (search_name name (drop (i + 1) all))))) is)

  pub search_equal : slice_cmp nat_cmp name q.0 ≡ Equal → Ok i ≡ search_name name all
  search_equal is = let e : i ≡ i
      + 0 = omega arith in ap (λ k. Ok k) e ∙ sym
      (opened ∙ ap (λ o. shifted i (match_ordering o (Err 0) (Ok 0) (further (search_name name (drop (i + 1) all))))) is)

  pub search_greater : slice_cmp nat_cmp name q.0 ≡ Greater → search_name name all ≡ shifted (i + 1) (search_name name (drop (i + 1) all))
  search_greater is = opened ∙ ap
      (λ o. shifted i (match_ordering o (Err 0) (Ok 0) (further (search_name name (drop (i + 1) all))))) is ∙ shifted_further i
      (search_name name (drop (i + 1) all))

-- ---- the search by halves

further_shifted : (i : ℕ) (r : Result ℕ ℕ) → further (shifted i r) ≡ shifted (suc i) r
further_shifted i (Ok j) = let e : suc (i + j) ≡ suc i + j = omega arith in ap (λ k. Ok k) e
further_shifted i (Err j) = let e : suc (i + j) ≡ suc i + j = omega arith in ap (λ k. Err k) e

further_once : (r : Result ℕ ℕ) → further r ≡ shifted (0 + 1) r
further_once (Ok j) = let e : suc j ≡ 0 + 1 + j = omega arith in ap (λ k. Ok k) e
further_once (Err j) = let e : suc j ≡ 0 + 1 + j = omega arith in ap (λ k. Err k) e

-- the names of a list that ascends are behind one that is before the first
later_behind : (a : List ℕ) (qs : List Pair) (i : ℕ) (q : Pair) → is_below a qs ≡ true → is_ascending qs ≡ true
    → slice_get qs i ≡ Some q → is_before a q.0 ≡ true
later_behind a [] i q b h e = absurd (cc)
later_behind a (x ∷ qs) zero q b h e = let same : x ≡ q = cc in ap (λ (p : Pair). is_before a p.0) (sym same) ∙ b
later_behind a (x ∷ qs) (suc i) q b h e =
    later_behind a qs i q (below_trans a x.0 qs b (left (is_below x.0 qs) (is_ascending qs) h))
    (right (is_below x.0 qs) (is_ascending qs) h) e

passes_first : (name : List ℕ) (x q : Pair) → is_before x.0 q.0 ≡ true → slice_cmp nat_cmp name q.0 ≡ Greater
    → slice_cmp nat_cmp name x.0 ≡ Greater
passes_first name x q b is =
    let above : slice_cmp nat_cmp q.0 name ≡ Less = nat_list_cmp_total.antisymm q.0 name ∙ ap ordering_reverse is in
    nat_list_cmp_total.antisymm name x.0
    ∙ ap ordering_reverse (nat_list_cmp_total.trans x.0 q.0 name (lt_less _ b) above)

-- all before one that is not behind the name are before it
pub passes_greater : (name : List ℕ) (q : Pair) → slice_cmp nat_cmp name q.0 ≡ Greater → (x : Pair) → is_before x.0 q.0 ≡ true
    → slice_cmp nat_cmp name x.0 ≡ Greater
passes_greater name q is x b = passes_first name x q b is

pub passes_equal : (name : List ℕ) (q : Pair) → slice_cmp nat_cmp name q.0 ≡ Equal → (x : Pair) → is_before x.0 q.0 ≡ true
    → slice_cmp nat_cmp name x.0 ≡ Greater
passes_equal name q is x b =
    let same : q.0 ≡ name = (bytes_eq-Decides q.0 name).0 (same_name name q.0 Equal is) in
    let before : is_before x.0 name ≡ true = subst (λ (m : List ℕ). is_before x.0 m ≡ true) same b in
    nat_list_cmp_total.antisymm name x.0 ∙ ap ordering_reverse (lt_less (slice_cmp nat_cmp x.0 name) before)

-- no places further on
pub shifted_none : (r : Result ℕ ℕ) → r ≡ shifted 0 r
shifted_none (Ok j) = let e : j ≡ 0 + j = omega arith in ap (λ k. Ok k) e
shifted_none (Err j) = let e : j ≡ 0 + j = omega arith in ap (λ k. Err k) e

-- all before such a one are passed
pub search_from : (name : List ℕ) (q : Pair) → ((x : Pair) → is_before x.0 q.0 ≡ true → slice_cmp nat_cmp name x.0 ≡ Greater)
    → (qs : List Pair) (i : ℕ) → is_ascending qs ≡ true → slice_get qs i ≡ Some q
    → search_name name qs ≡ shifted i (search_name name (drop i qs))
search_from name q passes [] i h e = absurd (cc)
search_from name q passes (x ∷ qs) zero h e = shifted_none (search_name name (x ∷ qs))
search_from name q passes (x ∷ qs) (suc i) h e =
    let rest = right (is_below x.0 qs) (is_ascending qs) h in
    let first = passes x (later_behind x.0 qs i q (left (is_below x.0 qs) (is_ascending qs) h) rest e) in
    ap (λ o. match_ordering o (Err 0) (Ok 0) (further (search_name name qs))) first
    ∙ ap further (search_from name q passes qs i rest e) ∙ further_shifted i (search_name name (drop i qs))

-- all up to one before the name are passed
pub search_behind : (name : List ℕ) (qs : List Pair) (i : ℕ) (q : Pair) → is_ascending qs ≡ true → slice_get qs i ≡ Some q
    → slice_cmp nat_cmp name q.0 ≡ Greater → search_name name qs ≡ shifted (i + 1) (search_name name (drop (i + 1) qs))
search_behind name [] i q h e is = absurd (cc)
search_behind name (x ∷ qs) zero q h e is =
    let same : x ≡ q = cc in
    ap (λ o. match_ordering o (Err 0) (Ok 0) (further (search_name name qs))) (ap (λ (p : Pair). slice_cmp nat_cmp name p.0) same ∙ is)
    ∙ further_once (search_name name qs)
search_behind name (x ∷ qs) (suc i) q h e is =
    let rest = right (is_below x.0 qs) (is_ascending qs) h in
    let first = passes_first name x q (later_behind x.0 qs i q (left (is_below x.0 qs) (is_ascending qs) h) rest e) is in
    let next : suc i + 1 ≡ suc (i + 1) = omega arith in
    rw next (ap (λ o. match_ordering o (Err 0) (Ok 0) (further (search_name name qs))) first
    ∙ ap further (search_behind name qs i q rest e is) ∙ further_shifted (i + 1) (search_name name (drop (i + 1) qs)))

pub get-within : {A : Type 0} (xs : List A) (i : ℕ) (x : A) → slice_get xs i ≡ Some x → i < length xs
get-within [] i x e = absurd (cc)
get-within (y ∷ ys) zero x e = omega arith
get-within (y ∷ ys) (suc i) x e = let h = get-within ys i x e in omega arith

-- the same, where the search is known to have found, or not
pub searched_ok : (n v : List ℕ) (qs : List Pair) (i : ℕ) → search_name n qs ≡ Ok i → Searched n v qs (Ok i)
searched_ok n v qs i e = subst (λ (r : Result ℕ ℕ). Searched n v qs r) e (searched n v qs)

pub searched_err : (n v : List ℕ) (qs : List Pair) (i : ℕ) → search_name n qs ≡ Err i → Searched n v qs (Err i)
searched_err n v qs i e = subst (λ (r : Result ℕ ℕ). Searched n v qs r) e (searched n v qs)
