-- An attribute set and dropped, and set back.
use Rattle.std.proofs.Common.{◌≡◌, ℕ, List, [], ◌∷◌, Option, Some, None, Bool, true, false, cond, bytes_eq, nat_cmp, is_eq, ◌&&◌, Ordering}
use Rattle.std.proofs.Common.{Less, Equal, Greater, subst, refl, sym, ap, ◌∙◌}
use Rattle.std.specs.List.{list_all}
use Rattle.std.specs.Ordering.{match_ordering, is_lt, ordering_reverse}
use Rattle.std.specs.Cmp.Lexicographic.{slice_cmp}
use Rattle.std.proofs.lemmas.Cmp.{nat_list_cmp_total}
use Rattle.std.proofs.lemmas.Map.Text.{is_eq-slice_cmp}
use Rattle.std.proofs.lemmas.Slice.Eq.{bytes_eq-Decides}
use Rattle.node_tree.specs.Labels.{Pair, is_ascending, is_below, is_before, value_of}
use Rattle.node_tree.specs.LabelChanges.{placed, pairs_without}

-- ---- tests

pub both : (a b : Bool) → a ≡ true → b ≡ true → (a && b) ≡ true
both true b e f = f
both false b e f = absurd (cc)

pub left : (a b : Bool) → (a && b) ≡ true → a ≡ true
left true b e = refl
left false b e = e

pub right : (a b : Bool) → (a && b) ≡ true → b ≡ true
right true b e = e
right false b e = absurd (cc)

-- ---- names in order

-- the order of two names, and whether they are the same
pub same_name : (n m : List ℕ) (o : Ordering) → slice_cmp nat_cmp n m ≡ o → bytes_eq m n ≡ is_eq (ordering_reverse o)
same_name n m o is = sym (is_eq-slice_cmp m n) ∙ ap is_eq (nat_list_cmp_total.antisymm m n ∙ ap ordering_reverse is)

pub lt_less : (o : Ordering) → is_lt o ≡ true → o ≡ Less
lt_less Less e = refl
lt_less Equal e = absurd (cc)
lt_less Greater e = absurd (cc)

pub before_trans : (a b c : List ℕ) → is_before a b ≡ true → is_before b c ≡ true → is_before a c ≡ true
before_trans a b c e f = ap is_lt (nat_list_cmp_total.trans a b c (lt_less _ e) (lt_less _ f))

equal_name : (n : List ℕ) → bytes_eq n n ≡ true
equal_name n = sym (is_eq-slice_cmp n n) ∙ ap is_eq (self (slice_cmp nat_cmp n n) (nat_list_cmp_total.antisymm n n))
  where
    self : (o : Ordering) → o ≡ ordering_reverse o → o ≡ Equal
    self Less e = absurd (cc)
    self Equal e = refl
    self Greater e = absurd (cc)

pub below_trans : (a b : List ℕ) (ps : List Pair) → is_before a b ≡ true → is_below b ps ≡ true → is_below a ps ≡ true
below_trans a b [] e f = refl
below_trans a b (p ∷ ps) e f = before_trans a b p.0 e f

-- a name before all others is not there
pub value-below : (n : List ℕ) (ps : List Pair) → is_below n ps ≡ true → is_ascending ps ≡ true → value_of n ps ≡ None
value-below n [] e h = refl
value-below n (p ∷ ps) e h =
    rw (same_name n p.0 Less (lt_less _ e))
    (value-below n ps (below_trans n p.0 ps e (left _ _ h)) (right (is_below p.0 ps) (is_ascending ps) h))

-- ---- attributes are in order

is_below-placed_at : (o : Ordering) (name : List ℕ) (p q : Pair) (qs : List Pair) → is_before name p.0 ≡ true → is_before name q.0 ≡ true
    → is_below name (match_ordering o (p ∷ q ∷ qs) ((q.0, p.1) ∷ qs) (q ∷ placed p qs)) ≡ true
is_below-placed_at Less name p q qs e f = e
is_below-placed_at Equal name p q qs e f = f
is_below-placed_at Greater name p q qs e f = f

is_below-placed : (name : List ℕ) (p : Pair) (qs : List Pair) → is_before name p.0 ≡ true → is_below name qs ≡ true
    → is_below name (placed p qs) ≡ true
is_below-placed name p [] e f = e
is_below-placed name p (q ∷ qs) e f = is_below-placed_at (slice_cmp nat_cmp p.0 q.0) name p q qs e f

is_ascending-placed_at : (o : Ordering) (p q : Pair) (qs : List Pair) → slice_cmp nat_cmp p.0 q.0 ≡ o → is_below q.0 qs ≡ true
    → is_ascending qs ≡ true → is_ascending (placed p qs) ≡ true
    → is_ascending (match_ordering o (p ∷ q ∷ qs) ((q.0, p.1) ∷ qs) (q ∷ placed p qs)) ≡ true
is_ascending-placed_at Less p q qs is below rest placed_rest = both _ _ (ap is_lt is) (both _ _ below rest)
is_ascending-placed_at Equal p q qs is below rest placed_rest = both _ _ below rest
is_ascending-placed_at Greater p q qs is below rest placed_rest =
    let before_p : is_before q.0 p.0 ≡ true = ap is_lt (nat_list_cmp_total.antisymm q.0 p.0 ∙ ap ordering_reverse is) in
    both _ _ (is_below-placed q.0 p qs before_p below) placed_rest

-- pairs that ascend still do with one more in its place
pub is_ascending-placed : (p : Pair) (qs : List Pair) → is_ascending qs ≡ true → is_ascending (placed p qs) ≡ true
is_ascending-placed p [] h = refl
is_ascending-placed p (q ∷ qs) h =
    let below = left (is_below q.0 qs) (is_ascending qs) h in
    let rest = right (is_below q.0 qs) (is_ascending qs) h in
    is_ascending-placed_at (slice_cmp nat_cmp p.0 q.0) p q qs refl below rest (is_ascending-placed p qs rest)

-- ---- an attribute set

module _ (n v : List ℕ) where
  value-placed_at : (o : Ordering) (q : Pair) (qs : List Pair) → slice_cmp nat_cmp n q.0 ≡ o → value_of n (placed (n, v) qs) ≡ Some v
      → value_of n (match_ordering o ((n, v) ∷ q ∷ qs) ((q.0, v) ∷ qs) (q ∷ placed (n, v) qs)) ≡ Some v
  value-placed_at Less q qs is h = rw (equal_name n) refl
  value-placed_at Equal q qs is h = rw (same_name n q.0 Equal is) refl
  value-placed_at Greater q qs is h = rw (same_name n q.0 Greater is) h

  pub value-placed : (qs : List Pair) → value_of n (placed (n, v) qs) ≡ Some v
  value-placed [] = rw (equal_name n) refl
  value-placed (q ∷ qs) = value-placed_at (slice_cmp nat_cmp n q.0) q qs refl (value-placed qs)

  names-placed_at : (f : List ℕ → Bool) (o : Ordering) (q : Pair) (qs : List Pair) → f n ≡ true → f q.0 ≡ true
      → list_all (λ p. f p.0) qs ≡ true → list_all (λ p. f p.0) (placed (n, v) qs) ≡ true
      → list_all (λ p. f p.0) (match_ordering o ((n, v) ∷ q ∷ qs) ((q.0, v) ∷ qs) (q ∷ placed (n, v) qs)) ≡ true
  names-placed_at f Less q qs e g h k = both _ _ e (both _ _ g h)
  names-placed_at f Equal q qs e g h k = both _ _ g h
  names-placed_at f Greater q qs e g h k = both _ _ g k

  pub names-placed : (f : List ℕ → Bool) (qs : List Pair) → f n ≡ true → list_all (λ p. f p.0) qs ≡ true
      → list_all (λ p. f p.0) (placed (n, v) qs) ≡ true
  names-placed f [] e h = both _ _ e refl
  names-placed f (q ∷ qs) e h = names-placed_at f (slice_cmp nat_cmp n q.0) q qs e (left _ _ h) (right (f q.0) _ h)
      (names-placed f qs e (right (f q.0) _ h))

-- ---- an attribute dropped

module _ (n : List ℕ) where
  names-without_at : (f : List ℕ → Bool) (b : Bool) (q : Pair) (qs rest : List Pair) → f q.0 ≡ true → list_all (λ p. f p.0) qs ≡ true
      → list_all (λ p. f p.0) rest ≡ true → list_all (λ p. f p.0) (cond b qs (q ∷ rest)) ≡ true
  names-without_at f true q qs rest g h k = h
  names-without_at f false q qs rest g h k = both _ _ g k

  pub names-without : (f : List ℕ → Bool) (qs : List Pair) → list_all (λ p. f p.0) qs ≡ true
      → list_all (λ p. f p.0) (pairs_without n qs) ≡ true
  names-without f [] h = refl
  names-without f (q ∷ qs) h = names-without_at f (bytes_eq q.0 n) q qs (pairs_without n qs) (left _ _ h) (right (f q.0) _ h)
      (names-without f qs (right (f q.0) _ h))

  below-without_at : (a : List ℕ) (b : Bool) (q : Pair) (qs rest : List Pair) → is_before a q.0 ≡ true → is_below q.0 qs ≡ true
      → is_below a (cond b qs (q ∷ rest)) ≡ true
  below-without_at a true q qs rest e f = below_trans a q.0 qs e f
  below-without_at a false q qs rest e f = e

  below-without : (a : List ℕ) (qs : List Pair) → is_below a qs ≡ true → is_ascending qs ≡ true → is_below a (pairs_without n qs) ≡ true
  below-without a [] e h = refl
  below-without a (q ∷ qs) e h = below-without_at a (bytes_eq q.0 n) q qs (pairs_without n qs) e (left _ _ h)

  ascending-without_at : (b : Bool) (q : Pair) (qs rest : List Pair) → is_ascending qs ≡ true → is_below q.0 rest ≡ true
      → is_ascending rest ≡ true → is_ascending (cond b qs (q ∷ rest)) ≡ true
  ascending-without_at true q qs rest h e k = h
  ascending-without_at false q qs rest h e k = both _ _ e k

  pub ascending-without : (qs : List Pair) → is_ascending qs ≡ true → is_ascending (pairs_without n qs) ≡ true
  ascending-without [] h = refl
  ascending-without (q ∷ qs) h =
      let below = left (is_below q.0 qs) (is_ascending qs) h in
      let rest = right (is_below q.0 qs) (is_ascending qs) h in
      ascending-without_at (bytes_eq q.0 n) q qs (pairs_without n qs) rest (below-without q.0 qs below rest) (ascending-without qs rest)

  -- a name that stands there is before all behind it
  below_same : (q : Pair) (qs : List Pair) → bytes_eq q.0 n ≡ true → is_below q.0 qs ≡ true → is_below n qs ≡ true
  below_same q qs e h = subst (λ (m : List ℕ). is_below m qs ≡ true) ((bytes_eq-Decides q.0 n).0 e) h

  value-without_at : (b : Bool) (q : Pair) (qs : List Pair) → bytes_eq q.0 n ≡ b → is_below q.0 qs ≡ true → is_ascending qs ≡ true
      → value_of n (pairs_without n qs) ≡ None → value_of n (cond b qs (q ∷ pairs_without n qs)) ≡ None
  value-without_at true q qs is e h k = value-below n qs (below_same q qs is e) h
  value-without_at false q qs is e h k = rw is k

  pub value-without : (qs : List Pair) → is_ascending qs ≡ true → value_of n (pairs_without n qs) ≡ None
  value-without [] h = refl
  value-without (q ∷ qs) h =
      let below = left (is_below q.0 qs) (is_ascending qs) h in
      let rest = right (is_below q.0 qs) (is_ascending qs) h in
      value-without_at (bytes_eq q.0 n) q qs refl below rest (value-without qs rest)

-- ---- there and back

module _ (n v : List ℕ) where
  some_injective : (u w : List ℕ) → ◌≡◌ {A = Option (List ℕ)} (Some u) (Some w) → u ≡ w
  some_injective u w e = cc

  set_set_at : (w : List ℕ) (o : Ordering) (q : Pair) (qs : List Pair) → slice_cmp nat_cmp n q.0 ≡ o
      → cond (bytes_eq q.0 n) (Some q.1) (value_of n qs) ≡ Some w → is_below q.0 qs ≡ true → is_ascending qs ≡ true
      → (value_of n qs ≡ Some w → placed (n, w) (placed (n, v) qs) ≡ qs)
      → placed (n, w) (match_ordering o ((n, v) ∷ q ∷ qs) ((q.0, v) ∷ qs) (q ∷ placed (n, v) qs)) ≡ q ∷ qs
  set_set_at w Less q qs is e below rest after =
      let f : value_of n qs ≡ Some w = rw (same_name n q.0 Less is) at e in
      let g : value_of n qs ≡ None = value-below n qs (below_trans n q.0 qs (ap is_lt is) below) rest in
      absurd (cc)
  set_set_at w Equal q qs is e below rest after =
      let f : ◌≡◌ {A = Option (List ℕ)} (Some q.1) (Some w) = rw (same_name n q.0 Equal is) at e in
      let g : q.1 ≡ w = some_injective q.1 w f in
      rw is (ap (λ (u : List ℕ). (q.0, u) ∷ qs) (sym g))
  set_set_at w Greater q qs is e below rest after =
      let f : value_of n qs ≡ Some w = rw (same_name n q.0 Greater is) at e in
      rw is (ap (◌∷◌ q) (after f))

  pub set_set : (w : List ℕ) (qs : List Pair) → value_of n qs ≡ Some w → is_ascending qs ≡ true → placed (n, w) (placed (n, v) qs) ≡ qs
  set_set w [] e h = absurd (cc)
  set_set w (q ∷ qs) e h =
      let below = left (is_below q.0 qs) (is_ascending qs) h in
      let rest = right (is_below q.0 qs) (is_ascending qs) h in
      set_set_at w (slice_cmp nat_cmp n q.0) q qs refl e below rest (λ f. set_set w qs f rest)

  set_drop_at : (o : Ordering) (q : Pair) (qs : List Pair) → slice_cmp nat_cmp n q.0 ≡ o
      → cond (bytes_eq q.0 n) (Some q.1) (value_of n qs) ≡ None
      → (value_of n qs ≡ None → pairs_without n (placed (n, v) qs) ≡ qs)
      → pairs_without n (match_ordering o ((n, v) ∷ q ∷ qs) ((q.0, v) ∷ qs) (q ∷ placed (n, v) qs)) ≡ q ∷ qs
  set_drop_at Less q qs is e after = rw (equal_name n) refl
  set_drop_at Equal q qs is e after =
      let f : ◌≡◌ {A = Option (List ℕ)} (Some q.1) None = rw (same_name n q.0 Equal is) at e in
      absurd (cc)
  set_drop_at Greater q qs is e after =
      let f : value_of n qs ≡ None = rw (same_name n q.0 Greater is) at e in
      rw (same_name n q.0 Greater is) (ap (◌∷◌ q) (after f))

  pub set_drop : (qs : List Pair) → value_of n qs ≡ None → pairs_without n (placed (n, v) qs) ≡ qs
  set_drop [] e = rw (equal_name n) refl
  set_drop (q ∷ qs) e = set_drop_at (slice_cmp nat_cmp n q.0) q qs refl e (set_drop qs)

  placed-below : (qs : List Pair) → is_below n qs ≡ true → placed (n, v) qs ≡ (n, v) ∷ qs
  placed-below [] e = refl
  placed-below (q ∷ qs) e = rw (lt_less (slice_cmp nat_cmp n q.0) e) refl

  drop_set_later : (o : Ordering) (q : Pair) (qs rest : List Pair) → slice_cmp nat_cmp n q.0 ≡ o → bytes_eq q.0 n ≡ false
      → value_of n qs ≡ Some v → is_below q.0 qs ≡ true → is_ascending qs ≡ true
      → placed (n, v) rest ≡ qs → match_ordering o ((n, v) ∷ q ∷ rest) ((q.0, v) ∷ rest) (q ∷ placed (n, v) rest) ≡ q ∷ qs
  drop_set_later Less q qs rest is other e below asc after =
      let g : value_of n qs ≡ None = value-below n qs (below_trans n q.0 qs (ap is_lt is) below) asc in
      absurd (cc)
  drop_set_later Equal q qs rest is other e below asc after = let f : bytes_eq q.0 n ≡ true = same_name n q.0 Equal is in absurd (cc)
  drop_set_later Greater q qs rest is other e below asc after = ap (◌∷◌ q) after

  drop_set_at : (b : Bool) (q : Pair) (qs : List Pair) → bytes_eq q.0 n ≡ b → cond b (Some q.1) (value_of n qs) ≡ Some v
      → is_below q.0 qs ≡ true → is_ascending qs ≡ true
      → (value_of n qs ≡ Some v → placed (n, v) (pairs_without n qs) ≡ qs) → placed (n, v) (cond b qs (q ∷ pairs_without n qs)) ≡ q ∷ qs
  drop_set_at true q qs is e below asc after =
      let name : q.0 ≡ n = (bytes_eq-Decides q.0 n).0 is in
      let value : q.1 ≡ v = some_injective q.1 v e in
      placed-below qs (below_same n q qs is below) ∙ λ i. (sym name i, sym value i) ∷ qs
  drop_set_at false q qs is e below asc after = drop_set_later (slice_cmp nat_cmp n q.0) q qs (pairs_without n qs) refl is e below asc
      (after e)

  pub drop_set : (qs : List Pair) → value_of n qs ≡ Some v → is_ascending qs ≡ true → placed (n, v) (pairs_without n qs) ≡ qs
  drop_set [] e h = absurd (cc)
  drop_set (q ∷ qs) e h =
      let below = left (is_below q.0 qs) (is_ascending qs) h in
      let rest = right (is_below q.0 qs) (is_ascending qs) h in
      drop_set_at (bytes_eq q.0 n) q qs refl e below rest (λ f. drop_set qs f rest)

-- ---- a name that is not there

module _ (n : List ℕ) where
  without-absent_at : (b : Bool) (q : Pair) (qs rest : List Pair) → cond b (Some q.1) (value_of n qs) ≡ None
      → (value_of n qs ≡ None → rest ≡ qs) → cond b qs (q ∷ rest) ≡ q ∷ qs
  without-absent_at true q qs rest e after = absurd (cc)
  without-absent_at false q qs rest e after = ap (◌∷◌ q) (after e)

  -- nothing goes
  pub without-absent : (qs : List Pair) → value_of n qs ≡ None → pairs_without n qs ≡ qs
  without-absent [] e = refl
  without-absent (q ∷ qs) e = without-absent_at (bytes_eq q.0 n) q qs (pairs_without n qs) e (without-absent qs)
