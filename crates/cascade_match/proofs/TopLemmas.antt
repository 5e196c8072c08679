-- The best of a name is the winner.
use Rattle.std.proofs.Common.{◌≡◌, ◌≢◌, ℕ, ◌+◌, ◌<◌, nat_lt, Bool, true, false, cond, not, ◌&&◌, ◌||◌, List, [], ◌∷◌, ◌++◌, map, take, drop}
use Rattle.std.proofs.Common.{length, get_or, Option, Some, None, subst, sym, refl, ap, ◌∙◌, arith}
use Rattle.std.proofs.lemmas.Bool.{eq-eqb, ne_eqb}
use Rattle.std.proofs.lemmas.Bool.Decides.{nat_tests}
use Rattle.std.proofs.lemmas.List.{drop_more, take_more, take-append-drop, map-append, map_push, append_assoc, length-map, length-take-le}
use Rattle.std.proofs.lemmas.Slice.Eq.{bytes_eq-Decides}
use Rattle.std.specs.Str.{bytes_eq}
use Rattle.std.specs.List.{list_any}
use Rattle.cascade_match.specs.declared.winning.Top.{Top}
use Rattle.cascade_match.specs.declared.winning.Ranked.{Ranked}
use Rattle.cascade_match.specs.Winning.{Candidate, outranks, overrides, is_winner, wins_from}
use Rattle.cascade_match.specs.Tops.{ranked_seen, covers, better, top, is_at_place}

lower : (k x t : ℕ) → nat_lt x t ≡ true → nat_lt k t ≡ (nat_lt k t || nat_lt k x)
lower k x t e = grind (arith, nat_tests)

higher : (k x t : ℕ) → nat_lt x t ≡ false → nat_lt k x ≡ (nat_lt k t || nat_lt k x)
higher k x t e = grind (arith, nat_tests)

abbrev pub new_top : ℕ → ℕ → Top
new_top rank i = record { rank = rank; place = i }

module _ (q : List ℕ) where
  same : Candidate → Bool
  same x = bytes_eq x.name q

  -- the best is not at a place that it has not and that lies behind
  passed-place : (p : ℕ) (u : Top) (i : ℕ) (xs : List Candidate) → u.place ≢ p → p < i → is_at_place (top q (Some u) i xs) p ≡ false
  passed-place p u i [] other behind = ne_eqb u.place p other
  passed-place p u i (x ∷ xs) other behind = by (bytes_eq x.name q) (nat_lt x.rank u.rank)
      (λ w no. passed-place p w (i + 1) xs no (omega arith))
    where
      by : (b c : Bool) → ((w : Top) → w.place ≢ p → is_at_place (top q (Some w) (i + 1) xs) p ≡ false)
          → is_at_place (top q (cond b (Some (cond c u (record { rank = x.rank; place = i }))) (Some u)) (i + 1) xs) p ≡ false
      by false c rest = rest u other
      by true true rest = rest u other
      by true false rest = rest (record { rank = x.rank; place = i }) (λ e. omega arith)

  -- it stays where it is unless a later one has a rank that is not lower
  own-place : (t : Top) (i : ℕ) (xs : List Candidate) → t.place < i
      → is_at_place (top q (Some t) i xs) t.place ≡ not (list_any (λ x. bytes_eq x.name q && not (nat_lt x.rank t.rank)) xs)
  own-place t i [] behind = eq-eqb t.place t.place refl
  own-place t i (x ∷ xs) behind = by (bytes_eq x.name q) (nat_lt x.rank t.rank) (own-place t (i + 1) xs (omega arith))
      (passed-place t.place (record { rank = x.rank; place = i }) (i + 1) xs (λ e. omega arith) (omega arith))
    where
      by : (b c : Bool) → is_at_place (top q (Some t) (i + 1) xs) t.place
          ≡ not (list_any (λ x. bytes_eq x.name q && not (nat_lt x.rank t.rank)) xs)
          → is_at_place (top q (Some (record { rank = x.rank; place = i })) (i + 1) xs) t.place ≡ false
          → is_at_place (top q (cond b (Some (cond c t (record { rank = x.rank; place = i }))) (Some t)) (i + 1) xs) t.place
          ≡ not ((b && not c) || list_any (λ x. bytes_eq x.name q && not (nat_lt x.rank t.rank)) xs)
      by false c stays goes = stays
      by true true stays goes = stays
      by true false stays goes = goes

  covers-better : (best : Option Top) (i rank k : ℕ) → covers (Some (better best i rank)) k ≡ (covers best k || nat_lt k rank)
  covers-better None i rank k = refl
  covers-better (Some t) i rank k = by (nat_lt rank t.rank) refl
    where
      by : (b : Bool) → nat_lt rank t.rank ≡ b
          → nat_lt k (cond b t (record { rank = rank; place = i })).rank ≡ (nat_lt k t.rank || nat_lt k rank)
      by true e = lower k rank t.rank e
      by false e = higher k rank t.rank e

  or_assoc : (a b c : Bool) → ((a || b) || c) ≡ (a || (b || c))
  or_assoc true b c = refl
  or_assoc false b c = refl

  -- the best is of a greater rank where one of them is
  covers-top : (best : Option Top) (i k : ℕ) (xs : List Candidate)
      → covers (top q best i xs) k ≡ (covers best k || list_any (λ x. bytes_eq x.name q && nat_lt k x.rank) xs)
  covers-top best i k [] = or_false (covers best k)
    where
      or_false : (a : Bool) → a ≡ (a || false)
      or_false true = refl
      or_false false = refl
  covers-top best i k (x ∷ xs) = by (bytes_eq x.name q) (λ w. covers-top w (i + 1) k xs)
    where
      by : (b : Bool) → ((w : Option Top)
          → covers (top q w (i + 1) xs) k ≡ (covers w k || list_any (λ x. bytes_eq x.name q && nat_lt k x.rank) xs))
          → covers (top q (cond b (Some (better best i x.rank)) best) (i + 1) xs) k
          ≡ (covers best k || ((b && nat_lt k x.rank) || list_any (λ x. bytes_eq x.name q && nat_lt k x.rank) xs))
      by false rest = rest best
      by true rest =
          rest (Some (better best i x.rank)) ∙ ap (λ (a : Bool). a || list_any (λ x. bytes_eq x.name q && nat_lt k x.rank) xs)
          (covers-better best i x.rank k)
          ∙ or_assoc (covers best k) (nat_lt k x.rank) (list_any (λ x. bytes_eq x.name q && nat_lt k x.rank) xs)

  abbrev pub Below : Option Top → ℕ → Type 0
  Below None n = Unit {0}
  Below (Some t) n = t.place < n

  Below-better : (best : Option Top) (i rank : ℕ) → Below best i → (better best i rank).place < i + 1
  Below-better None i rank h = omega arith
  Below-better (Some t) i rank h = by (nat_lt rank t.rank)
    where
      by : (b : Bool) → (cond b t (record { rank = rank; place = i })).place < i + 1
      by true = let stays : t.place < i + 1 = omega arith in stays
      by false = let here : i < i + 1 = omega arith in here

  Below-more : (best : Option Top) (i : ℕ) → Below best i → Below best (i + 1)
  Below-more None i h = tt
  Below-more (Some t) i h = omega arith

  -- the best stands before what was not looked at
  Below-top : (best : Option Top) (i n : ℕ) (xs : List Candidate) → i + length xs ≡ n → Below best i → Below (top q best i xs) n
  Below-top best i n [] e h = subst (Below best) (let same : i ≡ n = omega arith in same) h
  Below-top best i n (x ∷ xs) e h = by (bytes_eq x.name q) (λ w k. Below-top w (i + 1) n xs (omega arith) k)
    where
      by : (b : Bool) → ((w : Option Top) → Below w (i + 1) → Below (top q w (i + 1) xs) n)
          → Below (top q (cond b (Some (better best i x.rank)) best) (i + 1) xs) n
      by false rest = rest best (Below-more best i h)
      by true rest = rest (Some (better best i x.rank)) (Below-better best i x.rank h)

  top-append : (best : Option Top) (i n : ℕ) (xs ys : List Candidate) → i + length xs ≡ n
      → top q best i (xs ++ ys) ≡ top q (top q best i xs) n ys
  top-append best i n [] ys e = ap (λ k. top q best k ys) (let same : i ≡ n = omega arith in same)
  top-append best i n (x ∷ xs) ys e = top-append (cond (bytes_eq x.name q) (Some (better best i x.rank)) best) (i + 1) n xs ys (omega arith)

-- a declaration, where the best before it is known
at_own : (r : Candidate) (best : Option Top) (n : ℕ) (after : List Candidate) (outranked : Bool) → Below r.name best n
    → covers best r.rank ≡ outranked
    → is_at_place (top r.name (Some (better best n r.rank)) (n + 1) after) n ≡ (not outranked && not (list_any (overrides r) after))
at_own r None n after outranked h is = ap (λ (b : Bool). b) (own-place r.name (new_top r.rank n) (n + 1) after (omega arith)) ∙ ap
    (λ (b : Bool). not b && not (list_any (overrides r) after)) is
at_own r (Some t) n after outranked h is = by (nat_lt r.rank t.rank) is
  where
    by : (b : Bool) → b ≡ outranked
        → is_at_place (top r.name (Some (cond b t (record { rank = r.rank; place = n }))) (n + 1) after) n
        ≡ (not outranked && not (list_any (overrides r) after))
    by true e = passed-place r.name n t (n + 1) after (λ same. omega arith) (omega arith) ∙ ap
        (λ (b : Bool). not b && not (list_any (overrides r) after)) e
    by false e = own-place r.name (new_top r.rank n) (n + 1) after (omega arith) ∙ ap
        (λ (b : Bool). not b && not (list_any (overrides r) after)) e

itself : (name : List ℕ) → bytes_eq name name ≡ true
itself name = (bytes_eq-Decides name name).1 refl

-- the best of its name stands at the place of a declaration exactly where that wins
pub top-wins : (before : List Candidate) (r : Candidate) (after : List Candidate) (n : ℕ) → length before ≡ n
    → is_at_place (top r.name None 0 (before ++ r ∷ after)) n ≡ is_winner before r after
top-wins before r after n e =
    let best = top r.name None 0 before in
    let last : 0 + length before ≡ n = omega arith in
    ap (λ (o : Option Top). is_at_place o n) (top-append r.name None 0 n before (r ∷ after) last)
    ∙ ap (λ (b : Bool). is_at_place (top r.name (cond b (Some (better best n r.rank)) best) (n + 1) after) n) (itself r.name)
    ∙ at_own r best n after (list_any (outranks r) before) (Below-top r.name None 0 n before last tt)
    (covers-top r.name None 0 r.rank before)

-- ---- steps of the code

find_same : (name q : List ℕ) (f : List ℕ → Option Top) (i rank : ℕ)
    → cond (bytes_eq name q) (Some (better (f name) i rank)) (f q) ≡ cond (bytes_eq name q) (Some (better (f q) i rank)) (f q)
find_same name q f i rank = by (bytes_eq name q) refl
  where
    by : (b : Bool) → bytes_eq name q ≡ b → cond b (Some (better (f name) i rank)) (f q) ≡ cond b (Some (better (f q) i rank)) (f q)
    by true e = ap (λ (k : List ℕ). Some (better (f k) i rank)) ((bytes_eq-Decides name q).0 e)
    by false e = refl

-- the declaration at a place is taken into the table of the best
pub tops-step : (all : List Ranked) (i : ℕ) (d : Ranked) (q : List ℕ) (old new : List ℕ → Option Top) (best : Option Top) → i < length all
    → best ≡ old (get_or all i d).name.now
    → ((k : List ℕ) → new k ≡ cond (bytes_eq (get_or all i d).name.now k) (Some (better best i (get_or all i d).rank)) (old k))
    → top q (new q) (i + 1) (map ranked_seen (drop (i + 1) all)) ≡ top q (old q) i (map ranked_seen (drop i all))
tops-step all i d q old new best inside is made =
    let r = get_or all i d in
    let same_new = made q ∙ ap (λ (o : Option Top). cond (bytes_eq r.name.now q) (Some (better o i r.rank))
    (old q)) is ∙ find_same r.name.now q old i r.rank in
    ap (λ (o : Option Top). top q o (i + 1) (map ranked_seen (drop (i + 1) all))) same_new ∙ sym
    (ap (λ (l : List Ranked). top q (old q) i (map ranked_seen l)) (drop_more all i d inside))

-- and told whether it wins
pub wins-step : (all : List Ranked) (i : ℕ) (d : Ranked) (won told : List Bool) (test : Bool) → i < length all → told ≡ won ++ test ∷ []
    → test ≡ is_at_place (top (get_or all i d).name.now None 0 (map ranked_seen all)) i
    → told ++ wins_from (map ranked_seen (take (i + 1) all)) (map ranked_seen (drop (i + 1) all))
    ≡ won ++ wins_from (map ranked_seen (take i all)) (map ranked_seen (drop i all))
wins-step all i d won told test inside e is =
    let r = ranked_seen (get_or all i d) in
    let before = map ranked_seen (take i all) in
    let after = map ranked_seen (drop (i + 1) all) in
    let split : map ranked_seen all ≡ before ++ r ∷ after =
    sym (ap (λ (l : List Ranked). map ranked_seen l) (take-append-drop i all)) ∙ map-append ranked_seen (take i all) (drop i all) ∙ ap
    (λ (l : List Ranked). before ++ map ranked_seen l) (drop_more all i d inside) in
    let here : length before ≡ i = omega (arith, length-map (take i all) ranked_seen, length-take-le i all (omega arith)) in
    let wins = is ∙ ap (λ (l : List Candidate). is_at_place (top r.name None 0 l) i) split ∙ top-wins before r after i here in
    let front : map ranked_seen (take (i + 1) all)
    ≡ before ++ r ∷ [] = ap (λ (l : List Ranked). map ranked_seen l) (take_more all i d inside) ∙ map_push ranked_seen (take i all)
    (get_or all i d) in
    ap (λ (l : List Bool). l ++ wins_from (map ranked_seen (take (i + 1) all)) after) e
    ∙ append_assoc won (test ∷ []) (wins_from (map ranked_seen (take (i + 1) all)) after)
    ∙ ap (λ (b : Bool). won ++ b ∷ wins_from (map ranked_seen (take (i + 1) all)) after) wins
    ∙ ap (λ (l : List Candidate). won ++ is_winner before r after ∷ wins_from l after) front
    ∙ sym (ap (λ (l : List Ranked). won ++ wins_from before (map ranked_seen l)) (drop_more all i d inside))
