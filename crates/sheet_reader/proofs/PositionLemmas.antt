-- One byte more before a position.
use Rattle.std.proofs.Common.{◌≡◌, ℕ, suc, ◌+◌, ◌*◌, ◌<◌, ◌≤◌, Bool, true, false, cond, not, List, [], ◌∷◌, ◌++◌, length, take, get_or}
use Rattle.std.proofs.Common.{reverse, refl, sym, ap, ◌∙◌, arith}
use Rattle.std.specs.List.{prefix_len, sum_by}
use Rattle.std.proofs.lemmas.List.{reverse-append, take_more, length-take, length-reverse}
use Rattle.std.proofs.lemmas.List.Sums.{sum_by-append, count_by-le-length}
use Rattle.sheet_reader.specs.declared.place.Position.{Position}
use Rattle.sheet_reader.specs.Positions.{is_line_feed, units_at, line_back, line_of, column_of, position, position_behind, position_of}
use Rattle.sheet_reader.specs.Positions.{behind_byte}

abbrev stays : ℕ → Bool
stays c = not (is_line_feed c)

cut : (c : ℕ) (back : List ℕ) (b : Bool) → stays c ≡ b
    → take (prefix_len stays (c ∷ back)) (c ∷ back) ≡ cond b (c ∷ take (prefix_len stays back) back) []
cut c back true e =
    let n : prefix_len stays (c ∷ back)
    ≡ suc (prefix_len stays back) = ap (λ (x : Bool). cond x (1 + prefix_len stays back) 0) e ∙ omega arith in
    ap (λ (k : ℕ). take k (c ∷ back)) n
cut c back false e =
    let n : prefix_len stays (c ∷ back) ≡ 0 = ap (λ (x : Bool). cond x (1 + prefix_len stays back) 0) e in
    ap (λ (k : ℕ). take k (c ∷ back)) n

back_more : (xs : List ℕ) (c : ℕ) → line_back (xs ++ c ∷ []) ≡ take (prefix_len stays (c ∷ reverse xs)) (c ∷ reverse xs)
back_more xs c = ap (λ (ys : List ℕ). take (prefix_len stays ys) ys) (reverse-append xs (c ∷ []))

sum_cons : (c : ℕ) (xs : List ℕ) → sum_by units_at (c ∷ xs) ≡ units_at c + sum_by units_at xs
sum_cons c xs =
    let split : sum_by units_at (c ∷ xs) ≡ 0 + units_at c + sum_by units_at xs = sum_by-append units_at (c ∷ []) xs in
    omega (arith, split)

pub column_feed : (xs : List ℕ) (c : ℕ) → is_line_feed c ≡ true → column_of (xs ++ c ∷ []) ≡ 0
unfolding column_of
column_feed xs c e = ap (λ (ys : List ℕ). sum_by units_at ys) (back_more xs c ∙ cut c (reverse xs) false (ap not e))

pub column_stays : (xs : List ℕ) (c : ℕ) → is_line_feed c ≡ false → column_of (xs ++ c ∷ []) ≡ column_of xs + units_at c
unfolding column_of
column_stays xs c e =
    let more = ap (λ (ys : List ℕ). sum_by units_at ys) (back_more xs c ∙ cut c (reverse xs) true (ap not e)) in
    let split = sum_cons c (line_back xs) in
    more ∙ split ∙ omega arith

pub line_more : (xs : List ℕ) (c : ℕ) → line_of (xs ++ c ∷ []) ≡ line_of xs + cond (is_line_feed c) 1 0
unfolding line_of
line_more xs c =
    let split : line_of (xs ++ c ∷ [])
    ≡ line_of xs + (0 + cond (is_line_feed c) 1 0) = sum_by-append (λ x. cond (is_line_feed x) 1 0) xs (c ∷ []) in
    omega (arith, split)

same_position : (a b c d : ℕ) → a ≡ c → b ≡ d → position a b ≡ position c d
same_position a b c d p q = λ i. position (p i) (q i)

-- behind one byte more
behind_more_by : (b : Bool) (xs : List ℕ) (c : ℕ) → is_line_feed c ≡ b
    → position_behind (xs ++ c ∷ []) ≡ cond b (position (line_of xs + 1) 0) (position (line_of xs) (column_of xs + units_at c))
behind_more_by true xs c e =
    same_position (line_of (xs ++ c ∷ [])) (column_of (xs ++ c ∷ [])) (line_of xs + 1) 0
    (line_more xs c ∙ ap (λ (b : Bool). line_of xs + cond b 1 0) e) (column_feed xs c e)
behind_more_by false xs c e =
    same_position (line_of (xs ++ c ∷ [])) (column_of (xs ++ c ∷ [])) (line_of xs) (column_of xs + units_at c)
    (line_more xs c ∙ ap (λ (b : Bool). line_of xs + cond b 1 0) e ∙ omega arith) (column_stays xs c e)

pub behind_more : (text : List ℕ) (i : ℕ) (d : ℕ) (before after : Position) → i < length text → before ≡ position_of text i
    → after ≡ behind_byte before (get_or text i d) → after ≡ position_of text (i + 1)
behind_more text i d before after inside is_before is_after =
    is_after
    ∙ ap (λ (p : Position). behind_byte p (get_or text i d)) is_before
    ∙ sym (behind_more_by (is_line_feed (get_or text i d)) (take i text) (get_or text i d) refl)
    ∙ ap position_behind (sym (take_more text i d inside))

-- ---- bounds

sum_small : (xs : List ℕ) → sum_by units_at xs ≤ 2 * length xs
sum_small [] = omega arith
sum_small (c ∷ xs) = let split = sum_cons c xs in let few = units_few c in omega (arith, split, few, sum_small xs)
  where
    units_few : (c : ℕ) → units_at c ≤ 2
    units_few c = grind arith

pub line_small : (xs : List ℕ) → line_of xs ≤ length xs
unfolding line_of
line_small xs = count_by-le-length is_line_feed xs

pub column_small : (xs : List ℕ) → column_of xs ≤ 2 * length xs
unfolding column_of
column_small xs =
    let small = sum_small (line_back xs) in
    let cut_len = length-take (prefix_len stays (reverse xs)) (reverse xs) in
    let len = length-reverse xs in
    omega (arith, small, cut_len, len)

pub start : (text : List ℕ) → position 0 0 ≡ position_of text 0
unfolding line_of column_of
start text = refl

pub line_within : (text : List ℕ) (i : ℕ) (p : Position) → p ≡ position_of text i → p.line ≤ i
line_within text i p e =
    let same = ap (λ (q : Position). q.line) e in
    let small = line_small (take i text) in
    let len = length-take i text in
    omega (arith, same, small, len)

pub column_within : (text : List ℕ) (i : ℕ) (p : Position) → p ≡ position_of text i → p.column ≤ 2 * i
column_within text i p e =
    let same = ap (λ (q : Position). q.column) e in
    let small = column_small (take i text) in
    let len = length-take i text in
    omega (arith, same, small, len)
