-- Each character counts its UTF-16 units, and no two edges of characters have one position.
use Rattle.std.proofs.Common.{◌≡◌, ◌⊎◌, inl, inr, ℕ, zero, suc, ◌+◌, ◌-◌, ◌/◌, ◌%◌, ◌<◌, ◌≤◌, Bool, true, false, cond, ltb, List, [], ◌∷◌}
use Rattle.std.proofs.Common.{length, take, get_or, refl, sym, ap, subst, ◌∙◌, arith}
use borrow.Author.Tests.{ltb-true, ltb-false}
use Rattle.std.specs.Char.{encode_utf8}
use Rattle.std.specs.List.{sum_by}
use Rattle.std.specs.Str.{IsCharBoundary}
use Rattle.std.proofs.lemmas.List.{take_more}
use Rattle.sheet_reader.specs.declared.place.Position.{Position}
use Rattle.sheet_reader.specs.Positions.{is_line_feed, units_at, units_of, line_of, column_of, position_of}
use Rattle.sheet_reader.proofs.PositionLemmas.{line_more, column_stays}

low : (d : ℕ) → d < 128 → units_at d ≡ 1
low d h = grind arith

later : (d : ℕ) → 128 ≤ d → d < 192 → units_at d ≡ 0
later d h k = grind arith

middle : (d : ℕ) → 192 ≤ d → d < 240 → units_at d ≡ 1
middle d h k = grind arith

high : (d : ℕ) → 240 ≤ d → units_at d ≡ 2
high d h = grind arith

abbrev next : ℕ → ℕ
next bits = 128 + bits % 64

follows : (bits : ℕ) → units_at (next bits) ≡ 0
follows bits = later (next bits) (omega arith) (omega arith)

char_by : (c : ℕ) (x y z : Bool) → ltb c 128 ≡ x → ltb c 2048 ≡ y → ltb c 65536 ≡ z
    → sum_by units_at (cond x (c ∷ [])
    (cond y ((192 + c / 64) ∷ next c ∷ [])
    (cond z ((224 + c / 4096) ∷ next (c / 64) ∷ next c ∷ []) ((240 + c / 262144) ∷ next (c / 4096) ∷ next (c / 64) ∷ next c ∷ []))))
    ≡ cond z 1 2
char_by c true y true a b e = let one = low c (ltb-true c 128 a) in omega (arith, one)
char_by c true y false a b e = absurd (omega (arith, ltb-true c 128 a, ltb-false c 65536 e))
char_by c false true true a b e =
    let small = ltb-true c 2048 b in
    let one = middle (192 + c / 64) (omega arith) (omega (arith, small)) in
    let none = follows c in
    omega (arith, one, none)
char_by c false true false a b e = absurd (omega (arith, ltb-true c 2048 b, ltb-false c 65536 e))
char_by c false false true a b e =
    let small = ltb-true c 65536 e in
    let one = middle (224 + c / 4096) (omega arith) (omega (arith, small)) in
    let none = follows c in
    let none_too = follows (c / 64) in
    omega (arith, one, none, none_too)
char_by c false false false a b e =
    let two = high (240 + c / 262144) (omega arith) in
    let none = follows c in
    let none_too = follows (c / 64) in
    let none_three = follows (c / 4096) in
    omega (arith, two, none, none_too, none_three)

pub char_units : (c : ℕ) → sum_by units_at (encode_utf8 c) ≡ units_of c
unfolding encode_utf8
char_units c = char_by c (ltb c 128) (ltb c 2048) (ltb c 65536) refl refl refl

-- ---- no two edges have one position

-- the second byte's position lies behind the first one's
Past : List ℕ → ℕ → ℕ → Type 0
Past text b k = (line_of (take b text) < line_of (take k text))
    ⊎ ((line_of (take b text) ≡ line_of (take k text)) × (column_of (take b text) < column_of (take k text)))

line_step : (text : List ℕ) (i : ℕ) → i < length text
    → line_of (take (i + 1) text) ≡ line_of (take i text) + cond (is_line_feed (get_or text i 0)) 1 0
line_step text i inside = ap line_of (take_more text i 0 inside) ∙ line_more (take i text) (get_or text i 0)

stays_step : (text : List ℕ) (i : ℕ) → i < length text → is_line_feed (get_or text i 0) ≡ false
    → column_of (take (i + 1) text) ≡ column_of (take i text) + units_at (get_or text i 0)
stays_step text i inside e = ap column_of (take_more text i 0 inside) ∙ column_stays (take i text) (get_or text i 0) e

some_units : (c : ℕ) → (128 ≤ c → 192 ≤ c) → 0 < units_at c
some_units c edge = by (ltb c 128) refl
  where
    by : (x : Bool) → ltb c 128 ≡ x → 0 < units_at c
    by true e = let one = low c (ltb-true c 128 e) in omega (arith, one)
    by false e = beyond (ltb c 240) refl (edge (ltb-false c 128 e))
      where
        beyond : (y : Bool) → ltb c 240 ≡ y → 192 ≤ c → 0 < units_at c
        beyond true e two = let one = middle c two (ltb-true c 240 e) in omega (arith, one)
        beyond false e two = let own = high c (ltb-false c 240 e) in omega (arith, own)

past_first : (text : List ℕ) (b : ℕ) → b < length text → IsCharBoundary text b → Past text b (b + 1)
unfolding Past
past_first text b inside edge = by (is_line_feed (get_or text b 0)) refl
  where
    by : (x : Bool) → is_line_feed (get_or text b 0) ≡ x → Past text b (b + 1)
    by true e = let more = line_step text b inside ∙ ap (λ (x : Bool). line_of (take b text) + cond x 1 0) e in inl (omega (arith, more))
    by false e =
        let more = line_step text b inside ∙ ap (λ (x : Bool). line_of (take b text) + cond x 1 0) e in
        let columns = stays_step text b inside e in
        let some = some_units (get_or text b 0) (edge.1 inside) in
        inr (omega (arith, more), omega (arith, columns, some))

past_more : (text : List ℕ) (b k : ℕ) → k < length text → Past text b k → Past text b (k + 1)
unfolding Past
past_more text b k inside past = by (is_line_feed (get_or text k 0)) refl past
  where
    by : (x : Bool) → is_line_feed (get_or text k 0) ≡ x → Past text b k → Past text b (k + 1)
    by true e (inl less) = let more = line_step text k inside in inl (omega (arith, more, less))
    by true e (inr same) = let more = line_step text k inside ∙ ap (λ (x : Bool). line_of (take k text) + cond x 1 0) e in inl
        (omega (arith, more, same.0))
    by false e (inl less) = let more = line_step text k inside in inl (omega (arith, more, less))
    by false e (inr same) =
        let more = line_step text k inside ∙ ap (λ (x : Bool). line_of (take k text) + cond x 1 0) e in
        let columns = stays_step text k inside e in
        inr (omega (arith, more, same.0), omega (arith, columns, same.1))

past_by : (text : List ℕ) (b n : ℕ) → b + 1 + n ≤ length text → IsCharBoundary text b → Past text b (b + 1 + n)
past_by text b zero fits edge = let same : b + 1 + zero
    ≡ b + 1 = omega arith in subst (Past text b) (sym same) (past_first text b (omega (arith, fits)) edge)
past_by text b (suc n) fits edge =
    let same : b + 1 + suc n ≡ b + 1 + n + 1 = omega arith in
    subst (Past text b) (sym same) (past_more text b (b + 1 + n) (omega (arith, fits)) (past_by text b n (omega (arith, fits)) edge))

apart : (text : List ℕ) (b k : ℕ) → b < k → IsCharBoundary text b → IsCharBoundary text k → position_of text b ≡ position_of text k → ⊥
unfolding Past
apart text b k less edge edge_too same =
    let count : b + 1 + (k - (b + 1)) ≡ k = omega (arith, less) in
    by (subst (Past text b) count (past_by text b (k - (b + 1)) (omega (arith, less, edge_too.0)) edge))
  where
    by : Past text b k → ⊥
    by (inl lines) = let e = ap (λ (p : Position). p.line) same in omega (arith, lines, e)
    by (inr columns) = let e = ap (λ (p : Position). p.column) same in omega (arith, columns.1, e)

pub one_place : (text : List ℕ) (b k : ℕ) → IsCharBoundary text b → IsCharBoundary text k → position_of text b ≡ position_of text k → b ≡ k
one_place text b k edge edge_too same = by (ltb b k) (ltb k b) refl refl
  where
    by : (x y : Bool) → ltb b k ≡ x → ltb k b ≡ y → b ≡ k
    by true y e f = absurd (apart text b k (ltb-true b k e) edge edge_too same)
    by false true e f = absurd (apart text k b (ltb-true k b f) edge_too edge (sym same))
    by false false e f = omega (arith, ltb-false b k e, ltb-false k b f)
