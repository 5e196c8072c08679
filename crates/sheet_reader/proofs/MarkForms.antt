-- Positions only ascend, and what stands behind an edit moves with its end.
use Rattle.std.proofs.Common.{◌≡◌, ℕ, zero, suc, ◌+◌, ◌-◌, ◌<◌, ◌≤◌, ◌⊎◌, inl, inr, Bool, true, false, cond, ◌==◌, ◌&&◌, ◌||◌, List}
use Rattle.std.proofs.Common.{[], ◌∷◌, ◌++◌, length, take, drop, get_or, refl, sym, ap, ◌∙◌, subst, arith}
use Rattle.std.specs.Prelude.{nat_lt}
use Rattle.std.specs.Str.{IsCharBoundary}
use Rattle.std.proofs.lemmas.Bool.{eqb-true, eqb-false, cases_lt}
use Rattle.sheet_reader.specs.declared.marks.Mark.{Mark}
use Rattle.sheet_reader.specs.declared.place.Position.{Position}
use Rattle.sheet_reader.specs.Marks.{IsMark, AreMarks, IsFront, is_before, moved_position, moved_mark, CanMoveMark}
use Rattle.sheet_reader.specs.Positions.{is_line_feed, units_at, position, position_of, behind_byte}
use Rattle.sheet_reader.proofs.PositionLemmas.{behind_more}

-- a position not behind another one
abbrev pub Reaches : Position → Position → Type 0
Reaches p q = (p.line < q.line) ⊎ ((p.line ≡ q.line) × (p.column ≤ q.column))

one_behind : (p : Position) (c : ℕ) (b : Bool) → is_line_feed c ≡ b → Reaches p (behind_byte p c)
one_behind p c true e =
    subst (λ (x : Bool). Reaches p (cond x (position (p.line + 1) 0) (position p.line (p.column + units_at c)))) (sym e) (inl (omega arith))
one_behind p c false e =
    subst (λ (x : Bool). Reaches p (cond x (position (p.line + 1) 0) (position p.line (p.column + units_at c)))) (sym e)
    (inr (refl, omega arith))

reaches_on : (p q r : Position) → Reaches p q → Reaches q r → Reaches p r
reaches_on p q r (inl a) (inl b) = inl (omega (arith, a, b))
reaches_on p q r (inl a) (inr b) = inl (omega (arith, a, b.0))
reaches_on p q r (inr a) (inl b) = inl (omega (arith, a.0, b))
reaches_on p q r (inr a) (inr b) = inr (a.0 ∙ b.0, omega (arith, a.1, b.1))

-- the position behind one byte more
pub next_position : (text : List ℕ) (i : ℕ) → i < length text
    → behind_byte (position_of text i) (get_or text i 0) ≡ position_of text (i + 1)
next_position text i inside =
    behind_more text i 0 (position_of text i) (behind_byte (position_of text i) (get_or text i 0)) inside refl refl

ascend_by : (text : List ℕ) (i n : ℕ) → i + n ≤ length text → Reaches (position_of text i) (position_of text (i + n))
ascend_by text i zero inside =
    let e : i ≡ i + 0 = omega arith in
    subst (λ k. Reaches (position_of text i) (position_of text k)) e (inr (refl, omega arith))
ascend_by text i (suc n) inside =
    let e : (i + n) + 1 ≡ i + suc n = omega arith in
    subst (λ k. Reaches (position_of text i) (position_of text k)) e
    (subst (Reaches (position_of text i)) (next_position text (i + n) (omega arith))
    (reaches_on (position_of text i) (position_of text (i + n)) (behind_byte (position_of text (i + n)) (get_or text (i + n) 0))
    (ascend_by text i n (omega arith))
    (one_behind (position_of text (i + n)) (get_or text (i + n) 0) (is_line_feed (get_or text (i + n) 0)) refl)))

-- positions only ascend
pub ascend : (text : List ℕ) (i k : ℕ) → i ≤ k → k ≤ length text → Reaches (position_of text i) (position_of text k)
ascend text i k within inside =
    let e : i + (k - i) ≡ k = omega arith in
    subst (λ n. Reaches (position_of text i) (position_of text n)) e (ascend_by text i (k - i) (omega arith))

-- what is before a position does not reach back from it
before_parts : (p q : Position) → is_before p q ≡ true → (p.line < q.line) ⊎ ((p.line ≡ q.line) × (p.column < q.column))
before_parts p q e = by (nat_lt p.line q.line) refl (p.line == q.line) refl
  where
    by : (a : Bool) → nat_lt p.line q.line ≡ a → (b : Bool) → (p.line == q.line) ≡ b
        → (p.line < q.line) ⊎ ((p.line ≡ q.line) × (p.column < q.column))
    by true ea b eb = inl (grind (arith, ea))
    by false ea true eb = inr (eqb-true p.line q.line eb, grind (arith, e, ea, eb))
    by false ea false eb = absurd (grind (arith, e, ea, eb))

-- a position before another one is not reached by it
pub not_back : (p q : Position) → is_before p q ≡ true → Reaches q p → ⊥
not_back p q e r = by (before_parts p q e) r
  where
    by : (p.line < q.line) ⊎ ((p.line ≡ q.line) × (p.column < q.column)) → Reaches q p → ⊥
    by (inl a) (inl b) = omega (arith, a, b)
    by (inl a) (inr b) = omega (arith, a, b.0)
    by (inr a) (inl b) = omega (arith, a.0, b)
    by (inr a) (inr b) = omega (arith, a.0, a.1, b.0, b.1)

-- no byte before a mark has a position that is behind the mark
pub none_before_front : (text : List ℕ) (m : Mark) (wanted : Position) → IsMark text m → IsFront wanted m → (k : ℕ) → k < m.byte
    → position_of text k ≡ wanted → ⊥
none_before_front text m wanted is (inl zero_byte) k below there = absurd (omega (arith, below, zero_byte))
none_before_front text m wanted is (inr before) k below there =
    not_back m.place wanted before
    (subst (Reaches wanted) (sym is.place)
    (subst (λ p. Reaches p (position_of text m.byte)) there (ascend text k m.byte (omega (arith, below)) is.inside)))

-- no byte from one on has a position that is before that of this byte
pub none_behind : (text : List ℕ) (byte : ℕ) (place wanted : Position) → place ≡ position_of text byte → is_before wanted place ≡ true
    → (k : ℕ) → byte ≤ k → k ≤ length text → position_of text k ≡ wanted → ⊥
none_behind text byte place wanted is before k low inside there =
    not_back wanted place before
    (subst (λ p. Reaches p wanted) (sym is) (subst (Reaches (position_of text byte)) there (ascend text byte k low inside)))

-- no edge of a character has a position that is not found from a mark up to a byte which is behind it, or at the text's end
pub none_from : (text : List ℕ) (byte : ℕ) (place wanted : Position) → place ≡ position_of text byte
    → ((j : ℕ) → j < byte → IsCharBoundary text j → position_of text j ≡ wanted → ⊥)
    → (is_before wanted place ≡ true) ⊎ (length text ≤ byte)
    → (IsCharBoundary text byte → place ≡ wanted → ⊥)
    → (k : ℕ) → IsCharBoundary text k → position_of text k ≡ wanted → ⊥
none_from text byte place wanted is before ends here k edge there = by (cases_lt k byte) ends
  where
    by : (k < byte) ⊎ (byte ≤ k) → (is_before wanted place ≡ true) ⊎ (length text ≤ byte) → ⊥
    by (inl less) ends = before k less edge there
    by (inr least) (inl behind) = none_behind text byte place wanted is behind k least edge.0 there
    by (inr least) (inr over) =
        let e : k ≡ byte = omega (arith, edge.0) in
        here (subst (IsCharBoundary text) e edge) (is ∙ ap (position_of text) (sym e) ∙ there)
