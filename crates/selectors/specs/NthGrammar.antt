-- The grammar of an+b, the argument of `:nth-child` and its like (Selectors 3, section 6.6.5.1; CSS Syntax 3, section 6):
-- which step a and which offset b a text says, apart from any order of reading.
use Rattle.std.specs.Prelude.{◌≡◌, ℕ, ℤ, pos, neg_ℤ, ◌+◌, ◌*◌, ◌<◌, ◌≤◌, true, List, [], ◌∷◌, ◌++◌, length, map, codes}
use Rattle.std.specs.List.{list_all}
use Rattle.std.specs.Char.{to_ascii_lowercase}
use Rattle.css_tokens.specs.Codes.{is_white}

-- white space, or nothing
abbrev pub AreWhite : List ℕ → Type 0
AreWhite white = list_all is_white white ≡ true

-- the letters of a word, in any ASCII case
abbrev pub AreLetters : List ℕ → List ℕ → Type 0
AreLetters word letters = map to_ascii_lowercase letters ≡ word

-- decimal digits and the number that they write; no digits write 0 (CSS Syntax 3, section 4.3.13)
pub data Writes : List ℕ → ℕ → Type 0 where
  no_digits : Writes [] 0
  one_more : (front all : List ℕ) (n digit : ℕ) → all ≡ front ++ (48 + digit) ∷ [] → digit ≤ 9 → Writes front n
      → Writes all (10 * n + digit)

-- a number: at least one digit, and at most nine, which is a limit of this project
pub record IsNthNumber (digits : List ℕ) (n : ℕ) : Type 0 where
  pub some : 0 < length digits
  pub at_most_nine : length digits ≤ 9
  pub writes : Writes digits n

-- a sign, and what it makes of a number
pub data IsNthSign : List ℕ → ℕ → ℤ → Type 0 where
  plus : (n : ℕ) → IsNthSign (codes "+") n (pos n)
  minus : (n : ℕ) → IsNthSign (codes "-") n (neg_ℤ (pos n))

-- a number with a sign, which may be missing
pub data MaySign : List ℕ → ℕ → ℤ → Type 0 where
  unsigned : (n : ℕ) → MaySign [] n (pos n)
  with_sign : (sign : List ℕ) (n : ℕ) (z : ℤ) → IsNthSign sign n z → MaySign sign n z

-- an integer: a number, with a sign right before it or without
pub record IsInteger (text : List ℕ) (z : ℤ) : Type 0 where
  pub sign : List ℕ
  pub digits : List ℕ
  pub n : ℕ
  pub whole : text ≡ sign ++ digits
  pub signs : MaySign sign n z
  pub number : IsNthNumber digits n

-- what stands before the `n`: an integer; or no digits, which count as 1, with a sign or without
pub data IsStep : List ℕ → ℤ → Type 0 where
  step_written : (text : List ℕ) (a : ℤ) → IsInteger text a → IsStep text a
  step_one : (sign : List ℕ) (a : ℤ) → MaySign sign 1 a → IsStep sign a

-- what stands behind the `n`: nothing, which counts as 0; or a sign and a number, where white space may stand before both
pub data IsOffset : List ℕ → ℤ → Type 0 where
  offset_zero : IsOffset [] (pos 0)
  offset_written : (before sign between digits text : List ℕ) (n : ℕ) (b : ℤ) → text ≡ before ++ (sign ++ (between ++ digits))
      → AreWhite before → IsNthSign sign n b → AreWhite between → IsNthNumber digits n → IsOffset text b

-- an+b with no white space at its ends: `odd` is 2n+1, `even` is 2n, and an integer is 0n+b
pub data IsFormula : List ℕ → ℤ → ℤ → Type 0 where
  odd : (letters : List ℕ) → AreLetters (codes "odd") letters → IsFormula letters (pos 2) (pos 1)
  even : (letters : List ℕ) → AreLetters (codes "even") letters → IsFormula letters (pos 2) (pos 0)
  constant : (text : List ℕ) (b : ℤ) → IsInteger text b → IsFormula text (pos 0) b
  linear : (step letter offset text : List ℕ) (a b : ℤ) → text ≡ step ++ (letter ++ offset) → IsStep step a → AreLetters (codes "n") letter
      → IsOffset offset b → IsFormula text a b

-- an+b, with white space at its ends or none
pub record IsNth (text : List ℕ) (a b : ℤ) : Type 0 where
  pub before : List ℕ
  pub formula : List ℕ
  pub after : List ℕ
  pub whole : text ≡ before ++ (formula ++ after)
  pub white_before : AreWhite before
  pub white_after : AreWhite after
  pub is_formula : IsFormula formula a b
