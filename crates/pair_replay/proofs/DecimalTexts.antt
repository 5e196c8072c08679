-- The digits of a number are UTF-8, however many the number would need.
use Rattle.std.proofs.Common.{ℕ, zero, suc, ◌+◌, ◌/◌, ◌%◌, ◌<◌, ◌==◌, Bool, true, false, cond, List, [], ◌∷◌, IsUtf8, IsAscii, decimal}
use Rattle.std.proofs.Common.{arith, nat_lt, refl}
use Rattle.std.specs.Fmt.{digits, digits_onto, digit_glyph}
use Rattle.std.proofs.lemmas.Str.{IsUtf8-from_ascii, IsUtf8-append}
use Rattle.json.proofs.Printed.Utf8.{IsUtf8-are_ascii}

glyph-ascii : (b : Bool) (d : ℕ) → d < 10 → IsAscii (cond b (48 + d) (87 + d) ∷ [])
glyph-ascii true d small zero = omega (arith, small)
glyph-ascii true d small (suc i) = omega arith
glyph-ascii false d small zero = omega (arith, small)
glyph-ascii false d small (suc i) = omega arith

glyph-utf8 : (d : ℕ) → d < 10 → IsUtf8 (digit_glyph false d ∷ [])
glyph-utf8 d small = IsUtf8-from_ascii (digit_glyph false d ∷ []) (glyph-ascii (nat_lt d 10) d small)

either : (b : Bool) (xs ys : List ℕ) → IsUtf8 xs → IsUtf8 ys → IsUtf8 (cond b xs ys)
either true xs ys p q = p
either false xs ys p q = q

onto-utf8 : (k n : ℕ) (acc : List ℕ) → IsUtf8 acc → IsUtf8 (digits_onto k 10 false n acc)
onto-utf8 zero n acc u = u
onto-utf8 (suc k) n acc u =
    let one : IsUtf8 (digit_glyph false (n % 10) ∷ acc) =
    IsUtf8-append (digit_glyph false (n % 10) ∷ []) acc (glyph-utf8 (n % 10) (omega arith)) u in
    either (n / 10 == 0) (digit_glyph false (n % 10) ∷ acc) (digits_onto k 10 false (n / 10) (digit_glyph false (n % 10) ∷ acc)) one
    (onto-utf8 k (n / 10) (digit_glyph false (n % 10) ∷ acc) one)

pub decimal-utf8 : (n : ℕ) → IsUtf8 (decimal n)
unfolding digits
decimal-utf8 n = onto-utf8 64 n [] (IsUtf8-are_ascii [] refl)
