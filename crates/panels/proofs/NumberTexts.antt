-- The line of some numbers tells them.
use Rattle.std.proofs.Common.{◌≡◌, ℕ, ◌<◌, ◌^◌, List, [], ◌∷◌, ◌++◌, refl, sym, ◌∙◌, arith, append_assoc, decimal}
use Rattle.std.specs.Prelude.{codes}
use Rattle.std.specs.Str.Parse.{AllDigits}
use Rattle.std.proofs.lemmas.Str.Parse.{digit_from_value}
use Rattle.std.proofs.lemmas.Fmt.{decimal_is_IsNumeral, decimal_injective}
use Rattle.front_mirror.specs.Panels.{Numbers, numbers_text}
use Rattle.panels.specs.Numbers.{AreSmall}
use Rattle.panels.proofs.NumberLemmas.{same_numbers}

same_rest : (v s t : List ℕ) → v ++ s ≡ v ++ t → s ≡ t
same_rest [] s t e = e
same_rest (x ∷ v) s t e = let h : v ++ s ≡ v ++ t = cc in same_rest v s t h

-- digits end before the first byte that is none
cut : (b : ℕ) → b < 48 → (xs ys s t : List ℕ) → AllDigits 10 xs → AllDigits 10 ys → xs ++ (b ∷ s) ≡ ys ++ (b ∷ t) → (xs ≡ ys) × (s ≡ t)
cut b l [] [] s t d f e = let h : s ≡ t = cc in (refl, h)
cut b l [] (y ∷ ys) s t d f e = let h : b ≡ y = cc in absurd (omega (arith, digit_from_value y f.0))
cut b l (x ∷ xs) [] s t d f e = let h : x ≡ b = cc in absurd (omega (arith, digit_from_value x d.0))
cut b l (x ∷ xs) (y ∷ ys) s t d f e =
    let h : x ≡ y = cc in
    let k : xs ++ (b ∷ s) ≡ ys ++ (b ∷ t) = cc in
    let r = cut b l xs ys s t d.1 f.1 k in
    ((λ i. h i ∷ r.0 i), r.1)

-- a number, and what stands behind it after some word
number_rest : (b : ℕ) → b < 48 → (v s t : List ℕ) (m n : ℕ) → m < 2 ^ 64 → n < 2 ^ 64
    → decimal m ++ (b ∷ (v ++ s)) ≡ decimal n ++ (b ∷ (v ++ t)) → (m ≡ n) × (s ≡ t)
number_rest b l v s t m n p q e =
    let r = cut b l (decimal m) (decimal n) (v ++ s) (v ++ t) (decimal_is_IsNumeral m p).0.1 (decimal_is_IsNumeral n q).0.1 e in
    (decimal_injective m n p q r.0, same_rest v s t r.1)

-- the line from its front
line_from : (a b c d e : ℕ) → List ℕ
line_from a b c d e =
    codes "elements " ++ (decimal a ++ (32 ∷ (codes "texts " ++ (decimal b ++ (32 ∷ (codes "comments " ++ (decimal c
    ++ (32 ∷ (codes "doctypes " ++ (decimal d ++ (32 ∷ (codes "unopened " ++ (decimal e ++ (10 ∷ ([] ++ [])))))))))))))))

parts : (p q r s w a b c d e z : List ℕ) → p ++ a ++ q ++ b ++ r ++ c ++ s ++ d ++ w ++ e ++ z
    ≡ p ++ (a ++ (q ++ (b ++ (r ++ (c ++ (s ++ (d ++ (w ++ (e ++ z)))))))))
parts p q r s w a b c d e z = simp append_assoc

text_from : (n : Numbers) → numbers_text n ≡ line_from n.elements n.texts n.comments n.doctypes n.unopened
unfolding line_from
text_from n =
    parts (codes "elements ") (codes " texts ") (codes " comments ") (codes " doctypes ") (codes " unopened ") (decimal n.elements)
    (decimal n.texts) (decimal n.comments) (decimal n.doctypes) (decimal n.unopened) (10 ∷ [])

pub text_tells : (n m : Numbers) → AreSmall n → AreSmall m → numbers_text n ≡ numbers_text m → n ≡ m
unfolding line_from
text_tells n m p q e =
    let a = number_rest 32 (omega arith) (codes "texts ") _ _ n.elements m.elements p.elements q.elements
    (same_rest (codes "elements ") _ _ (sym (text_from n) ∙ e ∙ text_from m)) in
    let b = number_rest 32 (omega arith) (codes "comments ") _ _ n.texts m.texts p.texts q.texts a.1 in
    let c = number_rest 32 (omega arith) (codes "doctypes ") _ _ n.comments m.comments p.comments q.comments b.1 in
    let d = number_rest 32 (omega arith) (codes "unopened ") _ _ n.doctypes m.doctypes p.doctypes q.doctypes c.1 in
    let f = number_rest 10 (omega arith) [] [] [] n.unopened m.unopened p.unopened q.unopened d.1 in
    same_numbers n m a.0 b.0 c.0 d.0 f.0
