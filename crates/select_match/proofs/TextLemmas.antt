-- Words, prefixes and parts of a text.
use Rattle.std.proofs.Common.{◌≡◌, ℕ, suc, ◌+◌, ◌<◌, ◌≤◌, nat_eq, ◌==◌, Bool, true, false, not, ◌&&◌, List, [], ◌∷◌, ◌++◌, length, drop}
use Rattle.std.proofs.Common.{get_or, refl, sym, ap, ◌∙◌, arith}
use Rattle.std.proofs.lemmas.List.{drop_more}
use Rattle.std.specs.Str.{bytes_eq}
use Rattle.std.specs.List.{list_any, filter, slice_split, starts_with}
use Rattle.std.specs.Char.{is_ascii_whitespace}
use Rattle.std.proofs.lemmas.Bool.{eq-eqb, ne_eqb}
use Rattle.select_match.specs.Texts.{has_no_byte, has_word, has_part}

suc_not_zero : (n : ℕ) → (suc n == 0) ≡ false
suc_not_zero n = ne_eqb (suc n) 0 (λ e. absurd (omega arith))

all_true : (a : Bool) → (a && true) ≡ (true && a)
all_true true = refl
all_true false = refl

and_assoc : (a b c : Bool) → (a && (b && c)) ≡ (a && b && c)
and_assoc true b c = refl
and_assoc false b c = refl

and_true : (a : Bool) → (a && true) ≡ a
and_true true = refl
and_true false = refl

and_false : (a : Bool) → (a && false) ≡ false
and_false true = refl
and_false false = refl

-- a word that is not empty is sought among the pieces that are not
pub any-pieces : (x : ℕ) (word : List ℕ) (pieces : List (List ℕ))
    → list_any (λ w. bytes_eq w (x ∷ word)) (filter (λ piece. not (has_no_byte piece)) pieces)
    ≡ list_any (λ w. bytes_eq w (x ∷ word)) pieces
any-pieces x word [] = refl
any-pieces x word ([] ∷ pieces) = any-pieces x word pieces
any-pieces x word ((b ∷ bs) ∷ pieces) = rw (suc_not_zero (length bs), any-pieces x word pieces) refl

-- the empty text is none of the words
pub any-empty : (pieces : List (List ℕ)) → list_any (λ w. bytes_eq w []) (filter (λ piece. not (has_no_byte piece)) pieces) ≡ false
any-empty [] = refl
any-empty ([] ∷ pieces) = any-empty pieces
any-empty ((b ∷ bs) ∷ pieces) = rw (suc_not_zero (length bs)) (any-empty pieces)

pub some_word : (word text : List ℕ) → (length word == 0) ≡ false
    → list_any (λ w. bytes_eq w word) (slice_split is_ascii_whitespace text) ≡ has_word word text
some_word [] text e = absurd (cc)
some_word (x ∷ word) text e = sym (any-pieces x word (slice_split is_ascii_whitespace text))

pub no_word : (word text : List ℕ) → (length word == 0) ≡ true → false ≡ has_word word text
no_word [] text e = sym (any-empty (slice_split is_ascii_whitespace text))
no_word (x ∷ word) text e = let other : true ≡ false = sym e ∙ suc_not_zero (length word) in absurd (cc)

-- a prefix with one byte more
pub starts_with-push : (operand value : List ℕ) (b : ℕ) → length operand < length value
    → starts_with nat_eq value (operand ++ b ∷ []) ≡ (starts_with nat_eq value operand && nat_eq b (get_or value (length operand) 0))
starts_with-push operand [] b h = absurd (omega arith)
starts_with-push [] (v ∷ value) b h = all_true (nat_eq b v)
starts_with-push (x ∷ operand) (v ∷ value) b h = rw (starts_with-push operand value b (omega arith))
    (and_assoc (nat_eq x v) (starts_with nat_eq value operand) (nat_eq b (get_or value (length operand) 0)))

pub no_dash : (operand value : List ℕ) → length operand < length value → (get_or value (length operand) 0 ≡ 45 → ⊥)
    → false ≡ starts_with nat_eq value (operand ++ 45 ∷ [])
no_dash operand value h other =
    let ne : nat_eq 45 (get_or value (length operand) 0) ≡ false = ne_eqb 45 (get_or value (length operand) 0) (λ e. other (sym e)) in
    sym (starts_with-push operand value 45 h ∙ ap (λ (b : Bool). starts_with nat_eq value operand && b) ne ∙ and_false
    (starts_with nat_eq value operand))

pub dash : (operand value : List ℕ) → length operand < length value → get_or value (length operand) 0 ≡ 45
    → starts_with nat_eq value operand ≡ starts_with nat_eq value (operand ++ 45 ∷ [])
dash operand value h same =
    let is : nat_eq 45 (get_or value (length operand) 0) ≡ true = eq-eqb 45 (get_or value (length operand) 0) (sym same) in
    sym (starts_with-push operand value 45 h ∙ ap (λ (b : Bool). starts_with nat_eq value operand && b) is ∙ and_true
    (starts_with nat_eq value operand))

-- ---- parts

pub has_part-more : (part text : List ℕ) (i : ℕ) → i < length text → starts_with nat_eq (drop i text) part ≡ false
    → has_part part (drop (i + 1) text) ≡ has_part part (drop i text)
has_part-more part text i h no_start = more (drop i text) (drop_more text i 0 h) no_start
  where
    more : (rest : List ℕ) → rest ≡ get_or text i 0 ∷ drop (i + 1) text → starts_with nat_eq rest part ≡ false
        → has_part part (drop (i + 1) text) ≡ has_part part rest
    more [] is e = absurd (cc)
    more (b ∷ bs) is e = let same : drop (i + 1) text ≡ bs = cc in rw (e, same) refl
