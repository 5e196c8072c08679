-- What the laws rest on.
use Rattle.std.proofs.Common.{◌≡◌, ℕ, zero, suc, ◌*◌, ◌/◌, ◌%◌, ◌==◌, ℤ, pos, negsuc, neg_ℤ, ◌+ℤ◌, ◌-ℤ◌, ◌*ℤ◌, Bool, true, false, cond, not}
use Rattle.std.proofs.Common.{◌&&◌, List, [], ◌∷◌, refl, sym, ap, ◌∙◌, arith}
use Rattle.std.proofs.lemmas.Bool.{eq-eqb, eqb-true}
use Rattle.std.proofs.Math.Nat.{mul-mod_right}
use Rattle.std.proofs.lemmas.Int.{ints}
use Rattle.std.proofs.lemmas.Slice.Eq.{bytes_eq-Decides}
use Rattle.std.specs.Str.{bytes_eq}
use Rattle.std.specs.Char.{is_ascii_whitespace}
use Rattle.std.specs.List.{list_any, list_all, filter, slice_split, onto_first}
use Rattle.select_match.specs.Texts.{has_no_byte, has_word}
use Rattle.select_match.specs.Elements.{is_reached, is_nth}

-- ---- an+b

whole_steps : (d a : ℕ) → (d % suc a == 0) ≡ true → d ≡ suc a * (d / suc a)
whole_steps d a e = let none_left : d % suc a ≡ 0 = eqb-true (d % suc a) 0 e in omega arith

reached-some : (a d : ℤ) → is_reached a d ≡ true → (n : ℕ) × (d ≡ a *ℤ pos n)
reached-some (pos zero) (pos d) e = (0, ap pos (eqb-true d 0 e))
reached-some (pos zero) (negsuc d) e = absurd (cc)
reached-some (pos (suc a)) (pos d) e = (d / suc a, ap pos (whole_steps d a e))
reached-some (pos (suc a)) (negsuc d) e = absurd (cc)
reached-some (negsuc a) (pos d) e =
    (0, ap pos (eqb-true d 0 e) ∙ ap (λ k. neg_ℤ (pos k)) (let nothing : 0 ≡ suc a * 0 = omega arith in nothing))
reached-some (negsuc a) (negsuc d) e = (suc d / suc a, ap (λ k. neg_ℤ (pos k)) (whole_steps (suc d) a e))

no_rest : (d a n : ℕ) → d ≡ suc a * n → (d % suc a == 0) ≡ true
no_rest d a n e = eq-eqb (d % suc a) 0 (rw e (mul-mod_right (suc a) n))

pos_of : (d k : ℕ) → pos d ≡ pos k → d ≡ k
pos_of d k e = cc

neg_zero : (d k : ℕ) → pos d ≡ neg_ℤ (pos k) → d ≡ 0
neg_zero d zero e = pos_of d 0 e
neg_zero d (suc k) e = absurd (cc)

neg_suc : (d k : ℕ) → negsuc d ≡ neg_ℤ (pos k) → suc d ≡ k
neg_suc d zero e = absurd (cc)
neg_suc d (suc k) e = let same : d ≡ k = cc in ap suc same

reached-of : (a d : ℤ) (n : ℕ) → d ≡ a *ℤ pos n → is_reached a d ≡ true
reached-of (pos zero) (pos d) n e = let nothing : d ≡ 0 * n = pos_of d (0 * n) e in eq-eqb d 0 (omega arith)
reached-of (pos zero) (negsuc d) n e = absurd (cc)
reached-of (pos (suc a)) (pos d) n e = no_rest d a n (pos_of d (suc a * n) e)
reached-of (pos (suc a)) (negsuc d) n e = absurd (cc)
reached-of (negsuc a) (pos d) n e = eq-eqb d 0 (neg_zero d (suc a * n) e)
reached-of (negsuc a) (negsuc d) n e = no_rest (suc d) a n (neg_suc d (suc a * n) e)

added : (i b x : ℤ) → i -ℤ b ≡ x → i ≡ x +ℤ b
added i b x e = omega (arith, ints)

taken : (i b x : ℤ) → i ≡ x +ℤ b → i -ℤ b ≡ x
taken i b x e = omega (arith, ints)

pub nth-some : (a b : ℤ) (i : ℕ) → is_nth a b i ≡ true → (n : ℕ) × (pos i ≡ (a *ℤ pos n) +ℤ b)
nth-some a b i e = let found = reached-some a (pos i -ℤ b) e in (found.0, added (pos i) b (a *ℤ pos found.0) found.1)

pub nth-of : (a b : ℤ) (i n : ℕ) → pos i ≡ (a *ℤ pos n) +ℤ b → is_nth a b i ≡ true
nth-of a b i n e = reached-of a (pos i -ℤ b) n (taken (pos i) b (a *ℤ pos n) e)

-- ---- words

first_plain : (p : ℕ → Bool) (x : ℕ) (pieces : List (List ℕ)) → p x ≡ false → list_all (λ piece. not (list_any p piece)) pieces ≡ true
    → list_all (λ piece. not (list_any p piece)) (onto_first x pieces) ≡ true
first_plain p x [] e h = rw e refl
first_plain p x (piece ∷ pieces) e h = rw e h

split_step : (p : ℕ → Bool) (x : ℕ) (pieces : List (List ℕ)) → list_all (λ piece. not (list_any p piece)) pieces ≡ true → (b : Bool)
    → p x ≡ b → list_all (λ piece. not (list_any p piece)) (cond b ([] ∷ pieces) (onto_first x pieces)) ≡ true
split_step p x pieces h true e = h
split_step p x pieces h false e = first_plain p x pieces e h

-- no piece has what the text was cut at
pieces-plain : (p : ℕ → Bool) (text : List ℕ) → list_all (λ piece. not (list_any p piece)) (slice_split p text) ≡ true
pieces-plain p [] = refl
pieces-plain p (x ∷ text) = split_step p x (slice_split p text) (pieces-plain p text) (p x) refl

other_word : (p : ℕ → Bool) (word piece : List ℕ) → list_any p word ≡ true → not (list_any p piece) ≡ true → bytes_eq piece word ≡ false
other_word p word piece spaced plain = by (bytes_eq piece word) refl
  where
    by : (b : Bool) → bytes_eq piece word ≡ b → b ≡ false
    by false e = refl
    by true e =
        let same = ap (λ (w : List ℕ). list_any p w) ((bytes_eq-Decides piece word).0 e) in
        let wrong : not true ≡ true = sym (ap not (same ∙ spaced)) ∙ plain in absurd (cc)

and_both : (a b : Bool) → (a && b) ≡ true → (a ≡ true) × (b ≡ true)
and_both true b e = (refl, e)
and_both false b e = absurd (cc)

none_among : (p : ℕ → Bool) (word : List ℕ) (pieces : List (List ℕ)) → list_any p word ≡ true
    → list_all (λ piece. not (list_any p piece)) pieces ≡ true
    → list_any (λ w. bytes_eq w word) (filter (λ piece. not (has_no_byte piece)) pieces) ≡ false
none_among p word [] spaced plain = refl
none_among p word (piece ∷ pieces) spaced plain =
    let both = and_both (not (list_any p piece)) (list_all (λ piece. not (list_any p piece)) pieces) plain in
    kept (not (has_no_byte piece)) (none_among p word pieces spaced both.1) (other_word p word piece spaced both.0)
  where
    kept : (b : Bool) → list_any (λ w. bytes_eq w word) (filter (λ piece. not (has_no_byte piece)) pieces) ≡ false
        → bytes_eq piece word ≡ false
        → list_any (λ w. bytes_eq w word)
        (cond b (piece ∷ filter (λ piece. not (has_no_byte piece)) pieces) (filter (λ piece. not (has_no_byte piece)) pieces)) ≡ false
    kept true rest other = rw (other, rest) refl
    kept false rest other = rest

pub no-spaced_word : (word text : List ℕ) → list_any is_ascii_whitespace word ≡ true → has_word word text ≡ false
no-spaced_word word text spaced = none_among is_ascii_whitespace word (slice_split is_ascii_whitespace text) spaced
    (pieces-plain is_ascii_whitespace text)
