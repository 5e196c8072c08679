-- Lemmas on the lines of an input.
use Rattle.std.proofs.Common.{◌≡◌, ℕ, suc, ◌+◌, ◌<◌, ◌≤◌, List, [], ◌∷◌, length, true, false, cond, not, take, drop, refl, ap, subst, sym}
use Rattle.std.proofs.Common.{◌∙◌, arith, if◌then◌else◌, nat_lt, Option, Some, None, position}
use Rattle.std.specs.List.{list_any, onto_first, position_or_len, before_first, after_first}
use Rattle.sheet_reader.specs.Positions.{is_line_feed}
use Rattle.replay_script.specs.Lines.{lines_of, lines_ended, with_end, LinesLaw}

first_step : (b n : ℕ) (bs : List ℕ) → lines_of bs ≡ take n bs ∷ lines_of (drop (n + 1) bs)
    → onto_first b (lines_of bs) ≡ take (1 + n) (b ∷ bs) ∷ lines_of (drop (1 + n + 1) (b ∷ bs))
first_step b n bs e =
    let one : 1 + n ≡ suc n = omega arith in
    let two : suc n + 1 ≡ suc (n + 1) = omega arith in
    rw (e, one, two) refl

-- the first line ends at the first LF
pub lines_of-first : (bs : List ℕ) → position_or_len is_line_feed bs < length bs
    → lines_of bs ≡ before_first is_line_feed bs ∷ lines_of (after_first is_line_feed bs)
lines_of-first [] h = absurd (omega arith)
lines_of-first (b ∷ bs) h =
    let n : ℕ = position_or_len is_line_feed bs in
    (elim (is_line_feed b) as (λ v. cond (not v) (1 + n) 0 < length (b ∷ bs) → (if v then [] ∷ lines_of bs else onto_first b (lines_of bs))
    ≡ take (cond (not v) (1 + n) 0) (b ∷ bs) ∷ lines_of (drop (cond (not v) (1 + n) 0 + 1) (b ∷ bs))) [
      | true ↦ λ _. refl
      | false ↦ λ k. first_step b n bs (lines_of-first bs (omega arith))
    ]) h

last_step : (b : ℕ) (bs : List ℕ) → (0 < length bs → lines_of bs ≡ bs ∷ []) → onto_first b (lines_of bs) ≡ (b ∷ bs) ∷ []
last_step b [] h = refl
last_step b (c ∷ cs) h = let e : lines_of (c ∷ cs) ≡ (c ∷ cs) ∷ [] = h (omega arith) in ap (onto_first b) e

-- with no LF there is one line
pub lines_of-last : (bs : List ℕ) → 0 < length bs → length bs ≤ position_or_len is_line_feed bs → lines_of bs ≡ bs ∷ []
lines_of-last [] some h = absurd (omega arith)
lines_of-last (b ∷ bs) some h =
    let n : ℕ = position_or_len is_line_feed bs in
    (elim (is_line_feed b) as (λ v. length (b ∷ bs) ≤ cond (not v) (1 + n) 0
    → (if v then [] ∷ lines_of bs else onto_first b (lines_of bs)) ≡ (b ∷ bs) ∷ []) [
      | true ↦ λ k. absurd (omega arith)
      | false ↦ λ k. last_step b bs (λ there. lines_of-last bs there (omega arith))
    ]) h

-- the same where the search for the LF has its answer
pub lines_of-found : (bs : List ℕ) (end : ℕ) → Some end ≡ position is_line_feed bs
    → lines_of bs ≡ take end bs ∷ lines_of (drop (end + 1) bs)
lines_of-found bs end found =
    let n : ℕ = position_or_len is_line_feed bs in
    (elim (nat_lt n (length bs)) as
    (λ v. nat_lt n (length bs) ≡ v → Some end ≡ cond v (Some n) None → lines_of bs ≡ take end bs ∷ lines_of (drop (end + 1) bs)) [
      | true ↦ λ e k. let less : n < length bs = grind arith in let same : end ≡ n = cc in rw same (lines_of-first bs less)
      | false ↦ λ e k. absurd cc
    ]) refl found

pub lines_of-absent : (bs : List ℕ) → 0 < length bs → None ≡ position is_line_feed bs → lines_of bs ≡ bs ∷ []
lines_of-absent bs some absent =
    let n : ℕ = position_or_len is_line_feed bs in
    (elim (nat_lt n (length bs)) as
    (λ v. nat_lt n (length bs) ≡ v → ◌≡◌ {A = Option ℕ} None (cond v (Some n) None) → lines_of bs ≡ bs ∷ []) [
      | true ↦ λ e k. absurd cc
      | false ↦ λ e k. lines_of-last bs some (grind arith)
    ]) refl absent

-- ---- the law

no_line_feed-onto : (b : ℕ) (ls : List (List ℕ)) → is_line_feed b ≡ false → list_any (list_any is_line_feed) ls ≡ false
    → list_any (list_any is_line_feed) (onto_first b ls) ≡ false
no_line_feed-onto b [] e h = simp e refl
no_line_feed-onto b (l ∷ ls) e h = simp e h

no_line_feed : (bs : List ℕ) → list_any (list_any is_line_feed) (lines_of bs) ≡ false
no_line_feed [] = refl
no_line_feed (b ∷ bs) =
    (elim (is_line_feed b) as (λ v. is_line_feed b ≡ v
    → list_any (list_any is_line_feed) (if v then [] ∷ lines_of bs else onto_first b (lines_of bs)) ≡ false) [
      | true ↦ λ e. no_line_feed bs
      | false ↦ λ e. no_line_feed-onto b (lines_of bs) e (no_line_feed bs)
    ]) refl

ended-onto : (b : ℕ) (ls : List (List ℕ)) (x : ℕ) (xs : List ℕ) → lines_ended ls ≡ x ∷ xs → lines_ended (onto_first b ls) ≡ b ∷ x ∷ xs
ended-onto b [] x xs h = absurd cc
ended-onto b (l ∷ ls) x xs h = ap (λ t. b ∷ t) h

-- bytes that are some end in some
with_end-some : (c : ℕ) (more : List ℕ) → (x : ℕ) × (xs : List ℕ) × (with_end (c ∷ more) ≡ x ∷ xs)
with_end-some c [] = elim (is_line_feed c) as
    (λ v. (x : ℕ) × (xs : List ℕ) × ((if v then c ∷ [] else c ∷ 10 ∷ []) ≡ x ∷ xs)) [ true ↦ (c, [], refl) | false ↦ (c, 10 ∷ [], refl) ]
with_end-some c (d ∷ more) = (c, with_end (d ∷ more), refl)

whole-feed : (bs : List ℕ) → lines_ended (lines_of bs) ≡ with_end bs → 10 ∷ lines_ended (lines_of bs) ≡ with_end (10 ∷ bs)
whole-feed [] h = refl
whole-feed (c ∷ more) h = ap (λ t. 10 ∷ t) h

whole-other : (b : ℕ) (bs : List ℕ) → is_line_feed b ≡ false → lines_ended (lines_of bs) ≡ with_end bs
    → lines_ended (onto_first b (lines_of bs)) ≡ with_end (b ∷ bs)
whole-other b [] e h = simp e refl
whole-other b (c ∷ more) e h =
    let some = with_end-some c more in
    ended-onto b (lines_of (c ∷ more)) some.0 some.1 (h ∙ some.2) ∙ ap (λ t. b ∷ t) (sym some.2)

eq-from-eqb : {b : ℕ} → is_line_feed b ≡ true → b ≡ 10
eq-from-eqb e = grind arith

whole : (bs : List ℕ) → lines_ended (lines_of bs) ≡ with_end bs
whole [] = refl
whole (b ∷ bs) =
    (elim (is_line_feed b) as (λ v. is_line_feed b ≡ v
    → lines_ended (if v then [] ∷ lines_of bs else onto_first b (lines_of bs)) ≡ with_end (b ∷ bs)) [
      | true ↦ λ e. subst (λ (x : ℕ). 10 ∷ lines_ended (lines_of bs) ≡ with_end (x ∷ bs)) (sym (eq-from-eqb e)) (whole-feed bs (whole bs))
      | false ↦ λ e. whole-other b bs e (whole bs)
    ]) refl

pub lines_law : LinesLaw
lines_law input = record { no_line_feed = no_line_feed input; whole = whole input }
