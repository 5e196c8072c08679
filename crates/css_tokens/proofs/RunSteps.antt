-- Runs, a unit at a time.
use Rattle.std.proofs.Common.{◌≡◌, ℕ, zero, suc, ◌+◌, ◌-◌, ◌<◌, ◌≤◌, List, [], ◌∷◌, length, drop, take, refl, ap, arith}
use Rattle.std.proofs.lemmas.List.{drop-drop, length-drop, take_all}
use Rattle.css_tokens.specs.Runs.{run, run_after}

run_after_skip : (unit : List ℕ → ℕ) (skip : ℕ) (text : List ℕ) → skip ≤ length text
    → run_after unit skip text ≡ skip + run unit (drop skip text)
unfolding run_after
run_after_skip unit zero text fits = omega arith
run_after_skip unit (suc skip) [] fits = absurd (omega arith)
run_after_skip unit (suc skip) (c ∷ rest) fits = let more : run_after unit skip rest
    ≡ skip + run unit (drop skip rest) = run_after_skip unit skip rest (omega arith) in omega arith

-- a text that goes on with a unit
pub run_more : (unit : List ℕ → ℕ) (text : List ℕ) (n : ℕ) → unit text ≡ n → 0 < n → n ≤ length text
    → run unit text ≡ n + run unit (drop n text)
unfolding run_after
run_more unit [] n is some fits = absurd (omega arith)
run_more unit (c ∷ rest) zero is some fits = absurd (omega arith)
run_more unit (c ∷ rest) (suc n) is some fits =
    let more : run_after unit n rest ≡ n + run unit (drop n rest) = run_after_skip unit n rest (omega arith) in
    rw is (omega arith)

-- a text that goes on with none
pub run_none : (unit : List ℕ → ℕ) (text : List ℕ) → unit text ≡ 0 → run unit text ≡ 0
unfolding run_after
run_none unit [] is = refl
run_none unit (c ∷ rest) is = rw is refl

-- a slice to a text's end
pub between_to_end : (text : List ℕ) (from end : ℕ) → end ≡ length text → take (end - from) (drop from text) ≡ drop from text
between_to_end text from end is = take_all (end - from) (drop from text) (omega (arith, length-drop from text))

-- a loop's step over a unit, and its end
pub run_more_from : (unit : List ℕ → ℕ) (text : List ℕ) (at n all : ℕ) → unit (drop at text) ≡ n → 0 < n → at + n ≤ length text
    → at + run unit (drop at text) ≡ all → at + n + run unit (drop (at + n) text) ≡ all
run_more_from unit text at n all is some fits so_far =
    let more : run unit (drop at text)
    ≡ n + run unit (drop n (drop at text)) = run_more unit (drop at text) n is some (omega (arith, length-drop at text)) in
    let place : drop n (drop at text) ≡ drop (at + n) text = drop-drop n at text in
    let same : run unit (drop n (drop at text)) ≡ run unit (drop (at + n) text) = ap (run unit) place in
    omega arith

pub run_ends_at : (unit : List ℕ → ℕ) (text : List ℕ) (at all : ℕ) → unit (drop at text) ≡ 0 → at + run unit (drop at text) ≡ all → at ≡ all
run_ends_at unit text at all is so_far = let none : run unit (drop at text) ≡ 0 = run_none unit (drop at text) is in omega arith
