-- The lines of a drill: what each is, how many there are, and that each may be carried out.
use Rattle.std.proofs.Common.{◌≡◌, ℕ, suc, ◌+◌, ◌-◌, ◌<◌, ◌≤◌, ◌%◌, min, ◌&&◌, nat_le}
use Rattle.std.proofs.Common.{Bool, true, false, [], ◌∷◌, ◌++◌}
use Rattle.std.proofs.Common.{refl, sym, ap, ◌∙◌, arith}
use Rattle.std.proofs.lemmas.Bool.Decides.{nat_tests}
use Rattle.std.specs.Prelude.{◌≢◌, Result, Ok, Err, IfOk}
use Rattle.std.specs.declared.alloc.AllocError.{AllocError}
use Rattle.replay_script.specs.Forms.{LineForm, settle, up, down}
use Rattle.replay_script.specs.Seen.{seen}
use Rattle.replay_script.specs.declared.forms.Line.{Line}
use Rattle.drill_script.specs.declared.course.Course.{Course}
use Rattle.drill_script.specs.Draws.{next_number, drawn}
use Rattle.drill_script.specs.DrillLines.{puts_text, left_of, turn_lines, after_turn, turns, turns_from, most_turns}
use Rattle.drill_script.specs.Given.{is_drill}

-- ---- numbers of divs

divs-test : (n : ℕ) (a b : Bool) → (a && b) ≡ true → (a ≡ true) × (b ≡ true)
divs-test n true true e = (refl, refl)
divs-test n true false e = absurd cc
divs-test n false b e = absurd cc

-- a drill has a div
pub divs-some : (n : ℕ) → is_drill n ≡ true → 0 < n
divs-some n h = let t = (divs-test n (nat_le 1 n) (nat_le n 50000) h).0 in grind (arith, nat_tests)

-- and at most 50,000
pub divs-few : (n : ℕ) → is_drill n ≡ true → n ≤ 50000
divs-few n h = let t = (divs-test n (nat_le 1 n) (nat_le n 50000) h).1 in grind (arith, nat_tests)

-- ---- the turns

-- the turn of a number
pub turns-next : (divs r x k : ℕ) → r % 4 ≡ k → r < min divs most_turns
    → turns_from divs r x ≡ turn_lines k divs x ++ turns_from divs (r + 1) (after_turn k x)
turns-next divs r x k e h =
    let left : min divs most_turns - r ≡ suc (min divs most_turns - (r + 1)) = omega arith in
    ap (λ n. turns divs n r x) left
    ∙ ap (λ j. turn_lines j divs x ++ turns divs (min divs most_turns - (r + 1)) (r + 1) (after_turn j x)) e

-- a turn of one line, as code carries it out
pub turn-is : (result : Result Line AllocError) (divs r x k : ℕ) (line : LineForm) (now : Course) → r % 4 ≡ k → r < min divs most_turns
    → turn_lines k divs x ≡ line ∷ [] → IfOk result (λ l. seen l ≡ line) → left_of now ≡ turns_from divs (r + 1) (after_turn k x)
    → IfOk result (λ l. turns_from divs r x ≡ seen l ∷ left_of now)
turn-is (Err e) divs r x k line now is low one said left = tt
turn-is (Ok l) divs r x k line now is low one said left =
    turns-next divs r x k is low ∙ ap (λ ls. ls ++ turns_from divs (r + 1) (after_turn k x)) one
    ∙ ap (λ f. f ∷ turns_from divs (r + 1) (after_turn k x)) (sym said) ∙ ap (λ ls. seen l ∷ ls) (sym left)

-- the turn of three lines
pub turn-three : (result : Result Line AllocError) (divs r x : ℕ) → r % 4 ≡ 3 → r < min divs most_turns
    → IfOk result (λ l. seen l ≡ puts_text)
    → IfOk result (λ l. turns_from divs r x
    ≡ seen l ∷ up (drawn x 64) ∷ down (drawn (next_number x) 4096) ∷ turns_from divs (r + 1) (next_number (next_number x)))
turn-three (Err e) divs r x is low said = tt
turn-three (Ok l) divs r x is low said =
    turns-next divs r x 3 is low
    ∙ ap (λ f. f ∷ up (drawn x 64) ∷ down (drawn (next_number x) 4096) ∷ turns_from divs (r + 1) (next_number (next_number x))) (sym said)
