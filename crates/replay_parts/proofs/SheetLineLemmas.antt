-- The lines of the sheets that a front end knows, one after the other.
use Rattle.std.proofs.Common.{◌≡◌, ℕ, zero, suc, ◌+◌, List, [], ◌∷◌, ◌++◌, drop, slice_get, Option, Some, None, option_map, refl, sym, ◌∙◌}
use Rattle.std.proofs.Common.{ap, append_assoc, arith}
use Rattle.node_tree.specs.declared.origins.Origin.{Origin}
use Rattle.front_mirror.specs.declared.sheets.KnownSheet.{KnownSheet}
use Rattle.inspect_world.specs.SheetTexts.{sheet_line, known_line, known_lines}

drop-suc : (xs : List KnownSheet) (i : ℕ) (x : KnownSheet) → slice_get xs i ≡ Some x → drop i xs ≡ x ∷ drop (suc i) xs
drop-suc [] i x e = absurd cc
drop-suc (y ∷ xs) zero x e = let same : y ≡ x = cc in ap (λ w. w ∷ xs) same
drop-suc (y ∷ xs) (suc i) x e = drop-suc xs i x e

turn-by : (o : Option KnownSheet) (old new whole : List ℕ) (xs : List KnownSheet) (i : ℕ) → slice_get xs i ≡ o
    → option_map (λ (s : KnownSheet). old ++ known_line s) o ≡ Some new
    → old ++ known_lines (drop i xs) ≡ whole → new ++ known_lines (drop (i + 1) xs) ≡ whole
turn-by None old new whole xs i is e h = absurd cc
turn-by (Some x) old new whole xs i is e h =
    let one : suc i ≡ i + 1 = omega arith in
    let same : old ++ known_line x ≡ new = cc e in
    ap (λ text. text ++ known_lines (drop (i + 1) xs)) (sym same)
    ∙ append_assoc old (known_line x) (known_lines (drop (i + 1) xs))
    ∙ ap (λ n. old ++ (known_line x ++ known_lines (drop n xs))) (sym one)
    ∙ ap (λ ys. old ++ known_lines ys) (sym (drop-suc xs i x is))
    ∙ h

-- the next line is written
pub lines-turn : (old new whole : List ℕ) (xs : List KnownSheet) (i : ℕ)
    → option_map (λ (s : KnownSheet). old ++ known_line s) (slice_get xs i) ≡ Some new
    → old ++ known_lines (drop i xs) ≡ whole → new ++ known_lines (drop (i + 1) xs) ≡ whole
lines-turn old new whole xs i e h = turn-by (slice_get xs i) old new whole xs i refl e h
