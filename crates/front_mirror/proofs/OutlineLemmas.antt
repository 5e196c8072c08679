-- Lines that are written piece by piece.
use Rattle.std.specs.List.{list_all}
use Rattle.std.proofs.lemmas.Bool.Decides.{nat_tests}
use Rattle.std.proofs.Common.{◌≡◌, ◌≢◌, ℕ, zero, suc, ◌+◌, true, arith, List, [], ◌∷◌, ◌++◌, refl, ap, append_assoc, add-one}
use Rattle.node_tree.specs.Nodes.{Nodes, none, node}
use Rattle.node_tree.specs.Seen.{Seen}
use Rattle.json.specs.Print.{escape, escape_byte}
use Rattle.front_mirror.specs.Outline.{is_plain_byte, quoted, indent, lines_at, seen_line, outline_text}

indent-suc : (n : ℕ) → indent n ++ 32 ∷ 32 ∷ [] ≡ 32 ∷ 32 ∷ indent n
indent-suc zero = refl
indent-suc (suc n) = ap (λ (spaces : List ℕ). 32 ∷ 32 ∷ spaces) (indent-suc n)

-- two spaces more are one level more
pub indent_more : (out : List ℕ) (n : ℕ) → (out ++ indent n) ++ 32 ∷ 32 ∷ [] ≡ out ++ indent (n + 1)
indent_more out n = rw (append_assoc, indent-suc n, add-one) refl

-- the outline of what is there begins at level 0
pub outline_there : (n : Nodes Seen) → n ≢ none → lines_at seen_line 0 n ≡ outline_text seen_line n
outline_there none there = absurd (there refl)
outline_there (node r c t) there = refl

-- a plain byte is its own escape
escape_byte-plain : (byte : ℕ) → is_plain_byte byte ≡ true → escape_byte byte ≡ byte ∷ []
unfolding escape_byte
escape_byte-plain byte plain = grind (arith, nat_tests, plain)

-- and so is a text of them
escape-plain : (text : List ℕ) → list_all is_plain_byte text ≡ true → escape text ≡ text
escape-plain [] plain = refl
escape-plain (byte ∷ text) plain =
    let first : is_plain_byte byte ≡ true = grind (arith, plain) in
    let others : list_all is_plain_byte text ≡ true = grind (arith, plain) in
    rw (escape_byte-plain byte first, escape-plain text others) refl

-- which is quoted by a quote on each side
pub quoted_plain : (out text : List ℕ) → list_all is_plain_byte text ≡ true
    → ((out ++ 34 ∷ []) ++ text) ++ 34 ∷ [] ≡ out ++ quoted text
quoted_plain out text plain = rw (append_assoc, append_assoc, escape-plain text plain) refl
