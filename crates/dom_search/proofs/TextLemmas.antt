-- A part that is sought in texts, but for the case of ASCII letters.
use Rattle.std.proofs.Common.{◌≡◌, ℕ, ◌+◌, ◌<◌, false, List, [], ◌∷◌, drop, length, get_or, nat_eq, refl}
use Rattle.std.proofs.lemmas.List.{drop_more}
use Rattle.std.specs.List.{starts_with}
use Rattle.dom_search.specs.Found.{lowered, has_lowered}

-- where it does not begin with the part, the text has it where the rest has it
pub lowered-more : (part text : List ℕ) (i : ℕ) → i < length text → starts_with nat_eq (lowered (drop i text)) part ≡ false
    → has_lowered part (drop (i + 1) text) ≡ has_lowered part (drop i text)
lowered-more part text i h no_start = more (drop i text) (drop_more text i 0 h) no_start
  where
    more : (rest : List ℕ) → rest ≡ get_or text i 0 ∷ drop (i + 1) text → starts_with nat_eq (lowered rest) part ≡ false
        → has_lowered part (drop (i + 1) text) ≡ has_lowered part rest
    more [] is e = absurd (cc)
    more (b ∷ bs) is e = let same : drop (i + 1) text ≡ bs = cc in rw (e, same) refl
