-- Ranges that can be used: each has its ends on characters' edges of a text, and one stands behind the other.
use Rattle.std.specs.Prelude.{◌≡◌, ℕ, ◌≤◌, List, [], ◌∷◌, map}
use Rattle.std.specs.Str.{IsCharBoundary}
use Rattle.css_tokens.specs.declared.token.Range.{Range}
use Rattle.css_tokens.specs.declared.token.Token.{Token}
use Rattle.css_tokens.specs.Pieces.{IsCutAt}
use Rattle.selectors.specs.Forms.{SelectorForm}

-- a part of a text, which can be cut out
pub record IsRangeOf (text : List ℕ) (r : Range) : Type 0 where
  pub order : r.start ≤ r.end
  pub front : IsCharBoundary text r.start
  pub back : IsCharBoundary text r.end

-- parts of a text one behind the other, between two places
abbrev pub AreBetween : List ℕ → ℕ → ℕ → List Range → Type 0
AreBetween text from to [] = from ≤ to
AreBetween text from to (r ∷ rs) = (from ≤ r.start) × IsRangeOf text r × AreBetween text r.end to rs

-- pieces one behind the other that leave nothing out from one place to another, each of which can be cut out
abbrev pub AreTiles : List ℕ → ℕ → ℕ → List Token → Type 0
AreTiles text from to [] = from ≡ to
AreTiles text from to (t ∷ ts) = (t.start ≡ from) × IsCutAt text t × AreTiles text t.end to ts

-- the ranges of the selectors, in turn
abbrev pub ranges_of : List SelectorForm → List Range
ranges_of ss = map (λ s. s.range) ss
