-- Where words may be cut, and how pieces become words.
use Rattle.std.proofs.Common.{◌≡◌, ℕ, ◌+◌, ◌-◌, Bool, true, false, List, ◌∷◌, Option, Some, None, ap, slice_index}
use Rattle.std.proofs.lemmas.Bool.{eqb-true}
use Rattle.std.specs.Str.{IsCharBoundary}
use Rattle.css_tokens.specs.declared.token.Token.{Token}
use Rattle.css_tokens.specs.declared.token.TokenKind.{TokenKind}
use Rattle.css_tokens.specs.declared.token.TokenKind.TheVariants as tokens
use Rattle.css_tokens.specs.Marks.{IsCutInside, IsPieceOf}
use Rattle.selectors.specs.declared.words.Word.{Word}
use Rattle.selectors.specs.Words.{word_kind, word_of, passed_over, words_by, words_after, opens_word, closes, IsWordOf}

closed_of : (k : TokenKind) (text : List ℕ) (w : Word) (c : ℕ) → IsCutInside k text w.start w.end → closes text w (word_kind k c) ≡ true
    → IsCharBoundary text (w.end - 1)
closed_of tokens.Function text w c inside e = inside
closed_of (tokens.Hash true) text w c inside e = absurd (cc)
closed_of (tokens.Hash false) text w c inside e = absurd (cc)
closed_of tokens.Str text w c inside e = inside.1 (eqb-true (slice_index text (w.end - 1)) (slice_index text w.start) e)
closed_of _ text w c inside e = absurd (cc)

pub passes : (text : List ℕ) (spaced after : Bool) (t : Token) (ts : List Token) → passed_over t.kind spaced ≡ Some after
    → words_after text spaced (t ∷ ts) ≡ words_after text after ts
unfolding words_after
passes text spaced after t ts e = ap (λ (o : Option Bool). words_by o (word_of text spaced t) (λ s. words_after text s ts)) e

pub is_word : (text : List ℕ) (spaced : Bool) (t : Token) (ts : List Token) → passed_over t.kind spaced ≡ None
    → words_after text spaced (t ∷ ts) ≡ word_of text spaced t ∷ words_after text false ts
unfolding words_after
is_word text spaced t ts e = ap (λ (o : Option Bool). words_by o (word_of text spaced t) (λ s. words_after text s ts)) e
