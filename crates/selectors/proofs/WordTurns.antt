-- The turns of a loop that makes words of pieces, one after another.
use Rattle.std.proofs.Common.{◌≡◌, ◌++◌, ◌∷◌, [], ℕ, List, Bool, false, Some, None, sym, ap, ◌∙◌, append_assoc, append-nil}
use Rattle.std.specs.List.{AllByRecursion}
use Rattle.css_tokens.specs.declared.token.Token.{Token}
use Rattle.selectors.specs.declared.words.Word.{Word}
use Rattle.selectors.specs.Words.{words_after, word_of, passed_over}
use Rattle.selectors.proofs.WordForms.{passes, is_word}

-- a piece that is passed over
pub skip : (text : List ℕ) (spaced after : Bool) (t : Token) (left new : List Token) (words total : List Word)
    → left ≡ t ∷ new → passed_over t.kind spaced ≡ Some after → words ++ words_after text spaced left ≡ total
    → words ++ words_after text after new ≡ total
skip text spaced after t left new words total first e so_far =
    ap (λ (ws : List Word). words ++ ws)
    (sym (ap (λ (ts : List Token). words_after text spaced ts) first ∙ passes text spaced after t new e)) ∙ so_far

-- a piece that is a word
pub add : (text : List ℕ) (spaced : Bool) (t : Token) (left new : List Token) (words pushed total : List Word) (w : Word)
    → left ≡ t ∷ new → passed_over t.kind spaced ≡ None → pushed ≡ words ++ w ∷ [] → w ≡ word_of text spaced t
    → words ++ words_after text spaced left ≡ total → pushed ++ words_after text false new ≡ total
add text spaced t left new words pushed total w first e is_pushed value so_far =
    ap (λ (ws : List Word). ws ++ words_after text false new) is_pushed
    ∙ append_assoc words (w ∷ []) (words_after text false new)
    ∙ ap (λ (v : Word). words ++ v ∷ words_after text false new) value
    ∙ ap (λ (ws : List Word). words ++ ws) (sym (ap (λ (ts : List Token). words_after text spaced ts) first ∙ is_word text spaced t new e))
    ∙ so_far

-- what holds of each still does with one more
pub all_push : (P : Word → Type 0) (xs : List Word) (x : Word) → AllByRecursion P xs → P x → AllByRecursion P (xs ++ x ∷ [])
all_push P [] x all p = (p, tt)
all_push P (y ∷ ys) x all p = (all.0, all_push P ys x all.1 p)

-- no pieces are left
pub ended : (text : List ℕ) (spaced : Bool) (left : List Token) (words total : List Word) → left ≡ []
    → words ++ words_after text spaced left ≡ total → words ≡ total
unfolding words_after
ended text spaced left words total e so_far = sym (append-nil words) ∙ ap (λ (ts : List Token). words ++ words_after text spaced ts)
    (sym e) ∙ so_far
