-- Tokens at the front of a text, by the place where it is read.
use Rattle.std.proofs.Common.{◌≡◌, ℕ, ◌⊎◌, inl, inr, true, false, List, [], ◌∷◌, length, get_or, refl, sym, ap, ◌∙◌, arith}
use Rattle.std.proofs.lemmas.Bool.{false≢true}
use Rattle.json.specs.Token.{begin_object, end_object, begin_array, end_array, key, string, number}
use Rattle.json.specs.Word.{ends_word}
use Rattle.json.specs.Lex.{Place, token, colon, between, lex, fresh, after_value, after_comma, after_key, may_begin, may_close}
use Rattle.json.specs.Lex.{begins_colon}
use Rattle.json.specs.Lex.{place_token, punctuate}

-- ---- single bytes

pub space_passed : (text rest : List ℕ) → text ≡ 32 ∷ rest → lex between rest ≡ lex between text
unfolding lex
space_passed text rest e = ap (lex between) (sym e)

pub comma_passed : (text rest : List ℕ) → text ≡ 44 ∷ rest
    → punctuate after_comma (lex between rest) ≡ punctuate after_value (lex between text)
unfolding lex punctuate
comma_passed text rest e = ap (λ t. punctuate after_value (lex between t)) (sym e)

pub object_begins : (p : Place) (text rest : List ℕ) → text ≡ 123 ∷ rest → may_begin p ≡ true
    → punctuate p (lex between text) ≡ begin_object ∷ punctuate fresh (lex between rest)
unfolding lex punctuate
object_begins fresh text rest e h = ap (λ t. punctuate fresh (lex between t)) e
object_begins after_value text rest e h = absurd (false≢true h)
object_begins after_comma text rest e h = ap (λ t. punctuate after_comma (lex between t)) e
object_begins after_key text rest e h = absurd (false≢true h)

pub array_begins : (p : Place) (text rest : List ℕ) → text ≡ 91 ∷ rest → may_begin p ≡ true
    → punctuate p (lex between text) ≡ begin_array ∷ punctuate fresh (lex between rest)
unfolding lex punctuate
array_begins fresh text rest e h = ap (λ t. punctuate fresh (lex between t)) e
array_begins after_value text rest e h = absurd (false≢true h)
array_begins after_comma text rest e h = ap (λ t. punctuate after_comma (lex between t)) e
array_begins after_key text rest e h = absurd (false≢true h)

pub object_ends : (p : Place) (text rest : List ℕ) → text ≡ 125 ∷ rest → may_close p ≡ true
    → punctuate p (lex between text) ≡ end_object ∷ punctuate after_value (lex between rest)
unfolding lex punctuate
object_ends fresh text rest e h = ap (λ t. punctuate fresh (lex between t)) e
object_ends after_value text rest e h = ap (λ t. punctuate after_value (lex between t)) e
object_ends after_comma text rest e h = absurd (false≢true h)
object_ends after_key text rest e h = absurd (false≢true h)

pub array_ends : (p : Place) (text rest : List ℕ) → text ≡ 93 ∷ rest → may_close p ≡ true
    → punctuate p (lex between text) ≡ end_array ∷ punctuate after_value (lex between rest)
unfolding lex punctuate
array_ends fresh text rest e h = ap (λ t. punctuate fresh (lex between t)) e
array_ends after_value text rest e h = ap (λ t. punctuate after_value (lex between t)) e
array_ends after_comma text rest e h = absurd (false≢true h)
array_ends after_key text rest e h = absurd (false≢true h)

no_bytes : (text : List ℕ) → length text ≡ 0 → text ≡ []
no_bytes [] e = refl
no_bytes (x ∷ xs) e = let no : ⊥ = omega arith in absurd no

pub nothing_left : (p : Place) (text : List ℕ) → length text ≡ 0 → may_close p ≡ true → punctuate p (lex between text) ≡ []
unfolding lex punctuate
nothing_left fresh text e h = ap (λ t. punctuate fresh (lex between t)) (no_bytes text e)
nothing_left after_value text e h = ap (λ t. punctuate after_value (lex between t)) (no_bytes text e)
nothing_left after_comma text e h = absurd (false≢true h)
nothing_left after_key text e h = absurd (false≢true h)

-- ---- what a comma or a closing bracket tells

-- no colon is next, and a number ends there
abbrev pub Ends : List ℕ → Type 0
Ends text = (ends_word text ≡ true) × (begins_colon (lex between text) ≡ false)

pub mark_next : (text : List ℕ) → (get_or text 0 0 ≡ 44) ⊎ ((get_or text 0 0 ≡ 125) ⊎ (get_or text 0 0 ≡ 93)) → Ends text
unfolding lex
mark_next [] (inl e) = let no : ⊥ = omega arith in absurd no
mark_next [] (inr (inl e)) = let no : ⊥ = omega arith in absurd no
mark_next [] (inr (inr e)) = let no : ⊥ = omega arith in absurd no
mark_next (x ∷ xs) (inl e) = (ap (λ y. ends_word (y ∷ xs)) e, ap (λ y. begins_colon (lex between (y ∷ xs))) e)
mark_next (x ∷ xs) (inr (inl e)) = (ap (λ y. ends_word (y ∷ xs)) e, ap (λ y. begins_colon (lex between (y ∷ xs))) e)
mark_next (x ∷ xs) (inr (inr e)) = (ap (λ y. ends_word (y ∷ xs)) e, ap (λ y. begins_colon (lex between (y ∷ xs))) e)

-- ---- names, texts and numbers

pub name_next : (p : Place) (text mark rest s : List ℕ) → lex between text ≡ token (string s) ∷ lex between mark → mark ≡ 58 ∷ rest
    → may_begin p ≡ true → punctuate p (lex between text) ≡ key s ∷ punctuate fresh (lex between rest)
unfolding lex punctuate
name_next fresh text mark rest s e m h = ap (punctuate fresh) e ∙ ap (λ t. punctuate fresh (token (string s) ∷ lex between t)) m
name_next after_value text mark rest s e m h = absurd (false≢true h)
name_next after_comma text mark rest s e m h =
    ap (punctuate after_comma) e ∙ ap (λ t. punctuate after_comma (token (string s) ∷ lex between t)) m
name_next after_key text mark rest s e m h = absurd (false≢true h)

pub named_next : (p : Place) (text rest s : List ℕ) → lex between text ≡ token (string s) ∷ colon ∷ lex between rest → may_begin p ≡ true
    → punctuate p (lex between text) ≡ key s ∷ punctuate fresh (lex between rest)
unfolding punctuate
named_next fresh text rest s e h = ap (punctuate fresh) e
named_next after_value text rest s e h = absurd (false≢true h)
named_next after_comma text rest s e h = ap (punctuate after_comma) e
named_next after_key text rest s e h = absurd (false≢true h)

pub text_next : (p : Place) (text rest s : List ℕ) → lex between text ≡ token (string s) ∷ lex between rest
    → begins_colon (lex between rest) ≡ false → may_begin p ≡ true
    → punctuate p (lex between text) ≡ string s ∷ punctuate after_value (lex between rest)
unfolding punctuate
text_next fresh text rest s e c h =
    ap (punctuate fresh) e ∙ ap (λ b. place_token fresh (string s) b (λ next. punctuate next (lex between rest))) c
text_next after_value text rest s e c h = absurd (false≢true h)
text_next after_comma text rest s e c h =
    ap (punctuate after_comma) e ∙ ap (λ b. place_token after_comma (string s) b (λ next. punctuate next (lex between rest))) c
text_next after_key text rest s e c h = absurd (false≢true h)

pub whole_next : (p : Place) (text rest t : List ℕ) → lex between text ≡ token (number t) ∷ lex between rest → may_begin p ≡ true
    → punctuate p (lex between text) ≡ number t ∷ punctuate after_value (lex between rest)
unfolding punctuate
whole_next fresh text rest t e h = ap (punctuate fresh) e
whole_next after_value text rest t e h = absurd (false≢true h)
whole_next after_comma text rest t e h = ap (punctuate after_comma) e
whole_next after_key text rest t e h = absurd (false≢true h)
