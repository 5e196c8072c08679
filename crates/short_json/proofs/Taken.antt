-- Lexemes at the front of a text.
use Rattle.std.proofs.Common.{◌≡◌, ℕ, ◌+◌, ◌-◌, ◌*◌, ◌/◌, ◌%◌, ◌<◌, ◌≤◌, ◌^◌, ◌⊎◌, inl, inr, get_or, zero, suc, length, Bool, true}
use Rattle.std.proofs.Common.{false, cond, ◌||◌, ◌==◌, List, [], ◌∷◌, ◌++◌, take, drop, Option}
use Rattle.std.proofs.Common.{Some, None, append_assoc}
use Rattle.std.proofs.Common.{decimal, refl, sym, ap, ◌∙◌, arith, append-nil}
use Rattle.std.proofs.lemmas.Bool.{or_parts, not-true, and_parts, cases_lt}
use Rattle.std.proofs.lemmas.List.{take-append-drop, take_more}
use Rattle.std.proofs.lemmas.Fmt.{decimal_digit, decimal_step}
use Rattle.std.proofs.Math.Seq.{take-append_seam, drop-append_seam}
use Rattle.std.specs.List.{prefix_len, list_all}
use Rattle.json.specs.Token.{string, number}
use Rattle.json.specs.Text.{content, plain, after_backslash, prepend}
use Rattle.json.specs.Word.{is_operator, is_space, ends_word}
use Rattle.json.specs.Lex.{Lexeme, Mode, token, colon, operator, space, other, between, in_string, lex_byte, lex, string_token}
use Rattle.json.specs.Run.{is_plain}
use Rattle.json.specs.Print.{quoted, escape, print, print_from}
use Rattle.json.proofs.Printed.Numbers.{lex-number}
use Rattle.json.proofs.Printed.Strings.{content-escape, lex-escape}
use Rattle.json.proofs.Printed.Decimals.{IsNumber-decimal}

-- a byte of a string that is neither quote nor backslash
stays : (o s : Bool) (x : ℕ) (r : List ℕ) (k : Mode → List Lexeme)
    → lex_byte in_string (cond o operator (cond s space other)) x r k ≡ k in_string
stays true s x r k = refl
stays false true x r k = refl
stays false false x r k = refl

run_byte : (p : Bool) (x n : ℕ) (xs : List ℕ) → p ≡ is_plain x → lex in_string xs ≡ lex in_string (drop n xs)
    → lex in_string (x ∷ xs) ≡ lex in_string (drop (cond p (1 + n) 0) (x ∷ xs))
unfolding lex
run_byte false x n xs e ih = refl
run_byte true x n xs e ih =
    let next : suc n ≡ 1 + n = omega arith in
    let none = or_parts ((x == 34) || (x == 92)) _ (not-true _ (sym e)) in
    let tests = or_parts (x == 34) _ none.0 in
    rw (tests.0, tests.1) (stays (is_operator x) (is_space x) x xs (λ m. lex m xs))
    ∙ ih ∙ ap (λ k. lex in_string (drop k (x ∷ xs))) next

-- within a string plain bytes are passed over
string_run : (xs : List ℕ) → lex in_string xs ≡ lex in_string (drop (prefix_len is_plain xs) xs)
string_run [] = refl
string_run (x ∷ xs) = run_byte (is_plain x) x (prefix_len is_plain xs) xs refl (string_run xs)

prepend-prepend : (a b : List ℕ) (r : Option (List ℕ)) → prepend a (prepend b r) ≡ prepend (a ++ b) r
prepend-prepend a b None = refl
prepend-prepend a b (Some s) = ap Some (sym (append_assoc a b s))

prepend-nil : (r : Option (List ℕ)) → prepend [] r ≡ r
prepend-nil None = refl
prepend-nil (Some s) = refl

content_byte : (p : Bool) (x n : ℕ) (xs : List ℕ) → p ≡ is_plain x
    → content plain xs ≡ prepend (take n xs) (content plain (drop n xs))
    → content plain (x ∷ xs) ≡ prepend (take (cond p (1 + n) 0) (x ∷ xs)) (content plain (drop (cond p (1 + n) 0) (x ∷ xs)))
unfolding content
content_byte false x n xs e ih = sym (prepend-nil _)
content_byte true x n xs e ih =
    let next : suc n ≡ 1 + n = omega arith in
    let none = or_parts ((x == 34) || (x == 92)) _ (not-true _ (sym e)) in
    let tests = or_parts (x == 34) _ none.0 in
    (λ i. cond (tests.0 i) (Some []) (cond (tests.1 i) (content after_backslash xs) (cond (none.1 i) None (prepend (x ∷ []) (ih i)))))
    ∙ prepend-prepend (x ∷ []) (take n xs) _ ∙ ap (λ k. prepend (take k (x ∷ xs)) (content plain (drop k (x ∷ xs)))) next

-- plain bytes stand for themselves
content_run : (xs : List ℕ)
    → content plain xs ≡ prepend (take (prefix_len is_plain xs) xs) (content plain (drop (prefix_len is_plain xs) xs))
content_run [] = sym (prepend-nil _)
content_run (x ∷ xs) = content_byte (is_plain x) x (prefix_len is_plain xs) xs refl (content_run xs)

at_quote : (t rest : List ℕ) → t ≡ 34 ∷ rest → content plain t ≡ Some []
unfolding content
at_quote t rest e = ap (content plain) e

closes : (t rest : List ℕ) → t ≡ 34 ∷ rest → lex in_string t ≡ lex between rest
unfolding lex
closes t rest e = ap (lex in_string) e

opens : (inner : List ℕ) → lex between (34 ∷ inner) ≡ token (string_token (content plain inner)) ∷ lex in_string inner
unfolding lex
opens inner = refl

pub string_taken : (text inner s closing rest : List ℕ) (n : ℕ) → text ≡ 34 ∷ inner → n ≡ prefix_len is_plain inner → s ≡ take n inner
    → closing ≡ drop n inner → closing ≡ 34 ∷ rest
    → lex between text ≡ token (string s) ∷ lex between rest
string_taken text inner s closing rest n e is front back ends =
    let k = prefix_len is_plain inner in
    let behind : drop k inner ≡ 34 ∷ rest = ap (λ j. drop j inner) (sym is) ∙ sym back ∙ ends in
    let found : content plain inner ≡ Some s =
    content_run inner ∙ ap (prepend (take k inner)) (at_quote (drop k inner) rest behind) ∙ ap Some (append-nil (take k inner))
    ∙ ap (λ j. Some (take j inner)) (sym is) ∙ ap Some (sym front) in
    ap (lex between) e ∙ opens inner
    ∙ (λ i. token (string_token (found i)) ∷ (string_run inner ∙ closes (drop k inner) rest behind) i)

-- a text that begins with another
pub front_found : (text front found rest : List ℕ) (n : ℕ) → found ≡ take n text → rest ≡ drop n text → found ≡ front → text ≡ front ++ rest
front_found text front found rest n first later same =
    sym (take-append-drop n text) ∙ (λ i. sym first i ++ sym later i) ∙ ap (λ f. f ++ rest) same

-- a name that needs no escapes ends at its quote
plain_front : (name mark : List ℕ) → list_all is_plain name ≡ true → length name ≡ prefix_len is_plain (name ++ 34 ∷ mark)
plain_front [] mark all = refl
plain_front (x ∷ xs) mark all =
    let both = and_parts (is_plain x) _ all in
    let next : suc (length xs) ≡ 1 + length xs = omega arith in
    next ∙ (λ i. cond (sym both.0 i) (1 + plain_front xs mark both.1 i) 0)

colon_next : (mark rest : List ℕ) → mark ≡ 58 ∷ rest → lex between mark ≡ colon ∷ lex between rest
unfolding lex
colon_next mark rest e = ap (lex between) e

pub name_taken : (text inner name closing mark rest : List ℕ) → text ≡ 34 ∷ inner → inner ≡ name ++ closing → closing ≡ 34 ∷ mark
    → mark ≡ 58 ∷ rest → list_all is_plain name ≡ true
    → lex between text ≡ token (string name) ∷ colon ∷ lex between rest
name_taken text inner name closing mark rest e whole quote behind all =
    let n : length name ≡ prefix_len is_plain inner =
    plain_front name mark all ∙ ap (λ c. prefix_len is_plain (name ++ c)) (sym quote) ∙ ap (prefix_len is_plain) (sym whole) in
    let front : name ≡ take (length name) inner =
    sym (take-append_seam name closing) ∙ ap (take (length name)) (sym whole) in
    let back : closing ≡ drop (length name) inner =
    sym (drop-append_seam name closing) ∙ ap (drop (length name)) (sym whole) in
    string_taken text inner name closing mark (length name) e n front back quote
    ∙ ap (λ ls. token (string name) ∷ ls) (colon_next mark rest behind)

lex-quoted : (s rest : List ℕ) → lex between (quoted s ++ rest) ≡ token (string s) ∷ lex between rest
unfolding lex
lex-quoted s rest =
    let e = append_assoc (escape s) (34 ∷ []) rest in
    ap (λ l. lex between (34 ∷ l)) e
    ∙ (λ i. token (string_token (content-escape s rest i)) ∷ lex-escape s rest i)

-- what a writer gives for one string
pub string_printed : (s : List ℕ) → print (string s ∷ []) ≡ quoted s
unfolding print_from
string_printed s = append-nil (quoted s)

-- a string that stands there as it is written
pub written_taken : (text front rest s : List ℕ) (n : ℕ) → front ≡ take n text → rest ≡ drop n text → front ≡ quoted s
    → lex between text ≡ token (string s) ∷ lex between rest
written_taken text front rest s n first later same =
    let whole : text ≡ quoted s ++ rest = sym (take-append-drop n text) ∙ (λ i. sym first i ++ sym later i) ∙ ap (λ f. f ++ rest) same in
    ap (lex between) whole ∙ lex-quoted s rest

pub some_digits : (at n : ℕ) → ((0 < at) × (n ≡ 0 → ⊥)) ⊎ (at ≤ 0) → 0 < at → 0 < n
some_digits at zero (inl both) some = absurd (both.1 refl)
some_digits at (suc n) (inl both) some = omega arith
some_digits at n (inr none) some = let no : ⊥ = omega arith in absurd no

-- one more digit
pub digit_more : (bytes : List ℕ) (at n : ℕ) → at < length bytes → 48 ≤ get_or bytes at 0 → get_or bytes at 0 < 58
    → (at ≡ 0 → n ≡ 0) → (0 < at → 0 < n) → (0 < at → take at bytes ≡ decimal n) → n < 10 ^ 18
    → take (at + 1) bytes ≡ decimal (n * 10 + (get_or bytes at 0 - 48))
digit_more bytes at n within low high first later found small =
    take_more bytes at 0 within ∙ by (cases_lt at 1)
  where
    by : (at < 1) ⊎ (1 ≤ at) → take at bytes ++ get_or bytes at 0 ∷ [] ≡ decimal (n * 10 + (get_or bytes at 0 - 48))
    by (inl less) =
        let e : at ≡ 0 = omega arith in
        let none = first e in
        let one : 48 + (n * 10 + (get_or bytes at 0 - 48)) ≡ get_or bytes at 0 = omega arith in
        ap (λ k. take k bytes ++ get_or bytes at 0 ∷ []) e ∙ ap (λ x. x ∷ []) (sym one)
        ∙ sym (decimal_digit (n * 10 + (get_or bytes at 0 - 48)) (omega arith))
    by (inr some) =
        let m = n * 10 + (get_or bytes at 0 - 48) in
        let has = later some in
        let tens : m / 10 ≡ n = omega arith in
        let ones : 48 + m % 10 ≡ get_or bytes at 0 = omega arith in
        ap (λ f. f ++ get_or bytes at 0 ∷ []) (found some)
        ∙ (λ i. decimal (sym tens i) ++ sym ones i ∷ [])
        ∙ sym (decimal_step m (omega arith) (omega arith))

pub whole_taken : (text digits rest : List ℕ) (end n : ℕ) → digits ≡ take end text → rest ≡ drop end text → digits ≡ decimal n
    → n < 2 ^ 64 → ends_word rest ≡ true
    → lex between text ≡ token (number (decimal n)) ∷ lex between rest
whole_taken text digits rest end n front back is small ends =
    let whole : text ≡ decimal n ++ rest = sym (take-append-drop end text) ∙ (λ i. sym front i ++ sym back i) ∙ ap (λ d. d ++ rest) is in
    ap (lex between) whole ∙ lex-number (decimal n) rest (IsNumber-decimal n small) ends
