-- The text an+b.
use Rattle.std.specs.Prelude.{ℕ, ℤ, pos, neg_ℤ, ◌+◌, ◌*◌, Bool, false, ◌&&◌, ◌||◌, ◌==◌, nat_lt, nat_le, List, ◌∷◌, take, drop, length}
use Rattle.std.specs.Prelude.{fold, Option, Some, None, if◌then◌else◌}
use Rattle.std.specs.Char.{digit_value, to_ascii_lowercase}
use Rattle.css_tokens.specs.Codes.{is_sign, begins}
use Rattle.selectors.specs.Forms.{◌>>=◌}
use Rattle.css_tokens.specs.Runs.{white_run, digits, sign_len}

-- the text without the white space that it begins with
abbrev pub skip_white : List ℕ → List ℕ
skip_white text = drop (white_run text) text

-- nothing but white space
abbrev pub is_blank : List ℕ → Bool
is_blank text = white_run text == length text

-- the number that decimal digits write
abbrev pub decimal : List ℕ → ℕ
decimal ds = fold (λ n d. n * 10 + digit_value d) 0 ds

-- the number, or its negative where the sign is minus
abbrev pub nth_signed : Bool → ℕ → ℤ
nth_signed negative n = if negative then neg_ℤ (pos n) else pos n

-- the text begins with `-`
abbrev pub is_negative : List ℕ → Bool
is_negative text = begins (λ c. c == 45) text

-- the number of at most nine digits that the text begins with, 0 where it begins with none
abbrev pub number_at : List ℕ → Option ℕ
number_at text = if nat_le (digits text) 9 then Some (decimal (take (digits text) text)) else None

-- digits, and nothing but white space behind them
abbrev pub ends_number : List ℕ → Bool
ends_number text = nat_lt 0 (digits text) && is_blank (drop (digits text) text)

-- this offset where the test holds, otherwise none
abbrev pub offset_if : Bool → ℤ → Option ℤ
offset_if test z = if test then Some z else None

-- digits with a sign before them
unfoldable pub digits_of : Bool → List ℕ → Option ℤ
digits_of negative text = number_at text >>= λ n. offset_if (ends_number text) (nth_signed negative n)

-- a sign, white space, digits
unfoldable pub offset_of : List ℕ → Option ℤ
offset_of text = if begins is_sign text then digits_of (is_negative text) (skip_white (drop 1 text)) else None

-- what follows the `n`: nothing, or white space, a sign, white space, digits
unfoldable pub after_n : List ℕ → Option ℤ
after_n text = if is_blank text then Some (pos 0) else offset_of (skip_white text)

-- the step before `n`: no digits stand for 1
abbrev pub nth_step : Bool → List ℕ → Option ℤ
nth_step negative text = number_at text >>= λ n. Some (nth_signed negative (if digits text == 0 then 1 else n))

-- behind the sign
abbrev pub linear_by : Bool → List ℕ → Option (ℤ × ℤ)
linear_by negative more =
    let rest = drop (digits more) more in
    if begins (λ c. c == 110 || c == 78) rest
    then (nth_step negative more >>= λ a. after_n (drop 1 rest) >>= λ b. Some (a, b))
    else (digits_of negative more >>= λ b. Some (pos 0, b))

-- a sign or none and digits; or a sign or none, digits or none, `n` and what follows it
unfoldable pub linear_of : List ℕ → Option (ℤ × ℤ)
linear_of text = linear_by (is_negative text) (drop (sign_len text) text)

-- the code is this small letter, in either case
abbrev pub is_nth_letter : ℕ → ℕ → Bool
is_nth_letter letter c = to_ascii_lowercase c == letter

-- `odd`, in any ASCII case, and nothing but white space behind it
abbrev pub is_odd : List ℕ → Bool
is_odd (a ∷ b ∷ c ∷ rest) = (is_nth_letter 111 a && is_nth_letter 100 b) && (is_nth_letter 100 c && is_blank rest)
is_odd _ = false

-- `even`
abbrev pub is_even : List ℕ → Bool
is_even (a ∷ b ∷ c ∷ d ∷ rest) = (is_nth_letter 101 a && is_nth_letter 118 b)
    && ((is_nth_letter 101 c && is_nth_letter 110 d) && is_blank rest)
is_even _ = false

-- step and offset of a text with no white space before it: `odd`, `even`, or an+b
abbrev pub nth_by : List ℕ → Option (ℤ × ℤ)
nth_by own = if is_odd own then Some (pos 2, pos 1) else (if is_even own then Some (pos 2, pos 0) else linear_of own)

-- step and offset
unfoldable pub nth_of : List ℕ → Option (ℤ × ℤ)
nth_of text = nth_by (skip_white text)
