-- Names and urls before a space and `}`; with them, the first piece whose row takes.
use Rattle.std.proofs.Common.{◌≡◌, ◌⊎◌, inl, inr, ℕ, zero, suc, ◌+◌, ◌-◌, ◌<◌, ◌≤◌, ◌==◌, Bool, true, false, cond, ◌&&◌, not}
use Rattle.std.proofs.Common.{List, [], ◌∷◌, ◌++◌, length, drop, take, min, Option, Some, None, refl, ap, sym, ◌∙◌, subst}
use Rattle.std.proofs.Common.{length-append, arith}
use Rattle.std.proofs.Math.Seq.{drop-append_seam}
use Rattle.std.proofs.lemmas.List.{drop-append-le, take-append-le, length-drop, drop-drop}
use Rattle.css_tokens.specs.declared.token.TokenKind.TheVariants.{Ident, Function, Url, BadUrl}
use Rattle.css_tokens.specs.Codes.{begins, is_white, is_quote}
use Rattle.css_tokens.specs.Runs.{run, run_after, unit_then, url_unit, bad_url_unit, name_len, starts_ident, white_run, ends_url}
use Rattle.css_tokens.specs.Rows.{◌or◌, when, piece, open_url_len, is_url, opens_url, url_body_len}
use Rattle.css_tokens.specs.Rows.{closes_url, first_piece, comment, white_space, string, bad_string, hash, numeric, cdc, url, bad_url}
use Rattle.css_tokens.specs.Rows.{ident, cdo, at_keyword, mark}
use Rattle.css_tokens.proofs.Ends.{run_stops}
use Rattle.sheet_reader.proofs.Behind.{spaced, Piece}
use Rattle.sheet_reader.proofs.SpaceUnits.{Facts, Short, Near, near_same, near_past, near_more, near_wide, near_add}
use Rattle.sheet_reader.proofs.SpaceUnits.{near_cond, near_else, begins_at, StartsSame, starts_at, escape_at, bad_url_at, run_at, run_least}
use Rattle.sheet_reader.proofs.SpaceUnits.{over_seam, seam_line, seam_drop, Apart}
use Rattle.sheet_reader.proofs.SpaceRows.{Keeps, keeps_none, keeps_same, keeps_long, keeps_more, or_keeps, same_keeps, short_keeps, less}
use Rattle.sheet_reader.proofs.SpaceRows.{closed_near}
use Rattle.sheet_reader.proofs.SpaceRows.{longer, as_long}
use Rattle.sheet_reader.proofs.SpaceRows.{comment_keeps, white_short, white_keeps, strings_keeps, name_near, ends_in_name, hash_keeps}
use Rattle.sheet_reader.proofs.SpaceRows.{at_keeps}
use Rattle.sheet_reader.proofs.SpaceRows.{numeric_keeps, cdc_keeps, cdo_keeps, mark_keeps}

-- what begins with a name: urls, bad urls, functions and idents, together
names : Bool → Bool → Bool → Bool → ℕ → ℕ → ℕ → ℕ → Option Piece
names opens close starts round n o r all =
    when (opens && close) (piece Url (min (o + 1) all)) or when (opens && not close) (piece BadUrl (min (o + r + 1) all)) or when starts
    (cond round (piece Function (n + 1)) (piece Ident n))

names_far : (size n o r all : ℕ) (opens close round : Bool) → size < n → n ≤ o → size < all
    → (p : Piece) × (names opens close true round n o r all ≡ Some p) × (size < p.len)
unfolding names
names_far size n o r all true true round a b d = (piece Url (min (o + 1) all), refl, omega arith)
names_far size n o r all true false round a b d = (piece BadUrl (min (o + r + 1) all), refl, omega arith)
names_far size n o r all false close true a b d = (piece Function (n + 1), refl, omega arith)
names_far size n o r all false close false a b d = (piece Ident n, refl, a)

long_keeps : {s : Bool} (size : ℕ) (a b : Option Piece) → ((p : Piece) × (a ≡ Some p) × (size < p.len)) → Keeps s size a b
long_keeps {s = s} size a b h = subst (λ (x : Option Piece). Keeps s size x b) (sym h.1) (keeps_long h.0 b h.2)

-- past the open url everything is long
urls_far : (size n o r all : ℕ) (close starts round : Bool) → size < o → size < all
    → (p : Piece) × (names true close starts round n o r all ≡ Some p) × (size < p.len)
unfolding names
urls_far size n o r all true starts round a d = (piece Url (min (o + 1) all), refl, omega arith)
urls_far size n o r all false starts round a d = (piece BadUrl (min (o + r + 1) all), refl, omega arith)

urls_near : {s : Bool} (size n o r r' all all' : ℕ) (close starts round : Bool) → size < all → size ≤ all' → (close ≡ true → o + 1 ≤ size)
    → Near s size (o + r) (o + r') → (close ≡ false → o + r ≤ size → o + r + 1 ≤ size) →
    Keeps s size (names true close starts round n o r all) (names true close starts round n o r' all')
unfolding names
urls_near size n o r r' all all' true starts round a b fits near more = let here = fits refl in same_keeps size _ _
    (ap (λ (k : ℕ). Some (piece Url k)) (omega (arith, here)))
urls_near size n o r r' all all' false starts round a b fits near more = short_keeps size true BadUrl _ _
    (closed_near size (o + r) (o + r') all all' a b near (more refl))

-- a url's characters end before the space, where white space follows: the same, or up to n at least
abbrev Brief : ℕ → ℕ → ℕ → Type 0
Brief n a b = (a ≡ b) ⊎ (n ≤ a)

-- the length of the url unit before the space is that before what stands behind, unless it is past the text
url_more : (v : List ℕ) → Facts v → (a : ℕ) (x : List ℕ)
    → Near (over_seam (a ∷ x) v) (length (a ∷ x)) (url_unit (a ∷ (x ++ spaced))) (url_unit (a ∷ (x ++ v)))
url_more v f a x = near_else (ends_url a) (length (a ∷ x)) _ _ 0 (near_cond (a == 92) (length (a ∷ x)) _ _ 1 (escape_at v f (a ∷ x)))

run_far : (unit : List ℕ → ℕ) (x : List ℕ) (k : ℕ) → length x < k → length x < run_after unit k (x ++ spaced)
unfolding run_after
run_far unit [] zero e = absurd (omega (arith, e))
run_far unit [] (suc k) e = omega arith
run_far unit (a ∷ x) zero e = absurd (omega (arith, e))
run_far unit (a ∷ x) (suc k) e = let more = run_far unit x k (omega (arith, e)) in omega (arith, more)

brief_suc : (n a b : ℕ) → Brief n a b → Brief (suc n) (suc a) (suc b)
brief_suc n a b (inl same) = inl (ap suc same)
brief_suc n a b (inr far) = inr (omega (arith, far))

brief_then : (n u : ℕ) (f g : ℕ → ℕ) → ((k : ℕ) → Brief n (f k) (g k)) → Brief (suc n) (unit_then u f) (unit_then u g)
brief_then n zero f g h = inl refl
brief_then n (suc k) f g h = brief_suc n (f k) (g k) (h k)

far_then : (n u : ℕ) (f : ℕ → ℕ) → suc n < u → ((k : ℕ) → n < k → n < f k) → suc n ≤ unit_then u f
far_then n zero f far h = absurd (omega (arith, far))
far_then n (suc k) f far h = let more = h k (omega (arith, far)) in omega (arith, more)

full_then : (n u : ℕ) (f : ℕ → ℕ) → u ≡ suc n → n ≤ f n → suc n ≤ unit_then u f
full_then n u f e fits = subst (λ (w : ℕ). suc n ≤ unit_then w f) (sym e) (omega (arith, fits))

brief_at : {s : Bool} (n u u' : ℕ) (f g : ℕ → ℕ) → Near s (suc n) u u' → ((k : ℕ) → Brief n (f k) (g k)) → ((k : ℕ) → n < k → n < f k)
    → n ≤ f n → Brief (suc n) (unit_then u f) (unit_then u' g)
brief_at n u u' f g (near_same same) h far full =
    subst (λ (w : ℕ). Brief (suc n) (unit_then u f) (unit_then w g)) same (brief_then n u f g h)
brief_at n u u' f g (near_past long) h far full = inr (far_then n u f long far)
brief_at n u u' f g (near_more m e k) h far full = inr (full_then n u f e full)

url_run : (v : List ℕ) → Facts v → (skip : ℕ) (x : List ℕ)
    → Brief (length x) (run_after url_unit skip (x ++ spaced)) (run_after url_unit skip (x ++ v))
unfolding run_after
url_run v f skip [] = inr (omega arith)
url_run v f (suc skip) (a ∷ x) = brief_suc (length x) _ _ (url_run v f skip x)
url_run v f zero (a ∷ x) = brief_at (length x) (url_unit (a ∷ (x ++ spaced))) (url_unit (a ∷ (x ++ v)))
    (λ k. run_after url_unit k (x ++ spaced)) (λ k. run_after url_unit k (x ++ v)) (url_more v f a x)
    (λ k. url_run v f k x) (λ k e. run_far url_unit x k e)
    (run_least url_unit (length x) (x ++ spaced) (omega (arith, length-append x spaced)))

white_first : (t : List ℕ) → begins is_white t ≡ true → 0 < white_run t
white_first [] e = cc
white_first (c ∷ t) e = rw e (omega arith)

pub body_short : (v : List ℕ) → Facts v → (z : List ℕ) → Short (length z) (url_body_len (z ++ spaced)) (url_body_len (z ++ v))
unfolding url_body_len
body_short v f z =
    let s = white_run (z ++ spaced) in
    let t = white_run (z ++ v) in
    let u = run url_unit (drop s (z ++ spaced)) in
    let w = run url_unit (drop t (z ++ v)) in
    elim (white_short v z) [
      | inr far ↦ inr (omega (arith, far))
      | inl s_same ↦ elim (less (length z) s) [
        | inl past ↦ inr (omega arith)
        | inr s_fits ↦
            let one : drop s (z ++ spaced) ≡ drop s z ++ spaced = drop-append-le s z spaced s_fits in
            let two : drop t (z ++ v) ≡ drop s z ++ v = ap (λ (k : ℕ). drop k (z ++ v)) (sym s_same) ∙ drop-append-le s z v s_fits in
            let u_is : u ≡ run url_unit (drop s z ++ spaced) = ap (run url_unit) one in
            let w_is : w ≡ run url_unit (drop s z ++ v) = ap (run url_unit) two in
            let size : length (drop s z) ≡ length z - s = length-drop s z in
            elim (less (length z) (s + u)) [
              | inl past ↦ inr (omega arith)
              | inr within ↦
                  let three : drop (s + u) (z ++ spaced) ≡ drop (s + u) z ++ spaced = drop-append-le (s + u) z spaced within in
                  let left : length (drop (s + u) z) ≡ length z - (s + u) = length-drop (s + u) z in
                  let white : white_run (drop (s + u) (z ++ spaced)) ≡ white_run (drop (s + u) z ++ spaced) = ap white_run three in
                  elim (url_run v f 0 (drop s z)) [
                    | inr far ↦
                        let at : s + u ≡ length z = omega (arith, far, u_is, size, s_fits, within) in
                        let none : drop (s + u) z ≡ [] = no_codes (drop (s + u) z) (omega (arith, left, at)) in
                        let first : begins is_white (drop (s + u) z ++ spaced) ≡ true =
                        ap (λ (d : List ℕ). begins is_white (d ++ spaced)) none in
                        let some = white_first (drop (s + u) z ++ spaced) first in
                        inr (omega (arith, some, white, at))
                    | inl same ↦
                        let k_same : s + u ≡ t + w = omega (arith, same, u_is, w_is, s_same) in
                        let four : drop (t + w) (z ++ v) ≡ drop (s + u) z ++ v =
                        ap (λ (k : ℕ). drop k (z ++ v)) (sym k_same) ∙ drop-append-le (s + u) z v within in
                        let white2 : white_run (drop (t + w) (z ++ v)) ≡ white_run (drop (s + u) z ++ v) = ap white_run four in
                        elim (white_short v (drop (s + u) z)) [
                          | inl e ↦ inl (omega (arith, k_same, e, white, white2))
                          | inr far ↦ inr (omega (arith, far, left, white, within))
                        ]
                  ]
            ]
      ]
    ]
  where
    no_codes : (d : List ℕ) → length d ≡ 0 → d ≡ []
    no_codes [] e = refl
    no_codes (c ∷ d) e = absurd (omega (arith, e))

closes_at : (v : List ℕ) (w : List ℕ) → 0 < length w → closes_url (w ++ spaced) ≡ closes_url (w ++ v)
closes_at v [] e = absurd (omega (arith, e))
closes_at v (a ∷ w) e = refl

-- behind the body of an open url no white space follows
no_white : (t : List ℕ) → begins is_white (drop (white_run t) t) ≡ false
no_white [] = refl
no_white (c ∷ t) = by (is_white c) refl (no_white t)
  where
    by : (b : Bool) → is_white c ≡ b → begins is_white (drop (white_run t) t) ≡ false
        → begins is_white (drop (cond b (1 + white_run t) 0) (c ∷ t)) ≡ false
    by true e more = let one : 1 + white_run t ≡ suc (white_run t) = omega arith in rw one more
    by false e more = e

body_then : (t : List ℕ) → begins is_white (drop (url_body_len t) t) ≡ false
unfolding url_body_len
body_then t =
    let s = white_run t in
    let e = s + run url_unit (drop s t) in
    let at : drop (white_run (drop e t)) (drop e t) ≡ drop (e + white_run (drop e t)) t = drop-drop (white_run (drop e t)) e t in
    sym (ap (begins is_white) at) ∙ no_white (drop e t)

round_some : (w : List ℕ) → begins (λ d. d == 40) (w ++ spaced) ≡ true → 1 ≤ length w
round_some [] e = cc
round_some (a ∷ w) e = omega arith

bad_some : (w : List ℕ) → bad_url_unit (w ++ spaced) ≡ 0 → 1 ≤ length w
bad_some [] e = omega (arith, e)
bad_some (a ∷ w) e = omega arith

opens_needs : (text : List ℕ) → opens_url text ≡ true
    → (starts_ident text ≡ true) × (begins (λ c. c == 40) (drop (name_len text) text) ≡ true)
unfolding opens_url
opens_needs text e = by_and (starts_ident text) (begins (λ c. c == 40) (drop (name_len text) text)) _ _ e
  where
    by_and : (a b d q : Bool) → (((a && b) && d) && q) ≡ true → (a ≡ true) × (b ≡ true)
    by_and true true d q e = (refl, refl)
    by_and true false d q e = cc
    by_and false b d q e = cc

opens_by : (s b u q : Bool) → Bool
opens_by s b u q = ((s && b) && u) && not q

-- a quote behind white space: white space up to the space is followed by no quote
quote_at : (v : List ℕ) → Facts v → (z : List ℕ)
    → begins is_quote (drop (white_run (z ++ spaced)) (z ++ spaced)) ≡ begins is_quote (drop (white_run (z ++ v)) (z ++ v))
quote_at v f [] = sym f.quoted
quote_at v f (a ∷ z) = by (is_white a) (quote_at v f z)
  where
    by : (b : Bool) → begins is_quote (drop (white_run (z ++ spaced)) (z ++ spaced)) ≡ begins is_quote (drop (white_run (z ++ v)) (z ++ v))
        → begins is_quote (drop (cond b (1 + white_run (z ++ spaced)) 0) (a ∷ (z ++ spaced)))
        ≡ begins is_quote (drop (cond b (1 + white_run (z ++ v)) 0) (a ∷ (z ++ v)))
    by true more =
        let one : 1 + white_run (z ++ spaced) ≡ suc (white_run (z ++ spaced)) = omega arith in
        let two : 1 + white_run (z ++ v) ≡ suc (white_run (z ++ v)) = omega arith in
        rw (one, two) more
    by false more = refl

opens_same : (v : List ℕ) → Facts v → (x : List ℕ) → name_len (x ++ spaced) ≡ name_len (x ++ v)
    → name_len (x ++ spaced) + 1 ≤ length x → opens_url (x ++ spaced) ≡ opens_url (x ++ v)
unfolding opens_url opens_by
opens_same v f x same fits =
    let n = name_len (x ++ spaced) in
    let one : drop n (x ++ spaced) ≡ drop n x ++ spaced = drop-append-le n x spaced (omega arith) in
    let two : drop (name_len (x ++ v)) (x ++ v)
    ≡ drop n x ++ v = ap (λ (k : ℕ). drop k (x ++ v)) (sym same) ∙ drop-append-le n x v (omega arith) in
    let name : take n (x ++ spaced) ≡ take (name_len (x ++ v)) (x ++ v) =
    take-append-le n x spaced (omega arith) ∙ sym
    (ap (λ (k : ℕ). take k (x ++ v)) (sym same) ∙ take-append-le n x v (omega arith)) in
    let three : drop (n + 1) (x ++ spaced) ≡ drop (n + 1) x ++ spaced = drop-append-le (n + 1) x spaced fits in
    let four : drop (name_len (x ++ v) + 1) (x ++ v)
    ≡ drop (n + 1) x ++ v = ap (λ (k : ℕ). drop (k + 1) (x ++ v)) (sym same) ∙ drop-append-le (n + 1) x v fits in
    let z = drop (n + 1) x in
    let round : begins (λ c. c == 40) (drop n (x ++ spaced)) ≡ begins (λ c. c == 40) (drop (name_len (x ++ v)) (x ++ v)) =
    ap (begins (λ c. c == 40)) one ∙ begins_at (λ c. c == 40) v (drop n x) refl f.round ∙ sym (ap (begins (λ c. c == 40)) two) in
    let quote : begins is_quote (drop (white_run (drop (n + 1) (x ++ spaced))) (drop (n + 1) (x ++ spaced)))
    ≡ begins is_quote (drop (white_run (drop (name_len (x ++ v) + 1) (x ++ v))) (drop (name_len (x ++ v) + 1) (x ++ v))) =
    ap (λ (t : List ℕ). begins is_quote (drop (white_run t) t)) three ∙ quote_at v f z ∙ sym
    (ap (λ (t : List ℕ). begins is_quote (drop (white_run t) t)) four) in
    elim (starts_at v f x) [
      | inl starts ↦ λ i. opens_by (starts i) (round i) (is_url (name i)) (quote i)
      | inr far ↦ absurd (omega (arith, far.1, fits))
    ]

-- the group as it is computed
names_of : List ℕ → Option Piece
names_of text = names (opens_url text) (closes_url (drop (open_url_len text) text)) (starts_ident text)
    (begins (λ c. c == 40) (drop (name_len text) text)) (name_len text) (open_url_len text)
    (run bad_url_unit (drop (open_url_len text) text)) (length text)

not_true_is : (b : Bool) → (b ≡ true → ⊥) → b ≡ false
not_true_is true e = absurd (e refl)
not_true_is false e = refl

clash : (b : Bool) → b ≡ true → b ≡ false → ⊥
clash true e g = cc
clash false e g = cc

no_start : (text : List ℕ) → starts_ident text ≡ false → names_of text ≡ None
unfolding names_of names
no_start text e =
    let closed : opens_url text ≡ false = not_true_is (opens_url text) (λ o. clash (starts_ident text) (opens_needs text o).0 e) in
    rw (closed, e) refl

bare_name : (text : List ℕ) (n : ℕ) → name_len text ≡ n → starts_ident text ≡ true
    → begins (λ c. c == 40) (drop (name_len text) text) ≡ false → names_of text ≡ Some (piece Ident n)
unfolding names_of names
bare_name text n is s e =
    let closed : opens_url text ≡ false = not_true_is (opens_url text) (λ o. clash _ (opens_needs text o).1 e) in
    rw (closed, s, e) (ap (λ (k : ℕ). Some (piece Ident k)) is)

plain_function : (text : List ℕ) (n : ℕ) → name_len text ≡ n → starts_ident text ≡ true
    → begins (λ c. c == 40) (drop (name_len text) text) ≡ true → opens_url text ≡ false → names_of text ≡ Some (piece Function (n + 1))
unfolding names_of names
plain_function text n is s e closed = rw (closed, s, e) (ap (λ (k : ℕ). Some (piece Function (k + 1))) is)

open_past_name : (text : List ℕ) → name_len text + 1 ≤ open_url_len text
open_past_name text = omega arith

url_far_at : (text : List ℕ) (size : ℕ) → opens_url text ≡ true → size < open_url_len text → size < length text
    → (p : Piece) × (names_of text ≡ Some p) × (size < p.len)
unfolding names_of
url_far_at text size opens a b =
    let h = urls_far size (name_len text) (open_url_len text) (run bad_url_unit (drop (open_url_len text) text)) (length text)
    (closes_url (drop (open_url_len text) text)) (starts_ident text) (begins (λ c. c == 40) (drop (name_len text) text)) a b in (
      h.0,
      ap (λ (o : Bool). names o (closes_url (drop (open_url_len text) text)) (starts_ident text)
          (begins (λ c. c == 40) (drop (name_len text) text)) (name_len text) (open_url_len text)
          (run bad_url_unit (drop (open_url_len text) text)) (length text)) opens ∙ h.1,
      h.2,
    )

name_far_at : (text : List ℕ) (size : ℕ) → starts_ident text ≡ true → size < name_len text → size < length text
    → (p : Piece) × (names_of text ≡ Some p) × (size < p.len)
unfolding names_of
name_far_at text size starts a b =
    let h = names_far size (name_len text) (open_url_len text) (run bad_url_unit (drop (open_url_len text) text)) (length text)
    (opens_url text) (closes_url (drop (open_url_len text) text)) (begins (λ c. c == 40) (drop (name_len text) text)) a
    (omega (arith, open_past_name text)) b in (
      h.0,
      ap (λ (s : Bool). names (opens_url text) (closes_url (drop (open_url_len text) text)) s
          (begins (λ c. c == 40) (drop (name_len text) text)) (name_len text) (open_url_len text)
          (run bad_url_unit (drop (open_url_len text) text)) (length text)) starts ∙ h.1,
      h.2,
    )

size_of : (o w x : ℕ) → w ≡ x - o → o ≤ x → o + w ≡ x
size_of o w x e f = omega arith

urls_any : (s s' b b' : Bool) (n n' : ℕ) (close : Bool) (o r all : ℕ) → names true close s b n o r all ≡ names true close s' b' n' o r all
unfolding names
urls_any s s' b b' n n' true o r all = refl
urls_any s s' b b' n n' false o r all = refl

some_left : (w : List ℕ) → begins is_white (w ++ spaced) ≡ false → 0 < length w
some_left [] e = cc
some_left (a ∷ w) e = omega arith

-- where a url opens in both
opened_keeps : (v : List ℕ) → Facts v → (x : List ℕ) → (n : ℕ) → name_len (x ++ spaced) ≡ n → name_len (x ++ v) ≡ n
    → n + 1 ≤ length x → opens_url (x ++ spaced) ≡ true → opens_url (x ++ v) ≡ true
    → Keeps (over_seam x v) (length x) (names_of (x ++ spaced)) (names_of (x ++ v))
unfolding names_of
opened_keeps v f x n first second fits opens opens' =
    let t = x ++ spaced in
    let t' = x ++ v in
    let z = drop (n + 1) x in
    let inner : drop (name_len t + 1) t ≡ z ++ spaced = ap (λ (k : ℕ). drop (k + 1) t) first ∙ drop-append-le (n + 1) x spaced fits in
    let inner' : drop (name_len t' + 1) t'
    ≡ z ++ v = ap (λ (k : ℕ). drop (k + 1) t') second ∙ drop-append-le (n + 1) x v fits in
    let o = open_url_len t in
    let o' = open_url_len t' in
    let o_is : o ≡ n + 1 + url_body_len (z ++ spaced) = omega (arith, first, ap url_body_len inner) in
    let o_is' : o' ≡ n + 1 + url_body_len (z ++ v) = omega (arith, second, ap url_body_len inner') in
    let size : length z ≡ length x - (n + 1) = length-drop (n + 1) x in
    let more = longer x in
    let further = as_long x v in
    let s = starts_ident t in
    let far : length x < o → Keeps (over_seam x v) (length x) (names_of t) (names_of t') = λ a.
    long_keeps (length x) (names_of t) (names_of t') (url_far_at t (length x) opens a more) in
    elim (body_short v f z) [
      | inr past ↦ far (omega (arith, o_is, past, size))
      | inl same ↦
          let o_same : o ≡ o' = omega (arith, o_is, o_is', same) in
          elim (less (length x) o) [
            | inl past ↦ far past
            | inr within ↦
                let w = drop o x in
                let one : drop o t ≡ w ++ spaced = drop-append-le o x spaced within in
                let two : drop o' t' ≡ w ++ v = ap (λ (k : ℕ). drop k t') (sym o_same) ∙ drop-append-le o x v within in
                let w_size : length w ≡ length x - o = length-drop o x in
                let behind : drop (url_body_len (z ++ spaced)) (z ++ spaced) ≡ w ++ spaced =
                ap (drop (url_body_len (z ++ spaced))) (sym inner) ∙ drop-drop (url_body_len (z ++ spaced)) (name_len t + 1) t
                ∙ ap (λ (k : ℕ). drop k t) (omega (arith, o_is, first)) ∙ one in
                let some = some_left w (sym (ap (begins is_white) behind) ∙ body_then (z ++ spaced)) in
                let near = subst (λ (k : ℕ). Near (over_seam x v) k (o + run bad_url_unit (w ++ spaced)) (o + run bad_url_unit (w ++ v)))
                (size_of o (length w) (length x) w_size within)
                (near_wide (o + length w) _ _ (seam_drop v o x)
                (near_add o (length w) _ _ (run_at bad_url_unit v (bad_url_at v f) (inl (omega arith)) w))) in
                let close_fits : closes_url (w ++ spaced) ≡ true → o + 1 ≤ length x = λ e. omega (arith, some, w_size) in
                let bad_fits : closes_url (w ++ spaced) ≡ false → o + run bad_url_unit (w ++ spaced) ≤ length x
                → o + run bad_url_unit (w ++ spaced) + 1 ≤ length x = λ _ short.
                let r = run bad_url_unit (w ++ spaced) in
                let at : drop r (w ++ spaced) ≡ drop r w ++ spaced = drop-append-le r w spaced (omega arith) in
                let some = bad_some (drop r w) (sym (ap bad_url_unit at) ∙ run_stops bad_url_unit refl (w ++ spaced)) in
                omega (arith, some, length-drop r w) in
                let here = urls_near (length x) (name_len t) o (run bad_url_unit (w ++ spaced)) (run bad_url_unit (w ++ v))
                (length t) (length t') (closes_url (w ++ spaced)) s
                (begins (λ c. c == 40) (drop (name_len t) t)) more further close_fits near bad_fits in
                let left : names_of t ≡ names true (closes_url (w ++ spaced)) s (begins (λ c. c == 40) (drop (name_len t) t))
                (name_len t) o (run bad_url_unit (w ++ spaced)) (length t) =
                ap (λ (b : Bool). names b (closes_url (drop o t)) s (begins (λ c. c == 40) (drop (name_len t) t)) (name_len t) o
                (run bad_url_unit (drop o t)) (length t)) opens
                ∙ ap (λ (d : List ℕ). names true (closes_url d) s (begins (λ c. c == 40) (drop (name_len t) t)) (name_len t) o
                (run bad_url_unit d) (length t)) one in
                let right : names_of t' ≡ names true (closes_url (w ++ spaced)) s (begins (λ c. c == 40) (drop (name_len t) t))
                (name_len t) o (run bad_url_unit (w ++ v)) (length t') =
                ap (λ (b : Bool). names b (closes_url (drop o' t')) (starts_ident t') (begins (λ c. c == 40) (drop (name_len t') t'))
                (name_len t') o' (run bad_url_unit (drop o' t')) (length t')) opens'
                ∙ ap (λ (d : List ℕ). names true (closes_url d) (starts_ident t') (begins (λ c. c == 40) (drop (name_len t') t'))
                (name_len t') o' (run bad_url_unit d) (length t')) two
                ∙ urls_any (starts_ident t') s (begins (λ c. c == 40) (drop (name_len t') t'))
                (begins (λ c. c == 40) (drop (name_len t) t)) (name_len t') (name_len t) (closes_url (w ++ v)) o'
                (run bad_url_unit (w ++ v)) (length t')
                ∙ ap (λ (b : Bool). names true b s (begins (λ c. c == 40) (drop (name_len t) t)) (name_len t) o'
                (run bad_url_unit (w ++ v)) (length t')) (sym (closes_at v w some))
                ∙ ap (λ (k : ℕ). names true (closes_url (w ++ spaced)) s (begins (λ c. c == 40) (drop (name_len t) t)) (name_len t) k
                (run bad_url_unit (w ++ v)) (length t')) (sym o_same) in
                subst (λ (a : Option Piece). Keeps (over_seam x v) (length x) a (names_of t')) (sym left)
                (subst (Keeps (over_seam x v) (length x)
                (names true (closes_url (w ++ spaced)) s (begins (λ c. c == 40) (drop (name_len t) t))
                (name_len t) o (run bad_url_unit (w ++ spaced)) (length t))) (sym right) here)
          ]
    ]

by_name : (v : List ℕ) → Facts v → (x : List ℕ) → starts_ident (x ++ spaced) ≡ true → starts_ident (x ++ v) ≡ true
    → Near (over_seam x v) (length x) (name_len (x ++ spaced)) (name_len (x ++ v))
    → Keeps (over_seam x v) (length x) (names_of (x ++ spaced)) (names_of (x ++ v))
by_name v f x s s' (near_past far) = long_keeps (length x) _ _ (name_far_at (x ++ spaced) (length x) s far (longer x))
by_name v f x s s' (near_same same) =
    let t = x ++ spaced in
    let t' = x ++ v in
    let n = name_len t in
    elim (less (length x) n) [
      | inl past ↦ long_keeps (length x) _ _ (name_far_at t (length x) s past (longer x))
      | inr within ↦
          let one : drop n t ≡ drop n x ++ spaced = drop-append-le n x spaced within in
          let two : drop (name_len t') t'
          ≡ drop n x ++ v = ap (λ (k : ℕ). drop k t') (sym same) ∙ drop-append-le n x v within in
          let round_same : begins (λ d. d == 40) (drop n t) ≡ begins (λ d. d == 40) (drop (name_len t') t') =
          ap (begins (λ d. d == 40)) one ∙ begins_at (λ d. d == 40) v (drop n x) refl f.round ∙ sym (ap (begins (λ d. d == 40)) two) in
          elim (begins (λ d. d == 40) (drop n t)) as
          (λ b. begins (λ d. d == 40) (drop n t) ≡ b → Keeps (over_seam x v) (length x) (names_of t) (names_of t')) [
            | false ↦ λ bare. same_keeps _ _ _ (bare_name t n refl s bare ∙ sym (bare_name t' n (sym same) s' (sym round_same ∙ bare)))
            | true ↦ λ round.
                let some = round_some (drop n x) (sym (ap (begins (λ d. d == 40)) one) ∙ round) in
                let fits : n + 1 ≤ length x = omega (arith, some, length-drop n x) in
                let opens_is : opens_url t ≡ opens_url t' = opens_same v f x same fits in
                elim (opens_url t) as (λ b. opens_url t ≡ b → Keeps (over_seam x v) (length x) (names_of t) (names_of t')) [
                  | false ↦ λ closed. same_keeps _ _ _
                      (plain_function t n refl s round closed ∙ sym
                      (plain_function t' n (sym same) s' (sym round_same ∙ round) (sym opens_is ∙ closed)))
                  | true ↦ λ opens. opened_keeps v f x n refl (sym same) fits opens (sym opens_is ∙ opens)
                ] refl
          ] refl
    ]
by_name v f x s s' (near_more m e g) =
    let t = x ++ spaced in
    let t' = x ++ v in
    let first : drop (name_len t) t ≡ spaced = ap (λ (k : ℕ). drop k t) e ∙ drop-append_seam x spaced in
    let line = seam_line v x m in
    let second : drop (name_len t') t' ≡ drop 1 v = ap (λ (k : ℕ). drop k t') g ∙ drop_over x v in
    let one = bare_name t (length x) e s (ap (begins (λ d. d == 40)) first) in
    let two = bare_name t' (suc (length x)) g s' (ap (begins (λ d. d == 40)) second ∙ f.next_round line) in
    subst (λ (o : Option Piece). Keeps (over_seam x v) (length x) o (names_of t')) (sym one)
    (subst (Keeps (over_seam x v) (length x) (Some (piece Ident (length x)))) (sym two) (keeps_more Ident refl m))
  where
    drop_over : (x v : List ℕ) → drop (suc (length x)) (x ++ v) ≡ drop 1 v
    drop_over [] [] = refl
    drop_over [] (c ∷ v) = refl
    drop_over (a ∷ x) v = drop_over x v

named_keeps : (v : List ℕ) → Facts v → (x : List ℕ) → Keeps (over_seam x v) (length x) (names_of (x ++ spaced)) (names_of (x ++ v))
named_keeps v f x = by (starts_at v f x)
  where
    by : StartsSame v x → Keeps (over_seam x v) (length x) (names_of (x ++ spaced)) (names_of (x ++ v))
    by (inl starts) =
        elim (starts_ident (x ++ spaced)) as
        (λ b. starts_ident (x ++ spaced) ≡ b → Keeps (over_seam x v) (length x) (names_of (x ++ spaced)) (names_of (x ++ v))) [
          | false ↦ λ none. same_keeps _ _ _ (no_start (x ++ spaced) none ∙ sym (no_start (x ++ v) (sym starts ∙ none)))
          | true ↦ λ s. by_name v f x s (sym starts ∙ s) (name_near v f x)
        ] refl
    by (inr far) = long_keeps (length x) _ _ (name_far_at (x ++ spaced) (length x) far.0 far.1 (longer x))

-- the rows in their order, where strings and names stand together
rows_together : (text : List ℕ)
    → first_piece text ≡ (comment text or
    (white_space text or ((string text or bad_string text) or
    (hash text or (numeric text or (cdc text or (names_of text or (cdo text or (at_keyword text or mark text)))))))))
unfolding first_piece names_of names url bad_url ident
rows_together text =
    ap (λ (o : Option Piece). comment text or (white_space text or o))
    (two (string text) (bad_string text) _
    ∙ ap (λ (o : Option Piece). (string text or bad_string text) or (hash text or (numeric text or (cdc text or o))))
    (three (url text) (bad_url text) (ident text) _))
  where
    two : (a b d : Option Piece) → (a or (b or d)) ≡ ((a or b) or d)
    two (Some p) b d = refl
    two None b d = refl

    three : (a b d e : Option Piece) → (a or (b or (d or e))) ≡ ((a or (b or d)) or e)
    three (Some p) b d e = refl
    three None (Some p) d e = refl
    three None None d e = refl

pub space_first : (v : List ℕ) → Facts v → (a : ℕ) (x : List ℕ)
    → Keeps (over_seam (a ∷ x) v) (length (a ∷ x)) (first_piece (a ∷ (x ++ spaced))) (first_piece (a ∷ (x ++ v)))
space_first v f a x =
    let n = length (a ∷ x) in
    let seam = over_seam (a ∷ x) v in
    let all = or_keeps {s = seam} n _ _ _ _ (comment_keeps v f a x)
    (or_keeps n _ _ _ _ (white_keeps v f a x) (or_keeps n _ _ _ _ (strings_keeps v f a x)
    (or_keeps n _ _ _ _ (hash_keeps v f a x)
    (or_keeps n _ _ _ _ (numeric_keeps v f (a ∷ x)) (or_keeps n _ _ _ _ (cdc_keeps v f a x)
    (or_keeps n _ _ _ _ (named_keeps v f (a ∷ x))
    (or_keeps n _ _ _ _ (cdo_keeps v f a x)
    (or_keeps n _ _ _ _ (at_keeps v f a x) (mark_keeps n a (x ++ spaced) (x ++ v)))))))))) in
    subst (λ (o : Option Piece). Keeps seam n o (first_piece (a ∷ (x ++ v)))) (sym (rows_together (a ∷ (x ++ spaced))))
    (subst (Keeps seam n _) (sym (rows_together (a ∷ (x ++ v)))) all)

-- a piece that ends at a CR with an LF behind it takes the LF
pub record TakesLine (v text : List ℕ) (p : Piece) : Type 0 where
  pub over : over_seam text v ≡ true
  pub len : p.len ≡ length text
  pub found : first_piece (text ++ v) ≡ Some (piece p.kind (suc (length text)))
  pub name : ends_in_name p.kind ≡ true

record TakesMore (s : Bool) (n : ℕ) (b : Option Piece) (p : Piece) : Type 0 where
  over : s ≡ true
  len : p.len ≡ n
  found : b ≡ Some (piece p.kind (suc n))
  name : ends_in_name p.kind ≡ true

-- a piece that ends before the space is the same whatever stands behind the sealed text, or takes the LF
short_same : {s : Bool} (n : ℕ) (a b : Option Piece) (p : Piece) → Keeps s n a b → a ≡ Some p → p.len ≤ n → (b ≡ Some p) ⊎ TakesMore s n b p
short_same n a b p keeps_none e fits = cc
short_same n a b p (keeps_same q) e fits = inl e
short_same n a b p (keeps_long q r far) e fits = let same : q ≡ p = cc in absurd (omega (arith, ap (λ (x : Piece). x.len) same, far))
short_same n a b p (keeps_more k name m) e fits =
    let same : piece k n ≡ p = cc in
    inr (record {
      over = m;
      len = sym (ap (λ (x : Piece). x.len) same);
      found = ap (λ (x : Piece). Some (piece x.kind (suc n))) same;
      name = subst (λ (x : Piece). ends_in_name x.kind ≡ true) same name;
    })

pub piece_more : (v : List ℕ) → Facts v → (text : List ℕ) (p : Piece) → 0 < p.len → p.len ≤ length text
    → first_piece (text ++ spaced) ≡ Some p → (first_piece (text ++ v) ≡ Some p) ⊎ TakesLine v text p
piece_more v f [] p some fits e = absurd (omega arith)
piece_more v f (a ∷ x) p some fits e = by (short_same (length (a ∷ x)) _ _ p (space_first v f a x) e fits)
  where
    by : (first_piece (a ∷ (x ++ v)) ≡ Some p) ⊎ TakesMore (over_seam (a ∷ x) v) (length (a ∷ x)) (first_piece (a ∷ (x ++ v))) p
        → (first_piece (a ∷ (x ++ v)) ≡ Some p) ⊎ TakesLine v (a ∷ x) p
    by (inl same) = inl same
    by (inr t) = inr (record { over = t.over; len = t.len; found = t.found; name = t.name })

pub piece_kept : (v : List ℕ) → Facts v → (text : List ℕ) (p : Piece) → Apart text v → 0 < p.len → p.len ≤ length text
    → first_piece (text ++ spaced) ≡ Some p → first_piece (text ++ v) ≡ Some p
piece_kept v f text p m some fits e = elim (piece_more v f text p some fits e) [
  | inl same ↦ same
  | inr more ↦ absurd (clash (over_seam text v) m more.over)
]
  where
    clash : (b : Bool) → b ≡ false → b ≡ true → ⊥
    clash false e g = cc
    clash true e g = cc
