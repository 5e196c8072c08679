-- Names and urls before `{`, `}` or `;`; with them, the first piece whose row takes.
use Rattle.std.proofs.Common.{◌≡◌, inl, inr, ℕ, ◌+◌, ◌-◌, ◌<◌, ◌≤◌, ◌==◌, Bool, true, false, cond, ◌&&◌, not}
use Rattle.std.proofs.Common.{List, [], ◌∷◌, ◌++◌, length, drop, take, min, Option, Some, None, refl, ap, sym, ◌∙◌, subst}
use Rattle.std.proofs.Common.{arith}
use Rattle.std.proofs.lemmas.List.{drop-append-le, take-append-le, length-drop}
use Rattle.css_tokens.specs.declared.token.TokenKind.TheVariants.{Ident, Function, Url, BadUrl}
use Rattle.css_tokens.specs.declared.token.Piece.{Piece}
use Rattle.css_tokens.specs.Codes.{begins, is_white, is_quote}
use Rattle.css_tokens.specs.Runs.{run, url_unit, bad_url_unit, name_len, starts_ident, white_run}
use Rattle.css_tokens.specs.Rows.{◌or◌, when, piece, open_url_len, is_url, opens_url, url_body_len}
use Rattle.css_tokens.specs.Rows.{closes_url, first_piece, comment, white_space, string, bad_string, hash, numeric, cdc, url, bad_url}
use Rattle.css_tokens.specs.Rows.{ident, cdo, at_keyword, mark}
use Rattle.css_tokens.proofs.SeamUnits.{stop_facts, StopFacts, begins_same, prefix_same, prefix_within, starts_same}
use Rattle.css_tokens.proofs.SeamUnits.{url_local, bad_url_local, Near, run_near}
use Rattle.css_tokens.specs.Seams.{is_stop}
use Rattle.css_tokens.proofs.Ends.{run_stops}
use Rattle.css_tokens.proofs.SeamRows.{Alike, or_alike, same_alike, near_alike, less, near_add, closed_near, longer, comment_alike}
use Rattle.css_tokens.proofs.SeamRows.{white_alike, strings_alike, name_near, hash_alike, at_alike, numeric_alike, cdc_alike}
use Rattle.css_tokens.proofs.SeamRows.{cdo_alike, both_none, both_same, both_long}

-- what begins with a name: urls, bad urls, functions and idents, together
names : Bool → Bool → Bool → Bool → ℕ → ℕ → ℕ → ℕ → Option Piece
names opens close starts round n o r all =
    when (opens && close) (piece Url (min (o + 1) all)) or when (opens && not close) (piece BadUrl (min (o + r + 1) all)) or when starts
    (cond round (piece Function (n + 1)) (piece Ident n))

names_far : (size n o r all : ℕ) (opens close round : Bool) → size < n → n ≤ o → size < all
    → (p : Piece) × (names opens close true round n o r all ≡ Some p) × (size < p.len)
unfolding names
names_far size n o r all true true round a b d = (piece Url (min (o + 1) all), refl, omega arith)
names_far size n o r all true false round a b d = (piece BadUrl (min (o + r + 1) all), refl, omega arith)
names_far size n o r all false close true a b d = (piece Function (n + 1), refl, omega arith)
names_far size n o r all false close false a b d = (piece Ident n, refl, a)

long_alike : (size : ℕ) (a b : Option Piece) → ((p : Piece) × (a ≡ Some p) × (size < p.len))
    → ((p : Piece) × (b ≡ Some p) × (size < p.len)) → Alike size a b
long_alike size a b h k = subst (λ (x : Option Piece). Alike size x b) (sym h.1)
    (subst (Alike size (Some h.0)) (sym k.1) (both_long h.0 k.0 h.2 k.2))

-- past the open url everything is long
urls_far : (size n o r all : ℕ) (close starts round : Bool) → size < o → size < all
    → (p : Piece) × (names true close starts round n o r all ≡ Some p) × (size < p.len)
unfolding names
urls_far size n o r all true starts round a d = (piece Url (min (o + 1) all), refl, omega arith)
urls_far size n o r all false starts round a d = (piece BadUrl (min (o + r + 1) all), refl, omega arith)

urls_near : (size n o r r' all all' : ℕ) (close starts round : Bool) → size < all → size < all' → (close ≡ true → o + 1 ≤ size)
    → Near size (o + r) (o + r') → (close ≡ false → o + r ≤ size → o + r + 1 ≤ size) →
    Alike size (names true close starts round n o r all) (names true close starts round n o r' all')
unfolding names
urls_near size n o r r' all all' true starts round a b fits near more = let here = fits refl in same_alike size _ _
    (ap (λ (k : ℕ). Some (piece Url k)) (omega (arith, here)))
urls_near size n o r r' all all' false starts round a b fits near more = near_alike size true BadUrl _ _
    (closed_near size 1 (o + r) (o + r') all all' a b near (more refl))

body_near : (c : ℕ) → StopFacts c → (rest other z : List ℕ) → Near (length z) (url_body_len (z ++ c ∷ rest)) (url_body_len (z ++ c ∷ other))
unfolding url_body_len
body_near c f rest other z =
    let s = white_run (z ++ c ∷ rest) in
    let s_same : s ≡ white_run (z ++ c ∷ other) = prefix_same is_white c rest other z f.white in
    let s_fits : s ≤ length z = prefix_within is_white c rest z f.white in
    let one : drop s (z ++ c ∷ rest) ≡ drop s z ++ c ∷ rest = drop-append-le s z (c ∷ rest) s_fits in
    let two : drop (white_run (z ++ c ∷ other)) (z ++ c ∷ other)
    ≡ drop s z ++ c ∷ other = ap (λ (k : ℕ). drop k (z ++ c ∷ other)) (sym s_same) ∙ drop-append-le s z (c ∷ other) s_fits in
    let u = run url_unit (drop s (z ++ c ∷ rest)) in
    let v = run url_unit (drop (white_run (z ++ c ∷ other)) (z ++ c ∷ other)) in
    let u_is : u ≡ run url_unit (drop s z ++ c ∷ rest) = ap (run url_unit) one in
    let v_is : v ≡ run url_unit (drop s z ++ c ∷ other) = ap (run url_unit) two in
    let size : length (drop s z) ≡ length z - s = length-drop s z in
    elim (run_near url_unit c (url_local c f) rest other (drop s z)) [
      | inr far ↦ inr (omega (arith, far.0, u_is, size, s_fits), omega (arith, far.1, v_is, size, s_fits, s_same))
      | inl same ↦ elim (less (length z) (s + u)) [
        | inl past ↦ inr (omega arith, omega (arith, same, u_is, v_is, s_same))
        | inr within ↦
            let three : drop (s + u) (z ++ c ∷ rest) ≡ drop (s + u) z ++ c ∷ rest = drop-append-le (s + u) z (c ∷ rest) within in
            let k_same : s + u ≡ white_run (z ++ c ∷ other) + v = omega (arith, same, u_is, v_is, s_same) in
            let four : drop (white_run (z ++ c ∷ other) + v) (z ++ c ∷ other)
            ≡ drop (s + u) z ++ c ∷ other = ap (λ (k : ℕ). drop k (z ++ c ∷ other)) (sym k_same) ∙ drop-append-le (s + u) z
            (c ∷ other) within in
            let w : white_run (drop (s + u) (z ++ c ∷ rest)) ≡ white_run (drop (white_run (z ++ c ∷ other) + v) (z ++ c ∷ other)) =
            ap white_run three ∙ prefix_same is_white c rest other (drop (s + u) z) f.white ∙ sym (ap white_run four) in
            inl (omega (arith, k_same, w))
      ]
    ]

closes_same : (c : ℕ) (rest other w : List ℕ) → closes_url (w ++ c ∷ rest) ≡ closes_url (w ++ c ∷ other)
closes_same c rest other [] = refl
closes_same c rest other (a ∷ w) = refl

closed_some : (c : ℕ) (rest w : List ℕ) → StopFacts c → closes_url (w ++ c ∷ rest) ≡ true → 1 ≤ length w
closed_some c rest [] f e = absurd (clash (c == 41) f.close e)
  where
    clash : (b : Bool) → b ≡ false → b ≡ true → ⊥
    clash true e g = cc
    clash false e g = cc
closed_some c rest (a ∷ w) f e = omega arith

round_some : (c : ℕ) (rest w : List ℕ) → StopFacts c → begins (λ d. d == 40) (w ++ c ∷ rest) ≡ true → 1 ≤ length w
round_some c rest [] f e = absurd (clash (c == 40) f.round e)
  where
    clash : (b : Bool) → b ≡ false → b ≡ true → ⊥
    clash true e g = cc
    clash false e g = cc
round_some c rest (a ∷ w) f e = omega arith

bad_some : (c : ℕ) (rest w : List ℕ) → StopFacts c → bad_url_unit (w ++ c ∷ rest) ≡ 0 → 1 ≤ length w
bad_some c rest [] f e = absurd (goes_on (c == 41) (c == 92) _ _ f.close f.back e)
  where
    goes_on : (a b d : Bool) (n : ℕ) → a ≡ false → b ≡ false → ◌≡◌ {A = ℕ} (cond a 0 (cond (b && d) n 1)) 0 → ⊥
    goes_on true b d n e g z = cc
    goes_on false true d n e g z = cc
    goes_on false false d n e g z = omega arith
bad_some c rest (a ∷ w) f e = omega arith

opens_needs : (text : List ℕ) → opens_url text ≡ true
    → (starts_ident text ≡ true) × (begins (λ c. c == 40) (drop (name_len text) text) ≡ true)
unfolding opens_url
opens_needs text e = by_and (starts_ident text) (begins (λ c. c == 40) (drop (name_len text) text)) _ _ e
  where
    by_and : (a b d q : Bool) → (((a && b) && d) && q) ≡ true → (a ≡ true) × (b ≡ true)
    by_and true true d q e = (refl, refl)
    by_and true false d q e = cc
    by_and false b d q e = cc

opens_by : (s b u q : Bool) → Bool
opens_by s b u q = ((s && b) && u) && not q

opens_same : (c : ℕ) → StopFacts c → (rest other x : List ℕ) → name_len (x ++ c ∷ rest) ≡ name_len (x ++ c ∷ other)
    → name_len (x ++ c ∷ rest) + 1 ≤ length x → opens_url (x ++ c ∷ rest) ≡ opens_url (x ++ c ∷ other)
unfolding opens_url opens_by
opens_same c f rest other x same fits =
    let n = name_len (x ++ c ∷ rest) in
    let one : drop n (x ++ c ∷ rest) ≡ drop n x ++ c ∷ rest = drop-append-le n x (c ∷ rest) (omega arith) in
    let two : drop (name_len (x ++ c ∷ other)) (x ++ c ∷ other)
    ≡ drop n x ++ c ∷ other = ap (λ (k : ℕ). drop k (x ++ c ∷ other)) (sym same) ∙ drop-append-le n x (c ∷ other) (omega arith) in
    let name : take n (x ++ c ∷ rest) ≡ take (name_len (x ++ c ∷ other)) (x ++ c ∷ other) =
    take-append-le n x (c ∷ rest) (omega arith) ∙ sym
    (ap (λ (k : ℕ). take k (x ++ c ∷ other)) (sym same) ∙ take-append-le n x (c ∷ other) (omega arith)) in
    let three : drop (n + 1) (x ++ c ∷ rest) ≡ drop (n + 1) x ++ c ∷ rest = drop-append-le (n + 1) x (c ∷ rest) fits in
    let four : drop (name_len (x ++ c ∷ other) + 1) (x ++ c ∷ other)
    ≡ drop (n + 1) x ++ c ∷ other = ap (λ (k : ℕ). drop (k + 1) (x ++ c ∷ other)) (sym same) ∙ drop-append-le (n + 1) x
    (c ∷ other) fits in
    let z = drop (n + 1) x in
    let w_fits : white_run (z ++ c ∷ rest) ≤ length z = prefix_within is_white c rest z f.white in
    let w_same : white_run (z ++ c ∷ rest) ≡ white_run (z ++ c ∷ other) = prefix_same is_white c rest other z f.white in
    let quote : begins is_quote (drop (white_run (z ++ c ∷ rest)) (z ++ c ∷ rest))
    ≡ begins is_quote (drop (white_run (z ++ c ∷ other)) (z ++ c ∷ other)) =
    ap (begins is_quote) (drop-append-le (white_run (z ++ c ∷ rest)) z (c ∷ rest) w_fits) ∙ begins_same is_quote c rest other
    (drop (white_run (z ++ c ∷ rest)) z)
    ∙ sym (ap (λ (k : ℕ). begins is_quote (drop k (z ++ c ∷ other))) (sym w_same) ∙ ap (begins is_quote)
    (drop-append-le (white_run (z ++ c ∷ rest)) z (c ∷ other) w_fits)) in
    ap (λ (b : Bool). opens_by b (begins (λ c. c == 40) (drop n (x ++ c ∷ rest))) (is_url (take n (x ++ c ∷ rest)))
    (begins is_quote (drop (white_run (drop (n + 1) (x ++ c ∷ rest))) (drop (n + 1) (x ++ c ∷ rest))))) (starts_same c rest other x f)
    ∙ ap (λ (b : Bool). opens_by (starts_ident (x ++ c ∷ other)) b (is_url (take n (x ++ c ∷ rest)))
    (begins is_quote (drop (white_run (drop (n + 1) (x ++ c ∷ rest))) (drop (n + 1) (x ++ c ∷ rest)))))
    (ap (begins (λ c. c == 40)) one ∙ begins_same (λ c. c == 40) c rest other (drop n x) ∙ sym (ap (begins (λ c. c == 40)) two))
    ∙ ap (λ (t : List ℕ). opens_by (starts_ident (x ++ c ∷ other))
    (begins (λ c. c == 40) (drop (name_len (x ++ c ∷ other)) (x ++ c ∷ other))) (is_url t)
    (begins is_quote (drop (white_run (drop (n + 1) (x ++ c ∷ rest))) (drop (n + 1) (x ++ c ∷ rest))))) name
    ∙ ap (λ (b : Bool). opens_by (starts_ident (x ++ c ∷ other))
    (begins (λ c. c == 40) (drop (name_len (x ++ c ∷ other)) (x ++ c ∷ other)))
    (is_url (take (name_len (x ++ c ∷ other)) (x ++ c ∷ other))) b)
    (ap (λ (t : List ℕ). begins is_quote (drop (white_run t) t)) three ∙ quote ∙ sym
    (ap (λ (t : List ℕ). begins is_quote (drop (white_run t) t)) four))

-- the group as it is computed
names_of : List ℕ → Option Piece
names_of text = names (opens_url text) (closes_url (drop (open_url_len text) text)) (starts_ident text)
    (begins (λ c. c == 40) (drop (name_len text) text)) (name_len text) (open_url_len text)
    (run bad_url_unit (drop (open_url_len text) text)) (length text)

not_true_is : (b : Bool) → (b ≡ true → ⊥) → b ≡ false
not_true_is true e = absurd (e refl)
not_true_is false e = refl

no_start : (text : List ℕ) → starts_ident text ≡ false → names_of text ≡ None
unfolding names_of names
no_start text e =
    let closed : opens_url text ≡ false = not_true_is (opens_url text) (λ o. clash (starts_ident text) (opens_needs text o).0 e) in
    rw (closed, e) refl
  where
    clash : (b : Bool) → b ≡ true → b ≡ false → ⊥
    clash true e g = cc
    clash false e g = cc

bare_name : (text : List ℕ) (n : ℕ) → name_len text ≡ n → starts_ident text ≡ true
    → begins (λ c. c == 40) (drop (name_len text) text) ≡ false → names_of text ≡ Some (piece Ident n)
unfolding names_of names
bare_name text n is s e =
    let closed : opens_url text ≡ false = not_true_is (opens_url text) (λ o. clash _ (opens_needs text o).1 e) in
    rw (closed, s, e) (ap (λ (k : ℕ). Some (piece Ident k)) is)
  where
    clash : (b : Bool) → b ≡ true → b ≡ false → ⊥
    clash true e g = cc
    clash false e g = cc

plain_function : (text : List ℕ) (n : ℕ) → name_len text ≡ n → starts_ident text ≡ true
    → begins (λ c. c == 40) (drop (name_len text) text) ≡ true → opens_url text ≡ false → names_of text ≡ Some (piece Function (n + 1))
unfolding names_of names
plain_function text n is s e closed = rw (closed, s, e) (ap (λ (k : ℕ). Some (piece Function (k + 1))) is)

open_past_name : (text : List ℕ) → name_len text + 1 ≤ open_url_len text
open_past_name text = omega arith

url_far_at : (text : List ℕ) (size : ℕ) → opens_url text ≡ true → size < open_url_len text → size < length text
    → (p : Piece) × (names_of text ≡ Some p) × (size < p.len)
unfolding names_of
url_far_at text size opens a b =
    let h = urls_far size (name_len text) (open_url_len text) (run bad_url_unit (drop (open_url_len text) text)) (length text)
    (closes_url (drop (open_url_len text) text)) (starts_ident text) (begins (λ c. c == 40) (drop (name_len text) text)) a b in (
      h.0,
      ap (λ (o : Bool). names o (closes_url (drop (open_url_len text) text)) (starts_ident text)
          (begins (λ c. c == 40) (drop (name_len text) text)) (name_len text) (open_url_len text)
          (run bad_url_unit (drop (open_url_len text) text)) (length text)) opens ∙ h.1,
      h.2,
    )

name_far_at : (text : List ℕ) (size : ℕ) → starts_ident text ≡ true → size < name_len text → size < length text
    → (p : Piece) × (names_of text ≡ Some p) × (size < p.len)
unfolding names_of
name_far_at text size starts a b =
    let h = names_far size (name_len text) (open_url_len text) (run bad_url_unit (drop (open_url_len text) text)) (length text)
    (opens_url text) (closes_url (drop (open_url_len text) text)) (begins (λ c. c == 40) (drop (name_len text) text)) a
    (omega (arith, open_past_name text)) b in (
      h.0,
      ap (λ (s : Bool). names (opens_url text) (closes_url (drop (open_url_len text) text)) s
          (begins (λ c. c == 40) (drop (name_len text) text)) (name_len text) (open_url_len text)
          (run bad_url_unit (drop (open_url_len text) text)) (length text)) starts ∙ h.1,
      h.2,
    )

size_of : (o w x : ℕ) → w ≡ x - o → o ≤ x → o + w ≡ x
size_of o w x e f = omega arith

urls_any : (s s' b b' : Bool) (n n' : ℕ) (close : Bool) (o r all : ℕ) → names true close s b n o r all ≡ names true close s' b' n' o r all
unfolding names
urls_any s s' b b' n n' true o r all = refl
urls_any s s' b b' n n' false o r all = refl

-- where a url opens in both
opened_alike : (c : ℕ) → StopFacts c → (rest other x : List ℕ) (n : ℕ) → name_len (x ++ c ∷ rest) ≡ n → name_len (x ++ c ∷ other) ≡ n
    → n + 1 ≤ length x → opens_url (x ++ c ∷ rest) ≡ true → opens_url (x ++ c ∷ other) ≡ true
    → Alike (length x) (names_of (x ++ c ∷ rest)) (names_of (x ++ c ∷ other))
unfolding names_of
opened_alike c f rest other x n first second fits opens opens' =
    let t = x ++ c ∷ rest in
    let t' = x ++ c ∷ other in
    let z = drop (n + 1) x in
    let inner : drop (name_len t + 1) t ≡ z ++ c ∷ rest = ap (λ (k : ℕ). drop (k + 1) t) first ∙ drop-append-le (n + 1) x (c ∷ rest) fits in
    let inner' : drop (name_len t' + 1) t'
    ≡ z ++ c ∷ other = ap (λ (k : ℕ). drop (k + 1) t') second ∙ drop-append-le (n + 1) x (c ∷ other) fits in
    let o = open_url_len t in
    let o' = open_url_len t' in
    let o_is : o ≡ n + 1 + url_body_len (z ++ c ∷ rest) = omega (arith, first, ap url_body_len inner) in
    let o_is' : o' ≡ n + 1 + url_body_len (z ++ c ∷ other) = omega (arith, second, ap url_body_len inner') in
    let size : length z ≡ length x - (n + 1) = length-drop (n + 1) x in
    let more = longer x rest c in
    let further = longer x other c in
    let s = starts_ident t in
    let far : length x < o → length x < o' → Alike (length x) (names_of t) (names_of t') = λ a b.
    long_alike (length x) (names_of t) (names_of t')
    (url_far_at t (length x) opens a more) (url_far_at t' (length x) opens' b further) in
    elim (body_near c f rest other z) [
      | inr past ↦ far (omega (arith, o_is, past.0, size)) (omega (arith, o_is', past.1, size))
      | inl same ↦
          let o_same : o ≡ o' = omega (arith, o_is, o_is', same) in
          elim (less (length x) o) [
            | inl past ↦ far past (omega (arith, o_same))
            | inr within ↦
                let w = drop o x in
                let one : drop o t ≡ w ++ c ∷ rest = drop-append-le o x (c ∷ rest) within in
                let two : drop o' t' ≡ w ++ c ∷ other = ap (λ (k : ℕ). drop k t') (sym o_same) ∙ drop-append-le o x (c ∷ other) within in
                let w_size : length w ≡ length x - o = length-drop o x in
                let near = subst (λ (k : ℕ). Near k (o + run bad_url_unit (w ++ c ∷ rest)) (o + run bad_url_unit (w ++ c ∷ other)))
                (size_of o (length w) (length x) w_size within)
                (near_add o (length w) _ _ (run_near bad_url_unit c (bad_url_local c f) rest other w)) in
                let close_fits : closes_url (w ++ c ∷ rest) ≡ true
                → o + 1 ≤ length x = λ e. let some = closed_some c rest w f e in omega arith in
                let bad_fits : closes_url (w ++ c ∷ rest) ≡ false → o + run bad_url_unit (w ++ c ∷ rest) ≤ length x
                → o + run bad_url_unit (w ++ c ∷ rest) + 1 ≤ length x = λ _ short.
                let r = run bad_url_unit (w ++ c ∷ rest) in
                let at : drop r (w ++ c ∷ rest) ≡ drop r w ++ c ∷ rest = drop-append-le r w (c ∷ rest) (omega arith) in
                let some = bad_some c rest (drop r w) f (sym (ap bad_url_unit at) ∙ run_stops bad_url_unit refl (w ++ c ∷ rest)) in
                omega (arith, some, length-drop r w) in
                let here = urls_near (length x) (name_len t) o (run bad_url_unit (w ++ c ∷ rest)) (run bad_url_unit (w ++ c ∷ other))
                (length t) (length t') (closes_url (w ++ c ∷ rest)) s
                (begins (λ c. c == 40) (drop (name_len t) t)) more further close_fits near bad_fits in
                let left : names_of t ≡ names true (closes_url (w ++ c ∷ rest)) s (begins (λ c. c == 40) (drop (name_len t) t))
                (name_len t) o (run bad_url_unit (w ++ c ∷ rest)) (length t) =
                ap (λ (b : Bool). names b (closes_url (drop o t)) s (begins (λ c. c == 40) (drop (name_len t) t)) (name_len t) o
                (run bad_url_unit (drop o t)) (length t)) opens
                ∙ ap (λ (d : List ℕ). names true (closes_url d) s (begins (λ c. c == 40) (drop (name_len t) t)) (name_len t) o
                (run bad_url_unit d) (length t)) one in
                let right : names_of t' ≡ names true (closes_url (w ++ c ∷ rest)) s (begins (λ c. c == 40) (drop (name_len t) t))
                (name_len t) o (run bad_url_unit (w ++ c ∷ other)) (length t') =
                ap (λ (b : Bool). names b (closes_url (drop o' t')) (starts_ident t') (begins (λ c. c == 40) (drop (name_len t') t'))
                (name_len t') o' (run bad_url_unit (drop o' t')) (length t')) opens'
                ∙ ap (λ (d : List ℕ). names true (closes_url d) (starts_ident t') (begins (λ c. c == 40) (drop (name_len t') t'))
                (name_len t') o' (run bad_url_unit d) (length t')) two
                ∙ urls_any (starts_ident t') s (begins (λ c. c == 40) (drop (name_len t') t'))
                (begins (λ c. c == 40) (drop (name_len t) t)) (name_len t') (name_len t) (closes_url (w ++ c ∷ other)) o'
                (run bad_url_unit (w ++ c ∷ other)) (length t')
                ∙ ap (λ (b : Bool). names true b s (begins (λ c. c == 40) (drop (name_len t) t)) (name_len t) o'
                (run bad_url_unit (w ++ c ∷ other)) (length t')) (sym (closes_same c rest other w))
                ∙ ap (λ (k : ℕ). names true (closes_url (w ++ c ∷ rest)) s (begins (λ c. c == 40) (drop (name_len t) t)) (name_len t) k
                (run bad_url_unit (w ++ c ∷ other)) (length t')) (sym o_same) in
                subst (λ (a : Option Piece). Alike (length x) a (names_of t')) (sym left)
                (subst (Alike (length x) (names true (closes_url (w ++ c ∷ rest)) s (begins (λ c. c == 40) (drop (name_len t) t))
                (name_len t) o (run bad_url_unit (w ++ c ∷ rest)) (length t))) (sym right) here)
          ]
    ]

by_name : (c : ℕ) → StopFacts c → (rest other x : List ℕ) → starts_ident (x ++ c ∷ rest) ≡ true → starts_ident (x ++ c ∷ other) ≡ true
    → Near (length x) (name_len (x ++ c ∷ rest)) (name_len (x ++ c ∷ other))
    → Alike (length x) (names_of (x ++ c ∷ rest)) (names_of (x ++ c ∷ other))
by_name c f rest other x s s' (inr far) =
    long_alike (length x) _ _ (name_far_at (x ++ c ∷ rest) (length x) s far.0 (longer x rest c))
    (name_far_at (x ++ c ∷ other) (length x) s' far.1 (longer x other c))
by_name c f rest other x s s' (inl same) =
    let t = x ++ c ∷ rest in
    let t' = x ++ c ∷ other in
    let n = name_len t in
    elim (less (length x) n) [
      | inl past ↦ long_alike (length x) _ _ (name_far_at t (length x) s past (longer x rest c))
          (name_far_at t' (length x) s' (omega (arith, same)) (longer x other c))
      | inr within ↦
          let one : drop n t ≡ drop n x ++ c ∷ rest = drop-append-le n x (c ∷ rest) within in
          let two : drop (name_len t') t'
          ≡ drop n x ++ c ∷ other = ap (λ (k : ℕ). drop k t') (sym same) ∙ drop-append-le n x (c ∷ other) within in
          let round_same : begins (λ d. d == 40) (drop n t) ≡ begins (λ d. d == 40) (drop (name_len t') t') =
          ap (begins (λ d. d == 40)) one ∙ begins_same (λ d. d == 40) c rest other (drop n x) ∙ sym (ap (begins (λ d. d == 40)) two) in
          elim (begins (λ d. d == 40) (drop n t)) as
          (λ b. begins (λ d. d == 40) (drop n t) ≡ b → Alike (length x) (names_of t) (names_of t')) [
            | false ↦ λ bare. same_alike _ _ _ (bare_name t n refl s bare ∙ sym (bare_name t' n (sym same) s' (sym round_same ∙ bare)))
            | true ↦ λ round.
                let some = round_some c rest (drop n x) f (sym (ap (begins (λ d. d == 40)) one) ∙ round) in
                let fits : n + 1 ≤ length x = omega (arith, some, length-drop n x) in
                let opens_is : opens_url t ≡ opens_url t' = opens_same c f rest other x same fits in
                elim (opens_url t) as (λ b. opens_url t ≡ b → Alike (length x) (names_of t) (names_of t')) [
                  | false ↦ λ closed. same_alike _ _ _
                      (plain_function t n refl s round closed ∙ sym
                      (plain_function t' n (sym same) s' (sym round_same ∙ round) (sym opens_is ∙ closed)))
                  | true ↦ λ opens. opened_alike c f rest other x n refl (sym same) fits opens (sym opens_is ∙ opens)
                ] refl
          ] refl
    ]

named_alike : (c : ℕ) → StopFacts c → (rest other x : List ℕ) → Alike (length x) (names_of (x ++ c ∷ rest)) (names_of (x ++ c ∷ other))
named_alike c f rest other x =
    let t = x ++ c ∷ rest in
    let t' = x ++ c ∷ other in
    let starts : starts_ident t ≡ starts_ident t' = starts_same c rest other x f in
    elim (starts_ident t) as (λ b. starts_ident t ≡ b → Alike (length x) (names_of t) (names_of t')) [
      | false ↦ λ none. same_alike _ _ _ (no_start t none ∙ sym (no_start t' (sym starts ∙ none)))
      | true ↦ λ s. by_name c f rest other x s (sym starts ∙ s) (name_near c f rest other x)
    ] refl

mark_alike : (n a : ℕ) (x y : List ℕ) → Alike n (mark (a ∷ x)) (mark (a ∷ y))
unfolding mark
mark_alike n a x y = same_alike n _ _ refl

-- the rows in their order, where strings and names stand together
rows_together : (text : List ℕ)
    → first_piece text ≡ (comment text or
    (white_space text or ((string text or bad_string text) or
    (hash text or (numeric text or (cdc text or (names_of text or (cdo text or (at_keyword text or mark text)))))))))
unfolding first_piece names_of names url bad_url ident
rows_together text =
    ap (λ (o : Option Piece). comment text or (white_space text or o))
    (two (string text) (bad_string text) _
    ∙ ap (λ (o : Option Piece). (string text or bad_string text) or (hash text or (numeric text or (cdc text or o))))
    (three (url text) (bad_url text) (ident text) _))
  where
    two : (a b d : Option Piece) → (a or (b or d)) ≡ ((a or b) or d)
    two (Some p) b d = refl
    two None b d = refl

    three : (a b d e : Option Piece) → (a or (b or (d or e))) ≡ ((a or (b or d)) or e)
    three (Some p) b d e = refl
    three None (Some p) d e = refl
    three None None d e = refl

pub seam_first : (c : ℕ) → is_stop c ≡ true → (rest other : List ℕ) (a : ℕ) (x : List ℕ)
    → Alike (length (a ∷ x)) (first_piece (a ∷ (x ++ c ∷ rest))) (first_piece (a ∷ (x ++ c ∷ other)))
seam_first c stop rest other a x =
    let f = stop_facts c stop in
    let n = length (a ∷ x) in
    let all = or_alike n _ _ _ _ (comment_alike c f rest other a x)
    (or_alike n _ _ _ _ (white_alike c f rest other a x) (or_alike n _ _ _ _ (strings_alike c f rest other a x)
    (or_alike n _ _ _ _ (hash_alike c f rest other a x)
    (or_alike n _ _ _ _ (numeric_alike c f rest other (a ∷ x)) (or_alike n _ _ _ _ (cdc_alike c stop rest other a x)
    (or_alike n _ _ _ _ (named_alike c f rest other (a ∷ x))
    (or_alike n _ _ _ _ (cdo_alike c stop rest other a x)
    (or_alike n _ _ _ _ (at_alike c f rest other a x) (mark_alike n a (x ++ c ∷ rest) (x ++ c ∷ other)))))))))) in
    subst (λ (o : Option Piece). Alike n o (first_piece (a ∷ (x ++ c ∷ other)))) (sym (rows_together (a ∷ (x ++ c ∷ rest))))
    (subst (Alike n _) (sym (rows_together (a ∷ (x ++ c ∷ other)))) all)

-- a piece that ends before the character is the same whatever stands behind that character
short_same : (n : ℕ) (a b : Option Piece) (p : Piece) → Alike n a b → a ≡ Some p → p.len ≤ n → b ≡ Some p
short_same n a b p both_none e fits = cc
short_same n a b p (both_same q) e fits = e
short_same n a b p (both_long q r far further) e fits = let same : q ≡ p = cc in absurd (omega (arith, ap (λ (x : Piece). x.len) same, far))

pub piece_same : (c : ℕ) → is_stop c ≡ true → (rest other text : List ℕ) (p : Piece) → 0 < p.len → p.len ≤ length text
    → first_piece (text ++ c ∷ rest) ≡ Some p → first_piece (text ++ c ∷ other) ≡ Some p
piece_same c stop rest other [] p some fits e = absurd (omega arith)
piece_same c stop rest other (a ∷ x) p some fits e = short_same (length (a ∷ x)) _ _ p (seam_first c stop rest other a x) e fits
