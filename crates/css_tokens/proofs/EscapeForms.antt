-- The functions of escapes, newlines and the white space of an escape compute their forms.
use Rattle.std.proofs.Common.{◌≡◌, ℕ, zero, suc, ◌+◌, ◌<◌, ◌≤◌, ◌==◌, Bool, true, false, cond, ◌&&◌, not, List, [], ◌∷◌, ◌++◌, length, take}
use Rattle.std.proofs.Common.{drop, refl, ap, sym, ◌∙◌, subst, append_assoc, length-append, lit<, arith}
use Rattle.std.specs.List.{list_all, prefix_len}
use Rattle.std.specs.Char.{is_ascii_hexdigit}
use Rattle.std.proofs.Math.Seq.{drop-append_seam}
use Rattle.std.proofs.lemmas.Bool.Decides.{nat_tests}
use Rattle.css_tokens.specs.Codes.{is_newline, is_white, begins}
use Rattle.css_tokens.specs.Escapes.{newline_len, white_len, hex_len, escape_tail, escape_len, begins_escape}
use Rattle.css_tokens.specs.Forms.{IsNewline, line_crlf, line_code, IsOneWhite, white_none, white_crlf, white_code, AreHexDigits, IsEscape}
use Rattle.css_tokens.specs.Forms.{escape_hex, escape_code, escape_end}
use Rattle.css_tokens.proofs.RunForms.{Cut, Computes}
use Rattle.css_tokens.proofs.Ends.{and_true, not_true}
use Rattle.css_tokens.proofs.Unescaping.{same_code}

pub cut_at : (Form : List ℕ → List ℕ → Type 0) (front rest : List ℕ) (n : ℕ) → n ≡ length front → Form front rest
    → Cut Form (front ++ rest) n
cut_at Form front rest n len form = record { front = front; rest = rest; is = refl; len = len; form = form }

crlf_cut : (Form : List ℕ → List ℕ → Type 0) → ((rest : List ℕ) → Form (13 ∷ 10 ∷ []) rest) → (c d : ℕ) (rest : List ℕ)
    → (c == 13 && d == 10) ≡ true → Cut Form (c ∷ d ∷ rest) 2
crlf_cut Form form c d rest both =
    let t = and_true (c == 13) (d == 10) both in
    let first : c ≡ 13 = same_code c 13 t.0 in
    let second : d ≡ 10 = same_code d 10 t.1 in
    subst (λ (a : ℕ). Cut Form (a ∷ d ∷ rest) 2) (sym first)
    (subst (λ (b : ℕ). Cut Form (13 ∷ b ∷ rest) 2) (sym second) (cut_at Form (13 ∷ 10 ∷ []) rest 2 refl (form rest)))

-- newlines
pub newline_cut : (text : List ℕ) → begins is_newline text ≡ true → Cut IsNewline text (newline_len text)
newline_cut [] line = cc
newline_cut (c ∷ []) line =
    subst (λ (b : Bool). Cut IsNewline (c ∷ []) (cond b (cond (c == 13 && false) 2 1) 0)) (sym line)
    (elim (c == 13) as (λ b. (c == 13) ≡ b → Cut IsNewline (c ∷ []) (cond (b && false) 2 1)) [
      | true ↦ λ is. cut_at IsNewline (c ∷ []) [] 1 refl (line_code line (rw is refl))
      | false ↦ λ is. cut_at IsNewline (c ∷ []) [] 1 refl (line_code line (rw is refl))
    ] refl)
newline_cut (c ∷ d ∷ rest) line =
    subst (λ (b : Bool). Cut IsNewline (c ∷ d ∷ rest) (cond b (cond (c == 13 && d == 10) 2 1) 0)) (sym line)
    (elim (c == 13 && d == 10) as (λ b. (c == 13 && d == 10) ≡ b → Cut IsNewline (c ∷ d ∷ rest) (cond b 2 1)) [
      | true ↦ λ both. crlf_cut IsNewline (λ _. line_crlf) c d rest both
      | false ↦ λ one. cut_at IsNewline (c ∷ []) (d ∷ rest) 1 refl (line_code line one)
    ] refl)

pub newline_only : (line rest : List ℕ) → IsNewline line rest
    → (begins is_newline (line ++ rest) ≡ true) × (newline_len (line ++ rest) ≡ length line)
newline_only line rest line_crlf = (refl, refl)
newline_only line rest (line_code newline one) = (newline, rw (newline, one) refl)

-- the white space of an escape
pub white_cut : (text : List ℕ) → Cut IsOneWhite text (white_len text)
white_cut [] = cut_at IsOneWhite [] [] 0 refl (white_none refl)
white_cut (c ∷ []) =
    elim (c == 13) as (λ a. (c == 13) ≡ a → Cut IsOneWhite (c ∷ []) (cond (a && false) 2 (cond (is_white c) 1 0))) [
      | true ↦ λ is. one c (rw is refl)
      | false ↦ λ is. one c (rw is refl)
    ] refl
  where
    one : (c : ℕ) → (c == 13 && false) ≡ false → Cut IsOneWhite (c ∷ []) (cond (is_white c) 1 0)
    one c single =
        elim (is_white c) as (λ b. is_white c ≡ b → Cut IsOneWhite (c ∷ []) (cond b 1 0)) [
          | true ↦ λ white. cut_at IsOneWhite (c ∷ []) [] 1 refl (white_code white single)
          | false ↦ λ white. cut_at IsOneWhite [] (c ∷ []) 0 refl (white_none white)
        ] refl
white_cut (c ∷ d ∷ rest) =
    elim (c == 13 && d == 10) as (λ a. (c == 13 && d == 10) ≡ a → Cut IsOneWhite (c ∷ d ∷ rest) (cond a 2 (cond (is_white c) 1 0))) [
      | true ↦ λ both. crlf_cut IsOneWhite (λ _. white_crlf) c d rest both
      | false ↦ λ single. one c d rest single
    ] refl
  where
    one : (c d : ℕ) (rest : List ℕ) → (c == 13 && d == 10) ≡ false → Cut IsOneWhite (c ∷ d ∷ rest) (cond (is_white c) 1 0)
    one c d rest single =
        elim (is_white c) as (λ b. is_white c ≡ b → Cut IsOneWhite (c ∷ d ∷ rest) (cond b 1 0)) [
          | true ↦ λ white. cut_at IsOneWhite (c ∷ []) (d ∷ rest) 1 refl (white_code white single)
          | false ↦ λ white. cut_at IsOneWhite [] (c ∷ d ∷ rest) 0 refl (white_none white)
        ] refl

no_return : (c : ℕ) → is_white c ≡ false → (c == 13) ≡ false
no_return c white = grind (arith, nat_tests)

pub white_only : (white rest : List ℕ) → IsOneWhite white rest → white_len (white ++ rest) ≡ length white
white_only white [] (white_none none) = refl
white_only white (c ∷ rest) (white_none none) = let other = no_return c none in rw (other, none) refl
white_only white rest white_crlf = refl
white_only white rest (white_code is single) = rw (single, is) refl

-- hex digits, of which at most k are taken
pub hex_exact : (k : ℕ) (digits rest : List ℕ) → length digits ≤ k → list_all is_ascii_hexdigit digits ≡ true
    → (length digits < k → begins is_ascii_hexdigit rest ≡ false) → prefix_len is_ascii_hexdigit (take k (digits ++ rest)) ≡ length digits
hex_exact zero [] rest few hex all = refl
hex_exact (suc k) [] [] few hex all = refl
hex_exact (suc k) [] (c ∷ rest) few hex all = let stops : is_ascii_hexdigit c ≡ false = all (omega arith) in rw stops refl
hex_exact zero (d ∷ digits) rest few hex all = absurd (omega arith)
hex_exact (suc k) (d ∷ digits) rest few hex all =
    let t = and_true (is_ascii_hexdigit d) (list_all is_ascii_hexdigit digits) hex in
    let first : is_ascii_hexdigit d ≡ true = t.0 in
    let more : prefix_len is_ascii_hexdigit (take k (digits ++ rest))
    ≡ length digits = hex_exact k digits rest (omega arith) t.1 (λ less. all (omega arith)) in
    rw first (omega arith)

abbrev pub AreDigitsUpTo : ℕ → List ℕ → List ℕ → Type 0
AreDigitsUpTo k digits rest = (length digits ≤ k) × (list_all is_ascii_hexdigit digits ≡ true)
    × (length digits < k → begins is_ascii_hexdigit rest ≡ false)

pub hex_cut : (k : ℕ) (text : List ℕ) → Cut (AreDigitsUpTo k) text (prefix_len is_ascii_hexdigit (take k text))
hex_cut zero text = cut_at (AreDigitsUpTo zero) [] text 0 refl (omega arith, refl, λ less. absurd (omega arith))
hex_cut (suc k) [] = cut_at (AreDigitsUpTo (suc k)) [] [] 0 refl (omega arith, refl, λ less. refl)
hex_cut (suc k) (c ∷ rest) =
    elim (is_ascii_hexdigit c) as (λ b. is_ascii_hexdigit c ≡ b
    → Cut (AreDigitsUpTo (suc k)) (c ∷ rest) (cond b (1 + prefix_len is_ascii_hexdigit (take k rest)) 0)) [
      | true ↦ λ hex.
          let more = hex_cut k rest in
          record {
            front = c ∷ more.front;
            rest = more.rest;
            is = ap (λ (x : List ℕ). c ∷ x) more.is;
            len = omega (arith, more.len);
            form = (omega (arith, more.form.0), rw hex more.form.1, λ less. more.form.2 (omega arith));
          }
      | false ↦ λ hex. cut_at (AreDigitsUpTo (suc k)) [] (c ∷ rest) 0 refl (omega arith, refl, λ less. hex)
    ] refl

-- escapes
no_line : (c : ℕ) → is_ascii_hexdigit c ≡ true → is_newline c ≡ false
no_line c hex = grind (arith, nat_tests)

first_some : (c : ℕ) (rest digits more : List ℕ) → is_ascii_hexdigit c ≡ true → c ∷ rest ≡ digits ++ more
    → (length digits < 6 → begins is_ascii_hexdigit more ≡ false) → 0 < length digits
first_some c rest [] [] hex is all = cc
first_some c rest [] (d ∷ more) hex is all =
    let stops : is_ascii_hexdigit d ≡ false = all (lit< tt) in
    let same : c ≡ d = cc in
    let both : is_ascii_hexdigit c ≡ false = rw same stops in
    cc
first_some c rest (d ∷ digits) more hex is all = omega arith

coded_cut : (c : ℕ) (rest : List ℕ) → is_ascii_hexdigit c ≡ true
    → Cut IsEscape (92 ∷ c ∷ rest) (1 + (hex_len (c ∷ rest) + white_len (drop (hex_len (c ∷ rest)) (c ∷ rest))))
coded_cut c rest hex =
    let h = hex_cut 6 (c ∷ rest) in
    let w = white_cut h.rest in
    let past : drop (hex_len (c ∷ rest)) (c ∷ rest)
    ≡ h.rest = ap (λ (n : ℕ). drop n (c ∷ rest)) h.len ∙ ap (drop (length h.front)) h.is ∙ drop-append_seam h.front h.rest in
    let length_white : white_len (drop (hex_len (c ∷ rest)) (c ∷ rest)) ≡ length w.front = ap white_len past ∙ w.len in
    let all : length h.front < 6 → begins is_ascii_hexdigit (w.front ++ w.rest)
    ≡ false = λ less. sym (ap (begins is_ascii_hexdigit) w.is) ∙ h.form.2 less in
    record {
      front = 92 ∷ (h.front ++ w.front);
      rest = w.rest;
      is = ap (λ (x : List ℕ). 92 ∷ x) (h.is ∙ ap (λ (x : List ℕ). h.front ++ x) w.is ∙ sym (append_assoc h.front w.front w.rest));
      len = omega (arith, h.len, length_white, length-append h.front w.front);
      form = escape_hex h.front w.front refl
          (record { some = first_some c rest h.front h.rest hex h.is h.form.2; at_most_six = h.form.0; hex = h.form.1; all = all }) w.form;
    }

back_cut : (tail : List ℕ) → begins is_newline tail ≡ false → Cut IsEscape (92 ∷ tail) (1 + escape_tail tail)
unfolding escape_tail
back_cut [] line = cut_at IsEscape (92 ∷ []) [] (1 + 0) refl escape_end
back_cut (c ∷ rest) line =
    elim (is_ascii_hexdigit c) as (λ b. is_ascii_hexdigit c ≡ b
    → Cut IsEscape (92 ∷ c ∷ rest) (1 + cond b (hex_len (c ∷ rest) + white_len (drop (hex_len (c ∷ rest)) (c ∷ rest))) 1)) [
      | true ↦ λ hex. coded_cut c rest hex
      | false ↦ λ hex. cut_at IsEscape (92 ∷ c ∷ []) rest (1 + 1) refl (escape_code hex line)
    ] refl

escape_cut : (text : List ℕ) → 0 < escape_len text → Cut IsEscape text (escape_len text)
unfolding escape_len
escape_cut [] some = absurd (omega arith)
escape_cut (c ∷ rest) some =
    elim (c == 92 && not (begins is_newline rest)) as
    (λ b. (c == 92 && not (begins is_newline rest)) ≡ b → 0 < cond b (1 + escape_tail rest) 0
    → Cut IsEscape (c ∷ rest) (cond b (1 + escape_tail rest) 0)) [
      | true ↦ λ both _.
          let t = and_true (c == 92) _ both in
          subst (λ (a : ℕ). Cut IsEscape (a ∷ rest) (1 + escape_tail rest)) (sym (same_code c 92 t.0)) (back_cut rest (not_true _ t.1))
      | false ↦ λ _ none. absurd (omega arith)
    ] refl some

hex_tail : (digits white rest : List ℕ) → AreHexDigits digits (white ++ rest) → IsOneWhite white rest
    → (begins is_newline (digits ++ (white ++ rest)) ≡ false) × (escape_tail (digits ++ (white ++ rest)) ≡ length digits + length white)
unfolding escape_tail
hex_tail [] white rest are one = absurd (omega (arith, are.some))
hex_tail (d ∷ digits) white rest are one =
    let first : is_ascii_hexdigit d ≡ true = (and_true (is_ascii_hexdigit d) (list_all is_ascii_hexdigit digits) are.hex).0 in
    let exact : hex_len (d ∷ (digits ++ (white ++ rest)))
    ≡ length (d ∷ digits) = hex_exact 6 (d ∷ digits) (white ++ rest) are.at_most_six are.hex are.all in
    let past : drop (hex_len (d ∷ (digits ++ (white ++ rest)))) (d ∷ (digits ++ (white ++ rest)))
    ≡ white ++ rest = ap (λ (n : ℕ). drop n (d ∷ (digits ++ (white ++ rest)))) exact ∙ drop-append_seam (d ∷ digits) (white ++ rest) in
    let length_white : white_len (drop (hex_len (d ∷ (digits ++ (white ++ rest)))) (d ∷ (digits ++ (white ++ rest))))
    ≡ length white = ap white_len past ∙ white_only white rest one in (
      no_line d first,
      subst (λ (b : Bool). cond b (hex_len (d ∷ (digits ++ (white ++ rest)))
          + white_len (drop (hex_len (d ∷ (digits ++ (white ++ rest)))) (d ∷ (digits ++ (white ++ rest))))) 1
          ≡ length (d ∷ digits) + length white) (sym first)
          (omega (arith, exact, length_white)),
    )

-- an escape begins with a `\`, and no newline follows it
pub record EscapeIs (front rest : List ℕ) : Type 0 where
  pub some : 0 < length front
  pub begins : begins_escape (front ++ rest) ≡ true
  pub len : escape_len (front ++ rest) ≡ length front

pub escape_only : (front rest : List ℕ) → IsEscape front rest → EscapeIs front rest
unfolding escape_len escape_tail
escape_only front rest (escape_hex digits white is are one) =
    let t = hex_tail digits white rest are one in
    let assoc : (digits ++ white) ++ rest ≡ digits ++ (white ++ rest) = append_assoc digits white rest in
    let line : begins is_newline ((digits ++ white) ++ rest) ≡ false = ap (begins is_newline) assoc ∙ t.0 in
    let tail : escape_tail ((digits ++ white) ++ rest) ≡ length digits + length white = ap escape_tail assoc ∙ t.1 in
    subst (λ (f : List ℕ). EscapeIs f rest) (sym is)
    (record {
      some = omega arith;
      begins = rw line refl;
      len = rw line (omega (arith, tail, length-append digits white));
    })
escape_only front rest (escape_code hex line) = record { some = lit< tt; begins = rw line refl; len = rw (line, hex) refl }
escape_only front rest escape_end = record { some = lit< tt; begins = refl; len = refl }

pub escape_law : Computes IsEscape escape_len
unfolding escape_len
escape_law = record {
  at_end = refl;
  form = escape_cut;
  only = λ front rest is. ((escape_only front rest is).some, (escape_only front rest is).len);
}
