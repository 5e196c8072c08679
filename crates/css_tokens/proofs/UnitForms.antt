-- The functions of the five units compute their forms.
use Rattle.std.proofs.Common.{◌≡◌, ℕ, ◌+◌, ◌<◌, ◌==◌, true, false, cond, ◌&&◌, ◌||◌, List, [], ◌∷◌, ◌++◌, length, refl, ap, sym, ◌∙◌, subst}
use Rattle.std.proofs.Common.{lit<, arith}
use Rattle.std.proofs.lemmas.Bool.Decides.{nat_tests}
use Rattle.css_tokens.specs.Codes.{is_newline, is_quote, is_ident, begins}
use Rattle.css_tokens.specs.Escapes.{newline_len, escape_len, begins_escape}
use Rattle.css_tokens.specs.Runs.{comment_unit, string_unit, name_unit, url_unit, bad_url_unit, ends_url}
use Rattle.css_tokens.specs.Forms.{IsEscape, CommentUnit, comment_code, StringUnit, string_code, string_escape, string_line, NameUnit}
use Rattle.css_tokens.specs.Forms.{name_code, name_escape, UrlUnit, url_code, url_escape, BadUrlUnit, bad_code, bad_escape}
use Rattle.css_tokens.proofs.RunForms.{Cut, Computes}
use Rattle.css_tokens.proofs.EscapeForms.{cut_at, escape_law, escape_only, newline_cut, newline_only}
use Rattle.css_tokens.proofs.Ends.{and_true, not_true}
use Rattle.css_tokens.proofs.Unescaping.{same_code}

map_cut : (F G : List ℕ → List ℕ → Type 0) → ((front rest : List ℕ) → F front rest → G front rest) → (text : List ℕ) (n : ℕ) → Cut F text n
    → Cut G text n
map_cut F G f text n c = record { front = c.front; rest = c.rest; is = c.is; len = c.len; form = f c.front c.rest c.form }

-- comments
pub comment_law : Computes CommentUnit comment_unit
comment_law = record { at_end = refl; form = form; only = only }
  where
    form : (text : List ℕ) → 0 < comment_unit text → Cut CommentUnit text (comment_unit text)
    form [] some = absurd (omega arith)
    form (c ∷ rest) some =
        elim (c == 42 && begins (λ d. d == 47) rest) as
        (λ b. (c == 42 && begins (λ d. d == 47) rest) ≡ b → 0 < cond b 0 1 → Cut CommentUnit (c ∷ rest) (cond b 0 1)) [
          | true ↦ λ _ none. absurd (omega arith)
          | false ↦ λ is _. cut_at CommentUnit (c ∷ []) rest 1 refl (comment_code is)
        ] refl some

    only : (front rest : List ℕ) → CommentUnit front rest → (0 < length front) × (comment_unit (front ++ rest) ≡ length front)
    only front rest (comment_code is) = (lit< tt, rw is refl)

-- names
back_no_ident : (c : ℕ) → c ≡ 92 → is_ident c ≡ false
back_no_ident c is = rw is refl

name_at_escape : (text : List ℕ) → begins_escape text ≡ true → name_unit text ≡ escape_len text
name_at_escape [] begins = cc
name_at_escape (c ∷ rest) begins = let other : is_ident c
    ≡ false = back_no_ident c (same_code c 92 (and_true (c == 92) _ begins).0) in rw other refl

pub name_law : Computes NameUnit name_unit
name_law = record { at_end = refl; form = form; only = only }
  where
    form : (text : List ℕ) → 0 < name_unit text → Cut NameUnit text (name_unit text)
    form [] some = absurd (omega arith)
    form (c ∷ rest) some =
        elim (is_ident c) as (λ b. is_ident c ≡ b → 0 < cond b 1 (escape_len (c ∷ rest))
        → Cut NameUnit (c ∷ rest) (cond b 1 (escape_len (c ∷ rest)))) [
          | true ↦ λ is _. cut_at NameUnit (c ∷ []) rest 1 refl (name_code is)
          | false ↦ λ _ more. map_cut IsEscape NameUnit (λ front rest e. name_escape e) (c ∷ rest) _ (escape_law.form (c ∷ rest) more)
        ] refl some

    only : (front rest : List ℕ) → NameUnit front rest → (0 < length front) × (name_unit (front ++ rest) ≡ length front)
    only front rest (name_code is) = (lit< tt, rw is refl)
    only front rest (name_escape e) = let h = escape_only front rest e in (h.some, name_at_escape (front ++ rest) h.begins ∙ h.len)

-- strings
back_no_string : (quote : ℕ) → is_quote quote ≡ true → (92 == quote) ≡ false
back_no_string quote is = grind (arith, nat_tests)

string_at_escape : (quote : ℕ) (text : List ℕ) → is_quote quote ≡ true → begins_escape text ≡ true
    → string_unit quote text ≡ escape_len text
string_at_escape quote [] is_a begins_it = cc
string_at_escape quote (c ∷ rest) is_a begins_it =
    let t = and_true (c == 92) _ begins_it in
    let back : c ≡ 92 = same_code c 92 t.0 in
    let other : (92 == quote) ≡ false = back_no_string quote is_a in
    let line : begins is_newline rest ≡ false = not_true _ t.1 in
    rw (back, other, line) refl

-- behind a `\\` in a string
line_cut : (quote : ℕ) (rest : List ℕ) → begins is_newline rest ≡ true → Cut (StringUnit quote) (92 ∷ rest) (1 + newline_len rest)
line_cut quote rest newline =
    let c = newline_cut rest newline in
    record {
      front = 92 ∷ c.front;
      rest = c.rest;
      is = ap (λ (x : List ℕ). 92 ∷ x) c.is;
      len = omega (arith, c.len);
      form = string_line c.front refl c.form;
    }

back_unit : (quote c : ℕ) (rest : List ℕ) → (c == 92) ≡ true
    → 0 < cond (begins is_newline rest) (1 + newline_len rest) (escape_len (c ∷ rest))
    → Cut (StringUnit quote) (c ∷ rest) (cond (begins is_newline rest) (1 + newline_len rest) (escape_len (c ∷ rest)))
back_unit quote c rest back some =
    elim (begins is_newline rest) as
    (λ b. begins is_newline rest ≡ b → 0 < cond b (1 + newline_len rest) (escape_len (c ∷ rest))
    → Cut (StringUnit quote) (c ∷ rest) (cond b (1 + newline_len rest) (escape_len (c ∷ rest)))) [
      | true ↦ λ newline _. subst (λ (a : ℕ). Cut (StringUnit quote) (a ∷ rest) (1 + newline_len rest)) (sym (same_code c 92 back))
          (line_cut quote rest newline)
      | false ↦ λ _ more. map_cut IsEscape (StringUnit quote) (λ front others e. string_escape e) (c ∷ rest) _
          (escape_law.form (c ∷ rest) more)
    ] refl some

string_form : (quote : ℕ) (text : List ℕ) → 0 < string_unit quote text → Cut (StringUnit quote) text (string_unit quote text)
string_form quote [] some = absurd (omega arith)
string_form quote (c ∷ rest) some =
    let inner : ℕ = cond (c == 92) (cond (begins is_newline rest) (1 + newline_len rest) (escape_len (c ∷ rest))) 1 in
    elim (c == quote || is_newline c) as
    (λ b. (c == quote || is_newline c) ≡ b → 0 < cond b 0 inner → Cut (StringUnit quote) (c ∷ rest) (cond b 0 inner)) [
      | true ↦ λ _ none. absurd (omega arith)
      | false ↦ λ plain more.
          elim (c == 92) as (λ b. (c == 92) ≡ b
          → 0 < cond b (cond (begins is_newline rest) (1 + newline_len rest) (escape_len (c ∷ rest))) 1
          → Cut (StringUnit quote) (c ∷ rest)
          (cond b (cond (begins is_newline rest) (1 + newline_len rest) (escape_len (c ∷ rest))) 1)) [
            | true ↦ λ back some. back_unit quote c rest back some
            | false ↦ λ back _. cut_at (StringUnit quote) (c ∷ []) rest 1 refl (string_code plain back)
          ] refl more
    ] refl some

string_only : (quote : ℕ) → is_quote quote ≡ true → (front rest : List ℕ) → StringUnit quote front rest
    → (0 < length front) × (string_unit quote (front ++ rest) ≡ length front)
string_only quote is_a front rest (string_code plain back) = (lit< tt, rw (plain, back) refl)
string_only quote is_a front rest (string_escape e) = let h = escape_only front rest e in
    (h.some, string_at_escape quote (front ++ rest) is_a h.begins ∙ h.len)
string_only quote is_a front rest (string_line line is newline) =
    let t = newline_only line rest newline in
    let other : (92 == quote) ≡ false = back_no_string quote is_a in
    subst (λ (f : List ℕ). (0 < length f) × (string_unit quote (f ++ rest) ≡ length f)) (sym is)
    (omega arith, rw (other, t.0) (omega (arith, t.1)))

pub string_law : (quote : ℕ) → is_quote quote ≡ true → Computes (StringUnit quote) (string_unit quote)
string_law quote is_a = record { at_end = refl; form = string_form quote; only = string_only quote is_a }

-- urls
back_no_end : (c : ℕ) → c ≡ 92 → ends_url c ≡ false
back_no_end c is = rw is refl

url_at_escape : (text : List ℕ) → begins_escape text ≡ true → url_unit text ≡ escape_len text
url_at_escape [] begins_it = cc
url_at_escape (c ∷ rest) begins_it =
    let t = and_true (c == 92) _ begins_it in
    let other : ends_url c ≡ false = back_no_end c (same_code c 92 t.0) in
    let back : (c == 92) ≡ true = t.0 in
    rw (other, back) refl

pub url_law : Computes UrlUnit url_unit
url_law = record { at_end = refl; form = form; only = only }
  where
    form : (text : List ℕ) → 0 < url_unit text → Cut UrlUnit text (url_unit text)
    form [] some = absurd (omega arith)
    form (c ∷ rest) some =
        elim (ends_url c) as (λ b. ends_url c ≡ b → 0 < cond b 0 (cond (c == 92) (escape_len (c ∷ rest)) 1)
        → Cut UrlUnit (c ∷ rest) (cond b 0 (cond (c == 92) (escape_len (c ∷ rest)) 1))) [
          | true ↦ λ _ none. absurd (omega arith)
          | false ↦ λ plain more.
              elim (c == 92) as (λ b. (c == 92) ≡ b → 0 < cond b (escape_len (c ∷ rest)) 1
              → Cut UrlUnit (c ∷ rest) (cond b (escape_len (c ∷ rest)) 1)) [
                | true ↦ λ _ some. map_cut IsEscape UrlUnit (λ front others e. url_escape e) (c ∷ rest) _ (escape_law.form (c ∷ rest) some)
                | false ↦ λ back _. cut_at UrlUnit (c ∷ []) rest 1 refl (url_code plain back)
              ] refl more
        ] refl some

    only : (front rest : List ℕ) → UrlUnit front rest → (0 < length front) × (url_unit (front ++ rest) ≡ length front)
    only front rest (url_code plain back) = (lit< tt, rw (plain, back) refl)
    only front rest (url_escape e) = let h = escape_only front rest e in (h.some, url_at_escape (front ++ rest) h.begins ∙ h.len)

-- bad urls
back_no_round : (c : ℕ) → c ≡ 92 → (c == 41) ≡ false
back_no_round c is = rw is refl

bad_url_at_escape : (text : List ℕ) → begins_escape text ≡ true → bad_url_unit text ≡ escape_len text
bad_url_at_escape [] begins_it = cc
bad_url_at_escape (c ∷ rest) begins_it =
    let other : (c == 41) ≡ false = back_no_round c (same_code c 92 (and_true (c == 92) _ begins_it).0) in
    rw (other, begins_it) refl

pub bad_url_law : Computes BadUrlUnit bad_url_unit
bad_url_law = record { at_end = refl; form = form; only = only }
  where
    form : (text : List ℕ) → 0 < bad_url_unit text → Cut BadUrlUnit text (bad_url_unit text)
    form [] some = absurd (omega arith)
    form (c ∷ rest) some =
        elim (c == 41) as (λ b. (c == 41) ≡ b → 0 < cond b 0 (cond (begins_escape (c ∷ rest)) (escape_len (c ∷ rest)) 1)
        → Cut BadUrlUnit (c ∷ rest) (cond b 0 (cond (begins_escape (c ∷ rest)) (escape_len (c ∷ rest)) 1))) [
          | true ↦ λ _ none. absurd (omega arith)
          | false ↦ λ plain more.
              elim (begins_escape (c ∷ rest)) as
              (λ b. begins_escape (c ∷ rest) ≡ b → 0 < cond b (escape_len (c ∷ rest)) 1
              → Cut BadUrlUnit (c ∷ rest) (cond b (escape_len (c ∷ rest)) 1)) [
                | true ↦ λ _ some. map_cut IsEscape BadUrlUnit (λ front others e. bad_escape e) (c ∷ rest) _
                    (escape_law.form (c ∷ rest) some)
                | false ↦ λ none _. cut_at BadUrlUnit (c ∷ []) rest 1 refl (bad_code plain none)
              ] refl more
        ] refl some

    only : (front rest : List ℕ) → BadUrlUnit front rest → (0 < length front) × (bad_url_unit (front ++ rest) ≡ length front)
    only front rest (bad_code plain none) = (lit< tt, rw (plain, none) refl)
    only front rest (bad_escape e) = let h = escape_only front rest e in (h.some, bad_url_at_escape (front ++ rest) h.begins ∙ h.len)
