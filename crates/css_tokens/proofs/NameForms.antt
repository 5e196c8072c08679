-- The rows of strings, of what is made of a name, and of single characters give the pieces of their forms.
use Rattle.std.proofs.Common.{◌≡◌, ◌⊎◌, inl, inr, ℕ, suc, ◌+◌, ◌<◌, ◌==◌, Bool, true, false, cond, ◌&&◌, ◌||◌, not, nat_lt, List, [], ◌∷◌}
use Rattle.std.proofs.Common.{◌++◌, length, drop, nat_eq, slice_index, Some, refl, ap, sym, ◌∙◌, subst, append_assoc, length-append, arith}
use Rattle.std.specs.List.{starts_with}
use Rattle.std.proofs.Math.Seq.{drop-append_seam}
use Rattle.std.proofs.lemmas.List.{append-nil}
use Rattle.std.proofs.lemmas.Bool.Decides.{nat_tests}
use Rattle.css_tokens.specs.declared.token.TokenKind.{TokenKind}
use Rattle.css_tokens.specs.declared.token.TokenKind.TheVariants.{Str, BadString, Hash, Cdc, Ident, Function, Cdo, AtKeyword}
use Rattle.css_tokens.specs.declared.token.Piece.{Piece}
use Rattle.css_tokens.specs.Codes.{begins, is_newline, is_quote}
use Rattle.css_tokens.specs.Runs.{run, string_unit, name_unit, name_len, starts_ident}
use Rattle.css_tokens.specs.Rows.{piece, up_to_and_with, open_string_len, string, bad_string, hash, cdc, ident, cdo, at_keyword, mark}
use Rattle.css_tokens.specs.Rows.{mark_kind}
use Rattle.css_tokens.specs.Forms.{Units, ClosesWith, StringUnit, StringForm, BadStringForm, NameUnit, IsName, HashForm, CdcForm, IdentForm}
use Rattle.css_tokens.specs.Forms.{CdoForm, AtKeywordForm, MarkForm}
use Rattle.css_tokens.proofs.Ends.{and_true, not_true, when_some, string_stops}
use Rattle.css_tokens.proofs.Unescaping.{same_code}
use Rattle.css_tokens.proofs.RunForms.{Cut, units_run, run_cut, is_run, run_is}
use Rattle.css_tokens.proofs.UnitForms.{string_law, name_law}
use Rattle.css_tokens.proofs.RowForms.{RowLaw, Closing, ends_here, marked_here, closed_len}

-- what a text begins with
pub begins_with : (m : ℕ) (text : List ℕ) → begins (λ c. c == m) text ≡ true → (rest : List ℕ) × (text ≡ m ∷ rest)
begins_with m [] e = cc
begins_with m (c ∷ rest) e = (rest, ap (λ (x : ℕ). x ∷ rest) (same_code c m e))

begins_quote : (text : List ℕ) → begins is_quote text ≡ true
    → (quote : ℕ) × (rest : List ℕ) × (text ≡ quote ∷ rest) × (is_quote quote ≡ true)
begins_quote [] e = cc
begins_quote (c ∷ rest) e = (c, rest, refl, e)

-- strings
string_closing : (quote : ℕ) (text : List ℕ) → (text ≡ []) ⊎ ((slice_index text 0 ≡ quote) × (0 < length text)) → Closing (quote ∷ []) text
string_closing quote text (inl none) = subst (Closing (quote ∷ [])) (sym none) (ends_here (quote ∷ []))
string_closing quote [] (inr first) = absurd (omega (arith, first.1))
string_closing quote (c ∷ rest) (inr first) = subst (λ (a : ℕ). Closing (quote ∷ []) (a ∷ rest)) (sym first.0)
    (marked_here (quote ∷ []) rest)

pub past_run : (unit : List ℕ → ℕ) (text front rest : List ℕ) (n : ℕ) → text ≡ front ++ rest → n ≡ length front → drop n text ≡ rest
past_run unit text front rest n is len = ap (λ (k : ℕ). drop k text) len ∙ ap (drop (length front)) is ∙ drop-append_seam front rest

string_piece : (quote : ℕ) (text : List ℕ) → is_quote quote ≡ true → begins is_newline (drop (run (string_unit quote) text) text) ≡ false
    → Cut (StringForm Str) (quote ∷ text) (up_to_and_with (1 + run (string_unit quote) text) 1 (quote ∷ text))
string_piece quote text is_a line =
    let c = run_cut (StringUnit quote) (string_unit quote) (string_law quote is_a) text in
    let past : drop (run (string_unit quote) text) text ≡ c.rest = past_run (string_unit quote) text c.front c.rest _ c.is c.len in
    let e = string_closing quote c.rest (string_stops quote c.rest c.form.1 (sym (ap (begins is_newline) past) ∙ line)) in
    let whole : text ≡ (c.front ++ e.close)
    ++ e.rest = c.is ∙ ap (λ (x : List ℕ). c.front ++ x) e.is ∙ sym (append_assoc c.front e.close e.rest) in
    let size : length text ≡ length c.front + length e.close
    + length e.rest = ap length whole ∙ length-append (c.front ++ e.close) e.rest ∙ ap (λ (n : ℕ). n + length e.rest)
    (length-append c.front e.close) in
    record {
      front = quote ∷ (c.front ++ e.close);
      rest = e.rest;
      is = ap (λ (x : List ℕ). quote ∷ x) whole;
      len = closed_len (1 + run (string_unit quote) text) 1 _ _ e.close e.rest refl e.closed (omega (arith, size, c.len)) ∙ omega
          (arith, c.len, length-append c.front e.close);
      form = record {
        named = refl;
        quote = quote;
        body = c.front;
        close = e.close;
        a_quote = is_a;
        is = refl;
        units = subst (Units (StringUnit quote) c.front) e.is c.form.0;
        closed = e.closed;
      };
    }

line_behind : (n : ℕ) (c : ℕ) (text : List ℕ) → begins is_newline (drop (1 + n) (c ∷ text)) ≡ begins is_newline (drop n text)
line_behind n c text = let one : 1 + n ≡ suc n = omega arith in rw one refl

quote_no_line : (quote : ℕ) → is_quote quote ≡ true → is_newline quote ≡ false
quote_no_line quote is = grind (arith, nat_tests)

same_is_true : (c : ℕ) → (c == c) ≡ true
same_is_true c = grind (arith, nat_tests)

line_no_quote : (quote : ℕ) (rest : List ℕ) → begins is_newline rest ≡ true → string_unit quote rest ≡ 0
line_no_quote quote [] line = cc
line_no_quote quote (c ∷ rest) line = by_or (c == quote) (is_newline c) _ line
  where
    by_or : (a b : Bool) (n : ℕ) → b ≡ true → cond (a || b) 0 n ≡ 0
    by_or true b n e = refl
    by_or false true n e = refl
    by_or false false n e = cc

closes_string : (quote : ℕ) (close rest : List ℕ) → is_quote quote ≡ true → ClosesWith (quote ∷ []) close rest
    → (string_unit quote (close ++ rest) ≡ 0) × (begins is_newline (close ++ rest) ≡ false)
closes_string quote close rest is_a (inl is) =
    let same : (quote == quote) ≡ true = same_is_true quote in
    let line : is_newline quote ≡ false = quote_no_line quote is_a in
    subst (λ (c : List ℕ). (string_unit quote (c ++ rest) ≡ 0) × (begins is_newline (c ++ rest) ≡ false)) (sym is) (rw same refl, line)
closes_string quote close rest is_a (inr end) = rw (end.0, end.1) (refl, refl)

pub string_row_law : RowLaw StringForm string
unfolding string
string_row_law = record {
  form = λ text p found.
      let m = open_string_len text in
      let h = when_some (begins is_quote text && not (begins is_newline (drop m text))) (piece Str (up_to_and_with m 1 text)) p found in
      let t = and_true (begins is_quote text) _ h.0 in
      let q = begins_quote text t.0 in
      let n = run (string_unit q.0) q.1 in
      let line : begins is_newline (drop (open_string_len text) text) ≡ false = not_true _ t.1 in
      let here : begins is_newline (drop (1 + n) (q.0 ∷ q.1))
      ≡ false = sym (ap (λ (x : List ℕ). begins is_newline (drop (open_string_len x) x)) q.2) ∙ line in
      subst (λ (r : Piece). Cut (StringForm r.kind) text r.len) h.1
      (subst (λ (x : List ℕ). Cut (StringForm Str) x (up_to_and_with (open_string_len x) 1 x)) (sym q.2)
      (string_piece q.0 q.1 q.3 (sym (line_behind n q.0 q.1) ∙ here)));
  only = λ kind front rest f.
      let assoc : (f.body ++ f.close) ++ rest ≡ f.body ++ (f.close ++ rest) = append_assoc f.body f.close rest in
      let ends = closes_string f.quote f.close rest f.a_quote f.closed in
      let n = run (string_unit f.quote) ((f.body ++ f.close) ++ rest) in
      let length_run : n ≡ length f.body = ap (run (string_unit f.quote)) assoc ∙ units_run (StringUnit f.quote) (string_unit f.quote)
      (string_law f.quote f.a_quote) f.body (f.close ++ rest) f.units ends.0 in
      let past : drop n ((f.body ++ f.close) ++ rest)
      ≡ f.close ++ rest = past_run (string_unit f.quote) _ f.body (f.close ++ rest) n assoc length_run in
      let line : begins is_newline (drop (1 + n) (f.quote ∷ ((f.body ++ f.close) ++ rest)))
      ≡ false = line_behind n f.quote _ ∙ ap (begins is_newline) past ∙ ends.1 in
      let a_quote : is_quote f.quote ≡ true = f.a_quote in
      let size : length ((f.body ++ f.close) ++ rest)
      ≡ length f.body + length f.close
      + length rest = length-append (f.body ++ f.close) rest ∙ ap (λ (k : ℕ). k + length rest) (length-append f.body f.close) in
      let len : up_to_and_with (1 + n) 1 (f.quote ∷ ((f.body ++ f.close) ++ rest)) ≡ length (f.quote ∷ (f.body ++ f.close)) =
      closed_len (1 + n) 1 _ _ f.close rest refl f.closed (omega (arith, size, length_run)) ∙ omega
      (arith, length_run, length-append f.body f.close) in
      subst (λ (k : TokenKind). string (front ++ rest) ≡ Some (piece k (length front))) (sym f.named)
      (subst (λ (x : List ℕ). string (x ++ rest) ≡ Some (piece Str (length x))) (sym f.is)
      (rw (a_quote, line) (ap (λ (k : ℕ). Some (piece Str k)) len)));
}

pub bad_string_row_law : RowLaw BadStringForm bad_string
unfolding bad_string
bad_string_row_law = record {
  form = λ text p found.
      let m = open_string_len text in
      let h = when_some (begins is_quote text && begins is_newline (drop m text)) (piece BadString m) p found in
      let t = and_true (begins is_quote text) (begins is_newline (drop m text)) h.0 in
      let q = begins_quote text t.0 in
      let n = run (string_unit q.0) q.1 in
      let here : begins is_newline (drop (1 + n) (q.0 ∷ q.1))
      ≡ true = sym (ap (λ (x : List ℕ). begins is_newline (drop (open_string_len x) x)) q.2) ∙ t.1 in
      let c = run_cut (StringUnit q.0) (string_unit q.0) (string_law q.0 q.3) q.1 in
      let past : drop n q.1 ≡ c.rest = past_run (string_unit q.0) q.1 c.front c.rest _ c.is c.len in
      subst (λ (r : Piece). Cut (BadStringForm r.kind) text r.len) h.1
      (subst (λ (x : List ℕ). Cut (BadStringForm BadString) x (open_string_len x)) (sym q.2)
      (record {
        front = q.0 ∷ c.front;
        rest = c.rest;
        is = ap (λ (x : List ℕ). q.0 ∷ x) c.is;
        len = omega (arith, c.len);
        form = record {
          named = refl;
          quote = q.0;
          body = c.front;
          a_quote = q.3;
          is = refl;
          units = c.form.0;
          line = sym (ap (begins is_newline) past) ∙ sym (line_behind n q.0 q.1) ∙ here;
        };
      }));
  only = λ kind front rest f.
      let n = run (string_unit f.quote) (f.body ++ rest) in
      let length_run : n ≡ length f.body = units_run (StringUnit f.quote) (string_unit f.quote)
      (string_law f.quote f.a_quote) f.body rest f.units (line_no_quote f.quote rest f.line) in
      let past : drop n (f.body ++ rest) ≡ rest = past_run (string_unit f.quote) _ f.body rest n refl length_run in
      let line : begins is_newline (drop (1 + n) (f.quote ∷ (f.body ++ rest)))
      ≡ true = line_behind n f.quote _ ∙ ap (begins is_newline) past ∙ f.line in
      let a_quote : is_quote f.quote ≡ true = f.a_quote in
      subst (λ (k : TokenKind). bad_string (front ++ rest) ≡ Some (piece k (length front))) (sym f.named)
      (subst (λ (x : List ℕ). bad_string (x ++ rest) ≡ Some (piece BadString (length x))) (sym f.is)
      (rw (a_quote, line) (ap (λ (k : ℕ). Some (piece BadString k)) (omega (arith, length_run)))));
}

-- names
pub name_cut : (text : List ℕ) → Cut IsName text (name_len text)
name_cut text =
    let c = run_cut NameUnit name_unit name_law text in
    record {
      front = c.front;
      rest = c.rest;
      is = c.is;
      len = c.len;
      form = is_run NameUnit name_unit name_law c.front c.rest c.form.0 c.form.1;
    }

pub name_is : (name rest : List ℕ) → IsName name rest → name_len (name ++ rest) ≡ length name
name_is name rest h = run_is NameUnit name_unit name_law name rest h

pub lt_true : (a b : ℕ) → nat_lt a b ≡ true → a < b
lt_true a b e = grind (arith, nat_tests)

pub true_lt : (a b : ℕ) → a < b → nat_lt a b ≡ true
true_lt a b e = grind (arith, nat_tests)

pub hash_row_law : RowLaw HashForm hash
unfolding hash
hash_row_law = record {
  form = λ text p found.
      let h = when_some (begins (λ c. c == 35) text && nat_lt 0 (name_len (drop 1 text)))
      (piece (Hash (starts_ident (drop 1 text))) (1 + name_len (drop 1 text))) p found in
      let t = and_true (begins (λ c. c == 35) text) _ h.0 in
      let b = begins_with 35 text t.0 in
      let c = name_cut b.0 in
      let some : 0 < name_len (drop 1 text) = lt_true _ _ t.1 in
      let same : name_len (drop 1 text) ≡ name_len b.0 = ap (λ (x : List ℕ). name_len (drop 1 x)) b.1 in
      subst (λ (q : Piece). Cut (HashForm q.kind) text q.len) h.1
      (subst (λ (x : List ℕ). Cut (HashForm (Hash (starts_ident (drop 1 x)))) x (1 + name_len (drop 1 x))) (sym b.1)
      (record {
        front = 35 ∷ c.front;
        rest = c.rest;
        is = ap (λ (x : List ℕ). 35 ∷ x) c.is;
        len = omega (arith, c.len);
        form = record {
          name = c.front;
          named = ap (λ (x : List ℕ). Hash (starts_ident x)) c.is;
          is = refl;
          some = omega (arith, c.len, same);
          a_name = c.form;
        };
      }));
  only = λ kind front rest f.
      let len : name_len (f.name ++ rest) ≡ length f.name = name_is f.name rest f.a_name in
      let some : nat_lt 0 (name_len (f.name ++ rest)) ≡ true = true_lt _ _ (omega (arith, len, f.some)) in
      subst (λ (k : TokenKind). hash (front ++ rest) ≡ Some (piece k (length front))) (sym f.named)
      (subst (λ (x : List ℕ). hash (x ++ rest) ≡ Some (piece (Hash (starts_ident (f.name ++ rest))) (length x))) (sym f.is)
      (rw some (ap (λ (n : ℕ). Some (piece (Hash (starts_ident (f.name ++ rest))) n)) (omega (arith, len)))));
}

pub at_keyword_row_law : RowLaw AtKeywordForm at_keyword
unfolding at_keyword
at_keyword_row_law = record {
  form = λ text p found.
      let h = when_some (begins (λ c. c == 64) text && starts_ident (drop 1 text)) (piece AtKeyword (1 + name_len (drop 1 text))) p found in
      let t = and_true (begins (λ c. c == 64) text) (starts_ident (drop 1 text)) h.0 in
      let b = begins_with 64 text t.0 in
      let c = name_cut b.0 in
      let starts : starts_ident b.0 ≡ true = sym (ap (λ (x : List ℕ). starts_ident (drop 1 x)) b.1) ∙ t.1 in
      subst (λ (q : Piece). Cut (AtKeywordForm q.kind) text q.len) h.1
      (subst (λ (x : List ℕ). Cut (AtKeywordForm AtKeyword) x (1 + name_len (drop 1 x))) (sym b.1)
      (record {
        front = 64 ∷ c.front;
        rest = c.rest;
        is = ap (λ (x : List ℕ). 64 ∷ x) c.is;
        len = omega (arith, c.len);
        form = record { named = refl; name = c.front; is = refl; starts = sym (ap starts_ident c.is) ∙ starts; a_name = c.form };
      }));
  only = λ kind front rest f.
      let len : name_len (f.name ++ rest) ≡ length f.name = name_is f.name rest f.a_name in
      let starts : starts_ident (f.name ++ rest) ≡ true = f.starts in
      subst (λ (k : TokenKind). at_keyword (front ++ rest) ≡ Some (piece k (length front))) (sym f.named)
      (subst (λ (x : List ℕ). at_keyword (x ++ rest) ≡ Some (piece AtKeyword (length x))) (sym f.is)
      (rw starts (ap (λ (n : ℕ). Some (piece AtKeyword n)) (omega (arith, len)))));
}

pub ident_row_law : RowLaw IdentForm ident
unfolding ident
ident_row_law = record {
  form = λ text p found.
      let n = name_len text in
      let h = when_some (starts_ident text) _ p found in
      let c = name_cut text in
      let past : drop n text ≡ c.rest = past_run name_unit text c.front c.rest n c.is c.len in
      let starts : starts_ident (c.front ++ c.rest) ≡ true = sym (ap starts_ident c.is) ∙ h.0 in
      subst (λ (q : Piece). Cut (IdentForm q.kind) text q.len) h.1
      (elim (begins (λ c. c == 40) (drop n text)) as
      (λ b. begins (λ c. c == 40) (drop n text) ≡ b
      → Cut (IdentForm (cond b (piece Function (n + 1)) (piece Ident n)).kind) text
      (cond b (piece Function (n + 1)) (piece Ident n)).len) [
        | true ↦ λ round.
            let b = begins_with 40 c.rest (sym (ap (begins (λ c. c == 40)) past) ∙ round) in
            record {
              front = c.front ++ 40 ∷ [];
              rest = b.0;
              is = c.is ∙ ap (λ (x : List ℕ). c.front ++ x) b.1 ∙ sym (append_assoc c.front (40 ∷ []) b.0);
              len = omega (arith, c.len, length-append c.front (40 ∷ []));
              form = record {
                name = c.front;
                close = 40 ∷ [];
                is = refl;
                starts = subst (λ (x : List ℕ). starts_ident (c.front ++ x) ≡ true) b.1 starts;
                a_name = subst (IsName c.front) b.1 c.form;
                kinds = inl (refl, refl);
              };
            }
        | false ↦ λ bare.
            record {
              front = c.front;
              rest = c.rest;
              is = c.is;
              len = c.len;
              form = record {
                name = c.front;
                close = [];
                is = sym (append-nil c.front);
                starts = starts;
                a_name = c.form;
                kinds = inr (refl, refl, sym (ap (begins (λ c. c == 40)) past) ∙ bare);
              };
            }
      ] refl);
  only = λ kind front rest f.
      let whole : front ++ rest ≡ f.name ++ (f.close ++ rest) = ap (λ (x : List ℕ). x ++ rest) f.is ∙ append_assoc f.name f.close rest in
      let len : name_len (front ++ rest) ≡ length f.name = ap name_len whole ∙ name_is f.name (f.close ++ rest) f.a_name in
      let past : drop (name_len (front ++ rest)) (front ++ rest)
      ≡ f.close ++ rest = past_run name_unit _ f.name (f.close ++ rest) _ whole len in
      let starts : starts_ident (front ++ rest) ≡ true = ap starts_ident whole ∙ f.starts in
      elim f.kinds [
        | inl called ↦
            let round : begins (λ c. c == 40) (drop (name_len (front ++ rest)) (front ++ rest))
            ≡ true = ap (begins (λ c. c == 40)) (past ∙ ap (λ (x : List ℕ). x ++ rest) called.1) in
            let size : length front ≡ length f.name
            + 1 = ap length f.is ∙ length-append f.name f.close ∙ omega (arith, ap length called.1) in
            subst (λ (k : TokenKind). ident (front ++ rest) ≡ Some (piece k (length front))) (sym called.0)
            (rw (starts, round) (ap (λ (n : ℕ). Some (piece Function n)) (omega (arith, len, size))))
        | inr bare ↦
            let round : begins (λ c. c == 40) (drop (name_len (front ++ rest)) (front ++ rest))
            ≡ false = ap (begins (λ c. c == 40)) (past ∙ ap (λ (x : List ℕ). x ++ rest) bare.1) ∙ bare.2 in
            let size : length front ≡ length f.name = ap length f.is ∙ length-append f.name f.close ∙ omega (arith, ap length bare.1) in
            subst (λ (k : TokenKind). ident (front ++ rest) ≡ Some (piece k (length front))) (sym bare.0)
            (rw (starts, round) (ap (λ (n : ℕ). Some (piece Ident n)) (omega (arith, len, size))))
      ];
}

-- single characters
pub mark_row_law : RowLaw MarkForm mark
unfolding mark
mark_row_law = record { form = form; only = only }
  where
    form : (text : List ℕ) (p : Piece) → mark text ≡ Some p → Cut (MarkForm p.kind) text p.len
    form [] p found = cc
    form (c ∷ rest) p found =
        let same : piece (mark_kind c) 1 ≡ p = cc in
        subst (λ (q : Piece). Cut (MarkForm q.kind) (c ∷ rest) q.len) same
        (record { front = c ∷ []; rest = rest; is = refl; len = refl; form = record { character = c; is = refl; named = refl } })

    only : (kind : TokenKind) (front rest : List ℕ) → MarkForm kind front rest → mark (front ++ rest) ≡ Some (piece kind (length front))
    only kind front rest f =
        subst (λ (k : TokenKind). mark (front ++ rest) ≡ Some (piece k (length front))) (sym f.named)
        (subst (λ (x : List ℕ). mark (x ++ rest) ≡ Some (piece (mark_kind f.character) (length x))) (sym f.is) refl)

-- `-->` and `<!--`
opens_cdc : (text : List ℕ) → starts_with nat_eq text (45 ∷ 45 ∷ 62 ∷ []) ≡ true → (rest : List ℕ) × (text ≡ 45 ∷ 45 ∷ 62 ∷ rest)
opens_cdc [] e = cc
opens_cdc (a ∷ []) e = absurd (by_and (nat_eq 45 a) e)
  where
    by_and : (x : Bool) → (x && false) ≡ true → ⊥
    by_and true e = cc
    by_and false e = cc
opens_cdc (a ∷ b ∷ []) e = absurd (by_and (nat_eq 45 a) (nat_eq 45 b) e)
  where
    by_and : (x y : Bool) → (x && (y && false)) ≡ true → ⊥
    by_and true true e = cc
    by_and true false e = cc
    by_and false y e = cc
opens_cdc (a ∷ b ∷ c ∷ rest) e =
    let one : a ≡ 45 = grind (arith, nat_tests) in
    let two : b ≡ 45 = grind (arith, nat_tests) in
    let three : c ≡ 62 = grind (arith, nat_tests) in
    (rest, ap (λ (x : ℕ). x ∷ b ∷ c ∷ rest) one ∙ ap (λ (x : ℕ). 45 ∷ x ∷ c ∷ rest) two ∙ ap (λ (x : ℕ). 45 ∷ 45 ∷ x ∷ rest) three)

pub cdc_row_law : RowLaw CdcForm cdc
unfolding cdc
cdc_row_law = record {
  form = λ text p found.
      let h = when_some (starts_with nat_eq text (45 ∷ 45 ∷ 62 ∷ [])) (piece Cdc 3) p found in
      let o = opens_cdc text h.0 in
      subst (λ (q : Piece). Cut (CdcForm q.kind) text q.len) h.1
      (record { front = 45 ∷ 45 ∷ 62 ∷ []; rest = o.0; is = o.1; len = refl; form = record { named = refl; is = refl } });
  only = λ kind front rest f.
      subst (λ (k : TokenKind). cdc (front ++ rest) ≡ Some (piece k (length front))) (sym f.named)
      (subst (λ (x : List ℕ). cdc (x ++ rest) ≡ Some (piece Cdc (length x))) (sym f.is) refl);
}

opens_cdo : (text : List ℕ) → starts_with nat_eq text (60 ∷ 33 ∷ 45 ∷ 45 ∷ []) ≡ true → (rest : List ℕ) × (text ≡ 60 ∷ 33 ∷ 45 ∷ 45 ∷ rest)
opens_cdo [] e = cc
opens_cdo (a ∷ []) e = absurd (by_and (nat_eq 60 a) e)
  where
    by_and : (x : Bool) → (x && false) ≡ true → ⊥
    by_and true e = cc
    by_and false e = cc
opens_cdo (a ∷ b ∷ []) e = absurd (by_and (nat_eq 60 a) (nat_eq 33 b) e)
  where
    by_and : (x y : Bool) → (x && (y && false)) ≡ true → ⊥
    by_and true true e = cc
    by_and true false e = cc
    by_and false y e = cc
opens_cdo (a ∷ b ∷ c ∷ []) e = absurd (by_and (nat_eq 60 a) (nat_eq 33 b) (nat_eq 45 c) e)
  where
    by_and : (x y z : Bool) → (x && (y && (z && false))) ≡ true → ⊥
    by_and true true true e = cc
    by_and true true false e = cc
    by_and true false z e = cc
    by_and false y z e = cc
opens_cdo (a ∷ b ∷ c ∷ d ∷ rest) e =
    let one : a ≡ 60 = grind (arith, nat_tests) in
    let two : b ≡ 33 = grind (arith, nat_tests) in
    let three : c ≡ 45 = grind (arith, nat_tests) in
    let four : d ≡ 45 = grind (arith, nat_tests) in (
      rest,
      ap (λ (x : ℕ). x ∷ b ∷ c ∷ d ∷ rest) one ∙ ap (λ (x : ℕ). 60 ∷ x ∷ c ∷ d ∷ rest) two ∙ ap
          (λ (x : ℕ). 60 ∷ 33 ∷ x ∷ d ∷ rest) three ∙ ap (λ (x : ℕ). 60 ∷ 33 ∷ 45 ∷ x ∷ rest) four,
    )

pub cdo_row_law : RowLaw CdoForm cdo
unfolding cdo
cdo_row_law = record {
  form = λ text p found.
      let h = when_some (starts_with nat_eq text (60 ∷ 33 ∷ 45 ∷ 45 ∷ [])) (piece Cdo 4) p found in
      let o = opens_cdo text h.0 in
      subst (λ (q : Piece). Cut (CdoForm q.kind) text q.len) h.1
      (record { front = 60 ∷ 33 ∷ 45 ∷ 45 ∷ []; rest = o.0; is = o.1; len = refl; form = record { named = refl; is = refl } });
  only = λ kind front rest f.
      subst (λ (k : TokenKind). cdo (front ++ rest) ≡ Some (piece k (length front))) (sym f.named)
      (subst (λ (x : List ℕ). cdo (x ++ rest) ≡ Some (piece Cdo (length x))) (sym f.is) refl);
}
