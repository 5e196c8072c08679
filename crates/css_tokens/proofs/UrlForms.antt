-- The rows of urls and bad urls give the pieces of their forms.
use Rattle.std.proofs.Common.{◌≡◌, inl, inr, ℕ, ◌+◌, ◌<◌, ◌==◌, Bool, true, false, cond, ◌&&◌, not, List, [], ◌∷◌, ◌++◌, length, drop, take}
use Rattle.std.proofs.Common.{Some, refl, ap, sym, ◌∙◌, subst, append_assoc, length-append, arith}
use Rattle.std.proofs.Math.Seq.{drop-append_seam, take-append_seam}
use Rattle.std.proofs.lemmas.List.{drop-drop}
use Rattle.css_tokens.specs.declared.token.TokenKind.{TokenKind}
use Rattle.css_tokens.specs.declared.token.TokenKind.TheVariants.{Url, BadUrl}
use Rattle.css_tokens.specs.declared.token.Piece.{Piece}
use Rattle.css_tokens.specs.Codes.{begins, is_white, is_quote, is_newline}
use Rattle.css_tokens.specs.Escapes.{escape_len, begins_escape}
use Rattle.css_tokens.specs.Runs.{run, url_unit, bad_url_unit, name_len, starts_ident, white_run}
use Rattle.css_tokens.specs.Rows.{piece, up_to_and_with, is_url, opens_url, url_body_len, open_url_len, closes_url, url, bad_url}
use Rattle.css_tokens.specs.Forms.{Units, no_units, unit_and, IsRun, ClosesWith, IsName, IsWhiteRun, UrlUnit, OpensUrl, UrlForm, BadUrlUnit}
use Rattle.css_tokens.specs.Forms.{BadUrlForm}
use Rattle.css_tokens.proofs.Ends.{and_true, not_true, when_some}
use Rattle.css_tokens.proofs.Unescaping.{same_code}
use Rattle.css_tokens.proofs.RunForms.{Cut, units_run, run_cut, is_run, run_is}
use Rattle.css_tokens.proofs.UnitForms.{url_law, bad_url_law}
use Rattle.css_tokens.proofs.RowForms.{RowLaw, Closing, ends_here, marked_here, closed_len, passes_exact, passes_cut}
use Rattle.css_tokens.proofs.NameForms.{begins_with, name_cut, name_is, past_run}
use Rattle.css_tokens.proofs.UrlNames.{url_is, says_url, url_starts}

-- what follows `url(`
record Body (inner : List ℕ) : Type 0 where
  before : List ℕ
  body : List ℕ
  after : List ℕ
  rest : List ℕ
  is : inner ≡ before ++ (body ++ (after ++ rest))
  first_white : IsWhiteRun before (body ++ (after ++ rest))
  units : IsRun UrlUnit body (after ++ rest)
  last_white : IsWhiteRun after rest
  len : url_body_len inner ≡ length before + (length body + length after)
  quote : drop (white_run inner) inner ≡ body ++ (after ++ rest)

body_cut : (inner : List ℕ) → Body inner
unfolding url_body_len
body_cut inner =
    let a = passes_cut is_white inner in
    let b = run_cut UrlUnit url_unit url_law a.rest in
    let c = passes_cut is_white b.rest in
    let one : a.rest ≡ b.front ++ (c.front ++ c.rest) = b.is ∙ ap (λ (x : List ℕ). b.front ++ x) c.is in
    let past : drop (white_run inner) inner ≡ a.rest = past_run url_unit inner a.front a.rest _ a.is a.len in
    let middle : run url_unit (drop (white_run inner) inner) ≡ length b.front = ap (run url_unit) past ∙ b.len in
    let more : drop (white_run inner + run url_unit (drop (white_run inner) inner)) inner ≡ b.rest =
    sym (drop-drop (run url_unit (drop (white_run inner) inner)) (white_run inner) inner) ∙ ap
    (λ (n : ℕ). drop n (drop (white_run inner) inner)) middle ∙ ap (drop (length b.front))
    (past ∙ b.is) ∙ drop-append_seam b.front b.rest in
    let last : white_run (drop (white_run inner + run url_unit (drop (white_run inner) inner)) inner)
    ≡ length c.front = ap white_run more ∙ c.len in
    record {
      before = a.front;
      body = b.front;
      after = c.front;
      rest = c.rest;
      is = a.is ∙ ap (λ (x : List ℕ). a.front ++ x) one;
      first_white = (a.form.0, sym (ap (begins is_white) one) ∙ a.form.1);
      units = subst (IsRun UrlUnit b.front) c.is (is_run UrlUnit url_unit url_law b.front b.rest b.form.0 b.form.1);
      last_white = c.form;
      len = omega (arith, a.len, middle, last);
      quote = past ∙ one;
    }

body_is : (before body after rest : List ℕ) → IsWhiteRun before (body ++ (after ++ rest)) → IsRun UrlUnit body (after ++ rest)
    → IsWhiteRun after rest →
    (url_body_len (before ++ (body ++ (after ++ rest))) ≡ length before + (length body + length after))
    × (drop (white_run (before ++ (body ++ (after ++ rest)))) (before ++ (body ++ (after ++ rest))) ≡ body ++ (after ++ rest))
unfolding url_body_len
body_is before body after rest first_white units last_white =
    let inner = before ++ (body ++ (after ++ rest)) in
    let start : white_run inner ≡ length before = passes_exact is_white before (body ++ (after ++ rest)) first_white.0 first_white.1 in
    let past : drop (white_run inner) inner
    ≡ body ++ (after ++ rest) = past_run url_unit inner before (body ++ (after ++ rest)) _ refl start in
    let middle : run url_unit (drop (white_run inner) inner)
    ≡ length body = ap (run url_unit) past ∙ run_is UrlUnit url_unit url_law body (after ++ rest) units in
    let more : drop (white_run inner + run url_unit (drop (white_run inner) inner)) inner ≡ after ++ rest =
    sym (drop-drop (run url_unit (drop (white_run inner) inner)) (white_run inner) inner) ∙ ap
    (λ (n : ℕ). drop n (drop (white_run inner) inner)) middle ∙ ap (drop (length body)) past ∙ drop-append_seam body (after ++ rest) in
    let last : white_run (drop (white_run inner + run url_unit (drop (white_run inner) inner)) inner)
    ≡ length after = ap white_run more ∙ passes_exact is_white after rest last_white.0 last_white.1 in
    (omega (arith, start, middle, last), past)

-- a name, `(` and a body
called : (name inner : List ℕ) → drop (length name + 1) (name ++ 40 ∷ inner) ≡ inner
called name inner = sym (drop-drop 1 (length name) (name ++ 40 ∷ inner)) ∙ ap (drop 1) (drop-append_seam name (40 ∷ inner))

front_whole : (name before body after rest : List ℕ)
    → (name ++ 40 ∷ (before ++ (body ++ after))) ++ rest ≡ name ++ 40 ∷ (before ++ (body ++ (after ++ rest)))
front_whole name before body after rest =
    append_assoc name (40 ∷ (before ++ (body ++ after))) rest
    ∙ ap (λ (x : List ℕ). name ++ 40 ∷ x)
    (append_assoc before (body ++ after) rest ∙ ap (λ (x : List ℕ). before ++ x) (append_assoc body after rest))

front_size : (name before body after : List ℕ)
    → length (name ++ 40 ∷ (before ++ (body ++ after))) ≡ length name + 1 + (length before + (length body + length after))
front_size name before body after = omega
    (arith, length-append name (40 ∷ (before ++ (body ++ after))), length-append before (body ++ after), length-append body after)

and_four : (a b c d : Bool) → a ≡ true → b ≡ true → c ≡ true → d ≡ true → (((a && b) && c) && d) ≡ true
and_four true true true true e f g h = refl
and_four false b c d e f g h = cc
and_four true false c d e f g h = cc
and_four true true false d e f g h = cc
and_four true true true false e f g h = cc

false_not : (a : Bool) → a ≡ false → not a ≡ true
false_not true e = cc
false_not false e = refl

opened : (text : List ℕ) → opens_url text ≡ true → Cut OpensUrl text (open_url_len text)
unfolding opens_url
opened text opens =
    let n = name_len text in
    let inner = drop (n + 1) text in
    let t = and_true ((starts_ident text && begins (λ c. c == 40) (drop n text)) && is_url (take n text))
    (not (begins is_quote (drop (white_run inner) inner))) opens in
    let t1 = and_true (starts_ident text && begins (λ c. c == 40) (drop n text)) (is_url (take n text)) t.0 in
    let t2 = and_true (starts_ident text) (begins (λ c. c == 40) (drop n text)) t1.0 in
    let c = name_cut text in
    let past : drop n text ≡ c.rest = past_run url_unit text c.front c.rest n c.is c.len in
    let r = begins_with 40 c.rest (sym (ap (begins (λ c. c == 40)) past) ∙ t2.1) in
    let whole : text ≡ c.front ++ 40 ∷ r.0 = c.is ∙ ap (λ (x : List ℕ). c.front ++ x) r.1 in
    let inner_is : inner ≡ r.0 = ap (λ (k : ℕ). drop (k + 1) text) c.len ∙ ap (drop (length c.front + 1)) whole ∙ called c.front r.0 in
    let name_is_url : is_url c.front
    ≡ true = sym (ap is_url (ap (λ (k : ℕ). take k text) c.len ∙ ap
    (take (length c.front)) c.is ∙ take-append_seam c.front c.rest)) ∙ t1.1 in
    let b = body_cut r.0 in
    let no_quote : begins is_quote (b.body ++ (b.after ++ b.rest))
    ≡ false = sym (ap (begins is_quote) (ap (λ (x : List ℕ). drop (white_run x) x) inner_is ∙ b.quote)) ∙ not_true _ t.1 in
    let all : text ≡ c.front ++ 40 ∷ (b.before ++ (b.body ++ (b.after ++ b.rest))) = whole ∙ ap (λ (x : List ℕ). c.front ++ 40 ∷ x) b.is in
    record {
      front = c.front ++ 40 ∷ (b.before ++ (b.body ++ b.after));
      rest = b.rest;
      is = all ∙ sym (front_whole c.front b.before b.body b.after b.rest);
      len = omega (arith, c.len, ap url_body_len inner_is, b.len, front_size c.front b.before b.body b.after);
      form = record {
        name = c.front;
        before = b.before;
        body = b.body;
        after = b.after;
        is = refl;
        a_name = subst (IsName c.front) (r.1 ∙ ap (λ (x : List ℕ). 40 ∷ x) b.is) c.form;
        url = says_url c.front name_is_url;
        first_white = b.first_white;
        no_quote = no_quote;
        units = b.units;
        last_white = b.last_white;
      };
    }

opens_is : (front rest : List ℕ) → OpensUrl front rest → (opens_url (front ++ rest) ≡ true) × (open_url_len (front ++ rest) ≡ length front)
unfolding opens_url
opens_is front rest f =
    let inner = f.before ++ (f.body ++ (f.after ++ rest)) in
    let whole : front ++ rest ≡ f.name
    ++ 40 ∷ inner = ap (λ (x : List ℕ). x ++ rest) f.is ∙ front_whole f.name f.before f.body f.after rest in
    let len : name_len (front ++ rest) ≡ length f.name = ap name_len whole ∙ name_is f.name (40 ∷ inner) f.a_name in
    let past : drop (name_len (front ++ rest)) (front ++ rest)
    ≡ 40 ∷ inner = past_run url_unit (front ++ rest) f.name (40 ∷ inner) _ whole len in
    let name : take (name_len (front ++ rest)) (front ++ rest)
    ≡ f.name = ap (λ (k : ℕ). take k (front ++ rest)) len ∙ ap (take (length f.name)) whole ∙ take-append_seam f.name (40 ∷ inner) in
    let inner_is : drop (name_len (front ++ rest) + 1) (front ++ rest)
    ≡ inner = ap (λ (k : ℕ). drop (k + 1) (front ++ rest)) len ∙ ap (drop (length f.name + 1)) whole ∙ called f.name inner in
    let b = body_is f.before f.body f.after rest f.first_white f.units f.last_white in
    let value : is_url f.name ≡ true = url_is f.name (40 ∷ inner) f.a_name.units f.url in (
      and_four _ _ _ _ (ap starts_ident whole ∙ url_starts f.name (40 ∷ inner) value) (ap (begins (λ c. c == 40)) past)
          (ap is_url name ∙ value)
          (false_not _ (ap (λ (x : List ℕ). begins is_quote (drop (white_run x) x)) inner_is ∙ ap (begins is_quote) b.1 ∙ f.no_quote)),
      omega (arith, len, ap url_body_len inner_is, b.0, ap length f.is, front_size f.name f.before f.body f.after),
    )

-- what closes a url or a bad-url
closing : (text : List ℕ) → closes_url text ≡ true → Closing (41 ∷ []) text
closing [] e = ends_here (41 ∷ [])
closing (c ∷ rest) e = subst (λ (a : ℕ). Closing (41 ∷ []) (a ∷ rest)) (sym (same_code c 41 e)) (marked_here (41 ∷ []) rest)

closing_closes : (close rest : List ℕ) → ClosesWith (41 ∷ []) close rest
    → (closes_url (close ++ rest) ≡ true) × (bad_url_unit (close ++ rest) ≡ 0)
closing_closes close rest (inl is) = rw is (refl, refl)
closing_closes close rest (inr end) = rw (end.0, end.1) (refl, refl)

bad_closes : (text : List ℕ) → bad_url_unit text ≡ 0 → closes_url text ≡ true
unfolding escape_len
bad_closes [] none = refl
bad_closes (c ∷ rest) none = by_tests (c == 41) (c == 92 && not (begins is_newline rest)) _ none
  where
    by_tests : (round escape : Bool) (n : ℕ) → cond round 0 (cond escape (cond escape (1 + n) 0) 1) ≡ 0 → round ≡ true
    by_tests true escape n e = refl
    by_tests false true n e = absurd (omega arith)
    by_tests false false n e = absurd (omega arith)

-- where a unit of a bad-url stands, nothing closes
open_bad : (text : List ℕ) → 0 < bad_url_unit text → closes_url text ≡ false
open_bad [] some = absurd (omega arith)
open_bad (c ∷ rest) some =
    elim (c == 41) as (λ b. 0 < cond b 0 (cond (begins_escape (c ∷ rest)) (escape_len (c ∷ rest)) 1)
    → b ≡ false) [ true ↦ λ none. absurd (omega arith) | false ↦ λ _. refl ] some

some_bad : (text body rest : List ℕ) → text ≡ body ++ rest → closes_url text ≡ false → bad_url_unit rest ≡ 0 → 0 < length body
some_bad text [] rest is unclosed none = let closed : closes_url text ≡ true = ap closes_url is ∙ bad_closes rest none in cc
some_bad text (c ∷ body) rest is unclosed none = omega arith

sizes : (front close rest text : List ℕ) → text ≡ (front ++ close) ++ rest → length text ≡ length front + length close + length rest
sizes front close rest text whole = ap length whole ∙ length-append (front ++ close) rest ∙ ap (λ (n : ℕ). n + length rest)
    (length-append front close)

pub url_row_law : RowLaw UrlForm url
unfolding url
url_row_law = record {
  form = λ text p found.
      let n = open_url_len text in
      let h = when_some (opens_url text && closes_url (drop n text)) (piece Url (up_to_and_with n 1 text)) p found in
      let t = and_true (opens_url text) (closes_url (drop n text)) h.0 in
      let c = opened text t.0 in
      let past : drop n text ≡ c.rest = past_run url_unit text c.front c.rest n c.is c.len in
      let e = closing c.rest (sym (ap closes_url past) ∙ t.1) in
      let whole : text ≡ (c.front ++ e.close)
      ++ e.rest = c.is ∙ ap (λ (x : List ℕ). c.front ++ x) e.is ∙ sym (append_assoc c.front e.close e.rest) in
      subst (λ (q : Piece). Cut (UrlForm q.kind) text q.len) h.1
      (record {
        front = c.front ++ e.close;
        rest = e.rest;
        is = whole;
        len = closed_len n 1 _ _ e.close e.rest refl e.closed (omega (arith, c.len, sizes c.front e.close e.rest text whole)) ∙ omega
            (arith, c.len, length-append c.front e.close);
        form = record {
          named = refl;
          front = c.front;
          close = e.close;
          is = refl;
          opens = subst (OpensUrl c.front) e.is c.form;
          closed = e.closed;
        };
      });
  only = λ kind front rest f.
      let whole : front ++ rest ≡ (f.front ++ f.close) ++ rest = ap (λ (x : List ℕ). x ++ rest) f.is in
      let assoc : front ++ rest ≡ f.front ++ (f.close ++ rest) = whole ∙ append_assoc f.front f.close rest in
      let o = opens_is f.front (f.close ++ rest) f.opens in
      let n = open_url_len (front ++ rest) in
      let len : n ≡ length f.front = ap open_url_len assoc ∙ o.1 in
      let opens : opens_url (front ++ rest) ≡ true = ap opens_url assoc ∙ o.0 in
      let closed : closes_url (drop n (front ++ rest))
      ≡ true = ap closes_url (past_run url_unit (front ++ rest) f.front (f.close ++ rest) n assoc len) ∙
      (closing_closes f.close rest f.closed).0 in
      let size : up_to_and_with n 1 (front ++ rest) ≡ length front =
      closed_len n 1 _ _ f.close rest refl f.closed (omega (arith, len, sizes f.front f.close rest (front ++ rest) whole)) ∙ omega
      (arith, len, ap length f.is, length-append f.front f.close) in
      subst (λ (k : TokenKind). url (front ++ rest) ≡ Some (piece k (length front))) (sym f.named)
      (rw (opens, closed) (ap (λ (k : ℕ). Some (piece Url k)) size));
}

first_bad : (body rest : List ℕ) → 0 < length body → Units BadUrlUnit body rest → closes_url (body ++ rest) ≡ false
first_bad body rest some (no_units) = absurd (omega (arith, some))
first_bad body rest some (unit_and {first = u} {others = us} whole first more) =
    let one = bad_url_law.only u (us ++ rest) first in
    let there : 0 < bad_url_unit (u ++ (us ++ rest)) = omega (arith, one.0, one.1) in
    ap closes_url (ap (λ (x : List ℕ). x ++ rest) whole ∙ append_assoc u us rest) ∙ open_bad (u ++ (us ++ rest)) there

pub bad_url_row_law : RowLaw BadUrlForm bad_url
unfolding bad_url
bad_url_row_law = record {
  form = λ text p found.
      let n = open_url_len text in
      let m = n + run bad_url_unit (drop n text) in
      let h = when_some (opens_url text && not (closes_url (drop n text))) (piece BadUrl (up_to_and_with m 1 text)) p found in
      let t = and_true (opens_url text) (not (closes_url (drop n text))) h.0 in
      let c = opened text t.0 in
      let past : drop n text ≡ c.rest = past_run url_unit text c.front c.rest n c.is c.len in
      let unclosed : closes_url c.rest ≡ false = sym (ap closes_url past) ∙ not_true _ t.1 in
      let b = run_cut BadUrlUnit bad_url_unit bad_url_law c.rest in
      let size : run bad_url_unit (drop n text) ≡ length b.front = ap (run bad_url_unit) past ∙ b.len in
      let e = closing b.rest (bad_closes b.rest b.form.1) in
      let some : 0 < length b.front = some_bad c.rest b.front b.rest b.is unclosed b.form.1 in
      let inner : c.rest ≡ (b.front ++ e.close)
      ++ e.rest = b.is ∙ ap (λ (x : List ℕ). b.front ++ x) e.is ∙ sym (append_assoc b.front e.close e.rest) in
      let whole : text ≡ (c.front ++ (b.front ++ e.close))
      ++ e.rest = c.is ∙ ap (λ (x : List ℕ). c.front ++ x) inner ∙ sym (append_assoc c.front (b.front ++ e.close) e.rest) in
      let all : length text ≡ length c.front + length b.front + length e.close
      + length e.rest = sizes c.front (b.front ++ e.close) e.rest text whole ∙ omega (arith, length-append b.front e.close) in
      subst (λ (q : Piece). Cut (BadUrlForm q.kind) text q.len) h.1
      (record {
        front = c.front ++ (b.front ++ e.close);
        rest = e.rest;
        is = whole;
        len = closed_len m 1 _ _ e.close e.rest refl e.closed (omega (arith, c.len, size, all)) ∙ omega
            (arith, c.len, size, length-append c.front (b.front ++ e.close), length-append b.front e.close);
        form = record {
          named = refl;
          front = c.front;
          body = b.front;
          close = e.close;
          is = refl;
          opens = subst (OpensUrl c.front) (b.is ∙ ap (λ (x : List ℕ). b.front ++ x) e.is) c.form;
          some = some;
          units = subst (Units BadUrlUnit b.front) e.is b.form.0;
          closed = e.closed;
        };
      });
  only = λ kind front rest f.
      let whole : front ++ rest ≡ (f.front ++ (f.body ++ f.close)) ++ rest = ap (λ (x : List ℕ). x ++ rest) f.is in
      let assoc : front ++ rest ≡ f.front
      ++ (f.body ++ (f.close ++ rest)) = whole ∙ append_assoc f.front (f.body ++ f.close) rest ∙ ap (λ (x : List ℕ). f.front ++ x)
      (append_assoc f.body f.close rest) in
      let o = opens_is f.front (f.body ++ (f.close ++ rest)) f.opens in
      let n = open_url_len (front ++ rest) in
      let len : n ≡ length f.front = ap open_url_len assoc ∙ o.1 in
      let opens : opens_url (front ++ rest) ≡ true = ap opens_url assoc ∙ o.0 in
      let past : drop n (front ++ rest)
      ≡ f.body ++ (f.close ++ rest) = past_run url_unit (front ++ rest) f.front (f.body ++ (f.close ++ rest)) n assoc len in
      let unclosed : closes_url (drop n (front ++ rest)) ≡ false = ap closes_url past ∙ first_bad f.body (f.close ++ rest) f.some f.units in
      let more : run bad_url_unit (drop n (front ++ rest))
      ≡ length f.body = ap (run bad_url_unit) past ∙ units_run BadUrlUnit bad_url_unit bad_url_law f.body (f.close ++ rest) f.units
      (closing_closes f.close rest f.closed).1 in
      let all : length (front ++ rest)
      ≡ length f.front + length f.body + length f.close
      + length rest = sizes f.front (f.body ++ f.close) rest (front ++ rest) whole ∙ omega (arith, length-append f.body f.close) in
      let size : up_to_and_with (n + run bad_url_unit (drop n (front ++ rest))) 1 (front ++ rest) ≡ length front =
      closed_len (n + run bad_url_unit (drop n (front ++ rest))) 1 _ _ f.close rest refl f.closed (omega (arith, len, more, all))
      ∙ omega (arith, len, more, ap length f.is, length-append f.front (f.body ++ f.close), length-append f.body f.close) in
      subst (λ (k : TokenKind). bad_url (front ++ rest) ≡ Some (piece k (length front))) (sym f.named)
      (rw (opens, unclosed) (ap (λ (k : ℕ). Some (piece BadUrl k)) size));
}
