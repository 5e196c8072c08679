-- Each row gives the pieces of its form.
use Rattle.std.proofs.Common.{◌≡◌, inl, inr, ℕ, ◌+◌, ◌<◌, ◌==◌, Bool, true, false, cond, ◌&&◌, List, [], ◌∷◌, ◌++◌, length, drop, min}
use Rattle.std.proofs.Common.{nat_eq, Option, Some, IsSome, refl, ap, sym, ◌∙◌, subst, append_assoc, length-append, arith}
use Rattle.std.specs.List.{list_all, prefix_len, starts_with}
use Rattle.std.proofs.lemmas.Bool.Decides.{nat_tests}
use Rattle.css_tokens.specs.declared.token.TokenKind.{TokenKind}
use Rattle.css_tokens.specs.declared.token.TokenKind.TheVariants.{Comment, WhiteSpace}
use Rattle.css_tokens.specs.declared.token.Piece.{Piece}
use Rattle.css_tokens.specs.Codes.{begins, is_white}
use Rattle.css_tokens.specs.Runs.{run, comment_unit, white_run}
use Rattle.css_tokens.specs.Rows.{piece, up_to_and_with, comment, white_space, mark}
use Rattle.css_tokens.specs.Forms.{Units, ClosesWith, CommentUnit, CommentForm, WhiteSpaceForm}
use Rattle.css_tokens.specs.Table.{GivesLongest}
use Rattle.css_tokens.proofs.Ends.{and_true, when_some}
use Rattle.css_tokens.proofs.Unescaping.{same_code}
use Rattle.css_tokens.proofs.RunForms.{Cut, units_run, run_cut}
use Rattle.css_tokens.proofs.UnitForms.{comment_law}

-- a row and its form: what the row gives is of the form, and at each piece of the form the row gives that piece
pub record RowLaw (Form : TokenKind → List ℕ → List ℕ → Type 0) (row : List ℕ → Option Piece) : Type 0 where
  pub form : (text : List ℕ) (p : Piece) → row text ≡ Some p → Cut (Form p.kind) text p.len
  pub only : (kind : TokenKind) (front rest : List ℕ) → Form kind front rest → row (front ++ rest) ≡ Some (piece kind (length front))

pub same_len : (p q : Piece) → Some p ≡ Some q → p.len ≡ q.len
same_len p q e = let same : p ≡ q = cc in ap (λ (x : Piece). x.len) same

pub gives : (Form : TokenKind → List ℕ → List ℕ → Type 0) (row : List ℕ → Option Piece) → RowLaw Form row → GivesLongest Form row
gives Form row law = record {
  longest = λ text p found.
      let c = law.form text p found in
      record {
        front = c.front;
        rest = c.rest;
        is = c.is;
        len = c.len;
        form = c.form;
        longest = λ kind other others e f.
            let same : p.len ≡ length other = same_len p (piece kind (length other))
            (sym found ∙ ap row e ∙ law.only kind other others f) in
            omega (arith, same);
      };
  where_any = λ text front rest kind e f. subst (λ (o : Option Piece). IsSome o) (sym (ap row e ∙ law.only kind front rest f)) refl;
}

-- what a closing mark leaves of a text
pub record Closing (mark text : List ℕ) : Type 0 where
  pub close : List ℕ
  pub rest : List ℕ
  pub is : text ≡ close ++ rest
  pub closed : ClosesWith mark close rest

pub ends_here : (mark : List ℕ) → Closing mark []
ends_here mark = record { close = []; rest = []; is = refl; closed = inr (refl, refl) }

pub marked_here : (mark rest : List ℕ) → Closing mark (mark ++ rest)
marked_here mark rest = record { close = mark; rest = rest; is = refl; closed = inl refl }

-- the length of a piece that a mark of length k closes, or the text's end
pub closed_len : (a k all : ℕ) (mark close rest : List ℕ) → length mark ≡ k → ClosesWith mark close rest
    → all ≡ a + length close + length rest → min (a + k) all ≡ a + length close
closed_len a k all mark close rest size (inl is) whole = let same : length close ≡ k = ap length is ∙ size in omega arith
closed_len a k all mark close rest size (inr end) whole = omega (arith, ap length end.0, ap length end.1)

-- comments
comment_closing : (text : List ℕ) → comment_unit text ≡ 0 → Closing (42 ∷ 47 ∷ []) text
comment_closing [] none = ends_here _
comment_closing (c ∷ []) none = absurd (by_star (c == 42) none)
  where
    by_star : (b : Bool) → ◌≡◌ {A = ℕ} (cond (b && false) 0 1) 0 → ⊥
    by_star true e = omega arith
    by_star false e = omega arith
comment_closing (c ∷ d ∷ rest) none =
    let both : (c == 42 && d == 47) ≡ true = by_both _ none in
    let t = and_true (c == 42) (d == 47) both in
    subst (λ (a : ℕ). Closing (42 ∷ 47 ∷ []) (a ∷ d ∷ rest)) (sym (same_code c 42 t.0))
    (subst (λ (b : ℕ). Closing (42 ∷ 47 ∷ []) (42 ∷ b ∷ rest)) (sym (same_code d 47 t.1)) (marked_here (42 ∷ 47 ∷ []) rest))
  where
    by_both : (b : Bool) → ◌≡◌ {A = ℕ} (cond b 0 1) 0 → b ≡ true
    by_both true e = refl
    by_both false e = absurd (omega arith)

comment_piece : (text : List ℕ) → Cut (CommentForm Comment) (47 ∷ 42 ∷ text) (up_to_and_with (2 + run comment_unit text) 2 (47 ∷ 42 ∷ text))
comment_piece text =
    let c = run_cut CommentUnit comment_unit comment_law text in
    let e = comment_closing c.rest c.form.1 in
    let whole : text ≡ (c.front ++ e.close)
    ++ e.rest = c.is ∙ ap (λ (x : List ℕ). c.front ++ x) e.is ∙ sym (append_assoc c.front e.close e.rest) in
    let size : length text ≡ length c.front + length e.close
    + length e.rest = ap length whole ∙ length-append (c.front ++ e.close) e.rest ∙ ap (λ (n : ℕ). n + length e.rest)
    (length-append c.front e.close) in
    record {
      front = 47 ∷ 42 ∷ (c.front ++ e.close);
      rest = e.rest;
      is = ap (λ (x : List ℕ). 47 ∷ 42 ∷ x) whole;
      len = closed_len (2 + run comment_unit text) 2 _ _ e.close e.rest refl e.closed (omega (arith, size, c.len)) ∙ omega
          (arith, c.len, length-append c.front e.close);
      form = record {
        named = refl;
        body = c.front;
        close = e.close;
        is = refl;
        units = subst (Units CommentUnit c.front) e.is c.form.0;
        closed = e.closed;
      };
    }

opens_comment : (text : List ℕ) → starts_with nat_eq text (47 ∷ 42 ∷ []) ≡ true → (rest : List ℕ) × (text ≡ 47 ∷ 42 ∷ rest)
opens_comment [] e = cc
opens_comment (c ∷ []) e = absurd (by_and (nat_eq 47 c) e)
  where
    by_and : (b : Bool) → (b && false) ≡ true → ⊥
    by_and true e = cc
    by_and false e = cc
opens_comment (c ∷ d ∷ rest) e =
    let one : c ≡ 47 = grind (arith, nat_tests) in
    let two : d ≡ 42 = grind (arith, nat_tests) in
    (rest, ap (λ (x : ℕ). x ∷ d ∷ rest) one ∙ ap (λ (x : ℕ). 47 ∷ x ∷ rest) two)

closes_comment : (close rest : List ℕ) → ClosesWith (42 ∷ 47 ∷ []) close rest → comment_unit (close ++ rest) ≡ 0
closes_comment close rest (inl is) = rw is refl
closes_comment close rest (inr end) = rw (end.0, end.1) refl

pub comment_row_law : RowLaw CommentForm comment
unfolding comment
comment_row_law = record {
  form = λ text p found.
      let h = when_some (starts_with nat_eq text (47 ∷ 42 ∷ []))
      (piece Comment (up_to_and_with (2 + run comment_unit (drop 2 text)) 2 text)) p found in
      let o = opens_comment text h.0 in
      subst (λ (q : Piece). Cut (CommentForm q.kind) text q.len) h.1
      (subst (λ (t : List ℕ). Cut (CommentForm Comment) t (up_to_and_with (2 + run comment_unit (drop 2 t)) 2 t)) (sym o.1)
      (comment_piece o.0));
  only = λ kind front rest f.
      let assoc : (f.body ++ f.close) ++ rest ≡ f.body ++ (f.close ++ rest) = append_assoc f.body f.close rest in
      let length_run : run comment_unit ((f.body ++ f.close) ++ rest)
      ≡ length f.body = ap (run comment_unit) assoc ∙ units_run CommentUnit comment_unit comment_law f.body (f.close ++ rest) f.units
      (closes_comment f.close rest f.closed) in
      let size : length ((f.body ++ f.close) ++ rest)
      ≡ length f.body + length f.close
      + length rest = length-append (f.body ++ f.close) rest ∙ ap (λ (n : ℕ). n + length rest) (length-append f.body f.close) in
      let len : up_to_and_with (2 + run comment_unit ((f.body ++ f.close) ++ rest)) 2 (47 ∷ 42 ∷ ((f.body ++ f.close) ++ rest))
      ≡ length (47 ∷ 42 ∷ (f.body ++ f.close)) =
      closed_len (2 + run comment_unit ((f.body ++ f.close) ++ rest)) 2 _ _ f.close rest refl f.closed
      (omega (arith, size, length_run)) ∙ omega (arith, length_run, length-append f.body f.close) in
      subst (λ (k : TokenKind). comment (front ++ rest) ≡ Some (piece k (length front))) (sym f.named)
      (subst (λ (x : List ℕ). comment (x ++ rest) ≡ Some (piece Comment (length x))) (sym f.is)
      (ap (λ (n : ℕ). Some (piece Comment n)) len));
}

-- white space, and other runs of codes that pass a test
pub passes_exact : (p : ℕ → Bool) (front rest : List ℕ) → list_all p front ≡ true → begins p rest ≡ false
    → prefix_len p (front ++ rest) ≡ length front
passes_exact p [] [] all stops = refl
passes_exact p [] (c ∷ rest) all stops = rw stops refl
passes_exact p (c ∷ front) rest all stops =
    let t = and_true (p c) (list_all p front) all in
    let first : p c ≡ true = t.0 in
    let more : prefix_len p (front ++ rest) ≡ length front = passes_exact p front rest t.1 stops in
    rw first (omega arith)

pub passes_cut : (p : ℕ → Bool) (text : List ℕ)
    → Cut (λ front rest. (list_all p front ≡ true) × (begins p rest ≡ false)) text (prefix_len p text)
passes_cut p [] = record { front = []; rest = []; is = refl; len = refl; form = (refl, refl) }
passes_cut p (c ∷ rest) =
    elim (p c) as (λ b. p c ≡ b → Cut (λ front rest. (list_all p front ≡ true) × (begins p rest ≡ false)) (c ∷ rest)
    (cond b (1 + prefix_len p rest) 0)) [
      | true ↦ λ pass.
          let more = passes_cut p rest in
          record {
            front = c ∷ more.front;
            rest = more.rest;
            is = ap (λ (x : List ℕ). c ∷ x) more.is;
            len = omega (arith, more.len);
            form = (rw pass more.form.0, more.form.1);
          }
      | false ↦ λ fail. record { front = []; rest = c ∷ rest; is = refl; len = refl; form = (refl, fail) }
    ] refl

pub begins_all : (p : ℕ → Bool) (front rest : List ℕ) → 0 < length front → list_all p front ≡ true → begins p (front ++ rest) ≡ true
begins_all p [] rest some all = absurd (omega arith)
begins_all p (c ∷ front) rest some all = (and_true (p c) (list_all p front) all).0

pub some_prefix : (p : ℕ → Bool) (text : List ℕ) → begins p text ≡ true → 0 < prefix_len p text
some_prefix p [] there = cc
some_prefix p (c ∷ rest) there = rw there (omega arith)

pub white_row_law : RowLaw WhiteSpaceForm white_space
unfolding white_space
white_row_law = record {
  form = λ text p found.
      let h = when_some (begins is_white text) (piece WhiteSpace (white_run text)) p found in
      let c = passes_cut is_white text in
      subst (λ (q : Piece). Cut (WhiteSpaceForm q.kind) text q.len) h.1
      (record {
        front = c.front;
        rest = c.rest;
        is = c.is;
        len = c.len;
        form = record { named = refl; some = omega (arith, some_prefix is_white text h.0, c.len); run = c.form };
      });
  only = λ kind front rest f.
      let there : begins is_white (front ++ rest) ≡ true = begins_all is_white front rest f.some f.run.0 in
      let exact : white_run (front ++ rest) ≡ length front = passes_exact is_white front rest f.run.0 f.run.1 in
      subst (λ (k : TokenKind). white_space (front ++ rest) ≡ Some (piece k (length front))) (sym f.named)
      (rw (there, exact) refl);
}
