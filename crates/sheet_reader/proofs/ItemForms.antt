-- The items of a body that are read are those of the grammar, and no others are.
use Rattle.std.proofs.Common.{◌≡◌, ℕ, zero, suc, ◌+◌, ◌≤◌, true, false, List, [], ◌∷◌, ◌++◌, length, take, drop, refl, sym, ap, subst, ◌∙◌}
use Rattle.std.proofs.Common.{length-append, arith}
use Rattle.std.proofs.lemmas.List.{take-append-drop}
use Rattle.std.proofs.Math.Seq.{take-append_seam, drop-append_seam}
use Rattle.css_tokens.specs.declared.token.Token.{Token}
use Rattle.css_tokens.specs.declared.token.TokenKind.{TokenKind}
use Rattle.css_tokens.specs.declared.token.TokenKind.TheVariants as tokens
use Rattle.sheet_reader.specs.declared.brackets.Stop.TheVariants as stops
use Rattle.sheet_reader.specs.Brackets.{open_after, stops_at, until_in, until}
use Rattle.sheet_reader.specs.Parts.{ending_at, at_rule_at, ending_pieces}
use Rattle.sheet_reader.specs.Declarations.{ItemForm, passed, candidate, other, item_by, item_at, item_pieces, items_after}
use Rattle.sheet_reader.specs.Declarations as body
use Rattle.sheet_reader.specs.Grammar.{outside, AreValues, EndsBefore, is_at_keyword, is_separator, is_ident_kind, IsBodyItem, passed_item}
use Rattle.sheet_reader.specs.Grammar.{at_rule_item, candidate_item, other_item, AreItems}
use Rattle.sheet_reader.proofs.BracketLemmas.{go_on}
use Rattle.sheet_reader.proofs.ValueForms.{until_is, until_splits}
use Rattle.sheet_reader.proofs.PartLemmas.{items_step, item_some}
use Rattle.sheet_reader.proofs.GrammarForms.{rule_read, same_weaker, at_rule_again}

record ItemRead (x : ItemForm) (all : List Token) : Type 0 where
  rest : List Token
  is : all ≡ item_pieces x ++ rest
  form : IsBodyItem x rest

at_rule_item_read : (t : Token) (ts : List Token) → t.kind ≡ tokens.AtKeyword → ItemRead (body.at_rule (at_rule_at t ts)) (t ∷ ts)
at_rule_item_read t ts e =
    let r = rule_read stops.BlockOrSemicolon ts same_weaker in
    let n = until stops.BlockOrSemicolon ts in
    record { rest = r.rest; is = ap (λ (xs : List Token). t ∷ xs) r.is; form = at_rule_item t (take n ts) (ending_at (drop n ts)) e r.rule }

-- a value up to a semicolon that has a first piece
record ValueRead (t : Token) (ts : List Token) (m : ℕ) : Type 0 where
  count : until stops.Semicolon (t ∷ ts) ≡ suc m
  values : AreValues (outside stops.Semicolon) (t ∷ take m ts) (drop m ts)
  stopped : EndsBefore (outside stops.Semicolon) (drop m ts)

value_read : (t : Token) (ts : List Token) → stops_at stops.Semicolon t.kind ≡ false
    → ValueRead t ts (until_in stops.Semicolon (open_after [] t.kind) ts)
value_read t ts goes =
    let n = go_on stops.Semicolon [] t ts goes in
    let s = until_splits stops.Semicolon (t ∷ ts) in
    record {
      count = n;
      values = subst (λ (k : ℕ). AreValues (outside stops.Semicolon) (take k (t ∷ ts)) (drop k (t ∷ ts))) n s.values;
      stopped = subst (λ (k : ℕ). EndsBefore (outside stops.Semicolon) (drop k (t ∷ ts))) n s.stopped;
    }

candidate_read : (t : Token) (ts : List Token) (m : ℕ) → is_ident_kind t.kind ≡ true → ValueRead t ts m
    → ItemRead (candidate (take (until stops.Semicolon (t ∷ ts)) (t ∷ ts))) (t ∷ ts)
candidate_read t ts m kind v =
    let found : ItemRead (candidate (t ∷ take m ts))
    (t ∷ ts) = record {
      rest = drop m ts;
      is = ap (λ (xs : List Token). t ∷ xs) (sym (take-append-drop m ts));
      form = candidate_item t (take m ts) kind v.values v.stopped;
    } in
    subst (λ (k : ℕ). ItemRead (candidate (take k (t ∷ ts))) (t ∷ ts)) (sym v.count) found

other_read : (t : Token) (ts : List Token) (m : ℕ) → is_separator t.kind ≡ false → is_at_keyword t.kind ≡ false
    → is_ident_kind t.kind ≡ false → ValueRead t ts m → ItemRead (other (take (until stops.Semicolon (t ∷ ts)) (t ∷ ts))) (t ∷ ts)
other_read t ts m a b c v =
    let found : ItemRead (other (t ∷ take m ts))
    (t ∷ ts) = record {
      rest = drop m ts;
      is = ap (λ (xs : List Token). t ∷ xs) (sym (take-append-drop m ts));
      form = other_item t (take m ts) a b c v.values v.stopped;
    } in
    subst (λ (k : ℕ). ItemRead (other (take k (t ∷ ts))) (t ∷ ts)) (sym v.count) found

item_by_read : (kind : TokenKind) (t : Token) (ts : List Token) → t.kind ≡ kind → ItemRead (item_by t ts kind) (t ∷ ts)
item_by_read tokens.Comment t ts e = record { rest = ts; is = refl; form = passed_item t (ap is_separator e) }
item_by_read tokens.WhiteSpace t ts e = record { rest = ts; is = refl; form = passed_item t (ap is_separator e) }
item_by_read tokens.Semicolon t ts e = record { rest = ts; is = refl; form = passed_item t (ap is_separator e) }
item_by_read tokens.AtKeyword t ts e = at_rule_item_read t ts e
item_by_read tokens.Ident t ts e = candidate_read t ts (until_in stops.Semicolon (open_after [] t.kind) ts) (ap is_ident_kind e)
    (value_read t ts (ap (stops_at stops.Semicolon) e))
item_by_read _ t ts e = other_read t ts (until_in stops.Semicolon (open_after [] t.kind) ts) (ap is_separator e) (ap is_at_keyword e)
    (ap is_ident_kind e) (value_read t ts (ap (stops_at stops.Semicolon) e))

item_read : (t : Token) (ts : List Token) → ItemRead (item_at t ts) (t ∷ ts)
unfolding item_at
item_read t ts = item_by_read t.kind t ts refl

spelled_in : (n : ℕ) (ts : List Token) → length ts ≤ n → AreItems (items_after 0 ts) ts
unfolding items_after
spelled_in n [] fits = refl
spelled_in zero (t ∷ ts) fits = absurd (omega (arith, fits))
spelled_in (suc n) (t ∷ ts) fits =
    let x = item_at t ts in
    let r = item_read t ts in
    let some = item_some t ts in
    let len : length (t ∷ ts) ≡ length (item_pieces x)
    + length r.rest = ap (λ (xs : List Token). length xs) r.is ∙ length-append (item_pieces x) r.rest in
    let left : drop (length (item_pieces x)) (t ∷ ts)
    ≡ r.rest = ap (drop (length (item_pieces x))) r.is ∙ drop-append_seam (item_pieces x) r.rest in
    let others = spelled_in n r.rest (omega (arith, fits, len, some)) in
    subst (λ (xs : List ItemForm). AreItems xs (t ∷ ts)) (sym (items_step t ts))
    (r.rest, r.is, r.form, subst (λ (xs : List Token). AreItems (items_after 0 xs) r.rest) (sym left) others)

-- the items that are read are items of the grammar
pub items_spelled : (ts : List Token) → AreItems (items_after 0 ts) ts
items_spelled ts = spelled_in (length ts) ts (omega arith)

-- ---- what is in the grammar is read

separator_again : (kind : TokenKind) (t : Token) (ts : List Token) → is_separator kind ≡ true → item_by t ts kind ≡ passed t
separator_again tokens.Comment t ts e = refl
separator_again tokens.WhiteSpace t ts e = refl
separator_again tokens.Semicolon t ts e = refl
separator_again _ t ts e = absurd (cc)

ident_again : (kind : TokenKind) (t : Token) (ts : List Token) → is_ident_kind kind ≡ true
    → item_by t ts kind ≡ candidate (take (until stops.Semicolon (t ∷ ts)) (t ∷ ts))
ident_again tokens.Ident t ts e = refl
ident_again _ t ts e = absurd (cc)

other_again : (kind : TokenKind) (t : Token) (ts : List Token) → is_separator kind ≡ false → is_at_keyword kind ≡ false
    → is_ident_kind kind ≡ false → item_by t ts kind ≡ other (take (until stops.Semicolon (t ∷ ts)) (t ∷ ts))
other_again tokens.Comment t ts a b c = absurd (cc)
other_again tokens.WhiteSpace t ts a b c = absurd (cc)
other_again tokens.Semicolon t ts a b c = absurd (cc)
other_again tokens.AtKeyword t ts a b c = absurd (cc)
other_again tokens.Ident t ts a b c = absurd (cc)
other_again _ t ts a b c = refl

value_again : (t : Token) (ts rest : List Token) → AreValues (outside stops.Semicolon) (t ∷ ts) rest
    → EndsBefore (outside stops.Semicolon) rest → take (until stops.Semicolon (t ∷ (ts ++ rest))) (t ∷ (ts ++ rest)) ≡ t ∷ ts
value_again t ts rest values over = ap (λ (k : ℕ). take k (t ∷ (ts ++ rest)))
    (until_is stops.Semicolon (t ∷ ts) rest values over) ∙ take-append_seam (t ∷ ts) rest

-- the item that begins where one stands is that one
record ItemAgain (x : ItemForm) (all : List Token) : Type 0 where
  t : Token
  ts : List Token
  is : all ≡ t ∷ ts
  form : item_at t ts ≡ x

item_again : (x : ItemForm) (rest : List Token) → IsBodyItem x rest → ItemAgain x (item_pieces x ++ rest)
unfolding item_at
item_again _ rest (passed_item t e) = record { t = t; ts = rest; is = refl; form = separator_again t.kind t rest e }
item_again _ rest (at_rule_item keyword prelude ending e rule) = record {
  t = keyword;
  ts = (prelude ++ ending_pieces ending) ++ rest;
  is = refl;
  form = ap (item_by keyword ((prelude ++ ending_pieces ending) ++ rest)) e ∙ ap body.at_rule
      (at_rule_again keyword prelude ending rest rule);
}
item_again _ rest (candidate_item t ts kind values over) = record {
  t = t;
  ts = ts ++ rest;
  is = refl;
  form = ident_again t.kind t (ts ++ rest) kind ∙ ap candidate (value_again t ts rest values over);
}
item_again _ rest (other_item t ts a b c values over) = record {
  t = t;
  ts = ts ++ rest;
  is = refl;
  form = other_again t.kind t (ts ++ rest) a b c ∙ ap other (value_again t ts rest values over);
}

-- items of the grammar are those that are read
pub items_only : (xs : List ItemForm) (ts : List Token) → AreItems xs ts → xs ≡ items_after 0 ts
unfolding items_after
items_only [] ts e = sym (ap (items_after 0) e)
items_only (x ∷ xs) ts all =
    let rest = all.0 in
    let a = item_again x rest all.2 in
    let whole : ts ≡ a.t ∷ a.ts = all.1 ∙ a.is in
    let left : drop (length (item_pieces (item_at a.t a.ts))) (a.t ∷ a.ts) ≡ rest =
    ap (λ (y : ItemForm). drop (length (item_pieces y)) (a.t ∷ a.ts)) a.form ∙ ap (drop (length (item_pieces x)))
    (sym a.is) ∙ drop-append_seam (item_pieces x) rest in
    sym (ap (items_after 0) whole ∙ items_step a.t a.ts ∙ ap
    (λ (y : ItemForm). y ∷ items_after 0 (drop (length (item_pieces (item_at a.t a.ts))) (a.t ∷ a.ts))) a.form
    ∙ ap (λ (ys : List Token). x ∷ items_after 0 ys) left ∙ ap (λ (ys : List ItemForm). x ∷ ys) (sym (items_only xs rest all.3)))
