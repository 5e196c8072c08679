-- A part is a front of the pieces that it is read from, and so is an item of a body; neither is empty.
use Rattle.std.proofs.Common.{◌≡◌, ℕ, zero, suc, ◌-◌, ◌<◌, ◌≤◌, Bool, true, false, cond, List, [], ◌∷◌, ◌++◌, length, take, drop, All}
use Rattle.std.proofs.Common.{Option, refl, sym, ap, subst, ◌∙◌, append_assoc, length-append, arith}
use Rattle.std.specs.Prelude.{slice_get, option_to_list}
use Rattle.std.proofs.lemmas.List.{take-append-drop}
use Rattle.std.proofs.Math.Seq.{take-append_seam, drop-append_seam}
use Rattle.std.proofs.lemmas.List.Elements.{All-take, All-drop, All-tail}
use Rattle.css_tokens.specs.declared.token.Token.{Token}
use Rattle.css_tokens.specs.declared.token.TokenKind.{TokenKind}
use Rattle.css_tokens.specs.declared.token.TokenKind.TheVariants as tokens
use Rattle.sheet_reader.specs.declared.brackets.Stop.TheVariants as stops
use Rattle.sheet_reader.specs.declared.parts.Level.{Level}
use Rattle.sheet_reader.specs.Brackets.{stops_at, until}
use Rattle.sheet_reader.specs.Parts.{block, PartForm, passed, is_passed, ending_by, ending_at, at_rule_at, qualified_at, part_by, part_at}
use Rattle.sheet_reader.specs.Parts.{ending_pieces, part_pieces, parts_after, parts}
use Rattle.sheet_reader.specs.Declarations.{ItemForm, item_by, item_at, item_pieces, items_after}
use Rattle.sheet_reader.proofs.BracketLemmas.{go_on}

-- the pieces are a front of the whole
pub record IsFrontOf (front whole : List Token) : Type 0 where
  pub rest : List Token
  pub is : whole ≡ front ++ rest

pub split_get : (ts : List Token) (n : ℕ) → drop n ts ≡ option_to_list (slice_get ts n) ++ drop (suc n) ts
split_get [] zero = refl
split_get [] (suc n) = refl
split_get (t ∷ ts) zero = refl
split_get (t ∷ ts) (suc n) = split_get ts n

block_front : (t : Token) (ts : List Token) (n : ℕ) → ts ≡ (take n ts ++ option_to_list (slice_get ts n)) ++ drop (suc n) ts
block_front t ts n =
    sym (take-append-drop n ts) ∙ ap (λ (xs : List Token). take n ts ++ xs) (split_get ts n) ∙ sym
    (append_assoc (take n ts) (option_to_list (slice_get ts n)) (drop (suc n) ts))

ending_by_front : (kind : TokenKind) (t : Token) (ts : List Token) → IsFrontOf (ending_pieces (ending_by t ts kind)) (t ∷ ts)
ending_by_front tokens.Semicolon t ts = record { rest = ts; is = refl }
ending_by_front _ t ts = record {
  rest = drop (suc (until stops.BlockEnd ts)) ts;
  is = ap (λ (xs : List Token). t ∷ xs) (block_front t ts (until stops.BlockEnd ts));
}

ending_front : (ts : List Token) → IsFrontOf (ending_pieces (ending_at ts)) ts
ending_front [] = record { rest = []; is = refl }
ending_front (t ∷ ts) = ending_by_front t.kind t ts

-- some pieces, and a rule's end behind them
then_ending : (ts : List Token) (n : ℕ) → IsFrontOf (take n ts ++ ending_pieces (ending_at (drop n ts))) ts
then_ending ts n =
    let e = ending_front (drop n ts) in
    record {
      rest = e.rest;
      is = sym (take-append-drop n ts) ∙ ap (λ (xs : List Token). take n ts ++ xs) e.is ∙ sym
          (append_assoc (take n ts) (ending_pieces (ending_at (drop n ts))) e.rest);
    }

pub at_rule_front : (t : Token) (ts : List Token) → IsFrontOf (part_pieces (at_rule_at t ts)) (t ∷ ts)
at_rule_front t ts = let e = then_ending ts
    (until stops.BlockOrSemicolon ts) in record { rest = e.rest; is = ap (λ (xs : List Token). t ∷ xs) e.is }

by_passed : (b : Bool) (t : Token) (ts : List Token) → IsFrontOf (part_pieces (cond b (passed t) (qualified_at (t ∷ ts)))) (t ∷ ts)
by_passed true t ts = record { rest = ts; is = refl }
by_passed false t ts = then_ending (t ∷ ts) (until stops.Block (t ∷ ts))

part_by_front : (level : Level) (kind : TokenKind) (t : Token) (ts : List Token)
    → IsFrontOf (part_pieces (part_by level t ts kind)) (t ∷ ts)
part_by_front level tokens.AtKeyword t ts = at_rule_front t ts
part_by_front level kind t ts = by_passed (is_passed level kind) t ts

pub part_front : (level : Level) (t : Token) (ts : List Token) → IsFrontOf (part_pieces (part_at level t ts)) (t ∷ ts)
unfolding part_at
part_front level t ts = part_by_front level t.kind t ts

ending_by_some : (kind : TokenKind) (t : Token) (ts : List Token) → 0 < length (ending_pieces (ending_by t ts kind))
ending_by_some tokens.Semicolon t ts = omega arith
ending_by_some _ t ts = omega arith

pub then_ending_some : (n : ℕ) (t : Token) (ts : List Token) → 0 < length (take n (t ∷ ts) ++ ending_pieces (ending_at (drop n (t ∷ ts))))
then_ending_some zero t ts = ending_by_some t.kind t ts
then_ending_some (suc n) t ts = omega arith

by_passed_some : (b : Bool) (t : Token) (ts : List Token) → 0 < length (part_pieces (cond b (passed t) (qualified_at (t ∷ ts))))
by_passed_some true t ts = omega arith
by_passed_some false t ts = then_ending_some (until stops.Block (t ∷ ts)) t ts

part_by_some : (level : Level) (kind : TokenKind) (t : Token) (ts : List Token) → 0 < length (part_pieces (part_by level t ts kind))
part_by_some level tokens.AtKeyword t ts = omega arith
part_by_some level kind t ts = by_passed_some (is_passed level kind) t ts

pub part_some : (level : Level) (t : Token) (ts : List Token) → 0 < length (part_pieces (part_at level t ts))
unfolding part_at
part_some level t ts = part_by_some level t.kind t ts

-- ---- what follows from being a front

pub front_fits : (front whole : List Token) → IsFrontOf front whole → length front ≤ length whole
front_fits front whole f = let e = ap (λ (xs : List Token). length xs) f.is ∙ length-append front f.rest in omega (arith, e)

pub front_all : (P : Token → Type 0) (front whole : List Token) → IsFrontOf front whole → All P whole → All P front
front_all P front whole f all = subst (All P) (take-append_seam front f.rest)
    (All-take P (length front) (front ++ f.rest) (subst (All P) f.is all))

-- ---- one part more

parts_skip : (level : Level) (n : ℕ) (ts : List Token) → parts_after level n ts ≡ parts_after level 0 (drop n ts)
unfolding parts_after
parts_skip level zero ts = refl
parts_skip level (suc n) [] = refl
parts_skip level (suc n) (t ∷ ts) = parts_skip level n ts

drop_front : (n : ℕ) (t : Token) (ts : List Token) → 0 < n → drop (n - 1) ts ≡ drop n (t ∷ ts)
drop_front zero t ts some = absurd (omega (arith, some))
drop_front (suc n) t ts some = let same : suc n - 1 ≡ n = omega arith in ap (λ (k : ℕ). drop k ts) same

pub parts_step : (level : Level) (t : Token) (ts : List Token)
    → parts level (t ∷ ts) ≡ part_at level t ts ∷ parts level (drop (length (part_pieces (part_at level t ts))) (t ∷ ts))
unfolding parts_after
parts_step level t ts =
    let n = length (part_pieces (part_at level t ts)) in
    ap (λ (ps : List PartForm). part_at level t ts ∷ ps)
    (parts_skip level (n - 1) ts ∙ ap (parts_after level 0) (drop_front n t ts (part_some level t ts)))

-- ---- items

value_front : (ts : List Token) (n : ℕ) → IsFrontOf (take n ts) ts
value_front ts n = record { rest = drop n ts; is = sym (take-append-drop n ts) }

item_by_front : (kind : TokenKind) (t : Token) (ts : List Token) → IsFrontOf (item_pieces (item_by t ts kind)) (t ∷ ts)
item_by_front tokens.Comment t ts = record { rest = ts; is = refl }
item_by_front tokens.WhiteSpace t ts = record { rest = ts; is = refl }
item_by_front tokens.Semicolon t ts = record { rest = ts; is = refl }
item_by_front tokens.AtKeyword t ts = at_rule_front t ts
item_by_front _ t ts = value_front (t ∷ ts) (until stops.Semicolon (t ∷ ts))

pub item_front : (t : Token) (ts : List Token) → IsFrontOf (item_pieces (item_at t ts)) (t ∷ ts)
unfolding item_at
item_front t ts = item_by_front t.kind t ts

value_some : (t : Token) (ts : List Token) → stops_at stops.Semicolon t.kind ≡ false
    → 0 < length (take (until stops.Semicolon (t ∷ ts)) (t ∷ ts))
value_some t ts goes = rw (go_on stops.Semicolon [] t ts goes) (omega arith)

item_by_some : (kind : TokenKind) (t : Token) (ts : List Token) → t.kind ≡ kind → 0 < length (item_pieces (item_by t ts kind))
item_by_some tokens.Comment t ts e = omega arith
item_by_some tokens.WhiteSpace t ts e = omega arith
item_by_some tokens.Semicolon t ts e = omega arith
item_by_some tokens.AtKeyword t ts e = omega arith
item_by_some _ t ts e = value_some t ts (ap (stops_at stops.Semicolon) e)

pub item_some : (t : Token) (ts : List Token) → 0 < length (item_pieces (item_at t ts))
unfolding item_at
item_some t ts = item_by_some t.kind t ts refl

items_skip : (n : ℕ) (ts : List Token) → items_after n ts ≡ items_after 0 (drop n ts)
unfolding items_after
items_skip zero ts = refl
items_skip (suc n) [] = refl
items_skip (suc n) (t ∷ ts) = items_skip n ts

pub items_step : (t : Token) (ts : List Token)
    → items_after 0 (t ∷ ts) ≡ item_at t ts ∷ items_after 0 (drop (length (item_pieces (item_at t ts))) (t ∷ ts))
unfolding items_after
items_step t ts =
    let n = length (item_pieces (item_at t ts)) in
    ap (λ (items : List ItemForm). item_at t ts ∷ items) (items_skip (n - 1) ts ∙ ap (items_after 0) (drop_front n t ts (item_some t ts)))

pub all_left : (P : Token → Type 0) (xs ys : List Token) → All P (xs ++ ys) → All P xs
all_left P xs ys all = subst (All P) (take-append_seam xs ys) (All-take P (length xs) (xs ++ ys) all)

pub all_right : (P : Token → Type 0) (xs ys : List Token) → All P (xs ++ ys) → All P ys
all_right P xs ys all = subst (All P) (drop-append_seam xs ys) (All-drop P (length xs) (xs ++ ys) all)

pub block_inside : (P : Token → Type 0) (first : Token) (body : List Token) (close : Option Token)
    → All P (ending_pieces (block first body close)) → All P body
block_inside P first body close all = all_left P body (option_to_list close) (All-tail P first (body ++ option_to_list close) all)
