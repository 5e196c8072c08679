-- Brackets that nest, by the grammar and as they are counted: each the other's.
use Rattle.std.proofs.Common.{◌≡◌, Bool, true, false, cond, List, [], ◌∷◌, ◌++◌, Option, Some, None, refl, sym, ap, ◌∙◌, append_assoc}
use Rattle.std.proofs.Common.{append-nil}
use Rattle.css_tokens.specs.declared.token.Token.{Token}
use Rattle.css_tokens.specs.declared.token.TokenKind.{TokenKind}
use Rattle.css_tokens.specs.declared.token.TokenKind.TheVariants as tokens
use Rattle.sheet_reader.specs.declared.brackets.Bracket.{Bracket}
use Rattle.sheet_reader.specs.declared.brackets.Bracket.TheVariants.{Round, Square, Curly}
use Rattle.sheet_reader.specs.declared.brackets.Nesting.TheVariants.{Stray, Closed}
use Rattle.sheet_reader.specs.Brackets.{opened_by, closed_by, is_same, open_by, open_after, is_stray_by, is_stray, nesting_in, nesting}
use Rattle.sheet_reader.specs.Grammar.{is_closing_by, is_closing, AreNested, none_nested, plain_and, nested_and}
use Rattle.sheet_reader.proofs.BracketLemmas.{no_stray, stray_here}
use Rattle.sheet_reader.proofs.ValueForms.{closes_one}

pub plain_stays : (bs : List Bracket) (kind : TokenKind) → opened_by kind ≡ None → closed_by kind ≡ None → open_after bs kind ≡ bs
plain_stays bs kind a b = ap (λ (o : Option Bracket). open_by bs o (closed_by kind)) a ∙ ap (open_by bs None) b

opens_no_stray : (kind : TokenKind) (b : Bracket) (bs : List Bracket) → opened_by kind ≡ Some b → is_stray bs kind ≡ false
opens_no_stray tokens.CloseRound b bs e = absurd (cc)
opens_no_stray tokens.CloseSquare b bs e = absurd (cc)
opens_no_stray tokens.CloseCurly b bs e = absurd (cc)
opens_no_stray _ b bs e = refl

own_no_stray : (b : Bracket) (bs : List Bracket) (o : Option Bracket) → is_closing_by b o ≡ true → is_stray_by (b ∷ bs) o ≡ false
own_no_stray b bs None e = refl
own_no_stray b bs (Some c) e = ap (λ (x : Bool). cond x false true) e

-- nested pieces leave what is open as it was
pub nested_passes : (front rest : List Token) (bs : List Bracket) → AreNested front → nesting_in bs (front ++ rest) ≡ nesting_in bs rest
nested_passes _ rest bs none_nested = refl
nested_passes _ rest bs (plain_and t ts a b more) =
    no_stray bs t (ts ++ rest) (ap (is_stray_by bs) b) ∙ ap (λ (x : List Bracket). nesting_in x (ts ++ rest))
    (plain_stays bs t.kind a b) ∙ nested_passes ts rest bs more
nested_passes all rest bs (nested_and t close within ts b whole opens own closes more) =
    ap (λ (xs : List Token). nesting_in bs (xs ++ rest)) whole
    ∙ ap (λ (xs : List Token). nesting_in bs (t ∷ xs)) (append_assoc within (close ∷ ts) rest)
    ∙ no_stray bs t (within ++ close ∷ (ts ++ rest)) (opens_no_stray t.kind b bs opens)
    ∙ ap (λ (x : List Bracket). nesting_in x (within ++ close ∷ (ts ++ rest)))
    (ap (λ (o : Option Bracket). open_by bs o (closed_by t.kind)) opens)
    ∙ nested_passes within (close ∷ (ts ++ rest)) (b ∷ bs) own
    ∙ no_stray (b ∷ bs) close (ts ++ rest) (own_no_stray b bs (closed_by close.kind) closes)
    ∙ ap (λ (x : List Bracket). nesting_in x (ts ++ rest)) (closes_one b bs close.kind closes)
    ∙ nested_passes ts rest bs more

pub nested_closes : (ts : List Token) → AreNested ts → nesting ts ≡ Closed
unfolding nesting_in
nested_closes ts nested = ap (nesting_in []) (sym (append-nil ts)) ∙ nested_passes ts [] [] nested

-- nested pieces, and then what closes each of these brackets with nested pieces behind it
data Closes : List Bracket → List Token → Type 0 where
  closes_none : {ts : List Token} → AreNested ts → Closes [] ts
  closes_then : {b : Bracket} {bs : List Bracket} {ts : List Token} (front : List Token) (close : Token) (more : List Token)
      → ts ≡ front ++ close ∷ more → AreNested front → is_closing b close.kind ≡ true → Closes bs more → Closes (b ∷ bs) ts

add_plain : (bs : List Bracket) (t : Token) (ts : List Token) → opened_by t.kind ≡ None → closed_by t.kind ≡ None → Closes bs ts
    → Closes bs (t ∷ ts)
add_plain _ t ts a b (closes_none nested) = closes_none (plain_and t ts a b nested)
add_plain _ t ts a b (closes_then front close more is nested closes others) = closes_then (t ∷ front) close more
    (ap (λ (xs : List Token). t ∷ xs) is) (plain_and t front a b nested) closes others

add_nested : (bs : List Bracket) (b : Bracket) (t close : Token) (within more ts : List Token) → ts ≡ within ++ close ∷ more
    → opened_by t.kind ≡ Some b → AreNested within → is_closing b close.kind ≡ true → Closes bs more → Closes bs (t ∷ ts)
add_nested _ b t close within more ts is opens own closes (closes_none nested) = closes_none
    (nested_and t close within more b (ap (λ (xs : List Token). t ∷ xs) is) opens own closes nested)
add_nested _ b t close within more ts is opens own closes (closes_then front last rest whole nested ends others) =
    closes_then (t ∷ (within ++ close ∷ front)) last rest
    (ap (λ (xs : List Token). t ∷ xs)
    (is ∙ ap (λ (xs : List Token). within ++ close ∷ xs) whole ∙ sym (append_assoc within (close ∷ front) (last ∷ rest))))
    (nested_and t close within front b refl opens own closes nested) ends others

add_block : (bs : List Bracket) (b : Bracket) (t : Token) (ts : List Token) → opened_by t.kind ≡ Some b → Closes (b ∷ bs) ts
    → Closes bs (t ∷ ts)
add_block bs b t ts opens (closes_then front close more is nested closes others) = add_nested bs b t close front more ts is opens nested
    closes others

-- what the piece closes, where it is no stray one
add_close : (bs : List Bracket) (c : Bracket) (t : Token) (ts : List Token) → closed_by t.kind ≡ Some c → is_stray_by bs (Some c) ≡ false
    → ((cs : List Bracket) → nesting_in cs ts ≡ Closed → Closes cs ts)
    → nesting_in (open_by bs None (Some c)) ts ≡ Closed → Closes bs (t ∷ ts)
add_close [] c t ts e stray below all = absurd (cc)
add_close (b ∷ bs) c t ts e stray below all = by (is_same c b) refl stray all
  where
    by : (x : Bool) → is_same c b ≡ x → cond x false true ≡ false → nesting_in (cond x bs (b ∷ bs)) ts ≡ Closed → Closes (b ∷ bs) (t ∷ ts)
    by false same stray all = absurd (cc)
    by true same stray all = closes_then [] t ts refl none_nested (ap (is_closing_by b) e ∙ same) (below bs all)

by_kind : (bs : List Bracket) (t : Token) (ts : List Token) (o c : Option Bracket) → opened_by t.kind ≡ o → closed_by t.kind ≡ c
    → is_stray_by bs c ≡ false → ((cs : List Bracket) → nesting_in cs ts ≡ Closed → Closes cs ts)
    → nesting_in (open_by bs o c) ts ≡ Closed → Closes bs (t ∷ ts)
by_kind bs t ts (Some b) c e f stray below all = add_block bs b t ts e (below (b ∷ bs) all)
by_kind bs t ts None (Some c) e f stray below all = add_close bs c t ts f stray below all
by_kind bs t ts None None e f stray below all = add_plain bs t ts e f (below bs all)

by_stray : (bs : List Bracket) (t : Token) (ts : List Token) (x : Bool) → is_stray bs t.kind ≡ x
    → ((cs : List Bracket) → nesting_in cs ts ≡ Closed → Closes cs ts) → nesting_in bs (t ∷ ts) ≡ Closed → Closes bs (t ∷ ts)
by_stray bs t ts true e below all = let no : Stray ≡ Closed = sym (stray_here bs t ts e) ∙ all in absurd (cc)
by_stray bs t ts false e below all = by_kind bs t ts (opened_by t.kind) (closed_by t.kind) refl refl e below
    (sym (no_stray bs t ts e) ∙ all)

closed_in : (ts : List Token) (bs : List Bracket) → nesting_in bs ts ≡ Closed → Closes bs ts
unfolding nesting_in
closed_in [] [] all = closes_none none_nested
closed_in [] (b ∷ bs) all = absurd (cc)
closed_in (t ∷ ts) bs all = by_stray bs t ts (is_stray bs t.kind) refl (λ cs. closed_in ts cs) all

outermost : (ts : List Token) → Closes [] ts → AreNested ts
outermost ts (closes_none nested) = nested

pub closed_nested : (ts : List Token) → nesting ts ≡ Closed → AreNested ts
closed_nested ts all = outermost ts (closed_in ts [] all)
