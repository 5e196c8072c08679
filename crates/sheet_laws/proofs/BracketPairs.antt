-- Closing brackets that each have their opening one, as a relation and as it is counted.
use Rattle.std.proofs.Common.{◌≡◌, Bool, true, false, cond, List, [], ◌∷◌, ◌++◌, Option, Some, None, refl, sym, ap, ◌∙◌, append_assoc}
use Rattle.css_tokens.specs.declared.token.Token.{Token}
use Rattle.css_tokens.specs.declared.token.TokenKind.{TokenKind}
use Rattle.css_tokens.specs.declared.token.TokenKind.TheVariants as tokens
use Rattle.sheet_reader.specs.Brackets.{is_same, opened_by, closed_by, open_by, is_stray, is_stray_by, nesting_of, nesting_in, nesting}
use Rattle.sheet_reader.specs.Declarations.{is_stray_nesting}
use Rattle.sheet_reader.specs.Grammar.{is_closing, is_closing_by, AreNested, none_nested, plain_and, nested_and}
use Rattle.sheet_reader.proofs.BracketLemmas.{stray_here, no_stray}
use Rattle.sheet_reader.proofs.Names.{Bracket}
use Rattle.sheet_reader.proofs.NestingForms.{nested_passes}
use Rattle.sheet_laws.specs.Values.{AreMatched, none_matched, plain_then, nested_then, open_then}

-- pieces behind open brackets: what closes the innermost of them with nested pieces before it, and then the others; or none of
-- those that are left is closed
data Closing : List Bracket → List Token → Type 0 where
  all_matched : {bs : List Bracket} {ts : List Token} → AreMatched ts → Closing bs ts
  closes_next : {b : Bracket} {bs : List Bracket} {ts : List Token} (front : List Token) (close : Token) (more : List Token)
      → ts ≡ front ++ close ∷ more → AreNested front → is_closing b close.kind ≡ true → Closing bs more → Closing (b ∷ bs) ts

add_plain : (bs : List Bracket) (t : Token) (ts : List Token) → opened_by t.kind ≡ None → closed_by t.kind ≡ None → Closing bs ts
    → Closing bs (t ∷ ts)
add_plain _ t ts a b (all_matched m) = all_matched (plain_then t ts a b m)
add_plain _ t ts a b (closes_next front close more is nested closes others) = closes_next (t ∷ front) close more
    (ap (λ (xs : List Token). t ∷ xs) is) (plain_and t front a b nested) closes others

add_pair : (bs : List Bracket) (b : Bracket) (t close : Token) (within more ts : List Token) → ts ≡ within ++ close ∷ more
    → opened_by t.kind ≡ Some b → AreNested within → is_closing b close.kind ≡ true → Closing bs more → Closing bs (t ∷ ts)
add_pair _ b t close within more ts is opens own closes (all_matched m) = all_matched
    (nested_then t close within more b (ap (λ (xs : List Token). t ∷ xs) is) opens own closes m)
add_pair _ b t close within more ts is opens own closes (closes_next front last rest whole nested ends others) =
    closes_next (t ∷ (within ++ close ∷ front)) last rest
    (ap (λ (xs : List Token). t ∷ xs)
    (is ∙ ap (λ (xs : List Token). within ++ close ∷ xs) whole ∙ sym (append_assoc within (close ∷ front) (last ∷ rest))))
    (nested_and t close within front b refl opens own closes nested) ends others

add_open : (bs : List Bracket) (b : Bracket) (t : Token) (ts : List Token) → opened_by t.kind ≡ Some b → Closing (b ∷ bs) ts
    → Closing bs (t ∷ ts)
add_open bs b t ts opens (all_matched m) = all_matched (open_then t ts b opens m)
add_open bs b t ts opens (closes_next front close more is nested closes others) = add_pair bs b t close front more ts is opens nested
    closes others

-- what the piece closes, where it is no stray one
add_close : (bs : List Bracket) (c : Bracket) (t : Token) (ts : List Token) → closed_by t.kind ≡ Some c → is_stray_by bs (Some c) ≡ false
    → ((cs : List Bracket) → is_stray_nesting (nesting_in cs ts) ≡ false → Closing cs ts)
    → is_stray_nesting (nesting_in (open_by bs None (Some c)) ts) ≡ false → Closing bs (t ∷ ts)
add_close [] c t ts e stray below all = absurd (cc)
add_close (b ∷ bs) c t ts e stray below all = by (is_same c b) refl stray all
  where
    by : (x : Bool) → is_same c b ≡ x → cond x false true ≡ false → is_stray_nesting (nesting_in (cond x bs (b ∷ bs)) ts) ≡ false
        → Closing (b ∷ bs) (t ∷ ts)
    by false same stray all = absurd (cc)
    by true same stray all = closes_next [] t ts refl none_nested (ap (is_closing_by b) e ∙ same) (below bs all)

by_bracket : (bs : List Bracket) (t : Token) (ts : List Token) (o c : Option Bracket) → opened_by t.kind ≡ o → closed_by t.kind ≡ c
    → is_stray_by bs c ≡ false → ((cs : List Bracket) → is_stray_nesting (nesting_in cs ts) ≡ false → Closing cs ts)
    → is_stray_nesting (nesting_in (open_by bs o c) ts) ≡ false → Closing bs (t ∷ ts)
by_bracket bs t ts (Some b) c e f stray below all = add_open bs b t ts e (below (b ∷ bs) all)
by_bracket bs t ts None (Some c) e f stray below all = add_close bs c t ts f stray below all
by_bracket bs t ts None None e f stray below all = add_plain bs t ts e f (below bs all)

by_stray : (bs : List Bracket) (t : Token) (ts : List Token) (x : Bool) → is_stray bs t.kind ≡ x
    → ((cs : List Bracket) → is_stray_nesting (nesting_in cs ts) ≡ false → Closing cs ts)
    → is_stray_nesting (nesting_in bs (t ∷ ts)) ≡ false → Closing bs (t ∷ ts)
by_stray bs t ts true e below all = let no_way : true ≡ false = sym (ap is_stray_nesting (stray_here bs t ts e)) ∙ all in absurd (cc)
by_stray bs t ts false e below all = by_bracket bs t ts (opened_by t.kind) (closed_by t.kind) refl refl e below
    (sym (ap is_stray_nesting (no_stray bs t ts e)) ∙ all)

closing_in : (ts : List Token) (bs : List Bracket) → is_stray_nesting (nesting_in bs ts) ≡ false → Closing bs ts
closing_in [] bs all = all_matched none_matched
closing_in (t ∷ ts) bs all = by_stray bs t ts (is_stray bs t.kind) refl (λ cs. closing_in ts cs) all

outermost : (ts : List Token) → Closing [] ts → AreMatched ts
outermost ts (all_matched m) = m

pub counted_matched : (ts : List Token) → is_stray_nesting (nesting ts) ≡ false → AreMatched ts
counted_matched ts all = outermost ts (closing_in ts [] all)

-- ---- back

stray_none : (bs : List Bracket) → is_stray_nesting (nesting_of bs) ≡ false
stray_none [] = refl
stray_none (b ∷ bs) = refl

stray_at_end : (bs : List Bracket) → is_stray_nesting (nesting_in bs []) ≡ false
unfolding nesting_in
stray_at_end bs = stray_none bs

plain_on : (bs : List Bracket) (t : Token) (ts : List Token) → opened_by t.kind ≡ None → closed_by t.kind ≡ None
    → nesting_in bs (t ∷ ts) ≡ nesting_in bs ts
plain_on bs t ts a b =
    no_stray bs t ts (ap (is_stray_by bs) b) ∙ (λ i. nesting_in (open_by bs (a i) (b i)) ts)

opens_alone : (kind : TokenKind) (b : Bracket) → opened_by kind ≡ Some b → closed_by kind ≡ None
opens_alone tokens.CloseRound b e = absurd (cc)
opens_alone tokens.CloseSquare b e = absurd (cc)
opens_alone tokens.CloseCurly b e = absurd (cc)
opens_alone _ b e = refl

open_on : (bs : List Bracket) (t : Token) (ts : List Token) (b : Bracket) → opened_by t.kind ≡ Some b
    → nesting_in bs (t ∷ ts) ≡ nesting_in (b ∷ bs) ts
open_on bs t ts b e = no_stray bs t ts (ap (is_stray_by bs) (opens_alone t.kind b e)) ∙ ap
    (λ (o : Option Bracket). nesting_in (open_by bs o (closed_by t.kind)) ts) e

pub matched_counted : (ts : List Token) (bs : List Bracket) → AreMatched ts → is_stray_nesting (nesting_in bs ts) ≡ false
matched_counted _ bs none_matched = stray_at_end bs
matched_counted _ bs (plain_then t ts a b m) = ap is_stray_nesting (plain_on bs t ts a b) ∙ matched_counted ts bs m
matched_counted all bs (nested_then t close within ts b whole opens own closes m) =
    let block = t ∷ (within ++ close ∷ []) in
    let is : all ≡ block ++ ts = whole ∙ ap (λ (xs : List Token). t ∷ xs) (sym (append_assoc within (close ∷ []) ts)) in
    ap (λ (xs : List Token). is_stray_nesting (nesting_in bs xs)) is
    ∙ ap is_stray_nesting (nested_passes block ts bs (nested_and t close within [] b refl opens own closes none_nested))
    ∙ matched_counted ts bs m
matched_counted _ bs (open_then t ts b opens m) = ap is_stray_nesting (open_on bs t ts b opens) ∙ matched_counted ts (b ∷ bs) m
