-- Component values by their grammar, and where the search for their end stops: each the other's.
use Rattle.std.proofs.Common.{◌≡◌, ℕ, suc, ◌+◌, Bool, true, false, cond, ◌&&◌, List, [], ◌∷◌, ◌++◌, length, take, drop, Option, Some, None}
use Rattle.std.proofs.Common.{refl, sym, ap, subst, ◌∙◌, append_assoc, length-append, arith}
use Rattle.std.proofs.Math.Seq.{take-append_seam, drop-append_seam}
use Rattle.css_tokens.specs.declared.token.Token.{Token}
use Rattle.css_tokens.specs.declared.token.TokenKind.{TokenKind}
use Rattle.css_tokens.specs.declared.token.TokenKind.TheVariants as tokens
use Rattle.sheet_reader.specs.declared.brackets.Bracket.{Bracket}
use Rattle.sheet_reader.specs.declared.brackets.Stop.{Stop}
use Rattle.sheet_reader.specs.Brackets.{opened_by, closed_by, open_by, open_after, is_none_open, stops_at, until_in, until}
use Rattle.sheet_reader.specs.Grammar.{Place, outside, inside, is_closing_by, is_closing, value_ends_before, AreValues, no_values}
use Rattle.sheet_reader.specs.Grammar.{piece_and, block_and, open_block, EndsBefore}
use Rattle.sheet_reader.proofs.BracketLemmas.{stop_here, go_on, none_left}

abbrev pub place_of : Stop → List Bracket → Place
place_of stop [] = outside stop
place_of stop (b ∷ bs) = inside b

not_stopped : (stop : Stop) (bs : List Bracket) (kind : TokenKind) → value_ends_before (place_of stop bs) kind ≡ false
    → (is_none_open bs && stops_at stop kind) ≡ false
not_stopped stop [] kind e = e
not_stopped stop (b ∷ bs) kind e = refl

stays_by : (stop : Stop) (bs : List Bracket) (o : Option Bracket)
    → ((b : Bracket) (outer : List Bracket) → bs ≡ b ∷ outer → is_closing_by b o ≡ false) → open_by bs None o ≡ bs
stays_by stop bs None e = refl
stays_by stop [] (Some c) e = refl
stays_by stop (b ∷ bs) (Some c) e = ap (λ (x : Bool). cond x bs (b ∷ bs)) (e b bs refl)

stays_open : (stop : Stop) (bs : List Bracket) (kind : TokenKind) → opened_by kind ≡ None
    → value_ends_before (place_of stop bs) kind ≡ false → open_after bs kind ≡ bs
stays_open stop bs kind none e = ap (λ (o : Option Bracket). open_by bs o (closed_by kind)) none ∙ stays_by stop bs (closed_by kind)
    (λ b outer is. subst (λ (p : Place). value_ends_before p kind ≡ false) (ap (place_of stop) is) e)

opens_one : (bs : List Bracket) (kind : TokenKind) (b : Bracket) → opened_by kind ≡ Some b → open_after bs kind ≡ b ∷ bs
opens_one bs kind b e = ap (λ (o : Option Bracket). open_by bs o (closed_by kind)) e

closes_none : (b : Bracket) (kind : TokenKind) → is_closing b kind ≡ true → opened_by kind ≡ None
closes_none b tokens.Function e = absurd (cc)
closes_none b tokens.OpenRound e = absurd (cc)
closes_none b tokens.OpenSquare e = absurd (cc)
closes_none b tokens.OpenCurly e = absurd (cc)
closes_none b _ e = refl

closes_by : (b : Bracket) (bs : List Bracket) (o : Option Bracket) → is_closing_by b o ≡ true → open_by (b ∷ bs) None o ≡ bs
closes_by b bs None e = absurd (cc)
closes_by b bs (Some c) e = ap (λ (x : Bool). cond x bs (b ∷ bs)) e

pub closes_one : (b : Bracket) (bs : List Bracket) (kind : TokenKind) → is_closing b kind ≡ true → open_after (b ∷ bs) kind ≡ bs
closes_one b bs kind e = ap (λ (o : Option Bracket). open_by (b ∷ bs) o (closed_by kind)) (closes_none b kind e) ∙ closes_by b bs
    (closed_by kind) e

step : (stop : Stop) (bs new : List Bracket) (t : Token) (ts : List Token) → value_ends_before (place_of stop bs) t.kind ≡ false
    → open_after bs t.kind ≡ new → until_in stop bs (t ∷ ts) ≡ suc (until_in stop new ts)
step stop bs new t ts e is_new = go_on stop bs t ts (not_stopped stop bs t.kind e) ∙ ap
    (λ (x : List Bracket). suc (until_in stop x ts)) is_new

-- the search passes over component values
pub passes_values : (stop : Stop) (bs : List Bracket) (place : Place) (front rest : List Token) → place ≡ place_of stop bs
    → AreValues place front rest → until_in stop bs (front ++ rest) ≡ length front + until_in stop bs rest
passes_values stop bs place _ rest is no_values = omega arith
passes_values stop bs place _ rest is (piece_and t ts e none more) =
    let here = subst (λ (p : Place). value_ends_before p t.kind ≡ false) is e in
    let first = step stop bs bs t (ts ++ rest) here (stays_open stop bs t.kind none here) in
    let others = passes_values stop bs place ts rest is more in
    omega (arith, first, others)
passes_values stop bs place all rest is (block_and t close within ts b whole e opens own closes more) =
    let here = subst (λ (p : Place). value_ends_before p t.kind ≡ false) is e in
    let first = step stop bs (b ∷ bs) t (within ++ close ∷ (ts ++ rest)) here (opens_one bs t.kind b opens) in
    let inner = passes_values stop (b ∷ bs) (inside b) within (close ∷ (ts ++ rest)) refl own in
    let last = go_on stop (b ∷ bs) close (ts ++ rest) refl ∙ ap (λ (x : List Bracket). suc (until_in stop x (ts ++ rest)))
    (closes_one b bs close.kind closes) in
    let others = passes_values stop bs place ts rest is more in
    let same = ap (λ (xs : List Token). until_in stop bs (xs ++ rest)) whole ∙ ap (λ (xs : List Token). until_in stop bs (t ∷ xs))
    (append_assoc within (close ∷ ts) rest) in
    let len = ap (λ (xs : List Token). length xs) whole in
    let len_inner = length-append within (close ∷ ts) in
    omega (arith, first, inner, last, others, same, len, len_inner)
passes_values stop bs place _ rest is (open_block t within b e opens own over) =
    let here = subst (λ (p : Place). value_ends_before p t.kind ≡ false) is e in
    let first = step stop bs (b ∷ bs) t (within ++ []) here (opens_one bs t.kind b opens) in
    let inner = passes_values stop (b ∷ bs) (inside b) within [] refl own in
    let none = none_left stop (b ∷ bs) in
    let left = ap (until_in stop bs) over ∙ none_left stop bs in
    let same = ap (λ (xs : List Token). until_in stop bs (t ∷ (within ++ xs))) over in
    omega (arith, first, inner, none, left, same)

stopped : (stop : Stop) (rest : List Token) → EndsBefore (outside stop) rest → until stop rest ≡ 0
stopped stop [] e = none_left stop []
stopped stop (t ∷ ts) e = stop_here stop [] t ts e

-- the search stops behind component values that end there
pub until_is : (stop : Stop) (front rest : List Token) → AreValues (outside stop) front rest → EndsBefore (outside stop) rest
    → until stop (front ++ rest) ≡ length front
until_is stop front rest values over =
    let passed = passes_values stop [] (outside stop) front rest refl values in
    let none = stopped stop rest over in
    omega (arith, passed, none)

-- ---- each list of pieces has such values at its front

-- what stands behind component values inside these brackets, and then behind those outside each
data Behind (stop : Stop) : List Bracket → List Token → Type 0 where
  at_end : {bs : List Bracket} → Behind stop bs []
  at_stop : {t : Token} {ts : List Token} → stops_at stop t.kind ≡ true → Behind stop [] (t ∷ ts)
  at_close : {b : Bracket} {bs : List Bracket} {close : Token} {more : List Token} (front rest : List Token)
      → is_closing b close.kind ≡ true → more ≡ front ++ rest → AreValues (place_of stop bs) front rest → Behind stop bs rest
      → Behind stop (b ∷ bs) (close ∷ more)

record Unwound (stop : Stop) (bs : List Bracket) (ts : List Token) : Type 0 where
  front : List Token
  rest : List Token
  is : ts ≡ front ++ rest
  values : AreValues (place_of stop bs) front rest
  behind : Behind stop bs rest

add_piece : (stop : Stop) (bs : List Bracket) (t : Token) (ts : List Token) → value_ends_before (place_of stop bs) t.kind ≡ false
    → opened_by t.kind ≡ None → Unwound stop bs ts → Unwound stop bs (t ∷ ts)
add_piece stop bs t ts e none u = record {
  front = t ∷ u.front;
  rest = u.rest;
  is = ap (λ (xs : List Token). t ∷ xs) u.is;
  values = piece_and t u.front e none u.values;
  behind = u.behind;
}

add_block : (stop : Stop) (bs : List Bracket) (b : Bracket) (t : Token) (ts front rest : List Token)
    → value_ends_before (place_of stop bs) t.kind ≡ false → opened_by t.kind ≡ Some b
    → ts ≡ front ++ rest → AreValues (inside b) front rest → Behind stop (b ∷ bs) rest → Unwound stop bs (t ∷ ts)
add_block stop bs b t ts front _ e opens is own at_end = record {
  front = t ∷ front;
  rest = [];
  is = ap (λ (xs : List Token). t ∷ xs) is;
  values = open_block t front b e opens own refl;
  behind = at_end;
}
add_block stop bs b t ts front _ e opens is own (at_close {close = close} {more = more} outer rest closes whole values behind) = record {
  front = t ∷ (front ++ close ∷ outer);
  rest = rest;
  is = ap (λ (xs : List Token). t ∷ xs)
      (is ∙ ap (λ (xs : List Token). front ++ close ∷ xs) whole ∙ sym (append_assoc front (close ∷ outer) rest));
  values = block_and t close front outer b refl e opens
      (subst (λ (xs : List Token). AreValues (inside b) front (close ∷ xs)) whole own) closes values;
  behind = behind;
}

by_opened : (stop : Stop) (bs : List Bracket) (t : Token) (ts : List Token) (o : Option Bracket) → opened_by t.kind ≡ o
    → value_ends_before (place_of stop bs) t.kind ≡ false
    → Unwound stop bs ts → ((b : Bracket) → Unwound stop (b ∷ bs) ts) → Unwound stop bs (t ∷ ts)
by_opened stop bs t ts None e goes plain deeper = add_piece stop bs t ts goes e plain
by_opened stop bs t ts (Some b) e goes plain deeper = let u = deeper b in add_block stop bs b t ts u.front u.rest goes e u.is u.values
    u.behind

by_end : (stop : Stop) (bs : List Bracket) (t : Token) (ts : List Token) (x : Bool) → value_ends_before (place_of stop bs) t.kind ≡ x
    → ((cs : List Bracket) → Unwound stop cs ts) → Unwound stop bs (t ∷ ts)
by_end stop bs t ts false e below = by_opened stop bs t ts (opened_by t.kind) refl e (below bs) (λ b. below (b ∷ bs))
by_end stop [] t ts true e below = record { front = []; rest = t ∷ ts; is = refl; values = no_values; behind = at_stop e }
by_end stop (b ∷ bs) t ts true e below =
    let u = below bs in
    record { front = []; rest = t ∷ ts; is = refl; values = no_values; behind = at_close u.front u.rest e u.is u.values u.behind }

unwind : (stop : Stop) (ts : List Token) (bs : List Bracket) → Unwound stop bs ts
unwind stop [] bs = record { front = []; rest = []; is = refl; values = no_values; behind = at_end }
unwind stop (t ∷ ts) bs = by_end stop bs t ts (value_ends_before (place_of stop bs) t.kind) refl (λ cs. unwind stop ts cs)

over : (stop : Stop) (rest : List Token) → Behind stop [] rest → EndsBefore (outside stop) rest
over stop _ at_end = tt
over stop _ (at_stop e) = e

-- the pieces up to where the search stops are component values, and these end there
pub record Splits (stop : Stop) (ts : List Token) : Type 0 where
  pub values : AreValues (outside stop) (take (until stop ts) ts) (drop (until stop ts) ts)
  pub stopped : EndsBefore (outside stop) (drop (until stop ts) ts)

pub until_splits : (stop : Stop) (ts : List Token) → Splits stop ts
until_splits stop ts =
    let u = unwind stop ts [] in
    let n = ap (until stop) u.is ∙ until_is stop u.front u.rest u.values (over stop u.rest u.behind) in
    let front : take (until stop ts) ts
    ≡ u.front = ap (λ (k : ℕ). take k ts) n ∙ ap
    (λ (xs : List Token). take (length u.front) xs) u.is ∙ take-append_seam u.front u.rest in
    let rest : drop (until stop ts) ts
    ≡ u.rest = ap (λ (k : ℕ). drop k ts) n ∙ ap
    (λ (xs : List Token). drop (length u.front) xs) u.is ∙ drop-append_seam u.front u.rest in
    record {
      values = subst (λ (xs : List Token). AreValues (outside stop) xs (drop (until stop ts) ts)) (sym front)
          (subst (AreValues (outside stop) u.front) (sym rest) u.values);
      stopped = subst (EndsBefore (outside stop)) (sym rest) (over stop u.rest u.behind);
    }
