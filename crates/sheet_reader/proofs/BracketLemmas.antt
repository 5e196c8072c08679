-- One piece more, in a search for where component values stop and in how brackets nest.
use Rattle.std.proofs.Common.{◌≡◌, ℕ, suc, ◌+◌, ◌<◌, ◌≤◌, Bool, true, false, cond, ◌&&◌, List, [], ◌∷◌, length, drop, get_or, refl, sym, ap}
use Rattle.std.proofs.Common.{◌∙◌, arith, add-one}
use Rattle.std.proofs.Math.Seq.{drop-cons}
use Rattle.std.proofs.lemmas.List.{drop_all}
use Rattle.css_tokens.specs.declared.token.Token.{Token}
use Rattle.css_tokens.specs.declared.token.TokenKind.{TokenKind}
use Rattle.css_tokens.specs.declared.token.TokenKind.TheVariants as tokens
use Rattle.sheet_reader.specs.declared.brackets.Bracket.{Bracket}
use Rattle.sheet_reader.specs.declared.brackets.Stop.{Stop}
use Rattle.sheet_reader.specs.declared.brackets.Nesting.{Nesting}
use Rattle.sheet_reader.specs.declared.brackets.Nesting.TheVariants.{Stray}
use Rattle.sheet_reader.specs.Brackets.{is_no_bracket, open_after, is_none_open, stops_at, until_in, is_stray, nesting_of, nesting_in}

pub cut_at : (ts : List Token) (i : ℕ) (d : Token) → i < length ts → drop i ts ≡ get_or ts i d ∷ drop (i + 1) ts
cut_at ts i d inside = drop-cons ts i d inside ∙ ap (λ (k : ℕ). get_or ts i d ∷ drop k ts) (sym (add-one i))

pub stop_here : (stop : Stop) (bs : List Bracket) (t : Token) (ts : List Token) → (is_none_open bs && stops_at stop t.kind) ≡ true
    → until_in stop bs (t ∷ ts) ≡ 0
unfolding until_in
stop_here stop bs t ts e = ap (λ (b : Bool). cond b 0 (suc (until_in stop (open_after bs t.kind) ts))) e

pub go_on : (stop : Stop) (bs : List Bracket) (t : Token) (ts : List Token) → (is_none_open bs && stops_at stop t.kind) ≡ false
    → until_in stop bs (t ∷ ts) ≡ suc (until_in stop (open_after bs t.kind) ts)
unfolding until_in
go_on stop bs t ts e = ap (λ (b : Bool). cond b 0 (suc (until_in stop (open_after bs t.kind) ts))) e

pub none_left : (stop : Stop) (bs : List Bracket) → until_in stop bs [] ≡ 0
unfolding until_in
none_left stop bs = refl

pub until_stops : (stop : Stop) (bs : List Bracket) (ts : List Token) (i n total : ℕ) (d : Token) → i < length ts
    → (is_none_open bs && stops_at stop (get_or ts i d).kind) ≡ true
    → n + until_in stop bs (drop i ts) ≡ total → n ≡ total
until_stops stop bs ts i n total d inside e so_far =
    let stopped = ap (until_in stop bs) (cut_at ts i d inside) ∙ stop_here stop bs (get_or ts i d) (drop (i + 1) ts) e in
    omega (arith, stopped, so_far)

pub until_goes_on : (stop : Stop) (bs new : List Bracket) (ts : List Token) (i n total : ℕ) (d : Token) → i < length ts
    → (is_none_open bs && stops_at stop (get_or ts i d).kind) ≡ false
    → new ≡ open_after bs (get_or ts i d).kind → n + until_in stop bs (drop i ts) ≡ total
    → n + 1 + until_in stop new (drop (i + 1) ts) ≡ total
until_goes_on stop bs new ts i n total d inside e is_new so_far =
    let more = ap (until_in stop bs) (cut_at ts i d inside) ∙ go_on stop bs (get_or ts i d) (drop (i + 1) ts) e in
    let same = ap (λ (b : List Bracket). until_in stop b (drop (i + 1) ts)) is_new in
    omega (arith, more, same, so_far)

-- a piece that is no bracket leaves what is open
leaves_open : (bs : List Bracket) (kind : TokenKind) → is_no_bracket kind ≡ true → bs ≡ open_after bs kind
leaves_open bs tokens.Function e = absurd (cc)
leaves_open bs tokens.OpenRound e = absurd (cc)
leaves_open bs tokens.OpenSquare e = absurd (cc)
leaves_open bs tokens.OpenCurly e = absurd (cc)
leaves_open bs tokens.CloseRound e = absurd (cc)
leaves_open bs tokens.CloseSquare e = absurd (cc)
leaves_open bs tokens.CloseCurly e = absurd (cc)
leaves_open bs _ e = refl

pub until_skips : (stop : Stop) (bs : List Bracket) (ts : List Token) (i n total : ℕ) (d : Token) → i < length ts
    → (is_none_open bs && stops_at stop (get_or ts i d).kind) ≡ false → is_no_bracket (get_or ts i d).kind ≡ true
    → n + until_in stop bs (drop i ts) ≡ total → n + 1 + until_in stop bs (drop (i + 1) ts) ≡ total
until_skips stop bs ts i n total d inside e plain so_far =
    until_goes_on stop bs bs ts i n total d inside e (leaves_open bs (get_or ts i d).kind plain) so_far

pub until_ends : (stop : Stop) (bs : List Bracket) (ts : List Token) (i n total : ℕ) → length ts ≤ i
    → n + until_in stop bs (drop i ts) ≡ total → n ≡ total
until_ends stop bs ts i n total past so_far =
    let ended = ap (until_in stop bs) (drop_all i ts past) ∙ none_left stop bs in
    omega (arith, ended, so_far)

pub stray_here : (bs : List Bracket) (t : Token) (ts : List Token) → is_stray bs t.kind ≡ true → nesting_in bs (t ∷ ts) ≡ Stray
unfolding nesting_in
stray_here bs t ts e = ap (λ (b : Bool). cond b Stray (nesting_in (open_after bs t.kind) ts)) e

pub no_stray : (bs : List Bracket) (t : Token) (ts : List Token) → is_stray bs t.kind ≡ false
    → nesting_in bs (t ∷ ts) ≡ nesting_in (open_after bs t.kind) ts
unfolding nesting_in
no_stray bs t ts e = ap (λ (b : Bool). cond b Stray (nesting_in (open_after bs t.kind) ts)) e

none_nested : (bs : List Bracket) → nesting_in bs [] ≡ nesting_of bs
unfolding nesting_in
none_nested bs = refl

pub nesting_stray : (bs : List Bracket) (ts : List Token) (i : ℕ) (total : Nesting) (d : Token) → i < length ts
    → is_stray bs (get_or ts i d).kind ≡ true → nesting_in bs (drop i ts) ≡ total → Stray ≡ total
nesting_stray bs ts i total d inside e so_far =
    sym (stray_here bs (get_or ts i d) (drop (i + 1) ts) e) ∙ sym (ap (nesting_in bs) (cut_at ts i d inside)) ∙ so_far

pub nesting_goes_on : (bs new : List Bracket) (ts : List Token) (i : ℕ) (total : Nesting) (d : Token) → i < length ts
    → is_stray bs (get_or ts i d).kind ≡ false
    → new ≡ open_after bs (get_or ts i d).kind → nesting_in bs (drop i ts) ≡ total → nesting_in new (drop (i + 1) ts) ≡ total
nesting_goes_on bs new ts i total d inside e is_new so_far =
    ap (λ (b : List Bracket). nesting_in b (drop (i + 1) ts)) is_new ∙ sym (no_stray bs (get_or ts i d) (drop (i + 1) ts) e) ∙ sym
    (ap (nesting_in bs) (cut_at ts i d inside)) ∙ so_far

-- a piece that is no bracket is no stray one
never_stray : (bs : List Bracket) (kind : TokenKind) → is_no_bracket kind ≡ true → is_stray bs kind ≡ false
never_stray bs tokens.CloseRound e = absurd (cc)
never_stray bs tokens.CloseSquare e = absurd (cc)
never_stray bs tokens.CloseCurly e = absurd (cc)
never_stray bs _ e = refl

pub nesting_skips : (bs : List Bracket) (ts : List Token) (i : ℕ) (total : Nesting) (d : Token) → i < length ts
    → is_no_bracket (get_or ts i d).kind ≡ true → nesting_in bs (drop i ts) ≡ total → nesting_in bs (drop (i + 1) ts) ≡ total
nesting_skips bs ts i total d inside plain so_far =
    nesting_goes_on bs bs ts i total d inside (never_stray bs (get_or ts i d).kind plain) (leaves_open bs (get_or ts i d).kind plain) so_far

pub nesting_ends : (bs : List Bracket) (ts : List Token) (i : ℕ) (total answer : Nesting) → length ts ≤ i → answer ≡ nesting_of bs
    → nesting_in bs (drop i ts) ≡ total → answer ≡ total
nesting_ends bs ts i total answer past is_answer so_far =
    is_answer ∙ sym (none_nested bs) ∙ sym (ap (nesting_in bs) (drop_all i ts past)) ∙ so_far
