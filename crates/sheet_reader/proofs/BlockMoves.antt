-- A block in which a body stands that is replaced by nested pieces: it ends where it did.
use Rattle.std.proofs.Common.{◌≡◌, ℕ, suc, ◌+◌, ◌≤◌, Bool, true, false, ◌&&◌, List, [], ◌∷◌, ◌++◌, map, take, drop, length, Option, Some}
use Rattle.std.proofs.Common.{None}
use Rattle.std.proofs.Common.{refl, sym, ap, subst, ◌∙◌, append_assoc, length-append, arith}
use Rattle.std.specs.Prelude.{option_map, option_to_list}
use Rattle.std.proofs.lemmas.List.{append-nil}
use Rattle.std.proofs.Math.Seq.{drop-append_seam, take-append_seam}
use Rattle.css_tokens.specs.declared.token.Token.{Token}
use Rattle.css_tokens.specs.declared.token.TokenKind.{TokenKind}
use Rattle.css_tokens.specs.declared.token.TokenKind.TheVariants as tokens
use Rattle.sheet_reader.specs.declared.brackets.Bracket.{Bracket}
use Rattle.sheet_reader.specs.declared.brackets.Bracket.TheVariants.{Curly}
use Rattle.sheet_reader.specs.declared.brackets.Stop.TheVariants as stops
use Rattle.sheet_reader.specs.Brackets.{opened_by, closed_by, open_after, is_none_open, stops_at, until_in, until}
use Rattle.sheet_reader.specs.Parts.{block}
use Rattle.sheet_reader.specs.Grammar.{outside, is_closing, AreValues, IsEnding, in_block, in_open_block, AreNested}
use Rattle.sheet_reader.proofs.Raised.{raised}
use Rattle.sheet_reader.proofs.BracketLemmas.{stop_here, go_on}
use Rattle.sheet_reader.proofs.ValueForms.{closes_one, until_is, until_splits}
use Rattle.sheet_reader.proofs.OpenForms.{opens, passes, under_by, some_open, values_shut}
use Rattle.sheet_reader.proofs.ExchangeForms.{nested_on, reaches, opens_one}
use Rattle.sheet_reader.proofs.PartMoves.{cons_follows, values_rest, until_raised, map_append, map_length}

-- a body that is closed ends at its `}`
abbrev pub BodyShut : List Token → Option Token → Type 0
BodyShut body None = Unit {0}
BodyShut body (Some c) = (c.kind ≡ tokens.CloseCurly) × AreValues (outside stops.BlockEnd) body (c ∷ [])

-- pieces among which a block does not end, where it stands in another one
under_on : (ts ys : List Token) (cs bs : List Bracket) → length ts ≤ until_in stops.BlockEnd cs (ts ++ ys)
    → until_in stops.BlockEnd (cs ++ Curly ∷ bs) (ts ++ ys) ≡ length ts + until_in stops.BlockEnd (opens cs ts ++ Curly ∷ bs) ys
unfolding opens
under_on [] ys cs bs fits = omega arith
under_on (t ∷ ts) ys cs bs fits = by (λ ds. under_on ts ys ds bs) (is_none_open cs && stops_at stops.BlockEnd t.kind) refl
  where
    by : ((ds : List Bracket) → length ts ≤ until_in stops.BlockEnd ds (ts ++ ys)
        → until_in stops.BlockEnd (ds ++ Curly ∷ bs) (ts ++ ys)
        ≡ length ts + until_in stops.BlockEnd (opens ds ts ++ Curly ∷ bs) ys)
        → (x : Bool) → (is_none_open cs && stops_at stops.BlockEnd t.kind) ≡ x
        → until_in stops.BlockEnd (cs ++ Curly ∷ bs) (t ∷ (ts ++ ys))
        ≡ suc (length ts) + until_in stops.BlockEnd (opens (open_after cs t.kind) ts ++ Curly ∷ bs) ys
    by further true e = let here = stop_here stops.BlockEnd cs t (ts ++ ys) e in absurd (omega (arith, here, fits))
    by further false e =
        let on = go_on stops.BlockEnd cs t (ts ++ ys) e in
        let deeper = go_on stops.BlockEnd (cs ++ Curly ∷ bs) t (ts ++ ys)
        (ap (λ (b : Bool). b && stops_at stops.BlockEnd t.kind) (some_open cs bs)) in
        let same = ap (λ (x : List Bracket). until_in stops.BlockEnd x (ts ++ ys))
        (under_by cs bs t.kind (opened_by t.kind) (closed_by t.kind) e refl) in
        let more = further (open_after cs t.kind) (omega (arith, on, fits)) in
        omega (arith, deeper, same, more)

closes_curly : (kind : TokenKind) → kind ≡ tokens.CloseCurly → is_closing Curly kind ≡ true
closes_curly kind e = ap (is_closing Curly) e

-- the search passes a closed body and its `}`, and goes on outside
body_passed : (body : List Token) (c : Token) (z : List Token) (bs : List Bracket) → BodyShut body (Some c)
    → until_in stops.BlockEnd (Curly ∷ bs) (body ++ c ∷ z) ≡ length body + suc (until_in stops.BlockEnd bs z)
body_passed body c z bs shut =
    let n = until_is stops.BlockEnd body (c ∷ z)
    (values_rest (outside stops.BlockEnd) body (c ∷ []) (c ∷ z) (cons_follows c []) shut.1) (ap (stops_at stops.BlockEnd) shut.0) in
    let on = under_on body (c ∷ z) [] bs (omega (arith, n)) in
    let none = ap (λ (x : List Bracket). until_in stops.BlockEnd (x ++ Curly ∷ bs) (c ∷ z)) (values_shut stops.BlockEnd body c z n) in
    let last = go_on stops.BlockEnd (Curly ∷ bs) c z refl in
    let back = ap (λ (x : List Bracket). until_in stops.BlockEnd x z) (closes_one Curly bs c.kind (closes_curly c.kind shut.0)) in
    omega (arith, on, none, last, back)

-- the search passes nested pieces in the place of the body, and a `}`
own_passed : (own : List Token) (c : Token) (z : List Token) (bs : List Bracket) → AreNested own → c.kind ≡ tokens.CloseCurly
    → until_in stops.BlockEnd (Curly ∷ bs) (own ++ c ∷ z) ≡ length own + suc (until_in stops.BlockEnd bs z)
own_passed own c z bs nested kind =
    let on = nested_on stops.BlockEnd own (c ∷ z) Curly bs nested in
    let last = go_on stops.BlockEnd (Curly ∷ bs) c z refl in
    let back = ap (λ (x : List Bracket). until_in stops.BlockEnd x z) (closes_one Curly bs c.kind (closes_curly c.kind kind)) in
    omega (arith, on, last, back)

-- what stands behind a `{` that is passed
behind_brace : (xs ys : List Token) (brace : Token) → brace.kind ≡ tokens.OpenCurly
    → length (xs ++ brace ∷ []) ≤ until stops.BlockEnd ((xs ++ brace ∷ []) ++ ys)
    → until stops.BlockEnd ((xs ++ brace ∷ []) ++ ys) ≡ length (xs ++ brace ∷ []) + until_in stops.BlockEnd (Curly ∷ opens [] xs) ys
behind_brace xs ys brace kind fits =
    let on = passes stops.BlockEnd (xs ++ brace ∷ []) ys [] fits in
    let same = ap (λ (x : List Bracket). until_in stops.BlockEnd x ys) (opens_one xs brace [] kind) in
    omega (arith, on, same)

-- a closed body: the block ends behind as many pieces as before
until_closed : (xs body own more tail : List Token) (brace c d : Token) (f : ℕ → ℕ) → brace.kind ≡ tokens.OpenCurly
    → BodyShut body (Some c) → AreNested own → d.kind ≡ tokens.CloseCurly
    → until stops.BlockEnd ((xs ++ brace ∷ []) ++ (body ++ c ∷ (more ++ tail)))
    ≡ length (xs ++ brace ∷ []) + (length body + suc (length more))
    → until stops.BlockEnd ((xs ++ brace ∷ []) ++ (own ++ d ∷ map (raised f) (more ++ tail)))
    ≡ length (xs ++ brace ∷ []) + (length own + suc (length more))
until_closed xs body own more tail brace c d f kind shut nested closes total =
    let bs = opens [] xs in
    let old = behind_brace xs (body ++ c ∷ (more ++ tail)) brace kind (omega (arith, total)) in
    let inner = body_passed body c (more ++ tail) bs shut in
    let new = behind_brace xs (own ++ d ∷ map (raised f) (more ++ tail)) brace kind
    (reaches stops.BlockEnd (xs ++ brace ∷ []) (body ++ c ∷ (more ++ tail)) (own ++ d ∷ map (raised f) (more ++ tail)) []
    (omega (arith, total))) in
    let other = own_passed own d (map (raised f) (more ++ tail)) bs nested closes in
    let same = until_raised f stops.BlockEnd bs (more ++ tail) in
    omega (arith, total, old, inner, new, other, same)

none_at_end : (bs : List Bracket) → until_in stops.BlockEnd bs [] ≡ 0
unfolding until_in
none_at_end bs = refl

-- a body without a `}`, up to the text's end
until_open : (xs body own : List Token) (brace : Token) → brace.kind ≡ tokens.OpenCurly → AreNested own
    → until stops.BlockEnd ((xs ++ brace ∷ []) ++ body) ≡ length (xs ++ brace ∷ []) + length body
    → until stops.BlockEnd ((xs ++ brace ∷ []) ++ own) ≡ length (xs ++ brace ∷ []) + length own
until_open xs body own brace kind nested total =
    let new = behind_brace xs own brace kind (reaches stops.BlockEnd (xs ++ brace ∷ []) body own [] (omega (arith, total))) in
    let on = nested_on stops.BlockEnd own [] Curly (opens [] xs) nested in
    let plain = ap (until_in stops.BlockEnd (Curly ∷ opens [] xs)) (append-nil own) in
    let none = none_at_end (Curly ∷ opens [] xs) in
    omega (arith, new, on, plain, none)

-- a block ends where the search stops
values_here : (front rest : List Token) → until stops.BlockEnd (front ++ rest) ≡ length front
    → AreValues (outside stops.BlockEnd) front rest
values_here front rest e =
    let s = until_splits stops.BlockEnd (front ++ rest) in
    let taken : take (until stops.BlockEnd (front ++ rest)) (front ++ rest) ≡ front =
    ap (λ (n : ℕ). take n (front ++ rest)) e ∙ take-append_seam front rest in
    let left : drop (until stops.BlockEnd (front ++ rest)) (front ++ rest) ≡ rest =
    ap (λ (n : ℕ). drop n (front ++ rest)) e ∙ drop-append_seam front rest in
    subst (λ (xs : List Token). AreValues (outside stops.BlockEnd) xs rest) taken
    (subst (AreValues (outside stops.BlockEnd) (take (until stops.BlockEnd (front ++ rest)) (front ++ rest))) left s.values)

-- the pieces of a block with a body, and what stands behind the block
spread : (xs body : List Token) (brace : Token) (close more tail : List Token)
    → (xs ++ brace ∷ (body ++ (close ++ more))) ++ tail ≡ (xs ++ brace ∷ []) ++ (body ++ (close ++ (more ++ tail)))
spread xs body brace close more tail =
    append_assoc xs (brace ∷ (body ++ (close ++ more))) tail
    ∙ ap (λ (ys : List Token). xs ++ brace ∷ ys)
    (append_assoc body (close ++ more) tail ∙ ap (λ (ys : List Token). body ++ ys) (append_assoc close more tail))
    ∙ sym (append_assoc xs (brace ∷ []) (body ++ (close ++ (more ++ tail))))

size_is : (xs body more : List Token) (brace : Token) (close : Option Token)
    → length (xs ++ brace ∷ (body ++ (option_to_list close ++ more)))
    ≡ length (xs ++ brace ∷ []) + (length body + (length (option_to_list close) + length more))
size_is xs body more brace close =
    omega (
      arith,
      length-append xs (brace ∷ (body ++ (option_to_list close ++ more))),
      length-append xs (brace ∷ []),
      length-append body (option_to_list close ++ more),
      length-append (option_to_list close) more,
    )

-- the search in the block with the new body, where it is known in the old one
until_again : (xs body own more tail : List Token) (brace : Token) (close : Option Token) (f h : ℕ → ℕ) → brace.kind ≡ tokens.OpenCurly
    → BodyShut body close → AreNested own → (close ≡ None → more ++ tail ≡ [])
    → until stops.BlockEnd ((xs ++ brace ∷ (body ++ (option_to_list close ++ more))) ++ tail)
    ≡ length (xs ++ brace ∷ (body ++ (option_to_list close ++ more)))
    → until stops.BlockEnd ((xs ++ brace ∷ (own ++ (option_to_list (option_map (raised h) close) ++ map (raised f) more)))
    ++ map (raised f) tail)
    ≡ length (xs ++ brace ∷ (own ++ (option_to_list (option_map (raised h) close) ++ map (raised f) more)))
until_again xs body own more tail brace (Some c) f h kind shut nested over total =
    let d = raised h c in
    let old = ap (until stops.BlockEnd) (sym (spread xs body brace (c ∷ []) more tail)) ∙ total ∙ size_is xs body more brace (Some c) in
    let new = until_closed xs body own more tail brace c d f kind shut nested shut.0 (omega (arith, old)) in
    let where_is = ap (until stops.BlockEnd)
    (spread xs own brace (d ∷ []) (map (raised f) more) (map (raised f) tail)
    ∙ ap (λ (zs : List Token). (xs ++ brace ∷ []) ++ (own ++ d ∷ zs)) (sym (map_append (raised f) more tail))) in
    let size = size_is xs own (map (raised f) more) brace (Some d) in
    let same = map_length (raised f) more in
    omega (arith, new, where_is, size, same)
until_again xs body own more tail brace None f h kind shut nested over total =
    let none = over refl in
    let old = ap (until stops.BlockEnd) (sym (spread xs body brace [] more tail)) ∙ total ∙ size_is xs body more brace None in
    let plain = ap (λ (zs : List Token). until stops.BlockEnd ((xs ++ brace ∷ []) ++ (body ++ zs))) none
    ∙ ap (λ (zs : List Token). until stops.BlockEnd ((xs ++ brace ∷ []) ++ zs)) (append-nil body) in
    let len = ap length none in
    let sum = length-append more tail in
    let new = until_open xs body own brace kind nested (omega (arith, old, plain, len, sum)) in
    let where_is = ap (until stops.BlockEnd)
    (spread xs own brace [] (map (raised f) more) (map (raised f) tail)
    ∙ ap (λ (zs : List Token). (xs ++ brace ∷ []) ++ (own ++ zs)) (sym (map_append (raised f) more tail) ∙ ap (map (raised f)) none)
    ∙ ap (λ (zs : List Token). (xs ++ brace ∷ []) ++ zs) (append-nil own)) in
    let size = size_is xs own (map (raised f) more) brace None in
    let same = map_length (raised f) more in
    omega (arith, new, where_is, size, same, len, sum)

-- the block of a media rule with another body in it
pub ends_again : (first brace : Token) (within xs body own more rest : List Token) (last close : Option Token) (f h : ℕ → ℕ)
    → within ≡ xs ++ brace ∷ (body ++ (option_to_list close ++ more)) → brace.kind ≡ tokens.OpenCurly
    → BodyShut body close → AreNested own → (close ≡ None → more ++ (option_to_list last ++ rest) ≡ [])
    → IsEnding (block first within last) rest
    → IsEnding (block first (xs ++ brace ∷ (own ++ (option_to_list (option_map (raised h) close) ++ map (raised f) more)))
    (option_map (raised f) last))
    (map (raised f) rest)
ends_again first brace within xs body own more rest last close f h is kind shut nested over ends = by ends over
  where
    old : List Token
    old = xs ++ brace ∷ (body ++ (option_to_list close ++ more))

    new : List Token
    new = xs ++ brace ∷ (own ++ (option_to_list (option_map (raised h) close) ++ map (raised f) more))

    by : {last : Option Token} → IsEnding (block first within last) rest → (close ≡ None → more ++ (option_to_list last ++ rest) ≡ [])
        → IsEnding (block first new (option_map (raised f) last)) (map (raised f) rest)
    by (in_block _ c _ k vs closed) over =
        let n = until_is stops.BlockEnd within (c ∷ rest) vs (ap (stops_at stops.BlockEnd) closed) in
        in_block first (raised f c) new k
        (values_here new (map (raised f) (c ∷ rest))
        (until_again xs body own more (c ∷ rest) brace close f h kind shut nested over
        (subst (λ (zs : List Token). until stops.BlockEnd (zs ++ c ∷ rest) ≡ length zs) is n))) closed
    by (in_open_block _ _ k vs none) over =
        let n = until_is stops.BlockEnd within [] vs tt in
        let gone : map (raised f) rest ≡ [] = ap (map (raised f)) none in
        let more_none : close ≡ None → more ++ [] ≡ [] = λ e. ap (λ (zs : List Token). more ++ zs) (sym none) ∙ over e in
        in_open_block first new k
        (values_here new []
        (until_again xs body own more [] brace close f h kind shut nested more_none
        (subst (λ (zs : List Token). until stops.BlockEnd (zs ++ []) ≡ length zs) is n))) gone
