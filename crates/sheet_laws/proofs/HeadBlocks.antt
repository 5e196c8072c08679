-- A block in which what stands before the `{` of one part is exchanged for other pieces: it ends where it did.
use Rattle.std.proofs.Common.{◌≡◌, ℕ, suc, ◌+◌, ◌≤◌, List, [], ◌∷◌, ◌++◌, map, length, Option}
use Rattle.std.proofs.Common.{refl, sym, ap, subst, ◌∙◌, append_assoc, length-append, arith}
use Rattle.std.specs.Prelude.{option_map, option_to_list}
use Rattle.css_tokens.specs.declared.token.Token.{Token}
use Rattle.css_tokens.specs.declared.token.TokenKind.{TokenKind}
use Rattle.css_tokens.specs.declared.token.TokenKind.TheVariants as tokens
use Rattle.sheet_reader.specs.Brackets.{open_after, stops_at, until_in, until}
use Rattle.sheet_reader.specs.Parts.{EndingForm, text_end, semicolon, block, PartForm, ending_pieces, part_pieces}
use Rattle.sheet_reader.specs.Grammar.{IsEnding, at_text_end, at_semicolon, in_block, in_open_block, IsPart, passed_part, at_rule_part}
use Rattle.sheet_reader.specs.Grammar.{qualified_part, IsRule, AreNested}
use Rattle.sheet_reader.proofs.Raised.{raised}
use Rattle.sheet_reader.proofs.ExchangeForms.{reaches}
use Rattle.sheet_reader.proofs.MadePreludes.{curly_on}
use Rattle.sheet_reader.proofs.Names.{Follows, Bracket, Stop, Level, opened, at_block, block_or_semicolon, block_end}
use Rattle.sheet_reader.proofs.OpenForms.{opens, opens_append, passes, under, values_shut, passed_none, front_shut}
use Rattle.sheet_reader.proofs.PartMoves.{until_raised, map_append, map_length}
use Rattle.sheet_reader.proofs.Spots.{nested_stays, values_at}
use Rattle.sheet_reader.proofs.ValueForms.{until_is}

-- ---- what is open behind pieces

ending_quiet : (front : List Token) (ending : EndingForm) (rest : List Token) → Follows rest → opens [] front ≡ [] → IsEnding ending rest
    → opens [] (front ++ ending_pieces ending) ≡ []
unfolding opens
ending_quiet front _ rest some none (at_text_end over) = absurd (some over)
ending_quiet front _ rest some none (at_semicolon t kind) =
    opens_append front (t ∷ []) [] ∙ ap (λ (bs : List Bracket). open_after bs t.kind) none ∙ ap (open_after []) kind
ending_quiet front _ rest some none (in_block first close within is vs closed) =
    let n = until_is block_end within (close ∷ rest) vs (ap (stops_at block_end) closed) in
    let inside : opens (opened []) within ≡ opened [] =
    under within (close ∷ rest) [] [] (omega (arith, n))
    ∙ ap (λ (bs : List Bracket). bs ++ opened []) (values_shut block_end within close rest n) in
    opens_append front (first ∷ (within ++ close ∷ [])) []
    ∙ ap (λ (bs : List Bracket). opens (open_after bs first.kind) (within ++ close ∷ [])) none
    ∙ ap (λ (k : TokenKind). opens (open_after [] k) (within ++ close ∷ [])) is
    ∙ opens_append within (close ∷ []) (opened [])
    ∙ ap (λ (bs : List Bracket). open_after bs close.kind) inside
    ∙ ap (open_after (opened [])) closed
ending_quiet front _ rest some none (in_open_block first within is vs over) = absurd (some over)

-- an ending with something behind it has a first piece, or that has one
first_there : (ending : EndingForm) (rest : List Token) → Follows rest
    → (y : Token) × (ys : List Token) × (ending_pieces ending ++ rest ≡ y ∷ ys)
first_there text_end [] some = absurd (some refl)
first_there text_end (y ∷ ys) some = (y, ys, refl)
first_there (semicolon t) rest some = (t, rest, refl)
first_there (block first within close) rest some = (first, (within ++ option_to_list close) ++ rest, refl)

prelude_quiet : (stop : Stop) (prelude : List Token) (ending : EndingForm) (rest : List Token) → Follows rest
    → IsRule stop prelude ending rest
    → opens [] prelude ≡ []
prelude_quiet stop prelude ending rest some r =
    let f = first_there ending rest some in
    front_shut stop prelude ending rest r f.0 f.1 f.2

-- behind a part with something behind it no bracket is open
pub part_quiet : (level : Level) (p : PartForm) (rest : List Token) → Follows rest → IsPart level p rest → opens [] (part_pieces p) ≡ []
unfolding opens
part_quiet level _ rest some (passed_part t e) = passed_none level t.kind e
part_quiet level _ rest some (at_rule_part keyword prelude ending e r) =
    ending_quiet (keyword ∷ prelude) ending rest some
    (ap (λ (k : TokenKind). opens (open_after [] k) prelude) e ∙ prelude_quiet block_or_semicolon prelude ending rest some r) r.ends
part_quiet level _ rest some (qualified_part prelude ending begins r) =
    ending_quiet prelude ending rest some (prelude_quiet at_block prelude ending rest some r) r.ends

-- ---- pieces that leave open what was

-- at a place between parts blocks are open; where some are, the pieces hold no `}` that would end the innermost
pub data Depth (head : List Token) : List Bracket → Type 0 where
  no_block : Depth head []
  in_blocks : (bs : List Bracket) → length head ≤ until block_end (head ++ []) → Depth head (opened bs)

pub depth_keeps : (head : List Token) (bs : List Bracket) → opens [] head ≡ [] → Depth head bs → opens bs head ≡ bs
depth_keeps head _ none no_block = none
depth_keeps head _ none (in_blocks bs fits) =
    under head [] [] bs fits ∙ ap (λ (cs : List Bracket). cs ++ opened bs) none

-- one block further out
pub deeper : (head : List Token) (keyword first : Token) (prelude xs ys : List Token) → keyword.kind ≡ tokens.AtKeyword
    → opens [] prelude ≡ []
    → first.kind ≡ tokens.OpenCurly → length (xs ++ head) ≤ until block_end (xs ++ (head ++ ys)) → Depth head (opens [] xs)
    → Depth head (opens [] (keyword ∷ (prelude ++ first ∷ xs)))
unfolding opens
deeper head keyword first prelude xs ys at none curly fits depth = subst (Depth head) (sym whole) (by (opens [] xs) refl depth)
  where
    size : length (xs ++ head) ≡ length xs + length head
    size = length-append xs head

    whole : opens (open_after [] keyword.kind) (prelude ++ first ∷ xs) ≡ opens [] xs ++ opened []
    whole =
        ap (λ (k : TokenKind). opens (open_after [] k) (prelude ++ first ∷ xs)) at
        ∙ opens_append prelude (first ∷ xs) []
        ∙ ap (λ (bs : List Bracket). opens (open_after bs first.kind) xs) none
        ∙ ap (λ (k : TokenKind). opens (open_after [] k) xs) curly
        ∙ under xs (head ++ ys) [] [] (omega (arith, fits, size))

    by : (bs : List Bracket) → opens [] xs ≡ bs → Depth head bs → Depth head (bs ++ opened [])
    by _ e no_block =
        let on = passes block_end xs (head ++ ys) [] (omega (arith, fits, size)) in
        let same = ap (λ (bs : List Bracket). until_in block_end bs (head ++ ys)) e in
        in_blocks [] (reaches block_end head ys [] [] (omega (arith, fits, size, on, same)))
    by _ e (in_blocks bs own) = in_blocks (bs ++ opened []) own

-- ---- the block

pub spread : (xs head : List Token) (brace : Token) (zs tail : List Token)
    → (xs ++ (head ++ brace ∷ zs)) ++ tail ≡ xs ++ (head ++ brace ∷ (zs ++ tail))
spread xs head brace zs tail =
    append_assoc xs (head ++ brace ∷ zs) tail ∙ ap (λ (ys : List Token). xs ++ ys) (append_assoc head (brace ∷ zs) tail)

size_is : (xs head : List Token) (brace : Token) (zs : List Token)
    → length (xs ++ (head ++ brace ∷ zs)) ≡ length xs + (length head + suc (length zs))
size_is xs head brace zs = omega (arith, length-append xs (head ++ brace ∷ zs), length-append head (brace ∷ zs))

until_again : (xs head new : List Token) (brace brace2 : Token) (zs tail : List Token) (f : ℕ → ℕ) → brace.kind ≡ tokens.OpenCurly
    → brace2.kind ≡ tokens.OpenCurly → opens (opens [] xs) head ≡ opens [] xs → AreNested new
    → until block_end ((xs ++ (head ++ brace ∷ zs)) ++ tail) ≡ length (xs ++ (head ++ brace ∷ zs))
    → until block_end ((xs ++ (new ++ brace2 ∷ map (raised f) zs)) ++ map (raised f) tail)
    ≡ length (xs ++ (new ++ brace2 ∷ map (raised f) zs))
until_again xs head new brace brace2 zs tail f curly curly2 keeps nested total =
    let bs = opens [] xs in
    let behind = map (raised f) (zs ++ tail) in
    let old = sym (ap (until block_end) (spread xs head brace zs tail)) ∙ total ∙ size_is xs head brace zs in
    let one = passes block_end xs (head ++ brace ∷ (zs ++ tail)) [] (omega (arith, old)) in
    let two = passes block_end head (brace ∷ (zs ++ tail)) bs (omega (arith, old, one)) in
    let same = ap (λ (cs : List Bracket). until_in block_end cs (brace ∷ (zs ++ tail))) keeps in
    let open_old = curly_on bs brace (zs ++ tail) curly in
    let fits = reaches block_end xs (head ++ brace ∷ (zs ++ tail)) (new ++ brace2 ∷ behind) [] (omega (arith, old)) in
    let three = passes block_end xs (new ++ brace2 ∷ behind) [] fits in
    let four = nested_stays new nested bs (brace2 ∷ behind) in
    let open_new = curly_on bs brace2 behind curly2 in
    let moved = until_raised f block_end (opened bs) (zs ++ tail) in
    let where_is = ap (until block_end)
    (spread xs new brace2 (map (raised f) zs) (map (raised f) tail)
    ∙ ap (λ (ys : List Token). xs ++ (new ++ brace2 ∷ ys)) (sym (map_append (raised f) zs tail))) in
    let size = size_is xs new brace2 (map (raised f) zs) in
    let count = map_length (raised f) zs in
    omega (arith, old, one, two, same, open_old, three, four, open_new, moved, where_is, size, count)

-- the block of a media rule with the exchanged pieces in it
pub block_again : (first brace brace2 : Token) (within xs head new zs rest : List Token) (last : Option Token) (f : ℕ → ℕ)
    → within ≡ xs ++ (head ++ brace ∷ zs) → brace.kind ≡ tokens.OpenCurly → brace2.kind ≡ tokens.OpenCurly
    → opens (opens [] xs) head ≡ opens [] xs → AreNested new → IsEnding (block first within last) rest
    → IsEnding (block first (xs ++ (new ++ brace2 ∷ map (raised f) zs)) (option_map (raised f) last)) (map (raised f) rest)
block_again first brace brace2 within xs head new zs rest last f is curly curly2 keeps nested ends = by ends
  where
    made : List Token
    made = xs ++ (new ++ brace2 ∷ map (raised f) zs)

    by : {last : Option Token} → IsEnding (block first within last) rest
        → IsEnding (block first made (option_map (raised f) last)) (map (raised f) rest)
    by (in_block _ c _ k vs closed) =
        let n = until_is block_end within (c ∷ rest) vs (ap (stops_at block_end) closed) in
        in_block first (raised f c) made k
        (values_at block_end made (map (raised f) (c ∷ rest))
        (until_again xs head new brace brace2 zs (c ∷ rest) f curly curly2 keeps nested
        (subst (λ (ys : List Token). until block_end (ys ++ c ∷ rest) ≡ length ys) is n))) closed
    by (in_open_block _ _ k vs none) =
        let n = until_is block_end within [] vs tt in
        in_open_block first made k
        (values_at block_end made []
        (until_again xs head new brace brace2 zs [] f curly curly2 keeps nested
        (subst (λ (ys : List Token). until block_end (ys ++ []) ≡ length ys) is n))) (ap (map (raised f)) none)
