-- Where nested pieces behind a `{` are exchanged for others, component values end where they did.
use Rattle.std.proofs.Common.{◌≡◌, ℕ, suc, ◌+◌, ◌≤◌, Bool, true, false, ◌&&◌, List, [], ◌∷◌, ◌++◌, length, Option}
use Rattle.std.proofs.Common.{refl, ap, ◌∙◌, append_assoc, length-append, arith}
use Rattle.css_tokens.specs.declared.token.Token.{Token}
use Rattle.css_tokens.specs.declared.token.TokenKind.TheVariants as tokens
use Rattle.sheet_reader.specs.declared.brackets.Bracket.{Bracket}
use Rattle.sheet_reader.specs.declared.brackets.Bracket.TheVariants.{Curly}
use Rattle.sheet_reader.specs.declared.brackets.Stop.{Stop}
use Rattle.sheet_reader.specs.Brackets.{closed_by, open_by, open_after, is_none_open, stops_at, until_in, until}
use Rattle.sheet_reader.specs.Grammar.{AreNested, none_nested, plain_and, nested_and}
use Rattle.sheet_reader.proofs.BracketLemmas.{stop_here, go_on}
use Rattle.sheet_reader.proofs.ValueForms.{closes_one}
use Rattle.sheet_reader.proofs.NestingForms.{plain_stays}
use Rattle.sheet_reader.proofs.OpenForms.{opens, opens_append, passes}

-- inside a bracket nested pieces are passed, and leave what is open as it was
pub nested_on : (stop : Stop) (front rest : List Token) (inner : Bracket) (bs : List Bracket) → AreNested front
    → until_in stop (inner ∷ bs) (front ++ rest) ≡ length front + until_in stop (inner ∷ bs) rest
nested_on stop _ rest inner bs none_nested = omega arith
nested_on stop _ rest inner bs (plain_and t ts a b more) =
    let on = go_on stop (inner ∷ bs) t (ts ++ rest) refl in
    let same = ap (λ (x : List Bracket). until_in stop x (ts ++ rest)) (plain_stays (inner ∷ bs) t.kind a b) in
    let others = nested_on stop ts rest inner bs more in
    omega (arith, on, same, others)
nested_on stop all rest inner bs (nested_and t close within ts b whole opened own closes more) =
    let split = ap (λ (xs : List Token). until_in stop (inner ∷ bs) (xs ++ rest)) whole
    ∙ ap (λ (xs : List Token). until_in stop (inner ∷ bs) (t ∷ xs)) (append_assoc within (close ∷ ts) rest) in
    let on = go_on stop (inner ∷ bs) t (within ++ close ∷ (ts ++ rest)) refl in
    let deeper = ap (λ (x : List Bracket). until_in stop x (within ++ close ∷ (ts ++ rest)))
    (ap (λ (o : Option Bracket). open_by (inner ∷ bs) o (closed_by t.kind)) opened) in
    let inside = nested_on stop within (close ∷ (ts ++ rest)) b (inner ∷ bs) own in
    let last = go_on stop (b ∷ inner ∷ bs) close (ts ++ rest) refl in
    let back = ap (λ (x : List Bracket). until_in stop x (ts ++ rest)) (closes_one b (inner ∷ bs) close.kind closes) in
    let others = nested_on stop ts rest inner bs more in
    let size = ap (λ (xs : List Token). length xs) whole in
    let sum = length-append within (close ∷ ts) in
    omega (arith, split, on, deeper, inside, last, back, others, size, sum)

reach_by : (stop : Stop) (bs : List Bracket) (t : Token) (ys zs : List Token) (n : ℕ) (x : Bool)
    → (is_none_open bs && stops_at stop t.kind) ≡ x
    → (n ≤ until_in stop (open_after bs t.kind) ys → n ≤ until_in stop (open_after bs t.kind) zs)
    → suc n ≤ until_in stop bs (t ∷ ys) → suc n ≤ until_in stop bs (t ∷ zs)
reach_by stop bs t ys zs n true e more fits = let here = stop_here stop bs t ys e in absurd (omega (arith, here, fits))
reach_by stop bs t ys zs n false e more fits =
    let on = go_on stop bs t ys e in
    let other = go_on stop bs t zs e in
    let m = more (omega (arith, on, fits)) in
    omega (arith, other, m)

-- whether pieces are passed does not turn on what follows them
pub reaches : (stop : Stop) (xs ys zs : List Token) (bs : List Bracket) → length xs ≤ until_in stop bs (xs ++ ys)
    → length xs ≤ until_in stop bs (xs ++ zs)
reaches stop [] ys zs bs fits = omega arith
reaches stop (t ∷ ts) ys zs bs fits =
    reach_by stop bs t (ts ++ ys) (ts ++ zs) (length ts) (is_none_open bs && stops_at stop t.kind) refl
    (reaches stop ts ys zs (open_after bs t.kind)) fits

pub opens_one : (xs : List Token) (first : Token) (bs : List Bracket) → first.kind ≡ tokens.OpenCurly
    → opens bs (xs ++ first ∷ []) ≡ Curly ∷ opens bs xs
unfolding opens
opens_one xs first bs is = opens_append xs (first ∷ []) bs ∙ ap (open_after (opens bs xs)) is

-- nested pieces behind a `{` that is passed: the search passes it, them, and goes on inside it
nested_behind : (stop : Stop) (xs ts ys : List Token) (first : Token) → first.kind ≡ tokens.OpenCurly → AreNested ts
    → length (xs ++ first ∷ []) ≤ until stop ((xs ++ first ∷ []) ++ (ts ++ ys))
    → until stop ((xs ++ first ∷ []) ++ (ts ++ ys)) ≡ length (xs ++ first ∷ []) + (length ts + until_in stop (Curly ∷ opens [] xs) ys)
nested_behind stop xs ts ys first is nested fits =
    let on = passes stop (xs ++ first ∷ []) (ts ++ ys) [] fits in
    let same = ap (λ (x : List Bracket). until_in stop x (ts ++ ys)) (opens_one xs first [] is) in
    let inside = nested_on stop ts ys Curly (opens [] xs) nested in
    omega (arith, on, same, inside)

-- exchanged: the end moves by as much as they are longer
pub exchanged : (stop : Stop) (xs old new ys : List Token) (first : Token) → first.kind ≡ tokens.OpenCurly → AreNested old → AreNested new
    → length (xs ++ first ∷ []) ≤ until stop ((xs ++ first ∷ []) ++ (old ++ ys))
    → until stop ((xs ++ first ∷ []) ++ (new ++ ys)) + length old ≡ until stop ((xs ++ first ∷ []) ++ (old ++ ys)) + length new
exchanged stop xs old new ys first is was now fits =
    let a = nested_behind stop xs old ys first is was fits in
    let b = nested_behind stop xs new ys first is now (reaches stop (xs ++ first ∷ []) (old ++ ys) (new ++ ys) [] fits) in
    omega (arith, a, b)
