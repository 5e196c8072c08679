-- In a block that is closed no block is left open.
use Rattle.std.proofs.Common.{◌≡◌, ◌⊎◌, inl, inr, ℕ, suc, ◌+◌, ◌≤◌, Bool, true, false, cond, ◌&&◌, List, [], ◌∷◌, ◌++◌, length}
use Rattle.std.proofs.Common.{Option, Some, None, refl, sym, ap, ◌∙◌, append_assoc, append-nil, length-append, arith}
use Rattle.css_tokens.specs.declared.token.Token.{Token}
use Rattle.css_tokens.specs.declared.token.TokenKind.{TokenKind}
use Rattle.css_tokens.specs.declared.token.TokenKind.TheVariants as tokens
use Rattle.sheet_reader.specs.declared.brackets.Bracket.{Bracket}
use Rattle.sheet_reader.specs.declared.brackets.Bracket.TheVariants.{Round, Square, Curly}
use Rattle.sheet_reader.specs.declared.brackets.Stop.{Stop}
use Rattle.sheet_reader.specs.declared.brackets.Stop.TheVariants as stops
use Rattle.sheet_reader.specs.declared.parts.Level.{Level}
use Rattle.sheet_reader.specs.Brackets.{opened_by, closed_by, is_same, open_by, open_after, is_none_open, stops_at, until_in, until}
use Rattle.sheet_reader.specs.Parts.{EndingForm, block, PartForm, is_passed, ending_pieces}
use Rattle.sheet_reader.specs.Parts.{part_pieces, parts}
use Rattle.sheet_reader.specs.Grammar.{IsEnding, at_text_end, at_semicolon, in_block, in_open_block, IsPart}
use Rattle.sheet_reader.specs.Grammar.{passed_part, at_rule_part, qualified_part, AreParts, IsRule, IsShutEnding, IsShut, AreShut}
use Rattle.sheet_reader.proofs.BracketLemmas.{stop_here, go_on}
use Rattle.sheet_reader.proofs.ValueForms.{until_is}
use Rattle.sheet_reader.proofs.GrammarForms.{parts_spelled}

-- the brackets that are open behind these pieces
unfoldable pub opens : List Bracket → List Token → List Bracket
opens bs [] = bs
opens bs (t ∷ ts) = opens (open_after bs t.kind) ts

pub opens_append : (xs ys : List Token) (bs : List Bracket) → opens bs (xs ++ ys) ≡ opens (opens bs xs) ys
unfolding opens
opens_append [] ys bs = refl
opens_append (t ∷ ts) ys bs = opens_append ts ys (open_after bs t.kind)

passes_by : (stop : Stop) (bs : List Bracket) (t : Token) (all : List Token) (n v : ℕ) (x : Bool)
    → (is_none_open bs && stops_at stop t.kind) ≡ x
    → (n ≤ until_in stop (open_after bs t.kind) all → until_in stop (open_after bs t.kind) all ≡ n + v)
    → suc n ≤ until_in stop bs (t ∷ all) → until_in stop bs (t ∷ all) ≡ suc n + v
passes_by stop bs t all n v true e more fits = let here = stop_here stop bs t all e in absurd (omega (arith, here, fits))
passes_by stop bs t all n v false e more fits =
    let on = go_on stop bs t all e in
    let rest = more (omega (arith, on, fits)) in
    omega (arith, on, rest)

-- the search goes on behind pieces that it passes
pub passes : (stop : Stop) (xs ys : List Token) (bs : List Bracket) → length xs ≤ until_in stop bs (xs ++ ys)
    → until_in stop bs (xs ++ ys) ≡ length xs + until_in stop (opens bs xs) ys
unfolding opens
passes stop [] ys bs fits = omega arith
passes stop (t ∷ ts) ys bs fits =
    passes_by stop bs t (ts ++ ys) (length ts) (until_in stop (opens (open_after bs t.kind) ts) ys)
    (is_none_open bs && stops_at stop t.kind) refl (passes stop ts ys (open_after bs t.kind)) fits

stops_with_none : (stop : Stop) (bs : List Bracket) (t : Token) (ts : List Token) → until_in stop bs (t ∷ ts) ≡ 0 → is_none_open bs ≡ true
stops_with_none stop bs t ts e = by (is_none_open bs) refl
  where
    by : (x : Bool) → is_none_open bs ≡ x → is_none_open bs ≡ true
    by true f = f
    by false f = let on = go_on stop bs t ts (ap (λ (b : Bool). b && stops_at stop t.kind) f) in absurd (omega (arith, on, e))

none_is : (bs : List Bracket) → is_none_open bs ≡ true → bs ≡ []
none_is [] e = refl
none_is (b ∷ bs) e = absurd (cc)

-- behind component values that end before a piece no bracket is open
pub values_shut : (stop : Stop) (xs : List Token) (y : Token) (ys : List Token) → until stop (xs ++ y ∷ ys) ≡ length xs → opens [] xs ≡ []
values_shut stop xs y ys e =
    let on = passes stop xs (y ∷ ys) [] (omega (arith, e)) in
    none_is (opens [] xs) (stops_with_none stop (opens [] xs) y ys (omega (arith, on, e)))

closes_stops : (kind : TokenKind) → closed_by kind ≡ Some Curly → stops_at stops.BlockEnd kind ≡ true
closes_stops tokens.CloseCurly e = refl
closes_stops tokens.CloseRound e = absurd (cc)
closes_stops tokens.CloseSquare e = absurd (cc)
closes_stops _ e = absurd (cc)

pub under_by : (bs outer : List Bracket) (kind : TokenKind) (o c : Option Bracket)
    → (is_none_open bs && stops_at stops.BlockEnd kind) ≡ false → closed_by kind ≡ c
    → open_by (bs ++ Curly ∷ outer) o c ≡ open_by bs o c ++ Curly ∷ outer
under_by bs outer kind (Some b) c goes f = refl
under_by bs outer kind None None goes f = refl
under_by [] outer kind None (Some Round) goes f = refl
under_by [] outer kind None (Some Square) goes f = refl
under_by [] outer kind None (Some Curly) goes f = let no : true ≡ false = sym (closes_stops kind f) ∙ goes in absurd (cc)
under_by (first ∷ bs) outer kind None (Some b) goes f = by (is_same b first)
  where
    by : (x : Bool) → cond x (bs ++ Curly ∷ outer) (first ∷ (bs ++ Curly ∷ outer)) ≡ cond x bs (first ∷ bs) ++ Curly ∷ outer
    by true = refl
    by false = refl

-- a `{` stays open under pieces among which its block does not end
pub under : (ts ys : List Token) (cs bs : List Bracket) → length ts ≤ until_in stops.BlockEnd cs (ts ++ ys)
    → opens (cs ++ Curly ∷ bs) ts ≡ opens cs ts ++ Curly ∷ bs
unfolding opens
under [] ys cs bs fits = refl
under (t ∷ ts) ys cs bs fits = by (λ ds. under ts ys ds bs) (is_none_open cs && stops_at stops.BlockEnd t.kind) refl
  where
    by : ((ds : List Bracket) → length ts ≤ until_in stops.BlockEnd ds (ts ++ ys)
        → opens (ds ++ Curly ∷ bs) ts ≡ opens ds ts ++ Curly ∷ bs)
        → (x : Bool) → (is_none_open cs && stops_at stops.BlockEnd t.kind) ≡ x
        → opens (open_after (cs ++ Curly ∷ bs) t.kind) ts ≡ opens (open_after cs t.kind) ts ++ Curly ∷ bs
    by further true e = let here = stop_here stops.BlockEnd cs t (ts ++ ys) e in absurd (omega (arith, here, fits))
    by further false e =
        let on = go_on stops.BlockEnd cs t (ts ++ ys) e in
        ap (λ (ds : List Bracket). opens ds ts) (under_by cs bs t.kind (opened_by t.kind) (closed_by t.kind) e refl)
        ∙ further (open_after cs t.kind) (omega (arith, on, fits))

pub some_open : (bs outer : List Bracket) → is_none_open (bs ++ Curly ∷ outer) ≡ false
some_open [] outer = refl
some_open (b ∷ bs) outer = refl

-- behind a `{` and what follows it, where its block does not end there
opened_under : (front within ys : List Token) (first : Token) → opens [] front ≡ [] → first.kind ≡ tokens.OpenCurly
    → length within ≤ until stops.BlockEnd (within ++ ys) → opens [] (front ++ first ∷ within) ≡ opens [] within ++ Curly ∷ []
unfolding opens
opened_under front within ys first none is fits =
    opens_append front (first ∷ within) []
    ∙ ap (λ (bs : List Bracket). opens (open_after bs first.kind) within) none
    ∙ ap (λ (kind : TokenKind). opens (open_after [] kind) within) is
    ∙ under within ys [] [] fits

ShutBehind : List Token → EndingForm → List Token → Type 0
ShutBehind front ending rest = IsShutEnding ending × ((rest ≡ []) ⊎ (opens [] (front ++ ending_pieces ending) ≡ []))

ending_shut : (front : List Token) (ending : EndingForm) (rest : List Token) (close : Token) (more : List Token)
    → ((y : Token) (ys : List Token) → ending_pieces ending ++ rest ≡ y ∷ ys → opens [] front ≡ []) → IsEnding ending rest
    → until stops.BlockEnd ((front ++ ending_pieces ending) ++ (rest ++ close ∷ more))
    ≡ length (front ++ ending_pieces ending) + length rest
    → ShutBehind front ending rest
unfolding opens ShutBehind
ending_shut front _ rest close more none (at_text_end over) total = (tt, inl over)
ending_shut front _ rest close more none (at_semicolon t kind) total = (
  tt,
  inr (opens_append front (t ∷ []) [] ∙ ap (λ (bs : List Bracket). open_after bs t.kind) (none t rest refl)
      ∙ ap (open_after []) kind),
)
ending_shut front _ rest close more none (in_block first last within is values closes) total =
    let n = until_is stops.BlockEnd within (last ∷ rest) values (ap (stops_at stops.BlockEnd) closes) in
    let inside = opened_under front within (last ∷ rest) first (none first ((within ++ last ∷ []) ++ rest) refl) is (omega (arith, n)) in (
      tt,
      inr
          (ap (opens []) (sym (append_assoc front (first ∷ within) (last ∷ [])))
          ∙ opens_append (front ++ first ∷ within) (last ∷ []) []
          ∙ ap (λ (bs : List Bracket). open_after bs last.kind) (inside ∙ ap (λ (bs : List Bracket). bs ++ Curly ∷ [])
          (values_shut stops.BlockEnd within last rest n))
          ∙ ap (open_after (Curly ∷ [])) closes),
    )
ending_shut front _ rest close more none (in_open_block first within is values over) total =
    let n = until_is stops.BlockEnd within [] values tt in
    let inside = opened_under front within [] first (none first ((within ++ []) ++ rest) refl) is (omega (arith, n)) in
    let whole : opens [] (front ++ first ∷ (within ++ [])) ≡ opens [] within ++ Curly ∷ [] =
    ap (λ (xs : List Token). opens [] (front ++ first ∷ xs)) (append-nil within) ∙ inside in
    let on = passes stops.BlockEnd (front ++ first ∷ (within ++ [])) (rest ++ close ∷ more) [] (omega (arith, total)) in
    let last = ap (λ (bs : List Bracket). until_in stops.BlockEnd bs (rest ++ close ∷ more)) whole in
    let at = ap (λ (xs : List Token). until_in stops.BlockEnd (opens [] within ++ Curly ∷ []) (xs ++ close ∷ more)) over in
    let none_left = ap (λ (xs : List Token). length xs) over in
    let yes = stops_with_none stops.BlockEnd (opens [] within ++ Curly ∷ []) close more (omega (arith, total, on, last, at, none_left)) in
    let no : true ≡ false = sym yes ∙ some_open (opens [] within) [] in
    absurd (cc)

-- a piece that is passed over opens no bracket
pub passed_none : (level : Level) (kind : TokenKind) → is_passed level kind ≡ true → open_after [] kind ≡ []
passed_none level tokens.Function e = absurd (cc)
passed_none level tokens.OpenRound e = absurd (cc)
passed_none level tokens.OpenSquare e = absurd (cc)
passed_none level tokens.OpenCurly e = absurd (cc)
passed_none level _ e = refl

-- behind a prelude with something behind it no bracket is open
pub front_shut : (stop : Stop) (prelude : List Token) (ending : EndingForm) (rest : List Token) → IsRule stop prelude ending rest
    → (y : Token) (ys : List Token) → ending_pieces ending ++ rest ≡ y ∷ ys → opens [] prelude ≡ []
front_shut stop prelude ending rest rule y ys is =
    values_shut stop prelude y ys
    (ap (λ (xs : List Token). until stop (prelude ++ xs)) (sym is)
    ∙ until_is stop prelude (ending_pieces ending ++ rest) rule.values rule.stopped)

PartShut : PartForm → List Token → Type 0
PartShut p rest = IsShut p × ((rest ≡ []) ⊎ (opens [] (part_pieces p) ≡ []))

part_shut : (level : Level) (p : PartForm) (rest : List Token) (close : Token) (more : List Token) → IsPart level p rest
    → until stops.BlockEnd (part_pieces p ++ (rest ++ close ∷ more)) ≡ length (part_pieces p) + length rest → PartShut p rest
unfolding opens PartShut ShutBehind
part_shut level _ rest close more (passed_part t e) total = (tt, inr (passed_none level t.kind e))
part_shut level _ rest close more (at_rule_part keyword prelude ending e rule) total =
    ending_shut (keyword ∷ prelude) ending rest close more
    (λ y ys is. ap (λ (kind : TokenKind). opens (open_after [] kind) prelude) e
    ∙ front_shut stops.BlockOrSemicolon prelude ending rest rule y ys is) rule.ends total
part_shut level _ rest close more (qualified_part prelude ending first rule) total =
    ending_shut prelude ending rest close more (front_shut stops.Block prelude ending rest rule) rule.ends total

next_total : (own rest : List Token) (close : Token) (more : List Token) → stops_at stops.BlockEnd close.kind ≡ true
    → until stops.BlockEnd (own ++ (rest ++ close ∷ more)) ≡ length own + length rest → (rest ≡ []) ⊎ (opens [] own ≡ [])
    → until stops.BlockEnd (rest ++ close ∷ more) ≡ length rest
next_total own rest close more ends total (inl over) =
    let here = ap (λ (xs : List Token). until stops.BlockEnd (xs ++ close ∷ more)) over ∙ stop_here stops.BlockEnd [] close more ends in
    let none = ap (λ (xs : List Token). length xs) over in
    omega (arith, here, none)
next_total own rest close more ends total (inr none) =
    let on = passes stops.BlockEnd own (rest ++ close ∷ more) [] (omega (arith, total)) in
    let same = ap (λ (bs : List Bracket). until_in stops.BlockEnd bs (rest ++ close ∷ more)) none in
    omega (arith, on, same, total)

parts_shut : (level : Level) (ps : List PartForm) (ts : List Token) (close : Token) (more : List Token) → AreParts level ps ts
    → stops_at stops.BlockEnd close.kind ≡ true → until stops.BlockEnd (ts ++ close ∷ more) ≡ length ts → AreShut ps
unfolding PartShut
parts_shut level [] ts close more is ends total = tt
parts_shut level (p ∷ ps) ts close more is ends total =
    let rest = is.0 in
    let len = ap (λ (xs : List Token). length xs) is.1 ∙ length-append (part_pieces p) rest in
    let own : until stops.BlockEnd (part_pieces p ++ (rest ++ close ∷ more)) ≡ length (part_pieces p) + length rest =
    sym (ap (λ (xs : List Token). until stops.BlockEnd (xs ++ close ∷ more)) is.1
    ∙ ap (until stops.BlockEnd) (append_assoc (part_pieces p) rest (close ∷ more))) ∙ total ∙ len in
    let shut = part_shut level p rest close more is.2 own in
    (shut.0, parts_shut level ps rest close more is.3 ends (next_total (part_pieces p) rest close more ends own shut.1))

-- in a block that has its `}` no part has a block without it
pub inside_shut : (level : Level) (first close : Token) (inside rest : List Token) → IsEnding (block first inside (Some close)) rest
    → AreShut (parts level inside)
inside_shut level first close inside rest (in_block _ _ _ is values closes) =
    parts_shut level (parts level inside) inside close rest (parts_spelled level inside) (ap (stops_at stops.BlockEnd) closes)
    (until_is stops.BlockEnd inside (close ∷ rest) values (ap (stops_at stops.BlockEnd) closes))
