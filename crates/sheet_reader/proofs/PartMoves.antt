-- Another body in the midst of parts: the parts before it stay, and those behind it.
use Rattle.std.proofs.Common.{◌≡◌, ℕ, zero, suc, ◌-◌, Bool, true, false, cond, ◌&&◌, List, [], ◌∷◌, ◌++◌, map, take, drop}
use Rattle.std.proofs.Common.{length, Option, Some, None, refl, ap, sym, ◌∙◌, subst}
use Rattle.std.specs.Prelude.{slice_get, option_map, option_to_list}
use Rattle.css_tokens.specs.declared.token.Token.{Token}
use Rattle.css_tokens.specs.declared.token.TokenKind.{TokenKind}
use Rattle.css_tokens.specs.declared.token.TokenKind.TheVariants as tokens
use Rattle.sheet_reader.specs.declared.brackets.Bracket.{Bracket}
use Rattle.sheet_reader.specs.declared.brackets.Stop.{Stop}
use Rattle.sheet_reader.specs.declared.brackets.Stop.TheVariants as stops
use Rattle.sheet_reader.specs.declared.parts.Level.{Level}
use Rattle.sheet_reader.specs.Brackets.{opened_by, closed_by, open_after, is_none_open, stops_at, until_in, until}
use Rattle.sheet_reader.specs.Parts.{EndingForm, text_end, semicolon, block, PartForm, passed, at_rule, qualified, is_passed, ending_pieces}
use Rattle.sheet_reader.specs.Parts.{part_pieces, ending_by, ending_at, block_at, at_rule_at, qualified_at, part_by, part_at, parts_after}
use Rattle.sheet_reader.specs.Parts.{parts}
use Rattle.sheet_reader.specs.Grammar.{Place, outside, inside, is_closing_by, value_ends_before, AreValues, no_values}
use Rattle.sheet_reader.specs.Grammar.{piece_and, block_and, open_block}
use Rattle.sheet_reader.specs.Grammar.{EndsBefore, IsEnding, at_text_end, at_semicolon, in_block, in_open_block, BeginsQualified, IsRule}
use Rattle.sheet_reader.specs.Grammar.{IsPart}
use Rattle.sheet_reader.specs.Grammar.{passed_part, at_rule_part, qualified_part, AreParts, AreNested, none_nested, plain_and, nested_and}
use Rattle.sheet_reader.proofs.Raised.{raised, raised_ending, raised_part, raised_item, flat}
use Rattle.sheet_reader.specs.Declarations as body
use Rattle.sheet_reader.specs.Declarations.{item_by, item_at, item_pieces, items_after}

-- ---- nested pieces are component values
abbrev pub AtClose : Place → Type 0
AtClose place = (k : TokenKind) → closed_by k ≡ None → value_ends_before place k ≡ false

pub at_block_end : AtClose (outside stops.BlockEnd)
at_block_end tokens.CloseCurly e = cc
at_block_end _ e = refl

at_inside : (b : Bracket) → AtClose (inside b)
at_inside b k e = ap (λ (o : Option Bracket). is_closing_by b o) e

opens_none : (k : TokenKind) (b : Bracket) → opened_by k ≡ Some b → closed_by k ≡ None
opens_none tokens.Function b e = refl
opens_none tokens.OpenRound b e = refl
opens_none tokens.OpenSquare b e = refl
opens_none tokens.OpenCurly b e = refl
opens_none _ b e = absurd (cc)

pub nested_values : (place : Place) (ts rest : List Token) → AtClose place → AreNested ts → AreValues place ts rest
nested_values place _ rest at none_nested = no_values
nested_values place _ rest at (plain_and t ts a b more) = piece_and t ts (at t.kind b) a (nested_values place ts rest at more)
nested_values place _ rest at (nested_and t close within ts b is opens own closes more) =
    block_and t close within ts b is (at t.kind (opens_none t.kind b opens)) opens
    (nested_values (inside b) within (close ∷ (ts ++ rest)) (at_inside b) own) closes (nested_values place ts rest at more)

-- ---- what follows does not matter, where something does
abbrev Follows : List Token → Type 0
Follows rest = rest ≡ [] → ⊥

pub cons_follows : (t : Token) (ts : List Token) → Follows (t ∷ ts)
cons_follows t ts e = cc

pub append_follows : (front rest : List Token) → Follows rest → Follows (front ++ rest)
append_follows [] rest f e = f e
append_follows (t ∷ front) rest f e = cc

pub values_rest : (place : Place) (ts rest other : List Token) → Follows rest → AreValues place ts rest → AreValues place ts other
values_rest place _ rest other f no_values = no_values
values_rest place _ rest other f (piece_and t ts a b more) = piece_and t ts a b (values_rest place ts rest other f more)
values_rest place _ rest other f (block_and t close within ts b is a opens own closes more) =
    block_and t close within ts b is a opens
    (values_rest (inside b) within (close ∷ (ts ++ rest)) (close ∷ (ts ++ other)) (cons_follows close (ts ++ rest)) own) closes
    (values_rest place ts rest other f more)
values_rest place _ rest other f (open_block t within b a opens own over) = absurd (f over)

rule_rest : (stop : Stop) (prelude : List Token) (ending : EndingForm) (rest other : List Token) → Follows rest
    → IsRule stop prelude ending rest → IsRule stop prelude ending other
rule_rest stop prelude ending rest other f r = by r.ends r.values r.stopped
  where
    by : {ending : EndingForm} → IsEnding ending rest → AreValues (outside stop) prelude (ending_pieces ending ++ rest)
        → EndsBefore (outside stop) (ending_pieces ending ++ rest) → IsRule stop prelude ending other
    by (at_text_end over) vs stopped = absurd (f over)
    by (at_semicolon t e) vs stopped = record {
      values = values_rest (outside stop) prelude (t ∷ rest) (t ∷ other) (cons_follows t rest) vs;
      stopped = stopped;
      ends = at_semicolon t e;
    }
    by (in_block first close within e own closed) vs stopped = record {
      values = values_rest (outside stop) prelude (first ∷ ((within ++ close ∷ []) ++ rest)) (first ∷ ((within ++ close ∷ []) ++ other))
          (cons_follows first _) vs;
      stopped = stopped;
      ends = in_block first close within e
          (values_rest (outside stops.BlockEnd) within (close ∷ rest) (close ∷ other) (cons_follows close rest) own) closed;
    }
    by (in_open_block first within e own over) vs stopped = absurd (f over)

pub part_rest : (level : Level) (p : PartForm) (rest other : List Token) → Follows rest → IsPart level p rest → IsPart level p other
part_rest level _ rest other f (passed_part t e) = passed_part t e
part_rest level _ rest other f (at_rule_part keyword prelude ending e r) =
    at_rule_part keyword prelude ending e (rule_rest stops.BlockOrSemicolon prelude ending rest other f r)
part_rest level _ rest other f (qualified_part prelude ending begins r) =
    qualified_part prelude ending begins (rule_rest stops.Block prelude ending rest other f r)

-- ---- parts and all their pieces
abbrev pub AreFlat : Level → List PartForm → Type 0
AreFlat level [] = Unit {0}
AreFlat level (p ∷ ps) = IsPart level p (flat ps) × AreFlat level ps

pub flat_of : (level : Level) (ps : List PartForm) (ts : List Token) → AreParts level ps ts → (ts ≡ flat ps) × AreFlat level ps
flat_of level [] ts e = (e, tt)
flat_of level (p ∷ ps) ts all =
    let more = flat_of level ps all.0 all.3 in
    (all.1 ∙ ap (λ (x : List Token). part_pieces p ++ x) more.0, (subst (IsPart level p) more.0 all.2, more.1))

pub flat_parts : (level : Level) (ps : List PartForm) → AreFlat level ps → AreParts level ps (flat ps)
flat_parts level [] all = refl
flat_parts level (p ∷ ps) all = (flat ps, refl, all.0, flat_parts level ps all.1)

begins_same : (level : Level) (prelude : List Token) (brace : Token) (xs ys : List Token) → BeginsQualified level (prelude ++ brace ∷ xs)
    → BeginsQualified level (prelude ++ brace ∷ ys)
begins_same level [] brace xs ys b = b
begins_same level (t ∷ prelude) brace xs ys b = b

-- the rule with a nested body in the place of its own, and with a `}` where it had one
pub new_rule : (level : Level) (prelude : List Token) (brace : Token) (within own : List Token) (close : Option Token) (h : ℕ → ℕ)
    (rest rest2 : List Token) → AreNested own → (rest ≡ [] → rest2 ≡ [])
    → IsPart level (qualified prelude (block brace within close)) rest
    → IsPart level (qualified prelude (block brace own (option_map (raised h) close))) rest2
new_rule level prelude brace within own close h rest rest2 nested over (qualified_part _ _ begins r) =
    let close2 = option_map (raised h) close in
    qualified_part prelude (block brace own close2)
    (begins_same level prelude brace (within ++ option_to_list close) (own ++ option_to_list close2) begins) (record {
      values = values_rest (outside stops.Block) prelude (brace ∷ ((within ++ option_to_list close) ++ rest))
          (brace ∷ ((own ++ option_to_list close2) ++ rest2)) (cons_follows brace _) r.values;
      stopped = r.stopped;
      ends = ended r.ends;
    })
  where
    ended : {close : Option Token} → IsEnding (block brace within close) rest
        → IsEnding (block brace own (option_map (raised h) close)) rest2
    ended (in_block _ c _ e vs closed) =
        in_block brace (raised h c) own e (nested_values (outside stops.BlockEnd) own _ at_block_end nested) closed
    ended (in_open_block _ _ e vs none) =
        in_open_block brace own e (nested_values (outside stops.BlockEnd) own [] at_block_end nested) (over none)

-- ---- raising
pub map_append : {X Y : Type 0} (f : X → Y) (xs ys : List X) → map f (xs ++ ys) ≡ map f xs ++ map f ys
map_append f [] ys = refl
map_append f (x ∷ xs) ys = ap (λ zs. f x ∷ zs) (map_append f xs ys)

pub map_take : {X Y : Type 0} (f : X → Y) (n : ℕ) (xs : List X) → take n (map f xs) ≡ map f (take n xs)
map_take f zero xs = refl
map_take f (suc n) [] = refl
map_take f (suc n) (x ∷ xs) = ap (λ zs. f x ∷ zs) (map_take f n xs)

pub map_drop : {X Y : Type 0} (f : X → Y) (n : ℕ) (xs : List X) → drop n (map f xs) ≡ map f (drop n xs)
map_drop f zero xs = refl
map_drop f (suc n) [] = refl
map_drop f (suc n) (x ∷ xs) = map_drop f n xs

pub map_get : {X Y : Type 0} (f : X → Y) (n : ℕ) (xs : List X) → slice_get (map f xs) n ≡ option_map f (slice_get xs n)
map_get f zero [] = refl
map_get f (suc n) [] = refl
map_get f zero (x ∷ xs) = refl
map_get f (suc n) (x ∷ xs) = map_get f n xs

pub map_length : {X Y : Type 0} (f : X → Y) (xs : List X) → length (map f xs) ≡ length xs
map_length f [] = refl
map_length f (x ∷ xs) = ap suc (map_length f xs)

pub until_raised : (f : ℕ → ℕ) (stop : Stop) (bs : List Bracket) (ts : List Token) → until_in stop bs (map (raised f) ts)
    ≡ until_in stop bs ts
unfolding until_in
until_raised f stop bs [] = refl
until_raised f stop bs (t ∷ ts) =
    ap (λ (k : ℕ). cond (is_none_open bs && stops_at stop t.kind) 0 (suc k)) (until_raised f stop (open_after bs t.kind) ts)

block_raised : (f : ℕ → ℕ) (t : Token) (ts : List Token) → block_at (raised f t) (map (raised f) ts) ≡ raised_ending f (block_at t ts)
block_raised f t ts =
    let k = until stops.BlockEnd ts in
    let e = until_raised f stops.BlockEnd [] ts in
    ap (λ (m : ℕ). block (raised f t) (take m (map (raised f) ts)) (slice_get (map (raised f) ts) m)) e
    ∙ ap (λ (xs : List Token). block (raised f t) xs (slice_get (map (raised f) ts) k)) (map_take (raised f) k ts)
    ∙ ap (block (raised f t) (map (raised f) (take k ts))) (map_get (raised f) k ts)

ending_by_raised : (f : ℕ → ℕ) (kind : TokenKind) (t : Token) (ts : List Token)
    → ending_by (raised f t) (map (raised f) ts) kind ≡ raised_ending f (ending_by t ts kind)
ending_by_raised f tokens.Semicolon t ts = refl
ending_by_raised f _ t ts = block_raised f t ts

ending_raised : (f : ℕ → ℕ) (ts : List Token) → ending_at (map (raised f) ts) ≡ raised_ending f (ending_at ts)
ending_raised f [] = refl
ending_raised f (t ∷ ts) = ending_by_raised f t.kind t ts

-- up to a stop, and the ending there
abbrev rule_at : {X : Type 0} → (List Token → EndingForm → X) → Stop → List Token → X
rule_at make stop ts = make (take (until stop ts) ts) (ending_at (drop (until stop ts) ts))

rule_raised : {X : Type 0} (f : ℕ → ℕ) (make : List Token → EndingForm → X) (stop : Stop) (ts : List Token)
    → rule_at make stop (map (raised f) ts) ≡ rule_at (λ p e. make (map (raised f) p) (raised_ending f e)) stop ts
rule_raised f make stop ts =
    let k = until stop ts in
    ap (λ (m : ℕ). make (take m (map (raised f) ts)) (ending_at (drop m (map (raised f) ts)))) (until_raised f stop [] ts)
    ∙ ap (λ (xs : List Token). make xs (ending_at (drop k (map (raised f) ts)))) (map_take (raised f) k ts)
    ∙ ap (λ (xs : List Token). make (map (raised f) (take k ts)) (ending_at xs)) (map_drop (raised f) k ts)
    ∙ ap (make (map (raised f) (take k ts))) (ending_raised f (drop k ts))

at_rule_raised : (f : ℕ → ℕ) (t : Token) (ts : List Token) → at_rule_at (raised f t) (map (raised f) ts) ≡ raised_part f (at_rule_at t ts)
at_rule_raised f t ts = rule_raised f (at_rule (raised f t)) stops.BlockOrSemicolon ts

passed_raised : (level : Level) (f : ℕ → ℕ) (b : Bool) (t : Token) (ts : List Token)
    → cond b (passed (raised f t)) (qualified_at (map (raised f) (t ∷ ts))) ≡ raised_part f (cond b (passed t) (qualified_at (t ∷ ts)))
passed_raised level f true t ts = refl
passed_raised level f false t ts = rule_raised f qualified stops.Block (t ∷ ts)

part_by_raised : (level : Level) (f : ℕ → ℕ) (kind : TokenKind) (t : Token) (ts : List Token)
    → part_by level (raised f t) (map (raised f) ts) kind ≡ raised_part f (part_by level t ts kind)
part_by_raised level f tokens.AtKeyword t ts = at_rule_raised f t ts
part_by_raised level f kind t ts = passed_raised level f (is_passed level kind) t ts

part_raised : (level : Level) (f : ℕ → ℕ) (t : Token) (ts : List Token) → part_at level (raised f t) (map (raised f) ts)
    ≡ raised_part f (part_at level t ts)
unfolding part_at
part_raised level f t ts = part_by_raised level f t.kind t ts

pub to_list_raised : (f : ℕ → ℕ) (o : Option Token) → option_to_list (option_map (raised f) o) ≡ map (raised f) (option_to_list o)
to_list_raised f None = refl
to_list_raised f (Some t) = refl

pub ending_pieces_raised : (f : ℕ → ℕ) (e : EndingForm) → ending_pieces (raised_ending f e) ≡ map (raised f) (ending_pieces e)
ending_pieces_raised f text_end = refl
ending_pieces_raised f (semicolon t) = refl
ending_pieces_raised f (block first within close) = ap (λ (xs : List Token). raised f first ∷ xs)
    (ap (λ (xs : List Token). map (raised f) within ++ xs) (to_list_raised f close)
    ∙ sym (map_append (raised f) within (option_to_list close)))

pub part_pieces_raised : (f : ℕ → ℕ) (p : PartForm) → part_pieces (raised_part f p) ≡ map (raised f) (part_pieces p)
part_pieces_raised f (passed t) = refl
part_pieces_raised f (at_rule keyword prelude ending) = ap (λ (xs : List Token). raised f keyword ∷ xs)
    (ap (λ (xs : List Token). map (raised f) prelude ++ xs) (ending_pieces_raised f ending)
    ∙ sym (map_append (raised f) prelude (ending_pieces ending)))
part_pieces_raised f (qualified prelude ending) =
    ap (λ (xs : List Token). map (raised f) prelude ++ xs) (ending_pieces_raised f ending)
    ∙ sym (map_append (raised f) prelude (ending_pieces ending))

part_size_raised : (f : ℕ → ℕ) (p : PartForm) → length (part_pieces (raised_part f p)) ≡ length (part_pieces p)
part_size_raised f p = ap length (part_pieces_raised f p) ∙ map_length (raised f) (part_pieces p)

parts_after_raised : (level : Level) (f : ℕ → ℕ) (skip : ℕ) (ts : List Token)
    → parts_after level skip (map (raised f) ts) ≡ map (raised_part f) (parts_after level skip ts)
unfolding parts_after
parts_after_raised level f skip [] = refl
parts_after_raised level f (suc skip) (t ∷ ts) = parts_after_raised level f skip ts
parts_after_raised level f zero (t ∷ ts) =
    let k = length (part_pieces (part_at level t ts)) - 1 in
    let p = part_raised level f t ts in
    let size : length (part_pieces (part_at level (raised f t) (map (raised f) ts))) - 1 ≡ k =
    ap (λ (x : ℕ). x - 1) (ap (λ (x : PartForm). length (part_pieces x)) p ∙ part_size_raised f (part_at level t ts)) in
    ap (λ (x : PartForm). x
    ∷ parts_after level (length (part_pieces (part_at level (raised f t) (map (raised f) ts))) - 1) (map (raised f) ts)) p
    ∙ ap (λ (x : ℕ). raised_part f (part_at level t ts) ∷ parts_after level x (map (raised f) ts)) size
    ∙ ap (λ (ps : List PartForm). raised_part f (part_at level t ts) ∷ ps) (parts_after_raised level f k ts)

pub parts_raised : (level : Level) (f : ℕ → ℕ) (ts : List Token) → parts level (map (raised f) ts) ≡ map (raised_part f) (parts level ts)
parts_raised level f ts = parts_after_raised level f 0 ts

-- items
item_by_raised : (f : ℕ → ℕ) (kind : TokenKind) (t : Token) (ts : List Token)
    → item_by (raised f t) (map (raised f) ts) kind ≡ raised_item f (item_by t ts kind)
item_by_raised f tokens.Comment t ts = refl
item_by_raised f tokens.WhiteSpace t ts = refl
item_by_raised f tokens.Semicolon t ts = refl
item_by_raised f tokens.AtKeyword t ts = ap body.at_rule (at_rule_raised f t ts)
item_by_raised f tokens.Ident t ts =
    ap (λ (m : ℕ). body.candidate (take m (map (raised f) (t ∷ ts)))) (until_raised f stops.Semicolon [] (t ∷ ts))
    ∙ ap body.candidate (map_take (raised f) (until stops.Semicolon (t ∷ ts)) (t ∷ ts))
item_by_raised f _ t ts =
    ap (λ (m : ℕ). body.other (take m (map (raised f) (t ∷ ts)))) (until_raised f stops.Semicolon [] (t ∷ ts))
    ∙ ap body.other (map_take (raised f) (until stops.Semicolon (t ∷ ts)) (t ∷ ts))

item_raised : (f : ℕ → ℕ) (t : Token) (ts : List Token) → item_at (raised f t) (map (raised f) ts) ≡ raised_item f (item_at t ts)
unfolding item_at
item_raised f t ts = item_by_raised f t.kind t ts

item_size_raised : (f : ℕ → ℕ) (x : body.ItemForm) → length (item_pieces (raised_item f x)) ≡ length (item_pieces x)
item_size_raised f (body.passed t) = refl
item_size_raised f (body.at_rule p) = part_size_raised f p
item_size_raised f (body.candidate ts) = map_length (raised f) ts
item_size_raised f (body.other ts) = map_length (raised f) ts

pub items_raised : (f : ℕ → ℕ) (skip : ℕ) (ts : List Token) → items_after skip (map (raised f) ts)
    ≡ map (raised_item f) (items_after skip ts)
unfolding items_after
items_raised f skip [] = refl
items_raised f (suc skip) (t ∷ ts) = items_raised f skip ts
items_raised f zero (t ∷ ts) =
    let k = length (item_pieces (item_at t ts)) - 1 in
    let p = item_raised f t ts in
    let size : length (item_pieces (item_at (raised f t) (map (raised f) ts))) - 1 ≡ k =
    ap (λ (x : ℕ). x - 1) (ap (λ (x : body.ItemForm). length (item_pieces x)) p ∙ item_size_raised f (item_at t ts)) in
    ap (λ (x : body.ItemForm). x ∷ items_after (length (item_pieces (item_at (raised f t) (map (raised f) ts))) - 1) (map (raised f) ts)) p
    ∙ ap (λ (x : ℕ). raised_item f (item_at t ts) ∷ items_after x (map (raised f) ts)) size
    ∙ ap (λ (ps : List body.ItemForm). raised_item f (item_at t ts) ∷ ps) (items_raised f k ts)
