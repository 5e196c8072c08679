-- Where the preludes of media rules start.
use Rattle.std.proofs.Common.{◌≡◌, ℕ, ◌+◌, ◌-◌, ◌<◌, ◌≤◌, nat_le, Bool, true, false, cond, List, [], ◌∷◌, ◌++◌, map, length, take, drop}
use Rattle.std.proofs.Common.{Option, Some}
use Rattle.std.proofs.Common.{None, refl, sym, ap, subst, ◌∙◌, arith}
use Rattle.std.specs.Prelude.{slice_get, option_map, option_to_list}
use Rattle.std.specs.List.{AllByRecursion, prefix_len}
use Rattle.std.proofs.lemmas.Bool.Decides.{nat_tests}
use Rattle.std.proofs.lemmas.List.{take-append-drop}
use Rattle.css_tokens.specs.declared.token.Token.{Token}
use Rattle.selectors.specs.declared.words.Word.{Word}
use Rattle.selectors.specs.Ranges.{AreBetween}
use Rattle.selectors.specs.Reading.{range_by, range_of}
use Rattle.selectors.specs.Words.{word_of, passed_over, words_by, words_after}
use Rattle.sheet_reader.specs.declared.sheet.MediaRule.{MediaRule}
use Rattle.sheet_reader.specs.Layout.{MediaForm, media_form, media_rule, media_in, prelude_range, Laid, level_of, laid_out}
use Rattle.sheet_reader.specs.Parts.{PartForm, part_pieces, parts}
use Rattle.sheet_reader.proofs.GrammarForms.{parts_spelled}
use Rattle.sheet_reader.proofs.LaidMoves.{laid_in}
use Rattle.sheet_reader.proofs.LayoutForms.{laid_spelled}
use Rattle.sheet_reader.proofs.PartMoves.{flat_of}
use Rattle.sheet_reader.proofs.ReadMoves.{AllTokens, tokens_split, LaidIn}
use Rattle.sheet_reader.proofs.UsableForms.{media_is}

-- at a place or behind it
abbrev pub StartFrom : ℕ → List MediaRule → Type 0
StartFrom place ms = AllByRecursion (λ m. place ≤ m.prelude.start) ms

pub from_append : (place : ℕ) (xs ys : List MediaRule) → StartFrom place xs → StartFrom place ys → StartFrom place (xs ++ ys)
from_append place [] ys a b = b
from_append place (x ∷ xs) ys a b = (a.0, from_append place xs ys a.1 b)

pub take_tokens : (lo hi n : ℕ) (ts : List Token) → AllTokens lo hi ts → AllTokens lo hi (take n ts)
take_tokens lo hi n ts all = (tokens_split lo hi (take n ts) (drop n ts) (subst (AllTokens lo hi) (sym (take-append-drop n ts)) all)).0

pub drop_tokens : (lo hi n : ℕ) (ts : List Token) → AllTokens lo hi ts → AllTokens lo hi (drop n ts)
drop_tokens lo hi n ts all = (tokens_split lo hi (take n ts) (drop n ts) (subst (AllTokens lo hi) (sym (take-append-drop n ts)) all)).1

word_from : (text : List ℕ) (spaced : Bool) (lo hi : ℕ) (ts : List Token) → AllTokens lo hi ts → (w : Word)
    → slice_get (words_after text spaced ts) 0 ≡ Some w → lo ≤ w.start
unfolding words_after
word_from text spaced lo hi [] all w e = absurd (cc)
word_from text spaced lo hi (t ∷ ts) all w e = by (passed_over t.kind spaced) e (λ s h. word_from text s lo hi ts all.1 w h)
  where
    by : (o : Option Bool) → slice_get (words_by o (word_of text spaced t) (λ s. words_after text s ts)) 0 ≡ Some w
        → ((s : Bool) → slice_get (words_after text s ts) 0 ≡ Some w → lo ≤ w.start) → lo ≤ w.start
    by None h more =
        let same : word_of text spaced t ≡ w = cc in
        let start : t.start ≡ w.start = ap (λ (x : Word). x.start) same in
        let own = all.0 in
        omega (arith, start, own.0)
    by (Some s) h more = more s h

range_from : (text : List ℕ) (lo hi : ℕ) (keyword : Token) (ts : List Token) → AllTokens lo hi (keyword ∷ ts)
    → lo ≤ (prelude_range keyword (range_of (words_after text false ts))).start
range_from text lo hi keyword ts all =
    by (slice_get (words_after text false ts) 0) (slice_get (words_after text false ts) (length (words_after text false ts) - 1)) refl
  where
    by : (a b : Option Word) → slice_get (words_after text false ts) 0 ≡ a → lo ≤ (prelude_range keyword (range_by a b)).start
    by None b e = let own = all.0 in omega (arith, own.0, own.1)
    by (Some w) None e = let own = all.0 in omega (arith, own.0, own.1)
    by (Some w) (Some v) e = word_from text false lo hi ts all.1 w e

media_from : (text : List ℕ) (lo hi : ℕ) (ls : List Laid) → LaidIn lo hi ls → StartFrom lo (media_in text ls)
unfolding media_in
media_from text lo hi [] all = tt
media_from text lo hi (l ∷ ls) all = by (media_from text lo hi ls all.1) (media_form text l.part) refl
  where
    by : StartFrom lo (media_in text ls) → (o : Option MediaForm) → media_form text l.part ≡ o
        → StartFrom lo (option_to_list (option_map (media_rule text l.around) o) ++ media_in text ls)
    by more None e = more
    by more (Some m) e =
        let i = media_is text l.part m e in
        let within : AllTokens lo hi (m.keyword ∷ (m.prelude ++ i.first ∷ (m.inside ++ option_to_list i.close))) =
        subst (λ (q : PartForm). AllTokens lo hi (part_pieces q)) i.is all.0 in
        let own = (tokens_split lo hi m.prelude (i.first ∷ (m.inside ++ option_to_list i.close)) within.1).0 in
        (range_from text lo hi m.keyword m.prelude (within.0, own), more)

-- those that pieces lay out start where these pieces stand
pub laid_from : (text : List ℕ) (lo hi : ℕ) (a : Option ℕ) (k : ℕ) (ts : List Token) → AllTokens lo hi ts
    → StartFrom lo (media_in text (laid_out text a k ts))
laid_from text lo hi a k ts all =
    let ps = parts (level_of a) ts in
    media_from text lo hi (laid_out text a k ts) (laid_in lo hi text a k ps (laid_out text a k ts) (laid_spelled text a k ts)
    (subst (AllTokens lo hi) (flat_of (level_of a) ps ts (parts_spelled (level_of a) ts)).0 all))

-- ---- the last one that does not start behind a place

between_up : (text : List ℕ) (from to : ℕ) (xs : List MediaRule) (m : MediaRule) (ys : List MediaRule)
    → AreBetween text from to (map (λ (x : MediaRule). x.prelude) (xs ++ m ∷ ys)) → from ≤ m.prelude.start
between_up text from to [] m ys all = all.0
between_up text from to (x ∷ xs) m ys all =
    let order = (all.1).order in
    let more = between_up text x.prelude.end to xs m ys all.2 in
    omega (arith, all.0, order, more)

prefix_here : (place : ℕ) (ys : List MediaRule) (far : ℕ) → place < far → StartFrom far ys
    → prefix_len (λ (m : MediaRule). nat_le m.prelude.start place) ys ≡ 0
prefix_here place [] far less all = refl
prefix_here place (y ∷ ys) far less all =
    let order = all.0 in
    let over : nat_le y.prelude.start place ≡ false = grind (arith, nat_tests, less, order) in
    ap (λ (b : Bool). cond b (1 + prefix_len (λ (m : MediaRule). nat_le m.prelude.start place) ys) 0) over

pub up_to_all : (text : List ℕ) (from to place far : ℕ) (xs : List MediaRule) (m : MediaRule) (ys : List MediaRule)
    → AreBetween text from to (map (λ (x : MediaRule). x.prelude) (xs ++ m ∷ ys)) → m.prelude.start ≤ place → place < far
    → StartFrom far ys → prefix_len (λ (x : MediaRule). nat_le x.prelude.start place) (xs ++ m ∷ ys) ≡ length xs + 1
up_to_all text from to place far [] m ys all fits less behind =
    let here : nat_le m.prelude.start place ≡ true = grind (arith, nat_tests, fits) in
    let none = prefix_here place ys far less behind in
    ap (λ (b : Bool). cond b (1 + prefix_len (λ (x : MediaRule). nat_le x.prelude.start place) ys) 0) here ∙ omega (arith, none)
up_to_all text from to place far (x ∷ xs) m ys all fits less behind =
    let order = (all.1).order in
    let next = between_up text x.prelude.end to xs m ys all.2 in
    let here : nat_le x.prelude.start place ≡ true = grind (arith, nat_tests, fits, order, next) in
    let more = up_to_all text x.prelude.end to place far xs m ys all.2 fits less behind in
    ap (λ (b : Bool). cond b (1 + prefix_len (λ (x : MediaRule). nat_le x.prelude.start place) (xs ++ m ∷ ys)) 0) here
    ∙ omega (arith, more)
