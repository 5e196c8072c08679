-- The words of a prelude: white space and comments around them count as nothing, and white space before the first is not looked at.
use Rattle.std.proofs.Common.{◌≡◌, ℕ, suc, ◌+◌, ◌-◌, ◌==◌, Bool, true, false, cond, ◌&&◌, List, [], ◌∷◌, ◌++◌, map, length, Option}
use Rattle.std.proofs.Common.{Some, None, refl, sym, ap, ◌∙◌, arith}
use Rattle.std.specs.Prelude.{slice_get, slice_index}
use Rattle.css_tokens.specs.declared.token.Range.{Range}
use Rattle.css_tokens.specs.declared.token.Token.{Token}
use Rattle.css_tokens.specs.declared.token.TokenKind.{TokenKind}
use Rattle.css_tokens.specs.declared.token.TokenKind.TheVariants as tokens
use Rattle.selectors.specs.declared.words.Word.{Word}
use Rattle.selectors.specs.declared.words.WordKind.{WordKind}
use Rattle.selectors.specs.declared.words.WordKind.TheVariants.{Ident, Id, AtKeyword, Mark, Cdo, Cdc}
use Rattle.selectors.specs.declared.selector.Joint.TheVariants as joints
use Rattle.selectors.specs.Words.{WordReading, word_reading, word_kind, word_of, passed_over, words_by, words_after, is_mark}
use Rattle.selectors.specs.Forms.{SelectorForm, ◌>>=◌}
use Rattle.selectors.specs.Parts.{with_front}
use Rattle.selectors.specs.Reading.{plain_by, plain_from, colon_at, Item, item_is, item_from, first_by, first_from, tests_at, compound_of}
use Rattle.selectors.specs.Reading.{compound_at, compounds_at, range_by, range_of, selector_form, joined_of, selector_of, put_first}
use Rattle.selectors.specs.Reading.{segments}
use Rattle.selectors.specs.Reading.{selector_before, selectors_in, selector_list_of}
use Rattle.sheet_reader.specs.declared.brackets.Bracket.{Bracket}
use Rattle.sheet_reader.specs.declared.brackets.Nesting.TheVariants.{Stray}
use Rattle.sheet_reader.specs.declared.brackets.Stop.{Stop}
use Rattle.sheet_reader.specs.declared.brackets.Stop.TheVariants as stops
use Rattle.sheet_reader.specs.declared.parts.Level.{Level}
use Rattle.sheet_reader.specs.declared.parts.Level.TheVariants.{Top, Inner}
use Rattle.sheet_reader.specs.Brackets.{opened_by, closed_by, open_by, open_after, is_none_open, stops_at, until_in, is_stray, is_stray_by}
use Rattle.sheet_reader.specs.Brackets.{nesting_in}
use Rattle.sheet_reader.specs.Grammar.{is_at_keyword, AreNested, none_nested, plain_and, nested_and}
use Rattle.sheet_reader.specs.Parts.{is_passed}
use Rattle.sheet_reader.proofs.BracketLemmas.{go_on}
use Rattle.sheet_reader.proofs.Gaps.{AllPassed, passed_top}
use Rattle.sheet_reader.proofs.Raised.{raised}
use Rattle.std.proofs.Common.{append_assoc}

-- ---- pieces that are passed over have no words
over_some : (k : TokenKind) (spaced : Bool) → is_passed Inner k ≡ true → (s : Bool) × (passed_over k spaced ≡ Some s)
over_some tokens.Comment spaced e = (spaced, refl)
over_some tokens.WhiteSpace spaced e = (true, refl)
over_some _ spaced e = absurd (cc)

pub over_none : (k : TokenKind) (spaced : Bool) → is_passed Inner k ≡ false → passed_over k spaced ≡ None
over_none tokens.Comment spaced e = absurd (cc)
over_none tokens.WhiteSpace spaced e = absurd (cc)
over_none _ spaced e = refl

pub lead_words : (text : List ℕ) (spaced : Bool) (lead ts : List Token) → AllPassed Inner lead
    → (s : Bool) × (words_after text spaced (lead ++ ts) ≡ words_after text s ts)
unfolding words_after
lead_words text spaced [] ts all = (spaced, refl)
lead_words text spaced (t ∷ lead) ts all =
    let o = over_some t.kind spaced all.0 in
    let more = lead_words text o.0 lead ts all.1 in
    (more.0, ap (λ (x : Option Bool). words_by x (word_of text spaced t) (λ s. words_after text s (lead ++ ts))) o.1 ∙ more.1)

no_words : (text : List ℕ) (spaced : Bool) (ts : List Token) → AllPassed Inner ts → words_after text spaced ts ≡ []
unfolding words_after
no_words text spaced [] all = refl
no_words text spaced (t ∷ ts) all =
    let o = over_some t.kind spaced all.0 in
    ap (λ (x : Option Bool). words_by x (word_of text spaced t) (λ s. words_after text s ts)) o.1 ∙ no_words text o.0 ts all.1

pub trail_words : (text : List ℕ) (spaced : Bool) (ts trail : List Token) → AllPassed Inner trail
    → words_after text spaced (ts ++ trail) ≡ words_after text spaced ts
unfolding words_after
trail_words text spaced [] trail all = no_words text spaced trail all
trail_words text spaced (t ∷ ts) trail all = by (passed_over t.kind spaced) (λ s. trail_words text s ts trail all)
  where
    by : (o : Option Bool) → ((s : Bool) → words_after text s (ts ++ trail) ≡ words_after text s ts)
        → words_by o (word_of text spaced t) (λ s. words_after text s (ts ++ trail))
        ≡ words_by o (word_of text spaced t) (λ s. words_after text s ts)
    by None more = ap (λ (ws : List Word). word_of text spaced t ∷ ws) (more false)
    by (Some s) more = more s

-- the first word of pieces that begin with one
pub first_word : (text : List ℕ) (spaced : Bool) (t : Token) (ts : List Token) → is_passed Inner t.kind ≡ false
    → words_after text spaced (t ∷ ts) ≡ word_of text spaced t ∷ words_after text false ts
unfolding words_after
first_word text spaced t ts e =
    ap (λ (x : Option Bool). words_by x (word_of text spaced t) (λ s. words_after text s ts)) (over_none t.kind spaced e)

-- ---- the first word's white space is not looked at
plain_same : (text : List ℕ) (a b : Bool) (t : Token) (r : WordReading) (k : WordKind)
    → plain_by (word_of text a t) r k ≡ plain_by (word_of text b t) r k
plain_same text a b t r Id = refl
plain_same text a b t r (Mark c) = refl
plain_same text a b t r _ = refl

item_same : (text : List ℕ) (a b : Bool) (t : Token) (r : WordReading) → item_from (word_of text a t) r ≡ item_from (word_of text b t) r
unfolding item_from plain_from
item_same text a b t r =
    let k = (word_of text a t).kind in
    λ i. cond (is_mark 58 k) (colon_at r) (item_is (plain_same text a b t r k i))

first_same : (text : List ℕ) (a b : Bool) (t : Token) (r : WordReading) (k : WordKind)
    → first_by (word_of text a t) r k ≡ first_by (word_of text b t) r k
first_same text a b t r Ident = refl
first_same text a b t r (Mark c) =
    λ i. cond (c == 42) (first_by (word_of text a t) r (Mark 42)) (item_same text a b t r i)
first_same text a b t r _ = item_same text a b t r

pub last_some : (w : Word) (ws : List Word) → (x : Word) × (slice_get (w ∷ ws) (length (w ∷ ws) - 1) ≡ Some x)
last_some w [] = let e : length (w ∷ []) - 1 ≡ 0 = omega arith in (w, ap (slice_get (w ∷ [])) e)
last_some w (x ∷ ws) =
    let e : length (w ∷ x ∷ ws) - 1 ≡ suc (length (x ∷ ws) - 1) = omega arith in
    let more = last_some x ws in
    (more.0, ap (slice_get (w ∷ x ∷ ws)) e ∙ more.1)

-- where there are words there is a range, from the first one
pub range_some : (w : Word) (ws : List Word) → (r : Range) × (range_of (w ∷ ws) ≡ Some r) × (r.start ≡ w.start)
range_some w ws =
    let l = last_some w ws in
    (record { start = w.start; end = (l.0).end }, ap (range_by (Some w)) l.1, refl)

range_same : (text : List ℕ) (a b : Bool) (t : Token) (ws : List Word)
    → range_of (word_of text a t ∷ ws) ≡ range_of (word_of text b t ∷ ws)
range_same text a b t [] =
    let e : length (word_of text a t ∷ []) - 1 ≡ 0 = omega arith in
    ap (λ (n : ℕ). range_by (Some (word_of text a t)) (slice_get (word_of text a t ∷ []) n)) e
    ∙ sym (ap (λ (n : ℕ). range_by (Some (word_of text b t)) (slice_get (word_of text b t ∷ []) n)) e)
range_same text a b t (x ∷ ws) =
    let e : length (word_of text a t ∷ x ∷ ws) - 1 ≡ suc (length ws) = omega arith in
    ap (λ (n : ℕ). range_by (Some (word_of text a t)) (slice_get (word_of text a t ∷ x ∷ ws) n)) e
    ∙ by (slice_get (x ∷ ws) (length ws))
    ∙ sym (ap (λ (n : ℕ). range_by (Some (word_of text b t)) (slice_get (word_of text b t ∷ x ∷ ws) n)) e)
  where
    by : (o : Option Word) → range_by (Some (word_of text a t)) o ≡ range_by (Some (word_of text b t)) o
    by None = refl
    by (Some w) = refl

selector_same : (text : List ℕ) (a b : Bool) (t : Token) (ws : List Word)
    → selector_of (word_reading text (word_of text a t ∷ ws)) ≡ selector_of (word_reading text (word_of text b t ∷ ws))
unfolding selector_of joined_of compound_at first_from
selector_same text a b t ws =
    let first = first_same text a b t (word_reading text ws) (word_of text a t).kind in
    let range = range_same text a b t ws in
    λ i. range i >>= λ place. ((first i >>= λ x. compound_of joints.Descendant (with_front x.0.0 (tests_at x.0.1 x.1)))
    >>= λ one. with_front one.0.0 (compounds_at one.0.1 one.1)) >>= λ whole. Some (selector_form place whole.0)

pub list_flag : (text : List ℕ) (a b : Bool) (t : Token) (ws : List Word)
    → selector_list_of (word_reading text (word_of text a t ∷ ws)) ≡ selector_list_of (word_reading text (word_of text b t ∷ ws))
unfolding segments selectors_in
list_flag text a b t ws = by (is_mark 44 (word_of text a t).kind) (segments ws)
  where
    by : (c : Bool) (wss : List (List Word))
        → selectors_in text (cond c ([] ∷ wss) (put_first (word_of text a t) wss))
        ≡ selectors_in text (cond c ([] ∷ wss) (put_first (word_of text b t) wss))
    by true wss = refl
    by false [] = ap (λ (o : Option SelectorForm). o >>= λ s. selector_before s (Some [])) (selector_same text a b t [])
    by false (own ∷ others) =
        ap (λ (o : Option SelectorForm). o >>= λ s. selector_before s (selectors_in text others)) (selector_same text a b t own)

-- ---- what begins no selector
abbrev is_no_first : WordKind → Bool
is_no_first Cdo = true
is_no_first Cdc = true
is_no_first AtKeyword = true
is_no_first _ = false

no_item : (w : Word) (r : WordReading) (k : WordKind) → w.kind ≡ k → is_no_first k ≡ true → item_from w r ≡ None
unfolding item_from plain_from
no_item w r Cdo e h = ap (λ (k : WordKind). cond (is_mark 58 k) (colon_at r) (item_is (plain_by w r k))) e
no_item w r Cdc e h = ap (λ (k : WordKind). cond (is_mark 58 k) (colon_at r) (item_is (plain_by w r k))) e
no_item w r AtKeyword e h = ap (λ (k : WordKind). cond (is_mark 58 k) (colon_at r) (item_is (plain_by w r k))) e
no_item w r _ e h = absurd (cc)

no_first : (w : Word) (r : WordReading) (k : WordKind) → w.kind ≡ k → is_no_first k ≡ true → first_from w r ≡ None
unfolding first_from
no_first w r Cdo e h = ap (first_by w r) e ∙ no_item w r Cdo e h
no_first w r Cdc e h = ap (first_by w r) e ∙ no_item w r Cdc e h
no_first w r AtKeyword e h = ap (first_by w r) e ∙ no_item w r AtKeyword e h
no_first w r _ e h = absurd (cc)

then_none : {A B : Type 0} (o : Option A) → ◌≡◌ {A = Option B} (o >>= λ x. None) None
then_none None = refl
then_none (Some x) = refl

no_selector : (text : List ℕ) (w : Word) (ws : List Word) (k : WordKind) → w.kind ≡ k → is_no_first k ≡ true
    → selector_of (word_reading text (w ∷ ws)) ≡ None
unfolding selector_of joined_of compound_at
no_selector text w ws k e h =
    let none = no_first w (word_reading text ws) k e h in
    ap (λ (o : Option (Item × WordReading)). range_of (w ∷ ws) >>= λ place. ((o >>= λ x. compound_of joints.Descendant
    (with_front x.0.0 (tests_at x.0.1 x.1))) >>= λ one. with_front one.0.0 (compounds_at one.0.1 one.1))
    >>= λ whole. Some (selector_form place whole.0)) none
    ∙ then_none (range_of (w ∷ ws))

pub no_list : (text : List ℕ) (w : Word) (ws : List Word) (k : WordKind) → w.kind ≡ k → is_no_first k ≡ true
    → selector_list_of (word_reading text (w ∷ ws)) ≡ None
unfolding segments selectors_in
no_list text w ws k e h = by (is_mark 44 w.kind) (ap (is_mark 44) e ∙ quiet k h) (segments ws)
  where
    quiet : (k : WordKind) → is_no_first k ≡ true → is_mark 44 k ≡ false
    quiet Cdo h = refl
    quiet Cdc h = refl
    quiet AtKeyword h = refl
    quiet _ h = absurd (cc)

    by : (c : Bool) → c ≡ false → (wss : List (List Word)) → selectors_in text (cond c ([] ∷ wss) (put_first w wss)) ≡ None
    by true f wss = absurd (cc)
    by false f [] = ap (λ (o : Option SelectorForm). o >>= λ s. selector_before s (Some [])) (no_selector text w [] k e h)
    by false f (own ∷ others) =
        ap (λ (o : Option SelectorForm). o >>= λ s. selector_before s (selectors_in text others)) (no_selector text w own k e h)

-- so a prelude that is a list of selectors begins with neither
pub record BeginsPrelude (k : TokenKind) : Type 0 where
  pub solid : is_passed Top k ≡ false
  pub no_at : is_at_keyword k ≡ false

pub begins_prelude : (text : List ℕ) (t : Token) (ws : List Word) (ss : List SelectorForm) → is_passed Inner t.kind ≡ false
    → selector_list_of (word_reading text (word_of text false t ∷ ws)) ≡ Some ss → BeginsPrelude t.kind
begins_prelude text t ws ss solid found = by t.kind refl solid
  where
    wrong : (k : WordKind) → (word_of text false t).kind ≡ k → is_no_first k ≡ true → ⊥
    wrong k e h = let none = sym (no_list text (word_of text false t) ws k e h) ∙ found in clash none
      where
        clash : ◌≡◌ {A = Option (List SelectorForm)} None (Some ss) → ⊥
        clash e = cc

    kind : (k : TokenKind) → t.kind ≡ k → (word_of text false t).kind ≡ word_kind k (slice_index text t.start)
    kind k e = ap (λ (x : TokenKind). word_kind x (slice_index text t.start)) e

    by : (k : TokenKind) → t.kind ≡ k → is_passed Inner k ≡ false → BeginsPrelude k
    by tokens.Cdo e h = absurd (wrong Cdo (kind tokens.Cdo e) refl)
    by tokens.Cdc e h = absurd (wrong Cdc (kind tokens.Cdc e) refl)
    by tokens.AtKeyword e h = absurd (wrong AtKeyword (kind tokens.AtKeyword e) refl)
    by tokens.Comment e h = absurd (cc)
    by tokens.WhiteSpace e h = absurd (cc)
    by _ e h = record { solid = refl; no_at = refl }

-- ---- brackets

plain_kind : (k : TokenKind) → is_passed Top k ≡ true → (opened_by k ≡ None) × (closed_by k ≡ None) × (stops_at stops.Block k ≡ false)
plain_kind tokens.Comment e = (refl, refl, refl)
plain_kind tokens.WhiteSpace e = (refl, refl, refl)
plain_kind tokens.Cdo e = (refl, refl, refl)
plain_kind tokens.Cdc e = (refl, refl, refl)
plain_kind _ e = absurd (cc)

open_same : (bs : List Bracket) (k : TokenKind) → opened_by k ≡ None → closed_by k ≡ None → open_after bs k ≡ bs
open_same bs k a b = λ i. open_by bs (a i) (b i)

and_no : (a b : Bool) → b ≡ false → (a && b) ≡ false
and_no true b e = e
and_no false b e = refl

pub passed_until : (level : Level) (lead : List Token) → AllPassed level lead → (bs : List Bracket) (rest : List Token)
    → until_in stops.Block bs (lead ++ rest) ≡ length lead + until_in stops.Block bs rest
passed_until level [] all bs rest = omega arith
passed_until level (t ∷ lead) all bs rest =
    let p = plain_kind t.kind (passed_top level t.kind all.0) in
    let on = go_on stops.Block bs t (lead ++ rest) (and_no (is_none_open bs) (stops_at stops.Block t.kind) p.2) in
    let same = ap (λ (x : List Bracket). until_in stops.Block x (lead ++ rest)) (open_same bs t.kind p.0 p.1) in
    let more = passed_until level lead all.1 bs rest in
    omega (arith, on, same, more)

pub passed_nested : (level : Level) (lead : List Token) → AllPassed level lead → AreNested lead
passed_nested level [] all = none_nested
passed_nested level (t ∷ lead) all =
    let p = plain_kind t.kind (passed_top level t.kind all.0) in plain_and t lead p.0 p.1 (passed_nested level lead all.1)

pub nested_append : (xs ys : List Token) → AreNested xs → AreNested ys → AreNested (xs ++ ys)
nested_append _ ys none_nested b = b
nested_append _ ys (plain_and t ts o c a) b = plain_and t (ts ++ ys) o c (nested_append ts ys a b)
nested_append xs ys (nested_and t close within ts k is o own c a) b =
    nested_and t close within (ts ++ ys) k
    (ap (λ (l : List Token). l ++ ys) is ∙ ap (λ (l : List Token). t ∷ l) (append_assoc within (close ∷ ts) ys)) o own c
    (nested_append ts ys a b)

pub passed_nesting : (level : Level) (lead : List Token) → AllPassed level lead → (bs : List Bracket) (ts : List Token)
    → nesting_in bs (lead ++ ts) ≡ nesting_in bs ts
unfolding nesting_in
passed_nesting level [] all bs ts = refl
passed_nesting level (t ∷ lead) all bs ts =
    let p = plain_kind t.kind (passed_top level t.kind all.0) in
    let quiet : is_stray bs t.kind ≡ false = ap (is_stray_by bs) p.1 in
    ap (λ (b : Bool). cond b Stray (nesting_in (open_after bs t.kind) (lead ++ ts))) quiet
    ∙ ap (λ (x : List Bracket). nesting_in x (lead ++ ts)) (open_same bs t.kind p.0 p.1)
    ∙ passed_nesting level lead all.1 bs ts

pub until_front : (stop : Stop) (f : ℕ → ℕ) (bs : List Bracket) (xs ys : List Token)
    → until_in stop bs (map (raised f) xs ++ ys) ≡ until_in stop bs (xs ++ ys)
unfolding until_in
until_front stop f bs [] ys = refl
until_front stop f bs (x ∷ xs) ys =
    ap (λ (n : ℕ). cond (is_none_open bs && stops_at stop x.kind) 0 (suc n)) (until_front stop f (open_after bs x.kind) xs ys)
