-- Words of pieces, and the pieces that they are: what the words of a list of pieces say of where solid pieces stand in it.
use Rattle.std.proofs.Common.{◌≡◌, ℕ, ◌-◌, Bool, true, false, List, [], ◌∷◌, ◌++◌, length, Option, Some, None, refl, sym, ap, subst, ◌∙◌}
use Rattle.std.proofs.Common.{length-append, arith}
use Rattle.std.specs.Prelude.{slice_get}
use Rattle.css_tokens.specs.declared.token.Token.{Token}
use Rattle.css_tokens.specs.declared.token.Range.{Range}
use Rattle.css_tokens.specs.declared.token.TokenKind.{TokenKind}
use Rattle.css_tokens.specs.declared.token.TokenKind.TheVariants as tokens
use Rattle.selectors.specs.declared.words.Word.{Word}
use Rattle.selectors.specs.Words.{word_of, passed_over, words_after}
use Rattle.selectors.specs.Reading.{range_by, range_of}
use Rattle.selectors.proofs.Choices.{none_some, some_is}
use Rattle.selectors.proofs.WordForms.{passes, is_word}
use Rattle.sheet_reader.specs.Forms.{range}
use Rattle.sheet_reader.specs.Lone.{is_blank_kind, is_blank_piece}
use Rattle.sheet_reader.specs.Solids.{AreBlank, Covers}
use Rattle.sheet_reader.specs.SelectorLists.{AreWordsOf, no_words, past_comment, past_white, word_and}

-- ---- a piece in front

-- whether what follows a piece that is no word is spaced
abbrev spaced_by : TokenKind → Bool → Bool
spaced_by tokens.WhiteSpace spaced = true
spaced_by _ spaced = spaced

passes_by : (k : TokenKind) (spaced : Bool) → is_blank_kind k ≡ true → passed_over k spaced ≡ Some (spaced_by k spaced)
passes_by tokens.Comment spaced e = refl
passes_by tokens.WhiteSpace spaced e = refl
passes_by _ spaced e = absurd (cc)

stays_by : (k : TokenKind) (spaced : Bool) → is_blank_kind k ≡ false → passed_over k spaced ≡ None
stays_by tokens.Comment spaced e = absurd (cc)
stays_by tokens.WhiteSpace spaced e = absurd (cc)
stays_by _ spaced e = refl

-- white space and comments are no words
pub blank_first : (text : List ℕ) (spaced : Bool) (t : Token) (ts : List Token) → is_blank_piece t ≡ true
    → words_after text spaced (t ∷ ts) ≡ words_after text (spaced_by t.kind spaced) ts
blank_first text spaced t ts e = passes text spaced (spaced_by t.kind spaced) t ts (passes_by t.kind spaced e)

-- any other piece is a word
pub solid_first : (text : List ℕ) (spaced : Bool) (t : Token) (ts : List Token) → is_blank_piece t ≡ false
    → words_after text spaced (t ∷ ts) ≡ word_of text spaced t ∷ words_after text false ts
solid_first text spaced t ts e = is_word text spaced t ts (stays_by t.kind spaced e)

none_left : (text : List ℕ) (spaced : Bool) → words_after text spaced [] ≡ []
unfolding words_after
none_left text spaced = refl

-- ---- many pieces

-- the words of pieces are those of the first of them, and then those of the others
pub record WordsJoin (text : List ℕ) (spaced : Bool) (xs ys : List Token) : Type 0 where
  pub after : Bool
  pub is : words_after text spaced (xs ++ ys) ≡ words_after text spaced xs ++ words_after text after ys

pub words_join : (text : List ℕ) (spaced : Bool) (xs ys : List Token) → WordsJoin text spaced xs ys
words_join text spaced [] ys = record {
  after = spaced;
  is = ap (λ (ws : List Word). ws ++ words_after text spaced ys) (sym (none_left text spaced));
}
words_join text spaced (t ∷ xs) ys = by (is_blank_piece t) refl (λ s. words_join text s xs ys)
  where
    by : (b : Bool) → is_blank_piece t ≡ b → ((s : Bool) → WordsJoin text s xs ys) → WordsJoin text spaced (t ∷ xs) ys
    by true e below =
        let j = below (spaced_by t.kind spaced) in
        record {
          after = j.after;
          is = blank_first text spaced t (xs ++ ys) e ∙ j.is ∙ ap (λ (ws : List Word). ws ++ words_after text j.after ys)
              (sym (blank_first text spaced t xs e));
        }
    by false e below =
        let j = below false in
        record {
          after = j.after;
          is = solid_first text spaced t (xs ++ ys) e ∙ ap (λ (ws : List Word). word_of text spaced t ∷ ws) j.is ∙ ap
              (λ (ws : List Word). ws ++ words_after text j.after ys) (sym (solid_first text spaced t xs e));
        }

pub blank_words : (text : List ℕ) (spaced : Bool) (ts : List Token) → AreBlank ts → words_after text spaced ts ≡ []
blank_words text spaced [] all = none_left text spaced
blank_words text spaced (t ∷ ts) all = blank_first text spaced t ts all.0 ∙ blank_words text (spaced_by t.kind spaced) ts all.1

no_word : {w : Word} {ws : List Word} → w ∷ ws ≡ [] → ⊥
no_word e = absurd (cc)

pub words_blank : (text : List ℕ) (spaced : Bool) (ts : List Token) → words_after text spaced ts ≡ [] → AreBlank ts
words_blank text spaced [] e = tt
words_blank text spaced (t ∷ ts) e = by (is_blank_piece t) refl (λ s h. words_blank text s ts h)
  where
    by : (b : Bool) → is_blank_piece t ≡ b → ((s : Bool) → words_after text s ts ≡ [] → AreBlank ts) → AreBlank (t ∷ ts)
    by true blank below = (blank, below (spaced_by t.kind spaced) (sym (blank_first text spaced t ts blank) ∙ e))
    by false solid below = absurd (no_word (sym (solid_first text spaced t ts solid) ∙ e))

-- the piece that a word is, and what stands before and behind it
pub record WordStands (text : List ℕ) (ts : List Token) (us : List Word) (w : Word) (vs : List Word) : Type 0 where
  pub before : List Token
  pub t : Token
  pub behind : List Token
  pub first : Bool
  pub after : Bool
  pub is : ts ≡ before ++ t ∷ behind
  pub front : words_after text first before ≡ us
  pub word : w ≡ word_of text after t
  pub solid : is_blank_piece t ≡ false
  pub rest : words_after text false behind ≡ vs

record WordStandsFrom (text : List ℕ) (spaced : Bool) (ts : List Token) (us : List Word) (w : Word) (vs : List Word) : Type 0 where
  at : WordStands text ts us w vs
  same : at.first ≡ spaced

past_blank : (text : List ℕ) (spaced : Bool) (t : Token) (ts : List Token) (us : List Word) (w : Word) (vs : List Word)
    → is_blank_piece t ≡ true → WordStandsFrom text (spaced_by t.kind spaced) ts us w vs → WordStandsFrom text spaced (t ∷ ts) us w vs
past_blank text spaced t ts us w vs blank f =
    let s = f.at in
    record {
      at = record {
        before = t ∷ s.before;
        t = s.t;
        behind = s.behind;
        first = spaced;
        after = s.after;
        is = ap (λ (xs : List Token). t ∷ xs) s.is;
        front = blank_first text spaced t s.before blank ∙ ap (λ (b : Bool). words_after text b s.before) (sym f.same) ∙ s.front;
        word = s.word;
        solid = s.solid;
        rest = s.rest;
      };
      same = refl;
    }

past_solid : (text : List ℕ) (spaced : Bool) (t : Token) (ts : List Token) (u : Word) (us : List Word) (w : Word) (vs : List Word)
    → is_blank_piece t ≡ false → word_of text spaced t ≡ u → WordStandsFrom text false ts us w vs
    → WordStandsFrom text spaced (t ∷ ts) (u ∷ us) w vs
past_solid text spaced t ts u us w vs solid same f =
    let s = f.at in
    record {
      at = record {
        before = t ∷ s.before;
        t = s.t;
        behind = s.behind;
        first = spaced;
        after = s.after;
        is = ap (λ (xs : List Token). t ∷ xs) s.is;
        front = solid_first text spaced t s.before solid ∙
            (λ i. same i ∷ (ap (λ (b : Bool). words_after text b s.before) (sym f.same) ∙ s.front) i);
        word = s.word;
        solid = s.solid;
        rest = s.rest;
      };
      same = refl;
    }

stands_from : (text : List ℕ) (spaced : Bool) (ts : List Token) (us : List Word) (w : Word) (vs : List Word)
    → words_after text spaced ts ≡ us ++ w ∷ vs → WordStandsFrom text spaced ts us w vs
stands_from text spaced [] [] w vs e = absurd (no_word (sym e ∙ none_left text spaced))
stands_from text spaced [] (u ∷ us) w vs e = absurd (no_word (sym e ∙ none_left text spaced))
stands_from text spaced (t ∷ ts) us w vs e = by (is_blank_piece t) refl us e (λ s os h. stands_from text s ts os w vs h)
  where
    by : (b : Bool) → is_blank_piece t ≡ b → (os : List Word) → words_after text spaced (t ∷ ts) ≡ os ++ w ∷ vs
        → ((s : Bool) (xs : List Word) → words_after text s ts ≡ xs ++ w ∷ vs → WordStandsFrom text s ts xs w vs)
        → WordStandsFrom text spaced (t ∷ ts) os w vs
    by true blank os h below = past_blank text spaced t ts os w vs blank
        (below (spaced_by t.kind spaced) os (sym (blank_first text spaced t ts blank) ∙ h))
    by false solid [] h below =
        let whole : word_of text spaced t ∷ words_after text false ts ≡ w ∷ vs = sym (solid_first text spaced t ts solid) ∙ h in
        let word : word_of text spaced t ≡ w = cc in
        let rest : words_after text false ts ≡ vs = cc in
        record {
          at = record {
            before = [];
            t = t;
            behind = ts;
            first = spaced;
            after = spaced;
            is = refl;
            front = none_left text spaced;
            word = sym word;
            solid = solid;
            rest = rest;
          };
          same = refl;
        }
    by false solid (u ∷ os) h below =
        let whole : word_of text spaced t ∷ words_after text false ts ≡ u ∷ (os ++ w ∷ vs) = sym (solid_first text spaced t ts solid) ∙ h in
        let word : word_of text spaced t ≡ u = cc in
        let rest : words_after text false ts ≡ os ++ w ∷ vs = cc in
        past_solid text spaced t ts u os w vs solid word (below false os rest)

pub word_stands : (text : List ℕ) (spaced : Bool) (ts : List Token) (us : List Word) (w : Word) (vs : List Word)
    → words_after text spaced ts ≡ us ++ w ∷ vs → WordStands text ts us w vs
word_stands text spaced ts us w vs e = let f = stands_from text spaced ts us w vs e in f.at

-- the words where a solid piece stands
pub record StandsAmong (text : List ℕ) (spaced : Bool) (before : List Token) (t : Token) (behind : List Token) : Type 0 where
  pub after : Bool
  pub is : words_after text spaced (before ++ t ∷ behind)
      ≡ words_after text spaced before ++ word_of text after t ∷ words_after text false behind

pub stands_among : (text : List ℕ) (spaced : Bool) (before : List Token) (t : Token) (behind : List Token) → is_blank_piece t ≡ false
    → StandsAmong text spaced before t behind
stands_among text spaced before t behind solid =
    let j = words_join text spaced before (t ∷ behind) in
    record {
      after = j.after;
      is = j.is ∙ ap (λ (ws : List Word). words_after text spaced before ++ ws)
          (solid_first text j.after t behind solid);
    }

-- ---- the declarative words

pub words_spelled : (text : List ℕ) (spaced : Bool) (ts : List Token) → AreWordsOf text spaced ts (words_after text spaced ts)
words_spelled text spaced [] = subst (AreWordsOf text spaced []) (sym (none_left text spaced)) no_words
words_spelled text spaced (t ∷ ts) = by t.kind refl (λ s. words_spelled text s ts)
  where
    solid : is_blank_piece t ≡ false → ((s : Bool) → AreWordsOf text s ts (words_after text s ts))
        → AreWordsOf text spaced (t ∷ ts) (words_after text spaced (t ∷ ts))
    solid e below = subst (AreWordsOf text spaced (t ∷ ts)) (sym (solid_first text spaced t ts e)) (word_and t e (below false))

    by : (k : TokenKind) → t.kind ≡ k → ((s : Bool) → AreWordsOf text s ts (words_after text s ts))
        → AreWordsOf text spaced (t ∷ ts) (words_after text spaced (t ∷ ts))
    by tokens.Comment e below = subst (AreWordsOf text spaced (t ∷ ts))
        (sym (passes text spaced spaced t ts (ap (λ (k : TokenKind). passed_over k spaced) e))) (past_comment t e (below spaced))
    by tokens.WhiteSpace e below = subst (AreWordsOf text spaced (t ∷ ts))
        (sym (passes text spaced true t ts (ap (λ (k : TokenKind). passed_over k spaced) e))) (past_white t e (below true))
    by _ e below = solid (ap is_blank_kind e) below

pub words_only : (text : List ℕ) (spaced : Bool) (ts : List Token) (ws : List Word) → AreWordsOf text spaced ts ws
    → ws ≡ words_after text spaced ts
words_only text spaced _ _ no_words = sym (none_left text spaced)
words_only text spaced _ _ (past_comment {ts = ts} {ws = ws} t e more) = words_only text spaced ts ws more ∙ sym
    (passes text spaced spaced t ts (ap (λ (k : TokenKind). passed_over k spaced) e))
words_only text spaced _ _ (past_white {ts = ts} {ws = ws} t e more) = words_only text true ts ws more ∙ sym
    (passes text spaced true t ts (ap (λ (k : TokenKind). passed_over k spaced) e))
words_only text spaced _ _ (word_and {ts = ts} {ws = ws} t e more) = ap (λ (vs : List Word). word_of text spaced t ∷ vs)
    (words_only text false ts ws more) ∙ sym (solid_first text spaced t ts e)

-- ---- from the first to the last of them

abbrev some_word : Word → Option Word
some_word w = Some w

pub get_seam : {X : Type 0} (us : List X) (w : X) (vs : List X) → slice_get (us ++ w ∷ vs) (length us) ≡ Some w
get_seam [] w vs = refl
get_seam (u ∷ us) w vs = get_seam us w vs

pub get_last : {X : Type 0} (us : List X) (w : X) → slice_get (us ++ w ∷ []) (length (us ++ w ∷ []) - 1) ≡ Some w
get_last us w =
    let len : length (us ++ w ∷ []) - 1 ≡ length us = omega (arith, length-append us (w ∷ [])) in
    ap (slice_get (us ++ w ∷ [])) len ∙ get_seam us w []

-- the last of some words
pub record HasLast (ws : List Word) : Type 0 where
  pub front : List Word
  pub last : Word
  pub is : ws ≡ front ++ last ∷ []

pub has_last : (w : Word) (ws : List Word) → HasLast (w ∷ ws)
has_last w [] = record { front = []; last = w; is = refl }
has_last w (v ∷ vs) = let l = has_last v vs in record { front = w ∷ l.front; last = l.last; is = ap (λ (us : List Word). w ∷ us) l.is }

-- the range of words is what the pieces cover
pub covers_words : (text : List ℕ) (spaced : Bool) (ts : List Token) (r : Range) → range_of (words_after text spaced ts) ≡ Some r
    → Covers ts r
covers_words text spaced ts r e = by (words_after text spaced ts) refl e
  where
    by : (ws : List Word) → words_after text spaced ts ≡ ws → range_of ws ≡ Some r → Covers ts r
    by [] is none = absurd (none_some r none)
    by (w ∷ ws) is some =
        let f = word_stands text spaced ts [] w ws is in
        let l = has_last w ws in
        let b = word_stands text spaced ts l.front l.last [] (is ∙ l.is) in
        let end : slice_get (w ∷ ws) (length (w ∷ ws) - 1)
        ≡ some_word l.last = ap (λ (vs : List Word). slice_get vs (length vs - 1)) l.is ∙ get_last l.front l.last in
        let same : range w.start l.last.end
        ≡ r = some_is {A = Range} (range w.start l.last.end) r (ap (λ (o : Option Word). range_by (some_word w) o) (sym end) ∙ some) in
        record {
          first = f.t;
          last = b.t;
          is_first = record {
            before = f.before;
            behind = f.behind;
            is = f.is;
            blank = words_blank text f.first f.before f.front;
            solid = f.solid;
          };
          is_last = record {
            before = b.before;
            behind = b.behind;
            is = b.is;
            blank = words_blank text false b.behind b.rest;
            solid = b.solid;
          };
          is = sym same ∙ (λ i. range (f.word i).start (b.word i).end);
        }

pub words_cover : (text : List ℕ) (spaced : Bool) (ts : List Token) (r : Range) → Covers ts r
    → range_of (words_after text spaced ts) ≡ Some r
words_cover text spaced ts r c =
    let f = c.is_first in
    let l = c.is_last in
    let a = stands_among text spaced f.before c.first f.behind f.solid in
    let b = stands_among text spaced l.before c.last l.behind l.solid in
    let w = word_of text a.after c.first in
    let v = word_of text b.after c.last in
    let front : words_after text spaced ts ≡ w ∷ words_after text false f.behind =
    ap (words_after text spaced) f.is ∙ a.is ∙ ap (λ (ws : List Word). ws ++ w ∷ words_after text false f.behind)
    (blank_words text spaced f.before f.blank) in
    let back : words_after text spaced ts ≡ words_after text spaced l.before ++ v ∷ [] =
    ap (words_after text spaced) l.is ∙ b.is ∙ ap (λ (ws : List Word). words_after text spaced l.before ++ v ∷ ws)
    (blank_words text false l.behind l.blank) in
    let start : slice_get (words_after text spaced ts) 0 ≡ some_word w = ap (λ (ws : List Word). slice_get ws 0) front in
    let end : slice_get (words_after text spaced ts) (length (words_after text spaced ts) - 1) ≡ some_word v =
    ap (λ (ws : List Word). slice_get ws (length ws - 1)) back ∙ get_last (words_after text spaced l.before) v in
    (λ i. range_by (start i) (end i)) ∙ ap (λ (x : Range). some_range x) (sym c.is)
  where
    some_range : Range → Option Range
    some_range x = Some x
