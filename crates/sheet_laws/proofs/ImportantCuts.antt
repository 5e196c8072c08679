-- `!important` at the end of a value, as a relation between pieces and as it is told from words.
use Rattle.std.proofs.Common.{◌≡◌, ℕ, ◌+◌, ◌-◌, Bool, true, false, List, [], ◌∷◌, ◌++◌, length, take, slice_index, Option, Some, codes}
use Rattle.std.proofs.Common.{refl, sym, ap, ◌∙◌, append_assoc, length-append, arith}
use Rattle.std.specs.Prelude.{◌&&◌, nat_lt, slice_get}
use Rattle.std.specs.Str.{bytes_eq}
use Rattle.std.proofs.lemmas.Slice.Eq.{bytes_eq-Decides}
use Rattle.std.proofs.lemmas.Bool.{eqb-true, eq-eqb}
use Rattle.std.proofs.Math.Seq.{take-append_seam}
use Rattle.css_tokens.specs.declared.token.Token.{Token}
use Rattle.css_tokens.specs.declared.token.TokenKind.{TokenKind}
use Rattle.css_tokens.specs.declared.token.TokenKind.TheVariants as tokens
use Rattle.css_tokens.proofs.Ends.{and_true}
use Rattle.css_tokens.proofs.NameForms.{true_lt}
use Rattle.selectors.specs.declared.words.Word.{Word}
use Rattle.selectors.specs.declared.words.WordKind.{WordKind}
use Rattle.selectors.specs.declared.words.WordKind.TheVariants.{Ident}
use Rattle.selectors.specs.Words.{word_kind, word_of, words_after, is_mark}
use Rattle.selectors.specs.Reading.{lower_of}
use Rattle.sheet_reader.specs.Lone.{is_blank_kind, is_blank_piece}
use Rattle.sheet_reader.specs.Declarations.{names_important, is_important_by, is_important, plain_value}
use Rattle.sheet_reader.specs.Solids.{is_character_kind, IsCharacter}
use Rattle.sheet_laws.specs.Values.{EndsImportant, HasImportance}
use Rattle.sheet_laws.specs.Values as values
use Rattle.sheet_reader.proofs.WordCuts.{blank_words, words_blank, word_stands, stands_among, get_seam, has_last}

-- ---- pieces of one character

character_by : (kind : TokenKind) (c first : ℕ) → is_mark c (word_kind kind first) ≡ true → (is_character_kind kind ≡ true) × (first ≡ c)
character_by tokens.Colon c first e = (refl, eqb-true first c e)
character_by tokens.Semicolon c first e = (refl, eqb-true first c e)
character_by tokens.Comma c first e = (refl, eqb-true first c e)
character_by tokens.OpenSquare c first e = (refl, eqb-true first c e)
character_by tokens.CloseSquare c first e = (refl, eqb-true first c e)
character_by tokens.OpenRound c first e = (refl, eqb-true first c e)
character_by tokens.CloseRound c first e = (refl, eqb-true first c e)
character_by tokens.OpenCurly c first e = (refl, eqb-true first c e)
character_by tokens.CloseCurly c first e = (refl, eqb-true first c e)
character_by tokens.Delim c first e = (refl, eqb-true first c e)
character_by (tokens.Hash true) c first e = absurd (cc)
character_by (tokens.Hash false) c first e = absurd (cc)
character_by _ c first e = absurd (cc)

mark_by : (kind : TokenKind) (c first : ℕ) → is_character_kind kind ≡ true → first ≡ c → is_mark c (word_kind kind first) ≡ true
mark_by tokens.Colon c first e same = eq-eqb first c same
mark_by tokens.Semicolon c first e same = eq-eqb first c same
mark_by tokens.Comma c first e same = eq-eqb first c same
mark_by tokens.OpenSquare c first e same = eq-eqb first c same
mark_by tokens.CloseSquare c first e same = eq-eqb first c same
mark_by tokens.OpenRound c first e same = eq-eqb first c same
mark_by tokens.CloseRound c first e same = eq-eqb first c same
mark_by tokens.OpenCurly c first e same = eq-eqb first c same
mark_by tokens.CloseCurly c first e same = eq-eqb first c same
mark_by tokens.Delim c first e same = eq-eqb first c same
mark_by _ c first e same = absurd (cc)

-- a word that is a mark is a piece of one character
pub character_of : (text : List ℕ) (c : ℕ) (spaced : Bool) (t : Token) (w : Word) → w ≡ word_of text spaced t → is_mark c w.kind ≡ true
    → IsCharacter text c t
character_of text c spaced t w is e = character_by t.kind c (slice_index text t.start) (ap (λ (v : Word). is_mark c v.kind) (sym is) ∙ e)

pub mark_of : (text : List ℕ) (c : ℕ) (t : Token) → IsCharacter text c t → is_mark c (word_kind t.kind (slice_index text t.start)) ≡ true
mark_of text c t e = mark_by t.kind c (slice_index text t.start) e.0 e.1

solid_by : (kind : TokenKind) → is_character_kind kind ≡ true → is_blank_kind kind ≡ false
solid_by tokens.Comment e = absurd (cc)
solid_by tokens.WhiteSpace e = absurd (cc)
solid_by _ e = refl

pub character_solid : (text : List ℕ) (c : ℕ) (t : Token) → IsCharacter text c t → is_blank_piece t ≡ false
character_solid text c t e = solid_by t.kind e.0

ident_by : (kind : TokenKind) (first : ℕ) (k : WordKind) → word_kind kind first ≡ k → k ≡ Ident → kind ≡ tokens.Ident
ident_by tokens.Ident first k e same = refl
ident_by (tokens.Hash true) first k e same = absurd (cc)
ident_by (tokens.Hash false) first k e same = absurd (cc)
ident_by _ first k e same = absurd (cc)

-- ---- the last two words

names_by : (text : List ℕ) (w : Word) (k : WordKind) → names_important text w k ≡ true
    → (k ≡ Ident) × (bytes_eq (lower_of text w) (codes "important") ≡ true)
names_by text w Ident e = (refl, e)
names_by text w _ e = absurd (cc)

abbrev some_word : Word → Option Word
some_word w = Some w

-- a value of at least two words, by the last two
record LastTwo (ws : List Word) : Type 0 where
  front : List Word
  mark : Word
  name : Word
  is : ws ≡ front ++ mark ∷ name ∷ []

last_two : (ws : List Word) → nat_lt 1 (length ws) ≡ true → LastTwo ws
last_two [] e = absurd (cc)
last_two (w ∷ []) e = absurd (cc)
last_two (w ∷ v ∷ ws) e =
    let l = has_last v ws in
    before w l.front l.last (ap (λ (vs : List Word). w ∷ vs) l.is)
  where
    before : (u : Word) (front : List Word) (last : Word) → w ∷ v ∷ ws ≡ u ∷ (front ++ last ∷ []) → LastTwo (w ∷ v ∷ ws)
    before u front last is =
        let m = has_last u front in
        record {
          front = m.front;
          mark = m.last;
          name = last;
          is = is ∙ ap (λ (vs : List Word). vs ++ last ∷ []) m.is ∙ append_assoc m.front (m.last ∷ []) (last ∷ []);
        }

at_end : (front : List Word) (mark name : Word)
    → (length (front ++ mark ∷ name ∷ []) - 2 ≡ length front) × (length (front ++ mark ∷ name ∷ []) - 1 ≡ length front + 1)
at_end front mark name = let len = length-append front (mark ∷ name ∷ []) in (omega (arith, len), omega (arith, len))

get_mark : (front : List Word) (mark name : Word)
    → slice_get (front ++ mark ∷ name ∷ []) (length (front ++ mark ∷ name ∷ []) - 2) ≡ some_word mark
get_mark front mark name = ap (slice_get (front ++ mark ∷ name ∷ [])) (at_end front mark name).0 ∙ get_seam front mark (name ∷ [])

get_name : (front : List Word) (mark name : Word)
    → slice_get (front ++ mark ∷ name ∷ []) (length (front ++ mark ∷ name ∷ []) - 1) ≡ some_word name
get_name front mark name =
    let len : length (front ++ mark ∷ name ∷ []) - 1
    ≡ length (front ++ mark ∷ []) = omega (arith, length-append front (mark ∷ name ∷ []), length-append front (mark ∷ [])) in
    let split : (front ++ mark ∷ name ∷ []) ≡ (front ++ mark ∷ []) ++ name ∷ [] = sym (append_assoc front (mark ∷ []) (name ∷ [])) in
    ap (slice_get (front ++ mark ∷ name ∷ [])) len ∙ ap (λ (ws : List Word). slice_get ws (length (front ++ mark ∷ []))) split ∙ get_seam
    (front ++ mark ∷ []) name []

long_enough : (front : List Word) (mark name : Word) → nat_lt 1 (length (front ++ mark ∷ name ∷ [])) ≡ true
long_enough front mark name = true_lt 1 (length (front ++ mark ∷ name ∷ [])) (omega (arith, length-append front (mark ∷ name ∷ [])))

-- whether it is important, by the last two words
by_two : (text : List ℕ) (front : List Word) (mark name : Word)
    → is_important text (front ++ mark ∷ name ∷ []) ≡ (is_mark 33 mark.kind && names_important text name name.kind)
by_two text front mark name =
    ap (λ (b : Bool). b && is_important_by text (slice_get (front ++ mark ∷ name ∷ []) (length (front ++ mark ∷ name ∷ []) - 2))
    (slice_get (front ++ mark ∷ name ∷ []) (length (front ++ mark ∷ name ∷ []) - 1))) (long_enough front mark name)
    ∙ (λ i. is_important_by text (get_mark front mark name i) (get_name front mark name i))

-- ---- pieces

-- a value that ends in `!important`, by its words
record ImportantWords (text : List ℕ) (ws : List Word) : Type 0 where
  front : List Word
  mark : Word
  name : Word
  is : ws ≡ front ++ mark ∷ name ∷ []
  is_mark : is_mark 33 mark.kind ≡ true
  names : names_important text name name.kind ≡ true

important_words : (text : List ℕ) (ws : List Word) → is_important text ws ≡ true → ImportantWords text ws
important_words text ws e =
    let long = and_true (nat_lt 1 (length ws)) (is_important_by text (slice_get ws (length ws - 2)) (slice_get ws (length ws - 1))) e in
    let l = last_two ws long.0 in
    let both = and_true (is_mark 33 l.mark.kind) (names_important text l.name l.name.kind)
    (sym (by_two text l.front l.mark l.name) ∙ ap (is_important text) (sym l.is) ∙ e) in
    record { front = l.front; mark = l.mark; name = l.name; is = l.is; is_mark = both.0; names = both.1 }

-- what its pieces are
record EndsFound (text : List ℕ) (spaced : Bool) (value : List Token) : Type 0 where
  plain : List Token
  ends : EndsImportant text value plain

ends_found : (text : List ℕ) (spaced : Bool) (value : List Token) → is_important text (words_after text spaced value) ≡ true
    → EndsFound text spaced value
ends_found text spaced value e =
    let i = important_words text (words_after text spaced value) e in
    let m = word_stands text spaced value i.front i.mark (i.name ∷ []) i.is in
    let n = word_stands text false m.behind [] i.name [] m.rest in
    let is = names_by text i.name i.name.kind i.names in
    record {
      plain = m.before;
      ends = record {
        mark = m.t;
        gap = n.before;
        name = n.t;
        behind = n.behind;
        is = m.is ∙ ap (λ (xs : List Token). m.before ++ m.t ∷ xs) n.is;
        is_mark = character_of text 33 m.after m.t i.mark m.word i.is_mark;
        gap_blank = words_blank text n.first n.before n.front;
        is_name = ident_by n.t.kind (slice_index text n.t.start) i.name.kind (ap (λ (v : Word). v.kind) (sym n.word)) is.0;
        named = ap (lower_of text) (sym n.word) ∙ (bytes_eq-Decides (lower_of text i.name) (codes "important")).0 is.1;
        behind_blank = words_blank text false n.behind n.rest;
      };
    }

-- the words of a value that ends so
record EndsWords (text : List ℕ) (spaced : Bool) (value plain : List Token) : Type 0 where
  mark : Word
  name : Word
  is : words_after text spaced value ≡ words_after text spaced plain ++ mark ∷ name ∷ []
  is_mark : is_mark 33 mark.kind ≡ true
  names : names_important text name name.kind ≡ true

ident_solid : (t : Token) → t.kind ≡ tokens.Ident → is_blank_piece t ≡ false
ident_solid t e = ap is_blank_kind e

ends_words : (text : List ℕ) (spaced : Bool) (value plain : List Token) → EndsImportant text value plain → EndsWords text spaced value plain
ends_words text spaced value plain e =
    let a = stands_among text spaced plain e.mark (e.gap ++ e.name ∷ e.behind) (character_solid text 33 e.mark e.is_mark) in
    let b = stands_among text false e.gap e.name e.behind (ident_solid e.name e.is_name) in
    let name = word_of text b.after e.name in
    let kind : word_kind e.name.kind (slice_index text e.name.start)
    ≡ Ident = ap (λ (k : TokenKind). word_kind k (slice_index text e.name.start)) e.is_name in
    let rest : words_after text false (e.gap ++ e.name ∷ e.behind) ≡ name ∷ [] =
    b.is ∙ ap (λ (ws : List Word). ws ++ name ∷ words_after text false e.behind) (blank_words text false e.gap e.gap_blank) ∙ ap
    (λ (ws : List Word). name ∷ ws) (blank_words text false e.behind e.behind_blank) in
    record {
      mark = word_of text a.after e.mark;
      name = name;
      is = ap (words_after text spaced) e.is ∙ a.is ∙ ap
          (λ (ws : List Word). words_after text spaced plain ++ word_of text a.after e.mark ∷ ws) rest;
      is_mark = mark_of text 33 e.mark e.is_mark;
      names = ap (names_important text name) kind ∙ (bytes_eq-Decides (lower_of text name) (codes "important")).1 e.named;
    }

pub ends_important : (text : List ℕ) (spaced : Bool) (value plain : List Token) → EndsImportant text value plain
    → is_important text (words_after text spaced value) ≡ true
ends_important text spaced value plain e =
    let w = ends_words text spaced value plain e in
    ap (is_important text) w.is ∙ by_two text (words_after text spaced plain) w.mark w.name ∙ (λ i. w.is_mark i && w.names i)

without_two : (front : List Word) (mark name : Word) → take (length (front ++ mark ∷ name ∷ []) - 2) (front ++ mark ∷ name ∷ []) ≡ front
without_two front mark name = ap (λ (n : ℕ). take n (front ++ mark ∷ name ∷ [])) (at_end front mark name).0 ∙ take-append_seam front
    (mark ∷ name ∷ [])

ends_without : (text : List ℕ) (value plain : List Token) → EndsImportant text value plain
    → plain_value true (words_after text false value) ≡ words_after text false plain
ends_without text value plain e =
    let w = ends_words text false value plain e in
    ap (plain_value true) w.is ∙ without_two (words_after text false plain) w.mark w.name

-- whether a value is important, and its words without `!important`
pub record ImportanceIs (text : List ℕ) (value : List Token) (important : Bool) (plain : List Token) : Type 0 where
  pub flag : is_important text (words_after text false value) ≡ important
  pub rest : plain_value important (words_after text false value) ≡ words_after text false plain

pub importance_is : (text : List ℕ) (value : List Token) (important : Bool) (plain : List Token) → HasImportance text value important plain
    → ImportanceIs text value important plain
importance_is text value _ plain
    (values.is_important e) = record { flag = ends_important text false value plain e; rest = ends_without text value plain e }
importance_is text value _ _ (values.is_normal none) = by (is_important text (words_after text false value)) refl
  where
    by : (b : Bool) → is_important text (words_after text false value) ≡ b → ImportanceIs text value false value
    by true e = let f = ends_found text false value e in absurd (none f.plain f.ends)
    by false e = record { flag = e; rest = refl }

-- the value without it, as pieces
pub record ImportanceFound (text : List ℕ) (value : List Token) (important : Bool) : Type 0 where
  pub plain : List Token
  pub has : HasImportance text value important plain
  pub rest : plain_value important (words_after text false value) ≡ words_after text false plain

true_false : true ≡ false → ⊥
true_false e = absurd (cc)

pub importance_found : (text : List ℕ) (value : List Token) (important : Bool)
    → is_important text (words_after text false value) ≡ important → ImportanceFound text value important
importance_found text value true e =
    let f = ends_found text false value e in
    record { plain = f.plain; has = values.is_important f.ends; rest = ends_without text value f.plain f.ends }
importance_found text value false e = record {
  plain = value;
  has = values.is_normal (λ plain ends. true_false (sym (ends_important text false value plain ends) ∙ e));
  rest = refl;
}

-- what stands before the value does not count
pub important_behind : (text : List ℕ) (front value plain : List Token) → EndsImportant text value plain
    → EndsImportant text (front ++ value) (front ++ plain)
important_behind text front value plain e = record {
  mark = e.mark;
  gap = e.gap;
  name = e.name;
  behind = e.behind;
  is = ap (λ (xs : List Token). front ++ xs) e.is ∙ sym (append_assoc front plain (e.mark ∷ (e.gap ++ e.name ∷ e.behind)));
  is_mark = e.is_mark;
  gap_blank = e.gap_blank;
  is_name = e.is_name;
  named = e.named;
  behind_blank = e.behind_blank;
}
