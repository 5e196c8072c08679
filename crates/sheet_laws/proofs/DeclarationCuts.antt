-- Declarations of the grammar are those that are read, and no others are.
use Rattle.std.proofs.Common.{◌≡◌, ℕ, Bool, true, false, cond, List, [], ◌∷◌, ◌++◌, ◌-◌, length, Option, Some, None, refl, sym, ap, subst}
use Rattle.std.proofs.Common.{◌∙◌}
use Rattle.std.specs.Prelude.{◌&&◌, ◌||◌, not, slice_get}
use Rattle.std.specs.List.{AllByRecursion, list_any}
use Rattle.css_tokens.specs.declared.token.Token.{Token}
use Rattle.css_tokens.specs.declared.token.Range.{Range}
use Rattle.css_tokens.specs.declared.token.TokenKind.TheVariants as tokens
use Rattle.selectors.specs.declared.words.Word.{Word}
use Rattle.selectors.specs.Words.{word_of, words_after, is_mark}
use Rattle.selectors.specs.Forms.{◌>>=◌}
use Rattle.selectors.specs.Reading.{word_value, range_by, range_of, is_over}
use Rattle.selectors.proofs.Choices.{none_some, some_is, bind_some, passed_test, failed_test}
use Rattle.sheet_reader.specs.declared.sheet.Property.{Property}
use Rattle.sheet_reader.specs.Forms.{range}
use Rattle.sheet_reader.specs.Lone.{is_blank_kind, is_blank_piece}
use Rattle.sheet_reader.specs.Brackets.{nesting}
use Rattle.sheet_reader.specs.Declarations.{is_bad_kind, is_stray_nesting, holds_bad, is_custom, name_by, is_important, plain_value}
use Rattle.sheet_reader.specs.Declarations.{value_range, property, unless_empty, declared_by, declared_in, declaration_of}
use Rattle.sheet_reader.specs.Solids.{AreBlank, Covers}
use Rattle.sheet_laws.specs.Values.{AreMatched, IsValueRange, some_value, no_value, IsDeclaration}
use Rattle.sheet_reader.proofs.WordCuts.{solid_first, blank_words, words_blank, word_stands, stands_among, covers_words, words_cover}
use Rattle.sheet_reader.proofs.WordCuts.{has_last, get_last}
use Rattle.sheet_laws.proofs.ImportantCuts.{character_of, mark_of, character_solid, importance_is, importance_found}
use Rattle.sheet_laws.proofs.BracketPairs.{counted_matched, matched_counted}

-- ---- bad pieces

or_none : (a b : Bool) → (a || b) ≡ false → (a ≡ false) × (b ≡ false)
or_none false b e = (refl, e)
or_none true b e = absurd (cc)

none_of : (p : Token → Bool) (ts : List Token) → list_any p ts ≡ false → AllByRecursion (λ t. p t ≡ false) ts
none_of p [] e = tt
none_of p (t ∷ ts) e = let both = or_none (p t) (list_any p ts) e in (both.0, none_of p ts both.1)

of_none : (p : Token → Bool) (ts : List Token) → AllByRecursion (λ t. p t ≡ false) ts → list_any p ts ≡ false
of_none p [] all = refl
of_none p (t ∷ ts) all = ap (λ (b : Bool). b || list_any p ts) all.0 ∙ of_none p ts all.1

none_bad : (ts : List Token) → AllByRecursion (λ t. is_bad_kind t.kind ≡ false) ts → AreMatched ts → holds_bad ts ≡ false
none_bad ts none matched =
    ap (λ (b : Bool). b || is_stray_nesting (nesting ts)) (of_none (λ t. is_bad_kind t.kind) ts none) ∙ matched_counted ts [] matched

-- ---- the value's range

value_spans : (text : List ℕ) (plain : List Token) (colon : Token) (w : Word) (r : Range) → w.end ≡ colon.end → IsValueRange colon plain r
    → value_range w (range_of (words_after text false plain)) ≡ r
value_spans text plain colon w r end (some_value c) = ap (value_range w) (words_cover text false plain r c)
value_spans text plain colon w _ end (no_value blank) =
    ap (λ (ws : List Word). value_range w (range_of ws)) (blank_words text false plain blank) ∙ (λ i. range (end i) (end i))

no_range : (ws : List Word) → range_of ws ≡ None → ws ≡ []
no_range [] e = refl
no_range (w ∷ ws) e =
    let l = has_last w ws in
    let end : slice_get (w ∷ ws) (length (w ∷ ws) - 1)
    ≡ Some l.last = ap (λ (vs : List Word). slice_get vs (length vs - 1)) l.is ∙ get_last l.front l.last in
    absurd (none_some (range w.start l.last.end) (sym e ∙ ap (range_by (Some w)) end))

spans_value : (text : List ℕ) (plain : List Token) (colon : Token) (w : Word) → w.end ≡ colon.end
    → IsValueRange colon plain (value_range w (range_of (words_after text false plain)))
spans_value text plain colon w end = by (range_of (words_after text false plain)) refl
  where
    by : (o : Option Range) → range_of (words_after text false plain) ≡ o → IsValueRange colon plain (value_range w o)
    by (Some r) e = some_value (covers_words text false plain r e)
    by None e =
        let empty : range w.end w.end ≡ range colon.end colon.end = λ i. range (end i) (end i) in
        subst (IsValueRange colon plain) (sym empty) (no_value (words_blank text false plain (no_range (words_after text false plain) e)))

-- ---- what the grammar declares, is read

kept_by : (name : List ℕ) (ws : List Word) → (ws ≡ [] → is_custom name ≡ true) → (is_over ws && not (is_custom name)) ≡ false
kept_by name [] some = ap not (some refl)
kept_by name (w ∷ ws) some = refl

ident_solid : (t : Token) → t.kind ≡ tokens.Ident → is_blank_piece t ≡ false
ident_solid t e = ap is_blank_kind e

abbrev some_property : Property → Option Property
some_property p = Some p

pub declaration_reads : (text : List ℕ) (ts : List Token) (p : Property) → IsDeclaration text ts p → declaration_of text ts ≡ Some p
unfolding declaration_of
declaration_reads text ts p d =
    let a = stands_among text false d.gap d.colon d.value (character_solid text 58 d.colon d.is_colon) in
    let name = word_of text false d.name in
    let colon = word_of text a.after d.colon in
    let value = words_after text false d.value in
    let words : words_after text false ts ≡ name ∷ colon ∷ value =
    ap (words_after text false) d.is ∙ solid_first text false d.name (d.gap ++ d.colon ∷ d.value) (ident_solid d.name d.is_name)
    ∙ ap (λ (ws : List Word). name ∷ ws) (a.is ∙ ap (λ (ws : List Word). ws ++ colon ∷ value) (blank_words text false d.gap d.gap_blank)) in
    let i = importance_is text d.value p.important d.plain d.importance in
    let plain = words_after text false d.plain in
    let kept = kept_by p.name plain (λ none. d.some (words_blank text false d.plain none)) in
    let of : List ℕ → Bool → List Word → Option Property = λ n important ws. unless_empty ws (property n colon important ws p.whole) in
    ap (λ (b : Bool). cond b None (declared_in text (words_after text false ts))) (none_bad ts d.no_bad d.matched)
    ∙ ap (λ (o : Option Range). o >>= λ whole. declared_by text (words_after text false ts) whole)
    (words_cover text false ts p.whole d.whole)
    ∙ ap (λ (ws : List Word). declared_by text ws p.whole) words
    ∙ ap (λ (b : Bool). cond b (of (name_by (word_value text name)) (is_important text value)
    (plain_value (is_important text value) value)) None) (mark_of text 58 d.colon d.is_colon)
    ∙ ap (λ (b : Bool). of (name_by (word_value text name)) b (plain_value b value)) i.flag
    ∙ (λ j. of (sym d.named j) p.important (i.rest j))
    ∙ ap (λ (b : Bool). cond b None (some_property (property p.name colon p.important plain p.whole))) kept
    ∙ ap (λ (r : Range). some_property (record { name = p.name; value = r; important = p.important; whole = p.whole }))
    (value_spans text d.plain d.colon colon p.value refl d.spans)

-- ---- what is read, the grammar declares

custom_by : (name : List ℕ) (ws : List Word) → (is_over ws && not (is_custom name)) ≡ false → ws ≡ [] → is_custom name ≡ true
custom_by name ws kept none = by (is_custom name) (sym (ap (λ (vs : List Word). is_over vs && not (is_custom name)) none) ∙ kept)
  where
    by : (b : Bool) → not b ≡ false → b ≡ true
    by true e = refl
    by false e = absurd (cc)

-- what the words behind the ident make of it
declared_from : (text : List ℕ) (t : Token) (ts : List Token) (p : Property) (whole : Range) (vs : List Word) → t.kind ≡ tokens.Ident
    → holds_bad (t ∷ ts) ≡ false → Covers (t ∷ ts) whole → words_after text false ts ≡ vs
    → declared_by text (word_of text false t ∷ vs) whole ≡ Some p → IsDeclaration text (t ∷ ts) p
declared_from text t ts p whole [] ident bad covers words e = absurd (none_some p e)
declared_from text t ts p whole (colon ∷ value) ident bad covers words e =
    let name = name_by (word_value text (word_of text false t)) in
    let c = word_stands text false ts [] colon value words in
    let a = passed_test (is_mark 58 colon.kind)
    (unless_empty (plain_value (is_important text value) value)
    (property name colon (is_important text value) (plain_value (is_important text value) value) whole)) p e in
    let i = importance_found text c.behind (is_important text value) (ap (is_important text) c.rest) in
    let plain_is : plain_value (is_important text value) value
    ≡ words_after text false i.plain = ap (plain_value (is_important text value)) (sym c.rest) ∙ i.rest in
    let b = failed_test (is_over (plain_value (is_important text value) value) && not (is_custom name))
    (some_property (property name colon (is_important text value) (plain_value (is_important text value) value) whole)) p a.1 in
    let same = some_is {A = Property}
    (property name colon (is_important text value) (plain_value (is_important text value) value) whole) p b.1 in
    let both = or_none (list_any (λ u. is_bad_kind u.kind) (t ∷ ts)) (is_stray_nesting (nesting (t ∷ ts))) bad in
    let span = spans_value text i.plain c.t colon (ap (λ (w : Word). w.end) c.word) in
    let d : IsDeclaration text (t ∷ ts)
    (property name colon (is_important text value) (plain_value (is_important text value) value) whole) = record {
      name = t;
      gap = c.before;
      colon = c.t;
      value = c.behind;
      plain = i.plain;
      is = ap (λ (xs : List Token). t ∷ xs) c.is;
      is_name = ident;
      named = refl;
      gap_blank = words_blank text c.first c.before c.front;
      is_colon = character_of text 58 c.after c.t colon c.word a.0;
      importance = i.has;
      spans = subst (λ (ws : List Word). IsValueRange c.t i.plain (value_range colon (range_of ws))) (sym plain_is) span;
      some = λ blank. custom_by name (plain_value (is_important text value) value) b.0 (plain_is ∙ blank_words text false i.plain blank);
      whole = covers;
      no_bad = none_of (λ u. is_bad_kind u.kind) (t ∷ ts) both.0;
      matched = counted_matched (t ∷ ts) both.1;
    } in
    subst (IsDeclaration text (t ∷ ts)) same d

pub declaration_spelled : (text : List ℕ) (t : Token) (ts : List Token) (p : Property) → t.kind ≡ tokens.Ident
    → declaration_of text (t ∷ ts) ≡ Some p → IsDeclaration text (t ∷ ts) p
unfolding declaration_of
declaration_spelled text t ts p ident e =
    let words = solid_first text false t ts (ident_solid t ident) in
    let a = failed_test (holds_bad (t ∷ ts)) (declared_in text (words_after text false (t ∷ ts))) p e in
    let b = bind_some (range_of (words_after text false (t ∷ ts)))
    (λ whole. declared_by text (words_after text false (t ∷ ts)) whole) p a.1 in
    declared_from text t ts p b.0 (words_after text false ts) ident a.0 (covers_words text false (t ∷ ts) b.0 b.1) refl
    (ap (λ (ws : List Word). declared_by text ws b.0) (sym words) ∙ b.2)

-- ---- empty values

blank_until : (before behind : List Token) (t : Token) → AreBlank (before ++ t ∷ behind) → is_blank_piece t ≡ true
blank_until [] behind t all = all.0
blank_until (u ∷ before) behind t all = blank_until before behind t all.1

none_covered : (ts : List Token) (r : Range) → AreBlank ts → Covers ts r → ⊥
none_covered ts r all c =
    let f = c.is_first in
    let blank = blank_until f.before f.behind c.first (subst AreBlank f.is all) in
    let clash : true ≡ false = sym blank ∙ f.solid in
    absurd (cc)

empty_range : (colon : Token) (plain : List Token) (r : Range) → AreBlank plain → IsValueRange colon plain r → r ≡ range colon.end colon.end
empty_range colon plain r all (some_value c) = absurd (none_covered plain r all c)
empty_range colon plain _ all (no_value blank) = refl

pub value_empty : (text : List ℕ) (ts : List Token) (p : Property) (d : IsDeclaration text ts p) → AreBlank d.plain
    → (is_custom p.name ≡ true) × (p.value ≡ range d.colon.end d.colon.end)
value_empty text ts p d all = (d.some all, empty_range d.colon d.plain p.value all d.spans)
