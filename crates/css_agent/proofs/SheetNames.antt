-- What a sheet and a style attribute say: the names in them are UTF-8, and a rule has no more selectors than its sheet has bytes.
use Rattle.std.proofs.Common.{◌≡◌, ℕ, suc, ◌+◌, ◌≤◌, Bool, true, false, cond, not, ◌&&◌, List, [], ◌∷◌, ◌++◌, length, map, Option, Some}
use Rattle.std.proofs.Common.{None, refl, sym, ap, ◌∙◌, subst, length-append, arith}
use Rattle.std.specs.List.{AllByRecursion}
use Rattle.std.specs.Option.{option_to_list}
use Rattle.std.specs.Char.{to_ascii_lowercase}
use Rattle.std.specs.Str.{IsUtf8}
use Rattle.std_alloc.proofs.string.Cased.{lowered}
use Rattle.css_tokens.specs.declared.token.Range.{Range}
use Rattle.css_tokens.specs.declared.token.Token.{Token}
use Rattle.css_tokens.specs.Pieces.{pieces, IsCutAt}
use Rattle.selectors.specs.declared.words.Word.{Word}
use Rattle.selectors.specs.Words.{word_reading, passed_over, word_of, words_by, words_after, is_mark}
use Rattle.selectors.specs.Forms.{SelectorForm, ◌>>=◌}
use Rattle.selectors.specs.Reading.{word_value, range_of, segments, put_first, selector_of, selectors_in, selector_before, selector_list_of}
use Rattle.selectors.specs.Reading.{is_over}
use Rattle.selectors.specs.Ranges.{AreTiles}
use Rattle.selectors.proofs.Choices.{none_some, some_is, passed_test, failed_test, bind_some}
use Rattle.selectors.proofs.RangeForms.{tiles_whole}
use Rattle.sheet_reader.specs.declared.sheet.Property.{Property}
use Rattle.sheet_reader.specs.Forms.{range, RuleForm}
use Rattle.sheet_reader.specs.Parts.{PartForm, passed as passed_part, at_rule, qualified, text_end, semicolon, block, part_pieces, parts}
use Rattle.sheet_reader.specs.Declarations as body
use Rattle.sheet_reader.specs.Declarations.{ItemForm, items_after, item_pieces, is_custom, is_important, plain_value, name_by, property}
use Rattle.sheet_reader.specs.Declarations.{unless_empty, declared_by, declared_in, declaration_of, holds_bad, item_property, properties_in}
use Rattle.sheet_reader.specs.Declarations.{declarations, style_of}
use Rattle.sheet_reader.specs.Sheets.{body_end, style_rule, rule_of, rules_in, sheet_of}
use Rattle.sheet_reader.specs.Layout.{MediaForm, media_in, level_of, Laid, laid_out, AreLaid, none_laid, part_laid, media_laid}
use Rattle.sheet_reader.specs.Grammar.{AreParts, AreItems}
use Rattle.sheet_reader.proofs.ItemForms.{items_spelled}
use Rattle.sheet_reader.proofs.GrammarForms.{parts_spelled}
use Rattle.sheet_reader.proofs.LayoutForms.{laid_spelled}
use Rattle.sheet_reader.proofs.UsableForms.{MediaIs, media_is, rules_append, no_rule}
use Rattle.css_agent.proofs.SelectorNames.{all-left, all-right, all-append, AreCutOut, value-utf8, SelectorNamed, list-named}

-- ---- pieces

-- the text can be cut at each of them
abbrev pub AreCutAt : List ℕ → List Token → Type 0
AreCutAt text ts = AllByRecursion (IsCutAt text) ts

tiles-cut : (text : List ℕ) (from to : ℕ) (ts : List Token) → AreTiles text from to ts → AreCutAt text ts
tiles-cut text from to [] all = tt
tiles-cut text from to (t ∷ ts) all = (all.1, tiles-cut text t.end to ts all.2)

tiles-few : (text : List ℕ) (from to : ℕ) (ts : List Token) → AreTiles text from to ts → from + length ts ≤ to
tiles-few text from to [] all = omega (arith, all)
tiles-few text from to (t ∷ ts) all = let more = tiles-few text t.end to ts all.2 in omega (arith, all.0, all.1.0, more)

pieces-cut : (text : List ℕ) → IsUtf8 text → AreCutAt text (pieces text)
pieces-cut text utf8 = tiles-cut text 0 (length text) (pieces text) (tiles_whole text utf8)

pieces-few : (text : List ℕ) → IsUtf8 text → length (pieces text) ≤ length text
pieces-few text utf8 = let few = tiles-few text 0 (length text) (pieces text) (tiles_whole text utf8) in omega (arith, few)

words-cut : (text : List ℕ) (spaced : Bool) (ts : List Token) → AreCutAt text ts → AreCutOut text (words_after text spaced ts)
unfolding words_after
words-cut text spaced [] cut = tt
words-cut text spaced (t ∷ ts) cut = at (passed_over t.kind spaced) (λ s. words-cut text s ts cut.1) where
  at : (o : Option Bool) → ((s : Bool) → AreCutOut text (words_after text s ts))
      → AreCutOut text (words_by o (word_of text spaced t) (λ s. words_after text s ts))
  at None more = (record { order = omega (arith, cut.0.0); front = cut.0.1; back = cut.0.2 }, more false)
  at (Some s) more = more s

words-few : (text : List ℕ) (spaced : Bool) (ts : List Token) → length (words_after text spaced ts) ≤ length ts
unfolding words_after
words-few text spaced [] = omega arith
words-few text spaced (t ∷ ts) = at (passed_over t.kind spaced) (λ s. words-few text s ts) where
  at : (o : Option Bool) → ((s : Bool) → length (words_after text s ts) ≤ length ts)
      → length (words_by o (word_of text spaced t) (λ s. words_after text s ts)) ≤ length (t ∷ ts)
  at None more = let few = more false in omega (arith, few)
  at (Some s) more = let few = more s in omega (arith, few)

-- ---- how many selectors

put-few : (w : Word) (segs : List (List Word)) → 1 ≤ length segs → length (put_first w segs) ≡ length segs
put-few w [] some = absurd (omega (arith, some))
put-few w (s ∷ ss) some = refl

segments-few : (ws : List Word) → (1 ≤ length (segments ws)) × (length (segments ws) ≤ length ws + 1)
unfolding segments
segments-few [] = (omega arith, omega arith)
segments-few (w ∷ ws) = at (is_mark 44 w.kind) (segments-few ws) where
  at : (b : Bool) → (1 ≤ length (segments ws)) × (length (segments ws) ≤ length ws + 1)
      → (1 ≤ length (cond b ([] ∷ segments ws) (put_first w (segments ws))))
      × (length (cond b ([] ∷ segments ws) (put_first w (segments ws))) ≤ length (w ∷ ws) + 1)
  at true few = (omega arith, omega (arith, few.1))
  at false few = let same = put-few w (segments ws) few.0 in (omega (arith, same, few.0), omega (arith, same, few.1))

selectors-few : (text : List ℕ) (segs : List (List Word)) (ss : List SelectorForm) → selectors_in text segs ≡ Some ss
    → length ss ≡ length segs
unfolding selectors_in
selectors-few text [] ss e = ap (λ (xs : List SelectorForm). length xs) (sym (some_is {A = List SelectorForm} [] ss e))
selectors-few text (own ∷ others) ss e =
    let a = bind_some (selector_of (word_reading text own)) (λ s. selector_before s (selectors_in text others)) ss e in
    at a.0 (selectors_in text others) a.2 (λ tail h. selectors-few text others tail h)
  where
    at : (s : SelectorForm) (o : Option (List SelectorForm)) → selector_before s o ≡ Some ss
        → ((tail : List SelectorForm) → o ≡ Some tail → length tail ≡ length others) → length ss ≡ suc (length others)
    at s None e more = absurd (none_some ss e)
    at s (Some tail) e more = ap (λ (xs : List SelectorForm). length xs) (sym (some_is {A = List SelectorForm} (s ∷ tail) ss e)) ∙ ap
        (λ n. suc n) (more tail refl)

list-few : (text : List ℕ) (ws : List Word) (ss : List SelectorForm) → selector_list_of (word_reading text ws) ≡ Some ss
    → length ss ≤ length ws + 1
list-few text ws ss e = let same = selectors-few text (segments ws) ss e in let few = segments-few ws in omega (arith, same, few.1)

-- ---- declarations

-- a declaration's name is UTF-8
abbrev pub PropertyNamed : Property → Type 0
PropertyNamed p = IsUtf8 p.name

name-utf8 : (value : List ℕ) → IsUtf8 value → IsUtf8 (name_by value)
name-utf8 value utf8 = at (is_custom value) where
  at : (b : Bool) → IsUtf8 (cond b value (map to_ascii_lowercase value))
  at true = utf8
  at false = lowered value utf8

words-named : (text : List ℕ) (ws : List Word) (whole : Range) (p : Property) → IsUtf8 text → AreCutOut text ws
    → declared_by text ws whole ≡ Some p → PropertyNamed p
words-named text [] whole p utf8 cut e = absurd (none_some p e)
words-named text (name ∷ []) whole p utf8 cut e = absurd (none_some p e)
words-named text (name ∷ colon ∷ value) whole p utf8 cut e =
    let important = is_important text value in
    let plain = plain_value important value in
    let own = name_by (word_value text name) in
    let a = passed_test (is_mark 58 colon.kind) (unless_empty plain (property own colon important plain whole)) p e in
    let b = failed_test (is_over plain && not (is_custom own)) (Some (property own colon important plain whole)) p a.1 in
    let same = some_is {A = Property} (property own colon important plain whole) p b.1 in
    subst PropertyNamed same (name-utf8 (word_value text name) (value-utf8 text name utf8 cut.0))

declaration-named : (text : List ℕ) (ts : List Token) (p : Property) → IsUtf8 text → AreCutAt text ts → declaration_of text ts ≡ Some p
    → PropertyNamed p
unfolding declaration_of
declaration-named text ts p utf8 cut e =
    let a = failed_test (holds_bad ts) (declared_in text (words_after text false ts)) p e in
    let b = bind_some (range_of (words_after text false ts)) (λ whole. declared_by text (words_after text false ts) whole) p a.1 in
    words-named text (words_after text false ts) b.0 p utf8 (words-cut text false ts cut) b.2

one-named : (text : List ℕ) (o : Option Property) (ps : List Property) → ((p : Property) → o ≡ Some p → PropertyNamed p)
    → AllByRecursion PropertyNamed ps → AllByRecursion PropertyNamed (option_to_list o ++ ps)
one-named text None ps own all = all
one-named text (Some p) ps own all = (own p refl, all)

item-named : (text : List ℕ) (item : ItemForm) (p : Property) → IsUtf8 text → AreCutAt text (item_pieces item)
    → item_property text item ≡ Some p → PropertyNamed p
item-named text (body.candidate ts) p utf8 cut e = declaration-named text ts p utf8 cut e
item-named text (body.passed t) p utf8 cut e = absurd (none_some p e)
item-named text (body.at_rule x) p utf8 cut e = absurd (none_some p e)
item-named text (body.other ts) p utf8 cut e = absurd (none_some p e)

items-named : (text : List ℕ) (items : List ItemForm) (ts : List Token) → IsUtf8 text → AreCutAt text ts → AreItems items ts
    → AllByRecursion PropertyNamed (properties_in text items)
unfolding properties_in
items-named text [] ts utf8 cut is = tt
items-named text (item ∷ items) ts utf8 cut is =
    let all = subst (AreCutAt text) is.1 cut in
    one-named text (item_property text item) (properties_in text items)
    (λ p e. item-named text item p utf8 (all-left (IsCutAt text) (item_pieces item) is.0 all) e)
    (items-named text items is.0 utf8 (all-right (IsCutAt text) (item_pieces item) is.0 all) is.3)

declarations-named : (text : List ℕ) (ts : List Token) → IsUtf8 text → AreCutAt text ts
    → AllByRecursion PropertyNamed (declarations text ts)
declarations-named text ts utf8 cut = items-named text (items_after 0 ts) ts utf8 cut (items_spelled ts)

-- the declarations of a `style` attribute
pub style-named : (text : List ℕ) → IsUtf8 text → AllByRecursion PropertyNamed (style_of text)
style-named text utf8 = declarations-named text (pieces text) utf8 (pieces-cut text utf8)

-- ---- rules

-- a rule's names are UTF-8, and its selectors are few
pub record RuleNamed (most : ℕ) (r : RuleForm) : Type 0 where
  pub selectors : AllByRecursion SelectorNamed r.selectors
  pub properties : AllByRecursion PropertyNamed r.properties
  pub few : length r.selectors ≤ most + 1

styled-named : (text : List ℕ) (around : Option ℕ) (prelude inside : List Token) (own : Range) (r : RuleForm) → IsUtf8 text
    → AreCutAt text prelude
    → AreCutAt text inside
    → style_rule text around (words_after text false prelude) own inside ≡ Some r → RuleNamed (length prelude) r
styled-named text around prelude inside own r utf8 front within e =
    let ws = words_after text false prelude in
    let of : Range → List SelectorForm
    → RuleForm = λ a ss. record { prelude = a; selectors = ss; body = own; properties = declarations text inside; media = around } in
    let a = bind_some (range_of ws) (λ a. selector_list_of (word_reading text ws) >>= λ ss. Some (of a ss)) r e in
    let b = bind_some (selector_list_of (word_reading text ws)) (λ ss. Some (of a.0 ss)) r a.2 in
    let same = some_is {A = RuleForm} (of a.0 b.0) r b.2 in
    let few = list-few text ws b.0 b.1 in
    let short = words-few text false prelude in
    let is : RuleNamed (length prelude) (of a.0 b.0) = record {
      selectors = list-named text ws b.0 utf8 (words-cut text false prelude front) b.1;
      properties = declarations-named text inside utf8 within;
      few = omega (arith, few, short);
    } in
    subst (RuleNamed (length prelude)) same is

more-named : (few most : ℕ) (r : RuleForm) → few ≤ most → RuleNamed few r → RuleNamed most r
more-named few most r less is = record { selectors = is.selectors; properties = is.properties; few = omega (arith, less, is.few) }

part-named : (text : List ℕ) (around : Option ℕ) (p : PartForm) (r : RuleForm) → IsUtf8 text → AreCutAt text (part_pieces p)
    → rule_of text around p ≡ Some r → RuleNamed (length (part_pieces p)) r
unfolding rule_of
part-named text around (passed_part t) r utf8 cut e = absurd (none_some r e)
part-named text around (at_rule keyword prelude ending) r utf8 cut e = absurd (none_some r e)
part-named text around (qualified prelude text_end) r utf8 cut e = absurd (none_some r e)
part-named text around (qualified prelude (semicolon t)) r utf8 cut e = absurd (none_some r e)
part-named text around (qualified prelude (block first inside close)) r utf8 cut e =
    let back = all-right (IsCutAt text) prelude (first ∷ (inside ++ option_to_list close)) cut in
    let count = length-append prelude (first ∷ (inside ++ option_to_list close)) in
    more-named (length prelude) (length (prelude ++ first ∷ (inside ++ option_to_list close))) r (omega (arith, count))
    (styled-named text around prelude inside (range first.end (body_end text close)) r utf8
    (all-left (IsCutAt text) prelude (first ∷ (inside ++ option_to_list close)) cut)
    (all-left (IsCutAt text) inside (option_to_list close) back.1) e)

one-rule : (most : ℕ) (o : Option RuleForm) (rs : List RuleForm) → ((r : RuleForm) → o ≡ Some r → RuleNamed most r)
    → AllByRecursion (RuleNamed most) rs → AllByRecursion (RuleNamed most) (option_to_list o ++ rs)
one-rule most None rs own all = all
one-rule most (Some r) rs own all = (own r refl, all)

-- the pieces in the block of a media rule are some of the rule's own
inside-cut : (text : List ℕ) (p : PartForm) (m : MediaForm) → MediaIs p m → AreCutAt text (part_pieces p) → AreCutAt text m.inside
inside-cut text p m form cut =
    let whole = subst (λ (x : PartForm). AreCutAt text (part_pieces x)) form.is cut in
    let behind = all-right (IsCutAt text) m.prelude (form.first ∷ (m.inside ++ option_to_list form.close)) whole.1 in
    all-left (IsCutAt text) m.inside (option_to_list form.close) behind.1

inside-few : (p : PartForm) (m : MediaForm) → MediaIs p m → length m.inside ≤ length (part_pieces p)
inside-few p m form =
    let whole = ap (λ (x : PartForm). length (part_pieces x)) form.is in
    let behind = length-append m.prelude (form.first ∷ (m.inside ++ option_to_list form.close)) in
    let inside = length-append m.inside (option_to_list form.close) in
    omega (arith, whole, behind, inside)

laid-named : (text : List ℕ) (most : ℕ) (around : Option ℕ) (k : ℕ) (ps : List PartForm) (ls : List Laid) → AreLaid text around k ps ls
    → IsUtf8 text → (outside : Option ℕ) (ts : List Token) → length ts ≤ most → AreCutAt text ts → AreParts (level_of outside) ps ts
    → AllByRecursion (RuleNamed most) (rules_in text ls)
unfolding rules_in
laid-named text most around k _ _ none_laid utf8 outside ts few cut is = tt
laid-named text most around k _ _ (part_laid p ps ls e others) utf8 outside ts few cut is =
    let all = subst (AreCutAt text) is.1 cut in
    let count : length ts ≡ length (part_pieces p)
    + length is.0 = ap (λ (xs : List Token). length xs) is.1 ∙ length-append (part_pieces p) is.0 in
    one-rule most (rule_of text around p) (rules_in text ls)
    (λ r f. more-named (length (part_pieces p)) most r (omega (arith, count, few))
    (part-named text around p r utf8 (all-left (IsCutAt text) (part_pieces p) is.0 all) f))
    (laid-named text most around k ps ls others utf8 outside is.0 (omega (arith, count, few))
    (all-right (IsCutAt text) (part_pieces p) is.0 all) is.3)
laid-named text most around k _ _ (media_laid p m inner ps within ls e is_inner own others) utf8 outside ts few cut is =
    let form = media_is text p m e in
    let all = subst (AreCutAt text) is.1 cut in
    let count : length ts ≡ length (part_pieces p)
    + length is.0 = ap (λ (xs : List Token). length xs) is.1 ∙ length-append (part_pieces p) is.0 in
    let less = inside-few p m form in
    subst (AllByRecursion (RuleNamed most)) (sym (no_rule text around p m (within ++ ls) form ∙ rules_append text within ls))
    (all-append (RuleNamed most) (rules_in text within) (rules_in text ls)
    (laid-named text most (Some k) (suc k) inner within own utf8 (Some k) m.inside (omega (arith, less, count, few))
    (inside-cut text p m form (all-left (IsCutAt text) (part_pieces p) is.0 all)) is_inner)
    (laid-named text most around (suc k + length (media_in text within)) ps ls others utf8 outside is.0 (omega (arith, count, few))
    (all-right (IsCutAt text) (part_pieces p) is.0 all) is.3))

-- the rules of a sheet
pub rules-named : (text : List ℕ) → IsUtf8 text → AllByRecursion (RuleNamed (length text)) (sheet_of text).rules
rules-named text utf8 = laid-named text (length text) None 0 (parts (level_of None) (pieces text)) (laid_out text None 0 (pieces text))
    (laid_spelled text None 0 (pieces text)) utf8 None (pieces text) (pieces-few text utf8) (pieces-cut text utf8)
    (parts_spelled (level_of None) (pieces text))
