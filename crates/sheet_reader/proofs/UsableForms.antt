-- The parts of a sheet that are read stand where they can be cut out.
use Rattle.std.proofs.Common.{◌≡◌, ℕ, zero, suc, ◌-◌, ◌<◌, ◌≤◌, ◌&&◌, not, Bool, true, false, List, [], ◌∷◌, ◌++◌, length, take, map, All}
use Rattle.std.proofs.Common.{Option, Some, None, cond, ◌+◌, ◌⊎◌, inl, inr, refl, sym, ap, subst, ◌∙◌, append_assoc, arith}
use Rattle.std.proofs.lemmas.List.{map-append}
use Rattle.std.specs.Prelude.{option_to_list}
use Rattle.std.specs.Str.{IsUtf8, IsCharBoundary}
use Rattle.std.proofs.lemmas.List.Elements.{All-nil, All-cons, All-append}
use Rattle.std.proofs.lemmas.Str.{IsCharBoundary-start}
use Rattle.css_tokens.specs.declared.token.Range.{Range}
use Rattle.css_tokens.specs.declared.token.Token.{Token}
use Rattle.css_tokens.specs.declared.token.TokenKind.{TokenKind}
use Rattle.css_tokens.specs.declared.token.TokenKind.TheVariants as tokens
use Rattle.css_tokens.specs.Pieces.{pieces}
use Rattle.selectors.specs.declared.words.Word.{Word}
use Rattle.selectors.specs.Words.{word_reading, words_after, is_mark}
use Rattle.selectors.specs.Forms.{SelectorForm, ◌>>=◌}
use Rattle.selectors.specs.Reading.{word_value, range_of, selector_list_of, is_over}
use Rattle.selectors.specs.Ranges.{IsRangeOf, AreBetween, AreTiles}
use Rattle.selectors.proofs.Choices.{none_some, some_is, bind_some, passed_test, failed_test}
use Rattle.selectors.proofs.RangeForms.{tiles_whole, tiles_order, tiles_cut, tiles_edge, between_order, between_from, between_append}
use Rattle.selectors.proofs.RangeForms.{range_at, AreWords}
use Rattle.selectors.proofs.RangeForms.{words_between, Spans, range_spans, list_between}
use Rattle.sheet_reader.specs.declared.sheet.Property.{Property}
use Rattle.sheet_reader.specs.Forms.{range, RuleForm}
use Rattle.sheet_reader.specs.Parts.{EndingForm, text_end, semicolon, block, PartForm, passed, at_rule, qualified, ending_pieces}
use Rattle.sheet_reader.specs.declared.parts.Level.{Level}
use Rattle.sheet_reader.specs.declared.parts.Level.TheVariants.{Top, Inner}
use Rattle.sheet_reader.specs.declared.sheet.MediaRule.{MediaRule}
use Rattle.sheet_reader.specs.Parts.{part_pieces, parts}
use Rattle.sheet_reader.specs.Declarations.{ItemForm, item_pieces, item_property, items_after, is_custom, is_important, plain_value}
use Rattle.sheet_reader.specs.Declarations.{name_by, value_range, property, unless_empty, declared_by, declared_in, declaration_of}
use Rattle.sheet_reader.specs.Declarations.{holds_bad, properties_in, declarations, style_of}
use Rattle.sheet_reader.specs.Declarations as body
use Rattle.sheet_reader.specs.Sheets.{body_end, style_rule, rule_by, rule_of, is_closed_comment, passed_place, ending_place, place_of}
use Rattle.sheet_reader.specs.Sheets.{rules_in, places_in, sheet_of}
use Rattle.sheet_reader.specs.Grammar.{IsEnding, at_text_end, at_semicolon, in_block, in_open_block, BeginsQualified, IsPart, passed_part}
use Rattle.sheet_reader.specs.Grammar.{at_rule_part, qualified_part, AreParts, AreItems, IsShutEnding, IsShut, AreShut}
use Rattle.sheet_reader.specs.Layout.{MediaForm, names_media, media_by, media_form, prelude_range, media_rule, media_in, Laid, laid}
use Rattle.sheet_reader.specs.Layout.{laid_out, AreLaid}
use Rattle.sheet_reader.specs.Layout.{none_laid, part_laid, media_laid}
use Rattle.sheet_reader.specs.Usable.{IsPropertyOf, wholes_of, IsRuleOf, rule_range, AreEdgesBehind, IsSheetOf, AreDeclarationsOf}
use Rattle.sheet_reader.proofs.GrammarForms.{parts_spelled, parts_only}
use Rattle.sheet_reader.proofs.LayoutForms.{laid_spelled}
use Rattle.sheet_reader.proofs.FrameForms.{media_append, media_cons}
use Rattle.sheet_reader.proofs.OpenForms.{inside_shut}
use Rattle.sheet_reader.proofs.ItemForms.{items_spelled}

-- ---- declarations

words_take : (text : List ℕ) (from to n : ℕ) (ws : List Word) → AreWords text from to ws → AreWords text from to (take n ws)
words_take text from to zero ws all = between_order text from to (map range_at ws) all
words_take text from to (suc n) [] e = e
words_take text from to (suc n) (w ∷ ws) all = (all.0, all.1, words_take text w.end to n ws all.2)

words_plain : (text : List ℕ) (from to : ℕ) (important : Bool) (ws : List Word) → AreWords text from to ws
    → AreWords text from to (plain_value important ws)
words_plain text from to true ws all = words_take text from to (length ws - 2) ws all
words_plain text from to false ws all = all

-- a declaration between two places
record Declared (text : List ℕ) (from to : ℕ) (p : Property) : Type 0 where
  starts : from ≤ p.whole.start
  is : IsPropertyOf text p
  ends : p.whole.end ≤ to

-- a value behind its colon
record Valued (text : List ℕ) (from to : ℕ) (r : Range) : Type 0 where
  starts : from ≤ r.start
  is : IsRangeOf text r
  ends : r.end ≤ to

valued : (text : List ℕ) (to : ℕ) (colon : Word) (value : List Word) → IsCharBoundary text colon.end → AreWords text colon.end to value
    → Valued text colon.end to (value_range colon (range_of value))
valued text to colon value edge all = by (range_of value) refl
  where
    by : (o : Option Range) → range_of value ≡ o → Valued text colon.end to (value_range colon o)
    by None e =
        let order = between_order text colon.end to (map range_at value) all in
        record { starts = omega arith; is = record { order = omega arith; front = edge; back = edge }; ends = order }
    by (Some r) e = let s = range_spans text colon.end to value r e all in record { starts = s.starts; is = s.is; ends = s.ends }

declared_words : (text : List ℕ) (from to : ℕ) (ws : List Word) (whole : Range) (p : Property) → declared_by text ws whole ≡ Some p
    → Spans text from to ws whole → Declared text from to p
declared_words text from to [] whole p e s = absurd (none_some p e)
declared_words text from to (name ∷ []) whole p e s = absurd (none_some p e)
declared_words text from to (name ∷ colon ∷ value) whole p e s =
    let important = is_important text value in
    let plain = plain_value important value in
    let spelled = name_by (word_value text name) in
    let a = passed_test (is_mark 58 colon.kind) (unless_empty plain (property spelled colon important plain whole)) p e in
    let b = failed_test (is_over plain && not (is_custom spelled)) (Some (property spelled colon important plain whole)) p a.1 in
    let same = some_is {A = Property} (property spelled colon important plain whole) p b.1 in
    let w = s.words in
    let v = valued text whole.end colon plain w.2.1.back (words_plain text colon.end whole.end important value w.2.2) in
    let is : IsPropertyOf text (property spelled colon important plain whole) =
    record { whole = s.is; value = v.is; starts = omega (arith, w.0, w.1.order, w.2.0, w.2.1.order, v.starts); ends = v.ends } in
    let own : Declared text from to (property spelled colon important plain whole) = record { starts = s.starts; is = is; ends = s.ends } in
    subst (Declared text from to) same own

declared : (text : List ℕ) (from to : ℕ) (ts : List Token) (p : Property) → declaration_of text ts ≡ Some p → AreTiles text from to ts
    → Declared text from to p
unfolding declaration_of
declared text from to ts p e all =
    let ws = words_after text false ts in
    let a = failed_test (holds_bad ts) (declared_in text ws) p e in
    let b = bind_some (range_of ws) (λ whole. declared_by text ws whole) p a.1 in
    declared_words text from to ws b.0 p b.2 (range_spans text from to ws b.0 b.1 (words_between text false from to ts all))

one_declared : (text : List ℕ) (from seam to : ℕ) (item : ItemForm) (ps : List Property) → AreTiles text from seam (item_pieces item)
    → AreDeclarationsOf text seam to ps → AreDeclarationsOf text from to (option_to_list (item_property text item) ++ ps)
one_declared text from seam to
    (body.passed t) ps all more = record {
      wholes = between_from text seam from to (wholes_of ps)
          (tiles_order text from seam (t ∷ []) all) more.wholes;
      each = more.each;
    }
one_declared text from seam to
    (body.at_rule p) ps all more = record {
      wholes = between_from text seam from to (wholes_of ps)
          (tiles_order text from seam (part_pieces p) all) more.wholes;
      each = more.each;
    }
one_declared text from seam to
    (body.other ts) ps all more = record {
      wholes = between_from text seam from to (wholes_of ps)
          (tiles_order text from seam ts all) more.wholes;
      each = more.each;
    }
one_declared text from seam to (body.candidate ts) ps all more = by (declaration_of text ts) refl
  where
    by : (o : Option Property) → declaration_of text ts ≡ o → AreDeclarationsOf text from to (option_to_list o ++ ps)
    by None e = record {
      wholes = between_from text seam from to (wholes_of ps) (tiles_order text from seam ts all) more.wholes;
      each = more.each;
    }
    by (Some p) e =
        let d = declared text from seam ts p e all in
        record {
          wholes = (d.starts, d.is.whole, between_from text seam p.whole.end to (wholes_of ps) d.ends more.wholes);
          each = All-cons (IsPropertyOf text) p ps d.is more.each;
        }

items_declared : (text : List ℕ) (from to : ℕ) (items : List ItemForm) (ts : List Token) → AreItems items ts → AreTiles text from to ts
    → AreDeclarationsOf text from to (properties_in text items)
unfolding properties_in
items_declared text from to [] ts e all = record { wholes = tiles_order text from to ts all; each = All-nil (IsPropertyOf text) }
items_declared text from to (item ∷ items) ts is all =
    let cut = tiles_cut text from to (item_pieces item) is.0 (subst (AreTiles text from to) is.1 all) in
    one_declared text from cut.seam to item (properties_in text items) cut.left (items_declared text cut.seam to items is.0 is.3 cut.right)

declarations_usable : (text : List ℕ) (from to : ℕ) (ts : List Token) → AreTiles text from to ts
    → AreDeclarationsOf text from to (declarations text ts)
declarations_usable text from to ts all = items_declared text from to (items_after 0 ts) ts (items_spelled ts) all

pub style_usable : (text : List ℕ) → IsUtf8 text → AreDeclarationsOf text 0 (length text) (style_of text)
style_usable text utf8 = declarations_usable text 0 (length text) (pieces text) (tiles_whole text utf8)

-- ---- rules

-- a rule between two places
record RuleIn (text : List ℕ) (from to : ℕ) (r : RuleForm) : Type 0 where
  starts : from ≤ r.prelude.start
  is : IsRuleOf text r
  ends : r.body.end ≤ to

styled : (text : List ℕ) (around : Option ℕ) (from seam start end : ℕ) (words : List Word) (inside : List Token) (r : RuleForm)
    → AreWords text from seam words → seam ≤ start → IsRangeOf text (range start end)
    → AreDeclarationsOf text start end (declarations text inside)
    → style_rule text around words (range start end) inside ≡ Some r → RuleIn text from end r
styled text around from seam start end words inside r all behind own declared e =
    let of : Range → List SelectorForm
    → RuleForm = λ prelude selectors. record {
      prelude = prelude;
      selectors = selectors;
      body = range start end;
      properties = declarations text inside;
      media = around;
    } in
    let a = bind_some (range_of words)
    (λ prelude. selector_list_of (word_reading text words) >>= λ selectors. Some (of prelude selectors)) r e in
    let b = bind_some (selector_list_of (word_reading text words)) (λ selectors. Some (of a.0 selectors)) r a.2 in
    let same = some_is {A = RuleForm} (of a.0 b.0) r b.2 in
    let s = range_spans text from seam words a.0 a.1 all in
    let is : IsRuleOf text (of a.0 b.0) = record {
      prelude = s.is;
      selectors = list_between text a.0.start a.0.end words b.0 b.1 s.words;
      behind = omega (arith, s.ends, behind);
      body = own;
      properties = declared.wholes;
      each = declared.each;
    } in
    let in_place : RuleIn text from end (of a.0 b.0) = record { starts = s.starts; is = is; ends = omega arith } in
    subst (RuleIn text from end) same in_place

-- a block that is not closed ends where the text ends
abbrev OpenEnds : EndingForm → ℕ → ℕ → Type 0
OpenEnds (block first inside None) end size = end ≡ size
OpenEnds (block first inside (Some close)) end size = Unit {0}
OpenEnds text_end end size = Unit {0}
OpenEnds (semicolon t) end size = Unit {0}

abbrev PartOpenEnds : PartForm → ℕ → ℕ → Type 0
PartOpenEnds (passed t) end size = Unit {0}
PartOpenEnds (at_rule keyword prelude ending) end size = OpenEnds ending end size
PartOpenEnds (qualified prelude ending) end size = OpenEnds ending end size

ending_open : (text : List ℕ) (seam end : ℕ) (e : EndingForm) (rest : List Token) → IsEnding e rest → AreTiles text seam end rest
    → IsShutEnding e ⊎ (end ≡ length text) → OpenEnds e seam (length text)
ending_open text seam end _ rest (at_text_end over) all which = tt
ending_open text seam end _ rest (at_semicolon t kind) all which = tt
ending_open text seam end _ rest (in_block first close within _ _ _) all which = tt
ending_open text seam end _ rest (in_open_block first within _ _ over) all (inl none) = absurd none
ending_open text seam end _ rest (in_open_block first within _ _ over) all (inr last) =
    let same : seam ≡ end = subst (AreTiles text seam end) over all in omega (arith, same, last)

part_open : (text : List ℕ) (seam end : ℕ) (level : Level) (p : PartForm) (rest : List Token) → IsPart level p rest
    → AreTiles text seam end rest → IsShut p ⊎ (end ≡ length text) → PartOpenEnds p seam (length text)
part_open text seam end level _ rest (passed_part t e) all which = tt
part_open text seam end level _ rest (at_rule_part keyword prelude ending e rule) all which =
    ending_open text seam end ending rest rule.ends all which
part_open text seam end level _ rest (qualified_part prelude ending first rule) all which =
    ending_open text seam end ending rest rule.ends all which

-- where a body's pieces end, the body ends
body_ends : (text : List ℕ) (seam end : ℕ) (first : Token) (inside : List Token) (close : Option Token)
    → AreTiles text seam end (option_to_list close) → OpenEnds (block first inside close) end (length text)
    → (body_end text close ≡ seam) × (seam ≤ end)
body_ends text seam end first inside (Some close) own open_end = (own.0, omega (arith, own.0, own.1.0, own.2))
body_ends text seam end first inside None own open_end = (omega (arith, own, open_end), omega (arith, own))

rule_in : (text : List ℕ) (around : Option ℕ) (from end : ℕ) (prelude : List Token) (ending : EndingForm) (r : RuleForm)
    → AreTiles text from end (prelude ++ ending_pieces ending) → OpenEnds ending end (length text)
    → rule_by text around prelude ending ≡ Some r → RuleIn text from end r
rule_in text around from end prelude text_end r own open_end e = absurd (none_some r e)
rule_in text around from end prelude (semicolon t) r own open_end e = absurd (none_some r e)
rule_in text around from end prelude (block first inside close) r own open_end e =
    let front = tiles_cut text from end prelude (first ∷ (inside ++ option_to_list close)) own in
    let back = tiles_cut text first.end end inside (option_to_list close) front.right.2 in
    let ends = body_ends text back.seam end first inside close back.right open_end in
    let words = words_after text false prelude in
    let at_seam : style_rule text around words (range first.end back.seam) inside
    ≡ Some r = subst (λ (n : ℕ). style_rule text around words (range first.end n) inside ≡ Some r) ends.0 e in
    let whole : IsRangeOf text (range first.end back.seam) = record {
      order = tiles_order text first.end back.seam inside back.left;
      front = front.right.1.2;
      back = tiles_edge text first.end back.seam inside front.right.1.2 back.left;
    } in
    let in_place = styled text around from front.seam first.end back.seam words inside r
    (words_between text false from front.seam prelude front.left)
    (omega (arith, front.right.0, front.right.1.0)) whole (declarations_usable text first.end back.seam inside back.left) at_seam in
    record { starts = in_place.starts; is = in_place.is; ends = omega (arith, in_place.ends, ends.1) }

part_rule : (text : List ℕ) (around : Option ℕ) (from end : ℕ) (p : PartForm) (r : RuleForm) → AreTiles text from end (part_pieces p)
    → PartOpenEnds p end (length text) → rule_of text around p ≡ Some r → RuleIn text from end r
unfolding rule_of
part_rule text around from end (passed t) r own open_end e = absurd (none_some r e)
part_rule text around from end (at_rule keyword prelude ending) r own open_end e = absurd (none_some r e)
part_rule text around from end (qualified prelude ending) r own open_end e = rule_in text around from end prelude ending r own open_end e

-- ---- places

ending_ends : (text : List ℕ) (from end : ℕ) (ending : EndingForm) (n : ℕ) → AreTiles text from end (ending_pieces ending)
    → ending_place ending ≡ Some n → n ≡ end
ending_ends text from end text_end n own e = absurd (none_some n e)
ending_ends text from end (semicolon t) n own e = let same : t.end ≡ n = some_is {A = ℕ} t.end n e in omega (arith, same, own.2)
ending_ends text from end (block first inside None) n own e = absurd (none_some n e)
ending_ends text from end (block first inside (Some close)) n own e =
    let back = tiles_cut text first.end end inside (close ∷ []) own.2 in
    let same : close.end ≡ n = some_is {A = ℕ} close.end n e in
    omega (arith, same, back.right.2)

passed_ends : (kind : TokenKind) (text : List ℕ) (t : Token) (n : ℕ) → passed_place text t kind ≡ Some n → t.end ≡ n
passed_ends tokens.Comment text t n e = let a = passed_test (is_closed_comment text t) (Some t.end) n e in some_is {A = ℕ} t.end n a.1
passed_ends _ text t n e = some_is {A = ℕ} t.end n e

part_ends : (text : List ℕ) (from end : ℕ) (p : PartForm) (n : ℕ) → AreTiles text from end (part_pieces p) → place_of text p ≡ Some n
    → n ≡ end
unfolding place_of
part_ends text from end (passed t) n own e = let same = passed_ends t.kind text t n e in omega (arith, same, own.2)
part_ends text from end (at_rule keyword prelude ending) n own e =
    let back = tiles_cut text keyword.end end prelude (ending_pieces ending) own.2 in
    ending_ends text back.seam end ending n back.right e
part_ends text from end (qualified prelude ending) n own e =
    let back = tiles_cut text from end prelude (ending_pieces ending) own in
    ending_ends text back.seam end ending n back.right e

begins_some : (level : Level) (ts : List Token) → BeginsQualified level ts → 0 < length ts
begins_some level [] none = absurd none
begins_some level (t ∷ ts) first = omega arith

part_some : (level : Level) (p : PartForm) (rest : List Token) → IsPart level p rest → 0 < length (part_pieces p)
part_some level _ rest (passed_part t e) = omega arith
part_some level _ rest (at_rule_part keyword prelude ending e rule) = omega arith
part_some level _ rest (qualified_part prelude ending first rule) = begins_some level (prelude ++ ending_pieces ending) first

pub tiles_some : (text : List ℕ) (from end : ℕ) (ts : List Token) → 0 < length ts → AreTiles text from end ts → from < end
tiles_some text from end [] some all = absurd (omega (arith, some))
tiles_some text from end (t ∷ ts) some all = let more = tiles_order text t.end end ts all.2 in omega (arith, all.0, all.1.0, more)

edges_behind : (text : List ℕ) (place other : ℕ) (edges : List ℕ) → other ≤ place → AreEdgesBehind text place edges
    → AreEdgesBehind text other edges
edges_behind text place other [] less all = tt
edges_behind text place other (edge ∷ edges) less all = (omega (arith, less, all.0), all.1, all.2)

-- ---- media rules

-- what a part is that is a media rule
pub record MediaIs (p : PartForm) (m : MediaForm) : Type 0 where
  pub first : Token
  pub close : Option Token
  pub is : p ≡ at_rule m.keyword m.prelude (block first m.inside close)

media_by_is : (keyword : Token) (prelude : List Token) (ending : EndingForm) (m : MediaForm) → media_by keyword prelude ending ≡ Some m
    → MediaIs (at_rule keyword prelude ending) m
media_by_is keyword prelude text_end m e = absurd (none_some m e)
media_by_is keyword prelude (semicolon t) m e = absurd (none_some m e)
media_by_is keyword prelude (block first inside close) m e =
    subst (MediaIs (at_rule keyword prelude (block first inside close)))
    (some_is (record { keyword = keyword; prelude = prelude; inside = inside }) m e) (record { first = first; close = close; is = refl })

pub media_is : (text : List ℕ) (p : PartForm) (m : MediaForm) → media_form text p ≡ Some m → MediaIs p m
unfolding media_form
media_is text (passed t) m e = absurd (none_some m e)
media_is text (qualified prelude ending) m e = absurd (none_some m e)
media_is text (at_rule keyword prelude ending) m e = by (names_media text keyword keyword.kind) e
  where
    by : (b : Bool) → cond b (media_by keyword prelude ending) None ≡ Some m → MediaIs (at_rule keyword prelude ending) m
    by false e = absurd (none_some m e)
    by true e = media_by_is keyword prelude ending m e

at_rule_ends : (level : Level) (keyword : Token) (prelude : List Token) (ending : EndingForm) (rest : List Token)
    → IsPart level (at_rule keyword prelude ending) rest → IsEnding ending rest
at_rule_ends level keyword prelude ending rest (at_rule_part _ _ _ e rule) = rule.ends

-- where the pieces of a media rule's block stand, and its prelude before them
record MediaSpan (text : List ℕ) (from end : ℕ) (m : MediaForm) : Type 0 where
  start : ℕ
  stop : ℕ
  prelude : Valued text from start (prelude_range m.keyword (range_of (words_after text false m.prelude)))
  edge : IsCharBoundary text start
  tiles : AreTiles text start stop m.inside
  ends : stop ≤ end
  last : AreShut (parts Inner m.inside) ⊎ (stop ≡ length text)

-- the range of a prelude behind its at-keyword
preluded : (text : List ℕ) (from to : ℕ) (keyword : Token) (ts : List Token) → from ≤ keyword.end → IsCharBoundary text keyword.end
    → AreTiles text keyword.end to ts → Valued text from to (prelude_range keyword (range_of (words_after text false ts)))
preluded text from to keyword ts less edge all = by (range_of words) refl
  where
    words : List Word
    words = words_after text false ts

    placed : AreWords text keyword.end to words
    placed = words_between text false keyword.end to ts all

    by : (o : Option Range) → range_of words ≡ o → Valued text from to (prelude_range keyword o)
    by None e =
        let order = tiles_order text keyword.end to ts all in
        record { starts = less; is = record { order = omega arith; front = edge; back = edge }; ends = order }
    by (Some r) e = let s = range_spans text keyword.end to words r e placed in
        record { starts = omega (arith, less, s.starts); is = s.is; ends = s.ends }

media_last : (text : List ℕ) (stop end : ℕ) (first : Token) (inside rest : List Token) (close : Option Token)
    → IsEnding (block first inside close) rest → OpenEnds (block first inside close) end (length text)
    → AreTiles text stop end (option_to_list close) → AreShut (parts Inner inside) ⊎ (stop ≡ length text)
media_last text stop end first inside rest (Some close) is open_end own = inl (inside_shut Inner first close inside rest is)
media_last text stop end first inside rest None is open_end own = inr (omega (arith, own, open_end))

media_spans : (text : List ℕ) (from end : ℕ) (level : Level) (keyword : Token) (prelude : List Token) (first : Token)
    (inside rest : List Token) (close : Option Token)
    → AreTiles text from end (part_pieces (at_rule keyword prelude (block first inside close)))
    → OpenEnds (block first inside close) end (length text) → IsEnding (block first inside close) rest
    → MediaSpan text from end (record { keyword = keyword; prelude = prelude; inside = inside })
media_spans text from end level keyword prelude first inside rest close all open_end is =
    let front = tiles_cut text keyword.end end prelude (first ∷ (inside ++ option_to_list close)) all.2 in
    let back = tiles_cut text first.end end inside (option_to_list close) front.right.2 in
    let before = preluded text from front.seam keyword prelude (omega (arith, all.0, all.1.0)) all.1.2 front.left in
    record {
      start = first.end;
      stop = back.seam;
      prelude = record {
        starts = before.starts;
        is = before.is;
        ends = omega (arith, before.ends, front.right.0, front.right.1.0);
      };
      edge = front.right.1.2;
      tiles = back.left;
      ends = tiles_order text back.seam end (option_to_list close) back.right;
      last = media_last text back.seam end first inside rest close is open_end back.right;
    }

media_span : (text : List ℕ) (from end : ℕ) (level : Level) (p : PartForm) (m : MediaForm) (rest : List Token) → MediaIs p m
    → AreTiles text from end (part_pieces p) → PartOpenEnds p end (length text) → IsPart level p rest → MediaSpan text from end m
media_span text from end level p m rest form all open_end is =
    media_spans text from end level m.keyword m.prelude form.first m.inside rest form.close
    (subst (λ (x : PartForm). AreTiles text from end (part_pieces x)) form.is all)
    (subst (λ (x : PartForm). PartOpenEnds x end (length text)) form.is open_end)
    (at_rule_ends level m.keyword m.prelude (block form.first m.inside form.close) rest
    (subst (λ (x : PartForm). IsPart level x rest) form.is is))

-- ---- sheets

-- one rule, where there is one
one_rule : (text : List ℕ) (from seam to : ℕ) (o : Option RuleForm) (rules : List RuleForm) → from ≤ seam
    → ((r : RuleForm) → o ≡ Some r → RuleIn text from seam r)
    → AreBetween text seam to (map rule_range rules)
    → AreBetween text from to (map rule_range (option_to_list o ++ rules))
one_rule text from seam to None rules less own more = between_from text seam from to (map rule_range rules) less more
one_rule text from seam to (Some r) rules less own more =
    let in_place = own r refl in
    let is = in_place.is in
    let whole : IsRangeOf text (rule_range r) = record {
      order = omega (arith, is.prelude.order, is.behind, is.body.order);
      front = is.prelude.front;
      back = is.body.back;
    } in
    (in_place.starts, whole, between_from text seam r.body.end to (map rule_range rules) in_place.ends more)

each_rule : (text : List ℕ) (from seam : ℕ) (o : Option RuleForm) (rules : List RuleForm)
    → ((r : RuleForm) → o ≡ Some r → RuleIn text from seam r) → All (IsRuleOf text) rules → All (IsRuleOf text) (option_to_list o ++ rules)
each_rule text from seam None rules own more = more
each_rule text from seam (Some r) rules own more = let in_place = own r refl in All-cons (IsRuleOf text) r rules in_place.is more

one_place : (text : List ℕ) (from seam : ℕ) (o : Option ℕ) (places : List ℕ) → from < seam → IsCharBoundary text seam
    → ((n : ℕ) → o ≡ Some n → n ≡ seam)
    → AreEdgesBehind text seam places → AreEdgesBehind text from (option_to_list o ++ places)
one_place text from seam None places less edge own more = edges_behind text seam from places (omega (arith, less)) more
one_place text from seam (Some n) places less edge own more =
    let same = own n refl in (
      omega (arith, less, same),
      subst (IsCharBoundary text) (sym same) edge,
      subst (λ (k : ℕ). AreEdgesBehind text k places)
          (sym same) more,
    )

-- the places behind some parts
places_say : (text : List ℕ) (from : ℕ) (level : Level) (ps : List PartForm) (ts : List Token) → AreParts level ps ts
    → IsCharBoundary text from → AreTiles text from (length text) ts → AreEdgesBehind text from (places_in text ps)
unfolding places_in
places_say text from level [] ts e edge all = tt
places_say text from level (p ∷ ps) ts is edge all =
    let cut = tiles_cut text from (length text) (part_pieces p) is.0 (subst (AreTiles text from (length text)) is.1 all) in
    let edge_behind = tiles_edge text from cut.seam (part_pieces p) edge cut.left in
    one_place text from cut.seam (place_of text p) (places_in text ps)
    (tiles_some text from cut.seam (part_pieces p) (part_some level p is.0 is.2) cut.left) edge_behind
    (λ n e. part_ends text from cut.seam p n cut.left e) (places_say text cut.seam level ps is.0 is.3 edge_behind cut.right)

-- what some parts say, between two places
pub record Says (text : List ℕ) (from to : ℕ) (rules : List RuleForm) (media : List MediaRule) : Type 0 where
  pub ranges : AreBetween text from to (map rule_range rules)
  pub each : All (IsRuleOf text) rules
  pub preludes : AreBetween text from to (map (λ m. m.prelude) media)

says_append : (text : List ℕ) (from stop seam to : ℕ) (rs more : List RuleForm) (ms others : List MediaRule) → stop ≤ seam
    → Says text from stop rs ms → Says text seam to more others → Says text from to (rs ++ more) (ms ++ others)
says_append text from stop seam to rs more ms others less a b = record {
  ranges = subst (AreBetween text from to) (sym (map-append rule_range rs more))
      (between_append text from stop to (map rule_range rs) (map rule_range more) a.ranges
      (between_from text seam stop to (map rule_range more) less b.ranges));
  each = All-append (IsRuleOf text) rs more a.each b.each;
  preludes = subst (AreBetween text from to) (sym (map-append (λ (m : MediaRule). m.prelude) ms others))
      (between_append text from stop to (map (λ m. m.prelude) ms) (map (λ m. m.prelude) others) a.preludes
      (between_from text seam stop to (map (λ m. m.prelude) others) less b.preludes));
}

pub rules_append : (text : List ℕ) (xs ys : List Laid) → rules_in text (xs ++ ys) ≡ rules_in text xs ++ rules_in text ys
unfolding rules_in
rules_append text [] ys = refl
rules_append text (l ∷ ls) ys =
    ap (λ (rs : List RuleForm). option_to_list (rule_of text l.around l.part) ++ rs) (rules_append text ls ys)
    ∙ sym (append_assoc (option_to_list (rule_of text l.around l.part)) (rules_in text ls) (rules_in text ys))

-- an at-rule is no style rule
pub no_rule : (text : List ℕ) (around : Option ℕ) (p : PartForm) (m : MediaForm) (ls : List Laid) → MediaIs p m
    → rules_in text (laid around p ∷ ls) ≡ rules_in text ls
unfolding rules_in rule_of
no_rule text around p m ls form = ap (λ (x : PartForm). option_to_list (rule_of text around x) ++ rules_in text ls) form.is

media_says : (text : List ℕ) (around : Option ℕ) (from seam to : ℕ) (p : PartForm) (m : MediaForm) (within ls : List Laid)
    → media_form text p ≡ Some m → (span : MediaSpan text from seam m)
    → Says text span.start span.stop (rules_in text within) (media_in text within)
    → Says text seam to (rules_in text ls) (media_in text ls)
    → Says text from to (rules_in text (laid around p ∷ (within ++ ls))) (media_in text (laid around p ∷ (within ++ ls)))
media_says text around from seam to p m within ls e span inner more =
    let both = says_append text span.start span.stop seam to (rules_in text within) (rules_in text ls) (media_in text within)
    (media_in text ls) span.ends inner more in
    let less : from ≤ span.start = omega (arith, span.prelude.starts, span.prelude.is.order, span.prelude.ends) in
    let all : Says text from to (rules_in text within ++ rules_in text ls)
    (media_rule text around m ∷ (media_in text within ++ media_in text ls)) = record {
      ranges = between_from text span.start from to (map rule_range (rules_in text within ++ rules_in text ls)) less both.ranges;
      each = both.each;
      preludes = (
        span.prelude.starts,
        span.prelude.is,
        between_from text span.start (media_rule text around m).prelude.end to
            (map (λ m. m.prelude) (media_in text within ++ media_in text ls)) span.prelude.ends both.preludes,
      );
    } in
    let rules = no_rule text around p m (within ++ ls) (media_is text p m e) ∙ rules_append text within ls in
    let media = media_cons text around p (within ++ ls) (Some m) e
    ∙ ap (λ (ms : List MediaRule). media_rule text around m ∷ ms) (media_append text within ls) in
    subst (λ (rs : List RuleForm). Says text from to rs (media_in text (laid around p ∷ (within ++ ls)))) (sym rules)
    (subst (Says text from to (rules_in text within ++ rules_in text ls)) (sym media) all)

part_which : (text : List ℕ) (end : ℕ) (p : PartForm) (ps : List PartForm) → AreShut (p ∷ ps) ⊎ (end ≡ length text)
    → (IsShut p ⊎ (end ≡ length text)) × (AreShut ps ⊎ (end ≡ length text))
part_which text end p ps (inl shut) = (inl shut.0, inl shut.1)
part_which text end p ps (inr last) = (inr last, inr last)

inner_which : (inner ps : List PartForm) (stop size : ℕ) → inner ≡ ps → AreShut ps ⊎ (stop ≡ size) → AreShut inner ⊎ (stop ≡ size)
inner_which inner ps stop size same which = subst (λ (xs : List PartForm). AreShut xs ⊎ (stop ≡ size)) (sym same) which

pub laid_say : (text : List ℕ) (around : Option ℕ) (k : ℕ) (ps : List PartForm) (ls : List Laid) → AreLaid text around k ps ls
    → (level : Level) (ts : List Token) (from to : ℕ) → AreParts level ps ts → IsCharBoundary text from → AreTiles text from to ts
    → AreShut ps ⊎ (to ≡ length text) → Says text from to (rules_in text ls) (media_in text ls)
unfolding rules_in media_in
laid_say text around k _ _ none_laid level ts from to is edge all which = record {
  ranges = tiles_order text from to ts all;
  each = All-nil (IsRuleOf text);
  preludes = tiles_order text from to ts all;
}
laid_say text around k _ _ (part_laid p ps ls e others) level ts from to is edge all which =
    let cut = tiles_cut text from to (part_pieces p) is.0 (subst (AreTiles text from to) is.1 all) in
    let edge_behind = tiles_edge text from cut.seam (part_pieces p) edge cut.left in
    let w = part_which text to p ps which in
    let more = laid_say text around k ps ls others level is.0 cut.seam to is.3 edge_behind cut.right w.1 in
    let open_end = part_open text cut.seam to level p is.0 is.2 cut.right w.0 in
    let own : (r : RuleForm) → rule_of text around p ≡ Some r
    → RuleIn text from cut.seam r = λ r f. part_rule text around from cut.seam p r cut.left open_end f in
    let less = tiles_order text from cut.seam (part_pieces p) cut.left in
    record {
      ranges = one_rule text from cut.seam to (rule_of text around p) (rules_in text ls) less own more.ranges;
      each = each_rule text from cut.seam (rule_of text around p) (rules_in text ls) own more.each;
      preludes = subst (λ (ms : List MediaRule). AreBetween text from to (map (λ m. m.prelude) ms))
          (sym (media_cons text around p ls None e))
          (between_from text cut.seam from to (map (λ m. m.prelude) (media_in text ls)) less more.preludes);
    }
laid_say text around k _ _ (media_laid p m inner ps within ls e is_inner own others) level ts from to is edge all which =
    let cut = tiles_cut text from to (part_pieces p) is.0 (subst (AreTiles text from to) is.1 all) in
    let edge_behind = tiles_edge text from cut.seam (part_pieces p) edge cut.left in
    let w = part_which text to p ps which in
    let more =
    laid_say text around (suc k + length (media_in text within)) ps ls others level is.0 cut.seam to is.3 edge_behind cut.right w.1 in
    let open_end = part_open text cut.seam to level p is.0 is.2 cut.right w.0 in
    let span = media_span text from cut.seam level p m is.0 (media_is text p m e) cut.left open_end is.2 in
    let inside = laid_say text (Some k) (suc k) inner within own Inner m.inside span.start span.stop is_inner span.edge span.tiles
    (inner_which inner (parts Inner m.inside) span.stop (length text) (parts_only Inner inner m.inside is_inner) span.last) in
    media_says text around from cut.seam to p m within ls e span inside more

pub sheet_usable : (text : List ℕ) → IsUtf8 text → IsSheetOf text (sheet_of text)
sheet_usable text utf8 =
    let start = IsCharBoundary-start text utf8 in
    let ts = pieces text in
    let whole = tiles_whole text utf8 in
    let s = laid_say text None 0 (parts Top ts) (laid_out text None 0 ts) (laid_spelled text None 0 ts) Top ts 0 (length text)
    (parts_spelled Top ts) start whole (inr refl) in
    record {
      rules = s.ranges;
      each = s.each;
      places = (start, places_say text 0 Top (parts Top ts) ts (parts_spelled Top ts) start whole);
      media = s.preludes;
    }
