-- A style rule by its prelude, its ending and what stands inside; and where its prelude stands in the text.
use Rattle.std.proofs.Common.{◌≡◌, ℕ, zero, suc, false, List, [], ◌∷◌, ◌++◌, length, Contains, Option, Some, None, refl, sym, ap, subst}
use Rattle.std.proofs.Common.{◌∙◌, ◌+◌, ◌⊎◌, inl, inr, append_assoc, append-nil, arith}
use Rattle.std.specs.Prelude.{option_to_list}
use Rattle.css_tokens.specs.declared.token.Token.{Token}
use Rattle.css_tokens.specs.declared.token.Range.{Range}
use Rattle.css_tokens.specs.Pieces.{pieces}
use Rattle.selectors.specs.Words.{word_reading, words_after}
use Rattle.selectors.specs.Forms.{SelectorForm, ◌>>=◌}
use Rattle.selectors.specs.Reading.{range_of, selector_list_of}
use Rattle.selectors.proofs.Choices.{none_some, some_is, bind_some}
use Rattle.sheet_reader.specs.Forms.{range, RuleForm}
use Rattle.sheet_reader.specs.Parts.{EndingForm, text_end, semicolon, block, PartForm, passed, at_rule, qualified, ending_pieces}
use Rattle.sheet_reader.specs.Parts.{part_pieces, parts}
use Rattle.sheet_reader.specs.Declarations.{declarations}
use Rattle.sheet_reader.specs.Layout.{level_of, MediaForm, media_in, Laid, laid_out, AreLaid, none_laid, part_laid}
use Rattle.sheet_reader.specs.Layout.{media_laid}
use Rattle.sheet_reader.specs.Grammar.{AreParts}
use Rattle.sheet_reader.proofs.LayoutForms.{laid_spelled}
use Rattle.sheet_reader.proofs.UsableForms.{MediaIs, media_is, no_rule, rules_append}
use Rattle.sheet_reader.specs.Sheets.{body_end, rule_by, rule_of, rules_in, sheet_of}
use Rattle.sheet_reader.proofs.GrammarForms.{parts_spelled}
use Rattle.sheet_reader.specs.Solids.{StandBetween}
use Rattle.sheet_reader.specs.SelectorLists.{AreSelectorList}
use Rattle.sheet_laws.specs.Readings.{HasPrelude}
use Rattle.sheet_reader.proofs.Cutting.{pieces_stand}
use Rattle.sheet_reader.proofs.WordCuts.{covers_words}
use Rattle.sheet_reader.proofs.ListCuts.{prelude_spells}

-- what is read of a style rule with this prelude and this ending
pub record RuleIs (text : List ℕ) (around : Option ℕ) (prelude : List Token) (ending : EndingForm) (r : RuleForm) : Type 0 where
  pub brace : Token
  pub inside : List Token
  pub close : Option Token
  pub is : ending ≡ block brace inside close
  pub span : range_of (words_after text false prelude) ≡ Some r.prelude
  pub selectors : selector_list_of (word_reading text (words_after text false prelude)) ≡ Some r.selectors
  pub body : r.body ≡ range brace.end (body_end text close)
  pub properties : r.properties ≡ declarations text inside
  pub media : r.media ≡ around

pub rule_is : (text : List ℕ) (around : Option ℕ) (prelude : List Token) (ending : EndingForm) (r : RuleForm)
    → rule_by text around prelude ending ≡ Some r
    → RuleIs text around prelude ending r
rule_is text around prelude text_end r e = absurd (none_some r e)
rule_is text around prelude (semicolon t) r e = absurd (none_some r e)
rule_is text around prelude (block brace inside close) r e =
    let words = words_after text false prelude in
    let body = range brace.end (body_end text close) in
    let of : Range → List SelectorForm → RuleForm = λ own selectors. record {
      prelude = own;
      selectors = selectors;
      body = body;
      properties = declarations text inside;
      media = around;
    } in
    let a = bind_some (range_of words) (λ own. selector_list_of (word_reading text words) >>= λ selectors. Some (of own selectors)) r e in
    let b = bind_some (selector_list_of (word_reading text words)) (λ selectors. Some (of a.0 selectors)) r a.2 in
    let same = some_is {A = RuleForm} (of a.0 b.0) r b.2 in
    record {
      brace = brace;
      inside = inside;
      close = close;
      is = refl;
      span = a.1 ∙ ap (λ (x : RuleForm). Some x.prelude) same;
      selectors = b.1 ∙ ap (λ (x : RuleForm). Some x.selectors) same;
      body = ap (λ (x : RuleForm). x.body) (sym same);
      properties = ap (λ (x : RuleForm). x.properties) (sym same);
      media = ap (λ (x : RuleForm). x.media) (sym same);
    }

pub rule_again : (text : List ℕ) (around : Option ℕ) (prelude : List Token) (ending : EndingForm) (r : RuleForm)
    → RuleIs text around prelude ending r
    → rule_by text around prelude ending ≡ Some r
rule_again text around prelude ending r f =
    let words = words_after text false prelude in
    let body = range f.brace.end (body_end text f.close) in
    let of : Range → List SelectorForm
    → RuleForm = λ own selectors. record {
      prelude = own;
      selectors = selectors;
      body = body;
      properties = declarations text f.inside;
      media = around;
    } in
    let whole : of r.prelude r.selectors ≡ r = λ i. record {
      prelude = r.prelude;
      selectors = r.selectors;
      body = sym f.body i;
      properties = sym f.properties i;
      media = sym f.media i;
    } in
    ap (rule_by text around prelude) f.is
    ∙ ap (λ (o : Option Range). o >>= λ own. selector_list_of (word_reading text words) >>= λ selectors. some_rule
    (of own selectors)) f.span
    ∙ ap (λ (o : Option (List SelectorForm)). o >>= λ selectors. some_rule (of r.prelude selectors)) f.selectors
    ∙ ap (λ (x : RuleForm). some_rule x) whole
  where
    some_rule : RuleForm → Option RuleForm
    some_rule x = Some x

-- a qualified rule whose prelude is no selector list
pub rule_dropped : (text : List ℕ) (around : Option ℕ) (prelude : List Token) (ending : EndingForm)
    → ((ss : List SelectorForm) → AreSelectorList text prelude ss → ⊥) → rule_of text around (qualified prelude ending) ≡ None
unfolding rule_of
rule_dropped text around prelude ending none = by (rule_by text around prelude ending) refl
  where
    by : (o : Option RuleForm) → rule_by text around prelude ending ≡ o → rule_by text around prelude ending ≡ None
    by None e = e
    by (Some r) e = let f = rule_is text around prelude ending r e in absurd
        (none r.selectors (prelude_spells text prelude r.selectors f.selectors))

-- ---- where a prelude stands

-- pieces between two places, cut in two
pub record StandCut (from to : ℕ) (xs ys : List Token) : Type 0 where
  pub seam : ℕ
  pub left : StandBetween from seam xs
  pub right : StandBetween seam to ys

pub stand_cut : (from to : ℕ) (xs ys : List Token) → StandBetween from to (xs ++ ys) → StandCut from to xs ys
stand_cut from to [] ys all = record { seam = from; left = refl; right = all }
stand_cut from to (t ∷ xs) ys all = let c = stand_cut t.end to xs ys all.2 in record {
  seam = c.seam;
  left = (all.0, all.1, c.left);
  right = c.right;
}

has_prelude : (text : List ℕ) (around : Option ℕ) (front rest : List Token) (from : ℕ) (p : PartForm) (r : RuleForm)
    → pieces text ≡ front ++ (part_pieces p ++ rest) → StandBetween from (length text) (part_pieces p ++ rest)
    → rule_of text around p ≡ Some r
    → HasPrelude text r
unfolding rule_of
has_prelude text around front rest from (passed t) r whole stands e = absurd (none_some r e)
has_prelude text around front rest from (at_rule keyword prelude ending) r whole stands e = absurd (none_some r e)
has_prelude text around front rest from (qualified prelude ending) r whole stands e =
    let f = rule_is text around prelude ending r e in
    let behind = ending_pieces ending ++ rest in
    let split : (prelude ++ ending_pieces ending) ++ rest ≡ prelude ++ behind = append_assoc prelude (ending_pieces ending) rest in
    let c = stand_cut from (length text) prelude behind (subst (StandBetween from (length text)) split stands) in
    record {
      from = from;
      to = c.seam;
      before = front;
      prelude = prelude;
      behind = behind;
      is = whole ∙ ap (λ (xs : List Token). front ++ xs) split;
      stands = c.left;
      selectors = prelude_spells text prelude r.selectors f.selectors;
      span = covers_words text false prelude r.prelude f.span;
    }

in_none : {X : Type 0} (x : X) → Contains [] x → ⊥
in_none x (k, within, is) = absurd (omega (arith, within))

in_either : {X : Type 0} (xs ys : List X) (x : X) → Contains (xs ++ ys) x → Contains xs x ⊎ Contains ys x
in_either [] ys x h = inr h
in_either (y ∷ xs) ys x (zero, less, is) = inl (zero, omega arith, is)
in_either (y ∷ xs) ys x (suc k, less, is) = by (in_either xs ys x (k, omega (arith, less), is))
  where
    by : Contains xs x ⊎ Contains ys x → Contains (y ∷ xs) x ⊎ Contains ys x
    by (inl (n, below, same)) = inl (suc n, omega (arith, below), same)
    by (inr h) = inr h

found_in : {X : Type 0} (o : Option X) (x : X) → Contains (option_to_list o) x → o ≡ Some x
found_in None x h = absurd (in_none x h)
found_in (Some y) x (zero, less, is) = ap (λ z. Some z) is
found_in (Some y) x (suc k, less, is) = absurd (omega (arith, less))

by_either : {A B C : Type 0} → (A → C) → (B → C) → A ⊎ B → C
by_either f g (inl a) = f a
by_either f g (inr b) = g b

-- pieces that stand in a text, with others before and behind them
pub record StandsIn (text : List ℕ) (ts : List Token) : Type 0 where
  pub front : List Token
  pub back : List Token
  pub from : ℕ
  pub is : pieces text ≡ front ++ (ts ++ back)
  pub stands : StandBetween from (length text) (ts ++ back)

pub left_stands : (text : List ℕ) (xs ys : List Token) → StandsIn text (xs ++ ys) → StandsIn text xs
left_stands text xs ys s = record {
  front = s.front;
  back = ys ++ s.back;
  from = s.from;
  is = s.is ∙ ap (λ (ts : List Token). s.front ++ ts) (append_assoc xs ys s.back);
  stands = subst (StandBetween s.from (length text)) (append_assoc xs ys s.back) s.stands;
}

pub right_stands : (text : List ℕ) (xs ys : List Token) → StandsIn text (xs ++ ys) → StandsIn text ys
right_stands text xs ys s =
    let split = append_assoc xs ys s.back in
    let c = stand_cut s.from (length text) xs (ys ++ s.back) (subst (StandBetween s.from (length text)) split s.stands) in
    record {
      front = s.front ++ xs;
      back = s.back;
      from = c.seam;
      is = s.is ∙ ap (λ (ts : List Token). s.front ++ ts) split ∙ sym (append_assoc s.front xs (ys ++ s.back));
      stands = c.right;
    }

pub inside_stands : (text : List ℕ) (p : PartForm) (m : MediaForm) → MediaIs p m → StandsIn text (part_pieces p) → StandsIn text m.inside
inside_stands text p m form s =
    let whole = subst (λ (x : PartForm). StandsIn text (part_pieces x)) form.is s in
    let behind_keyword = right_stands text (m.keyword ∷ []) (m.prelude ++ form.first ∷ (m.inside ++ option_to_list form.close)) whole in
    let behind_prelude = right_stands text m.prelude (form.first ∷ (m.inside ++ option_to_list form.close)) behind_keyword in
    left_stands text m.inside (option_to_list form.close)
    (right_stands text (form.first ∷ []) (m.inside ++ option_to_list form.close) behind_prelude)

rules_have : (text : List ℕ) (around : Option ℕ) (k : ℕ) (ps : List PartForm) (ls : List Laid) → AreLaid text around k ps ls
    → (outside : Option ℕ) (ts : List Token) (r : RuleForm) → AreParts (level_of outside) ps ts → StandsIn text ts
    → Contains (rules_in text ls) r
    → HasPrelude text r
unfolding rules_in
rules_have text around k _ _ none_laid outside ts r are stands within = absurd (in_none r within)
rules_have text around k _ _ (part_laid p ps ls e others) outside ts r are stands within =
    let whole = subst (StandsIn text) are.1 stands in
    let own = left_stands text (part_pieces p) are.0 whole in
    by_either
    (λ found. has_prelude text around own.front own.back own.from p r own.is own.stands (found_in (rule_of text around p) r found))
    (rules_have text around k ps ls others outside are.0 r are.3 (right_stands text (part_pieces p) are.0 whole))
    (in_either (option_to_list (rule_of text around p)) (rules_in text ls) r within)
rules_have text around k _ _ (media_laid p m inner ps inside ls e is_inner own others) outside ts r are stands within =
    let form = media_is text p m e in
    let whole = subst (StandsIn text) are.1 stands in
    let same = no_rule text around p m (inside ++ ls) form ∙ rules_append text inside ls in
    by_either (rules_have text (Some k) (suc k) inner inside own (Some k) m.inside r is_inner
    (inside_stands text p m form (left_stands text (part_pieces p) are.0 whole)))
    (rules_have text around (suc k + length (media_in text inside)) ps ls others outside are.0 r are.3
    (right_stands text (part_pieces p) are.0 whole))
    (in_either (rules_in text inside) (rules_in text ls) r (subst (λ (rs : List RuleForm). Contains rs r) same within))

pub rules_have_preludes : (text : List ℕ) (r : RuleForm) → Contains (sheet_of text).rules r → HasPrelude text r
rules_have_preludes text r within =
    rules_have text None 0 (parts (level_of None) (pieces text)) (laid_out text None 0 (pieces text))
    (laid_spelled text None 0 (pieces text)) None
    (pieces text) r (parts_spelled (level_of None) (pieces text)) (record {
      front = [];
      back = [];
      from = 0;
      is = sym (append-nil (pieces text));
      stands = subst (StandBetween 0 (length text)) (sym (append-nil (pieces text))) (pieces_stand text);
    }) within
