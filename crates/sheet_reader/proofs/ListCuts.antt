-- Selectors with commas between them, as a relation and as the words between the commas.
use Rattle.std.proofs.Common.{◌≡◌, ◌⊎◌, inl, inr, ℕ, zero, suc, ◌+◌, ◌<◌, Bool, true, false, cond, List, [], ◌∷◌, ◌++◌, length, Some, refl}
use Rattle.std.proofs.Common.{sym, ap, subst, ◌∙◌, length-append, arith}
use Rattle.std.proofs.lemmas.Bool.{eqb-true}
use Rattle.css_tokens.specs.declared.token.Token.{Token}
use Rattle.css_tokens.specs.Pieces.{pieces}
use Rattle.selectors.specs.declared.words.Word.{Word}
use Rattle.selectors.specs.declared.words.WordKind.{WordKind}
use Rattle.selectors.specs.declared.words.WordKind.TheVariants.{Mark}
use Rattle.selectors.specs.Words.{is_mark, word_reading, words_after}
use Rattle.selectors.specs.Forms.{SelectorForm}
use Rattle.selectors.specs.Reading.{segments, put_first, selector_list_of}
use Rattle.selectors.specs.Grammar.{AreSelectors, IsSelectorList}
use Rattle.selectors.proofs.GrammarAgain.{grammar_read, list_again}
use Rattle.selectors.proofs.GrammarTakes.{grammar_spells, list_takes}
use Rattle.sheet_reader.specs.SelectorLists.{HasNoComma, AreListed, last_listed, comma_and, AreSelectorList}
use Rattle.sheet_reader.proofs.WordCuts.{words_spelled, words_only}

-- ---- where the first comma stands

segment_alone : (own : List Word) → HasNoComma own → segments own ≡ own ∷ []
unfolding segments
segment_alone [] none = refl
segment_alone (w ∷ ws) none =
    ap (λ (b : Bool). cond b ([] ∷ segments ws) (put_first w (segments ws))) none.0 ∙ ap (put_first w) (segment_alone ws none.1)

segment_first : (own : List Word) (comma : Word) (others : List Word) → HasNoComma own → is_mark 44 comma.kind ≡ true
    → segments (own ++ comma ∷ others) ≡ own ∷ segments others
unfolding segments
segment_first [] comma others none e = ap (λ (b : Bool). cond b ([] ∷ segments others) (put_first comma (segments others))) e
segment_first (w ∷ ws) comma others none e =
    ap (λ (b : Bool). cond b ([] ∷ segments (ws ++ comma ∷ others)) (put_first w (segments (ws ++ comma ∷ others)))) none.0
    ∙ ap (put_first w) (segment_first ws comma others none.1 e)

-- words up to a comma, and those behind it
record HasComma (ws : List Word) : Type 0 where
  own : List Word
  comma : Word
  others : List Word
  is : ws ≡ own ++ comma ∷ others
  none : HasNoComma own
  mark : is_mark 44 comma.kind ≡ true

first_comma : (ws : List Word) → HasNoComma ws ⊎ HasComma ws
first_comma [] = inl tt
first_comma (w ∷ ws) = by (is_mark 44 w.kind) refl (first_comma ws)
  where
    by : (b : Bool) → is_mark 44 w.kind ≡ b → HasNoComma ws ⊎ HasComma ws → HasNoComma (w ∷ ws) ⊎ HasComma (w ∷ ws)
    by true e below = inr (record { own = []; comma = w; others = ws; is = refl; none = tt; mark = e })
    by false e (inl none) = inl (e, none)
    by false e (inr c) = inr (record {
      own = w ∷ c.own;
      comma = c.comma;
      others = c.others;
      is = ap (λ (vs : List Word). w ∷ vs) c.is;
      none = (e, c.none);
      mark = c.mark;
    })

mark_is : (k : WordKind) → is_mark 44 k ≡ true → k ≡ Mark 44
mark_is (Mark c) e = ap (λ (d : ℕ). Mark d) (eqb-true c 44 e)
mark_is _ e = absurd (cc)

-- ---- selectors between commas

listed_between : (text : List ℕ) (ws : List Word) (ss : List SelectorForm) → AreListed text ws ss → AreSelectors text (segments ws) ss
listed_between text _ _ (last_listed {own = own} s none is) = subst (λ (segs : List (List Word)). AreSelectors text segs (s ∷ []))
    (sym (segment_alone own none)) (is, tt)
listed_between text _ _ (comma_and {all = all} {ss = ss} own comma others s whole none is mark more) =
    let cut = ap segments whole ∙ segment_first own comma others none (ap (is_mark 44) mark) in
    subst (λ (segs : List (List Word)). AreSelectors text segs (s ∷ ss)) (sym cut) (is, listed_between text others ss more)

one_listed : (text : List ℕ) (own : List Word) (ss : List SelectorForm) → HasNoComma own → AreSelectors text (own ∷ []) ss
    → AreListed text own ss
one_listed text own [] none h = absurd h
one_listed text own (s ∷ []) none h = last_listed s none h.0
one_listed text own (s ∷ r ∷ ss) none h = absurd h.1

more_listed : (text : List ℕ) (ws : List Word) (c : HasComma ws) (ss : List SelectorForm) → AreSelectors text (c.own ∷ segments c.others) ss
    → ((rs : List SelectorForm) → AreSelectors text (segments c.others) rs → AreListed text c.others rs) → AreListed text ws ss
more_listed text ws c [] h below = absurd h
more_listed text ws c (s ∷ ss) h below = comma_and c.own c.comma c.others s c.is c.none h.0 (mark_is c.comma.kind c.mark) (below ss h.1)

between_listed : (n : ℕ) (text : List ℕ) (ws : List Word) (ss : List SelectorForm) → length ws < n → AreSelectors text (segments ws) ss
    → AreListed text ws ss
between_listed zero text ws ss few h = absurd (omega (arith, few))
between_listed (suc n) text ws ss few h = by (first_comma ws) (λ others rs less g. between_listed n text others rs less g)
  where
    by : HasNoComma ws ⊎ HasComma ws
        → ((others : List Word) (rs : List SelectorForm) → length others < n → AreSelectors text (segments others) rs
        → AreListed text others rs) → AreListed text ws ss
    by (inl none) below = one_listed text ws ss none
        (subst (λ (segs : List (List Word)). AreSelectors text segs ss) (segment_alone ws none) h)
    by (inr c) below =
        let cut = ap segments c.is ∙ segment_first c.own c.comma c.others c.none c.mark in
        let len : length ws ≡ length c.own + suc (length c.others) = ap length c.is ∙ length-append c.own (c.comma ∷ c.others) in
        more_listed text ws c ss (subst (λ (segs : List (List Word)). AreSelectors text segs ss) cut h)
        (λ rs g. below c.others rs (omega (arith, few, len)) g)

-- ---- pieces that are a selector list

pub prelude_reads : (text : List ℕ) (ts : List Token) (ss : List SelectorForm) → AreSelectorList text ts ss
    → selector_list_of (word_reading text (words_after text false ts)) ≡ Some ss
prelude_reads text ts ss h =
    ap (λ (ws : List Word). selector_list_of (word_reading text ws)) (sym (words_only text false ts h.words h.are_words))
    ∙ list_again text (segments h.words) ss (listed_between text h.words ss h.listed)

pub prelude_spells : (text : List ℕ) (ts : List Token) (ss : List SelectorForm)
    → selector_list_of (word_reading text (words_after text false ts)) ≡ Some ss → AreSelectorList text ts ss
prelude_spells text ts ss e =
    let ws = words_after text false ts in
    record {
      words = ws;
      are_words = words_spelled text false ts;
      listed = between_listed (suc (length ws)) text ws ss (omega arith) (list_takes text (segments ws) ss e);
    }

-- for all pieces of a text the grammar is the one that `selectors` has
pub whole_spells : (text : List ℕ) (ss : List SelectorForm) → IsSelectorList text ss → AreSelectorList text (pieces text) ss
whole_spells text ss h = prelude_spells text (pieces text) ss (grammar_read text ss h)

pub whole_reads : (text : List ℕ) (ss : List SelectorForm) → AreSelectorList text (pieces text) ss → IsSelectorList text ss
whole_reads text ss h = grammar_spells text ss (prelude_reads text (pieces text) ss h)
