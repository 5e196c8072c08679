-- Reading selectors between commas, and the first `)`.
use Rattle.std.proofs.Common.{◌≡◌, ℕ, suc, ◌+◌, ◌<◌, length-drop, Bool, true, false, List, [], ◌∷◌, ◌++◌, length, take, drop, not, Option}
use Rattle.std.proofs.Common.{Some, None, refl, sym, ap, ◌∙◌, subst, append_assoc, arith, cond}
use Rattle.std.specs.List.{prefix_len}
use Rattle.selectors.specs.declared.words.Word.{Word}
use Rattle.selectors.specs.Words.{WordReading, word_reading, next_word, is_mark, is_no_comma, before_comma, from_comma}
use Rattle.selectors.specs.Forms.{SelectorForm, ◌>>=◌}
use Rattle.selectors.specs.Reading.{closing, closing_at, segments, put_first, selector_of, selectors_in, selector_before, selector_list_of}
use Rattle.selectors.proofs.Choices.{some_is}

pub closing_skip : (w : Word) (ws : List Word) → is_mark 41 w.kind ≡ false → closing (w ∷ ws) ≡ closing ws
unfolding closing
closing_skip w ws e = ap (λ (b : Bool). cond b (Some (w, ws)) (closing ws)) e

pub closing_stop : (w : Word) (ws : List Word) → is_mark 41 w.kind ≡ true → closing (w ∷ ws) ≡ Some (w, ws)
unfolding closing
closing_stop w ws e = ap (λ (b : Bool). cond b (Some (w, ws)) (closing ws)) e

pub closing_none : closing [] ≡ None
unfolding closing
closing_none = refl

closing_over_at : (text : List ℕ) (ws : List Word) (w : Word) (new : WordReading) → next_word (word_reading text ws) ≡ Some (w, new)
    → is_mark 41 w.kind ≡ false → closing_at new ≡ closing_at (word_reading text ws)
closing_over_at text [] w new e other = absurd (cc)
closing_over_at text (v ∷ vs) w new e other =
    let same = some_is {A = Word × WordReading} (v, word_reading text vs) (w, new) e in
    let over : is_mark 41 v.kind ≡ false = ap (λ (p : Word × WordReading). is_mark 41 p.0.kind) same ∙ other in
    ap (λ (p : Word × WordReading). closing_at p.1) (sym same) ∙ ap
    (λ (o : Option (Word × List Word)). o >>= λ x. Some (x.0, word_reading text x.1)) (sym (closing_skip v vs over))

-- a word that is no `)` is passed over
pub closing_over : (r new : WordReading) (w : Word) → next_word r ≡ Some (w, new) → is_mark 41 w.kind ≡ false
    → closing_at new ≡ closing_at r
closing_over r new w e other = closing_over_at r.text r.words w new e other

closing_found_at : (text : List ℕ) (ws : List Word) (w : Word) (new : WordReading) → next_word (word_reading text ws) ≡ Some (w, new)
    → is_mark 41 w.kind ≡ true → closing_at (word_reading text ws) ≡ Some (w, new)
closing_found_at text [] w new e found = absurd (cc)
closing_found_at text (v ∷ vs) w new e found =
    let same = some_is {A = Word × WordReading} (v, word_reading text vs) (w, new) e in
    let here : is_mark 41 v.kind ≡ true = ap (λ (p : Word × WordReading). is_mark 41 p.0.kind) same ∙ found in
    ap (λ (o : Option (Word × List Word)). o >>= λ x. Some (x.0, word_reading text x.1)) (closing_stop v vs here) ∙ e

pub closing_found : (r new : WordReading) (w : Word) → next_word r ≡ Some (w, new) → is_mark 41 w.kind ≡ true → closing_at r ≡ Some (w, new)
closing_found r new w e found = closing_found_at r.text r.words w new e found

closing_over_none_at : (text : List ℕ) (ws : List Word) → next_word (word_reading text ws) ≡ None → closing_at (word_reading text ws) ≡ None
closing_over_none_at text [] e = ap (λ (o : Option (Word × List Word)). o >>= λ x. Some (x.0, word_reading text x.1)) closing_none
closing_over_none_at text (v ∷ vs) e = absurd (cc)

pub closing_lacks : (r : WordReading) → next_word r ≡ None → closing_at r ≡ None
closing_lacks r e = closing_over_none_at r.text r.words e

-- ---- commas

abbrev after_comma : List Word → List (List Word)
after_comma [] = []
after_comma (c ∷ rest) = segments rest

cut_by : (b : Bool) (w : Word) (ws : List Word) → is_mark 44 w.kind ≡ b → segments ws ≡ before_comma ws ∷ after_comma (from_comma ws)
    → segments (w ∷ ws) ≡ before_comma (w ∷ ws) ∷ after_comma (from_comma (w ∷ ws))
unfolding segments
cut_by true w ws e ih =
    let n = prefix_len is_no_comma ws in
    let P : Bool → Type 0 = λ b. cond b ([] ∷ segments ws) (put_first w (segments ws))
    ≡ take (cond (not b) (1 + n) 0) (w ∷ ws) ∷ after_comma (drop (cond (not b) (1 + n) 0) (w ∷ ws)) in
    subst P (sym e) refl
cut_by false w ws e ih =
    let n = prefix_len is_no_comma ws in
    let P : Bool → Type 0 = λ b. cond b ([] ∷ segments ws) (put_first w (segments ws))
    ≡ take (cond (not b) (1 + n) 0) (w ∷ ws) ∷ after_comma (drop (cond (not b) (1 + n) 0) (w ∷ ws)) in
    let Q : ℕ → Type 0 = λ k. put_first w (segments ws) ≡ take k (w ∷ ws) ∷ after_comma (drop k (w ∷ ws)) in
    let one : suc n ≡ 1 + n = omega arith in
    subst P (sym e) (subst Q one (ap (put_first w) ih))

segments_cut : (ws : List Word) → segments ws ≡ before_comma ws ∷ after_comma (from_comma ws)
unfolding segments
segments_cut [] = refl
segments_cut (w ∷ ws) = cut_by (is_mark 44 w.kind) w ws refl (segments_cut ws)

abbrev Selectors : Type 0
Selectors = Option (List SelectorForm)

-- the selectors in front of what is read
abbrev pub put_all : List SelectorForm → Option (List SelectorForm) → Option (List SelectorForm)
put_all front None = None
put_all front (Some ss) = Some (front ++ ss)

put_one : (front : List SelectorForm) (s : SelectorForm) (o : Selectors) → put_all front (selector_before s o) ≡ put_all (front ++ s ∷ []) o
put_one front s None = refl
put_one front s (Some ss) = ap (λ (xs : List SelectorForm). just xs) (sym (append_assoc front (s ∷ []) ss))
  where
    just : List SelectorForm → Selectors
    just xs = Some xs

list_cut : (r : WordReading) → selector_list_of r
    ≡ (selector_of (word_reading r.text (before_comma r.words)) >>= λ s. selector_before s
    (selectors_in r.text (after_comma (from_comma r.words))))
unfolding selectors_in
list_cut r = ap (λ (xs : List (List Word)). selectors_in r.text xs) (segments_cut r.words)

-- one selector, and what follows it
list_step : (r own : WordReading) (s : SelectorForm) → own ≡ word_reading r.text (before_comma r.words) → selector_of own ≡ Some s
    → selector_list_of r ≡ selector_before s (selectors_in r.text (after_comma (from_comma r.words)))
list_step r own s is_own e =
    list_cut r ∙ ap (λ (o : Option SelectorForm). o >>= λ x. selector_before x (selectors_in r.text (after_comma (from_comma r.words))))
    (ap selector_of (sym is_own) ∙ e)

pub list_fails : (r own : WordReading) (front : List SelectorForm) (total : Option (List SelectorForm))
    → own ≡ word_reading r.text (before_comma r.words) → selector_of own ≡ None → put_all front (selector_list_of r) ≡ total → total ≡ None
list_fails r own front total is_own e so_far =
    sym so_far ∙ ap (put_all front)
    (list_cut r ∙ ap (λ (o : Option SelectorForm). o >>= λ x. selector_before x
    (selectors_in r.text (after_comma (from_comma r.words)))) (ap selector_of (sym is_own) ∙ e))

over_at : (text : List ℕ) (ws : List Word) → next_word (word_reading text ws) ≡ None → selectors_in text (after_comma ws) ≡ Some []
unfolding selectors_in
over_at text [] e = refl
over_at text (w ∷ ws) e = absurd (cc)

pub list_done : (r own rest : WordReading) (s : SelectorForm) (front all : List SelectorForm) (total : Option (List SelectorForm))
    → own ≡ word_reading r.text (before_comma r.words) → rest ≡ word_reading r.text (from_comma r.words) → selector_of own ≡ Some s
    → next_word rest ≡ None
    → all ≡ front ++ s ∷ [] → put_all front (selector_list_of r) ≡ total → total ≡ Some all
list_done r own rest s front all total is_own is_rest e none is_all so_far =
    sym so_far
    ∙ ap (put_all front) (list_step r own s is_own e ∙ ap (selector_before s)
    (over_at r.text (from_comma r.words) (ap next_word (sym is_rest) ∙ none)))
    ∙ ap (λ (xs : List SelectorForm). just xs) (sym is_all)
  where
    just : List SelectorForm → Selectors
    just xs = Some xs

more_at : (text : List ℕ) (ws : List Word) (c : Word) (new : WordReading) → next_word (word_reading text ws) ≡ Some (c, new)
    → selectors_in text (after_comma ws) ≡ selector_list_of new
more_at text [] c new e = absurd (cc)
more_at text (w ∷ ws) c new e =
    let same = some_is {A = Word × WordReading} (w, word_reading text ws) (c, new) e in
    ap (λ (p : Word × WordReading). selector_list_of p.1) same

pub list_more : (r own rest new : WordReading) (c : Word) (s : SelectorForm) (front all : List SelectorForm)
    (total : Option (List SelectorForm)) → own ≡ word_reading r.text (before_comma r.words)
    → rest ≡ word_reading r.text (from_comma r.words) → selector_of own ≡ Some s → next_word rest ≡ Some (c, new)
    → all ≡ front ++ s ∷ [] → put_all front (selector_list_of r) ≡ total → put_all all (selector_list_of new) ≡ total
list_more r own rest new c s front all total is_own is_rest e next is_all so_far =
    ap (λ (xs : List SelectorForm). put_all xs (selector_list_of new)) is_all
    ∙ sym (put_one front s (selector_list_of new))
    ∙ ap (λ (o : Selectors). put_all front (selector_before s o))
    (sym (more_at r.text (from_comma r.words) c new (ap next_word (sym is_rest) ∙ next)))
    ∙ ap (put_all front) (sym (list_step r own s is_own e))
    ∙ so_far

shorter_at : (text : List ℕ) (ws : List Word) (c : Word) (new : WordReading) → next_word (word_reading text ws) ≡ Some (c, new)
    → length new.words < length ws
shorter_at text [] c new e = absurd (cc)
shorter_at text (w ∷ ws) c new e =
    let same = some_is {A = Word × WordReading} (w, word_reading text ws) (c, new) e in
    let len : length ws ≡ length new.words = ap (λ (p : Word × WordReading). length p.1.words) same in
    omega (arith, len)

-- a comma is taken
pub list_shorter : (r rest new : WordReading) (c : Word) → rest ≡ word_reading r.text (from_comma r.words) → next_word rest ≡ Some (c, new)
    → length new.words < length r.words
list_shorter r rest new c is_rest next =
    let less = shorter_at r.text (from_comma r.words) c new (ap next_word (sym is_rest) ∙ next) in
    let cut = length-drop (prefix_len is_no_comma r.words) r.words in
    omega (arith, less, cut)
