-- Compounds, selectors and lists: what is read, the grammar spells.
use Rattle.std.proofs.Common.{◌≡◌, ◌⊎◌, inl, inr, ℕ, zero, suc, Bool, true, false, cond, List, [], ◌∷◌, ◌++◌, length, Option, Some, None}
use Rattle.std.proofs.Common.{refl, sym, ap, subst, ◌∙◌, append_assoc, append-nil}
use Rattle.std.specs.Prelude.{◌||◌, is_some, Result, Ok, Err, IfOk}
use Rattle.css_tokens.specs.declared.token.Range.{Range}
use Rattle.selectors.specs.declared.words.Word.{Word}
use Rattle.selectors.specs.declared.selector.Joint.{Joint}
use Rattle.selectors.specs.declared.selector.Joint.TheVariants as joints
use Rattle.selectors.specs.Words.{WordReading, word_reading, words_of}
use Rattle.selectors.specs.Forms.{compound_form, SelectorForm, GivesRead, ◌>>=◌}
use Rattle.selectors.specs.declared.selector.SelErr.{SelErr}
use Rattle.selectors.specs.declared.selector.SelectorList.{SelectorList}
use Rattle.selectors.specs.Lists.{list_seen}
use Rattle.selectors.specs.Parts.{many_in, with_front}
use Rattle.selectors.specs.Reading.{Item, compound_item_at, first_part_at, combinator_of, is_over, Joined, compound_of, tests_at}
use Rattle.selectors.specs.Reading.{compound_at, joint_of, joint_at, joined_at, ends_compound, ends_selector, compounds_at, range_of}
use Rattle.selectors.specs.Reading.{joined_of, selector_form, selector_of, segments, selectors_in, selector_before, selectors_of}
use Rattle.selectors.specs.Grammar.{Run, done, more, IsNextItem, IsCompound, IsCombinator, mark, white, IsJoined, IsSelector, AreSelectors}
use Rattle.selectors.specs.Grammar.{IsSelectorList}
use Rattle.selectors.proofs.Choices.{none_some, some_is, chosen, failed_test, bind_some}
use Rattle.selectors.proofs.GrammarAgain.{first_begins}
use Rattle.selectors.proofs.PartTakes.{Found, first_spaced, item_takes, first_takes}

-- ---- parts one behind the other

abbrev pub Parts : Type 0 → Type 0
Parts X = Option ((List X × Bool) × WordReading)

-- a run of parts stands in front, and behind it no part follows
record FoundRun {X : Type 0} (ends : WordReading → Bool) (R : List Word → List X × Bool → Type 0) (text : List ℕ) (element : Bool)
    (ws : List Word) (x : List X × Bool) (r : WordReading) : Type 0 where
  pub front : List Word
  pub rest : List Word
  pub words : ws ≡ front ++ rest
  pub goes_on : r ≡ word_reading text rest
  pub form : Run R element front x
  pub stop : ends r ≡ true

with_front_some : {X : Type 0} (front : List X) (o : Parts X) (x : List X × Bool) (r : WordReading) → with_front front o ≡ Some (x, r)
    → (z : (List X × Bool) × WordReading) × (o ≡ Some z) × ((front ++ z.0.0, z.0.1) ≡ x) × (z.1 ≡ r)
with_front_some front None x r e = absurd (none_some (x, r) e)
with_front_some {X = X} front (Some z) x r e =
    let same = some_is {A = (List X × Bool) × WordReading} ((front ++ z.0.0, z.0.1), z.1) (x, r) e in
    (z, refl, ap (λ (p : (List X × Bool) × WordReading). p.0) same, ap (λ (p : (List X × Bool) × WordReading). p.1) same)

many_takes : {X : Type 0} (ends : WordReading → Bool) (read : WordReading → Parts X) (R : List Word → List X × Bool → Type 0)
    (text : List ℕ)
    → ((ws : List Word) (x : List X × Bool) (r : WordReading) → ends (word_reading text ws) ≡ false
    → read (word_reading text ws) ≡ Some (x, r) → Found R text ws x r)
    → (fuel : ℕ) (element : Bool) (ws : List Word) (x : List X × Bool) (r : WordReading)
    → many_in ends read fuel element (word_reading text ws) ≡ Some (x, r) → FoundRun ends R text element ws x r
unfolding many_in
many_takes ends read R text takes zero element ws x r e = absurd (none_some (x, r) e)
many_takes {X = X} ends read R text takes (suc n) element ws x r e =
    by_case (chosen (ends (word_reading text ws)) (some_part ([], element) (word_reading text ws))
    (cond element None (read (word_reading text ws) >>= λ y. with_front y.0.0 (many_in ends read n y.0.1 y.1))) (Some (x, r)) e)
    (λ el vs y s h. many_takes ends read R text takes n el vs y s h)
  where
    some_part : List X × Bool → WordReading → Parts X
    some_part y s = Some (y, s)

    by_case : ((ends (word_reading text ws) ≡ true) × (some_part ([], element) (word_reading text ws) ≡ Some (x, r)))
        ⊎ ((ends (word_reading text ws) ≡ false)
        × (cond element None (read (word_reading text ws) >>= λ y. with_front y.0.0 (many_in ends read n y.0.1 y.1)) ≡ Some (x, r)))
        → ((el : Bool) (vs : List Word) (y : List X × Bool) (s : WordReading) → many_in ends read n el (word_reading text vs) ≡ Some (y, s)
        → FoundRun ends R text el vs y s) → FoundRun ends R text element ws x r
    by_case (inl h) further =
        let same = some_is {A = (List X × Bool) × WordReading} (([], element), word_reading text ws) (x, r) h.1 in
        let F : List X × Bool → Type 0 = λ y. Run R element [] y in
        record {
          front = [];
          rest = ws;
          words = refl;
          goes_on = sym (ap (λ (p : (List X × Bool) × WordReading). p.1) same);
          form = subst F (ap (λ (p : (List X × Bool) × WordReading). p.0) same) (done element);
          stop = ap (λ (p : (List X × Bool) × WordReading). ends p.1) (sym same) ∙ h.0;
        }
    by_case (inr h) further =
        let t = failed_test element (read (word_reading text ws) >>= λ y. with_front y.0.0 (many_in ends read n y.0.1 y.1)) (x, r) h.1 in
        let b = bind_some (read (word_reading text ws)) (λ y. with_front y.0.0 (many_in ends read n y.0.1 y.1)) (x, r) t.1 in
        let f = takes ws b.0.0 b.0.1 h.0 b.1 in
        let z = with_front_some b.0.0.0 (many_in ends read n b.0.0.1 b.0.1) x r b.2 in
        let g = further b.0.0.1 f.rest z.0.0 z.0.1 (ap (λ (s : WordReading). many_in ends read n b.0.0.1 s) (sym f.goes_on) ∙ z.1) in
        let E : Bool → Type 0 = λ v. Run R v (f.front ++ g.front) x in
        let F : List X × Bool → Type 0 = λ y. Run R false (f.front ++ g.front) y in
        record {
          front = f.front ++ g.front;
          rest = g.rest;
          words = f.words ∙ ap (λ (vs : List Word). f.front ++ vs) g.words ∙ sym (append_assoc f.front g.front g.rest);
          goes_on = sym z.3 ∙ g.goes_on;
          form = subst E (sym t.0) (subst F z.2 (more f.front g.front (f.front ++ g.front) b.0.0 z.0.0 refl f.form g.form));
          stop = ap ends (sym z.3) ∙ g.stop;
        }

-- ---- compounds

or_false : (a b : Bool) → (a || b) ≡ false → a ≡ false
or_false false b e = refl
or_false true b e = absurd (cc)

next_item_takes : (text : List ℕ) (ws : List Word) (x : Item) (r : WordReading) → ends_compound (word_reading text ws) ≡ false
    → compound_item_at (word_reading text ws) ≡ Some (x, r) → Found (IsNextItem text) text ws x r
next_item_takes text [] x r go e = absurd (none_some (x, r) e)
next_item_takes text (w ∷ ws) x r go e =
    let f = item_takes text w ws x r e in
    record {
      front = w ∷ f.front;
      rest = f.rest;
      words = ap (λ (vs : List Word). w ∷ vs) f.words;
      goes_on = f.goes_on;
      form = (or_false w.spaced (is_some (combinator_of w.kind)) go, f.form);
    }

record FoundCompound (text : List ℕ) (joint : Joint) (ws : List Word) (x : Joined) (r : WordReading) : Type 0 where
  front : List Word
  rest : List Word
  item : Item
  words : ws ≡ front ++ rest
  goes_on : r ≡ word_reading text rest
  form : IsCompound text front item
  whole : x ≡ (compound_form joint item.0 ∷ [], item.1)
  stop : ends_compound r ≡ true

compound_of_some : (joint : Joint) (o : Option (Item × WordReading)) (x : Joined) (r : WordReading) → compound_of joint o ≡ Some (x, r)
    → (z : Item × WordReading) × (o ≡ Some z) × ((compound_form joint z.0.0 ∷ [], z.0.1) ≡ x) × (z.1 ≡ r)
compound_of_some joint None x r e = absurd (none_some (x, r) e)
compound_of_some joint (Some z) x r e =
    let same = some_is {A = Joined × WordReading} ((compound_form joint z.0.0 ∷ [], z.0.1), z.1) (x, r) e in
    (z, refl, ap (λ (p : Joined × WordReading). p.0) same, ap (λ (p : Joined × WordReading). p.1) same)

compound_takes : (text : List ℕ) (joint : Joint) (ws : List Word) (x : Joined) (r : WordReading)
    → compound_at joint (word_reading text ws) ≡ Some (x, r) → FoundCompound text joint ws x r
unfolding compound_at tests_at
compound_takes text joint ws x r e =
    let b = bind_some (first_part_at (word_reading text ws))
    (λ first. compound_of joint (with_front first.0.0 (tests_at first.0.1 first.1))) (x, r) e in
    let f = first_takes text ws b.0.0 b.0.1 b.1 in
    let c = compound_of_some joint (with_front b.0.0.0 (tests_at b.0.0.1 b.0.1)) x r b.2 in
    let z = with_front_some b.0.0.0 (tests_at b.0.0.1 b.0.1) c.0.0 c.0.1 c.1 in
    let g = many_takes ends_compound compound_item_at (IsNextItem text) text (next_item_takes text)
    (suc (length f.rest)) b.0.0.1 f.rest z.0.0 z.0.1 (ap (λ (s : WordReading). tests_at b.0.0.1 s) (sym f.goes_on) ∙ z.1) in
    record {
      front = f.front ++ g.front;
      rest = g.rest;
      item = c.0.0;
      words = f.words ∙ ap (λ (vs : List Word). f.front ++ vs) g.words ∙ sym (append_assoc f.front g.front g.rest);
      goes_on = sym c.3 ∙ sym z.3 ∙ g.goes_on;
      form = record {
        front = f.front;
        rest = g.front;
        first = b.0.0;
        others = z.0.0;
        words = refl;
        is_first = f.form;
        run = g.form;
        whole = sym z.2;
      };
      whole = sym c.2;
      stop = ap ends_compound (sym (z.3 ∙ c.3)) ∙ g.stop;
    }

joint_cases : (text : List ℕ) (w : Word) (ws : List Word) (joint : Joint) (r : WordReading) (o : Option Joint) (b : Bool)
    → combinator_of w.kind ≡ o → w.spaced ≡ b → joint_of (word_reading text (w ∷ ws)) (word_reading text ws) o b ≡ Some (joint, r)
    → ((combinator_of w.kind ≡ Some joint) × (r ≡ word_reading text ws))
    ⊎ ((w.spaced ≡ true) × (joint ≡ joints.Descendant) × (r ≡ word_reading text (w ∷ ws)))
joint_cases text w ws joint r (Some j) b k s e =
    let same = some_is {A = Joint × WordReading} (j, word_reading text ws) (joint, r) e in
    inl (k ∙ ap (λ (p : Joint × WordReading). one p.0) same, sym (ap (λ (p : Joint × WordReading). p.1) same))
  where
    one : Joint → Option Joint
    one x = Some x
joint_cases text w ws joint r None true k s e =
    let same = some_is {A = Joint × WordReading} (joints.Descendant, word_reading text (w ∷ ws)) (joint, r) e in
    inr (s, sym (ap (λ (p : Joint × WordReading). p.0) same), sym (ap (λ (p : Joint × WordReading). p.1) same))
joint_cases text w ws joint r None false k s e = absurd (none_some (joint, r) e)

-- the first word of a compound's words
record Begins (front : List Word) : Type 0 where
  w : Word
  tail : List Word
  words : front ≡ w ∷ tail

compound_begins : (text : List ℕ) (front : List Word) (x : Item) → IsCompound text front x → Begins front
compound_begins text front x c =
    let r = first_begins text c.front c.first c.is_first in
    record { w = r.0; tail = r.1 ++ c.rest; words = c.words ∙ ap (λ (vs : List Word). vs ++ c.rest) r.2 }

white_joined : (text : List ℕ) (w : Word) (ws front rest : List Word) (joint : Joint) → w ∷ ws ≡ front ++ rest → Begins front
    → w.spaced ≡ true → joint ≡ joints.Descendant → IsCombinator [] front joint
white_joined text w ws front rest joint words b spaced is_white =
    let F : List Word → Type 0 = λ vs. IsCombinator [] vs joint in
    let J : Joint → Type 0 = λ j. IsCombinator [] (b.w ∷ b.tail) j in
    let first : w.spaced ≡ b.w.spaced = ap first_spaced (words ∙ ap (λ (vs : List Word). vs ++ rest) b.words) in
    subst F (sym b.words) (subst J (sym is_white) (white b.w b.tail (sym first ∙ spaced)))

joined_takes : (text : List ℕ) (ws : List Word) (x : Joined) (r : WordReading) → ends_selector (word_reading text ws) ≡ false
    → joined_at (word_reading text ws) ≡ Some (x, r) → Found (IsJoined text) text ws x r
unfolding joined_at joint_at
joined_takes text [] x r go e = absurd (none_some (x, r) e)
joined_takes text (w ∷ ws) x r go e =
    let b = bind_some (joint_at (word_reading text (w ∷ ws))) (λ j. compound_at j.0 j.1) (x, r) e in
    by_case b.0.0 b.0.1 b.2 (joint_cases text w ws b.0.0 b.0.1 (combinator_of w.kind) w.spaced refl refl b.1)
  where
    by_case : (joint : Joint) (s : WordReading) → compound_at joint s ≡ Some (x, r)
        → ((combinator_of w.kind ≡ Some joint) × (s ≡ word_reading text ws))
        ⊎ ((w.spaced ≡ true) × (joint ≡ joints.Descendant) × (s ≡ word_reading text (w ∷ ws))) → Found (IsJoined text) text (w ∷ ws) x r
    by_case joint s found (inl h) =
        let c = compound_takes text joint ws x r (ap (λ (q : WordReading). compound_at joint q) (sym h.1) ∙ found) in
        record {
          front = w ∷ c.front;
          rest = c.rest;
          words = ap (λ (vs : List Word). w ∷ vs) c.words;
          goes_on = c.goes_on;
          form = record {
            combinator = w ∷ [];
            compound = c.front;
            joint = joint;
            item = c.item;
            words = refl;
            is_combinator = mark w c.front joint h.0;
            is_compound = c.form;
            whole = c.whole;
          };
        }
    by_case joint s found (inr h) =
        let c = compound_takes text joint (w ∷ ws) x r (ap (λ (q : WordReading). compound_at joint q) (sym h.2) ∙ found) in
        record {
          front = c.front;
          rest = c.rest;
          words = c.words;
          goes_on = c.goes_on;
          form = record {
            combinator = [];
            compound = c.front;
            joint = joint;
            item = c.item;
            words = refl;
            is_combinator = white_joined text w ws c.front c.rest joint c.words (compound_begins text c.front c.item c.form) h.0 h.1;
            is_compound = c.form;
            whole = c.whole;
          };
        }

-- ---- selectors and lists

no_more : (ws : List Word) → is_over ws ≡ true → ws ≡ []
no_more [] e = refl
no_more (w ∷ ws) e = absurd (cc)

selector_takes : (text : List ℕ) (all : List Word) (s : SelectorForm) → selector_of (word_reading text all) ≡ Some s → IsSelector text all s
unfolding selector_of joined_of compounds_at
selector_takes text all s e =
    let a = bind_some (range_of all)
    (λ range. joined_of (word_reading text all) >>= λ whole. some_selector (selector_form range whole.0)) s e in
    let b = bind_some (joined_of (word_reading text all)) (λ whole. some_selector (selector_form a.0 whole.0)) s a.2 in
    let is_s = some_is {A = SelectorForm} (selector_form a.0 b.0.0) s b.2 in
    let c = bind_some (compound_at joints.Descendant (word_reading text all))
    (λ first. with_front first.0.0 (compounds_at first.0.1 first.1)) b.0 b.1 in
    let k = compound_takes text joints.Descendant all c.0.0 c.0.1 c.1 in
    let z = with_front_some c.0.0.0 (compounds_at c.0.0.1 c.0.1) b.0.0 b.0.1 c.2 in
    let g = many_takes ends_selector joined_at (IsJoined text) text (joined_takes text) (suc (length k.rest)) c.0.0.1 k.rest z.0.0 z.0.1
    (ap (λ (q : WordReading). compounds_at c.0.0.1 q) (sym k.goes_on) ∙ z.1) in
    let over : g.rest ≡ [] = no_more g.rest (ap ends_selector (sym g.goes_on) ∙ g.stop) in
    let B : Bool → Type 0 = λ v. Run (IsJoined text) v g.front z.0.0 in
    let cs : b.0.0.0 ≡ compound_form joints.Descendant k.item.0
    ∷ z.0.0.0 = ap (λ (j : Joined). j.0) (sym z.2) ∙ ap (λ (j : Joined). j.0 ++ z.0.0.0) k.whole in
    record {
      compound = k.front;
      rest = g.front;
      first = k.item;
      others = z.0.0;
      words = k.words ∙ ap (λ (vs : List Word). k.front ++ vs) (g.words ∙ ap (λ (vs : List Word). g.front ++ vs) over ∙ append-nil g.front);
      is_compound = k.form;
      run = subst B (ap (λ (j : Joined). j.1) k.whole) g.form;
      compounds = ap (λ (f : SelectorForm). f.compounds) (sym is_s) ∙ cs;
      element = ap (λ (f : SelectorForm). f.pseudo_element) (sym is_s) ∙ ap (λ (j : Joined). j.1) (sym z.2);
      range = a.1 ∙ ap (λ (f : SelectorForm). some_range f.range) is_s;
    }
  where
    some_selector : SelectorForm → Option SelectorForm
    some_selector x = Some x

    some_range : Range → Option Range
    some_range x = Some x

put_before_some : (s : SelectorForm) (o : Option (List SelectorForm)) (ss : List SelectorForm) → selector_before s o ≡ Some ss
    → (xs : List SelectorForm) × (o ≡ Some xs) × ((s ∷ xs) ≡ ss)
put_before_some s None ss e = absurd (none_some ss e)
put_before_some s (Some xs) ss e = (xs, refl, some_is (s ∷ xs) ss e)

pub list_takes : (text : List ℕ) (segs : List (List Word)) (ss : List SelectorForm) → selectors_in text segs ≡ Some ss
    → AreSelectors text segs ss
unfolding selectors_in
list_takes text [] ss e =
    let P : List SelectorForm → Type 0 = λ xs. AreSelectors text [] xs in
    subst P (some_is [] ss e) tt
list_takes text (own ∷ others) ss e =
    let b = bind_some (selector_of (word_reading text own)) (λ s. selector_before s (selectors_in text others)) ss e in
    let p = put_before_some b.0 (selectors_in text others) ss b.2 in
    let P : List SelectorForm → Type 0 = λ xs. AreSelectors text (own ∷ others) xs in
    subst P p.2 (selector_takes text own b.0 b.1, list_takes text others p.0 p.1)

pub grammar_spells : (text : List ℕ) (ss : List SelectorForm) → selectors_of text ≡ Some ss → IsSelectorList text ss
grammar_spells text ss h = list_takes text (segments (words_of text)) ss h

-- the list that was read is spelled
pub read_is_spelled : (r : Result SelectorList SelErr) (text : List ℕ) → GivesRead list_seen r (selectors_of text)
    → IfOk r (λ l. IsSelectorList text (list_seen l))
read_is_spelled (Ok l) text read = grammar_spells text (list_seen l) read
read_is_spelled (Err e) text read = tt
