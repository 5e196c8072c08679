-- What the grammar spells, the reader reads.
use Rattle.std.proofs.Common.{◌≡◌, ℕ, zero, suc, ◌+◌, ◌<◌, Bool, true, false, not, cond, List, [], ◌∷◌, ◌++◌, length, Option, Some, None}
use Rattle.std.proofs.Common.{refl, sym, ap, subst, ◌∙◌, append_assoc, append-nil, length-append, arith}
use Rattle.std.specs.Prelude.{codes, ◌==◌, ◌&&◌, ◌||◌, ℤ, map, is_some, Result, IsErrOf}
use Rattle.std.specs.List.{AllByRecursion}
use Rattle.std.specs.Char.{to_ascii_lowercase}
use Rattle.std.proofs.lemmas.Slice.Eq.{bytes_eq-Decides}
use Rattle.std.proofs.lemmas.Bool.{eqb-true, eq-eqb}
use Rattle.selectors.specs.declared.words.Word.{Word}
use Rattle.selectors.specs.declared.words.WordKind.{WordKind}
use Rattle.selectors.specs.declared.words.WordKind.TheVariants.{Ident, Function, Id, Mark}
use Rattle.css_tokens.specs.declared.token.Range.{Range}
use Rattle.selectors.specs.declared.selector.AttrOp.{AttrOp}
use Rattle.selectors.specs.declared.selector.AttrOp.TheVariants as ops
use Rattle.selectors.specs.declared.selector.NthKind.{NthKind}
use Rattle.selectors.specs.Words.{WordReading, word_reading, is_mark, between, words_of}
use Rattle.selectors.specs.Forms.{TestForm, id, class, attr, nth, never, is, is_not, CompoundForm, compound_form, SelectorForm, GivesRead}
use Rattle.selectors.specs.Forms.{◌>>=◌}
use Rattle.selectors.specs.declared.selector.SelErr.{SelErr}
use Rattle.selectors.specs.declared.selector.SelErr.TheVariants.{Invalid}
use Rattle.selectors.specs.declared.selector.SelectorList.{SelectorList}
use Rattle.selectors.specs.Lists.{list_seen}
use Rattle.selectors.specs.Nth.{nth_of}
use Rattle.selectors.specs.Parts.{many_in, with_front}
use Rattle.selectors.specs.declared.selector.Joint.{Joint}
use Rattle.selectors.specs.declared.selector.Joint.TheVariants as joints
use Rattle.selectors.specs.Reading.{word_value, hash_value, string_of, lower_of, function_of, operator_of, pseudo_class, is_never}
use Rattle.selectors.specs.Reading.{is_pseudo_element, nth_kind, is_named, Item, ident_at, tight_ident_at, take_mark, tight_mark_at}
use Rattle.selectors.specs.Reading.{with_rest, ident_value, Joined, compound_of, tests_at, compound_at, joint_of, joint_at, joined_at}
use Rattle.selectors.specs.Reading.{ends_compound, ends_selector, compounds_at, joined_of, selector_form, selector_of, segments}
use Rattle.selectors.specs.Reading.{selectors_in, selector_before, selectors_of, operator_at, equals_at, operand_at, operand_by, exists_at}
use Rattle.selectors.specs.Reading.{compare_at, attribute_after, attribute_at, first_is, closing, nth_at, lang_at, function_at, plain_by}
use Rattle.selectors.specs.Reading.{plain_from, named_at, called_at, pseudo_by, pseudo_at, argument_by, argument_from, argument_at, not_at}
use Rattle.selectors.specs.Reading.{element_at, colon_by, colon_at, item_is, item_is_not, item_from, compound_item_at, first_by, first_from}
use Rattle.selectors.specs.Reading.{first_part_at, combinator_of}
use Rattle.selectors.specs.Grammar.{IsOperator, equal, other, IsOperand, ident, string, IsTest, by_id, by_class, by_exists, by_compare}
use Rattle.selectors.specs.Grammar.{by_pseudo, by_nth, by_lang, IsArgument, a_tag, a_any, a_test, one_colon, two_colons, IsCompoundItem}
use Rattle.selectors.specs.Grammar.{item_test, item_not, item_element, IsFirst, first_tag, first_any, first_item, Run, done, more, IsTight}
use Rattle.selectors.specs.Grammar.{IsNextItem, IsCompound, IsCombinator, mark, white, IsJoined, IsSelector, AreSelectors, IsSelectorList}
use Rattle.selectors.proofs.NthAgain.{nth_reads}
use Rattle.selectors.proofs.Choices.{none_some}

-- ---- names

named_is : (word name : List ℕ) → is_named word name ≡ true → name ≡ word
named_is word name e = (bytes_eq-Decides name word).0 e

apart_by : {A : Type 0} (b : Bool) (f : List ℕ → Option A) (word name : List ℕ) (x : A) → is_named word name ≡ b → f word ≡ None
    → f name ≡ Some x → is_named word name ≡ false
apart_by true f word name x e lacks has = absurd (none_some x (sym (ap f (named_is word name e) ∙ lacks) ∙ has))
apart_by false f word name x e lacks has = e

-- a name that one table has is no word that it lacks
apart : {A : Type 0} (f : List ℕ → Option A) (word name : List ℕ) (x : A) → f word ≡ None → f name ≡ Some x → is_named word name ≡ false
apart f word name x lacks has = apart_by (is_named word name) f word name x refl lacks has

-- ---- words

ident_again : (text : List ℕ) (w : Word) (rest : List Word) → w.kind ≡ Ident
    → ident_at (word_reading text (w ∷ rest)) ≡ Some (word_value text w, word_reading text rest)
unfolding ident_at
ident_again text w rest e = ap (λ (k : WordKind). with_rest (ident_value (word_value text w) k) (word_reading text rest)) e

tight_again : (text : List ℕ) (w : Word) (rest : List Word) → w.kind ≡ Ident → w.spaced ≡ false
    → tight_ident_at (word_reading text (w ∷ rest)) ≡ Some (word_value text w, word_reading text rest)
tight_again text w rest e tight = ap
    (λ (b : Bool). cond (not b) (ident_at (word_reading text (w ∷ rest))) None) tight ∙ ident_again text w rest e

abbrev some_reading : WordReading → Option WordReading
some_reading r = Some r

mark_again : (c : ℕ) (text : List ℕ) (w : Word) (rest : List Word) → (c == c) ≡ true → w.kind ≡ Mark c
    → take_mark c (word_reading text (w ∷ rest)) ≡ Some (word_reading text rest)
mark_again c text w rest same e =
    ap (λ (k : WordKind). cond (is_mark c k) (some_reading (word_reading text rest)) None) e
    ∙ ap (λ (b : Bool). cond b (some_reading (word_reading text rest)) None) same

tight_mark_again : (c : ℕ) (text : List ℕ) (w : Word) (rest : List Word) → (c == c) ≡ true → w.kind ≡ Mark c → w.spaced ≡ false
    → tight_mark_at c (word_reading text (w ∷ rest)) ≡ Some (word_reading text rest)
tight_mark_again c text w rest same e tight = ap
    (λ (b : Bool). cond (not b) (take_mark c (word_reading text (w ∷ rest))) None) tight ∙ mark_again c text w rest same e

-- ---- attribute selectors

no_equals_by : (b : Bool) (c : ℕ) (op : AttrOp) → (c == 61) ≡ b → operator_of (Mark c) ≡ Some op → (c == 61) ≡ false
no_equals_by true c op e h = absurd (none_some op (ap (λ (d : ℕ). operator_of (Mark d)) (sym (eqb-true c 61 e)) ∙ h))
no_equals_by false c op e h = e

no_equals : (k : WordKind) (op : AttrOp) → operator_of k ≡ Some op → is_mark 61 k ≡ false
no_equals (Mark c) op h = no_equals_by (c == 61) c op refl h
no_equals _ op h = refl

no_bracket_by : (b : Bool) (c : ℕ) (op : AttrOp) → (c == 93) ≡ b → operator_of (Mark c) ≡ Some op → (c == 93) ≡ false
no_bracket_by true c op e h = absurd (none_some op (ap (λ (d : ℕ). operator_of (Mark d)) (sym (eqb-true c 93 e)) ∙ h))
no_bracket_by false c op e h = e

no_bracket : (k : WordKind) (op : AttrOp) → operator_of k ≡ Some op → is_mark 93 k ≡ false
no_bracket (Mark c) op h = no_bracket_by (c == 93) c op refl h
no_bracket _ op h = refl

abbrev Op : Type 0
Op = Option (AttrOp × WordReading)

abbrev some_op : AttrOp → WordReading → Op
some_op op r = Some (op, r)

operator_again : (text : List ℕ) (front rest : List Word) (op : AttrOp) → IsOperator front op
    → operator_at (word_reading text (front ++ rest)) ≡ Some (op, word_reading text rest)
unfolding operator_at
operator_again text front rest op (equal w e) =
    ap (λ (k : WordKind). cond (is_mark 61 k) (some_op ops.Equal (word_reading text rest))
    (operator_of k >>= λ o. equals_at w o (word_reading text rest))) e
operator_again text front rest op (other w second op' known e adjacent) =
    let r = word_reading text (second ∷ rest) in
    ap (λ (b : Bool). cond b (some_op ops.Equal r) (operator_of w.kind >>= λ o. equals_at w o r)) (no_equals w.kind op' known)
    ∙ ap (λ (o : Option AttrOp). o >>= λ p. equals_at w p r) known
    ∙ ap (λ (k : WordKind). cond (is_mark 61 k && second.start == w.end) (some_op op' (word_reading text rest)) None) e
    ∙ ap (λ (b : Bool). cond b (some_op op' (word_reading text rest)) None) (ap (λ (n : ℕ). n == w.end) adjacent ∙ eq-eqb w.end w.end refl)

operand_again : (text : List ℕ) (w : Word) (rest : List Word) (v : List ℕ) → IsOperand text w v
    → operand_at (word_reading text (w ∷ rest)) ≡ Some (v, word_reading text rest)
unfolding operand_at
operand_again text w rest v (ident text' w' e) = ap
    (λ (k : WordKind). with_rest (operand_by (word_value text w) (string_of text w) k) (word_reading text rest)) e
operand_again text w rest v (string text' w' e) = ap
    (λ (k : WordKind). with_rest (operand_by (word_value text w) (string_of text w) k) (word_reading text rest)) e

operator_first : (text : List ℕ) (front rest : List Word) (op : AttrOp) → IsOperator front op
    → first_is (λ w. is_mark 93 w.kind) (front ++ rest) ≡ false
operator_first text front rest op (equal w e) = ap (λ (k : WordKind). is_mark 93 k) e
operator_first text front rest op (other w second op' known e adjacent) = no_bracket w.kind op' known

abbrev Test' : Type 0
Test' = Option (TestForm × WordReading)

abbrev some_test : TestForm → WordReading → Test'
some_test t r = Some (t, r)

exists_again : (text : List ℕ) (name close : Word) (rest : List Word) → name.kind ≡ Ident → close.kind ≡ Mark 93
    → attribute_at (word_reading text (name ∷ close ∷ rest)) ≡ Some (attr (word_value text name) ops.Exists [], word_reading text rest)
unfolding attribute_at
exists_again text name close rest e f =
    let v = word_value text name in
    let r = word_reading text (close ∷ rest) in
    ap (λ (o : Option (List ℕ × WordReading)). o >>= λ x. attribute_after x.0 x.1) (ident_again text name (close ∷ rest) e)
    ∙ ap (λ (k : WordKind). cond (is_mark 93 k) (exists_at v r) (compare_at v r)) f
    ∙ ap (λ (o : Option WordReading). o >>= λ x. some_test (attr v ops.Exists []) x) (mark_again 93 text close rest refl f)

compare_again : (text : List ℕ) (name value close : Word) (operator rest : List Word) (op : AttrOp) (operand : List ℕ) → name.kind ≡ Ident
    → IsOperator operator op → IsOperand text value operand → close.kind ≡ Mark 93
    → attribute_at (word_reading text (name ∷ (operator ++ value ∷ close ∷ rest)))
    ≡ Some (attr (word_value text name) op operand, word_reading text rest)
unfolding attribute_at
compare_again text name value close operator rest op operand e is_op is_value f =
    let v = word_value text name in
    let r = word_reading text (operator ++ value ∷ close ∷ rest) in
    ap (λ (o : Option (List ℕ × WordReading)). o >>= λ x. attribute_after x.0 x.1)
    (ident_again text name (operator ++ value ∷ close ∷ rest) e)
    ∙ ap (λ (b : Bool). cond b (exists_at v r) (compare_at v r)) (operator_first text operator (value ∷ close ∷ rest) op is_op)
    ∙ ap (λ (o : Op). o >>= λ p. operand_at p.1 >>= λ q. take_mark 93 q.1 >>= λ x. some_test (attr v p.0 q.0) x)
    (operator_again text operator (value ∷ close ∷ rest) op is_op)
    ∙ ap (λ (o : Option (List ℕ × WordReading)). o >>= λ q. take_mark 93 q.1 >>= λ x. some_test (attr v op q.0) x)
    (operand_again text value (close ∷ rest) operand is_value)
    ∙ ap (λ (o : Option WordReading). o >>= λ x. some_test (attr v op operand) x) (mark_again 93 text close rest refl f)

-- ---- simple selectors

-- What a simple selector is read as, at each of the three places where it may stand.
record TestRead (text : List ℕ) (front : List Word) (t : TestForm) : Type 0 where
  w : Word
  tail : List Word
  words : front ≡ w ∷ tail
  no_combinator : combinator_of w.kind ≡ None
  first : (r : WordReading) → first_from w r ≡ item_from w r
  argument : (rest : List Word) → argument_from w (word_reading text (tail ++ rest)) ≡ Some (t, word_reading text rest)
  item : (rest : List Word) → item_from w (word_reading text (tail ++ rest)) ≡ Some ((is t ∷ [], false), word_reading text rest)

plain_read : (text : List ℕ) (w : Word) (tail : List Word) (t : TestForm) (k : WordKind) → w.kind ≡ k → combinator_of k ≡ None
    → ((r : WordReading) → first_by w r k ≡ item_from w r) → ((r : WordReading) → argument_by w r k ≡ plain_from w r) → is_mark 58 k ≡ false
    → ((rest : List Word) → plain_from w (word_reading text (tail ++ rest)) ≡ Some (t, word_reading text rest)) → TestRead text (w ∷ tail) t
unfolding first_from argument_from item_from
plain_read text w tail t k e no_combinator first argument no_colon plain = record {
  w = w;
  tail = tail;
  words = refl;
  no_combinator = ap combinator_of e ∙ no_combinator;
  first = λ r. ap (λ (x : WordKind). first_by w r x) e ∙ first r;
  argument = λ rest. ap (λ (x : WordKind). argument_by w (word_reading text (tail ++ rest)) x) e ∙ argument
      (word_reading text (tail ++ rest)) ∙ plain rest;
  item = λ rest. ap (λ (b : Bool). cond b (colon_at (word_reading text (tail ++ rest)))
      (item_is (plain_from w (word_reading text (tail ++ rest))))) (ap (is_mark 58) e ∙ no_colon) ∙ ap item_is (plain rest);
}

colon_read : (text : List ℕ) (w : Word) (tail : List Word) (t : TestForm) → w.kind ≡ Mark 58
    → ((rest : List Word) → pseudo_at (word_reading text (tail ++ rest)) ≡ Some (t, word_reading text rest))
    → ((rest : List Word) → colon_at (word_reading text (tail ++ rest)) ≡ Some ((is t ∷ [], false), word_reading text rest))
    → TestRead text (w ∷ tail) t
unfolding first_from argument_from item_from
colon_read text w tail t e pseudo colon = record {
  w = w;
  tail = tail;
  words = refl;
  no_combinator = ap combinator_of e;
  first = λ r. ap (λ (x : WordKind). first_by w r x) e;
  argument = λ rest. ap (λ (x : WordKind). argument_by w (word_reading text (tail ++ rest)) x) e ∙ pseudo rest;
  item = λ rest. ap (λ (k : WordKind). cond (is_mark 58 k) (colon_at (word_reading text (tail ++ rest)))
      (item_is (plain_from w (word_reading text (tail ++ rest))))) e ∙ colon rest;
}

class_again : (text : List ℕ) (dot name : Word) (rest : List Word) → dot.kind ≡ Mark 46 → name.kind ≡ Ident → name.spaced ≡ false
    → plain_from dot (word_reading text (name ∷ rest)) ≡ Some (class (word_value text name), word_reading text rest)
unfolding plain_from
class_again text dot name rest e f tight =
    ap (λ (k : WordKind). plain_by dot (word_reading text (name ∷ rest)) k) e
    ∙ ap (λ (o : Option (List ℕ × WordReading)). o >>= λ n. some_test (class n.0) n.1) (tight_again text name rest f tight)

bracket_again : (text : List ℕ) (w : Word) (r : WordReading) (x : Test') → w.kind ≡ Mark 91 → attribute_at r ≡ x → plain_from w r ≡ x
unfolding plain_from
bracket_again text w r x e found = ap (λ (k : WordKind). plain_by w r k) e ∙ found

-- ---- pseudo-classes

closing_again : (argument : List Word) (close : Word) (rest : List Word) → AllByRecursion (λ w. is_mark 41 w.kind ≡ false) argument
    → close.kind ≡ Mark 41 → closing (argument ++ close ∷ rest) ≡ Some (close, rest)
unfolding closing
closing_again [] close rest none e = ap (λ (k : WordKind). cond (is_mark 41 k) (some_word close rest) (closing rest)) e
  where
    some_word : Word → List Word → Option (Word × List Word)
    some_word w ws = Some (w, ws)
closing_again (w ∷ ws) close rest none e = ap
    (λ (b : Bool). cond b (some_word w (ws ++ close ∷ rest)) (closing (ws ++ close ∷ rest))) none.0 ∙ closing_again ws close rest none.1 e
  where
    some_word : Word → List Word → Option (Word × List Word)
    some_word v vs = Some (v, vs)

nth_again : (text : List ℕ) (kind : NthKind) (start : ℕ) (argument rest : List Word) (close : Word) (v : ℤ × ℤ)
    → AllByRecursion (λ w. is_mark 41 w.kind ≡ false) argument → close.kind ≡ Mark 41 → nth_of (between text start close.start) ≡ Some v
    → nth_at kind start (word_reading text (argument ++ close ∷ rest)) ≡ Some (nth kind v.0 v.1, word_reading text rest)
unfolding nth_at
nth_again text kind start argument rest close v none e value =
    ap (λ (o : Option (Word × List Word)). (o >>= λ x. some_close x.0 (word_reading text x.1)) >>= λ c. nth_of
    (between text start c.0.start) >>= λ u. some_test (nth kind u.0 u.1) c.1) (closing_again argument close rest none e)
    ∙ ap (λ (o : Option (ℤ × ℤ)). o >>= λ u. some_test (nth kind u.0 u.1) (word_reading text rest)) value
  where
    some_close : Word → WordReading → Option (Word × WordReading)
    some_close w r = Some (w, r)

lang_again : (text : List ℕ) (language close : Word) (rest : List Word) → language.kind ≡ Ident → language.spaced ≡ false
    → close.kind ≡ Mark 41 → close.spaced ≡ false
    → lang_at (word_reading text (language ∷ close ∷ rest)) ≡ Some (never, word_reading text rest)
unfolding lang_at
lang_again text language close rest e tight f closed =
    ap (λ (o : Option (List ℕ × WordReading)). o >>= λ i. tight_mark_at 41 i.1 >>= λ x. some_test never x)
    (tight_again text language (close ∷ rest) e tight)
    ∙ ap (λ (o : Option WordReading). o >>= λ x. some_test never x) (tight_mark_again 41 text close rest refl f closed)

not_element : (name : List ℕ) (t : TestForm) → pseudo_class name ≡ Some t → is_pseudo_element name ≡ false
unfolding is_pseudo_element pseudo_class is_never
not_element name t h =
    let before = apart pseudo_class (codes "before") name t refl h in
    let after = apart pseudo_class (codes "after") name t refl h in
    let line = apart pseudo_class (codes "first-line") name t refl h in
    let letter = apart pseudo_class (codes "first-letter") name t refl h in
    rw (before, after, line, letter) refl

nth_no_lang : (name : List ℕ) (kind : NthKind) → nth_kind name ≡ Some kind → is_named (codes "lang") name ≡ false
unfolding nth_kind
nth_no_lang name kind h = apart nth_kind (codes "lang") name kind refl h

nth_no_not : (name : List ℕ) (kind : NthKind) → nth_kind name ≡ Some kind → is_named (codes "not") name ≡ false
unfolding nth_kind
nth_no_not name kind h = apart nth_kind (codes "not") name kind refl h

lang_no_not : (name : List ℕ) → is_named (codes "lang") name ≡ true → is_named (codes "not") name ≡ false
lang_no_not name h = ap (is_named (codes "not")) (named_is (codes "lang") name h)

pseudo_named : (text : List ℕ) (name : Word) (rest : List Word) (t : TestForm) → name.kind ≡ Ident → name.spaced ≡ false
    → pseudo_class (lower_of text name) ≡ Some t → pseudo_at (word_reading text (name ∷ rest)) ≡ Some (t, word_reading text rest)
unfolding pseudo_at
pseudo_named text name rest t e tight h =
    let r = word_reading text rest in
    ap (λ (b : Bool). cond b None (pseudo_by name r name.kind)) tight
    ∙ ap (λ (k : WordKind). pseudo_by name r k) e
    ∙ ap (λ (o : Option TestForm). with_rest o r) h

abbrev Items : Type 0
Items = Option (Item × WordReading)

colon_named_again : (text : List ℕ) (name : Word) (rest : List Word) (t : TestForm) → name.kind ≡ Ident → name.spaced ≡ false
    → pseudo_class (lower_of text name) ≡ Some t
    → colon_at (word_reading text (name ∷ rest)) ≡ Some ((is t ∷ [], false), word_reading text rest)
unfolding colon_at
colon_named_again text name rest t e tight h =
    let r = word_reading text rest in
    ap (λ (b : Bool). cond b None (colon_by name r name.kind)) tight
    ∙ ap (λ (k : WordKind). colon_by name r k) e
    ∙ ap (λ (b : Bool). cond b (element_item r) (item_is (named_at name r))) (not_element (lower_of text name) t h)
    ∙ ap (λ (o : Option TestForm). item_is (with_rest o r)) h
  where
    element_item : WordReading → Items
    element_item x = Some (([], true), x)

pseudo_called : (text : List ℕ) (function : Word) (ws : List Word) (x : Test') → function.kind ≡ Function → function.spaced ≡ false
    → function_at (function_of text function) function.end (word_reading text ws) ≡ x → pseudo_at (word_reading text (function ∷ ws)) ≡ x
unfolding pseudo_at
pseudo_called text function ws x e tight found =
    let r = word_reading text ws in
    ap (λ (b : Bool). cond b None (pseudo_by function r function.kind)) tight
    ∙ ap (λ (k : WordKind). pseudo_by function r k) e
    ∙ found

colon_called_again : (text : List ℕ) (function : Word) (ws : List Word) (x : Test') → function.kind ≡ Function → function.spaced ≡ false
    → is_named (codes "not") (function_of text function) ≡ false
    → function_at (function_of text function) function.end (word_reading text ws) ≡ x
    → colon_at (word_reading text (function ∷ ws)) ≡ item_is x
unfolding colon_at
colon_called_again text function ws x e tight other_name found =
    let r = word_reading text ws in
    ap (λ (b : Bool). cond b None (colon_by function r function.kind)) tight
    ∙ ap (λ (k : WordKind). colon_by function r k) e
    ∙ ap (λ (b : Bool). cond b (item_is_not (not_at r)) (item_is (called_at function r))) other_name
    ∙ ap item_is found

function_nth : (name : List ℕ) (start : ℕ) (r : WordReading) (kind : NthKind) (x : Test') → nth_kind name ≡ Some kind
    → nth_at kind start r ≡ x → function_at name start r ≡ x
unfolding function_at
function_nth name start r kind x h found =
    ap (λ (b : Bool). cond b (lang_at r) (nth_kind name >>= λ k. nth_at k start r)) (nth_no_lang name kind h)
    ∙ ap (λ (o : Option NthKind). o >>= λ k. nth_at k start r) h
    ∙ found

function_lang : (name : List ℕ) (start : ℕ) (r : WordReading) (x : Test') → is_named (codes "lang") name ≡ true → lang_at r ≡ x
    → function_at name start r ≡ x
unfolding function_at
function_lang name start r x h found = ap (λ (b : Bool). cond b (lang_at r) (nth_kind name >>= λ k. nth_at k start r)) h ∙ found

id_again : (text : List ℕ) (w : Word) (rest : List Word) → w.kind ≡ Id
    → plain_from w (word_reading text rest) ≡ Some (id (hash_value text w), word_reading text rest)
unfolding plain_from
id_again text w rest e = ap (λ (k : WordKind). plain_by w (word_reading text rest) k) e

retitle : (text : List ℕ) (all front : List Word) (t : TestForm) → all ≡ front → TestRead text front t → TestRead text all t
retitle text all front t e r = record {
  w = r.w;
  tail = r.tail;
  words = e ∙ r.words;
  no_combinator = r.no_combinator;
  first = r.first;
  argument = r.argument;
  item = r.item;
}

compare_read : (text : List ℕ) (ob name value close : Word) (operator rest : List Word) (op : AttrOp) (operand : List ℕ)
    → ob.kind ≡ Mark 91 → name.kind ≡ Ident → IsOperator operator op → IsOperand text value operand → close.kind ≡ Mark 93
    → plain_from ob (word_reading text (name ∷ ((operator ++ value ∷ close ∷ []) ++ rest)))
    ≡ Some (attr (word_value text name) op operand, word_reading text rest)
compare_read text ob name value close operator rest op operand e f is_op is_value g =
    ap (λ (ws : List Word). plain_from ob (word_reading text (name ∷ ws))) (append_assoc operator (value ∷ close ∷ []) rest)
    ∙ bracket_again text ob (word_reading text (name ∷ (operator ++ value ∷ close ∷ rest)))
    (some_test (attr (word_value text name) op operand) (word_reading text rest)) e
    (compare_again text name value close operator rest op operand f is_op is_value g)

nth_read : (text : List ℕ) (function close : Word) (argument rest : List Word) (kind : NthKind) (v : ℤ × ℤ)
    → nth_kind (function_of text function) ≡ Some kind → AllByRecursion (λ w. is_mark 41 w.kind ≡ false) argument → close.kind ≡ Mark 41
    → nth_of (between text function.end close.start) ≡ Some v
    → function_at (function_of text function) function.end (word_reading text ((argument ++ close ∷ []) ++ rest))
    ≡ Some (nth kind v.0 v.1, word_reading text rest)
nth_read text function close argument rest kind v h none e value =
    ap (λ (ws : List Word). function_at (function_of text function) function.end (word_reading text ws))
    (append_assoc argument (close ∷ []) rest)
    ∙ function_nth (function_of text function) function.end (word_reading text (argument ++ close ∷ rest)) kind
    (some_test (nth kind v.0 v.1) (word_reading text rest)) h (nth_again text kind function.end argument rest close v none e value)

test_read : (text : List ℕ) (front : List Word) (t : TestForm) → IsTest text front t → TestRead text front t
test_read text front t (by_id text' w e) = plain_read text w [] (id (hash_value text w)) Id e refl (λ r. refl) (λ r. refl) refl
    (λ rest. id_again text w rest e)
test_read text front t (by_class text' dot name e f tight) = plain_read text dot (name ∷ []) (class (word_value text name))
    (Mark 46) e refl (λ r. refl) (λ r. refl) refl (λ rest. class_again text dot name rest e f tight)
test_read text front t (by_exists text' ob name close e f g) =
    plain_read text ob (name ∷ close ∷ []) (attr (word_value text name) ops.Exists []) (Mark 91) e refl (λ r. refl) (λ r. refl) refl
    (λ rest. bracket_again text ob (word_reading text (name ∷ close ∷ rest))
    (some_test (attr (word_value text name) ops.Exists []) (word_reading text rest)) e (exists_again text name close rest f g))
test_read text front t (by_compare text' ob name value close operator all op operand same e f is_op is_value g) =
    retitle text all (ob ∷ name ∷ (operator ++ value ∷ close ∷ [])) (attr (word_value text name) op operand) same
    (plain_read text ob (name ∷ (operator ++ value ∷ close ∷ [])) (attr (word_value text name) op operand) (Mark 91) e refl (λ r. refl)
    (λ r. refl) refl
    (λ rest. compare_read text ob name value close operator rest op operand e f is_op is_value g))
test_read text front t (by_pseudo text' colon name t' e f tight h) =
    colon_read text colon (name ∷ []) t e (λ rest. pseudo_named text name rest t f tight h)
    (λ rest. colon_named_again text name rest t f tight h)
test_read text front t (by_nth text' colon function close argument all kind step offset same e f tight h none g says) =
    let u = nth kind step offset in
    let value = nth_reads (between text function.end close.start) step offset says in
    retitle text all (colon ∷ function ∷ (argument ++ close ∷ [])) u same
    (colon_read text colon (function ∷ (argument ++ close ∷ [])) u e
    (λ rest. pseudo_called text function ((argument ++ close ∷ []) ++ rest) (some_test u (word_reading text rest)) f tight
    (nth_read text function close argument rest kind (step, offset) h none g value))
    (λ rest. colon_called_again text function ((argument ++ close ∷ []) ++ rest) (some_test u (word_reading text rest)) f tight
    (nth_no_not (function_of text function) kind h) (nth_read text function close argument rest kind (step, offset) h none g value)))
test_read text front t (by_lang text' colon function language close e f tight h g within closed_kind closed) =
    let read = λ (rest : List Word). function_lang (function_of text function) function.end (word_reading text (language ∷ close ∷ rest))
    (some_test never (word_reading text rest)) h (lang_again text language close rest g within closed_kind closed) in
    colon_read text colon (function ∷ language ∷ close ∷ []) never e
    (λ rest. pseudo_called text function (language ∷ close ∷ rest) (some_test never (word_reading text rest)) f tight (read rest))
    (λ rest. colon_called_again text function (language ∷ close ∷ rest) (some_test never (word_reading text rest)) f tight
    (lang_no_not (function_of text function) h) (read rest))

-- ---- parts of a compound

argument_again : (text : List ℕ) (front rest : List Word) (t : TestForm) → IsArgument text front t
    → argument_at (word_reading text (front ++ rest)) ≡ Some (t, word_reading text rest)
unfolding argument_from
argument_again text front rest t (a_tag text' w e) = ap (λ (k : WordKind). argument_by w (word_reading text rest) k) e
argument_again text front rest t (a_any text' w e) = ap (λ (k : WordKind). argument_by w (word_reading text rest) k) e
argument_again text front rest t (a_test text' front' t' test) =
    let r = test_read text front t test in
    ap (λ (ws : List Word). argument_at (word_reading text (ws ++ rest))) r.words ∙ r.argument rest

record ItemRead (text : List ℕ) (front : List Word) (x : Item) : Type 0 where
  w : Word
  tail : List Word
  words : front ≡ w ∷ tail
  no_combinator : combinator_of w.kind ≡ None
  first : (r : WordReading) → first_from w r ≡ item_from w r
  item : (rest : List Word) → item_from w (word_reading text (tail ++ rest)) ≡ Some (x, word_reading text rest)

colon_item : (text : List ℕ) (all : List Word) (w : Word) (tail : List Word) (x : Item) → all ≡ w ∷ tail → w.kind ≡ Mark 58
    → ((rest : List Word) → colon_at (word_reading text (tail ++ rest)) ≡ Some (x, word_reading text rest)) → ItemRead text all x
unfolding first_from item_from
colon_item text all w tail x same e colon = record {
  w = w;
  tail = tail;
  words = same;
  no_combinator = ap combinator_of e;
  first = λ r. ap (λ (k : WordKind). first_by w r k) e;
  item = λ rest. ap (λ (k : WordKind). cond (is_mark 58 k) (colon_at (word_reading text (tail ++ rest)))
      (item_is (plain_from w (word_reading text (tail ++ rest))))) e ∙ colon rest;
}

not_again : (text : List ℕ) (function close : Word) (argument rest : List Word) (t : TestForm) → function.kind ≡ Function
    → function.spaced ≡ false → is_named (codes "not") (function_of text function) ≡ true → IsArgument text argument t
    → close.kind ≡ Mark 41
    → colon_at (word_reading text (function ∷ ((argument ++ close ∷ []) ++ rest))) ≡ Some ((is_not t ∷ [], false), word_reading text rest)
unfolding colon_at not_at
not_again text function close argument rest t e tight h is_argument f =
    let r = word_reading text (argument ++ close ∷ rest) in
    ap (λ (ws : List Word). colon_at (word_reading text (function ∷ ws))) (append_assoc argument (close ∷ []) rest)
    ∙ ap (λ (b : Bool). cond b None (colon_by function r function.kind)) tight
    ∙ ap (λ (k : WordKind). colon_by function r k) e
    ∙ ap (λ (b : Bool). cond b (item_is_not (not_at r)) (item_is (called_at function r))) h
    ∙ ap (λ (o : Test'). item_is_not (o >>= λ u. take_mark 41 u.1 >>= λ x. some_test u.0 x))
    (argument_again text argument (close ∷ rest) t is_argument)
    ∙ ap (λ (o : Option WordReading). item_is_not (o >>= λ x. some_test t x)) (mark_again 41 text close rest refl f)

abbrev element_item : WordReading → Items
element_item x = Some (([], true), x)

one_again : (text : List ℕ) (name : Word) (rest : List Word) → name.kind ≡ Ident → name.spaced ≡ false
    → is_pseudo_element (lower_of text name) ≡ true → colon_at (word_reading text (name ∷ rest)) ≡ Some (([], true), word_reading text rest)
unfolding colon_at
one_again text name rest e tight h =
    let r = word_reading text rest in
    ap (λ (b : Bool). cond b None (colon_by name r name.kind)) tight
    ∙ ap (λ (k : WordKind). colon_by name r k) e
    ∙ ap (λ (b : Bool). cond b (element_item r) (item_is (named_at name r))) h

two_again : (text : List ℕ) (second name : Word) (rest : List Word) → second.kind ≡ Mark 58 → second.spaced ≡ false → name.kind ≡ Ident
    → name.spaced ≡ false → is_pseudo_element (lower_of text name) ≡ true
    → colon_at (word_reading text (second ∷ name ∷ rest)) ≡ Some (([], true), word_reading text rest)
unfolding colon_at element_at
two_again text second name rest e tight f within h =
    let r = word_reading text (name ∷ rest) in
    ap (λ (b : Bool). cond b None (colon_by second r second.kind)) tight
    ∙ ap (λ (k : WordKind). colon_by second r k) e
    ∙ ap (λ (o : Option (List ℕ × WordReading)). o >>= λ n. cond (is_pseudo_element (map to_ascii_lowercase n.0)) (element_item n.1) None)
    (tight_again text name rest f within)
    ∙ ap (λ (b : Bool). cond b (element_item (word_reading text rest)) None) h

item_read : (text : List ℕ) (front : List Word) (x : Item) → IsCompoundItem text front x → ItemRead text front x
item_read text front x (item_test text' front' t test) =
    let r = test_read text front t test in
    record { w = r.w; tail = r.tail; words = r.words; no_combinator = r.no_combinator; first = r.first; item = r.item }
item_read text front x (item_not text' colon function close argument all t same e f tight h is_argument g) =
    colon_item text all colon (function ∷ (argument ++ close ∷ [])) (is_not t ∷ [], false) same e
    (λ rest. not_again text function close argument rest t f tight h is_argument g)
item_read text front x (item_element text' front' (one_colon text'' colon name e f tight h)) = colon_item text front colon (name ∷ [])
    ([], true) refl e (λ rest. one_again text name rest f tight h)
item_read text front x (item_element text' front' (two_colons text'' colon second name e f tight g within h)) = colon_item text front colon
    (second ∷ name ∷ []) ([], true) refl e (λ rest. two_again text second name rest f tight g within h)

item_again : (text : List ℕ) (front rest : List Word) (x : Item) → IsCompoundItem text front x
    → compound_item_at (word_reading text (front ++ rest)) ≡ Some (x, word_reading text rest)
item_again text front rest x is_item =
    let r = item_read text front x is_item in
    ap (λ (ws : List Word). compound_item_at (word_reading text (ws ++ rest))) r.words ∙ r.item rest

-- the first part of a compound
record FirstRead (text : List ℕ) (front : List Word) (x : Item) : Type 0 where
  w : Word
  tail : List Word
  words : front ≡ w ∷ tail
  no_combinator : combinator_of w.kind ≡ None
  first : (rest : List Word) → first_from w (word_reading text (tail ++ rest)) ≡ Some (x, word_reading text rest)

first_read : (text : List ℕ) (front : List Word) (x : Item) → IsFirst text front x → FirstRead text front x
unfolding first_from
first_read text front x (first_tag text' w e) = record {
  w = w;
  tail = [];
  words = refl;
  no_combinator = ap combinator_of e;
  first = λ rest. ap (λ (k : WordKind). first_by w (word_reading text rest) k) e;
}
first_read text front x (first_any text' w e) = record {
  w = w;
  tail = [];
  words = refl;
  no_combinator = ap combinator_of e;
  first = λ rest. ap (λ (k : WordKind). first_by w (word_reading text rest) k) e;
}
first_read text front x (first_item text' front' x' is_item) =
    let r = item_read text front x is_item in
    record {
      w = r.w;
      tail = r.tail;
      words = r.words;
      no_combinator = r.no_combinator;
      first = λ rest. r.first (word_reading text (r.tail ++ rest)) ∙ r.item rest;
    }

-- such a part has a first word
pub first_begins : (text : List ℕ) (front : List Word) (x : Item) → IsFirst text front x
    → (w : Word) × (tail : List Word) × (front ≡ w ∷ tail)
first_begins text front x is_first = let r = first_read text front x is_first in (r.w, r.tail, r.words)

first_again : (text : List ℕ) (front rest : List Word) (x : Item) → IsFirst text front x
    → first_part_at (word_reading text (front ++ rest)) ≡ Some (x, word_reading text rest)
first_again text front rest x is_first =
    let r = first_read text front x is_first in
    ap (λ (ws : List Word). first_part_at (word_reading text (ws ++ rest))) r.words ∙ r.first rest

-- ---- parts one behind the other

record RunLaw {X : Type 0} (ends : WordReading → Bool) (read : WordReading → Option ((List X × Bool) × WordReading))
    (R : List Word → List X × Bool → Type 0) (follows : List Word → Type 0) (text : List ℕ) : Type 0 where
  pub again : (front rest : List Word) (x : List X × Bool) → R front x → follows rest
      → read (word_reading text (front ++ rest)) ≡ Some (x, word_reading text rest)
  pub goes : (front rest : List Word) (x : List X × Bool) → R front x → ends (word_reading text (front ++ rest)) ≡ false
  pub some : (front : List Word) (x : List X × Bool) → R front x → 0 < length front
  pub before : (front rest : List Word) (x : List X × Bool) → R front x → follows (front ++ rest)

run_follows : {X : Type 0} (ends : WordReading → Bool) (read : WordReading → Option ((List X × Bool) × WordReading))
    (R : List Word → List X × Bool → Type 0) (follows : List Word → Type 0) (text : List ℕ) → RunLaw ends read R follows text
    → (element : Bool) (ws rest : List Word) (x : List X × Bool) → Run R element ws x → follows rest → follows (ws ++ rest)
run_follows ends read R follows text law element ws rest x (done e) last = last
run_follows ends read R follows text law element ws rest x (more front others all y z same is_part run) last =
    subst follows (sym (ap (λ (vs : List Word). vs ++ rest) same ∙ append_assoc front others rest))
    (law.before front (others ++ rest) y is_part)

run_again : {X : Type 0} (ends : WordReading → Bool) (read : WordReading → Option ((List X × Bool) × WordReading))
    (R : List Word → List X × Bool → Type 0) (follows : List Word → Type 0) (text : List ℕ) → RunLaw ends read R follows text
    → (fuel : ℕ) (element : Bool) (ws rest : List Word) (x : List X × Bool) → Run R element ws x → length ws < fuel → follows rest
    → ends (word_reading text rest) ≡ true
    → many_in ends read fuel element (word_reading text (ws ++ rest)) ≡ Some (x, word_reading text rest)
unfolding many_in
run_again ends read R follows text law zero element ws rest x run enough last stop = absurd (omega (arith, enough))
run_again {X = X} ends read R follows text law (suc n) element ws rest x (done e) enough last stop =
    ap (λ (b : Bool). cond b (some_part ([], e) (word_reading text rest))
    (cond e None (read (word_reading text rest) >>= λ u. with_front u.0.0 (many_in ends read n u.0.1 u.1)))) stop
  where
    some_part : List X × Bool → WordReading → Option ((List X × Bool) × WordReading)
    some_part y r = Some (y, r)
run_again {X = X} ends read R follows text law (suc n) element ws rest x (more front others all y z same is_part run) enough last stop =
    let r = word_reading text (front ++ (others ++ rest)) in
    let grows = law.some front y is_part in
    let len : length all ≡ length front + length others = ap length same ∙ length-append front others in
    let fewer : length others < n = omega (arith, enough, grows, len) in
    ap (λ (vs : List Word). many_in ends read (suc n) false (word_reading text vs))
    (ap (λ (vs : List Word). vs ++ rest) same ∙ append_assoc front others rest)
    ∙ ap (λ (b : Bool). cond b (some_part ([], false) r) (read r >>= λ u. with_front u.0.0 (many_in ends read n u.0.1 u.1)))
    (law.goes front (others ++ rest) y is_part)
    ∙ ap (λ (o : Option ((List X × Bool) × WordReading)). o >>= λ u. with_front u.0.0 (many_in ends read n u.0.1 u.1))
    (law.again front (others ++ rest) y is_part (run_follows ends read R follows text law y.1 others rest z run last))
    ∙ ap (with_front y.0) (run_again ends read R follows text law n y.1 others rest z run fewer last stop)
  where
    some_part : List X × Bool → WordReading → Option ((List X × Bool) × WordReading)
    some_part u v = Some (u, v)

-- ---- compounds

next_item : (text : List ℕ) (w : Word) (tail rest : List Word) → w.spaced ≡ false → combinator_of w.kind ≡ None
    → ends_compound (word_reading text (w ∷ tail)) ≡ false
next_item text w tail rest tight none =
    ap (λ (b : Bool). b || is_some (combinator_of w.kind)) tight ∙ ap (λ (o : Option Joint). is_some o) none

item_law : (text : List ℕ) → RunLaw ends_compound compound_item_at (IsNextItem text) (λ ws. Unit {0}) text
item_law text = record {
  again = λ front rest x part last. item_again text front rest x part.1;
  goes = λ front rest x part. goes_on front rest x part;
  some = λ front x part. is_some_word front x part;
  before = λ front rest x part. tt;
}
  where
    goes_on : (front rest : List Word) (x : Item) → IsNextItem text front x → ends_compound (word_reading text (front ++ rest)) ≡ false
    goes_on front rest x part =
        let r = item_read text front x part.1 in
        let tight : r.w.spaced ≡ false = subst IsTight r.words part.0 in
        ap (λ (ws : List Word). ends_compound (word_reading text (ws ++ rest))) r.words ∙ next_item text r.w
        (r.tail ++ rest) [] tight r.no_combinator

    is_some_word : (front : List Word) (x : Item) → IsNextItem text front x → 0 < length front
    is_some_word front x part =
        let r = item_read text front x part.1 in
        let len : length front ≡ length (r.w ∷ r.tail) = ap length r.words in
        omega (arith, len)

abbrev some_joined : Joined → WordReading → Option (Joined × WordReading)
some_joined y r = Some (y, r)

compound_again : (text : List ℕ) (joint : Joint) (all rest : List Word) (x : Item) → IsCompound text all x
    → ends_compound (word_reading text rest) ≡ true
    → compound_at joint (word_reading text (all ++ rest)) ≡ Some ((compound_form joint x.0 ∷ [], x.1), word_reading text rest)
unfolding compound_at tests_at
compound_again text joint all rest x c stop =
    let first = c.first in
    let ws = c.rest ++ rest in
    let fuel = suc (length ws) in
    let len = length-append c.rest rest in
    let enough : length c.rest < fuel = omega (arith, len) in
    ap (λ (vs : List Word). compound_at joint (word_reading text vs))
    (ap (λ (vs : List Word). vs ++ rest) c.words ∙ append_assoc c.front c.rest rest)
    ∙ ap (λ (o : Items). o >>= λ f. compound_of joint (with_front f.0.0 (tests_at f.0.1 f.1)))
    (first_again text c.front ws first c.is_first)
    ∙ ap (λ (o : Items). compound_of joint (with_front first.0 o))
    (run_again ends_compound compound_item_at (IsNextItem text) (λ vs. Unit {0}) text
    (item_law text) fuel first.1 c.rest rest c.others c.run enough tt stop)
    ∙ ap (λ (i : Item). some_joined (compound_form joint i.0 ∷ [], i.1) (word_reading text rest)) (sym c.whole)

-- the first word of a compound is no combinator
compound_first : (text : List ℕ) (w : Word) (ws : List Word) (x : Item) → IsCompound text (w ∷ ws) x → combinator_of w.kind ≡ None
compound_first text w ws x c =
    let r = first_read text c.front c.first c.is_first in
    let same : w ∷ ws ≡ r.w ∷ (r.tail ++ c.rest) = c.words ∙ ap (λ (vs : List Word). vs ++ c.rest) r.words in
    ap (λ (o : Option Word). kind_combinator o) (ap first_word same) ∙ r.no_combinator
  where
    first_word : List Word → Option Word
    first_word [] = None
    first_word (v ∷ vs) = Some v

    kind_combinator : Option Word → Option Joint
    kind_combinator None = None
    kind_combinator (Some v) = combinator_of v.kind

joint_again : (text : List ℕ) (combinator compound rest : List Word) (joint : Joint) (item : Item) → IsCombinator combinator compound joint
    → IsCompound text compound item
    → joint_at (word_reading text (combinator ++ (compound ++ rest))) ≡ Some (joint, word_reading text (compound ++ rest))
unfolding joint_at
joint_again text combinator compound rest joint item (mark w compound' joint' known) is_compound =
    ap (λ (o : Option Joint). joint_of (word_reading text (w ∷ (compound ++ rest))) (word_reading text (compound ++ rest)) o w.spaced) known
joint_again text combinator compound rest joint item (white w ws spaced) is_compound =
    ap (λ (o : Option Joint). joint_of (word_reading text (w ∷ (ws ++ rest))) (word_reading text (ws ++ rest)) o w.spaced)
    (compound_first text w ws item is_compound)
    ∙ ap (λ (b : Bool). joint_of (word_reading text (w ∷ (ws ++ rest))) (word_reading text (ws ++ rest)) None b) spaced

joined_again : (text : List ℕ) (all rest : List Word) (x : Joined) → IsJoined text all x → ends_compound (word_reading text rest) ≡ true
    → joined_at (word_reading text (all ++ rest)) ≡ Some (x, word_reading text rest)
unfolding joined_at joint_at
joined_again text all rest x j stop =
    ap (λ (vs : List Word). joined_at (word_reading text vs))
    (ap (λ (vs : List Word). vs ++ rest) j.words ∙ append_assoc j.combinator j.compound rest)
    ∙ ap (λ (o : Option (Joint × WordReading)). o >>= λ u. compound_at u.0 u.1)
    (joint_again text j.combinator j.compound rest j.joint j.item j.is_combinator j.is_compound)
    ∙ compound_again text j.joint j.compound rest j.item j.is_compound stop
    ∙ ap (λ (y : Joined). some_joined y (word_reading text rest)) (sym j.whole)

-- ---- selectors and lists

record JoinedFirst (text : List ℕ) (all : List Word) : Type 0 where
  w : Word
  tail : List Word
  words : all ≡ w ∷ tail
  ends : (r : List Word) → ends_compound (word_reading text (w ∷ r)) ≡ true

or_true : (b : Bool) → (b || true) ≡ true
or_true true = refl
or_true false = refl

joined_first_by : (text : List ℕ) (all combinator compound : List Word) (joint : Joint) → IsCombinator combinator compound joint
    → all ≡ combinator ++ compound → JoinedFirst text all
joined_first_by text all combinator compound joint
    (mark w compound' joint' known) same = record {
      w = w;
      tail = compound;
      words = same;
      ends = λ r. ap (λ (o : Option Joint). w.spaced || is_some o) known ∙ or_true w.spaced;
    }
joined_first_by text all combinator compound joint
    (white w ws spaced) same = record {
      w = w;
      tail = ws;
      words = same;
      ends = λ r. ap (λ (b : Bool). b || is_some (combinator_of w.kind)) spaced;
    }

joined_first : (text : List ℕ) (all : List Word) (x : Joined) → IsJoined text all x → JoinedFirst text all
joined_first text all x j = joined_first_by text all j.combinator j.compound j.joint j.is_combinator j.words

abbrev Follows : List ℕ → List Word → Type 0
Follows text ws = ends_compound (word_reading text ws) ≡ true

joined_law : (text : List ℕ) → RunLaw ends_selector joined_at (IsJoined text) (Follows text) text
joined_law text = record {
  again = λ front rest x part last. joined_again text front rest x part last;
  goes = λ front rest x part. goes_on front rest x part;
  some = λ front x part. is_some_word front x part;
  before = λ front rest x part. ends_before front rest x part;
}
  where
    goes_on : (front rest : List Word) (x : Joined) → IsJoined text front x → ends_selector (word_reading text (front ++ rest)) ≡ false
    goes_on front rest x part = ap (λ (ws : List Word). ends_selector (word_reading text (ws ++ rest)))
        (joined_first text front x part).words

    is_some_word : (front : List Word) (x : Joined) → IsJoined text front x → 0 < length front
    is_some_word front x part =
        let r = joined_first text front x part in
        let len : length front ≡ length (r.w ∷ r.tail) = ap length r.words in
        omega (arith, len)

    ends_before : (front rest : List Word) (x : Joined) → IsJoined text front x → Follows text (front ++ rest)
    ends_before front rest x part =
        let r = joined_first text front x part in
        ap (λ (ws : List Word). ends_compound (word_reading text (ws ++ rest))) r.words ∙ r.ends (r.tail ++ rest)

selector_again : (text : List ℕ) (all : List Word) (s : SelectorForm) → IsSelector text all s → selector_of (word_reading text all) ≡ Some s
unfolding selector_of joined_of compounds_at
selector_again text all s i =
    let first = i.first in
    let rest = i.rest in
    let others = i.others in
    let cf = compound_form joints.Descendant first.0 in
    let nil = append-nil rest in
    let fuel = suc (length rest) in
    let stop : Follows text rest = subst (Follows text) nil
    (run_follows ends_selector joined_at (IsJoined text) (Follows text) text (joined_law text) first.1 rest [] others i.run refl) in
    let run = run_again ends_selector joined_at (IsJoined text) (Follows text) text (joined_law text) fuel first.1 rest [] others i.run
    (omega arith) refl refl in
    let run' = ap (λ (ws : List Word). many_in ends_selector joined_at fuel first.1 (word_reading text ws)) (sym nil) ∙ run in
    ap (λ (o : Option Range). o >>= λ range. joined_of (word_reading text all) >>= λ whole. some_selector
    (selector_form range whole.0)) i.range
    ∙ ap (λ (o : Option (Joined × WordReading)). o >>= λ whole. some_selector (selector_form s.range whole.0))
    (ap (λ (ws : List Word). joined_of (word_reading text ws)) i.words
    ∙ ap (λ (o : Option (Joined × WordReading)). o >>= λ f. with_front f.0.0 (compounds_at f.0.1 f.1))
    (compound_again text joints.Descendant i.compound rest first i.is_compound stop)
    ∙ ap (λ (o : Option (Joined × WordReading)). with_front (cf ∷ []) o) run')
    ∙ ap (λ (cs : List CompoundForm). some_selector (record { compounds = cs; pseudo_element = others.1; range = s.range }))
    (sym i.compounds)
    ∙ ap (λ (b : Bool). some_selector (record { compounds = s.compounds; pseudo_element = b; range = s.range })) (sym i.element)
  where
    some_selector : SelectorForm → Option SelectorForm
    some_selector x = Some x

pub list_again : (text : List ℕ) (segs : List (List Word)) (ss : List SelectorForm) → AreSelectors text segs ss
    → selectors_in text segs ≡ Some ss
unfolding selectors_in
list_again text [] [] h = refl
list_again text [] (s ∷ ss) h = absurd h
list_again text (own ∷ others) [] h = absurd h
list_again text (own ∷ others) (s ∷ ss) h =
    ap (λ (o : Option SelectorForm). o >>= λ u. selector_before u (selectors_in text others)) (selector_again text own s h.0)
    ∙ ap (selector_before s) (list_again text others ss h.1)

pub grammar_read : (text : List ℕ) (ss : List SelectorForm) → IsSelectorList text ss → selectors_of text ≡ Some ss
grammar_read text ss h = list_again text (segments (words_of text)) ss h

-- a text from which none is read spells none
pub spells_none : (r : Result SelectorList SelErr) (text : List ℕ) → GivesRead list_seen r (selectors_of text) → IsErrOf r Invalid
    → (ss : List SelectorForm) → IsSelectorList text ss → ⊥
spells_none r text read e ss h =
    let G : Result SelectorList SelErr → Type 0 = λ v. GivesRead list_seen v (selectors_of text) in
    none_some ss (sym (subst G e read) ∙ grammar_read text ss h)
