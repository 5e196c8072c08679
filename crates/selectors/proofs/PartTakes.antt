-- The parts of a compound: what is read, the grammar spells.
use Rattle.std.proofs.Common.{◌≡◌, ◌⊎◌, inl, inr, ℕ, Bool, true, false, not, cond, List, [], ◌∷◌, ◌++◌, Option, Some, None, refl, sym, ap}
use Rattle.std.proofs.Common.{subst, ◌∙◌, append_assoc}
use Rattle.std.specs.Prelude.{codes, ◌==◌, ◌&&◌, map}
use Rattle.std.specs.List.{AllByRecursion}
use Rattle.std.specs.Char.{to_ascii_lowercase}
use Rattle.std.proofs.lemmas.Bool.{eqb-true}
use Rattle.selectors.specs.declared.words.Word.{Word}
use Rattle.selectors.specs.declared.words.WordKind.{WordKind}
use Rattle.selectors.specs.declared.words.WordKind.TheVariants.{Ident, Function, Str, Id, Mark}
use Rattle.selectors.specs.declared.selector.AttrOp.{AttrOp}
use Rattle.selectors.specs.declared.selector.AttrOp.TheVariants as ops
use Rattle.selectors.specs.declared.selector.NthKind.{NthKind}
use Rattle.selectors.specs.Words.{WordReading, word_reading, next_word, is_mark, between}
use Rattle.selectors.specs.Forms.{TestForm, any, tag, id, class, attr, nth, never, is, is_not, ◌>>=◌}
use Rattle.selectors.specs.Nth.{nth_of}
use Rattle.selectors.specs.Reading.{word_value, hash_value, string_of, lower_of, function_of, operator_of, pseudo_class, is_pseudo_element}
use Rattle.selectors.specs.Reading.{nth_kind, is_named, Item, ident_at, tight_ident_at, take_mark, tight_mark_at, with_rest, ident_value}
use Rattle.selectors.specs.Reading.{operator_at, equals_at, operand_at, operand_by, exists_at, compare_at, attribute_after, attribute_at}
use Rattle.selectors.specs.Reading.{first_is, closing, closing_at, nth_at, lang_at, function_at, class_at, plain_by, plain_from, named_at}
use Rattle.selectors.specs.Reading.{called_at, pseudo_by, pseudo_at, argument_by, argument_from, argument_at, not_at, element_at}
use Rattle.selectors.specs.Reading.{colon_named, colon_called, colon_by, colon_at, item_is, item_is_not, item_from, first_by, first_from}
use Rattle.selectors.specs.Reading.{first_part_at}
use Rattle.selectors.specs.Grammar.{IsOperator, equal, other, IsOperand, ident, string, IsTest, by_id, by_class, by_exists, by_compare}
use Rattle.selectors.specs.Grammar.{by_pseudo, by_nth, by_lang, IsArgument, a_tag, a_any, a_test, one_colon, two_colons, IsCompoundItem}
use Rattle.selectors.specs.Grammar.{item_test, item_not, item_element, IsFirst, first_tag, first_any, first_item}
use Rattle.css_tokens.proofs.Ends.{and_true, not_true}
use Rattle.selectors.proofs.Choices.{none_some, some_is, chosen, passed_test, failed_test, bind_some}
use Rattle.selectors.proofs.NthTakes.{nth_spells}

-- ---- words

mark_kind : (c : ℕ) (k : WordKind) → is_mark c k ≡ true → k ≡ Mark c
mark_kind c (Mark d) e = ap (λ (n : ℕ). Mark n) (eqb-true d c e)
mark_kind c _ e = absurd (cc)

-- the words begin with this one, and the reading goes on behind it
record Next (text : List ℕ) (ws : List Word) (w : Word) (r : WordReading) : Type 0 where
  rest : List Word
  words : ws ≡ w ∷ rest
  goes_on : r ≡ word_reading text rest

abbrev some_reading : WordReading → Option WordReading
some_reading r = Some r

record Marked (c : ℕ) (text : List ℕ) (ws : List Word) (r : WordReading) : Type 0 where
  w : Word
  rest : List Word
  words : ws ≡ w ∷ rest
  kind : w.kind ≡ Mark c
  goes_on : r ≡ word_reading text rest

mark_takes : (c : ℕ) (text : List ℕ) (ws : List Word) (r : WordReading) → take_mark c (word_reading text ws) ≡ Some r → Marked c text ws r
mark_takes c text [] r e = absurd (none_some r e)
mark_takes c text (w ∷ ws) r e =
    let h = passed_test (is_mark c w.kind) (some_reading (word_reading text ws)) r e in
    record { w = w; rest = ws; words = refl; kind = mark_kind c w.kind h.0; goes_on = sym (some_is (word_reading text ws) r h.1) }

-- whether the first word is spaced
abbrev pub first_spaced : List Word → Bool
first_spaced [] = true
first_spaced (w ∷ ws) = w.spaced

tight_mark_takes : (c : ℕ) (text : List ℕ) (ws : List Word) (r : WordReading) → tight_mark_at c (word_reading text ws) ≡ Some r
    → (m : Marked c text ws r) × (m.w.spaced ≡ false)
tight_mark_takes c text [] r e = absurd (none_some r e)
tight_mark_takes c text (w ∷ ws) r e =
    let h = passed_test (not w.spaced) (take_mark c (word_reading text (w ∷ ws))) r e in
    let m = mark_takes c text (w ∷ ws) r h.1 in
    (m, sym (ap first_spaced m.words) ∙ not_true w.spaced h.0)

record Named (text : List ℕ) (ws : List Word) (v : List ℕ) (r : WordReading) : Type 0 where
  w : Word
  rest : List Word
  words : ws ≡ w ∷ rest
  kind : w.kind ≡ Ident
  value : word_value text w ≡ v
  goes_on : r ≡ word_reading text rest

named_by : (k : WordKind) (text : List ℕ) (w : Word) (ws : List Word) (v : List ℕ) (r : WordReading) → w.kind ≡ k
    → with_rest (ident_value (word_value text w) k) (word_reading text ws) ≡ Some (v, r) → Named text (w ∷ ws) v r
named_by Ident text w ws v r k e =
    let same = some_is {A = List ℕ × WordReading} (word_value text w, word_reading text ws) (v, r) e in
    record {
      w = w;
      rest = ws;
      words = refl;
      kind = k;
      value = ap (λ (p : List ℕ × WordReading). p.0) same;
      goes_on = sym (ap (λ (p : List ℕ × WordReading). p.1) same);
    }
named_by _ text w ws v r k e = absurd (none_some (v, r) e)

ident_takes : (text : List ℕ) (ws : List Word) (v : List ℕ) (r : WordReading) → ident_at (word_reading text ws) ≡ Some (v, r)
    → Named text ws v r
unfolding ident_at
ident_takes text [] v r e = absurd (none_some (v, r) e)
ident_takes text (w ∷ ws) v r e = named_by w.kind text w ws v r refl e

tight_takes : (text : List ℕ) (ws : List Word) (v : List ℕ) (r : WordReading) → tight_ident_at (word_reading text ws) ≡ Some (v, r)
    → (n : Named text ws v r) × (n.w.spaced ≡ false)
tight_takes text [] v r e = absurd (none_some (v, r) e)
tight_takes text (w ∷ ws) v r e =
    let h = passed_test (not w.spaced) (ident_at (word_reading text (w ∷ ws))) (v, r) e in
    let n = ident_takes text (w ∷ ws) v r h.1 in
    (n, sym (ap first_spaced n.words) ∙ not_true w.spaced h.0)

-- ---- attribute selectors

-- What was read stands in front, and the reading goes on behind it.
pub record Found {A : Type 0} (R : List Word → A → Type 0) (text : List ℕ) (ws : List Word) (x : A) (r : WordReading) : Type 0 where
  pub front : List Word
  pub rest : List Word
  pub words : ws ≡ front ++ rest
  pub goes_on : r ≡ word_reading text rest
  pub form : R front x

abbrev some_op : AttrOp → WordReading → Option (AttrOp × WordReading)
some_op op r = Some (op, r)

equals_takes : (text : List ℕ) (w : Word) (ws : List Word) (known op : AttrOp) (r : WordReading) → operator_of w.kind ≡ Some known
    → equals_at w known (word_reading text ws) ≡ Some (op, r) → Found IsOperator text (w ∷ ws) op r
equals_takes text w [] known op r k e = absurd (none_some (op, r) e)
equals_takes text w (v ∷ vs) known op r k e =
    let h = passed_test (is_mark 61 v.kind && v.start == w.end) (some_op known (word_reading text vs)) (op, r) e in
    let b = and_true (is_mark 61 v.kind) (v.start == w.end) h.0 in
    let same = some_is {A = AttrOp × WordReading} (known, word_reading text vs) (op, r) h.1 in
    let R : AttrOp → Type 0 = λ o. IsOperator (w ∷ v ∷ []) o in
    record {
      front = w ∷ v ∷ [];
      rest = vs;
      words = refl;
      goes_on = sym (ap (λ (p : AttrOp × WordReading). p.1) same);
      form = subst R (ap (λ (p : AttrOp × WordReading). p.0) same)
          (other w v known k (mark_kind 61 v.kind b.0) (eqb-true v.start w.end b.1));
    }

operator_by : (text : List ℕ) (w : Word) (ws : List Word) (op : AttrOp) (r : WordReading)
    → ((is_mark 61 w.kind ≡ true) × (some_op ops.Equal (word_reading text ws) ≡ Some (op, r)))
    ⊎ ((is_mark 61 w.kind ≡ false) × ((operator_of w.kind >>= λ o. equals_at w o (word_reading text ws)) ≡ Some (op, r)))
    → Found IsOperator text (w ∷ ws) op r
operator_by text w ws op r (inl h) =
    let same = some_is {A = AttrOp × WordReading} (ops.Equal, word_reading text ws) (op, r) h.1 in
    let R : AttrOp → Type 0 = λ o. IsOperator (w ∷ []) o in
    record {
      front = w ∷ [];
      rest = ws;
      words = refl;
      goes_on = sym (ap (λ (p : AttrOp × WordReading). p.1) same);
      form = subst R (ap (λ (p : AttrOp × WordReading). p.0) same) (equal w (mark_kind 61 w.kind h.0));
    }
operator_by text w ws op r (inr h) =
    let b = bind_some (operator_of w.kind) (λ o. equals_at w o (word_reading text ws)) (op, r) h.1 in
    equals_takes text w ws b.0 op r b.1 b.2

operator_takes : (text : List ℕ) (ws : List Word) (op : AttrOp) (r : WordReading) → operator_at (word_reading text ws) ≡ Some (op, r)
    → Found IsOperator text ws op r
unfolding operator_at
operator_takes text [] op r e = absurd (none_some (op, r) e)
operator_takes text (w ∷ ws) op r e =
    operator_by text w ws op r (chosen (is_mark 61 w.kind) (some_op ops.Equal (word_reading text ws))
    (operator_of w.kind >>= λ o. equals_at w o (word_reading text ws)) (Some (op, r)) e)

record Operand (text : List ℕ) (ws : List Word) (v : List ℕ) (r : WordReading) : Type 0 where
  w : Word
  rest : List Word
  words : ws ≡ w ∷ rest
  goes_on : r ≡ word_reading text rest
  form : IsOperand text w v

operand_kind : (k : WordKind) (text : List ℕ) (w : Word) (ws : List Word) (v : List ℕ) (r : WordReading) → w.kind ≡ k
    → with_rest (operand_by (word_value text w) (string_of text w) k) (word_reading text ws) ≡ Some (v, r) → Operand text (w ∷ ws) v r
operand_kind Ident text w ws v r k e =
    let same = some_is {A = List ℕ × WordReading} (word_value text w, word_reading text ws) (v, r) e in
    let R : List ℕ → Type 0 = λ u. IsOperand text w u in
    record {
      w = w;
      rest = ws;
      words = refl;
      goes_on = sym (ap (λ (p : List ℕ × WordReading). p.1) same);
      form = subst R (ap (λ (p : List ℕ × WordReading). p.0) same) (ident text w k);
    }
operand_kind Str text w ws v r k e =
    let same = some_is {A = List ℕ × WordReading} (string_of text w, word_reading text ws) (v, r) e in
    let R : List ℕ → Type 0 = λ u. IsOperand text w u in
    record {
      w = w;
      rest = ws;
      words = refl;
      goes_on = sym (ap (λ (p : List ℕ × WordReading). p.1) same);
      form = subst R (ap (λ (p : List ℕ × WordReading). p.0) same) (string text w k);
    }
operand_kind _ text w ws v r k e = absurd (none_some (v, r) e)

operand_takes : (text : List ℕ) (ws : List Word) (v : List ℕ) (r : WordReading) → operand_at (word_reading text ws) ≡ Some (v, r)
    → Operand text ws v r
unfolding operand_at
operand_takes text [] v r e = absurd (none_some (v, r) e)
operand_takes text (w ∷ ws) v r e = operand_kind w.kind text w ws v r refl e

-- what follows `[`
abbrev InBrackets : List ℕ → List Word → TestForm → Type 0
InBrackets text front t = (open_bracket : Word) → open_bracket.kind ≡ Mark 91 → IsTest text (open_bracket ∷ front) t

abbrev some_test : TestForm → WordReading → Option (TestForm × WordReading)
some_test t r = Some (t, r)

exists_takes : (text : List ℕ) (name : Word) (ws : List Word) (t : TestForm) (r : WordReading) → name.kind ≡ Ident
    → exists_at (word_value text name) (word_reading text ws) ≡ Some (t, r) → Found (InBrackets text) text (name ∷ ws) t r
exists_takes text name ws t r k e =
    let u = attr (word_value text name) ops.Exists [] in
    let b = bind_some (take_mark 93 (word_reading text ws)) (λ x. some_test u x) (t, r) e in
    let m = mark_takes 93 text ws b.0 b.1 in
    let same = some_is {A = TestForm × WordReading} (u, b.0) (t, r) b.2 in
    let R : TestForm → Type 0 = λ x. InBrackets text (name ∷ m.w ∷ []) x in
    record {
      front = name ∷ m.w ∷ [];
      rest = m.rest;
      words = ap (λ (vs : List Word). name ∷ vs) m.words;
      goes_on = sym (ap (λ (p : TestForm × WordReading). p.1) same) ∙ m.goes_on;
      form = subst R (ap (λ (p : TestForm × WordReading). p.0) same) (λ ob e'. by_exists text ob name m.w e' k m.kind);
    }

compare_takes : (text : List ℕ) (name : Word) (ws : List Word) (t : TestForm) (r : WordReading) → name.kind ≡ Ident
    → compare_at (word_value text name) (word_reading text ws) ≡ Some (t, r) → Found (InBrackets text) text (name ∷ ws) t r
compare_takes text name ws t r k e =
    let v = word_value text name in
    let o = bind_some (operator_at (word_reading text ws))
    (λ p. operand_at p.1 >>= λ q. take_mark 93 q.1 >>= λ x. some_test (attr v p.0 q.0) x) (t, r) e in
    let f = operator_takes text ws o.0.0 o.0.1 o.1 in
    let q = bind_some (operand_at o.0.1) (λ q. take_mark 93 q.1 >>= λ x. some_test (attr v o.0.0 q.0) x) (t, r) o.2 in
    let g = operand_takes text f.rest q.0.0 q.0.1 (ap operand_at (sym f.goes_on) ∙ q.1) in
    let x = bind_some (take_mark 93 q.0.1) (λ x. some_test (attr v o.0.0 q.0.0) x) (t, r) q.2 in
    let m = mark_takes 93 text g.rest x.0 (ap (take_mark 93) (sym g.goes_on) ∙ x.1) in
    let u = attr v o.0.0 q.0.0 in
    let same = some_is {A = TestForm × WordReading} (u, x.0) (t, r) x.2 in
    let front = name ∷ (f.front ++ g.w ∷ m.w ∷ []) in
    let R : TestForm → Type 0 = λ y. InBrackets text front y in
    record {
      front = front;
      rest = m.rest;
      words = ap (λ (vs : List Word). name ∷ vs)
          (f.words ∙ ap (λ (vs : List Word). f.front ++ vs) (g.words ∙ ap (λ (vs : List Word). g.w ∷ vs) m.words) ∙ sym
          (append_assoc f.front (g.w ∷ m.w ∷ []) m.rest));
      goes_on = sym (ap (λ (p : TestForm × WordReading). p.1) same) ∙ m.goes_on;
      form = subst R (ap (λ (p : TestForm × WordReading). p.0) same)
          (λ ob e'. by_compare text ob name g.w m.w f.front (ob ∷ front) o.0.0 q.0.0 refl e' k f.form g.form m.kind);
    }

attribute_after_takes : (text : List ℕ) (name : Word) (ws : List Word) (t : TestForm) (r : WordReading) → name.kind ≡ Ident
    → attribute_after (word_value text name) (word_reading text ws) ≡ Some (t, r) → Found (InBrackets text) text (name ∷ ws) t r
attribute_after_takes text name ws t r k e =
    by_case (chosen (first_is (λ w. is_mark 93 w.kind) ws) (exists_at (word_value text name) (word_reading text ws))
    (compare_at (word_value text name) (word_reading text ws)) (Some (t, r)) e)
  where
    by_case : ((first_is (λ w. is_mark 93 w.kind) ws ≡ true) × (exists_at (word_value text name) (word_reading text ws) ≡ Some (t, r)))
        ⊎ ((first_is (λ w. is_mark 93 w.kind) ws ≡ false) × (compare_at (word_value text name) (word_reading text ws) ≡ Some (t, r)))
        → Found (InBrackets text) text (name ∷ ws) t r
    by_case (inl h) = exists_takes text name ws t r k h.1
    by_case (inr h) = compare_takes text name ws t r k h.1

attribute_takes : (text : List ℕ) (ws : List Word) (t : TestForm) (r : WordReading) → attribute_at (word_reading text ws) ≡ Some (t, r)
    → Found (InBrackets text) text ws t r
unfolding attribute_at
attribute_takes text ws t r e =
    let b = bind_some (ident_at (word_reading text ws)) (λ name. attribute_after name.0 name.1) (t, r) e in
    let n = ident_takes text ws b.0.0 b.0.1 b.1 in
    let f = attribute_after_takes text n.w n.rest t r n.kind
    (ap (λ (v : List ℕ). attribute_after v (word_reading text n.rest)) n.value ∙ ap (λ (s : WordReading). attribute_after b.0.0 s)
    (sym n.goes_on) ∙ b.2) in
    record { front = f.front; rest = f.rest; words = n.words ∙ f.words; goes_on = f.goes_on; form = f.form }

-- ---- simple selectors

-- what follows the first word of a simple selector
abbrev Behind : List ℕ → Word → List Word → TestForm → Type 0
Behind text w front t = IsTest text (w ∷ front) t

class_takes : (text : List ℕ) (dot : Word) (ws : List Word) (t : TestForm) (r : WordReading) → dot.kind ≡ Mark 46
    → class_at (word_reading text ws) ≡ Some (t, r) → Found (Behind text dot) text ws t r
class_takes text dot ws t r k e =
    let b = bind_some (tight_ident_at (word_reading text ws)) (λ n. some_test (class n.0) n.1) (t, r) e in
    let n = tight_takes text ws b.0.0 b.0.1 b.1 in
    let same = some_is {A = TestForm × WordReading} (class b.0.0, b.0.1) (t, r) b.2 in
    let R : TestForm → Type 0 = λ x. IsTest text (dot ∷ n.0.w ∷ []) x in
    record {
      front = n.0.w ∷ [];
      rest = n.0.rest;
      words = n.0.words;
      goes_on = sym (ap (λ (p : TestForm × WordReading). p.1) same) ∙ n.0.goes_on;
      form = subst R (ap (λ (v : List ℕ). class v) n.0.value ∙ ap (λ (p : TestForm × WordReading). p.0) same)
          (by_class text dot n.0.w k n.0.kind n.1);
    }

plain_mark : (c : ℕ) (text : List ℕ) (w : Word) (ws : List Word) (t : TestForm) (r : WordReading) → w.kind ≡ Mark c
    → cond (c == 46) (class_at (word_reading text ws)) (cond (c == 91) (attribute_at (word_reading text ws)) None) ≡ Some (t, r)
    → Found (Behind text w) text ws t r
plain_mark c text w ws t r k e = by_case
    (chosen (c == 46) (class_at (word_reading text ws)) (cond (c == 91) (attribute_at (word_reading text ws)) None) (Some (t, r)) e)
  where
    by_case : (((c == 46) ≡ true) × (class_at (word_reading text ws) ≡ Some (t, r)))
        ⊎ (((c == 46) ≡ false) × (cond (c == 91) (attribute_at (word_reading text ws)) None ≡ Some (t, r)))
        → Found (Behind text w) text ws t r
    by_case (inl h) = class_takes text w ws t r (k ∙ ap (λ (n : ℕ). Mark n) (eqb-true c 46 h.0)) h.1
    by_case (inr h) =
        let b = passed_test (c == 91) (attribute_at (word_reading text ws)) (t, r) h.1 in
        let f = attribute_takes text ws t r b.1 in
        record {
          front = f.front;
          rest = f.rest;
          words = f.words;
          goes_on = f.goes_on;
          form = f.form w (k ∙ ap (λ (n : ℕ). Mark n) (eqb-true c 91 b.0));
        }

plain_kind : (k : WordKind) (text : List ℕ) (w : Word) (ws : List Word) (t : TestForm) (r : WordReading) → w.kind ≡ k
    → plain_by w (word_reading text ws) k ≡ Some (t, r) → Found (Behind text w) text ws t r
plain_kind Id text w ws t r k e =
    let same = some_is {A = TestForm × WordReading} (id (hash_value text w), word_reading text ws) (t, r) e in
    let R : TestForm → Type 0 = λ x. IsTest text (w ∷ []) x in
    record {
      front = [];
      rest = ws;
      words = refl;
      goes_on = sym (ap (λ (p : TestForm × WordReading). p.1) same);
      form = subst R (ap (λ (p : TestForm × WordReading). p.0) same) (by_id text w k);
    }
plain_kind (Mark c) text w ws t r k e = plain_mark c text w ws t r k e
plain_kind _ text w ws t r k e = absurd (none_some (t, r) e)

plain_takes : (text : List ℕ) (w : Word) (ws : List Word) (t : TestForm) (r : WordReading)
    → plain_from w (word_reading text ws) ≡ Some (t, r) → Found (Behind text w) text ws t r
unfolding plain_from
plain_takes text w ws t r e = plain_kind w.kind text w ws t r refl e

-- ---- pseudo-classes

record Closed (text : List ℕ) (ws : List Word) (close : Word) (rest : List Word) : Type 0 where
  front : List Word
  words : ws ≡ front ++ close ∷ rest
  none : AllByRecursion (λ w. is_mark 41 w.kind ≡ false) front
  kind : close.kind ≡ Mark 41

closing_takes : (text : List ℕ) (ws : List Word) (close : Word) (rest : List Word) → closing ws ≡ Some (close, rest)
    → Closed text ws close rest
unfolding closing
closing_takes text [] close rest e = absurd (none_some (close, rest) e)
closing_takes text (w ∷ ws) close rest e = by_case (chosen (is_mark 41 w.kind) (some_word w ws) (closing ws) (Some (close, rest)) e)
    (closing_takes text ws close rest)
  where
    some_word : Word → List Word → Option (Word × List Word)
    some_word v vs = Some (v, vs)

    by_case : ((is_mark 41 w.kind ≡ true) × (some_word w ws ≡ Some (close, rest)))
        ⊎ ((is_mark 41 w.kind ≡ false) × (closing ws ≡ Some (close, rest))) → (closing ws ≡ Some (close, rest) → Closed text ws close rest)
        → Closed text (w ∷ ws) close rest
    by_case (inl h) further =
        let same = some_is {A = Word × List Word} (w, ws) (close, rest) h.1 in
        record {
          front = [];
          words = ap (λ (p : Word × List Word). p.0 ∷ p.1) same;
          none = tt;
          kind = ap (λ (p : Word × List Word). p.0.kind) (sym same) ∙ mark_kind 41 w.kind h.0;
        }
    by_case (inr h) further =
        let c = further h.1 in
        record { front = w ∷ c.front; words = ap (λ (vs : List Word). w ∷ vs) c.words; none = (h.0, c.none); kind = c.kind }

abbrev AfterColon : List ℕ → List Word → TestForm → Type 0
AfterColon text front t = (colon : Word) → colon.kind ≡ Mark 58 → IsTest text (colon ∷ front) t

-- what follows a function's word
abbrev Called : List ℕ → Word → List Word → TestForm → Type 0
Called text function front t = AfterColon text (function ∷ front) t

nth_takes : (text : List ℕ) (function : Word) (ws : List Word) (kind : NthKind) (t : TestForm) (r : WordReading) → function.kind ≡ Function
    → function.spaced ≡ false → nth_kind (function_of text function) ≡ Some kind
    → nth_at kind function.end (word_reading text ws) ≡ Some (t, r)
    → Found (Called text function) text ws t r
unfolding nth_at
nth_takes text function ws kind t r k tight named e =
    let b = bind_some (closing_at (word_reading text ws))
    (λ close. nth_of (between text function.end close.0.start) >>= λ v. some_test (nth kind v.0 v.1) close.1) (t, r) e in
    let a = bind_some (closing ws) (λ x. some_close x.0 (word_reading text x.1)) b.0 b.1 in
    let at = some_is {A = Word × WordReading} (a.0.0, word_reading text a.0.1) b.0 a.2 in
    let c = closing_takes text ws a.0.0 a.0.1 a.1 in
    let v = bind_some (nth_of (between text function.end b.0.0.start)) (λ v. some_test (nth kind v.0 v.1) b.0.1) (t, r) b.2 in
    let same = some_is {A = TestForm × WordReading} (nth kind v.0.0 v.0.1, b.0.1) (t, r) v.2 in
    let value : nth_of (between text function.end a.0.0.start)
    ≡ Some v.0 = ap (λ (p : Word × WordReading). nth_of (between text function.end p.0.start)) at ∙ v.1 in
    let R : TestForm → Type 0 = λ x. Called text function (c.front ++ a.0.0 ∷ []) x in
    record {
      front = c.front ++ a.0.0 ∷ [];
      rest = a.0.1;
      words = c.words ∙ sym (append_assoc c.front (a.0.0 ∷ []) a.0.1);
      goes_on = sym (ap (λ (p : TestForm × WordReading). p.1) same) ∙ sym (ap (λ (p : Word × WordReading). p.1) at);
      form = subst R (ap (λ (p : TestForm × WordReading). p.0) same)
          (λ colon e'. by_nth text colon function a.0.0 c.front
          (colon ∷ function ∷ (c.front ++ a.0.0 ∷ [])) kind v.0.0 v.0.1 refl e' k tight named c.none c.kind
          (nth_spells (between text function.end a.0.0.start) v.0.0 v.0.1 value));
    }
  where
    some_close : Word → WordReading → Option (Word × WordReading)
    some_close w s = Some (w, s)

lang_takes : (text : List ℕ) (function : Word) (ws : List Word) (t : TestForm) (r : WordReading) → function.kind ≡ Function
    → function.spaced ≡ false → is_named (codes "lang") (function_of text function) ≡ true → lang_at (word_reading text ws) ≡ Some (t, r)
    → Found (Called text function) text ws t r
unfolding lang_at
lang_takes text function ws t r k tight named e =
    let b = bind_some (tight_ident_at (word_reading text ws)) (λ i. tight_mark_at 41 i.1 >>= λ x. some_test never x) (t, r) e in
    let n = tight_takes text ws b.0.0 b.0.1 b.1 in
    let x = bind_some (tight_mark_at 41 b.0.1) (λ x. some_test never x) (t, r) b.2 in
    let m = tight_mark_takes 41 text n.0.rest x.0 (ap (tight_mark_at 41) (sym n.0.goes_on) ∙ x.1) in
    let same = some_is {A = TestForm × WordReading} (never, x.0) (t, r) x.2 in
    let R : TestForm → Type 0 = λ y. Called text function (n.0.w ∷ m.0.w ∷ []) y in
    record {
      front = n.0.w ∷ m.0.w ∷ [];
      rest = m.0.rest;
      words = n.0.words ∙ ap (λ (vs : List Word). n.0.w ∷ vs) m.0.words;
      goes_on = sym (ap (λ (p : TestForm × WordReading). p.1) same) ∙ m.0.goes_on;
      form = subst R (ap (λ (p : TestForm × WordReading). p.0) same)
          (λ colon e'. by_lang text colon function n.0.w m.0.w e' k tight named n.0.kind n.1 m.0.kind m.1);
    }

function_takes : (text : List ℕ) (function : Word) (ws : List Word) (t : TestForm) (r : WordReading) → function.kind ≡ Function
    → function.spaced ≡ false → called_at function (word_reading text ws) ≡ Some (t, r) → Found (Called text function) text ws t r
unfolding function_at
function_takes text function ws t r k tight e =
    by_case (chosen (is_named (codes "lang") (function_of text function)) (lang_at (word_reading text ws))
    (nth_kind (function_of text function) >>= λ kind. nth_at kind function.end (word_reading text ws)) (Some (t, r)) e)
  where
    by_case : ((is_named (codes "lang") (function_of text function) ≡ true) × (lang_at (word_reading text ws) ≡ Some (t, r)))
        ⊎ ((is_named (codes "lang") (function_of text function) ≡ false)
        × ((nth_kind (function_of text function) >>= λ kind. nth_at kind function.end (word_reading text ws)) ≡ Some (t, r)))
        → Found (Called text function) text ws t r
    by_case (inl h) = lang_takes text function ws t r k tight h.0 h.1
    by_case (inr h) =
        let b = bind_some (nth_kind (function_of text function)) (λ kind. nth_at kind function.end (word_reading text ws)) (t, r) h.1 in
        nth_takes text function ws b.0 t r k tight b.1 b.2

with_rest_some : (o : Option TestForm) (s : WordReading) (t : TestForm) (r : WordReading) → with_rest o s ≡ Some (t, r)
    → (o ≡ Some t) × (r ≡ s)
with_rest_some None s t r e = absurd (none_some (t, r) e)
with_rest_some (Some x) s t r e =
    let same = some_is {A = TestForm × WordReading} (x, s) (t, r) e in
    (ap (λ (p : TestForm × WordReading). one p.0) same, sym (ap (λ (p : TestForm × WordReading). p.1) same))
  where
    one : TestForm → Option TestForm
    one y = Some y

pseudo_kind : (k : WordKind) (text : List ℕ) (w : Word) (ws : List Word) (t : TestForm) (r : WordReading) → w.kind ≡ k → w.spaced ≡ false
    → pseudo_by w (word_reading text ws) k ≡ Some (t, r) → Found (AfterColon text) text (w ∷ ws) t r
pseudo_kind Ident text w ws t r k tight e =
    let h = with_rest_some (pseudo_class (lower_of text w)) (word_reading text ws) t r e in
    record { front = w ∷ []; rest = ws; words = refl; goes_on = h.1; form = λ colon e'. by_pseudo text colon w t e' k tight h.0 }
pseudo_kind Function text w ws t r k tight e =
    let f = function_takes text w ws t r k tight e in
    record { front = w ∷ f.front; rest = f.rest; words = ap (λ (vs : List Word). w ∷ vs) f.words; goes_on = f.goes_on; form = f.form }
pseudo_kind _ text w ws t r k tight e = absurd (none_some (t, r) e)

pseudo_takes : (text : List ℕ) (ws : List Word) (t : TestForm) (r : WordReading) → pseudo_at (word_reading text ws) ≡ Some (t, r)
    → Found (AfterColon text) text ws t r
unfolding pseudo_at
pseudo_takes text [] t r e = absurd (none_some (t, r) e)
pseudo_takes text (w ∷ ws) t r e =
    let h = failed_test w.spaced (pseudo_by w (word_reading text ws) w.kind) (t, r) e in
    pseudo_kind w.kind text w ws t r refl h.0 h.1

-- ---- parts of a compound

-- what follows the first word of the argument of `:not`
abbrev Argument : List ℕ → Word → List Word → TestForm → Type 0
Argument text w front t = IsArgument text (w ∷ front) t

plain_argument : (text : List ℕ) (w : Word) (ws : List Word) (t : TestForm) (r : WordReading)
    → plain_from w (word_reading text ws) ≡ Some (t, r) → Found (Argument text w) text ws t r
plain_argument text w ws t r e =
    let f = plain_takes text w ws t r e in
    record { front = f.front; rest = f.rest; words = f.words; goes_on = f.goes_on; form = a_test text (w ∷ f.front) t f.form }

argument_colon : (c : ℕ) (text : List ℕ) (w : Word) (ws : List Word) (t : TestForm) (r : WordReading) → w.kind ≡ Mark c
    → cond (c == 58) (pseudo_at (word_reading text ws)) (plain_from w (word_reading text ws)) ≡ Some (t, r)
    → Found (Argument text w) text ws t r
argument_colon c text w ws t r k e = by_case
    (chosen (c == 58) (pseudo_at (word_reading text ws)) (plain_from w (word_reading text ws)) (Some (t, r)) e)
  where
    by_case : (((c == 58) ≡ true) × (pseudo_at (word_reading text ws) ≡ Some (t, r)))
        ⊎ (((c == 58) ≡ false) × (plain_from w (word_reading text ws) ≡ Some (t, r))) → Found (Argument text w) text ws t r
    by_case (inl h) =
        let f = pseudo_takes text ws t r h.1 in
        record {
          front = f.front;
          rest = f.rest;
          words = f.words;
          goes_on = f.goes_on;
          form = a_test text (w ∷ f.front) t (f.form w (k ∙ ap (λ (n : ℕ). Mark n) (eqb-true c 58 h.0)));
        }
    by_case (inr h) = plain_argument text w ws t r h.1

argument_mark : (c : ℕ) (text : List ℕ) (w : Word) (ws : List Word) (t : TestForm) (r : WordReading) → w.kind ≡ Mark c
    → argument_by w (word_reading text ws) (Mark c) ≡ Some (t, r) → Found (Argument text w) text ws t r
argument_mark c text w ws t r k e = by_case
    (chosen (c == 42) (some_test any (word_reading text ws))
    (cond (c == 58) (pseudo_at (word_reading text ws)) (plain_from w (word_reading text ws))) (Some (t, r)) e)
  where
    by_case : (((c == 42) ≡ true) × (some_test any (word_reading text ws) ≡ Some (t, r)))
        ⊎ (((c == 42) ≡ false) × (cond (c == 58) (pseudo_at (word_reading text ws)) (plain_from w (word_reading text ws)) ≡ Some (t, r)))
        → Found (Argument text w) text ws t r
    by_case (inl h) =
        let same = some_is {A = TestForm × WordReading} (any, word_reading text ws) (t, r) h.1 in
        let R : TestForm → Type 0 = λ x. IsArgument text (w ∷ []) x in
        record {
          front = [];
          rest = ws;
          words = refl;
          goes_on = sym (ap (λ (p : TestForm × WordReading). p.1) same);
          form = subst R (ap (λ (p : TestForm × WordReading). p.0) same) (a_any text w (k ∙ ap (λ (n : ℕ). Mark n) (eqb-true c 42 h.0)));
        }
    by_case (inr h) = argument_colon c text w ws t r k h.1

argument_kind : (k : WordKind) (text : List ℕ) (w : Word) (ws : List Word) (t : TestForm) (r : WordReading) → w.kind ≡ k
    → argument_by w (word_reading text ws) k ≡ Some (t, r) → Found (Argument text w) text ws t r
argument_kind Ident text w ws t r k e =
    let same = some_is {A = TestForm × WordReading} (tag (word_value text w), word_reading text ws) (t, r) e in
    let R : TestForm → Type 0 = λ x. IsArgument text (w ∷ []) x in
    record {
      front = [];
      rest = ws;
      words = refl;
      goes_on = sym (ap (λ (p : TestForm × WordReading). p.1) same);
      form = subst R (ap (λ (p : TestForm × WordReading). p.0) same) (a_tag text w k);
    }
argument_kind (Mark c) text w ws t r k e = argument_mark c text w ws t r k e
argument_kind _ text w ws t r k e = plain_argument text w ws t r e

argument_takes : (text : List ℕ) (ws : List Word) (t : TestForm) (r : WordReading) → argument_at (word_reading text ws) ≡ Some (t, r)
    → Found (IsArgument text) text ws t r
unfolding argument_from
argument_takes text [] t r e = absurd (none_some (t, r) e)
argument_takes text (w ∷ ws) t r e =
    let f = argument_kind w.kind text w ws t r refl e in
    record { front = w ∷ f.front; rest = f.rest; words = ap (λ (vs : List Word). w ∷ vs) f.words; goes_on = f.goes_on; form = f.form }

-- what follows the colon of a part
abbrev ItemBehind : List ℕ → List Word → Item → Type 0
ItemBehind text front x = (colon : Word) → colon.kind ≡ Mark 58 → IsCompoundItem text (colon ∷ front) x

abbrev some_item : Item → WordReading → Option (Item × WordReading)
some_item x r = Some (x, r)

item_is_some : (o : Option (TestForm × WordReading)) (x : Item) (r : WordReading) → item_is o ≡ Some (x, r)
    → (p : TestForm × WordReading) × (o ≡ Some p) × ((is p.0 ∷ [], false) ≡ x) × (p.1 ≡ r)
item_is_some None x r e = absurd (none_some (x, r) e)
item_is_some (Some p) x r e =
    let same = some_is {A = Item × WordReading} ((is p.0 ∷ [], false), p.1) (x, r) e in
    (p, refl, ap (λ (q : Item × WordReading). q.0) same, ap (λ (q : Item × WordReading). q.1) same)

item_is_not_some : (o : Option (TestForm × WordReading)) (x : Item) (r : WordReading) → item_is_not o ≡ Some (x, r)
    → (p : TestForm × WordReading) × (o ≡ Some p) × ((is_not p.0 ∷ [], false) ≡ x) × (p.1 ≡ r)
item_is_not_some None x r e = absurd (none_some (x, r) e)
item_is_not_some (Some p) x r e =
    let same = some_is {A = Item × WordReading} ((is_not p.0 ∷ [], false), p.1) (x, r) e in
    (p, refl, ap (λ (q : Item × WordReading). q.0) same, ap (λ (q : Item × WordReading). q.1) same)

not_takes : (text : List ℕ) (function : Word) (ws : List Word) (x : Item) (r : WordReading) → function.kind ≡ Function
    → function.spaced ≡ false → is_named (codes "not") (function_of text function) ≡ true
    → item_is_not (not_at (word_reading text ws)) ≡ Some (x, r) → Found (ItemBehind text) text (function ∷ ws) x r
unfolding not_at
not_takes text function ws x r k tight named e =
    let i = item_is_not_some (not_at (word_reading text ws)) x r e in
    let b = bind_some (argument_at (word_reading text ws)) (λ t. take_mark 41 t.1 >>= λ s. some_test t.0 s) i.0 i.1 in
    let a = argument_takes text ws b.0.0 b.0.1 b.1 in
    let c = bind_some (take_mark 41 b.0.1) (λ s. some_test b.0.0 s) i.0 b.2 in
    let m = mark_takes 41 text a.rest c.0 (ap (take_mark 41) (sym a.goes_on) ∙ c.1) in
    let same = some_is {A = TestForm × WordReading} (b.0.0, c.0) i.0 c.2 in
    let front = function ∷ (a.front ++ m.w ∷ []) in
    let R : Item → Type 0 = λ y. ItemBehind text front y in
    record {
      front = front;
      rest = m.rest;
      words = ap (λ (vs : List Word). function ∷ vs)
          (a.words ∙ ap (λ (vs : List Word). a.front ++ vs) m.words ∙ sym (append_assoc a.front (m.w ∷ []) m.rest));
      goes_on = sym i.3 ∙ sym (ap (λ (p : TestForm × WordReading). p.1) same) ∙ m.goes_on;
      form = subst R (ap (λ (p : TestForm × WordReading). item_not_of p.0) same ∙ i.2)
          (λ colon e'. item_not text colon function m.w a.front (colon ∷ front) b.0.0 refl e' k tight named a.form m.kind);
    }
  where
    item_not_of : TestForm → Item
    item_not_of t = (is_not t ∷ [], false)

item_of_test : (text : List ℕ) (ws : List Word) (o : Option (TestForm × WordReading)) (x : Item) (r : WordReading)
    → ((t : TestForm) (s : WordReading) → o ≡ Some (t, s) → Found (AfterColon text) text ws t s) → item_is o ≡ Some (x, r)
    → Found (ItemBehind text) text ws x r
item_of_test text ws o x r takes e =
    let i = item_is_some o x r e in
    let f = takes i.0.0 i.0.1 i.1 in
    let R : Item → Type 0 = λ y. ItemBehind text f.front y in
    record {
      front = f.front;
      rest = f.rest;
      words = f.words;
      goes_on = sym i.3 ∙ f.goes_on;
      form = subst R i.2 (λ colon e'. item_test text (colon ∷ f.front) i.0.0 (f.form colon e'));
    }

colon_ident : (text : List ℕ) (w : Word) (ws : List Word) (x : Item) (r : WordReading) → w.kind ≡ Ident → w.spaced ≡ false
    → colon_named w (word_reading text ws) ≡ Some (x, r) → Found (ItemBehind text) text (w ∷ ws) x r
colon_ident text w ws x r k tight e = by_case
    (chosen (is_pseudo_element (lower_of text w)) (some_item ([], true) (word_reading text ws))
    (item_is (named_at w (word_reading text ws))) (Some (x, r)) e)
  where
    named : (t : TestForm) (s : WordReading) → named_at w (word_reading text ws) ≡ Some (t, s) → Found (AfterColon text) text (w ∷ ws) t s
    named t s h = pseudo_kind Ident text w ws t s k tight h

    by_case : ((is_pseudo_element (lower_of text w) ≡ true) × (some_item ([], true) (word_reading text ws) ≡ Some (x, r)))
        ⊎ ((is_pseudo_element (lower_of text w) ≡ false) × (item_is (named_at w (word_reading text ws)) ≡ Some (x, r)))
        → Found (ItemBehind text) text (w ∷ ws) x r
    by_case (inl h) =
        let same = some_is {A = Item × WordReading} (([], true), word_reading text ws) (x, r) h.1 in
        let R : Item → Type 0 = λ y. ItemBehind text (w ∷ []) y in
        record {
          front = w ∷ [];
          rest = ws;
          words = refl;
          goes_on = sym (ap (λ (p : Item × WordReading). p.1) same);
          form = subst R (ap (λ (p : Item × WordReading). p.0) same)
              (λ colon e'. item_element text (colon ∷ w ∷ []) (one_colon text colon w e' k tight h.0));
        }
    by_case (inr h) = item_of_test text (w ∷ ws) (named_at w (word_reading text ws)) x r named h.1

colon_function : (text : List ℕ) (w : Word) (ws : List Word) (x : Item) (r : WordReading) → w.kind ≡ Function → w.spaced ≡ false
    → colon_called w (word_reading text ws) ≡ Some (x, r) → Found (ItemBehind text) text (w ∷ ws) x r
colon_function text w ws x r k tight e = by_case
    (chosen (is_named (codes "not") (function_of text w)) (item_is_not (not_at (word_reading text ws)))
    (item_is (called_at w (word_reading text ws))) (Some (x, r)) e)
  where
    called : (t : TestForm) (s : WordReading) → called_at w (word_reading text ws) ≡ Some (t, s) → Found (AfterColon text) text (w ∷ ws) t s
    called t s h = pseudo_kind Function text w ws t s k tight h

    by_case : ((is_named (codes "not") (function_of text w) ≡ true) × (item_is_not (not_at (word_reading text ws)) ≡ Some (x, r)))
        ⊎ ((is_named (codes "not") (function_of text w) ≡ false) × (item_is (called_at w (word_reading text ws)) ≡ Some (x, r)))
        → Found (ItemBehind text) text (w ∷ ws) x r
    by_case (inl h) = not_takes text w ws x r k tight h.0 h.1
    by_case (inr h) = item_of_test text (w ∷ ws) (called_at w (word_reading text ws)) x r called h.1

element_takes : (text : List ℕ) (second : Word) (ws : List Word) (x : Item) (r : WordReading) → second.kind ≡ Mark 58
    → second.spaced ≡ false → element_at (word_reading text ws) ≡ Some (x, r) → Found (ItemBehind text) text (second ∷ ws) x r
unfolding element_at
element_takes text second ws x r k tight e =
    let b = bind_some (tight_ident_at (word_reading text ws))
    (λ n. cond (is_pseudo_element (map to_ascii_lowercase n.0)) (some_item ([], true) n.1) None) (x, r) e in
    let n = tight_takes text ws b.0.0 b.0.1 b.1 in
    let h = passed_test (is_pseudo_element (map to_ascii_lowercase b.0.0)) (some_item ([], true) b.0.1) (x, r) b.2 in
    let same = some_is {A = Item × WordReading} (([], true), b.0.1) (x, r) h.1 in
    let named : is_pseudo_element (lower_of text n.0.w)
    ≡ true = ap (λ (v : List ℕ). is_pseudo_element (map to_ascii_lowercase v)) n.0.value ∙ h.0 in
    let R : Item → Type 0 = λ y. ItemBehind text (second ∷ n.0.w ∷ []) y in
    record {
      front = second ∷ n.0.w ∷ [];
      rest = n.0.rest;
      words = ap (λ (vs : List Word). second ∷ vs) n.0.words;
      goes_on = sym (ap (λ (p : Item × WordReading). p.1) same) ∙ n.0.goes_on;
      form = subst R (ap (λ (p : Item × WordReading). p.0) same)
          (λ colon e'. item_element text (colon ∷ second ∷ n.0.w ∷ []) (two_colons text colon second n.0.w e' k tight n.0.kind n.1 named));
    }

colon_kind : (k : WordKind) (text : List ℕ) (w : Word) (ws : List Word) (x : Item) (r : WordReading) → w.kind ≡ k → w.spaced ≡ false
    → colon_by w (word_reading text ws) k ≡ Some (x, r) → Found (ItemBehind text) text (w ∷ ws) x r
colon_kind Ident text w ws x r k tight e = colon_ident text w ws x r k tight e
colon_kind Function text w ws x r k tight e = colon_function text w ws x r k tight e
colon_kind (Mark c) text w ws x r k tight e =
    let h = passed_test (c == 58) (element_at (word_reading text ws)) (x, r) e in
    element_takes text w ws x r (k ∙ ap (λ (n : ℕ). Mark n) (eqb-true c 58 h.0)) tight h.1
colon_kind _ text w ws x r k tight e = absurd (none_some (x, r) e)

colon_takes : (text : List ℕ) (ws : List Word) (x : Item) (r : WordReading) → colon_at (word_reading text ws) ≡ Some (x, r)
    → Found (ItemBehind text) text ws x r
unfolding colon_at
colon_takes text [] x r e = absurd (none_some (x, r) e)
colon_takes text (w ∷ ws) x r e =
    let h = failed_test w.spaced (colon_by w (word_reading text ws) w.kind) (x, r) e in
    colon_kind w.kind text w ws x r refl h.0 h.1

abbrev ItemFrom : List ℕ → Word → List Word → Item → Type 0
ItemFrom text w front x = IsCompoundItem text (w ∷ front) x

pub item_takes : (text : List ℕ) (w : Word) (ws : List Word) (x : Item) (r : WordReading)
    → item_from w (word_reading text ws) ≡ Some (x, r) → Found (ItemFrom text w) text ws x r
unfolding item_from
item_takes text w ws x r e = by_case
    (chosen (is_mark 58 w.kind) (colon_at (word_reading text ws)) (item_is (plain_from w (word_reading text ws))) (Some (x, r)) e)
  where
    by_case : ((is_mark 58 w.kind ≡ true) × (colon_at (word_reading text ws) ≡ Some (x, r)))
        ⊎ ((is_mark 58 w.kind ≡ false) × (item_is (plain_from w (word_reading text ws)) ≡ Some (x, r)))
        → Found (ItemFrom text w) text ws x r
    by_case (inl h) =
        let f = colon_takes text ws x r h.1 in
        record { front = f.front; rest = f.rest; words = f.words; goes_on = f.goes_on; form = f.form w (mark_kind 58 w.kind h.0) }
    by_case (inr h) =
        let i = item_is_some (plain_from w (word_reading text ws)) x r h.1 in
        let f = plain_takes text w ws i.0.0 i.0.1 i.1 in
        let R : Item → Type 0 = λ y. IsCompoundItem text (w ∷ f.front) y in
        record {
          front = f.front;
          rest = f.rest;
          words = f.words;
          goes_on = sym i.3 ∙ f.goes_on;
          form = subst R i.2 (item_test text (w ∷ f.front) i.0.0 f.form);
        }

abbrev FirstFrom : List ℕ → Word → List Word → Item → Type 0
FirstFrom text w front x = IsFirst text (w ∷ front) x

first_item_takes : (text : List ℕ) (w : Word) (ws : List Word) (x : Item) (r : WordReading)
    → item_from w (word_reading text ws) ≡ Some (x, r) → Found (FirstFrom text w) text ws x r
first_item_takes text w ws x r e =
    let f = item_takes text w ws x r e in
    record { front = f.front; rest = f.rest; words = f.words; goes_on = f.goes_on; form = first_item text (w ∷ f.front) x f.form }

first_kind : (k : WordKind) (text : List ℕ) (w : Word) (ws : List Word) (x : Item) (r : WordReading) → w.kind ≡ k
    → first_by w (word_reading text ws) k ≡ Some (x, r) → Found (FirstFrom text w) text ws x r
first_kind Ident text w ws x r k e =
    let same = some_is {A = Item × WordReading} ((is (tag (word_value text w)) ∷ [], false), word_reading text ws) (x, r) e in
    let R : Item → Type 0 = λ y. IsFirst text (w ∷ []) y in
    record {
      front = [];
      rest = ws;
      words = refl;
      goes_on = sym (ap (λ (p : Item × WordReading). p.1) same);
      form = subst R (ap (λ (p : Item × WordReading). p.0) same) (first_tag text w k);
    }
first_kind (Mark c) text w ws x r k e = by_case
    (chosen (c == 42) (some_item (is any ∷ [], false) (word_reading text ws)) (item_from w (word_reading text ws)) (Some (x, r)) e)
  where
    by_case : (((c == 42) ≡ true) × (some_item (is any ∷ [], false) (word_reading text ws) ≡ Some (x, r)))
        ⊎ (((c == 42) ≡ false) × (item_from w (word_reading text ws) ≡ Some (x, r))) → Found (FirstFrom text w) text ws x r
    by_case (inl h) =
        let same = some_is {A = Item × WordReading} ((is any ∷ [], false), word_reading text ws) (x, r) h.1 in
        let R : Item → Type 0 = λ y. IsFirst text (w ∷ []) y in
        record {
          front = [];
          rest = ws;
          words = refl;
          goes_on = sym (ap (λ (p : Item × WordReading). p.1) same);
          form = subst R (ap (λ (p : Item × WordReading). p.0) same) (first_any text w (k ∙ ap (λ (n : ℕ). Mark n) (eqb-true c 42 h.0)));
        }
    by_case (inr h) = first_item_takes text w ws x r h.1
first_kind _ text w ws x r k e = first_item_takes text w ws x r e

pub first_takes : (text : List ℕ) (ws : List Word) (x : Item) (r : WordReading) → first_part_at (word_reading text ws) ≡ Some (x, r)
    → Found (IsFirst text) text ws x r
unfolding first_from
first_takes text [] x r e = absurd (none_some (x, r) e)
first_takes text (w ∷ ws) x r e =
    let f = first_kind w.kind text w ws x r refl e in
    record { front = w ∷ f.front; rest = f.rest; words = ap (λ (vs : List Word). w ∷ vs) f.words; goes_on = f.goes_on; form = f.form }
