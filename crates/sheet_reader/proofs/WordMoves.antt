-- Words that stand further back in another text, with the same codes up to a place: selectors are read from them as before.
use Rattle.std.proofs.Common.{◌≡◌, ◌⊎◌, inl, inr, ℕ, zero, suc, ◌+◌, ◌-◌, ◌<◌, ◌≤◌, ◌==◌, Bool, true, false, cond, ◌&&◌, nat_lt, List}
use Rattle.std.proofs.Common.{[], ◌∷◌, ◌++◌, map}
use Rattle.std.proofs.Common.{length, Option, Some, None, refl, ap, sym, ◌∙◌, subst, arith}
use Rattle.std.specs.Prelude.{ℤ, slice_get, slice_index, option_map, codes}
use Rattle.std.specs.Char.{to_ascii_lowercase}
use Rattle.std.proofs.lemmas.Bool.Decides.{nat_tests}
use Rattle.css_tokens.specs.Escapes.{unescaped}
use Rattle.css_tokens.specs.declared.token.Range.{Range}
use Rattle.selectors.specs.declared.words.Word.{Word}
use Rattle.selectors.specs.declared.words.WordKind.{WordKind}
use Rattle.selectors.specs.declared.words.WordKind.TheVariants.{Ident, Function, Id, Mark, Str}
use Rattle.selectors.specs.Words.{WordReading, word_reading, is_mark, between}
use Rattle.selectors.specs.Forms.{TestForm, any, tag, id, class, nth, never, is, is_not, SelectorForm}
use Rattle.selectors.specs.Forms.{◌>>=◌}
use Rattle.selectors.specs.Nth.{nth_of}
use Rattle.selectors.specs.Parts.{with_front, many_in, many}
use Rattle.selectors.specs.Forms as reading
use Rattle.selectors.specs.Reading.{word_value, hash_value, string_end, string_of, lower_of, function_of, first_is, is_tight, take_mark}
use Rattle.selectors.specs.Reading.{ident_value, with_rest}
use Rattle.selectors.specs.Reading.{ident_at, tight_ident_at, operator_of, equals_at, operator_at, operand_by, operand_at}
use Rattle.selectors.specs.Reading.{exists_at, compare_at}
use Rattle.selectors.specs.Reading.{attribute_at, is_named, pseudo_class, is_pseudo_element, nth_kind, closing}
use Rattle.selectors.specs.Reading.{nth_at}
use Rattle.selectors.specs.Reading.{tight_mark_at, lang_at, function_at, class_at, plain_by, plain_from, named_at, called_at, pseudo_by}
use Rattle.selectors.specs.Reading.{pseudo_at}
use Rattle.selectors.specs.Reading.{argument_by, argument_from, argument_at, not_at, Item, item_is, item_is_not, element_at, colon_named}
use Rattle.selectors.specs.Reading.{colon_called}
use Rattle.selectors.specs.Reading.{colon_by, colon_at, item_from, compound_item_at, first_by, first_from, first_part_at, combinator_of}
use Rattle.selectors.specs.Reading.{ends_compound}
use Rattle.selectors.specs.Reading.{tests_at, Joined, compound_of, compound_at, joint_of, joint_at, joined_at, ends_selector}
use Rattle.selectors.specs.Reading.{compounds_at}
use Rattle.selectors.specs.Reading.{range_by, range_of, selector_form, joined_of, selector_of, put_first, segments, selector_before}
use Rattle.selectors.specs.Reading.{selectors_in, selector_list_of}
use Rattle.sheet_reader.proofs.Raised.{raised_word}
use Rattle.selectors.specs.declared.selector.NthKind.{NthKind}
use Rattle.selectors.specs.Moves.{placed_range, placed_selector}
use Rattle.sheet_reader.proofs.PartMoves.{map_get, map_length}

-- what stands in a text between two places stands in another one, in one piece
pub record SamePart (text other : List ℕ) (f : ℕ → ℕ) (lo hi : ℕ) : Type 0 where
  pub cut : (a b : ℕ) → lo ≤ a → a ≤ hi → lo ≤ b → b ≤ hi → between text a b ≡ between other (f a) (f b)
  pub code : (i : ℕ) → lo ≤ i → i < hi → slice_index text i ≡ slice_index other (f i)
  pub shift : (x k : ℕ) → lo ≤ x → x + k ≤ hi → f (x + k) ≡ f x + k

-- The words of a text read as words of another: each with the values that selectors are read from, those of an ident, an id, a function
-- and a string; what stands between a function and a word; and that one stands right behind another
pub record SameWords (text other : List ℕ) (f : ℕ → ℕ) (In : Word → Type 0) : Type 0 where
  pub value : (w : Word) → In w → w.kind ≡ Ident → word_value text w ≡ word_value other (raised_word f w)
  pub hash : (w : Word) → In w → w.kind ≡ Id → hash_value text w ≡ hash_value other (raised_word f w)
  pub function : (w : Word) → In w → w.kind ≡ Function → function_of text w ≡ function_of other (raised_word f w)
  pub string : (w : Word) → In w → w.kind ≡ Str → string_of text w ≡ string_of other (raised_word f w)
  pub inner : (w e : Word) → In w → In e → w.kind ≡ Function → between text w.end e.start ≡ between other (f w.end) (f e.start)
  pub tight : (e w : Word) → In e → In w → (e.start == w.end) ≡ (f e.start == f w.end)

-- a word between these places
abbrev pub InWord : ℕ → ℕ → Word → Type 0
InWord lo hi w = (lo ≤ w.start) × (w.start < w.end) × (w.end ≤ hi)

abbrev pub AllIn : ℕ → ℕ → List Word → Type 0
AllIn lo hi [] = Unit {0}
AllIn lo hi (w ∷ ws) = InWord lo hi w × AllIn lo hi ws

equal_places : (p q a b lo f : ℕ) → p ≡ f + (a - lo) → q ≡ f + (b - lo) → lo ≤ a → lo ≤ b → (a == b) ≡ (p == q)
equal_places p q a b lo f e g h k = grind (arith, nat_tests)

before_place : (p q a b lo f : ℕ) → p ≡ f + (a - lo) → q ≡ f + (b - lo) → lo ≤ a → lo ≤ b → nat_lt (a + 1) b ≡ nat_lt (p + 1) q
before_place p q a b lo f e g h k = grind (arith, nat_tests)

abbrev at_close : List ℕ → Option (Word × List Word) → Option (Word × WordReading)
at_close text o = o >>= λ x. Some (x.0, word_reading text x.1)

abbrev number_at : NthKind → ℕ → List ℕ → Option (Word × WordReading) → Option (TestForm × WordReading)
number_at kind start text o = o >>= λ close. nth_of (between text start close.0.start) >>= λ v. Some (nth kind v.0 v.1, close.1)

-- ---- words that stand in one piece
module _ (text other : List ℕ) (f : ℕ → ℕ) (lo hi : ℕ) (same : SamePart text other f lo hi) where
  pub place_at : (x : ℕ) → lo ≤ x → x ≤ hi → f x ≡ f lo + (x - lo)
  place_at x a b =
      let is : lo + (x - lo) ≡ x = omega (arith, a) in
      sym (ap f is) ∙ same.shift lo (x - lo) (omega arith) (omega (arith, a, b))

  next_place : (x : ℕ) → lo ≤ x → x < hi → f (x + 1) ≡ f x + 1
  next_place x a b = same.shift x 1 a (omega (arith, b))

  last_place : (x : ℕ) → lo < x → x ≤ hi → f (x - 1) ≡ f x - 1
  last_place x a b =
      let is : x - 1 + 1 ≡ x = omega (arith, a) in
      let more = same.shift (x - 1) 1 (omega (arith, a)) (omega (arith, a, b)) in
      omega (arith, more, ap f is)

  pub value_same : (w : Word) → InWord lo hi w → word_value text w ≡ word_value other (raised_word f w)
  value_same w i = ap unescaped (same.cut w.start w.end i.0 (omega (arith, i.1, i.2)) (omega (arith, i.0, i.1)) i.2)

  pub lower_same : (w : Word) → InWord lo hi w → lower_of text w ≡ lower_of other (raised_word f w)
  lower_same w i = ap (map to_ascii_lowercase) (value_same w i)

  hash_same : (w : Word) → InWord lo hi w → hash_value text w ≡ hash_value other (raised_word f w)
  hash_same w i =
      ap unescaped (same.cut (w.start + 1) w.end (omega (arith, i.0)) (omega (arith, i.1, i.2)) (omega (arith, i.0, i.1)) i.2
      ∙ ap (λ (k : ℕ). between other k (f w.end)) (next_place w.start i.0 (omega (arith, i.1, i.2))))

  function_same : (w : Word) → InWord lo hi w → function_of text w ≡ function_of other (raised_word f w)
  function_same w i =
      ap (λ (t : List ℕ). map to_ascii_lowercase (unescaped t))
      (same.cut w.start (w.end - 1) i.0 (omega (arith, i.1, i.2)) (omega (arith, i.0, i.1)) (omega (arith, i.2))
      ∙ ap (between other (f w.start)) (last_place w.end (omega (arith, i.0, i.1)) i.2))

  quotes_same : (w : Word) → InWord lo hi w → (slice_index text (w.end - 1) == slice_index text w.start)
      ≡ (slice_index other (f w.end - 1) == slice_index other (f w.start))
  quotes_same w i =
      let a = same.code (w.end - 1) (omega (arith, i.0, i.1)) (omega (arith, i.1, i.2))
      ∙ ap (slice_index other) (last_place w.end (omega (arith, i.0, i.1)) i.2) in
      let b = same.code w.start i.0 (omega (arith, i.1, i.2)) in
      λ k. a k == b k

  end_by : (b : Bool) (e : ℕ) → lo < e → e ≤ hi → f (cond b (e - 1) e) ≡ cond b (f e - 1) (f e)
  end_by true e some fits = last_place e some fits
  end_by false e some fits = refl

  string_end_same : (w : Word) → InWord lo hi w → f (string_end text w) ≡ string_end other (raised_word f w)
  string_end_same w i =
      let a = before_place (f w.start) (f w.end) w.start w.end lo (f lo) (place_at w.start i.0 (omega (arith, i.1, i.2)))
      (place_at w.end (omega (arith, i.0, i.1)) i.2) i.0 (omega (arith, i.0, i.1)) in
      let b = quotes_same w i in
      end_by (nat_lt (w.start + 1) w.end && slice_index text (w.end - 1) == slice_index text w.start) w.end (omega (arith, i.0, i.1)) i.2
      ∙ (λ k. cond (a k && b k) (f w.end - 1) (f w.end))

  string_end_in : (w : Word) → InWord lo hi w → (lo ≤ string_end text w) × (string_end text w ≤ hi)
  string_end_in w i = by (nat_lt (w.start + 1) w.end && slice_index text (w.end - 1) == slice_index text w.start)
    where
      by : (b : Bool) → (lo ≤ cond b (w.end - 1) w.end) × (cond b (w.end - 1) w.end ≤ hi)
      by true = (omega (arith, i.0, i.1), omega (arith, i.2))
      by false = (omega (arith, i.0, i.1), i.2)

  string_same : (w : Word) → InWord lo hi w → string_of text w ≡ string_of other (raised_word f w)
  string_same w i =
      let e = string_end_in w i in
      ap unescaped (same.cut (w.start + 1) (string_end text w) (omega (arith, i.0)) (omega (arith, i.1, i.2)) e.0 e.1
      ∙ ap (λ (k : ℕ). between other k (f (string_end text w))) (next_place w.start i.0 (omega (arith, i.1, i.2)))
      ∙ ap (between other (f w.start + 1)) (string_end_same w i))

  nth_same : (w e : Word) → InWord lo hi w → InWord lo hi e → between text w.end e.start ≡ between other (f w.end) (f e.start)
  nth_same w e i j = same.cut w.end e.start (omega (arith, i.0, i.1)) i.2 j.0 (omega (arith, j.1, j.2))

  tight_places : (e w : Word) → InWord lo hi e → InWord lo hi w → (e.start == w.end) ≡ (f e.start == f w.end)
  tight_places e w j i =
      equal_places (f e.start) (f w.end) e.start w.end lo (f lo) (place_at e.start j.0 (omega (arith, j.1, j.2)))
      (place_at w.end (omega (arith, i.0, i.1)) i.2) j.0 (omega (arith, i.0, i.1))

  pub part_words : SameWords text other f (InWord lo hi)
  part_words = record {
    value = λ w i k. value_same w i;
    hash = λ w i k. hash_same w i;
    function = λ w i k. function_same w i;
    string = λ w i k. string_same w i;
    inner = λ w e i j k. nth_same w e i j;
    tight = λ e w j i. tight_places e w j i;
  }

-- words that are all so
abbrev pub AllWords : (Word → Type 0) → List Word → Type 0
AllWords In [] = Unit {0}
AllWords In (w ∷ ws) = In w × AllWords In ws

-- ---- ranges
module _ (f : ℕ → ℕ) where
  range_by_same : (a b : Option Word) → range_by (option_map (raised_word f) a) (option_map (raised_word f) b)
      ≡ option_map (placed_range f) (range_by a b)
  range_by_same None b = refl
  range_by_same (Some a) None = refl
  range_by_same (Some a) (Some b) = refl

  pub range_kept : (ws : List Word) → range_of (map (raised_word f) ws) ≡ option_map (placed_range f) (range_of ws)
  range_kept ws =
      ap (λ (n : ℕ). range_by (slice_get (map (raised_word f) ws) 0) (slice_get (map (raised_word f) ws) (n - 1)))
      (map_length (raised_word f) ws)
      ∙ ap (λ (o : Option Word). range_by o (slice_get (map (raised_word f) ws) (length ws - 1))) (map_get (raised_word f) 0 ws)
      ∙ ap (range_by (option_map (raised_word f) (slice_get ws 0))) (map_get (raised_word f) (length ws - 1) ws)
      ∙ range_by_same (slice_get ws 0) (slice_get ws (length ws - 1))

-- ---- selectors
module _ (text other : List ℕ) (f : ℕ → ℕ) (In : Word → Type 0) (same : SameWords text other f In) where
  abbrev here : List Word → WordReading
  here ws = word_reading text ws

  abbrev there : List Word → WordReading
  there ws = word_reading other (map (raised_word f) ws)

  data Agrees {A : Type 0} : Option (A × WordReading) → Option (A × WordReading) → Type 0 where
    fails : Agrees None None
    gives : (x : A) (ws : List Word) → AllWords In ws → Agrees (Some (x, here ws)) (Some (x, there ws))

  data Goes : Option WordReading → Option WordReading → Type 0 where
    stuck : Goes None None
    goes : (ws : List Word) → AllWords In ws → Goes (Some (here ws)) (Some (there ws))

  then_agrees : {A B : Type 0} (o o' : Option (A × WordReading)) (f g : A × WordReading → Option (B × WordReading)) → Agrees o o'
      → ((x : A) (ws : List Word) → AllWords In ws → Agrees (f (x, here ws)) (g (x, there ws))) → Agrees (o >>= f) (o' >>= g)
  then_agrees _ _ f g fails more = fails
  then_agrees _ _ f g (gives x ws all) more = more x ws all

  goes_agrees : {B : Type 0} (o o' : Option WordReading) (f g : WordReading → Option (B × WordReading)) → Goes o o'
      → ((ws : List Word) → AllWords In ws → Agrees (f (here ws)) (g (there ws))) → Agrees (o >>= f) (o' >>= g)
  goes_agrees _ _ f g stuck more = fails
  goes_agrees _ _ f g (goes ws all) more = more ws all

  either_agrees : {A : Type 0} (b : Bool) (x y x' y' : Option (A × WordReading)) → Agrees x x' → Agrees y y'
      → Agrees (cond b x y) (cond b x' y')
  either_agrees true x y x' y' h k = h
  either_agrees false x y x' y' h k = k

  test_agrees : {A : Type 0} (b c : Bool) (x y x' y' : Option (A × WordReading)) → b ≡ c → Agrees x x' → Agrees y y'
      → Agrees (cond b x y) (cond c x' y')
  test_agrees b c x y x' y' e h k = subst (λ (t : Bool). Agrees (cond b x y) (cond t x' y')) e (either_agrees b x y x' y' h k)

  rest_agrees : {A : Type 0} (o o' : Option A) (ws : List Word) → o ≡ o' → AllWords In ws
      → Agrees (with_rest o (here ws)) (with_rest o' (there ws))
  rest_agrees {A = A} o o' ws e all = subst (λ (x : Option A). Agrees (with_rest o (here ws)) (with_rest x (there ws))) e (by o)
    where
      by : (o : Option A) → Agrees (with_rest o (here ws)) (with_rest o (there ws))
      by None = fails
      by (Some x) = gives x ws all

  give_agrees : {A : Type 0} (x y : A) (ws : List Word) → x ≡ y → AllWords In ws → Agrees (Some (x, here ws)) (Some (y, there ws))
  give_agrees {A = A} x y ws e all = subst (λ (z : A). Agrees (Some (x, here ws)) (Some (z, there ws))) e (gives x ws all)

  -- ---- words
  first_same : (p : WordKind → Bool) (ws : List Word) → first_is (λ w. p w.kind) ws ≡ first_is (λ w. p w.kind) (map (raised_word f) ws)
  first_same p [] = refl
  first_same p (w ∷ ws) = refl

  tight_same : (ws : List Word) → is_tight (here ws) ≡ is_tight (there ws)
  tight_same [] = refl
  tight_same (w ∷ ws) = refl

  mark_goes : (c : ℕ) (ws : List Word) → AllWords In ws → Goes (take_mark c (here ws)) (take_mark c (there ws))
  mark_goes c [] all = stuck
  mark_goes c (w ∷ ws) all = by (is_mark c w.kind)
    where
      by : (b : Bool) → Goes (cond b (Some (here ws)) None) (cond b (Some (there ws)) None)
      by true = goes ws all.1
      by false = stuck

  tight_mark_goes : (c : ℕ) (ws : List Word) → AllWords In ws → Goes (tight_mark_at c (here ws)) (tight_mark_at c (there ws))
  tight_mark_goes c ws all =
      subst (λ (b : Bool). Goes (cond (is_tight (here ws)) (take_mark c (here ws)) None) (cond b (take_mark c (there ws)) None))
      (tight_same ws)
      (by (is_tight (here ws)))
    where
      by : (b : Bool) → Goes (cond b (take_mark c (here ws)) None) (cond b (take_mark c (there ws)) None)
      by true = mark_goes c ws all
      by false = stuck

  -- what is read from the value turns on it for an ident alone
  by_ident : {A : Type 0} (g : List ℕ → WordKind → A) (w : Word) → In w → ((k : WordKind) → (k ≡ Ident) ⊎ ((x y : List ℕ) → g x k ≡ g y k))
      → g (word_value text w) w.kind ≡ g (word_value other (raised_word f w)) w.kind
  by_ident g w i each = by (each w.kind)
    where
      by : (w.kind ≡ Ident) ⊎ ((x y : List ℕ) → g x w.kind ≡ g y w.kind)
          → g (word_value text w) w.kind ≡ g (word_value other (raised_word f w)) w.kind
      by (inl e) = ap (λ (v : List ℕ). g v w.kind) (same.value w i e)
      by (inr either) = either (word_value text w) (word_value other (raised_word f w))

  ident_same : (w : Word) → In w → ident_value (word_value text w) w.kind ≡ ident_value (word_value other (raised_word f w)) w.kind
  ident_same w i = by_ident ident_value w i each
    where
      each : (k : WordKind) → (k ≡ Ident) ⊎ ((x y : List ℕ) → ident_value x k ≡ ident_value y k)
      each Ident = inl refl
      each _ = inr (λ x y. refl)

  ident_agrees : (ws : List Word) → AllWords In ws → Agrees (ident_at (here ws)) (ident_at (there ws))
  unfolding ident_at
  ident_agrees [] all = fails
  ident_agrees (w ∷ ws) all = rest_agrees _ _ ws (ident_same w all.0) all.1

  tight_ident_agrees : (ws : List Word) → AllWords In ws → Agrees (tight_ident_at (here ws)) (tight_ident_at (there ws))
  tight_ident_agrees ws all = test_agrees _ _ _ _ _ _ (tight_same ws) (ident_agrees ws all) fails

  -- ---- attribute selectors
  equals_agrees : (w : Word) (op : _) (ws : List Word) → In w → AllWords In ws
      → Agrees (equals_at w op (here ws)) (equals_at (raised_word f w) op (there ws))
  equals_agrees w op [] i all = fails
  equals_agrees w op (e ∷ ws) i all =
      let eq = same.tight e w all.0 i in
      test_agrees (is_mark 61 e.kind && e.start == w.end) _ _ _ _ _ (ap (λ (b : Bool). is_mark 61 e.kind && b) eq)
      (gives op ws all.1) fails

  operator_agrees : (ws : List Word) → AllWords In ws → Agrees (operator_at (here ws)) (operator_at (there ws))
  unfolding operator_at
  operator_agrees [] all = fails
  operator_agrees (w ∷ ws) all = either_agrees (is_mark 61 w.kind) _ _ _ _ (gives _ ws all.1) (by (operator_of w.kind))
    where
      by : (o : _) → Agrees (o >>= λ op. equals_at w op (here ws)) (o >>= λ op. equals_at (raised_word f w) op (there ws))
      by None = fails
      by (Some op) = equals_agrees w op ws all.0 all.1

  operand_same : (w : Word) → In w → (k : WordKind) → w.kind ≡ k → operand_by (word_value text w) (string_of text w) k
      ≡ operand_by (word_value other (raised_word f w)) (string_of other (raised_word f w)) k
  operand_same w i Ident e = ap (λ (v : List ℕ). Some v) (same.value w i e)
  operand_same w i Str e = ap (λ (v : List ℕ). Some v) (same.string w i e)
  operand_same w i _ e = refl

  operand_agrees : (ws : List Word) → AllWords In ws → Agrees (operand_at (here ws)) (operand_at (there ws))
  unfolding operand_at
  operand_agrees [] all = fails
  operand_agrees (w ∷ ws) all =
      rest_agrees _ _ ws (operand_same w all.0 w.kind refl) all.1

  exists_agrees : (name : List ℕ) (ws : List Word) → AllWords In ws → Agrees (exists_at name (here ws)) (exists_at name (there ws))
  exists_agrees name ws all = goes_agrees _ _ _ _ (mark_goes 93 ws all) (λ xs a. gives _ xs a)

  compare_agrees : (name : List ℕ) (ws : List Word) → AllWords In ws → Agrees (compare_at name (here ws)) (compare_at name (there ws))
  compare_agrees name ws all =
      then_agrees _ _ _ _ (operator_agrees ws all) (λ op xs a.
      then_agrees _ _ _ _ (operand_agrees xs a) (λ operand ys b.
      goes_agrees _ _ _ _ (mark_goes 93 ys b) (λ zs c. gives _ zs c)))

  attribute_agrees : (ws : List Word) → AllWords In ws → Agrees (attribute_at (here ws)) (attribute_at (there ws))
  unfolding attribute_at
  attribute_agrees ws all = then_agrees _ _ _ _ (ident_agrees ws all) (λ name xs a.
      test_agrees _ _ _ _ _ _ (first_same (is_mark 93) xs) (exists_agrees name xs a) (compare_agrees name xs a))

  -- ---- pseudo-classes
  data Closes : Option (Word × List Word) → Option (Word × List Word) → Type 0 where
    never_closes : Closes None None
    closes_at : (w : Word) (ws : List Word) → In w → AllWords In ws
        → Closes (Some (w, ws)) (Some (raised_word f w, map (raised_word f) ws))

  closing_same : (ws : List Word) → AllWords In ws → Closes (closing ws) (closing (map (raised_word f) ws))
  unfolding closing
  closing_same [] all = never_closes
  closing_same (w ∷ ws) all = by (is_mark 41 w.kind) (closing_same ws all.1)
    where
      by : (b : Bool) → Closes (closing ws) (closing (map (raised_word f) ws))
          → Closes (cond b (Some (w, ws)) (closing ws))
          (cond b (Some (raised_word f w, map (raised_word f) ws)) (closing (map (raised_word f) ws)))
      by true h = closes_at w ws all.0 all.1
      by false h = h

  nth_agrees : (kind : NthKind) (v : Word) (ws : List Word) → In v → v.kind ≡ Function → AllWords In ws
      → Agrees (nth_at kind v.end (here ws)) (nth_at kind (f v.end) (there ws))
  unfolding nth_at
  nth_agrees kind v ws own e all = by (closing ws) (closing (map (raised_word f) ws)) (closing_same ws all)
    where
      with_number : (o : Option (ℤ × ℤ)) (ws : List Word) → AllWords In ws
          → Agrees (o >>= λ v. Some (nth kind v.0 v.1, here ws)) (o >>= λ v. Some (nth kind v.0 v.1, there ws))
      with_number None ws all = fails
      with_number (Some v) ws all = gives (nth kind v.0 v.1) ws all

      by : (o o' : Option (Word × List Word)) → Closes o o'
          → Agrees (number_at kind v.end text (at_close text o)) (number_at kind (f v.end) other (at_close other o'))
      by _ _ never_closes = fails
      by _ _ (closes_at w ws i a) =
          subst (λ (t : List ℕ). Agrees (nth_of (between text v.end w.start) >>= λ n. Some (nth kind n.0 n.1, here ws))
          (nth_of t >>= λ n. Some (nth kind n.0 n.1, there ws))) (same.inner v w own i e)
          (with_number (nth_of (between text v.end w.start)) ws a)

  lang_agrees : (ws : List Word) → AllWords In ws → Agrees (lang_at (here ws)) (lang_at (there ws))
  unfolding lang_at
  lang_agrees ws all = then_agrees _ _ _ _ (tight_ident_agrees ws all) (λ i xs a.
      goes_agrees _ _ _ _ (tight_mark_goes 41 xs a) (λ ys b. gives never ys b))

  function_agrees : (name : List ℕ) (v : Word) (ws : List Word) → In v → v.kind ≡ Function → AllWords In ws
      → Agrees (function_at name v.end (here ws)) (function_at name (f v.end) (there ws))
  unfolding function_at
  function_agrees name v ws own e all = either_agrees (is_named (codes "lang") name) _ _ _ _ (lang_agrees ws all)
      (by (nth_kind name))
    where
      by : (o : _) → Agrees (o >>= λ kind. nth_at kind v.end (here ws)) (o >>= λ kind. nth_at kind (f v.end) (there ws))
      by None = fails
      by (Some kind) = nth_agrees kind v ws own e all

  -- ---- simple selectors
  class_agrees : (ws : List Word) → AllWords In ws → Agrees (class_at (here ws)) (class_at (there ws))
  class_agrees ws all = then_agrees _ _ _ _ (tight_ident_agrees ws all) (λ n xs a. gives (class n) xs a)

  plain_by_agrees : (w : Word) (ws : List Word) (k : WordKind) → w.kind ≡ k → In w → AllWords In ws
      → Agrees (plain_by w (here ws) k) (plain_by (raised_word f w) (there ws) k)
  plain_by_agrees w ws Id e i all = give_agrees _ _ ws (ap id (same.hash w i e)) all
  plain_by_agrees w ws (Mark c) e i all = either_agrees (c == 46) _ _ _ _ (class_agrees ws all)
      (either_agrees (c == 91) _ _ _ _ (attribute_agrees ws all) fails)
  plain_by_agrees w ws _ e i all = fails

  plain_agrees : (w : Word) (ws : List Word) → In w → AllWords In ws
      → Agrees (plain_from w (here ws)) (plain_from (raised_word f w) (there ws))
  unfolding plain_from
  plain_agrees w ws i all = plain_by_agrees w ws w.kind refl i all

  named_agrees : (w : Word) (ws : List Word) → w.kind ≡ Ident → In w → AllWords In ws
      → Agrees (named_at w (here ws)) (named_at (raised_word f w) (there ws))
  named_agrees w ws e i all = rest_agrees _ _ ws (ap (λ (v : List ℕ). pseudo_class (map to_ascii_lowercase v)) (same.value w i e)) all

  called_agrees : (w : Word) (ws : List Word) → w.kind ≡ Function → In w → AllWords In ws
      → Agrees (called_at w (here ws)) (called_at (raised_word f w) (there ws))
  called_agrees w ws e i all = subst (λ (t : List ℕ). Agrees (function_at (function_of text w) w.end (here ws))
      (function_at t (f w.end) (there ws)))
      (same.function w i e) (function_agrees (function_of text w) w ws i e all)

  pseudo_by_agrees : (w : Word) (ws : List Word) (k : WordKind) → w.kind ≡ k → In w → AllWords In ws
      → Agrees (pseudo_by w (here ws) k) (pseudo_by (raised_word f w) (there ws) k)
  pseudo_by_agrees w ws Ident e i all = named_agrees w ws e i all
  pseudo_by_agrees w ws Function e i all = called_agrees w ws e i all
  pseudo_by_agrees w ws _ e i all = fails

  pseudo_agrees : (ws : List Word) → AllWords In ws → Agrees (pseudo_at (here ws)) (pseudo_at (there ws))
  unfolding pseudo_at
  pseudo_agrees [] all = fails
  pseudo_agrees (w ∷ ws) all = either_agrees w.spaced _ _ _ _ fails (pseudo_by_agrees w ws w.kind refl all.0 all.1)

  argument_by_agrees : (w : Word) (ws : List Word) (k : WordKind) → w.kind ≡ k → In w → AllWords In ws
      → Agrees (argument_by w (here ws) k) (argument_by (raised_word f w) (there ws) k)
  argument_by_agrees w ws Ident e i all = give_agrees _ _ ws (ap tag (same.value w i e)) all
  argument_by_agrees w ws (Mark c) e i all = either_agrees (c == 42) _ _ _ _ (gives any ws all)
      (either_agrees (c == 58) _ _ _ _ (pseudo_agrees ws all) (plain_agrees w ws i all))
  argument_by_agrees w ws _ e i all = plain_agrees w ws i all

  argument_agrees : (ws : List Word) → AllWords In ws → Agrees (argument_at (here ws)) (argument_at (there ws))
  unfolding argument_from
  argument_agrees [] all = fails
  argument_agrees (w ∷ ws) all = argument_by_agrees w ws w.kind refl all.0 all.1

  not_agrees : (ws : List Word) → AllWords In ws → Agrees (not_at (here ws)) (not_at (there ws))
  unfolding not_at
  not_agrees ws all = then_agrees _ _ _ _ (argument_agrees ws all) (λ t xs a.
      goes_agrees _ _ _ _ (mark_goes 41 xs a) (λ ys b. gives t ys b))

  item_is_agrees : (o o' : Option (TestForm × WordReading)) → Agrees o o' → Agrees (item_is o) (item_is o')
  item_is_agrees _ _ fails = fails
  item_is_agrees _ _ (gives x ws all) = gives (is x ∷ [], false) ws all

  item_is_not_agrees : (o o' : Option (TestForm × WordReading)) → Agrees o o' → Agrees (item_is_not o) (item_is_not o')
  item_is_not_agrees _ _ fails = fails
  item_is_not_agrees _ _ (gives x ws all) = gives (is_not x ∷ [], false) ws all

  element_agrees : (ws : List Word) → AllWords In ws → Agrees (element_at (here ws)) (element_at (there ws))
  unfolding element_at
  element_agrees ws all = then_agrees _ _ _ _ (tight_ident_agrees ws all) (λ n xs a.
      either_agrees (is_pseudo_element (map to_ascii_lowercase n)) _ _ _ _ (gives ([], true) xs a) fails)

  colon_named_agrees : (w : Word) (ws : List Word) → w.kind ≡ Ident → In w → AllWords In ws
      → Agrees (colon_named w (here ws)) (colon_named (raised_word f w) (there ws))
  colon_named_agrees w ws e i all = test_agrees _ _ _ _ _ _
      (ap (λ (v : List ℕ). is_pseudo_element (map to_ascii_lowercase v)) (same.value w i e)) (gives ([], true) ws all)
      (item_is_agrees _ _ (named_agrees w ws e i all))

  colon_called_agrees : (w : Word) (ws : List Word) → w.kind ≡ Function → In w → AllWords In ws
      → Agrees (colon_called w (here ws)) (colon_called (raised_word f w) (there ws))
  colon_called_agrees w ws e i all = test_agrees _ _ _ _ _ _ (ap (is_named (codes "not")) (same.function w i e))
      (item_is_not_agrees _ _ (not_agrees ws all)) (item_is_agrees _ _ (called_agrees w ws e i all))

  colon_by_agrees : (w : Word) (ws : List Word) (k : WordKind) → w.kind ≡ k → In w → AllWords In ws
      → Agrees (colon_by w (here ws) k) (colon_by (raised_word f w) (there ws) k)
  colon_by_agrees w ws Ident e i all = colon_named_agrees w ws e i all
  colon_by_agrees w ws Function e i all = colon_called_agrees w ws e i all
  colon_by_agrees w ws (Mark c) e i all = either_agrees (c == 58) _ _ _ _ (element_agrees ws all) fails
  colon_by_agrees w ws _ e i all = fails

  colon_agrees : (ws : List Word) → AllWords In ws → Agrees (colon_at (here ws)) (colon_at (there ws))
  unfolding colon_at
  colon_agrees [] all = fails
  colon_agrees (w ∷ ws) all = either_agrees w.spaced _ _ _ _ fails (colon_by_agrees w ws w.kind refl all.0 all.1)

  item_agrees : (w : Word) (ws : List Word) → In w → AllWords In ws
      → Agrees (item_from w (here ws)) (item_from (raised_word f w) (there ws))
  unfolding item_from
  item_agrees w ws i all = either_agrees (is_mark 58 w.kind) _ _ _ _ (colon_agrees ws all) (item_is_agrees _ _ (plain_agrees w ws i all))

  compound_item_agrees : (ws : List Word) → AllWords In ws → Agrees (compound_item_at (here ws)) (compound_item_at (there ws))
  compound_item_agrees [] all = fails
  compound_item_agrees (w ∷ ws) all = item_agrees w ws all.0 all.1

  first_by_agrees : (w : Word) (ws : List Word) (k : WordKind) → w.kind ≡ k → In w → AllWords In ws
      → Agrees (first_by w (here ws) k) (first_by (raised_word f w) (there ws) k)
  first_by_agrees w ws Ident e i all = give_agrees _ _ ws (ap (λ (v : List ℕ). (is (tag v) ∷ [], false)) (same.value w i e)) all
  first_by_agrees w ws (Mark c) e i all = either_agrees (c == 42) _ _ _ _ (gives (is any ∷ [], false) ws all) (item_agrees w ws i all)
  first_by_agrees w ws _ e i all = item_agrees w ws i all

  first_part_agrees : (ws : List Word) → AllWords In ws → Agrees (first_part_at (here ws)) (first_part_at (there ws))
  unfolding first_from
  first_part_agrees [] all = fails
  first_part_agrees (w ∷ ws) all = first_by_agrees w ws w.kind refl all.0 all.1

  -- ---- compounds and selectors
  front_agrees : {X : Type 0} (front : List X) (o o' : Option ((List X × Bool) × WordReading)) → Agrees o o'
      → Agrees (with_front front o) (with_front front o')
  front_agrees front _ _ fails = fails
  front_agrees front _ _ (gives x ws all) = gives (front ++ x.0, x.1) ws all

  many_in_agrees : {X : Type 0} (ends : WordReading → Bool) (read : WordReading → Option ((List X × Bool) × WordReading))
      → ((ws : List Word) → ends (here ws) ≡ ends (there ws))
      → ((ws : List Word) → AllWords In ws → Agrees (read (here ws)) (read (there ws)))
      → (n : ℕ) (element : Bool) (ws : List Word) → AllWords In ws
      → Agrees (many_in ends read n element (here ws)) (many_in ends read n element (there ws))
  unfolding many_in
  many_in_agrees ends read end_same read_same zero element ws all = fails
  many_in_agrees ends read end_same read_same (suc n) element ws all =
      test_agrees _ _ _ _ _ _ (end_same ws) (gives ([], element) ws all)
      (either_agrees element _ _ _ _ fails
      (then_agrees _ _ _ _ (read_same ws all) (λ x xs a.
      front_agrees x.0 _ _ (many_in_agrees ends read end_same read_same n x.1 xs a))))

  many_agrees : {X : Type 0} (ends : WordReading → Bool) (read : WordReading → Option ((List X × Bool) × WordReading))
      → ((ws : List Word) → ends (here ws) ≡ ends (there ws))
      → ((ws : List Word) → AllWords In ws → Agrees (read (here ws)) (read (there ws)))
      → (element : Bool) (ws : List Word) → AllWords In ws → Agrees (many ends read element (here ws)) (many ends read element (there ws))
  many_agrees ends read end_same read_same element ws all =
      subst (λ (n : ℕ). Agrees (many ends read element (here ws)) (many_in ends read (suc n) element (there ws)))
      (sym (map_length (raised_word f) ws)) (many_in_agrees ends read end_same read_same (suc (length ws)) element ws all)

  ends_compound_same : (ws : List Word) → ends_compound (here ws) ≡ ends_compound (there ws)
  ends_compound_same [] = refl
  ends_compound_same (w ∷ ws) = refl

  tests_agrees : (element : Bool) (ws : List Word) → AllWords In ws → Agrees (tests_at element (here ws)) (tests_at element (there ws))
  unfolding tests_at
  tests_agrees element ws all = many_agrees ends_compound compound_item_at ends_compound_same compound_item_agrees element ws all

  compound_of_agrees : (joint : _) (o o' : Option (Item × WordReading)) → Agrees o o' → Agrees (compound_of joint o) (compound_of joint o')
  compound_of_agrees joint _ _ fails = fails
  compound_of_agrees joint _ _ (gives x ws all) = gives (reading.compound_form joint x.0 ∷ [], x.1) ws all

  compound_agrees : (joint : _) (ws : List Word) → AllWords In ws → Agrees (compound_at joint (here ws)) (compound_at joint (there ws))
  unfolding compound_at
  compound_agrees joint ws all = then_agrees _ _ _ _ (first_part_agrees ws all) (λ first xs a.
      compound_of_agrees joint _ _ (front_agrees first.0 _ _ (tests_agrees first.1 xs a)))

  joint_agrees : (ws : List Word) → AllWords In ws → Agrees (joint_at (here ws)) (joint_at (there ws))
  unfolding joint_at
  joint_agrees [] all = fails
  joint_agrees (w ∷ ws) all = by (combinator_of w.kind) w.spaced
    where
      by : (o : _) (b : Bool) → Agrees (joint_of (here (w ∷ ws)) (here ws) o b) (joint_of (there (w ∷ ws)) (there ws) o b)
      by (Some joint) b = gives joint ws all.1
      by None true = gives _ (w ∷ ws) all
      by None false = fails

  joined_agrees : (ws : List Word) → AllWords In ws → Agrees (joined_at (here ws)) (joined_at (there ws))
  unfolding joined_at
  joined_agrees ws all = then_agrees _ _ _ _ (joint_agrees ws all) (λ j xs a. compound_agrees j xs a)

  ends_selector_same : (ws : List Word) → ends_selector (here ws) ≡ ends_selector (there ws)
  ends_selector_same [] = refl
  ends_selector_same (w ∷ ws) = refl

  compounds_agrees : (element : Bool) (ws : List Word) → AllWords In ws
      → Agrees (compounds_at element (here ws)) (compounds_at element (there ws))
  unfolding compounds_at
  compounds_agrees element ws all = many_agrees ends_selector joined_at ends_selector_same joined_agrees element ws all

  joined_of_agrees : (ws : List Word) → AllWords In ws → Agrees (joined_of (here ws)) (joined_of (there ws))
  unfolding joined_of
  joined_of_agrees ws all = then_agrees _ _ _ _ (compound_agrees _ ws all) (λ first xs a.
      front_agrees first.0 _ _ (compounds_agrees first.1 xs a))

  selector_same : (ws : List Word) → AllWords In ws → selector_of (there ws) ≡ option_map (placed_selector f) (selector_of (here ws))
  unfolding selector_of
  selector_same ws all =
      ap (λ (o : Option Range). o >>= λ range. joined_of (there ws) >>= λ whole. Some (selector_form range whole.0)) (range_kept f ws)
      ∙ by (range_of ws) (joined_of (here ws)) (joined_of (there ws)) (joined_of_agrees ws all)
    where
      by : (o : Option Range) (j j' : Option (Joined × WordReading)) → Agrees j j'
          → (option_map (placed_range f) o >>= λ range. j' >>= λ whole. Some (selector_form range whole.0))
          ≡ option_map (placed_selector f) (o >>= λ range. j >>= λ whole. Some (selector_form range whole.0))
      by None _ _ h = refl
      by (Some r) _ _ fails = refl
      by (Some r) _ _ (gives x ws all) = refl

  -- ---- lists
  AllLists : List (List Word) → Type 0
  AllLists [] = Unit {0}
  AllLists (ws ∷ wss) = AllWords In ws × AllLists wss

  put_same : (w : Word) (wss : List (List Word)) → put_first (raised_word f w) (map (map (raised_word f)) wss)
      ≡ map (map (raised_word f)) (put_first w wss)
  put_same w [] = refl
  put_same w (ws ∷ wss) = refl

  segments_same : (ws : List Word) → segments (map (raised_word f) ws) ≡ map (map (raised_word f)) (segments ws)
  unfolding segments
  segments_same [] = refl
  segments_same (w ∷ ws) = by (is_mark 44 w.kind) (segments_same ws)
    where
      by : (b : Bool) → segments (map (raised_word f) ws) ≡ map (map (raised_word f)) (segments ws)
          → cond b ([] ∷ segments (map (raised_word f) ws)) (put_first (raised_word f w) (segments (map (raised_word f) ws)))
          ≡ map (map (raised_word f)) (cond b ([] ∷ segments ws) (put_first w (segments ws)))
      by true e = ap (λ (x : List (List Word)). [] ∷ x) e
      by false e = ap (put_first (raised_word f w)) e ∙ put_same w (segments ws)

  put_in : (w : Word) (wss : List (List Word)) → In w → AllLists wss → AllLists (put_first w wss)
  unfolding AllLists
  put_in w [] i all = ((i, tt), tt)
  put_in w (ws ∷ wss) i all = ((i, all.0), all.1)

  segments_in : (ws : List Word) → AllWords In ws → AllLists (segments ws)
  unfolding segments AllLists
  segments_in [] all = (tt, tt)
  segments_in (w ∷ ws) all = by (is_mark 44 w.kind) (segments_in ws all.1)
    where
      by : (b : Bool) → AllLists (segments ws) → AllLists (cond b ([] ∷ segments ws) (put_first w (segments ws)))
      by true h = (tt, h)
      by false h = put_in w (segments ws) all.0 h

  selectors_in_same : (wss : List (List Word)) → AllLists wss
      → selectors_in other (map (map (raised_word f)) wss) ≡ option_map (map (placed_selector f)) (selectors_in text wss)
  unfolding selectors_in AllLists
  selectors_in_same [] all = refl
  selectors_in_same (ws ∷ wss) all =
      ap (λ (o : Option SelectorForm). o >>= λ s. selector_before s (selectors_in other (map (map (raised_word f)) wss)))
      (selector_same ws all.0)
      ∙ ap (λ (o : Option (List SelectorForm)). option_map (placed_selector f) (selector_of (here ws)) >>= λ s. selector_before s o)
      (selectors_in_same wss all.1)
      ∙ by (selector_of (here ws)) (selectors_in text wss)
    where
      by : (o : Option SelectorForm) (r : Option (List SelectorForm))
          → (option_map (placed_selector f) o >>= λ s. selector_before s (option_map (map (placed_selector f)) r))
          ≡ option_map (map (placed_selector f)) (o >>= λ s. selector_before s r)
      by None r = refl
      by (Some s) None = refl
      by (Some s) (Some ss) = refl

  pub words_list : (ws : List Word) → AllWords In ws → selector_list_of (word_reading other (map (raised_word f) ws))
      ≡ option_map (map (placed_selector f)) (selector_list_of (word_reading text ws))
  words_list ws all = ap (selectors_in other) (segments_same ws) ∙ selectors_in_same (segments ws) (segments_in ws all)

-- ---- the same of words that stand in one piece
pub range_same : (text other : List ℕ) (f : ℕ → ℕ) (lo hi : ℕ) → SamePart text other f lo hi → (ws : List Word)
    → range_of (map (raised_word f) ws) ≡ option_map (placed_range f) (range_of ws)
range_same text other f lo hi same ws = range_kept f ws

all_words : (lo hi : ℕ) (ws : List Word) → AllIn lo hi ws → AllWords (InWord lo hi) ws
all_words lo hi [] all = tt
all_words lo hi (w ∷ ws) all = (all.0, all_words lo hi ws all.1)

pub list_same : (text other : List ℕ) (f : ℕ → ℕ) (lo hi : ℕ) → SamePart text other f lo hi → (ws : List Word) → AllIn lo hi ws
    → selector_list_of (word_reading other (map (raised_word f) ws))
    ≡ option_map (map (placed_selector f)) (selector_list_of (word_reading text ws))
list_same text other f lo hi same ws all =
    words_list text other f (InWord lo hi) (part_words text other f lo hi same) ws (all_words lo hi ws all)
