-- Searches by halves among ranges that stand one behind the other.
use Rattle.std.proofs.Common.{◌≡◌, ◌⊎◌, inl, inr, ℕ, zero, suc, ◌+◌, ◌<◌, ◌≤◌, nat_lt, nat_le, Bool, true, false, cond, ◌||◌, List, [], ◌∷◌}
use Rattle.std.proofs.Common.{map, length, get_or, Option, Some, None, refl, sym, ap, subst, ◌∙◌, arith}
use Rattle.std.specs.Prelude.{slice_get, option_and_then}
use Rattle.std.specs.List.{find, prefix_len}
use Rattle.std.specs.List.Sorted.{IsPartitionedBy, IsPartitionPoint}
use Rattle.std.proofs.lemmas.Bool.Decides.{nat_tests}
use Rattle.std.proofs.lemmas.List.Sorted.{IsPartitionPoint-from_clause}
use Rattle.std.proofs.lemmas.Option.{slice_get_past, slice_get_read}
use Rattle.std.specs.Fn.{Called, ComputesKey}
use denote.Param.Members.{Mut}
use denote.Ref.{Bor}
use Rattle.css_tokens.specs.declared.token.Range.{Range}
use Rattle.sheet_reader.specs.Forms.{range}
use Rattle.style_edits.specs.Drafts.{AreInOrder, if_same_range, is_before_range, is_same_range}
use Rattle.style_edits.proofs.LineForms.{no_longer, same_is, same_range}

-- ---- the number of those at the front that pass

passes_all : {X : Type 0} → (p : X → Bool) → (xs : List X) → (i : ℕ) → i ≤ length xs
    → IsPartitionPoint (λ x. p x ≡ true) (λ x. p x ≡ false) xs i → prefix_len p xs ≡ i
passes_all p [] zero within point = refl
passes_all p [] (suc i) within point = absurd (omega (arith, within))
passes_all p (x ∷ xs) zero within point =
    ap (λ (b : Bool). cond b (1 + prefix_len p xs) 0) (point.1 0 x (omega arith) (omega arith))
passes_all p (x ∷ xs) (suc i) within point =
    let rest = passes_all p xs i (omega (arith, within)) (
      (λ k d from to. point.0 (suc k) d (omega arith) (omega (arith, to))),
      (λ k d from to. point.1 (suc k) d (omega (arith, from)) (omega (arith, to))),
    ) in
    let one : 1 + i ≡ suc i = omega arith in
    ap (λ (b : Bool). cond b (1 + prefix_len p xs) 0) (point.0 0 x (omega arith) (omega arith))
    ∙ ap (λ (n : ℕ). 1 + n) rest ∙ one

-- ---- tests that hold of all ranges before one of which they hold

-- it holds of a range that neither starts nor ends behind one of which it holds
abbrev pub IsOfEarlier : (Range → Bool) → Type 0
IsOfEarlier p = (r s : Range) → r.start ≤ s.start → r.end ≤ s.end → p s ≡ true → p r ≡ true

pub starts_before : (byte : ℕ) → IsOfEarlier (λ r. nat_lt r.start byte)
starts_before byte r s start end before = grind (arith, nat_tests, start, before)

pub starts_up_to : (byte : ℕ) → IsOfEarlier (λ r. nat_le r.start byte)
starts_up_to byte r s start end before = grind (arith, nat_tests, start, before)

either : (a b c d : Bool) → (a ≡ true → c ≡ true) → (b ≡ true → d ≡ true) → (a || b) ≡ true → (c || d) ≡ true
either true b true d f g e = refl
either true b false d f g e = let wrong : false ≡ true = f refl in absurd (cc)
either false b true d f g e = refl
either false b false d f g e = g e

is_before_earlier : (wanted : Range) → IsOfEarlier (λ r. is_before_range r wanted)
is_before_earlier wanted r s start end before =
    either (nat_lt s.start wanted.start) (nat_lt s.end wanted.end) (nat_lt r.start wanted.start) (nat_lt r.end wanted.end)
    (λ e. grind (arith, nat_tests, start, e)) (λ e. grind (arith, nat_tests, end, e)) before

module _ {X : Type 0} (g : X → Range) where
  -- a later range starts at or behind the place where they begin
  later : (from : ℕ) (xs : List X) → AreInOrder from (map g xs) → (j : ℕ) (d : X) → j < length xs
      → (from ≤ (g (get_or xs j d)).start) × (from ≤ (g (get_or xs j d)).end)
  later from [] order j d inside = absurd (omega (arith, inside))
  later from (x ∷ xs) order zero d inside = (order.0, omega (arith, order.0, order.1))
  later from (x ∷ xs) order (suc j) d inside =
      let rest = later (g x).end xs order.2 j d (omega (arith, inside)) in
      (omega (arith, order.0, order.1, rest.0), omega (arith, order.0, order.1, rest.1))

  -- what `partition_point` asks at such a test
  in_order_parted : (p : Range → Bool) → IsOfEarlier p → (from : ℕ) (xs : List X) → AreInOrder from (map g xs)
      → IsPartitionedBy (λ x. p (g x)) xs
  in_order_parted p earlier from [] order i j d le inside holds = absurd (omega (arith, inside))
  in_order_parted p earlier from (x ∷ xs) order zero zero d le inside holds = holds
  in_order_parted p earlier from (x ∷ xs) order zero (suc j) d le inside holds =
      let rest = later (g x).end xs order.2 j d (omega (arith, inside)) in
      earlier (g x) (g (get_or xs j d)) (omega (arith, order.1, rest.0)) rest.1 holds
  in_order_parted p earlier from (x ∷ xs) order (suc i) zero d le inside holds = absurd (omega (arith, le))
  in_order_parted p earlier from (x ∷ xs) order (suc i) (suc j) d le inside holds =
      in_order_parted p earlier (g x).end xs order.2 i j d (omega (arith, le)) (omega (arith, inside)) holds

  -- what `partition_point` answers is how many of those at the front pass
  pub halved : (p : Range → Bool) → IsOfEarlier p → (xs : List X) (i : ℕ) → AreInOrder 0 (map g xs) → i ≤ length xs
      → {F : Type 0} {k : Mut F (Bor X × Unit {0}) Bool} {f : F}
      → ((q : X → Bool) → ComputesKey k q f → IsPartitionedBy q xs → IsPartitionPoint (λ x. q x ≡ true) (λ x. q x ≡ false) xs i)
      → ((a : Bor X × Unit {0}) (r : Bool) (f' : F) → Called k f a r f' → (r ≡ p (g a.0.now)) × (f' ≡ f))
      → i ≡ prefix_len (λ x. p (g x)) xs
  halved p earlier xs i order within clause calls =
      let parted = in_order_parted p earlier 0 xs order in
      sym (passes_all (λ x. p (g x)) xs i within (IsPartitionPoint-from_clause (λ x. p (g x)) xs i clause parted calls))

-- ---- the one that is wanted

-- no later range is the wanted one, where that starts or ends before the place where they begin
none_later : (wanted : Range) (from : ℕ) (rs : List Range) → AreInOrder from rs → (wanted.start < from) ⊎ (wanted.end < from)
    → find (is_same_range wanted) rs ≡ None
none_later wanted from [] order before = refl
none_later wanted from (r ∷ rs) order before =
    ap (λ (b : Bool). cond b (Some r) (find (is_same_range wanted) rs))
    (no_longer (is_same_range wanted r) (λ e. other before (same_is wanted r e)))
    ∙ none_later wanted r.end rs order.2 (on before)
  where
    other : (wanted.start < from) ⊎ (wanted.end < from) → wanted ≡ r → ⊥
    other (inl less) same = omega (arith, less, order.0, ap (λ (x : Range). x.start) same)
    other (inr less) same = omega (arith, less, order.0, order.1, ap (λ (x : Range). x.end) same)

    on : (wanted.start < from) ⊎ (wanted.end < from) → (wanted.start < r.end) ⊎ (wanted.end < r.end)
    on (inl less) = inl (omega (arith, less, order.0, order.1))
    on (inr less) = inr (omega (arith, less, order.0, order.1))

-- a range that is not before the wanted one, and not the wanted one, starts or ends behind it
past_wanted : (wanted r : Range) → is_before_range r wanted ≡ false → is_same_range wanted r ≡ false
    → (wanted.start < r.start) ⊎ (wanted.end < r.end)
past_wanted wanted r not_before other =
    by (nat_lt wanted.start r.start) (nat_lt wanted.end r.end) refl refl
    (neither (nat_lt r.start wanted.start) (nat_lt r.end wanted.end) not_before)
  where
    neither : (a b : Bool) → (a || b) ≡ false → (a ≡ false) × (b ≡ false)
    neither true b e = absurd (cc)
    neither false b e = (refl, e)

    by : (a b : Bool) → nat_lt wanted.start r.start ≡ a → nat_lt wanted.end r.end ≡ b
        → (nat_lt r.start wanted.start ≡ false) × (nat_lt r.end wanted.end ≡ false) → (wanted.start < r.start) ⊎ (wanted.end < r.end)
    by true b start end back = inl (grind (arith, nat_tests, start))
    by false true start end back = inr (grind (arith, nat_tests, end))
    by false false start end back =
        let s : r.start ≡ wanted.start = grind (arith, nat_tests, start, back.0) in
        let t : r.end ≡ wanted.end = grind (arith, nat_tests, end, back.1) in
        let same : is_same_range wanted r ≡ true = same_range wanted r (λ i. range (s i) (t i)) in
        absurd (cc)

past_end : (wanted r : Range) → r.start ≤ r.end → (wanted.start < r.start) ⊎ (wanted.end < r.end)
    → (wanted.start < r.end) ⊎ (wanted.end < r.end)
past_end wanted r order (inl less) = inl (omega (arith, less, order))
past_end wanted r order (inr less) = inr less

not_before_itself : (r : Range) → is_before_range r r ≡ true → ⊥
not_before_itself r e =
    let start : nat_lt r.start r.start ≡ false = grind (arith, nat_tests) in
    let end : nat_lt r.end r.end ≡ false = grind (arith, nat_tests) in
    let neither_is : is_before_range r r ≡ false = λ i. start i || end i in
    let wrong : false ≡ true = sym neither_is ∙ e in
    cc

-- a range before the wanted one is another
not_same : (wanted r : Range) → is_before_range r wanted ≡ true → is_same_range wanted r ≡ false
not_same wanted r before =
    no_longer (is_same_range wanted r)
    (λ e. not_before_itself r (subst (λ (x : Range). is_before_range r x ≡ true) (same_is wanted r e) before))

module _ {X : Type 0} (g : X → Range) (wanted : Range) where
  -- the first range that is not before the wanted one is that, or none is
  found_by_halves : (from : ℕ) (xs : List X) → AreInOrder from (map g xs)
      → option_and_then (λ x. if_same_range wanted (g x)) (slice_get xs (prefix_len (λ x. is_before_range (g x) wanted) xs))
      ≡ find (is_same_range wanted) (map g xs)
  found_by_halves from [] order = refl
  found_by_halves from (x ∷ xs) order =
      by (is_before_range (g x) wanted) (is_same_range wanted (g x)) refl refl (found_by_halves (g x).end xs order.2)
    where
      n : ℕ
      n = prefix_len (λ x. is_before_range (g x) wanted) xs

      rest : Option Range
      rest = find (is_same_range wanted) (map g xs)

      there : Option X → Option Range
      there = option_and_then (λ y. if_same_range wanted (g y))

      by : (b c : Bool) → is_before_range (g x) wanted ≡ b → is_same_range wanted (g x) ≡ c → there (slice_get xs n) ≡ rest
          → there (slice_get (x ∷ xs) (cond b (1 + n) 0)) ≡ cond c (Some (g x)) rest
      by true c before same found =
          let one : 1 + n ≡ suc n = omega arith in
          ap (λ (k : ℕ). there (slice_get (x ∷ xs) k)) one ∙ found
          ∙ sym (ap (λ (b : Bool). cond b (Some (g x)) rest) (sym same ∙ not_same wanted (g x) before))
      by false true before same found = ap (λ (b : Bool). cond b (Some (g x)) None) same
      by false false before same found =
          ap (λ (b : Bool). cond b (Some (g x)) None) same
          ∙ sym (none_later wanted (g x).end (map g xs) order.2
          (past_end wanted (g x) order.1 (past_wanted wanted (g x) before same)))

-- what `partition_point` answers among ranges in order is the place of the wanted one, if it is there
module _ {X : Type 0} (g : X → Range) (wanted : Range) (xs : List X) (i : ℕ) (order : AreInOrder 0 (map g xs)) (within : i ≤ length xs)
    {F : Type 0} {k : Mut F (Bor X × Unit {0}) Bool} {f : F}
    (clause : (q : X → Bool) → ComputesKey k q f → IsPartitionedBy q xs → IsPartitionPoint (λ x. q x ≡ true) (λ x. q x ≡ false) xs i)
    (calls : (a : Bor X × Unit {0}) (r : Bool) (f' : F) → Called k f a r f' → (r ≡ is_before_range (g a.0.now) wanted) × (f' ≡ f)) where
  point : i ≡ prefix_len (λ x. is_before_range (g x) wanted) xs
  point = halved g (λ r. is_before_range r wanted) (is_before_earlier wanted) xs i order within clause calls

  -- there is no range at that place
  pub none_by_halves : length xs ≤ i → None ≡ find (is_same_range wanted) (map g xs)
  none_by_halves past =
      ap (option_and_then (λ x. if_same_range wanted (g x))) (sym (slice_get_past xs i past) ∙ ap (slice_get xs) point)
      ∙ found_by_halves g wanted 0 xs order

  -- there is this one
  pub one_by_halves : (x : X) → i < length xs → x ≡ get_or xs i x
      → if_same_range wanted (g x) ≡ find (is_same_range wanted) (map g xs)
  one_by_halves x inside own =
      ap (option_and_then (λ y. if_same_range wanted (g y)))
      (sym (slice_get_read xs (length xs) i x refl inside own) ∙ ap (slice_get xs) point)
      ∙ found_by_halves g wanted 0 xs order
