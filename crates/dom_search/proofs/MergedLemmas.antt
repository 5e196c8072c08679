-- A walk that takes from a list what it meets: it takes all, where the list has some of its nodes, and no two have one serial.
use Rattle.std.proofs.Common.{◌≡◌, ℕ, ◌+◌, ◌≤◌, ◌==◌, Bool, true, false, cond, ◌||◌, List, [], ◌∷◌, ◌++◌, map, Option, Some, refl, sym, ap}
use Rattle.std.proofs.Common.{◌∙◌, ne_eqb, arith}
use Rattle.std.proofs.lemmas.Bool.{eq-eqb, eqb-true}
use Rattle.std.specs.List.{filter}
use Rattle.page_tree.specs.Zippers.{Zipper, serial_of, has_serial, next_of, below}
use Rattle.page_tree.proofs.ZipperLemmas.{times}
use Rattle.select_match.proofs.WalkLemmas.{all_from, all-step}
use Rattle.dom_search.specs.Merged.{is_next, left_behind, left_after, merged}

-- ---- a walk in parts

pub left_after-append : (listed : List ℕ) (xs ys : List Zipper) → left_after listed (xs ++ ys) ≡ left_after (left_after listed xs) ys
left_after-append listed [] ys = refl
left_after-append listed (z ∷ xs) ys = left_after-append (left_behind (serial_of z) listed) xs ys

one_first : (b : Bool) (s : ℕ) (p q : List ℕ) → cond b (s ∷ (p ++ q)) (p ++ q) ≡ cond b (s ∷ p) p ++ q
one_first true s p q = refl
one_first false s p q = refl

pub merged-append : (test : Zipper → Bool) (listed : List ℕ) (xs ys : List Zipper)
    → merged test listed (xs ++ ys) ≡ merged test listed xs ++ merged test (left_after listed xs) ys
merged-append test listed [] ys = refl
merged-append test listed (z ∷ xs) ys =
    let left = left_behind (serial_of z) listed in
    let b = test z || is_next (serial_of z) listed in
    ap (λ (r : List ℕ). cond b (serial_of z ∷ r) r) (merged-append test left xs ys)
    ∙ one_first b (serial_of z) (merged test left xs) (merged test (left_after left xs) ys)

one_alone : (b : Bool) (s : ℕ) (r : List ℕ) → cond b (s ∷ r) r ≡ cond b (s ∷ []) [] ++ r
one_alone true s r = refl
one_alone false s r = refl

module _ (test : Zipper → Bool) (listed : List ℕ) (at : Option Zipper) (z : Zipper) (next : Option Zipper) (is : at ≡ Some z)
    (step : next ≡ next_of z) where
  -- a node, what is below it, and the nodes after it
  pub merged-step : merged test listed (all_from at)
      ≡ cond (test z || is_next (serial_of z) listed) (serial_of z ∷ []) []
      ++ (merged test (left_behind (serial_of z) listed) (below z)
      ++ merged test (left_after (left_behind (serial_of z) listed) (below z)) (all_from next))
  merged-step =
      let left = left_behind (serial_of z) listed in
      let b = test z || is_next (serial_of z) listed in
      ap (λ (l : List Zipper). merged test listed l) (all-step at z next is step)
      ∙ one_alone b (serial_of z) (merged test left (below z ++ all_from next))
      ∙ ap (λ (r : List ℕ). cond b (serial_of z ∷ []) [] ++ r) (merged-append test left (below z) (all_from next))

  pub left-step : left_after listed (all_from at) ≡ left_after (left_after (left_behind (serial_of z) listed) (below z)) (all_from next)
  left-step =
      ap (λ (l : List Zipper). left_after listed l) (all-step at z next is step)
      ∙ left_after-append (left_behind (serial_of z) listed) (below z) (all_from next)

-- ---- a list of some of the nodes

self : (z : Zipper) → (serial_of z == serial_of z) ≡ true
self z = eq-eqb (serial_of z) (serial_of z) refl

-- no two of these nodes have one serial
abbrev pub AreApartNodes : List Zipper → Type 0
AreApartNodes zs = (x : ℕ) → times (has_serial x) zs ≤ 1

others : (z : Zipper) (zs : List Zipper) → times (has_serial (serial_of z)) (z ∷ zs) ≤ 1 → times (has_serial (serial_of z)) zs ≡ 0
others z zs h =
    let one : cond {A = ℕ} (serial_of z == serial_of z) 1 0 ≡ 1 = ap (λ (b : Bool). cond {A = ℕ} b 1 0) (self z) in
    omega (arith, one, h)

not_one : (b : Bool) (n : ℕ) → cond {A = ℕ} b 1 0 + n ≡ 0 → b ≡ false
not_one true n e = absurd (omega (arith, e))
not_one false n e = refl

none_left : (b : Bool) (n : ℕ) → cond {A = ℕ} b 1 0 + n ≡ 0 → n ≡ 0
none_left true n e = absurd (omega (arith, e))
none_left false n e = omega (arith, e)

turned : (a b : ℕ) → (a == b) ≡ false → (b == a) ≡ false
turned a b e = ne_eqb b a (λ (same : b ≡ a). (let yes : (a == b) ≡ true = eq-eqb a b (sym same) in
    let no : false ≡ true = sym e ∙ yes in absurd cc))

module _ (p : Zipper → Bool) where
  -- a serial that none of the nodes has is not the next
  next-none : (s : ℕ) (zs : List Zipper) → times (has_serial s) zs ≡ 0
      → (is_next s (map serial_of (filter p zs)) ≡ false)
      × (left_behind s (map serial_of (filter p zs)) ≡ map serial_of (filter p zs))
  next-none s [] e = (refl, refl)
  next-none s (z ∷ zs) e =
      at (p z) (next-none s zs (none_left (serial_of z == s) (times (has_serial s) zs) e))
      (turned (serial_of z) s (not_one (serial_of z == s) (times (has_serial s) zs) e))
    where
      at : (b : Bool)
          → (is_next s (map serial_of (filter p zs)) ≡ false) × (left_behind s (map serial_of (filter p zs)) ≡ map serial_of (filter p zs))
          → (s == serial_of z) ≡ false
          → (is_next s (map serial_of (cond b (z ∷ filter p zs) (filter p zs))) ≡ false)
          × (left_behind s (map serial_of (cond b (z ∷ filter p zs) (filter p zs)))
          ≡ map serial_of (cond b (z ∷ filter p zs) (filter p zs)))
      at true rest other = (
        other,
        ap (λ (b : Bool). cond b (map serial_of (filter p zs)) (serial_of z ∷ map serial_of (filter p zs))) other,
      )
      at false rest other = rest

  module _ (test : Zipper → Bool) where
    abbrev either : Zipper → Bool
    either z = test z || p z

    kept : (b : Bool) (z : Zipper) (zs : List Zipper)
        → cond b (serial_of z ∷ map serial_of zs) (map serial_of zs) ≡ map serial_of (cond b (z ∷ zs) zs)
    kept true z zs = refl
    kept false z zs = refl

    abbrev Merges : List Zipper → List ℕ → List Zipper → Type 0
    Merges zs listed passed = merged test listed zs ≡ map serial_of passed

    merges-one : (z : Zipper) (zs : List Zipper) → times (has_serial (serial_of z)) zs ≡ 0
        → merged test (map serial_of (filter p zs)) zs ≡ map serial_of (filter either zs)
        → (b : Bool)
        → Merges (z ∷ zs) (map serial_of (cond b (z ∷ filter p zs) (filter p zs)))
        (cond (test z || b) (z ∷ filter either zs) (filter either zs))
    merges-one z zs none rest true =
        let there = map serial_of (filter p zs) in
        (λ i. cond (test z || self z i)
        (serial_of z ∷ merged test (cond (self z i) there (serial_of z ∷ there)) zs)
        (merged test (cond (self z i) there (serial_of z ∷ there)) zs))
        ∙ ap (λ (r : List ℕ). cond (test z || true) (serial_of z ∷ r) r) rest ∙ kept (test z || true) z (filter either zs)
    merges-one z zs none rest false =
        let n = next-none (serial_of z) zs none in
        (λ i. cond (test z || n.0 i) (serial_of z ∷ merged test (n.1 i) zs) (merged test (n.1 i) zs))
        ∙ ap (λ (r : List ℕ). cond (test z || false) (serial_of z ∷ r) r) rest ∙ kept (test z || false) z (filter either zs)

    -- the walk finds the nodes that pass one test or the other
    pub merged-filter : (zs : List Zipper) → AreApartNodes zs
        → merged test (map serial_of (filter p zs)) zs ≡ map serial_of (filter (λ z. test z || p z) zs)
    merged-filter [] apart = refl
    merged-filter (z ∷ zs) apart =
        merges-one z zs (others z zs (apart (serial_of z))) (merged-filter zs (λ x. omega (arith, apart x))) (p z)
