-- A search to the left: what one outcome tells of the nodes behind.
use Rattle.std.proofs.Common.{◌≡◌, ◌⊎◌, Bool, true, false, cond, ◌||◌, ◌&&◌, List, [], ◌∷◌, ◌++◌, map, reverse, take, length, ◌<◌, Option}
use Rattle.std.proofs.Common.{Some, None, subst, refl, sym, ap, ◌∙◌, inl, inr, arith}
use Rattle.std.specs.List.{list_any, filter}
use Rattle.std.proofs.lemmas.List.{map-append, reverse-append, length-reverse, length-map}
use Rattle.node_tree.specs.Nodes.{Nodes, node, Branch}
use Rattle.page_tree.specs.Pages.{PageRow}
use Rattle.page_tree.specs.Zippers.{Generation, Zipper, zipper_of, ancestors, ancestors_in, earlier, earlier_in, first_node, parent_of}
use Rattle.page_tree.specs.Members.{IsIn, at_head, in_tail}
use Rattle.page_tree.proofs.ZipperLemmas.{IsIn-append, IsIn-append_left, IsIn-append_right}
use Rattle.selectors.specs.declared.selector.Joint.{Joint}
use Rattle.selectors.specs.declared.selector.Joint.TheVariants.{Descendant, Child, Next, Later}
use Rattle.selectors.specs.declared.selector.Compound.{Compound}
use Rattle.selectors.specs.Forms.{CompoundForm, compound_seen}
use Rattle.select_match.specs.declared.outcome.Outcome.{Outcome}
use Rattle.select_match.specs.declared.outcome.Outcome.TheVariants.{Found, NotHere, NotBeside, Nowhere}
use Rattle.select_match.specs.Elements.{is_element_node, elements}
use Rattle.select_match.specs.Matches.{compound_holds, reached, left_holds, chain_holds}
use Rattle.select_match.specs.Outcomes.{behind_in, behind, Tells, ends_above, ends_before, at_child}
use Rattle.select_match.proofs.WalkLemmas.{from, ancestors-from}

-- ---- none of a list

module _ {A : Type 0} (test : A → Bool) where
  or_left : (a b : Bool) → (a || b) ≡ false → a ≡ false
  or_left true b e = e
  or_left false b e = refl

  or_right : (a b : Bool) → (a || b) ≡ false → b ≡ false
  or_right true b e = absurd (cc)
  or_right false b e = e

  pub any-in : {x : A} {xs : List A} → list_any test xs ≡ false → IsIn x xs → test x ≡ false
  any-in {x = x} e (at_head xs) = or_left (test x) (list_any test xs) e
  any-in e (in_tail y xs i) = any-in (or_right (test y) (list_any test xs) e) i

  pub any-none : (xs : List A) → ((x : A) → IsIn x xs → test x ≡ false) → list_any test xs ≡ false
  any-none [] each = refl
  any-none (x ∷ xs) each = rw (each x (at_head xs), any-none xs (λ y i. each y (in_tail x xs i))) refl

IsIn-take : {x : Zipper} (zs : List Zipper) → IsIn x (take 1 zs) → IsIn x zs
IsIn-take [] i = i
IsIn-take (z ∷ zs) (at_head _) = at_head zs
IsIn-take (z ∷ zs) (in_tail _ _ i) = elim i [ ]

module _ (p : Zipper → Bool) where
  filtered : (x z : Zipper) (zs : List Zipper) → (IsIn x (filter p zs) → IsIn x zs) → (b : Bool)
      → IsIn x (cond b (z ∷ filter p zs) (filter p zs)) → IsIn x (z ∷ zs)
  filtered x z zs rest true (at_head _) = at_head zs
  filtered x z zs rest true (in_tail _ _ j) = in_tail z zs (rest j)
  filtered x z zs rest false j = in_tail z zs (rest j)

  IsIn-filter : (x : Zipper) (zs : List Zipper) → IsIn x (filter p zs) → IsIn x zs
  IsIn-filter x [] i = i
  IsIn-filter x (z ∷ zs) i = filtered x z zs (IsIn-filter x zs) (p z) i

  kept : (x z : Zipper) (zs : List Zipper) → IsIn x (filter p zs) → (b : Bool) → IsIn x (cond b (z ∷ filter p zs) (filter p zs))
  kept x z zs j true = in_tail z _ j
  kept x z zs j false = j

  IsIn-filter_passes : (x : Zipper) (zs : List Zipper) → IsIn x zs → p x ≡ true → IsIn x (filter p zs)
  IsIn-filter_passes x [] i e = elim i [ ]
  IsIn-filter_passes x (z ∷ zs) (at_head _) e = rw e (at_head _)
  IsIn-filter_passes x (z ∷ zs) (in_tail _ _ i) e = kept x z zs (IsIn-filter_passes x zs i e) (p z)

  passes : (x z : Zipper) (zs : List Zipper) → (IsIn x zs → p x ≡ true) → (b : Bool) → p z ≡ b → IsIn x (cond b (z ∷ zs) zs) → p x ≡ true
  passes x z zs rest true e (at_head _) = e
  passes x z zs rest true e (in_tail _ _ j) = rest j
  passes x z zs rest false e j = rest j

  filter_true : (x : Zipper) (zs : List Zipper) → IsIn x (filter p zs) → p x ≡ true
  filter_true x [] i = elim i [ ]
  filter_true x (z ∷ zs) i = passes x z (filter p zs) (filter_true x zs) (p z) refl i

-- ---- which nodes lie behind which

-- a sibling before has the same ancestors
above-earlier : (above : List Generation) (before : List (Branch PageRow)) (here : Nodes PageRow) (w : Zipper)
    → IsIn w (earlier_in above before here) → w.above ≡ above
above-earlier above [] here w i = elim i [ ]
above-earlier above (b ∷ before) here w (at_head _) = refl
above-earlier above (b ∷ before) here w (in_tail _ _ i) = above-earlier above before (node b.row b.children here) w i

pub above-beside : (z w : Zipper) → IsIn w (z ∷ earlier z) → w.above ≡ z.above
above-beside z w (at_head _) = refl
above-beside z w (in_tail _ _ i) = above-earlier z.above z.before _ w i

-- what stands before a sibling before stands before
earlier-earlier : (above : List Generation) (before : List (Branch PageRow)) (here : Nodes PageRow) (w p : Zipper)
    → IsIn w (earlier_in above before here) → IsIn p (earlier w) → IsIn p (earlier_in above before here)
earlier-earlier above [] here w p i j = elim i [ ]
earlier-earlier above (b ∷ before) here w p (at_head _) j = in_tail _ _ j
earlier-earlier above (b ∷ before) here w p (in_tail _ _ i) j = in_tail _ _
    (earlier-earlier above before (node b.row b.children here) w p i j)

pub earlier-beside : (z w p : Zipper) → IsIn w (z ∷ earlier z) → IsIn p (earlier w) → IsIn p (earlier z)
earlier-beside z w p (at_head _) j = j
earlier-beside z w p (in_tail _ _ i) j = earlier-earlier z.above z.before _ w p i j

ancestors-behind_in : (above : List Generation) (w p : Zipper) → IsIn w (behind_in above) → IsIn p (ancestors w)
    → IsIn p (ancestors_in above)
ancestors-behind_in [] w p i j = elim i [ ]
ancestors-behind_in (g ∷ above) w p (at_head _) j = in_tail _ _ j
ancestors-behind_in (g ∷ above) w p (in_tail _ _ i) j =
    elim (IsIn-append (earlier (zipper_of g above)) (behind_in above) i) [
      | inl h ↦ in_tail _ _ (subst (λ (l : List Generation). IsIn p (ancestors_in l)) (above-earlier above g.before _ w h) j)
      | inr h ↦ in_tail _ _ (ancestors-behind_in above w p h j)
    ]

-- the ancestors of what lies behind are ancestors
pub ancestors-behind : (z w p : Zipper) → IsIn w (behind z) → IsIn p (ancestors w) → IsIn p (ancestors z)
ancestors-behind z w p (at_head _) j = j
ancestors-behind z w p (in_tail _ _ i) j =
    elim (IsIn-append (earlier z) (behind_in z.above) i) [
      | inl h ↦ subst (λ (l : List Generation). IsIn p (ancestors_in l)) (above-earlier z.above z.before _ w h) j
      | inr h ↦ ancestors-behind_in z.above w p h j
    ]

earlier-behind_in : (above : List Generation) (w p : Zipper) → IsIn w (behind_in above) → IsIn p (earlier w) → IsIn p (behind_in above)
earlier-behind_in [] w p i j = elim i [ ]
earlier-behind_in (g ∷ above) w p (at_head _) j = in_tail _ _ (IsIn-append_left _ j)
earlier-behind_in (g ∷ above) w p (in_tail _ _ i) j =
    elim (IsIn-append (earlier (zipper_of g above)) (behind_in above) i) [
      | inl h ↦ in_tail _ _ (IsIn-append_left _ (earlier-earlier above g.before _ w p h j))
      | inr h ↦ in_tail _ _ (IsIn-append_right _ (earlier-behind_in above w p h j))
    ]

-- the siblings before what lies behind stand before, or lie behind the ancestors
pub earlier-behind : (z w p : Zipper) → IsIn w (behind z) → IsIn p (earlier w) → IsIn p (earlier z) ⊎ IsIn p (behind_in z.above)
earlier-behind z w p (at_head _) j = inl j
earlier-behind z w p (in_tail _ _ i) j =
    elim (IsIn-append (earlier z) (behind_in z.above) i) [
      | inl h ↦ inl (earlier-earlier z.above z.before _ w p h j)
      | inr h ↦ inr (earlier-behind_in z.above w p h j)
    ]

behind-ancestors_in : (above : List Generation) (p : Zipper) → IsIn p (ancestors_in above) → IsIn p (behind_in above)
behind-ancestors_in [] p i = i
behind-ancestors_in (g ∷ above) p (at_head _) = at_head _
behind-ancestors_in (g ∷ above) p (in_tail _ _ i) = in_tail _ _ (IsIn-append_right _ (behind-ancestors_in above p i))

-- ancestors lie behind
pub behind-ancestors : (z p : Zipper) → IsIn p (ancestors z) → IsIn p (behind z)
behind-ancestors z p i = in_tail _ _ (IsIn-append_right _ (behind-ancestors_in z.above p i))

beside-behind : (z p : Zipper) → IsIn p (z ∷ earlier z) → IsIn p (behind z)
beside-behind z p (at_head _) = at_head _
beside-behind z p (in_tail _ _ i) = in_tail _ _ (IsIn-append_left _ i)

elements-beside : (z p : Zipper) → IsIn p (z ∷ elements (earlier z)) → IsIn p (z ∷ earlier z)
elements-beside z p (at_head _) = at_head _
elements-beside z p (in_tail _ _ i) = in_tail _ _ (IsIn-filter is_element_node p (earlier z) i)

-- ---- outcomes

module _ (test : Zipper → Bool) where
  -- a search up that fails fails at all that lies behind
  pub nowhere-above : (z : Zipper) → list_any test (ancestors z) ≡ false
      → list_any (λ w. list_any test (reached Descendant w)) (behind z) ≡ false
  nowhere-above z e = any-none _ (behind z) (λ w i. any-none test (ancestors w) (λ p j. any-in test e (ancestors-behind z w p i j)))

  pub nowhere-parent : (z : Zipper) → list_any test (ancestors z) ≡ false
      → list_any (λ w. list_any test (reached Child w)) (behind z) ≡ false
  nowhere-parent z e = any-none _ (behind z)
      (λ w i. any-none test (take 1 (ancestors w)) (λ p j. any-in test e (ancestors-behind z w p i (IsIn-take (ancestors w) j))))

  -- where the node q and all behind it fail, so do an ancestor q and those above it
  pub none-above : (q : Zipper) → list_any test (behind q) ≡ false → list_any test (q ∷ ancestors q) ≡ false
  none-above q e = any-none test (q ∷ ancestors q) (λ p i. any-in test e (above q p i))
    where
      above : (q p : Zipper) → IsIn p (q ∷ ancestors q) → IsIn p (behind q)
      above q p (at_head _) = at_head _
      above q p (in_tail _ _ i) = behind-ancestors q p i

  pub beside-parent : (z : Zipper) → list_any test (take 1 (ancestors z)) ≡ false
      → list_any (λ w. list_any test (reached Child w)) (z ∷ earlier z) ≡ false
  beside-parent z e = any-none _ (z ∷ earlier z)
      (λ w i. ap (λ (l : List Generation). list_any test (take 1 (ancestors_in l))) (above-beside z w i) ∙ e)

  -- the siblings before
  pub beside-before : (z : Zipper) → list_any test (earlier z) ≡ false
      → list_any (λ w. list_any test (reached Later w)) (z ∷ earlier z) ≡ false
  beside-before z e = any-none _ (z ∷ earlier z) (λ w i. any-none test (earlier w) (λ p j. any-in test e (earlier-beside z w p i j)))

  pub nowhere-before : (z : Zipper) → list_any test (earlier z) ≡ false → list_any test (behind_in z.above) ≡ false
      → list_any (λ w. list_any test (reached Later w)) (behind z) ≡ false
  nowhere-before z e f =
      any-none _ (behind z) (λ w i. any-none test (earlier w)
      (λ p j. elim (earlier-behind z w p i j) [ inl h ↦ any-in test e h | inr h ↦ any-in test f h ]))

  -- the nearest element before
  pub beside-previous : (z : Zipper) → list_any test (elements (earlier z)) ≡ false
      → list_any (λ w. list_any test (reached Next w)) (z ∷ earlier z) ≡ false
  beside-previous z e =
      any-none _ (z ∷ earlier z)
      (λ w i. any-none test (take 1 (elements (earlier w))) (λ p j.
      let k = IsIn-take (elements (earlier w)) j in
      any-in test e (IsIn-filter_passes is_element_node p (earlier z)
      (earlier-beside z w p i (IsIn-filter is_element_node p (earlier w) k)) (filter_true is_element_node p (earlier w) k))))

  pub nowhere-previous : (z : Zipper) → list_any test (elements (earlier z)) ≡ false → list_any test (behind_in z.above) ≡ false
      → list_any (λ w. list_any test (reached Next w)) (behind z) ≡ false
  nowhere-previous z e f =
      any-none _ (behind z)
      (λ w i. any-none test (take 1 (elements (earlier w))) (λ p j.
      let k = IsIn-take (elements (earlier w)) j in
      elim (earlier-behind z w p i (IsIn-filter is_element_node p (earlier w) k)) [
        | inl h ↦ any-in test e (IsIn-filter_passes is_element_node p (earlier z) h (filter_true is_element_node p (earlier w) k))
        | inr h ↦ any-in test f h
      ]))

  -- ---- the outcomes of the code

  head-fails : (q : Zipper) (zs : List Zipper) → list_any test (q ∷ zs) ≡ false → test q ≡ false
  head-fails q zs e = any-in test e (at_head zs)

  head-holds : (q : Zipper) (zs : List Zipper) → test q ≡ true → list_any test (q ∷ zs) ≡ true
  head-holds q zs e = rw e refl

  -- an ancestor at which the search ends; those before it failed
  pub tells-above : (o : Outcome) (z q : Zipper) → ends_above o ≡ true → Tells o test q
      → list_any test (q ∷ ancestors q) ≡ list_any test (ancestors z) → Tells o (λ w. list_any test (reached Descendant w)) z
  tells-above Found z q ends tells left = sym left ∙ head-holds q (ancestors q) tells
  tells-above NotHere z q ends tells left = absurd (cc)
  tells-above NotBeside z q ends tells left = absurd (cc)
  tells-above Nowhere z q ends tells left = nowhere-above z (sym left ∙ none-above q tells)

  -- one at which it goes on
  pub fails-above : (o : Outcome) (q : Zipper) → ends_above o ≡ false → Tells o test q → test q ≡ false
  fails-above Found q goes tells = absurd (cc)
  fails-above NotHere q goes tells = head-fails q [] tells
  fails-above NotBeside q goes tells = head-fails q (earlier q) tells
  fails-above Nowhere q goes tells = absurd (cc)

  -- the outcome at the parent
  pub tells-child : (o : Outcome) (z q : Zipper) → parent_of z ≡ Some q → Tells o test q
      → Tells (at_child o) (λ w. list_any test (reached Child w)) z
  tells-child o z q e tells = by (ancestors-from z ∙ ap (λ (p : Option Zipper). from ancestors p) e) o tells
    where
      by : ancestors z ≡ q ∷ ancestors q → (o : Outcome) → Tells o test q → Tells (at_child o) (λ w. list_any test (reached Child w)) z
      by up Found tells = ap (λ (l : List Zipper). list_any test (take 1 l)) up ∙ head-holds q [] tells
      by up NotHere tells = beside-parent z (ap (λ (l : List Zipper). list_any test (take 1 l)) up ∙ tells)
      by up NotBeside tells = beside-parent z
          (ap (λ (l : List Zipper). list_any test (take 1 l)) up ∙ rw (head-fails q (earlier q) tells) refl)
      by up Nowhere tells = nowhere-parent z (ap (λ (l : List Zipper). list_any test l) up ∙ none-above q tells)

  -- a sibling before at which the search ends; those between failed
  pub tells-before : (o : Outcome) (z q : Zipper) → ends_before o ≡ true → Tells o test q → q.above ≡ z.above
      → list_any test (q ∷ earlier q) ≡ list_any test (earlier z) → Tells o (λ w. list_any test (reached Later w)) z
  tells-before Found z q ends tells same left = sym left ∙ head-holds q (earlier q) tells
  tells-before NotHere z q ends tells same left = absurd (cc)
  tells-before NotBeside z q ends tells same left = beside-before z (sym left ∙ tells)
  tells-before Nowhere z q ends tells same left =
      nowhere-before z (sym left ∙ any-none test (q ∷ earlier q) (λ p i. any-in test tells (beside-behind q p i)))
      (ap (λ (l : List Generation). list_any test (behind_in l)) (sym same) ∙ any-none test (behind_in q.above)
      (λ p i. any-in test tells (in_tail _ _ (IsIn-append_right _ i))))

  pub fails-before : (o : Outcome) (q : Zipper) → ends_before o ≡ false → Tells o test q → test q ≡ false
  fails-before Found q goes tells = absurd (cc)
  fails-before NotHere q goes tells = head-fails q [] tells
  fails-before NotBeside q goes tells = absurd (cc)
  fails-before Nowhere q goes tells = absurd (cc)

  -- the nearest element before
  pub tells-previous : (o : Outcome) (z q : Zipper) → q.above ≡ z.above → elements (earlier z) ≡ q ∷ elements (earlier q) → Tells o test q
      → Tells o (λ w. list_any test (reached Next w)) z
  tells-previous Found z q same back tells = ap (λ (l : List Zipper). list_any test (take 1 l)) back ∙ head-holds q [] tells
  tells-previous NotHere z q same back tells = ap (λ (l : List Zipper). list_any test (take 1 l) || false) back ∙ ap
      (λ (b : Bool). b || false) tells
  tells-previous NotBeside z q same back tells =
      beside-previous z (ap (λ (l : List Zipper). list_any test l) back ∙ any-none test (q ∷ elements (earlier q))
      (λ p i. any-in test tells (elements-beside q p i)))
  tells-previous Nowhere z q same back tells =
      nowhere-previous z (ap (λ (l : List Zipper). list_any test l) back ∙ any-none test (q ∷ elements (earlier q))
      (λ p i. any-in test tells (beside-behind q p (elements-beside q p i))))
      (ap (λ (l : List Generation). list_any test (behind_in l)) (sym same) ∙ any-none test (behind_in q.above)
      (λ p i. any-in test tells (in_tail _ _ (IsIn-append_right _ i))))

first_element_by : (z q : Zipper) (es : List Zipper) → es ≡ elements (earlier z) → (t : Bool) → first_node (cond t (z ∷ es) es) ≡ Some q
    → (first_node es ≡ Some q → (q.above ≡ z.above) × (es ≡ q ∷ elements (earlier q)))
    → (q.above ≡ z.above) × (cond t (z ∷ es) es ≡ q ∷ elements (earlier q))
first_element_by z q es is true e rest =
    let same : z ≡ q = cc in (
      ap (λ (w : Zipper). w.above) (sym same),
      subst (λ (w : Zipper). z ∷ es ≡ w ∷ elements (earlier w)) same
          (ap (λ (l : List Zipper). z ∷ l) is),
    )
first_element_by z q es is false e rest = rest e

-- the nearest element before, and those before it
first_element : (above : List Generation) (before : List (Branch PageRow)) (here : Nodes PageRow) (q : Zipper)
    → first_node (elements (earlier_in above before here)) ≡ Some q
    → (q.above ≡ above) × (elements (earlier_in above before here) ≡ q ∷ elements (earlier q))
first_element above [] here q e = absurd (cc)
first_element above (b ∷ before) here q e =
    let z : Zipper = record { branch = b; before = before; after = here; above = above } in
    first_element_by z q (elements (earlier_in above before (node b.row b.children here))) refl (is_element_node z) e
    (first_element above before (node b.row b.children here) q)

pub previous-element : (z q : Zipper) → first_node (elements (earlier z)) ≡ Some q
    → (q.above ≡ z.above) × (elements (earlier z) ≡ q ∷ elements (earlier q))
previous-element z q e = first_element z.above z.before _ q e

pub head-none : (zs : List Zipper) → first_node zs ≡ None → zs ≡ []
head-none [] e = refl
head-none (z ∷ zs) e = absurd (cc)

-- compounds from right to left, where there are any
pub tells-left : (cs : List CompoundForm) (joint : Joint) (o : Outcome) (z : Zipper) → 0 < length cs
    → Tells o (λ w. list_any (chain_holds cs) (reached joint w)) z → Tells o (left_holds cs joint) z
tells-left [] joint o z some tells = absurd (omega arith)
tells-left (c ∷ cs) joint o z some tells = tells

none_of_both : (f g : Zipper → Bool) (zs : List Zipper) → list_any g zs ≡ false → list_any (λ w. f w && g w) zs ≡ false
none_of_both f g zs e = any-none (λ w. f w && g w) zs (λ w i. rw (any-in g e i) (and_false (f w)))
  where
    and_false : (a : Bool) → (a && false) ≡ false
    and_false true = refl
    and_false false = refl

-- an element that is as its compound asks: what is left of it decides
pub tells-compound : (c : CompoundForm) (cs : List CompoundForm) (o : Outcome) (z : Zipper) → compound_holds c z ≡ true
    → Tells o (left_holds cs c.joint) z → Tells o (chain_holds (c ∷ cs)) z
tells-compound c cs Found z holds tells = rw holds tells
tells-compound c cs NotHere z holds tells = none_of_both (compound_holds c) (left_holds cs c.joint) (z ∷ []) tells
tells-compound c cs NotBeside z holds tells = none_of_both (compound_holds c) (left_holds cs c.joint) (z ∷ earlier z) tells
tells-compound c cs Nowhere z holds tells = none_of_both (compound_holds c) (left_holds cs c.joint) (behind z) tells

last-first : (cs : List Compound) (left : List Compound) (c : Compound) → cs ≡ left ++ c ∷ []
    → reverse (map compound_seen cs) ≡ compound_seen c ∷ reverse (map compound_seen left)
last-first cs left c e = rw (e, map-append compound_seen left (c ∷ []), reverse-append (map compound_seen left) (compound_seen c ∷ [])) refl

-- the last of the compounds is as it asks: what is left of it decides
pub tells-last : (cs left : List Compound) (c : Compound) (o : Outcome) (z : Zipper) → cs ≡ left ++ c ∷ []
    → compound_holds (compound_seen c) z ≡ true → Tells o (left_holds (reverse (map compound_seen left)) c.joint) z
    → Tells o (chain_holds (reverse (map compound_seen cs))) z
tells-last cs left c o z e holds tells =
    subst (λ (l : List CompoundForm). Tells o (chain_holds l) z) (sym (last-first cs left c e))
    (tells-compound (compound_seen c) (reverse (map compound_seen left)) o z holds tells)

pub tells-some : (left : List Compound) (own joint : Joint) (o : Outcome) (z : Zipper) → own ≡ joint → 0 < length left
    → Tells o (λ w. list_any (chain_holds (reverse (map compound_seen left))) (reached joint w)) z
    → Tells o (left_holds (reverse (map compound_seen left)) own) z
tells-some left own joint o z is some tells =
    subst (λ (j : Joint). Tells o (left_holds (reverse (map compound_seen left)) j) z) (sym is)
    (tells-left (reverse (map compound_seen left)) joint o z
    (omega (arith, length-reverse (map compound_seen left), length-map left compound_seen)) tells)
