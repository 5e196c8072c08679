-- What is counted of siblings, from one to the next.
use Rattle.std.proofs.Common.{◌≡◌, ℕ, zero, suc, ◌+◌, ◌-◌, ◌<◌, ◌≤◌, ◌^◌, Bool, true, false, cond, ◌&&◌, List, [], ◌∷◌, length, Option}
use Rattle.std.proofs.Common.{Some, None}
use Rattle.std.proofs.Common.{IfSome, unwrap_or, refl, sym, ap, ◌∙◌, arith, subst}
use Rattle.std.proofs.lemmas.Slice.Eq.{bytes_eq-Decides}
use Rattle.std.specs.Str.{bytes_eq}
use Rattle.std.specs.List.{filter}
use Rattle.std.specs.BTreeMap.{BTreeMap}
use Rattle.std.specs.Borrow.{Bor}
use Rattle.node_tree.specs.Nodes.{Nodes, none, node, Branch}
use Rattle.page_tree.specs.Pages.{PageRow}
use Rattle.page_tree.specs.Zippers.{Zipper, earlier, later, next_of, first_child_of, generation_of}
use Rattle.selectors.specs.declared.selector.NthKind.{NthKind}
use Rattle.selectors.specs.declared.selector.NthKind.TheVariants.{Child, LastChild, OfType, LastOfType}
use Rattle.select_match.specs.declared.places.ElementPlaces.{ElementPlaces}
use Rattle.select_match.specs.declared.places.KnownPlaces.{KnownPlaces}
use Rattle.select_match.specs.declared.families.Tally.{Tally}
use Rattle.select_match.specs.declared.families.Family.{Family}
use Rattle.select_match.specs.declared.families.Line.{Line}
use Rattle.select_match.specs.Elements.{is_element_node, zipper_name, index}
use Rattle.select_match.specs.Subjects.{element_place, place_known, KnowsPlaces}
use Rattle.select_match.specs.Families.{named_in, tally_count, is_counted, count_of, one_of, Counts, Faces, FacesNext, LineFaces}
use Rattle.select_match.proofs.WalkLemmas.{from, later-from, walk-start, walk-step}

-- a count beside a name is one more, or one less, than before
module _ (z : Zipper) (element : is_element_node z ≡ true) (old new : BTreeMap (Bor (List ℕ)) ℕ) (n : ℕ)
    (put : (q : List ℕ) → named_in q new ≡ cond (bytes_eq (zipper_name z) q) n (named_in q old)) where
  one_named : (q : List ℕ) → one_of (Some q) z ≡ cond {A = ℕ} (bytes_eq (zipper_name z) q) 1 0
  one_named q = ap (λ (b : Bool). cond {A = ℕ} (b && bytes_eq (zipper_name z) q) 1 0) element

  changed : (f : ℕ → ℕ → ℕ) → ((k : ℕ) → f k 0 ≡ k) → (q : List ℕ) → (zipper_name z ≡ q → n ≡ f (named_in q old) 1)
      → named_in q new ≡ f (named_in q old) (one_of (Some q) z)
  changed f none_less q at = put q ∙ by (bytes_eq (zipper_name z) q) refl ∙ ap (λ (k : ℕ). f (named_in q old) k) (sym (one_named q))
    where
      by : (b : Bool) → bytes_eq (zipper_name z) q ≡ b → cond b n (named_in q old) ≡ f (named_in q old) (cond {A = ℕ} b 1 0)
      by true e = at ((bytes_eq-Decides (zipper_name z) q).0 e)
      by false e = sym (none_less (named_in q old))

  pub named-more : (named_in (zipper_name z) old < 2 ^ 63 → n ≡ named_in (zipper_name z) old + 1) → (q : List ℕ) → named_in q old < 2 ^ 63
      → named_in q new ≡ named_in q old + one_of (Some q) z
  named-more is q few = changed (λ a b. a + b) (λ k. omega arith) q
      (λ same. subst (λ (k : List ℕ). named_in k old < 2 ^ 63 → n ≡ named_in k old + 1) same is few)

  pub named-less : n ≡ named_in (zipper_name z) old - 1 → (q : List ℕ) → named_in q new ≡ named_in q old - one_of (Some q) z
  named-less is q = changed (λ a b. a - b) (λ k. omega arith) q (λ same. subst (λ (k : List ℕ). n ≡ named_in k old - 1) same is)

counted_by : (b : Bool) (z : Zipper) (zs : List Zipper) → length (cond b (z ∷ zs) zs) ≡ cond {A = ℕ} b 1 0 + length zs
counted_by true z zs = omega arith
counted_by false z zs = omega arith

pub count-more : (key : Option (List ℕ)) (z : Zipper) (zs : List Zipper) → count_of key (z ∷ zs) ≡ one_of key z + count_of key zs
count-more key z zs = counted_by (is_counted key z) z (filter (is_counted key) zs)

short_by : (b : Bool) (n m : ℕ) → n ≤ m → cond {A = ℕ} b 1 0 + n ≤ suc m
short_by true n m le = omega arith
short_by false n m le = omega arith

pub count-short : (key : Option (List ℕ)) (zs : List Zipper) → count_of key zs ≤ length zs
count-short key [] = omega arith
count-short key (z ∷ zs) = omega
    (arith, count-more key z zs, short_by (is_counted key z) (count_of key zs) (length zs) (count-short key zs))

-- a step of the count of all children
pub count-walk : (key : Option (List ℕ)) (at : Option Zipper) (q : Zipper) (next : Option Zipper) → at ≡ Some q → next ≡ next_of q
    → count_of key (from later at) ≡ one_of key q + count_of key (from later next)
count-walk key at q next is step =
    ap (λ (l : List Zipper). count_of key l) (walk-step later later-from at q next is step) ∙ count-more key q (from later next)

-- the siblings around the next one
next_behind : (z q : Zipper) (after : Nodes PageRow) → next_of (record z { after = after }) ≡ Some q
    → earlier q ≡ record z { after = after } ∷ earlier (record z { after = after })
next_behind z q none e = absurd (cc)
next_behind z q (node r c t) e =
    let first : Zipper = record {
      branch = record { row = r; children = c };
      before = z.branch ∷ z.before;
      after = t;
      above = z.above;
    } in
    let same : first ≡ q = cc in
    subst (λ (w : Zipper). earlier w ≡ record z { after = node r c t } ∷ earlier (record z { after = node r c t })) same refl

pub next-earlier : (z q : Zipper) → next_of z ≡ Some q → earlier q ≡ z ∷ earlier z
next-earlier z q e = next_behind z q z.after e

pub next-later : (z q : Zipper) → next_of z ≡ Some q → q ∷ later q ≡ later z
next-later z q e = sym (later-from z ∙ ap (λ (o : Option Zipper). from later o) e)

first_alone : (z q : Zipper) (children : Nodes PageRow)
    → first_child_of (record z { branch = record { row = z.branch.row; children = children } }) ≡ Some q → earlier q ≡ []
first_alone z q none e = absurd (cc)
first_alone z q (node r c t) e =
    let y : Zipper = record z { branch = record { row = z.branch.row; children = node r c t } } in
    let first : Zipper = record {
      branch = record { row = r; children = c };
      before = [];
      after = t;
      above = generation_of y ∷ y.above;
    } in
    let same : first ≡ q = cc in
    subst (λ (w : Zipper). earlier w ≡ []) same refl

pub first-earlier : (z q : Zipper) → first_child_of z ≡ Some q → earlier q ≡ []
first-earlier z q e = first_alone z q z.branch.children e

-- ---- a family

-- a count that was put, or none
pub named-put : (b : Bool) (n : ℕ) (o : Option ℕ) → unwrap_or (cond b (Some n) o) 0 ≡ cond b n (unwrap_or o 0)
named-put true n o = refl
named-put false n o = refl

-- the count of a row, from its first node
pub row-start : (first : Zipper) (next : Option Zipper) → next ≡ next_of first → (t u : Tally)
    → ((key : Option (List ℕ)) → tally_count key t ≡ 0)
    → ((key : Option (List ℕ)) → tally_count key t < 2 ^ 63 → tally_count key u ≡ tally_count key t + one_of key first)
    → (key : Option (List ℕ)) → tally_count key u + count_of key (from later next) ≡ count_of key (first ∷ later first)
row-start first next step t u nothing more key = omega (
  arith,
  more key (omega (arith, nothing key)),
  nothing key,
  count-more key first (later first),
  ap (λ (l : List Zipper). count_of key l) (walk-start later later-from first next step),
)

pub row-step : (first q : Zipper) (at next : Option Zipper) → length (later first) < 100000 → at ≡ Some q → next ≡ next_of q → (t u : Tally)
    → ((key : Option (List ℕ)) → tally_count key t + count_of key (from later at) ≡ count_of key (first ∷ later first))
    → ((key : Option (List ℕ)) → tally_count key t < 2 ^ 63 → tally_count key u ≡ tally_count key t + one_of key q)
    → (key : Option (List ℕ)) → tally_count key u + count_of key (from later next) ≡ count_of key (first ∷ later first)
row-step first q at next few is step t u counted more key = omega (
  arith,
  more key (omega (arith, counted key, count-short key (first ∷ later first), few)),
  counted key,
  count-walk key at q next is step,
)

pub row-end : (first : Zipper) (at : Option Zipper) → at ≡ None → (t u : Tally) → earlier first ≡ []
    → ((key : Option (List ℕ)) → tally_count key t ≡ 0)
    → ((key : Option (List ℕ)) → tally_count key u + count_of key (from later at) ≡ count_of key (first ∷ later first))
    → Faces (record { before = t; after = u }) first
row-end first at is t u alone nothing counted = record {
  before = λ key. nothing key ∙ ap (λ (l : List Zipper). count_of key l) (sym alone);
  after = λ key. omega (arith, counted key, ap (λ (o : Option Zipper). count_of key (from later o)) is);
}

module _ (f : Family) (z : Zipper) where
  -- one sibling is taken from those behind
  pub taken : (t : Tally) → Counts t (z ∷ later z) → (u : Tally)
      → ((key : Option (List ℕ)) → tally_count key u ≡ tally_count key t - one_of key z) → Counts u (later z)
  taken t counts u less key = omega (arith, less key, counts key, count-more key z (later z))

  -- and is counted with those before
  pub added : (t : Tally) → Counts t (earlier z) → length (earlier z) < 100000 → (u : Tally)
      → ((key : Option (List ℕ)) → tally_count key t < 2 ^ 63 → tally_count key u ≡ tally_count key t + one_of key z)
      → Counts u (z ∷ earlier z)
  added t counts few u more key = omega
      (arith, more key (omega (arith, counts key, few, count-short key (earlier z))), counts key, count-more key z (earlier z))

  pub faces-next : Counts f.before (z ∷ earlier z) → Counts f.after (later z) → FacesNext f (next_of z)
  faces-next before after q e = record {
    before = λ key. before key ∙ ap (λ (l : List Zipper). count_of key l) (sym (next-earlier z q e));
    after = λ key. after key ∙ ap (λ (l : List Zipper). count_of key l) (sym (next-later z q e));
  }

module _ (z : Zipper) (p : KnownPlaces) (e : ElementPlaces)
    (known : (kind : NthKind) → place_known kind p ≡ Some (element_place kind e)) where
  -- places are known by the counts on both sides
  pub knows : (before after : Tally) → Counts before (earlier z) → Counts after (later z) → length (earlier z) < 100000
      → length (later z) < 100000 → (before.all < 2 ^ 63 → e.child ≡ before.all + 1) → (after.all < 2 ^ 63 → e.last_child ≡ after.all + 1)
      → (named_in (zipper_name z) before.names < 2 ^ 63 → e.of_type ≡ named_in (zipper_name z) before.names + 1)
      → (named_in (zipper_name z) after.names < 2 ^ 63 → e.last_of_type ≡ named_in (zipper_name z) after.names + 1) → KnowsPlaces p z
  knows before after b a few_b few_a child last_child of_type last_of_type kind = subst
      (λ (o : Option ℕ). IfSome o (λ n. n ≡ index kind z)) (sym (known kind)) (each kind)
    where
      one : (t : Tally) (zs : List Zipper) (n : ℕ) (key : Option (List ℕ)) → Counts t zs → length zs < 100000
          → (tally_count key t < 2 ^ 63 → n ≡ tally_count key t + 1) → n ≡ count_of key zs + 1
      one t zs n key counts few is = omega (arith, is (omega (arith, counts key, few, count-short key zs)), counts key)

      each : (kind : NthKind) → element_place kind e ≡ index kind z
      each Child = one before (earlier z) e.child None b few_b child
      each LastChild = one after (later z) e.last_child None a few_a last_child
      each OfType = one before (earlier z) e.of_type (Some (zipper_name z)) b few_b of_type
      each LastOfType = one after (later z) e.last_of_type (Some (zipper_name z)) a few_a last_of_type

-- ---- a line

pub line-walk : (first q : Zipper) (at next : Option Zipper) (n m : ℕ) (b : Bool) → length (later first) < 100000 → at ≡ Some q
    → next ≡ next_of q → n + count_of None (from later at) ≡ count_of None (first ∷ later first) → b ≡ is_element_node q
    → (n < 2 ^ 63 → m ≡ n + cond {A = ℕ} b 1 0) → m + count_of None (from later next) ≡ count_of None (first ∷ later first)
line-walk first q at next n m b few is step counted element more = omega (
  arith,
  more (omega (arith, counted, count-short None (first ∷ later first), few)),
  counted,
  count-walk None at q next is step,
  ap (λ (x : Bool). cond {A = ℕ} x 1 0) element,
)

pub line-start : (first : Zipper) (next : Option Zipper) (m : ℕ) (b : Bool) → next ≡ next_of first → b ≡ is_element_node first
    → (0 < 2 ^ 63 → m ≡ 0 + cond {A = ℕ} b 1 0) → m + count_of None (from later next) ≡ count_of None (first ∷ later first)
line-start first next m b step element more = omega (
  arith,
  more (omega arith),
  count-more None first (later first),
  ap (λ (l : List Zipper). count_of None l) (walk-start later later-from first next step),
  ap (λ (x : Bool). cond {A = ℕ} x 1 0) element,
)

module _ (z : Zipper) (l : Line) (faces : LineFaces l z) (few_before : length (earlier z) < 100000) (few_after : length (later z) < 100000)
    (b : Bool) (element : b ≡ is_element_node z) where
  pub line-passed : (m n : ℕ) → (l.before < 2 ^ 63 → m ≡ l.before + cond {A = ℕ} b 1 0) → n ≡ l.after - cond {A = ℕ} b 1 0
      → (q : Zipper) → next_of z ≡ Some q → LineFaces (record { before = m; after = n }) q
  line-passed m n more less q e = record {
    before = omega (
      arith,
      more (omega (arith, faces.before, few_before, count-short None (earlier z))),
      faces.before,
      count-more None z (earlier z),
      ap (λ (x : Bool). cond {A = ℕ} x 1 0) element,
      ap (λ (w : List Zipper). count_of None w) (next-earlier z q e),
    );
    after = omega (
      arith,
      less,
      faces.after,
      count-more None z (later z),
      ap (λ (x : Bool). cond {A = ℕ} x 1 0) element,
      ap (λ (w : List Zipper). count_of None w) (next-later z q e),
    );
  }

  pub line-places : (p : KnownPlaces) (child last behind : ℕ) → p ≡ record {
    child = Some child;
    last_child = Some last;
    of_type = None;
    last_of_type = None;
  } → (l.before < 2 ^ 63 → child ≡ l.before + 1) → behind ≡ l.after - cond {A = ℕ} b 1 0 → (behind < 2 ^ 63
      → last ≡ behind + 1) → KnowsPlaces p z
  line-places p child last behind is first less one kind = subst (λ (k : KnownPlaces). IfSome (place_known kind k) (λ n. n ≡ index kind z))
      (sym is) (each kind)
    where
      rest : behind ≡ count_of None (later z)
      rest = omega (arith, less, faces.after, count-more None z (later z), ap (λ (x : Bool). cond {A = ℕ} x 1 0) element)

      each : (kind : NthKind) → IfSome (place_known kind (record {
        child = Some child;
        last_child = Some last;
        of_type = None;
        last_of_type = None;
      })) (λ n. n ≡ index kind z)
      each Child = omega (arith, first (omega (arith, faces.before, few_before, count-short None (earlier z))), faces.before)
      each LastChild = omega (arith, one (omega (arith, rest, few_after, count-short None (later z))), rest)
      each OfType = tt
      each LastOfType = tt
