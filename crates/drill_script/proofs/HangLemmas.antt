-- What hangs below the divs while they are gone through from the last to the first.
use Rattle.std.proofs.Common.{◌≡◌, ◌≢◌, ℕ, zero, suc, ◌+◌, ◌<◌, ◌==◌, Bool, true, false, cond, List, [], ◌∷◌, ◌++◌, length, get_or}
use Rattle.std.proofs.Common.{map, reverse, take, refl, sym, ap, ◌∙◌, subst, arith, append_assoc, append-nil, Vec}
use Rattle.std.specs.Prelude.{slice_set}
use Rattle.std.specs.declared.alloc.Global.{Global}
use Rattle.std.proofs.lemmas.Bool.{eqb-true, eq-eqb}
use Rattle.std.proofs.lemmas.List.{map-set, map-append, reverse-append, get_or-map, length-append, length-set, length-take}
use Rattle.std.proofs.lemmas.List.{get_or-set_same, get_or-set_other, get_or-take, take_all}
use Rattle.std.proofs.Math.Seq.{take-suc}
use Rattle.node_tree.specs.Nodes.{Nodes, none, node, Branch, nodes_of}
use Rattle.node_tree.specs.Labels.{Label}
use Rattle.page_tree.specs.declared.forms.NodeForm.{NodeForm}
use Rattle.drill_script.specs.declared.divs.Div.{Div}
use Rattle.drill_script.specs.Hanging.{nothing_hangs, hung, AreDivsNumbered}
use Rattle.drill_script.specs.DrillNodes.{div_label, below}

-- ---- as code holds it

-- the trees of a list that has the last one first
abbrev pub held : Vec NodeForm Global → Nodes Label
held v = nodes_of (reverse v.items)

held-more : (was new : Vec NodeForm Global) (b : NodeForm) → new.items ≡ was.items ++ b ∷ []
    → held new ≡ node b.row b.children (held was)
held-more was new b e = ap (λ l. nodes_of (reverse l)) e ∙ ap nodes_of (reverse-append was.items (b ∷ []))

map-long : (lists : List (Vec NodeForm Global)) → length (map held lists) ≡ length lists
map-long [] = refl
map-long (v ∷ lists) = ap suc (map-long lists)

pub hang-is : (lists : List (Vec NodeForm Global)) (trees : List (Nodes Label)) (up : ℕ) (was new : Vec NodeForm Global) (b : NodeForm)
    → up < length trees → map held lists ≡ trees → was ≡ get_or lists up was → new.items ≡ was.items ++ b ∷ []
    → map held (slice_set lists up new) ≡ hung trees up b
hang-is lists trees up was new b low are at e =
    let within : up < length lists = omega (arith, map-long lists, ap length are) in
    let there : get_or trees up none ≡ held was
    = ap (λ l. get_or l up none) (sym are) ∙ get_or-map held lists up was none within ∙ ap held (sym at) in
    map-set held lists up new ∙ ap (λ l. slice_set l up (held new)) are
    ∙ ap (slice_set trees up) (held-more was new b e ∙ ap (node b.row b.children) (sym there))

-- nothing below one more
pub nothing-more : (n : ℕ) → nothing_hangs (suc n) ≡ nothing_hangs n ++ none ∷ []
nothing-more zero = refl
nothing-more (suc n) = ap (λ l. none ∷ l) (nothing-more n)

pub nothing-next : (lists more : List (Vec NodeForm Global)) (empty : Vec NodeForm Global) (n : ℕ) → map held lists ≡ nothing_hangs n
    → more ≡ lists ++ empty ∷ [] → empty.items ≡ [] → map held more ≡ nothing_hangs (n + 1)
nothing-next lists more empty n h m e =
    let one : n + 1 ≡ suc n = omega arith in
    ap (map held) m ∙ map-append held lists (empty ∷ []) ∙ ap (λ l. l ++ held empty ∷ []) h
    ∙ ap (λ l. nothing_hangs n ++ nodes_of (reverse l) ∷ []) e ∙ sym (nothing-more n) ∙ ap nothing_hangs (sym one)

-- the last of those
last-parts : (trees : List (Nodes Label)) (n : ℕ) → length trees ≡ suc n → trees ≡ take n trees ++ get_or trees n none ∷ []
last-parts trees n e = sym (take_all (suc n) trees (omega arith)) ∙ take-suc trees n none (omega arith)

-- what is hung below one of the others finds it there when the last is taken
pub others-stay : (trees after : List (Nodes Label)) (up : ℕ) → up + 1 < length trees
    → ((front : List (Nodes Label)) (last : Nodes Label) → trees ≡ front ++ last ∷ [] → after ≡ front) → up < length after
others-stay [] after up h step = absurd (omega arith)
others-stay (t ∷ trees) after up h step =
    let is = step (take (length trees) (t ∷ trees)) (get_or (t ∷ trees) (length trees) none) (last-parts (t ∷ trees) (length trees) refl) in
    let long : length after ≡ length (take (length trees) (t ∷ trees)) = ap length is in
    omega (arith, long, length-take (length trees) (t ∷ trees))

-- none of none
pub none-of : (divs : List Div) → length divs ≡ 0 → divs ≡ []
none-of [] e = refl
none-of (d ∷ divs) e = absurd (omega arith)

-- ---- what hangs is what stands below

-- these divs are left of all; what hangs below each of them and the body stands below it of the others
pub record Hung (all left : List Div) (trees : List (Nodes Label)) : Type 0 where
  pub rest : List Div
  pub all_are : all ≡ left ++ rest
  pub many : length trees ≡ suc (length left)
  pub each : (j : ℕ) → j < length trees → get_or trees j none ≡ below j rest

nothing-many : (n : ℕ) → length (nothing_hangs n) ≡ n
nothing-many zero = refl
nothing-many (suc n) = ap suc (nothing-many n)

nothing-at : (n j : ℕ) → get_or (nothing_hangs n) j none ≡ none
nothing-at zero j = refl
nothing-at (suc n) zero = refl
nothing-at (suc n) (suc j) = nothing-at n j

-- before the last div
pub hung-first : (all : List Div) (trees : List (Nodes Label)) (n : ℕ) → n ≡ length all → trees ≡ nothing_hangs (n + 1) → Hung all all trees
hung-first all trees n e is = record {
  rest = [];
  all_are = sym (append-nil all);
  many = let one : length all + 1 ≡ suc (length all) = omega arith in ap length is ∙ nothing-many (n + 1) ∙ ap (λ k. k + 1) e ∙ one;
  each = λ j h. ap (λ l. get_or l j none) is ∙ nothing-at (n + 1) j;
}

-- a div by its place
pub numbered-at : (k : ℕ) (left : List Div) (d : Div) (rest : List Div) → AreDivsNumbered k (left ++ d ∷ rest)
    → (d.number ≡ k + length left) × (d.up < d.number)
numbered-at k [] d rest h = let n : d.number ≡ k + 0 = omega (arith, h.0) in (n, omega (arith, h.0, h.1))
numbered-at k (x ∷ left) d rest h =
    let r = numbered-at (suc k) left d rest h.2 in
    let n : d.number ≡ k + suc (length left) = omega (arith, r.0) in
    (n, r.1)

hung-get : (front : List (Nodes Label)) (up j : ℕ) (b : Branch Label) → up < length front
    → get_or (hung front up b) j none ≡ cond (up == j) (node b.row b.children (get_or front j none)) (get_or front j none)
hung-get front up j b h = at (up == j) refl where
  at : (t : Bool) → (up == j) ≡ t
      → get_or (hung front up b) j none ≡ cond t (node b.row b.children (get_or front j none)) (get_or front j none)
  at true e =
      let same : up ≡ j = eqb-true up j e in
      subst (λ k. get_or (hung front up b) k none ≡ node b.row b.children (get_or front k none)) same
      (get_or-set_same front up (node b.row b.children (get_or front up none)) none h)
  at false e =
      let other : j ≢ up = λ s. absurd (let t = eq-eqb up j (sym s) in let no : true ≡ false = sym t ∙ e in cc) in
      get_or-set_other front up j (node b.row b.children (get_or front up none)) none other

-- the last of the divs that are left is hung below the one that it is put into
pub hung-next : (all divs left : List Div) (d : Div) (trees after : List (Nodes Label)) → AreDivsNumbered 1 all → Hung all divs trees
    → divs ≡ left ++ d ∷ []
    → ((front : List (Nodes Label)) (last : Nodes Label) → trees ≡ front ++ last ∷ []
    → after ≡ hung front d.up (record { row = div_label d.digit; children = last })) → Hung all left after
hung-next all divs left d trees after numbered h pop step =
    let n : length divs ≡ suc (length left) = ap length pop ∙ (let e : length (left ++ d ∷ []) ≡ suc (length left)
    = omega (arith, length-append left (d ∷ [])) in e) in
    let many : length trees ≡ suc (length divs) = h.many in
    let front : List (Nodes Label) = take (length divs) trees in
    let last : Nodes Label = get_or trees (length divs) none in
    let within : length divs < length trees = omega arith in
    let parts : trees ≡ front ++ last ∷ [] = last-parts trees (length divs) many in
    let is = step front last parts in
    let whole : all ≡ left ++ d ∷ h.rest = h.all_are ∙ ap (λ l. l ++ h.rest) pop ∙ append_assoc left (d ∷ []) h.rest in
    let at = numbered-at 1 left d h.rest (subst (AreDivsNumbered 1) whole numbered) in
    let front-long : length front ≡ length divs = omega (arith, length-take (length divs) trees) in
    let up : d.up < length front = omega (arith, at.0, at.1) in
    let long : length after ≡ length front = ap length is ∙ length-set front d.up _ in
    let number : d.number ≡ length divs = omega (arith, at.0) in
    record {
      rest = d ∷ h.rest;
      all_are = whole;
      many = omega arith;
      each = λ j lt.
          let low : j < length divs = omega arith in
          let below-j : get_or front j none ≡ below j h.rest
          = get_or-take (length divs) trees j none low ∙ h.each j (omega arith) in
          let below-d : last ≡ below d.number h.rest = h.each (length divs) within ∙ ap (λ k. below k h.rest) (sym number) in
          ap (λ l. get_or l j none) is ∙ hung-get front d.up j (record { row = div_label d.digit; children = last }) up
          ∙ ap (λ t. cond (d.up == j) (node (div_label d.digit) last t) t) below-j
          ∙ ap (λ l. cond (d.up == j) (node (div_label d.digit) l (below j h.rest)) (below j h.rest)) below-d;
    }

-- what it is put into is left
pub hung-fits : (all divs left : List Div) (d : Div) (trees : List (Nodes Label)) → AreDivsNumbered 1 all → Hung all divs trees
    → divs ≡ left ++ d ∷ [] → d.up + 1 < length trees
hung-fits all divs left d trees numbered h pop =
    let n : length divs ≡ suc (length left) = ap length pop ∙ (let e : length (left ++ d ∷ []) ≡ suc (length left)
    = omega (arith, length-append left (d ∷ [])) in e) in
    let many : length trees ≡ suc (length divs) = h.many in
    let whole : all ≡ left ++ d ∷ h.rest = h.all_are ∙ ap (λ l. l ++ h.rest) pop ∙ append_assoc left (d ∷ []) h.rest in
    let at = numbered-at 1 left d h.rest (subst (AreDivsNumbered 1) whole numbered) in
    omega (arith, at.0, at.1)

-- none is left: what hangs below the body stands below it of all
pub hung-end : (all divs : List Div) (trees : List (Nodes Label)) → divs ≡ [] → Hung all divs trees → trees ≡ [] ++ below 0 all ∷ []
hung-end all divs trees none-left h =
    let many : length trees ≡ 1 = h.many ∙ ap (λ (l : List Div). suc (length l)) none-left in
    let whole : h.rest ≡ all = ap (λ l. l ++ h.rest) (sym none-left) ∙ sym h.all_are in
    last-parts trees 0 many ∙ ap (λ t. t ∷ []) (h.each 0 (omega arith) ∙ ap (below 0) whole)
