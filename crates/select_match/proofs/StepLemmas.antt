-- The steps of selectors: what holds around a node, from what holds at it.
use Rattle.std.proofs.Common.{◌≡◌, ℕ, zero, suc, ◌+◌, ◌*◌, ◌-◌, ◌<◌, ◌≤◌, Bool, true, false, cond, not, ◌||◌, ◌&&◌, ◌==◌, List, [], ◌∷◌}
use Rattle.std.proofs.Common.{◌++◌, map, take, drop, length, reverse, replicate}
use Rattle.std.proofs.Common.{get_or, Option, Some, None, refl, sym, ap, ◌∙◌, arith, subst}
use Rattle.std.specs.List.{list_any, list_all, filter, slice_get}
use Rattle.std.proofs.lemmas.Bool.{ne_eqb}
use Rattle.std.proofs.lemmas.List.{append_assoc, append-nil, reverse-append, length-reverse, length-map, drop_more}
use Rattle.node_tree.specs.Nodes.{Nodes, none, node, Branch}
use Rattle.page_tree.specs.Pages.{PageRow}
use Rattle.selectors.specs.declared.selector.Joint.{Joint}
use Rattle.selectors.specs.declared.selector.Joint.TheVariants.{Descendant, Child, Next, Later}
use Rattle.selectors.specs.Forms.{CompoundForm, SelectorForm}
use Rattle.page_tree.specs.Zippers.{Generation, Zipper, ancestors, ancestors_in, earlier, next_of, previous_of, parent_of, first_child_of}
use Rattle.page_tree.specs.Zippers.{generation_of}
use Rattle.select_match.specs.declared.steps.Around.{Around}
use Rattle.select_match.specs.declared.steps.Step.{Step}
use Rattle.select_match.specs.Elements.{is_element_node, elements}
use Rattle.select_match.specs.Matches.{compound_holds, left_holds, chain_holds, selector_matches, list_matches}
use Rattle.select_match.specs.Steps.{StepForm, chains_in, any_ends, left_after, around_of, beside_of, inside_of, passed, entered, leads}
use Rattle.select_match.specs.Steps.{left_of, leads_by, step_seen, around_by, nothing, steps_of_chain, steps_of_selector, steps_of}
use Rattle.select_match.specs.Steps.{is_stepped, all_stepped}
use Rattle.select_match.specs.declared.families.Family.{Family}
use Rattle.select_match.specs.Families.{Faces, FacesNext, FacesLast}
use Rattle.select_match.proofs.WalkLemmas.{from, ancestors-from, earlier-from, walk-step}

or_none : (b : Bool) → b ≡ (b || false)
or_none true = refl
or_none false = refl

or_more : (a b c : Bool) → ((a || b) || c) ≡ (a || (b || c))
or_more true b c = refl
or_more false b c = refl

and_turned : (a b : Bool) → (a && b) ≡ (b && a)
and_turned true true = refl
and_turned true false = refl
and_turned false true = refl
and_turned false false = refl

-- a combinator leads to a node where the chain on the left holds
pub leads-left : (chain : List CompoundForm) (joint : Joint) (z : Zipper) → leads joint (left_of z chain) ≡ left_holds chain joint z
leads-left [] joint z = refl
leads-left (c ∷ cs) Descendant z = refl
leads-left (c ∷ cs) Child z = refl
leads-left (c ∷ cs) Next z = refl
leads-left (c ∷ cs) Later z = refl

previous_by : (test : Zipper → Bool) (z : Zipper) (before : List Zipper) (b : Bool)
    → cond b (test z) (list_any test (take 1 before)) ≡ list_any test (take 1 (cond b (z ∷ before) before))
previous_by test z before true = or_none (test z)
previous_by test z before false = refl

pub passed-around : (z : Zipper) (chain : List CompoundForm)
    → passed (around_of z chain) (chain_holds chain z) (is_element_node z) ≡ beside_of z chain
passed-around z chain = λ i. record {
  above = list_any (chain_holds chain) (ancestors z);
  parent = list_any (chain_holds chain) (take 1 (ancestors z));
  previous = previous_by (chain_holds chain) z (elements (earlier z)) (is_element_node z) i;
  earlier = chain_holds chain z || list_any (chain_holds chain) (earlier z);
}

pub entered-around : (z : Zipper) (chain : List CompoundForm) → entered (around_of z chain) (chain_holds chain z) ≡ inside_of z chain
entered-around z chain = λ i. record {
  above = chain_holds chain z || list_any (chain_holds chain) (ancestors z);
  parent = or_none (chain_holds chain z) i;
  previous = false;
  earlier = false;
}

-- a visit on its way: the steps that are left, and the chain on their left
pub record Visiting (z : Zipper) (steps rest : List StepForm) (around : List Around) (left : Option Around) (found : Bool)
    (beside beside_old inside inside_old : List Around) : Type 0 where
  pub chain : List CompoundForm
  pub fits : around ≡ map (around_of z) (chains_in chain rest)
  pub left_is : left ≡ left_of z chain
  pub matched : (found || any_ends chain rest z) ≡ any_ends [] steps z
  pub beside_is : beside ++ map (beside_of z) (chains_in chain rest) ≡ beside_old ++ map (beside_of z) (chains_in [] steps)
  pub inside_is : inside ++ map (inside_of z) (chains_in chain rest) ≡ inside_old ++ map (inside_of z) (chains_in [] steps)

left_by : (z : Zipper) (a : Around) (c : CompoundForm) (chain : List CompoundForm) → a ≡ around_of z (c ∷ chain) → (b : Bool)
    → cond {A = Option Around} b None (Some a) ≡ left_of z (cond b [] (c ∷ chain))
left_by z a c chain e true = refl
left_by z a c chain e false = ap (λ (x : Around). Some x) e

module _ (z : Zipper) (steps : List StepForm) (s : StepForm) (rest : List StepForm) (a : Around) (around : List Around)
    (left : Option Around) (found : Bool) (b b0 i i0 : List Around)
    (v : Visiting z steps (s ∷ rest) (a ∷ around) left found b b0 i i0) where
  own : a ≡ around_of z (s.compound ∷ v.chain)
  own = let all = v.fits in cc

  others : around ≡ map (around_of z) (chains_in (left_after v.chain s) rest)
  others = let all = v.fits in cc

  module _ (holds : Bool) (e : holds ≡ (leads s.compound.joint left && compound_holds s.compound z)) where
    is_held : holds ≡ chain_holds (s.compound ∷ v.chain) z
    is_held =
        e ∙ ap (λ (o : Option Around). leads s.compound.joint o && compound_holds s.compound z) v.left_is
        ∙ ap (λ (x : Bool). x && compound_holds s.compound z) (leads-left v.chain s.compound.joint z)
        ∙ and_turned (left_holds v.chain s.compound.joint z) (compound_holds s.compound z)

    pub visiting-step : Visiting z steps rest around (cond {A = Option Around} s.ends None (Some a)) (found || (s.ends && holds))
        (b ++ passed a holds (is_element_node z) ∷ []) b0 (i ++ entered a holds ∷ []) i0
    visiting-step =
        let chain = s.compound ∷ v.chain in
        let after = left_after v.chain s in
        record {
          chain = after;
          fits = others;
          left_is = left_by z a s.compound v.chain own s.ends;
          matched =
              or_more found (s.ends && holds) (any_ends after rest z)
              ∙ ap (λ (x : Bool). found || ((s.ends && x) || any_ends after rest z)) is_held
              ∙ v.matched;
          beside_is =
              append_assoc b (passed a holds (is_element_node z) ∷ []) (map (beside_of z) (chains_in after rest))
              ∙ ap (λ (x : Around). b ++ (passed x holds (is_element_node z) ∷ map (beside_of z) (chains_in after rest))) own
              ∙ ap
              (λ (x : Bool). b ++ (passed (around_of z chain) x (is_element_node z) ∷ map (beside_of z) (chains_in after rest))) is_held
              ∙ ap (λ (x : Around). b ++ (x ∷ map (beside_of z) (chains_in after rest))) (passed-around z chain)
              ∙ v.beside_is;
          inside_is =
              append_assoc i (entered a holds ∷ []) (map (inside_of z) (chains_in after rest))
              ∙ ap (λ (x : Around). i ++ (entered x holds ∷ map (inside_of z) (chains_in after rest))) own
              ∙ ap (λ (x : Bool). i ++ (entered (around_of z chain) x ∷ map (inside_of z) (chains_in after rest))) is_held
              ∙ ap (λ (x : Around). i ++ (x ∷ map (inside_of z) (chains_in after rest))) (entered-around z chain)
              ∙ v.inside_is;
        }

length-chains : (chain : List CompoundForm) (steps : List StepForm) → length (chains_in chain steps) ≡ length steps
length-chains chain [] = refl
length-chains chain (s ∷ steps) = ap (λ (n : ℕ). suc n) (length-chains (left_after chain s) steps)

pub around-length : (z : Zipper) (steps : List Step) (around : List Around)
    → around ≡ map (around_of z) (chains_in [] (map step_seen steps))
    → length around ≡ length steps
around-length z steps around e =
    ap (λ (l : List Around). length l) e ∙ length-map (chains_in [] (map step_seen steps)) (around_of z)
    ∙ length-chains [] (map step_seen steps) ∙ length-map steps step_seen

-- a step at a place
pub visiting-at : (z : Zipper) (steps : List Step) (around : List Around) (i : ℕ) (d : Step) (e : Around) (left : Option Around)
    (found : Bool) (b b0 k k0 : List Around) → i < length steps → length around ≡ length steps
    → Visiting z (map step_seen steps) (map step_seen (drop i steps)) (drop i around) left found b b0 k k0
    → (s : Step) → s ≡ get_or steps i d → (a : Around) → a ≡ get_or around i e → (holds element : Bool)
    → holds ≡ (leads (step_seen s).compound.joint left && compound_holds (step_seen s).compound z) → element ≡ is_element_node z
    → (left' : Option Around) → left' ≡ cond s.ends None (Some a) → (found' : Bool) → found' ≡ (found || (s.ends && holds))
    → (p : Around) → p ≡ passed a holds element → (q : Around) → q ≡ entered a holds → (b' : List Around) → b' ≡ b ++ p ∷ []
    → (k' : List Around) → k' ≡ k ++ q ∷ []
    → Visiting z (map step_seen steps) (map step_seen (drop (i + 1) steps)) (drop (i + 1) around) left' found' b' b0 k' k0
visiting-at z steps around i d e left found b b0 k k0 lt same v s is_s a is_a holds element held el left' l found' f p is_p q is_q b' is_b
    k' is_k =
    let v1 = subst (λ (l : List Step). Visiting z (map step_seen steps) (map step_seen l) (drop i around) left found b b0 k k0)
    (drop_more steps i d lt) v in
    let v2 =
    subst (λ (l : List Around). Visiting z (map step_seen steps) (step_seen (get_or steps i d) ∷ map step_seen (drop (i + 1) steps))
    l left found b b0 k k0) (drop_more around i e (omega arith)) v1 in
    let v3 = subst (λ (x : Step). Visiting z (map step_seen steps) (step_seen x ∷ map step_seen (drop (i + 1) steps))
    (get_or around i e ∷ drop (i + 1) around) left found b b0 k k0) (sym is_s) v2 in
    let v4 = subst (λ (x : Around). Visiting z (map step_seen steps) (step_seen s ∷ map step_seen (drop (i + 1) steps))
    (x ∷ drop (i + 1) around) left found b b0 k k0) (sym is_a) v3 in
    rw (is_b, is_k, is_p, is_q, l, f, el) (visiting-step z (map step_seen steps) (step_seen s) (map step_seen (drop (i + 1) steps)) a
    (drop (i + 1) around) left found b b0 k k0 v4 holds held)

-- what holds around the next sibling and around the first child
next_beside : (z q : Zipper) (chain : List CompoundForm) (after : Nodes PageRow) → next_of (record z { after = after }) ≡ Some q
    → beside_of (record z { after = after }) chain ≡ around_of q chain
next_beside z q chain none e = absurd (cc)
next_beside z q chain (node r c t) e =
    let first : Zipper = record {
      branch = record { row = r; children = c };
      before = z.branch ∷ z.before;
      after = t;
      above = z.above;
    } in
    let same : first ≡ q = cc in
    subst (λ (w : Zipper). beside_of (record z { after = node r c t }) chain ≡ around_of w chain) same refl

first_inside : (z q : Zipper) (chain : List CompoundForm) (children : Nodes PageRow)
    → first_child_of (record z { branch = record { row = z.branch.row; children = children } }) ≡ Some q
    → inside_of (record z { branch = record { row = z.branch.row; children = children } }) chain ≡ around_of q chain
first_inside z q chain none e = absurd (cc)
first_inside z q chain (node r c t) e =
    let y : Zipper = record z { branch = record { row = z.branch.row; children = node r c t } } in
    let first : Zipper = record {
      branch = record { row = r; children = c };
      before = [];
      after = t;
      above = generation_of y ∷ y.above;
    } in
    let same : first ≡ q = cc in
    subst (λ (w : Zipper). inside_of y chain ≡ around_of w chain) same refl

pub beside-next : (z : Zipper) (chains : List (List CompoundForm)) (next : Option Zipper) → next ≡ next_of z → (q : Zipper)
    → next ≡ Some q → map (beside_of z) chains ≡ map (around_of q) chains
beside-next z chains next e q is = ap (λ (f : List CompoundForm → Around). map f chains)
    (λ i chain. next_beside z q chain z.after (sym e ∙ is) i)

pub inside-first : (z : Zipper) (chains : List (List CompoundForm)) (first : Option Zipper) → first ≡ first_child_of z → (q : Zipper)
    → first ≡ Some q → map (inside_of z) chains ≡ map (around_of q) chains
inside-first z chains first e q is = ap (λ (f : List CompoundForm → Around). map f chains)
    (λ i chain. first_inside z q chain z.branch.children (sym e ∙ is) i)

-- ---- down to a node

-- nothing holds around the root
pub nothing-around : (z : Zipper) (chains : List (List CompoundForm)) (n : ℕ) → None ≡ parent_of z → n ≡ length chains
    → replicate n nothing ≡ map (around_by z []) chains
nothing-around z chains n root many = ap (λ (k : ℕ). replicate k nothing) many ∙ each chains
  where
    alone : [] ≡ ancestors z
    alone = ap (λ (o : Option Zipper). from ancestors o) root ∙ sym (ancestors-from z)

    one : (chain : List CompoundForm) → nothing ≡ around_by z [] chain
    one chain = λ i. record {
      above = list_any (chain_holds chain) (alone i);
      parent = list_any (chain_holds chain) (take 1 (alone i));
      previous = false;
      earlier = false;
    }

    each : (chains : List (List CompoundForm)) → replicate (length chains) nothing ≡ map (around_by z []) chains
    each [] = refl
    each (chain ∷ chains) = λ i. one chain i ∷ each chains i

-- what holds around the first child of the parent
pub inside-parent : (z p : Zipper) (chains : List (List CompoundForm)) → Some p ≡ parent_of z
    → map (inside_of p) chains ≡ map (around_by z []) chains
inside-parent z p chains e = ap (λ (f : List CompoundForm → Around). map f chains) (λ i chain. one chain i)
  where
    above : p ∷ ancestors p ≡ ancestors z
    above = ap (λ (o : Option Zipper). from ancestors o) e ∙ sym (ancestors-from z)

    one : (chain : List CompoundForm) → inside_of p chain ≡ around_by z [] chain
    one chain = λ i. record {
      above = list_any (chain_holds chain) (above i);
      parent = list_any (chain_holds chain) (take 1 (above i));
      previous = false;
      earlier = false;
    }

-- the nearest sibling before a node
pub record IsNearest (z w : Zipper) (ws : List Zipper) : Type 0 where
  pub earlier_is : earlier w ≡ ws
  pub above_is : w.above ≡ z.above

nearest : (z w : Zipper) (ws : List Zipper) (before : List (Branch PageRow)) → earlier (record z { before = before }) ≡ w ∷ ws
    → IsNearest z w ws
nearest z w ws [] e = absurd (cc)
nearest z w ws (b ∷ before) e =
    let here : Nodes PageRow = node z.branch.row z.branch.children z.after in
    let first : Zipper = record { branch = b; before = before; after = here; above = z.above } in
    let same : first ≡ w = cc in
    let rest : earlier first ≡ ws = cc in
    record { earlier_is = ap (λ (v : Zipper). earlier v) (sym same) ∙ rest; above_is = ap (λ (v : Zipper). v.above) (sym same) }

-- and one further off
pub further : (bs : List Zipper) (z b : Zipper) (rest : List Zipper) → earlier z ≡ bs ++ (b ∷ rest) → IsNearest z b rest
further [] z b rest e = nearest z b rest z.before e
further (x ∷ bs) z b rest e =
    let n = nearest z x (bs ++ (b ∷ rest)) z.before e in
    let m = further bs x b rest n.earlier_is in
    record { earlier_is = m.earlier_is; above_is = m.above_is ∙ n.above_is }

-- a way along the siblings before a node, from the first on
pub record Passing (z : Zipper) (chains : List (List CompoundForm)) (before : List Zipper) (around : List Around) : Type 0 where
  pub rest : List Zipper
  pub split : earlier z ≡ before ++ rest
  pub fits : around ≡ map (around_by z rest) chains

module _ (z : Zipper) (chains : List (List CompoundForm)) (before bs : List Zipper) (b : Zipper) (around : List Around)
    (v : Passing z chains before around) (e : before ≡ bs ++ b ∷ []) where
  passed_split : earlier z ≡ bs ++ (b ∷ v.rest)
  passed_split = v.split ∙ ap (λ (l : List Zipper). l ++ v.rest) e ∙ append_assoc bs (b ∷ []) v.rest

  near : IsNearest z b v.rest
  near = further bs z b v.rest passed_split

  above_same : ancestors z ≡ ancestors b
  above_same = ap (λ (l : List Generation). ancestors_in l) (sym near.above_is)

  above_back : ancestors b ≡ ancestors z
  above_back = sym above_same

  rest_back : v.rest ≡ earlier b
  rest_back = sym near.earlier_is

  pub passing-fits : around ≡ map (around_of b) chains
  passing-fits = v.fits ∙ ap (λ (f : List CompoundForm → Around). map f chains) (λ i chain. record {
    above = list_any (chain_holds chain) (above_same i);
    parent = list_any (chain_holds chain) (take 1 (above_same i));
    previous = list_any (chain_holds chain) (take 1 (elements (rest_back i)));
    earlier = list_any (chain_holds chain) (rest_back i);
  })

  pub passing-step : (beside : List Around) → beside ≡ map (beside_of b) chains → Passing z chains bs beside
  passing-step beside f = record {
    rest = b ∷ v.rest;
    split = passed_split;
    fits = f ∙ ap (λ (g : List CompoundForm → Around). map g chains) (λ i chain. record {
      above = list_any (chain_holds chain) (above_back i);
      parent = list_any (chain_holds chain) (take 1 (above_back i));
      previous = list_any (chain_holds chain) (take 1 (elements (b ∷ near.earlier_is i)));
      earlier = list_any (chain_holds chain) (b ∷ near.earlier_is i);
    });
  }

-- a walk back that keeps what it has met
pub row-taken : (before : List Zipper) (at : Option Zipper) (q : Zipper) (next : Option Zipper) → at ≡ Some q → next ≡ previous_of q
    → (after : List Zipper) → after ≡ before ++ q ∷ [] → after ++ from earlier next ≡ before ++ from earlier at
row-taken before at q next is step after e =
    ap (λ (l : List Zipper). l ++ from earlier next) e ∙ append_assoc before (q ∷ []) (from earlier next)
    ∙ ap (λ (l : List Zipper). before ++ l) (sym (walk-step earlier earlier-from at q next is step))

-- ---- the steps of a list

all-suc : {A : Type 0} (f : A → Bool) (xs : List A) (i : ℕ) (x : A) → slice_get xs i ≡ Some x
    → list_all f (drop i xs) ≡ (f x && list_all f (drop (suc i) xs))
all-suc f [] i x e = absurd (cc)
all-suc f (y ∷ xs) zero x e = let same : y ≡ x = cc in ap (λ w. f w && list_all f xs) same
all-suc f (y ∷ xs) (suc i) x e = all-suc f xs i x e

pub all-at : {A : Type 0} (f : A → Bool) (xs : List A) (i : ℕ) (x : A) → slice_get xs i ≡ Some x
    → list_all f (drop i xs) ≡ (f x && list_all f (drop (i + 1) xs))
all-at f xs i x e = let one : suc i ≡ i + 1 = omega arith in all-suc f xs i x e ∙ ap (λ n. f x && list_all f (drop n xs)) one

steps-suc : (l : List SelectorForm) (i : ℕ) (s : SelectorForm) → slice_get l i ≡ Some s
    → steps_of (drop i l) ≡ steps_of_selector s ++ steps_of (drop (suc i) l)
steps-suc [] i s e = absurd (cc)
steps-suc (t ∷ l) zero s e = let same : t ≡ s = cc in ap (λ (x : SelectorForm). steps_of_selector x ++ steps_of l) same
steps-suc (t ∷ l) (suc i) s e = steps-suc l i s e

pub steps-at : (l : List SelectorForm) (i : ℕ) (s : SelectorForm) → slice_get l i ≡ Some s → (old new whole : List StepForm)
    → old ++ steps_of (drop i l) ≡ whole → new ≡ old ++ steps_of_selector s → new ++ steps_of (drop (i + 1) l) ≡ whole
steps-at l i s e old new whole inv is =
    let one : suc i ≡ i + 1 = omega arith in
    ap (λ (x : List StepForm). x ++ steps_of (drop (i + 1) l)) is
    ∙ append_assoc old (steps_of_selector s) (steps_of (drop (i + 1) l))
    ∙ ap (λ (n : ℕ). old ++ (steps_of_selector s ++ steps_of (drop n l))) (sym one)
    ∙ ap (λ (x : List StepForm). old ++ x) (sym (steps-suc l i s e))
    ∙ inv

-- the chain of a selector ends with its last step
chain-ends : (left : List CompoundForm) (c : CompoundForm) (cs : List CompoundForm) (rest : List StepForm) (z : Zipper)
    → any_ends left (steps_of_chain (c ∷ cs) ++ rest) z ≡ (chain_holds (reverse cs ++ (c ∷ left)) z || any_ends [] rest z)
chain-ends left c [] rest z = refl
chain-ends left c (d ∷ ds) rest z =
    let turned : reverse (d ∷ ds) ++ (c ∷ left) ≡ reverse ds ++ (d ∷ c ∷ left) =
    ap (λ (l : List CompoundForm). l ++ (c ∷ left)) (reverse-append (d ∷ []) ds) ∙ append_assoc (reverse ds) (d ∷ []) (c ∷ left) in
    let more : (suc (length ds) == 0) ≡ false = ne_eqb (suc (length ds)) 0 (λ e. omega arith) in
    ap (λ (b : Bool). (b && chain_holds (c ∷ left) z) || any_ends (cond b [] (c ∷ left)) (steps_of_chain (d ∷ ds) ++ rest) z) more
    ∙ chain-ends (c ∷ left) d ds rest z
    ∙ ap (λ (l : List CompoundForm). chain_holds l z || any_ends [] rest z) (sym turned)

selector_ends : (compounds : List CompoundForm) (pseudo : Bool) (rest : List StepForm) (z : Zipper) → not (length compounds == 0) ≡ true
    → any_ends [] (cond pseudo [] (steps_of_chain compounds) ++ rest) z
    ≡ ((not pseudo && chain_holds (reverse compounds) z) || any_ends [] rest z)
selector_ends [] pseudo rest z e = absurd (cc)
selector_ends (c ∷ cs) true rest z e = refl
selector_ends (c ∷ cs) false rest z e =
    chain-ends [] c cs rest z ∙ ap (λ (l : List CompoundForm). chain_holds l z || any_ends [] rest z) (sym (reverse-append (c ∷ []) cs))

and_left : (a b : Bool) → (a && b) ≡ true → a ≡ true
and_left true b e = refl
and_left false b e = e

and_right : (a b : Bool) → (a && b) ≡ true → b ≡ true
and_right true b e = e
and_right false b e = absurd (cc)

-- The law: a node ends some step exactly where some selector of the list matches it.
pub ends-list : (l : List SelectorForm) (z : Zipper) → all_stepped l ≡ true → any_ends [] (steps_of l) z ≡ list_matches l z
ends-list [] z e = refl
ends-list (s ∷ l) z e =
    selector_ends s.compounds s.pseudo_element (steps_of l) z (and_left (is_stepped s) (all_stepped l) e)
    ∙ ap (λ (b : Bool). selector_matches s z || b) (ends-list l z (and_right (is_stepped s) (all_stepped l) e))

pub ends-matches : (l : List SelectorForm) → all_stepped l ≡ true → any_ends [] (steps_of l) ≡ list_matches l
ends-matches l e i z = ends-list l z e i

pub steps-match : (steps : List StepForm) (l : List SelectorForm) → steps ≡ steps_of l → all_stepped l ≡ true
    → any_ends [] steps ≡ list_matches l
steps-match steps l e h = ap (λ (s : List StepForm). any_ends [] s) e ∙ ends-matches l h

pub parent-fewer : (z p : Zipper) → Some p ≡ parent_of z → 3 * length (ancestors p) + 2 < 3 * length (ancestors z)
parent-fewer z p e =
    let above : ancestors z ≡ p ∷ ancestors p = ancestors-from z ∙ ap (λ (o : Option Zipper). from ancestors o) (sym e) in
    omega (arith, ap (λ (l : List Zipper). length l) above)

pub chains-many : (steps : List Step) → length steps ≡ length (chains_in [] (map step_seen steps))
chains-many steps = sym (length-chains [] (map step_seen steps) ∙ length-map steps step_seen)

-- the node itself is next to the nearest sibling before it
next_nearest : (z w : Zipper) (ws : List Zipper) (before : List (Branch PageRow)) → earlier (record z { before = before }) ≡ w ∷ ws
    → next_of w ≡ Some (record z { before = before })
next_nearest z w ws [] e = absurd (cc)
next_nearest z w ws (b ∷ before) e =
    let here : Nodes PageRow = node z.branch.row z.branch.children z.after in
    let first : Zipper = record { branch = b; before = before; after = here; above = z.above } in
    let same : first ≡ w = cc in
    subst (λ (v : Zipper). next_of v ≡ Some (record z { before = b ∷ before })) same refl

-- counts that face the first of a row face the last of the siblings before the node
pub faces-start : (z first : Zipper) (before : List Zipper) (f : Family) → (bs : List Zipper) → before ≡ bs ++ first ∷ [] → Faces f first
    → FacesLast f before
faces-start z first before f bs e faces cs w g =
    subst (λ (v : Zipper). Faces f v) (last-same bs cs first w (sym e ∙ g)) faces
  where
    last-same : (bs cs : List Zipper) (u w : Zipper) → bs ++ u ∷ [] ≡ cs ++ w ∷ [] → u ≡ w
    last-same [] [] u w e = cc
    last-same [] (c ∷ []) u w e = absurd (cc)
    last-same [] (c ∷ d ∷ cs) u w e = absurd (cc)
    last-same (b ∷ []) [] u w e = absurd (cc)
    last-same (b ∷ d ∷ bs) [] u w e = absurd (cc)
    last-same (b ∷ bs) (c ∷ cs) u w e = let rest : bs ++ u ∷ [] ≡ cs ++ w ∷ [] = cc in last-same bs cs u w rest

-- and so they do a sibling further
pub faces-further : (z : Zipper) (chains : List (List CompoundForm)) (before bs : List Zipper) (b : Zipper) (around : List Around)
    → Passing z chains before around → before ≡ bs ++ b ∷ [] → (f : Family) → FacesNext f (next_of b) → FacesLast f bs
faces-further z chains before bs b around v e f faces cs w g =
    let split : earlier z ≡ bs ++ (b ∷ v.rest) = passed_split z chains before bs b around v e in
    let all : earlier z ≡ cs ++ (w ∷ b ∷ v.rest) =
    split ∙ ap (λ (l : List Zipper). l ++ (b ∷ v.rest)) g ∙ append_assoc cs (w ∷ []) (b ∷ v.rest) in
    let near = further cs z w (b ∷ v.rest) all in
    faces w (next_nearest w b v.rest w.before near.earlier_is)

-- the first of a row has no sibling before it
pub last-first_of_row : (z : Zipper) (before bs : List Zipper) (first : Zipper) → before ≡ earlier z → before ≡ bs ++ first ∷ []
    → earlier first ≡ []
last-first_of_row z before bs first e f =
    (further bs z first [] (sym e ∙ f)).earlier_is

-- the last of a list, by its place
pub last-split : (before : List Zipper) (n : ℕ) (first : Zipper) → length before ≡ suc n → slice_get before n ≡ Some first
    → (bs : List Zipper) × (before ≡ bs ++ first ∷ [])
last-split [] n first e f = absurd (cc)
last-split (b ∷ []) zero first e f = let same : b ≡ first = cc in ([], ap (λ (v : Zipper). v ∷ []) same)
last-split (b ∷ []) (suc n) first e f = absurd (cc)
last-split (b ∷ d ∷ before) zero first e f = absurd (omega (arith, e))
last-split (b ∷ d ∷ before) (suc n) first e f =
    let rest = last-split (d ∷ before) n first (omega (arith, e)) f in
    (b ∷ rest.0, ap (λ (l : List Zipper). b ∷ l) rest.1)

-- the last chain of a selector's steps is the whole
last-chain : (z : Zipper) (left : List CompoundForm) (c : CompoundForm) (cs : List CompoundForm)
    → slice_get (map (around_of z) (chains_in left (steps_of_chain (c ∷ cs)))) (length cs) ≡ Some (around_of z (reverse cs ++ (c ∷ left)))
last-chain z left c [] = refl
last-chain z left c (d ∷ ds) =
    let turned : reverse (d ∷ ds) ++ (c ∷ left) ≡ reverse ds ++ (d ∷ c ∷ left) =
    ap (λ (l : List CompoundForm). l ++ (c ∷ left)) (reverse-append (d ∷ []) ds) ∙ append_assoc (reverse ds) (d ∷ []) (c ∷ left) in
    let more : (suc (length ds) == 0) ≡ false = ne_eqb (suc (length ds)) 0 (λ e. omega arith) in
    ap (λ (b : Bool). slice_get (map (around_of z) (chains_in (cond b [] (c ∷ left)) (steps_of_chain (d ∷ ds)))) (length ds)) more
    ∙ last-chain z (c ∷ left) d ds
    ∙ ap (λ (l : List CompoundForm). Some (around_of z l)) (sym turned)

some_left : (z : Zipper) (chain : List CompoundForm) (joint : Joint) → 0 < length chain
    → leads joint (Some (around_of z chain)) ≡ left_holds chain joint z
some_left z [] joint e = absurd (omega (arith, e))
some_left z (c ∷ cs) joint e = leads-left (c ∷ cs) joint z

last_leads : (z : Zipper) (cs : List CompoundForm) (n : ℕ) (joint : Joint) (r : Bool) → length cs ≡ suc n
    → ((a : Around) → slice_get (map (around_of z) (chains_in [] (steps_of_chain cs))) n ≡ Some a → r ≡ leads joint (Some a))
    → r ≡ left_holds (reverse cs) joint z
last_leads z [] n joint r many at = absurd (omega (arith, many))
last_leads z (c ∷ cs) n joint r many at =
    let place : length cs ≡ n = omega (arith, many) in
    let whole : reverse (c ∷ cs) ≡ reverse cs ++ (c ∷ []) = reverse-append (c ∷ []) cs in
    let here : slice_get (map (around_of z) (chains_in [] (steps_of_chain (c ∷ cs)))) n ≡ Some (around_of z (reverse (c ∷ cs))) =
    ap (λ (k : ℕ). slice_get (map (around_of z) (chains_in [] (steps_of_chain (c ∷ cs)))) k) (sym place)
    ∙ last-chain z [] c cs ∙ ap (λ (l : List CompoundForm). Some (around_of z l)) (sym whole) in
    at (around_of z (reverse (c ∷ cs))) here
    ∙ some_left z (reverse (c ∷ cs)) joint (omega (arith, length-reverse (c ∷ cs), many))

-- what the last place of a selector's steps says of what is left of a node
pub left-leads : (z : Zipper) (cs : List CompoundForm) (steps : List StepForm) (n : ℕ) (joint : Joint) (around : List Around) (r : Bool)
    → length cs ≡ suc n → steps ≡ steps_of_chain cs → around ≡ map (around_of z) (chains_in [] steps)
    → ((a : Around) → slice_get around n ≡ Some a → r ≡ leads_by joint a) → r ≡ left_holds (reverse cs) joint z
left-leads z cs steps n joint around r many is fits at =
    let same : around ≡ map (around_of z) (chains_in [] (steps_of_chain cs)) =
    fits ∙ ap (λ (l : List StepForm). map (around_of z) (chains_in [] l)) is in
    last_leads z cs n joint r many (λ a e. at a (ap (λ (l : List Around). slice_get l n) same ∙ e))

split_last : (slice : List Zipper) (first : Zipper) → Some first ≡ slice_get slice (length slice - 1)
    → (bs : List Zipper) × (slice ≡ bs ++ first ∷ [])
split_last [] first g = absurd (cc)
split_last (b ∷ bs) first g =
    let n : length (b ∷ bs) - 1 ≡ length bs = omega arith in
    last-split (b ∷ bs) (length bs) first refl (ap (λ (k : ℕ). slice_get (b ∷ bs) k) (sym n) ∙ sym g)

pub last-alone : (z : Zipper) (before slice : List Zipper) (first : Zipper) → before ≡ earlier z → slice ≡ before
    → Some first ≡ slice_get slice (length slice - 1) → earlier first ≡ []
last-alone z before slice first e f g = let split = split_last slice first g in
    last-first_of_row z before split.0 first e (sym f ∙ split.1)

pub last-faces : (z : Zipper) (before slice : List Zipper) (first : Zipper) → slice ≡ before
    → Some first ≡ slice_get slice (length slice - 1) → (f : Family) → Faces f first → FacesLast f before
last-faces z before slice first e g f faces = let split = split_last slice first g in
    faces-start z first before f split.0 (sym e ∙ split.1) faces

length-steps : (cs : List CompoundForm) → length (steps_of_chain cs) ≡ length cs
length-steps [] = refl
length-steps (c ∷ cs) = ap (λ (n : ℕ). suc n) (length-steps cs)

pub around-many : (z : Zipper) (cs : List CompoundForm) (steps : List StepForm) (around : List Around) → steps ≡ steps_of_chain cs
    → around ≡ map (around_of z) (chains_in [] steps) → length around ≡ length cs
around-many z cs steps around e f =
    ap (λ (l : List Around). length l) f ∙ length-map (chains_in [] steps) (around_of z) ∙ length-chains [] steps
    ∙ ap (λ (l : List StepForm). length l) e ∙ length-steps cs
