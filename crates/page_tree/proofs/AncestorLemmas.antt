-- The ancestors of a node are what the parents, one after the other, give.
use Rattle.std.proofs.Common.{◌⊎◌, ◌≢◌, ◌≡◌, ℕ, zero, suc, ◌+◌, ◌<◌, ◌≤◌, ◌==◌, ◌||◌, Bool, true, false, cond, List, [], ◌∷◌, Option, Some}
use Rattle.std.proofs.Common.{None, is_some, option_map, unwrap_or, IsSome, refl, sym, ap, ◌∙◌, subst, inl, inr, arith}
use Rattle.std.specs.List.{list_any}
use Rattle.std.proofs.lemmas.Bool.{eq-eqb, eqb-true, ne_eqb}
use Rattle.node_tree.specs.Nodes.{Nodes, none, node, Branch, alone}
use Rattle.node_tree.specs.Keys.{first_of, tally, has, find, parent_of}
use Rattle.node_tree.proofs.KeyLemmas.{tally_cases, tally_below, other_row, has-find, has-absent, has-there, find-absent}
use Rattle.page_tree.specs.Pages.{PageRow, PageValue, row_serial, find_in, node_at, parent_at, IsValid}
use Rattle.page_tree.specs.Ancestors.{ancestors_of, ancestors_at}

-- the nearest of them
abbrev first_or_0 : List ℕ → ℕ
first_or_0 [] = 0
first_or_0 (x ∷ xs) = x

module _ (x : ℕ) where
  ancestors_of-absent : (above : List ℕ) (n : Nodes PageRow) → tally row_serial x n ≡ 0 → ancestors_of x above n ≡ None
  ancestors_of-absent above none h = refl
  ancestors_of-absent above (node r c t) h =
      elim (tally_cases row_serial x r c t) [
        | inl p ↦ absurd (omega arith)
        | inr p ↦ rw (
          ne_eqb r.serial x p.0,
          ancestors_of-absent (r.serial ∷ above) c (omega arith),
          ancestors_of-absent above t
              (omega arith),
        ) refl
      ]

  found_there : (above : List ℕ) (n : Nodes PageRow) (l : List ℕ) → ancestors_of x above n ≡ Some l → 0 < tally row_serial x n
  found_there above n l found =
      elim (tally row_serial x n) as (λ m. tally row_serial x n ≡ m → 0 < tally row_serial x n) [
        | zero ↦ λ e. let gone = ancestors_of-absent above n e in absurd (cc)
        | suc m ↦ λ e. omega arith
      ] refl

  some_either : (b : Bool) (a : List ℕ) (f g : Option (List ℕ)) → (b || is_some f || is_some g) ≡ is_some (cond b (Some a) (first_of f g))
  some_either true a f g = refl
  some_either false a (Some l) g = refl
  some_either false a None g = refl

  -- the nodes that are there have them
  has-ancestors_of : (above : List ℕ) (n : Nodes PageRow) → has row_serial x n ≡ is_some (ancestors_of x above n)
  has-ancestors_of above none = refl
  has-ancestors_of above (node r c t) =
      rw (has-ancestors_of (r.serial ∷ above) c, has-ancestors_of above t)
      (some_either (r.serial == x) above (ancestors_of x (r.serial ∷ above) c) (ancestors_of x above t))

  nearest_either : (b : Bool) (a : List ℕ) (f g : Option (List ℕ))
      → cond b (Some (first_or_0 a)) (first_of (option_map first_or_0 f) (option_map first_or_0 g))
      ≡ option_map first_or_0 (cond b (Some a) (first_of f g))
  nearest_either true a f g = refl
  nearest_either false a (Some l) g = refl
  nearest_either false a None g = refl

  -- the first of them is the parent
  parent_of-ancestors_of : (above : List ℕ) (n : Nodes PageRow)
      → parent_of row_serial x (first_or_0 above) n ≡ option_map first_or_0 (ancestors_of x above n)
  parent_of-ancestors_of above none = refl
  parent_of-ancestors_of above (node r c t) =
      rw (parent_of-ancestors_of (r.serial ∷ above) c, parent_of-ancestors_of above t)
      (nearest_either (r.serial == x) above (ancestors_of x (r.serial ∷ above) c) (ancestors_of x above t))

-- the others are those of the first
record Chain (above : List ℕ) (n : Nodes PageRow) (l : List ℕ) : Type 0 where
  first : ℕ
  rest : List ℕ
  is : l ≡ first ∷ rest
  up : ancestors_of first above n ≡ Some rest

below_once : (r : PageRow) (c t : Nodes PageRow) → ((k : ℕ) → tally row_serial k (node r c t) ≤ 1)
    → ((k : ℕ) → tally row_serial k c ≤ 1) × ((k : ℕ) → tally row_serial k t ≤ 1)
below_once r c t once = (
  λ k. omega (arith, once k, tally_below row_serial k r c t),
  λ k. omega
      (arith, once k, tally_below row_serial k r c t),
)

chain_in : (r : PageRow) (c t : Nodes PageRow) (above l : List ℕ) → ((k : ℕ) → tally row_serial k (node r c t) ≤ 1)
    → (l ≡ r.serial ∷ above) ⊎ Chain (r.serial ∷ above) c l → Chain above (node r c t) l
chain_in r c t above l once (inl e) = record { first = r.serial; rest = above; is = e; up = rw (eq-eqb r.serial r.serial refl) refl }
chain_in r c t above l once (inr u) =
    let there = found_there u.first (r.serial ∷ above) c u.rest u.up in
    let other = other_row row_serial u.first r c t (omega arith) (once u.first) in
    record { first = u.first; rest = u.rest; is = u.is; up = rw (ne_eqb r.serial u.first other, u.up) refl }

chain_past : (r : PageRow) (c t : Nodes PageRow) (above l : List ℕ) → ((k : ℕ) → tally row_serial k (node r c t) ≤ 1)
    → (l ≡ above) ⊎ Chain above t l → (l ≡ above) ⊎ Chain above (node r c t) l
chain_past r c t above l once (inl e) = inl e
chain_past r c t above l once (inr u) =
    let there = found_there u.first above t u.rest u.up in
    let other = other_row row_serial u.first r c t (omega arith) (once u.first) in
    let gone : tally row_serial u.first c ≡ 0 = omega (arith, once u.first, tally_below row_serial u.first r c t) in
    inr (record {
      first = u.first;
      rest = u.rest;
      is = u.is;
      up = rw (ne_eqb r.serial u.first other, ancestors_of-absent u.first (r.serial ∷ above) c gone, u.up) refl;
    })

chain_step : (b : Bool) (above l : List ℕ) (f g : Option (List ℕ)) (P : Type 0) → cond b (Some above) (first_of f g) ≡ Some l
    → (l ≡ above → P) → (f ≡ Some l → P) → (g ≡ Some l → P) → P
chain_step true above l f g P e here below past = here (cc)
chain_step false above l (Some o) g P e here below past = below e
chain_step false above l None g P e here below past = past e

chain : (x : ℕ) (above : List ℕ) (n : Nodes PageRow) (l : List ℕ) → ((k : ℕ) → tally row_serial k n ≤ 1) → ancestors_of x above n ≡ Some l
    → (l ≡ above) ⊎ Chain above n l
chain x above none l once found = absurd (cc)
chain x above (node r c t) l once found =
    chain_step (r.serial == x) above l (ancestors_of x (r.serial ∷ above) c) (ancestors_of x above t) _ found
    (λ e. inl e)
    (λ e. inr (chain_in r c t above l once (chain x (r.serial ∷ above) c l (below_once r c t once).0 e)))
    (λ e. chain_past r c t above l once (chain x above t l (below_once r c t once).1 e))

-- What a step up from a node comes to: the document has no ancestors; those of another node are its parent and the parent's.
pub record StepUp (serial : ℕ) (tree : Branch PageRow) : Type 0 where
  pub top : parent_at serial tree ≡ 0 → ancestors_at serial tree ≡ []
  pub next : parent_at serial tree ≢ 0 → ancestors_at serial tree ≡ parent_at serial tree ∷ ancestors_at (parent_at serial tree) tree
  pub live : parent_at serial tree ≢ 0 → IsSome (find_in (parent_at serial tree) tree)

module _ (page : PageValue) (valid : IsValid page) where
  once : (k : ℕ) → tally row_serial k (alone page.tree) ≤ 1
  once k = omega (arith, valid.distinct k)

  step_from : (serial : ℕ) (l : List ℕ) → ancestors_of serial [] (alone page.tree) ≡ Some l → (l ≡ []) ⊎ Chain [] (alone page.tree) l
      → StepUp serial page.tree
  step_from serial l found (inl e) =
      let parent : parent_at serial page.tree
      ≡ 0 = ap (λ o. unwrap_or o 0) (parent_of-ancestors_of serial [] (alone page.tree) ∙ ap
      (option_map first_or_0) found) ∙ ap first_or_0 e in
      record { top = λ _. ap (λ o. unwrap_or o []) found ∙ e; next = λ other. absurd (other parent); live = λ other. absurd (other parent) }
  step_from serial l found (inr u) =
      let parent : parent_at serial page.tree
      ≡ u.first = ap (λ o. unwrap_or o 0)
      (parent_of-ancestors_of serial [] (alone page.tree) ∙ ap (option_map first_or_0) found) ∙ ap first_or_0 u.is in
      let there = found_there u.first [] (alone page.tree) u.rest u.up in
      let least : 1 ≤ u.first = valid.least u.first (omega arith) in
      let live : is_some (find_in u.first page.tree)
      ≡ true = sym (has-find row_serial u.first (alone page.tree)) ∙ has-ancestors_of u.first [] (alone page.tree) ∙ ap is_some u.up in
      record {
        top = λ none. absurd (omega arith);
        next = λ _. ap (λ o. unwrap_or o []) found ∙ u.is ∙ ap (λ l. u.first ∷ l) (sym (ap (λ o. unwrap_or o []) u.up)) ∙ ap
            (λ k. k ∷ ancestors_at k page.tree) (sym parent);
        live = λ _. ap (λ k. is_some (find_in k page.tree)) parent ∙ live;
      }

  pub step_up : (serial : ℕ) → IsSome (find_in serial page.tree) → StepUp serial page.tree
  step_up serial live =
      let there : is_some (ancestors_of serial [] (alone page.tree))
      ≡ true = sym (has-ancestors_of serial [] (alone page.tree)) ∙ has-find row_serial serial (alone page.tree) ∙ live in
      elim (ancestors_of serial [] (alone page.tree)) as (λ o. ancestors_of serial [] (alone page.tree) ≡ o → StepUp serial page.tree) [
        | None ↦ λ e. absurd (cc)
        | Some l ↦ λ e. step_from serial l e (chain serial [] (alone page.tree) l once e)
      ] refl

-- ---- the nodes at and below a node are those that have it on their way up

positive : (m : ℕ) → (m ≡ 0 → ⊥) → 0 < m
positive zero h = absurd (h refl)
positive (suc m) h = omega arith

or-true : (a : Bool) → (a || true) ≡ true
or-true true = refl
or-true false = refl

find_step : (b : Bool) (x : Branch PageRow) (f g : Option (Branch PageRow)) (y : Branch PageRow) (P : Type 0)
    → cond b (Some x) (first_of f g) ≡ Some y → (b ≡ true → x ≡ y → P) → (b ≡ false → f ≡ Some y → P)
    → (b ≡ false → f ≡ None → g ≡ Some y → P) → P
find_step true x f g y P e here below past = here refl (cc)
find_step false x (Some z) g y P e here below past = below refl e
find_step false x None g y P e here below past = past refl refl e

line_step : (b : Bool) (above l : List ℕ) (f g : Option (List ℕ)) (P : Type 0) → cond b (Some above) (first_of f g) ≡ Some l
    → (b ≡ true → l ≡ above → P) → (b ≡ false → f ≡ Some l → P) → (b ≡ false → f ≡ None → g ≡ Some l → P) → P
line_step true above l f g P e here below past = here refl (cc)
line_step false above l (Some z) g P e here below past = below refl e
line_step false above l None g P e here below past = past refl refl e

found_at : (o : Option (Branch PageRow)) (d : Branch PageRow) → is_some o ≡ true → o ≡ Some (unwrap_or o d)
found_at (Some b) d h = refl
found_at None d h = absurd (cc)

some_at : (o : Option (List ℕ)) → is_some o ≡ true → o ≡ Some (unwrap_or o [])
some_at (Some l) h = refl
some_at None h = absurd (cc)

-- what is not found stands nowhere
pub tally_absent : (x : ℕ) (n : Nodes PageRow) → is_some (find row_serial x n) ≡ false → tally row_serial x n ≡ 0
tally_absent x n gone =
    elim (tally row_serial x n) as (λ m. tally row_serial x n ≡ m → tally row_serial x n ≡ 0) [
      | zero ↦ λ e. e
      | suc m ↦ λ e. let there : has row_serial x n
          ≡ true = has-there row_serial x n (omega arith) in let found = has-find row_serial x n in absurd (cc)
    ] refl

beside_once : (r : PageRow) (c t : Nodes PageRow) → ((k : ℕ) → tally row_serial k (node r c t) ≤ 1) → (k : ℕ)
    → tally row_serial k c + tally row_serial k t ≤ 1
beside_once r c t once k = omega (arith, once k, tally_below row_serial k r c t)

module _ (s : ℕ) where
  find_there : (n : Nodes PageRow) (b : Branch PageRow) → find row_serial s n ≡ Some b → 0 < tally row_serial s n
  find_there n b found = positive (tally row_serial s n) (λ e. let gone = find-absent row_serial s n e in absurd (cc))

  -- what is below a found node is there
  tally_found : (w : ℕ) (n : Nodes PageRow) (b : Branch PageRow) → find row_serial s n ≡ Some b
      → tally row_serial w (alone b) ≤ tally row_serial w n
  tally_found w none b found = absurd (cc)
  tally_found w (node r c t) b found =
      find_step (r.serial == s) (record { row = r; children = c }) (find row_serial s c) (find row_serial s t) b _ found
      (λ is same. subst (λ (o : Branch PageRow). tally row_serial w (alone o) ≤ tally row_serial w (node r c t)) same (omega arith))
      (λ is e. omega (arith, tally_found w c b e, tally_below row_serial w r c t))
      (λ is gone e. omega (arith, tally_found w t b e, tally_below row_serial w r c t))

  -- nodes that are not there are on no way up but above
  line_without : (w : ℕ) (above : List ℕ) (n : Nodes PageRow) (l : List ℕ) → ancestors_of w above n ≡ Some l
      → list_any (λ k. k == s) above ≡ false → tally row_serial s n ≡ 0 → list_any (λ k. k == s) l ≡ false
  line_without w above none l found out gone = absurd (cc)
  line_without w above (node r c t) l found out gone =
      elim (tally_cases row_serial s r c t) [
        | inl p ↦ absurd (omega arith)
        | inr p ↦ line_step (r.serial == w) above l (ancestors_of w (r.serial ∷ above) c) (ancestors_of w above t) _ found
            (λ is same. ap (list_any (λ k. k == s)) same ∙ out)
            (λ is e. line_without w (r.serial ∷ above) c l e (ap (λ b. b || list_any (λ k. k == s) above) (ne_eqb r.serial s p.0) ∙ out)
            (omega arith))
            (λ is none_below e. line_without w above t l e out (omega arith))
      ]

  -- what stands above is on each way up
  line_keeps : (w : ℕ) (above : List ℕ) (n : Nodes PageRow) (l : List ℕ) → ancestors_of w above n ≡ Some l
      → list_any (λ k. k == s) above ≡ true → list_any (λ k. k == s) l ≡ true
  line_keeps w above none l found there = absurd (cc)
  line_keeps w above (node r c t) l found there =
      line_step (r.serial == w) above l (ancestors_of w (r.serial ∷ above) c) (ancestors_of w above t) _ found
      (λ is same. ap (list_any (λ k. k == s)) same ∙ there)
      (λ is e. line_keeps w (r.serial ∷ above) c l e (ap (λ b. (r.serial == s) || b) there ∙ or-true (r.serial == s)))
      (λ is none_below e. line_keeps w above t l e there)

  -- a node apart from the root's
  line_apart : (w : ℕ) (l : List ℕ) (b : Branch PageRow) → w ≢ s → list_any (λ k. k == s) l ≡ false → tally row_serial w (alone b) ≡ 0
      → list_any (λ k. k == s) (w ∷ l) ≡ has row_serial w (alone b)
  line_apart w l b other out gone = ap (λ x. x || list_any (λ k. k == s) l) (ne_eqb w s other) ∙ out ∙ sym
      (has-absent row_serial w (alone b) gone)

  abbrev IsLine : ℕ → List ℕ → Branch PageRow → Type 0
  IsLine w l b = list_any (λ k. k == s) (w ∷ l) ≡ has row_serial w (alone b)

  -- the root is first
  line_root : (w : ℕ) (r : PageRow) (c t : Nodes PageRow) (above l : List ℕ) → r.serial ≡ s
      → tally row_serial s c + tally row_serial s t ≡ 0 → list_any (λ k. k == s) above ≡ false → ancestors_of w above (node r c t) ≡ Some l
      → IsLine w l (record { row = r; children = c })
  line_root w r c t above l same gone out found =
      line_step (r.serial == w) above l (ancestors_of w (r.serial ∷ above) c) (ancestors_of w above t) _ found
      (λ is up. ap (λ x. x || list_any (λ k. k == s) l) (eq-eqb w s (sym (eqb-true r.serial w is) ∙ same)) ∙ sym
      (ap (λ x. (x || has row_serial w c) || false) is))
      (λ is e.
      ap (λ x. (w == s) || x) (line_keeps w (r.serial ∷ above) c l e (ap (λ x. x || list_any (λ k. k == s) above) (eq-eqb r.serial s same)))
      ∙ or-true (w == s)
      ∙ sym (λ i. (is i || (has-ancestors_of w (r.serial ∷ above) c ∙ ap is_some e) i) || false))
      (λ is none_below e.
      let there = found_there w above t l e in
      let other : w ≢ s = λ same_key. let here : 0 < tally row_serial s t = subst
      (λ k. 0 < tally row_serial k t) same_key there in omega arith in
      ap (λ x. x || list_any (λ k. k == s) l) (ne_eqb w s other)
      ∙ line_without w above t l e out (omega arith)
      ∙ sym (λ i. (is i || (has-ancestors_of w (r.serial ∷ above) c ∙ ap is_some none_below) i) || false))

  -- the node is first, and the root is another
  line_here : (w : ℕ) (r : PageRow) (c t : Nodes PageRow) (above l : List ℕ) (b : Branch PageRow) → r.serial ≡ w → r.serial ≢ s → l ≡ above
      → list_any (λ k. k == s) above ≡ false
      → tally row_serial w (node r c t) ≤ 1 → tally row_serial w (alone b) ≤ tally row_serial w c + tally row_serial w t → IsLine w l b
  line_here w r c t above l b here other same out once few =
      elim (tally_cases row_serial w r c t) [
        | inl q ↦ line_apart w l b (λ e. other (here ∙ e)) (ap (list_any (λ k. k == s)) same ∙ out) (omega arith)
        | inr q ↦ absurd (q.0 here)
      ]

  -- they are among different trees
  line_beside : (w : ℕ) (m n : Nodes PageRow) (above l : List ℕ) (b : Branch PageRow) → find row_serial s m ≡ Some b
      → ancestors_of w above n ≡ Some l → list_any (λ k. k == s) above ≡ false
      → ((k : ℕ) → tally row_serial k m + tally row_serial k n ≤ 1) → IsLine w l b
  line_beside w m n above l b found up out once =
      let there = find_there m b found in
      let here = found_there w above n l up in
      let few = tally_found w m b found in
      let at_s = once s in
      let at_w = once w in
      line_apart w l b
      (λ same. let again : 0 < tally row_serial s n = subst (λ k. 0 < tally row_serial k n) same here in omega arith)
      (line_without w above n l up out (omega arith))
      (omega arith)

  line_of : (w : ℕ) (above : List ℕ) (n : Nodes PageRow) (b : Branch PageRow) (l : List ℕ) → ((k : ℕ) → tally row_serial k n ≤ 1)
      → list_any (λ k. k == s) above ≡ false → find row_serial s n ≡ Some b → ancestors_of w above n ≡ Some l → IsLine w l b
  line_of w above none b l once out found up = absurd (cc)
  line_of w above (node r c t) b l once out found up =
      elim (tally_cases row_serial s r c t) [
        | inl p ↦ (let at_s = once s in
            let first = eq-eqb r.serial s p.0 in
            find_step (r.serial == s) (record { row = r; children = c }) (find row_serial s c) (find row_serial s t) b (IsLine w l b) found
            (λ is same. subst (λ (o : Branch PageRow). IsLine w l o) same (line_root w r c t above l p.0 (omega arith) out up))
            (λ is e. absurd (cc))
            (λ is gone e. absurd (cc)))
        | inr p ↦ (let split = below_once r c t once in
            let both = λ (k : ℕ). beside_once r c t once k in
            find_step (r.serial == s) (record { row = r; children = c }) (find row_serial s c) (find row_serial s t) b (IsLine w l b) found
            (λ is same. absurd (p.0 (eqb-true r.serial s is)))
            (λ is e. line_step (r.serial == w) above l (ancestors_of w (r.serial ∷ above) c) (ancestors_of w above t) (IsLine w l b) up
            (λ here same. let few = tally_found w c b e in line_here w r c t above l b (eqb-true r.serial w here) p.0 same out (once w)
            (omega arith))
            (λ here f. line_of w (r.serial ∷ above) c b l split.0
            (ap (λ x. x || list_any (λ k. k == s) above) (ne_eqb r.serial s p.0) ∙ out) e f)
            (λ here gone g. line_beside w c t above l b e g out both))
            (λ is gone e. line_step (r.serial == w) above l (ancestors_of w (r.serial ∷ above) c) (ancestors_of w above t) (IsLine w l b) up
            (λ here same. let few = tally_found w t b e in line_here w r c t above l b (eqb-true r.serial w here) p.0 same out (once w)
            (omega arith))
            (λ here f. line_beside w t c (r.serial ∷ above) l b e f
            (ap (λ x. x || list_any (λ k. k == s) above) (ne_eqb r.serial s p.0) ∙ out) (λ k. omega (arith, both k)))
            (λ here none_below g. line_of w above t b l split.1 out e g)))
      ]

module _ (page : PageValue) (valid : IsValid page) (root : ℕ) (root_live : IsSome (find_in root page.tree)) where
  root_found : find row_serial root (alone page.tree) ≡ Some (node_at root page.tree)
  root_found = found_at (find_in root page.tree) page.tree root_live

  -- The nodes at and below a node are those that have it on their way up.
  pub within_line : (serial : ℕ) → IsSome (find_in serial page.tree)
      → list_any (λ k. k == root) (serial ∷ ancestors_at serial page.tree) ≡ has row_serial serial (alone (node_at root page.tree))
  within_line serial live =
      let there : is_some (ancestors_of serial [] (alone page.tree))
      ≡ true = sym (has-ancestors_of serial [] (alone page.tree)) ∙ has-find row_serial serial (alone page.tree) ∙ live in
      line_of root serial [] (alone page.tree) (node_at root page.tree) (ancestors_at serial page.tree) (once page valid) refl root_found
      (some_at (ancestors_of serial [] (alone page.tree)) there)

  -- a node that is not live is none of them
  pub within_absent : (serial : ℕ) → is_some (find_in serial page.tree) ≡ false
      → has row_serial serial (alone (node_at root page.tree)) ≡ false
  within_absent serial gone =
      has-absent row_serial serial (alone (node_at root page.tree))
      (let few = tally_found root serial (alone page.tree) (node_at root page.tree) root_found in
      let outside = tally_absent serial (alone page.tree) gone in
      omega arith)
