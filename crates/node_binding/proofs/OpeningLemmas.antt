-- What is opened and known where the containers of a level below d are opened.
use Rattle.std.proofs.Common.{◌≡◌, ℕ, ◌+◌, ◌<◌, ◌≤◌, ◌==◌, Bool, true, false, cond, not, ◌&&◌, List, [], ◌∷◌, ◌++◌, Option, None, refl, ap}
use Rattle.std.proofs.Common.{◌∙◌, arith}
use Rattle.std.proofs.lemmas.Bool.Decides.{nat_tests}
use Rattle.node_tree.specs.Nodes.{Nodes, none, node}
use Rattle.node_tree.specs.Keys.{tally}
use Rattle.node_tree.specs.Labels.{holds}
use Rattle.page_tree.specs.Pages.{PageRow, row_serial}
use Rattle.node_binding.specs.Counts.{times, stands_in}
use Rattle.node_binding.specs.Cuts.{opens, known}
use Rattle.node_binding.specs.Openings.{less, is_spent, containers_within, levelled, above, is_unopened, is_closed, IsOpenedSet}
use Rattle.node_binding.proofs.Places.{times-append, is_in-times, times-is_in}

times-shown : (b : Bool) (s x : ℕ) (xs : List ℕ) → times s (cond b (x ∷ xs) []) ≡ cond {A = ℕ} b (cond {A = ℕ} (x == s) 1 0 + times s xs) 0
times-shown true s x xs = refl
times-shown false s x xs = refl

-- whether the node's children are known
abbrev pub goes_on : Option ℕ → PageRow → Bool
goes_on d r = holds r.label.kind && not (is_spent d)

pub times-reached : (d : Option ℕ) (s : ℕ) (r : PageRow) (c t : Nodes PageRow)
    → times s (containers_within d (node r c t))
    ≡ cond {A = ℕ} (goes_on d r) (cond {A = ℕ} (r.serial == s) 1 0 + times s (containers_within (less d) c)) 0
    + times s (containers_within d t)
times-reached d s r c t =
    times-append s (cond (goes_on d r) (r.serial ∷ containers_within (less d) c) []) (containers_within d t) ∙ ap
    (λ n. n + times s (containers_within d t)) (times-shown (goes_on d r) s r.serial (containers_within (less d) c))

at_most : (b : Bool) (m n k x y : ℕ) → m ≤ x → n ≤ y → cond {A = ℕ} b (k + m) 0 + n ≤ k + x + y
at_most true m n k x y h g = omega arith
at_most false m n k x y h g = omega arith

pub reached-tally : (d : Option ℕ) (s : ℕ) (n : Nodes PageRow) → times s (containers_within d n) ≤ tally row_serial s n
reached-tally d s none = omega arith
reached-tally d s (node r c t) =
    rw (times-reached d s r c t) (at_most (goes_on d r) _ _ (cond {A = ℕ} (r.serial == s) 1 0) _ _ (reached-tally (less d) s c)
    (reached-tally d s t))

-- ---- a test that is `above` at each node of some trees

-- o has, of the nodes of n, those that stand above d
abbrev pub Agrees : (ℕ → Bool) → Option ℕ → Nodes PageRow → Type 0
Agrees o d n = (s : ℕ) → 0 < tally row_serial s n → o s ≡ stands_in s (containers_within d n)

abbrev pub AreDistinct : Nodes PageRow → Type 0
AreDistinct n = (s : ℕ) → tally row_serial s n ≤ 1

absent : (n : ℕ) → n ≡ 0 → not (n == 0) ≡ false
absent n e = ap (λ n. not (n == 0)) e

pub self_times : (s : ℕ) → cond {A = ℕ} (s == s) 1 0 ≡ 1
self_times s = grind (arith, nat_tests)

module _ (d : Option ℕ) (r : PageRow) (c t : Nodes PageRow) (distinct : AreDistinct (node r c t)) where
  -- what the three parts of the page have of one serial
  pub in_rest : (s : ℕ) → 0 < tally row_serial s t → times s (containers_within d (node r c t)) ≡ times s (containers_within d t)
  in_rest s h =
      times-reached d s r c t ∙ none (goes_on d r) (omega (arith, reached-tally (less d) s c, distinct s))
    where
      none : (b : Bool) → cond {A = ℕ} (r.serial == s) 1 0 + times s (containers_within (less d) c) ≡ 0
          → cond {A = ℕ} b (cond {A = ℕ} (r.serial == s) 1 0 + times s (containers_within (less d) c)) 0 + times s (containers_within d t)
          ≡ times s (containers_within d t)
      none true e = omega arith
      none false e = omega arith

  pub in_children : (s : ℕ) → 0 < tally row_serial s c
      → times s (containers_within d (node r c t)) ≡ cond {A = ℕ} (goes_on d r) (times s (containers_within (less d) c)) 0
  in_children s h =
      times-reached d s r c t ∙ only (goes_on d r) (omega (arith, distinct s)) (omega (arith, reached-tally d s t, distinct s))
    where
      only : (b : Bool) → cond {A = ℕ} (r.serial == s) 1 0 ≡ 0 → times s (containers_within d t) ≡ 0
          → cond {A = ℕ} b (cond {A = ℕ} (r.serial == s) 1 0 + times s (containers_within (less d) c)) 0 + times s (containers_within d t)
          ≡ cond {A = ℕ} b (times s (containers_within (less d) c)) 0
      only true e f = omega arith
      only false e f = omega arith

  pub at_root : times r.serial (containers_within d (node r c t)) ≡ cond {A = ℕ} (goes_on d r) 1 0
  at_root =
      times-reached d r.serial r c t
      ∙ only (goes_on d r) (self_times r.serial) (omega (arith, self_times r.serial, reached-tally (less d) r.serial c, distinct r.serial))
      (omega (arith, self_times r.serial, reached-tally d r.serial t, distinct r.serial))
    where
      only : (b : Bool) → cond {A = ℕ} (r.serial == r.serial) 1 0 ≡ 1 → times r.serial (containers_within (less d) c) ≡ 0
          → times r.serial (containers_within d t) ≡ 0
          → cond {A = ℕ} b (cond {A = ℕ} (r.serial == r.serial) 1 0 + times r.serial (containers_within (less d) c)) 0
          + times r.serial (containers_within d t) ≡ cond {A = ℕ} b 1 0
      only true k e f = omega arith
      only false k e f = omega arith

test_of_count : (b : Bool) → not (cond {A = ℕ} b 1 0 == 0) ≡ b
test_of_count true = refl
test_of_count false = refl

held : (h x : Bool) → cond h (h && x) false ≡ (h && x)
held true x = refl
held false x = refl

module _ (o : ℕ → Bool) (d : Option ℕ) (r : PageRow) (c t : Nodes PageRow) (distinct : AreDistinct (node r c t))
    (agrees : Agrees o d (node r c t)) where
  pub root_is : o r.serial ≡ goes_on d r
  root_is =
      agrees r.serial (omega (arith, self_times r.serial)) ∙ ap (λ n. not (n == 0)) (at_root d r c t distinct) ∙ test_of_count (goes_on d r)

  pub opens_is : opens o r ≡ goes_on d r
  opens_is = ap (λ b. cond (holds r.label.kind) b false) root_is ∙ held (holds r.label.kind) (not (is_spent d))

  pub agrees_rest : Agrees o d t
  agrees_rest s h = agrees s (omega arith) ∙ ap (λ n. not (n == 0)) (in_rest d r c t distinct s h)

  pub agrees_children : goes_on d r ≡ true → Agrees o (less d) c
  agrees_children e s h =
      agrees s (omega arith) ∙ ap (λ n. not (n == 0))
      (in_children d r c t distinct s h ∙ ap (λ b. cond {A = ℕ} b (times s (containers_within (less d) c)) 0) e)

  unopened_children : goes_on d r ≡ false → (s : ℕ) → 0 < tally row_serial s c → o s ≡ false
  unopened_children e s h =
      agrees s (omega arith) ∙ ap (λ n. not (n == 0))
      (in_children d r c t distinct s h ∙ ap (λ b. cond {A = ℕ} b (times s (containers_within (less d) c)) 0) e)

  distinct_rest : AreDistinct t
  distinct_rest s = omega (arith, distinct s)

  distinct_children : AreDistinct c
  distinct_children s = omega (arith, distinct s)

-- the known nodes are those of the levels shown
pub known-levelled : (o : ℕ → Bool) (d : Option ℕ) (n : Nodes PageRow) → AreDistinct n → Agrees o d n → known o n ≡ levelled d n
known-levelled o d none distinct agrees = refl
known-levelled o d (node r c t) distinct agrees =
    let rest : known o t ≡ levelled d t = known-levelled o d t (distinct_rest o d r c t distinct agrees)
    (agrees_rest o d r c t distinct agrees) in
    let below : goes_on d r ≡ true → known o c ≡ levelled (less d) c =
    λ e. known-levelled o (less d) c (distinct_children o d r c t distinct agrees) (agrees_children o d r c t distinct agrees e) in
    let part : (b : Bool) → (b ≡ true → known o c ≡ levelled (less d) c)
    → cond b (known o c) [] ≡ cond b (levelled (less d) c) [] = λ b. elim b as
    (λ b. (b ≡ true → known o c ≡ levelled (less d) c)
    → cond b (known o c) [] ≡ cond b (levelled (less d) c) []) [ true ↦ λ h. h refl | false ↦ λ _. refl ] in
    ap (λ xs. r.serial ∷ (cond (opens o r) (known o c) [] ++ xs)) rest
    ∙ ap (λ b. r.serial ∷ (cond b (known o c) [] ++ levelled d t)) (opens_is o d r c t distinct agrees)
    ∙ ap (λ xs. r.serial ∷ (xs ++ levelled d t)) (part (goes_on d r) below)

pub known-above : (d : Option ℕ) (n : Nodes PageRow) → AreDistinct n → known (above d n) n ≡ levelled d n
known-above d n distinct = known-levelled (above d n) d n distinct (λ s _. refl)

-- ---- the containers above d are an opened set

pub all_unopened : (o : ℕ → Bool) (n : Nodes PageRow) → ((s : ℕ) → 0 < tally row_serial s n → o s ≡ false) → is_unopened o n ≡ true
all_unopened o none h = refl
all_unopened o (node r c t) h =
    rw (
      h r.serial (omega (arith, self_times r.serial)),
      all_unopened o c (λ s k. h s (omega arith)),
      all_unopened o t
          (λ s k. h s (omega arith)),
    ) refl

pub closed-above : (o : ℕ → Bool) (d : Option ℕ) (n : Nodes PageRow) → AreDistinct n → Agrees o d n → is_closed o n ≡ true
closed-above o d none distinct agrees = refl
closed-above o d (node r c t) distinct agrees =
    let rest : is_closed o t ≡ true = closed-above o d t (distinct_rest o d r c t distinct agrees)
    (agrees_rest o d r c t distinct agrees) in
    let part : (b : Bool) → (b ≡ true → is_closed o c ≡ true) → (b ≡ false → is_unopened o c ≡ true)
    → cond b (is_closed o c) (is_unopened o c)
    ≡ true = λ b. elim b as (λ b. (b ≡ true → is_closed o c ≡ true) → (b ≡ false → is_unopened o c ≡ true)
    → cond b (is_closed o c) (is_unopened o c) ≡ true) [ true ↦ λ h _. h refl | false ↦ λ _ h. h refl ] in
    ap (λ b. cond b (is_closed o c) (is_unopened o c) && is_closed o t) (root_is o d r c t distinct agrees)
    ∙ ap (λ b. b && is_closed o t) (part (goes_on d r)
    (λ e. closed-above o (less d) c (distinct_children o d r c t distinct agrees) (agrees_children o d r c t distinct agrees e))
    (λ e. all_unopened o c (unopened_children o d r c t distinct agrees e)))
    ∙ rest

if_also : (b1 b2 : Bool) (k m n x y : ℕ) → (b1 ≡ true → b2 ≡ true) → m ≤ n → x ≤ y
    → cond {A = ℕ} b1 (k + m) 0 + x ≤ cond {A = ℕ} b2 (k + n) 0 + y
if_also true true k m n x y i h g = omega arith
if_also true false k m n x y i h g = cc (i refl)
if_also false true k m n x y i h g = omega arith
if_also false false k m n x y i h g = omega arith

holds_of_goes_on : (h s : Bool) → (h && s) ≡ true → (h && true) ≡ true
holds_of_goes_on true s e = refl
holds_of_goes_on false s e = e

pub reached-le-all : (d : Option ℕ) (s : ℕ) (n : Nodes PageRow) → times s (containers_within d n) ≤ times s (containers_within None n)
reached-le-all d s none = omega arith
reached-le-all d s (node r c t) =
    rw (times-reached d s r c t, times-reached None s r c t)
    (if_also (goes_on d r) (goes_on None r) (cond {A = ℕ} (r.serial == s) 1 0) _ _ _ _
    (holds_of_goes_on (holds r.label.kind) (not (is_spent d))) (reached-le-all (less d) s c) (reached-le-all d s t))

pub IsOpenedSet-above : (d : Option ℕ) (r : PageRow) (c : Nodes PageRow) → AreDistinct (node r c none) → holds r.label.kind ≡ true
    → is_spent d ≡ false → IsOpenedSet (above d (node r c none)) (node r c none)
IsOpenedSet-above d r c distinct holds_it left =
    let n : Nodes PageRow = node r c none in
    let goes : goes_on d r ≡ true = rw (holds_it, left) refl in
    record {
      live = λ s h. times-is_in (containers_within None n) s (omega (arith, is_in-times (containers_within d n) s h, reached-le-all d s n));
      rooted = ap (λ b. b && true) (root_is (above d n) d r c none distinct (λ s _. refl) ∙ goes);
      closed = closed-above (above d n) d n distinct (λ s _. refl);
    }
