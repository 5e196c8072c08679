-- What becomes known as one known node is opened.
use Rattle.std.proofs.Common.{◌≡◌, ℕ, zero, suc, ◌+◌, ◌<◌, ◌≤◌, ◌==◌, Bool, true, false, cond, not, ◌&&◌, ◌||◌, List, [], ◌++◌, append-nil}
use Rattle.std.proofs.Common.{Option, Some, None, unwrap_or, ◌⊎◌, inl, inr, refl, sym, ap, subst, ◌∙◌, arith}
use Rattle.std.proofs.Math.Logic.{⊎_elim}
use Rattle.std.proofs.lemmas.Bool.Decides.{nat_tests}
use Rattle.node_tree.specs.Nodes.{Nodes, none, node, Branch, alone}
use Rattle.node_tree.specs.Keys.{tally, find, first_of}
use Rattle.node_tree.specs.Labels.{holds}
use Rattle.page_tree.specs.Pages.{PageRow, row_serial}
use Rattle.node_binding.specs.Counts.{times, stands_in}
use Rattle.node_binding.specs.Cuts.{opens, known, shown_anew}
use Rattle.node_binding.specs.Openings.{less, is_spent, containers_within, levelled, opened_also, is_unopened, is_closed}
use Rattle.node_binding.proofs.Known.{known-tally}
use Rattle.node_binding.proofs.SessionLemmas.{times-known}
use Rattle.node_binding.proofs.OpeningLemmas.{goes_on, AreDistinct, Agrees, self_times, in_children, at_root, reached-tally, known-levelled}

-- ---- where nothing changes

pub same_part : (a b : Bool) (xs ys : List ℕ) → a ≡ b → xs ≡ [] → cond a xs (cond b ys []) ≡ []
same_part true b xs ys e h = h
same_part false true xs ys e h = cc
same_part false false xs ys e h = refl

pub anew-same : (o p : ℕ → Bool) (n : Nodes PageRow) → ((s : ℕ) → 0 < tally row_serial s n → o s ≡ p s) → shown_anew o p n ≡ []
anew-same o p none same = refl
anew-same o p (node r c t) same =
    ap (λ xs. xs ++ shown_anew o p t)
    (same_part (opens o r) (opens p r) _ (known p c)
    (ap (λ b. cond (holds r.label.kind) b false) (same r.serial (omega (arith, self_times r.serial))))
    (anew-same o p c (λ s h. same s (omega arith))))
    ∙ anew-same o p t (λ s h. same s (omega arith))

or-false : (b : Bool) → b ≡ (b || false)
or-false true = refl
or-false false = refl

-- a node outside x is opened as before
pub outside : (d : Option ℕ) (x : Branch PageRow) (o : ℕ → Bool) (s : ℕ) → tally row_serial s (alone x) ≡ 0 → o s ≡ opened_also d x o s
outside d x o s h = or-false (o s) ∙ ap (λ m. o s || not (m == 0))
    (let e : 0 ≡ times s (containers_within d (alone x)) = omega (arith, reached-tally d s (alone x)) in e)

-- ---- the node that is opened

pub and-first : (a b : Bool) → (a && b) ≡ true → a ≡ true
and-first true b e = refl
and-first false b e = e

pub and-second : (a b : Bool) → (a && b) ≡ true → b ≡ true
and-second true b e = e
and-second false b e = cc

pub unopened-at : (o : ℕ → Bool) (n : Nodes PageRow) → is_unopened o n ≡ true → (s : ℕ) → 0 < tally row_serial s n → o s ≡ false
unopened-at o none e s h = absurd (omega arith)
unopened-at o (node r c t) e s h =
    let here = and-first (not (o r.serial) && is_unopened o c) (is_unopened o t) e in
    let at : (b : Bool) → (r.serial == s) ≡ b → o s ≡ false = λ b. elim b as (λ b. (r.serial == s) ≡ b → o s ≡ false) [
      | true ↦ λ same. (let is : r.serial
          ≡ s = grind (arith, nat_tests) in ap o (sym is) ∙ shut (o r.serial) (and-first _ (is_unopened o c) here))
      | false ↦ λ other. (let zero_here : cond {A = ℕ} (r.serial == s) 1 0 ≡ 0 = ap (λ b. cond {A = ℕ} b 1 0) other in
          either (tally row_serial s c) (unopened-at o c (and-second (not (o r.serial)) _ here) s)
          (λ none_below. unopened-at o t (and-second _ (is_unopened o t) e) s (omega arith)))
    ] in
    at (r.serial == s) refl
  where
    shut : (b : Bool) → not b ≡ true → b ≡ false
    shut true e = cc
    shut false e = refl

    either : {P : Type 0} (m : ℕ) → (0 < m → P) → (m ≡ 0 → P) → P
    either {P} m some nothing = elim m as
        (λ m. (0 < m → P) → (m ≡ 0 → P)
        → P) [ zero ↦ λ some nothing. nothing refl | suc k ↦ λ some nothing. some (omega arith) ] some nothing

opened_shown : (h a b : Bool) (xs ys : List ℕ) → h ≡ true → a ≡ false → b ≡ true
    → cond (cond h a false) xs (cond (cond h b false) ys []) ≡ ys
opened_shown h a b xs ys h_is a_is b_is = rw (h_is, a_is, b_is) refl

goes : (h s : Bool) → h ≡ true → s ≡ false → (h && not s) ≡ true
goes h s h_is s_is = rw (h_is, s_is) refl

module _ (o : ℕ → Bool) (d : Option ℕ) (left : is_spent d ≡ false) where
  -- at the node itself
  anew-here : (r : PageRow) (c t : Nodes PageRow) → AreDistinct (node r c t) → o r.serial ≡ false → holds r.label.kind ≡ true
      → is_closed o (node r c t) ≡ true
      → shown_anew o (opened_also d (record { row = r; children = c }) o) (node r c t) ≡ levelled (less d) c
  anew-here r c t distinct shut container closed =
      let x : Branch PageRow = record { row = r; children = c } in
      let p : ℕ → Bool = opened_also d x o in
      let alone_distinct : AreDistinct (node r c none) = λ s. omega (arith, distinct s) in
      let on : goes_on d r ≡ true = goes (holds r.label.kind) (is_spent d) container left in
      let below_shut : is_unopened o c
      ≡ true = ap (λ b. cond b (is_closed o c) (is_unopened o c)) (sym shut) ∙ and-first _ (is_closed o t) closed in
      let open_now : p r.serial ≡ true = ap (λ b. b || stands_in r.serial (containers_within d (alone x))) shut ∙ ap (λ m. not (m == 0))
      (at_root d r c none alone_distinct ∙ ap (λ b. cond {A = ℕ} b 1 0) on) in
      let agrees : Agrees p (less d) c = λ s h. ap (λ b. b || stands_in s (containers_within d (alone x))) (unopened-at o c below_shut s h)
      ∙ ap (λ m. not (m == 0)) (in_children d r c none alone_distinct s h ∙ ap
      (λ b. cond {A = ℕ} b (times s (containers_within (less d) c)) 0) on) in
      let rest : shown_anew o p t ≡ [] = anew-same o p t (λ s h. outside d x o s (omega (arith, distinct s))) in
      ap (λ xs. xs ++ shown_anew o p t)
      (opened_shown (holds r.label.kind) (o r.serial) (p r.serial) (shown_anew o p c) (known p c) container shut open_now)
      ∙ ap (λ xs. known p c ++ xs) rest
      ∙ append-nil (known p c)
      ∙ known-levelled p (less d) c (λ s. omega (arith, distinct s)) agrees

-- ---- wherever it stands

first_of-cases : {A : Type 0} (a b : Option A) (x : A) → first_of a b ≡ Some x → (a ≡ Some x) ⊎ (b ≡ Some x)
first_of-cases None b x e = inr e
first_of-cases (Some y) b x e = inl e

pub found_here : (k : ℕ) (r : PageRow) (c t : Nodes PageRow) (x : Branch PageRow) → (r.serial == k) ≡ true
    → find row_serial k (node r c t) ≡ Some x → ◌≡◌ {A = Branch PageRow} (record { row = r; children = c }) x
found_here k r c t x here e =
    ap (λ o. unwrap_or o x) (sym (ap
    (λ b. cond b (Some (record { row = r; children = c })) (first_of (find row_serial k c) (find row_serial k t))) here) ∙ e)

pub found_later : (k : ℕ) (r : PageRow) (c t : Nodes PageRow) (x : Branch PageRow) → (r.serial == k) ≡ false
    → find row_serial k (node r c t) ≡ Some x → (find row_serial k c ≡ Some x) ⊎ (find row_serial k t ≡ Some x)
found_later k r c t x other e =
    first_of-cases (find row_serial k c) (find row_serial k t) x
    (sym (ap (λ b. cond b (Some (record { row = r; children = c })) (first_of (find row_serial k c) (find row_serial k t))) other) ∙ e)

pub at_or_other : {P : Type 0} (a b : ℕ) → ((a == b) ≡ true → P) → ((a == b) ≡ false → P) → P
at_or_other {P} a b same other = elim (a == b) as (λ v. ((a == b) ≡ v) → P) [ true ↦ λ e. same e | false ↦ λ e. other e ] refl

-- what is at and below a node that is found is there
pub found-tally : (k : ℕ) (n : Nodes PageRow) (x : Branch PageRow) → find row_serial k n ≡ Some x → (s : ℕ)
    → tally row_serial s (alone x) ≤ tally row_serial s n
found-tally k none x e s = cc
found-tally k (node r c t) x e s =
    at_or_other r.serial k
    (λ here. subst (λ (y : Branch PageRow). tally row_serial s (alone y) ≤ tally row_serial s (node r c t)) (found_here k r c t x here e)
    (omega arith))
    (λ other. ⊎_elim
    (λ in_c. omega (arith, found-tally k c x in_c s))
    (λ in_t. omega (arith, found-tally k t x in_t s))
    (found_later k r c t x other e))

-- the children of an opened node are closed
pub closed_below : (a : Bool) (x y z : Bool) → a ≡ true → (cond a x y && z) ≡ true → x ≡ true
closed_below true x y z e h = and-first x z h
closed_below false x y z e h = cc

pub is_opened_row : (h a : Bool) → cond h a false ≡ true → a ≡ true
is_opened_row true a e = e
is_opened_row false a e = cc

only_shown : (a b : Bool) (xs ys zs : List ℕ) → a ≡ true → zs ≡ [] → cond a xs (cond b ys []) ++ zs ≡ xs
only_shown a b xs ys zs e h = rw (e, h) (append-nil xs)

pub known_in_children : (a : Bool) (here k m : ℕ) → here ≡ 0 → m ≡ 0 → 0 < here + (cond {A = ℕ} a k 0 + m) → (a ≡ true) × (0 < k)
known_in_children true here k m e f h = (refl, omega arith)
known_in_children false here k m e f h = absurd (omega arith)

pub known_in_rest : (a : Bool) (here k m : ℕ) → here ≡ 0 → k ≡ 0 → 0 < here + (cond {A = ℕ} a k 0 + m) → 0 < m
known_in_rest true here k m e f h = omega arith
known_in_rest false here k m e f h = omega arith

pub anew-opened : (o : ℕ → Bool) (d : Option ℕ) → is_spent d ≡ false → (x : Branch PageRow) (n : Nodes PageRow) → AreDistinct n
    → find row_serial x.row.serial n ≡ Some x → 0 < times x.row.serial (known o n) → o x.row.serial ≡ false → holds x.row.label.kind ≡ true
    → is_closed o n ≡ true → shown_anew o (opened_also d x o) n ≡ levelled (less d) x.children
anew-opened o d left x none distinct e known_x shut container closed = cc
anew-opened o d left x (node r c t) distinct e known_x shut container closed =
    let k : ℕ = x.row.serial in
    let p : ℕ → Bool = opened_also d x o in
    let self : cond {A = ℕ} (k == k) 1 0 ≡ 1 = self_times k in
    let split : 0 < cond {A = ℕ} (r.serial == k) 1 0
    + (cond {A = ℕ} (opens o r) (times k (known o c)) 0 + times k (known o t)) = rw (times-known o (λ s. s) k r c t) at known_x in
    at_or_other r.serial k
    (λ here. (let is = found_here k r c t x here e in
    subst (λ (y : Branch PageRow). shown_anew o (opened_also d y o) (node r c t) ≡ levelled (less d) y.children) is
    (anew-here o d left r c t distinct (ap (λ (y : Branch PageRow). o y.row.serial) is ∙ shut)
    (ap (λ (y : Branch PageRow). holds y.row.label.kind) is ∙ container) closed)))
    (λ other. (let row_apart : cond {A = ℕ} (r.serial == k) 1 0 ≡ 0 = ap (λ b. cond {A = ℕ} b 1 0) other in
    ⊎_elim
    (λ in_c. (let there : (s : ℕ) → tally row_serial s (alone x) ≤ tally row_serial s c = found-tally k c x in_c in
    let parts = known_in_children (opens o r) _ (times k (known o c)) (times k (known o t)) row_apart
    (omega (arith, known-tally o k t, there k, distinct k)) split in
    only_shown (opens o r) (opens p r) (shown_anew o p c) (known p c) (shown_anew o p t) parts.0
    (anew-same o p t (λ s h. outside d x o s (omega (arith, there s, distinct s))))
    ∙ anew-opened o d left x c (λ s. omega (arith, distinct s)) in_c parts.1 shut container
    (closed_below (o r.serial) (is_closed o c) (is_unopened o c) (is_closed o t)
    (is_opened_row (holds r.label.kind) (o r.serial) parts.0) closed)))
    (λ in_t. (let there : (s : ℕ) → tally row_serial s (alone x) ≤ tally row_serial s t = found-tally k t x in_t in
    let part : cond (opens o r) (shown_anew o p c) (cond (opens p r) (known p c) []) ≡ [] =
    same_part (opens o r) (opens p r) (shown_anew o p c) (known p c)
    (ap (λ b. cond (holds r.label.kind) b false)
    (outside d x o r.serial (omega (arith, there r.serial, distinct r.serial, self_times r.serial))))
    (anew-same o p c (λ s h. outside d x o s (omega (arith, there s, distinct s)))) in
    ap (λ xs. xs ++ shown_anew o p t) part
    ∙ anew-opened o d left x t (λ s. omega (arith, distinct s)) in_t
    (known_in_rest (opens o r) _ (times k (known o c)) _ row_apart
    (omega (arith, known-tally o k c, there k, distinct k)) split) shut container (and-second _ (is_closed o t) closed)))
    (found_later k r c t x other e)))
