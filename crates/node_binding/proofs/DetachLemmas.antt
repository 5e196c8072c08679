-- A node is detached: a session goes on without it and all below it.
use Rattle.std.proofs.Common.{◌≡◌, ℕ, zero, suc, ◌+◌, ◌<◌, ◌≤◌, ◌==◌, Bool, true, false, cond, not, ◌&&◌, List, [], ◌∷◌, ◌++◌, None, refl}
use Rattle.std.proofs.Common.{sym, ap, ◌∙◌, arith}
use Rattle.std.proofs.lemmas.Bool.{and_from, eq-eqb, ne_eqb}
use Rattle.node_tree.specs.Nodes.{Nodes, none, node, Branch, alone}
use Rattle.node_tree.specs.Keys.{tally, has, At, here, within, past}
use Rattle.node_tree.specs.Labels.{holds}
use Rattle.node_tree.proofs.KeyLemmas.{has-absent, has-there}
use Rattle.page_tree.specs.Pages.{PageRow, row_serial}
use Rattle.page_tree.specs.Edits.{taken_out, without_child}
use Rattle.node_binding.specs.Counts.{times}
use Rattle.node_binding.specs.Cuts.{opens, known}
use Rattle.node_binding.specs.Openings.{containers_within, opened_without, is_unopened, is_closed, has_roots, IsOpenedSet}
use Rattle.node_binding.specs.Sessions.{IsSession, session_of, detached}
use Rattle.node_binding.specs.Bindings.{BindingValue, Stands, all_forgotten}
use Rattle.node_binding.proofs.Places.{is_in-times, times-is_in}
use Rattle.node_binding.proofs.Known.{known-tally}
use Rattle.node_binding.proofs.SessionLemmas.{times-known}
use Rattle.node_binding.proofs.OpeningLemmas.{AreDistinct, goes_on, self_times, reached-tally, times-reached}
use Rattle.node_binding.proofs.AnewLemmas.{and-first, and-second}
use Rattle.node_binding.proofs.InViewLemmas.{is_unopened-same, is_closed-same}
use Rattle.node_binding.proofs.ForgetLemmas.{Stands-detached}

-- one of these trees
pub data IsOneOf (x : Branch PageRow) : Nodes PageRow → Type 0 where
  first : (t : Nodes PageRow) → IsOneOf x (node x.row x.children t)
  later : (r : PageRow) (c t : Nodes PageRow) → IsOneOf x t → IsOneOf x (node r c t)

known-same : (o p : ℕ → Bool) (n : Nodes PageRow) → ((s : ℕ) → 0 < tally row_serial s n → o s ≡ p s) → known o n ≡ known p n
known-same o p none h = refl
known-same o p (node r c t) h =
    ap (λ b. r.serial ∷ (cond (cond (holds r.label.kind) b false) (known o c) [] ++ known o t))
    (h r.serial (omega (arith, self_times r.serial)))
    ∙ ap (λ xs. r.serial ∷ (cond (opens p r) xs [] ++ known o t)) (known-same o p c (λ s k. h s (omega arith)))
    ∙ ap (λ xs. r.serial ∷ (cond (opens p r) (known p c) [] ++ xs)) (known-same o p t (λ s k. h s (omega arith)))

if_none : (g : Bool) (k : ℕ) → k ≡ 0 → cond {A = ℕ} g k 0 ≡ 0
if_none true k e = e
if_none false k e = refl

module _ (x : Branch PageRow) (o : ℕ → Bool) where
  abbrev p : ℕ → Bool
  p = opened_without x o

  outside : (s : ℕ) → tally row_serial s (alone x) ≡ 0 → o s ≡ p s
  outside s h = and_true (o s) ∙ ap (λ b. o s && not b) (sym (has-absent row_serial s (alone x) h))
    where
      and_true : (b : Bool) → b ≡ (b && true)
      and_true true = refl
      and_true false = refl

  -- d is c without x: what is known and opened, but for x and all below it
  pub record Pruned (c d : Nodes PageRow) : Type 0 where
    pub inside : (s : ℕ) → tally row_serial s (alone x) ≤ tally row_serial s c
    pub counts : (s : ℕ) → tally row_serial s (alone x) ≡ 0 → times s (known p d) ≡ times s (known o c)
    pub reached_still : (s : ℕ) → tally row_serial s (alone x) ≡ 0 → times s (containers_within None c) ≤ times s (containers_within None d)
    pub closed : is_closed o c ≡ true → is_closed p d ≡ true
    pub shut : is_unopened o c ≡ true → is_unopened p d ≡ true

  pruned-first : (t : Nodes PageRow) → AreDistinct (node x.row x.children t) → Pruned (node x.row x.children t) t
  pruned-first t distinct =
      let agree : (s : ℕ) → 0 < tally row_serial s t → o s ≡ p s = λ s h. outside s (omega (arith, distinct s)) in
      record {
        inside = λ s. omega arith;
        counts = λ s h. omega (
          arith,
          times-known o (λ k. k) s x.row x.children t,
          if_none (opens o x.row) (times s (known o x.children)) (omega (arith, known-tally o s x.children)),
          ap (times s) (known-same o p t agree),
          h,
        );
        reached_still = λ s h. omega (
          arith,
          times-reached None s x.row x.children t,
          if_none (goes_on None x.row)
              (cond {A = ℕ} (x.row.serial == s) 1 0 + times s (containers_within None x.children))
              (omega (arith, reached-tally None s x.children)),
        );
        closed = λ e. sym (is_closed-same o p t agree) ∙ and-second
            (cond (o x.row.serial) (is_closed o x.children) (is_unopened o x.children)) (is_closed o t) e;
        shut = λ e. sym (is_unopened-same o p t agree) ∙ and-second (not (o x.row.serial) && is_unopened o x.children) (is_unopened o t) e;
      }

  pruned-later : (r : PageRow) (c t d : Nodes PageRow) → AreDistinct (node r c t) → Pruned t d → Pruned (node r c t) (node r c d)
  pruned-later r c t d distinct was =
      let row : o r.serial ≡ p r.serial = outside r.serial (omega (arith, distinct r.serial, was.inside r.serial, self_times r.serial)) in
      let agree : (s : ℕ) → 0 < tally row_serial s c → o s ≡ p s = λ s h. outside s (omega (arith, distinct s, was.inside s)) in
      record {
        inside = λ s. omega (arith, was.inside s);
        counts = λ s h. omega (
          arith,
          times-known p (λ k. k) s r c d,
          times-known o (λ k. k) s r c t,
          ap (λ b. cond {A = ℕ} (cond (holds r.label.kind) b false) (times s (known o c)) 0) row,
          ap (λ xs. cond {A = ℕ} (opens p r) (times s xs) 0) (known-same o p c agree),
          was.counts s h,
        );
        reached_still = λ s h. omega (arith, times-reached None s r c t, times-reached None s r c d, was.reached_still s h);
        closed = λ e. and_from (cond (p r.serial) (is_closed p c) (is_unopened p c)) (is_closed p d)
            (sym (ap (λ b. cond b (is_closed o c) (is_unopened o c)) row ∙ ap (λ b. cond (p r.serial) b (is_unopened o c))
            (is_closed-same o p c agree) ∙ ap (λ b. cond (p r.serial) (is_closed p c) b) (is_unopened-same o p c agree)) ∙ and-first
            (cond (o r.serial) (is_closed o c) (is_unopened o c)) (is_closed o t) e)
            (was.closed (and-second (cond (o r.serial) (is_closed o c) (is_unopened o c)) (is_closed o t) e));
        shut = λ e. and_from (not (p r.serial) && is_unopened p c) (is_unopened p d)
            (sym (ap (λ b. not b && is_unopened o c) row ∙ ap (λ b. not (p r.serial) && b) (is_unopened-same o p c agree)) ∙ and-first
            (not (o r.serial) && is_unopened o c) (is_unopened o t) e)
            (was.shut (and-second (not (o r.serial) && is_unopened o c) (is_unopened o t) e));
      }

  row_goes_on : (a v w y z : Bool) → (v ≡ true → y ≡ true) → (w ≡ true → z ≡ true) → cond a v w ≡ true → cond a y z ≡ true
  row_goes_on true v w y z f g e = f e
  row_goes_on false v w y z f g e = g e

  mono : (g : Bool) (k m n y : ℕ) → m ≤ n → cond {A = ℕ} g (k + m) 0 + y ≤ cond {A = ℕ} g (k + n) 0 + y
  mono true k m n y h = omega arith
  mono false k m n y h = omega arith

  pruned-within : (r : PageRow) (c m t : Nodes PageRow) → AreDistinct (node r c t) → Pruned c m → Pruned (node r c t) (node r m t)
  pruned-within r c m t distinct was =
      let row : o r.serial ≡ p r.serial = outside r.serial (omega (arith, distinct r.serial, was.inside r.serial, self_times r.serial)) in
      let agree : (s : ℕ) → 0 < tally row_serial s t → o s ≡ p s = λ s h. outside s (omega (arith, distinct s, was.inside s)) in
      record {
        inside = λ s. omega (arith, was.inside s);
        counts = λ s h. omega (
          arith,
          times-known p (λ k. k) s r m t,
          times-known o (λ k. k) s r c t,
          ap (λ b. cond {A = ℕ} (cond (holds r.label.kind) b false) (times s (known o c)) 0) row,
          ap (λ k. cond {A = ℕ} (opens p r) k 0) (was.counts s h),
          ap (times s) (known-same o p t agree),
        );
        reached_still = λ s h. omega (
          arith,
          times-reached None s r c t,
          times-reached None s r m t,
          mono (goes_on None r)
              (cond {A = ℕ} (r.serial == s) 1 0) _ _ (times s (containers_within None t)) (was.reached_still s h),
        );
        closed = λ e. and_from (cond (p r.serial) (is_closed p m) (is_unopened p m)) (is_closed p t)
            (row_goes_on (p r.serial) (is_closed o c) (is_unopened o c) (is_closed p m) (is_unopened p m) was.closed was.shut
            (sym (ap (λ b. cond b (is_closed o c) (is_unopened o c)) row) ∙ and-first
            (cond (o r.serial) (is_closed o c) (is_unopened o c)) (is_closed o t) e))
            (sym (is_closed-same o p t agree) ∙ and-second (cond (o r.serial) (is_closed o c) (is_unopened o c)) (is_closed o t) e);
        shut = λ e.
            let head = and-first (not (o r.serial) && is_unopened o c) (is_unopened o t) e in
            and_from (not (p r.serial) && is_unopened p m) (is_unopened p t)
            (and_from (not (p r.serial)) (is_unopened p m) (ap not (sym row) ∙ and-first (not (o r.serial)) (is_unopened o c) head)
            (was.shut (and-second (not (o r.serial)) (is_unopened o c) head)))
            (sym (is_unopened-same o p t agree) ∙ and-second (not (o r.serial) && is_unopened o c) (is_unopened o t) e);
      }

  -- ---- among the children

  pub taken-tally : (c : Nodes PageRow) → AreDistinct c → IsOneOf x c → (s : ℕ)
      → tally row_serial s (taken_out x.row.serial c) + tally row_serial s (alone x) ≡ tally row_serial s c
  taken-tally c distinct (first t) s = rw (eq-eqb x.row.serial x.row.serial refl) (omega arith)
  taken-tally c distinct (later r d t v) s =
      let k = x.row.serial in
      let rest = taken-tally t (λ s. omega (arith, distinct s)) v in
      rw (ne_eqb r.serial k (λ same. omega (arith, distinct k, rest k, self_times k, ap (λ y. cond {A = ℕ} (y == k) 1 0) same)))
      (omega (arith, rest s))

  pruned-taken : (c : Nodes PageRow) → AreDistinct c → IsOneOf x c → Pruned c (taken_out x.row.serial c)
  pruned-taken c distinct (first t) = rw (eq-eqb x.row.serial x.row.serial refl) (pruned-first t distinct)
  pruned-taken c distinct (later r d t v) =
      let k = x.row.serial in
      let apart : AreDistinct t = λ s. omega (arith, distinct s) in
      rw (ne_eqb r.serial k (λ same. omega
      (arith, distinct k, taken-tally t apart v k, self_times k, ap (λ y. cond {A = ℕ} (y == k) 1 0) same)))
      (pruned-later r d t (taken_out k t) distinct (pruned-taken t apart v))

  -- ---- the roots stay

  roots-same : (t : Nodes PageRow) → ((s : ℕ) → 0 < tally row_serial s t → o s ≡ p s) → has_roots o t ≡ has_roots p t
  roots-same none h = refl
  roots-same (node r c t) h = ap (λ b. b && has_roots o t) (h r.serial (omega (arith, self_times r.serial))) ∙ ap (λ b. p r.serial && b)
      (roots-same t (λ s k. h s (omega arith)))

  roots_above : (r : PageRow) (c t : Nodes PageRow) → AreDistinct (node r c t)
      → ((s : ℕ) → tally row_serial s (alone x) ≤ tally row_serial s c) → (o r.serial && has_roots o t) ≡ true
      → (p r.serial && has_roots p t) ≡ true
  roots_above r c t distinct below e =
      sym (ap (λ b. b && has_roots o t) (outside r.serial (omega (arith, distinct r.serial, below r.serial, self_times r.serial)))
      ∙ ap (λ b. p r.serial && b) (roots-same t (λ s h. outside s (omega (arith, distinct s, below s)))))
      ∙ e

  -- ---- in the page

  module _ (q : Branch PageRow) (one : IsOneOf x q.children) where
    pub pruned-at : {depth : ℕ} {n m : Nodes PageRow} → At q (without_child x.row.serial q) depth n m → AreDistinct n → Pruned n m
    pruned-at (here t) distinct = pruned-within q.row q.children (taken_out x.row.serial q.children) t distinct
        (pruned-taken q.children (λ s. omega (arith, distinct s)) one)
    pruned-at (within depth r c m t e) distinct = pruned-within r c m t distinct (pruned-at e (λ s. omega (arith, distinct s)))
    pruned-at (past depth r c t m e) distinct = pruned-later r c t m distinct (pruned-at e (λ s. omega (arith, distinct s)))

    pub tally-less : {depth : ℕ} {n m : Nodes PageRow} → At q (without_child x.row.serial q) depth n m → AreDistinct n → (s : ℕ)
        → tally row_serial s m + tally row_serial s (alone x) ≡ tally row_serial s n
    tally-less (here t) distinct s = omega (arith, taken-tally q.children (λ s. omega (arith, distinct s)) one s)
    tally-less (within depth r c m t e) distinct s = omega (arith, tally-less e (λ s. omega (arith, distinct s)) s)
    tally-less (past depth r c t m e) distinct s = omega (arith, tally-less e (λ s. omega (arith, distinct s)) s)

    pub rooted-less : {depth : ℕ} {n m : Nodes PageRow} → At q (without_child x.row.serial q) depth n m → AreDistinct n
        → has_roots o n ≡ true → has_roots p m ≡ true
    rooted-less (here t) distinct e =
        roots_above q.row q.children t distinct (λ s. omega (arith, taken-tally q.children (λ s. omega (arith, distinct s)) one s)) e
    rooted-less (within depth r c m t at) distinct e =
        let below : Pruned c m = pruned-at at (λ s. omega (arith, distinct s)) in
        roots_above r c t distinct below.inside e
    rooted-less (past depth r c t m at) distinct e =
        let rest : Pruned t m = pruned-at at (λ s. omega (arith, distinct s)) in
        and_from (p r.serial) (has_roots p m)
        (sym (outside r.serial (omega (arith, distinct r.serial, rest.inside r.serial, self_times r.serial))) ∙ and-first (o r.serial)
        (has_roots o t) e)
        (rooted-less at (λ s. omega (arith, distinct s)) (and-second (o r.serial) (has_roots o t) e))

-- ---- the session

module _ (n m : Nodes PageRow) (q x : Branch PageRow) (depth : ℕ) (at : At q (without_child x.row.serial q) depth n m)
    (one : IsOneOf x q.children) (distinct : AreDistinct n) (o : ℕ → Bool) (pushed : List ℕ) (since : ℕ)
    (session : IsSession n (session_of o pushed since)) where
  abbrev left : ℕ → Bool
  left = opened_without x o

  pruned : Pruned x o n m
  pruned = pruned-at x o q one at distinct

  -- what is known still is not x, nor below it
  outside_known : (s : ℕ) → 0 < times s (known left m) → tally row_serial s (alone x) ≡ 0
  outside_known s h = omega (arith, known-tally left s m, tally-less x o q one at distinct s, distinct s)

  opened_outside : (s : ℕ) → left s ≡ true → (o s ≡ true) × (tally row_serial s (alone x) ≡ 0)
  opened_outside s e = (
    and-first (o s) (not (has row_serial s (alone x))) e,
    none_there (tally row_serial s (alone x)) refl
        (and-second (o s) (not (has row_serial s (alone x))) e),
  )
    where
      none_there : (k : ℕ) → tally row_serial s (alone x) ≡ k → not (has row_serial s (alone x)) ≡ true → tally row_serial s (alone x) ≡ 0
      none_there zero e f = e
      none_there (suc k) e f = let no : false ≡ true = ap not (sym (has-there row_serial s (alone x) (omega arith))) ∙ f in cc

  set_after : IsOpenedSet left m
  set_after = record {
    live = λ s e.
        let was = opened_outside s e in
        times-is_in (containers_within None m) s
        (omega (arith, is_in-times (containers_within None n) s (session.opened_set.live s was.0), pruned.reached_still s was.1));
    rooted = rooted-less x o q one at distinct session.opened_set.rooted;
    closed = pruned.closed session.opened_set.closed;
  }

  pub IsSession-detached : IsSession m (detached x (session_of o pushed since))
  IsSession-detached = record {
    opened_set = set_after;
    since_then = session.since_then;
    known_stand = λ s h.
        let still : 0 < times s (known left m) = is_in-times (known left m) s h in
        session.known_stand s (times-is_in (known o n) s (omega (arith, pruned.counts s (outside_known s still))));
  }

  less_known : (s : ℕ) → times s (known left m) ≡ cond {A = ℕ} (has row_serial s (alone x)) 0 (times s (known o n))
  less_known s =
      elim (tally row_serial s (alone x)) as
      (λ k. tally row_serial s (alone x) ≡ k
      → times s (known left m) ≡ cond {A = ℕ} (has row_serial s (alone x)) 0 (times s (known o n))) [
        | zero ↦ λ e. pruned.counts s e ∙ sym (ap (λ b. cond {A = ℕ} b 0 (times s (known o n))) (has-absent row_serial s (alone x) e))
        | suc k ↦ λ e. (let gone : times s (known left m)
            ≡ 0 = omega (arith, known-tally left s m, tally-less x o q one at distinct s, distinct s) in
            gone ∙ sym (ap (λ b. cond {A = ℕ} b 0 (times s (known o n))) (has-there row_serial s (alone x) (omega arith))))
      ] refl

  pub Stands-detached_at : (b : BindingValue) → Stands n (session_of o pushed since) b
      → Stands m (detached x (session_of o pushed since)) (all_forgotten (alone x) b)
  Stands-detached_at b stands = Stands-detached n m x o pushed since b less_known session stands
