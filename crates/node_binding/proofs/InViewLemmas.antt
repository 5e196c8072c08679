-- Where known nodes stand, and how the opening of one of them leaves an opened set one.
use Rattle.std.proofs.Common.{◌≡◌, ℕ, suc, ◌+◌, ◌<◌, ◌≤◌, ◌==◌, Bool, true, false, cond, not, ◌&&◌, ◌||◌, Option, None, Some, refl, sym, ap}
use Rattle.std.proofs.Common.{subst, ◌∙◌, arith}
use Rattle.std.proofs.Math.Logic.{⊎_elim}
use Rattle.std.proofs.lemmas.Bool.{or_left, or_right, and_from}
use Rattle.node_tree.specs.Nodes.{Nodes, none, node, Branch, alone}
use Rattle.node_tree.specs.Keys.{tally, find, here, within, past}
use Rattle.node_tree.specs.Labels.{holds}
use Rattle.node_tree.proofs.KeyLemmas.{Stands, find-stands}
use Rattle.page_tree.specs.Pages.{PageRow, row_serial}
use Rattle.node_binding.specs.Counts.{times, stands_in}
use Rattle.node_binding.specs.Cuts.{opens, known}
use Rattle.node_binding.specs.Openings.{less, is_spent, containers_within, opened_also, is_unopened, is_closed, has_roots, IsOpenedSet}
use Rattle.node_binding.specs.Sessions.{CanOpen}
use Rattle.node_binding.proofs.Places.{first, is_in-times, times-is_in}
use Rattle.node_binding.proofs.Known.{known-tally}
use Rattle.node_binding.proofs.SessionLemmas.{times-known, known_below}
use Rattle.node_binding.proofs.GrowLemmas.{if_holds}
use Rattle.node_binding.proofs.OpeningLemmas.{goes_on, AreDistinct, Agrees, self_times, at_root, in_children, closed-above, reached-le-all}
use Rattle.node_binding.proofs.OpeningLemmas.{times-reached}
use Rattle.node_binding.proofs.AnewLemmas.{outside, found_here, found_later, found-tally, at_or_other, known_in_children, known_in_rest}
use Rattle.node_binding.proofs.AnewLemmas.{is_opened_row, closed_below, unopened-at, and-first, and-second}

-- A known node: a root, or a child of an opened node that is known.
pub data InView (o : ℕ → Bool) (x : Branch PageRow) : Nodes PageRow → Type 0 where
  root : (t : Nodes PageRow) → InView o x (node x.row x.children t)
  child : (r : PageRow) (c t : Nodes PageRow) → opens o r ≡ true → InView o x c → InView o x (node r c t)
  later : (r : PageRow) (c t : Nodes PageRow) → InView o x t → InView o x (node r c t)

-- each of these trees is known
abbrev pub AreInView : (ℕ → Bool) → Nodes PageRow → Nodes PageRow → Type 0
AreInView o n none = Unit {0}
AreInView o n (node r c t) = InView o (record { row = r; children = c }) n × AreInView o n t

module _ (o : ℕ → Bool) (x : Branch PageRow) where
  pub in_view-known : {n : Nodes PageRow} → InView o x n → 0 < times x.row.serial (known o n)
  in_view-known (root t) = first x.row.serial _
  in_view-known (child r c t e v) =
      rw (times-known o (λ s. s) x.row.serial r c t) (known_below o (λ s. s) (opens o r) _ x.row.serial _ _ e (in_view-known v))
  in_view-known (later r c t v) = let h = in_view-known v in rw (times-known o (λ s. s) x.row.serial r c t) (omega (arith, h))

  in_view-stands : {n : Nodes PageRow} → InView o x n → Stands x n
  in_view-stands (root t) = (0, node x.row x.children t, here t)
  in_view-stands (child r c t e v) = let s = in_view-stands v in (suc s.0, node r s.1 t, within s.0 r c s.1 t s.2)
  in_view-stands (later r c t v) = let s = in_view-stands v in (s.0, node r c s.1, past s.0 r c t s.1 s.2)

  pub in_view-found : (n : Nodes PageRow) → AreDistinct n → InView o x n → find row_serial x.row.serial n ≡ Some x
  in_view-found n distinct v = find-stands row_serial x n (in_view-stands v) (distinct x.row.serial)

  -- what is at and below it is there
  pub in_view-tally : {n : Nodes PageRow} → InView o x n → (s : ℕ) → tally row_serial s (alone x) ≤ tally row_serial s n
  in_view-tally (root t) s = omega arith
  in_view-tally (child r c t e v) s = let h = in_view-tally v s in omega arith
  in_view-tally (later r c t v) s = let h = in_view-tally v s in omega arith

  -- a node that is found and is known
  pub in_view : (n : Nodes PageRow) → AreDistinct n → find row_serial x.row.serial n ≡ Some x → 0 < times x.row.serial (known o n)
      → InView o x n
  in_view none distinct e known_x = cc
  in_view (node r c t) distinct e known_x =
      let k : ℕ = x.row.serial in
      let self : cond {A = ℕ} (k == k) 1 0 ≡ 1 = self_times k in
      let split : 0 < cond {A = ℕ} (r.serial == k) 1 0
      + (cond {A = ℕ} (opens o r) (times k (known o c)) 0 + times k (known o t)) = rw (times-known o (λ s. s) k r c t) at known_x in
      at_or_other r.serial k
      (λ same. subst (λ (y : Branch PageRow). InView o y (node r c t)) (found_here k r c t x same e) (root t))
      (λ other. (let row_apart : cond {A = ℕ} (r.serial == k) 1 0 ≡ 0 = ap (λ b. cond {A = ℕ} b 1 0) other in
      ⊎_elim
      (λ in_c. (let there : (s : ℕ) → tally row_serial s (alone x) ≤ tally row_serial s c = found-tally k c x in_c in
      let parts = known_in_children (opens o r) _ (times k (known o c)) (times k (known o t)) row_apart
      (omega (arith, known-tally o k t, there k, distinct k)) split in
      child r c t parts.0 (in_view c (λ s. omega (arith, distinct s)) in_c parts.1)))
      (λ in_t. (let there : (s : ℕ) → tally row_serial s (alone x) ≤ tally row_serial s t = found-tally k t x in_t in
      later r c t (in_view t (λ s. omega (arith, distinct s)) in_t
      (known_in_rest (opens o r) _ (times k (known o c)) _ row_apart (omega (arith, known-tally o k c, there k, distinct k)) split))))
      (found_later k r c t x other e)))

  pub in_view-can_open : (n : Nodes PageRow) → AreDistinct n → InView o x n → holds x.row.label.kind ≡ true → o x.row.serial ≡ false
      → CanOpen n o x
  in_view-can_open n distinct v container shut = record {
    stands = in_view-found n distinct v;
    known_now = times-is_in (known o n) x.row.serial (in_view-known v);
    container = container;
    shut = shut;
  }

  pub can_open-in_view : (n : Nodes PageRow) → AreDistinct n → CanOpen n o x → InView o x n
  can_open-in_view n distinct can = in_view n distinct can.stands (is_in-times (known o n) x.row.serial can.known_now)

-- ---- children, and more opened nodes

module _ (o : ℕ → Bool) where
  pub in_view-below : {x y : Branch PageRow} {n : Nodes PageRow} → InView o x n → opens o x.row ≡ true → InView o y x.children
      → InView o y n
  in_view-below {x = x} (root t) e w = child x.row x.children t e w
  in_view-below (child r c t e0 v) e w = child r c t e0 (in_view-below v e w)
  in_view-below (later r c t v) e w = later r c t (in_view-below v e w)

  gather : (m n : Nodes PageRow) → ((y : Branch PageRow) → InView o y m → InView o y n) → AreInView o n m
  gather none n f = tt
  gather (node r c t) n f = (f (record { row = r; children = c }) (root t), gather t n (λ y v. f y (later r c t v)))

  pub roots_in_view : (n : Nodes PageRow) → AreInView o n n
  roots_in_view n = gather n n (λ y v. v)

  pub children_in_view : (x : Branch PageRow) (n : Nodes PageRow) → InView o x n → opens o x.row ≡ true → AreInView o n x.children
  children_in_view x n v e = gather x.children n (λ y w. in_view-below v e w)

  -- what is known below an opened node that is known
  pub known-in_view : (x : Branch PageRow) {n : Nodes PageRow} → InView o x n → opens o x.row ≡ true → (s : ℕ)
      → 0 < times s (known o x.children) → 0 < times s (known o n)
  known-in_view x (root t) e s h = rw (times-known o (λ s. s) s x.row x.children t) (known_below o (λ s. s) (opens o x.row) _ s _ _ e h)
  known-in_view x (child r c t e0 v) e s h =
      rw (times-known o (λ s. s) s r c t) (known_below o (λ s. s) (opens o r) _ s _ _ e0 (known-in_view x v e s h))
  known-in_view x (later r c t v) e s h = let k = known-in_view x v e s h in rw (times-known o (λ s. s) s r c t) (omega (arith, k))

module _ (o p : ℕ → Bool) (grows : (s : ℕ) → o s ≡ true → p s ≡ true) where
  pub in_view-grows : {x : Branch PageRow} {n : Nodes PageRow} → InView o x n → InView p x n
  in_view-grows (root t) = root t
  in_view-grows (child r c t e v) = child r c t (if_holds (holds r.label.kind) (o r.serial) (p r.serial) (grows r.serial) e)
      (in_view-grows v)
  in_view-grows (later r c t v) = later r c t (in_view-grows v)

  pub are_in_view-grows : (n m : Nodes PageRow) → AreInView o n m → AreInView p n m
  are_in_view-grows n none v = tt
  are_in_view-grows n (node r c t) v = (in_view-grows v.0, are_in_view-grows n t v.1)

-- ---- where two tests agree

module _ (o p : ℕ → Bool) where
  pub is_unopened-same : (n : Nodes PageRow) → ((s : ℕ) → 0 < tally row_serial s n → o s ≡ p s) → is_unopened o n ≡ is_unopened p n
  is_unopened-same none h = refl
  is_unopened-same (node r c t) h =
      ap (λ b. not b && is_unopened o c && is_unopened o t) (h r.serial (omega (arith, self_times r.serial)))
      ∙ ap (λ b. not (p r.serial) && b && is_unopened o t) (is_unopened-same c (λ s k. h s (omega arith)))
      ∙ ap (λ b. not (p r.serial) && is_unopened p c && b) (is_unopened-same t (λ s k. h s (omega arith)))

  pub is_closed-same : (n : Nodes PageRow) → ((s : ℕ) → 0 < tally row_serial s n → o s ≡ p s) → is_closed o n ≡ is_closed p n
  is_closed-same none h = refl
  is_closed-same (node r c t) h =
      ap (λ b. cond b (is_closed o c) (is_unopened o c) && is_closed o t) (h r.serial (omega (arith, self_times r.serial)))
      ∙ ap (λ b. cond (p r.serial) b (is_unopened o c) && is_closed o t) (is_closed-same c (λ s k. h s (omega arith)))
      ∙ ap (λ b. cond (p r.serial) (is_closed p c) b && is_closed o t) (is_unopened-same c (λ s k. h s (omega arith)))
      ∙ ap (λ b. cond (p r.serial) (is_closed p c) (is_unopened p c) && b) (is_closed-same t (λ s k. h s (omega arith)))

-- ---- a node that is opened

container_goes_on : (h a : Bool) → cond h a false ≡ true → (h && true) ≡ true
container_goes_on true a e = refl
container_goes_on false a e = e

under : (g : Bool) (k m t a : ℕ) → g ≡ true → a ≤ m → a ≤ cond {A = ℕ} g (k + m) 0 + t
under true k m t a e h = omega arith
under false k m t a e h = cc

module _ (o : ℕ → Bool) (d : Option ℕ) (x : Branch PageRow) where
  abbrev p : ℕ → Bool
  p = opened_also d x o

  pub opened-grows : (s : ℕ) → o s ≡ true → p s ≡ true
  opened-grows s e = or_left (o s) (stands_in s (containers_within d (alone x))) e

  pub opened-outside : (s : ℕ) → tally row_serial s (alone x) ≡ 0 → o s ≡ p s
  opened-outside s h = outside d x o s h

  reached-in_view : {n : Nodes PageRow} → InView o x n → (s : ℕ)
      → times s (containers_within None (alone x)) ≤ times s (containers_within None n)
  reached-in_view (root t) s = omega (arith, times-reached None s x.row x.children t, times-reached None s x.row x.children none)
  reached-in_view (child r c t e v) s =
      rw (times-reached None s r c t)
      (under (goes_on None r) (cond {A = ℕ} (r.serial == s) 1 0) (times s (containers_within None c)) _ _
      (container_goes_on (holds r.label.kind) (o r.serial) e) (reached-in_view v s))
  reached-in_view (later r c t v) s = let h = reached-in_view v s in rw (times-reached None s r c t) (omega (arith, h))

  rooted-grows : (n : Nodes PageRow) → has_roots o n ≡ true → has_roots p n ≡ true
  rooted-grows none e = refl
  rooted-grows (node r c t) e =
      and_from (p r.serial) (has_roots p t) (opened-grows r.serial (and-first (o r.serial) (has_roots o t) e))
      (rooted-grows t (and-second (o r.serial) (has_roots o t) e))

  module _ (left : is_spent d ≡ false) (container : holds x.row.label.kind ≡ true) (distinct_x : AreDistinct (alone x)) where
    on : goes_on d x.row ≡ true
    on = rw (container, left) refl

    pub opened_now : p x.row.serial ≡ true
    opened_now =
        or_right (o x.row.serial) _ (ap (λ m. not (m == 0)) (at_root d x.row x.children none distinct_x ∙ ap (λ b. cond {A = ℕ} b 1 0) on))

    pub agrees_below : is_unopened o x.children ≡ true → Agrees p (less d) x.children
    agrees_below shut s h =
        ap (λ b. b || stands_in s (containers_within d (alone x))) (unopened-at o x.children shut s h)
        ∙ ap (λ m. not (m == 0)) (in_children d x.row x.children none distinct_x s h ∙ ap
        (λ b. cond {A = ℕ} b (times s (containers_within (less d) x.children)) 0) on)

    closed-opened : {n : Nodes PageRow} → AreDistinct n → o x.row.serial ≡ false → InView o x n → is_closed o n ≡ true
        → is_closed p n ≡ true
    closed-opened distinct shut (root t) closed =
        let below_shut : is_unopened o x.children
        ≡ true = ap (λ b. cond b (is_closed o x.children) (is_unopened o x.children)) (sym shut) ∙ and-first _ (is_closed o t) closed in
        and_from _ (is_closed p t)
        (ap (λ b. cond b (is_closed p x.children) (is_unopened p x.children)) opened_now ∙ closed-above p (less d) x.children
        (λ s. omega (arith, distinct_x s)) (agrees_below below_shut))
        (sym (is_closed-same o p t (λ s h. opened-outside s (omega (arith, distinct s)))) ∙ and-second _ (is_closed o t) closed)
    closed-opened distinct shut (child r c t e v) closed =
        let open_row : o r.serial ≡ true = is_opened_row (holds r.label.kind) (o r.serial) e in
        let there : (s : ℕ) → tally row_serial s (alone x) ≤ tally row_serial s c = in_view-tally o x v in
        and_from _ (is_closed p t)
        (ap (λ b. cond b (is_closed p c) (is_unopened p c)) (opened-grows r.serial open_row)
        ∙ closed-opened (λ s. omega (arith, distinct s)) shut v
        (closed_below (o r.serial) (is_closed o c) (is_unopened o c) (is_closed o t) open_row closed))
        (sym (is_closed-same o p t (λ s h. opened-outside s (omega (arith, distinct s, there s)))) ∙ and-second _ (is_closed o t) closed)
    closed-opened distinct shut (later r c t v) closed =
        let there : (s : ℕ) → tally row_serial s (alone x) ≤ tally row_serial s t = in_view-tally o x v in
        and_from _ (is_closed p t)
        (ap (λ b. cond b (is_closed p c) (is_unopened p c))
        (sym (opened-outside r.serial (omega (arith, distinct r.serial, there r.serial, self_times r.serial))))
        ∙ ap (λ b. cond (o r.serial) b (is_unopened p c))
        (sym (is_closed-same o p c (λ s h. opened-outside s (omega (arith, distinct s, there s)))))
        ∙ ap (λ b. cond (o r.serial) (is_closed o c) b)
        (sym (is_unopened-same o p c (λ s h. opened-outside s (omega (arith, distinct s, there s)))))
        ∙ and-first _ (is_closed o t) closed)
        (closed-opened (λ s. omega (arith, distinct s)) shut v (and-second _ (is_closed o t) closed))

    live-opened : (n : Nodes PageRow) → InView o x n → (s : ℕ) (b : Bool) → o s ≡ b
        → (o s ≡ true → stands_in s (containers_within None n) ≡ true) → p s ≡ true → stands_in s (containers_within None n) ≡ true
    live-opened n v s true is live e = live is
    live-opened n v s false is live e =
        let there : stands_in s (containers_within d (alone x))
        ≡ true = ap (λ b. b || stands_in s (containers_within d (alone x))) (sym is) ∙ e in
        times-is_in (containers_within None n) s
        (omega (arith, is_in-times (containers_within d (alone x)) s there, reached-le-all d s (alone x), reached-in_view v s))

    -- the opened set with it, and with what is opened below it
    pub IsOpenedSet-opened : (n : Nodes PageRow) → AreDistinct n → o x.row.serial ≡ false → InView o x n → IsOpenedSet o n → IsOpenedSet p n
    IsOpenedSet-opened n distinct shut v set = record {
      live = λ s e. live-opened n v s (o s) refl (set.live s) e;
      rooted = rooted-grows n set.rooted;
      closed = closed-opened distinct shut v set.closed;
    }
