-- A node is attached: a session goes on, with one id more where the parent is opened.
use Rattle.std.proofs.Common.{◌≡◌, ℕ, ◌+◌, ◌<◌, ◌≤◌, ◌==◌, Bool, true, false, cond, not, ◌&&◌, ◌||◌, List, [], ◌∷◌, ◌++◌, None, refl, sym}
use Rattle.std.proofs.Common.{ap, ◌∙◌, arith}
use Rattle.std.proofs.lemmas.Bool.{and_from}
use Rattle.node_tree.specs.Nodes.{Nodes, none, node, Branch, alone}
use Rattle.node_tree.specs.Keys.{tally, At}
use Rattle.node_tree.specs.Labels.{holds}
use Rattle.node_tree.proofs.KeyLemmas.{tally-at}
use Rattle.page_tree.specs.Pages.{PageRow, row_serial}
use Rattle.page_tree.specs.Edits.{put_before, with_child}
use Rattle.node_binding.specs.Counts.{times}
use Rattle.node_binding.specs.Cuts.{opens, known}
use Rattle.node_binding.specs.Openings.{containers_within, is_unopened, is_closed, IsOpenedSet}
use Rattle.node_binding.specs.Sessions.{IsSession, session_of, attached}
use Rattle.node_binding.specs.Bindings.{BindingValue, Stands, with_bound}
use Rattle.node_binding.proofs.Places.{is_in-times}
use Rattle.node_binding.proofs.Known.{known-tally}
use Rattle.node_binding.proofs.SessionLemmas.{times-known}
use Rattle.node_binding.proofs.GrowLemmas.{Stands-more}
use Rattle.node_binding.proofs.OpeningLemmas.{AreDistinct, all_unopened, self_times, reached-tally, times-reached}
use Rattle.node_binding.proofs.AnewLemmas.{and-first, and-second}
use Rattle.node_binding.proofs.ChangedLemmas.{IsAlike, KnownAt, AreContainersOpened, containers-live, known-at, known_below_it}
use Rattle.node_binding.proofs.ChangedLemmas.{IsOpenedSet-at, IsSession-more, IsSession-same, Stands-same}

-- ---- among the children

either : {A : Type 0} (P : A → Type 0) (b : Bool) (x y : A) → P x → P y → P (cond b x y)
either P true x y f g = f
either P false x y f g = g

pub unopened-closed : (o : ℕ → Bool) (n : Nodes PageRow) → is_unopened o n ≡ true → is_closed o n ≡ true
unopened-closed o none e = refl
unopened-closed o (node r c t) e =
    let head = and-first (not (o r.serial) && is_unopened o c) (is_unopened o t) e in
    and_from (cond (o r.serial) (is_closed o c) (is_unopened o c)) (is_closed o t)
    (row (o r.serial) (is_closed o c) (is_unopened o c) (and-first (not (o r.serial)) (is_unopened o c) head)
    (and-second (not (o r.serial)) (is_unopened o c) head))
    (unopened-closed o t (and-second (not (o r.serial) && is_unopened o c) (is_unopened o t) e))
  where
    row : (a x y : Bool) → not a ≡ true → y ≡ true → cond a x y ≡ true
    row true x y e f = cc
    row false x y e f = f

module _ (before : ℕ) (x : Branch PageRow) where
  put-tally : (s : ℕ) (c : Nodes PageRow) → tally row_serial s (put_before before x c) ≡ tally row_serial s c + tally row_serial s (alone x)
  put-tally s none = omega arith
  put-tally s (node r c t) =
      let rest = put-tally s t in
      either (λ n. tally row_serial s n ≡ tally row_serial s (node r c t) + tally row_serial s (alone x)) (r.serial == before)
      (node x.row x.children (node r c t)) (node r c (put_before before x t)) (omega arith) (omega arith)

  put-reached : (s : ℕ) (c : Nodes PageRow) → times s (containers_within None c) ≤ times s (containers_within None (put_before before x c))
  put-reached s none = omega arith
  put-reached s (node r c t) =
      let rest = put-reached s t in
      either (λ n. times s (containers_within None (node r c t)) ≤ times s (containers_within None n)) (r.serial == before)
      (node x.row x.children (node r c t)) (node r c (put_before before x t))
      (omega (arith, times-reached None s x.row x.children (node r c t)))
      (omega (arith, times-reached None s r c t, times-reached None s r c (put_before before x t)))

  module _ (o : ℕ → Bool) where
    put-known : (s : ℕ) (c : Nodes PageRow) → times s (known o (put_before before x c)) ≡ times s (known o c) + times s (known o (alone x))
    put-known s none = omega arith
    put-known s (node r c t) =
        let rest = put-known s t in
        either (λ n. times s (known o n) ≡ times s (known o (node r c t)) + times s (known o (alone x))) (r.serial == before)
        (node x.row x.children (node r c t)) (node r c (put_before before x t))
        (omega (arith, times-known o (λ k. k) s x.row x.children (node r c t), times-known o (λ k. k) s x.row x.children none))
        (omega (arith, times-known o (λ k. k) s r c t, times-known o (λ k. k) s r c (put_before before x t)))

    module _ (shut : is_unopened o (alone x) ≡ true) where
      put-unopened : (c : Nodes PageRow) → is_unopened o c ≡ true → is_unopened o (put_before before x c) ≡ true
      put-unopened none e = shut
      put-unopened (node r c t) e =
          let row = and-first (not (o r.serial) && is_unopened o c) (is_unopened o t) e in
          either (λ n. is_unopened o n ≡ true) (r.serial == before) (node x.row x.children (node r c t)) (node r c (put_before before x t))
          (and_from (not (o x.row.serial) && is_unopened o x.children) (is_unopened o (node r c t))
          (and-first (not (o x.row.serial) && is_unopened o x.children) true shut) e)
          (and_from (not (o r.serial) && is_unopened o c) (is_unopened o (put_before before x t)) row
          (put-unopened t (and-second (not (o r.serial) && is_unopened o c) (is_unopened o t) e)))

      put-closed : (c : Nodes PageRow) → is_closed o c ≡ true → is_closed o (put_before before x c) ≡ true
      put-closed none e = unopened-closed o (alone x) shut
      put-closed (node r c t) e =
          let row = and-first (cond (o r.serial) (is_closed o c) (is_unopened o c)) (is_closed o t) e in
          let new = and-first (cond (o x.row.serial) (is_closed o x.children) (is_unopened o x.children)) true
          (unopened-closed o (alone x) shut) in
          either (λ n. is_closed o n ≡ true) (r.serial == before) (node x.row x.children (node r c t)) (node r c (put_before before x t))
          (and_from (cond (o x.row.serial) (is_closed o x.children) (is_unopened o x.children)) (is_closed o (node r c t)) new e)
          (and_from (cond (o r.serial) (is_closed o c) (is_unopened o c)) (is_closed o (put_before before x t)) row
          (put-closed t (and-second (cond (o r.serial) (is_closed o c) (is_unopened o c)) (is_closed o t) e)))

-- ---- in the page

alike_child : (before : ℕ) (x p : Branch PageRow) → IsAlike p (with_child before x p)
alike_child before x p = record { serial = refl; kind = refl }

-- what is known below a node that is not opened
none_below : (h a : Bool) (s : ℕ) (xs : List ℕ) → a ≡ false → times s (cond (cond h a false) xs []) ≡ 0
none_below true true s xs e = cc
none_below true false s xs e = refl
none_below false a s xs e = refl

first_alone : (h a : Bool) (s k : ℕ) (xs : List ℕ) → a ≡ false → times s (k ∷ (cond (cond h a false) xs [] ++ [])) ≡ times s (k ∷ [])
first_alone true true s k xs e = cc
first_alone true false s k xs e = refl
first_alone false a s k xs e = refl

module _ (n m : Nodes PageRow) (p x : Branch PageRow) (before : ℕ) (depth : ℕ) (at : At p (with_child before x p) depth n m)
    (distinct : AreDistinct m) (o : ℕ → Bool) (pushed : List ℕ) (since : ℕ) (session : IsSession n (session_of o pushed since)) where
  tally-more : (s : ℕ) → tally row_serial s m ≡ tally row_serial s n + tally row_serial s (alone x)
  tally-more s = omega (arith, tally-at row_serial s at, put-tally before x s p.children)

  distinct_before : AreDistinct n
  distinct_before s = omega (arith, distinct s, tally-more s)

  -- no new node is opened
  fresh : (s : ℕ) → 0 < tally row_serial s (alone x) → o s ≡ false
  fresh s h = not_live (o s) (λ e. omega
      (arith, is_in-times (containers_within None n) s (session.opened_set.live s e), reached-tally None s n, tally-more s, distinct s))
    where
      not_live : (b : Bool) → (b ≡ true → ⊥) → b ≡ false
      not_live true f = absurd (f refl)
      not_live false f = refl

  shut_new : is_unopened o (alone x) ≡ true
  shut_new = all_unopened o (alone x) fresh

  containers : AreContainersOpened o n
  containers = containers-live o n distinct_before (λ s h e. session.opened_set.live s e)

  set_after : IsOpenedSet o m
  set_after =
      IsOpenedSet-at o (alike_child before x p) (put-unopened before x o shut_new p.children) (put-closed before x o shut_new p.children)
      (λ s. put-reached before x s p.children) at session.opened_set

  known_at : KnownAt o p (with_child before x p) n m
  known_at = known-at o (alike_child before x p) at

  new_known : (s : ℕ) → times s (known o (alone x)) ≡ times s (x.row.serial ∷ [])
  new_known s = first_alone (holds x.row.label.kind) (o x.row.serial) s x.row.serial (known o x.children)
      (fresh x.row.serial (omega (arith, self_times x.row.serial)))

  -- the parent is opened
  module _ (open_parent : o p.row.serial ≡ true) where
    known_more : (s : ℕ) → times s (known o m) ≡ times s (known o n) + times s (x.row.serial ∷ [])
    known_more s =
        let opened_row : opens o p.row ≡ true = known_at.holder containers open_parent in
        let shown : (xs : List ℕ) → times s (cond (opens o p.row) xs []) ≡ times s xs = λ xs. ap (λ b. times s (cond b xs [])) opened_row in
        let seen : known_at.in_view ≡ true = known_at.seen session.opened_set.closed containers open_parent in
        let counts : times s (known o m) + times s (known_below_it o p)
        ≡ times s (known o n) + times s (known_below_it o (with_child before x p)) =
        sym (ap (λ v. times s (known o m) + cond {A = ℕ} v (times s (known_below_it o p)) 0) seen) ∙ known_at.counts s ∙ ap
        (λ v. times s (known o n) + cond {A = ℕ} v (times s (known_below_it o (with_child before x p))) 0) seen in
        omega (
          arith,
          counts,
          shown (known o p.children),
          shown
              (known o (put_before before x p.children)),
          put-known before x o s p.children,
          new_known s,
        )

    pub IsSession-attached : IsSession m (attached x.row.serial (session_of o pushed since))
    IsSession-attached = IsSession-more n m o o pushed since (x.row.serial ∷ []) known_more set_after session

    pub Stands-attached : (b : BindingValue) → Stands n (session_of o pushed since) b
        → Stands m (attached x.row.serial (session_of o pushed since)) (with_bound x.row.serial b)
    Stands-attached b stands =
        Stands-more n m o o pushed since [] (x.row.serial ∷ []) known_more (λ s. omega (arith, known-tally o s m, distinct s))
        (λ s. or-false (o s)) b session stands
      where
        or-false : (b : Bool) → b ≡ (b || false)
        or-false true = refl
        or-false false = refl

  -- it is not
  module _ (shut_parent : o p.row.serial ≡ false) where
    known_same : (s : ℕ) → times s (known o m) ≡ times s (known o n)
    known_same s =
        let nothing : (v : Bool) (k l a b : ℕ) → a ≡ 0 → b ≡ 0 → k + cond {A = ℕ} v a 0 ≡ l + cond {A = ℕ} v b 0
        → k ≡ l = λ v k l a b f g e. omega (arith, ap (λ c. cond {A = ℕ} v c 0) f, ap (λ c. cond {A = ℕ} v c 0) g, zeros v) in
        nothing known_at.in_view _ _ _ _ (none_below (holds p.row.label.kind) (o p.row.serial) s (known o p.children) shut_parent)
        (none_below (holds p.row.label.kind) (o p.row.serial) s (known o (put_before before x p.children)) shut_parent)
        (known_at.counts s)
      where
        zeros : (v : Bool) → cond {A = ℕ} v 0 0 ≡ 0
        zeros true = refl
        zeros false = refl

    pub IsSession-apart : IsSession m (session_of o pushed since)
    IsSession-apart = IsSession-same n m o pushed since known_same set_after session

    pub Stands-apart : (b : BindingValue) → Stands n (session_of o pushed since) b → Stands m (session_of o pushed since) b
    Stands-apart b stands = Stands-same n m o pushed since known_same (λ s. omega (arith, known-tally o s m, distinct s)) b session stands
