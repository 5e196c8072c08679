-- One node of a page is changed: what is opened and what is known then.
use Rattle.std.proofs.Common.{◌≡◌, ℕ, ◌+◌, ◌<◌, ◌≤◌, ◌==◌, Bool, true, false, cond, not, ◌&&◌, ◌||◌, List, [], ◌++◌, append-nil, length}
use Rattle.std.proofs.Common.{length-append, drop, None, refl, sym, ap, subst, ◌∙◌, arith}
use Rattle.std.proofs.lemmas.Bool.{and_from}
use Rattle.std.proofs.lemmas.List.{drop-append-le}
use Rattle.node_tree.specs.Nodes.{Nodes, none, node, Branch}
use Rattle.node_tree.specs.Keys.{tally, At, here, within, past}
use Rattle.node_tree.specs.Labels.{holds}
use Rattle.node_tree.proofs.KeyLemmas.{At-tally}
use Rattle.page_tree.specs.Pages.{PageRow, row_serial}
use Rattle.node_binding.specs.Counts.{times, stands_in, last_standing}
use Rattle.node_binding.specs.Cuts.{opens, known}
use Rattle.node_binding.specs.Openings.{containers_within, is_unopened, is_closed, has_roots, IsOpenedSet}
use Rattle.node_binding.specs.Sessions.{IsSession, session_of}
use Rattle.node_binding.specs.Bindings.{BindingValue, Stands}
use Rattle.node_binding.proofs.Places.{is_in-times, times-is_in, place-some}
use Rattle.node_binding.proofs.SessionLemmas.{times-known}
use Rattle.node_binding.proofs.GrowLemmas.{place-append, Stands-more}
use Rattle.node_binding.proofs.OpeningLemmas.{AreDistinct, goes_on, self_times, at_root, in_children, in_rest, times-reached}
use Rattle.node_binding.proofs.OpenedLemmas.{stand_more, not_there}
use Rattle.node_binding.proofs.AnewLemmas.{and-first, and-second, unopened-at}

-- the changed node keeps its serial and its kind
pub record IsAlike (old new : Branch PageRow) : Type 0 where
  pub serial : new.row.serial ≡ old.row.serial
  pub kind : new.row.label.kind ≡ old.row.label.kind

pub times-shown : (b : Bool) (s : ℕ) (xs : List ℕ) → times s (cond b xs []) ≡ cond {A = ℕ} b (times s xs) 0
times-shown true s xs = refl
times-shown false s xs = refl

holds_from : (h : Bool) → not (cond {A = ℕ} (h && true) 1 0 == 0) ≡ true → h ≡ true
holds_from true e = refl
holds_from false e = cc

there_from : (g : Bool) (k : ℕ) → not (cond {A = ℕ} g k 0 == 0) ≡ true → not (k == 0) ≡ true
there_from true k e = e
there_from false k e = cc

within_step : (g v : Bool) (first km kn a b rest : ℕ) → km + cond {A = ℕ} v a 0 ≡ kn + cond {A = ℕ} v b 0
    → (first + (cond {A = ℕ} g km 0 + rest)) + cond {A = ℕ} (cond g v false) a 0
    ≡ (first + (cond {A = ℕ} g kn 0 + rest)) + cond {A = ℕ} (cond g v false) b 0
within_step true v first km kn a b rest e = omega arith
within_step false v first km kn a b rest e = omega arith

seen_step : (h a v x y z : Bool) → (a ≡ true → h ≡ true) → (x ≡ true → v ≡ true) → (a ≡ false → y ≡ true → ⊥) → (cond a x y && z) ≡ true
    → cond (cond h a false) v false ≡ true
seen_step true true v x y z f g k e = g (and-first x z e)
seen_step false true v x y z f g k e = let no_holder : false ≡ true = f refl in cc
seen_step h false v x y z f g k e = absurd (k refl (and-first y z e))

opened_step : (h a : Bool) → (a ≡ true → h ≡ true) → a ≡ true → cond h a false ≡ true
opened_step true a f e = e
opened_step false a f e = let no_holder : false ≡ true = f e in cc

mono : (g : Bool) (k m n x y : ℕ) → m ≤ n → x ≤ y → cond {A = ℕ} g (k + m) 0 + x ≤ cond {A = ℕ} g (k + n) 0 + y
mono true k m n x y h l = omega arith
mono false k m n x y h l = omega arith

module _ (o : ℕ → Bool) where
  -- what is known below a node
  abbrev pub known_below_it : Branch PageRow → List ℕ
  known_below_it b = cond (opens o b.row) (known o b.children) []

  -- each opened node is a container
  abbrev pub AreContainersOpened : Nodes PageRow → Type 0
  AreContainersOpened none = Unit {0}
  AreContainersOpened (node r c t) = (o r.serial ≡ true → holds r.label.kind ≡ true) × AreContainersOpened c × AreContainersOpened t

  pub containers-live : (n : Nodes PageRow) → AreDistinct n
      → ((s : ℕ) → 0 < tally row_serial s n → o s ≡ true → stands_in s (containers_within None n) ≡ true) → AreContainersOpened n
  containers-live none distinct live = tt
  containers-live (node r c t) distinct live = (
    λ e. holds_from (holds r.label.kind)
        (sym (ap (λ m. not (m == 0)) (at_root None r c t distinct)) ∙ live r.serial (omega (arith, self_times r.serial)) e),
    containers-live c (λ s. omega (arith, distinct s))
        (λ s h e. there_from (goes_on None r) (times s (containers_within None c))
        (sym (ap (λ m. not (m == 0)) (in_children None r c t distinct s h)) ∙ live s (omega arith) e)),
    containers-live t (λ s. omega (arith, distinct s))
        (λ s h e. sym (ap (λ m. not (m == 0)) (in_rest None r c t distinct s h)) ∙ live s (omega arith) e),
  )

  -- what changes of the known nodes: what is known below the changed one, where it is known itself
  pub record KnownAt (old new : Branch PageRow) (n m : Nodes PageRow) : Type 0 where
    pub in_view : Bool
    pub counts : (s : ℕ) → times s (known o m) + cond {A = ℕ} in_view (times s (known_below_it old)) 0
        ≡ times s (known o n) + cond {A = ℕ} in_view (times s (known_below_it new)) 0
    pub seen : is_closed o n ≡ true → AreContainersOpened n → o old.row.serial ≡ true → in_view ≡ true
    pub holder : AreContainersOpened n → o old.row.serial ≡ true → opens o old.row ≡ true

  module _ {old new : Branch PageRow} (alike : IsAlike old new) where
    same_row : opens o new.row ≡ opens o old.row
    same_row = ap (λ k. cond (holds k) (o new.row.serial) false) alike.kind ∙ ap
        (λ s. cond (holds old.row.label.kind) (o s) false) alike.serial

    pub known-at : {depth : ℕ} {n m : Nodes PageRow} → At old new depth n m → KnownAt old new n m
    known-at (here t) = record {
      in_view = true;
      counts = λ s. omega (
        arith,
        times-known o (λ x. x) s new.row new.children t,
        times-known o (λ x. x) s old.row old.children t,
        times-shown (opens o new.row) s (known o new.children),
        times-shown (opens o old.row) s (known o old.children),
        ap (λ k. cond {A = ℕ} (k == s) 1 0) alike.serial,
      );
      seen = λ closed containers e. refl;
      holder = λ containers e. opened_step (holds old.row.label.kind) (o old.row.serial) containers.0 e;
    }
    known-at (within depth r c m t e) =
        let inner = known-at e in
        record {
          in_view = cond (opens o r) inner.in_view false;
          counts = λ s.
              ap (λ k. k + cond {A = ℕ} (cond (opens o r) inner.in_view false) (times s (known_below_it old)) 0)
              (times-known o (λ x. x) s r m t)
              ∙ within_step (opens o r) inner.in_view (cond {A = ℕ} (r.serial == s) 1 0) (times s (known o m)) (times s (known o c))
              (times s (known_below_it old)) (times s (known_below_it new)) (times s (known o t)) (inner.counts s)
              ∙ sym (ap (λ k. k + cond {A = ℕ} (cond (opens o r) inner.in_view false) (times s (known_below_it new)) 0)
              (times-known o (λ x. x) s r c t));
          seen = λ closed containers is. seen_step (holds r.label.kind) (o r.serial) inner.in_view (is_closed o c) (is_unopened o c)
              (is_closed o t) containers.0 (λ k. inner.seen k containers.1 is)
              (λ _ shut. let no : false ≡ true = sym (unopened-at o c shut old.row.serial (At-tally row_serial e)) ∙ is in cc) closed;
          holder = λ containers. inner.holder containers.1;
        }
    known-at (past depth r c t m e) =
        let inner = known-at e in
        record {
          in_view = inner.in_view;
          counts = λ s. omega (arith, inner.counts s, times-known o (λ x. x) s r c m, times-known o (λ x. x) s r c t);
          seen = λ closed containers is. inner.seen
              (and-second (cond (o r.serial) (is_closed o c) (is_unopened o c)) (is_closed o t) closed) containers.2 is;
          holder = λ containers. inner.holder containers.2;
        }

    pub rooted-at : {depth : ℕ} {n m : Nodes PageRow} → At old new depth n m → has_roots o n ≡ true → has_roots o m ≡ true
    rooted-at (here t) e = ap (λ s. o s && has_roots o t) alike.serial ∙ e
    rooted-at (within depth r c m t at) e = e
    rooted-at (past depth r c t m at) e = and_from (o r.serial) (has_roots o m) (and-first (o r.serial) (has_roots o t) e)
        (rooted-at at (and-second (o r.serial) (has_roots o t) e))

    module _ (more : (s : ℕ) → times s (containers_within None old.children) ≤ times s (containers_within None new.children)) where
      pub reached-at : {depth : ℕ} {n m : Nodes PageRow} → At old new depth n m → (s : ℕ)
          → times s (containers_within None n) ≤ times s (containers_within None m)
      reached-at (here t) s =
          let row : cond {A = ℕ} (old.row.serial == s) 1 0
          ≡ cond {A = ℕ} (new.row.serial == s) 1 0 = ap (λ k. cond {A = ℕ} (k == s) 1 0) (sym alike.serial) in
          let kind : cond {A = ℕ} (goes_on None old.row)
          (cond {A = ℕ} (new.row.serial == s) 1 0 + times s (containers_within None old.children)) 0
          ≡ cond {A = ℕ} (goes_on None new.row)
          (cond {A = ℕ} (new.row.serial == s) 1 0 + times s (containers_within None old.children)) 0 = ap
          (λ k. cond {A = ℕ} (holds k && true)
          (cond {A = ℕ} (new.row.serial == s) 1 0 + times s (containers_within None old.children)) 0) (sym alike.kind) in
          let first : cond {A = ℕ} (goes_on None old.row)
          (cond {A = ℕ} (old.row.serial == s) 1 0 + times s (containers_within None old.children)) 0
          ≡ cond {A = ℕ} (goes_on None new.row)
          (cond {A = ℕ} (new.row.serial == s) 1 0 + times s (containers_within None old.children)) 0 = ap
          (λ k. cond {A = ℕ} (goes_on None old.row) (k + times s (containers_within None old.children)) 0) row ∙ kind in
          omega (
            arith,
            first,
            times-reached None s old.row old.children t,
            times-reached None s new.row new.children t,
            mono
                (goes_on None new.row) (cond {A = ℕ} (new.row.serial == s) 1 0) _ _ (times s (containers_within None t))
                (times s (containers_within None t)) (more s) (omega arith),
          )
      reached-at (within depth r c m t e) s =
          omega (
            arith,
            times-reached None s r c t,
            times-reached None s r m t,
            mono (goes_on None r)
                (cond {A = ℕ} (r.serial == s) 1 0) _ _ (times s (containers_within None t)) (times s (containers_within None t))
                (reached-at e s) (omega arith),
          )
      reached-at (past depth r c t m e) s = omega (arith, times-reached None s r c t, times-reached None s r c m, reached-at e s)

    module _ (shut : is_unopened o old.children ≡ true → is_unopened o new.children ≡ true)
        (closed : is_closed o old.children ≡ true → is_closed o new.children ≡ true) where
      row_closed : (a x y z w : Bool) → (x ≡ true → z ≡ true) → (y ≡ true → w ≡ true) → cond a x y ≡ true → cond a z w ≡ true
      row_closed true x y z w f g e = f e
      row_closed false x y z w f g e = g e

      unopened-at_change : {depth : ℕ} {n m : Nodes PageRow} → At old new depth n m → is_unopened o n ≡ true → is_unopened o m ≡ true
      unopened-at_change (here t) e =
          let head = and-first (not (o old.row.serial) && is_unopened o old.children) (is_unopened o t) e in
          and_from (not (o new.row.serial) && is_unopened o new.children) (is_unopened o t)
          (and_from (not (o new.row.serial)) (is_unopened o new.children)
          (ap (λ s. not (o s)) alike.serial ∙ and-first (not (o old.row.serial)) (is_unopened o old.children) head)
          (shut (and-second (not (o old.row.serial)) (is_unopened o old.children) head)))
          (and-second (not (o old.row.serial) && is_unopened o old.children) (is_unopened o t) e)
      unopened-at_change (within depth r c m t at) e =
          let head = and-first (not (o r.serial) && is_unopened o c) (is_unopened o t) e in
          and_from (not (o r.serial) && is_unopened o m) (is_unopened o t)
          (and_from (not (o r.serial)) (is_unopened o m) (and-first (not (o r.serial)) (is_unopened o c) head)
          (unopened-at_change at (and-second (not (o r.serial)) (is_unopened o c) head)))
          (and-second (not (o r.serial) && is_unopened o c) (is_unopened o t) e)
      unopened-at_change (past depth r c t m at) e =
          and_from (not (o r.serial) && is_unopened o c) (is_unopened o m)
          (and-first (not (o r.serial) && is_unopened o c) (is_unopened o t) e)
          (unopened-at_change at (and-second (not (o r.serial) && is_unopened o c) (is_unopened o t) e))

      pub closed-at : {depth : ℕ} {n m : Nodes PageRow} → At old new depth n m → is_closed o n ≡ true → is_closed o m ≡ true
      closed-at (here t) e =
          and_from (cond (o new.row.serial) (is_closed o new.children) (is_unopened o new.children)) (is_closed o t)
          (ap (λ s. cond (o s) (is_closed o new.children) (is_unopened o new.children)) alike.serial
          ∙ row_closed (o old.row.serial) (is_closed o old.children) (is_unopened o old.children) (is_closed o new.children)
          (is_unopened o new.children) closed shut
          (and-first (cond (o old.row.serial) (is_closed o old.children) (is_unopened o old.children)) (is_closed o t) e))
          (and-second (cond (o old.row.serial) (is_closed o old.children) (is_unopened o old.children)) (is_closed o t) e)
      closed-at (within depth r c m t at) e =
          and_from (cond (o r.serial) (is_closed o m) (is_unopened o m)) (is_closed o t)
          (row_closed (o r.serial) (is_closed o c) (is_unopened o c) (is_closed o m) (is_unopened o m) (closed-at at)
          (unopened-at_change at) (and-first (cond (o r.serial) (is_closed o c) (is_unopened o c)) (is_closed o t) e))
          (and-second (cond (o r.serial) (is_closed o c) (is_unopened o c)) (is_closed o t) e)
      closed-at (past depth r c t m at) e =
          and_from (cond (o r.serial) (is_closed o c) (is_unopened o c)) (is_closed o m)
          (and-first (cond (o r.serial) (is_closed o c) (is_unopened o c)) (is_closed o t) e)
          (closed-at at (and-second (cond (o r.serial) (is_closed o c) (is_unopened o c)) (is_closed o t) e))

      -- an opened set stays one
      pub IsOpenedSet-at : ((s : ℕ) → times s (containers_within None old.children) ≤ times s (containers_within None new.children))
          → {depth : ℕ} {n m : Nodes PageRow} → At old new depth n m → IsOpenedSet o n → IsOpenedSet o m
      IsOpenedSet-at more {n = n} {m = m} at set = record {
        live = λ s e. times-is_in (containers_within None m) s
            (omega (arith, is_in-times (containers_within None n) s (set.live s e), reached-at more at s));
        rooted = rooted-at at set.rooted;
        closed = closed-at at set.closed;
      }

-- a session whose opened set is one of the page m, in which the nodes ks are known too, and have their ids
pub IsSession-more : (n m : Nodes PageRow) (o p : ℕ → Bool) (pushed : List ℕ) (since : ℕ) (ks : List ℕ)
    → ((s : ℕ) → times s (known p m) ≡ times s (known o n) + times s ks) → IsOpenedSet p m → IsSession n (session_of o pushed since)
    → IsSession m (session_of p (pushed ++ ks) since)
IsSession-more n m o p pushed since ks more set session = record {
  opened_set = set;
  since_then = omega (arith, length-append pushed ks, session.since_then);
  known_stand = λ s h. rw (drop-append-le since pushed ks session.since_then, place-append (drop since pushed) ks s)
      (stand_more (last_standing ks s) (last_standing (drop since pushed) s) (length (drop since pushed))
      (λ e. session.known_stand s (times-is_in (known o n) s
      (not_there (times s (known o n)) (times s ks) (last_standing ks s) (omega (arith, more s, is_in-times (known p m) s h))
      (place-some ks s) e))));
}

-- the same where the same nodes are known
pub IsSession-same : (n m : Nodes PageRow) (o : ℕ → Bool) (pushed : List ℕ) (since : ℕ)
    → ((s : ℕ) → times s (known o m) ≡ times s (known o n)) → IsOpenedSet o m → IsSession n (session_of o pushed since)
    → IsSession m (session_of o pushed since)
IsSession-same n m o pushed since same set session = record {
  opened_set = set;
  since_then = session.since_then;
  known_stand = λ s h. session.known_stand s (times-is_in (known o n) s (omega (arith, same s, is_in-times (known o m) s h)));
}

pub Stands-same : (n m : Nodes PageRow) (o : ℕ → Bool) (pushed : List ℕ) (since : ℕ)
    → ((s : ℕ) → times s (known o m) ≡ times s (known o n)) → ((s : ℕ) → times s (known o m) ≤ 1) → (b : BindingValue)
    → IsSession n (session_of o pushed since) → Stands n (session_of o pushed since) b → Stands m (session_of o pushed since) b
Stands-same n m o pushed since same distinct b session stands =
    subst (λ (l : List ℕ). Stands m (session_of o l since) b) (append-nil pushed)
    (Stands-more n m o o pushed since [] [] (λ s. omega (arith, same s)) distinct (λ s. or-false (o s)) b session stands)
  where
    or-false : (b : Bool) → b ≡ (b || false)
    or-false true = refl
    or-false false = refl
