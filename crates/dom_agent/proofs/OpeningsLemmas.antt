-- The openings of a request and of a push: each container is known and not opened as its turn comes.
use Rattle.std.proofs.Common.{◌≡◌, ℕ, ◌<◌, ◌==◌, Bool, true, false, cond, not, ◌&&◌, ◌||◌, List, [], ◌∷◌, ◌++◌, map, filter, Option, Some}
use Rattle.std.proofs.Common.{refl, ap, ◌∙◌, arith}
use Rattle.node_tree.specs.Nodes.{Nodes, none, node, Branch, alone}
use Rattle.node_tree.specs.Keys.{tally, has}
use Rattle.node_tree.specs.Labels.{holds}
use Rattle.page_tree.specs.Pages.{PageRow, PageValue, IsValid, row_serial}
use Rattle.node_binding.specs.Counts.{times}
use Rattle.node_binding.specs.Openings.{containers_within, opened_also}
use Rattle.node_binding.specs.Cuts.{known}
use Rattle.node_binding.specs.Sessions.{CanOpen, IsSession, session_of}
use Rattle.node_binding.proofs.OpeningLemmas.{goes_on, AreDistinct, self_times, in_children}
use Rattle.node_binding.proofs.InViewLemmas.{InView, AreInView, in_view-can_open, in_view-grows, in_view-found, in_view-known}
use Rattle.node_binding.proofs.InViewLemmas.{children_in_view, opened-grows, opened_now}
use Rattle.node_binding.proofs.Places.{times-is_in}
use Rattle.node_binding.proofs.StartLemmas.{distinct-alone}
pub use Rattle.node_binding.specs.Deals.{AreOpenings, opened_all}
use Rattle.node_binding.specs.Deals.{more_told}
pub use Rattle.node_binding.proofs.DealLemmas.{opened_all-grows}
use Rattle.node_binding.proofs.DealLemmas.{ask-deals}
use Rattle.dom_agent.specs.Requests.{Opening, requested, ancestors_down, pushing}

-- ---- by a request

-- for the children of a node that stands in the view of a session
pub request-are : (page : PageValue) → IsValid page → (o : ℕ → Bool) (pushed : List ℕ) (since : ℕ)
    → IsSession (alone page.tree) (session_of o pushed since) → (d : Option ℕ) (x : Branch PageRow) → InView o x (alone page.tree)
    → AreOpenings (alone page.tree) o (requested o d (alone x))
request-are page valid o pushed since session d x v =
    (ask-deals more_told page o pushed since d x valid session (in_view-found o x (alone page.tree) (distinct-alone page valid) v)
    (times-is_in (known o (alone page.tree)) x.row.serial (in_view-known o x v))).are

-- ---- by a push

row_is : (h a b : Bool) → h ≡ true → a ≡ b → b ≡ true → cond h a false ≡ true
row_is h a b e f g = rw (e, f, g) refl

-- containers alone have nodes below them
abbrev pub AreContainers : Nodes PageRow → Type 0
AreContainers none = Unit {0}
AreContainers (node r c t) = ((s : ℕ) → has row_serial s c ≡ true → holds r.label.kind ≡ true) × AreContainers c × AreContainers t

abbrev pub by_one : Branch PageRow → Opening
by_one x = record { levels = Some 1; node = x }

abbrev pub closed_of : (ℕ → Bool) → List (Branch PageRow) → List Opening
closed_of o xs = map by_one (filter (λ (x : Branch PageRow). not (o x.row.serial)) xs)

-- nothing is reached where no level is left
pub reached-spent : (n : Nodes PageRow) → containers_within (Some 0) n ≡ []
reached-spent none = refl
reached-spent (node r c t) = nothing (holds r.label.kind) ∙ reached-spent t
  where
    nothing : (h : Bool) → cond (h && false) (r.serial ∷ containers_within (Some 0) c) [] ++ containers_within (Some 0) t
        ≡ containers_within (Some 0) t
    nothing true = refl
    nothing false = refl

-- the nodes below one that is opened by one level are opened as before
pub below_one : (x : Branch PageRow) (p : ℕ → Bool) → AreDistinct (alone x) → (s : ℕ) → 0 < tally row_serial s x.children
    → opened_also (Some 1) x p s ≡ p s
below_one x p apart s h =
    ap (λ k. p s || not (k == 0)) (in_children (Some 1) x.row x.children none apart s h ∙ ap
    (λ xs. cond {A = ℕ} (goes_on (Some 1) x.row) (times s xs) 0) (reached-spent x.children) ∙ zeros (goes_on (Some 1) x.row))
    ∙ or_false (p s)
  where
    zeros : (g : Bool) → cond {A = ℕ} g 0 0 ≡ 0
    zeros true = refl
    zeros false = refl

    or_false : (b : Bool) → (b || false) ≡ b
    or_false true = refl
    or_false false = refl

module _ (n : Nodes PageRow) (distinct : AreDistinct n) (o : ℕ → Bool) (s : ℕ) where
  by_ancestors : (P : List (Branch PageRow) → Type 0) (b : Bool) (xs ys : List (Branch PageRow)) → (b ≡ true → P xs) → (b ≡ false → P ys)
      → P (cond b xs ys)
  by_ancestors P true xs ys f g = f refl
  by_ancestors P false xs ys f g = g refl

  by_first : (p : ℕ → Bool) (x : Branch PageRow) (xs : List (Branch PageRow)) (a : Bool) → (a ≡ true → AreOpenings n p (closed_of o xs))
      → (a ≡ false → CanOpen n p x × AreOpenings n (opened_also (Some 1) x p) (closed_of o xs))
      → AreOpenings n p (map by_one (cond (not a) (x ∷ filter (λ (x : Branch PageRow). not (o x.row.serial)) xs)
      (filter (λ (x : Branch PageRow). not (o x.row.serial)) xs)))
  by_first p x xs true f g = f refl
  by_first p x xs false f g = (refl, (g refl).0, (g refl).1)

  pub pushing-are : (m : Nodes PageRow) (p : ℕ → Bool) → AreContainers m → AreDistinct m → AreInView p n m
      → ((k : ℕ) → 0 < tally row_serial k m → p k ≡ o k) → AreOpenings n p (pushing o s m)
  pushing-are none p containers apart v same = tt
  pushing-are (node r c t) p containers apart v same =
      let x : Branch PageRow = record { row = r; children = c } in
      let q : ℕ → Bool = opened_also (Some 1) x p in
      let at : p r.serial ≡ o r.serial = same r.serial (omega (arith, self_times r.serial)) in
      let apart_x : AreDistinct (alone x) = λ k. omega (arith, apart k) in
      let apart_c : AreDistinct c = λ k. omega (arith, apart k) in
      let was_open : holds r.label.kind ≡ true → o r.serial ≡ true → AreOpenings n p (pushing o s c) =
      λ container is. pushing-are c p containers.1 apart_c
      (children_in_view p x n v.0 (row_is (holds r.label.kind) (p r.serial) (o r.serial) container at is))
      (λ k h. same k (omega arith)) in
      let now_open : holds r.label.kind ≡ true → AreOpenings n q (pushing o s c) =
      λ container. pushing-are c q containers.1 apart_c
      (children_in_view q x n (in_view-grows p q (opened-grows p (Some 1) x) v.0)
      (row_is (holds r.label.kind) (q r.serial) true container (opened_now p (Some 1) x refl container apart_x) refl))
      (λ k h. below_one x p apart_x k h ∙ same k (omega arith)) in
      by_ancestors (λ xs. AreOpenings n p (closed_of o xs)) (has row_serial s c) (x ∷ ancestors_down s c) (ancestors_down s t)
      (λ there. by_first p x (ancestors_down s c) (o r.serial)
      (λ is. was_open (containers.0 s there) is)
      (λ is. (in_view-can_open p x n distinct v.0 (containers.0 s there) (at ∙ is), now_open (containers.0 s there))))
      (λ _. pushing-are t p containers.2 (λ k. omega (arith, apart k)) v.1 (λ k h. same k (omega arith)))
