-- A node that was pushed is known; a node that a path leads to is one of the page.
use Rattle.std.proofs.Common.{◌≡◌, ℕ, ◌+◌, ◌<◌, ◌==◌, Bool, true, false, cond, not, ◌||◌, List, [], ◌∷◌, map, filter, Option, Some, None}
use Rattle.std.proofs.Common.{option_and_then, bytes_eq, ◌⊎◌, inl, inr, ⊎_elim, refl, sym, ap, ◌∙◌, arith}
use Rattle.node_tree.specs.Nodes.{Nodes, none, node, Branch, alone, tree_at}
use Rattle.node_tree.specs.Keys.{tally, has, within}
use Rattle.node_tree.specs.Labels.{holds}
use Rattle.node_tree.proofs.KeyLemmas.{Stands, At-tally, has-there, stands-tree_at, stands-below}
use Rattle.page_tree.specs.Pages.{PageRow, row_serial}
use Rattle.node_binding.specs.Counts.{times}
use Rattle.node_binding.specs.Cuts.{opens, known}
use Rattle.node_binding.specs.Openings.{opened_also}
use Rattle.node_binding.specs.Sessions.{session_of, grown}
use Rattle.node_binding.proofs.OpeningLemmas.{AreDistinct, self_times}
use Rattle.node_binding.proofs.SessionLemmas.{times-known, known_below}
use Rattle.node_binding.proofs.InViewLemmas.{opened_now}
use Rattle.dom_objects.specs.NodeObject.{node_name}
use Rattle.dom_agent.specs.Keepers.{session_keeper}
use Rattle.dom_agent.specs.Paths.{PathStep, child_by, node_by, steps_of, parts_of, node_at_path}
use Rattle.dom_agent.specs.Requests.{Opening, ancestors_down, pushing, all_opened}
use Rattle.dom_agent.proofs.OpeningsLemmas.{AreContainers, opened_all, opened_all-grows, by_one, closed_of, below_one}

-- ---- pushed nodes

-- what is opened when openings were told
pub opened_after : (n : Nodes PageRow) (document : Branch PageRow) (xs : List Opening) (o : ℕ → Bool) (pushed : List ℕ) (since : ℕ)
    → (all_opened (session_keeper n) document xs (session_of o pushed since)).state.opened ≡ Some (opened_all o xs)
opened_after n document [] o pushed since = refl
opened_after n document (y ∷ ys) o pushed since =
    let p : ℕ → Bool = opened_also y.levels y.node o in
    opened_after n document ys p (grown o p n (session_of o pushed since)).pushed since

ahead : (b : Bool) (m : ℕ) → b ≡ true → 0 < cond {A = ℕ} b 1 0 + m
ahead true m e = omega arith
ahead false m e = cc

module _ (o : ℕ → Bool) (s : ℕ) where
  -- where a node is, it is at the first row, or below it, or after it
  by_place : (P : Type 0) (a b c : Bool) → (a || b || c) ≡ true → (b ≡ true → P) → (b ≡ false → a ≡ true → P) → (b ≡ false → c ≡ true → P)
      → P
  by_place P a true c e f g h = f refl
  by_place P true false c e f g h = g refl refl
  by_place P false false c e f g h = h refl e

  -- what a push of a node below the first row opens
  opens_first : (p q : ℕ → Bool) (x : Branch PageRow) (xs : List (Branch PageRow)) (a : Bool) → holds x.row.label.kind ≡ true
      → AreDistinct (alone x) → a ≡ p x.row.serial
      → ((k : ℕ) → opened_all p (map by_one
      (cond (not a) (x ∷ filter (λ (x : Branch PageRow). not (o x.row.serial)) xs)
      (filter (λ (x : Branch PageRow). not (o x.row.serial)) xs))) k ≡ true → q k ≡ true)
      → (q x.row.serial ≡ true) × (((a ≡ true) × ((k : ℕ) → opened_all p (closed_of o xs) k ≡ true → q k ≡ true))
      ⊎ ((a ≡ false) × ((k : ℕ) → opened_all (opened_also (Some 1) x p) (closed_of o xs) k ≡ true → q k ≡ true)))
  opens_first p q x xs true container apart is all =
      (all x.row.serial (opened_all-grows p (closed_of o xs) x.row.serial (sym is)), inl (refl, all))
  opens_first p q x xs false container apart is all = (
    all x.row.serial (opened_all-grows (opened_also (Some 1) x p) (closed_of o xs) x.row.serial
        (opened_now p (Some 1) x refl container apart)),
    inr (refl, all),
  )

  row_open : (h a : Bool) → h ≡ true → a ≡ true → cond h a false ≡ true
  row_open h a e f = rw (e, f) refl

  by_ancestors : (P : List (Branch PageRow) → Type 0) (b : Bool) (xs ys : List (Branch PageRow)) → P (cond b xs ys)
      → (b ≡ true → P xs) × (b ≡ false → P ys)
  by_ancestors P true xs ys f = (λ _. f, λ e. cc)
  by_ancestors P false xs ys f = (λ e. cc, λ _. f)

  pub pushed-known : (q : ℕ → Bool) (m : Nodes PageRow) (p : ℕ → Bool) → AreContainers m → AreDistinct m
      → ((k : ℕ) → 0 < tally row_serial k m → p k ≡ o k) → ((k : ℕ) → opened_all p (pushing o s m) k ≡ true → q k ≡ true)
      → has row_serial s m ≡ true → 0 < times s (known q m)
  pushed-known q none p containers apart same all there = cc
  pushed-known q (node r c t) p containers apart same all there =
      let x : Branch PageRow = record { row = r; children = c } in
      let at : p r.serial ≡ o r.serial = same r.serial (omega (arith, self_times r.serial)) in
      let apart_x : AreDistinct (alone x) = λ k. omega (arith, apart k) in
      let split = by_ancestors (λ xs. (k : ℕ) → opened_all p (closed_of o xs) k ≡ true → q k ≡ true) (has row_serial s c)
      (x ∷ ancestors_down s c) (ancestors_down s t) all in
      by_place (0 < times s (known q (node r c t))) (r.serial == s) (has row_serial s c) (has row_serial s t) there
      (λ in_c. (let first = opens_first p q x (ancestors_down s c) (o r.serial) (containers.0 s in_c) apart_x (sym at) (split.0 in_c) in
      let below : 0 < times s (known q c) = ⊎_elim
      (λ was. pushed-known q c p containers.1 (λ k. omega (arith, apart k)) (λ k h. same k (omega arith)) was.1 in_c)
      (λ now. pushed-known q c (opened_also (Some 1) x p) containers.1 (λ k. omega (arith, apart k))
      (λ k h. below_one x p apart_x k h ∙ same k (omega arith)) now.1 in_c)
      first.1 in
      rw (times-known q (λ k. k) s r c t)
      (known_below q (λ k. k) (opens q r) _ s _ _ (row_open (holds r.label.kind) (q r.serial) (containers.0 s in_c) first.0) below)))
      (λ _ here. rw (times-known q (λ k. k) s r c t) (ahead (r.serial == s) _ here))
      (λ out in_t. (let h : 0 < times s (known q t) = pushed-known q t p containers.2 (λ k. omega (arith, apart k))
      (λ k h. same k (omega arith)) (split.1 out) in_t in
      rw (times-known q (λ k. k) s r c t) (omega (arith, h))))

-- ---- paths

child-stands : (s : PathStep) (m : Nodes PageRow) (x : Branch PageRow) → child_by s m ≡ Some x → Stands x m
child-stands s m x e = found (tree_at s.index m) refl e
  where
    named : (b : Branch PageRow) (t : Bool) → cond t (Some b) None ≡ Some x → b ≡ x
    named b true f = cc
    named b false f = cc

    found : (o : Option (Branch PageRow)) → tree_at s.index m ≡ o
        → option_and_then (λ b. cond (bytes_eq (node_name b.row.label) s.name) (Some b) None) o ≡ Some x → Stands x m
    found None is f = cc
    found (Some b) is f = stands-tree_at s.index m x (is ∙ ap Some (named b (bytes_eq (node_name b.row.label) s.name) f))

through : (m : Nodes PageRow) (x : Branch PageRow) (rest : Branch PageRow → Option (Branch PageRow)) (o : Option (Branch PageRow))
    → ((b : Branch PageRow) → o ≡ Some b → Stands b m) → ((b : Branch PageRow) → rest b ≡ Some x → Stands x b.children)
    → option_and_then rest o ≡ Some x → Stands x m
through m x rest None there later f = cc
through m x rest (Some b) there later f = stands-below b x m (there b refl) (later b f)

node-stands : (steps : List PathStep) (m : Nodes PageRow) (x : Branch PageRow) → node_by steps m ≡ Some x → Stands x m
node-stands [] m x e = cc
node-stands (s ∷ []) m x e = child-stands s m x e
node-stands (s ∷ next ∷ more) m x e =
    through m x (λ (b : Branch PageRow). node_by (next ∷ more) b.children) (child_by s m) (λ b. child-stands s m b)
    (λ b f. node-stands (next ∷ more) b.children x f) e

pub path-there : (path : List ℕ) (document x : Branch PageRow) → node_at_path path document ≡ Some x
    → has row_serial x.row.serial (alone document) ≡ true
path-there path document x e = led (steps_of (parts_of path)) e
  where
    led : (steps : Option (List PathStep)) → option_and_then (λ steps. node_by steps document.children) steps ≡ Some x
        → has row_serial x.row.serial (alone document) ≡ true
    led None f = cc
    led (Some steps) f =
        let s = node-stands steps document.children x f in
        has-there row_serial x.row.serial (alone document) (At-tally row_serial (within s.0 document.row document.children s.1 none s.2))
