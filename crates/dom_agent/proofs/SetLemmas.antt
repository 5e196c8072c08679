-- What requests and pushes open, as sets.
use Rattle.std.proofs.Common.{◌≡◌, ℕ, zero, suc, ◌+◌, ◌<◌, ◌≤◌, ◌==◌, Bool, true, false, cond, not, ◌&&◌, ◌||◌, ◌⊎◌, ◌↔◌, inl, inr, List}
use Rattle.std.proofs.Common.{[], ◌∷◌, ◌++◌, append-nil, zero-add, map, Option, Some, None, refl, sym, ap, subst, ◌∙◌, arith}
use Rattle.std.specs.List.{filter}
use Rattle.std.proofs.lemmas.Bool.{eqb-true}
use Rattle.node_tree.specs.Nodes.{Nodes, none, node, Branch, alone}
use Rattle.node_tree.specs.Keys.{tally, has}
use Rattle.node_tree.specs.Labels.{holds}
use Rattle.node_tree.proofs.KeyLemmas.{has-there, has-absent}
use Rattle.page_tree.specs.Pages.{PageRow, row_serial}
use Rattle.node_binding.specs.Counts.{times, stands_in}
use Rattle.node_binding.specs.Openings.{less, is_spent, containers_within, opened_also}
use Rattle.node_binding.proofs.Places.{suc-is_zero, times-append, is_in-times, times-is_in}
use Rattle.node_binding.proofs.BoundLemmas.{is_in-cons}
use Rattle.node_binding.proofs.OpeningLemmas.{goes_on, self_times, times-reached}
use Rattle.node_binding.proofs.AnewLemmas.{and-first, and-second}
use Rattle.node_binding.specs.Deals.{capped, dealt, deal, more_told}
use Rattle.node_binding.proofs.DealLemmas.{spent-capped, less-capped, capped-zero}
use Rattle.dom_agent.specs.Requests.{Opening, requested, ancestors_down}
use Rattle.dom_agent.specs.Distances.{StandsAt, root, below, beside, IsWithin, IsReached, IsAncestor}
use Rattle.dom_agent.proofs.OpeningsLemmas.{AreContainers, opened_all, reached-spent}

-- ---- lists as tests

or_sum : (a b : ℕ) → not (a + b == 0) ≡ (not (a == 0) || not (b == 0))
or_sum zero b = ap (λ m. not (m == 0)) (zero-add b)
or_sum (suc a) b =
    let sum : suc a + b ≡ suc (a + b) = omega arith in
    ap (λ m. not (m == 0)) sum ∙ ap not (suc-is_zero (a + b)) ∙ sym (ap (λ v. not v || not (b == 0)) (suc-is_zero a))

pub is_in-append : (s : ℕ) (xs ys : List ℕ) → stands_in s (xs ++ ys) ≡ (stands_in s xs || stands_in s ys)
is_in-append s xs ys = ap (λ m. not (m == 0)) (times-append s xs ys) ∙ or_sum (times s xs) (times s ys)

or_false : (b : Bool) → b ≡ (b || false)
or_false true = refl
or_false false = refl

or_assoc : (a b c : Bool) → ((a || b) || c) ≡ (a || (b || c))
or_assoc true b c = refl
or_assoc false b c = refl

or_both : (x a b c d : Bool) → (x || a) ≡ (x || c) → (x || b) ≡ (x || d) → (x || (a || b)) ≡ (x || (c || d))
or_both true a b c d e f = refl
or_both false a b c d e f = ap (λ v. v || b) e ∙ ap (λ v. c || v) f

pub or_split : (a b : Bool) → (a || b) ≡ true → (a ≡ true) ⊎ (b ≡ true)
or_split true b e = inl refl
or_split false b e = inr e

pub or_joined : (a b : Bool) → (a ≡ true) ⊎ (b ≡ true) → (a || b) ≡ true
or_joined true b e = refl
or_joined false b (inl e) = cc
or_joined false b (inr e) = e

-- ---- what openings open

abbrev pub all_reached : List Opening → List ℕ
all_reached [] = []
all_reached (x ∷ xs) = containers_within x.levels (alone x.node) ++ all_reached xs

all_reached-append : (s : ℕ) (xs ys : List Opening)
    → stands_in s (all_reached (xs ++ ys)) ≡ (stands_in s (all_reached xs) || stands_in s (all_reached ys))
all_reached-append s [] ys = refl
all_reached-append s (x ∷ xs) ys =
    is_in-append s (containers_within x.levels (alone x.node)) (all_reached (xs ++ ys))
    ∙ ap (λ v. stands_in s (containers_within x.levels (alone x.node)) || v) (all_reached-append s xs ys)
    ∙ sym (or_assoc (stands_in s (containers_within x.levels (alone x.node))) (stands_in s (all_reached xs)) (stands_in s (all_reached ys)))
    ∙ ap (λ v. v || stands_in s (all_reached ys)) (sym (is_in-append s (containers_within x.levels (alone x.node)) (all_reached xs)))

pub opened_all-set : (os : List Opening) (p : ℕ → Bool) (s : ℕ) → opened_all p os s ≡ (p s || stands_in s (all_reached os))
opened_all-set [] p s = or_false (p s)
opened_all-set (x ∷ xs) p s =
    opened_all-set xs (opened_also x.levels x.node p) s
    ∙ or_assoc (p s) (stands_in s (containers_within x.levels (alone x.node))) (stands_in s (all_reached xs))
    ∙ ap (λ v. p s || v) (sym (is_in-append s (containers_within x.levels (alone x.node)) (all_reached xs)))

-- ---- a deal

or_swap : (a b c d : Bool) → ((a || b) || (c || d)) ≡ ((a || c) || (b || d))
or_swap true b c d = refl
or_swap false true true d = refl
or_swap false true false d = refl
or_swap false false c d = refl

module _ (m : ℕ) (s : ℕ) where
  abbrev reached : Option ℕ → Nodes PageRow → Bool
  reached d n = stands_in s (containers_within d n)

  abbrev dealt_there : ℕ → Option ℕ → Nodes PageRow → Bool
  dealt_there left d n = stands_in s (all_reached (dealt m left d n))

  -- below the first tree's root a piece has a level less
  first_reached : (k : ℕ) (d : Option ℕ) (r : PageRow) (c : Nodes PageRow) (g : Bool) → (holds r.label.kind && not (is_spent d)) ≡ g
      → stands_in s (cond (holds r.label.kind && not (is_spent (capped (suc k) d)))
      (r.serial ∷ containers_within (less (capped (suc k) d)) c) [])
      ≡ stands_in s (cond g (r.serial ∷ containers_within (capped k (less d)) c) [])
  first_reached k d r c g is =
      ap (λ b. stands_in s (cond (holds r.label.kind && not b) (r.serial ∷ containers_within (less (capped (suc k) d)) c) []))
      (spent-capped k d)
      ∙ ap (λ b. stands_in s (cond b (r.serial ∷ containers_within (less (capped (suc k) d)) c) [])) is
      ∙ ap (λ e. stands_in s (cond g (r.serial ∷ containers_within e c) [])) (less-capped k d)

  -- the first tree: what its piece opens, and what further pieces open
  one_dealt : (g : Bool) (r : PageRow) (k : ℕ) (d : Option ℕ) (c : Nodes PageRow)
      → (reached (capped k (less d)) c || dealt_there k (less d) c) ≡ reached (less d) c
      → (stands_in s (cond g (r.serial ∷ containers_within (capped k (less d)) c) [])
      || stands_in s (all_reached (cond g (dealt m k (less d) c) [])))
      ≡ stands_in s (cond g (r.serial ∷ containers_within (less d) c) [])
  one_dealt true r k d c rest =
      ap (λ b. b || dealt_there k (less d) c) (is_in-cons r.serial s (containers_within (capped k (less d)) c))
      ∙ or_assoc (r.serial == s) (reached (capped k (less d)) c) (dealt_there k (less d) c)
      ∙ ap (λ b. (r.serial == s) || b) rest
      ∙ sym (is_in-cons r.serial s (containers_within (less d) c))
  one_dealt false r k d c rest = refl

  -- a tree that is opened by a piece of its own
  new_dealt : (g : Bool) (r : PageRow) (d : Option ℕ) (c : Nodes PageRow) → (holds r.label.kind && not (is_spent d)) ≡ g
      → (reached (capped m (less d)) c || dealt_there m (less d) c) ≡ reached (less d) c
      → stands_in s (all_reached (cond g
      (record { levels = capped (suc m) d; node = record { row = r; children = c } } ∷ dealt m m (less d) c) []))
      ≡ stands_in s (cond g (r.serial ∷ containers_within (less d) c) [])
  new_dealt true r d c is rest =
      is_in-append s (containers_within (capped (suc m) d) (alone (record { row = r; children = c }))) (all_reached (dealt m m (less d) c))
      ∙ ap (λ b. b || dealt_there m (less d) c)
      (ap (stands_in s) (append-nil (cond (holds r.label.kind && not (is_spent (capped (suc m) d)))
      (r.serial ∷ containers_within (less (capped (suc m) d)) c) [])) ∙ first_reached m d r c true is)
      ∙ one_dealt true r m d c rest
  new_dealt false r d c is rest = refl

  none_reached : (n : Nodes PageRow) (d : Option ℕ) → reached (capped 0 d) n ≡ false
  none_reached n d = ap (λ e. reached e n) (capped-zero d) ∙ ap (stands_in s) (reached-spent n)

  -- what is opened already to the levels that are left, and what further pieces open, is what d levels are
  pub dealt-set : (left : ℕ) (d : Option ℕ) (n : Nodes PageRow) → (reached (capped left d) n || dealt_there left d n) ≡ reached d n
  dealt-set left d none = refl
  dealt-set zero d (node r c t) =
      let x : Opening = record { levels = capped (suc m) d; node = record { row = r; children = c } } in
      let g : Bool = holds r.label.kind && not (is_spent d) in
      ap (λ b. b || dealt_there 0 d (node r c t)) (none_reached (node r c t) d)
      ∙ all_reached-append s (cond g (x ∷ dealt m m (less d) c) []) (dealt m 0 d t)
      ∙ ap (λ b. b || dealt_there 0 d t) (new_dealt g r d c refl (dealt-set m (less d) c))
      ∙ ap (λ b. stands_in s (cond g (r.serial ∷ containers_within (less d) c) []) || b)
      (ap (λ b. b || dealt_there 0 d t) (sym (none_reached t d)) ∙ dealt-set zero d t)
      ∙ sym (is_in-append s (cond g (r.serial ∷ containers_within (less d) c) []) (containers_within d t))
  dealt-set (suc k) d (node r c t) =
      let g : Bool = holds r.label.kind && not (is_spent d) in
      ap (λ b. b || dealt_there (suc k) d (node r c t))
      (is_in-append s (cond (holds r.label.kind && not (is_spent (capped (suc k) d)))
      (r.serial ∷ containers_within (less (capped (suc k) d)) c) []) (containers_within (capped (suc k) d) t)
      ∙ ap (λ b. b || reached (capped (suc k) d) t) (first_reached k d r c g refl))
      ∙ ap (λ b. (stands_in s (cond g (r.serial ∷ containers_within (capped k (less d)) c) []) || reached (capped (suc k) d) t) || b)
      (all_reached-append s (cond g (dealt m k (less d) c) []) (dealt m (suc k) d t))
      ∙ or_swap (stands_in s (cond g (r.serial ∷ containers_within (capped k (less d)) c) [])) (reached (capped (suc k) d) t)
      (stands_in s (all_reached (cond g (dealt m k (less d) c) []))) (dealt_there (suc k) d t)
      ∙ ap (λ b. b || (reached (capped (suc k) d) t || dealt_there (suc k) d t)) (one_dealt g r k d c (dealt-set k (less d) c))
      ∙ ap (λ b. stands_in s (cond g (r.serial ∷ containers_within (less d) c) []) || b) (dealt-set (suc k) d t)
      ∙ sym (is_in-append s (cond g (r.serial ∷ containers_within (less d) c) []) (containers_within d t))

  -- a deal opens what one opening would
  pub deal-set : (d : Option ℕ) (x : Branch PageRow) → stands_in s (all_reached (deal m d x)) ≡ reached d (alone x)
  deal-set d x = ap (λ b. b || dealt_there 0 d (alone x)) (sym (none_reached (alone x) d)) ∙ dealt-set 0 d (alone x)

-- ---- a request

module _ (o : ℕ → Bool) where
  first_set : (s : ℕ) (d : Option ℕ) (r : PageRow) (c : Nodes PageRow) (g a : Bool) → (holds r.label.kind && not (is_spent d)) ≡ g
      → o r.serial ≡ a → (o s || stands_in s (all_reached (requested o (less d) c))) ≡ (o s || stands_in s (containers_within (less d) c))
      → (o s || stands_in s (all_reached
      (cond g (cond a (requested o (less d) c) (deal more_told d (record { row = r; children = c }))) [])))
      ≡ (o s || stands_in s (cond g (r.serial ∷ containers_within (less d) c) []))
  first_set s d r c true true g_is a_is rest =
      rest ∙ passed (r.serial == s) refl ∙ ap (λ v. o s || v) (sym (is_in-cons r.serial s (containers_within (less d) c)))
    where
      passed : (b : Bool) → (r.serial == s) ≡ b
          → (o s || stands_in s (containers_within (less d) c)) ≡ (o s || ((r.serial == s) || stands_in s (containers_within (less d) c)))
      passed true is =
          let same : o s ≡ true = ap o (sym (eqb-true r.serial s is)) ∙ a_is in
          ap (λ v. v || stands_in s (containers_within (less d) c)) same ∙ sym
          (ap (λ v. v || ((r.serial == s) || stands_in s (containers_within (less d) c))) same)
      passed false is = ap (λ v. o s || (v || stands_in s (containers_within (less d) c))) (sym is)
  first_set s d r c true false g_is a_is rest =
      ap (λ b. o s || b) (deal-set more_told s d (record { row = r; children = c }))
      ∙ ap (λ l. o s || stands_in s l)
      (append-nil (cond (holds r.label.kind && not (is_spent d)) (r.serial ∷ containers_within (less d) c) [])
      ∙ ap (λ b. cond b (r.serial ∷ containers_within (less d) c) []) g_is)
  first_set s d r c false a g_is a_is rest = refl

  pub requested-set : (s : ℕ) (d : Option ℕ) (f : Nodes PageRow)
      → (o s || stands_in s (all_reached (requested o d f))) ≡ (o s || stands_in s (containers_within d f))
  requested-set s d none = refl
  requested-set s d (node r c t) =
      let g : Bool = holds r.label.kind && not (is_spent d) in
      let first : List Opening = cond g
      (cond (o r.serial) (requested o (less d) c) (deal more_told d (record { row = r; children = c }))) [] in
      ap (λ v. o s || v) (all_reached-append s first (requested o d t))
      ∙ or_both (o s) _ _ _ _ (first_set s d r c g (o r.serial) refl refl (requested-set s (less d) c)) (requested-set s d t)
      ∙ ap (λ v. o s || v) (sym (is_in-append s (cond g (r.serial ∷ containers_within (less d) c) []) (containers_within d t)))

-- ---- distances

module _ (y : Branch PageRow) where
  pub stands-tally : {k : ℕ} {n : Nodes PageRow} → StandsAt y k n → 0 < tally row_serial y.row.serial n
  stands-tally (root t) = omega (arith, self_times y.row.serial)
  stands-tally (below k r c t v) = omega (arith, stands-tally v)
  stands-tally (beside k r c t v) = omega (arith, stands-tally v)

pub near_here : (d : Option ℕ) → is_spent d ≡ false → IsWithin 0 d
near_here None e = tt
near_here (Some zero) e = cc
near_here (Some (suc d)) e = omega arith

pub near_below : (d : Option ℕ) (k : ℕ) → is_spent d ≡ false → IsWithin k (less d) → IsWithin (suc k) d
near_below None k e h = tt
near_below (Some zero) k e h = cc
near_below (Some (suc d)) k e h = omega arith

near_left : (d : Option ℕ) (k : ℕ) → IsWithin k d → is_spent d ≡ false
near_left None k h = refl
near_left (Some zero) k h = absurd (omega arith)
near_left (Some (suc d)) k h = refl

near_less : (d : Option ℕ) (k : ℕ) → IsWithin (suc k) d → IsWithin k (less d)
near_less None k h = tt
near_less (Some zero) k h = absurd (omega arith)
near_less (Some (suc d)) k h = omega arith

pub unspent : (s : Bool) → not s ≡ true → s ≡ false
unspent true e = cc
unspent false e = refl

-- a container of these trees at a distance below d
pub record IsReachedIn (d : Option ℕ) (n : Nodes PageRow) (s : ℕ) : Type 0 where
  pub container : Branch PageRow
  pub distance : ℕ
  pub stands : StandsAt container distance n
  pub near : IsWithin distance d
  pub can_hold : holds container.row.label.kind ≡ true
  pub serial : container.row.serial ≡ s

where_from : (g b : Bool) (m k : ℕ) → 0 < cond {A = ℕ} g (cond {A = ℕ} b 1 0 + m) 0 + k
    → ((g ≡ true) × (b ≡ true)) ⊎ (((g ≡ true) × (0 < m)) ⊎ (0 < k))
where_from true true m k h = inl (refl, refl)
where_from true false zero k h = inr (inr (omega arith))
where_from true false (suc m) k h = inr (inl (refl, omega arith))
where_from false b m k h = inr (inr (omega arith))

pub in-reached : (d : Option ℕ) (n : Nodes PageRow) (s : ℕ) → 0 < times s (containers_within d n) → IsReachedIn d n s
in-reached d none s h = absurd (omega arith)
in-reached d (node r c t) s h =
    elim (where_from (goes_on d r) (r.serial == s) (times s (containers_within (less d) c)) (times s (containers_within d t))
    (omega (arith, times-reached d s r c t))) [
      | inl p ↦ record {
        container = record { row = r; children = c };
        distance = 0;
        stands = root t;
        near = near_here d (unspent (is_spent d) (and-second (holds r.label.kind) (not (is_spent d)) p.0));
        can_hold = and-first (holds r.label.kind) (not (is_spent d)) p.0;
        serial = eqb-true r.serial s p.1;
      }
      | inr q ↦ elim q [
        | inl p ↦
            let rest = in-reached (less d) c s p.1 in
            record {
              container = rest.container;
              distance = suc rest.distance;
              stands = below rest.distance r c t rest.stands;
              near = near_below d rest.distance (unspent (is_spent d) (and-second (holds r.label.kind) (not (is_spent d)) p.0)) rest.near;
              can_hold = rest.can_hold;
              serial = rest.serial;
            }
        | inr p ↦
            let rest = in-reached d t s p in
            record {
              container = rest.container;
              distance = rest.distance;
              stands = beside rest.distance r c t rest.stands;
              near = rest.near;
              can_hold = rest.can_hold;
              serial = rest.serial;
            }
      ]
    ]

shown_some : (g : Bool) (m k : ℕ) → g ≡ true → 0 < m → 0 < cond {A = ℕ} g m 0 + k
shown_some true m k e h = omega arith
shown_some false m k e h = cc

goes_is : (h s : Bool) → h ≡ true → s ≡ false → (h && not s) ≡ true
goes_is h s e f = rw (e, f) refl

module _ (y : Branch PageRow) (can_hold : holds y.row.label.kind ≡ true) where
  pub reached-in : (d : Option ℕ) {k : ℕ} {n : Nodes PageRow} → StandsAt y k n → IsWithin k d → AreContainers n
      → 0 < times y.row.serial (containers_within d n)
  reached-in d (root t) near are =
      rw (times-reached d y.row.serial y.row y.children t)
      (shown_some (goes_on d y.row) _ _ (goes_is (holds y.row.label.kind) (is_spent d) can_hold (near_left d 0 near))
      (omega (arith, self_times y.row.serial)))
  reached-in d (below k r c t v) near are =
      let holder : holds r.label.kind ≡ true = are.0 y.row.serial (has-there row_serial y.row.serial c (stands-tally y v)) in
      rw (times-reached d y.row.serial r c t)
      (shown_some (goes_on d r) _ _ (goes_is (holds r.label.kind) (is_spent d) holder (near_left d (suc k) near))
      (omega (arith, reached-in (less d) v (near_less d k near) are.1)))
  reached-in d (beside k r c t v) near are = rw (times-reached d y.row.serial r c t) (omega (arith, reached-in d v near are.2))

-- the test is the set
pub reached-set : (d : Option ℕ) (x : Branch PageRow) → AreContainers (alone x) → (s : ℕ)
    → (stands_in s (containers_within d (alone x)) ≡ true) ↔ IsReached d x s
reached-set d x are s = (
  λ e.
      let at = in-reached d (alone x) s (is_in-times (containers_within d (alone x)) s e) in
      record {
        container = at.container;
        distance = at.distance;
        stands = at.stands;
        near = at.near;
        can_hold = at.can_hold;
        serial = at.serial;
      },
  λ at. subst (λ (k : ℕ). stands_in k (containers_within d (alone x)) ≡ true) at.serial
      (times-is_in (containers_within d (alone x)) at.container.row.serial (reached-in at.container at.can_hold d at.stands at.near are)),
)

-- ---- a push

abbrev pub serials_of : List (Branch PageRow) → List ℕ
serials_of xs = map (λ (x : Branch PageRow). x.row.serial) xs

abbrev pub AllHold : List (Branch PageRow) → Type 0
AllHold [] = Unit {0}
AllHold (x ∷ xs) = (holds x.row.label.kind ≡ true) × AllHold xs

either : {A : Type 0} (P : A → Type 0) (b : Bool) (x y : A) → (b ≡ true → P x) → (b ≡ false → P y) → P (cond b x y)
either P true x y f g = f refl
either P false x y f g = g refl

pub ancestors-hold : (s : ℕ) (n : Nodes PageRow) → AreContainers n → AllHold (ancestors_down s n)
ancestors-hold s none are = tt
ancestors-hold s (node r c t) are =
    either AllHold (has row_serial s c) (record { row = r; children = c } ∷ ancestors_down s c) (ancestors_down s t)
    (λ e. (are.0 s e, ancestors-hold s c are.1)) (λ _. ancestors-hold s t are.2)

abbrev by_one : Branch PageRow → Opening
by_one x = record { levels = Some 1; node = x }

module _ (o : ℕ → Bool) (t : ℕ) where
  one_level : (x : Branch PageRow) → holds x.row.label.kind ≡ true → containers_within (Some 1) (alone x) ≡ x.row.serial ∷ []
  one_level x e =
      append-nil (cond (holds x.row.label.kind && true) (x.row.serial ∷ containers_within (Some 0) x.children) [])
      ∙ ap (λ b. cond (b && true) (x.row.serial ∷ containers_within (Some 0) x.children) []) e
      ∙ ap (λ l. x.row.serial ∷ l) (reached-spent x.children)

  push_one : (x : Branch PageRow) (os : List Opening) (xs : List ℕ) (a : Bool) → o x.row.serial ≡ a → holds x.row.label.kind ≡ true
      → (o t || stands_in t (all_reached os)) ≡ (o t || stands_in t xs)
      → (o t || stands_in t (all_reached (cond (not a) (by_one x ∷ os) os))) ≡ (o t || stands_in t (x.row.serial ∷ xs))
  push_one x os xs true a_is e rest =
      rest ∙ passed (x.row.serial == t) refl ∙ ap (λ v. o t || v) (sym (is_in-cons x.row.serial t xs))
    where
      passed : (b : Bool) → (x.row.serial == t) ≡ b → (o t || stands_in t xs) ≡ (o t || ((x.row.serial == t) || stands_in t xs))
      passed true is =
          let same : o t ≡ true = ap o (sym (eqb-true x.row.serial t is)) ∙ a_is in
          ap (λ v. v || stands_in t xs) same ∙ sym (ap (λ v. v || ((x.row.serial == t) || stands_in t xs)) same)
      passed false is = ap (λ v. o t || (v || stands_in t xs)) (sym is)
  push_one x os xs false a_is e rest =
      ap (λ l. o t || stands_in t (l ++ all_reached os)) (one_level x e)
      ∙ ap (λ v. o t || v) (is_in-cons x.row.serial t (all_reached os))
      ∙ or_both (o t) (x.row.serial == t) (stands_in t (all_reached os)) (x.row.serial == t) (stands_in t xs) refl rest
      ∙ ap (λ v. o t || v) (sym (is_in-cons x.row.serial t xs))

  map-cond : (a : Bool) (x : Branch PageRow) (xs : List (Branch PageRow))
      → map by_one (cond (not a) (x ∷ xs) xs) ≡ cond (not a) (by_one x ∷ map by_one xs) (map by_one xs)
  map-cond true x xs = refl
  map-cond false x xs = refl

  pub pushing-set : (xs : List (Branch PageRow)) → AllHold xs
      → (o t || stands_in t (all_reached (map by_one (filter (λ (x : Branch PageRow). not (o x.row.serial)) xs))))
      ≡ (o t || stands_in t (serials_of xs))
  pushing-set [] all = refl
  pushing-set (x ∷ xs) all =
      ap (λ l. o t || stands_in t (all_reached l)) (map-cond (o x.row.serial) x (filter (λ (x : Branch PageRow). not (o x.row.serial)) xs))
      ∙ push_one x (map by_one (filter (λ (x : Branch PageRow). not (o x.row.serial)) xs)) (serials_of xs) (o x.row.serial) refl all.0
      (pushing-set xs all.1)

-- a proper ancestor of the node of serial s among these trees
pub record IsAbove (n : Nodes PageRow) (s t : ℕ) : Type 0 where
  pub ancestor : Branch PageRow
  pub level : ℕ
  pub stands : StandsAt ancestor level n
  pub above : has row_serial s ancestor.children ≡ true
  pub serial : ancestor.row.serial ≡ t

module _ (s t : ℕ) where
  pub in-ancestors : (n : Nodes PageRow) → stands_in t (serials_of (ancestors_down s n)) ≡ true → IsAbove n s t
  in-ancestors none e = cc
  in-ancestors (node r c u) e =
      (either (λ (l : List (Branch PageRow)). stands_in t (serials_of l) ≡ true → IsAbove (node r c u) s t) (has row_serial s c)
      (record { row = r; children = c } ∷ ancestors_down s c) (ancestors_down s u)
      (λ there e. elim (or_split (r.serial == t) (stands_in t (serials_of (ancestors_down s c)))
      (sym (is_in-cons r.serial t (serials_of (ancestors_down s c))) ∙ e)) [
        | inl is ↦ record {
          ancestor = record { row = r; children = c };
          level = 0;
          stands = root u;
          above = there;
          serial = eqb-true r.serial t is;
        }
        | inr is ↦ let rest = in-ancestors c is in record {
          ancestor = rest.ancestor;
          level = suc rest.level;
          stands = below rest.level r c u rest.stands;
          above = rest.above;
          serial = rest.serial;
        }
      ])
      (λ _ e. let rest = in-ancestors u e in record {
        ancestor = rest.ancestor;
        level = rest.level;
        stands = beside rest.level r c u rest.stands;
        above = rest.above;
        serial = rest.serial;
      })) e

pub there_once : (s : ℕ) (n : Nodes PageRow) → has row_serial s n ≡ true → 0 < tally row_serial s n
there_once s n h =
    elim (tally row_serial s n) as (λ m. tally row_serial s n ≡ m → 0 < tally row_serial s n) [
      | zero ↦ λ e. absurd (let no : false ≡ true = sym (has-absent row_serial s n e) ∙ h in cc)
      | suc m ↦ λ e. omega arith
    ] refl

module _ (y : Branch PageRow) where
  pub stands-below : {k : ℕ} {n : Nodes PageRow} → StandsAt y k n → (s : ℕ) → tally row_serial s y.children ≤ tally row_serial s n
  stands-below (root t) s = omega arith
  stands-below (below k r c t v) s = omega (arith, stands-below v s)
  stands-below (beside k r c t v) s = omega (arith, stands-below v s)

  module _ (s : ℕ) (above : has row_serial s y.children ≡ true) where
    pub ancestors-in : {k : ℕ} {n : Nodes PageRow} → StandsAt y k n → tally row_serial s n ≤ 1
        → stands_in y.row.serial (serials_of (ancestors_down s n)) ≡ true
    ancestors-in (root t) once =
        ap (λ b. stands_in y.row.serial (serials_of (cond b (y ∷ ancestors_down s y.children) (ancestors_down s t)))) above
        ∙ times-is_in (y.row.serial ∷ serials_of (ancestors_down s y.children)) y.row.serial (omega (arith, self_times y.row.serial))
    ancestors-in (below k r c t v) once =
        let there : has row_serial s c ≡ true = has-there row_serial s c (omega (arith, there_once s y.children above, stands-below v s)) in
        ap (λ b. stands_in y.row.serial
        (serials_of (cond b (record { row = r; children = c } ∷ ancestors_down s c) (ancestors_down s t)))) there
        ∙ is_in-cons r.serial y.row.serial (serials_of (ancestors_down s c))
        ∙ or_joined (r.serial == y.row.serial) (stands_in y.row.serial (serials_of (ancestors_down s c)))
        (inr (ancestors-in v (omega arith)))
    ancestors-in (beside k r c t v) once =
        let apart : has row_serial s c
        ≡ false = has-absent row_serial s c (omega (arith, there_once s y.children above, stands-below v s)) in
        ap (λ b. stands_in y.row.serial
        (serials_of (cond b (record { row = r; children = c } ∷ ancestors_down s c) (ancestors_down s t)))) apart
        ∙ ancestors-in v (omega arith)

pub ancestors-set : (document : Branch PageRow) (s t : ℕ) → tally row_serial s (alone document) ≤ 1
    → (stands_in t (serials_of (ancestors_down s (alone document))) ≡ true) ↔ IsAncestor document s t
ancestors-set document s t once = (
  λ e.
      let at = in-ancestors s t (alone document) e in
      record { ancestor = at.ancestor; level = at.level; stands = at.stands; above = at.above; serial = at.serial },
  λ at. subst (λ (k : ℕ). stands_in k (serials_of (ancestors_down s (alone document))) ≡ true) at.serial
      (ancestors-in at.ancestor s at.above at.stands once),
)
