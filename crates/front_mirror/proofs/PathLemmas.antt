-- The way up from a node: it, its parent, and so on.
use Rattle.std.proofs.Common.{◌≡◌, ◌≢◌, ℕ, suc, ◌≤◌, ◌==◌, ◌||◌, Bool, true, false, cond, Option, Some, None}
use Rattle.std.proofs.Common.{refl, sym, ap, ◌∙◌, subst, arith, option_map}
use Rattle.std.proofs.lemmas.Bool.{eq-eqb, eqb-true, ne_eqb}
use Rattle.node_tree.specs.Nodes.{Nodes, node, Branch}
use Rattle.node_tree.specs.Keys.{tally, parent_of, At, here, within, past}
use Rattle.node_tree.proofs.KeyLemmas.{tally_below, other_row, At-tally}
use Rattle.node_tree.proofs.ChangeLemmas.{parent_of-absent}
use Rattle.std.specs.Ordering.{nat_cmp}
use Rattle.std.specs.Cmp.{nat_cmp_total, unsigned_tied}
use Rattle.std.specs.FinMap as numbers
use Rattle.node_tree.specs.Seen.{Seen, seen_id}
use Rattle.client_views.specs.Views.{IsMirror}
use Rattle.front_mirror.specs.Sizes.{on_path, BecomesOn}

or_comm : (a b : Bool) → (a || b) ≡ (b || a)
or_comm true true = refl
or_comm true false = refl
or_comm false true = refl
or_comm false false = refl

or_swap : (a b c : Bool) → (a || (b || c)) ≡ (b || (a || c))
or_swap true true c = refl
or_swap true false c = refl
or_swap false true c = refl
or_swap false false c = refl

-- the parent of a node, and the way up from there
pub data WayUp {R : Type 0} (key : R → ℕ) (x above : ℕ) (n : Nodes R) (on : ℕ → Bool) : Type 0 where
  top : parent_of key x above n ≡ Some above → ((k : ℕ) → on k ≡ (x == k)) → WayUp key x above n on
  under : (h : Branch R) (depth : ℕ) (m : Nodes R) (e : At h h depth n m) → parent_of key x above n ≡ Some (key h.row)
      → ((k : ℕ) → on k ≡ ((x == k) || on_path key k e)) → on_path key x e ≡ false → WayUp key x above n on

module _ {R : Type 0} (key : R → ℕ) where
  parent_here : (r : R) (c t : Nodes R) (x above p : ℕ) → key r ≢ x → parent_of key x (key r) c ≡ Some p
      → parent_of key x above (node r c t) ≡ Some p
  parent_here r c t x above p other e = rw (ne_eqb (key r) x other, e) refl

  parent_past : (r : R) (c t : Nodes R) (x above p : ℕ) → key r ≢ x → tally key x c ≡ 0 → parent_of key x above t ≡ Some p
      → parent_of key x above (node r c t) ≡ Some p
  parent_past r c t x above p other gone e = rw (ne_eqb (key r) x other, parent_of-absent key x (key r) c gone, e) refl

module _ {R : Type 0} (key : R → ℕ) {b d : Branch R} where
  within_way : (depth : ℕ) (r : R) (c m t : Nodes R) (e : At b d depth c m) (above : ℕ) → key r ≢ key b.row
      → WayUp key (key b.row) (key r) c (λ k. on_path key k e)
      → WayUp key (key b.row) above (node r c t) (λ k. on_path key k (within depth r c m t e))
  within_way depth r c m t e above other (top p on) =
      under (record { row = r; children = c }) 0 (node r c t) (here t) (parent_here key r c t (key b.row) above (key r) other p)
      (λ k. ap (λ v. key r == k || v) (on k) ∙ or_comm (key r == k) (key b.row == k)) (ne_eqb (key r) (key b.row) other)
  within_way depth r c m t e above other (under h dd mm f p on apart) =
      under h (suc dd) (node r mm t) (within dd r c mm t f) (parent_here key r c t (key b.row) above (key h.row) other p)
      (λ k. ap (λ v. key r == k || v) (on k) ∙ or_swap (key r == k) (key b.row == k) (on_path key k f))
      (rw (ne_eqb (key r) (key b.row) other) apart)

  past_way : (depth : ℕ) (r : R) (c t m : Nodes R) (e : At b d depth t m) (above : ℕ) → key r ≢ key b.row → tally key (key b.row) c ≡ 0
      → WayUp key (key b.row) above t (λ k. on_path key k e)
      → WayUp key (key b.row) above (node r c t) (λ k. on_path key k (past depth r c t m e))
  past_way depth r c t m e above other gone (top p on) =
      top (parent_past key r c t (key b.row) above above other gone p) on
  past_way depth r c t m e above other gone (under h dd mm f p on apart) =
      under h dd (node r c mm) (past dd r c t mm f) (parent_past key r c t (key b.row) above (key h.row) other gone p) on apart

  pub way_up : {depth : ℕ} {n m : Nodes R} (e : At b d depth n m) (above : ℕ) → tally key (key b.row) n ≤ 1
      → WayUp key (key b.row) above n (λ k. on_path key k e)
  way_up (here t) above once = top (rw (eq-eqb (key b.row) (key b.row) refl) refl) (λ k. refl)
  way_up (within depth r c m t e) above once =
      let there = At-tally key e in
      let k = tally_below key (key b.row) r c t in
      within_way depth r c m t e above (other_row key (key b.row) r c t (omega arith) once) (way_up e (key r) (omega arith))
  way_up (past depth r c t m e) above once =
      let there = At-tally key e in
      let k = tally_below key (key b.row) r c t in
      past_way depth r c t m e above (other_row key (key b.row) r c t (omega arith) once) (omega arith) (way_up e above (omega arith))

-- ---- numbers that change along the way

module _ (f : ℕ → ℕ) (old mid new : ℕ → Option ℕ) (x : ℕ) (on up : ℕ → Bool) where
  becomes_at : (k : ℕ) (a c : Bool) → (x == k) ≡ a → up k ≡ c → up x ≡ false → mid k ≡ cond a (option_map f (old k)) (old k)
      → new k ≡ cond c (option_map f (mid k)) (mid k) → new k ≡ cond (a || c) (option_map f (old k)) (old k)
  becomes_at k true true is so apart m n =
      let same : x ≡ k = eqb-true x k is in
      let clash : ◌≡◌ {A = Bool} true false = sym so ∙ ap up (sym same) ∙ apart in
      absurd cc
  becomes_at k true false is so apart m n = n ∙ m
  becomes_at k false true is so apart m n = n ∙ ap (option_map f) m
  becomes_at k false false is so apart m n = n ∙ m

  -- first at the node, and then on the way up from its parent
  pub becomes_both : ((k : ℕ) → on k ≡ ((x == k) || up k)) → up x ≡ false → BecomesOn (λ k. x == k) f old mid → BecomesOn up f mid new
      → BecomesOn on f old new
  becomes_both way apart m n k =
      becomes_at k (x == k) (up k) refl refl apart (m k) (n k) ∙ ap (λ v. cond v (option_map f (old k)) (old k)) (sym (way k))

-- ---- numbers in a map

one_at : (f : ℕ → ℕ) (o : Option ℕ) (b : Bool) (w : Option ℕ) → (b ≡ true → w ≡ option_map f o)
    → cond b w o ≡ cond b (option_map f o) o
one_at f o true w e = e refl
one_at f o false w e = refl

eq_sym : (a b : ℕ) → (a == b) ≡ (b == a)
eq_sym a b = at (a == b) refl where
  at : (v : Bool) → (a == b) ≡ v → v ≡ (b == a)
  at true e = sym (eq-eqb b a (sym (eqb-true a b e)))
  at false e = sym (ne_eqb b a (λ same. let clash : ◌≡◌ {A = Bool} true false = sym (eq-eqb a b (sym same)) ∙ e in absurd cc))

-- the number of one node is another
pub one_becomes : (f : ℕ → ℕ) (x count after : ℕ) (old new : numbers.FinMap nat_cmp ℕ) → Some count ≡ numbers.get old x → after ≡ f count
    → new ≡ numbers.insert old x after → BecomesOn (λ k. x == k) f (numbers.get old) (numbers.get new)
one_becomes f x count after old new was is made k =
    ap (λ m. numbers.get m k) made ∙ numbers.get-insert nat_cmp_total old x after k
    ∙ ap (λ v. cond v (Some after) (numbers.get old k)) (unsigned_tied k x ∙ eq_sym k x)
    ∙ one_at f (numbers.get old k) (x == k) (Some after)
    (λ e. let same : x ≡ k = eqb-true x k e in
    ap Some is ∙ ap (option_map f) was ∙ ap (λ q. option_map f (numbers.get old q)) same)

-- ---- what the code does

module _ (n : Nodes Seen) (mirror : IsMirror n) (id parent : ℕ) (f : ℕ → ℕ) (p : Some parent ≡ parent_of seen_id id 0 n)
    (old mid new : ℕ → Option ℕ) (one : BecomesOn (λ k. id == k) f old mid) (b : Branch Seen) (depth : ℕ) (m : Nodes Seen)
    (e : At b b depth n m) (named : b.row.id ≡ id) where
  way : WayUp seen_id b.row.id 0 n (λ k. on_path seen_id k e)
  way = way_up seen_id e 0 (mirror.view.ids b.row.id)

  parent_is : (q : ℕ) → parent_of seen_id b.row.id 0 n ≡ Some q → parent ≡ q
  parent_is q g =
      let both : ◌≡◌ {A = Option ℕ} (Some parent) (Some q) = p ∙ ap (λ x. parent_of seen_id x 0 n) (sym named) ∙ g in
      cc

  one_b : BecomesOn (λ k. b.row.id == k) f old mid
  one_b = subst (λ x. BecomesOn (λ k. x == k) f old mid) (sym named) one

  -- the root has nothing above it
  pub becomes_root : parent ≡ 0 → BecomesOn (λ k. on_path seen_id k e) f old mid
  becomes_root z k = elim way [
    | top g on ↦ one_b k ∙ ap (λ v. cond v (option_map f (old k)) (old k)) (sym (on k))
    | under h dd mm g q on apart ↦
        let there = At-tally seen_id g in
        let z2 : h.row.id ≡ 0 = sym (parent_is h.row.id q) ∙ z in
        let none_zero : tally seen_id h.row.id n ≡ 0 = ap (λ x. tally seen_id x n) z2 ∙ mirror.view.above in
        absurd (omega arith)
  ]

  -- another has its parent above it
  pub becomes_up : parent ≢ 0
      → ((c : Branch Seen) (dd : ℕ) (mm : Nodes Seen) (g : At c c dd n mm) → c.row.id ≡ parent
      → BecomesOn (λ k. on_path seen_id k g) f mid new)
      → BecomesOn (λ k. on_path seen_id k e) f old new
  becomes_up other rest = elim way [
    | top g on ↦ absurd (other (parent_is 0 g))
    | under h dd mm g q on apart ↦
        becomes_both f old mid new b.row.id (λ k. on_path seen_id k e) (λ k. on_path seen_id k g) on apart one_b
        (rest h dd mm g (sym (parent_is h.row.id q)))
  ]
