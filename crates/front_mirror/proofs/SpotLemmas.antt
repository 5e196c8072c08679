-- A node that is found with its level, and the one node that a put changes.
use Rattle.std.proofs.Common.{◌≡◌, ℕ, suc, ◌+◌, ◌<◌, ◌==◌, ◌||◌, Bool, true, false, cond, Option, Some, None, option_map, is_some, refl}
use Rattle.std.proofs.Common.{subst, arith}
use Rattle.node_tree.specs.Nodes.{Nodes, none, node, Branch, height}
use Rattle.node_tree.specs.Keys.{first_of, Spot, has, find, spot, put, At, here, within, past}

abbrev pub spot_branch : {R : Type 0} → Spot R → Branch R
spot_branch s = s.branch

module _ {R : Type 0} where
  found_here : (v : Bool) (b : Branch R) (level : ℕ) (f g : Option (Spot R))
      → cond v (Some b) (first_of (option_map spot_branch f) (option_map spot_branch g))
      ≡ option_map spot_branch (cond v (Some (record { branch = b; level = level })) (first_of f g))
  found_here true b level f g = refl
  found_here false b level None g = refl
  found_here false b level (Some s) g = refl

  -- a node is found with its level exactly where it is found
  pub find-spot : (key : R → ℕ) (x level : ℕ) (n : Nodes R) → find key x n ≡ option_map spot_branch (spot key x level n)
  find-spot key x level none = refl
  find-spot key x level (node r c t) =
      rw (find-spot key x (suc level) c, find-spot key x level t) (found_here (key r == x) (record { row = r; children = c }) level _ _)

  has_here : (b : Bool) (br : Spot R) (f g : Option (Spot R)) → (b || is_some f || is_some g) ≡ is_some (cond b (Some br) (first_of f g))
  has_here true br f g = refl
  has_here false br (Some o) g = refl
  has_here false br None g = refl

  has-spot : (key : R → ℕ) (x level : ℕ) (n : Nodes R) → has key x n ≡ is_some (spot key x level n)
  has-spot key x level none = refl
  has-spot key x level (node r c t) =
      rw (has-spot key x (suc level) c, has-spot key x level t)
      (has_here (key r == x) (record { branch = record { row = r; children = c }; level = level }) _ _)

  -- where a put changes a node, and on which level
  abbrev pub PutAt : Spot R → Branch R → ℕ → Nodes R → Nodes R → Type 0
  PutAt s new level n m = (depth : ℕ) × (s.level ≡ level + depth) × At s.branch new depth n m

  put_here : (new : Branch R) (s : Spot R) (r : R) (c t : Nodes R) (level : ℕ)
      → ◌≡◌ {A = Spot R} (record { branch = record { row = r; children = c }; level = level }) s
      → PutAt s new level (node r c t) (node new.row new.children t)
  put_here new s r c t level e =
      let l : level ≡ level + 0 = omega arith in
      subst (λ (o : Spot R). PutAt o new level (node r c t) (node new.row new.children t)) e (0, l, here t)

  put_step : (new : Branch R) (s : Spot R) (r : R) (c t u v : Nodes R) (level : ℕ) (b : Bool) (f g : Option (Spot R))
      → cond b (Some (record { branch = record { row = r; children = c }; level = level })) (first_of f g) ≡ Some s
      → ((o : Spot R) → f ≡ Some o → PutAt o new (suc level) c u)
      → ((o : Spot R) → g ≡ Some o → PutAt o new level t v)
      → PutAt s new level (node r c t) (cond b (node new.row new.children t) (cond (is_some f) (node r u t) (node r c v)))
  put_step new s r c t u v level true f g e below after = put_here new s r c t level cc
  put_step new s r c t u v level false (Some o) g e below after =
      let d = below s e in
      let l : s.level ≡ level + suc d.0 = let k = d.1 in omega arith in
      (suc d.0, l, within d.0 r c u t d.2)
  put_step new s r c t u v level false None g e below after = let d = after s e in (d.0, d.1, past d.0 r c t v d.2)

  -- what is found with its level is the one node that a put changes
  pub put-spot : (key : R → ℕ) (x : ℕ) (new : Branch R) (level : ℕ) (n : Nodes R) (s : Spot R) → spot key x level n ≡ Some s
      → PutAt s new level n (put key x new n)
  put-spot key x new level none s found = absurd cc
  put-spot key x new level (node r c t) s found =
      rw (has-spot key x (suc level) c)
      (put_step new s r c t (put key x new c) (put key x new t) level (key r == x) (spot key x (suc level) c) (spot key x level t) found
      (put-spot key x new (suc level) c) (put-spot key x new level t))

  -- a node stands on one of the levels that there are
  pub depth-at : {old new : Branch R} {depth : ℕ} {n m : Nodes R} → At old new depth n m → depth < height n
  depth-at (here t) = omega arith
  depth-at (within depth r c m t e) = let h = depth-at e in omega arith
  depth-at (past depth r c t m e) = let h = depth-at e in omega arith

  pub spot_level : (key : R → ℕ) (x level : ℕ) (n : Nodes R) (s : Spot R) → spot key x level n ≡ Some s → s.level < level + height n
  spot_level key x level n s found =
      let p = put-spot key x s.branch level n s found in
      let h = depth-at p.2 in
      let l = p.1 in
      omega arith
