-- What a query finds stands in the page.
use Rattle.std.proofs.Common.{◌≡◌, ℕ, ◌<◌, Bool, true, false, cond, List, [], ◌∷◌, Option, Some, None, IsSome, option_map, unwrap_or}
use Rattle.std.proofs.Common.{Result, Ok, Err, refl, sym, ap, subst, ◌∙◌, arith}
use Rattle.std.proofs.lemmas.Bool.{eq-eqb}
use Rattle.node_tree.specs.Nodes.{Nodes, Branch, alone}
use Rattle.node_tree.specs.Labels.{holds}
use Rattle.node_tree.specs.Keys as keys
use Rattle.node_tree.proofs.KeyLemmas.{has-there, found_key}
use Rattle.page_tree.specs.Pages.{PageRow, row_serial, find_in}
use Rattle.page_tree.specs.Members.{IsIn, at_head, in_tail}
use Rattle.page_tree.specs.Zippers.{Generation, Zipper, generation_of, serial_of, all_in, below, root_of, has_serial, find_zipper}
use Rattle.page_tree.specs.Zippers.{zipper_at}
use Rattle.page_tree.proofs.ZipperLemmas.{times, branch-found, count-found}
use Rattle.node_binding.proofs.AnewLemmas.{found-tally}
use Rattle.selectors.specs.Forms.{SelectorForm}
use Rattle.selectors.specs.Reading.{selectors_of}
use Rattle.cdp_messages.specs.declared.command.Why.{Why}
use Rattle.dom_agent.specs.Keepers.{Keeper}
use Rattle.dom_agent.specs.Requests.{known_node}
use Rattle.dom_agent.specs.Queries.{Query, query_with, query_of}

-- ---- what is asked

-- below the node x, which stands in the page by its serial
pub record Below (tree : Branch PageRow) (s : ℕ) : Type 0 where
  pub node_there : Branch PageRow
  pub found : keys.find row_serial s (alone tree) ≡ Some node_there

root-is : (root : ℕ) (o : Option (List SelectorForm)) (q : Query) → query_with root o ≡ Ok q → q.root ≡ root
root-is root None q e = let bad : ◌≡◌ {A = Result Query Why} (Err _) (Ok q) = e in absurd cc
root-is root (Some l) q e = cc

root-of : (container : Bool) (root : ℕ) (o : Option (List SelectorForm)) (why : Why) (q : Query)
    → cond container (query_with root o) (Err why) ≡ Ok q → q.root ≡ root
root-of true root o why q e = root-is root o q e
root-of false root o why q e = let bad : ◌≡◌ {A = Result Query Why} (Err why) (Ok q) = e in absurd cc

-- a query of a known node is one of the page
pub known_query : {S : Type 0} (k : Keeper S) (tree : Branch PageRow) (w : S) (serial : Option ℕ) (text : List ℕ) (q : Query)
    → query_of (known_node k tree w serial) text ≡ Ok q → Below tree q.root
known_query k tree w None text q e = let bad : ◌≡◌ {A = Result Query Why} (Err _) (Ok q) = e in absurd cc
known_query k tree w (Some s) text q e = at (keys.find row_serial s (alone tree)) refl e where
  at : (o : Option (Branch PageRow)) → keys.find row_serial s (alone tree) ≡ o → query_of o text ≡ Ok q → Below tree q.root
  at None f h = let bad : ◌≡◌ {A = Result Query Why} (Err _) (Ok q) = h in absurd cc
  at (Some x) f h =
      let same : q.root ≡ s = root-of (holds x.row.label.kind) x.row.serial (selectors_of text) _ q h ∙ found_key row_serial s
      (alone tree) x f in
      record { node_there = x; found = ap (λ (m : ℕ). keys.find row_serial m (alone tree)) same ∙ f }

pub query-live : {S : Type 0} (k : Keeper S) (tree : Branch PageRow) (w : S) (serial : Option ℕ) (text : List ℕ) (q : Query)
    → query_of (known_node k tree w serial) text ≡ Ok q → IsSome (find_in q.root tree)
query-live k tree w serial text q e = subst IsSome (sym (known_query k tree w serial text q e).found) refl

-- ---- what is found

-- a test that a member passes is passed some time
passed : (p : Zipper → Bool) {z : Zipper} {zs : List Zipper} → IsIn z zs → p z ≡ true → 0 < times p zs
passed p {z = z} (at_head zs) e = rw e (omega arith)
passed p (in_tail y zs i) e = omega (arith, passed p i e)

-- a zipper of these nodes has the serial of one of them
tally-in : (above : List Generation) (before : List (Branch PageRow)) (n : Nodes PageRow) (z : Zipper) → IsIn z (all_in above before n)
    → 0 < keys.tally row_serial (serial_of z) n
tally-in above before n z i =
    omega (arith, count-found (serial_of z) above before n, passed (has_serial (serial_of z)) i (eq-eqb (serial_of z) (serial_of z) refl))

-- the focus of a zipper is the node that is found by its serial
focus-of : (o : Option Zipper) (other : Zipper) (x : Branch PageRow) → option_map (λ (z : Zipper). z.branch) o ≡ Some x
    → (unwrap_or o other).branch ≡ x
focus-of None other x e = cc
focus-of (Some z) other x e = cc

focus-at : (s : ℕ) (tree x : Branch PageRow) → keys.find row_serial s (alone tree) ≡ Some x → (zipper_at s tree).branch ≡ x
focus-at s tree x e = focus-of (find_zipper s tree) (root_of tree) x (sym (branch-found s [] [] (alone tree)) ∙ e)

below-there : (s : ℕ) (tree x : Branch PageRow) → keys.find row_serial s (alone tree) ≡ Some x → (z : Zipper)
    → IsIn z (below (zipper_at s tree)) → keys.has row_serial (serial_of z) (alone tree) ≡ true
below-there s tree x e z i =
    let at : Zipper = zipper_at s tree in
    let k : ℕ = serial_of z in
    let children : 0 < keys.tally row_serial k x.children =
    subst (λ (b : Branch PageRow). 0 < keys.tally row_serial k b.children) (focus-at s tree x e)
    (tally-in (generation_of at ∷ at.above) [] at.branch.children z i) in
    has-there row_serial k (alone tree) (omega (arith, children, found-tally s (alone tree) x e k))

found-there : (s : ℕ) (tree x : Branch PageRow) → keys.find row_serial s (alone tree) ≡ Some x → (o : Option Zipper) (k : ℕ)
    → ((z : Zipper) → o ≡ Some z → IsIn z (below (zipper_at s tree))) → option_map serial_of o ≡ Some k
    → keys.has row_serial k (alone tree) ≡ true
found-there s tree x e None k there is = cc
found-there s tree x e (Some z) k there is =
    let same : serial_of z ≡ k = cc in
    subst (λ (m : ℕ). keys.has row_serial m (alone tree) ≡ true) same (below-there s tree x e z (there z refl))
