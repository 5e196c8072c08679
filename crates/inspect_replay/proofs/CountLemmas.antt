-- Numbers of known nodes, and how they add up.
use Rattle.std.proofs.Common.{◌≡◌, ℕ, zero, suc, ◌+◌, ◌-◌, ◌*◌, ◌<◌, ◌≤◌, Bool, true, false, ◌&&◌, IsSome, Some, Result, Ok, Err}
use Rattle.std.proofs.Common.{refl, sym, ap, ◌∙◌, arith}
use Rattle.std.specs.Prelude.{OnOk}
use Rattle.std.proofs.lemmas.Bool.{eq-eqb}
use Rattle.node_tree.specs.Nodes.{Nodes, none, node, Branch, alone, branch_count, tree_at, width, from, is_no_node}
use Rattle.node_tree.specs.Labels.{is_document}
use Rattle.node_tree.specs.Keys.{find}
use Rattle.node_tree.specs.Seen.{Seen, seen_id, is_opened}
use Rattle.client_views.specs.Views.{IsMirror, is_document_tree}
use Rattle.front_mirror.specs.Shown.{known_at, root_id}
use Rattle.front_mirror.proofs.ChildLemmas.{ChildFound, child_is, tree-count}
use Rattle.inspect_replay.specs.Tallies.{Known, known_in, row_known, plus}
use Rattle.front_mirror.specs.Panels.{one_where}

-- ---- children

module _ {R : Type 0} where
  pub from-zero : (n : Nodes R) → from 0 n ≡ n
  from-zero none = refl
  from-zero (node r c t) = refl

  pub from-end : (i : ℕ) (n : Nodes R) → width n ≤ i → from i n ≡ none
  from-end i none e = refl
  from-end zero (node r c t) e = absurd (omega arith)
  from-end (suc i) (node r c t) e = from-end i t (omega arith)

  from-tree : (i : ℕ) (n : Nodes R) (b : Branch R) → tree_at i n ≡ Some b → from i n ≡ node b.row b.children (from (suc i) n)
  from-tree i none b e = absurd cc
  from-tree zero (node r c t) b e =
      let same : ◌≡◌ {A = Branch R} (record { row = r; children = c }) b = cc in
      ap (λ (o : Branch R). node o.row o.children t) same ∙ ap (node b.row b.children) (sym (from-zero t))
  from-tree (suc i) (node r c t) b e = from-tree i t b e

pub child_smaller : (id child i : ℕ) (n : Nodes Seen) → ChildFound id child i n
    → 2 * branch_count (known_at child n) < 2 * branch_count (known_at id n) - 1
child_smaller id child i n f =
    let h = tree-count i (known_at id n).children f.tree f.there in
    let k : branch_count (known_at child n) ≡ branch_count f.tree = ap branch_count (child_is id child i n f) in
    omega arith

-- ---- the document

and_last : (a b : Bool) → (a && b) ≡ true → b ≡ true
and_last true b e = e
and_last false b e = absurd cc

-- nothing stands beside it
lone_document : (r s : Seen) (c d u : Nodes Seen) → is_document_tree (node r c (node s d u)) ≡ true → ⊥
lone_document r s c d u e =
    let no : false ≡ true = and_last (is_document r.label.kind) (is_no_node (node s d u)) e in
    absurd cc

-- it is known
pub root_known : (n : Nodes Seen) → (n ≡ none → ⊥) → IsSome (find seen_id (root_id n) n)
root_known none there = absurd (there refl)
root_known (node r c t) there = rw (eq-eqb r.id r.id refl) refl

-- it is all of the mirror
root_alone : (n : Nodes Seen) → IsMirror n → (n ≡ none → ⊥) → alone (known_at (root_id n) n) ≡ n
root_alone none is there = absurd (there refl)
root_alone (node r c none) is there = rw (eq-eqb r.id r.id refl) refl
root_alone (node r c (node s d u)) is there = absurd (lone_document r s c d u is.document)

-- ---- sums

same_known : (n m : Known) → n.nodes ≡ m.nodes → n.opened ≡ m.opened → n ≡ m
same_known n m a b = λ i. record { nodes = a i; opened = b i }

pub plus-none : (n : Known) → plus n (known_in none) ≡ n
plus-none n = same_known (plus n (known_in none)) n (omega arith) (omega arith)

none-plus : (n : Known) → plus (known_in none) n ≡ n
none-plus n = same_known (plus (known_in none) n) n (omega arith) (omega arith)

plus-assoc : (a b c : Known) → plus (plus a b) c ≡ plus a (plus b c)
plus-assoc a b c = same_known (plus (plus a b) c) (plus a (plus b c)) (omega arith) (omega arith)

-- a tree among others
known-tree : (b : Branch Seen) (t : Nodes Seen) → known_in (node b.row b.children t) ≡ plus (known_in (alone b)) (known_in t)
known-tree b t = same_known (known_in (node b.row b.children t)) (plus (known_in (alone b)) (known_in t)) (omega arith) (omega arith)

-- a node and what is below it
known-alone : (b : Branch Seen) → known_in (alone b) ≡ plus (row_known b.row) (known_in b.children)
known-alone b = same_known (known_in (alone b)) (plus (row_known b.row) (known_in b.children)) (omega arith) (omega arith)

-- one node more
pub row_added : (old new : Known) (u : Bool) (r : Seen) → u ≡ is_opened r.hold → new.nodes ≡ old.nodes + one_where true
    → new.opened ≡ old.opened + one_where u → new ≡ plus old (row_known r)
row_added old new u r hold a b = same_known new (plus old (row_known r)) a (b ∙ ap (λ (x : Bool). old.opened + one_where x) hold)

pub on_ok : {E : Type 0} (r : Result (Unit {0}) E) (P Q : Type 0) → (P → Q) → OnOk r P → OnOk r Q
on_ok (Ok u) P Q f p = f p
on_ok (Err e) P Q f p = p

-- a node was counted, and what is below it
pub node_counted : (id : ℕ) (n : Nodes Seen) (old more new : Known) → more ≡ plus old (row_known (known_at id n).row)
    → new ≡ plus more (known_in (known_at id n).children) → new ≡ plus old (known_in (alone (known_at id n)))
node_counted id n old more new e f =
    f ∙ ap (λ m. plus m (known_in (known_at id n).children)) e
    ∙ plus-assoc old (row_known (known_at id n).row) (known_in (known_at id n).children)
    ∙ ap (plus old) (sym (known-alone (known_at id n)))

-- one child more was counted
pub child_counted : (id child i : ℕ) (n : Nodes Seen) → ChildFound id child i n → (out new all : Known)
    → new ≡ plus out (known_in (alone (known_at child n))) → plus out (known_in (from i (known_at id n).children)) ≡ all
    → plus new (known_in (from (i + 1) (known_at id n).children)) ≡ all
child_counted id child i n f out new all one before =
    let s : i + 1 ≡ suc i = omega arith in
    let kids = (known_at id n).children in
    rw s (ap (λ m. plus m (known_in (from (suc i) kids)))
    (one ∙ ap (λ (b : Branch Seen). plus out (known_in (alone b))) (child_is id child i n f))
    ∙ plus-assoc out (known_in (alone f.tree)) (known_in (from (suc i) kids))
    ∙ ap (plus out) (sym (known-tree f.tree (from (suc i) kids)) ∙ ap known_in (sym (from-tree i kids f.tree f.there)))
    ∙ before)

-- the document was counted, and all below it
pub all_counted : (n : Nodes Seen) → IsMirror n → (n ≡ none → ⊥) → (old new : Known) → old ≡ known_in none
    → new ≡ plus old (known_in (alone (known_at (root_id n) n))) → new ≡ known_in n
all_counted n is there old new e f =
    f ∙ (λ i. plus (e i) (known_in (root_alone n is there i))) ∙ none-plus (known_in n)
