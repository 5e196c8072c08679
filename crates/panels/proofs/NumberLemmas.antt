-- Numbers of nodes, and how they add up.
use Rattle.std.proofs.Common.{◌≡◌, ℕ, suc, ◌+◌, Bool, sym, ap, ◌∙◌, arith, Result, Ok, Err}
use Rattle.std.specs.Prelude.{OnOk}
use Rattle.node_tree.specs.Nodes.{Nodes, none, node, Branch, alone, from}
use Rattle.node_tree.specs.declared.Kind.{Kind}
use Rattle.node_tree.specs.Labels.{is_element, is_doctype}
use Rattle.node_tree.specs.Seen.{Seen, shows_count}
use Rattle.client_views.specs.Views.{IsMirror}
use Rattle.front_mirror.specs.Shown.{known_at, root_id}
use Rattle.front_mirror.specs.Panels.{Numbers, numbers_of, is_text, is_comment, one_where}
use Rattle.panels.specs.Numbers.{no_numbers, row_numbers, plus}
use Rattle.front_mirror.proofs.ChildLemmas.{ChildFound, child_is}
use Rattle.panels.proofs.ListLemmas.{from-tree}
use Rattle.panels.proofs.RootLemmas.{root_alone}

pub same_numbers : (n m : Numbers) → n.elements ≡ m.elements → n.texts ≡ m.texts → n.comments ≡ m.comments → n.doctypes ≡ m.doctypes
    → n.unopened ≡ m.unopened → n ≡ m
same_numbers n m a b c d e = λ i. record { elements = a i; texts = b i; comments = c i; doctypes = d i; unopened = e i }

pub plus-none : (n : Numbers) → plus n no_numbers ≡ n
plus-none n = same_numbers (plus n no_numbers) n (omega arith) (omega arith) (omega arith) (omega arith) (omega arith)

pub none-plus : (n : Numbers) → plus no_numbers n ≡ n
none-plus n = same_numbers (plus no_numbers n) n (omega arith) (omega arith) (omega arith) (omega arith) (omega arith)

pub plus-assoc : (a b c : Numbers) → plus (plus a b) c ≡ plus a (plus b c)
plus-assoc a b c =
    same_numbers (plus (plus a b) c) (plus a (plus b c)) (omega arith) (omega arith) (omega arith) (omega arith) (omega arith)

-- a tree among others
pub numbers-tree : (b : Branch Seen) (t : Nodes Seen) → numbers_of (node b.row b.children t) ≡ plus (numbers_of (alone b)) (numbers_of t)
numbers-tree b t =
    same_numbers (numbers_of (node b.row b.children t)) (plus (numbers_of (alone b)) (numbers_of t)) (omega arith) (omega arith)
    (omega arith)
    (omega arith) (omega arith)

-- a node and what is below it
pub numbers-alone : (b : Branch Seen) → numbers_of (alone b) ≡ plus (row_numbers b.row) (numbers_of b.children)
numbers-alone b =
    same_numbers (numbers_of (alone b)) (plus (row_numbers b.row) (numbers_of b.children)) (omega arith) (omega arith) (omega arith)
    (omega arith)
    (omega arith)

-- one node more
pub added : (old new : Numbers) (k : Kind) (u : Bool) (r : Seen) → k ≡ r.label.kind → u ≡ shows_count r.hold
    → new.elements ≡ old.elements + one_where (is_element k) → new.texts ≡ old.texts + one_where (is_text k)
    → new.comments ≡ old.comments + one_where (is_comment k) → new.doctypes ≡ old.doctypes + one_where (is_doctype k)
    → new.unopened ≡ old.unopened + one_where u → new ≡ plus old (row_numbers r)
added old new k u r kind hold a b c d e =
    same_numbers new (plus old (row_numbers r)) (a ∙ ap (λ (x : Kind). old.elements + one_where (is_element x)) kind)
    (b ∙ ap (λ (x : Kind). old.texts + one_where (is_text x)) kind) (c ∙ ap (λ (x : Kind). old.comments + one_where (is_comment x)) kind)
    (d ∙ ap (λ (x : Kind). old.doctypes + one_where (is_doctype x)) kind) (e ∙ ap (λ (x : Bool). old.unopened + one_where x) hold)

pub on_ok : {E : Type 0} (r : Result (Unit {0}) E) (P Q : Type 0) → (P → Q) → OnOk r P → OnOk r Q
on_ok (Ok u) P Q f p = f p
on_ok (Err e) P Q f p = p

-- a node was counted, and what is below it
pub node_counted : (id : ℕ) (n : Nodes Seen) (old more new : Numbers) → more ≡ plus old (row_numbers (known_at id n).row)
    → new ≡ plus more (numbers_of (known_at id n).children) → new ≡ plus old (numbers_of (alone (known_at id n)))
node_counted id n old more new e f =
    f ∙ ap (λ m. plus m (numbers_of (known_at id n).children)) e
    ∙ plus-assoc old (row_numbers (known_at id n).row) (numbers_of (known_at id n).children)
    ∙ ap (plus old) (sym (numbers-alone (known_at id n)))

-- one child more was counted
pub child_counted : (id child i : ℕ) (n : Nodes Seen) → ChildFound id child i n → (out new all : Numbers)
    → new ≡ plus out (numbers_of (alone (known_at child n))) → plus out (numbers_of (from i (known_at id n).children)) ≡ all
    → plus new (numbers_of (from (i + 1) (known_at id n).children)) ≡ all
child_counted id child i n f out new all one before =
    let s : i + 1 ≡ suc i = omega arith in
    let kids = (known_at id n).children in
    rw s (ap (λ m. plus m (numbers_of (from (suc i) kids)))
    (one ∙ ap (λ (b : Branch Seen). plus out (numbers_of (alone b))) (child_is id child i n f))
    ∙ plus-assoc out (numbers_of (alone f.tree)) (numbers_of (from (suc i) kids))
    ∙ ap (plus out) (sym (numbers-tree f.tree (from (suc i) kids)) ∙ ap numbers_of (sym (from-tree i kids f.tree f.there)))
    ∙ before)

-- the document was counted, and all below it
pub all_counted : (n : Nodes Seen) → IsMirror n → (n ≡ none → ⊥) → (old new : Numbers) → old ≡ no_numbers
    → new ≡ plus old (numbers_of (alone (known_at (root_id n) n))) → new ≡ numbers_of n
all_counted n is there old new e f =
    f ∙ (λ i. plus (e i) (numbers_of (root_alone n is there i))) ∙ none-plus (numbers_of n)
