-- What panels show, and what the changes that they are told of mean.
use Rattle.std.specs.Prelude.{◌≡◌, ℕ, zero, suc, ◌+◌, Bool, true, false, cond, List, [], ◌∷◌, ◌++◌, codes, decimal, Option, Some, None}
use Rattle.std.specs.Option.{option_map_or}
use Rattle.node_tree.specs.Nodes.{Nodes, none, node, Branch, branch_count, tree_at, is_no_node}
use Rattle.node_tree.specs.declared.Kind.{Kind}
use Rattle.node_tree.specs.declared.Kind.TheVariants as kind
use Rattle.node_tree.specs.Labels.{is_element, is_doctype}
use Rattle.node_tree.specs.Keys.{At, find}
use Rattle.node_tree.specs.Seen.{Hold, leaf, counted, opened, Seen, seen_serial, is_opened, shows_count}
use Rattle.front_mirror.specs.declared.panels.Change.{Change}
use Rattle.front_mirror.specs.declared.panels.Change.TheVariants.{Cleared, Document, Opened, Inserted, Removed, Changed}
use Rattle.front_mirror.specs.declared.panels.PanelKind.{PanelKind}
use Rattle.front_mirror.specs.declared.panels.PanelKind.TheVariants.{Outline, Counts, Watch}
use Rattle.front_mirror.specs.Outline.{seen_line, outline_text}
use Rattle.client_views.specs.Views.{IsMirror}

-- ---- changes

-- the trees without that at place i, counted from 0
abbrev pub without_place : {R : Type 0} → ℕ → Nodes R → Nodes R
without_place i none = none
without_place zero (node r c t) = t
without_place (suc i) (node r c t) = node r c (without_place i t)

-- One node of that id is another, which is its other self by the relation.
pub record NodeTurns (becomes : Branch Seen → Branch Seen → Type 0) (id : ℕ) (before after : Nodes Seen) : Type 0 where
  pub old : Branch Seen
  pub new : Branch Seen
  pub depth : ℕ
  pub named : old.row.id ≡ id
  pub at : At old new depth before after
  pub turns : becomes old new

-- it was an unopened container, and children came in under it
pub record Opens (old new : Branch Seen) : Type 0 where
  pub shut : shows_count old.row.hold ≡ true
  pub row : new.row ≡ record old.row { hold = opened }

-- it has one more child of that id, unopened
pub record Gains (child : ℕ) (old new : Branch Seen) : Type 0 where
  pub row : new.row ≡ old.row
  pub place : ℕ
  pub gained : Branch Seen
  pub named : gained.row.id ≡ child
  pub unopened : is_opened gained.row.hold ≡ false
  pub there : tree_at place new.children ≡ Some gained
  pub others : without_place place new.children ≡ old.children

-- it has no longer the child at that place, which had that id and so many known nodes
pub record Loses (place child known : ℕ) (old new : Branch Seen) : Type 0 where
  pub row : new.row ≡ old.row
  pub lost : Branch Seen
  pub named : lost.row.id ≡ child
  pub known_were : branch_count lost ≡ known
  pub there : tree_at place old.children ≡ Some lost
  pub others : without_place place old.children ≡ new.children

-- what is shown below a node, but for a number of children
abbrev pub hold_form : Hold → Hold
hold_form leaf = leaf
hold_form (counted n) = counted 0
hold_form opened = opened

-- it differs at most in its attributes, its value, or its number of children while unopened
pub record Differs (old new : Branch Seen) : Type 0 where
  pub id : new.row.id ≡ old.row.id
  pub serial : new.row.serial ≡ old.row.serial
  pub kind : new.row.label.kind ≡ old.row.label.kind
  pub name : new.row.label.name ≡ old.row.label.name
  pub hold : hold_form new.row.hold ≡ hold_form old.row.hold
  pub children : new.children ≡ old.children

-- the change leads from the first tree to the second
abbrev pub TreeTurns : Nodes Seen → Change → Nodes Seen → Type 0
TreeTurns before Cleared after = after ≡ none
TreeTurns before Document after = is_no_node after ≡ false
TreeTurns before (Opened id) after = NodeTurns Opens id before after
TreeTurns before (Inserted parent id) after = NodeTurns (Gains id) parent before after
TreeTurns before (Removed parent place id known) after = NodeTurns (Loses place id known) parent before after
TreeTurns before (Changed id) after = NodeTurns Differs id before after

-- the same of mirrors
pub record Turns (before : Nodes Seen) (change : Change) (after : Nodes Seen) : Type 0 where
  pub was : IsMirror before
  pub is : IsMirror after
  pub turns : TreeTurns before change after

-- ---- faces

-- one where the test holds, else nothing
abbrev pub one_where : Bool → ℕ
one_where test = cond {A = ℕ} test 1 0

-- how many nodes pass the test
abbrev pub count_where : (Seen → Bool) → Nodes Seen → ℕ
count_where test none = 0
count_where test (node r c t) = one_where (test r) + count_where test c + count_where test t

-- a text
abbrev pub is_text : Kind → Bool
is_text kind.Document = false
is_text kind.Element = false
is_text kind.Text = true
is_text kind.Comment = false
is_text kind.Doctype = false

-- a comment
abbrev pub is_comment : Kind → Bool
is_comment kind.Document = false
is_comment kind.Element = false
is_comment kind.Text = false
is_comment kind.Comment = true
is_comment kind.Doctype = false

-- How many known nodes there are of each kind but the document, and how many are containers whose children are not known.
pub record Numbers : Type 0 where
  pub elements : ℕ
  pub texts : ℕ
  pub comments : ℕ
  pub doctypes : ℕ
  pub unopened : ℕ

-- the numbers of a tree
abbrev pub numbers_of : Nodes Seen → Numbers
numbers_of tree = record {
  elements = count_where (λ r. is_element r.label.kind) tree;
  texts = count_where (λ r. is_text r.label.kind) tree;
  comments = count_where (λ r. is_comment r.label.kind) tree;
  doctypes = count_where (λ r. is_doctype r.label.kind) tree;
  unopened = count_where (λ r. shows_count r.hold) tree;
}

-- `elements E texts T comments C doctypes D unopened U`
abbrev pub numbers_text : Numbers → List ℕ
numbers_text n =
    codes "elements " ++ decimal n.elements ++ codes " texts " ++ decimal n.texts ++ codes " comments " ++ decimal n.comments
    ++ codes " doctypes " ++ decimal n.doctypes ++ codes " unopened " ++ decimal n.unopened ++ 10 ∷ []

-- the line of the numbers of a tree, if there is a document
abbrev pub counts_text : Nodes Seen → List ℕ
counts_text none = codes "no document" ++ 10 ∷ []
counts_text (node r c t) = numbers_text (numbers_of (node r c t))

-- the line of the known node with that serial, without its indent
abbrev pub watch_text : ℕ → Nodes Seen → List ℕ
watch_text serial tree =
    option_map_or (λ (b : Branch Seen). seen_line b.row) (find seen_serial serial tree)
    (codes "serial " ++ decimal serial ++ codes " not known")
    ++ 10 ∷ []

-- the text that a panel of this kind is to show
abbrev pub face : PanelKind → Nodes Seen → List ℕ
face Outline tree = outline_text seen_line tree
face Counts tree = counts_text tree
face (Watch serial) tree = watch_text serial tree

-- a panel that showed the face before, or is told of a change that begins afresh
abbrev pub MayShow : Change → PanelKind → List ℕ → Nodes Seen → Type 0
MayShow Cleared kind shown before = Unit {0}
MayShow Document kind shown before = Unit {0}
MayShow (Opened id) kind shown before = shown ≡ face kind before
MayShow (Inserted parent id) kind shown before = shown ≡ face kind before
MayShow (Removed parent place id known) kind shown before = shown ≡ face kind before
MayShow (Changed id) kind shown before = shown ≡ face kind before

-- what a message made of the tree: nothing, or what the change says
abbrev pub TreeTold : Nodes Seen → Option Change → Nodes Seen → Type 0
TreeTold before None after = after ≡ before
TreeTold before (Some change) after = TreeTurns before change after

-- the same of mirrors
pub record MirrorTold (before : Nodes Seen) (change : Option Change) (after : Nodes Seen) : Type 0 where
  pub was : IsMirror before
  pub is : IsMirror after
  pub turns : TreeTold before change after
