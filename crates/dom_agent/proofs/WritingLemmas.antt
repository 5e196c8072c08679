-- Nodes that are written straight from the page, as a message tells what is shown of them.
use Rattle.std.proofs.Common.{◌≡◌, ℕ, suc, Bool, true, false, not, ◌&&◌, cond, List, [], ◌∷◌, ◌++◌, Option, append_assoc}
use Rattle.std.proofs.Common.{append-nil, refl, sym, ap, ◌∙◌}
use Rattle.std.specs.Prelude.{codes, option_map}
use Rattle.json.specs.Token.{Token, begin_array, end_array, key}
use Rattle.json.specs.Tree.{items_tokens}
use Rattle.serde_json.specs.Data.{Data, array}
use Rattle.serde_json.specs.Written.{items_outline}
use Rattle.node_tree.specs.Nodes.{Nodes, none, node, Branch, width}
use Rattle.node_tree.specs.Labels.{holds}
use Rattle.node_tree.specs.Seen.{Seen, leaf, counted, opened, is_opened}
use Rattle.page_tree.specs.Pages.{PageRow}
use Rattle.node_binding.specs.Cuts.{opens, cut}
use Rattle.node_binding.specs.Openings.{less, is_spent}
use Rattle.dom_objects.specs.Told.{Told, told_nodes, told_branch, hold_of}
use Rattle.dom_objects.specs.NodeObject.{only_if}
use Rattle.dom_objects.specs.NodeData.{tree_items, tree_data}
use Rattle.dom_objects.specs.Tokens.{data_tokens, field_tokens, head_tokens, tail_tokens}
use Rattle.dom_objects.proofs.TokenLists.{after, node_tokens}
use Rattle.dom_agent.specs.Described.{shows_children, shown_to, no_ids, described}
use Rattle.dom_agent.specs.Requests.{shown}
use Rattle.dom_agent.specs.Edits.{unopened}

width-cut : (o : ℕ → Bool) (i : ℕ → ℕ) (n : Nodes PageRow) → width (cut o i n) ≡ width n
width-cut o i none = refl
width-cut o i (node r c t) = ap suc (width-cut o i t)

pub width-shown_to : (i : ℕ → ℕ) (levels : Option ℕ) (n : Nodes PageRow) → width (shown_to i levels n) ≡ width n
width-shown_to i levels none = refl
width-shown_to i levels (node r c t) = ap suc (width-shown_to i levels t)

-- nodes below the one of that id, as a message tells them
abbrev pub nodes_data : ℕ → Nodes Seen → Data
nodes_data id kids = array (tree_items (told_nodes id kids))

-- ---- one node

-- the row of a node of which nothing is shown below it
abbrev pub plain_row : ℕ → ℕ → Branch PageRow → Told
plain_row id parent b = record {
  parent = parent;
  count = cond {A = ℕ} (holds b.row.label.kind) (width b.children) 0;
  seen = record {
    id = id;
    serial = b.row.serial;
    label = b.row.label;
    hold = hold_of false (holds b.row.label.kind) (cond {A = ℕ} (holds b.row.label.kind) (width b.children) 0);
  };
}

module _ (parent id : ℕ) (r : PageRow) (w : ℕ) (kids : Nodes Seen) where
  -- a node that may have children, or not, and is opened, or not
  abbrev told_now : Bool → Bool → Branch Told
  told_now container open_now =
      told_branch parent
      (record {
        row = record {
          id = id;
          serial = r.serial;
          label = r.label;
          hold = cond container (cond open_now opened (counted w)) leaf;
        };
        children = cond (cond container open_now false) kids none;
      })

  -- its row with so many children; head and tail do not turn on what is shown below it
  abbrev row_with : ℕ → Told
  row_with n = record { parent = parent; count = n; seen = record { id = id; serial = r.serial; label = r.label; hold = leaf } }

  count_told : (container open_now : Bool) → width kids ≡ w → cond {A = ℕ} container w 0 ≡ (told_now container open_now).row.count
  count_told true true e = sym e
  count_told true false e = refl
  count_told false open_now e = refl

  kids_told : (container open_now : Bool)
      → only_if (cond container open_now false) (nodes_data id kids)
      ≡ option_map array (only_if (is_opened (told_now container open_now).row.seen.hold)
      (tree_items (told_now container open_now).children))
  kids_told true true = refl
  kids_told true false = refl
  kids_told false open_now = refl

  node_told : (container open_now : Bool) → width kids ≡ w
      → head_tokens (row_with (cond {A = ℕ} container w 0))
      ++ (field_tokens (codes "children") (only_if (cond container open_now false) (nodes_data id kids))
      ++ tail_tokens (row_with (cond {A = ℕ} container w 0)))
      ≡ data_tokens (tree_data (told_now container open_now))
  node_told container open_now e =
      let told = told_now container open_now in
      ap (λ (n : ℕ). head_tokens (row_with n)
      ++ (field_tokens (codes "children") (only_if (cond container open_now false) (nodes_data id kids)) ++ tail_tokens (row_with n)))
      (count_told container open_now e)
      ∙ ap (λ (k : Option Data). head_tokens told.row ++ (field_tokens (codes "children") k ++ tail_tokens told.row))
      (kids_told container open_now)
      ∙ sym (node_tokens told.row (tree_items told.children))

  -- the same of a node of which nothing is shown
  hidden_told : (container : Bool)
      → head_tokens (row_with (cond {A = ℕ} container w 0)) ++ tail_tokens (row_with (cond {A = ℕ} container w 0))
      ≡ data_tokens (tree_data (told_branch parent
      (record {
        row = record { id = id; serial = r.serial; label = r.label; hold = cond container (counted w) leaf };
        children = none;
      })))
  hidden_told true = sym (node_tokens (told_now true false).row (tree_items none))
  hidden_told false = sym (node_tokens (told_now false false).row (tree_items none))

pub shown_written : (o : ℕ → Bool) (i : ℕ → ℕ) (parent : ℕ) (b : Branch PageRow) (id : ℕ) (r : Told)
    (old : List Token) {t1 t2 new : List Token} → id ≡ i b.row.serial → r ≡ plain_row id parent b → t1 ≡ old ++ head_tokens r
    → t2 ≡ t1 ++ field_tokens (codes "children") (only_if (opens o b.row) (nodes_data id (cut o i b.children))) → new ≡ t2 ++ tail_tokens r
    → new ≡ old ++ data_tokens (tree_data (told_branch parent (shown o i b)))
shown_written o i parent b id r old {t1 = t1} id_is row_is e1 e2 e3 =
    let kids : ℕ → List Token = λ x. field_tokens (codes "children") (only_if (opens o b.row) (nodes_data x (cut o i b.children))) in
    after old (head_tokens r) (kids id ++ tail_tokens r) e1 (after t1 (kids id) (tail_tokens r) e2 e3)
    ∙ ap (λ (x : Told). old ++ (head_tokens x ++ (kids id ++ tail_tokens x))) row_is
    ∙ ap (λ (x : ℕ). old ++ (head_tokens (plain_row x parent b) ++ (kids x ++ tail_tokens (plain_row x parent b)))) id_is
    ∙ ap (λ ts. old ++ ts) (node_told parent (i b.row.serial) b.row (width b.children) (cut o i b.children) (holds b.row.label.kind)
    (o b.row.serial) (width-cut o i b.children))

module _ (r : PageRow) (w : ℕ) (kids : Nodes Seen) (same : width kids ≡ w) where
  -- a node that is described, which may have children, or not, with levels left, or not
  abbrev described_now : Bool → Bool → Branch Told
  described_now container left =
      told_branch 0
      (record {
        row = record {
          id = 0;
          serial = r.serial;
          label = r.label;
          hold = cond container (cond (container && left) opened (counted w)) leaf;
        };
        children = cond (container && left) kids none;
      })

  described_told : (container left : Bool)
      → head_tokens (row_with 0 0 r w kids (cond {A = ℕ} container w 0))
      ++ (field_tokens (codes "children") (only_if (container && left) (nodes_data 0 kids))
      ++ tail_tokens (row_with 0 0 r w kids (cond {A = ℕ} container w 0)))
      ≡ data_tokens (tree_data (described_now container left))
  described_told true left = node_told 0 0 r w kids true left same
  described_told false left = node_told 0 0 r w kids false left same

pub described_written : (levels : Option ℕ) (b : Branch PageRow) (r : Told) (old : List Token) {t1 t2 new : List Token}
    → r ≡ plain_row 0 0 b → t1 ≡ old ++ head_tokens r
    → t2 ≡ t1 ++ field_tokens (codes "children")
    (only_if (shows_children levels b.row) (nodes_data 0 (shown_to no_ids (less levels) b.children))) → new ≡ t2 ++ tail_tokens r
    → new ≡ old ++ data_tokens (tree_data (described levels b))
described_written levels b r old {t1 = t1} row_is e1 e2 e3 =
    let kids : List Token = field_tokens (codes "children")
    (only_if (shows_children levels b.row) (nodes_data 0 (shown_to no_ids (less levels) b.children))) in
    after old (head_tokens r) (kids ++ tail_tokens r) e1 (after t1 kids (tail_tokens r) e2 e3)
    ∙ ap (λ (x : Told). old ++ (head_tokens x ++ (kids ++ tail_tokens x))) row_is
    ∙ ap (λ ts. old ++ ts)
    (described_told b.row (width b.children) (shown_to no_ids (less levels) b.children) (width-shown_to no_ids (less levels) b.children)
    (holds b.row.label.kind) (not (is_spent levels)))

pub unopened_written : (parent id : ℕ) (b : Branch PageRow) (r : Told) (old : List Token) {t1 new : List Token} → r ≡ plain_row id parent b
    → t1 ≡ old ++ head_tokens r → new ≡ t1 ++ tail_tokens r
    → new ≡ old ++ data_tokens (tree_data (told_branch parent (unopened id b)))
unopened_written parent id b r old row_is e1 e2 =
    after old (head_tokens r) (tail_tokens r) e1 e2
    ∙ ap (λ (x : Told). old ++ (head_tokens x ++ tail_tokens x)) row_is
    ∙ ap (λ ts. old ++ ts) (hidden_told parent id b.row (width b.children) none (holds b.row.label.kind))

-- ---- the children of a node

pub children_hidden : (b : Bool) (d : Data) (ts : List Token) → b ≡ false → ts ≡ ts ++ field_tokens (codes "children") (only_if b d)
children_hidden true d ts e = cc
children_hidden false d ts e = sym (append-nil ts)

pub children_written : (b : Bool) (d : Data) (old : List Token) {t1 new : List Token} → b ≡ true → t1 ≡ old ++ key (codes "children") ∷ []
    → new ≡ t1 ++ data_tokens d
    → new ≡ old ++ field_tokens (codes "children") (only_if b d)
children_written true d old e e1 e2 = after old (key (codes "children") ∷ []) (data_tokens d) e1 e2
children_written false d old e e1 e2 = cc

-- nodes that are left to be written, with the bracket behind them
abbrev pub left_tokens : ℕ → Nodes Seen → List Token
left_tokens id kids = items_tokens (items_outline (tree_items (told_nodes id kids)))

-- A walk over children n, of which a client sees `see n`.
module _ (see : Nodes PageRow → Nodes Seen) (parent : ℕ) where
  -- what was written, with what is left
  abbrev pub with_left : List Token → Nodes PageRow → List Token
  with_left now n = now ++ left_tokens parent (see n)

  pub left_start : (n : Nodes PageRow) (old : List Token) {now : List Token} → now ≡ old ++ begin_array ∷ []
      → with_left now n ≡ old ++ data_tokens (nodes_data parent (see n))
  left_start n old begun = ap (λ ts. with_left ts n) begun ∙ append_assoc old (begin_array ∷ []) (left_tokens parent (see n))

  pub left_turn : (one : Branch Seen) (x : Branch PageRow) (n rest : Nodes PageRow) (now next all : List Token)
      → n ≡ node x.row x.children rest → see (node x.row x.children rest) ≡ node one.row one.children (see rest)
      → next ≡ now ++ data_tokens (tree_data (told_branch parent one)) → with_left now n ≡ all → with_left next rest ≡ all
  left_turn one x n rest now next all split first wrote was =
      ap (λ ts. with_left ts rest) wrote
      ∙ append_assoc now (data_tokens (tree_data (told_branch parent one))) (left_tokens parent (see rest))
      ∙ ap (λ (m : Nodes Seen). now ++ left_tokens parent m) (sym (ap see split ∙ first))
      ∙ was

  pub left_end : (n : Nodes PageRow) (now last all : List Token) → see none ≡ none → n ≡ none → last ≡ now ++ end_array ∷ []
      → with_left now n ≡ all → last ≡ all
  left_end n now last all nothing ended closed was = closed ∙ ap (λ (m : Nodes Seen). now ++ left_tokens parent m)
      (sym (ap see ended ∙ nothing)) ∙ was
