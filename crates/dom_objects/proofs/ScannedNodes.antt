-- What fields that were read as they are written tell of a node.
use Rattle.std.proofs.Common.{◌≡◌, ℕ, suc, ◌≤◌, max, List, [], ◌∷◌, ◌++◌, length, Bool, true, false, ◌&&◌, Option, Some, None, option_map}
use Rattle.std.proofs.Common.{Vec, Global, refl, sym, ap, ◌∙◌, subst, arith}
use Rattle.std.specs.Prelude.{is_some, unwrap_or}
use Rattle.serde_json.specs.Data.{Items, no_items}
use Rattle.serde_json.specs.Events.{items_len}
use Rattle.cdp_json.specs.Kinds.{is_counted, holds_of_some}
use Rattle.node_tree.specs.Nodes.{Branch, nodes_of, alone, height, width}
use Rattle.node_tree.proofs.NodeLemmas.{width-nodes_of}
use Rattle.dom_objects.specs.declared.node_read.NodeParts.{NodeParts}
use Rattle.dom_objects.specs.declared.node_rules.Manner.TheVariants.{Pushed}
use Rattle.dom_objects.specs.Told.{Told, shown_children}
use Rattle.dom_objects.specs.NodeObject.{NodeObject, node_fields, node_data, told_in, children_shown, fits_told, is_counted_row, agrees}
use Rattle.dom_objects.specs.NodeObject.{tells}
use Rattle.dom_objects.specs.NodeData.{tree_items, tree_data, fits_nodes, fits_tree}
use Rattle.dom_objects.specs.Raw.{object_over, told_over, tree_over, items_shown}
use Rattle.cdp_json.proofs.Options.{both, both_parts}
use Rattle.dom_objects.proofs.NodeObjects.{object_for-told_in}
use Rattle.dom_objects.proofs.NodeTrees.{items_len-tree_items, counted_or_zero, below_told}
use Rattle.dom_objects.proofs.TreesRead.{finished_is}

-- the fields over these children
abbrev pub over_trees : NodeParts → Option (Vec (Branch Told) Global) → NodeObject
over_trees parts o = object_over parts (items_shown o)

-- how many children are shown
abbrev pub widths : Option (Vec (Branch Told) Global) → Option ℕ
widths o = option_map (λ trees. width (nodes_of trees.items)) o

pub shown_width : (o : Option (Vec (Branch Told) Global)) (ts : Vec (Branch Told) Global) (n : ℕ) → o ≡ Some ts → n ≡ length ts.items
    → Some n ≡ widths o
shown_width o ts n is e = ap Some (e ∙ sym (width-nodes_of ts.items)) ∙ ap widths (sym is)

shown_items : (o : Option (Vec (Branch Told) Global)) → tree_items (shown_children o) ≡ unwrap_or (items_shown o) no_items
shown_items None = refl
shown_items (Some ts) = refl

shown_there : (o : Option (Vec (Branch Told) Global)) → is_some o ≡ is_some (items_shown o)
shown_there None = refl
shown_there (Some ts) = refl

-- the test of the fields, over these children
abbrev pub told_here : NodeParts → Bool → Option (Vec (Branch Told) Global) → Bool
told_here parts top o = agrees (object_over parts None)
    && fits_told Pushed top (unwrap_or (widths o) 0) (told_over parts (is_some (widths o)))

tells_here : (parts : NodeParts) (top : Bool) (o : Option (Vec (Branch Told) Global))
    → tells Pushed top (over_trees parts o) ≡ told_here parts top o
tells_here parts top None = refl
tells_here parts top (Some ts) = ap (λ w. agrees (object_over parts None) && fits_told Pushed top w (told_over parts true))
    (items_len-tree_items (nodes_of ts.items))

pub told_true : (parts : NodeParts) (top : Bool) (o : Option (Vec (Branch Told) Global)) (told : Bool) (shown : Option ℕ)
    → told ≡ (agrees (object_over parts None) && fits_told Pushed top (unwrap_or shown 0) (told_over parts (is_some shown)))
    → shown ≡ widths o → told ≡ true → told_here parts top o ≡ true
told_true parts top o told shown e s holding =
    sym (e ∙ ap (λ w. agrees (object_over parts None) && fits_told Pushed top (unwrap_or w 0) (told_over parts (is_some w))) s) ∙ holding

tree_is : (parts : NodeParts) (o : Option (Vec (Branch Told) Global)) (tree : Branch Told)
    → tree ≡ tree_over parts o
    → tree ≡ record { row = told_in (over_trees parts o); children = shown_children o }
tree_is parts o tree e = e ∙ finished_is (over_trees parts o) o (shown_there o)

pub node_written : (parts : NodeParts) (top : Bool) (o : Option (Vec (Branch Told) Global)) (tree : Branch Told)
    → told_here parts top o ≡ true
    → tree ≡ tree_over parts o
    → tree_data tree ≡ node_fields.spell (object_over parts (items_shown o))
node_written parts top o tree t e =
    let x = over_trees parts o in
    ap tree_data (tree_is parts o tree e) ∙ ap (node_data (told_in x)) (shown_items o) ∙ ap node_fields.spell
    (object_for-told_in Pushed top x (tells_here parts top o ∙ t))

counted_row : (parts : NodeParts) (k : Option Items)
    → (is_counted parts.serial && is_counted parts.id && holds_of_some is_counted parts.count && holds_of_some is_counted parts.parent)
    ≡ true
    → is_counted_row (told_in (object_over parts k)) ≡ true
counted_row parts k f =
    let p3 = both_parts _ (holds_of_some is_counted parts.parent) f in
    let p2 = both_parts _ (holds_of_some is_counted parts.count) p3.0 in
    let p1 = both_parts (is_counted parts.serial) (is_counted parts.id) p2.0 in
    both (both (both p1.1 p1.0) (counted_or_zero parts.count p2.1)) (counted_or_zero parts.parent p3.1)

pub node_fits : (parts : NodeParts) (top : Bool) (o : Option (Vec (Branch Told) Global)) (tree : Branch Told)
    → (is_counted parts.serial && is_counted parts.id && holds_of_some is_counted parts.count && holds_of_some is_counted parts.parent)
    ≡ true → told_here parts top o ≡ true
    → fits_nodes (shown_children o) ≡ true
    → tree ≡ tree_over parts o
    → fits_tree top tree ≡ true
node_fits parts top o tree counted t below e =
    let x = over_trees parts o in
    let n = shown_children o in
    let kids : tree_items n ≡ children_shown x = shown_items o in
    let wide : items_len (children_shown x) ≡ width n = ap items_len (sym kids) ∙ items_len-tree_items n in
    let place = (both_parts (agrees x) (fits_told Pushed top (items_len (children_shown x)) (told_in x)) (tells_here parts top o ∙ t)).1 in
    subst (λ (z : Branch Told). fits_tree top z ≡ true) (sym (tree_is parts o tree e))
    (both (both (both (counted_row parts (items_shown o) counted) (subst (λ w. fits_told Pushed top w (told_in x) ≡ true) wide place))
    (below_told x n kids)) below)

-- ---- trees side by side

fit_on : (ts : List (Branch Told)) (b : Branch Told) → fits_nodes (nodes_of ts) ≡ true → fits_tree false b ≡ true
    → fits_nodes (nodes_of (ts ++ b ∷ [])) ≡ true
fit_on [] b f g = both g refl
fit_on (t ∷ ts) b f g = let p = both_parts (fits_tree false t) (fits_nodes (nodes_of ts)) f in both p.0 (fit_on ts b p.1 g)

pub fit_more : (ts more : List (Branch Told)) (b : Branch Told) → more ≡ ts ++ b ∷ [] → fits_nodes (nodes_of ts) ≡ true
    → fits_tree false b ≡ true → fits_nodes (nodes_of more) ≡ true
fit_more ts more b m f g = subst (λ (l : List (Branch Told)). fits_nodes (nodes_of l) ≡ true) (sym m) (fit_on ts b f g)

low_on : (x : ℕ) (ts : List (Branch Told)) (b : Branch Told) → height (nodes_of ts) ≤ x → height (alone b) ≤ x
    → height (nodes_of (ts ++ b ∷ [])) ≤ x
low_on x [] b f g = g
low_on x (t ∷ ts) b f g = wider (suc (height t.children)) (height (nodes_of ts)) f
    (low_on x ts b (part (suc (height t.children)) (height (nodes_of ts)) f) g) where
      part : (s h : ℕ) → max s h ≤ x → h ≤ x
      part s h e = omega arith

      wider : (s h : ℕ) {k : ℕ} → max s h ≤ x → k ≤ x → max s k ≤ x
      wider s h e l = omega arith

pub low_more : (x : ℕ) (ts more : List (Branch Told)) (b : Branch Told) → more ≡ ts ++ b ∷ [] → height (nodes_of ts) ≤ x
    → height (alone b) ≤ x → height (nodes_of more) ≤ x
low_more x ts more b m f g = subst (λ (l : List (Branch Told)). height (nodes_of l) ≤ x) (sym m) (low_on x ts b f g)
