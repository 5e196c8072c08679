-- The nodes of a drill's page.
use Rattle.std.specs.Prelude.{ℕ, ◌==◌, cond, List, [], ◌∷◌, ◌++◌, codes, decimal}
use Rattle.node_tree.specs.Nodes.{Nodes, none, node}
use Rattle.node_tree.specs.Labels.{Pair, Label}
use Rattle.node_tree.specs.declared.Kind.TheVariants.{Element}
use Rattle.drill_script.specs.declared.divs.Div.{Div}

-- an element
abbrev pub element : List ℕ → List Pair → Label
element name attributes = record { kind = Element; name = name; value = []; attributes = attributes }

-- the class that a digit gives: `k` and the digit
abbrev pub class_text : ℕ → List ℕ
class_text digit = codes "k" ++ decimal digit

-- a div with that class
abbrev pub div_label : ℕ → Label
div_label digit = element (codes "div") ((codes "class", class_text digit) ∷ [])

-- Of these divs those that stand below the one of number j, each with all below it: they come in their order, and each is the last
-- child at its time.
abbrev pub below : ℕ → List Div → Nodes Label
below j [] = none
below j (d ∷ ds) = cond (d.up == j) (node (div_label d.digit) (below d.number ds) (below j ds)) (below j ds)

-- the nodes below the document: `html`, which has `body`, which has the divs
abbrev pub drill_nodes : List Div → Nodes Label
drill_nodes divs = node (element (codes "html") []) (node (element (codes "body") []) (below 0 divs) none) none
