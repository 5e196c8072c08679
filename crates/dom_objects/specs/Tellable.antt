-- Which shown trees a message can tell.
use Rattle.std.specs.Prelude.{ℕ, Bool, true, false, not, ◌&&◌, cond, nat_lt, ◌≡◌}
use Rattle.cdp_json.specs.Kinds.{is_counted}
use Rattle.node_tree.specs.Labels.{is_document, holds, is_formed_label, is_named_label}
use Rattle.node_tree.specs.Nodes.{Nodes, none, node, Branch, is_no_node}
use Rattle.node_tree.specs.Seen.{Hold, leaf, counted, opened, Seen, is_opened}
use Rattle.dom_objects.specs.Told.{count_in, told_branch}
use Rattle.dom_objects.specs.NodeObject.{same}
use Rattle.dom_objects.specs.NodeData.{fits_tree}

-- containers alone have children
abbrev pub suits_hold : Hold → Bool → Bool
suits_hold leaf container = not container
suits_hold (counted n) container = container
suits_hold opened container = container

-- The document is at the top and alone there; ids and serials are from 1 to 2^53-1, and so is no count above; names have their forms.
abbrev pub suits_row : Bool → Seen → ℕ → Bool
suits_row top r count =
    is_counted r.id && is_counted r.serial && is_counted count && nat_lt 0 r.id && nat_lt 0 r.serial && is_formed_label r.label
    && is_named_label r.label
    && same (is_document r.label.kind) top && suits_hold r.hold (holds r.label.kind)

-- what is not opened shows no children
abbrev pub suits_below : Seen → Nodes Seen → Bool
suits_below r c = cond (is_opened r.hold) true (is_no_node c)

-- shown nodes that are no document, each in its place
abbrev pub suits_nodes : Nodes Seen → Bool
suits_nodes none = true
suits_nodes (node r c t) = suits_row false r (count_in r.hold c) && suits_below r c && suits_nodes c && suits_nodes t

-- a shown tree whose top is the document, or is not (`top`)
abbrev pub suits_tree : Bool → Branch Seen → Bool
suits_tree top b = suits_row top b.row (count_in b.row.hold b.children) && suits_below b.row b.children && suits_nodes b.children

-- a shown document that suits a message is told in a form that fits
abbrev pub ShownTreesFit : Type 0
ShownTreesFit = (b : Branch Seen) → suits_tree true b ≡ true → fits_tree true (told_branch 0 b) ≡ true
