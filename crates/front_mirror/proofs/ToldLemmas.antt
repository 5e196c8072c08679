-- Trees that messages tell, and what is shown of them.
use Rattle.std.proofs.Common.{◌≡◌, ℕ, zero, suc, ◌<◌, List, [], ◌∷◌, length, get_or, refl, ap, ◌∙◌, arith}
use Rattle.node_tree.specs.Nodes.{Nodes, none, node, Branch, nodes_of, width, node_count, height}
use Rattle.node_tree.proofs.NodeLemmas.{width-nodes_of}
use Rattle.node_tree.specs.Seen.{Seen}
use Rattle.dom_objects.specs.Told.{Told, seen_nodes}
use Rattle.client_views.specs.Views.{keys}

-- what stands below one tree of a list is smaller than the list
pub node_count_below : {R : Type 0} (bs : List (Branch R)) (i : ℕ) (b : Branch R) (c : Nodes R)
    → i < length bs → b ≡ get_or bs i b → c ≡ b.children → node_count c < node_count (nodes_of bs)
node_count_below [] i b c h is below = absurd (omega arith)
node_count_below {R} (x ∷ bs) zero b c h is below = let e : c
    ≡ x.children = below ∙ ap (λ (y : Branch R). y.children) is in rw e (omega arith)
node_count_below (x ∷ bs) (suc i) b c h is below = let le = node_count_below bs i b c (omega arith) is below in omega arith

pub height-seen : (n : Nodes Told) → height (seen_nodes n) ≡ height n
height-seen none = refl
height-seen (node r c t) = rw (height-seen c, height-seen t) refl

pub keys-seen : (key : Seen → ℕ) (n : Nodes Told) → keys key (seen_nodes n) ≡ keys (λ r. key r.seen) n
keys-seen key none = refl
keys-seen key (node r c t) = rw (keys-seen key c, keys-seen key t) refl

pub list_width : (bs : List (Branch Told)) (c : Nodes Told) → nodes_of bs ≡ c → length bs ≡ width c
list_width bs c is = rw (← is, width-nodes_of)
