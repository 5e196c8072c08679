-- What the writer of nodes writes.
use Rattle.std.proofs.Common.{◌≡◌, ℕ, Bool, true, false, Option, Some, None, option_map, is_some, Vec, Global, refl, ap, ◌∙◌, subst}
use Rattle.serde_json.specs.Data.{Items}
use Rattle.node_tree.specs.Labels.{Label, holds}
use Rattle.node_tree.specs.Nodes.{Branch, nodes_of}
use Rattle.node_tree.specs.Seen.{is_opened}
use Rattle.dom_objects.specs.Told.{Told, hold_of, shown_children}
use Rattle.dom_objects.specs.NodeObject.{node_fields, only_if, node_object_with}
use Rattle.dom_objects.specs.NodeData.{tree_items, tree_data}

-- a tree by its fields
abbrev pub told_tree : ℕ → ℕ → ℕ → ℕ → Label → Option (Vec (Branch Told) Global) → Branch Told
told_tree parent count id serial label o =
    record {
      row = record {
        parent = parent;
        count = count;
        seen = record { id = id; serial = serial; label = label; hold = hold_of (is_some o) (holds label.kind) count };
      };
      children = shown_children o;
    }

hidden : {A : Type 0} (container : Bool) (count : ℕ) (x : A) → None ≡ only_if (is_opened (hold_of false container count)) x
hidden true count x = refl
hidden false count x = refl

abbrev pub written_items : Vec (Branch Told) Global → Items
written_items ts = tree_items (nodes_of ts.items)

written_at : (parent count id serial : ℕ) (label : Label) (o : Option (Vec (Branch Told) Global))
    → node_fields.spell (node_object_with (told_tree parent count id serial label o).row (option_map written_items o))
    ≡ tree_data (told_tree parent count id serial label o)
written_at parent count id serial label None = ap
    (λ k. node_fields.spell (node_object_with (told_tree parent count id serial label None).row k)) (hidden (holds label.kind) count _)
written_at parent count id serial label (Some ts) = refl

pub tree_written : (parent count id serial : ℕ) (label : Label) (o : Option (Vec (Branch Told) Global)) (b : Branch Told)
    (list : Option Items)
    → told_tree parent count id serial label o ≡ b → list ≡ option_map written_items o
    → node_fields.spell (node_object_with b.row list) ≡ tree_data b
tree_written parent count id serial label o b list e l =
    ap (λ k. node_fields.spell (node_object_with b.row k)) l
    ∙ subst (λ (t : Branch Told). node_fields.spell (node_object_with t.row (option_map written_items o)) ≡ tree_data t) e
    (written_at parent count id serial label o)
