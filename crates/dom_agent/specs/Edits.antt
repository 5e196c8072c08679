-- What an edit of the page comes to for a client: what is kept, and the moves that tell it.
use Rattle.std.specs.Prelude.{ℕ, ◌==◌, cond, List, [], ◌∷◌, Option, Result, Ok, Err, ⊤}
use Rattle.std.specs.List.{flat_map}
use Rattle.std.specs.Option.{option_to_list}
use Rattle.node_tree.specs.Nodes.{Nodes, none, node, Branch, width}
use Rattle.node_tree.specs.Labels.{holds}
use Rattle.node_tree.specs.Seen.{Seen, leaf, counted}
use Rattle.page_tree.specs.Pages.{PageRow, node_at, parent_at}
use Rattle.page_tree.specs.Edits.{after_tree, children_at}
use Rattle.page_tree.specs.declared.edits.TreeEdit.{TreeEdit}
use Rattle.page_tree.specs.declared.edits.TreeEdit.TheVariants.{SetAttr, DropAttr, SetText, Attach, Detach}
use Rattle.page_tree.specs.declared.edit_faults.EditErr.{EditErr}
use Rattle.page_tree.specs.declared.edit_faults.EditErr.TheVariants.{Fault, Memory}
use Rattle.cdp_messages.specs.declared.down.Event.{Event}
use Rattle.pipe_frames.specs.Frames.{framed}
use Rattle.cdp_messages.specs.Events.{news_of}
use Rattle.cdp_messages.specs.Replies.{event_text}
use Rattle.client_views.specs.Moves.{Change, inserts, removes, counts, sets, drops, says, Move, change}
use Rattle.dom_agent.specs.Keepers.{Keeper}

-- what is kept after an edit, and what is told of it
pub record Edited (S : Type 0) : Type 0 where
  pub state : S
  pub moves : List Move

-- the id of the tree that stands right before that of the serial, or else of the last; `previous` where there is none
abbrev pub id_before : (ℕ → ℕ) → ℕ → ℕ → Nodes PageRow → ℕ
id_before ids previous serial none = previous
id_before ids previous serial (node r c t) = cond (r.serial == serial) previous (id_before ids (ids r.serial) serial t)

-- a node with that id, none of whose children are shown
abbrev pub unopened : ℕ → Branch PageRow → Branch Seen
unopened id x = record {
  row = record {
    id = id;
    serial = x.row.serial;
    label = x.row.label;
    hold = cond (holds x.row.label.kind) (counted (width x.children)) leaf;
  };
  children = none;
}

-- a node that comes below a parent or goes from there, and the children that the parent has then
pub record Family : Type 0 where
  pub parent : ℕ
  pub child : Branch PageRow
  pub children : Nodes PageRow

-- this child of the parent of that serial, which has these children
abbrev pub family : ℕ → Branch PageRow → Nodes PageRow → Family
family parent child children = record { parent = parent; child = child; children = children }

module _ {S : Type 0} (k : Keeper S) where
  -- a change of a node, where it is known
  abbrev pub told_where_known : ℕ → Change → S → List Move
  told_where_known serial c w = cond (k.knows w serial) (change (k.id_of w serial) c ∷ []) []

  -- that a node has so many children, where it is known
  abbrev pub told_count : ℕ → Nodes PageRow → S → List Move
  told_count serial children w = told_where_known serial (counts (width children)) w

  -- that the opened parent has got the child, unopened, behind the sibling before it
  abbrev pub insertion : Family → S → Move
  insertion f w =
      let serial = f.child.row.serial in
      change (k.id_of w f.parent) (inserts (id_before (k.id_of w) 0 serial f.children) (unopened (k.id_of w serial) f.child))

  -- the child was attached: below an opened parent it becomes known
  abbrev pub child_came : Family → S → Edited S
  child_came f w =
      cond (k.is_open w f.parent) (let z = k.bound f.child.row.serial w in record { state = z; moves = insertion f z ∷ [] })
      (record { state = w; moves = told_count f.parent f.children w })

  -- the child was detached: below an opened parent it was known
  abbrev pub child_gone : Family → S → Edited S
  child_gone f w = record {
    state = k.forgot f.child w;
    moves = cond (k.is_open w f.parent) (change (k.id_of w f.parent) (removes (k.id_of w f.child.row.serial)) ∷ [])
        (told_count f.parent f.children w);
  }

  -- what an edit of that tree comes to
  abbrev pub edited : TreeEdit → Branch PageRow → S → Edited S
  edited (SetAttr serial name value) tree w = record { state = w; moves = told_where_known serial (sets name value) w }
  edited (DropAttr serial name) tree w = record { state = w; moves = told_where_known serial (drops name) w }
  edited (SetText serial value) tree w = record { state = w; moves = told_where_known serial (says value) w }
  edited (Attach parent before x) tree w = child_came (family parent x (children_at parent (after_tree (Attach parent before x) tree))) w
  edited (Detach serial) tree w =
      let parent = parent_at serial tree in
      child_gone (family parent (node_at serial tree) (children_at parent (after_tree (Detach serial) tree))) w

-- ---- in code

-- an event as it is written, if there is one
abbrev pub event_frames : Option Event → List ℕ
event_frames e = flat_map (λ x. framed (event_text (news_of x))) (option_to_list e)

-- a fact where a fault is answered
abbrev pub OnFault : {T : Type 0} → Result T EditErr → Type 0 → Type 0
OnFault (Ok x) P = ⊤
OnFault (Err (Fault f)) P = P
OnFault (Err Memory) P = ⊤
