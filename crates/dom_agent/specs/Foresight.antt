-- What an edit will be for a client, seen by the page before it, and what is told of it by the page after it. Of a node that comes
-- nothing is kept or told before the page has it; all else is.
use Rattle.std.specs.Prelude.{◌≡◌, ℕ, true, false, List, Option, Some, None, IsSome, ⊤}
use Rattle.node_tree.specs.Nodes.{none, Branch}
use Rattle.page_tree.specs.Pages.{PageRow, PageValue, find_in, node_at, parent_at}
use Rattle.page_tree.specs.Edits.{children_at}
use Rattle.page_tree.specs.declared.edits.TreeEdit.{TreeEdit}
use Rattle.page_tree.specs.declared.edits.TreeEdit.TheVariants.{SetAttr, DropAttr, SetText, Attach, Detach}
use Rattle.shown_pages.specs.declared.modes.Mode.{Mode}
use Rattle.shown_pages.specs.Modes.{hidden_in}
use Rattle.node_binding.specs.Bindings.{BindingValue}
use Rattle.client_views.specs.Moves.{frames_of_moves}
use Rattle.dom_agent.specs.declared.foresight.Foreseen.{Foreseen}
use Rattle.dom_agent.specs.declared.foresight.Foreseen.TheVariants.{Tells, Comes}
use Rattle.dom_agent.specs.Keepers.{Keeper, binding_keeper}
use Rattle.dom_agent.specs.Edits.{Edited, family, child_came, event_frames}
use Rattle.dom_agent.specs.EditLaws.{binding_edited}
use Rattle.dom_agent.specs.ModeEdits.{edited_if}

-- what the edit comes to for a binding, if there is one, in the page that the client is shown
abbrev pub foreseen_edited : Option TreeEdit → PageValue → BindingValue → Edited BindingValue
foreseen_edited o page b = edited_if (λ e. binding_edited e page) o b

-- the attach of the tree of that serial below that parent
abbrev pub IsComing : ℕ → ℕ → Option TreeEdit → Type 0
IsComing parent serial None = ⊥
IsComing parent serial (Some (SetAttr node name value)) = ⊥
IsComing parent serial (Some (DropAttr node name)) = ⊥
IsComing parent serial (Some (SetText node value)) = ⊥
IsComing parent serial (Some (Attach p before w)) = (parent ≡ p) × (serial ≡ w.row.serial)
IsComing parent serial (Some (Detach node)) = ⊥

-- What was foreseen of the edit of the page that the client is shown, with a binding before and after: a coming, of which nothing is
-- kept yet; or an event that tells all of it, where all is kept already.
abbrev pub IsForeseen : Foreseen → Option TreeEdit → PageValue → BindingValue → BindingValue → Type 0
IsForeseen (Comes parent serial) o page b b2 = IsComing parent serial o × (b2 ≡ b)
IsForeseen (Tells event) o page b b2 =
    (event_frames event ≡ frames_of_moves (foreseen_edited o page b).moves) × (b2 ≡ (foreseen_edited o page b).state)

-- what was foreseen of an attach of that tree
abbrev pub IsAttachForeseen : Foreseen → Mode → ℕ → Branch PageRow → Type 0
IsAttachForeseen (Comes parent serial) mode p w = (hidden_in mode w.row.label ≡ false) × (parent ≡ p) × (serial ≡ w.row.serial)
IsAttachForeseen (Tells event) mode p w = (hidden_in mode w.row.label ≡ true) × (event ≡ None)

-- ---- by the page after the edit

-- a node that was to come has come below its parent, as the client is shown the document
abbrev pub HasCome : Foreseen → Branch PageRow → Type 0
HasCome (Comes parent serial) document =
    IsSome (find_in parent document) × IsSome (find_in serial document) × (parent_at serial document ≡ parent)
HasCome (Tells event) document = ⊤

-- the coming of the node of that serial below that parent
abbrev pub came_below : {S : Type 0} → Keeper S → ℕ → ℕ → Branch PageRow → S → Edited S
came_below k parent serial document w = child_came k (family parent (node_at serial document) (children_at parent document)) w

-- what is kept after it was told
abbrev pub kept_after : Foreseen → Branch PageRow → BindingValue → BindingValue
kept_after (Comes parent serial) document b = (came_below (binding_keeper none) parent serial document b).state
kept_after (Tells event) document b = b

-- the frames that tell it
abbrev pub frames_after : Foreseen → Branch PageRow → BindingValue → List ℕ
frames_after (Comes parent serial) document b = frames_of_moves (came_below (binding_keeper none) parent serial document b).moves
frames_after (Tells event) document b = event_frames event
