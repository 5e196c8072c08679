-- An edit of the page, for a session and for the binding that stands for it.
use Rattle.std.specs.Prelude.{◌≡◌, ◌+◌, ◌≤◌, List, length}
use Rattle.node_tree.specs.Nodes.{alone}
use Rattle.page_tree.specs.Pages.{PageValue, IsValid}
use Rattle.page_tree.specs.Edits.{after}
use Rattle.page_tree.specs.EditFaults.{CanApply}
use Rattle.page_tree.specs.declared.edits.TreeEdit.{TreeEdit}
use Rattle.node_binding.specs.Sessions.{Session, IsSession}
use Rattle.node_binding.specs.Bindings.{BindingValue}
use Rattle.node_binding.specs.Changes.{BindingStandsFor}
use Rattle.client_views.specs.Views.{ShownSheet}
use Rattle.client_views.specs.Moves.{Course}
use Rattle.dom_agent.specs.Keepers.{session_keeper, binding_keeper}
use Rattle.dom_agent.specs.Edits.{Edited, edited}
use Rattle.dom_agent.specs.Laws.{CanTell, CanTellSheets, session_view}

-- what an edit of the page comes to for a session
abbrev pub session_edited : TreeEdit → PageValue → Session → Edited Session
session_edited e page w = edited (session_keeper (alone page.tree)) e page.tree w

-- what an edit of the page comes to for a binding
abbrev pub binding_edited : TreeEdit → PageValue → BindingValue → Edited BindingValue
binding_edited e page b = edited (binding_keeper (alone page.tree)) e page.tree b

-- after an edit that a page takes a session is one with the page after
abbrev pub EditKeepsSession : Type 0
EditKeepsSession =
    (page : PageValue) (e : TreeEdit) (w : Session) → IsValid page → CanApply page.next e page.tree → IsSession (alone page.tree) w
    → IsSession (alone (after e page).tree) (session_edited e page w).state

-- the binding stands for it
abbrev pub EditKeepsBound : Type 0
EditKeepsBound =
    (page : PageValue) (e : TreeEdit) (w : Session) (b : BindingValue) → IsValid page → CanApply page.next e page.tree
    → BindingStandsFor page w b
    → BindingStandsFor (after e page) (session_edited e page w).state (binding_edited e page b).state

-- an edit tells the same moves for a binding as for the session that it stands for
abbrev pub SameEditMoves : Type 0
SameEditMoves =
    (page : PageValue) (e : TreeEdit) (w : Session) (b : BindingValue) → IsValid page → CanApply page.next e page.tree
    → BindingStandsFor page w b
    → (binding_edited e page b).moves ≡ (session_edited e page w).moves

-- by the moves of an edit the view of the page before comes to that of the page after, and messages can tell both
abbrev pub EditsAreMoves : Type 0
EditsAreMoves =
    (page : PageValue) (e : TreeEdit) (w : Session) (sheets : List ShownSheet) → IsValid page → CanApply page.next e page.tree
    → IsSession (alone page.tree) w → CanTell page w → CanTell (after e page) (session_edited e page w).state → CanTellSheets sheets
    → Course (session_edited e page w).moves (session_view w page sheets)
    (session_view (session_edited e page w).state (after e page) sheets)

-- at most one id is drawn
abbrev pub EditDrawsOne : Type 0
EditDrawsOne = (page : PageValue) (e : TreeEdit) (w : Session) → length (session_edited e page w).state.pushed ≤ length w.pushed + 1
