-- An edit of the page for a client that is shown what a mode shows: it is the edit that it is in the shown page, or none.
use Rattle.std.specs.Prelude.{◌≡◌, ◌+◌, ◌≤◌, List, [], length, Option, Some, None}
use Rattle.node_tree.specs.Nodes.{alone}
use Rattle.page_tree.specs.Pages.{PageValue, IsValid}
use Rattle.page_tree.specs.Edits.{after}
use Rattle.page_tree.specs.EditFaults.{CanApply}
use Rattle.page_tree.specs.declared.edits.TreeEdit.{TreeEdit}
use Rattle.shown_pages.specs.declared.modes.Mode.{Mode}
use Rattle.shown_pages.specs.ShownPages.{shown_page}
use Rattle.shown_pages.specs.ShownEdits.{shown_edit}
use Rattle.node_binding.specs.Sessions.{Session, IsSession}
use Rattle.node_binding.specs.Bindings.{BindingValue}
use Rattle.node_binding.specs.Changes.{BindingStandsFor}
use Rattle.client_views.specs.Views.{ShownSheet}
use Rattle.client_views.specs.Moves.{Course}
use Rattle.dom_agent.specs.Edits.{Edited}
use Rattle.dom_agent.specs.EditLaws.{session_edited, binding_edited}
use Rattle.dom_agent.specs.Laws.{CanTell, CanTellSheets, FindsInside, session_view}

-- what an edit comes to, if there is one; else nothing is told and all stays
abbrev pub edited_if : {S : Type 0} → (TreeEdit → S → Edited S) → Option TreeEdit → S → Edited S
edited_if edit None w = record { state = w; moves = [] }
edited_if edit (Some e) w = edit e w

module _ (mode : Mode) where
  -- what an edit of the page comes to for a session
  abbrev pub shown_session_edited : TreeEdit → PageValue → Session → Edited Session
  shown_session_edited e page w = edited_if (λ f. session_edited f (shown_page mode page)) (shown_edit mode e page.tree) w

  -- what an edit of the page comes to for a binding
  abbrev pub shown_binding_edited : TreeEdit → PageValue → BindingValue → Edited BindingValue
  shown_binding_edited e page b = edited_if (λ f. binding_edited f (shown_page mode page)) (shown_edit mode e page.tree) b

-- after an edit that a page takes a session is one with the shown page of the page after
abbrev pub ShownEditKeepsSession : Type 0
ShownEditKeepsSession =
    (mode : Mode) (page : PageValue) (e : TreeEdit) (w : Session) → IsValid page → CanApply page.next e page.tree
    → IsSession (alone (shown_page mode page).tree) w
    → IsSession (alone (shown_page mode (after e page)).tree) (shown_session_edited mode e page w).state

-- the binding stands for it
abbrev pub ShownEditKeepsBound : Type 0
ShownEditKeepsBound =
    (mode : Mode) (page : PageValue) (e : TreeEdit) (w : Session) (b : BindingValue) → IsValid page → CanApply page.next e page.tree
    → BindingStandsFor (shown_page mode page) w b
    → BindingStandsFor (shown_page mode (after e page)) (shown_session_edited mode e page w).state
    (shown_binding_edited mode e page b).state

-- an edit tells the same moves for a binding as for the session that it stands for
abbrev pub SameShownMoves : Type 0
SameShownMoves =
    (mode : Mode) (page : PageValue) (e : TreeEdit) (w : Session) (b : BindingValue) → IsValid page → CanApply page.next e page.tree
    → BindingStandsFor (shown_page mode page) w b
    → (shown_binding_edited mode e page b).moves ≡ (shown_session_edited mode e page w).moves

-- by the moves of an edit the view of the shown page before comes to that of the shown page after
abbrev pub ShownEditsAreMoves : Type 0
ShownEditsAreMoves =
    (mode : Mode) (page : PageValue) (e : TreeEdit) (w : Session) (sheets : List ShownSheet) → IsValid page
    → CanApply page.next e page.tree → IsSession (alone (shown_page mode page).tree) w → CanTell (shown_page mode page) w
    → CanTell (shown_page mode (after e page)) (shown_session_edited mode e page w).state → CanTellSheets sheets
    → Course (shown_session_edited mode e page w).moves (session_view w (shown_page mode page) sheets)
    (session_view (shown_session_edited mode e page w).state (shown_page mode (after e page)) sheets)

-- at most one id is drawn
abbrev pub ShownEditDrawsOne : Type 0
ShownEditDrawsOne = (mode : Mode) (page : PageValue) (e : TreeEdit) (w : Session)
    → length (shown_session_edited mode e page w).state.pushed ≤ length w.pushed + 1

-- an edit keeps the mode
abbrev pub ShownEditKeepsMode : Type 0
ShownEditKeepsMode = (mode : Mode) (page : PageValue) (e : TreeEdit) (b : BindingValue)
    → (shown_binding_edited mode e page b).state.mode ≡ b.mode

-- what can be told of a page can be told of what is shown of it
abbrev pub ShownCanBeTold : Type 0
ShownCanBeTold = (mode : Mode) (page : PageValue) (w : Session) → CanTell page w → CanTell (shown_page mode page) w

-- a query looks in the whole page; what it finds first below a shown node is shown
abbrev pub FindsShown : Type 0
FindsShown = (mode : Mode) (page : PageValue) → IsValid page → FindsInside page.tree (shown_page mode page).tree
