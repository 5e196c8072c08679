-- What the commands open, as sets of nodes of the page.
use Rattle.std.specs.Prelude.{◌≡◌, ℕ, ℤ, pos, Bool, true, not, List, [], ◌∷◌, ◌++◌, filter, ◌↔◌, Option, Some, unwrap_or, Result, Ok}
use Rattle.node_tree.specs.Nodes.{Nodes, none, node, Branch, alone}
use Rattle.page_tree.specs.Pages.{PageRow, PageValue, IsValid}
use Rattle.node_binding.specs.Counts.{stands_in}
use Rattle.node_binding.specs.Openings.{levels_of}
use Rattle.node_binding.specs.Sessions.{Session, IsSession, is_open, known_by, knows, serial_at}
use Rattle.cdp_messages.specs.declared.command.Why.{Why}
use Rattle.cdp_messages.specs.declared.dom_ask.DomAsk.TheVariants.{GetDocument, RequestChildNodes, PushByPath, PushBySerials, QuerySelector}
use Rattle.cdp_messages.specs.declared.dom_ask.DomAsk.TheVariants.{QuerySelectorAll}
use Rattle.dom_agent.specs.Keepers.{session_keeper}
use Rattle.dom_agent.specs.Paths.{node_at_path}
use Rattle.dom_agent.specs.Queries.{Query, query_of, first_matching, all_matching}
use Rattle.dom_agent.specs.Requests.{Opening, requested, ancestors_down, known_node, state_after}
use Rattle.dom_agent.specs.Distances.{IsReached, IsAncestor, OpensAlso}
use Rattle.dom_agent.specs.Laws.{session_outcome}

-- the levels that a depth asks for; absent it counts as 1
abbrev pub levels_asked : Option ℤ → Option ℕ
levels_asked depth = levels_of (unwrap_or depth (pos 1))

-- after `DOM.getDocument` the containers of a level below the depth are opened, and nothing else
abbrev pub DocumentOpens : Type 0
DocumentOpens = (page : PageValue) (whole : Branch PageRow) (depth : Option ℤ) (pierce : Option Bool) (w : Session) → IsValid page
    → (s : ℕ) → (is_open (state_after w (session_outcome page whole (GetDocument depth pierce) w)).opened s ≡ true)
    ↔ IsReached (levels_asked depth) page.tree s

-- a request for the children of the known node x opens each container at or below it at a distance below the depth
abbrev pub RequestOpens : Type 0
RequestOpens =
    (page : PageValue) (whole : Branch PageRow) (id : ℕ) (depth : Option ℤ) (pierce : Option Bool) (w : Session) (x : Branch PageRow)
    → IsValid page
    → known_node (session_keeper (alone page.tree)) page.tree w (serial_at w (alone page.tree) id) ≡ Some x
    → OpensAlso w (state_after w (session_outcome page whole (RequestChildNodes id depth pierce) w)) (IsReached (levels_asked depth) x)

-- the nodes of the page that are known afterwards and were not before, in document order
abbrev pub newly_known : PageValue → Session → Session → List ℕ
newly_known page w z = filter (λ s. not (knows w (alone page.tree) s)) (known_by z.opened (alone page.tree))

-- the nodes that become known by openings, one after another: by each in document order
abbrev pub known_in_turn : PageValue → List Opening → Session → List ℕ
known_in_turn page [] w = []
known_in_turn page (x ∷ xs) w =
    let z = (session_keeper (alone page.tree)).opened x.levels x.node w in newly_known page w z ++ known_in_turn page xs z

-- the nodes that become known by a request for children get the next ids, in the order of its openings
abbrev pub RequestPushes : Type 0
RequestPushes =
    (page : PageValue) (whole : Branch PageRow) (id : ℕ) (depth : Option ℤ) (pierce : Option Bool) (w : Session) (x : Branch PageRow)
    → IsValid page
    → IsSession (alone page.tree) w
    → known_node (session_keeper (alone page.tree)) page.tree w (serial_at w (alone page.tree) id) ≡ Some x
    → (state_after w (session_outcome page whole (RequestChildNodes id depth pierce) w)).pushed
    ≡ w.pushed ++ known_in_turn page (requested (is_open w.opened) (levels_asked depth) (alone x)) w

-- a push of the node that a path leads to opens its proper ancestors
abbrev pub PathOpens : Type 0
PathOpens = (page : PageValue) (whole : Branch PageRow) (path : List ℕ) (w : Session) (x : Branch PageRow) → IsValid page
    → is_open w.opened page.tree.row.serial ≡ true → node_at_path path page.tree ≡ Some x
    → OpensAlso w (state_after w (session_outcome page whole (PushByPath path) w)) (IsAncestor page.tree x.row.serial)

-- the serials of some nodes, side by side
abbrev pub row_serials : Nodes PageRow → List ℕ
row_serials none = []
row_serials (node r c t) = r.serial ∷ row_serials t

-- the children of each, one node after the other
abbrev pub children_in_turn : List (Branch PageRow) → List ℕ
children_in_turn [] = []
children_in_turn (x ∷ xs) = row_serials x.children ++ children_in_turn xs

-- the proper ancestors of a node that are not opened, from the top down
abbrev pub shut_ancestors : PageValue → Session → ℕ → List (Branch PageRow)
shut_ancestors page w s = filter (λ (x : Branch PageRow). not (is_open w.opened x.row.serial)) (ancestors_down s (alone page.tree))

-- the nodes that become known by a push by path get the next ids: the children of each ancestor that it opens, from the top down
abbrev pub PathPushes : Type 0
PathPushes = (page : PageValue) (whole : Branch PageRow) (path : List ℕ) (w : Session) (x : Branch PageRow) → IsValid page
    → IsSession (alone page.tree) w → is_open w.opened page.tree.row.serial ≡ true → node_at_path path page.tree ≡ Some x
    → (state_after w (session_outcome page whole (PushByPath path) w)).pushed
    ≡ w.pushed ++ children_in_turn (shut_ancestors page w x.row.serial)

-- a push of several nodes opens the proper ancestors of each; a serial that no node has opens nothing
pub record IsAncestorOfOne (document : Branch PageRow) (serials : List ℕ) (t : ℕ) : Type 0 where
  pub serial : ℕ
  pub listed : stands_in serial serials ≡ true
  pub above : IsAncestor document serial t

-- once the document is opened, a push by serials opens the proper ancestors of each node that has one of them
abbrev pub SerialsOpen : Type 0
SerialsOpen = (page : PageValue) (whole : Branch PageRow) (serials : List ℕ) (w : Session) → IsValid page
    → is_open w.opened page.tree.row.serial ≡ true
    → OpensAlso w (state_after w (session_outcome page whole (PushBySerials serials) w)) (IsAncestorOfOne page.tree serials)

-- what a query asks by this text, below the known node of this id
abbrev pub query_asked : PageValue → Session → ℕ → List ℕ → Result Query Why
query_asked page w id text =
    query_of (known_node (session_keeper (alone page.tree)) page.tree w (serial_at w (alone page.tree) id)) text

-- once the document is opened, a query for one node opens the proper ancestors of the first that matches
abbrev pub FirstFoundOpens : Type 0
FirstFoundOpens = (page : PageValue) (whole : Branch PageRow) (id : ℕ) (text : List ℕ) (w : Session) (q : Query) (s : ℕ) → IsValid page
    → is_open w.opened page.tree.row.serial ≡ true → query_asked page w id text ≡ Ok q
    → first_matching q.selectors q.root whole ≡ Some s
    → OpensAlso w (state_after w (session_outcome page whole (QuerySelector id text) w)) (IsAncestor page.tree s)

-- a query for all nodes opens the ancestors of each that matches
abbrev pub FoundOpen : Type 0
FoundOpen = (page : PageValue) (whole : Branch PageRow) (id : ℕ) (text : List ℕ) (w : Session) (q : Query) → IsValid page
    → is_open w.opened page.tree.row.serial ≡ true → query_asked page w id text ≡ Ok q
    → OpensAlso w (state_after w (session_outcome page whole (QuerySelectorAll id text) w))
    (IsAncestorOfOne page.tree (all_matching q.selectors q.root whole))
