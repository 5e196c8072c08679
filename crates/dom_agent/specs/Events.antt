-- What the events of a client's asks show together: which nodes, with which ids, and below which containers.
use Rattle.std.specs.Prelude.{◌≡◌, ℕ, ℤ, suc, ◌≤◌, Bool, true, false, not, ◌&&◌, ◌||◌, ◌==◌, cond, List, [], ◌∷◌, ◌++◌, map, length, ⊤}
use Rattle.std.specs.Prelude.{Option, Some, None, Ok}
use Rattle.std.specs.List.{All, flat_map}
use Rattle.node_tree.specs.Nodes.{Nodes, none, node, Branch, alone}
use Rattle.node_tree.specs.Seen.{Seen}
use Rattle.node_tree.specs.Keys.{has}
use Rattle.page_tree.specs.Pages.{PageRow, row_serial, PageValue, IsValid}
use Rattle.node_binding.specs.Counts.{times, stands_in}
use Rattle.node_binding.specs.Openings.{containers_within}
use Rattle.node_binding.specs.Sessions.{Session, IsSession, is_open, knows, session_ids, serial_at, reset}
use Rattle.cdp_messages.specs.declared.dom_ask.DomAsk.{DomAsk}
use Rattle.cdp_messages.specs.declared.dom_ask.DomAsk.TheVariants.{RequestChildNodes, PushByPath, PushBySerials, QuerySelector}
use Rattle.cdp_messages.specs.declared.dom_ask.DomAsk.TheVariants.{QuerySelectorAll}
use Rattle.cdp_messages.specs.declared.down.ReplyBody.{ReplyBody}
use Rattle.cdp_messages.specs.declared.down.ReplyBody.TheVariants.{NodeId, NodeIds}
use Rattle.dom_agent.specs.Keepers.{session_keeper}
use Rattle.dom_agent.specs.Paths.{node_at_path}
use Rattle.dom_agent.specs.Queries.{Query, first_matching, all_matching}
use Rattle.dom_agent.specs.Requests.{Outcome, shows_root, served, refused, Showing, ancestors_down, known_node, state_after}
use Rattle.dom_agent.specs.Laws.{session_outcome, has_depth}
use Rattle.dom_agent.specs.Sets.{levels_asked, row_serials, children_in_turn, query_asked}
use Rattle.dom_agent.specs.Shows.{shown_by_outcome}

-- ---- which nodes they show, and with which ids

-- the serials of these nodes, in document order
abbrev pub serials_in : Nodes Seen → List ℕ
serials_in none = []
serials_in (node s c t) = s.serial ∷ (serials_in c ++ serials_in t)

-- their ids, in document order
abbrev pub ids_in : Nodes Seen → List ℕ
ids_in none = []
ids_in (node s c t) = s.id ∷ (ids_in c ++ ids_in t)

-- the serials of all nodes that are shown, by one list of trees after the other
abbrev pub serials_shown : List (Nodes Seen) → List ℕ
serials_shown xs = flat_map serials_in xs

-- their ids
abbrev pub ids_shown : List (Nodes Seen) → List ℕ
ids_shown xs = flat_map ids_in xs

-- the numbers that follow this one, as many as the list is long
abbrev pub following : ℕ → List ℕ → List ℕ
following k [] = []
following k (s ∷ ss) = suc k ∷ following (suc k) ss

-- What is shown of the page n from w to z: just the nodes that became known, each once, in the order in which they got their ids;
-- and these ids follow those that were given before.
pub record ShowsNew (n : Nodes PageRow) (w z : Session) (xs : List (Nodes Seen)) : Type 0 where
  pub pushed : z.pushed ≡ w.pushed ++ serials_shown xs
  pub ids : ids_shown xs ≡ following (length w.pushed) (serials_shown xs)
  pub exactly : (s : ℕ) → stands_in s (serials_shown xs) ≡ (knows z n s && not (knows w n s))
  pub once : (s : ℕ) → times s (serials_shown xs) ≤ 1

-- what events tell below their containers
abbrev pub children_told : List Showing → List (Nodes Seen)
children_told xs = map (λ e. e.children) xs

-- What an outcome shows is what becomes known: in its events, and where it shows the document, in the reply first, for a client that
-- knows nothing any more.
abbrev pub OutcomeShowsNew : Nodes PageRow → Session → Outcome Session → Type 0
OutcomeShowsNew n w (shows_root b p) = ShowsNew n (reset w) p.state (alone b ∷ children_told p.shown)
OutcomeShowsNew n w (served p body) = ShowsNew n w p.state (children_told p.shown)
OutcomeShowsNew n w (refused why) = ⊤

-- so it is with whatever a client asks
abbrev pub AsksShowNew : Type 0
AsksShowNew = (page : PageValue) (whole : Branch PageRow) (ask : DomAsk) (w : Session) → IsValid page → has_depth ask ≡ true
    → IsSession (alone page.tree) w → OutcomeShowsNew (alone page.tree) w (session_outcome page whole ask w)

-- ---- below which containers

-- the serials of these nodes alone, side by side
abbrev pub top_serials : Nodes Seen → List ℕ
top_serials none = []
top_serials (node s c t) = s.serial ∷ top_serials t

-- the event tells all children of this container, in their order, under the id that it has in z
pub record TellsBelow (z : Session) (x : Branch PageRow) (e : Showing) : Type 0 where
  pub parent : e.parent ≡ session_ids z x.row.serial
  pub children : top_serials e.children ≡ row_serials x.children

-- the events tell those of these containers, one event for each, in this order
abbrev pub AreTold : Session → List (Branch PageRow) → List Showing → Type 0
AreTold z [] [] = ⊤
AreTold z [] (e ∷ es) = ⊥
AreTold z (x ∷ xs) [] = ⊥
AreTold z (x ∷ xs) (e ∷ es) = TellsBelow z x e × AreTold z xs es

-- the serials of containers
abbrev pub container_serials : List (Branch PageRow) → List ℕ
container_serials xs = map (λ (x : Branch PageRow). x.row.serial) xs

-- some of the second list, in its order: each is taken or left out
pub data AreAmong : List ℕ → List ℕ → Type 0 where
  no_more : (ys : List ℕ) → AreAmong [] ys
  taken : (x : ℕ) (xs ys : List ℕ) → AreAmong xs ys → AreAmong (x ∷ xs) (x ∷ ys)
  left_out : (xs : List ℕ) (y : ℕ) (ys : List ℕ) → AreAmong xs ys → AreAmong xs (y ∷ ys)

-- The events of a request for the children of x to d levels are of containers at or below x and at a distance below d, which were not
-- opened, each once, in document order
pub record TellsInOrder (d : Option ℕ) (x : Branch PageRow) (w z : Session) (events : List Showing) : Type 0 where
  pub containers : List (Branch PageRow)
  pub told : AreTold z containers events
  pub shut : All (λ (y : Branch PageRow). is_open w.opened y.row.serial ≡ false) containers
  pub order : AreAmong (container_serials containers) (containers_within d (alone x))

-- so are those of a request for the children of the known node x
abbrev pub RequestTellsInOrder : Type 0
RequestTellsInOrder =
    (page : PageValue) (whole : Branch PageRow) (id : ℕ) (depth : Option ℤ) (pierce : Option Bool) (w : Session) (x : Branch PageRow)
    → IsValid page
    → IsSession (alone page.tree) w
    → known_node (session_keeper (alone page.tree)) page.tree w (serial_at w (alone page.tree) id) ≡ Some x
    → (let o = session_outcome page whole (RequestChildNodes id depth pierce) w in
    TellsInOrder (levels_asked depth) x w (state_after w o) (shown_by_outcome o))

-- ---- by pushes

-- those of the containers that are not opened, each where it comes first
abbrev pub first_shut : (ℕ → Bool) → List (Branch PageRow) → List (Branch PageRow)
first_shut o [] = []
first_shut o (x ∷ xs) = cond (o x.row.serial) (first_shut o xs) (x ∷ first_shut (λ s. o s || (x.row.serial == s)) xs)

-- the proper ancestors of nodes, those of one after those of the other, each from the top down
abbrev pub ancestors_in_turn : Branch PageRow → List ℕ → List (Branch PageRow)
ancestors_in_turn document serials = flat_map (λ s. ancestors_down s (alone document)) serials

-- The events of pushes of the nodes with these serials: one for each ancestor that was not opened, in the order of the nodes and from
-- the top down, which tells its children alone
pub record TellsPushes (document : Branch PageRow) (serials : List ℕ) (w z : Session) (events : List Showing) : Type 0 where
  pub told : AreTold z (first_shut (is_open w.opened) (ancestors_in_turn document serials)) events
  pub levels : serials_shown (children_told events)
      ≡ children_in_turn (first_shut (is_open w.opened) (ancestors_in_turn document serials))

-- the events of an outcome are so
abbrev pub OutcomeTellsPushes : Branch PageRow → List ℕ → Session → Outcome Session → Type 0
OutcomeTellsPushes document serials w o = TellsPushes document serials w (state_after w o) (shown_by_outcome o)

-- the result that an outcome is answered by
abbrev pub result_of : Outcome Session → Option ReplyBody
result_of (shows_root b p) = None
result_of (served p body) = Some body
result_of (refused why) = None

-- the id of a node in z; 0 for a serial that no node has
abbrev pub id_then : Branch PageRow → Session → ℕ → ℕ
id_then document z s = cond (has row_serial s (alone document)) (session_ids z s) 0

-- A push of one node: its events, and the id that the node has then
pub record PushesOne (document : Branch PageRow) (s : ℕ) (w : Session) (o : Outcome Session) : Type 0 where
  pub events : OutcomeTellsPushes document (s ∷ []) w o
  pub answered : result_of o ≡ Some (NodeId (session_ids (state_after w o) s))

-- A push of several: their events, and the ids that they all have then
pub record PushesAll (document : Branch PageRow) (serials : List ℕ) (w : Session) (o : Outcome Session) : Type 0 where
  pub events : OutcomeTellsPushes document serials w o
  pub answered : result_of o ≡ Some (NodeIds (map (id_then document (state_after w o)) serials))

-- a push of the node that a path leads to, once the document is opened
abbrev pub PathTells : Type 0
PathTells = (page : PageValue) (whole : Branch PageRow) (path : List ℕ) (w : Session) (x : Branch PageRow) → IsValid page
    → IsSession (alone page.tree) w → is_open w.opened page.tree.row.serial ≡ true → node_at_path path page.tree ≡ Some x
    → PushesOne page.tree x.row.serial w (session_outcome page whole (PushByPath path) w)

-- a push of the nodes with these serials; for a serial that no node has there is no event, and 0 for its id
abbrev pub SerialsTell : Type 0
SerialsTell = (page : PageValue) (whole : Branch PageRow) (serials : List ℕ) (w : Session) → IsValid page
    → IsSession (alone page.tree) w → is_open w.opened page.tree.row.serial ≡ true
    → PushesAll page.tree serials w (session_outcome page whole (PushBySerials serials) w)

-- a query for one node pushes the first that matches
abbrev pub FirstFoundTells : Type 0
FirstFoundTells = (page : PageValue) (whole : Branch PageRow) (id : ℕ) (text : List ℕ) (w : Session) (q : Query) (s : ℕ) → IsValid page
    → IsSession (alone page.tree) w → is_open w.opened page.tree.row.serial ≡ true → query_asked page w id text ≡ Ok q
    → first_matching q.selectors q.root whole ≡ Some s
    → PushesOne page.tree s w (session_outcome page whole (QuerySelector id text) w)

-- a query for all nodes pushes those that match, in document order
abbrev pub FoundTell : Type 0
FoundTell = (page : PageValue) (whole : Branch PageRow) (id : ℕ) (text : List ℕ) (w : Session) (q : Query) → IsValid page
    → IsSession (alone page.tree) w → is_open w.opened page.tree.row.serial ≡ true → query_asked page w id text ≡ Ok q
    → PushesAll page.tree (all_matching q.selectors q.root whole) w (session_outcome page whole (QuerySelectorAll id text) w)
