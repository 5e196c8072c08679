-- What each command of a client comes to: what becomes opened, what is told of it, and the reply.
use Rattle.std.specs.Prelude.{ℕ, ℤ, pos, Bool, not, cond, List, [], ◌∷◌, ◌++◌, map, filter, Option, Some, None, unwrap_or, Result, Ok}
use Rattle.std.specs.Prelude.{Err}
use Rattle.node_tree.specs.Nodes.{Nodes, none, node, Branch, alone}
use Rattle.node_tree.specs.Levels.{most_told}
use Rattle.node_tree.specs.Keys.{has, find}
use Rattle.node_tree.specs.Labels.{is_element}
use Rattle.node_tree.specs.Seen.{Seen}
use Rattle.page_tree.specs.Pages.{PageRow, row_serial}
use Rattle.node_binding.specs.Cuts.{opens, seen_of, cut}
use Rattle.node_binding.specs.Openings.{levels_of}
pub use Rattle.node_binding.specs.Deals.{Opening}
use Rattle.node_binding.specs.Deals.{capped, dealt, asked, more_told}
use Rattle.cdp_messages.specs.declared.dom_ask.DomAsk.{DomAsk}
use Rattle.cdp_messages.specs.declared.dom_ask.DomAsk.TheVariants.{GetDocument, RequestChildNodes, PushByPath, PushBySerials, QuerySelector}
use Rattle.cdp_messages.specs.declared.dom_ask.DomAsk.TheVariants.{QuerySelectorAll, GetAttributes, DescribeNode}
use Rattle.cdp_messages.specs.declared.command.Why.{Why}
use Rattle.cdp_messages.specs.declared.command.Why.TheVariants.{UnknownNode, NotPushed, NoPath, NotElement}
use Rattle.cdp_messages.specs.declared.down.ReplyBody.{ReplyBody}
use Rattle.cdp_messages.specs.declared.down.ReplyBody.TheVariants.{Nothing, Node, NodeId, NodeIds, Attributes}
use Rattle.client_views.specs.Moves.{Move, change, root, replied, failed, shows, frames_of_moves}
use Rattle.dom_agent.specs.Keepers.{Keeper}
use Rattle.dom_agent.specs.Paths.{node_at_path}
use Rattle.dom_agent.specs.Described.{described}
use Rattle.dom_agent.specs.Queries.{Query, query_of, first_matching, all_matching}

-- what is told of an opening: the children of the node of that id, with what is shown below them
pub record Showing : Type 0 where
  pub parent : ℕ
  pub children : Nodes Seen

-- ---- which containers are opened

-- By a request for the nodes n: in document order each container, at a distance k below d, that is not opened itself and is
-- one of n or has an opened parent; by d - k levels, in pieces of as many as a message tells.
abbrev pub requested : (ℕ → Bool) → Option ℕ → Nodes PageRow → List Opening
requested = asked more_told

-- the proper ancestors of a node, from the top down
abbrev pub ancestors_down : ℕ → Nodes PageRow → List (Branch PageRow)
ancestors_down s none = []
ancestors_down s (node r c t) = cond (has row_serial s c) (record { row = r; children = c } ∷ ancestors_down s c) (ancestors_down s t)

-- the openings of a push of a node: its ancestors that are not opened, from the top down, by one level each
abbrev pub pushing : (ℕ → Bool) → ℕ → Nodes PageRow → List Opening
pushing o s n = map (λ x. record { levels = Some 1; node = x }) (filter (λ (x : Branch PageRow). not (o x.row.serial)) (ancestors_down s n))

-- ---- what is told of a page

-- a tree of the page, cut to what is known of it
abbrev pub shown : (ℕ → Bool) → (ℕ → ℕ) → Branch PageRow → Branch Seen
shown o i b = record { row = seen_of o i b.row b.children; children = cond (opens o b.row) (cut o i b.children) none }

-- ---- what a command comes to

-- what is kept after some openings, and what is told of them, in their order
pub record Progress (S : Type 0) : Type 0 where
  pub state : S
  pub shown : List Showing

-- what is kept after several pushes and what is told of them, with the ids of their nodes, 0 for no node
pub record Pushes (S : Type 0) : Type 0 where
  pub progress : Progress S
  pub ids : List ℕ

-- A command shows the document and then further pieces of it, or it is served otherwise, or it is refused and changes nothing.
pub data Outcome (S : Type 0) : Type 0 where
  shows_root : Branch Seen → Progress S → Outcome S
  served : Progress S → ReplyBody → Outcome S
  refused : Why → Outcome S

-- then further ones
abbrev pub followed : {S : Type 0} → List Showing → Progress S → Progress S
followed before later = record { state = later.state; shown = before ++ later.shown }

-- the serial of the node that an id names, or else this serial
abbrev pub named_serial : {S : Type 0} → Keeper S → S → Option ℕ → Option ℕ → Option ℕ
named_serial k w (Some id) serial = k.serial_of w id
named_serial k w None serial = serial

module _ {S : Type 0} (k : Keeper S) (document : Branch PageRow) where
  -- of a container that was opened
  abbrev pub told_of : Branch PageRow → S → Showing
  told_of x w = record { parent = k.id_of w x.row.serial; children = cut (k.is_open w) (k.id_of w) x.children }

  -- one after the other, each told as it is opened
  abbrev pub all_opened : List Opening → S → Progress S
  all_opened [] w = record { state = w; shown = [] }
  all_opened (x ∷ xs) w =
      let after = k.opened x.levels x.node w in
      followed (told_of x.node after ∷ []) (all_opened xs after)

  -- a node is pushed
  abbrev pub pushed : ℕ → S → Progress S
  pushed s w = all_opened (pushing (k.is_open w) s (alone document)) w

  -- a push with the id of its node, before further ones
  abbrev pub and_id : ℕ → Progress S → Pushes S → Pushes S
  and_id id first later = record { progress = followed first.shown later.progress; ids = id ∷ later.ids }

  -- each in turn; a serial that no node has counts for no node
  abbrev pub all_pushed : List ℕ → S → Pushes S
  all_pushed [] w = record { progress = record { state = w; shown = [] }; ids = [] }
  all_pushed (s ∷ ss) w =
      cond (has row_serial s (alone document))
      (let first = pushed s w in and_id (k.id_of first.state s) first (all_pushed ss first.state))
      (and_id 0 (record { state = w; shown = [] }) (all_pushed ss w))

  -- The document is opened to d levels: by as many as a message tells, as it is shown then in the reply to `DOM.getDocument`, and
  -- then by the further pieces.
  abbrev pub with_document : Option ℕ → S → Outcome S
  with_document d w =
      let z = k.started (capped most_told d) w in
      shows_root (shown (k.is_open z) (k.id_of z) document) (all_opened (dealt more_told most_told d (alone document)) z)

  -- the children of the node x are asked for
  abbrev pub of_children : Option ℤ → Option (Branch PageRow) → S → Outcome S
  of_children depth None w = refused UnknownNode
  of_children depth (Some x) w = served (all_opened (requested (k.is_open w) (levels_of (unwrap_or depth (pos 1))) (alone x)) w) Nothing

  -- the known node of that id
  abbrev pub known_node : S → Option ℕ → Option (Branch PageRow)
  known_node w None = None
  known_node w (Some s) = find row_serial s (alone document)

  -- a push is answered by the id of its node
  abbrev pub with_id : ℕ → Progress S → Outcome S
  with_id s p = served p (NodeId (k.id_of p.state s))

  -- the node that a path leads to is pushed
  abbrev pub of_path : Option (Branch PageRow) → S → Outcome S
  of_path None w = refused NoPath
  of_path (Some x) w = with_id x.row.serial (pushed x.row.serial w)

  -- pushes are answered by the ids of their nodes
  abbrev pub with_ids : Pushes S → Outcome S
  with_ids p = served p.progress (NodeIds p.ids)

  -- pushes come after the document: where it is not opened, nothing is known
  abbrev pub once_begun : S → Outcome S → Outcome S
  once_begun w outcome = cond (k.is_open w document.row.serial) outcome (refused NotPushed)

  -- a reply alone, which changes nothing
  abbrev pub only_replied : ReplyBody → S → Outcome S
  only_replied body w = served (record { state = w; shown = [] }) body

  -- the first element that matches below the node of that serial, pushed; the id 0 where there is none
  abbrev pub with_first : Option ℕ → S → Outcome S
  with_first None w = only_replied (NodeId 0) w
  with_first (Some s) w = with_id s (pushed s w)

  -- a query for one node, of the whole page
  abbrev pub first_asked : Branch PageRow → Query → S → Outcome S
  first_asked whole q w = with_first (first_matching q.selectors q.root whole) w

  -- all that match in the whole page, pushed in document order
  abbrev pub all_asked : Branch PageRow → Query → S → Outcome S
  all_asked whole q w = with_ids (all_pushed (all_matching q.selectors q.root whole) w)

  -- a query that is not refused asks for some of what matches
  abbrev pub of_query : (Query → S → Outcome S) → Result Query Why → S → Outcome S
  of_query asks (Err why) w = refused why
  of_query asks (Ok q) w = asks q w

  -- the attributes of the node x are asked for
  abbrev pub of_attributes : Option (Branch PageRow) → S → Outcome S
  of_attributes None w = refused UnknownNode
  of_attributes (Some x) w = cond (is_element x.row.label.kind) (only_replied (Attributes x.row.label.attributes) w) (refused NotElement)

  -- the node x is to be described, to no more levels than a message tells
  abbrev pub of_description : Option ℤ → Option (Branch PageRow) → S → Outcome S
  of_description depth None w = refused UnknownNode
  of_description depth (Some x) w = only_replied (Node (described (capped most_told (levels_of (unwrap_or depth (pos 1)))) x)) w

  -- what a command comes to; the document is what the client is shown of the whole page, in which queries look
  abbrev pub outcome : Branch PageRow → DomAsk → S → Outcome S
  outcome whole (GetDocument depth pierce) w = with_document (levels_of (unwrap_or depth (pos 1))) w
  outcome whole (RequestChildNodes id depth pierce) w = of_children depth (known_node w (k.serial_of w id)) w
  outcome whole (PushByPath path) w = once_begun w (of_path (node_at_path path document) w)
  outcome whole (PushBySerials serials) w = once_begun w (with_ids (all_pushed serials w))
  outcome whole (QuerySelector id text) w = of_query (first_asked whole) (query_of (known_node w (k.serial_of w id)) text) w
  outcome whole (QuerySelectorAll id text) w = of_query (all_asked whole) (query_of (known_node w (k.serial_of w id)) text) w
  outcome whole (GetAttributes id) w = of_attributes (known_node w (k.serial_of w id)) w
  outcome whole (DescribeNode id serial depth pierce) w = of_description depth (known_node w (named_serial k w id serial)) w

-- ---- what is kept, and what is sent

-- what is kept after a command; a refusal keeps what was there
abbrev pub state_after : {S : Type 0} → S → Outcome S → S
state_after w (shows_root b p) = p.state
state_after w (served p body) = p.state
state_after w (refused why) = w

-- the move that tells an opening
abbrev pub opening_move : Showing → Move
opening_move x = change x.parent (shows x.children)

-- the moves that tell openings
abbrev pub opening_moves : List Showing → List Move
opening_moves xs = map opening_move xs

-- the moves that answer the command with that id: the reply last, but for a document's, behind which further pieces come
abbrev pub moves_of : {S : Type 0} → ℕ → Outcome S → List Move
moves_of id (shows_root b p) = root id b ∷ opening_moves p.shown
moves_of id (served p body) = opening_moves p.shown ++ replied id body ∷ []
moves_of id (refused why) = failed (record { id = Some id; why = why }) ∷ []

-- the frames of what is told
abbrev pub frames_told : List Showing → List ℕ
frames_told xs = frames_of_moves (opening_moves xs)

-- the frames that the command with that id is answered with
abbrev pub answer : {S : Type 0} → ℕ → Outcome S → List ℕ
answer id o = frames_of_moves (moves_of id o)
