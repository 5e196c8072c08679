-- How a client's view changes: by moves, each of which one message tells.
use Rattle.std.specs.Prelude.{◌≡◌, ℕ, zero, suc, ◌≤◌, ◌==◌, ◌||◌, Bool, true, false, not, ◌&&◌, cond, List, [], ◌∷◌, ◌++◌, map, ⊤, Some}
use Rattle.std.specs.List.{flat_map}
use Rattle.std.specs.Option.{option_to_list}
use Rattle.cdp_json.specs.Kinds.{is_counted, holds_of_some}
use Rattle.serde_json.specs.Written.{compact_text}
use Rattle.node_tree.specs.Nodes.{Nodes, none, node, Branch, alone, is_no_node, height}
use Rattle.node_tree.specs.Levels.{most_told, most_told_root}
use Rattle.node_tree.specs.Keys.{At, has}
use Rattle.node_tree.specs.Labels.{Label, is_element, has_value}
use Rattle.node_tree.specs.Names.{is_attribute_name}
use Rattle.node_tree.specs.LabelChanges.{with_attribute, without_attribute, with_value}
use Rattle.node_tree.specs.Seen.{Seen, counted, opened, shows_count as is_shut, is_opened, seen_id}
use Rattle.cdp_messages.specs.declared.command.Refused.{Refused}
use Rattle.cdp_messages.specs.declared.down.ReplyBody.{ReplyBody}
use Rattle.cdp_messages.specs.declared.down.ReplyBody.TheVariants.{Nothing, Root, SheetText}
use Rattle.cdp_messages.specs.declared.down.PauseData.{PauseData}
use Rattle.cdp_messages.specs.declared.down.PauseData.TheVariants as pause
use Rattle.cdp_messages.specs.Events.{News, attribute_modified, attribute_removed, text_modified, count_updated, inserted, removed}
use Rattle.cdp_messages.specs.Events.{set_children, document_updated, paused, sheet_added, sheet_changed, sheet_removed}
use Rattle.pipe_frames.specs.Frames.{framed}
use Rattle.dom_objects.specs.Tellable.{suits_tree}
use Rattle.dom_objects.specs.Told.{told_nodes, told_branch}
use Rattle.cdp_messages.specs.Replies.{Message, reply, event, message_data, refusal_message}
use Rattle.cdp_messages.specs.Results.{body_data, fits_body, BodyHasUtf8, body_height, Tale, no_result, document, sheet_text, new_styles}
use Rattle.cdp_messages.specs.Results.{matched_styles, answer_alone, tale_of}
use Rattle.node_tree.specs.Labels.{LabelHasUtf8}
use Rattle.client_views.specs.Views.{ShownSheet, sheet_number, AreSheets, text_units, sheet_header, shows_sheet, shown_text, sheets_without}
use Rattle.client_views.specs.Views.{sheets_with_text, View, IsView, is_distinct}

-- ---- one shown node changes

-- what becomes of one shown node
pub data Change : Type 0 where
  -- its children were only counted, and are shown from now on
  shows : Nodes Seen → Change
  -- it has one more child, after that of the id, or first where that is 0
  inserts : ℕ → Branch Seen → Change
  -- its child of that id is gone
  removes : ℕ → Change
  -- it has so many children, which are not shown
  counts : ℕ → Change
  -- its attribute of that name has that value
  sets : List ℕ → List ℕ → Change
  -- its attribute of that name is gone
  drops : List ℕ → Change
  -- it is a text or a comment, and has that value
  says : List ℕ → Change

-- the node with another label
abbrev pub labelled_by : (Label → Label) → Branch Seen → Branch Seen
labelled_by f b = record { row = record b.row { label = f b.row.label }; children = b.children }

-- trees side by side with one more behind that of the id
abbrev pub put_behind : ℕ → Branch Seen → Nodes Seen → Nodes Seen
put_behind id w none = none
put_behind id w (node r c t) = cond (r.id == id) (node r c (node w.row w.children t)) (node r c (put_behind id w t))

-- trees side by side with one more behind that of the id, or first where the id is 0
abbrev pub put_after : ℕ → Branch Seen → Nodes Seen → Nodes Seen
put_after previous w n = cond (previous == 0) (node w.row w.children n) (put_behind previous w n)

-- trees side by side without the first of that id
abbrev pub without_tree : ℕ → Nodes Seen → Nodes Seen
without_tree id none = none
without_tree id (node r c t) = cond (r.id == id) t (node r c (without_tree id t))

-- one of these trees has that id
abbrev pub has_tree : ℕ → Nodes Seen → Bool
has_tree id none = false
has_tree id (node r c t) = r.id == id || has_tree id t

-- the node after the change
abbrev pub changed : Change → Branch Seen → Branch Seen
changed (shows kids) b = record { row = record b.row { hold = opened }; children = kids }
changed (inserts previous w) b = record { row = b.row; children = put_after previous w b.children }
changed (removes id) b = record { row = b.row; children = without_tree id b.children }
changed (counts n) b = record { row = record b.row { hold = counted n }; children = b.children }
changed (sets name value) b = labelled_by (with_attribute name value) b
changed (drops name) b = labelled_by (without_attribute name) b
changed (says value) b = labelled_by (with_value value) b

-- the change may be told of this node
abbrev pub suits_change : Change → Branch Seen → Bool
suits_change (shows kids) b = is_shut b.row.hold
suits_change (inserts previous w) b = is_opened b.row.hold && (previous == 0 || has_tree previous b.children) && not (is_opened w.row.hold)
suits_change (removes id) b = is_opened b.row.hold && has_tree id b.children
suits_change (counts n) b = is_shut b.row.hold
suits_change (sets name value) b = is_element b.row.label.kind
suits_change (drops name) b = is_element b.row.label.kind
suits_change (says value) b = has_value b.row.label.kind

-- the event that tells the change of the node of that id
abbrev pub change_news : ℕ → Change → News
change_news id (shows kids) = set_children id (told_nodes id kids)
change_news id (inserts previous w) = inserted id previous (told_branch id w)
change_news id (removes child) = removed id child
change_news id (counts n) = count_updated id n
change_news id (sets name value) = attribute_modified id name value
change_news id (drops name) = attribute_removed id name
change_news id (says value) = text_modified id value

-- ---- moves

-- what one message tells a client
pub data Move : Type 0 where
  -- the shown node of that id changes
  change : ℕ → Change → Move
  -- `DOM.documentUpdated`: nothing is known any more
  clear : Move
  -- `Debugger.paused`
  met : PauseData → Move
  -- `CSS.styleSheetAdded`: this sheet is new, and stands last
  added : ShownSheet → Move
  -- `CSS.styleSheetRemoved`: the sheet of that number is gone
  dropped : ℕ → Move
  -- `CSS.styleSheetChanged`: the sheet of that number has that text, which the message does not tell
  rewritten : ℕ → List ℕ → Move
  -- the reply to the `DOM.getDocument` of that id: this document
  root : ℕ → Branch Seen → Move
  -- the reply to the `CSS.getStyleSheetText` of that id: the sheet of that number has that text
  texted : ℕ → ℕ → List ℕ → Move
  -- any other reply to the ask of that id, with its result
  replied : ℕ → ReplyBody → Move
  -- the reply to the `DOM.disable` of that id: nothing is known any more, and no sheet is
  all_off : ℕ → Move
  -- the reply to the `CSS.disable` of that id: no sheet is known any more
  sheets_off : ℕ → Move
  -- an error reply
  failed : Refused → Move

-- the message that tells a move
abbrev pub message_of : Move → Message
message_of (change id c) = event (change_news id c)
message_of clear = event document_updated
message_of (met why) = event (paused why)
message_of (added s) = event (sheet_added (sheet_header s))
message_of (dropped n) = event (sheet_removed n)
message_of (rewritten n text) = event (sheet_changed n)
message_of (root id b) = reply id (body_data (Root (told_branch 0 b)))
message_of (texted id n text) = reply id (body_data (SheetText text))
message_of (replied id body) = reply id (body_data body)
message_of (all_off id) = reply id (body_data Nothing)
message_of (sheets_off id) = reply id (body_data Nothing)
message_of (failed r) = refusal_message r

-- the text of a move's message, without the zero byte
abbrev pub move_text : Move → List ℕ
move_text m = compact_text (message_data (message_of m))

-- the frames of moves, one after the other
abbrev pub frames_of_moves : List Move → List ℕ
frames_of_moves ms = flat_map (λ m. framed (move_text m)) ms

-- ---- which views messages can tell

-- the texts of all nodes are UTF-8
abbrev pub SeenHaveUtf8 : Nodes Seen → Type 0
SeenHaveUtf8 none = ⊤
SeenHaveUtf8 (node r c t) = LabelHasUtf8 r.label × SeenHaveUtf8 c × SeenHaveUtf8 t

-- a view's tree is empty, or one tree whose root is a document, and all of it suits a message
abbrev pub suits_view : Nodes Seen → Bool
suits_view none = true
suits_view (node r c t) = suits_tree true (record { row = r; children = c }) && is_no_node t

-- a tree all of which messages can tell: its rows have the forms of a message, and their texts are UTF-8
pub record IsTellable (v : Nodes Seen) : Type 0 where
  pub view : IsView v
  pub forms : suits_view v ≡ true
  pub texts : SeenHaveUtf8 v

-- a view all of which messages can tell; no two sheets have one number
pub record CanBeTold (v : View) : Type 0 where
  pub tree : IsTellable v.tree
  pub sheets : AreSheets v.sheets
  pub apart : is_distinct (map sheet_number v.sheets) ≡ true

-- ---- from view to view

-- the name of an attribute that the change tells, if it tells one, has the form of such a name
abbrev pub has_named_attribute : Change → Bool
has_named_attribute (shows kids) = true
has_named_attribute (inserts previous w) = true
has_named_attribute (removes id) = true
has_named_attribute (counts n) = true
has_named_attribute (sets name value) = is_attribute_name name
has_named_attribute (drops name) = is_attribute_name name
has_named_attribute (says value) = true

-- the nodes that a change tells
abbrev pub nodes_told : Change → Nodes Seen
nodes_told (shows kids) = kids
nodes_told (inserts previous w) = alone w
nodes_told (removes id) = none
nodes_told (counts n) = none
nodes_told (sets name value) = none
nodes_told (drops name) = none
nodes_told (says value) = none

-- One node of that id changes, and the change may be told of it: it tells no more levels than a message may.
pub record ChangesNode (id : ℕ) (c : Change) (v w : Nodes Seen) : Type 0 where
  pub old : Branch Seen
  pub depth : ℕ
  pub is : old.row.id ≡ id
  pub suits : suits_change c old ≡ true
  pub named : has_named_attribute c ≡ true
  pub low : height (nodes_told c) ≤ most_told
  pub at : At old (changed c old) depth v w

-- the target of a pause, but 0, which stands for one that is hidden
abbrev pub target_nodes : ℕ → List ℕ
target_nodes zero = []
target_nodes (suc n) = suc n ∷ []

-- the nodes that a pause names
abbrev pub paused_nodes : PauseData → List ℕ
paused_nodes (pause.Subtree watched target insertion) = watched ∷ target_nodes target
paused_nodes (pause.Attribute watched) = watched ∷ []
paused_nodes (pause.Removed watched) = watched ∷ []

-- the ids are of shown nodes
abbrev pub AreShown : List ℕ → Nodes Seen → Type 0
AreShown [] v = ⊤
AreShown (id ∷ ids) v = (has seen_id id v ≡ true) × AreShown ids v

-- what tells of a view: a document, or the text of a sheet
abbrev pub is_of_view : Tale → Bool
is_of_view no_result = false
is_of_view (document tree) = true
is_of_view (sheet_text text) = true
is_of_view (new_styles styles) = false
is_of_view (matched_styles matched) = false
is_of_view answer_alone = false

-- a result that does so
abbrev pub tells_view : ReplyBody → Bool
tells_view body = is_of_view (tale_of body)

-- a reply that tells neither a document nor the text of a sheet, and that a message can spell
pub record IsPlainReply (id : ℕ) (body : ReplyBody) : Type 0 where
  pub id_fits : is_counted id ≡ true
  pub plain : tells_view body ≡ false
  pub fits : fits_body body ≡ true
  pub texts : BodyHasUtf8 body
  pub levels : body_height body ≤ most_told_root

-- The move leads from the one view to the other, and its message can be spelled.
abbrev pub Moves : Move → View → View → Type 0
Moves (change id c) v w = ChangesNode id c v.tree w.tree × (w.sheets ≡ v.sheets)
Moves clear v w = w ≡ record { tree = none; sheets = v.sheets }
Moves (met why) v w = (w ≡ v) × AreShown (paused_nodes why) v.tree
Moves (added s) v w = (w ≡ record { tree = v.tree; sheets = v.sheets ++ s ∷ [] }) × (is_counted (text_units s.text) ≡ true)
Moves (dropped n) v w = (w ≡ record { tree = v.tree; sheets = sheets_without n v.sheets }) × (shows_sheet n v.sheets ≡ true)
Moves (rewritten n text) v w = (w ≡ record { tree = v.tree; sheets = sheets_with_text n text v.sheets }) × (shows_sheet n v.sheets ≡ true)
Moves (root id b) v w = (w ≡ record { tree = alone b; sheets = v.sheets }) × (is_counted id ≡ true)
    × (height (alone b) ≤ most_told_root)
Moves (texted id n text) v w = (w ≡ v) × (shown_text n v.sheets ≡ Some text) × (is_counted id ≡ true)
Moves (replied id body) v w = (w ≡ v) × IsPlainReply id body
Moves (all_off id) v w = (w ≡ record { tree = none; sheets = [] }) × (is_counted id ≡ true)
Moves (sheets_off id) v w = (w ≡ record { tree = v.tree; sheets = [] }) × (is_counted id ≡ true)
Moves (failed r) v w = (w ≡ v) × (holds_of_some is_counted r.id ≡ true)

-- a list of moves, from view to view
pub data Course : List Move → View → View → Type 0 where
  ends : (v : View) → CanBeTold v → Course [] v v
  goes : (m : Move) (ms : List Move) (u v w : View) → CanBeTold u → Moves m u v → Course ms v w → Course (m ∷ ms) u w

-- ---- what moves say of asks

-- the ids of the asks that a move answers: of a reply its own, none where it has none
abbrev pub answered_by : Move → List ℕ
answered_by (change id c) = []
answered_by clear = []
answered_by (met why) = []
answered_by (added s) = []
answered_by (dropped n) = []
answered_by (rewritten n text) = []
answered_by (root id b) = id ∷ []
answered_by (texted id n text) = id ∷ []
answered_by (replied id body) = id ∷ []
answered_by (all_off id) = id ∷ []
answered_by (sheets_off id) = id ∷ []
answered_by (failed r) = option_to_list r.id
