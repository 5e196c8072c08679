-- Events: what the back end tells unasked.
use Rattle.std.specs.Prelude.{ℕ, List, [], ◌∷◌, codes, Bool, true, false, nat_lt, Option, Some, None, option_map, option_and_then, ⊤}
use Rattle.std.specs.Borrow.{Bor}
use Rattle.serde_json.specs.Data.{Data, null, boolean, number, string, array, object, Items, no_items}
use Rattle.serde_json.specs.View.{view, items_view}
use Rattle.serde_json.specs.declared.value.Value.{Value}
use Rattle.cdp_json.specs.Kinds.{Kind, whole, text, flag, anything, any_items, only_text, named, choice, refined, through}
use Rattle.cdp_json.specs.Rows.{ends, and_need, and_may, object_of, unit_if}
use Rattle.node_tree.specs.Names.{is_attribute_name}
use Rattle.node_tree.specs.Nodes.{Nodes, Branch, nodes_of}
use Rattle.node_tree.specs.declared.watches.WatchKind.{WatchKind}
use Rattle.node_tree.specs.declared.watches.WatchKind.TheVariants.{Subtree, Attribute, Removed}
use Rattle.cdp_messages.specs.declared.down.Event.{Event}
use Rattle.css_objects.specs.declared.sheets.Header.{Header}
use Rattle.css_objects.specs.Sheets.{sheet_kind, header_kind}
use Rattle.cdp_messages.specs.declared.down.Event.TheVariants.{AttributeModified, AttributeRemoved, CharacterDataModified}
use Rattle.cdp_messages.specs.declared.down.Event.TheVariants.{ChildNodeCountUpdated, ChildNodeInserted, ChildNodeRemoved, SetChildNodes}
use Rattle.cdp_messages.specs.declared.down.Event.TheVariants.{DocumentUpdated, StyleSheetAdded, StyleSheetChanged, StyleSheetRemoved}
use Rattle.cdp_messages.specs.declared.down.Event.TheVariants.{Paused}
use Rattle.cdp_messages.specs.declared.down.PauseData.{PauseData}
use Rattle.cdp_messages.specs.declared.down.PauseData.TheVariants as pause
use Rattle.cdp_messages.specs.declared.event_names.EventName.{EventName}
use Rattle.cdp_messages.specs.declared.event_names.EventName.TheVariants as name
use Rattle.dom_objects.specs.Told.{Told}
use Rattle.css_objects.specs.Styles.{has_none}
use Rattle.dom_objects.specs.NodeKinds.{nodes_kind, bare_kind}
use Rattle.node_tree.specs.Watches.{watch_name}

-- what an event tells
pub data News : Type 0 where
  -- the node's attribute of that name has that value
  attribute_modified : ℕ → List ℕ → List ℕ → News
  -- the node's attribute of that name is gone
  attribute_removed : ℕ → List ℕ → News
  -- the text or comment has that value
  text_modified : ℕ → List ℕ → News
  -- the unopened node has that many children
  count_updated : ℕ → ℕ → News
  -- the node of the first id has one more child, after that of the second id, or first where that is 0
  inserted : ℕ → ℕ → Branch Told → News
  -- the child of the second id is gone from the node of the first id
  removed : ℕ → ℕ → News
  -- the children of the node of that id, which were not shown before
  set_children : ℕ → Nodes Told → News
  -- nothing is known any more
  document_updated : News
  -- a sheet comes
  sheet_added : Header → News
  -- the sheet of that number has another text
  sheet_changed : ℕ → News
  -- the sheet of that number is gone
  sheet_removed : ℕ → News
  -- script met a breakpoint
  paused : PauseData → News

-- an event as code holds it
abbrev pub news_of : Event → News
news_of (AttributeModified node name value) = attribute_modified node name value
news_of (AttributeRemoved node name) = attribute_removed node name
news_of (CharacterDataModified node text) = text_modified node text
news_of (ChildNodeCountUpdated node count) = count_updated node count
news_of (ChildNodeInserted parent previous node) = inserted parent previous node
news_of (ChildNodeRemoved parent node) = removed parent node
news_of (SetChildNodes parent nodes) = set_children parent (nodes_of nodes.items)
news_of DocumentUpdated = document_updated
news_of (StyleSheetAdded header) = sheet_added header
news_of (StyleSheetChanged sheet) = sheet_changed sheet
news_of (StyleSheetRemoved sheet) = sheet_removed sheet
news_of (Paused why) = paused why

-- the value is a JSON object
abbrev pub is_object : Data → Bool
is_object null = false
is_object (boolean b) = false
is_object (number n) = false
is_object (string s) = false
is_object (array ds) = false
is_object (object ms) = true

-- ---- the names

-- an event's method
abbrev pub event_name : EventName → List ℕ
event_name name.AttributeModified = codes "DOM.attributeModified"
event_name name.AttributeRemoved = codes "DOM.attributeRemoved"
event_name name.CharacterDataModified = codes "DOM.characterDataModified"
event_name name.ChildNodeCountUpdated = codes "DOM.childNodeCountUpdated"
event_name name.ChildNodeInserted = codes "DOM.childNodeInserted"
event_name name.ChildNodeRemoved = codes "DOM.childNodeRemoved"
event_name name.SetChildNodes = codes "DOM.setChildNodes"
event_name name.DocumentUpdated = codes "DOM.documentUpdated"
event_name name.StyleSheetAdded = codes "CSS.styleSheetAdded"
event_name name.StyleSheetChanged = codes "CSS.styleSheetChanged"
event_name name.StyleSheetRemoved = codes "CSS.styleSheetRemoved"
event_name name.Paused = codes "Debugger.paused"

-- each event once
abbrev pub all_events : List EventName
all_events =
    name.AttributeModified ∷ name.AttributeRemoved ∷ name.CharacterDataModified ∷ name.ChildNodeCountUpdated ∷ name.ChildNodeInserted
    ∷ name.ChildNodeRemoved ∷ name.SetChildNodes ∷ name.DocumentUpdated
    ∷ name.StyleSheetAdded ∷ name.StyleSheetChanged ∷ name.StyleSheetRemoved ∷ name.Paused ∷ []

-- the event whose method has the name
abbrev pub event_named : List ℕ → Option EventName
event_named = named event_name all_events

-- ---- the parameters

-- an id of a node: from 1
abbrev pub node_id : Kind ℕ
node_id = refined whole (nat_lt 0)

-- the name of an attribute, in its form
abbrev pub attribute_name : Kind (List ℕ)
attribute_name = refined text is_attribute_name

-- of `DOM.attributeModified`
abbrev pub modified_kind : Kind (List ℕ × (ℕ × (List ℕ × ⊤)))
modified_kind = object_of (and_need (codes "name") attribute_name (and_need (codes "nodeId") node_id (and_need (codes "value") text ends)))

-- of `DOM.attributeRemoved`
abbrev pub dropped_kind : Kind (List ℕ × (ℕ × ⊤))
dropped_kind = object_of (and_need (codes "name") attribute_name (and_need (codes "nodeId") node_id ends))

-- of `DOM.characterDataModified`
abbrev pub data_kind : Kind (List ℕ × (ℕ × ⊤))
data_kind = object_of (and_need (codes "characterData") text (and_need (codes "nodeId") node_id ends))

-- of `DOM.childNodeCountUpdated`
abbrev pub count_kind : Kind (ℕ × (ℕ × ⊤))
count_kind = object_of (and_need (codes "childNodeCount") whole (and_need (codes "nodeId") node_id ends))

-- of `DOM.childNodeInserted`: the node, the id of its parent, and that of the sibling before it, or 0
abbrev pub inserted_kind : Kind (Branch Told × (ℕ × (ℕ × ⊤)))
inserted_kind = object_of (and_need (codes "node") bare_kind
    (and_need (codes "parentNodeId") node_id (and_need (codes "previousNodeId") whole ends)))

-- of `DOM.childNodeRemoved`
abbrev pub removed_kind : Kind (ℕ × (ℕ × ⊤))
removed_kind = object_of (and_need (codes "nodeId") node_id (and_need (codes "parentNodeId") node_id ends))

-- of `DOM.setChildNodes`: the nodes, and the id of their parent
abbrev pub children_kind : Kind (Nodes Told × (ℕ × ⊤))
children_kind = object_of (and_need (codes "nodes") nodes_kind (and_need (codes "parentId") node_id ends))

-- the empty object
abbrev pub empty_kind : Kind ⊤
empty_kind = object_of ends

-- of `CSS.styleSheetAdded`
abbrev pub added_kind : Kind (Header × ⊤)
added_kind = object_of (and_need (codes "header") header_kind ends)

-- of `CSS.styleSheetChanged` and of `CSS.styleSheetRemoved`
abbrev pub sheet_id_kind : Kind (ℕ × ⊤)
sheet_id_kind = object_of (and_need (codes "styleSheetId") sheet_kind ends)

-- each of the words
abbrev pub all_watches : List WatchKind
all_watches = Subtree ∷ Attribute ∷ Removed ∷ []

-- what is watched, as JSON
abbrev pub watch : Kind WatchKind
watch = choice watch_name all_watches

-- the fields of a pause: whether the target was put in, the node that is watched, the target, or 0 where it is hidden, and what is
-- watched
abbrev pub PauseFields : Type 0
PauseFields = Option Bool × (ℕ × (Option ℕ × (WatchKind × ⊤)))

-- a pause as its fields
abbrev pub pause_fields : PauseData → PauseFields
pause_fields (pause.Subtree node target insertion) = (Some insertion, (node, (Some target, (Subtree, tt))))
pause_fields (pause.Attribute node) = (None, (node, (None, (Attribute, tt))))
pause_fields (pause.Removed node) = (None, (node, (None, (Removed, tt))))

-- the pause of these fields: a target is there for a subtree alone, and so is whether it was put in
abbrev pub pause_by : WatchKind → Option Bool → Option ℕ → ℕ → Option PauseData
pause_by Subtree (Some insertion) (Some target) node = Some (pause.Subtree node target insertion)
pause_by Subtree (Some insertion) None node = None
pause_by Subtree None target node = None
pause_by Attribute None None node = Some (pause.Attribute node)
pause_by Attribute None (Some target) node = None
pause_by Attribute (Some insertion) target node = None
pause_by Removed None None node = Some (pause.Removed node)
pause_by Removed None (Some target) node = None
pause_by Removed (Some insertion) target node = None

-- the pause of these fields
abbrev pub pause_from : PauseFields → Option PauseData
pause_from f = pause_by f.1.1.1.0 f.0 f.1.1.0 f.1.0

-- the fields of a pause as JSON
abbrev pub pause_form : Kind PauseFields
pause_form = object_of (and_may (codes "insertion") flag
    (and_need (codes "nodeId") node_id (and_may (codes "targetNodeId") whole (and_need (codes "type") watch ends))))

-- a pause as JSON
abbrev pub pause_kind : Kind PauseData
pause_kind = through pause_form pause_fields pause_from

-- an empty list of call frames
abbrev pub no_call_frames : Kind ⊤
no_call_frames = through any_items (λ _. no_items) (λ ds. unit_if (has_none ds))

-- of `Debugger.paused`
abbrev pub paused_kind : Kind (⊤ × (PauseData × (⊤ × ⊤)))
paused_kind = object_of (and_need (codes "callFrames") no_call_frames
    (and_need (codes "data") pause_kind (and_need (codes "reason") (only_text (codes "DOM")) ends)))

-- ---- each event, written

-- an event as it is written: its method, its parameters, and whether these are in their forms
pub record NewsForm : Type 0 where
  pub name : EventName
  pub params : Data
  pub fits : Bool

-- the event of that method with these parameters, as it is written
abbrev pub news_form_of : {T : Type 0} → EventName → Kind T → T → NewsForm
news_form_of n k x = record { name = n; params = k.spell x; fits = k.fits x }

-- each event, as it is written
abbrev pub news_form : News → NewsForm
news_form (attribute_modified node n value) = news_form_of name.AttributeModified modified_kind (n, (node, (value, tt)))
news_form (attribute_removed node n) = news_form_of name.AttributeRemoved dropped_kind (n, (node, tt))
news_form (text_modified node value) = news_form_of name.CharacterDataModified data_kind (value, (node, tt))
news_form (count_updated node count) = news_form_of name.ChildNodeCountUpdated count_kind (count, (node, tt))
news_form (inserted parent previous node) = news_form_of name.ChildNodeInserted inserted_kind (node, (parent, (previous, tt)))
news_form (removed parent node) = news_form_of name.ChildNodeRemoved removed_kind (node, (parent, tt))
news_form (set_children parent nodes) = news_form_of name.SetChildNodes children_kind (nodes, (parent, tt))
news_form document_updated = news_form_of name.DocumentUpdated empty_kind tt
news_form (sheet_added header) = news_form_of name.StyleSheetAdded added_kind (header, tt)
news_form (sheet_changed sheet) = news_form_of name.StyleSheetChanged sheet_id_kind (sheet, tt)
news_form (sheet_removed sheet) = news_form_of name.StyleSheetRemoved sheet_id_kind (sheet, tt)
news_form (paused why) = news_form_of name.Paused paused_kind (tt, (why, (tt, tt)))

-- any object of a method and its parameters
abbrev pub envelope : Kind (List ℕ × (Data × ⊤))
envelope = object_of (and_need (codes "method") text (and_need (codes "params") anything ends))

-- the value that spells an event
abbrev pub news_data : News → Data
news_data n = envelope.spell (event_name (news_form n).name, ((news_form n).params, tt))

-- an event that is spelled: its ids and sheets are from 1 to 2^53-1, its names have their forms, and its nodes fit a message
abbrev pub fits_news : News → Bool
fits_news n = (news_form n).fits

-- ---- each event, read

-- the event of these parameters
abbrev pub news_by : EventName → Data → Option News
news_by name.AttributeModified d = option_map (λ x. attribute_modified x.1.0 x.0 x.1.1.0) (modified_kind.reads d)
news_by name.AttributeRemoved d = option_map (λ x. attribute_removed x.1.0 x.0) (dropped_kind.reads d)
news_by name.CharacterDataModified d = option_map (λ x. text_modified x.1.0 x.0) (data_kind.reads d)
news_by name.ChildNodeCountUpdated d = option_map (λ x. count_updated x.1.0 x.0) (count_kind.reads d)
news_by name.ChildNodeInserted d = option_map (λ x. inserted x.1.0 x.1.1.0 x.0) (inserted_kind.reads d)
news_by name.ChildNodeRemoved d = option_map (λ x. removed x.1.0 x.0) (removed_kind.reads d)
news_by name.SetChildNodes d = option_map (λ x. set_children x.1.0 x.0) (children_kind.reads d)
news_by name.DocumentUpdated d = option_map (λ x. document_updated) (empty_kind.reads d)
news_by name.StyleSheetAdded d = option_map (λ x. sheet_added x.0) (added_kind.reads d)
news_by name.StyleSheetChanged d = option_map (λ x. sheet_changed x.0) (sheet_id_kind.reads d)
news_by name.StyleSheetRemoved d = option_map (λ x. sheet_removed x.0) (sheet_id_kind.reads d)
news_by name.Paused d = option_map (λ x. paused x.1.0) (paused_kind.reads d)

-- the event of that name with these parameters, if the name is one
abbrev pub news_of_name : Option EventName → Data → Option News
news_of_name None params = None
news_of_name (Some n) params = news_by n params

-- the event of that method with these parameters
abbrev pub news_from : List ℕ → Data → Option News
news_from method params = news_of_name (event_named method) params

-- the event of an envelope
abbrev pub news_inside : List ℕ × (Data × ⊤) → Option News
news_inside e = news_from e.0 e.1.0

-- the event that a value spells
abbrev pub news_in : Data → Option News
news_in d = option_and_then news_inside (envelope.reads d)

-- ---- read step by step

-- an envelope as code holds it
abbrev pub envelope_seen : Bor (List ℕ) × Bor Value → List ℕ × (Data × ⊤)
envelope_seen e = (e.0.now, (view e.1.now, tt))

-- the parameters that show children, with the nodes as JSON
abbrev pub children_fields : Kind (Items × (ℕ × ⊤))
children_fields = object_of (and_need (codes "nodes") any_items (and_need (codes "parentId") node_id ends))

-- the parameters that show children, as code holds them
abbrev pub children_seen : Bor (List Value) × ℕ → Items × (ℕ × ⊤)
children_seen p = (items_view p.0.now, (p.1, tt))

-- the parameters that tell a new child, with the node as JSON
abbrev pub inserted_fields : Kind (Data × (ℕ × (ℕ × ⊤)))
inserted_fields = object_of (and_need (codes "node") anything
    (and_need (codes "parentNodeId") node_id (and_need (codes "previousNodeId") whole ends)))

-- the parameters that tell a new child, as code holds them
abbrev pub inserted_seen : Bor Value × (ℕ × ℕ) → Data × (ℕ × (ℕ × ⊤))
inserted_seen p = (view p.0.now, (p.1.0, (p.1.1, tt)))
