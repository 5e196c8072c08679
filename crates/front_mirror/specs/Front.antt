-- The front end as a value, and the fold of the frames that come down.
use Rattle.std.specs.Prelude.{ℕ, ◌+◌, ◌-◌, ◌==◌, Bool, true, false, not, ◌&&◌, ◌||◌, cond, nat_le, List, [], ◌∷◌, ◌++◌, codes, Option}
use Rattle.std.specs.Prelude.{Some, None, map, option_map, option_and_then, Result, Ok, Err}
use Rattle.node_tree.specs.Numbers.{first_fetch}
use Rattle.serde_json.specs.Data.{Data}
use Rattle.cdp_json.specs.Rows.{ends, and_need, object_of}
use Rattle.css_objects.specs.Sheets.{sheet_kind}
use Rattle.css_objects.specs.declared.rules.Matched.{Matched}
use Rattle.node_tree.specs.Nodes.{Nodes, none, node, Branch, alone, height}
use Rattle.node_tree.specs.Keys.{Spot, has, spot, put, first_true}
use Rattle.node_tree.specs.Labels.{is_element, has_value}
use Rattle.node_tree.specs.Seen.{Seen, shows_count, is_opened, seen_id, seen_serial}
use Rattle.std.specs.List.{list_all}
use Rattle.pipe_frames.specs.Frames.{frames_from, held_after}
use Rattle.cdp_messages.specs.declared.down.ReplyBody.{ReplyBody}
use Rattle.cdp_messages.specs.Results.{Tale, no_result, document, sheet_text, new_styles, matched_styles, answer_alone, tale_of}
use Rattle.client_views.specs.declared.effects.Effect.{Effect}
use Rattle.client_views.specs.declared.effects.Effect.TheVariants as effect
use Rattle.client_views.specs.Effects.{effect_of}
use Rattle.node_tree.specs.declared.watches.WatchKind.TheVariants.{Subtree, Attribute, Removed}
use Rattle.cdp_messages.specs.declared.down.PauseData.{PauseData}
use Rattle.cdp_messages.specs.declared.down.PauseData.TheVariants as pause
use Rattle.dom_objects.specs.Told.{Told, seen_nodes, seen_branch}
use Rattle.cdp_messages.specs.Replies.{Message, reply, fault, event, down_of, result_of}
use Rattle.cdp_messages.specs.Events.{News, attribute_modified, attribute_removed, text_modified, count_updated, inserted, removed}
use Rattle.cdp_messages.specs.Events.{set_children, document_updated, paused, sheet_added, sheet_changed, sheet_removed}
use Rattle.front_mirror.specs.declared.replies.Ask.{Ask}
use Rattle.front_mirror.specs.declared.replies.Kept.{Kept}
use Rattle.front_mirror.specs.declared.replies.MatchedReply.{MatchedReply}
use Rattle.front_mirror.specs.declared.pauses.SeenPause.{SeenPause}
use Rattle.front_mirror.specs.declared.panels.PanelKind.{PanelKind}
use Rattle.front_mirror.specs.declared.faults.FrontKind.{FrontKind}
use Rattle.front_mirror.specs.declared.faults.FrontKind.TheVariants.{NotMessage, UnknownNode, NotChild, IdTaken, UnknownSheet, TooDeep}
use Rattle.front_mirror.specs.declared.faults.FrontFault.{FrontFault}
use Rattle.client_views.specs.Moves.{Change, shows, inserts, removes, counts, sets, drops, says, changed, suits_change, paused_nodes}
use Rattle.client_views.specs.Views.{keys, is_distinct}
use Rattle.node_tree.specs.Levels.{most_levels}
use Rattle.css_objects.specs.declared.sheets.Header.{Header}
use Rattle.front_mirror.specs.declared.sheets.KnownSheet.{KnownSheet}
use Rattle.front_mirror.specs.Sheets.{told_sheet, has_sheet, marked_old, with_fetched, without_sheet}
use Rattle.front_mirror.specs.Shown.{told_id, told_serial}

-- The tree of the mirror, none where it is empty; the sheets, in the order in which they came; the asks that wait for a reply, in the order
-- in which they were sent; the
-- replies, the pauses and the matched styles that came, in their order; and how many messages were taken.
pub record FrontValue : Type 0 where
  pub tree : Nodes Seen
  pub sheets : List KnownSheet
  pub asks : List Ask
  pub replies : List Kept
  pub pauses : List SeenPause
  pub matched : List MatchedReply
  pub taken : ℕ

-- a front that has taken nothing, and waits for the replies to these asks
abbrev pub first_value : List Ask → FrontValue
first_value asks = record { tree = none; sheets = []; asks = asks; replies = []; pauses = []; matched = []; taken = 0 }

-- ---- asks

-- an ask of that id and method, which is no fetch
abbrev pub plain_ask : ℕ → List ℕ → Ask
plain_ask id method = record { id = id; method = method; sheet = None }

-- the fetch of the text of that sheet, after so many fetches; ids of fetches are from 2^30 on
abbrev pub fetch_ask : ℕ → ℕ → Ask
fetch_ask count sheet = record { id = first_fetch + count; method = codes "CSS.getStyleSheetText"; sheet = Some sheet }

-- the parameters of a fetch: the id of the sheet
abbrev pub fetch_params : ℕ → Data
fetch_params sheet = (object_of (and_need (codes "styleSheetId") sheet_kind ends)).spell (sheet, tt)

-- the first ask with that id
abbrev pub ask_under : ℕ → List Ask → Option Ask
ask_under id [] = None
ask_under id (ask ∷ asks) = cond (ask.id == id) (Some ask) (ask_under id asks)

-- the method of the first ask with that id
abbrev pub method_waiting : ℕ → List Ask → Option (List ℕ)
method_waiting id asks = option_map (λ (ask : Ask). ask.method) (ask_under id asks)

-- the sheet that it fetches, if it is a fetch
abbrev pub fetched_sheet : ℕ → List Ask → Option ℕ
fetched_sheet id asks = option_and_then (λ (ask : Ask). ask.sheet) (ask_under id asks)

-- the asks without the first one with that id
abbrev pub asks_without : ℕ → List Ask → List Ask
asks_without id [] = []
asks_without id (ask ∷ asks) = cond (ask.id == id) asks (ask ∷ asks_without id asks)

-- ---- a whole tree that comes for an empty mirror

-- each of these trees says that its parent is the one of this id, and so on below
abbrev pub is_kin : ℕ → Nodes Told → Bool
is_kin parent none = true
is_kin parent (node r c t) = (r.parent == parent) && is_kin r.seen.id c && is_kin parent t

-- no id and no serial comes twice
abbrev pub is_unique : Nodes Told → Bool
is_unique n = is_distinct (keys told_id n) && is_distinct (keys told_serial n)

-- what is wrong with the root of a document, the first by number
abbrev pub root_fault : Branch Told → Option FrontKind
root_fault b = first_true
    ((NotChild, not (is_kin b.row.seen.id b.children))
    ∷ (IdTaken, not (is_unique (alone b)))
    ∷ (TooDeep, not (nat_le (height (alone b)) most_levels))
    ∷ [])

-- ---- a change of one node

-- A change as an event tells it: the id of the node, what becomes of it, and the nodes that come with it.
pub record ToldChange : Type 0 where
  pub node : ℕ
  pub change : Change
  pub nodes : Nodes Told

-- the change of the node of that id, with the nodes that come
abbrev pub told_change : ℕ → Change → Nodes Told → ToldChange
told_change id c nodes = record { node = id; change = c; nodes = nodes }

-- The node is of a kind and in a state that the change fits: it is not opened and can have children, it is opened, it is an
-- element, it has a value.
abbrev pub takes_change : Change → Seen → Bool
takes_change (shows kids) r = shows_count r.hold
takes_change (inserts previous w) r = is_opened r.hold
takes_change (removes id) r = is_opened r.hold
takes_change (counts n) r = shows_count r.hold
takes_change (sets name value) r = is_element r.label.kind
takes_change (drops name) r = is_element r.label.kind
takes_change (says value) r = has_value r.label.kind

-- a node of that id is in the tree
abbrev pub is_shown : Nodes Seen → ℕ → Bool
is_shown tree id = has seen_id id tree

-- the child that the change names is somewhere in the tree; 0 names none
abbrev pub knows_named : Nodes Seen → Change → Bool
knows_named tree (shows kids) = true
knows_named tree (inserts previous w) = previous == 0 || is_shown tree previous
knows_named tree (removes id) = is_shown tree id
knows_named tree (counts n) = true
knows_named tree (sets name value) = true
knows_named tree (drops name) = true
knows_named tree (says value) = true

-- some of the nodes passes the test
abbrev pub any_node : {R : Type 0} → (R → Bool) → Nodes R → Bool
any_node test none = false
any_node test (node r c t) = test r || any_node test c || any_node test t

-- the tree has the node's id or its serial
abbrev pub clashes : Nodes Seen → Told → Bool
clashes tree r = is_shown tree r.seen.id || has seen_serial r.seen.serial tree

-- no id and no serial of the nodes is in the tree
abbrev pub is_fresh : Nodes Seen → Nodes Told → Bool
is_fresh tree nodes = not (any_node (clashes tree) nodes)

-- no node stands above the level limit, where these stand below a node of that level
abbrev pub stands_low : ℕ → Nodes Told → Bool
stands_low level nodes = nat_le (height nodes) (most_levels - 1 - level)

-- what is wrong with a change of the node at this spot, the first by number
abbrev pub change_fault : Nodes Seen → ToldChange → Spot Seen → Option FrontKind
change_fault tree t s = first_true
    ((UnknownNode, not (takes_change t.change s.branch.row && knows_named tree t.change))
    ∷ (NotChild, not (suits_change t.change s.branch && is_kin t.node t.nodes))
    ∷ (IdTaken, not (is_unique t.nodes && is_fresh tree t.nodes))
    ∷ (TooDeep, not (stands_low s.level t.nodes))
    ∷ [])

-- ---- one message

-- a reply, kept with the frame that it came in, and the method of the ask that it answers
abbrev pub reply_kept : Option ℕ → Option (List ℕ) → List ℕ → Bool → Kept
reply_kept id method frame good = record { id = id; method = method; text = frame; good = good }

-- what is kept of a reply: nothing, where it answers a fetch
abbrev pub unless_fetch : Option ℕ → Kept → List Kept
unless_fetch None k = k ∷ []
unless_fetch (Some sheet) k = []

-- what is kept of a reply to an ask of that id, where these wait
abbrev pub kept_reply : ℕ → List Ask → List ℕ → Bool → List Kept
kept_reply id asks frame good = unless_fetch (fetched_sheet id asks) (reply_kept (Some id) (method_waiting id asks) frame good)

-- the sheets after the text of this one was fetched, if it was
abbrev pub sheets_fetched : Option ℕ → List ℕ → List KnownSheet → List KnownSheet
sheets_fetched None text sheets = sheets
sheets_fetched (Some n) text sheets = with_fetched n text sheets

-- a frame that replies to the ask of that id
pub record ReplyFrame : Type 0 where
  pub id : ℕ
  pub frame : List ℕ

-- this frame, as a reply to the ask of that id
abbrev pub reply_frame : ℕ → List ℕ → ReplyFrame
reply_frame id frame = record { id = id; frame = frame }

-- the front after a reply, which leads to this tree
abbrev pub replied : FrontValue → ReplyFrame → Bool → Nodes Seen → FrontValue
replied v r good tree = record v {
  tree = tree;
  asks = asks_without r.id v.asks;
  replies = v.replies ++ kept_reply r.id v.asks r.frame good;
  taken = v.taken + 1;
}

-- the front after an error reply that names no ask
abbrev pub refused : FrontValue → List ℕ → FrontValue
refused v frame = record v { replies = v.replies ++ reply_kept None None frame false ∷ []; taken = v.taken + 1 }

-- the front after an event that leads to this tree
abbrev pub told : FrontValue → Nodes Seen → FrontValue
told v tree = record v { tree = tree; taken = v.taken + 1 }

-- a document comes in place of the tree, unless something is wrong with it
abbrev pub with_root : FrontValue → ReplyFrame → Branch Told → Option FrontKind → Result FrontValue FrontKind
with_root v r root None = Ok (replied v r true (seen_nodes (alone root)))
with_root v r root (Some kind) = Err kind

-- after an Ok reply with this effect
abbrev pub with_effect : FrontValue → ReplyFrame → Effect → Result FrontValue FrontKind
with_effect v r (effect.Document tree) = with_root v r tree (root_fault tree)
with_effect v r (effect.SheetText text) = Ok
    (record (replied v r true v.tree) { sheets = sheets_fetched (fetched_sheet r.id v.asks) text v.sheets })
with_effect v r effect.AllOff = Ok (record (replied v r true none) { sheets = [] })
with_effect v r effect.SheetsOff = Ok (record (replied v r true v.tree) { sheets = [] })
with_effect v r effect.NothingElse = Ok (replied v r true v.tree)

-- matched styles, if they are told, with the id of the ask that they answer
abbrev pub matched_by : ℕ → Tale → List MatchedReply
matched_by id no_result = []
matched_by id (document tree) = []
matched_by id (sheet_text text) = []
matched_by id (new_styles styles) = []
matched_by id (matched_styles matched) = record { ask = id; matched = matched } ∷ []
matched_by id answer_alone = []

-- the matched styles that a result tells, if it tells some
abbrev pub matched_told : ℕ → ReplyBody → List MatchedReply
matched_told id body = matched_by id (tale_of body)

-- the front with these matched styles more
abbrev pub with_matched : FrontValue → List MatchedReply → FrontValue
with_matched v more = record v { matched = v.matched ++ more }

-- after an Ok reply with this result, whose matched styles are kept; none is of the method that was asked
abbrev pub with_body : FrontValue → ReplyFrame → List ℕ → Option ReplyBody → Result FrontValue FrontKind
with_body v r method None = Err NotMessage
with_body v r method (Some body) = with_effect (with_matched v (matched_told r.id body)) r (effect_of method body)

-- a reply to an ask of that method, if one waits
abbrev pub with_reply : FrontValue → ReplyFrame → Data → Option (List ℕ) → Result FrontValue FrontKind
with_reply v r result None = Err NotMessage
with_reply v r result (Some method) = with_body v r method (result_of method result)

-- an error reply to an ask of that method, if one waits
abbrev pub with_fault : FrontValue → ReplyFrame → Option (List ℕ) → Result FrontValue FrontKind
with_fault v r None = Err NotMessage
with_fault v r (Some method) = Ok (replied v r false v.tree)

-- after an event that leads to this tree, or is refused
abbrev pub with_tree : FrontValue → Nodes Seen → Option FrontKind → Result FrontValue FrontKind
with_tree v tree None = Ok (told v tree)
with_tree v tree (Some kind) = Err kind

-- the node of that id changes, if it is known and nothing is wrong
abbrev pub at_spot : FrontValue → ToldChange → Option (Spot Seen) → Result FrontValue FrontKind
at_spot v t None = Err UnknownNode
at_spot v t (Some s) = with_tree v (put seen_id t.node (changed t.change s.branch) v.tree) (change_fault v.tree t s)

-- after an event that changes one node
abbrev pub with_change : FrontValue → ToldChange → Result FrontValue FrontKind
with_change v t = at_spot v t (spot seen_id t.node 0 v.tree)

-- a pause as it is kept
abbrev pub seen_pause : PauseData → SeenPause
seen_pause (pause.Subtree watched target insertion) = record { kind = Subtree; node = watched; target = Some target; insertion = insertion }
seen_pause (pause.Attribute watched) = record { kind = Attribute; node = watched; target = None; insertion = false }
seen_pause (pause.Removed watched) = record { kind = Removed; node = watched; target = None; insertion = false }

-- the front after a pause
abbrev pub halted : FrontValue → PauseData → FrontValue
halted v why = record v { pauses = v.pauses ++ seen_pause why ∷ []; taken = v.taken + 1 }

-- after a pause, which names known nodes
abbrev pub with_pause : FrontValue → PauseData → Result FrontValue FrontKind
with_pause v why = cond (list_all (is_shown v.tree) (paused_nodes why)) (Ok (halted v why)) (Err UnknownNode)

-- the front after an event that leads to these sheets
abbrev pub told_sheets : FrontValue → List KnownSheet → FrontValue
told_sheets v sheets = record v { sheets = sheets; taken = v.taken + 1 }

-- after a new sheet, which stands last; its number is not known before
abbrev pub with_added : FrontValue → Header → Result FrontValue FrontKind
with_added v h = cond (has_sheet h.sheet v.sheets) (Err IdTaken) (Ok (told_sheets v (v.sheets ++ told_sheet h ∷ [])))

-- after an event that leads from the sheets to these, if one has the number
abbrev pub with_sheet : FrontValue → ℕ → List KnownSheet → Result FrontValue FrontKind
with_sheet v n sheets = cond (has_sheet n v.sheets) (Ok (told_sheets v sheets)) (Err UnknownSheet)

-- after an event
abbrev pub with_news : FrontValue → News → Result FrontValue FrontKind
with_news v (set_children parent nodes) = with_change v (told_change parent (shows (seen_nodes nodes)) nodes)
with_news v (inserted parent previous b) = with_change v (told_change parent (inserts previous (seen_branch b)) (alone b))
with_news v (removed parent id) = with_change v (told_change parent (removes id) none)
with_news v (count_updated id count) = with_change v (told_change id (counts count) none)
with_news v (attribute_modified id name value) = with_change v (told_change id (sets name value) none)
with_news v (attribute_removed id name) = with_change v (told_change id (drops name) none)
with_news v (text_modified id value) = with_change v (told_change id (says value) none)
with_news v document_updated = Ok (told v none)
with_news v (paused why) = with_pause v why
with_news v (sheet_added header) = with_added v header
with_news v (sheet_changed number) = with_sheet v number (marked_old number v.sheets)
with_news v (sheet_removed number) = with_sheet v number (without_sheet number v.sheets)

-- after a message; none is what the frame spells
abbrev pub with_message : FrontValue → List ℕ → Option Message → Result FrontValue FrontKind
with_message v frame None = Err NotMessage
with_message v frame (Some (event n)) = with_news v n
with_message v frame (Some (reply id result)) = with_reply v (reply_frame id frame) result (method_waiting id v.asks)
with_message v frame (Some (fault None code text)) = Ok (refused v frame)
with_message v frame (Some (fault (Some id) code text)) = with_fault v (reply_frame id frame) (method_waiting id v.asks)

-- the front after one frame, or why it refuses the frame
abbrev pub take_frame : FrontValue → List ℕ → Result FrontValue FrontKind
take_frame v frame = with_message v frame (down_of frame)

-- ---- many messages

-- a front, and the first fault that it met, if it met one
pub record Folded : Type 0 where
  pub value : FrontValue
  pub fault : Option FrontFault

-- `next` says how it goes on from the front after a message; a message that is refused leaves the front as it was before
abbrev pub after_message : FrontValue → (FrontValue → Folded) → Result FrontValue FrontKind → Folded
after_message v next (Ok w) = next w
after_message v next (Err kind) = record { value = v; fault = Some (record { place = v.taken + 1; kind = kind }) }

-- the front after these frames, up to the first that it refuses; places count from 1, over all messages taken
abbrev pub front_folded : FrontValue → List (List ℕ) → Folded
front_folded v [] = record { value = v; fault = None }
front_folded v (frame ∷ frames) = after_message v (λ w. front_folded w frames) (take_frame v frame)

-- the front, or else the fault
abbrev pub fold_result : FrontValue → Option FrontFault → Result FrontValue FrontFault
fold_result v None = Ok v
fold_result v (Some f) = Err f

-- frames folded one after the other, or the first fault
abbrev pub fold_frames : FrontValue → List (List ℕ) → Result FrontValue FrontFault
fold_frames v frames = let end = front_folded v frames in fold_result end.value end.fault

-- The fold of the bytes that came down, begun with an empty mirror and the asks that were sent: the front after the frames
-- that are whole, or the first fault.
abbrev pub fold : List Ask → List ℕ → Result FrontValue FrontFault
fold waiting down = fold_frames (first_value waiting) (frames_from [] down)

-- the matched styles that the first of these replies to the ask of that id told
abbrev pub matched_in : ℕ → List MatchedReply → Option Matched
matched_in ask [] = None
matched_in ask (r ∷ rs) = cond (r.ask == ask) (Some r.matched) (matched_in ask rs)

-- ---- a front that runs

-- What contracts see of a front: its value, the bytes after the last whole frame, the fault that it met, the id of the next
-- ask, how many fetches were sent, and whether it is dead.
pub record FrontState : Type 0 where
  pub value : FrontValue
  pub rest : List ℕ
  pub fault : Option FrontFault
  pub next : ℕ
  pub fetches : ℕ
  pub dead : Bool
  pub panels : List (Option PanelKind)

-- a front that has sent and taken nothing, with these panels
abbrev pub first_state : List PanelKind → FrontState
first_state kinds =
    record { value = first_value []; rest = []; fault = None; next = 1; fetches = 0; dead = false; panels = map Some kinds }

-- the state after more bytes, where no fault was met before
abbrev pub after_bytes : FrontState → List ℕ → FrontState
after_bytes s bytes =
    let end = front_folded s.value (frames_from s.rest bytes) in
    record s { value = end.value; rest = held_after s.rest bytes; fault = end.fault }

-- a front that has met a fault stays as it is
abbrev pub unless_refused : Option FrontFault → FrontState → FrontState → FrontState
unless_refused None before after = after
unless_refused (Some f) before after = before

-- The state after more bytes. A front that met a fault stays as it is; else each frame that becomes whole is folded, up to
-- the first that is refused.
abbrev pub after_take : FrontState → List ℕ → FrontState
after_take s bytes = unless_refused s.fault s (after_bytes s bytes)

-- the state after an ask: it waits, under the next id
abbrev pub after_ask : FrontState → List ℕ → FrontState
after_ask s method =
    record s { value = record s.value { asks = s.value.asks ++ plain_ask s.next method ∷ [] }; next = s.next + 1 }

-- the state after a fetch of that sheet: it waits, under the next id of fetches
abbrev pub after_fetch : FrontState → ℕ → FrontState
after_fetch s sheet =
    record s { value = record s.value { asks = s.value.asks ++ fetch_ask s.fetches sheet ∷ [] }; fetches = s.fetches + 1 }
