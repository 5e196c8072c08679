-- The text of a message is UTF-8 where the texts of its nodes are.
use Rattle.std.proofs.Common.{◌≡◌, true, false, ◌&&◌, refl}
use Rattle.std.specs.Prelude.{codes, IsUtf8}
use Rattle.json.proofs.Printed.Utf8.{IsUtf8-are_ascii}
use Rattle.cdp_json.specs.Plain.{HasUtf8}
use Rattle.cdp_json.proofs.ReadBack.{IsUtf8-compact_text}
use Rattle.css_objects.specs.Sheets.{is_sheet, header_kind}
use Rattle.css_objects.proofs.Objects.{sheet_sound, header_sound}
use Rattle.dom_objects.specs.declared.node_rules.Manner.TheVariants.{Pushed}
use Rattle.dom_objects.specs.NodeData.{fits_nodes, fits_tree}
use Rattle.cdp_messages.specs.Events.{News, attribute_modified, attribute_removed, text_modified, count_updated, inserted, removed}
use Rattle.cdp_messages.specs.Events.{set_children, document_updated, sheet_added, sheet_changed, sheet_removed, paused, event_name}
use Rattle.dom_objects.specs.NodeKinds.{shows_no_children}
use Rattle.cdp_messages.specs.Events.{pause_kind, news_form, news_data, fits_news}
use Rattle.cdp_messages.specs.declared.down.PauseData.{PauseData}
use Rattle.cdp_messages.specs.declared.down.PauseData.TheVariants as pause
use Rattle.cdp_messages.specs.declared.event_names.EventName.{EventName}
use Rattle.cdp_messages.specs.declared.event_names.EventName.TheVariants as name
use Rattle.cdp_messages.specs.Replies.{reply, message_data}
use Rattle.cdp_messages.specs.Results.{body_data}
use Rattle.cdp_messages.specs.Laws.{NewsHaveUtf8, RepliesAreUtf8, EventsAreUtf8}
use Rattle.cdp_json.proofs.Options.{both_parts}
use Rattle.cdp_messages.proofs.Messages.{reply_plain}
use Rattle.cdp_messages.proofs.Results.{body_utf8}
use Rattle.cdp_messages.proofs.NewsLaws.{news_plain}
use Rattle.dom_objects.proofs.NodeUtf8.{trees_utf8, tree_utf8}

pub replies_are_utf8 : RepliesAreUtf8
replies_are_utf8 id body c f u =
    IsUtf8-compact_text (message_data (reply id (body_data body))) (reply_plain id body c f)
    (IsUtf8-are_ascii (codes "id") refl, tt, (IsUtf8-are_ascii (codes "result") refl, body_utf8 body f u, tt))

pause_utf8 : (why : PauseData) → HasUtf8 (pause_kind.spell why)
pause_utf8 (pause.Subtree id target insertion) = (
  IsUtf8-are_ascii (codes "insertion") refl,
  tt,
  (
    IsUtf8-are_ascii (codes "nodeId") refl,
    tt,
    (
      IsUtf8-are_ascii (codes "targetNodeId") refl,
      tt,
      (IsUtf8-are_ascii (codes "type") refl, IsUtf8-are_ascii (codes "subtree-modified") refl, tt),
    ),
  ),
)
pause_utf8 (pause.Attribute id) = (
  IsUtf8-are_ascii (codes "nodeId") refl,
  tt,
  (IsUtf8-are_ascii (codes "type") refl, IsUtf8-are_ascii (codes "attribute-modified") refl, tt),
)
pause_utf8 (pause.Removed id) =
    (IsUtf8-are_ascii (codes "nodeId") refl, tt, (IsUtf8-are_ascii (codes "type") refl, IsUtf8-are_ascii (codes "node-removed") refl, tt))

params_utf8 : (n : News) → fits_news n ≡ true → NewsHaveUtf8 n → HasUtf8 (news_form n).params
params_utf8 (attribute_modified id m value) f u = (
  IsUtf8-are_ascii (codes "name") refl,
  u.0,
  (IsUtf8-are_ascii (codes "nodeId") refl, tt, (IsUtf8-are_ascii (codes "value") refl, u.1, tt)),
)
params_utf8 (attribute_removed id m) f u = (IsUtf8-are_ascii (codes "name") refl, u, (IsUtf8-are_ascii (codes "nodeId") refl, tt, tt))
params_utf8 (text_modified id value) f u =
    (IsUtf8-are_ascii (codes "characterData") refl, u, (IsUtf8-are_ascii (codes "nodeId") refl, tt, tt))
params_utf8 (count_updated id count) f u =
    (IsUtf8-are_ascii (codes "childNodeCount") refl, tt, (IsUtf8-are_ascii (codes "nodeId") refl, tt, tt))
params_utf8 (inserted parent previous b) f u = (
  IsUtf8-are_ascii (codes "node") refl,
  tree_utf8 Pushed false b (both_parts (fits_tree false b) (shows_no_children b)
      (both_parts (fits_tree false b && shows_no_children b) _ f).0).0 u,
  (IsUtf8-are_ascii (codes "parentNodeId") refl, tt, (IsUtf8-are_ascii (codes "previousNodeId") refl, tt, tt)),
)
params_utf8 (removed parent id) f u = (IsUtf8-are_ascii (codes "nodeId") refl, tt, (IsUtf8-are_ascii (codes "parentNodeId") refl, tt, tt))
params_utf8 (set_children parent nodes) f u = (
  IsUtf8-are_ascii (codes "nodes") refl,
  trees_utf8 Pushed nodes (both_parts (fits_nodes nodes) _ f).0 u,
  (IsUtf8-are_ascii (codes "parentId") refl, tt, tt),
)
params_utf8 document_updated f u = tt
params_utf8 (sheet_added header) f u =
    (IsUtf8-are_ascii (codes "header") refl, header_sound.utf8 header (both_parts (header_kind.fits header) true f).0 tt, tt)
params_utf8 (sheet_changed sheet) f u =
    (IsUtf8-are_ascii (codes "styleSheetId") refl, sheet_sound.utf8 sheet (both_parts (is_sheet sheet) true f).0 tt, tt)
params_utf8 (sheet_removed sheet) f u =
    (IsUtf8-are_ascii (codes "styleSheetId") refl, sheet_sound.utf8 sheet (both_parts (is_sheet sheet) true f).0 tt, tt)
params_utf8 (paused why) f u = (
  IsUtf8-are_ascii (codes "callFrames") refl,
  tt,
  (
    IsUtf8-are_ascii (codes "data") refl,
    pause_utf8 why,
    (IsUtf8-are_ascii (codes "reason") refl, IsUtf8-are_ascii (codes "DOM") refl, tt),
  ),
)

event_name_utf8 : (n : EventName) → IsUtf8 (event_name n)
event_name_utf8 name.AttributeModified = IsUtf8-are_ascii (event_name name.AttributeModified) refl
event_name_utf8 name.AttributeRemoved = IsUtf8-are_ascii (event_name name.AttributeRemoved) refl
event_name_utf8 name.CharacterDataModified = IsUtf8-are_ascii (event_name name.CharacterDataModified) refl
event_name_utf8 name.ChildNodeCountUpdated = IsUtf8-are_ascii (event_name name.ChildNodeCountUpdated) refl
event_name_utf8 name.ChildNodeInserted = IsUtf8-are_ascii (event_name name.ChildNodeInserted) refl
event_name_utf8 name.ChildNodeRemoved = IsUtf8-are_ascii (event_name name.ChildNodeRemoved) refl
event_name_utf8 name.SetChildNodes = IsUtf8-are_ascii (event_name name.SetChildNodes) refl
event_name_utf8 name.DocumentUpdated = IsUtf8-are_ascii (event_name name.DocumentUpdated) refl
event_name_utf8 name.StyleSheetAdded = IsUtf8-are_ascii (event_name name.StyleSheetAdded) refl
event_name_utf8 name.StyleSheetChanged = IsUtf8-are_ascii (event_name name.StyleSheetChanged) refl
event_name_utf8 name.StyleSheetRemoved = IsUtf8-are_ascii (event_name name.StyleSheetRemoved) refl
event_name_utf8 name.Paused = IsUtf8-are_ascii (event_name name.Paused) refl

news_utf8 : (n : News) → fits_news n ≡ true → NewsHaveUtf8 n → HasUtf8 (news_data n)
news_utf8 n f u = (
  IsUtf8-are_ascii (codes "method") refl,
  event_name_utf8 (news_form n).name,
  (IsUtf8-are_ascii (codes "params") refl, params_utf8 n f u, tt),
)

pub events_are_utf8 : EventsAreUtf8
events_are_utf8 n f u = IsUtf8-compact_text (news_data n) (news_plain n f) (news_utf8 n f u)
