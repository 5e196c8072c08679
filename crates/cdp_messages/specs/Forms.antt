-- What is to be written: a value, or nodes and matched styles that need none.
use Rattle.std.specs.Prelude.{codes}
use Rattle.serde_json.specs.Data.{Data, object, no_members, member}
use Rattle.serde_json.specs.View.{view}
use Rattle.node_tree.specs.Nodes.{nodes_of}
use Rattle.cdp_messages.specs.declared.reply_write.BodyForm.{BodyForm}
use Rattle.cdp_messages.specs.declared.reply_write.BodyForm.TheVariants as body
use Rattle.cdp_messages.specs.declared.event_write.EventForm.{EventForm}
use Rattle.cdp_messages.specs.declared.event_write.EventForm.TheVariants as told
use Rattle.css_objects.specs.Rules.{matched_kind}
use Rattle.dom_objects.specs.NodeData.{tree_data}
use Rattle.cdp_messages.specs.Events.{inserted, set_children, news_data}

-- the JSON of a result
abbrev pub body_said : BodyForm → Data
body_said (body.Plain value) = view value
body_said (body.Root tree) = object (member (codes "root") (tree_data tree.now) no_members)
body_said (body.Node tree) = object (member (codes "node") (tree_data tree.now) no_members)
body_said (body.Matched matched) = matched_kind.spell matched.now

-- the JSON of an event
abbrev pub event_said : EventForm → Data
event_said (told.Plain value) = view value
event_said (told.Inserted parent previous node) = news_data (inserted parent previous node.now)
event_said (told.Children parent nodes) = news_data (set_children parent (nodes_of nodes.now.items))
