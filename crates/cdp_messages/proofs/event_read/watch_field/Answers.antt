use Rattle.std.proofs.Common.{option_map, codes, ap, ◌∙◌}
use Rattle.serde_json.specs.Find.{as_str}
use Rattle.cdp_json.specs.Kinds.{named}
use Rattle.cdp_json.specs.Left.{left}
use Rattle.cdp_json.specs.Rows.{left_with}
use Rattle.node_tree.specs.Watches.{watch_name}
use Rattle.cdp_messages.specs.Events.{all_watches}
use Rattle.cdp_messages.proofs.NeedsRead.{need_through}
use Rattle.cdp_messages.proofs.event_read.watch_field.Goals as goal

pub returns : goal.returns
returns c =
    ap (option_map (left_with (left c.need_text.new.self))) c.watch_named.ensures
    ∙ need_through as_str (named watch_name all_watches) (codes "type") (left c.args.fields.now) c.in_ok-word.word.now
    (left c.need_text.new.self) c.in_ok-word.ensures.value
