use Rattle.std.proofs.Common.{option_map, codes, ap, ◌∙◌}
use Rattle.serde_json.specs.Find.{as_array}
use Rattle.serde_json.specs.View.{items_view}
use Rattle.cdp_json.specs.Left.{left}
use Rattle.cdp_json.specs.Rows.{left_with, unit_if}
use Rattle.css_objects.specs.Styles.{has_none}
use Rattle.cdp_messages.proofs.NeedsRead.{need_through}
use Rattle.cdp_messages.proofs.event_read.empty_list_field.Goals as goal

pub returns-in-Some : goal.returns-in-Some
returns-in-Some c =
    ap (λ b. option_map (left_with (left c.need_list.new.self)) (unit_if b)) c.has_none.ensures
    ∙ need_through as_array (λ ds. unit_if (has_none ds)) (codes "callFrames") (left c.args.fields.now) (items_view c.in-Some.items.now)
    (left c.need_list.new.self) c.in-Some.ensures.value
