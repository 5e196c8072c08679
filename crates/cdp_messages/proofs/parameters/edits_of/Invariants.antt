use Rattle.std.proofs.Common.{◌≡◌, drop}
use Rattle.serde_json.specs.View.{items_view}
use Rattle.cdp_json.specs.Kinds.{read_items}
use Rattle.cdp_json.specs.Lists.{with_list_front}
use Rattle.cdp_messages.specs.Parameters.{text_edit}
use Rattle.cdp_messages.proofs.parameters.edits_of.Given as goal

abbrev pub invariant-loop-value : goal.invariant-loop-value
invariant-loop-value l = with_list_front l.edits.items (read_items text_edit.reads (items_view (drop l.value-index l.values)))
    ≡ read_items text_edit.reads (items_view l.values)
