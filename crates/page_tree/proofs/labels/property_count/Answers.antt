-- A map has as many entries as there are members.
use Rattle.std.proofs.Common.{Option, ◌∙◌, sym, ap}
use Rattle.std.specs.Option.{option_map_or}
use Rattle.serde_json.specs.Data.{Members}
use Rattle.serde_json.specs.Events.{members_len}
use Rattle.serde_json.proofs.Views.{members_len-members_view}
use Rattle.page_tree.proofs.labels.property_count.Goals as goal

pub returns-in-Some : goal.returns-in-Some
returns-in-Some c = c.len.ensures.len ∙ sym (members_len-members_view c.in-Some.members.now.entries) ∙ ap
    (λ (o : Option Members). option_map_or members_len o 0) (c.in-Some.ensures {u = tt})
