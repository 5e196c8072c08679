use Rattle.std.proofs.Common.{List, Some, option_map, Bor, sym, ap, ◌∙◌}
use Rattle.serde_json.specs.Events.{items_len}
use Rattle.serde_json.specs.View.{items_view}
use Rattle.serde_json.specs.declared.value.Value.{Value}
use Rattle.serde_json.proofs.Views.{items_len-items_view}
use Rattle.dom_objects.proofs.node_read.count_of.Goals as goal

pub returns-in-Some : goal.returns-in-Some
returns-in-Some c =
    ap Some (sym (items_len-items_view c.in-Some.children.now)) ∙ ap
    (option_map (λ (xs : Bor (List Value)). items_len (items_view xs.now))) (sym c.in-Some.is)
