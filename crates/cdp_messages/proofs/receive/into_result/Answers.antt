use Rattle.std.proofs.Common.{option_map, ap, sym, ◌∙◌}
use Rattle.std.specs.Prelude.{codes}
use Rattle.serde_json.specs.Find.{get}
use Rattle.serde_json.specs.View.{view}
use Rattle.serde_json.proofs.Views.{view-Object, view-lookup}
use Rattle.cdp_messages.proofs.receive.into_result.Goals as goal

pub returns-in-Object : goal.returns-in-Object
returns-in-Object c =
    ap (option_map view) c.remove.ensures.value ∙ view-lookup (codes "result") c.in-Object.members.entries
    ∙ sym (ap (get (codes "result")) (ap view c.in-Object.is ∙ view-Object c.in-Object.members))
