use Rattle.std.proofs.Common.{◌≡◌, ap, ◌∙◌}
use Rattle.serde_json.specs.View.{view, members_view}
use Rattle.serde_json.proofs.Views.{members_view-insert_entry}
use Rattle.cdp_json.proofs.write.put_named.Goals as goal

pub returns-clause-put : goal.returns-clause-put
returns-clause-put c = ap members_view c.in_ok-insert.ensures.entries
    ∙ members_view-insert_entry c.args.object.now.entries c.args.name c.args.value
