use Rattle.std.proofs.Common.{ap, ◌∙◌}
use Rattle.serde_json.specs.Find.{as_str, get_member}
use Rattle.serde_json.specs.View.{members_view}
use Rattle.cdp_json.specs.Fields.{field_if}
use Rattle.cdp_json.specs.Kinds.{named}
use Rattle.cdp_messages.specs.Whitespace.{whitespace_name, all_whitespace}
use Rattle.cdp_messages.proofs.FieldsRead.{field_through}
use Rattle.cdp_messages.proofs.parameters.whitespace_field.Goals as goal

pub returns-in-Some : goal.returns-in-Some
returns-in-Some c =
    ap field_if c.in-Some.ensures
    ∙ field_through as_str (named whitespace_name all_whitespace)
    (get_member c.args.name.now (members_view c.args.params.now.entries)) c.in-Is.word.now c.in-Is.ensures

pub returns-in-None : goal.returns-in-None
returns-in-None c =
    ap field_if c.in-None.ensures
    ∙ field_through as_str (named whitespace_name all_whitespace)
    (get_member c.args.name.now (members_view c.args.params.now.entries)) c.in-Is.word.now c.in-Is.ensures
