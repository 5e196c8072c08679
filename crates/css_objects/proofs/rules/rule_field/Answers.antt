use Rattle.css_objects.specs.Rules.{rule_kind}
use Rattle.css_objects.proofs.Options.{field_read}
use Rattle.css_objects.proofs.rules.rule_field.Goals as goal

pub returns : goal.returns
returns c = field_read rule_kind.reads _ _ _ _ c.rule_of.result c.in-Some.ensures.value c.rule_of.ensures
