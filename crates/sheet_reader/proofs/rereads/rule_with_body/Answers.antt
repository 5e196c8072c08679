use Rattle.std.proofs.Common.{Some, ap, sym, ◌∙◌, arith}
use Rattle.std.proofs.lemmas.Option.{slice_get-get_or}
use Rattle.sheet_reader.proofs.RereadForms.{body_found}
use Rattle.sheet_reader.proofs.rereads.rule_with_body.Goals as goal

pub returns-then-rule-body-2 : goal.returns-then-rule-body-2
returns-then-rule-body-2 c =
    let rules = c.args.rules.now in
    let rule = c.in_ok-rule.rule.now in
    let found = c.in_ok-rule.ensures.lookup in
    body_found rules c.partition_point-i.result rule c.args.body
    (slice_get-get_or rules c.partition_point-i.result rule found.3.0 ∙ ap Some (sym found.1)) (omega arith) (omega arith)
