use Rattle.std.proofs.Common.{subst, ◌∙◌}
use Rattle.std.specs.Str.{IsUtf8}
use Rattle.style_edits.proofs.RuleForms.{counted_before}
use Rattle.style_edits.proofs.SheetOrder.{bodies_in_order}
use Rattle.style_edits.proofs.rule_places.rules_before.Goals as goal

pub rules_among-requires : goal.rules_among-requires
rules_among-requires c =
    bodies_in_order c.args.entry.now c.as_slice.result.now c.requires
    (subst IsUtf8 c.as_str-text.ensures c.as_str-text.utf8) c.as_slice.ensures

pub returns : goal.returns
returns c = c.rules_among.ensures ∙ counted_before c.args.entry.now c.as_slice.result.now c.args.byte c.requires c.as_slice.ensures
