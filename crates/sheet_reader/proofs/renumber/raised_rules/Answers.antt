use Rattle.std.proofs.Common.{◌++◌, List, sym, ap, ◌∙◌}
use Rattle.sheet_reader.specs.declared.sheet.StyleRule.{StyleRule}
use Rattle.sheet_reader.specs.Around.{IsBelow}
use Rattle.sheet_reader.specs.Forms.{RuleForm}
use Rattle.sheet_reader.specs.Repairs.{IsRuleWithin}
use Rattle.sheet_reader.proofs.RepairMoves.{among}
use Rattle.sheet_reader.proofs.renumber.raised_rules.Goals as goal

pub raised_rule-requires-clause-within : goal.raised_rule-requires-clause-within
raised_rule-requires-clause-within c =
    among (IsRuleWithin c.args.size) c.loop-rule.yielded c.in-Some.rule _ c.args.rules.items
    (sym (ap (λ (rs : List StyleRule). c.loop-rule.yielded ++ rs) c.in-Some.ensures.steps.0) ∙ c.loop-rule.invariant.0
    ∙ c.into_iter-rule-iterator.ensures.into_iter_gives.0) c.requires.within

pub raised_rule-requires-clause-below : goal.raised_rule-requires-clause-below
raised_rule-requires-clause-below c =
    among (λ (r : RuleForm). IsBelow c.args.numbers.count r.media) c.loop-rule.yielded c.in-Some.rule _ c.args.rules.items
    (sym (ap (λ (rs : List StyleRule). c.loop-rule.yielded ++ rs) c.in-Some.ensures.steps.0) ∙ c.loop-rule.invariant.0
    ∙ c.into_iter-rule-iterator.ensures.into_iter_gives.0) c.requires.below
