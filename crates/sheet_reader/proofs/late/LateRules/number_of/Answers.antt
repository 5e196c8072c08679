use Rattle.std.proofs.Common.{List, All, map, ap, subst, ◌∙◌}
use Rattle.std.specs.Prelude.{slice_get, IfSome, IfNone, IsSomeAnd}
use Rattle.sheet_reader.specs.declared.sheet.StyleRule.{StyleRule}
use Rattle.sheet_reader.specs.Forms.{RuleForm, rule_seen}
use Rattle.sheet_reader.specs.Late.{cut_at, late_rules, HasOther}
use Rattle.sheet_reader.specs.Rereads.{HasBody}
use Rattle.sheet_reader.proofs.late.LateRules.number_of.Goals as goal

pub returns-clause-some : goal.returns-clause-some
returns-clause-some c =
    let late = cut_at c.self.inside.late in
    subst (λ (rs : List RuleForm). IfSome c.number_among.result (λ k. IsSomeAnd (slice_get rs k) (HasBody c.args.body)))
    (ap (λ (rs : List StyleRule). late_rules late c.self.inside.moved (map rule_seen rs)) c.as_slice.ensures.value ∙ c.self.view_is)
    c.number_among.ensures.some

pub returns-clause-none : goal.returns-clause-none
returns-clause-none c =
    let late = cut_at c.self.inside.late in
    subst (λ (rs : List RuleForm). IfNone c.number_among.result (All (HasOther c.args.body) rs))
    (ap (λ (rs : List StyleRule). late_rules late c.self.inside.moved (map rule_seen rs)) c.as_slice.ensures.value ∙ c.self.view_is)
    c.number_among.ensures.none
