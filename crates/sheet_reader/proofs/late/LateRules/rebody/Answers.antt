use Rattle.std.proofs.Common.{◌≡◌, ◌+◌, ◌≤◌, List, length, map, sym, ap, ◌∙◌, subst, arith}
use Rattle.std.proofs.lemmas.List.{length-map}
use Rattle.sheet_reader.specs.declared.sheet.StyleRule.{StyleRule}
use Rattle.sheet_reader.specs.Filings.{AreDigests}
use Rattle.sheet_reader.specs.Forms.{rule_seen, RuleForm}
use Rattle.sheet_reader.specs.Late.{cut_at, late_rules, AreLate, CanRebody}
use Rattle.sheet_reader.specs.Moves.{moved_rules}
use Rattle.sheet_reader.proofs.FilingForms.{digests-moved}
use Rattle.sheet_reader.proofs.LateForms.{late_length}
use Rattle.sheet_reader.proofs.MoveAround.{lent}
use Rattle.sheet_reader.proofs.late.LateRules.rebody.Goals as goal

pub rebody_late-self-inside-requires-clause-there : goal.rebody_late-self-inside-requires-clause-there
rebody_late-self-inside-requires-clause-there c =
    let rules = c.self.inside.rules.items in
    let same = ap (λ (rs : List StyleRule). length rs) c.deref_mut.ensures.value in
    let seen = ap (λ (rs : List RuleForm). length rs) c.self.view_is in
    omega (
      arith,
      same,
      seen,
      c.requires.there,
      length-map rules rule_seen,
      late_length (cut_at c.self.inside.late) c.self.inside.moved (map rule_seen rules),
    )

pub rebody_late-self-inside-requires-clause-inside : goal.rebody_late-self-inside-requires-clause-inside
rebody_late-self-inside-requires-clause-inside c =
    let same = ap (λ (rs : List StyleRule). length rs) c.deref_mut.ensures.value in
    omega (arith, same, c.self.invariant.0)

pub rebody_late-self-inside-requires-clause-late : goal.rebody_late-self-inside-requires-clause-late
rebody_late-self-inside-requires-clause-late c =
    subst (λ (rs : List StyleRule). AreLate (cut_at c.self.inside.late) c.self.inside.moved (map rule_seen rs))
    (sym c.deref_mut.ensures.value) c.self.invariant.1

pub rebody_late-self-inside-requires-clause-can : goal.rebody_late-self-inside-requires-clause-can
rebody_late-self-inside-requires-clause-can c =
    let late = cut_at c.self.inside.late in
    subst (CanRebody (cut_at c.args.gap) c.args.own)
    (sym (ap (λ (rs : List StyleRule). late_rules late c.self.inside.moved (map rule_seen rs)) c.deref_mut.ensures.value ∙ c.self.view_is))
    c.requires.can

pub invariant_of-self : goal.invariant_of-self
invariant_of-self c =
    let new = c.rebody_late-self-inside.new.rules in
    let kept : length new ≡ length c.deref_mut.result.now = c.rebody_late-self-inside.auto.rules in
    let back = lent c.self.inside.rules.len new c.self.inside.rules.items (kept ∙ c.deref_mut.ensures.len)
    (kept ∙ ap length c.deref_mut.ensures.value) in
    let same = ap (λ (rs : List StyleRule). length rs) c.deref_mut.ensures.value in
    let seen = ap (λ (rs : List RuleForm). length rs) c.self.view_is in
    let inside : c.args.own + 1 ≤ length new = omega (
      arith,
      kept,
      same,
      seen,
      c.requires.there,
      length-map c.self.inside.rules.items rule_seen,
      late_length (cut_at c.self.inside.late) c.self.inside.moved (map rule_seen c.self.inside.rules.items),
    ) in
    let digests = c.self.inside.digests.items in
    let late = cut_at c.rebody_late-self-inside.result in
    let old = late_rules (cut_at c.self.inside.late) c.self.inside.moved (map rule_seen c.self.inside.rules.items) in
    let made : late_rules late (c.args.own + 1) (map rule_seen new) ≡ moved_rules (cut_at c.args.gap) c.args.properties c.args.own old =
    c.rebody_late-self-inside.ensures.rules
    ∙ ap (λ (rs : List StyleRule). moved_rules (cut_at c.args.gap) c.args.properties c.args.own
    (late_rules (cut_at c.self.inside.late) c.self.inside.moved (map rule_seen rs))) c.deref_mut.ensures.value in
    let are : AreDigests digests (late_rules late (c.args.own + 1) (map rule_seen new)) =
    subst (AreDigests digests) (sym made)
    (digests-moved (cut_at c.args.gap) c.args.properties c.args.own digests old c.self.invariant.2) in
    subst (λ (rs : List StyleRule). (c.args.own + 1 ≤ length rs) × AreLate late (c.args.own + 1) (map rule_seen rs)
    × AreDigests digests (late_rules late (c.args.own + 1) (map rule_seen rs))) (sym back)
    (inside, c.rebody_late-self-inside.ensures.late, are)

pub returns : goal.returns
returns c =
    let new = c.rebody_late-self-inside.new.rules in
    let kept : length new ≡ length c.deref_mut.result.now = c.rebody_late-self-inside.auto.rules in
    let back = lent c.self.inside.rules.len new c.self.inside.rules.items (kept ∙ c.deref_mut.ensures.len)
    (kept ∙ ap length c.deref_mut.ensures.value) in
    let late = cut_at c.self.inside.late in
    ap (λ (rs : List StyleRule). late_rules (cut_at c.rebody_late-self-inside.result) (c.args.own + 1) (map rule_seen rs)) back
    ∙ c.rebody_late-self-inside.ensures.rules
    ∙ ap (moved_rules (cut_at c.args.gap) c.args.properties c.args.own)
    (ap (λ (rs : List StyleRule). late_rules late c.self.inside.moved (map rule_seen rs)) c.deref_mut.ensures.value ∙ c.self.view_is)
