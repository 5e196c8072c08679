use Rattle.std.proofs.Common.{◌≡◌, List, length, map, sym, ap, ◌∙◌, subst, arith}
use Rattle.std.proofs.lemmas.List.{length-map}
use Rattle.sheet_reader.specs.declared.sheet.StyleRule.{StyleRule}
use Rattle.sheet_reader.specs.Filings.{AreDigests}
use Rattle.sheet_reader.specs.Forms.{rule_seen}
use Rattle.sheet_reader.specs.Late.{cut_at, late_rules, AreLate}
use Rattle.sheet_reader.proofs.LateForms.{none_late}
use Rattle.sheet_reader.proofs.MoveAround.{lent}
use Rattle.sheet_reader.proofs.late.LateRules.into_rules.Goals as goal

pub settle-requires-clause-late : goal.settle-requires-clause-late
settle-requires-clause-late c =
    subst (λ (rs : List StyleRule). AreLate (cut_at c.self.inside.late) c.self.inside.moved (map rule_seen rs))
    (sym c.deref_mut.ensures.value) c.self.invariant.1

pub with_digests-requires : goal.with_digests-requires
with_digests-requires c =
    let late = cut_at c.self.inside.late in
    let new = c.settle.new.rules in
    let kept : length new ≡ length c.deref_mut.result.now = c.settle.auto.rules in
    let back = lent c.self.inside.rules.len new c.self.inside.rules.items (kept ∙ c.deref_mut.ensures.len)
    (kept ∙ ap length c.deref_mut.ensures.value) in
    let size : c.len-len.result ≡ length (map rule_seen new) =
    omega (arith, c.len-len.ensures, kept, c.deref_mut.ensures.len, length-map new rule_seen) in
    let seen = ap (map rule_seen) back ∙ sym (none_late late c.len-len.result (map rule_seen new) size) ∙ c.settle.ensures.same
    ∙ ap (λ (rs : List StyleRule). late_rules late c.self.inside.moved (map rule_seen rs)) c.deref_mut.ensures.value in
    subst (AreDigests c.self.inside.digests.items) (sym seen) c.self.invariant.2

pub returns : goal.returns
returns c =
    let late = cut_at c.self.inside.late in
    let new = c.settle.new.rules in
    let kept : length new ≡ length c.deref_mut.result.now = c.settle.auto.rules in
    let back = lent c.self.inside.rules.len new c.self.inside.rules.items (kept ∙ c.deref_mut.ensures.len)
    (kept ∙ ap length c.deref_mut.ensures.value) in
    let size : c.len-len.result ≡ length (map rule_seen new) =
    omega (arith, c.len-len.ensures, kept, c.deref_mut.ensures.len, length-map new rule_seen) in
    c.with_digests.ensures ∙ ap (map rule_seen) back ∙ sym (none_late late c.len-len.result (map rule_seen new) size) ∙ c.settle.ensures.same
    ∙ ap (λ (rs : List StyleRule). late_rules late c.self.inside.moved (map rule_seen rs)) c.deref_mut.ensures.value ∙ c.self.view_is
