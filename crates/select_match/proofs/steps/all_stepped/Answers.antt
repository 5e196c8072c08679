-- One selector after the other.
use Rattle.std.proofs.Common.{◌+◌, Bool, ◌&&◌, drop, ap, sym, ◌∙◌}
use Rattle.selectors.specs.Forms.{selector_seen}
use Rattle.selectors.specs.Lists.{list_seen}
use Rattle.select_match.specs.Steps.{is_stepped, all_stepped}
use Rattle.select_match.proofs.StepLemmas.{all-at}
use Rattle.select_match.proofs.steps.all_stepped.Goals as goal

pub returns-then-not-has_compound : goal.returns-then-not-has_compound
returns-then-not-has_compound c =
    let step = all-at is_stepped (list_seen c.args.l.now) c.loop-i.i (selector_seen c.at.result.now) c.at.ensures in
    let rest = all_stepped (drop (c.loop-i.i + 1) (list_seen c.args.l.now)) in
    sym (ap (λ (b : Bool). b && rest) (sym c.has_compound.ensures ∙ c.if-not-has_compound.true)) ∙ sym step ∙ c.loop-i.invariant

pub loop-i-preserved : goal.loop-i-preserved
loop-i-preserved c =
    let step = all-at is_stepped (list_seen c.args.l.now) c.loop-i.i (selector_seen c.at.result.now) c.at.ensures in
    let rest = all_stepped (drop (c.loop-i.i + 1) (list_seen c.args.l.now)) in
    sym (ap (λ (b : Bool). b && rest) (sym c.has_compound.ensures ∙ c.if-not-has_compound.false)) ∙ sym step ∙ c.loop-i.invariant
