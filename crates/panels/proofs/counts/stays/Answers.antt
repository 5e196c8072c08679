-- A node that changed is counted as it was before.
use Rattle.std.proofs.Common.{subst, sym, ◌∙◌}
use Rattle.front_mirror.specs.declared.panels.Change.{Change}
use Rattle.front_mirror.specs.declared.panels.PanelKind.TheVariants as kind
use Rattle.front_mirror.specs.Panels.{TreeTurns, MayShow}
use Rattle.panels.proofs.CountLemmas.{changed_text}
use Rattle.panels.proofs.counts.stays.Goals as goal

pub returns-in-Changed : goal.returns-in-Changed
returns-in-Changed c = λ before after shown t may yes.
    subst (λ (k : Change). MayShow k kind.Counts shown before) c.in-Changed.is may
    ∙ sym (changed_text c.in-Changed.node before after (subst (λ (k : Change). TreeTurns before k after) c.in-Changed.is t.turns))
