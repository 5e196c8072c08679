use Rattle.std.proofs.Common.{subst, sym, ◌∙◌}
use Rattle.front_mirror.specs.declared.panels.Change.{Change}
use Rattle.front_mirror.specs.declared.panels.PanelKind.TheVariants as kind
use Rattle.front_mirror.specs.Panels.{TreeTurns, MayShow}
use Rattle.panels.proofs.WatchLemmas.{keeps_changed, keeps_inserted}
use Rattle.panels.proofs.watch.keeps.Goals as goal

pub returns-in-Inserted : goal.returns-in-Inserted
returns-in-Inserted c = λ before shown t may yes.
    subst (λ (k : Change). MayShow k (kind.Watch c.args.serial) shown before) c.in-Inserted.is may
    ∙ sym (keeps_inserted c.args.serial before c.args.mirror.now t.was t.is c.in-Inserted.parent c.in-Inserted.node
    (subst (λ (k : Change). TreeTurns before k c.args.mirror.now) c.in-Inserted.is t.turns) (c.is_other.ensures yes))

pub returns-in-Changed : goal.returns-in-Changed
returns-in-Changed c = λ before shown t may yes.
    subst (λ (k : Change). MayShow k (kind.Watch c.args.serial) shown before) c.in-Changed.is may
    ∙ sym (keeps_changed c.args.serial before c.args.mirror.now t.was t.is c.in-Changed.node
    (subst (λ (k : Change). TreeTurns before k c.args.mirror.now) c.in-Changed.is t.turns) (c.is_other-in-Changed.ensures yes))
