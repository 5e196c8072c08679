-- What the slot owes, by what the edit is.
use Rattle.std.proofs.Common.{subst}
use Rattle.front_mirror.specs.declared.edits.NodeChange.{NodeChange}
use Rattle.front_mirror.specs.TableEdits.{Suits}
use Rattle.front_mirror.proofs.table.Table.change.Goals as goal

pub insert-requires : goal.insert-requires
insert-requires c = λ slot at. subst (λ (e : NodeChange). Suits e slot) c.in-Insert.is (c.requires.suits slot at)

pub set_attr-requires : goal.set_attr-requires
set_attr-requires c = λ slot at. subst (λ (e : NodeChange). Suits e slot) c.in-SetAttribute.is (c.requires.suits slot at)

pub drop_attr-requires : goal.drop_attr-requires
drop_attr-requires c = λ slot at. subst (λ (e : NodeChange). Suits e slot) c.in-DropAttribute.is (c.requires.suits slot at)
