-- The slot of a known node names its parent.
use Rattle.std.proofs.Common.{◌≡◌, ℕ, Option, Some, refl, ap, subst, unwrap_or, ◌∙◌, Bor}
use Rattle.std.specs.Prelude.{IfSome}
use Rattle.std.specs.Option.{option_copied}
use Rattle.node_tree.specs.Keys.{parent_of}
use Rattle.node_tree.specs.Seen.{seen_id}
use Rattle.front_mirror.specs.declared.slots.Slot.{Slot}
use Rattle.front_mirror.specs.Tables.{tree_in}
use Rattle.front_mirror.proofs.ReadLemmas.{slot_known, slot_parent}
use Rattle.front_mirror.proofs.sizes.parent_in.Goals as goal

pub unreachable-requires : goal.unreachable-requires
unreachable-requires c = slot_known c.args.table.now c.args.roots.now (tree_in c.args.table.now c.args.roots.now) c.requires.kept refl
    c.args.id
    (option_copied c.get.result) c.requires.known c.get.ensures (ap (λ o. option_copied o) c.in_default.is)

pub returns : goal.returns
returns c =
    ap (λ (x : ℕ). Some x) c.unwrap_or.ensures
    ∙ subst (λ (o : Option (Bor Slot)). IfSome o (λ slot. Some (unwrap_or slot.now.parent 0)
    ≡ parent_of seen_id c.args.id 0 (tree_in c.args.table.now c.args.roots.now))) c.in-Some.is
    (slot_parent c.args.table.now c.args.roots.now (tree_in c.args.table.now c.args.roots.now) c.requires.kept refl c.args.id c.get.result
    c.get.ensures)
