-- The way up from the parent is shorter.
use Rattle.std.proofs.Common.{◌<◌, sym, subst, arith}
use Rattle.std.specs.FinMap as map
use Rattle.node_tree.specs.Seen.{seen_id}
use Rattle.front_mirror.specs.Sizes.{shifted}
use Rattle.front_mirror.specs.Tables.{tree_in}
use Rattle.front_mirror.specs.Walks.{rank_of}
use Rattle.front_mirror.proofs.RankLemmas.{parent-known, parent-smaller}
use Rattle.front_mirror.proofs.PathLemmas.{becomes_root, becomes_up}
use Rattle.front_mirror.proofs.FewLemmas.{room_before}
use Rattle.front_mirror.proofs.sizes.+shift_up.Goals as goal

pub shift_one-requires : goal.shift_one-requires
shift_one-requires t c = record { few = c.requires.few c.args.id c.requires.known (omega arith) }

pub returns-then-parent-eq0 : goal.returns-then-parent-eq0
returns-then-parent-eq0 t c = λ b depth m e named.
    becomes_root (tree_in c.args.table.now c.args.roots.now) c.requires.kept.mirror c.args.id c.parent_in-parent.result
    (shifted c.args.more c.args.fewer) c.parent_in-parent.ensures (map.get c.args.counts.now) (map.get c.shift_one.new.counts)
    (map.get c.shift_one.new.counts) c.in_ok-shift_one.ensures b depth m e named c.if-parent-eq0.true

pub shift_up-requires : goal.shift_up-requires
shift_up-requires t c = (
  subst (λ m. rank_of seen_id c.parent_in-parent.result (tree_in c.args.table.now c.args.roots.now) < m) c.decreases
      (parent-smaller c.args.id c.parent_in-parent.result (tree_in c.args.table.now c.args.roots.now) c.requires.kept.mirror
      c.requires.known
      (sym c.parent_in-parent.ensures) c.if-parent-eq0.false),
  (
    c.requires.kept,
    (
      parent-known c.args.id c.parent_in-parent.result (tree_in c.args.table.now c.args.roots.now) c.requires.kept.mirror c.requires.known
          (sym c.parent_in-parent.ensures) c.if-parent-eq0.false,
      room_before (tree_in c.args.table.now c.args.roots.now) c.args.id c.parent_in-parent.result c.args.more
          (shifted c.args.more c.args.fewer) (map.get c.args.counts.now) (map.get c.shift_one.new.counts)
          (parent-smaller c.args.id c.parent_in-parent.result (tree_in c.args.table.now c.args.roots.now) c.requires.kept.mirror
          c.requires.known
          (sym c.parent_in-parent.ensures) c.if-parent-eq0.false) c.in_ok-shift_one.ensures c.requires.few,
    ),
  ),
)

pub returns-in-Ok : goal.returns-in-Ok
returns-in-Ok t c = λ b depth m e named.
    becomes_up (tree_in c.args.table.now c.args.roots.now) c.requires.kept.mirror c.args.id c.parent_in-parent.result
    (shifted c.args.more c.args.fewer) c.parent_in-parent.ensures (map.get c.args.counts.now) (map.get c.shift_one.new.counts)
    (map.get c.shift_up.new.counts) c.in_ok-shift_one.ensures b depth m e named c.if-parent-eq0.false c.in-Ok.ensures
