-- The lines of one node more, and of all of them.
use Rattle.std.proofs.Common.{◌≡◌, ◌-◌, ◌++◌, ℕ, suc, refl, ap, ◌∙◌, arith}
use Rattle.node_tree.specs.Nodes.{Nodes}
use Rattle.node_tree.specs.Seen.{Seen}
use Rattle.front_mirror.specs.Outline.{lines_at, seen_line}
use Rattle.front_mirror.specs.Tables.{table_trees}
use Rattle.front_mirror.proofs.WalkLemmas.{said_turn, said_end, lines-beside}
use Rattle.front_mirror.proofs.table.Table.+writing.Goals as goal

pub write_all-loop-i-preserved : goal.write_all-loop-i-preserved
write_all-loop-i-preserved t c = record {
  some = c.loop-i.invariant.some;
  written = said_turn (λ (n : Nodes Seen). lines_at seen_line c.args.level n) refl (lines-beside c.args.level) c.args.self.now
      (c.args.levels - 1) c.args.roots.now c.loop-i.i c.at.result c.loop-i.out.items c.write_one.new.out.items _
      c.at.ensures c.in_ok-write_one.ensures c.loop-i.invariant.written;
}

pub write_all-returns : goal.write_all-returns
write_all-returns t c =
    let is : suc (c.args.levels - 1) ≡ c.args.levels = let h = c.loop-i.invariant.some in omega arith in
    said_end (λ (n : Nodes Seen). lines_at seen_line c.args.level n) refl (lines-beside c.args.level) c.args.self.now
    (c.args.levels - 1) c.args.roots.now c.loop-i.i c.loop-i.out.items _ (omega (arith, c.len-i-end.ensures, c.loop-i-test.false))
    c.loop-i.invariant.written
    ∙ ap (λ (l : ℕ). c.args.out.now.items ++ lines_at seen_line c.args.level (table_trees c.args.self.now l c.args.roots.now)) is
