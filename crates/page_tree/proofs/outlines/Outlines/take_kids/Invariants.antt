-- What was taken, before what is still at the front, is what was there.
use Rattle.std.proofs.Common.{◌≡◌, ◌&&◌, max, length}
use Rattle.page_tree.specs.FlatRows.{kid_levels, kids_held, past_kids}
use Rattle.page_tree.proofs.outlines.Outlines.take_kids.Given as goal

abbrev pub invariant-loop-kid : goal.invariant-loop-kid
invariant-loop-kid l = record {
  levels : max l.levels (kid_levels l.i l.self) ≡ kid_levels l.i l.initial.self;
  held : (l.are_held && kids_held l.i l.self) ≡ kids_held l.i l.initial.self;
  past : past_kids l.i l.self ≡ past_kids l.i l.initial.self;
}

abbrev pub decreases-loop-kid : goal.decreases-loop-kid
decreases-loop-kid l = length l.self
