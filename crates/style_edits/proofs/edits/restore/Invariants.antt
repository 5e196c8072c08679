use Rattle.std.proofs.Common.{◌≡◌, All, vec_len}
use Rattle.style_edits.specs.Drafts.{IsOld, olds_restored}
use Rattle.style_edits.proofs.edits.restore.Given as goal

abbrev pub invariant-loop-old : goal.invariant-loop-old
invariant-loop-old l = record {
  all : All (IsOld l.book) l.olds.items;
  same : olds_restored l.olds.items l.book ≡ olds_restored l.fn.olds.items l.fn.book;
}

abbrev pub decreases-loop-old : goal.decreases-loop-old
decreases-loop-old l = vec_len l.olds
