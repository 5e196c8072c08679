-- What the runs so far left, and what is left of the edits.
use Rattle.std.proofs.Common.{◌≡◌, ◌++◌, ◌-◌, ◌≤◌, All, drop, length}
use Rattle.style_edits.specs.Drafts.{IsOld, olds_restored, with_backs}
use Rattle.style_edits.specs.Edits.{styles_edited}
use Rattle.style_edits.specs.EditedRules.{edited_rules}
use Rattle.style_edits.proofs.style_runs.set_each.Given as goal

abbrev pub invariant-loop-at : goal.invariant-loop-at
invariant-loop-at l = record {
  inside : l.at ≤ length l.edits;
  olds : All (IsOld l.book) l.olds.items;
  same : olds_restored l.olds.items l.book ≡ olds_restored l.fn.olds.items l.fn.book;
  so_far : with_backs l.backs.items (styles_edited (drop l.at l.edits) l.book)
      ≡ with_backs l.fn.backs.items (styles_edited l.edits l.fn.book);
  rules : l.rules.items ++ edited_rules (drop l.at l.edits) l.book ≡ l.fn.rules.items ++ edited_rules l.edits l.fn.book;
}

abbrev pub decreases-loop-at : goal.decreases-loop-at
decreases-loop-at l = length l.edits - l.at
