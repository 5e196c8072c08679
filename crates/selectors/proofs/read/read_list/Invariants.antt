use Rattle.std.proofs.Common.{◌≡◌, length, map}
use Rattle.selectors.specs.Forms.{selector_seen}
use Rattle.selectors.specs.Reading.{selector_list_of}
use Rattle.selectors.proofs.ListForms.{put_all}
use Rattle.selectors.proofs.read.read_list.Given as goal

abbrev pub invariant-selectors : goal.invariant-selectors
invariant-selectors l = record {
  so_far : put_all (map selector_seen l.list.items) (selector_list_of l.words)
      ≡ selector_list_of l.fn.words;
}

abbrev pub decreases-selectors : goal.decreases-selectors
decreases-selectors l = length l.words.words
