-- The sheet at a place.
use Rattle.std.proofs.Common.{ap, ◌∙◌}
use Rattle.page_tree.specs.Zippers.{Zipper}
use Rattle.sheet_reader.specs.Sheets.{sheet_of}
use Rattle.cascade_match.specs.Matched.{source_of, entries_of_rules, all_entered}
use Rattle.cascade_match.proofs.MatchLemmas.{sheets-step}
use Rattle.cascade_match.proofs.matching.matched_on.Goals as goal

pub loop-i-preserved : goal.loop-i-preserved
loop-i-preserved c =
    let s = c.at.result.now in
    let same = c.loop-i.invariant.same in
    let m = c.args.medium.now in
    let made = (c.in_ok-add_sheet.ensures {u = tt}).entries ∙ ap
    (λ (z : Zipper). all_entered c.loop-i.found.entries (entries_of_rules (source_of m c.loop-i.i s) 0 (sheet_of s.text).rules z)) same in
    record {
      rest = sheets-step m c.args.book.now c.args.subject.now c.loop-i.i s c.loop-i.found.entries c.add_sheet.new.found.entries
          c.at.ensures.at made ∙ c.loop-i.invariant.rest;
      same = c.add_sheet.ensures.same ∙ same;
    }
