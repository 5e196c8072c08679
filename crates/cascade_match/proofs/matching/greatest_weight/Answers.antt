-- The selector at a place.
use Rattle.std.proofs.Common.{ap, ◌∙◌}
use Rattle.page_tree.specs.Zippers.{Zipper}
use Rattle.selectors.specs.Forms.{selector_seen}
use Rattle.selectors.specs.Lists.{list_seen}
use Rattle.select_match.specs.Matches.{selector_matches}
use Rattle.cascade_match.proofs.MatchLemmas.{weight-step}
use Rattle.cascade_match.proofs.matching.greatest_weight.Goals as goal

pub loop-i-preserved : goal.loop-i-preserved
loop-i-preserved c =
    let s = selector_seen c.at-s.result.now in
    let same = c.loop-i.invariant.same in
    let test = c.matches_subject.ensures.value ∙ ap (λ (z : Zipper). selector_matches s z) same in
    record {
      rest =
          weight-step (list_seen c.args.l.now) c.args.subject.now c.loop-i.i s c.at-s.ensures c.loop-i.best c.greater_if-best.result
          c.specificity.result c.matches_subject.result c.greater_if-best.ensures test c.specificity.ensures
          ∙ c.loop-i.invariant.rest;
      same = c.matches_subject.ensures.same ∙ same;
    }
