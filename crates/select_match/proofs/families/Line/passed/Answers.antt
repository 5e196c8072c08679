-- The child goes from those behind to those before.
use Rattle.select_match.proofs.FamilyLemmas.{line-passed}
use Rattle.select_match.proofs.families.Line.passed.Goals as goal

pub returns : goal.returns
returns c = line-passed c.args.child.now c.args.self c.requires c.are_few.ensures.earlier c.are_few.ensures.later
    c.is_element-element.result c.is_element-element.ensures c.plus_if.result c.minus_if.result c.plus_if.ensures c.minus_if.ensures
