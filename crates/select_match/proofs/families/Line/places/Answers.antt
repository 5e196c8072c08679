-- One more than what is counted on each side.
use Rattle.select_match.proofs.FamilyLemmas.{line-places}
use Rattle.select_match.proofs.families.Line.places.Goals as goal

pub returns : goal.returns
returns c = line-places c.args.child.now c.args.self c.requires c.are_few.ensures.earlier c.are_few.ensures.later c.is_element.result
    c.is_element.ensures c.of_child.result c.one_more.result c.one_more-2.result c.minus_if-behind.result c.of_child.ensures
    c.one_more.ensures c.minus_if-behind.ensures c.one_more-2.ensures
