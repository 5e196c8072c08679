use Rattle.dom_agent.proofs.PathLemmas.{parts_last, parts_first}
use Rattle.dom_agent.proofs.paths.first_part.Goals as goal

pub returns-in-None-clause-parts : goal.returns-in-None-clause-parts
returns-in-None-clause-parts c = parts_last c.args.text.now c.in-None.ensures

pub returns-in-Some-clause-parts : goal.returns-in-Some-clause-parts
returns-in-Some-clause-parts c = parts_first c.args.text.now c.in-Some.end c.in-Some.ensures
