-- The class names are put one by one in their places.
use Rattle.css_agent.proofs.ClassLaws.{names-ascend, names-are}
use Rattle.css_agent.proofs.laws.class_names_law.Goals as goal

pub returns-clause-ascend : goal.returns-clause-ascend
returns-clause-ascend c = names-ascend

pub returns-clause-exactly : goal.returns-clause-exactly
returns-clause-exactly c = names-are
