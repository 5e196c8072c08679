use Rattle.css_agent.proofs.AroundLemmas.{each-around}
use Rattle.css_agent.proofs.laws.around_law.Goals as goal

pub returns : goal.returns
returns c = each-around
