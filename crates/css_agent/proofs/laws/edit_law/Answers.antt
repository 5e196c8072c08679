use Rattle.css_agent.proofs.EditResults.{edits-done}
use Rattle.css_agent.proofs.laws.edit_law.Goals as goal

pub returns : goal.returns
returns c = record { done = edits-done }
