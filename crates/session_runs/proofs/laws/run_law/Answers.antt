use Rattle.session_runs.proofs.RunLaws.{starts-fit, runs-fit, settles-show}
use Rattle.session_runs.proofs.laws.run_law.Goals as goal

pub returns : goal.returns
returns c = λ d. record { starts = starts-fit; passages = runs-fit; settles = settles-show }
