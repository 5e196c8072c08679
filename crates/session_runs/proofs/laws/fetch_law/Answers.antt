use Rattle.session_runs.proofs.RunLaws.{runs-together, settles-refresh, settles-refresh-both}
use Rattle.session_runs.proofs.laws.fetch_law.Goals as goal

pub returns : goal.returns
returns c = λ d. record { together = runs-together; refreshes = settles-refresh; refreshes_both = settles-refresh-both }
