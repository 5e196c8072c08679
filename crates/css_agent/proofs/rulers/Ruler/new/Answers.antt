use Rattle.std.proofs.Common.{arith}
use Rattle.sheet_reader.proofs.PositionLemmas.{start}
use Rattle.css_agent.proofs.rulers.Ruler.new.Goals as goal

pub invariant_of-result : goal.invariant_of-result
invariant_of-result c = (omega arith, start c.args.text.now)
