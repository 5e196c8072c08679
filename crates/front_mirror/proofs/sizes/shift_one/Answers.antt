-- The number under the id.
use Rattle.front_mirror.specs.Sizes.{shifted}
use Rattle.front_mirror.proofs.PathLemmas.{one_becomes}
use Rattle.front_mirror.proofs.sizes.shift_one.Goals as goal

pub returns : goal.returns
returns c =
    one_becomes (shifted c.args.more c.args.fewer) c.args.id c.in-Some.count c.saturating_sub.result c.args.counts.now c.insert.new.self
    c.in-Some.ensures c.saturating_sub.ensures c.in_ok-insert.ensures.put
