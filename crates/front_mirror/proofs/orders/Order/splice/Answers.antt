-- Where nothing comes and nothing leaves, the list stays.
use Rattle.front_mirror.proofs.orders.Order.splice.Goals as goal

pub returns-then-stays : goal.returns-then-stays
returns-then-stays c = c.stays.ensures c.if-stays.true c.args.place c.args.self.now
