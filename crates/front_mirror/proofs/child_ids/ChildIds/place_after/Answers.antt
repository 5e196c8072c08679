-- The id is one of them.
use Rattle.std.proofs.Common.{arith}
use Rattle.front_mirror.proofs.IdLemmas.{place_known, place_then}
use Rattle.front_mirror.proofs.child_ids.ChildIds.place_after.Goals as goal

pub unreachable-requires : goal.unreachable-requires
unreachable-requires c = place_known c.args.previous c.args.self.now c.place-i.result c.len-len.result c.if-previous-eq0.false c.requires
    c.place-i.ensures c.len-len.ensures (omega (arith, c.if-i-len.true))

pub returns-clause-behind : goal.returns-clause-behind
returns-clause-behind c = λ id. place_then c.args.previous id c.args.self.now c.place-i.result c.if-previous-eq0.false c.requires
    c.place-i.ensures
