-- Behind the parent, or behind the sibling and all below it.
use Rattle.std.proofs.Common.{arith}
use Rattle.front_mirror.proofs.RankedIds.{sibling_known, rank_fits}
use Rattle.front_mirror.proofs.mirror.Mirror.place_behind.Goals as goal

pub overflow_add-result : goal.overflow_add-result
overflow_add-result c =
    let fits = rank_fits c.args.parent c.args.self.now c.valid.ensures c.requires.known in
    omega (arith, fits, c.rank.ensures, c.known_count-known.ensures, c.known_count-known.type_inv)

pub rank-requires-2 : goal.rank-requires-2
rank-requires-2 c = record {
  known = sibling_known c.args.parent c.args.previous c.args.self.now c.valid.ensures c.requires.known c.requires.sibling
      c.if-previous-eq0.false;
}

pub size-requires : goal.size-requires
size-requires c = record {
  known = sibling_known c.args.parent c.args.previous c.args.self.now c.valid.ensures c.requires.known c.requires.sibling
      c.if-previous-eq0.false;
}

pub overflow_add-result-2 : goal.overflow_add-result-2
overflow_add-result-2 c =
    let known = sibling_known c.args.parent c.args.previous c.args.self.now c.valid.ensures c.requires.known c.requires.sibling
    c.if-previous-eq0.false in
    let fits = rank_fits c.args.previous c.args.self.now c.valid.ensures known in
    omega (arith, fits, c.rank-2.ensures, c.size.ensures, c.known_count-known.ensures, c.known_count-known.type_inv)
