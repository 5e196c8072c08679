use Rattle.std.proofs.Common.{arith}
use Rattle.sheet_reader.proofs.MarkMoves.{moved_fits}
use Rattle.sheet_reader.proofs.marks.moved_mark.Goals as goal

pub moved_position-requires-clause-lines_fit : goal.moved_position-requires-clause-lines_fit
moved_position-requires-clause-lines_fit c =
    let fits = (moved_fits c.args.text.now c.args.from c.args.to c.args.mark c.requires.can).0 in
    omega (arith, fits)

pub moved_position-requires-clause-columns_fit : goal.moved_position-requires-clause-columns_fit
moved_position-requires-clause-columns_fit c =
    λ same. let fits = (moved_fits c.args.text.now c.args.from c.args.to c.args.mark c.requires.can).1 same in omega (arith, fits)
