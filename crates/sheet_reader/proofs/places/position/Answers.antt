use Rattle.sheet_reader.proofs.PositionLemmas.{start}
use Rattle.sheet_reader.proofs.places.position.Goals as goal

pub position_from-requires-clause-start : goal.position_from-requires-clause-start
position_from-requires-clause-start c = start c.args.text.now
