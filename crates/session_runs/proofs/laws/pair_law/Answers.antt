use Rattle.session_runs.specs.PairLaws.{ClientHasRoom, IsNumberBy, MaySendBy, MayTurnBy, IsOutwardBy, ShowsBy}
use Rattle.session_runs.proofs.PairRuns.{pair-first, pair-passages-fit, settled-shown}
use Rattle.session_runs.proofs.laws.pair_law.Goals as goal

pub returns : goal.returns
returns c = λ d. record {
  starts = λ r b t laws one_turn nothing told side shows.
      pair-first r b laws.0 (ClientHasRoom t) (IsNumberBy t) (MaySendBy t) (MayTurnBy t) (IsOutwardBy t) (ShowsBy t) laws.1 one_turn nothing
      told side shows;
  passages = λ r b t laws one_turn w fits ps may n.
      pair-passages-fit r b laws.0 (ClientHasRoom t) (IsNumberBy t) (MaySendBy t) (MayTurnBy t) (IsOutwardBy t)
      (ShowsBy t) laws.1 one_turn n
      ps w may fits;
  settles = λ r b t laws one_turn w fits room.
      settled-shown r b laws.0 (ClientHasRoom t) (IsNumberBy t) (MaySendBy t) (MayTurnBy t) (IsOutwardBy t) (ShowsBy t) laws.1 one_turn w
      room fits;
}
