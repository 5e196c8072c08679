use Rattle.back_end.proofs.PairLemmas.{new-pairs-stand, pairs-have-room-left}
use Rattle.back_end.proofs.PairSteps.{start-is-pair, steps-keep-pairs, each-goes-alone, sessions-begin-anew, sessions-are-told-alone}
use Rattle.back_end.proofs.PairSteps.{equal-sessions-are-told-alike, roots-are-told-alone, equal-roots-are-told-alike}
use Rattle.back_end.proofs.laws.two_clients_law.Goals as goal

pub returns-clause-start : goal.returns-clause-start
returns-clause-start c = start-is-pair

pub returns-clause-stands : goal.returns-clause-stands
returns-clause-stands c = new-pairs-stand

pub returns-clause-room : goal.returns-clause-room
returns-clause-room c = pairs-have-room-left

pub returns-clause-steps : goal.returns-clause-steps
returns-clause-steps c = steps-keep-pairs

pub returns-clause-alone : goal.returns-clause-alone
returns-clause-alone c = each-goes-alone

pub returns-clause-anew : goal.returns-clause-anew
returns-clause-anew c = sessions-begin-anew

pub returns-clause-told : goal.returns-clause-told
returns-clause-told c = sessions-are-told-alone

pub returns-clause-alike : goal.returns-clause-alike
returns-clause-alike c = equal-sessions-are-told-alike

pub returns-clause-roots_told : goal.returns-clause-roots_told
returns-clause-roots_told c = roots-are-told-alone

pub returns-clause-roots_alike : goal.returns-clause-roots_alike
returns-clause-roots_alike c = equal-roots-are-told-alike
