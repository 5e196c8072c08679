use Rattle.dom_search.proofs.FoundLemmas.{finds-exactly}
use Rattle.dom_search.proofs.laws.found_law.Goals as goal

pub returns : goal.returns
returns c = λ page query valid. finds-exactly page valid query
