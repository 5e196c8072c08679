use Rattle.session_mux.proofs.TagLemmas.{tags-last, tags-off}
use Rattle.session_mux.proofs.laws.tag_law.Goals as goal

pub returns : goal.returns
returns c = record { last = tags-last; off = tags-off }
