-- The guest heard the edit before it was noted.
use Rattle.back_end.proofs.ScriptLemmas.{in_any}
use Rattle.back_end.proofs.desk.Desk.apply_by_client.Goals as goal

pub returns-clause-told : goal.returns-clause-told
returns-clause-told c = λ other stands texts. in_any c.note.result _ (c.in_ok-back.ensures.told other stands texts)
