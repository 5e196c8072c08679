-- The guest hears the edit.
use Rattle.back_end.proofs.desk.Desk.apply_by_script.Goals as goal

pub returns-clause-told : goal.returns-clause-told
returns-clause-told c = λ other stands texts. c.apply.ensures.told other stands texts
