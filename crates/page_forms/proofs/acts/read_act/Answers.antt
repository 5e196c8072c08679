-- An insert that is read has new nodes of the form that an insert asks for.
use Rattle.std.proofs.Common.{◌∙◌, sym}
use Rattle.serde_json.specs.View.{view}
use Rattle.page_forms.proofs.ActLemmas.{insert-insertable}
use Rattle.page_forms.proofs.acts.read_act.Goals as goal

pub returns-in-Some-4-clause-fit : goal.returns-in-Some-4-clause-fit
returns-in-Some-4-clause-fit c = insert-insertable (view c.args.v.now) c.in-Some-4.act
    (sym (c.in_ok-act-4.ensures {u = tt}) ∙ c.in-Some-4.is)
