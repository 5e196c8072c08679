-- Where the forms that are left have such texts, all have.
use Rattle.std.proofs.Common.{drop}
use Rattle.node_tree.specs.Nodes.{nodes_of}
use Rattle.page_forms.specs.Texts.{HaveTexts}
use Rattle.page_forms.proofs.valid_texts.+forms_valid.Given as goal

abbrev pub decreases-forms_valid : goal.decreases-forms_valid
decreases-forms_valid l = goal.size-forms_valid l

abbrev pub invariant-loop-form : goal.invariant-loop-form
invariant-loop-form l = HaveTexts (nodes_of (drop l.form-index l.forms)) → HaveTexts (nodes_of l.forms)
