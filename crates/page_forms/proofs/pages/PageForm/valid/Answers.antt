-- The nodes and the sheets of a page have such texts.
use Rattle.std.proofs.Common.{subst}
use Rattle.node_tree.specs.Nodes.{nodes_of}
use Rattle.page_forms.specs.Texts.{HaveTexts, SheetsHaveTexts}
use Rattle.page_forms.proofs.pages.PageForm.valid.Goals as goal

pub returns : goal.returns
returns c = record {
  nodes = subst (λ nodes. HaveTexts (nodes_of nodes)) c.deref.ensures.value c.forms_valid.ensures;
  sheets = subst SheetsHaveTexts c.deref-2.ensures.value c.sheets_valid.ensures;
}
