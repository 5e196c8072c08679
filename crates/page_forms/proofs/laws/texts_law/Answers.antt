use Rattle.page_forms.proofs.ActLemmas.{acts_have_texts}
use Rattle.page_forms.proofs.PageLemmas.{pages_have_texts}
use Rattle.page_forms.proofs.laws.texts_law.Goals as goal

pub returns-clause-pages : goal.returns-clause-pages
returns-clause-pages c = pages_have_texts

pub returns-clause-acts : goal.returns-clause-acts
returns-clause-acts c = acts_have_texts
