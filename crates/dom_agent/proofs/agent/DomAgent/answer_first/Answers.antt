-- What is shown stands in the page.
use Rattle.std.proofs.Common.{Option, IsSome, refl, sym, subst}
use Rattle.node_tree.specs.Nodes.{Branch}
use Rattle.page_tree.specs.Pages.{PageRow}
use Rattle.shown_pages.proofs.FoundLemmas.{found-both}
use Rattle.dom_agent.proofs.agent.DomAgent.answer_first.Goals as goal

pub first_match-requires : goal.first_match-requires
first_match-requires c =
    let f = found-both c.args.self.now.mode c.args.page.now c.args.query.now.root c.valid.ensures c.requires.shown in
    subst (λ (o : Option (Branch PageRow)). IsSome o) (sym f.in_page) refl
