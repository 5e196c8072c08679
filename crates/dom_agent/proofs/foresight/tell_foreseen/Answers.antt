use Rattle.std.proofs.Common.{◌++◌, sym, ap, ◌∙◌}
use Rattle.node_tree.specs.Nodes.{none}
use Rattle.shown_pages.specs.ShownPages.{shown_page}
use Rattle.dom_agent.specs.declared.foresight.Foreseen.{Foreseen}
use Rattle.dom_agent.specs.Foresight.{kept_after, frames_after}
use Rattle.dom_agent.proofs.EditCode.{on_ok}
use Rattle.dom_agent.proofs.foresight.tell_foreseen.Goals as goal

pub returns-in-Comes-clause-known : goal.returns-in-Comes-clause-known
returns-in-Comes-clause-known c =
    let b = c.args.binding.now in
    on_ok c.tell_child.result (c.tell_child.ensures.known none)
    (λ known. known
    ∙ ap (λ (f : Foreseen). kept_after f (shown_page b.mode c.args.page.now).tree b) (sym c.in-Comes.is))

pub returns-in-Comes-clause-sent : goal.returns-in-Comes-clause-sent
returns-in-Comes-clause-sent c =
    let b = c.args.binding.now in
    on_ok c.tell_child.result (c.tell_child.ensures.sent none)
    (λ sent. sent
    ∙ ap (λ (f : Foreseen). c.args.out.now.items ++ frames_after f (shown_page b.mode c.args.page.now).tree b) (sym c.in-Comes.is))
