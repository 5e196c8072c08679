use Rattle.std.proofs.Common.{◌≡◌, ◌++◌, ap, subst, ◌∙◌}
use Rattle.shown_pages.specs.declared.modes.Mode.{Mode}
use Rattle.shown_pages.specs.ShownPages.{shown_page}
use Rattle.shown_pages.proofs.ShownTrees.{shown-valid}
use Rattle.node_binding.specs.Openings.{is_spent}
use Rattle.node_binding.specs.Deals.{more_told}
use Rattle.node_binding.proofs.DealLemmas.{spent-capped}
use Rattle.dom_agent.specs.Requests.{frames_told}
use Rattle.dom_agent.specs.InCode.{further_pieces}
use Rattle.dom_agent.proofs.DocumentLemmas.{started_room, document_known, document_sent}
use Rattle.dom_agent.proofs.serving.open_document.Goals as goal

pub begin-requires-clause-left : goal.begin-requires-clause-left
begin-requires-clause-left c = ap is_spent c.capped.ensures ∙ spent-capped more_told c.args.levels ∙ c.requires.left

pub open_pieces-requires : goal.open_pieces-requires
open_pieces-requires c =
    let mode = c.args.binding.now.mode in
    started_room (shown_page mode c.args.page.now) (shown-valid mode c.args.page.now c.valid.ensures) c.capped.result c.args.binding.now _
    c.in_ok-begin.ensures c.requires.room

pub returns-clause-known : goal.returns-clause-known
returns-clause-known c =
    document_known (shown_page c.args.binding.now.mode c.args.page.now).tree c.args.levels c.capped.result c.args.binding.now _
    c.in_ok-begin.ensures c.capped.ensures _
    (subst (λ (m : Mode). c.open_pieces.new.binding
    ≡ (further_pieces (shown_page m c.args.page.now).tree c.args.levels c.begin.new.self).state) c.mode-mode.ensures
    c.in_ok-open_pieces.ensures.known)

pub returns-clause-sent : goal.returns-clause-sent
returns-clause-sent c =
    document_sent (shown_page c.args.binding.now.mode c.args.page.now).tree c.args.levels c.capped.result c.args.binding.now _
    c.in_ok-begin.ensures c.capped.ensures c.document-root.result c.args.id c.args.out.now.items _ _
    (c.document-root.ensures ∙ ap (λ (m : Mode). (shown_page m c.args.page.now).tree) c.mode-mode.ensures) c.in_ok-tell_root.ensures
    (subst (λ (m : Mode). c.open_pieces.new.out.items ≡ c.tell_root.new.out.items
    ++ frames_told (further_pieces (shown_page m c.args.page.now).tree c.args.levels c.begin.new.self).shown) c.mode-mode.ensures
    c.in_ok-open_pieces.ensures.sent)
