use Rattle.std.proofs.Common.{◌≡◌, List, ◌++◌, map, ap, ◌∙◌}
use Rattle.node_tree.specs.Levels.{most_told}
use Rattle.node_tree.specs.Nodes.{alone}
use Rattle.shown_pages.specs.ShownPages.{shown_page}
use Rattle.shown_pages.proofs.ShownTrees.{shown-valid}
use Rattle.node_binding.specs.Deals.{dealt, more_told}
use Rattle.dom_agent.specs.Keepers.{binding_keeper}
use Rattle.dom_agent.specs.Openings.{opening_of}
use Rattle.dom_agent.specs.Requests.{Opening, all_opened, frames_told}
use Rattle.dom_agent.proofs.DocumentLemmas.{pieces_containers, pieces_room}
use Rattle.dom_agent.proofs.serving.open_pieces.Goals as goal

pub open_all-requires-clause-containers : goal.open_all-requires-clause-containers
open_all-requires-clause-containers c =
    pieces_containers (shown_page c.args.mode c.args.page.now) (shown-valid c.args.mode c.args.page.now c.valid.ensures) c.args.levels
    (map opening_of c.deref.result.now)
    (ap (map opening_of) c.deref.ensures.value ∙ c.in_ok-deal_node.ensures
    ∙ ap (λ l. map opening_of l ++ dealt more_told most_told c.args.levels (alone c.document-document.result)) c.new-openings.ensures.items
    ∙ ap (λ x. dealt more_told most_told c.args.levels (alone x)) c.document-document.ensures)

pub open_all-requires-clause-room : goal.open_all-requires-clause-room
open_all-requires-clause-room c =
    pieces_room (shown_page c.args.mode c.args.page.now) (shown-valid c.args.mode c.args.page.now c.valid.ensures) c.args.levels
    (map opening_of c.deref.result.now)
    (ap (map opening_of) c.deref.ensures.value ∙ c.in_ok-deal_node.ensures
    ∙ ap (λ l. map opening_of l ++ dealt more_told most_told c.args.levels (alone c.document-document.result)) c.new-openings.ensures.items
    ∙ ap (λ x. dealt more_told most_told c.args.levels (alone x)) c.document-document.ensures)
    c.args.binding.now.next c.requires

pub returns-clause-known : goal.returns-clause-known
returns-clause-known c =
    let tree = (shown_page c.args.mode c.args.page.now).tree in
    let listed : map opening_of c.deref.result.now
    ≡ dealt more_told most_told c.args.levels (alone (shown_page c.args.mode c.args.page.now).tree) =
    ap (map opening_of) c.deref.ensures.value ∙ c.in_ok-deal_node.ensures
    ∙ ap (λ l. map opening_of l ++ dealt more_told most_told c.args.levels (alone c.document-document.result)) c.new-openings.ensures.items
    ∙ ap (λ x. dealt more_told most_told c.args.levels (alone x)) c.document-document.ensures in
    c.in_ok-open_all.ensures.known (alone tree) tree
    ∙ ap (λ (os : List Opening). (all_opened (binding_keeper (alone tree)) tree os c.args.binding.now).state) listed

pub returns-clause-sent : goal.returns-clause-sent
returns-clause-sent c =
    let tree = (shown_page c.args.mode c.args.page.now).tree in
    let listed : map opening_of c.deref.result.now
    ≡ dealt more_told most_told c.args.levels (alone (shown_page c.args.mode c.args.page.now).tree) =
    ap (map opening_of) c.deref.ensures.value ∙ c.in_ok-deal_node.ensures
    ∙ ap (λ l. map opening_of l ++ dealt more_told most_told c.args.levels (alone c.document-document.result)) c.new-openings.ensures.items
    ∙ ap (λ x. dealt more_told most_told c.args.levels (alone x)) c.document-document.ensures in
    c.in_ok-open_all.ensures.sent (alone tree) tree
    ∙ ap (λ (os : List Opening). c.args.out.now.items
    ++ frames_told (all_opened (binding_keeper (alone tree)) tree os c.args.binding.now).shown) listed
