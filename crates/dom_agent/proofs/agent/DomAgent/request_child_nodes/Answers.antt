use Rattle.std.proofs.Common.{ℕ, ◌<◌, ◌^◌, Option, sym, ap, subst, ◌∙◌, ◌++◌, map}
use Rattle.std.specs.FinMap as map_of
use Rattle.node_tree.specs.Nodes.{alone}
use Rattle.page_tree.specs.Pages.{PageValue}
use Rattle.shown_pages.specs.ShownPages.{shown_page}
use Rattle.shown_pages.proofs.ShownTrees.{shown-valid}
use Rattle.node_binding.specs.Bindings.{BindingValue, opened_in}
use Rattle.dom_agent.specs.Keepers.{binding_keeper}
use Rattle.dom_agent.specs.Openings.{opening_of}
use Rattle.dom_agent.specs.Requests.{requested, known_node, of_children, state_after, answer}
use Rattle.dom_agent.proofs.RequestLemmas.{request_containers, request_room, request_known, request_sent}
use Rattle.dom_agent.proofs.agent.DomAgent.request_child_nodes.Goals as goal

pub open_all-requires-clause-containers : goal.open_all-requires-clause-containers
open_all-requires-clause-containers c =
    let page : PageValue = shown_page c.args.self.now.mode c.args.page.now in
    request_containers page (shown-valid c.args.self.now.mode c.args.page.now c.valid.ensures) c.self.inside.binding c.args.depth
    (map_of.get c.args.self.now.serials c.args.node) c.in-Some.found c.levels_asked-levels.result (map opening_of c.deref.result.now)
    (c.in-Some.ensures ∙ ap (λ m. known_node (binding_keeper (alone page.tree)) page.tree m
    (map_of.get c.args.self.now.serials c.args.node)) (sym c.self.view_is))
    c.levels_asked-levels.ensures
    (ap (map opening_of) c.deref.ensures.value ∙ c.in_ok-request_node.ensures ∙ ap
    (λ l. map opening_of l ++ requested (opened_in c.self.inside.binding) c.levels_asked-levels.result
    (alone c.in-Some.found)) c.new-openings.ensures.items)

pub open_all-requires-clause-room : goal.open_all-requires-clause-room
open_all-requires-clause-room c =
    let page : PageValue = shown_page c.args.self.now.mode c.args.page.now in
    request_room page (shown-valid c.args.self.now.mode c.args.page.now c.valid.ensures) c.self.inside.binding c.args.depth
    (map_of.get c.args.self.now.serials c.args.node) c.in-Some.found c.levels_asked-levels.result (map opening_of c.deref.result.now)
    (c.in-Some.ensures ∙ ap (λ m. known_node (binding_keeper (alone page.tree)) page.tree m
    (map_of.get c.args.self.now.serials c.args.node)) (sym c.self.view_is))
    c.levels_asked-levels.ensures
    (ap (map opening_of) c.deref.ensures.value ∙ c.in_ok-request_node.ensures ∙ ap
    (λ l. map opening_of l ++ requested (opened_in c.self.inside.binding) c.levels_asked-levels.result
    (alone c.in-Some.found)) c.new-openings.ensures.items)
    (subst (λ (m : BindingValue). m.next < 2 ^ 52) (sym c.self.view_is) c.requires.room)

pub returns-clause-known : goal.returns-clause-known
returns-clause-known c =
    let page : PageValue = shown_page c.args.self.now.mode c.args.page.now in
    let s : Option ℕ = map_of.get c.args.self.now.serials c.args.node in
    request_known page
    (shown-valid c.args.self.now.mode c.args.page.now c.valid.ensures) c.self.inside.binding c.args.depth s c.in-Some.found
    c.levels_asked-levels.result
    (map opening_of c.deref.result.now)
    (c.in-Some.ensures ∙ ap (λ m. known_node (binding_keeper (alone page.tree)) page.tree m s) (sym c.self.view_is))
    c.levels_asked-levels.ensures
    (ap (map opening_of) c.deref.ensures.value ∙ c.in_ok-request_node.ensures ∙ ap
    (λ l. map opening_of l ++ requested (opened_in c.self.inside.binding) c.levels_asked-levels.result
    (alone c.in-Some.found)) c.new-openings.ensures.items)
    _ (c.in_ok-open_all.ensures.known (alone page.tree) page.tree)
    ∙ ap (λ m. state_after m (of_children (binding_keeper (alone page.tree)) page.tree c.args.depth
    (known_node (binding_keeper (alone page.tree)) page.tree m s) m)) c.self.view_is

pub returns-clause-sent : goal.returns-clause-sent
returns-clause-sent c =
    let page : PageValue = shown_page c.args.self.now.mode c.args.page.now in
    let s : Option ℕ = map_of.get c.args.self.now.serials c.args.node in
    request_sent page
    (shown-valid c.args.self.now.mode c.args.page.now c.valid.ensures) c.self.inside.binding c.args.depth s c.in-Some.found
    c.levels_asked-levels.result
    (map opening_of c.deref.result.now)
    (c.in-Some.ensures ∙ ap (λ m. known_node (binding_keeper (alone page.tree)) page.tree m s) (sym c.self.view_is))
    c.levels_asked-levels.ensures
    (ap (map opening_of) c.deref.ensures.value ∙ c.in_ok-request_node.ensures ∙ ap
    (λ l. map opening_of l ++ requested (opened_in c.self.inside.binding) c.levels_asked-levels.result
    (alone c.in-Some.found)) c.new-openings.ensures.items)
    c.args.id c.args.out.now.items _ _ (c.in_ok-open_all.ensures.sent (alone page.tree) page.tree) c.in_ok-reply.ensures
    ∙ ap (λ m. c.args.out.now.items
    ++ answer c.args.id (of_children (binding_keeper (alone page.tree)) page.tree c.args.depth
    (known_node (binding_keeper (alone page.tree)) page.tree m s) m)) c.self.view_is
