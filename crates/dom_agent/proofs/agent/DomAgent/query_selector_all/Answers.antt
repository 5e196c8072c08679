use Rattle.std.proofs.Common.{◌<◌, ◌^◌, Result, sym, ap, ◌∙◌, subst}
use Rattle.std.specs.FinMap as map_of
use Rattle.node_tree.specs.Nodes.{alone}
use Rattle.shown_pages.specs.ShownPages.{shown_page}
use Rattle.cdp_messages.specs.declared.command.Why.{Why}
use Rattle.dom_agent.specs.Keepers.{binding_keeper}
use Rattle.dom_agent.specs.Queries.{Query, query_of, query_seen}
use Rattle.dom_agent.specs.Requests.{state_after, of_query, all_asked}
use Rattle.dom_agent.proofs.QueryLemmas.{query-live}
use Rattle.dom_agent.proofs.agent.DomAgent.query_selector_all.Goals as goal

pub answer_all-requires-clause-shown : goal.answer_all-requires-clause-shown
answer_all-requires-clause-shown c =
    query-live (binding_keeper (alone (shown_page c.args.self.now.mode c.args.page.now).tree))
    (shown_page c.args.self.now.mode c.args.page.now).tree c.args.self.now
    (map_of.get c.args.self.now.serials c.args.node) c.args.selector.now (query_seen c.in-Ok.query)
    (ap (λ o. query_of o c.args.selector.now) (sym c.node_of-found.ensures) ∙ c.in-Ok.ensures)

pub answer_all-requires-clause-few : goal.answer_all-requires-clause-few
answer_all-requires-clause-few c =
    let k = binding_keeper (alone (shown_page c.args.self.now.mode c.args.page.now).tree) in
    subst (λ (r : Result Query Why). (state_after c.args.self.now (of_query k (shown_page c.args.self.now.mode c.args.page.now).tree
    (all_asked k (shown_page c.args.self.now.mode c.args.page.now).tree c.args.page.now.tree) r c.args.self.now)).next < 2 ^ 60)
    (ap (λ o. query_of o c.args.selector.now) (sym c.node_of-found.ensures) ∙ c.in-Ok.ensures) c.requires.few
