use Rattle.std.proofs.Common.{sym, ap, ◌∙◌}
use Rattle.std.specs.FinMap as map_of
use Rattle.node_tree.specs.Nodes.{alone}
use Rattle.shown_pages.specs.ShownPages.{shown_page}
use Rattle.dom_agent.specs.Keepers.{binding_keeper}
use Rattle.dom_agent.specs.Queries.{query_of, query_seen}
use Rattle.dom_agent.proofs.QueryLemmas.{query-live}
use Rattle.dom_agent.proofs.agent.DomAgent.query_selector.Goals as goal

pub answer_first-requires-clause-shown : goal.answer_first-requires-clause-shown
answer_first-requires-clause-shown c =
    query-live (binding_keeper (alone (shown_page c.args.self.now.mode c.args.page.now).tree))
    (shown_page c.args.self.now.mode c.args.page.now).tree c.args.self.now
    (map_of.get c.args.self.now.serials c.args.node) c.args.selector.now (query_seen c.in-Ok.query)
    (ap (λ o. query_of o c.args.selector.now) (sym c.node_of-found.ensures) ∙ c.in-Ok.ensures)
