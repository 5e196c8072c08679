use Rattle.std.proofs.Common.{ap, ◌∙◌, ◌+◌}
use Rattle.dom_search.specs.Searches.{with_search}
use Rattle.dom_search.proofs.SearchLemmas.{inserted}
use Rattle.dom_search.proofs.searches.Searches.keep.Goals as goal

pub returns-clause-kept : goal.returns-clause-kept
returns-clause-kept c =
    let new = inserted c.self.inside.lists.entries c.insert.new.self.entries (c.self.inside.given + 1) c.args.serials.items
    (λ q. c.in_ok-insert.ensures.updates.0 q) in
    (λ i. record { lists = new i; given = c.self.inside.given + 1 }) ∙ ap (with_search c.args.serials.items) c.self.view_is
