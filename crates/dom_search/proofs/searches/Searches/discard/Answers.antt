-- What was kept under the number is gone, or nothing was.
use Rattle.std.proofs.Common.{refl, ap, sym, ◌∙◌}
use Rattle.std.specs.Prelude.{is_some}
use Rattle.std.specs.FinMap as map
use Rattle.dom_search.specs.Searches.{Kept, without_search}
use Rattle.dom_search.proofs.SearchLemmas.{get-lookup, removed}
use Rattle.dom_search.proofs.searches.Searches.discard.Goals as goal

pub returns-in_default-clause-fault : goal.returns-in_default-clause-fault
returns-in_default-clause-fault c = (
  refl,
  ap (λ (k : Kept). map.get k.lists c.args.search) (sym c.self.view_is)
      ∙ get-lookup c.self.inside.lists.entries c.args.search ∙ sym c.in_default.ensures.value,
)

pub returns-clause-kept : goal.returns-clause-kept
returns-clause-kept c =
    let new = removed c.self.inside.lists.entries c.remove.new.self.entries c.args.search (λ q. c.remove.ensures.updates.0 q) in
    (λ i. record { lists = new i; given = c.self.inside.given }) ∙ ap (without_search c.args.search) c.self.view_is

pub returns-clause-there : goal.returns-clause-there
returns-clause-there c = ap is_some
    (ap (λ (k : Kept). map.get k.lists c.args.search) (sym c.self.view_is)
    ∙ get-lookup c.self.inside.lists.entries c.args.search ∙ sym c.in-Some.ensures.value)
