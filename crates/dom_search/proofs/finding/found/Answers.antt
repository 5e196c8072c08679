-- The walk over the page, beside what the query selects, finds what the query finds.
use Rattle.std.proofs.Common.{List, ℕ, ◌++◌, sym, ap, ◌∙◌}
use Rattle.page_tree.specs.Zippers.{zipper_at, below}
use Rattle.dom_search.specs.Found.{has_text}
use Rattle.dom_search.specs.Merged.{merged}
use Rattle.dom_search.proofs.FoundLemmas.{walk-found, root-at}
use Rattle.dom_search.proofs.finding.found.Goals as goal

pub returns : goal.returns
returns c =
    walk-found c.args.page.now c.valid.ensures c.args.query.now c.as_bytes.result.now c.as_slice.result.now c.add_found.new.found.items
    c.node_ref.result
    (c.node_ref.ensures ∙ ap (λ s. zipper_at s c.args.page.now.tree) c.document.ensures ∙ root-at c.args.page.now.tree)
    (c.as_bytes.ensures.value ∙ c.in_ok-part.ensures.ok) (c.as_slice.ensures.value ∙ c.in_ok-serials.ensures)
    (sym c.is_empty.ensures ∙ c.if-is_empty.false)
    ((c.in_ok-add_found.ensures {u = tt}).found
    ∙ ap (λ (found : List ℕ). found ++ merged (has_text c.as_bytes.result.now) c.as_slice.result.now (below c.node_ref.result))
    c.new-found.ensures.items)
