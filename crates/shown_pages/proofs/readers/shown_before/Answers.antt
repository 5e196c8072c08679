use Rattle.std.proofs.Common.{ap, ◌∙◌}
use Rattle.page_tree.specs.Zippers.{Zipper}
use Rattle.shown_pages.specs.Walks.{first_shown}
use Rattle.shown_pages.proofs.NearestLemmas.{nearest-shown}
use Rattle.shown_pages.proofs.readers.shown_before.Goals as goal

pub returns : goal.returns
returns c =
    c.nearest_shown.ensures ∙ ap (λ (z : Zipper). first_shown c.args.mode z.before) c.node_ref.ensures
    ∙ nearest-shown c.args.mode c.args.page.now c.valid.ensures c.args.serial c.requires.child c.requires.parent
