-- A name before the one that is looked for: so are all up to it.
use Rattle.std.proofs.Common.{sym, ap, ◌∙◌, arith, nat_cmp}
use Rattle.std.specs.Cmp.Lexicographic.{slice_cmp}
use Rattle.node_tree.specs.Labels.{Pair}
use Rattle.node_tree.proofs.SearchedLemmas.{search_behind}
use Rattle.node_tree.proofs.ShelfLemmas.{read_at}
use Rattle.node_tree.proofs.name_searches.first_not_before.Goals as goal

pub halves-preserved-in-Greater : goal.halves-preserved-in-Greater
halves-preserved-in-Greater c =
    let q = c.index-pairs-middle.result in
    let at = read_at c.args.pairs.now _ q (omega arith) c.index-pairs-middle.is in
    let same = ap (λ (p : Pair). p.0) c.index-pairs-middle.is ∙ sym c.as_str-other.ensures in
    let is = ap (slice_cmp nat_cmp c.args.name.now) same ∙ sym c.cmp.ensures ∙ c.in-Greater.is in
    (omega arith, omega arith, search_behind c.args.name.now c.args.pairs.now _ q c.requires at is)
