-- One name more, or the place.
use Rattle.std.proofs.Common.{sym, ap, ◌∙◌, arith, nat_cmp}
use Rattle.std.specs.Cmp.Lexicographic.{slice_cmp}
use Rattle.node_tree.specs.Labels.{Pair}
use Rattle.node_tree.proofs.SearchedLemmas.{search_less, search_equal, search_greater}
use Rattle.node_tree.proofs.ShelfLemmas.{read_at}
use Rattle.node_tree.proofs.name_searches.search_name.Goals as goal

pub returns-in-Less : goal.returns-in-Less
returns-in-Less c =
    let q = c.index-pairs-i.result in
    let at = read_at c.args.pairs.now c.loop-i.i q (omega arith) c.index-pairs-i.is in
    let same = ap (λ (p : Pair). p.0) c.index-pairs-i.is ∙ sym c.as_str-other.ensures in
    let is = ap (slice_cmp nat_cmp c.args.name.now) same ∙ sym c.cmp.ensures ∙ c.in-Less.is in
    search_less c.args.name.now c.args.pairs.now c.loop-i.i q at c.loop-i.invariant is

pub returns-in-Equal : goal.returns-in-Equal
returns-in-Equal c =
    let q = c.index-pairs-i.result in
    let at = read_at c.args.pairs.now c.loop-i.i q (omega arith) c.index-pairs-i.is in
    let same = ap (λ (p : Pair). p.0) c.index-pairs-i.is ∙ sym c.as_str-other.ensures in
    let is = ap (slice_cmp nat_cmp c.args.name.now) same ∙ sym c.cmp.ensures ∙ c.in-Equal.is in
    search_equal c.args.name.now c.args.pairs.now c.loop-i.i q at c.loop-i.invariant is

pub loop-i-preserved : goal.loop-i-preserved
loop-i-preserved c =
    let q = c.index-pairs-i.result in
    let at = read_at c.args.pairs.now c.loop-i.i q (omega arith) c.index-pairs-i.is in
    let same = ap (λ (p : Pair). p.0) c.index-pairs-i.is ∙ sym c.as_str-other.ensures in
    let is = ap (slice_cmp nat_cmp c.args.name.now) same ∙ sym c.cmp.ensures ∙ c.in-Greater.is in
    search_greater c.args.name.now c.args.pairs.now c.loop-i.i q at c.loop-i.invariant is
