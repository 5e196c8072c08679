-- One shelf more is copied, and in the end all are.
use Rattle.std.proofs.Common.{◌≡◌, List, ◌++◌, length, subst, sym, ap, ◌∙◌, arith}
use Rattle.std.proofs.lemmas.List.{take_all}
use Rattle.node_tree.specs.Labels.{Pair}
use Rattle.node_tree.specs.Shelves.{Shelf, pairs_of, AreFilled}
use Rattle.node_tree.proofs.ShelfLemmas.{read_at, filled_at, filled_last, copied_turn}
use Rattle.node_tree.proofs.shelves.Shelves.try_clone.Goals as goal

pub loop-shelf-preserved : goal.loop-shelf-preserved
loop-shelf-preserved c =
    let ss = c.deref-shelf-items.result.now in
    let filled = subst (λ (l : List Shelf). AreFilled l) (sym c.deref-shelf-items.ensures.value) c.requires.filled in
    let s = c.shelf-item.result in
    let i = c.loop-shelf.shelf-index in
    let t = c.in_ok-copy.field-0 in
    let same : t.items ≡ s.items = c.in_ok-copy.ensures in
    let is = c.in_ok-push.ensures.items in
    let some = filled_at ss i s (read_at ss i s c.loop-shelf-test.true c.shelf-item.is) filled in
    let e = ap (λ (l : List Pair). length l) same in (
      ap (λ (l : List Shelf). pairs_of l) is
          ∙ copied_turn ss c.loop-shelf.later.items i s t c.loop-shelf-test.true c.shelf-item.is same c.loop-shelf.invariant.0,
      subst (λ (l : List Shelf). AreFilled l) (sym is)
          (filled_last c.loop-shelf.later.items t c.loop-shelf.invariant.1 (omega (arith, e, some))),
    )

pub returns-clause-pairs : goal.returns-clause-pairs
returns-clause-pairs c =
    let first = c.in_ok-first.ensures in
    let all =
    take_all c.loop-shelf.shelf-index c.deref-shelf-items.result.now c.loop-shelf-test.false ∙ c.deref-shelf-items.ensures.value
    in
    let later = c.loop-shelf.invariant.0 ∙ ap (λ (l : List Shelf). pairs_of l) all in
    λ i. first i ++ later i

pub returns-clause-kept : goal.returns-clause-kept
returns-clause-kept c =
    let first = c.in_ok-first.ensures in
    let all =
    take_all c.loop-shelf.shelf-index c.deref-shelf-items.result.now c.loop-shelf-test.false ∙ c.deref-shelf-items.ensures.value
    in
    let later = c.loop-shelf.invariant.0 ∙ ap (λ (l : List Shelf). pairs_of l) all in
    record {
      count = c.requires.count ∙ sym (λ i. length (first i ++ later i));
      filled = c.loop-shelf.invariant.1;
    }
