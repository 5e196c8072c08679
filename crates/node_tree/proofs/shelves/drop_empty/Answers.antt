-- A shelf that has pairs stays, and one that has none goes.
use Rattle.std.proofs.Common.{◌≡◌, List, Some, slice_get, slice_set, sym, ap, subst, ◌∙◌, arith}
use Rattle.std.proofs.lemmas.List.{nil_from_length}
use Rattle.std.specs.List.{remove}
use Rattle.node_tree.specs.Shelves.{Shelf, pairs_of, AreFilled}
use Rattle.node_tree.proofs.ShelfLemmas.{read_at, empty_out, removed_set, filled_read, filled_without}
use Rattle.node_tree.proofs.shelves.drop_empty.Goals as goal

pub returns-then-left-gt0-clause-filled : goal.returns-then-left-gt0-clause-filled
returns-then-left-gt0-clause-filled c =
    λ before shelf f is.
    let s = c.index.result.now in
    let at = read_at c.args.later.now.items c.args.k s c.requires c.index.ensures in
    let there : slice_get (slice_set before c.args.k shelf) c.args.k ≡ Some s =
    ap (λ (l : List Shelf). slice_get l c.args.k) (sym is) ∙ at
    in
    subst (λ (l : List Shelf). AreFilled l) (sym is) (filled_read before c.args.k shelf s there (omega (arith, s.ok)) f)

pub returns-clause-pairs : goal.returns-clause-pairs
returns-clause-pairs c =
    let s = c.index.result.now in
    ap (λ (l : List Shelf). pairs_of l) c.remove.ensures.items
    ∙ empty_out c.args.later.now.items c.args.k s (read_at c.args.later.now.items c.args.k s c.requires c.index.ensures)
    (nil_from_length s.items (omega (arith, s.ok)))

pub returns-clause-filled : goal.returns-clause-filled
returns-clause-filled c =
    λ before shelf f is.
    subst (λ (l : List Shelf). AreFilled l)
    (sym (c.remove.ensures.items ∙ ap (λ (l : List Shelf). remove l c.args.k) is ∙ removed_set before c.args.k shelf))
    (filled_without before c.args.k f)
