-- A shelf that begins before the name, at it or behind it.
use Rattle.std.proofs.Common.{◌≡◌, suc, ◌+◌, ◌-◌, ◌/◌, sym, ap, ◌∙◌, arith, nat_cmp}
use Rattle.std.specs.Cmp.Lexicographic.{slice_cmp}
use Rattle.std.proofs.lemmas.List.{at_drop_all}
use Rattle.node_tree.specs.Labels.{is_below}
use Rattle.node_tree.specs.Shelves.{pairs_of, pairs_in, all_of}
use Rattle.node_tree.specs.Searches.{search_name}
use Rattle.node_tree.proofs.SearchedLemmas.{shifted_none, passes_greater, passes_equal}
use Rattle.node_tree.proofs.ShelfLemmas.{read_at, filled_at, shelf_passed, shelf_behind}
use Rattle.node_tree.proofs.shelves.Shelves.shelves_before.Goals as goal

pub shelves-init : goal.shelves-init
shelves-init c = (
  omega arith,
  omega arith,
  shifted_none (search_name c.args.name.now (pairs_in c.args.self.now)),
  at_drop_all (λ ss. is_below c.args.name.now (pairs_of ss)) c.args.self.now.later.items c.len-high.result
      (omega (arith, c.args.self.now.later.ok)),
)

pub index-requires-in-shelves : goal.index-requires-in-shelves
index-requires-in-shelves c =
    let later = c.args.self.now.later.items in
    let i = c.shelves.low + (c.shelves.high - c.shelves.low) / 2 in
    let s = c.index.result.now in
    let here = read_at later i s (omega arith) c.index.ensures in
    let some = filled_at later i s here c.requires.filled in
    omega (arith, some, s.ok)

pub shelves-preserved-in-Less : goal.shelves-preserved-in-Less
shelves-preserved-in-Less c =
    let later = c.args.self.now.later.items in
    let i = c.shelves.low + (c.shelves.high - c.shelves.low) / 2 in
    let s = c.index.result.now in
    let q = c.index-in-shelves.result.now in
    let here = read_at later i s (omega arith) c.index.ensures in
    let some = filled_at later i s here c.requires.filled in
    let first = read_at s.items 0 q some c.index-in-shelves.ensures in
    let is = ap (slice_cmp nat_cmp c.args.name.now) (sym c.as_str-other.ensures) ∙ sym c.cmp.ensures ∙ c.in-Less.is in (
      omega arith,
      omega arith,
      c.shelves.invariant.2,
      shelf_behind c.args.name.now later i s here q first is,
    )

pub shelves-preserved-in-Equal : goal.shelves-preserved-in-Equal
shelves-preserved-in-Equal c =
    let later = c.args.self.now.later.items in
    let i = c.shelves.low + (c.shelves.high - c.shelves.low) / 2 in
    let s = c.index.result.now in
    let q = c.index-in-shelves.result.now in
    let here = read_at later i s (omega arith) c.index.ensures in
    let some = filled_at later i s here c.requires.filled in
    let first = read_at s.items 0 q some c.index-in-shelves.ensures in
    let is = ap (slice_cmp nat_cmp c.args.name.now) (sym c.as_str-other.ensures) ∙ sym c.cmp.ensures ∙ c.in-Equal.is in
    let next : i + 1 ≡ suc i = omega arith in (
      omega arith,
      omega arith,
      rw next (shelf_passed c.args.name.now (all_of c.args.self.now) (suc i) s here q first c.requires.ascending
          (passes_equal c.args.name.now q is)),
      c.shelves.invariant.3,
    )

pub shelves-preserved : goal.shelves-preserved
shelves-preserved c =
    let later = c.args.self.now.later.items in
    let i = c.shelves.low + (c.shelves.high - c.shelves.low) / 2 in
    let s = c.index.result.now in
    let q = c.index-in-shelves.result.now in
    let here = read_at later i s (omega arith) c.index.ensures in
    let some = filled_at later i s here c.requires.filled in
    let first = read_at s.items 0 q some c.index-in-shelves.ensures in
    let is = ap (slice_cmp nat_cmp c.args.name.now) (sym c.as_str-other.ensures) ∙ sym c.cmp.ensures ∙ c.in-Greater.is in
    let next : i + 1 ≡ suc i = omega arith in (
      omega arith,
      omega arith,
      rw next (shelf_passed c.args.name.now (all_of c.args.self.now) (suc i) s here q first c.requires.ascending
          (passes_greater c.args.name.now q is)),
      c.shelves.invariant.3,
    )
