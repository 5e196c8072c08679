-- A range of what is kept under the number.
use Rattle.std.proofs.Common.{ℕ, List, Ok, ap, sym, ◌∙◌, arith, length}
use Rattle.std.specs.FinMap as map
use Rattle.dom_search.specs.Searches.{Kept, between, slice_in}
use Rattle.dom_search.proofs.SearchLemmas.{get-lookup, upside-down, too-far, in-range}
use Rattle.dom_search.proofs.searches.Searches.slice.Goals as goal

pub returns-in_default-clause-fault : goal.returns-in_default-clause-fault
returns-in_default-clause-fault c =
    let kept = ap (λ (k : Kept). map.get k.lists c.args.search) (sym c.self.view_is)
    ∙ get-lookup c.self.inside.lists.entries c.args.search in
    ap (slice_in c.args.from c.args.to) (kept ∙ sym c.in_default.ensures.value)

pub returns-then-from-to-clause-fault : goal.returns-then-from-to-clause-fault
returns-then-from-to-clause-fault c =
    let kept = ap (λ (k : Kept). map.get k.lists c.args.search) (sym c.self.view_is)
    ∙ get-lookup c.self.inside.lists.entries c.args.search in
    ap (slice_in c.args.from c.args.to) (kept ∙ sym c.in-Some.ensures.value)
    ∙ upside-down c.args.from c.args.to c.in-Some.serials.now c.if-from-to.true

pub returns-then-to-serials-clause-fault : goal.returns-then-to-serials-clause-fault
returns-then-to-serials-clause-fault c =
    let kept = ap (λ (k : Kept). map.get k.lists c.args.search) (sym c.self.view_is)
    ∙ get-lookup c.self.inside.lists.entries c.args.search in
    let same = ap (λ (l : List ℕ). length l) c.as_slice-serials.ensures in
    ap (slice_in c.args.from c.args.to) (kept ∙ sym c.in-Some.ensures.value)
    ∙ too-far c.args.from c.args.to c.in-Some.serials.now c.if-from-to.false (omega (arith, same, c.if-to-serials.true))

pub returns-clause-ok : goal.returns-clause-ok
returns-clause-ok c =
    let kept = ap (λ (k : Kept). map.get k.lists c.args.search) (sym c.self.view_is)
    ∙ get-lookup c.self.inside.lists.entries c.args.search in
    let same = ap (λ (l : List ℕ). length l) c.as_slice-serials.ensures in
    ap (slice_in c.args.from c.args.to) (kept ∙ sym c.in-Some.ensures.value)
    ∙ in-range c.args.from c.args.to c.in-Some.serials.now c.if-from-to.false (omega (arith, same, c.if-to-serials.false))
    ∙ ap (λ (l : List ℕ). Ok (between c.args.from c.args.to l)) (sym c.as_slice-serials.ensures)
