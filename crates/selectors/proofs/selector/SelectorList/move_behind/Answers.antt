use Rattle.std.proofs.Common.{◌≡◌, ◌<◌, List, get_or, set, length, map, ap, ◌∙◌, refl, arith}
use Rattle.std.proofs.lemmas.List.Edits.{map_over_more}
use Rattle.css_tokens.specs.declared.token.Range.{Range}
use Rattle.selectors.specs.declared.selector.Selector.{Selector}
use Rattle.std.proofs.lemmas.List.{with_items_is}
use Rattle.selectors.specs.Forms.{selector_seen}
use Rattle.selectors.specs.Moves.{cut, moved_place, placed_selector, CanPlaceRange}
use Rattle.selectors.proofs.MoveForms.{placed, still_holds, all_changed}
use Rattle.selectors.proofs.selector.SelectorList.move_behind.Goals as goal

pub move_range-selector-requires : goal.move_range-selector-requires
move_range-selector-requires c =
    let xs = c.args.self.now.list.items in
    let same = ap (λ (ys : List Selector). length ys) c.deref_mut-selector-items.ensures.value in
    let inside : c.loop-selector.selector-index < length xs = omega (arith, same, c.loop-selector-test.true) in
    still_holds selector_seen (λ s. CanPlaceRange (cut c.args.start c.args.end c.args.size) s.range)
    (placed c.args.start c.args.end c.args.size) xs c.loop-selector.selector-items c.loop-selector.selector-index c.selector-item.result
    inside c.loop-selector.invariant c.requires

pub loop-selector-preserved : goal.loop-selector-preserved
loop-selector-preserved c =
    let same = ap (λ (xs : List Selector). length xs) c.deref_mut-selector-items.ensures.value in
    let inside : c.loop-selector.selector-index < length c.args.self.now.list.items = omega (arith, same, c.loop-selector-test.true) in
    let ys = c.loop-selector.selector-items in
    let i = c.loop-selector.selector-index in
    let y = get_or ys i c.selector-item.result in
    ap (λ (r : Range). set ys i (record { compounds = y.compounds; pseudo_element = y.pseudo_element; range = r }))
    c.move_range-selector.ensures.moved
    ∙ map_over_more (placed c.args.start c.args.end c.args.size) c.args.self.now.list.items ys i y inside c.loop-selector.invariant
    (ap (λ (d : Selector). get_or ys i d) c.selector-item.is)

pub returns : goal.returns
returns c =
    let same = ap (λ (xs : List Selector). length xs) c.deref_mut-selector-items.ensures.value in
    let len : length c.loop-selector.selector-items
    ≡ c.args.self.now.list.len = omega (arith, same, c.loop-selector.auto.selector-items, c.args.self.now.list.ok.0) in
    record {
      moved = ap (λ (xs : List Selector). map selector_seen xs) (with_items_is c.args.self.now.list c.loop-selector.selector-items len)
          ∙ all_changed selector_seen (placed c.args.start c.args.end c.args.size)
          (placed_selector (moved_place (cut c.args.start c.args.end c.args.size))) (λ s. refl) c.args.self.now.list.items
          c.loop-selector.selector-items c.loop-selector.selector-index
          (omega (arith, same, c.loop-selector-test.false)) c.loop-selector.invariant;
    }
