use Rattle.std.proofs.Common.{◌≡◌, ◌<◌, List, get_or, set, length, map, ap, ◌∙◌, arith}
use Rattle.std.proofs.lemmas.List.Edits.{map_over_more}
use Rattle.css_tokens.specs.declared.token.Range.{Range}
use Rattle.selectors.specs.declared.selector.Selector.{Selector}
use Rattle.std.proofs.lemmas.List.{with_items_is}
use Rattle.selectors.specs.Forms.{selector_seen}
use Rattle.selectors.proofs.ShiftForms.{shifted, can_move, all_shifted}
use Rattle.selectors.proofs.selector.SelectorList.shift.Goals as goal

pub moved-selector-requires : goal.moved-selector-requires
moved-selector-requires c =
    let same = ap (λ (xs : List Selector). length xs) c.deref_mut-selector-items.ensures.value in
    let inside : c.loop-selector.selector-index < length c.args.self.list.items = omega (arith, same, c.loop-selector-test.true) in
    can_move c.args.from c.args.to c.args.self.list.items c.loop-selector.selector-items c.loop-selector.selector-index
    c.selector-item.result inside c.loop-selector.invariant c.requires

pub loop-selector-preserved : goal.loop-selector-preserved
loop-selector-preserved c =
    let same = ap (λ (xs : List Selector). length xs) c.deref_mut-selector-items.ensures.value in
    let inside : c.loop-selector.selector-index < length c.args.self.list.items = omega (arith, same, c.loop-selector-test.true) in
    let ys = c.loop-selector.selector-items in
    let i = c.loop-selector.selector-index in
    let y = get_or ys i c.selector-item.result in
    ap (λ (r : Range). set ys i (record { compounds = y.compounds; pseudo_element = y.pseudo_element; range = r })) c.moved-selector.ensures
    ∙ map_over_more (shifted c.args.from c.args.to) c.args.self.list.items ys i y inside c.loop-selector.invariant
    (ap (λ (d : Selector). get_or ys i d) c.selector-item.is)

pub returns : goal.returns
returns c =
    let same = ap (λ (xs : List Selector). length xs) c.deref_mut-selector-items.ensures.value in
    let len : length c.loop-selector.selector-items
    ≡ c.args.self.list.len = omega (arith, same, c.loop-selector.auto.selector-items, c.args.self.list.ok.0) in
    ap (λ (xs : List Selector). map selector_seen xs) (with_items_is c.args.self.list c.loop-selector.selector-items len)
    ∙ all_shifted c.args.from c.args.to c.args.self.list.items c.loop-selector.selector-items c.loop-selector.selector-index
    (omega (arith, same, c.loop-selector-test.false)) c.loop-selector.invariant
