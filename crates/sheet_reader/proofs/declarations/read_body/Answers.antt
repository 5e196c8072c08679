use Rattle.std.proofs.Common.{subst, sym, ◌∙◌, All, arith}
use Rattle.std.proofs.lemmas.List.Elements.{All-drop}
use Rattle.css_tokens.specs.Marks.{IsPieceOf}
use Rattle.sheet_reader.specs.Seen.{item_seen}
use Rattle.sheet_reader.proofs.BodyLemmas.{item_all, item_fits, item_smaller, items_more, items_done}
use Rattle.sheet_reader.proofs.declarations.read_body.Goals as goal

pub item_property-requires : goal.item_property-requires
item_property-requires c = item_all (IsPieceOf c.args.text.now) c.items.left.now _ (item_seen c.in_ok-item.item)
    (omega (arith, c.in-len1-up.len_at_least)) c.in_ok-item.ensures c.items.invariant.each

pub behind-left-requires : goal.behind-left-requires
behind-left-requires c =
    let fits = item_fits c.items.left.now _ (item_seen c.in_ok-item.item) (omega (arith, c.in-len1-up.len_at_least)) c.in_ok-item.ensures in
    omega (arith, fits, c.item_len.ensures)

pub items-smaller : goal.items-smaller
items-smaller c = item_smaller c.items.left.now c.behind-left.result.now _ (item_seen c.in_ok-item.item) c.item_len.result
    (omega (arith, c.in-len1-up.len_at_least)) c.in_ok-item.ensures c.item_len.ensures c.behind-left.ensures

pub items-preserved : goal.items-preserved
items-preserved c = record {
  so_far = items_more c.args.text.now c.items.left.now c.behind-left.result.now _
      (item_seen c.in_ok-item.item) c.item_len.result c.items.properties.items c.push_some.new.properties.items _
      (omega (arith, c.in-len1-up.len_at_least)) c.in_ok-item.ensures c.item_len.ensures c.behind-left.ensures
      (rw (sym c.in_ok-property.ensures) c.in_ok-push_some.ensures) c.items.invariant.so_far;
  each = subst (All (IsPieceOf c.args.text.now)) (sym c.behind-left.ensures)
      (All-drop (IsPieceOf c.args.text.now) c.item_len.result c.items.left.now c.items.invariant.each);
}

pub returns : goal.returns
returns c = c.shrink_to_fit.ensures.items ∙ items_done c.args.text.now c.items.left.now c.items.properties.items _ c.in_default.len_below
    c.items.invariant.so_far
