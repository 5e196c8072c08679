use Rattle.std.proofs.Common.{All, sym, subst, ◌∙◌, arith}
use Rattle.std.proofs.lemmas.List.Elements.{All-drop, All-get_or}
use Rattle.css_tokens.specs.Marks.{IsPieceOf}
use Rattle.sheet_reader.specs.declared.parts.Level.TheVariants.{Top}
use Rattle.sheet_reader.specs.Seen.{part_seen}
use Rattle.sheet_reader.proofs.SheetLemmas.{part_all, part_fits, part_smaller}
use Rattle.sheet_reader.proofs.FrameForms.{front_more}
use Rattle.sheet_reader.proofs.rules.read_front.Goals as goal

pub names_media-requires : goal.names_media-requires
names_media-requires c = All-get_or (IsPieceOf c.args.text.now) c.parts.left.now 0 _ (omega (arith, c.in-len1-up.len_at_least))
    c.parts.invariant.each

pub add_part-requires : goal.add_part-requires
add_part-requires c = part_all Top (IsPieceOf c.args.text.now) c.parts.left.now _ (part_seen c.in_ok-part.part)
    (omega (arith, c.in-len1-up.len_at_least)) c.in_ok-part.ensures c.parts.invariant.each

pub behind-left-requires : goal.behind-left-requires
behind-left-requires c =
    let fits = part_fits Top c.parts.left.now _ (part_seen c.in_ok-part.part)
    (omega (arith, c.in-len1-up.len_at_least)) c.in_ok-part.ensures in
    omega (arith, fits, c.part_len.ensures)

pub parts-smaller : goal.parts-smaller
parts-smaller c = part_smaller Top c.parts.left.now c.behind-left.result.now _ (part_seen c.in_ok-part.part) c.part_len.result
    (omega (arith, c.in-len1-up.len_at_least)) c.in_ok-part.ensures c.part_len.ensures c.behind-left.ensures

pub parts-preserved : goal.parts-preserved
parts-preserved c = record {
  so_far = front_more c.args.text.now c.parts.left.now c.behind-left.result.now _ (part_seen c.in_ok-part.part) c.part_len.result
      c.parts.sheet c.add_part.new.sheet _ (omega (arith, c.in-len1-up.len_at_least))
      (sym c.names_media.ensures ∙ c.if-names_media.false) c.in_ok-part.ensures c.part_len.ensures c.behind-left.ensures
      c.in_ok-add_part.ensures c.parts.invariant.so_far;
  each = subst (All (IsPieceOf c.args.text.now)) (sym c.behind-left.ensures)
      (All-drop (IsPieceOf c.args.text.now) c.part_len.result c.parts.left.now c.parts.invariant.each);
}
