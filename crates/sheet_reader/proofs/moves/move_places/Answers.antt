use Rattle.std.proofs.Common.{ℕ, get_or, set, ap, ◌∙◌, arith}
use Rattle.std.proofs.lemmas.List.Edits.{map_over_more}
use Rattle.std.proofs.lemmas.List.{get_or_default}
use Rattle.selectors.specs.Moves.{cut, moved_place, CanPlace}
use Rattle.sheet_reader.proofs.MoveForms.{still_there, all_done}
use Rattle.sheet_reader.proofs.moves.move_places.Goals as goal

pub move_place-requires : goal.move_place-requires
move_place-requires c = still_there (CanPlace (cut c.args.gap.start c.args.gap.end c.args.gap.size))
    (moved_place (cut c.args.gap.start c.args.gap.end c.args.gap.size)) c.args.places.now c.loop-place.places c.loop-place.place-index 0
    c.loop-place-test.true c.loop-place.invariant c.requires

pub loop-place-preserved : goal.loop-place-preserved
loop-place-preserved c =
    let ys = c.loop-place.places in
    let i = c.loop-place.place-index in
    ap (λ (n : ℕ). set ys i n) c.move_place.ensures.moved
    ∙ map_over_more (moved_place (cut c.args.gap.start c.args.gap.end c.args.gap.size)) c.args.places.now ys i (get_or ys i 0)
    c.loop-place-test.true c.loop-place.invariant
    (get_or_default ys i 0 (get_or ys i 0) (omega (arith, c.loop-place-test.true, c.loop-place.auto.places)))

pub returns : goal.returns
returns c = all_done (moved_place (cut c.args.gap.start c.args.gap.end c.args.gap.size)) c.args.places.now c.loop-place.places
    c.loop-place.place-index c.loop-place-test.false c.loop-place.invariant
