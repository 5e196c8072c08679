use Rattle.std.proofs.Common.{Some, ap, sym, ◌∙◌}
use Rattle.std.proofs.lemmas.Option.{slice_get-get_or}
use Rattle.sheet_reader.proofs.repairs.seam_at.Goals as goal

pub returns-then-is_shut-clause-shut : goal.returns-then-is_shut-clause-shut
returns-then-is_shut-clause-shut c =
    let places = c.args.places.now in
    let found = c.in_ok-place.ensures.lookup in
    record {
      number = c.args.i;
      there = slice_get-get_or places c.args.i c.in_ok-place.place.now found.3.0 ∙ ap Some (sym found.1);
      some = c.is_shut.ensures.some c.if-is_shut.true;
      shut = c.is_shut.ensures.shut c.if-is_shut.true;
    }

pub returns-then-is_shut-clause-own : goal.returns-then-is_shut-clause-own
returns-then-is_shut-clause-own c =
    let found = c.in_ok-place.ensures.lookup in
    slice_get-get_or c.args.places.now c.args.i c.in_ok-place.place.now found.3.0 ∙ ap Some (sym found.1)
