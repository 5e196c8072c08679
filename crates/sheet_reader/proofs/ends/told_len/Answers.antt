use Rattle.std.proofs.Common.{length, sym, ap, ◌∙◌, arith}
use Rattle.std.specs.Prelude.{slice_get}
use Rattle.sheet_reader.specs.declared.brackets.Stop.TheVariants.{BlockEnd}
use Rattle.sheet_reader.specs.Brackets.{until}
use Rattle.sheet_reader.proofs.EndForms.{told_within, told_fits, fits_found, fits_past, fits_open}
use Rattle.sheet_reader.proofs.ends.told_len.Goals as goal

pub place_in-all-requires : goal.place_in-all-requires
place_in-all-requires c = told_within c.args.table.now c.args.behind c.args.pieces.now c.requires

pub told_at-requires : goal.told_at-requires
told_at-requires c =
    let fits = told_within c.args.table.now c.args.behind c.args.pieces.now c.requires in
    let same = c.place_in-all.ensures in
    omega (arith, fits, same)

pub overflow_sub-result : goal.overflow_sub-result
overflow_sub-result c =
    let found = fits_found (length c.args.pieces.now) c.args.behind c.in-Some.left (until BlockEnd c.args.pieces.now)
    c.told_at.result.curly c.in-Some.is
    (omega (arith, c.if-left-behind.false))
    (told_fits c.args.table.now c.args.behind c.args.pieces.now c.told_at.result c.requires
    (ap (slice_get c.args.table.now) (sym c.place_in-all.ensures) ∙ c.told_at.ensures)) in
    omega (arith, found)

pub overflow_sub-result-else-left-behind : goal.overflow_sub-result-else-left-behind
overflow_sub-result-else-left-behind c =
    let found = fits_found (length c.args.pieces.now) c.args.behind c.in-Some.left (until BlockEnd c.args.pieces.now)
    c.told_at.result.curly c.in-Some.is
    (omega (arith, c.if-left-behind.false))
    (told_fits c.args.table.now c.args.behind c.args.pieces.now c.told_at.result c.requires
    (ap (slice_get c.args.table.now) (sym c.place_in-all.ensures) ∙ c.told_at.ensures)) in
    omega (arith, found)

pub returns-then-left-behind-clause-value : goal.returns-then-left-behind-clause-value
returns-then-left-behind-clause-value c =
    let past = fits_past (length c.args.pieces.now) c.args.behind c.in-Some.left (until BlockEnd c.args.pieces.now)
    c.told_at.result.curly c.in-Some.is
    (omega (arith, c.if-left-behind.true))
    (told_fits c.args.table.now c.args.behind c.args.pieces.now c.told_at.result c.requires
    (ap (slice_get c.args.table.now) (sym c.place_in-all.ensures) ∙ c.told_at.ensures)) in
    omega (arith, past)

pub returns-else-left-behind-clause-value : goal.returns-else-left-behind-clause-value
returns-else-left-behind-clause-value c =
    let found = fits_found (length c.args.pieces.now) c.args.behind c.in-Some.left (until BlockEnd c.args.pieces.now)
    c.told_at.result.curly c.in-Some.is
    (omega (arith, c.if-left-behind.false))
    (told_fits c.args.table.now c.args.behind c.args.pieces.now c.told_at.result c.requires
    (ap (slice_get c.args.table.now) (sym c.place_in-all.ensures) ∙ c.told_at.ensures)) in
    omega (arith, found)

pub returns-in-None-clause-value : goal.returns-in-None-clause-value
returns-in-None-clause-value c =
    let open_end = fits_open (length c.args.pieces.now) c.args.behind (until BlockEnd c.args.pieces.now) c.told_at.result.curly c.in-None.is
    (told_fits c.args.table.now c.args.behind c.args.pieces.now c.told_at.result c.requires
    (ap (slice_get c.args.table.now) (sym c.place_in-all.ensures) ∙ c.told_at.ensures)) in
    omega (arith, open_end)
