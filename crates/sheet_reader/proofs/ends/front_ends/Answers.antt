use Rattle.std.proofs.Common.{ℕ, length, take, ◌-◌, subst, arith}
use Rattle.sheet_reader.specs.declared.ends.Ends.{Ends}
use Rattle.sheet_reader.specs.Ends.{AreTold, AreEnds}
use Rattle.sheet_reader.proofs.EndForms.{told_within, told_front}
use Rattle.sheet_reader.proofs.ends.front_ends.Goals as goal

pub place_in-requires : goal.place_in-requires
place_in-requires c =
    let fits = told_within c.in-Told.table.now c.in-Told.behind c.args.pieces.now
    (subst (λ (e : Ends). AreEnds e c.args.pieces.now) c.in-Told.is c.requires.ends) in
    omega (arith, fits, c.requires.fits)

pub returns-in-Told : goal.returns-in-Told
returns-in-Told c =
    subst (λ (n : ℕ). AreTold c.in-Told.table.now n (take c.args.n c.args.pieces.now))
    (let same = c.place_in.ensures in omega (arith, same))
    (told_front c.in-Told.table.now c.in-Told.behind c.args.n (length c.args.pieces.now - c.args.n) c.args.pieces.now
    (omega (arith, c.requires.fits)) (subst (λ (e : Ends). AreEnds e c.args.pieces.now) c.in-Told.is c.requires.ends))
