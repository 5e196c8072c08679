use Rattle.std.proofs.Common.{length, List, ap, sym, ◌∙◌, arith}
use Rattle.std.specs.Prelude.{slice_get}
use Rattle.front_mirror.specs.declared.sheets.KnownSheet.{KnownSheet}
use Rattle.front_mirror.proofs.SheetLemmas.{sheets_get, sheets_none}
use Rattle.front_mirror.proofs.sheets.KnownSheets.at.Goals as goal

pub unreachable-requires : goal.unreachable-requires
unreachable-requires c =
    let past = sheets_none c.self.inside.sheets.entries c.args.i (sym c.in-None.ensures.entry) in
    let len = ap (λ (ss : List KnownSheet). length ss) c.self.view_is in
    absurd (omega (arith, past, len, c.requires))

pub returns : goal.returns
returns c =
    ap (λ (ss : List KnownSheet). slice_get ss c.args.i) (sym c.self.view_is)
    ∙ sheets_get c.self.inside.sheets.entries c.args.i (c.in-Some._number.now, c.in-Some.sheet.now) (sym c.in-Some.ensures.entry)
