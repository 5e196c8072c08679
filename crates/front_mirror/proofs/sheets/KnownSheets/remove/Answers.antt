use Rattle.std.proofs.Common.{ap, sym, subst, ◌∙◌}
use Rattle.front_mirror.specs.Sheets.{sheets_in, without_sheet, AreNumbered}
use Rattle.front_mirror.proofs.SheetLemmas.{Entries, without_in, without_numbered}
use Rattle.front_mirror.proofs.sheets.KnownSheets.remove.Goals as goal

pub invariant_of-self : goal.invariant_of-self
invariant_of-self c = subst AreNumbered (sym c.take_out.ensures)
    (without_numbered c.args.number c.self.inside.sheets.entries c.self.invariant)

pub returns : goal.returns
returns c =
    ap (λ (es : Entries). sheets_in es) c.take_out.ensures
    ∙ without_in c.args.number c.self.inside.sheets.entries c.self.invariant
    ∙ ap (without_sheet c.args.number) c.self.view_is
