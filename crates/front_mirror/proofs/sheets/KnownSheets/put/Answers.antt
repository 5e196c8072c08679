use Rattle.std.proofs.Common.{List, ◌++◌, ◌∷◌, [], ap, sym, subst, ◌∙◌}
use Rattle.front_mirror.specs.declared.sheets.KnownSheet.{KnownSheet}
use Rattle.front_mirror.specs.Sheets.{has_sheet, sheets_in, AreNumbered}
use Rattle.front_mirror.proofs.SheetLemmas.{Entries, put_in, put_numbered}
use Rattle.front_mirror.proofs.sheets.KnownSheets.put.Goals as goal

pub invariant_of-self : goal.invariant_of-self
invariant_of-self c = subst AreNumbered (sym c.in-Ok.ensures.entries)
    (put_numbered c.args.sheet c.self.inside.sheets.entries c.self.invariant)

pub returns-in-Ok-clause-last : goal.returns-in-Ok-clause-last
returns-in-Ok-clause-last c =
    ap (λ (es : Entries). sheets_in es) c.in-Ok.ensures.entries
    ∙ put_in c.args.sheet c.self.inside.sheets.entries c.self.invariant (ap (has_sheet c.args.sheet.number) c.self.view_is ∙ c.requires.new)
    ∙ ap (λ (ss : List KnownSheet). ss ++ c.args.sheet ∷ []) c.self.view_is
