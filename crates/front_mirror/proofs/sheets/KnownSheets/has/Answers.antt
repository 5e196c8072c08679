use Rattle.std.proofs.Common.{ap, ◌∙◌}
use Rattle.front_mirror.specs.Sheets.{has_sheet}
use Rattle.front_mirror.proofs.SheetLemmas.{has_in}
use Rattle.front_mirror.proofs.sheets.KnownSheets.has.Goals as goal

pub returns : goal.returns
returns c = c.contains_key.ensures ∙ has_in c.args.number c.self.inside.sheets.entries c.self.invariant ∙ ap
    (has_sheet c.args.number) c.self.view_is
