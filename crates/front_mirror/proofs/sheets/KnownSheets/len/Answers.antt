use Rattle.std.proofs.Common.{length, List, ap, sym, ◌∙◌}
use Rattle.front_mirror.specs.declared.sheets.KnownSheet.{KnownSheet}
use Rattle.front_mirror.proofs.SheetLemmas.{sheets_len}
use Rattle.front_mirror.proofs.sheets.KnownSheets.len.Goals as goal

pub returns : goal.returns
returns c = c.len.ensures.len ∙ sym (sheets_len c.self.inside.sheets.entries) ∙ ap (λ (ss : List KnownSheet). length ss) c.self.view_is
