use Rattle.std.proofs.Common.{sym, ◌∙◌}
use Rattle.css_objects.proofs.Objects.{sheet_sound}
use Rattle.css_objects.proofs.TakenParts.{said_read, said_fits}
use Rattle.css_objects.proofs.scan.scan_sheet.Goals as goal

pub returns-in-Some-clause-read : goal.returns-in-Some-clause-read
returns-in-Some-clause-read c = said_read sheet_sound.lawful c.in_ok-said.ensures (sym c.sheet_in.ensures ∙ c.in-Some.is)

pub returns-in-Some-clause-fits : goal.returns-in-Some-clause-fits
returns-in-Some-clause-fits c = said_fits c.in_ok-said.said.now sheet_sound.lawful (sym c.sheet_in.ensures ∙ c.in-Some.is)
