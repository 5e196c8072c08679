use Rattle.std.proofs.Common.{sym, ◌∙◌}
use Rattle.css_objects.proofs.Objects.{origin_sound}
use Rattle.css_objects.proofs.TakenParts.{said_read, said_fits}
use Rattle.css_objects.proofs.scan.scan_origin.Goals as goal

pub returns-in-Some-clause-read : goal.returns-in-Some-clause-read
returns-in-Some-clause-read c = said_read origin_sound.lawful c.in_ok-said.ensures (sym c.origin_in.ensures ∙ c.in-Some.is)

pub returns-in-Some-clause-fits : goal.returns-in-Some-clause-fits
returns-in-Some-clause-fits c = said_fits c.in_ok-said.said.now origin_sound.lawful (sym c.origin_in.ensures ∙ c.in-Some.is)
