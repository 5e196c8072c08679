use Rattle.std.proofs.Common.{sym, ◌∙◌}
use Rattle.cdp_messages.proofs.RootScans.{root_told}
use Rattle.cdp_messages.proofs.root_scan.read_root.Goals as goal

pub returns-in-Ok-clause-told : goal.returns-in-Ok-clause-told
returns-in-Ok-clause-told c =
    root_told c.args.text.now c.in-Ok.found.0 c.in-Ok.found.1 c.utf8.text
    (sym c.new-reader.ensures ∙ c.in-Ok.ensures.read) c.in-Ok.ensures.counted c.in-Ok.ensures.fits
    c.in-Ok.ensures.shallow
