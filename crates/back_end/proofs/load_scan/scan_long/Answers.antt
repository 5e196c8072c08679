use Rattle.std.proofs.Common.{subst}
use Rattle.page_forms.specs.Pages.{loaded_page}
use Rattle.back_end.specs.LoadFrames.{SpellsLoad}
use Rattle.back_end.proofs.LoadSpelt.{frame_asks, frame_can}
use Rattle.back_end.proofs.load_scan.scan_long.Goals as goal

pub returns-clause-asks : goal.returns-clause-asks
returns-clause-asks c =
    frame_asks c.args.frame.now c.in-Ok.text.now c.in_ok-load.load.id (loaded_page c.in_ok-load.load.page) c.in-Ok.ensures.cases.0
    c.in-Ok.ensures.cases.1
    (subst (λ ts. SpellsLoad ts c.in_ok-load.load.id (loaded_page c.in_ok-load.load.page)) c.in_ok-reader.ensures.ok
    c.in_ok-load.ensures.spelt)
    c.in_ok-load.ensures.sound

pub returns-clause-can : goal.returns-clause-can
returns-clause-can c =
    frame_can c.args.frame.now c.in-Ok.text.now c.in_ok-load.load.id (loaded_page c.in_ok-load.load.page) c.in-Ok.ensures.cases.0
    c.in-Ok.ensures.cases.1
    (subst (λ ts. SpellsLoad ts c.in_ok-load.load.id (loaded_page c.in_ok-load.load.page)) c.in_ok-reader.ensures.ok
    c.in_ok-load.ensures.spelt)
    c.in_ok-load.ensures.sound
