use Rattle.std.proofs.Common.{[], subst}
use Rattle.page_forms.specs.Pages.{loaded_page}
use Rattle.page_forms.specs.Spelt.{ReadsAs}
use Rattle.replay_script.specs.Loads.{load_line_form}
use Rattle.replay_script.proofs.LoadLemmas.{line_loads}
use Rattle.replay_script.proofs.load_scan.scan_whole.Goals as goal

pub returns : goal.returns
returns c =
    line_loads c.args.line.now c.in-Ok.text.now (loaded_page c.in_ok-page.page) c.in-Ok.ensures.cases.0 c.in-Ok.ensures.cases.1
    (subst (λ ts. ReadsAs load_line_form ts
    (loaded_page c.in_ok-page.page) []) c.in_ok-reader.ensures.ok c.in_ok-page.ensures.spelt) c.in_ok-page.ensures.sound
