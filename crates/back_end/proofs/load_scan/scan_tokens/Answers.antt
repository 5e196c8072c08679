use Rattle.std.proofs.Common.{rules, ◌≡◌, [], ◌∷◌}
use Rattle.json.specs.Token.{end_object}
use Rattle.page_forms.specs.Pages.{loaded_page}
use Rattle.back_end.proofs.LoadSpelt.{load_spelt}
use Rattle.back_end.proofs.load_scan.scan_tokens.Goals as goal

pub returns-clause-spelt : goal.returns-clause-spelt
returns-clause-spelt c =
    let ended : c.scan_page.new.reader ≡ end_object ∷ [] = search rules in
    load_spelt c.in_ok-id.id c.args.reader.now c.take_load.new.reader c.scan_page.new.reader (loaded_page c.in_ok-page.page)
    c.in_ok-id.ensures.counted c.in_ok-id.ensures.begun c.in_ok-page.ensures.spelt ended
