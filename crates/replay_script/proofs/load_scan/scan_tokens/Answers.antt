use Rattle.std.proofs.Common.{rules, ◌≡◌, [], ◌∷◌, codes}
use Rattle.json.specs.Token.{begin_object, end_object, key}
use Rattle.page_forms.specs.Pages.{loaded_page}
use Rattle.replay_script.proofs.LoadLemmas.{load_spelt}
use Rattle.replay_script.proofs.load_scan.scan_tokens.Goals as goal

pub returns-clause-spelt : goal.returns-clause-spelt
returns-clause-spelt c =
    let begun : c.args.reader.now ≡ begin_object ∷ (key (codes "load") ∷ c.opens_load.new.reader) = search rules in
    let ended : c.scan_page.new.reader ≡ end_object ∷ [] = search rules in
    load_spelt c.args.reader.now c.opens_load.new.reader c.scan_page.new.reader
    (loaded_page c.in_ok-page.page) begun c.in_ok-page.ensures.spelt ended
