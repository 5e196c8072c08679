use Rattle.std.proofs.Common.{rules, ◌≡◌, codes, refl}
use Rattle.cdp_json.specs.Kinds.{only_true}
use Rattle.css_objects.proofs.TakenParts.{there_read}
use Rattle.css_objects.proofs.scan.important_ahead.Goals as goal

pub returns-in_ok-take_key : goal.returns-in_ok-take_key
returns-in_ok-take_key c =
    let is : c.in_ok-name.name.now ≡ codes "important" = search rules in
    there_read (only_true.spell tt) is refl c.in_ok-name.ensures c.in_ok-take_true.ensures c.in_ok-take_key.ensures
