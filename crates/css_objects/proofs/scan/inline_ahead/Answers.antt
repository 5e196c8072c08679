use Rattle.std.proofs.Common.{rules, ◌≡◌, codes, refl}
use Rattle.css_objects.specs.Styles.{inline_kind}
use Rattle.css_objects.proofs.TakenParts.{there_read}
use Rattle.css_objects.proofs.scan.inline_ahead.Goals as goal

pub returns-in_ok-take_key-clause-read : goal.returns-in_ok-take_key-clause-read
returns-in_ok-take_key-clause-read c =
    let is : c.in_ok-name.name.now ≡ codes "inlineStyle" = search rules in
    there_read (inline_kind.spell c.in_ok-style.style) is refl c.in_ok-name.ensures c.in_ok-style.ensures.read c.in_ok-take_key.ensures
