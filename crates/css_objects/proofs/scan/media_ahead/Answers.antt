use Rattle.std.proofs.Common.{rules, ◌≡◌, codes, option_map, ap, ◌∙◌}
use Rattle.cdp_json.specs.Kinds.{list_of, holds_of_some}
use Rattle.cdp_json.proofs.Options.{both_parts}
use Rattle.css_objects.specs.Media.{media_kind, some_media_kind, has_media}
use Rattle.css_objects.proofs.TakenParts.{there_read, written_there}
use Rattle.css_objects.proofs.scan.media_ahead.Goals as goal

pub returns-in_ok-take_key-clause-read : goal.returns-in_ok-take_key-clause-read
returns-in_ok-take_key-clause-read c =
    let is : c.in_ok-name.name.now ≡ codes "media" = search rules in
    let there = (both_parts ((list_of media_kind).fits c.in_ok-media.media) (has_media c.in_ok-media.media) c.in_ok-media.ensures.fits).1 in
    there_read (some_media_kind.spell c.in_ok-media.media) is
    (ap (option_map some_media_kind.spell) (written_there c.in_ok-media.media there)) c.in_ok-name.ensures
    c.in_ok-media.ensures.read c.in_ok-take_key.ensures

pub returns-in_ok-take_key-clause-fits : goal.returns-in_ok-take_key-clause-fits
returns-in_ok-take_key-clause-fits c =
    let there = (both_parts ((list_of media_kind).fits c.in_ok-media.media) (has_media c.in_ok-media.media) c.in_ok-media.ensures.fits).1 in
    ap (holds_of_some some_media_kind.fits) (written_there c.in_ok-media.media there) ∙ c.in_ok-media.ensures.fits
