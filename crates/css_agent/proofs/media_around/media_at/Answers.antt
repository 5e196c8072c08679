use Rattle.css_agent.proofs.AroundLemmas.{media-usable}
use Rattle.css_agent.proofs.media_around.media_at.Goals as goal

pub returns-clause-usable : goal.returns-clause-usable
returns-clause-usable c = media-usable c.args.entry.now c.as_str-text.result.now c.as_slice.result.now c.args.place c.media_among.result
    c.as_str-text.ensures c.as_slice.ensures c.requires.read c.as_str-text.utf8 c.media_among.ensures
