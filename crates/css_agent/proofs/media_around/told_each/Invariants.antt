-- Those so far, of the same text.
use Rattle.std.proofs.Common.{◌≡◌, map, take}
use Rattle.css_agent.specs.MediaAround.{told_media}
use Rattle.css_agent.proofs.media_around.told_each.Given as goal

abbrev pub invariant-loop-rule : goal.invariant-loop-rule
invariant-loop-rule l = record {
  told : l.told.items ≡ map (told_media l.sheet l.fn.ruler) (take l.rule-index l.rules);
  same : l.ruler ≡ l.fn.ruler;
}
